use Rattle.std.proofs.Common.{◌==◌, ◌||◌, sym, ap, ◌∙◌}
use Rattle.std.specs.List.{list_any}
use Rattle.std.specs.Ordering.{nat_cmp}
use Rattle.std.specs.BTreeSet.{contains}
use Rattle.kept_state.proofs.Sets.{fresh_none}
use Rattle.kept_state.proofs.arrivals.set_of.Goals as goal

pub returns-then-not-branch : goal.returns-then-not-branch
returns-then-not-branch c =
    sym (fresh_none (contains nat_cmp c.empty_set-set.result) c.empty_set-set.ensures.none c.args.numbers.now) ∙ sym c.in_ok-add_all.ensures.fresh ∙ c.if-not-branch.true

pub returns : goal.returns
returns c =
    let none = c.empty_set-set.ensures.none in (
      sym (fresh_none (contains nat_cmp c.empty_set-set.result) none c.args.numbers.now) ∙ sym c.in_ok-add_all.ensures.fresh ∙ c.if-not-branch.false,
      record {
        ordered = c.in_ok-add_all.ensures.ordered;
        members = λ n. c.in_ok-add_all.ensures.added c.if-not-branch.false n ∙ ap (λ b. b || list_any (λ m. m == n) c.args.numbers.now) (none n);
      },
    )
