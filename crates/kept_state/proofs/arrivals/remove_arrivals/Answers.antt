use Rattle.std.proofs.Common.{ℕ, ◌&&◌, not, List, sym, ap, ◌∙◌}
use Rattle.std.specs.List.{list_any}
use Rattle.std.specs.Ordering.{nat_cmp}
use Rattle.std.specs.BTreeSet.{contains}
use Rattle.std.proofs.lemmas.List.{take_all}
use Rattle.kept_state.specs.Arrivals.{has_arrival}
use Rattle.kept_state.specs.Fits.{active_of}
use Rattle.kept_state.proofs.Sets.{arrivals_left}
use Rattle.kept_state.proofs.arrivals.remove_arrivals.Goals as goal

pub returns : goal.returns
returns c =
    let files = c.args.files.now.items in
    let gone = c.args.gone.now in
    record {
      ordered = c.loop-number.invariant.ordered;
      members = λ m.
          c.loop-number.invariant.members m
          ∙ ap (λ (ns : List ℕ). contains nat_cmp c.args.arrivals.now m && not (list_any (λ n. has_arrival m (active_of n files)) ns)) (take_all c.loop-number.number-index gone c.loop-number-test.false)
          ∙ ap (λ b. b && not (list_any (λ n. has_arrival m (active_of n files)) gone)) (c.requires.arrivals.members m)
          ∙ sym (arrivals_left m gone files c.requires.numbers c.requires.distinct);
    }
