use Rattle.std.proofs.Common.{◌≡◌, ℕ, ◌+◌, ◌==◌, ◌||◌, ◌&&◌, not, Bool, List, ◌∷◌, get_or, drop, take, sym, ap, ◌∙◌}
use Rattle.std.specs.List.{list_any}
use Rattle.std.specs.Ordering.{nat_cmp}
use Rattle.std.specs.BTreeSet.{contains}
use Rattle.std.proofs.lemmas.List.{drop_more}
use Rattle.kept_state.specs.Arrivals.{are_fresh}
use Rattle.kept_state.proofs.Sets.{fresh_same, any_take, or_assoc}
use Rattle.kept_state.proofs.arrivals.add_all.Goals as goal

-- a number that was seen makes the rest not fresh, and one that wasn't goes on
seen_here : (seen : ℕ → Bool) (n : ℕ) (ns : List ℕ) (new : Bool) → new ≡ not (seen n) → are_fresh seen (n ∷ ns) ≡ (new && are_fresh (λ m. seen m || (n == m)) ns)
seen_here seen n ns new is = ap (λ b. b && are_fresh (λ m. seen m || (n == m)) ns) (sym is)

pub returns-then-not-branch-clause-fresh : goal.returns-then-not-branch-clause-fresh
returns-then-not-branch-clause-fresh c =
    let ns = c.args.numbers.now in
    let i = c.loop-number.number-index in
    let seen : ℕ → Bool = contains nat_cmp c.loop-number.set in
    let here = seen_here seen (get_or ns i 0) (drop (i + 1) ns) c.in_ok-add_one.field-0 c.in_ok-add_one.ensures.new in
    let none = ap (λ b. b && are_fresh (λ m. seen m || (get_or ns i 0 == m)) (drop (i + 1) ns)) c.if-not-branch.true in
    sym (sym c.loop-number.invariant.fresh ∙ ap (are_fresh seen) (drop_more ns i 0 c.loop-number-test.true) ∙ here ∙ none)

pub loop-number-preserved : goal.loop-number-preserved
loop-number-preserved c =
    let ns = c.args.numbers.now in
    let i = c.loop-number.number-index in
    let n = get_or ns i 0 in
    let seen : ℕ → Bool = contains nat_cmp c.loop-number.set in
    let here = seen_here seen n (drop (i + 1) ns) c.in_ok-add_one.field-0 c.in_ok-add_one.ensures.new in
    let new = ap (λ b. b && are_fresh (λ m. seen m || (n == m)) (drop (i + 1) ns)) c.if-not-branch.false in
    record {
      ordered = c.in_ok-add_one.ensures.ordered;
      fresh = fresh_same _ _ c.in_ok-add_one.ensures.added (drop (i + 1) ns) ∙ sym new ∙ sym here ∙ sym (ap (are_fresh seen) (drop_more ns i 0 c.loop-number-test.true)) ∙ c.loop-number.invariant.fresh;
      members = λ m.
          c.in_ok-add_one.ensures.added m ∙ ap (λ b. b || (n == m)) (c.loop-number.invariant.members m) ∙ or_assoc (contains nat_cmp c.args.set.now m) (list_any (λ k. k == m) (take i ns)) (n == m)
          ∙ ap (λ b. contains nat_cmp c.args.set.now m || b) (sym (any_take (λ k. k == m) ns i 0 c.loop-number-test.true));
    }
