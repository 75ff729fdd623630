use Rattle.std.proofs.Common.{◌≡◌, [], Some, None, ℕ, List, sym, ap, subst, ◌∙◌}
use lib.Dec.{eqb}
use Rattle.std.specs.List.{IsDistinct, slice_get}
use Rattle.std.specs.List.Sorted.{IsPermutation}
use Rattle.lineage_query.specs.Walk.{kin_in, with_all}
use Rattle.lineage_query.proofs.Walking.{IsWalk, begins, goes-on, smaller, sorted-lists, steps-end, steps-first, steps-more, steps-stopped}
use Rattle.lineage_query.proofs.walk.walk.Goals as goal

pub loop-next-init : goal.loop-next-init
loop-next-init g c =
    let events = c.args.index.now in
    let file = c.args.file in
    let way = c.args.way in
    let is = c.in_ok-look.ensures.found ∙ ap (λ (l : List ℕ). with_all l (kin_in way events file)) c.new-found.ensures in
    record {
      walk = subst (IsWalk way events file 0) (sym is) (begins way events file);
      steps = steps-first way events file c.args.steps.now c.look.new.steps [] c.look.ensures.steps;
    }

pub loop-next-preserved : goal.loop-next-preserved
loop-next-preserved g c =
    let events = c.args.index.now in
    let file = c.args.file in
    let way = c.args.way in
    let place = c.loop-next.place in
    let found = c.loop-next.found in
    let next = c.in-Some.next in
    let at : slice_get found place ≡ Some next = sym c.get.ensures.file ∙ c.in-Some.is in
    record {
      walk = subst (IsWalk way events file _) (sym c.in_ok-look-2.ensures.found) (goes-on way events file place next found c.loop-next.invariant.walk at);
      steps = steps-more way events file c.args.steps.now c.loop-next.steps c.look-in-Some.new.steps place next found c.look-in-Some.new.found at c.in_ok-look-2.ensures.found c.loop-next.invariant.steps c.look-in-Some.ensures.steps;
    }

pub loop-next-smaller : goal.loop-next-smaller
loop-next-smaller g c =
    let place = c.loop-next.place in
    let found = c.loop-next.found in
    let at : slice_get found place ≡ Some c.in-Some.next = sym c.get.ensures.file ∙ c.in-Some.is in
    smaller c.args.way c.args.index.now c.args.file place c.in-Some.next found c.loop-next.invariant.walk c.get.ensures.distinct at

pub returns-clause-files : goal.returns-clause-files
returns-clause-files g c =
    let place = c.loop-next.place in
    let found = c.loop-next.found in
    let sorted = c.sort_unstable.new.self.items in
    let none : slice_get found place ≡ None = sym c.get.ensures.file ∙ c.in_default.is in
    let moved : IsPermutation found sorted = subst (λ (l : List ℕ). IsPermutation l sorted) c.into_vec-files.ensures.files c.sort_unstable.ensures.permutation in
    sorted-lists c.args.way c.args.index.now c.args.file place found sorted c.loop-next.invariant.walk none c.get.ensures.distinct moved c.sort_unstable.ensures.sorted

pub returns-clause-steps : goal.returns-clause-steps
returns-clause-steps g c = λ list is.
    steps-end c.args.way c.args.index.now c.args.file c.args.steps.now c.loop-next.steps c.loop-next.place c.loop-next.found list c.loop-next.invariant.walk c.get.ensures.distinct c.loop-next.invariant.steps is

pub returns-in_err-look-clause-steps : goal.returns-in_err-look-clause-steps
returns-in_err-look-clause-steps g c = λ list is. steps-first c.args.way c.args.index.now c.args.file c.args.steps.now c.look.new.steps list c.look.ensures.steps

pub returns-in_err-look-2-clause-steps : goal.returns-in_err-look-2-clause-steps
returns-in_err-look-2-clause-steps g c = λ list is.
    let at : slice_get c.loop-next.found c.loop-next.place ≡ Some c.in-Some.next = sym c.get.ensures.file ∙ c.in-Some.is in
    steps-stopped c.args.way c.args.index.now c.args.file c.args.steps.now c.loop-next.steps c.look-in-Some.new.steps c.loop-next.place c.in-Some.next c.loop-next.found list
    c.loop-next.invariant.walk c.get.ensures.distinct at c.loop-next.invariant.steps c.look-in-Some.ensures.steps is
