use Rattle.std.proofs.Common.{arith, ◌≡◌, ◌<◌, [], ◌∷◌, ◌++◌, List, ℕ, length, refl, sym, ◌∙◌, ap, subst}
use Rattle.std.specs.Prelude.{filter, IsSome}
use Rattle.std.specs.List.{AllByRecursion}
use Rattle.std.specs.Vec.Iter.{into_iter_items}
use Rattle.flowfile_record.specs.NamedFile.{bytes_of}
use Rattle.flowfile_record.specs.declared.TheConstants.{CONTENT_MAX}
use Rattle.world_io.specs.Inbox.{IsAscending}
use Rattle.engine_steps.specs.Opening.{fits_in}
use Rattle.engine_steps.proofs.Fitting.{all_found, ascends_but, fits_next, is_larger, passed_over}
use Rattle.engine_steps.proofs.engine.names_that_fit.Goals as goal

pub loop-name-init : goal.loop-name-init
loop-name-init g c =
    let none : c.new-coming.result.items ≡ [] = c.new-coming.ensures.items in
    let items : List (List ℕ) = into_iter_items c.into_iter-name-iterator.result in
    let gives : items ≡ c.args.names.items = c.into_iter-name-iterator.ensures.into_iter_gives.0 in
    let left = g.I.Inbox.left c.args.inbox.now in
    record {
      fit = λ told. ap (λ (l : List (List ℕ)). l ++ filter (fits_in left) items) none ∙ ap (filter (fits_in left)) gives;
      ascending = subst (λ (l : List (List ℕ)). IsAscending (l ++ items)) (sym none) (subst IsAscending (sym gives) c.requires.ascending);
      there = λ told. subst (λ (l : List (List ℕ)). AllByRecursion (λ (n : List ℕ). IsSome (bytes_of left n)) l) (sym (gives ∙ c.requires.listed told)) (all_found left);
      few = omega (arith, ap length none, ap length gives);
      left = refl;
      faults = omega arith;
    }

pub loop-name-preserved : goal.loop-name-preserved
loop-name-preserved g c =
    let left = g.I.Inbox.left c.args.inbox.now in
    let items : List (List ℕ) = into_iter_items c.loop-name.name-iterator in
    let rest : List (List ℕ) = into_iter_items c.next.new.self in
    let next : items ≡ c.in-Some.name ∷ rest = c.in-Some.ensures.steps.0 in
    let larger : CONTENT_MAX < c.in-Ok.size = c.if-size-le-CONTENT_MAX.false in
    record {
      fit = λ told.
          passed_over (fits_in left) c.loop-name.coming.items items rest _ c.in-Some.name next (c.loop-name.invariant.fit told)
          (fits_next left (g.I.Inbox.left c.loop-name.inbox) items rest c.in-Some.name c.in-Ok.size c.loop-name.invariant.left next (c.loop-name.invariant.there told) (c.in-Ok.ensures.size told)
          ∙ is_larger c.in-Ok.size CONTENT_MAX larger);
      ascending = ascends_but c.loop-name.coming.items c.in-Some.name rest (subst (λ (l : List (List ℕ)). IsAscending (c.loop-name.coming.items ++ l)) next c.loop-name.invariant.ascending);
      there = λ told. (subst (λ (l : List (List ℕ)). AllByRecursion (λ (n : List ℕ). IsSome (bytes_of left n)) l) next (c.loop-name.invariant.there told)).1;
      few = omega (arith, c.loop-name.invariant.few, ap length next);
      left = c.size.ensures.left ∙ c.loop-name.invariant.left;
      faults = omega (arith, c.loop-name.invariant.faults, c.size.ensures.cause.never_falls);
    }
