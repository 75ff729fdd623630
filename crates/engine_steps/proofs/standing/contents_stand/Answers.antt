use Rattle.std.proofs.Common.{sym, subst, arith, get_or}
use Rattle.std.specs.Prelude.{Contains}
use Rattle.store_core.specs.Store.{StoreState, live_in}
use Rattle.engine_steps.proofs.standing.contents_stand.Goals as goal

pub content_stands-requires-clause-live : goal.content_stands-requires-clause-live
content_stands-requires-clause-live g c κs within =
    subst (λ (s : StoreState). Contains (live_in s) (get_or c.args.files.now c.loop-place.place c.index-files-place.result).content) (sym c.loop-place.invariant.same)
    (c.requires.live c.loop-place.place c.index-files-place.result (omega (arith, c.loop-place-test.true)))
