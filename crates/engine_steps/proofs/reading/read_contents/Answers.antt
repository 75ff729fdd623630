use Rattle.std.proofs.Common.{◌≡◌, length, [], List, ℕ, ap, refl, rules, subst, sym, arith}
use Rattle.std.specs.Prelude.{Contains, Err, Option}
use Rattle.std.proofs.lemmas.Result.{err_from_is_err_and}
use Rattle.flowfile_record.specs.declared.flow_file.FlowFile.{FlowFile}
use Rattle.content_repo.specs.Claims.{content_in}
use Rattle.store_core.specs.Store.{StoreState, live_in}
use Rattle.engine_session.specs.Handing.{AreReadOf}
use Rattle.engine_steps.specs.declared.error.EngineError.{EngineError}
use Rattle.engine_steps.proofs.reading.read_contents.Goals as goal

pub loop-place-init : goal.loop-place-init
loop-place-init g c =
    let fits = c.fit_a_content-fits.result in
    let none : c.new-contents.result ≡ [] = c.new-contents.ensures in
    record {
      count = ap length none;
      read = (λ at. [], subst (λ (contents : List (Option (List ℕ))). AreReadOf (λ at. []) fits [] contents) (sym none) tt);
      told = λ telling. subst (λ (contents : List (Option (List ℕ))). AreReadOf (content_in (g.D.Disk.held c.args.disk.now)) fits [] contents) (sym none) tt;
      same = refl;
      stays = search rules;
      faults = omega arith;
    }

pub read_next-requires-clause-live : goal.read_next-requires-clause-live
read_next-requires-clause-live g c κs within =
    let here : Contains (live_in c.args.store.now) c.index-files-place.result.content =
    subst (λ (file : FlowFile). Contains (live_in c.args.store.now) file.content) (sym c.index-files-place.is)
    (c.requires.live c.loop-place.place c.index-files-place.result (omega (arith, c.loop-place-test.true))) in
    subst (λ (s : StoreState). Contains (live_in s) c.index-files-place.result.content) (sym c.loop-place.invariant.same) here

pub returns-in_err-read-clause-contents : goal.returns-in_err-read-clause-contents
returns-in_err-read-clause-contents g c = record {
  store = search rules;
  stays = search rules;
  damaged = λ damage is.
      let p = err_from_is_err_and c.from_residual.result c.from_residual.ensures.1 in
      let was : c.in_err-read.field-0.0 ≡ EngineError.Damaged damage = cc (p.1, p.2, is) in
      c.in_err-read.ensures.contents.damaged damage (ap Err was);
  cause = search rules;
}
