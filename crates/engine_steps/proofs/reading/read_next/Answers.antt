use Rattle.std.proofs.Common.{ap, refl, rules, ◌∙◌, ◌≡◌, ◌∷◌, ◌++◌, [], subst, sym, List, ℕ}
use Rattle.std.specs.Prelude.{Err, Option}
use Rattle.std.proofs.lemmas.Result.{err_from_is_err_and}
use Rattle.content_repo.specs.Claims.{content_in}
use Rattle.engine_session.specs.Handing.{AreReadOf, HaveRead}
use Rattle.engine_steps.specs.declared.error.EngineError.{EngineError}
use Rattle.engine_steps.proofs.ContentsRead.{read_anew, read_held, shared_read}
use Rattle.engine_steps.proofs.reading.read_next.Goals as goal

pub returns-in_ok-copy_of-in-Some-clause-read : goal.returns-in_ok-copy_of-in-Some-clause-read
returns-in_ok-copy_of-in-Some-clause-read g c have = (
  have.0,
  shared_read have.0 c.args.fits c.args.files.now c.args.contents.now c.args.file.now c.in-Some.place c.in_ok-copy_of-in-Some.field-0 c.index-contents-place.result c.in-Some.ensures.found.0 c.in-Some.ensures.found.1
      (c.in_ok-copy_of-in-Some.ensures ∙ c.index-contents-place.is) have.1,
)

pub returns-in_ok-copy_of-in-Some-clause-told : goal.returns-in_ok-copy_of-in-Some-clause-told
returns-in_ok-copy_of-in-Some-clause-told g c telling are =
    shared_read (content_in (g.D.Disk.held c.args.disk.now)) c.args.fits c.args.files.now c.args.contents.now c.args.file.now c.in-Some.place c.in_ok-copy_of-in-Some.field-0 c.index-contents-place.result c.in-Some.ensures.found.0
    c.in-Some.ensures.found.1 (c.in_ok-copy_of-in-Some.ensures ∙ c.index-contents-place.is) are

pub returns-in_ok-bytes-in-None-clause-read : goal.returns-in_ok-bytes-in-None-clause-read
returns-in_ok-bytes-in-None-clause-read g c have =
    let is = c.in_ok-bytes-in-None.ensures.read in
    subst (λ (read : Option (List ℕ)). HaveRead c.args.fits (c.args.files.now ++ c.args.file.now ∷ []) (c.args.contents.now ++ read ∷ [])) (sym c.handed.ensures)
    (read_anew c.args.fits c.args.files.now c.args.contents.now c.args.file.now c.in_ok-bytes-in-None.bytes.items (c.in-None.ensures.none refl) is.size is.digest have)

pub returns-in_ok-bytes-in-None-clause-told : goal.returns-in_ok-bytes-in-None-clause-told
returns-in_ok-bytes-in-None-clause-told g c telling are =
    let held = g.D.Disk.held c.args.disk.now in
    subst (λ (read : Option (List ℕ)). AreReadOf (content_in held) c.args.fits (c.args.files.now ++ c.args.file.now ∷ []) (c.args.contents.now ++ read ∷ [])) (sym c.handed.ensures)
    (read_held g.D.Disk.tells held c.args.fits c.args.files.now c.args.contents.now c.args.file.now c.in_ok-bytes-in-None.bytes.items c.in_ok-bytes-in-None.ensures.read telling are)

pub returns-in_err-bytes-in-None-clause-contents : goal.returns-in_err-bytes-in-None-clause-contents
returns-in_err-bytes-in-None-clause-contents g c = record {
  store = search rules;
  stays = search rules;
  damaged = λ damage is.
      let p = err_from_is_err_and c.from_residual-in_err-bytes-in-None.result c.from_residual-in_err-bytes-in-None.ensures.1 in
      let was : c.in_err-bytes-in-None.field-0.0 ≡ EngineError.Damaged damage = cc (p.1, p.2, is) in
      c.read_content.ensures.undamaged damage (c.in_err-bytes-in-None.was ∙ ap Err was);
  cause = search rules;
}
