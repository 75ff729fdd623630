use Rattle.std.proofs.Common.{◌≡◌, ◌<◌, ap, sym, ◌∙◌, subst}
use Rattle.std.specs.Prelude.{Option, None, Some}
use Rattle.std.specs.Option.{option_copied}
use Rattle.std.proofs.lemmas.Result.{err_from_is_err_and}
use Rattle.flowfile_record.specs.declared.stored.ActiveFile.{ActiveFile}
use Rattle.content_repo.specs.Claims.{ContentIsWhole}
use Rattle.store_core.specs.Errors.{of_content}
use Rattle.store_core.specs.Seen.{live_file, IsContentRead}
use Rattle.store_core.specs.declared.error.StoreError.TheVariants.{Damaged, Memory}
use Rattle.store_core.proofs.Refusals.{content_damaged, content_memory}
use Rattle.store_core.proofs.Seeing.{none_queued, content_queued, live_named, live_sound}
use Rattle.store_core.proofs.seen.Seen.content.Goals as goal

pub returns-in-None-clause-content : goal.returns-in-None-clause-content
returns-in-None-clause-content g c told seen state stands =
    none_queued (g.D.Disk.held c.args.disk.now) c.args.self.now state c.args.number seen stands (sym c.live.ensures.live ∙ ap option_copied c.in-None.is)

pub returns-in-None-clause-read : goal.returns-in-None-clause-read
returns-in-None-clause-read g c =
    subst (λ (live : Option ActiveFile). IsContentRead g.D.Disk.tells (g.D.Disk.held c.args.disk.now) live None) (c.live.ensures.live) (subst (λ live. IsContentRead g.D.Disk.tells (g.D.Disk.held c.args.disk.now) (option_copied live) None) (sym c.in-None.is) tt)

pub read_content-requires-after_bounds : goal.read_content-requires-after_bounds
read_content-requires-after_bounds g c κs within =
    let live : live_file c.args.number c.args.self.now ≡ Some c.in-Some.active.now = sym c.live.ensures.live ∙ ap option_copied c.in-Some.is in
    (live_named c.args.number c.args.self.now c.in-Some.active.now (c.live.ensures.consistent c.in-Some.active.now live) live).1

pub returns-in_ok-bytes-in-Some-clause-content : goal.returns-in_ok-bytes-in-Some-clause-content
returns-in_ok-bytes-in-Some-clause-content g c told seen state stands =
    let live : live_file c.args.number c.args.self.now ≡ Some c.in-Some.active.now = sym c.live.ensures.live ∙ ap option_copied c.in-Some.is in
    content_queued (g.D.Disk.held c.args.disk.now) c.args.self.now state c.args.number c.in-Some.active.now c.in_ok-bytes-in-Some.bytes.items seen stands
    (c.live.ensures.consistent c.in-Some.active.now live) live (c.in_ok-bytes-in-Some.ensures.read.content told)

pub returns-in_err-bytes-in-Some-clause-undamaged : goal.returns-in_err-bytes-in-Some-clause-undamaged
returns-in_err-bytes-in-Some-clause-undamaged g c damage is told seen =
    let live : live_file c.args.number c.args.self.now ≡ Some c.in-Some.active.now = sym c.live.ensures.live ∙ ap option_copied c.in-Some.is in
    let p = err_from_is_err_and c.from_residual.result c.from_residual.ensures.1 in
    let same : of_content c.in_err-bytes-in-Some.field-0.0 ≡ Damaged damage = cc (p.1, p.2, is) in
    live_sound (g.D.Disk.held c.args.disk.now) c.args.self.now c.args.number c.in-Some.active.now damage seen live
    (c.in_err-bytes-in-Some.ensures.refusal.damaged damage (content_damaged c.in_err-bytes-in-Some.field-0.0 damage same) told)

pub returns-in_err-bytes-in-Some-clause-memory : goal.returns-in_err-bytes-in-Some-clause-memory
returns-in_err-bytes-in-Some-clause-memory g c active there is =
    let live : live_file c.args.number c.args.self.now ≡ Some c.in-Some.active.now = sym c.live.ensures.live ∙ ap option_copied c.in-Some.is in
    let both : Some c.in-Some.active.now ≡ Some active = sym live ∙ there in
    let file : c.in-Some.active.now ≡ active = cc in
    let p = err_from_is_err_and c.from_residual.result c.from_residual.ensures.1 in
    let same : of_content c.in_err-bytes-in-Some.field-0.0 ≡ Memory = cc (p.1, p.2, is) in
    subst (λ (a : ActiveFile). 0 < a.file.content.size) file (c.in_err-bytes-in-Some.ensures.refusal.some (content_memory c.in_err-bytes-in-Some.field-0.0 same))

pub returns-in_err-bytes-in-Some-clause-whole : goal.returns-in_err-bytes-in-Some-clause-whole
returns-in_err-bytes-in-Some-clause-whole g c active there is told =
    let live : live_file c.args.number c.args.self.now ≡ Some c.in-Some.active.now = sym c.live.ensures.live ∙ ap option_copied c.in-Some.is in
    let both : Some c.in-Some.active.now ≡ Some active = sym live ∙ there in
    let file : c.in-Some.active.now ≡ active = cc in
    let p = err_from_is_err_and c.from_residual.result c.from_residual.ensures.1 in
    let same : of_content c.in_err-bytes-in-Some.field-0.0 ≡ Memory = cc (p.1, p.2, is) in
    subst (λ (a : ActiveFile). ContentIsWhole (g.D.Disk.held c.args.disk.now) a.file.content) file
    (c.in_err-bytes-in-Some.ensures.refusal.memory (content_memory c.in_err-bytes-in-Some.field-0.0 same) told)

pub returns-in_err-bytes-in-Some-clause-refused : goal.returns-in_err-bytes-in-Some-clause-refused
returns-in_err-bytes-in-Some-clause-refused g c is none =
    let both : Some c.in-Some.active.now ≡ None = sym (sym c.live.ensures.live ∙ ap option_copied c.in-Some.is) ∙ none in absurd cc

pub returns-in_err-bytes-in-Some-clause-none : goal.returns-in_err-bytes-in-Some-clause-none
returns-in_err-bytes-in-Some-clause-none g c none =
    let both : Some c.in-Some.active.now ≡ None = sym (sym c.live.ensures.live ∙ ap option_copied c.in-Some.is) ∙ none in absurd cc

pub returns-in_ok-bytes-in-Some-clause-none : goal.returns-in_ok-bytes-in-Some-clause-none
returns-in_ok-bytes-in-Some-clause-none g c none =
    let both : Some c.in-Some.active.now ≡ None = sym (sym c.live.ensures.live ∙ ap option_copied c.in-Some.is) ∙ none in absurd cc
