use Rattle.std.proofs.Common.{◌≡◌, ◌+◌, ◌≤◌, [], ◌++◌, length, sym, ◌∙◌, ap, arith, length-append}
use Rattle.std.specs.Prelude.{unwrap_or}
use Rattle.std.proofs.lemmas.Result.{err_from_is_err_and}
use Rattle.flowfile_record.specs.declared.TheConstants.{CONTENT_MAX}
use Rattle.flowfile_record.specs.declared.limits.TheConstants.{WRITTEN_MAX}
use Rattle.process_session.specs.Bench.{Bench, bytes_in, bench_bytes}
use Rattle.process_session.specs.Inside.{bench_in}
use Rattle.process_session.specs.Reasons.{content_too_large}
use Rattle.process_session.proofs.Refusing.{pass, stop, no_refusal, cause, free, memory}
use Rattle.process_session.proofs.Sound.{full-content, sound-content}
use Rattle.process_session.proofs.session.Session.append.Goals as goal

pub invariant_of-self-2 : goal.invariant_of-self-2
invariant_of-self-2 c =
    let same : c.self.inside.handed ≡ c.args.self.now.handed = ap (λ (b : Bench). b.handed) c.self.view_is in
    let room : c.self.inside.handed + length c.args.bytes.now ≤ WRITTEN_MAX = omega (arith, c.in_ok-check_written.ensures.handed) in
    let all = unwrap_or (bytes_in c.self.inside.sources.items c.self.inside.files.items c.args.place) [] ++ c.args.bytes.now in
    let old : length (unwrap_or (bytes_in c.self.inside.sources.items c.self.inside.files.items c.args.place) []) ≡ length (unwrap_or (bench_bytes c.args.self.now c.args.place) []) = ap (λ (b : Bench). length (unwrap_or (bench_bytes b c.args.place) [])) c.self.view_is in
    let sum : length all ≡ length (unwrap_or (bytes_in c.self.inside.sources.items c.self.inside.files.items c.args.place) []) + length c.args.bytes.now = length-append (unwrap_or (bytes_in c.self.inside.sources.items c.self.inside.files.items c.args.place) []) c.args.bytes.now in
    let fits : length all ≤ CONTENT_MAX = omega (arith, c.in_ok-size.ensures.length, c.in_ok-check_content.ensures.fits) in
    rw (c.in_ok-append_file.ensures.ok, c.as_slice-sources.ensures.value) (sound-content (bench_in c.self.inside) c.self.inside.counted c.args.place all (length c.args.bytes.now) fits room c.self.invariant)

pub returns-in_err-check_known-clause-refusal : goal.returns-in_err-check_known-clause-refusal
returns-in_err-check_known-clause-refusal c =
    let p = err_from_is_err_and c.from_residual.result c.from_residual.ensures.1 in
    rw (p.1, p.2) (cause _ _ (stop _ _ _ c.in_err-check_known.ensures.refusal))

pub returns-in_err-check_open-clause-refusal : goal.returns-in_err-check_open-clause-refusal
returns-in_err-check_open-clause-refusal c =
    let p = err_from_is_err_and c.from_residual-in_err-check_open.result c.from_residual-in_err-check_open.ensures.1 in
    rw (p.1, p.2) (cause _ _ (pass _ _ c.in_ok-check_known.ensures.refusal ∙ stop _ _ _ c.in_err-check_open.ensures.refusal))

pub returns-in_err-size-clause-refusal : goal.returns-in_err-size-clause-refusal
returns-in_err-size-clause-refusal c =
    let p = err_from_is_err_and c.from_residual-in_err-size.result c.from_residual-in_err-size.ensures.1 in
    rw (p.1, p.2) (cause _ _ (pass _ _ c.in_ok-check_known.ensures.refusal ∙ pass _ _ c.in_ok-check_open.ensures.refusal ∙ stop _ _ _ c.in_err-size.ensures.refusal))

pub returns-in_err-check_content-clause-refusal : goal.returns-in_err-check_content-clause-refusal
returns-in_err-check_content-clause-refusal c =
    let p = err_from_is_err_and c.from_residual-in_err-check_content.result c.from_residual-in_err-check_content.ensures.1 in
    rw (p.1, p.2) (cause _ _ (pass _ _ c.in_ok-check_known.ensures.refusal ∙ pass _ _ c.in_ok-check_open.ensures.refusal ∙ pass _ _ c.in_ok-size.ensures.refusal ∙ stop _ _ _ (c.in_err-check_content.ensures.refusal ∙ ap (λ n. content_too_large (n + length c.args.bytes.now)) c.in_ok-size.ensures.size)))

pub returns-in_err-check_written-clause-refusal : goal.returns-in_err-check_written-clause-refusal
returns-in_err-check_written-clause-refusal c =
    let p = err_from_is_err_and c.from_residual-in_err-check_written.result c.from_residual-in_err-check_written.ensures.1 in
    rw (p.1, p.2) (cause _ _ (pass _ _ c.in_ok-check_known.ensures.refusal ∙ pass _ _ c.in_ok-check_open.ensures.refusal ∙ pass _ _ c.in_ok-size.ensures.refusal ∙ pass _ _ (c.in_ok-check_content.ensures.refusal ∙ ap (λ n. content_too_large (n + length c.args.bytes.now)) c.in_ok-size.ensures.size) ∙ stop _ _ _ (c.in_err-check_written.ensures.refusal ∙ sym (full-content c.args.self.now c.args.place (unwrap_or (bench_bytes c.args.self.now c.args.place) [] ++ c.args.bytes.now) (length c.args.bytes.now)))))

pub returns-in_err-append_file-clause-refusal : goal.returns-in_err-append_file-clause-refusal
returns-in_err-append_file-clause-refusal c =
    let p = err_from_is_err_and c.from_residual-in_err-append_file.result c.from_residual-in_err-append_file.ensures.1 in
    rw (p.1, p.2) (memory _ (pass _ _ c.in_ok-check_known.ensures.refusal ∙ pass _ _ c.in_ok-check_open.ensures.refusal ∙ pass _ _ c.in_ok-size.ensures.refusal ∙ pass _ _ (c.in_ok-check_content.ensures.refusal ∙ ap (λ n. content_too_large (n + length c.args.bytes.now)) c.in_ok-size.ensures.size) ∙ pass _ _ (c.in_ok-check_written.ensures.refusal ∙ sym (full-content c.args.self.now c.args.place (unwrap_or (bench_bytes c.args.self.now c.args.place) [] ++ c.args.bytes.now) (length c.args.bytes.now))) ∙ no_refusal))

pub returns-clause-refusal : goal.returns-clause-refusal
returns-clause-refusal c = free _ (pass _ _ c.in_ok-check_known.ensures.refusal ∙ pass _ _ c.in_ok-check_open.ensures.refusal ∙ pass _ _ c.in_ok-size.ensures.refusal ∙ pass _ _ (c.in_ok-check_content.ensures.refusal ∙ ap (λ n. content_too_large (n + length c.args.bytes.now)) c.in_ok-size.ensures.size) ∙ pass _ _ (c.in_ok-check_written.ensures.refusal ∙ sym (full-content c.args.self.now c.args.place (unwrap_or (bench_bytes c.args.self.now c.args.place) [] ++ c.args.bytes.now) (length c.args.bytes.now))) ∙ no_refusal)
