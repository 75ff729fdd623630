use Rattle.std.proofs.Common.{◌≡◌, ◌+◌, ◌≤◌, length, sym, ◌∙◌, ap, arith}
use Rattle.std.proofs.lemmas.Result.{err_from_is_err_and}
use Rattle.flowfile_record.specs.declared.TheConstants.{CONTENT_MAX}
use Rattle.flowfile_record.specs.declared.limits.TheConstants.{WRITTEN_MAX}
use Rattle.process_session.specs.Bench.{Bench}
use Rattle.process_session.specs.Inside.{bench_in}
use Rattle.process_session.proofs.Refused.{write_refusal}
use Rattle.process_session.proofs.Sound.{sound-content}
use Rattle.process_session.proofs.session.Session.write.Goals as goal

pub invariant_of-self : goal.invariant_of-self
invariant_of-self c =
    let same : c.self.inside.handed ≡ c.args.self.now.handed = ap (λ (b : Bench). b.handed) c.self.view_is in
    let room : c.self.inside.handed + c.len-size.result ≤ WRITTEN_MAX = omega (arith, c.in_ok-check_write.ensures.handed) in
    let fits : length c.from.result ≤ CONTENT_MAX = omega (arith, ap length c.from.ensures, c.in_ok-check_write.ensures.fits) in
    rw c.write_file.ensures (sound-content (bench_in c.self.inside) c.self.inside.counted c.args.place c.from.result c.len-size.result fits room c.self.invariant)

pub returns-in_err-check_write-clause-refusal : goal.returns-in_err-check_write-clause-refusal
returns-in_err-check_write-clause-refusal c =
    let p = err_from_is_err_and c.from_residual.result c.from_residual.ensures.1 in
    let size : c.len-size.result ≡ length c.args.bytes.items = omega arith in
    rw (p.1, p.2) (c.in_err-check_write.ensures.refusal ∙ sym (write_refusal c.args.self.now c.args.place c.args.bytes.items c.len-size.result size))

pub returns-clause-refusal : goal.returns-clause-refusal
returns-clause-refusal c =
    let size : c.len-size.result ≡ length c.args.bytes.items = omega arith in
    c.in_ok-check_write.ensures.refusal ∙ sym (write_refusal c.args.self.now c.args.place c.args.bytes.items c.len-size.result size)
