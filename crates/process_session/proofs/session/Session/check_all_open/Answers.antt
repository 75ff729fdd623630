use Rattle.std.proofs.Common.{◌<◌, length, sym, arith}
use Rattle.std.proofs.lemmas.Result.{err_from_is_err_and}
use Rattle.process_session.proofs.Joining.{open_next, open_stop}
use Rattle.process_session.proofs.session.Session.check_all_open.Goals as goal

pub returns-in_err-check_open : goal.returns-in_err-check_open
returns-in_err-check_open c =
    let p = err_from_is_err_and c.from_residual.result c.from_residual.ensures.1 in
    let within : c.loop-place.place-index < length c.args.places.now = omega arith in
    record {
      refusal = rw (p.1, p.2) (sym (open_stop c.args.self.now c.args.places.now c.loop-place.place-index _ within c.in_err-check_open.ensures.refusal c.loop-place.invariant));
    }

pub loop-place-preserved : goal.loop-place-preserved
loop-place-preserved c =
    let within : c.loop-place.place-index < length c.args.places.now = omega arith in
    open_next c.args.self.now c.args.places.now c.loop-place.place-index within c.in_ok-check_open.ensures.refusal c.loop-place.invariant
