use Rattle.std.proofs.Common.{◌<◌, ◌≡◌, length, take, sym, subst, arith}
use Rattle.std.proofs.lemmas.List.{take_all}
use Rattle.std.specs.List.{All}
use Rattle.std.proofs.lemmas.Result.{err_from_is_err_and}
use Rattle.std.proofs.lemmas.List.Elements.{All-more}
use Rattle.process_session.proofs.Joining.{known_next, known_stop}
use Rattle.process_session.proofs.session.Session.check_all_known.Goals as goal

pub returns-in_err-check_known-clause-refusal : goal.returns-in_err-check_known-clause-refusal
returns-in_err-check_known-clause-refusal c =
    let p = err_from_is_err_and c.from_residual.result c.from_residual.ensures.1 in
    let within : c.loop-place.place-index < length c.args.places.now = omega arith in
    rw (p.1, p.2) (sym (known_stop c.args.self.now c.args.places.now c.loop-place.place-index _ within c.in_err-check_known.ensures.refusal c.loop-place.invariant.rest))

pub loop-place-preserved : goal.loop-place-preserved
loop-place-preserved c =
    let within : c.loop-place.place-index < length c.args.places.now = omega arith in
    record {
      rest = known_next c.args.self.now c.args.places.now c.loop-place.place-index within c.in_ok-check_known.ensures.refusal c.loop-place.invariant.rest;
      there = All-more (λ place. place < length c.args.self.now.files) c.args.places.now c.loop-place.place-index 0 within c.loop-place.invariant.there c.in_ok-check_known.ensures.there;
    }

pub returns-clause-there : goal.returns-clause-there
returns-clause-there c =
    let all : take c.loop-place.place-index c.args.places.now ≡ c.args.places.now = take_all c.loop-place.place-index c.args.places.now c.loop-place-test.false in
    subst (All (λ place. place < length c.args.self.now.files)) all c.loop-place.invariant.there
