use Rattle.std.proofs.Common.{◌≡◌, ◌+◌, ◌≤◌, All, drop, length, map, refl, sym, ◌∙◌, ap, subst, arith}
use Rattle.std.proofs.lemmas.List.{at_drop_all}
use Rattle.std.proofs.lemmas.List.Elements.{All-push}
use Rattle.process_session.specs.Finish.{standing_from}
use Rattle.process_session.specs.Finishing.{IsInside, places_of, stand_for}
use Rattle.process_session.proofs.FinishPlaces.{below_next}
use Rattle.process_session.proofs.FinishFiles.{next_upto, stand_step, standing_done}
use Rattle.process_session.proofs.session.finish.standing.stands_with.Goals as goal

pub stand_for-requires-clause-below : goal.stand_for-requires-clause-below
stand_for-requires-clause-below c = below_next c.loop-file.met c.loop-file.round (c.loop-file.round + 1) refl c.loop-file.invariant.marks

pub loop-file-preserved : goal.loop-file-preserved
loop-file-preserved c =
    let files = c.args.files.now in
    let size : length c.stand_for.new.met ≡ length files = omega arith in
    let stands = c.loop-file.stands.items in
    let places = c.in_ok-stand.ensures.stand ∙ ap (λ l. stand_for (map places_of l) c.loop-file.next c.file-item.result) c.deref.ensures.value in
    record {
      counted = subst (λ n. n ≤ c.loop-file.file-index + 1) (sym c.next_after-next.ensures) (next_upto c.loop-file.next c.loop-file.file-index c.file-item.result c.loop-file.invariant.counted);
      rounds = omega arith;
      size = size;
      marks = c.in_ok-stand.ensures.upto;
      inside = subst (λ l. All (IsInside (length files)) l) (sym c.in_ok-push.ensures.items) (All-push (IsInside (length files)) stands c.in_ok-stand.stand c.loop-file.invariant.inside (subst (λ n. IsInside n c.in_ok-stand.stand) size c.in_ok-stand.ensures.inside));
      standing = ap (λ l. standing_from (map places_of l) c.next_after-next.result (drop (c.loop-file.file-index + 1) files)) c.in_ok-push.ensures.items ∙ stand_step stands c.in_ok-stand.stand c.loop-file.next c.next_after-next.result c.loop-file.file-index files c.file-item.result (omega arith) c.file-item.is places c.next_after-next.ensures ∙ c.loop-file.invariant.standing;
    }

pub returns-clause-stands : goal.returns-clause-stands
returns-clause-stands c =
    let files = c.args.files.now in
    let past : length files ≤ c.loop-file.file-index = omega arith in
    let stand = map places_of c.loop-file.stands.items in
    sym (standing_done stand c.loop-file.next) ∙ sym (at_drop_all (standing_from stand c.loop-file.next) files c.loop-file.file-index past) ∙ c.loop-file.invariant.standing
