use Rattle.std.proofs.Common.{◌≡◌, ◌+◌, ◌≤◌, ◌++◌, All, drop, length, map, refl, sym, ◌∙◌, ap, subst, arith}
use Rattle.std.proofs.lemmas.List.{at_drop_all}
use Rattle.process_session.specs.Finishing.{IsInside, kept_origins, places_of}
use Rattle.process_session.proofs.FinishPlaces.{below_next}
use Rattle.process_session.proofs.FinishFiles.{origins_done, rest_is}
use Rattle.process_session.proofs.session.finish.origins.origins_with.Goals as goal

pub add_origin-requires-clause-below : goal.add_origin-requires-clause-below
add_origin-requires-clause-below c = below_next c.loop-file.met c.loop-file.round (c.loop-file.round + 1) refl c.loop-file.invariant.marks

pub loop-file-preserved : goal.loop-file-preserved
loop-file-preserved c =
    let stand = map places_of c.args.stands.now in
    let i = c.loop-file.file-index in
    let files = c.args.files.now in
    let size : length c.loop-file.met ≡ length c.add_origin.new.met = omega arith in
    let rest = rest_is files i c.file-item.result (omega arith) c.file-item.is in
    record {
      rounds = omega arith;
      inside = subst (λ n. All (IsInside n) c.args.stands.now) size c.loop-file.invariant.inside;
      marks = c.in_ok-add_origin.ensures.upto;
      origins = c.in_ok-add_origin.ensures.origins (drop (i + 1) files) ∙ ap (λ l. c.loop-file.origins.items ++ kept_origins stand l) (sym rest) ∙ c.loop-file.invariant.origins;
    }

pub returns : goal.returns
returns c =
    let stand = map places_of c.args.stands.now in
    let files = c.args.files.now in
    let past : length files ≤ c.loop-file.file-index = omega arith in
    let origins = c.loop-file.origins.items in
    sym (origins_done stand origins) ∙ sym (at_drop_all (λ l. origins ++ kept_origins stand l) files c.loop-file.file-index past) ∙ c.loop-file.invariant.origins
