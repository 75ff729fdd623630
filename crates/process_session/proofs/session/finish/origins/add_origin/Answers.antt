use Rattle.std.proofs.Common.{◌++◌, map, sym, ◌∙◌, ap}
use Rattle.process_session.specs.Finishing.{kept_origins, places_of}
use Rattle.process_session.proofs.FinishPlaces.{upto_below}
use Rattle.process_session.proofs.FinishFiles.{origin_out, origin_kept}
use Rattle.process_session.proofs.session.finish.origins.add_origin.Goals as goal

pub returns-then-is_left_out-clause-origins : goal.returns-then-is_left_out-clause-origins
returns-then-is_left_out-clause-origins c = λ more. origin_out (map places_of c.args.stands.now) c.args.origins.now.items c.args.file.now more (sym c.is_left_out.ensures ∙ c.if-is_left_out.true)

pub returns-then-is_left_out-clause-upto : goal.returns-then-is_left_out-clause-upto
returns-then-is_left_out-clause-upto c = upto_below c.args.met.now c.args.round c.requires.below

pub returns-clause-origins : goal.returns-clause-origins
returns-clause-origins c = λ more.
    let stand = map places_of c.args.stands.now in
    ap (λ l. l ++ kept_origins stand more) c.in_ok-push.ensures.items ∙ origin_kept stand c.args.origins.now.items c.in_ok-origin.origin c.args.file.now more (sym c.is_left_out.ensures ∙ c.if-is_left_out.false) c.in_ok-origin.ensures.origin
