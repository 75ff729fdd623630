use Rattle.std.proofs.Common.{◌≡◌, Result, refl, ◌∙◌, ap, subst}
use Rattle.std.specs.Prelude.{IsOk}
use Rattle.std.proofs.lemmas.Bool.{false≢true}
use Rattle.std.proofs.lemmas.Result.{on_ok_weaker}
use Rattle.machine_model.specs.RouteOnContent.{found_places}
use Rattle.machine_model.specs.declared.kind.Kind.TheVariants.{RouteOnContent}
use Rattle.process_session.specs.declared.error.SessionError.{SessionError}
use Rattle.processor_api.proofs.Answered.{never_refused}
use Rattle.processor_api.proofs.Began.{content-free}
use Rattle.processor_api.proofs.Clones.{took-one}
use Rattle.processor_api.proofs.Routed.{EndsRouted}
use Rattle.proc_text.proofs.Routes.{few-found, places-there, route-acts}
use Rattle.proc_text.proofs.route_on_content.RouteOnContentActs.act.Goals as goal

pub unreachable-requires : goal.unreachable-requires
unreachable-requires c =
    let ok : IsOk c.content.result = never_refused _ _ c.content.ensures.refusal (content-free (RouteOnContent c.args.self.now.requirement c.args.self.now.own.now) c.args.session.now c.args._given.now refl c.requires) in
    false≢true (subst (λ (r : Result _ SessionError). IsOk r) c.in_default.is ok)

pub route-requires-clause-one : goal.route-requires-clause-one
route-requires-clause-one c = took-one (RouteOnContent c.args.self.now.requirement c.args.self.now.own.now) c.args.session.now c.args._given.now refl c.requires

pub route-requires-clause-there : goal.route-requires-clause-there
route-requires-clause-there c =
    let content = c.in-Ok.content.now in
    let are : c.as_slice-2.result.now ≡ found_places content c.args.self.now.own.now =
    c.as_slice-2.ensures.value ∙ c.in_ok-places.ensures ∙ ap (found_places content) c.as_slice.ensures in
    places-there c.args.self.now.requirement c.args.self.now.own.now c.args.session.now c.args._given.now content c.as_slice-2.result.now c.requires are

pub route-requires-clause-few : goal.route-requires-clause-few
route-requires-clause-few c =
    let content = c.in-Ok.content.now in
    let are : c.as_slice-2.result.now ≡ found_places content c.args.self.now.own.now =
    c.as_slice-2.ensures.value ∙ c.in_ok-places.ensures ∙ ap (found_places content) c.as_slice.ensures in
    few-found c.args.self.now.requirement c.args.self.now.own.now content c.as_slice-2.result.now c.requires.handed.sound are

pub returns-clause-acts : goal.returns-clause-acts
returns-clause-acts c =
    let own = c.args.self.now.own.now in
    let before = c.args.session.now in
    let after = c.route.new.session in
    let content = c.in-Ok.content.now in
    let places = c.as_slice-2.result.now in
    let are : places ≡ found_places content own = c.as_slice-2.ensures.value ∙ c.in_ok-places.ensures ∙ ap (found_places content) c.as_slice.ensures in
    on_ok_weaker c.route.result
    (λ ends. route-acts c.args.self.now.requirement own before c.args._given.now after content places c.requires c.in-Ok.ensures.content are (subst (λ n. EndsRouted before after n places) c.len-unmatched.ensures ends)) c.route.ensures
