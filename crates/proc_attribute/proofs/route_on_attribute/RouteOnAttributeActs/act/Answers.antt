use Rattle.std.proofs.Common.{◌≡◌, Err, Ok, Result, refl, ◌∙◌, ap, subst}
use Rattle.std.specs.Result.{OnOk}
use Rattle.machine_model.specs.RouteOnAttribute.{true_places}
use Rattle.machine_model.specs.declared.kind.Kind.TheVariants.{RouteOnAttribute}
use Rattle.proc_attribute.specs.Routing.{found_of}
use Rattle.processor_api.proofs.Clones.{took-one}
use Rattle.processor_api.proofs.Routed.{EndsRouted}
use Rattle.proc_attribute.proofs.Routing.{places-few, places-there, route-acts}
use Rattle.proc_attribute.proofs.route_on_attribute.RouteOnAttributeActs.act.Goals as goal

pub places_over-requires-clause-one : goal.places_over-requires-clause-one
places_over-requires-clause-one c = took-one (RouteOnAttribute c.args.self.now.own.now) c.args.session.now c.args._given.now refl c.requires

pub route-requires-clause-one : goal.route-requires-clause-one
route-requires-clause-one c = took-one (RouteOnAttribute c.args.self.now.own.now) c.args.session.now c.args._given.now refl c.requires

pub route-requires-clause-there : goal.route-requires-clause-there
route-requires-clause-there c =
    let are : c.as_slice-2.result.now ≡ true_places (found_of c.args.session.now) c.args.self.now.own.now =
    c.as_slice-2.ensures.value ∙ c.in_ok-places.ensures ∙ ap (true_places (found_of c.args.session.now)) c.as_slice.ensures in
    places-there c.args.self.now.own.now c.args.session.now c.args._given.now c.as_slice-2.result.now c.requires are

pub route-requires-clause-few : goal.route-requires-clause-few
route-requires-clause-few c =
    let are : c.as_slice-2.result.now ≡ true_places (found_of c.args.session.now) c.args.self.now.own.now =
    c.as_slice-2.ensures.value ∙ c.in_ok-places.ensures ∙ ap (true_places (found_of c.args.session.now)) c.as_slice.ensures in
    places-few c.args.self.now.own.now (found_of c.args.session.now) c.as_slice-2.result.now c.requires.handed.sound are

pub returns-clause-acts : goal.returns-clause-acts
returns-clause-acts c =
    let own = c.args.self.now.own.now in
    let before = c.args.session.now in
    let after = c.route.new.session in
    let places = c.as_slice-2.result.now in
    let are : places ≡ true_places (found_of before) own = c.as_slice-2.ensures.value ∙ c.in_ok-places.ensures ∙ ap (true_places (found_of before)) c.as_slice.ensures in
    on_ok c.route.result (λ ends. route-acts own before c.args._given.now after places c.requires are (subst (λ n. EndsRouted before after n places) c.len-unmatched.ensures ends)) c.route.ensures
  where
    on_ok : {T E P Q : Type 0} (result : Result T E) → (P → Q) → OnOk result P → OnOk result Q
    on_ok (Ok value) follows holds = follows holds
    on_ok (Err error) follows holds = tt
