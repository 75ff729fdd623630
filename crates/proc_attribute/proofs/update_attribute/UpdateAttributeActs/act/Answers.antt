use Rattle.std.proofs.Common.{◌≡◌, List, [], None, Some, map, refl, sym, ◌∙◌, ap}
use Rattle.std.specs.Option.{option_map}
use Rattle.std.proofs.lemmas.Result.{on_ok_weaker}
use Rattle.expr_lang.specs.Meaning.{Attributes}
use Rattle.machine_model.specs.Making.{found_in}
use Rattle.machine_model.specs.UpdateAttribute.{own_texts}
use Rattle.machine_model.specs.declared.kind.Kind.TheVariants.{UpdateAttribute}
use Rattle.processor_api.proofs.Began.{kind-took}
use Rattle.proc_attribute.specs.Setting.{have_keys, set_by}
use Rattle.proc_attribute.proofs.Passed.{took-open}
use Rattle.proc_attribute.proofs.Updating.{Pair, none-ends, update-acts, update-keys}
use Rattle.proc_attribute.proofs.update_attribute.UpdateAttributeActs.act.Goals as goal

pub file_of-file-requires : goal.file_of-file-requires
file_of-file-requires c = kind-took (UpdateAttribute c.args.self.now.own.now) c.args.session.now c.args._given.now refl refl c.requires

pub set_if_fit-requires-clause-one : goal.set_if_fit-requires-clause-one
set_if_fit-requires-clause-one c = kind-took (UpdateAttribute c.args.self.now.own.now) c.args.session.now c.args._given.now refl refl c.requires

pub set_if_fit-requires-clause-keys : goal.set_if_fit-requires-clause-keys
set_if_fit-requires-clause-keys c =
    let file = c.file_of-file.result in
    let find : Attributes = found_in (record { attributes = file.attributes.now; uuid = file.uuid.now; bytes = [] }) in
    let own = c.args.self.now.own.now in
    let pairs : List Pair = map set_by c.in-Some.settings.items in
    let texts : own_texts find own ≡ Some pairs =
    ap (own_texts find) (sym c.as_slice.ensures) ∙ sym c.in_ok-settings.ensures ∙ ap (option_map (λ settings. map set_by settings.items)) c.in-Some.is in
    ap (λ items. have_keys (map set_by items)) c.deref.ensures.value ∙ update-keys own find pairs c.requires.handed.sound texts

pub pass-requires-clause-one : goal.pass-requires-clause-one
pass-requires-clause-one c =
    took-open c.args.session.now (kind-took (UpdateAttribute c.args.self.now.own.now) c.args.session.now c.args._given.now refl refl c.requires)

pub returns-in-Some-clause-acts : goal.returns-in-Some-clause-acts
returns-in-Some-clause-acts c =
    let before = c.args.session.now in
    let after = c.set_if_fit.new.session in
    let file = c.file_of-file.result in
    let find : Attributes = found_in (record { attributes = file.attributes.now; uuid = file.uuid.now; bytes = [] }) in
    let own = c.args.self.now.own.now in
    let pairs : List Pair = map set_by c.deref.result.now in
    let texts : own_texts find own ≡ Some pairs =
    ap (own_texts find) (sym c.as_slice.ensures) ∙ sym c.in_ok-settings.ensures ∙ ap (option_map (λ settings. map set_by settings.items)) c.in-Some.is
    ∙ ap (λ items. Some (map set_by items)) (sym c.deref.ensures.value) in
    on_ok_weaker c.set_if_fit.result
    (update-acts own before c.args._given.now after file.attributes.now file.uuid.now (Some pairs) c.requires c.file_of-file.ensures.attributes c.file_of-file.ensures.uuid texts)
    c.set_if_fit.ensures

pub returns-in-None-clause-acts : goal.returns-in-None-clause-acts
returns-in-None-clause-acts c =
    let before = c.args.session.now in
    let after = c.pass.new.session in
    let file = c.file_of-file.result in
    let find : Attributes = found_in (record { attributes = file.attributes.now; uuid = file.uuid.now; bytes = [] }) in
    let own = c.args.self.now.own.now in
    let one = kind-took (UpdateAttribute own) before c.args._given.now refl refl c.requires in
    let texts : own_texts find own ≡ None =
    ap (own_texts find) (sym c.as_slice.ensures) ∙ sym c.in_ok-settings.ensures ∙ ap (option_map (λ settings. map set_by settings.items)) c.in-None.is in
    update-acts own before c.args._given.now after file.attributes.now file.uuid.now None c.requires c.file_of-file.ensures.attributes c.file_of-file.ensures.uuid texts
    (none-ends before after one None refl c.pass.ensures)
