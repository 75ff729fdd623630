use Rattle.std.proofs.Common.{◌≡◌, ℕ, Vec, Global, refl, sym, ◌∙◌, ap, subst}
use Rattle.std.proofs.lemmas.Result.{on_ok_weaker}
use Rattle.machine_model.specs.AttributesToJson.{json_of}
use Rattle.machine_model.specs.declared.kind.Destination.{Destination}
use Rattle.machine_model.specs.declared.kind.Kind.TheVariants.{AttributesToJson}
use Rattle.process_session.specs.Bench.{bench_attributes}
use Rattle.processor_api.specs.Sessions.{EndsWith}
use Rattle.processor_api.proofs.Began.{kind-took}
use Rattle.proc_attribute.proofs.Json.{given_file, json-acts, outcome_in}
use Rattle.proc_attribute.proofs.attributes_to_json.AttributesToJsonActs.act.Goals as goal

pub file_of-file-requires : goal.file_of-file-requires
file_of-file-requires c = kind-took (AttributesToJson c.args.self.now.destination c.args.self.now.names.now) c.args.session.now c.args._given.now refl refl c.requires

pub note-requires-clause-one : goal.note-requires-clause-one
note-requires-clause-one c = kind-took (AttributesToJson c.args.self.now.destination c.args.self.now.names.now) c.args.session.now c.args._given.now refl refl c.requires

pub replace-requires : goal.replace-requires
replace-requires c = kind-took (AttributesToJson c.args.self.now.destination c.args.self.now.names.now) c.args.session.now c.args._given.now refl refl c.requires

pub returns-in-Attribute-clause-acts : goal.returns-in-Attribute-clause-acts
returns-in-Attribute-clause-acts c =
    let before = c.args.session.now in
    let after = c.note.new.session in
    let names = c.args.self.now.names.now in
    let file = c.file_of-file.result in
    let json = c.as_str.result.now in
    let json-is : json ≡ json_of names (given_file file.attributes.now file.uuid.now) =
    c.as_str.ensures.value ∙ c.in_ok-json.ensures ∙ ap (λ names. json_of names (given_file file.attributes.now file.uuid.now)) c.as_slice.ensures in
    let P : Destination → Type 0 = λ destination. EndsWith before after (outcome_in destination (bench_attributes before 0) json) in
    on_ok_weaker c.note.result
    (λ ends. json-acts c.args.self.now.destination names before c.args._given.now after file.attributes.now file.uuid.now json c.requires c.file_of-file.ensures.attributes c.file_of-file.ensures.uuid json-is (subst P (sym c.in-Attribute.is) ends))
    c.note.ensures

pub returns-in-Content-clause-acts : goal.returns-in-Content-clause-acts
returns-in-Content-clause-acts c =
    let before = c.args.session.now in
    let after = c.replace.new.session in
    let names = c.args.self.now.names.now in
    let file = c.file_of-file.result in
    let json = c.into_bytes.result.items in
    let json-is : json ≡ json_of names (given_file file.attributes.now file.uuid.now) =
    ap (λ (v : Vec ℕ Global). v.items) c.into_bytes.ensures.value ∙ c.in_ok-json.ensures ∙ ap (λ names. json_of names (given_file file.attributes.now file.uuid.now)) c.as_slice.ensures in
    let P : Destination → Type 0 = λ destination. EndsWith before after (outcome_in destination (bench_attributes before 0) json) in
    json-acts c.args.self.now.destination names before c.args._given.now after file.attributes.now file.uuid.now json c.requires c.file_of-file.ensures.attributes c.file_of-file.ensures.uuid json-is (subst P (sym c.in-Content.is) c.replace.ensures)
