use Rattle.std.proofs.Common.{string_bytes}
use Rattle.std.proofs.lemmas.Result.{IfOk-weaker}
use Rattle.machine_model.specs.AttributesToJson.{listed}
use Rattle.proc_attribute.proofs.Json.{given_file, object-text}
use Rattle.proc_attribute.proofs.attributes_to_json.json_of.Goals as goal

pub returns : goal.returns
returns c =
    let file = given_file c.args.file.now.attributes.now c.args.file.now.uuid.now in
    IfOk-weaker c.to_string.result _ _ (λ text written. object-text c.in_ok-members.members (listed c.args.names.now file) (string_bytes text) c.in_ok-members.ensures written) c.to_string.ensures.text
