use Rattle.std.proofs.Common.{◌≡◌, [], drop, map}
use Rattle.expr_lang.specs.Meaning.{Attributes}
use Rattle.machine_model.specs.Making.{found_in}
use Rattle.machine_model.specs.UpdateAttribute.{own_texts}
use Rattle.proc_attribute.specs.Setting.{set_by}
use Rattle.proc_attribute.proofs.Updating.{and_texts}
use Rattle.proc_attribute.proofs.update_attribute.settings_over.Given as goal

abbrev pub invariant-loop-property : goal.invariant-loop-property
invariant-loop-property l =
    let find : Attributes = found_in (record { attributes = l.file.attributes.now; uuid = l.file.uuid.now; bytes = [] }) in
    own_texts find l.own ≡ and_texts (map set_by l.settings.items) (own_texts find (drop l.property-index l.own))
