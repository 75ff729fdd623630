use Rattle.std.proofs.Common.{◌≡◌, drop}
use Rattle.std.specs.FinMap.{entries}
use Rattle.serde_json.specs.Data.{no_members}
use Rattle.serde_json.specs.View.{members_view}
use Rattle.proc_attribute.specs.Json.{with_texts}
use Rattle.proc_attribute.proofs.attributes_to_json.attribute_members.Given as goal

abbrev pub invariant-loop-place : goal.invariant-loop-place
invariant-loop-place l =
    with_texts no_members (entries l.attributes) ≡ with_texts (members_view l.members.entries) (drop l.place (entries l.attributes))
