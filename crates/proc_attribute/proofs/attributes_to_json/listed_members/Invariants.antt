use Rattle.std.proofs.Common.{◌≡◌, drop, map}
use Rattle.serde_json.specs.Data.{no_members}
use Rattle.serde_json.specs.View.{members_view}
use Rattle.proc_attribute.specs.Json.{found_pair, with_texts}
use Rattle.proc_attribute.proofs.attributes_to_json.listed_members.Given as goal

abbrev pub invariant-loop-name : goal.invariant-loop-name
invariant-loop-name l =
    with_texts no_members (map (found_pair l.file.attributes.now l.file.uuid.now) l.names)
    ≡ with_texts (members_view l.members.entries) (map (found_pair l.file.attributes.now l.file.uuid.now) (drop l.name-index l.names))
