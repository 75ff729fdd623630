-- The line of an event: a JSON object, as serde_json prints it without spaces.
use Rattle.std.specs.Prelude.{ℕ, List, [], ◌∷◌, codes}
use Rattle.hex.specs.Hex.{encode_lower}
use Rattle.serde_json.specs.Data.{Data, number, unsigned, string, array, object, Items, no_items, item, no_members, member}
use Rattle.flowfile_record.specs.Identifier.{identifier}
use Rattle.flowfile_record.specs.declared.event.Event.{Event}
use Rattle.flow_report.specs.Words.{event_word, identifier_text}

-- the identifier of a file of a store
abbrev pub file_data : (store file : ℕ) → Data
file_data store file = string (identifier_text (identifier store file))

abbrev pub file_items : ℕ → List ℕ → Items
file_items store [] = no_items
file_items store (file ∷ files) = item (file_data store file) (file_items store files)

-- an event of a store, its keys in the order of their bytes
abbrev pub event_data : ℕ → Event → Data
event_data store event = object
    (member (codes "children") (array (file_items store event.children))
    (member (codes "component") (string event.component)
    (member (codes "detail") (string event.detail)
    (member (codes "digest") (string (encode_lower event.digest))
    (member (codes "event") (number (unsigned event.number))
    (member (codes "kind") (string (event_word event.kind))
    (member (codes "moment") (number (unsigned event.moment))
    (member (codes "parents") (array (file_items store event.parents))
    (member (codes "size") (number (unsigned event.size))
    (member (codes "uuid") (file_data store event.file)
    no_members))))))))))
