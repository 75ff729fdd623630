-- The text of an event's line.
use Rattle.std.proofs.Common.{◌≡◌, ℕ, List, [], ◌∷◌, ◌++◌, refl}
use Rattle.std.specs.Prelude.{codes}
use Rattle.std.specs.Fmt.{decimal}
use Rattle.json.specs.Print.{quoted}
use Rattle.serde_json.proofs.OnLiterals.{serde_json_on_literals}
use Rattle.serde_json.specs.Data.{number, unsigned, string, array, object, Items, no_members, member}
use Rattle.serde_json.specs.Written.{compact_text}
use Rattle.hex.specs.Hex.{encode_lower}
use Rattle.flowfile_record.specs.Identifier.{identifier}
use Rattle.flowfile_record.specs.declared.event.Event.{Event}
use Rattle.flow_report.specs.Events.{event_data, file_items}
use Rattle.flow_report.specs.Words.{event_word, identifier_text}

-- the parts of the line are the compact text of the object
pub event-text : (children parents : Items) (component detail digest kind uuid : List ℕ) (event moment size : ℕ) →
    (123 ∷ 34 ∷ 99 ∷ 104 ∷ 105 ∷ 108 ∷ 100 ∷ 114 ∷ 101 ∷ 110 ∷ 34 ∷ 58 ∷ []) ++ (compact_text (array children) ++
    ((44 ∷ 34 ∷ 99 ∷ 111 ∷ 109 ∷ 112 ∷ 111 ∷ 110 ∷ 101 ∷ 110 ∷ 116 ∷ 34 ∷ 58 ∷ []) ++ (quoted component ++
    ((44 ∷ 34 ∷ 100 ∷ 101 ∷ 116 ∷ 97 ∷ 105 ∷ 108 ∷ 34 ∷ 58 ∷ []) ++ (quoted detail ++
    ((44 ∷ 34 ∷ 100 ∷ 105 ∷ 103 ∷ 101 ∷ 115 ∷ 116 ∷ 34 ∷ 58 ∷ []) ++ (quoted digest ++
    ((44 ∷ 34 ∷ 101 ∷ 118 ∷ 101 ∷ 110 ∷ 116 ∷ 34 ∷ 58 ∷ []) ++ (decimal event ++
    ((44 ∷ 34 ∷ 107 ∷ 105 ∷ 110 ∷ 100 ∷ 34 ∷ 58 ∷ []) ++ (quoted kind ++
    ((44 ∷ 34 ∷ 109 ∷ 111 ∷ 109 ∷ 101 ∷ 110 ∷ 116 ∷ 34 ∷ 58 ∷ []) ++ (decimal moment ++
    ((44 ∷ 34 ∷ 112 ∷ 97 ∷ 114 ∷ 101 ∷ 110 ∷ 116 ∷ 115 ∷ 34 ∷ 58 ∷ []) ++ (compact_text (array parents) ++
    ((44 ∷ 34 ∷ 115 ∷ 105 ∷ 122 ∷ 101 ∷ 34 ∷ 58 ∷ []) ++ (decimal size ++
    ((44 ∷ 34 ∷ 117 ∷ 117 ∷ 105 ∷ 100 ∷ 34 ∷ 58 ∷ []) ++ (quoted uuid ++
    ((125 ∷ []) ++ []))))))))))))))))))))
    ≡ compact_text (object (member (codes "children") (array children)
    (member (codes "component") (string component)
    (member (codes "detail") (string detail)
    (member (codes "digest") (string digest)
    (member (codes "event") (number (unsigned event))
    (member (codes "kind") (string kind)
    (member (codes "moment") (number (unsigned moment))
    (member (codes "parents") (array parents)
    (member (codes "size") (number (unsigned size))
    (member (codes "uuid") (string uuid)
    (no_members))))))))))))
unfolding serde_json_on_literals
event-text children parents component detail digest kind uuid event moment size = refl

-- the parts that an event has
pub event-line : (store : ℕ) (event : Event) (children component detail kind parents : List ℕ) → children ≡ event.children → component ≡ event.component → detail ≡ event.detail
    → kind ≡ event_word event.kind → parents ≡ event.parents →
    (123 ∷ 34 ∷ 99 ∷ 104 ∷ 105 ∷ 108 ∷ 100 ∷ 114 ∷ 101 ∷ 110 ∷ 34 ∷ 58 ∷ []) ++ (compact_text (array (file_items store children)) ++
    ((44 ∷ 34 ∷ 99 ∷ 111 ∷ 109 ∷ 112 ∷ 111 ∷ 110 ∷ 101 ∷ 110 ∷ 116 ∷ 34 ∷ 58 ∷ []) ++ (quoted component ++
    ((44 ∷ 34 ∷ 100 ∷ 101 ∷ 116 ∷ 97 ∷ 105 ∷ 108 ∷ 34 ∷ 58 ∷ []) ++ (quoted detail ++
    ((44 ∷ 34 ∷ 100 ∷ 105 ∷ 103 ∷ 101 ∷ 115 ∷ 116 ∷ 34 ∷ 58 ∷ []) ++ (quoted (encode_lower event.digest) ++
    ((44 ∷ 34 ∷ 101 ∷ 118 ∷ 101 ∷ 110 ∷ 116 ∷ 34 ∷ 58 ∷ []) ++ (decimal event.number ++
    ((44 ∷ 34 ∷ 107 ∷ 105 ∷ 110 ∷ 100 ∷ 34 ∷ 58 ∷ []) ++ (quoted kind ++
    ((44 ∷ 34 ∷ 109 ∷ 111 ∷ 109 ∷ 101 ∷ 110 ∷ 116 ∷ 34 ∷ 58 ∷ []) ++ (decimal event.moment ++
    ((44 ∷ 34 ∷ 112 ∷ 97 ∷ 114 ∷ 101 ∷ 110 ∷ 116 ∷ 115 ∷ 34 ∷ 58 ∷ []) ++ (compact_text (array (file_items store parents)) ++
    ((44 ∷ 34 ∷ 115 ∷ 105 ∷ 122 ∷ 101 ∷ 34 ∷ 58 ∷ []) ++ (decimal event.size ++
    ((44 ∷ 34 ∷ 117 ∷ 117 ∷ 105 ∷ 100 ∷ 34 ∷ 58 ∷ []) ++ (quoted (identifier_text (identifier store event.file)) ++
    ((125 ∷ []) ++ []))))))))))))))))))))
    ≡ compact_text (event_data store event)
event-line store event children component detail kind parents c m d k p =
    rw (c, m, d, k, p)
    (event-text (file_items store event.children) (file_items store event.parents) event.component event.detail (encode_lower event.digest) (event_word event.kind)
    (identifier_text (identifier store event.file)) event.number event.moment event.size)
