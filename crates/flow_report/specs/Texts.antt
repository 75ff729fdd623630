-- What each line says.
use Rattle.std.specs.Prelude.{ℕ, List, [], ◌∷◌, ◌++◌, codes, decimal}
use Rattle.std.specs.List.{flat_map}
use Rattle.hex.specs.Hex.{encode_lower}
use Rattle.serde_json.specs.Written.{compact_text}
use Rattle.disk_trait.specs.declared.damage.Damage.{Damage}
use Rattle.disk_trait.specs.declared.damage.Damage.TheVariants.{Digest, Short, Form}
use Rattle.disk_trait.specs.declared.file_name.FileName.{FileName}
use Rattle.flow_report.specs.Events.{event_data}
use Rattle.flow_report.specs.Words.{kind_word, identifier_text}
use Rattle.flow_report.specs.declared.line.KinWord.{KinWord}
use Rattle.flow_report.specs.declared.line.KinWord.TheVariants.{File, Ancestor, Descendant}
use Rattle.flow_report.specs.declared.line.Line.{Line}
use Rattle.flow_report.specs.declared.line.Line.TheVariants as line

abbrev pub line_end : List ℕ
line_end = 10 ∷ []

-- these, one behind the other, and a line feed
abbrev pub line_of : List (List ℕ) → List ℕ
line_of parts = flat_map (λ part. part) parts ++ line_end

-- a connection's: how many live files it has, and the sum of their contents' sizes
abbrev pub connection_text : List ℕ → (files bytes : ℕ) → List ℕ
connection_text id files bytes =
    line_of (codes "connection " ∷ id ∷ codes " " ∷ decimal files ∷ codes " " ∷ decimal bytes ∷ [])

abbrev pub kin_word : KinWord → List ℕ
kin_word File = codes "file"
kin_word Ancestor = codes "ancestor"
kin_word Descendant = codes "descendant"

-- a damage's, before what is wrong
abbrev pub damage_at : FileName → ℕ → List (List ℕ) → List ℕ
damage_at file at wrong = line_of
    (codes "damaged: " ∷ kind_word file.kind ∷ codes " " ∷ decimal file.number ∷ codes " at " ∷ decimal at ∷ wrong)

abbrev pub damage_text : Damage → List ℕ
damage_text (Digest file at stored found) =
    damage_at file at (codes " kept " ∷ encode_lower stored ∷ codes " found " ∷ encode_lower found ∷ [])
damage_text (Short file at need have) = damage_at file at (codes " short" ∷ [])
damage_text (Form file at) = damage_at file at (codes " form" ∷ [])

abbrev pub text_of : Line → List ℕ
text_of (line.Connection id files bytes) = connection_text id.now files bytes
text_of (line.Queued file size) = line_of (codes "file " ∷ identifier_text file ∷ codes " " ∷ decimal size ∷ [])
text_of (line.Kin word file) = line_of (kin_word word ∷ codes " " ∷ identifier_text file ∷ [])
text_of (line.Happened store event) = compact_text (event_data store event.now) ++ line_end
text_of (line.Blocked id) = line_of (codes "blocked: " ∷ id.now ∷ [])
text_of (line.Limit name number) = line_of (codes "limit: " ∷ name.now ∷ codes " " ∷ decimal number ∷ [])
text_of (line.Sound files events) =
    line_of (codes "store sound: files " ∷ decimal files ∷ codes ", events " ∷ decimal events ∷ [])
text_of line.Usage = line_of
    (codes "usage: flow run, queues, events, lineage UUID, content UUID, check, trial N; "
    ∷ codes "options --threads N --max-commits N --checkpoint N" ∷ [])
text_of (line.Refused rule place) =
    line_of (codes "flow refused: rule " ∷ decimal rule ∷ codes " at " ∷ place.now ∷ [])
text_of (line.Damaged damage) = damage_text damage.now
text_of line.DiskFault = line_of (codes "disk fault" ∷ [])
text_of line.InboxFault = line_of (codes "inbox fault" ∷ [])
text_of line.OutboxFault = line_of (codes "outbox fault" ∷ [])
text_of line.SourceFault = line_of (codes "source fault" ∷ [])
text_of line.OutOfMemory = line_of (codes "out of memory" ∷ [])
text_of (line.Absent id) = line_of (codes "absent: " ∷ identifier_text id ∷ [])
