-- What numbers and names are called in the texts.
use Rattle.std.specs.Prelude.{ℕ, List, codes}
use Rattle.uuid.specs.Text.{hyphenated_text, lower}
use Rattle.disk_trait.specs.declared.file_name.FileKind.{FileKind}
use Rattle.disk_trait.specs.declared.file_name.FileKind.TheVariants.{Log, Snapshot, Swap, Claim, Events}
use Rattle.flowfile_record.specs.declared.event.EventKind.{EventKind}
use Rattle.flowfile_record.specs.declared.event.EventKind.TheVariants.{Create, Receive, Fork, Join, Clone, ContentModified, AttributesModified, Route, Send, Drop, Expire, Replay}

-- an identifier, hyphenated and in lower case
abbrev pub identifier_text : List ℕ → List ℕ
identifier_text id = hyphenated_text lower id

abbrev pub kind_word : FileKind → List ℕ
kind_word Log = codes "log"
kind_word Snapshot = codes "snapshot"
kind_word Swap = codes "swap"
kind_word Claim = codes "claim"
kind_word Events = codes "events"

-- NiFi's names of provenance events
abbrev pub event_word : EventKind → List ℕ
event_word Create = codes "CREATE"
event_word Receive = codes "RECEIVE"
event_word Fork = codes "FORK"
event_word Join = codes "JOIN"
event_word Clone = codes "CLONE"
event_word ContentModified = codes "CONTENT_MODIFIED"
event_word AttributesModified = codes "ATTRIBUTES_MODIFIED"
event_word Route = codes "ROUTE"
event_word Send = codes "SEND"
event_word Drop = codes "DROP"
event_word Expire = codes "EXPIRE"
event_word Replay = codes "REPLAY"
