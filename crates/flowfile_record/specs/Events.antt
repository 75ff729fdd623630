-- The codes of the kinds of events.
use Rattle.std.specs.Prelude.{ℕ}
use Rattle.flowfile_record.specs.declared.event.EventKind.{EventKind}
use Rattle.flowfile_record.specs.declared.event.EventKind.TheVariants.{Create, Receive, Fork, Join, Clone, ContentModified, AttributesModified, Route, Send, Drop, Expire, Replay}

abbrev pub code_of : EventKind → ℕ
code_of Create = 1
code_of Receive = 2
code_of Fork = 3
code_of Join = 4
code_of Clone = 5
code_of ContentModified = 6
code_of AttributesModified = 7
code_of Route = 8
code_of Send = 9
code_of Drop = 10
code_of Expire = 11
code_of Replay = 12
