-- How an event is encoded, and which events have an encoding. Numbers are big-endian.
use Rattle.std.specs.Prelude.{ℕ, ◌<◌, ◌≤◌, ◌^◌, List, ◌++◌}
use Rattle.std.specs.Int.{w64, to_be_bytes}
use Rattle.flowfile_record.specs.Encoding.{byte, text, long, numbers, IsNumber, IsText, IsLong, AreNumbers, IsDigest}
use Rattle.flowfile_record.specs.Events.{code_of}
use Rattle.flowfile_record.specs.declared.event.Event.{Event}

unfoldable pub event : Event → List ℕ
event e =
    to_be_bytes w64 e.number ++ byte (code_of e.kind) ++ to_be_bytes w64 e.moment ++ text e.component
    ++ to_be_bytes w64 e.file ++ numbers e.parents ++ numbers e.children
    ++ long e.detail ++ to_be_bytes w64 e.size ++ e.digest

-- an event that has an encoding; events and flow files are counted from 1
pub record IsEvent (e : Event) : Type 0 where
  pub first_number : 1 ≤ e.number
  pub number : IsNumber e.number
  pub moment : e.moment < 2 ^ 64
  pub component : IsText e.component
  pub first_file : 1 ≤ e.file
  pub file : IsNumber e.file
  pub parents : AreNumbers e.parents
  pub children : AreNumbers e.children
  pub detail : IsLong e.detail
  pub size : e.size < 2 ^ 64
  pub digest : IsDigest e.digest
