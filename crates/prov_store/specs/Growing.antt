-- What a write of some events' blocks needs and leaves.
use Rattle.std.specs.Prelude.{◌≡◌, ℕ, List, Ok}
use Rattle.disk_trait.specs.Files.{Files}
use Rattle.flowfile_record.specs.declared.event.Event.{Event}
use Rattle.prov_store.specs.Events.{events_in, covered_size}
use Rattle.prov_store.specs.State.{IsTrimmed, next_file}

-- the files have these events past a line and up to a last one and nothing else, and the next one goes to this offset
-- of its file
pub record Stands (line last offset : ℕ) (files : Files) (events : List Event) : Type 0 where
  pub says : events_in files line last ≡ Ok events
  pub next : offset ≡ covered_size line last (next_file last) files
  pub trimmed : IsTrimmed line last files
