-- How what is kept in memory shows the queues of a flow.
use Rattle.std.specs.Prelude.{◌≡◌, ℕ, ◌==◌, false, List, [], length, map, filter, All}
use Rattle.flowfile_record.specs.Stored.{Kept}
use Rattle.flowfile_record.specs.declared.content.ContentRef.{ContentRef}
use Rattle.flowfile_record.specs.declared.flow_file.FlowFile.{FlowFile}
use Rattle.machine_model.specs.View.{FileView, QueueView}
use Rattle.store_core.specs.State.{live_contents}

-- a live file as its queue sees it; no session works on it
abbrev pub view_of_kept : FlowFile → FileView
view_of_kept file = record {
  number = file.number;
  attributes = file.attributes;
  size = file.content.size;
  entered = file.entered;
  penalty_end = file.penalty_end;
  arrival = file.arrival;
  in_flight = false;
}

-- the live files of the connection at a place, by number
abbrev pub kept_views : Kept → ℕ → List FileView
kept_views k place =
    map (λ active. view_of_kept active.file) (filter (λ active. active.connection == place) k.files)

-- the queues, as what is kept shows them
abbrev pub kept_queues : Kept → ℕ → QueueView
kept_queues k place = record { active = kept_views k place; batches = [] }

-- the bytes of each live content are as many as its reference says
abbrev pub HaveSizes : (ContentRef → List ℕ) → Kept → Type 0
HaveSizes contents k = All (λ at. length (contents at) ≡ at.size) (live_contents k)
