-- The state of a new store.
use Rattle.std.specs.Prelude.{ℕ, List, [], replicate}
use Rattle.flowfile_record.specs.Stored.{Kept}

-- no files and no batches; the first of each number comes next, and no processor has made a file
abbrev pub new_kept : (store : ℕ) (flow : List ℕ) (connections : List (List ℕ)) (processors : ℕ) → Kept
new_kept store flow connections processors = record {
  store = store;
  flow = flow;
  connections = connections;
  processors = [];
  counts = replicate processors 0;
  next_number = 1;
  next_arrival = 1;
  last_event = 0;
  line = 0;
  next_batch = 1;
  files = [];
  batches = [];
}
