use Rattle.std.proofs.Common.{◌≡◌, []}
use Rattle.std.specs.Prelude.{Ok}
use Rattle.flowfile_record.specs.Stored.{kept_of}
use Rattle.kept_state.specs.Changes.{no_files}
use Rattle.kept_state.specs.Fits.{replayed}
use Rattle.store_core.specs.Flow.{flow_in}
use Rattle.store_core.proofs.reading.replay_entries.Given as goal

abbrev pub invariant-loop-at : goal.invariant-loop-at
invariant-loop-at l = record {
  so_far : replayed no_files (kept_of l.fn.stored) l.yielded ≡ Ok l.replay;
  batches : l.replay.batches ≡ [];
  flow : flow_in l.replay ≡ flow_in (kept_of l.fn.stored);
}
