use Rattle.std.proofs.Common.{◌≡◌, ℕ, ◌+◌, ◌≤◌, ◌++◌, List, length, vec_len, vec_capacity}
use Rattle.process_session.specs.Finish.{kept_files}
use Rattle.process_session.specs.Finishing.{kept_origins}
use Rattle.process_session.proofs.session.finish.kept.kept_files.Given as goal

abbrev pub invariant-loop-file : goal.invariant-loop-file
invariant-loop-file l = record {
  room : vec_len l.kept + length l.origins.items ≤ vec_capacity l.kept;
  rest : (stand : List (List ℕ)) → l.fn.origins.items ≡ kept_origins stand l.fn.files.items → (l.origins.items ≡ kept_origins stand l.files.items) × (l.kept.items ++ kept_files stand l.files.items ≡ kept_files stand l.fn.files.items);
}

abbrev pub decreases-loop-file : goal.decreases-loop-file
decreases-loop-file l = length l.files.items
