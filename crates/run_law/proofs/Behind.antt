-- How far the inbox follows a journal.
use Rattle.std.proofs.Common.{◌≡◌, ◌⊎◌, List, [], ◌∷◌, ◌++◌, refl, arith}
use Rattle.std.proofs.lemmas.List.{append-nil}
use Rattle.std.specs.Prelude.{Some}
use Rattle.flowfile_record.specs.NamedFile.{NamedFile}
use Rattle.machine_model.specs.declared.flow.Flow.{Flow}
use Rattle.machine_model.specs.declared.journal.Entry.{Entry}
use Rattle.machine_model.specs.Acknowledged.{steps}
use Rattle.machine_model.specs.State.{Machine}
use Rattle.machine_model.specs.Stepping.{replay}
use Rattle.run_law.specs.Journal.{inbox_left}
use Rattle.run_law.specs.Run.{FewAreLeft, IsLeftBehind}
use Rattle.run_law.specs.declared.ended.Ended.{Ended}
use Rattle.run_law.specs.declared.ended.Ended.TheVariants as ending
use Rattle.run_law.specs.declared.ended.Fault.TheVariants as fault

-- ---- the inbox

abbrev pub LeavesInbox : Flow → Ended → Machine → List Entry → List NamedFile → Type 0
LeavesInbox flow ended opened journal left = (inbox : IsLeftBehind flow opened journal left) × FewAreLeft flow ended inbox.back

module _ (flow : Flow) (ended : Ended) (opened reached : Machine) (journal : List Entry) (left : List NamedFile) (replays : replay flow opened (steps journal) ≡ Some reached) (lies : left ≡ inbox_left reached.world) where
  -- it follows all of it
  pub follows_all : LeavesInbox flow ended opened journal left
  follows_all = (
    record { front = journal; back = []; parts = append-nil journal; behind = reached; replays = replays; is = lies },
    record { most = omega arith; failed = λ some. absurd (some refl) },
  )

  -- or not an entry more, where a device failed
  pub follows_but_one : (entry : Entry) → (ended ≡ ending.Fault fault.Disk) ⊎ (ended ≡ ending.Fault fault.Inbox) → LeavesInbox flow ended opened (journal ++ entry ∷ []) left
  follows_but_one entry failed = (
    record { front = journal; back = entry ∷ []; parts = refl; behind = reached; replays = replays; is = lies },
    record { most = omega arith; failed = λ some. failed },
  )
