-- Tried: a file that goes back into its queue.
use Rattle.std.specs.Prelude.{◌≡◌, ℕ, ◌-◌, ◌^◌, Bool, false, [], ◌∷◌, None, codes}
use Rattle.flowfile_record.specs.Attributes.{AttributeMap}
use Rattle.flowfile_record.specs.declared.worked.Body.TheVariants.{New}
use Rattle.flowfile_record.specs.declared.worked.End.TheVariants.{Back}
use Rattle.flowfile_record.specs.declared.worked.Outcome.{Outcome}
use Rattle.machine_model.specs.declared.kind.Conflict.TheVariants.{Replace}
use Rattle.machine_model.specs.declared.kind.Kind.TheVariants.{PutFile}
use Rattle.machine_model.specs.State.{QueuedFile, State}
use Rattle.machine_model.specs.Acting.{received_attributes}
use Rattle.machine_model.specs.Making.{passed_on}
use Rattle.machine_model.specs.Placing.{EndedSession}
use Rattle.machine_model.specs.Settling.{settle}
use Rattle.machine_examples.specs.Small.{both, processor, wide, get_to_put, a_txt, a_file, state_of, at_moment}

-- a file with a penalty's end
abbrev pub until : (end : ℕ) → QueuedFile
until end = record (a_file 2 2) { penalty_end = end }

abbrev pub three : QueuedFile → State
three middle = state_of ((a_file 1 1 ∷ middle ∷ a_file 3 3 ∷ []) ∷ []) 4 4 (0 ∷ 0 ∷ [])

-- the session took the second file, whose penalty has ended, and ends at a moment
abbrev pub ending_at : ℕ → EndedSession
ending_at moment = record {
  flow = get_to_put Replace wide;
  place = 1;
  processor = processor (codes "put") (PutFile Replace) both;
  state = three (until 1500);
  taken = until 1500 ∷ [];
  given = at_moment moment;
}

abbrev pub back : (penalised : Bool) → Outcome
back penalised =
    record { files = record (passed_on 0 (received_attributes a_txt) penalised 0) { end = Back } ∷ []; sent = None }

-- it stands where it stood, and nothing else has changed
abbrev pub ReturnsUntil : (moment : ℕ) (penalised : Bool) (end : ℕ) → Type 0
ReturnsUntil moment penalised end = settle (ending_at moment) (back penalised) ≡ three (until end)

abbrev pub latest : ℕ
latest = 2 ^ 64 - 1

-- it is what the session has made of it
abbrev pub renamed : AttributeMap
renamed = received_attributes (codes "b")

abbrev pub ReturnsAsMade : Type 0
ReturnsAsMade =
    (settle (ending_at 2000)
    (record { files = record (passed_on 0 renamed false 0) { end = Back; body = New [] } ∷ []; sent = None })).queues
    ≡ (three (record (until 0) { attributes = renamed; bytes = [] })).queues
