-- Tried: what a change makes of a state, where references stand for bytes.
use Rattle.std.specs.Prelude.{◌≡◌, ℕ, List, [], ◌∷◌, Some, codes}
use Rattle.std.specs.FinMap.{empty}
use Rattle.flowfile_record.specs.declared.change.Settled.{Settled}
use Rattle.flowfile_record.specs.declared.content.ContentRef.{ContentRef}
use Rattle.flowfile_record.specs.declared.stored.Fresh.{Fresh}
use Rattle.flowfile_record.specs.declared.stored.Fresh.TheVariants.{No, Bytes, Staged, As}
use Rattle.flowfile_record.specs.declared.stored.Placed.{Placed}
use Rattle.machine_model.specs.State.{State}
use Rattle.machine_model.specs.Changing.{state_after}
use Rattle.machine_examples.specs.Clones.{clone_of}
use Rattle.machine_examples.specs.Small.{hi, a_file, waiting, kin_of, state_of}

-- a reference stands for one byte, its slot
abbrev pub contents : ContentRef → List ℕ
contents content = content.slot ∷ []

abbrev pub new_placed : (connection number arrival slot : ℕ) → Fresh → Placed
new_placed connection number arrival slot fresh = record {
  connection = connection;
  file = record {
    number = number;
    attributes = empty;
    content = record { slot = slot; offset = 0; size = 1; digest = [] };
    entered = 1000;
    penalty_end = 0;
    arrival = arrival;
  };
  fresh = fresh;
}

-- File 1 is gone from the first queue, and file 5 is placed there before file 6, by its arrival. Into the second queue
-- go one file whose content is in the store, one with bytes of its own, and one that shares these.
abbrev pub change : Settled
change = record {
  processor = 1;
  moment = 2000;
  gone = 1 ∷ [];
  placed =
      new_placed 1 7 7 40 No ∷ new_placed 1 8 8 0 (Bytes hi) ∷ new_placed 1 9 9 0 (As 1) ∷ new_placed 0 5 2 50 Staged
      ∷ [];
  events = clone_of 4 2000 (codes "dup") 1 9 hi ∷ [];
  next_number = 10;
  next_arrival = 11;
  count = Some (record { processor = 1; count = 3 });
}

abbrev pub before : State
before = record (state_of ((a_file 1 1 ∷ a_file 6 6 ∷ []) ∷ [] ∷ []) 7 7 (2 ∷ 2 ∷ [])) { last_event = 3 }

abbrev pub after : State
after =
    record (state_of ((waiting 5 2 empty (50 ∷ []) ∷ a_file 6 6 ∷ [])
    ∷ (waiting 7 7 empty (40 ∷ []) ∷ waiting 8 8 empty hi ∷ waiting 9 9 empty hi ∷ []) ∷ []) 10 11 (2 ∷ 3 ∷ [])) {
      events = clone_of 4 2000 (codes "dup") 1 9 hi ∷ [];
      kin = kin_of ((9, 1, 4) ∷ []);
      last_event = 4;
    }

abbrev pub ChangeGives : Type 0
ChangeGives = state_after contents before change ≡ after
