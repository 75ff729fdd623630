-- Tried: what is forgotten up to a line, and how events and kin are numbered past one.
use Rattle.std.specs.Prelude.{◌≡◌, ℕ, Bool, [], ◌∷◌, Option, Some, None, codes}
use Rattle.std.specs.FinSet.{contains, from_list}
use Rattle.flowfile_record.specs.declared.event.Event.{Event}
use Rattle.machine_model.specs.declared.journal.Step.TheVariants.{Age}
use Rattle.machine_model.specs.declared.kind.Conflict.TheVariants.{Replace}
use Rattle.machine_model.specs.Due.{due_aging}
use Rattle.machine_model.specs.Settling.{settle}
use Rattle.machine_model.specs.State.{State}
use Rattle.machine_model.specs.Stepping.{step}
use Rattle.machine_examples.specs.Clones.{clone_of, ending, one_file, with_four_clones}
use Rattle.machine_examples.specs.Small.{hi, wide, get_to_put, machine, nothing, state_of}

-- ---- three events around a line, of which two tell of kin

abbrev pub cloned : (number clone : ℕ) → Event
cloned number clone = clone_of number 2000 (codes "dup") 1 clone hi

abbrev pub around : (last_event : ℕ) → State
around last_event =
    record (state_of ([] ∷ []) 9 9 (0 ∷ 0 ∷ [])) {
      events = cloned 9_999 2 ∷ cloned 10_000 3 ∷ cloned 10_001 4 ∷ [];
      kin = from_list ((2, 1, 9_999) ∷ (3, 1, 10_000) ∷ (4, 1, 10_001) ∷ []);
      last_event = last_event;
    }

-- the event at the line is gone, and that behind it is left
abbrev pub behind : (last_event : ℕ) → State
behind last_event =
    record (around last_event) {
      line = 10_000;
      events = cloned 10_001 4 ∷ [];
      kin = from_list ((4, 1, 10_001) ∷ []);
    }

abbrev pub AgeGives : State → (line : ℕ) → Option State → Type 0
AgeGives before line None = step (get_to_put Replace wide) (machine before nothing) (Age line) ≡ None
AgeGives before line (Some after) =
    step (get_to_put Replace wide) (machine before nothing) (Age line) ≡ Some (machine after nothing)

abbrev pub AgingIs : (kept line last_event : ℕ) → Option ℕ → Type 0
AgingIs kept line last_event answer = due_aging kept line last_event ≡ answer

-- ---- four clones past a line: each is a child by the event that tells of it

abbrev pub past_line : State
past_line = settle (record ending { state = record one_file { line = 10_000; last_event = 10_003 } }) with_four_clones

abbrev pub NumbersGoOn : Type 0
NumbersGoOn =
    (past_line.events ≡ cloned 10_004 2 ∷ cloned 10_005 3 ∷ cloned 10_006 4 ∷ cloned 10_007 5 ∷ [])
    × (past_line.last_event ≡ 10_007)

abbrev pub IsChildBy : (child event : ℕ) → Bool → Type 0
IsChildBy child event answer = contains past_line.kin (child, 1, event) ≡ answer
