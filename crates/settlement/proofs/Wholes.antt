-- That what the calls inside make is the whole settlement.
use Rattle.std.proofs.Common.{◌≡◌, ℕ, ◌+◌, List, ◌++◌, map, length, ap, ◌∙◌}
use Rattle.std.specs.Prelude.{Option}
use Rattle.flowfile_record.specs.declared.change.Settled.{Settled}
use Rattle.flowfile_record.specs.declared.event.Event.{Event}
use Rattle.flowfile_record.specs.declared.stored.Counted.{Counted}
use Rattle.flowfile_record.specs.declared.stored.Placed.{Placed}
use Rattle.flowfile_record.specs.declared.worked.Outcome.{Outcome}
use Rattle.machine_model.specs.declared.given.Given.{Given}
use Rattle.machine_model.specs.Placing.{count_made}
use Rattle.settlement.specs.Ending.{EndingPlace, ended_files}
use Rattle.settlement.specs.Placing.{arrived, firsts, returned, wanted}
use Rattle.settlement.specs.Telling.{all_drafts, numbered_wrapping}
use Rattle.settlement.specs.Whole.{generator_count, placing_at, settled_of, told_of}
use Rattle.settlement.specs.declared.counters.Counters.{Counters}
use Rattle.settlement.specs.declared.file.EndedFile.{EndedFile}

pub settled_is : (at : EndingPlace) (given : Given) (counters : Counters) (connection : ℕ) (outcome : Outcome) (files : List EndedFile) (made first clones : ℕ) (gone : List ℕ) (placed : List Placed) (events : List Event)
    (count : Option Counted) → files ≡ ended_files at counters.next_number outcome.files → made ≡ count_made outcome.files
    → placed ≡ returned (placing_at at connection counters.next_arrival) files ++ arrived (placing_at at connection counters.next_arrival) (counters.next_number + made) files
    → events ≡ numbered_wrapping (counters.last_event + 1) (all_drafts (told_of at.processor at.taken given files) outcome.sent (counters.next_number + made))
    → gone ≡ map (λ file. file.number) at.taken → first ≡ length (firsts files) → clones ≡ length (wanted files) → count ≡ generator_count at.processor.kind at.place given.index
    → ◌≡◌ {A = Settled}
    (record {
      processor = at.place;
      moment = given.moment;
      gone = gone;
      placed = placed;
      events = events;
      next_number = counters.next_number + made + clones;
      next_arrival = counters.next_arrival + (first + clones);
      count = count;
    }) (settled_of at given counters connection outcome)
settled_is at given counters connection outcome files made first clones gone placed events count files_are made_is placed_are events_are gone_is first_is clones_are count_is =
    let placing = placing_at at connection counters.next_arrival in
    let placed_all = placed_are ∙ (λ i. returned placing (files_are i) ++ arrived placing (counters.next_number + made_is i) (files_are i)) in
    let events_all = events_are ∙ (λ i. numbered_wrapping (counters.last_event + 1) (all_drafts (told_of at.processor at.taken given (files_are i)) outcome.sent (counters.next_number + made_is i))) in
    let clones_all : clones ≡ length (wanted (ended_files at counters.next_number outcome.files)) = clones_are ∙ ap (λ xs. length (wanted xs)) files_are in
    let first_all : first ≡ length (firsts (ended_files at counters.next_number outcome.files)) = first_is ∙ ap (λ xs. length (firsts xs)) files_are in
    λ i. record {
      processor = at.place;
      moment = given.moment;
      gone = gone_is i;
      placed = placed_all i;
      events = events_all i;
      next_number = counters.next_number + made_is i + clones_all i;
      next_arrival = counters.next_arrival + (first_all i + clones_all i);
      count = count_is i;
    }
