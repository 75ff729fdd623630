-- The settlement as the calls inside make it.
use Rattle.std.specs.Prelude.{ℕ, ◌+◌, ◌<◌, ◌≤◌, ◌^◌, All, List, ◌++◌, map, length, Option, Some, None}
use Rattle.flowfile_record.specs.declared.change.Settled.{Settled}
use Rattle.flowfile_record.specs.declared.flow_file.FlowFile.{FlowFile}
use Rattle.flowfile_record.specs.declared.stored.Counted.{Counted}
use Rattle.flowfile_record.specs.declared.limits.TheConstants.{FILES_MAX, NUMBER_LIMIT}
use Rattle.flowfile_record.specs.declared.worked.Outcome.{Outcome}
use Rattle.machine_model.specs.declared.flow.Flow.{Flow}
use Rattle.machine_model.specs.declared.flow.Processor.{Processor}
use Rattle.machine_model.specs.declared.given.Given.{Given}
use Rattle.machine_model.specs.declared.kind.Kind.{Kind}
use Rattle.machine_model.specs.declared.kind.Kind.TheVariants.{GenerateFlowFile}
use Rattle.machine_model.specs.Placing.{count_made}
use Rattle.settlement.specs.Ending.{EndingPlace, IsWorkedWithin, ended_files}
use Rattle.settlement.specs.Placing.{PlacingFrom, arrived, firsts, returned, wanted}
use Rattle.settlement.specs.Telling.{ToldSession, all_drafts, numbered_wrapping}
use Rattle.settlement.specs.declared.counters.Counters.{Counters}
use Rattle.settlement.specs.declared.file.EndedFile.{EndedFile}
use Rattle.settlement.specs.declared.handed.Ended.{Ended}

abbrev pub ending_place : Flow → Given → Counters → Ended → Processor → EndingPlace
ending_place flow given counters ended processor = record {
  flow = flow;
  place = ended.processor;
  processor = processor;
  store = counters.store;
  moment = given.moment;
  taken = ended.taken;
  sources = ended.sources;
}

abbrev pub placing_at : EndingPlace → (connection next_arrival : ℕ) → PlacingFrom
placing_at at connection next_arrival =
    record { connection = connection; taken = at.taken; next_arrival = next_arrival }

abbrev pub told_of : Processor → List FlowFile → Given → List EndedFile → ToldSession
told_of processor taken given files = record {
  moment = given.moment;
  processor = processor;
  received = given.file;
  taken = taken;
  files = files;
}

abbrev pub generator_count : Kind → (place index : ℕ) → Option Counted
generator_count (GenerateFlowFile count text) place index = Some (record { processor = place; count = index })
generator_count _ place index = None

abbrev pub settled_of : EndingPlace → Given → Counters → (connection : ℕ) → Outcome → Settled
settled_of at given counters connection outcome =
    let files = ended_files at counters.next_number outcome.files in
    let first_clone = counters.next_number + count_made outcome.files in
    let placing = placing_at at connection counters.next_arrival in
    record {
      processor = at.place;
      moment = given.moment;
      gone = map (λ file. file.number) at.taken;
      placed = returned placing files ++ arrived placing first_clone files;
      events = numbered_wrapping (counters.last_event + 1)
          (all_drafts (told_of at.processor at.taken given files) outcome.sent first_clone);
      next_number = first_clone + length (wanted files);
      next_arrival = counters.next_arrival + (length (firsts files) + length (wanted files));
      count = generator_count at.processor.kind at.place given.index;
    }

abbrev pub settled_in : Flow → Given → Counters → Ended → Processor → Settled
settled_in flow given counters ended processor =
    settled_of (ending_place flow given counters ended processor) given counters ended.connection ended.outcome

-- what the calls inside ask for
pub record MayEndAt (at : EndingPlace) (counters : Counters) (outcome : Outcome) : Type 0 where
  pub connections : length at.flow.connections ≤ 2 ^ 16
  pub within : All (IsWorkedWithin at.taken at.sources) outcome.files
  pub few : length outcome.files ≤ FILES_MAX
  pub next_number : counters.next_number < NUMBER_LIMIT
  pub next_arrival : counters.next_arrival < NUMBER_LIMIT
  pub last_event : counters.last_event < NUMBER_LIMIT
