-- What the calls inside make of the files of a session: the machine's words, over references in place of bytes.
use Rattle.std.specs.Prelude.{ℕ, ◌+◌, ◌≤◌, min, List, ◌∷◌, map, zip, Option, Some, None}
use Rattle.flowfile_record.specs.Attributes.{encoded_size}
use Rattle.flowfile_record.specs.Outcome.{filename_to_come}
use Rattle.flowfile_record.specs.declared.attributes.TheConstants.{ATTRIBUTES_MAX}
use Rattle.flowfile_record.specs.declared.flow_file.FlowFile.{FlowFile}
use Rattle.flowfile_record.specs.declared.worked.Worked.{Worked}
use Rattle.process_session.specs.declared.file.Source.{Source}
use Rattle.machine_model.specs.declared.flow.Flow.{Flow}
use Rattle.machine_model.specs.declared.flow.Processor.{Processor}
use Rattle.machine_model.specs.Placing as placing
use Rattle.machine_model.specs.Placing.{Destination, goes, least, numbers_from, entered_in, with_filename, penalty_end_of}
use Rattle.settlement.specs.Contents.{body_content, BeginsWithin, IsBodyWithin}
use Rattle.settlement.specs.declared.file.EndedFile.{EndedFile}
use Rattle.settlement.specs.declared.file.Goes.{Goes}
use Rattle.settlement.specs.declared.file.Goes.TheVariants.{Queues, Returns, Drops, Leaves}
use Rattle.settlement.specs.declared.making.Setting.{Setting}

-- ---- where files go

abbrev pub goes_to : Destination → Goes
goes_to (placing.Queues first others) = Queues first others
goes_to placing.Returns = Returns
goes_to (placing.Drops relationship) = Drops relationship
goes_to placing.Leaves = Leaves

-- what is asked of a file that a session ends with
pub record IsWorkedWithin (taken : List FlowFile) (sources : List Source) (file : Worked) : Type 0 where
  pub body : IsBodyWithin sources file.body
  pub begins : BeginsWithin taken file.body
  pub named : encoded_size file.attributes + filename_to_come file.origin file.attributes ≤ ATTRIBUTES_MAX

-- ---- files

-- where and when a session ended, and over which files
pub record EndingPlace : Type 0 where
  pub flow : Flow
  pub place : ℕ
  pub processor : Processor
  pub store : ℕ
  pub moment : ℕ
  pub taken : List FlowFile
  pub sources : List Source

abbrev pub place_of : Setting → EndingPlace
place_of setting = record {
  flow = setting.flow.now;
  place = setting.place;
  processor = setting.processor.now;
  store = setting.store;
  moment = setting.moment;
  taken = setting.taken.now;
  sources = setting.sources.now;
}

-- a file with the attributes that it has from now on
abbrev pub named_file : (store number : ℕ) → Worked → Worked
named_file store number file =
    record file { attributes = with_filename file.origin store number file.attributes }

abbrev pub ended_file : EndingPlace → ℕ × ℕ × Worked → EndedFile
ended_file at (number, entered, worked) = record {
  number = number;
  worked = named_file at.store number worked;
  content = body_content at.taken at.sources worked.body;
  entered = entered;
  penalty_end = penalty_end_of worked.penalised at.moment at.processor.penalty;
  goes = goes_to (goes at.flow at.place at.processor worked.«end»);
}

abbrev pub ended_files : EndingPlace → (next : ℕ) → List Worked → List EndedFile
ended_files at next files =
    let numbers = numbers_from next (map (λ file. file.number) at.taken) files in
    let entered = entered_in at.moment (map (λ file. file.entered) at.taken) files in
    map (λ f. ended_file at (f.0, f.1.0, f.1.1)) (zip numbers (zip entered files))

-- ---- a step of the code

-- the least so far, and one moment more
abbrev pub least_with : Option ℕ → ℕ → ℕ
least_with None moment = moment
least_with (Some least) moment = min least moment

-- the least of it and of further moments
abbrev pub least_from : Option ℕ → List ℕ → ℕ
least_from None moments = least moments
least_from (Some first) moments = least (first ∷ moments)
