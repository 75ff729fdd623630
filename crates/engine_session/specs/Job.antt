-- What a session is handed, and what stands of it in the machine.
use Rattle.std.specs.Prelude.{◌≡◌, ℕ, ◌<◌, List, None, Some, length, map, slice_get}
use Rattle.std.specs.Option.{option_to_list}
use Rattle.flowfile_record.specs.Stored.{Kept}
use Rattle.flowfile_record.specs.declared.content.ContentRef.{ContentRef}
use Rattle.flowfile_record.specs.declared.limits.TheConstants.{NUMBER_LIMIT}
use Rattle.machine_model.specs.declared.flow.Flow.{Flow}
use Rattle.machine_model.specs.declared.flow.Processor.{Processor}
use Rattle.machine_model.specs.Changing.{queued_file}
use Rattle.machine_model.specs.Kinds.{take_rule_of}
use Rattle.machine_model.specs.Laws.{MayTake, received_name}
use Rattle.machine_model.specs.State.{Machine}
use Rattle.machine_model.specs.Stepping.{given_in, taken_files}
use Rattle.processor_api.specs.Acts.{IsGivenTo}
use Rattle.engine_session.specs.Handing.{AreTaken}
use Rattle.engine_session.specs.declared.job.Job.{Job}

-- The processor at its place may be handed this: as many files as its rule takes, live ones of one connection, read
-- where they fit a content, and what it is to be given. It receives the file whose name it is given, if one.
pub record MayHand (flow : Flow) (k : Kept) (job : Job) : Type 0 where
  pub processor : Processor
  pub found : slice_get flow.processors job.processor ≡ Some processor
  pub rule : MayTake (take_rule_of processor.kind) (length job.numbers)
  pub bytes : ContentRef → List ℕ
  pub taken : AreTaken k job.connection job.numbers bytes job.files job.contents
  pub given : IsGivenTo processor.kind job.given
  pub file : received_name processor.kind job.given.file ≡ option_to_list job.given.file
  pub index : job.given.index < NUMBER_LIMIT

-- Where references stand for these bytes, it stands so in the machine's state and world: its rule lets it take these
-- files, and what it is given is what stands. Whether another session comes next is no matter.
pub record JobStandsIn (flow : Flow) (k : Kept) (contents : ContentRef → List ℕ) (before : Machine) (job : Job) : Type 0
  where
    pub processor : Processor
    pub found : slice_get flow.processors job.processor ≡ Some processor
    pub read : AreTaken k job.connection job.numbers contents job.files job.contents
    pub taken : taken_files flow before.state job.processor (take_rule_of processor.kind) job.numbers job.given.moment
        ≡ Some (map (queued_file contents) job.files)
    pub given : given_in processor.kind job.processor before.state before.world (map (queued_file contents) job.files)
        (record job.given { bytes = None }) ≡ Some job.given
