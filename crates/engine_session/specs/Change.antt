-- What a session changes: the store's state, and what it sends.
use Rattle.std.specs.Prelude.{◌≡◌, ⊤, ℕ, List, [], ◌∷◌, ◌++◌, Option, None, Some}
use Rattle.flowfile_record.specs.NamedFile.{NamedFile, with_file, without}
use Rattle.flowfile_record.specs.Ranges.{HaveRanges}
use Rattle.flowfile_record.specs.Stored.{Kept}
use Rattle.flowfile_record.specs.declared.content.ContentRef.{ContentRef}
use Rattle.machine_model.specs.declared.flow.Flow.{Flow}
use Rattle.machine_model.specs.declared.given.Given.{Given}
use Rattle.machine_model.specs.declared.journal.Step.{Step}
use Rattle.machine_model.specs.declared.journal.Step.TheVariants.{Session}
use Rattle.machine_model.specs.Changing.{HaveDigests, state_after}
use Rattle.machine_model.specs.State.{Machine}
use Rattle.machine_model.specs.Stepping.{step, without_name}
use Rattle.machine_model.specs.Valid.{IsValid}
use Rattle.engine_change.specs.Committing.{TellsOfSession}
use Rattle.engine_choice.specs.Choice.{coming_of}
use Rattle.engine_session.specs.Handing.{AreTaken}
use Rattle.run_law.specs.Journal.{inbox_left}
use Rattle.run_law.specs.Puts.{IsPutBy, Outgoing}
use Rattle.run_law.specs.Run.{IsPutStep, IsStateOf, StepBrings}
use Rattle.engine_session.specs.Job.{JobStandsIn}
use Rattle.engine_session.specs.Sending.{sending_of}
use Rattle.engine_session.specs.declared.change.Changed.{Changed}
use Rattle.engine_session.specs.declared.change.Sending.{Sending}
use Rattle.engine_session.specs.declared.done.Done.{Done}
use Rattle.engine_session.specs.declared.job.Job.{Job}

-- an outbox once this was sent: it stands there, and was put
abbrev pub with_sending : Option Sending → Outgoing → Outgoing
with_sending None out = out
with_sending (Some sending) out = record {
  standing = with_file out.standing sending.name sending.bytes;
  puts = out.puts ++ record { name = sending.name; bytes = sending.bytes } ∷ [];
}

-- without the file of this name, if there is one
abbrev pub without_received : Option (List ℕ) → List NamedFile → List NamedFile
without_received None files = files
without_received (Some name) files = without name files

abbrev pub names_without : Option (List ℕ) → List (List ℕ) → List (List ℕ)
names_without None names = names
names_without (Some name) names = without_name names name

-- the name that a session is given, without the bytes
abbrev pub without_bytes : Given → Given
without_bytes given = record given { bytes = None }

-- the step of the machine that the session is
abbrev pub step_of : Job → Step
step_of job = Session job.processor job.numbers job.given.moment (without_bytes job.given)

-- what is sent is what this session of a PutFile puts
abbrev pub IsSentBy : Flow → Machine → Step → Option Sending → Type 0
IsSentBy flow before one None = ⊤
IsSentBy flow before one (Some sending) = IsPutStep flow before one sending.name

-- It tells of the session of this work, and what is sent is what the processor sent, with the bytes of the first file
-- that it took.
pub record TellsOfWork (done : Done) (changed : Changed) : Type 0 where
  pub session : TellsOfSession done.processor done.given.moment done.files changed.settled
  pub sending : changed.sending ≡ sending_of done.outcome.sent done.sources

-- It is a step of the machine. Behind it the state is that behind the change, which brings anew what the step wrote;
-- the inbox has lost the file that the session was given, if one, and the outbox has what it sends.
pub record IsStepOf (flow : Flow) (contents : ContentRef → List ℕ) (before : Machine) (job : Job) (changed : Changed)
    : Type 0 where
  pub after : Machine
  pub goes : step flow before (step_of job) ≡ Some after
  pub state : state_after contents before.state changed.settled ≡ after.state
  pub brings : StepBrings flow before (step_of job) changed.settled
  pub inbox : inbox_left after.world ≡ without_received job.given.file (inbox_left before.world)
  pub coming : coming_of after.world ≡ names_without job.given.file (coming_of before.world)
  pub outbox : (out : Outgoing) → out.standing ≡ before.world.outbox
      → IsPutBy flow before (step_of job) after out (with_sending changed.sending out)
  pub sent : IsSentBy flow before (step_of job) changed.sending

-- wherever what the session was handed stands so, and ranges of contents stand for ranges of their bytes, it is such a
-- step
abbrev pub MakesStep : Flow → Kept → Job → Changed → Type 0
MakesStep flow k job changed =
    (contents : ContentRef → List ℕ) (before : Machine) → HaveRanges contents → IsStateOf before contents k
    → IsValid flow before.state → JobStandsIn flow k contents before job → IsStepOf flow contents before job changed

-- where the files of its job stand so, each placed content that is in the store has the digest of its bytes
abbrev pub TellsDigests : Kept → Job → Changed → Type 0
TellsDigests k job changed =
    (contents : ContentRef → List ℕ) → HaveRanges contents
    → AreTaken k job.connection job.numbers contents job.files job.contents
    → HaveDigests contents changed.settled.placed
