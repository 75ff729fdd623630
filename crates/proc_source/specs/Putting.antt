-- What the calls below a PutFile find, and what they leave.
use Rattle.std.specs.Prelude.{◌≡◌, ℕ, [], ◌∷◌, Bool, Option, None, IfSome}
use Rattle.flowfile_record.specs.Attributes.{AttributeMap}
use Rattle.flowfile_record.specs.declared.worked.Outcome.{Outcome}
use Rattle.flowfile_record.specs.declared.worked.Sent.{Sent}
use Rattle.machine_model.specs.Making.{passed_on}
use Rattle.process_session.specs.Bench.{Bench, taken_file}
use Rattle.process_session.specs.declared.file.Taken.{Taken}

-- a session of two relationships that took one file and did nothing with it, but for a put
pub record HasOneTaken (bench : Bench) : Type 0 where
  pub taken : Taken
  pub relationships : bench.relationships ≡ 2
  pub only : bench.files ≡ taken_file 0 taken ∷ []
  pub sent : IfSome bench.sent (λ sent. sent.place ≡ 0)

-- the taken file, passed on, and the put
abbrev pub passed_and_put : Option Sent → AttributeMap → (penalised : Bool) → (relationship : ℕ) → Outcome
passed_and_put sent attributes penalised relationship =
    record { files = passed_on 0 attributes penalised relationship ∷ []; sent = sent }
