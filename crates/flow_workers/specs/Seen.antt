-- What workers share: an engine, the devices that it runs on, and why the run has stopped, if it has.
use Rattle.std.specs.Prelude.{ℕ, Option, None, Some, Result, Ok, Err}
use Rattle.run_law.specs.declared.ended.Ended.{Ended}
use Rattle.run_law.specs.declared.ended.Ended.TheVariants as ended
use Rattle.flow_workers.specs.declared.cause.Cause.{Cause}
use Rattle.flow_workers.specs.declared.cause.Cause.TheVariants.{Blocked, Quiet, Stopped}
use Rattle.engine_steps.specs.Engine.{EngineState}
use Rattle.engine_steps.specs.Errors.{ended_by}
use Rattle.engine_steps.specs.declared.checkout.Checkout.{Checkout}
use Rattle.engine_steps.specs.declared.checkout.Checkout.TheVariants as next
use Rattle.engine_steps.specs.declared.error.EngineError.{EngineError}
use Rattle.engine_steps.specs.declared.error.EngineError.TheVariants.{Limit}

pub record Seen (D I O C : Type 0) : Type 0 where
  pub engine : EngineState
  pub disk : D
  pub inbox : I
  pub outbox : O
  pub clock : C
  pub cause : Option Cause

-- the names of what the devices' owner lent
abbrev pub LentNames : Type 0
LentNames = ℕ × ℕ × ℕ × ℕ

-- .. and which devices these are
pub record AtDesk (D I O C : Type 0) : Type 0 where
  pub seen : Seen D I O C
  pub lent : LentNames

-- ---- why a call stops a run

-- a refusal does
abbrev pub stopped_by : {A : Type 0} → Result A EngineError → Option Cause
stopped_by (Ok answer) = None
stopped_by (Err error) = Some (Stopped error)

-- .. and a checkout, where nothing is left to do, all of it is held back, or the journal is full
abbrev pub ended_by_checkout : Result Checkout EngineError → Option Cause
ended_by_checkout (Err error) = Some (Stopped error)
ended_by_checkout (Ok (next.Limit limit)) = Some (Stopped (Limit limit))
ended_by_checkout (Ok (next.Blocked connection)) = Some (Blocked connection)
ended_by_checkout (Ok next.Quiet) = Some Quiet
ended_by_checkout (Ok next.Due) = None
ended_by_checkout (Ok (next.Session session)) = None
ended_by_checkout (Ok (next.Wait in_flight)) = None
ended_by_checkout (Ok (next.Rest until)) = None

-- ---- a cause that is noted

-- the refusal that is noted, where none stood before
abbrev pub newly_noted : (before now : Option Cause) → Result (Option Cause) EngineError
newly_noted None (Some (Stopped error)) = Err error
newly_noted _ now = Ok now

-- ---- how a run ends by it

abbrev pub ended_of : Cause → Ended
ended_of Quiet = ended.Quiet
ended_of (Blocked connection) = ended.Blocked connection
ended_of (Stopped error) = ended_by error
