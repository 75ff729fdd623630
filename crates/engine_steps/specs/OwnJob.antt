-- The job of a session in flight.
use Rattle.std.specs.Prelude.{ℕ, Bool, Contains, List, Option}
use Rattle.flowfile_record.specs.NamedFile.{NamedFile}
use Rattle.flowfile_record.specs.declared.content.ContentRef.{ContentRef}
use Rattle.store_core.specs.Store.{kept_by}
use Rattle.engine_session.specs.Job.{MayHand}
use Rattle.engine_session.specs.declared.job.Job.{Job}
use Rattle.engine_steps.specs.Engine.{EngineState}
use Rattle.engine_steps.specs.Handing.{JobIsHanded, IsHandedAs}
use Rattle.engine_steps.specs.declared.flight.InFlight.{InFlight}

-- The session is in flight, and this is its job, as that is handed it: of disk, inbox and outbox, as far as each tells,
-- what they hold.
pub record IsJobOf (tells in_tells out_tells : Bool) (e : EngineState) (contents : ContentRef → List ℕ)
    (left : List NamedFile) (standing : List ℕ → Option (List ℕ)) (flight : InFlight) (job : Job) : Type 0 where
  pub flying : Contains e.out flight
  pub handed : JobIsHanded (kept_by e.store) flight job
  pub told : IsHandedAs tells in_tells out_tells e.flow (kept_by e.store) contents left standing flight.choice job
  pub may : MayHand e.flow (kept_by e.store) job
