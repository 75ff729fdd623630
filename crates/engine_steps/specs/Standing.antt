-- What a session was handed stands as it stood.
use Rattle.std.specs.Prelude.{◌≡◌, ℕ, Bool, IsTrue, false, List, Option, None, Some, map}
use Rattle.flowfile_record.specs.Stored.{Kept}
use Rattle.flowfile_record.specs.declared.content.ContentRef.{ContentRef}
use Rattle.machine_model.specs.declared.flow.Flow.{Flow}
use Rattle.machine_model.specs.Changing.{queued_file}
use Rattle.machine_model.specs.State.{World}
use Rattle.engine_choice.specs.Laws.{given_for, numbers_in}
use Rattle.engine_session.specs.Handing.{live_files}
use Rattle.engine_session.specs.declared.done.Done.{Done}
use Rattle.engine_steps.specs.Handing.{asks_at, connection_in, there_for}
use Rattle.engine_steps.specs.declared.flight.InFlight.{InFlight}

-- The work is that of the session: on what it takes, with what it is given.
pub record IsOfFlight (done : Done) (flight : InFlight) : Type 0 where
  pub session : done.session ≡ flight.session
  pub processor : done.processor ≡ flight.choice.processor
  pub connection : done.connection ≡ connection_in flight.choice.taking
  pub numbers : done.numbers ≡ numbers_in flight.choice.taking
  pub given : record done.given { bytes = None } ≡ given_for flight.moment done.given.there flight.choice.taking

-- The work is that of the session, its files are the live ones of their numbers, and as far as disk and outbox tell
-- their contents are those that it had, and what it was told of the outbox is so, or no where its processor doesn't ask.
pub record HandedStands (tells out_tells : Bool) (flow : Flow) (k : Kept) (contents : ContentRef → List ℕ)
    (standing : List ℕ → Option (List ℕ)) (flight : InFlight) (done : Done) : Type 0 where
  pub of : IsOfFlight done flight
  pub files : done.files ≡ live_files k done.numbers
  pub bytes : IsTrue tells
      → map (λ source. source.bytes) done.sources ≡ map (λ file. Some (contents file.content)) done.files
  pub there : IsTrue out_tells → (world : World) → world.outbox ≡ standing
      → done.given.there ≡ there_for flow flight.choice.processor world (map (queued_file contents) done.files)
  pub unasked : asks_at flow flight.choice.processor ≡ false → done.given.there ≡ false
