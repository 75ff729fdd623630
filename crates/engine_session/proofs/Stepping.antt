-- The step that a session is.
use Rattle.std.proofs.Common.{◌≡◌, ℕ, cond, List, Some, None, Option, refl, sym, ap, ◌∙◌}
use Rattle.std.specs.Prelude.{option_and_then, option_map, is_none}
use Rattle.flowfile_record.specs.declared.worked.Outcome.{Outcome}
use Rattle.machine_model.specs.declared.given.Given.{Given}
use Rattle.machine_model.specs.Changing.{state_after}
use Rattle.machine_model.specs.Placing.{EndedSession}
use Rattle.machine_model.specs.Settling.{settle}
use Rattle.machine_model.specs.State.{QueuedFile, State, World, Machine}
use Rattle.machine_model.specs.Stepping.{after_session, given_in, session_after, session_step, world_after}
use Rattle.machine_model.specs.Stepping as stepping
use Rattle.settlement.specs.Handed.{ended_session}
use Rattle.store_core.specs.State.{state_with}
use Rattle.engine_session.specs.Steps.{SessionsAreSteps, SettledSessionsAreSteps, machine_in}

-- what follows once it is known what the session is given
abbrev continued : (world : World) → EndedSession → List QueuedFile → Given → Option Machine
continued world s taken given =
    after_session (machine_in s.state world) (stepping.session_of s.flow (machine_in s.state world) s.place s.processor taken given)

abbrev on : (world : World) → (moment : ℕ) → Given → EndedSession → Option Given → List QueuedFile → Option Machine
on world moment given s at_moment taken =
    option_and_then (continued world s taken) (option_and_then (given_in s.processor.kind s.place s.state world taken) at_moment)

pub sessions-are-steps : SessionsAreSteps
sessions-are-steps world numbers moment given s outcome is =
    let m : Machine = machine_in s.state world in
    let now : Given = record given { moment = moment } in
    ap (option_and_then (session_step s.flow m s.place numbers moment given)) is.processor
    ∙ ap (option_and_then (on world moment given s (cond (is_none given.bytes) (Some now) None))) is.taken
    ∙ ap (λ (b : Option (List ℕ)). on world moment given s (cond (is_none b) (Some now) None) s.taken) is.no_bytes
    ∙ ap (option_and_then (continued world s s.taken)) is.handed
    ∙ ap (option_map (session_after m s)) is.worked

-- a session doesn't settle by the bytes that it is given
without-bytes : (session : EndedSession) (bytes : Option (List ℕ)) (outcome : Outcome)
    → settle (record session { given = record session.given { bytes = bytes } }) outcome ≡ settle session outcome
without-bytes session bytes outcome = refl

pub settled-sessions-are-steps : SettledSessionsAreSteps
settled-sessions-are-steps flow world numbers moment given handed left ended processor contents events k settled is keeps leaves ranges read row =
    let state : State = state_with contents events k in
    let session : EndedSession = ended_session flow handed ended processor contents state in
    let settles : state_after contents state settled ≡ settle session ended.outcome =
    leaves processor is.processor contents ranges read events row
    ∙ ap (λ (g : Given). settle (ended_session flow g ended processor contents state) ended.outcome) keeps.but_bytes
    ∙ without-bytes session left.bytes ended.outcome in
    let after : State → Option Machine =
    λ s. Some (record { state = s; world = world_after processor.kind world session ended.outcome }) in
    sessions-are-steps world numbers moment given session ended.outcome is ∙ ap after (sym settles)
