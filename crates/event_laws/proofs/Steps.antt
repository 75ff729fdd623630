-- What steps and replays tell.
use Rattle.std.proofs.Common.{◌≡◌, inl, inr, ℕ, ◌+◌, List, [], ◌∷◌, map, length, refl, subst, arith}
use Rattle.std.specs.Prelude.{Option, Some, None, IfSome, option_and_then, slice_get}
use Rattle.std.proofs.lemmas.List.{length-map}
use Rattle.flowfile_record.specs.declared.worked.Outcome.{Outcome}
use Rattle.machine_model.specs.declared.flow.Flow.{Flow}
use Rattle.machine_model.specs.declared.flow.Processor.{Processor}
use Rattle.machine_model.specs.declared.given.Given.{Given}
use Rattle.machine_model.specs.declared.journal.Step.{Step}
use Rattle.machine_model.specs.declared.journal.Step.TheVariants.{Expire, SwapOut, SwapIn, Age}
use Rattle.machine_model.specs.declared.journal.Step.TheVariants as entry
use Rattle.machine_model.specs.Acting.{act}
use Rattle.machine_model.specs.Events.{drafts, numbered_from}
use Rattle.machine_model.specs.Kinds.{take_rule_of}
use Rattle.machine_model.specs.Laws.{HasTaken, EndsAllInTurn}
use Rattle.machine_model.specs.Placing.{EndedSession}
use Rattle.machine_model.specs.Settling.{settle}
use Rattle.machine_model.specs.State.{QueuedFile, State, Machine}
use Rattle.machine_model.specs.Stepping.{step, replay, session_step, session_of, session_after, after_session, taken_files, given_at, given_in, as_taken, expire_step, swap_out_step, swap_in_step, same_world}
use Rattle.machine_model.specs.Valid.{IsValid}
use Rattle.machine_model.proofs.Acted.{act-ends}
use Rattle.machine_model.proofs.Drafted.{session-drafts}
use Rattle.machine_model.proofs.EventRows.{adding-none, adding-on, adds-told}
use Rattle.machine_model.proofs.Options.{if_and_then, if_map, if_at, if_weaker}
use Rattle.machine_model.proofs.Took.{Took, taken-took}
use Rattle.machine_model.proofs.Validity.{step-valid}
use Rattle.event_laws.specs.Told.{TellsOfComing, TellsOfGoing, StepsTellOfComings, StepsTellOfGoings, ReplaysTellOfComings, ReplaysTellOfGoings}
use Rattle.event_laws.proofs.Gone.{goes-told}
use Rattle.event_laws.proofs.Queues.{age-tells, expiry-tells, swap_out-tells, swap_in-tells}
use Rattle.event_laws.proofs.Settled.{comes-told}
use Rattle.event_laws.proofs.Told.{IsTelling, added-told, none-told, both-tell, comings-told, goings-told}

-- a session tells of what comes and goes in its own flow
settling-tells : (session : EndedSession) (outcome : Outcome) → HasTaken session → EndsAllInTurn (length session.taken) outcome → IsTelling session.flow session.state (settle session outcome)
settling-tells session outcome taken ends =
    let state = session.state in
    let after = settle session outcome in
    let told = drafts session outcome in
    let first = state.last_event + 1 in
    let adds = adds-told state after told (session-drafts session outcome) refl refl refl in
    record {
      adds = adding-on state state after (numbered_from first told) (adding-none state) adds (λ raised. absurd (omega arith));
      comes = λ number has. elim (comes-told session outcome number taken ends has) [
        | inl was ↦ inl was
        | inr told_of ↦ inr (added-told state after first told (λ event. TellsOfComing event number) adds told_of)
      ];
      goes = λ valid number has. elim (goes-told session outcome number ends valid.queues has) [
        | inl is ↦ inl is
        | inr told_of ↦ inr (added-told state after first told (λ event. TellsOfGoing event number) adds told_of)
      ];
    }

session-tells : (flow : Flow) (machine : Machine) (place : ℕ) (numbers : List ℕ) (moment : ℕ) (given : Given) (processor : Processor)
    → IfSome (session_step flow machine place numbers moment given processor) (λ after. IsTelling flow machine.state after.state)
session-tells flow machine place numbers moment given processor =
    let rule = take_rule_of processor.kind in
    let given_it = λ (taken : List QueuedFile). option_and_then (given_in processor.kind place machine.state machine.world taken) (given_at moment given) in
    if_and_then (λ taken. option_and_then (λ given. after_session machine (session_of flow machine place processor taken given)) (given_it taken))
    (taken_files flow machine.state place rule numbers moment) (λ after. IsTelling flow machine.state after.state) (λ taken taken_is.
    let took = if_at (taken_files flow machine.state place rule numbers moment) taken (Took machine.state rule) taken_is (taken-took flow machine.state place rule numbers moment) in
    let seen = map (as_taken machine.state) taken in
    let same : length seen ≡ length taken = length-map taken (as_taken machine.state) in
    if_and_then (λ given. after_session machine (session_of flow machine place processor taken given)) (given_it taken) (λ after. IsTelling flow machine.state after.state) (λ found found_is.
    let session = session_of flow machine place processor taken found in
    if_map (session_after machine session) (act processor.kind seen found) (λ after. IsTelling flow machine.state after.state) (λ outcome outcome_is.
    settling-tells session outcome (record { differ = took.differ; there = took.there })
    (subst (λ count. EndsAllInTurn count outcome) same (if_at (act processor.kind seen found) outcome (EndsAllInTurn (length seen)) outcome_is (act-ends processor.kind seen found (rw same took.many_enough)))))))

in_same_world : (P : State → Type 0) (machine : Machine) (state : Option State) → IfSome state P → IfSome (same_world machine.world state) (λ after. P after.state)
in_same_world P machine None h = tt
in_same_world P machine (Some state) h = h

step-tells : (flow : Flow) (machine : Machine) (one : Step) → IfSome (step flow machine one) (λ after. IsTelling flow machine.state after.state)
step-tells flow machine (entry.Session processor numbers moment given) =
    if_and_then (session_step flow machine processor numbers moment given) (slice_get flow.processors processor) (λ after. IsTelling flow machine.state after.state)
    (λ found is. session-tells flow machine processor numbers moment given found)
step-tells flow machine (Expire place numbers moment) =
    let P = IsTelling flow machine.state in
    in_same_world P machine _ (if_and_then (expire_step machine.state place numbers moment) (slice_get flow.connections place) P (λ found is. expiry-tells flow machine.state place numbers moment found))
step-tells flow machine (SwapOut place numbers batch) =
    let P = IsTelling flow machine.state in
    in_same_world P machine _ (if_and_then (swap_out_step machine.state place numbers batch) (slice_get flow.connections place) P (λ found is. swap_out-tells flow machine.state place numbers batch found))
step-tells flow machine (SwapIn place batch) =
    let P = IsTelling flow machine.state in
    in_same_world P machine _ (if_and_then (swap_in_step machine.state place batch) (slice_get flow.connections place) P (λ found is. swap_in-tells flow machine.state place batch found))
step-tells flow machine (Age line) = in_same_world (IsTelling flow machine.state) machine _ (age-tells flow machine.state line)

replay-tells : (flow : Flow) (machine : Machine) (steps : List Step) → IfSome (replay flow machine steps) (λ after. IsTelling flow machine.state after.state)
replay-tells flow machine [] = none-told flow machine.state
replay-tells flow machine (first ∷ steps) =
    if_and_then (λ after. replay flow after steps) (step flow machine first) (λ after. IsTelling flow machine.state after.state) (λ mid is.
    if_weaker (replay flow mid steps) (λ after. IsTelling flow mid.state after.state) (λ after. IsTelling flow machine.state after.state)
    (λ after later. both-tell flow machine.state mid.state after.state
    (λ valid. if_at (step flow machine first) mid (λ after. IsValid flow after.state) is (step-valid flow machine first valid))
    (if_at (step flow machine first) mid (λ after. IsTelling flow machine.state after.state) is (step-tells flow machine first)) later)
    (replay-tells flow mid steps))

-- ---- the laws

pub step-comings : StepsTellOfComings
step-comings flow machine one = if_weaker (step flow machine one) _ _ (λ after telling. comings-told flow machine.state after.state telling) (step-tells flow machine one)

pub step-goings : StepsTellOfGoings
step-goings flow machine one valid = if_weaker (step flow machine one) _ _ (λ after telling. goings-told flow machine.state after.state valid telling) (step-tells flow machine one)

pub replay-comings : ReplaysTellOfComings
replay-comings flow machine steps = if_weaker (replay flow machine steps) _ _ (λ after telling. comings-told flow machine.state after.state telling) (replay-tells flow machine steps)

pub replay-goings : ReplaysTellOfGoings
replay-goings flow machine steps valid = if_weaker (replay flow machine steps) _ _ (λ after telling. goings-told flow machine.state after.state valid telling) (replay-tells flow machine steps)
