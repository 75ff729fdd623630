-- What each kind of step keeps, all steps and replays keep.
use Rattle.std.proofs.Common.{◌≡◌, ℕ, Bool, true, false, List, [], ◌∷◌, map, length, refl, sym}
use Rattle.std.specs.Prelude.{not, Option, Some, None, IfSome, option_and_then, slice_get}
use Rattle.std.specs.List.{list_all}
use Rattle.std.proofs.lemmas.Bool.{and_parts, true≢false}
use Rattle.std.proofs.lemmas.List.{length-map}
use Rattle.flowfile_record.specs.declared.worked.Outcome.{Outcome}
use Rattle.machine_model.specs.declared.flow.Connection.{Connection}
use Rattle.machine_model.specs.declared.flow.Flow.{Flow}
use Rattle.machine_model.specs.declared.flow.Processor.{Processor}
use Rattle.machine_model.specs.declared.given.Given.{Given}
use Rattle.machine_model.specs.declared.journal.Step.{Step}
use Rattle.machine_model.specs.declared.journal.Step.TheVariants.{Expire, SwapOut, SwapIn, Age}
use Rattle.machine_model.specs.declared.journal.Step.TheVariants as entry
use Rattle.machine_model.specs.State.{QueuedFile, State, Machine}
use Rattle.machine_model.specs.Acting.{act}
use Rattle.machine_model.specs.Making.{TakenFile}
use Rattle.machine_model.specs.Kinds.{take_rule_of}
use Rattle.machine_model.specs.Laws.{HasTaken, EndsAllInTurn, is_aging}
use Rattle.machine_model.specs.Placing.{EndedSession}
use Rattle.machine_model.specs.Settling.{settle}
use Rattle.machine_model.specs.Stepping.{step, replay, session_step, session_of, session_after, after_session, taken_files, given_at, given_in, as_taken, expire_step, swap_out_step, swap_in_step, age_step, same_world}
use Rattle.machine_model.proofs.Acted.{act-ends}
use Rattle.machine_model.proofs.GivenIn.{IsNextIndex, given-index}
use Rattle.machine_model.proofs.Options.{if_and_then, if_map, if_at}
use Rattle.machine_model.proofs.Took.{Took, taken-took}

-- a fact of states that the settlement of each session and the queues' own steps keep
pub record IsKeptUnaged (P : State → Type 0) : Type 0 where
  pub settling : (session : EndedSession) (outcome : Outcome) → HasTaken session
      → IsNextIndex session.processor.kind session.place session.state.counts session.given.index → EndsAllInTurn (length session.taken) outcome → P session.state → P (settle session outcome)
  pub expiry : (state : State) (place : ℕ) (numbers : List ℕ) (moment : ℕ) (connection : Connection) → P state → IfSome (expire_step state place numbers moment connection) P
  pub swap_out : (state : State) (place : ℕ) (numbers : List ℕ) (batch : ℕ) (connection : Connection) → P state → IfSome (swap_out_step state place numbers batch connection) P
  pub swap_in : (state : State) (place batch : ℕ) (connection : Connection) → P state → IfSome (swap_in_step state place batch connection) P

-- a fact that an aging keeps too
pub record IsKept (P : State → Type 0) : Type 0 where
  pub others : IsKeptUnaged P
  pub aging : (state : State) (line : ℕ) → P state → IfSome (age_step state line) P

outcome_of : (own : List QueuedFile) (taken : List TakenFile) (outcome : Outcome) → length taken ≡ length own → EndsAllInTurn (length taken) outcome → EndsAllInTurn (length own) outcome
outcome_of own taken outcome same h = rw same at h

session-kept : (P : State → Type 0) → IsKeptUnaged P → (flow : Flow) (machine : Machine) (place : ℕ) (numbers : List ℕ) (moment : ℕ) (given : Given) (processor : Processor) → P machine.state
    → IfSome (session_step flow machine place numbers moment given processor) (λ after. P after.state)
session-kept P kept flow machine place numbers moment given processor before =
    let rule = take_rule_of processor.kind in
    if_and_then (λ taken. option_and_then (λ given. after_session machine (session_of flow machine place processor taken given))
    (option_and_then (given_in processor.kind place machine.state machine.world taken) (given_at moment given)))
    (taken_files flow machine.state place rule numbers moment) (λ after. P after.state) (λ taken taken_is.
    let took = if_at (taken_files flow machine.state place rule numbers moment) taken (Took machine.state rule) taken_is (taken-took flow machine.state place rule numbers moment) in
    let seen = map (as_taken machine.state) taken in
    let same : length seen ≡ length taken = length-map taken (as_taken machine.state) in
    if_and_then (λ given. after_session machine (session_of flow machine place processor taken given))
    (option_and_then (given_in processor.kind place machine.state machine.world taken) (given_at moment given)) (λ after. P after.state) (λ found found_is.
    let session = session_of flow machine place processor taken found in
    let next = if_at (option_and_then (given_in processor.kind place machine.state machine.world taken) (given_at moment given)) found
    (λ found. IsNextIndex processor.kind place machine.state.counts found.index) found_is (given-index processor.kind place machine.state machine.world taken moment given) in
    if_map (session_after machine session) (act processor.kind seen found) (λ after. P after.state) (λ outcome outcome_is.
    kept.settling session outcome (record { differ = took.differ; there = took.there }) next
    (outcome_of taken seen outcome same (if_at (act processor.kind seen found) outcome (EndsAllInTurn (length seen)) outcome_is (act-ends processor.kind seen found (rw same took.many_enough)))) before)))

in_same_world : (P : State → Type 0) (machine : Machine) (state : Option State) → IfSome state P → IfSome (same_world machine.world state) (λ after. P after.state)
in_same_world P machine None h = tt
in_same_world P machine (Some state) h = h

-- a step that is no aging
unaged-kept : (P : State → Type 0) → IsKeptUnaged P → (flow : Flow) (machine : Machine) (entry : Step) → is_aging entry ≡ false → P machine.state → IfSome (step flow machine entry) (λ after. P after.state)
unaged-kept P kept flow machine (entry.Session processor numbers moment given) other before =
    if_and_then (session_step flow machine processor numbers moment given) (slice_get flow.processors processor) (λ after. P after.state) (λ found is. session-kept P kept flow machine processor numbers moment given found before)
unaged-kept P kept flow machine (Expire place numbers moment) other before =
    in_same_world P machine _ (if_and_then (expire_step machine.state place numbers moment) (slice_get flow.connections place) P (λ found is. kept.expiry machine.state place numbers moment found before))
unaged-kept P kept flow machine (SwapOut place numbers batch) other before =
    in_same_world P machine _ (if_and_then (swap_out_step machine.state place numbers batch) (slice_get flow.connections place) P (λ found is. kept.swap_out machine.state place numbers batch found before))
unaged-kept P kept flow machine (SwapIn place batch) other before =
    in_same_world P machine _ (if_and_then (swap_in_step machine.state place batch) (slice_get flow.connections place) P (λ found is. kept.swap_in machine.state place batch found before))
unaged-kept P kept flow machine (Age line) other before = absurd (true≢false other)

pub step-kept : (P : State → Type 0) → IsKept P → (flow : Flow) (machine : Machine) (entry : Step) → P machine.state → IfSome (step flow machine entry) (λ after. P after.state)
step-kept P kept flow machine (Age line) before = in_same_world P machine _ (kept.aging machine.state line before)
step-kept P kept flow machine (entry.Session processor numbers moment given) before = unaged-kept P kept.others flow machine (entry.Session processor numbers moment given) refl before
step-kept P kept flow machine (Expire place numbers moment) before = unaged-kept P kept.others flow machine (Expire place numbers moment) refl before
step-kept P kept flow machine (SwapOut place numbers batch) before = unaged-kept P kept.others flow machine (SwapOut place numbers batch) refl before
step-kept P kept flow machine (SwapIn place batch) before = unaged-kept P kept.others flow machine (SwapIn place batch) refl before

pub replay-kept : (P : State → Type 0) → IsKept P → (flow : Flow) (machine : Machine) (steps : List Step) → P machine.state → IfSome (replay flow machine steps) (λ after. P after.state)
replay-kept P kept flow machine [] before = before
replay-kept P kept flow machine (first ∷ steps) before =
    if_and_then (λ after. replay flow after steps) (step flow machine first) (λ after. P after.state) (λ after is.
    replay-kept P kept flow after steps (if_at (step flow machine first) after (λ after. P after.state) is (step-kept P kept flow machine first before)))

is_not : (b : Bool) → not b ≡ true → b ≡ false
is_not true h = absurd (true≢false (sym h))
is_not false h = refl

-- a replay without an aging
pub replay-unaged : (P : State → Type 0) → IsKeptUnaged P → (flow : Flow) (machine : Machine) (steps : List Step) → list_all (λ one. not (is_aging one)) steps ≡ true → P machine.state
    → IfSome (replay flow machine steps) (λ after. P after.state)
replay-unaged P kept flow machine [] none before = before
replay-unaged P kept flow machine (first ∷ steps) none before =
    let parts = and_parts (not (is_aging first)) (list_all (λ one. not (is_aging one)) steps) none in
    if_and_then (λ after. replay flow after steps) (step flow machine first) (λ after. P after.state) (λ after is.
    replay-unaged P kept flow after steps parts.1
    (if_at (step flow machine first) after (λ after. P after.state) is (unaged-kept P kept flow machine first (is_not (is_aging first) parts.0) before)))
