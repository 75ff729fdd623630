-- That neither the line nor a counter falls, that store and inbox stay, and which names are left.
use Rattle.std.proofs.Common.{◌≡◌, ℕ, zero, suc, ◌≤◌, Bool, true, false, cond, not, List, [], ◌∷◌, ◌++◌, map, refl, sym, ap, ◌∙◌, arith}
use Rattle.std.specs.Prelude.{◌==◌, ◌||◌, bytes_eq, Option, Some, None, IfSome, filter, option_and_then, slice_get, slice_index, slice_set}
use Rattle.std.specs.Option.{option_map_or}
use Rattle.std.proofs.lemmas.Bool.{and_parts, eqb-true}
use Rattle.flowfile_record.specs.declared.worked.Outcome.{Outcome}
use Rattle.machine_model.specs.declared.flow.Flow.{Flow}
use Rattle.machine_model.specs.declared.flow.Processor.{Processor}
use Rattle.machine_model.specs.declared.given.Given.{Given}
use Rattle.machine_model.specs.declared.journal.Step.TheVariants.{Expire, SwapOut, SwapIn, Age}
use Rattle.machine_model.specs.declared.journal.Step.TheVariants as entry
use Rattle.machine_model.specs.declared.kind.Kind.{Kind}
use Rattle.machine_model.specs.declared.kind.Kind.TheVariants.{GetFile, GenerateFlowFile}
use Rattle.machine_model.specs.Acting.{act}
use Rattle.machine_model.specs.Kinds.{take_rule_of, is_among}
use Rattle.machine_model.specs.Laws.{GoesOn, StepsGoOn, ReplaysGoOn, LosesNames, StepsLoseNames, ReplaysLoseNames, received_name, names_of_step, names_taken}
use Rattle.machine_model.specs.Placing.{EndedSession}
use Rattle.machine_model.specs.Settling.{counts_after}
use Rattle.machine_model.specs.State.{QueuedFile, State, World, Machine}
use Rattle.machine_model.specs.Stepping.{step, replay, session_step, session_of, session_after, after_session, taken_files, given_at, given_in, as_taken, world_after, without_name, same_world, aged, expired}
use Rattle.machine_model.proofs.EventRows.{may_age}
use Rattle.machine_model.proofs.GivenIn.{IsNextIndex, given-file}
use Rattle.machine_model.proofs.Options.{if_and_then, if_map, if_at, if_when, if_weaker}
use Rattle.machine_model.proofs.Preserved.{IsKept, step-kept, replay-kept}

-- ---- the line and counters

raised : (counts : List ℕ) (at index place : ℕ) → slice_index counts at ≤ index → slice_index counts place ≤ slice_index (slice_set counts at index) place
raised [] at index place le = omega arith
raised (count ∷ counts) zero index zero le = le
raised (count ∷ counts) zero index (suc place) le = omega arith
raised (count ∷ counts) (suc at) index zero le = omega arith
raised (count ∷ counts) (suc at) index (suc place) le = raised counts at index place le

counts-go-on : (kind : Kind) (at index : ℕ) (counts : List ℕ) (place : ℕ) → IsNextIndex kind at counts index → slice_index counts place ≤ slice_index (counts_after kind at index counts) place
counts-go-on (GenerateFlowFile count text) at index counts place is = raised counts at index place (omega arith)
counts-go-on _ at index counts place is = omega arith

goes-on-kept : (before : State) → IsKept (GoesOn before)
goes-on-kept before = record {
  others = record {
    settling = λ session outcome taken next ends h. record {
      store = h.store;
      line = h.line;
      next_number = omega (arith, h.next_number);
      next_arrival = omega (arith, h.next_arrival);
      next_batch = h.next_batch;
      last_event = omega (arith, h.last_event);
      counts = λ place. omega (arith, h.counts place, counts-go-on session.processor.kind session.place session.given.index session.state.counts place next);
    };
    expiry = λ state place numbers moment connection h. if_when _ (expired state place connection numbers moment) (GoesOn before) (λ _. record {
      store = h.store;
      line = h.line;
      next_number = h.next_number;
      next_arrival = h.next_arrival;
      next_batch = h.next_batch;
      last_event = omega (arith, h.last_event);
      counts = h.counts;
    });
    swap_out = λ state place numbers batch connection h. if_when _ _ (GoesOn before) (λ passes. record {
      store = h.store;
      line = h.line;
      next_number = h.next_number;
      next_arrival = h.next_arrival;
      next_batch = omega (arith, h.next_batch, eqb-true batch state.next_batch (and_parts _ (batch == state.next_batch) passes).1);
      last_event = h.last_event;
      counts = h.counts;
    });
    swap_in = λ state place batch connection h. if_when _ _ (GoesOn before) (λ _. record {
      store = h.store;
      line = h.line;
      next_number = h.next_number;
      next_arrival = h.next_arrival;
      next_batch = h.next_batch;
      last_event = h.last_event;
      counts = h.counts;
    });
  };
  aging = λ state line h. if_when _ (aged state line) (GoesOn before) (λ passes. record {
    store = h.store;
    line = omega (arith, h.line, (may_age state line passes).higher);
    next_number = h.next_number;
    next_arrival = h.next_arrival;
    next_batch = h.next_batch;
    last_event = h.last_event;
    counts = h.counts;
  });
}

at-once : (state : State) → GoesOn state state
at-once state = record { store = refl; line = omega arith; next_number = omega arith; next_arrival = omega arith; next_batch = omega arith; last_event = omega arith; counts = λ place. omega arith }

pub step-goes-on : StepsGoOn
step-goes-on flow machine one = step-kept (GoesOn machine.state) (goes-on-kept machine.state) flow machine one (at-once machine.state)

pub replay-goes-on : ReplaysGoOn
replay-goes-on flow machine steps = replay-kept (GoesOn machine.state) (goes-on-kept machine.state) flow machine steps (at-once machine.state)

-- ---- names

nothing-lost : (names : List (List ℕ)) → names ≡ filter (λ name. not (is_among name [])) names
nothing-lost [] = refl
nothing-lost (name ∷ names) = ap (λ rest. name ∷ rest) (nothing-lost names)

or-false : (b : Bool) → b ≡ (b || false)
or-false true = refl
or-false false = refl

one-lost : (name : List ℕ) (names : List (List ℕ)) → without_name names name ≡ filter (λ other. not (is_among other (name ∷ []))) names
one-lost name names = λ i. filter (λ other. not (or-false (bytes_eq other name) i)) names

left-after : (kind : Kind) (world : World) (session : EndedSession) (outcome : Outcome) (file : Option (List ℕ)) → session.given.file ≡ file
    → (world_after kind world session outcome).left ≡ filter (λ name. not (is_among name (received_name kind file))) world.left
left-after (GetFile filter) world session outcome None is = ap (λ file. option_map_or (without_name world.left) file world.left) is ∙ nothing-lost world.left
left-after (GetFile filter) world session outcome (Some name) is = ap (λ file. option_map_or (without_name world.left) file world.left) is ∙ one-lost name world.left
left-after _ world session outcome file is = nothing-lost world.left

session-loses : (flow : Flow) (machine : Machine) (place : ℕ) (numbers : List ℕ) (moment : ℕ) (given : Given) (processor : Processor)
    → IfSome (session_step flow machine place numbers moment given processor) (λ after. LosesNames (received_name processor.kind given.file) machine.world after.world)
session-loses flow machine place numbers moment given processor =
    let P : Machine → Type 0 = λ after. LosesNames (received_name processor.kind given.file) machine.world after.world in
    let givens : List QueuedFile → Option Given = λ taken. option_and_then (given_in processor.kind place machine.state machine.world taken) (given_at moment given) in
    if_and_then (λ taken. option_and_then (λ given. after_session machine (session_of flow machine place processor taken given)) (givens taken))
    (taken_files flow machine.state place (take_rule_of processor.kind) numbers moment) P (λ taken taken_is.
    if_and_then (λ given. after_session machine (session_of flow machine place processor taken given)) (givens taken) P (λ found found_is.
    let session = session_of flow machine place processor taken found in
    let same : found.file ≡ given.file = if_at (givens taken) found (λ found. found.file ≡ given.file) found_is (given-file processor.kind place machine.state machine.world taken moment given) in
    if_map (session_after machine session) (act processor.kind (map (as_taken machine.state) taken) found) P (λ outcome outcome_is.
    record { inbox = refl; left = left-after processor.kind machine.world session outcome given.file same })))

stays : (machine : Machine) (state : Option State) → IfSome (same_world machine.world state) (λ after. LosesNames [] machine.world after.world)
stays machine None = tt
stays machine (Some state) = record { inbox = refl; left = nothing-lost machine.world.left }

named : (flow : Flow) (machine : Machine) (processor : ℕ) (numbers : List ℕ) (moment : ℕ) (given : Given) (found : Option Processor)
    → IfSome (option_and_then (session_step flow machine processor numbers moment given) found)
    (λ after. LosesNames (option_map_or (λ (p : Processor). received_name p.kind given.file) found []) machine.world after.world)
named flow machine processor numbers moment given None = tt
named flow machine processor numbers moment given (Some found) = session-loses flow machine processor numbers moment given found

pub step-loses : StepsLoseNames
step-loses flow machine (entry.Session processor numbers moment given) = named flow machine processor numbers moment given (slice_get flow.processors processor)
step-loses flow machine (Expire place numbers moment) = stays machine _
step-loses flow machine (SwapOut place numbers batch) = stays machine _
step-loses flow machine (SwapIn place batch) = stays machine _
step-loses flow machine (Age line) = stays machine _

-- ---- replays

among-joined : (name : List ℕ) (names others : List (List ℕ)) → is_among name (names ++ others) ≡ (is_among name names || is_among name others)
among-joined name [] others = refl
among-joined name (other ∷ names) others = ap (λ b. bytes_eq name other || b) (among-joined name names others) ∙ sym (or-assoc (bytes_eq name other) _ _)
  where
    or-assoc : (a b c : Bool) → ((a || b) || c) ≡ (a || (b || c))
    or-assoc true b c = refl
    or-assoc false b c = refl

lost-twice : (taken more names : List (List ℕ)) → filter (λ name. not (is_among name more)) (filter (λ name. not (is_among name taken)) names) ≡ filter (λ name. not (is_among name (taken ++ more))) names
lost-twice taken more [] = refl
lost-twice taken more (name ∷ names) =
    let rest = lost-twice taken more names in
    let first = filter (λ name. not (is_among name taken)) names in
    let both = filter (λ name. not (is_among name (taken ++ more))) names in
    let later = filter (λ name. not (is_among name more)) in
    rw (among-joined name taken more)
    (elim (is_among name taken) as (λ a. later (cond (not a) (name ∷ first) first) ≡ cond (not (a || is_among name more)) (name ∷ both) both) [
      | true ↦ rest
      | false ↦ elim (is_among name more) as (λ b. cond (not b) (name ∷ later first) (later first) ≡ cond (not b) (name ∷ both) both) [ true ↦ rest | false ↦ ap (λ xs. name ∷ xs) rest ]
    ])

loses-on : (taken more : List (List ℕ)) (before middle after : World) → LosesNames taken before middle → LosesNames more middle after → LosesNames (taken ++ more) before after
loses-on taken more before middle after h k = record {
  inbox = k.inbox ∙ h.inbox;
  left = k.left ∙ ap (filter (λ name. not (is_among name more))) h.left ∙ lost-twice taken more before.left;
}

pub replay-loses : ReplaysLoseNames
replay-loses flow machine [] = record { inbox = refl; left = nothing-lost machine.world.left }
replay-loses flow machine (first ∷ steps) =
    let P : Machine → Type 0 = λ after. LosesNames (names_taken flow (first ∷ steps)) machine.world after.world in
    if_and_then (λ after. replay flow after steps) (step flow machine first) P (λ middle middle_is.
    let lost = if_at (step flow machine first) middle (λ after. LosesNames (names_of_step flow first) machine.world after.world) middle_is (step-loses flow machine first) in
    if_weaker (replay flow middle steps) (λ after. LosesNames (names_taken flow steps) middle.world after.world) P
    (λ after more. loses-on (names_of_step flow first) (names_taken flow steps) machine.world middle.world after.world lost more) (replay-loses flow middle steps))
