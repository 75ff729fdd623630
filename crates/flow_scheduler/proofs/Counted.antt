-- How many names of the inbox are left: those to come, and those of files that are too large, which no step takes.
use Rattle.std.proofs.Common.{◌≡◌, ℕ, suc, ◌+◌, Bool, true, false, cond, not, List, [], ◌∷◌, length, filter, refl, ap, ◌∙◌, arith}
use Rattle.std.specs.Prelude.{◌||◌, ◌&&◌, bytes_eq, find, nat_le, is_none, is_some, Option, Some, None, IfSome, option_and_then, slice_get, slice_index}
use Rattle.std.specs.Option.{option_map_or}
use Rattle.std.proofs.lemmas.Bool.{and_parts}
use Rattle.std.proofs.lemmas.List.{length-map}
use Rattle.std.proofs.lemmas.Slice.Eq.{bytes_eq-Decides}
use Rattle.flowfile_record.specs.NamedFile.{NamedFile, bytes_of}
use Rattle.flowfile_record.specs.declared.TheConstants.{CONTENT_MAX}
use Rattle.machine_model.specs.declared.flow.Flow.{Flow}
use Rattle.machine_model.specs.declared.flow.Processor.{Processor}
use Rattle.machine_model.specs.declared.given.Given.{Given}
use Rattle.machine_model.specs.declared.journal.Step.{Step}
use Rattle.machine_model.specs.declared.journal.Step.TheVariants.{Expire, SwapOut, SwapIn, Age}
use Rattle.machine_model.specs.declared.journal.Step.TheVariants as entry
use Rattle.machine_model.specs.declared.kind.Kind.{Kind}
use Rattle.machine_model.specs.declared.kind.Kind.TheVariants.{GetFile, GenerateFlowFile, PutFile}
use Rattle.machine_model.specs.Acting.{passes}
use Rattle.machine_model.specs.Kinds.{take_rule_of, is_among}
use Rattle.machine_model.specs.Laws.{LosesNames, StepsLoseNames, received_name, names_of_step}
use Rattle.machine_model.specs.State.{QueuedFile, Machine, State, World}
use Rattle.machine_model.specs.Stepping.{step, replay, session_step, session_of, after_session, taken_files, given_at, given_in, is_there, may_generate, may_get, same_bool}
use Rattle.machine_model.proofs.Options.{if_and_then, if_at, if_weaker, if_when}
use Rattle.engine_choice.specs.Choice.{coming_of, fits_content}
use Rattle.run_law.specs.Run.{machine_at}

-- ---- what a step takes isn't too large

-- the names that are left of files that are too large
abbrev pub large_in : World → List (List ℕ)
large_in world = filter (λ name. not (fits_content world name)) world.left

abbrev AllFit : World → List (List ℕ) → Type 0
AllFit world names = (name : List ℕ) → is_among name names ≡ true → fits_content world name ≡ true

none_fit : (world : World) → AllFit world []
none_fit world name is = cc

one_fits : (world : World) (name : List ℕ) → fits_content world name ≡ true → AllFit world (name ∷ [])
one_fits world name fit other is = by_test (bytes_eq other name) refl is
  where
    by_test : (b : Bool) → bytes_eq other name ≡ b → (b || false) ≡ true → fits_content world other ≡ true
    by_test true same is = ap (fits_content world) ((bytes_eq-Decides other name).0 same) ∙ fit
    by_test false apart is = cc

always : {A P : Type 0} (o : Option A) → P → IfSome o (λ _. P)
always None p = tt
always (Some x) p = p

-- what is given as a GetFile's name may be got
given_fits : (kind : Kind) (place : ℕ) (state : State) (world : World) (taken : List QueuedFile) (given : Given) → IfSome (given_in kind place state world taken given) (λ _. AllFit world (received_name kind given.file))
given_fits (GetFile filter) place state world taken given = by_name given.file
  where
    by_test : (name : List ℕ) (found : Given) (b : Bool) → may_get filter world name ≡ b → IfSome (cond b (Some found) None) (λ _. AllFit world (name ∷ []))
    by_test name found true may = one_fits world name (and_parts (is_some (find (bytes_eq name) world.left) && passes filter name) (fits_content world name) may).1
    by_test name found false may = tt

    by_name : (file : Option (List ℕ)) → IfSome (option_and_then (λ name. cond (may_get filter world name) (Some (record given { bytes = bytes_of world.inbox name })) None) file) (λ _. AllFit world (received_name (GetFile filter) file))
    by_name None = tt
    by_name (Some name) = by_test name (record given { bytes = bytes_of world.inbox name }) (may_get filter world name) refl
given_fits (GenerateFlowFile count text) place state world taken given = if_when (may_generate count (slice_index state.counts place) given.index) given (λ (_ : Given). AllFit world []) (λ _. none_fit world)
given_fits (PutFile conflict) place state world taken given = if_when (same_bool given.there (is_there world taken)) given (λ (_ : Given). AllFit world []) (λ _. none_fit world)
given_fits _ place state world taken given = none_fit world

given_at_fits : (kind : Kind) (place : ℕ) (state : State) (world : World) (taken : List QueuedFile) (moment : ℕ) (given : Given)
    → IfSome (option_and_then (given_in kind place state world taken) (given_at moment given)) (λ _. AllFit world (received_name kind given.file))
given_at_fits kind place state world taken moment given =
    let at_moment : Given = record given { moment = moment } in
    elim (is_none given.bytes) as (λ b. IfSome (option_and_then (given_in kind place state world taken) (cond b (Some at_moment) None)) (λ _. AllFit world (received_name kind given.file))) [
      | true ↦ given_fits kind place state world taken at_moment
      | false ↦ tt
    ]

session_fits : (flow : Flow) (machine : Machine) (place : ℕ) (numbers : List ℕ) (moment : ℕ) (given : Given) (processor : Processor)
    → IfSome (session_step flow machine place numbers moment given processor) (λ _. AllFit machine.world (received_name processor.kind given.file))
session_fits flow machine place numbers moment given processor =
    let P : Machine → Type 0 = λ _. AllFit machine.world (received_name processor.kind given.file) in
    let givens : List QueuedFile → Option Given = λ taken. option_and_then (given_in processor.kind place machine.state machine.world taken) (given_at moment given) in
    if_and_then (λ taken. option_and_then (λ given. after_session machine (session_of flow machine place processor taken given)) (givens taken))
    (taken_files flow machine.state place (take_rule_of processor.kind) numbers moment) P (λ taken taken_is.
    if_and_then (λ given. after_session machine (session_of flow machine place processor taken given)) (givens taken) P (λ found found_is.
    always (after_session machine (session_of flow machine place processor taken found)) (if_at (givens taken) found (λ _. AllFit machine.world (received_name processor.kind given.file)) found_is (given_at_fits processor.kind place machine.state machine.world taken moment given))))

named_fits : (flow : Flow) (machine : Machine) (processor : ℕ) (numbers : List ℕ) (moment : ℕ) (given : Given) (found : Option Processor)
    → IfSome (option_and_then (session_step flow machine processor numbers moment given) found)
    (λ _. AllFit machine.world (option_map_or (λ (p : Processor). received_name p.kind given.file) found []))
named_fits flow machine processor numbers moment given None = tt
named_fits flow machine processor numbers moment given (Some found) = session_fits flow machine processor numbers moment given found

step_fits : (flow : Flow) (machine : Machine) (one : Step) → IfSome (step flow machine one) (λ _. AllFit machine.world (names_of_step flow one))
step_fits flow machine (entry.Session processor numbers moment given) = named_fits flow machine processor numbers moment given (slice_get flow.processors processor)
step_fits flow machine (Expire place numbers moment) = always (step flow machine (Expire place numbers moment)) (none_fit machine.world)
step_fits flow machine (SwapOut place numbers batch) = always (step flow machine (SwapOut place numbers batch)) (none_fit machine.world)
step_fits flow machine (SwapIn place batch) = always (step flow machine (SwapIn place batch)) (none_fit machine.world)
step_fits flow machine (Age line) = always (step flow machine (Age line)) (none_fit machine.world)

-- ---- so they stay

large_stay : (p : List ℕ → Bool) (taken names : List (List ℕ)) → ((name : List ℕ) → is_among name taken ≡ true → p name ≡ true)
    → filter (λ name. not (p name)) (filter (λ name. not (is_among name taken)) names) ≡ filter (λ name. not (p name)) names
large_stay p taken [] fit = refl
large_stay p taken (name ∷ names) fit = by_test (is_among name taken) refl (large_stay p taken names fit)
  where
    by_test : (b : Bool) → is_among name taken ≡ b → filter (λ n. not (p n)) (filter (λ n. not (is_among n taken)) names) ≡ filter (λ n. not (p n)) names
        → filter (λ n. not (p n)) (cond (not b) (name ∷ filter (λ n. not (is_among n taken)) names) (filter (λ n. not (is_among n taken)) names)) ≡ filter (λ n. not (p n)) (name ∷ names)
    by_test true is rest = rw (fit name is) rest
    by_test false is rest = ap (λ (l : List (List ℕ)). cond (not (p name)) (name ∷ l) l) rest

step_keeps : StepsLoseNames → (flow : Flow) (machine : Machine) (one : Step) → IfSome (step flow machine one) (λ after. large_in after.world ≡ large_in machine.world)
step_keeps law flow machine one = both (step flow machine one) (law flow machine one) (step_fits flow machine one)
  where
    both : (o : Option Machine) → IfSome o (λ after. LosesNames (names_of_step flow one) machine.world after.world) → IfSome o (λ _. AllFit machine.world (names_of_step flow one))
        → IfSome o (λ after. large_in after.world ≡ large_in machine.world)
    both None lost fit = tt
    both (Some after) lost fit =
        (λ i. filter (λ name. not (option_map_or (λ bytes. nat_le (length bytes) CONTENT_MAX) (bytes_of (lost.inbox i) name) false)) (lost.left i))
        ∙ large_stay (fits_content machine.world) (names_of_step flow one) machine.world.left fit

replay_keeps : StepsLoseNames → (flow : Flow) (machine : Machine) (steps : List Step) → IfSome (replay flow machine steps) (λ after. large_in after.world ≡ large_in machine.world)
replay_keeps law flow machine [] = refl
replay_keeps law flow machine (first ∷ steps) =
    let P : Machine → Type 0 = λ after. large_in after.world ≡ large_in machine.world in
    if_and_then (λ after. replay flow after steps) (step flow machine first) P (λ middle middle_is.
    let kept = if_at (step flow machine first) middle P middle_is (step_keeps law flow machine first) in
    if_weaker (replay flow middle steps) (λ after. large_in after.world ≡ large_in middle.world) P (λ after more. more ∙ kept) (replay_keeps law flow middle steps))

-- ---- counted

-- those that pass a test, and the others
both_counted : (p : List ℕ → Bool) (names : List (List ℕ)) → length names ≡ length (filter p names) + length (filter (λ name. not (p name)) names)
both_counted p [] = refl
both_counted p (name ∷ names) = by_test (p name) (both_counted p names)
  where
    by_test : (b : Bool) → length names ≡ length (filter p names) + length (filter (λ n. not (p n)) names)
        → suc (length names) ≡ length (cond b (name ∷ filter p names) (filter p names)) + length (cond (not b) (name ∷ filter (λ n. not (p n)) names) (filter (λ n. not (p n)) names))
    by_test true rest = omega (arith, rest)
    by_test false rest = omega (arith, rest)

-- Behind a replay as many names are left as are still to come, and those that were too large at the start.
pub all_counted : StepsLoseNames → (flow : Flow) (state : State) (left : List NamedFile) (standing : List ℕ → Option (List ℕ)) (steps : List Step) (reached : Machine) (listed coming : List (List ℕ)) (large : ℕ)
    → replay flow (machine_at state left standing) steps ≡ Some reached → coming_of (machine_at state left standing).world ≡ listed → length left ≡ length listed + large
    → coming_of reached.world ≡ coming → length reached.world.left ≡ length coming + large
all_counted law flow state left standing steps reached listed coming large goes listed_is counted coming_is =
    let opened : Machine = machine_at state left standing in
    let same : large_in reached.world ≡ large_in opened.world = if_at (replay flow opened steps) reached (λ after. large_in after.world ≡ large_in opened.world) goes (replay_keeps law flow opened steps) in
    let before = both_counted (fits_content opened.world) opened.world.left in
    let after = both_counted (fits_content reached.world) reached.world.left in
    let names : length opened.world.left ≡ length left = length-map left (λ file. file.name) in
    omega (arith, before, after, names, counted, ap length same, ap length listed_is, ap length coming_is)
