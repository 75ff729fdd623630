-- What a session is given, where it has a step: the file of its step's given, and a generator the next index.
use Rattle.std.proofs.Common.{◌≡◌, ℕ, ◌+◌, true, false, cond, List, refl}
use Rattle.std.specs.Prelude.{◌==◌, Some, None, IfSome, option_and_then, slice_index, is_none}
use Rattle.std.proofs.lemmas.Bool.{and_parts, eqb-true}
use Rattle.machine_model.specs.declared.given.Given.{Given}
use Rattle.machine_model.specs.declared.kind.Kind.{Kind}
use Rattle.machine_model.specs.declared.kind.Kind.TheVariants.{GetFile, GenerateFlowFile, PutFile}
use Rattle.machine_model.specs.State.{QueuedFile, State, World}
use Rattle.machine_model.specs.Stepping.{given_at, given_in, may_get, may_generate, same_bool, is_there}
use Rattle.machine_model.proofs.Options.{if_and_then, if_when}

-- a generator has made all files before the index
abbrev pub IsNextIndex : Kind → (place : ℕ) → List ℕ → ℕ → Type 0
IsNextIndex (GenerateFlowFile count text) place counts index = index ≡ slice_index counts place + 1
IsNextIndex _ place counts index = Unit {0}

file-in : (kind : Kind) (place : ℕ) (state : State) (world : World) (taken : List QueuedFile) (given : Given) → IfSome (given_in kind place state world taken given) (λ found. found.file ≡ given.file)
file-in (GetFile filter) place state world taken given = if_and_then _ given.file (λ (found : Given). found.file ≡ given.file) (λ name is. if_when (may_get filter world name) _ (λ (found : Given). found.file ≡ given.file) (λ _. refl))
file-in (GenerateFlowFile count text) place state world taken given = if_when (may_generate count (slice_index state.counts place) given.index) given (λ found. found.file ≡ given.file) (λ _. refl)
file-in (PutFile conflict) place state world taken given = if_when (same_bool given.there (is_there world taken)) given (λ found. found.file ≡ given.file) (λ _. refl)
file-in _ place state world taken given = refl

pub given-file : (kind : Kind) (place : ℕ) (state : State) (world : World) (taken : List QueuedFile) (moment : ℕ) (given : Given)
    → IfSome (option_and_then (given_in kind place state world taken) (given_at moment given)) (λ found. found.file ≡ given.file)
given-file kind place state world taken moment given =
    let at_moment : Given = record given { moment = moment } in
    elim (is_none given.bytes) as (λ b. IfSome (option_and_then (given_in kind place state world taken) (cond b (Some at_moment) None)) (λ found. found.file ≡ given.file)) [
      | true ↦ file-in kind place state world taken at_moment
      | false ↦ tt
    ]

index-in : (kind : Kind) (place : ℕ) (state : State) (world : World) (taken : List QueuedFile) (given : Given) → IfSome (given_in kind place state world taken given) (λ found. IsNextIndex kind place state.counts found.index)
index-in (GetFile filter) place state world taken given =
    if_and_then _ given.file (λ (found : Given). Unit {0}) (λ name is. if_when (may_get filter world name) _ (λ (found : Given). Unit {0}) (λ _. tt))
index-in (GenerateFlowFile count text) place state world taken given =
    if_when (may_generate count (slice_index state.counts place) given.index) given (λ found. found.index ≡ slice_index state.counts place + 1) (λ passes.
    eqb-true given.index (slice_index state.counts place + 1) (and_parts (given.index == slice_index state.counts place + 1) _ passes).0)
index-in (PutFile conflict) place state world taken given = if_when (same_bool given.there (is_there world taken)) given (λ found. Unit {0}) (λ _. tt)
index-in _ place state world taken given = tt

pub given-index : (kind : Kind) (place : ℕ) (state : State) (world : World) (taken : List QueuedFile) (moment : ℕ) (given : Given)
    → IfSome (option_and_then (given_in kind place state world taken) (given_at moment given)) (λ found. IsNextIndex kind place state.counts found.index)
given-index kind place state world taken moment given =
    let at_moment : Given = record given { moment = moment } in
    elim (is_none given.bytes) as (λ b. IfSome (option_and_then (given_in kind place state world taken) (cond b (Some at_moment) None)) (λ found. IsNextIndex kind place state.counts found.index)) [
      | true ↦ index-in kind place state world taken at_moment
      | false ↦ tt
    ]
