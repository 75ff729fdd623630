-- What is left of the inbox behind a session, and which of its names are to come.
use Rattle.std.proofs.Common.{◌≡◌, ℕ, Bool, true, false, not, cond, List, [], ◌∷◌, bytes_eq, refl, sym, ◌∙◌, ap}
use Rattle.std.specs.Prelude.{Option, None, Some, filter}
use Rattle.std.specs.Option.{option_to_list}
use Rattle.flowfile_record.specs.declared.worked.Outcome.{Outcome}
use Rattle.machine_model.specs.declared.kind.Kind.{Kind}
use Rattle.machine_model.specs.declared.kind.Kind.TheVariants.{GetFile}
use Rattle.machine_model.specs.Laws.{received_name}
use Rattle.machine_model.specs.Placing.{EndedSession}
use Rattle.machine_model.specs.State.{Machine, World}
use Rattle.machine_model.specs.Stepping.{session_after, world_after}
use Rattle.engine_choice.specs.Choice.{coming_of, fits_content}
use Rattle.run_law.specs.Journal.{inbox_left}
use Rattle.run_law.specs.Laws.{OtherSessionsLoseNone, ReceivingSessionsLoseAFile}
use Rattle.engine_session.specs.Change.{names_without, without_received}

-- two tests, in either order
filter_swap : {A : Type 0} (p q : A → Bool) (xs : List A) → filter p (filter q xs) ≡ filter q (filter p xs)
filter_swap p q [] = refl
filter_swap {A} p q (x ∷ xs) = by (filter_swap p q xs) (p x) (q x) refl refl
  where
    by : filter p (filter q xs) ≡ filter q (filter p xs) → (a b : Bool) → p x ≡ a → q x ≡ b → filter p (cond (q x) (x ∷ filter q xs) (filter q xs)) ≡ filter q (cond (p x) (x ∷ filter p xs) (filter p xs))
    by rest true true is was =
        ap (λ (c : Bool). filter p (cond c (x ∷ filter q xs) (filter q xs))) was
        ∙ ap (λ (c : Bool). cond c (x ∷ filter p (filter q xs)) (filter p (filter q xs))) is
        ∙ ap (λ (l : List A). x ∷ l) rest
        ∙ sym (ap (λ (c : Bool). cond c (x ∷ filter q (filter p xs)) (filter q (filter p xs))) was)
        ∙ sym (ap (λ (c : Bool). filter q (cond c (x ∷ filter p xs) (filter p xs))) is)
    by rest true false is was =
        ap (λ (c : Bool). filter p (cond c (x ∷ filter q xs) (filter q xs))) was
        ∙ rest
        ∙ sym (ap (λ (c : Bool). cond c (x ∷ filter q (filter p xs)) (filter q (filter p xs))) was)
        ∙ sym (ap (λ (c : Bool). filter q (cond c (x ∷ filter p xs) (filter p xs))) is)
    by rest false true is was =
        ap (λ (c : Bool). filter p (cond c (x ∷ filter q xs) (filter q xs))) was
        ∙ ap (λ (c : Bool). cond c (x ∷ filter p (filter q xs)) (filter p (filter q xs))) is
        ∙ rest
        ∙ sym (ap (λ (c : Bool). filter q (cond c (x ∷ filter p xs) (filter p xs))) is)
    by rest false false is was =
        ap (λ (c : Bool). filter p (cond c (x ∷ filter q xs) (filter q xs))) was
        ∙ rest
        ∙ sym (ap (λ (c : Bool). filter q (cond c (x ∷ filter p xs) (filter p xs))) is)

-- ---- the names that are left

-- a processor of this kind receives the file whose name it is given, if one
abbrev pub IsReceived : Kind → Option (List ℕ) → Type 0
IsReceived kind file = received_name kind file ≡ option_to_list file

abbrev left_behind : (kind : Kind) → World → EndedSession → Outcome → Option (List ℕ) → List (List ℕ)
left_behind kind w session outcome file = (world_after kind w (record session { given = record session.given { file = file } }) outcome).left

left_is : (kind : Kind) (w : World) (session : EndedSession) (outcome : Outcome) (file : Option (List ℕ)) → IsReceived kind file → left_behind kind w session outcome file ≡ names_without file w.left
left_is (GetFile filter) w session outcome None received = refl
left_is (GetFile filter) w session outcome (Some name) received = refl
left_is _ w session outcome None received = refl
left_is _ w session outcome (Some name) received = absurd cc

to_come : (w : World) (file : Option (List ℕ)) → filter (fits_content w) (names_without file w.left) ≡ names_without file (coming_of w)
to_come w None = refl
to_come w (Some name) = filter_swap (fits_content w) (λ other. not (bytes_eq other name)) w.left

-- the names to come lose the one that was received, if one
pub coming_behind : (kind : Kind) (w : World) (session : EndedSession) (outcome : Outcome) → IsReceived kind session.given.file
    → coming_of (world_after kind w session outcome) ≡ names_without session.given.file (coming_of w)
coming_behind kind w session outcome received =
    ap (filter (fits_content w)) (left_is kind w session outcome session.given.file received) ∙ to_come w session.given.file

-- ---- the files that are left

module _ (receiving : ReceivingSessionsLoseAFile) (other : OtherSessionsLoseNone) where
  by_name : (machine : Machine) (session : EndedSession) (outcome : Outcome) (file : Option (List ℕ)) → session.given.file ≡ file → IsReceived session.processor.kind file
      → inbox_left (session_after machine session outcome).world ≡ without_received file (inbox_left machine.world)
  by_name machine session outcome None is received =
      other machine session outcome (ap (received_name session.processor.kind) is ∙ received)
  by_name machine session outcome (Some name) is received =
      receiving machine session outcome name (ap (received_name session.processor.kind) is ∙ received)

  -- the inbox loses the file that was received, if one
  pub inbox_behind : (machine : Machine) (session : EndedSession) (outcome : Outcome) → IsReceived session.processor.kind session.given.file
      → inbox_left (session_after machine session outcome).world ≡ without_received session.given.file (inbox_left machine.world)
  inbox_behind machine session outcome received = by_name machine session outcome session.given.file refl received
