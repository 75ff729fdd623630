-- The names that are to come, and the files that are left, with one less.
use Rattle.std.proofs.Common.{◌≡◌, ℕ, Bool, true, false, cond, not, List, [], ◌∷◌, true≢false, refl, sym, subst, ◌∙◌}
use Rattle.std.specs.Prelude.{Option, None, Some, bytes_eq, length, ◌≤◌}
use Rattle.std.specs.Option.{IsSomeAnd}
use Rattle.std.proofs.lemmas.Slice.Eq.{bytes_eq-Decides}
use Rattle.std.proofs.lemmas.List.Elements.{All-cons, All-head, All-tail, All-nil}
use Rattle.flowfile_record.specs.NamedFile.{NamedFile, bytes_of, without}
use Rattle.flowfile_record.specs.declared.TheConstants.{CONTENT_MAX}
use Rattle.machine_model.specs.Stepping.{without_name}
use Rattle.world_io.proofs.Without.{bytes_of-without}
use Rattle.engine_session.specs.Change.{names_without, without_received}
use Rattle.engine_steps.specs.Engine.{AreTakeable}

abbrev MayCome : List NamedFile → List ℕ → Type 0
MayCome left name = IsSomeAnd (bytes_of left name) (λ bytes. length bytes ≤ CONTENT_MAX)

not_same : (other name : List ℕ) → bytes_eq other name ≡ false → bytes_eq name other ≡ false
not_same other name apart = by_test (bytes_eq name other) refl
  where
    by_test : (b : Bool) → bytes_eq name other ≡ b → b ≡ false
    by_test false is = refl
    by_test true is =
        let same : name ≡ other = (bytes_eq-Decides name other).0 is in
        absurd (true≢false (sym ((bytes_eq-Decides other name).1 (sym same)) ∙ apart))

still_come : (name : List ℕ) (left : List NamedFile) (names : List (List ℕ)) → AreTakeable left names → AreTakeable (without name left) (without_name names name)
still_come name left [] all = All-nil (MayCome (without name left))
still_come name left (other ∷ names) all =
    by_test (bytes_eq other name) refl (still_come name left names (All-tail (MayCome left) other names all))
  where
    by_test : (b : Bool) → bytes_eq other name ≡ b → AreTakeable (without name left) (without_name names name)
        → AreTakeable (without name left) (cond (not b) (other ∷ without_name names name) (without_name names name))
    by_test true is rest = rest
    by_test false is rest =
        All-cons (MayCome (without name left)) other (without_name names name)
        (subst (λ (o : Option (List ℕ)). IsSomeAnd o (λ bytes. length bytes ≤ CONTENT_MAX)) (sym (bytes_of-without name other left (not_same other name is))) (All-head (MayCome left) other names all))
        rest

pub takeable_without : (received : Option (List ℕ)) (left : List NamedFile) (names : List (List ℕ)) → AreTakeable left names
    → AreTakeable (without_received received left) (names_without received names)
takeable_without None left names all = all
takeable_without (Some name) left names all = still_come name left names all

-- fewer names of files that are all left
fewer : (name : List ℕ) (left : List NamedFile) (names : List (List ℕ)) → AreTakeable left names → AreTakeable left (without_name names name)
fewer name left [] all = All-nil (MayCome left)
fewer name left (other ∷ names) all = by_test (bytes_eq other name) (fewer name left names (All-tail (MayCome left) other names all))
  where
    by_test : (b : Bool) → AreTakeable left (without_name names name) → AreTakeable left (cond (not b) (other ∷ without_name names name) (without_name names name))
    by_test true rest = rest
    by_test false rest = All-cons (MayCome left) other (without_name names name) (All-head (MayCome left) other names all) rest

pub takeable_fewer : (received : Option (List ℕ)) (left : List NamedFile) (names : List (List ℕ)) → AreTakeable left names → AreTakeable left (names_without received names)
takeable_fewer None left names all = all
takeable_fewer (Some name) left names all = fewer name left names all
