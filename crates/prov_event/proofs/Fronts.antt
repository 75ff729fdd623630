-- What is read before memory is taken.
use Rattle.std.proofs.Common.{◌≡◌, ℕ, ◌||◌, Bool, true, false, List, Ok, Err, refl, ap, ◌∙◌}
use Rattle.std.specs.Prelude.{Result, is_ok}
use Rattle.flowfile_record.specs.Reading.{Reading, ◌>>=◌, ◌then◌}

abbrev Read : Type 0 → Type 0
Read A = Result (A × List ℕ) ℕ

abbrev pair : {A B : Type 0} → A → B × List ℕ → Read (A × B)
pair a b = Ok ((a, b.0), b.1)

ok_after : {A B : Type 0} (a : A) (r : Read B) → is_ok r ≡ true → is_ok (r >>= λ b. pair a b) ≡ true
ok_after a (Ok x) e = refl
ok_after a (Err left) e = e

-- a field that is read, before others that are
pub then_ok : {A B : Type 0} (first : Reading A) (second : Reading B) (bytes : List ℕ) (a : A) (rest : List ℕ) → first bytes ≡ Ok (a, rest) → is_ok (second rest) ≡ true
    → is_ok ((first then second) bytes) ≡ true
then_ok {A = A} first second bytes a rest e after =
    ap (λ (r : Read A). is_ok (r >>= λ x. second x.1 >>= λ b. pair x.0 b)) e ∙ ok_after a (second rest) after

pub or_left : (a b : Bool) → a ≡ true → (a || b) ≡ true
or_left true b e = refl
or_left false b e = absurd cc

pub or_right : (a b : Bool) → b ≡ true → (a || b) ≡ true
or_right true b e = refl
or_right false b e = e
