-- What is read before memory is taken.
use Rattle.std.proofs.Common.{◌≡◌, ℕ, zero, suc, ◌<◌, eqb, cond, ◌||◌, Bool, true, false, List, length, Ok, Err, refl, sym, ap, ◌∙◌, arith}
use Rattle.std.specs.Prelude.{Result, is_ok}
use Rattle.std.specs.FinMap.{empty}
use Rattle.std.specs.Int.{w32}
use Rattle.std.proofs.lemmas.Bool.{ne_eqb}
use Rattle.flowfile_record.specs.Attributes.{AttributeMap}
use Rattle.flowfile_record.specs.Reading.{Reading, ◌>>=◌, ◌then◌, uint_at, first_at}
use Rattle.record_codec.specs.FileReading.{pair_at}

abbrev Read : Type 0 → Type 0
Read A = Result (A × List ℕ) ℕ

abbrev pair : {A B : Type 0} → A → B × List ℕ → Read (A × B)
pair a b = Ok ((a, b.0), b.1)

ok_after : {A B : Type 0} (a : A) (r : Read B) → is_ok r ≡ true → is_ok (r >>= λ b. pair a b) ≡ true
ok_after a (Ok x) e = refl
ok_after a (Err left) e = e

-- a field that is read, before others that are
pub then_ok : {A B : Type 0} (first : Reading A) (second : Reading B) (bytes : List ℕ) (a : A) (rest : List ℕ) → first bytes ≡ Ok (a, rest) → is_ok (second rest) ≡ true
    → is_ok ((first then second) bytes) ≡ true
then_ok {A = A} first second bytes a rest e after =
    ap (λ (r : Read A). is_ok (r >>= λ x. second x.1 >>= λ b. pair x.0 b)) e ∙ ok_after a (second rest) after

pub then_read : {A B : Type 0} (first : Reading A) (second : Reading B) (bytes rest after : List ℕ) (a : A) (b : B) → first bytes ≡ Ok (a, rest) → second rest ≡ Ok (b, after)
    → (first then second) bytes ≡ Ok ((a, b), after)
then_read {A = A} {B = B} first second bytes rest after a b e behind = ap (λ (r : Read A). r >>= λ x. second x.1 >>= λ y. pair x.0 y) e ∙ ap (λ (r : Read B). r >>= λ y. pair a y) behind

-- a list's first item that is read
pub first_ok : {A : Type 0} (item : Reading A) (bytes : List ℕ) (count : ℕ) (rest : List ℕ) → uint_at w32 bytes ≡ Ok (count, rest) → 0 < count → is_ok (item rest) ≡ true
    → is_ok (first_at item bytes) ≡ true
first_ok {A = A} item bytes count rest e some read =
    let counted : eqb count 0 ≡ false = ne_eqb count 0 (λ none. omega (arith, none, some)) in
    ap (λ (r : Read ℕ). is_ok (r >>= λ n. cond (eqb n.0 0) (unread n.1) (item n.1))) e ∙ ap (λ (b : Bool). is_ok (cond b (unread rest) (item rest))) counted ∙ read
  where
    unread : List ℕ → Read A
    unread rest = Err (length rest)

-- A test passes on all bytes where it passes on what is left, if nothing was read before, or else passed on all before.
pub first_test : (test : List ℕ → Bool) (bytes rest : List ℕ) (k : ℕ) → test rest ≡ true → (k ≡ 0 → rest ≡ bytes) → (0 < k → test bytes ≡ true) → test bytes ≡ true
first_test test bytes rest zero e none some = ap test (sym (none refl)) ∙ e
first_test test bytes rest (suc k) e none some = some (omega arith)

-- what begins with a first front begins with the front of all
pub first_front : {A : Type 0} (front : Reading A) (bytes rest : List ℕ) (k : ℕ) → is_ok (front rest) ≡ true → (k ≡ 0 → rest ≡ bytes) → (0 < k → is_ok (front bytes) ≡ true) → is_ok (front bytes) ≡ true
first_front front bytes rest k e none some = first_test (λ b. is_ok (front b)) bytes rest k e none some

-- pairs of attributes begin with the first
pub first_pair : (bytes rest : List ℕ) (m : AttributeMap) (k : ℕ) → is_ok (pair_at m rest) ≡ true → (k ≡ 0 → (m ≡ empty) × (rest ≡ bytes)) → (0 < k → is_ok (pair_at empty bytes) ≡ true) → is_ok (pair_at empty bytes) ≡ true
first_pair bytes rest m zero e none some =
    let start = none refl in
    ap (λ (b : List ℕ). is_ok (pair_at empty b)) (sym start.1) ∙ ap (λ (a : AttributeMap). is_ok (pair_at a rest)) (sym start.0) ∙ e
first_pair bytes rest m (suc k) e none some = some (omega arith)

pub or_left : (a b : Bool) → a ≡ true → (a || b) ≡ true
or_left true b e = refl
or_left false b e = absurd cc

pub or_right : (a b : Bool) → b ≡ true → (a || b) ≡ true
or_right true b e = refl
or_right false b e = e

-- one of two, of one of two
pub or_each : (a b : Bool) {c d : Bool} → (a ≡ true → c ≡ true) → (b ≡ true → d ≡ true) → (a || b) ≡ true → (c || d) ≡ true
or_each true b {c = c} {d = d} left right e = or_left c d (left refl)
or_each false b {c = c} {d = d} left right e = or_right c d (right e)
