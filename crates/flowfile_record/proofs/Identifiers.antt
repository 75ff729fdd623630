-- Numbers that have the same bytes are the same, and so are what identifiers hold.
use Rattle.std.proofs.Common.{◌≡◌, ℕ, zero, suc, ◌/◌, ◌%◌, ◌^◌, ◌<◌, refl, sym, ◌∙◌, ap, arith}
use Rattle.std.specs.Int.{byte_at, bytes_high_first}
use Rattle.std.proofs.Math.Nat.{pow-suc, div-div-eq-div-mul}
use Rattle.flowfile_record.specs.Identifier.{identifier, identifier_number, IsHeldWhole}

byte_is : (k n : ℕ) → byte_at k n ≡ n / 256 ^ k % 256
byte_is zero n = omega arith
byte_is (suc k) n = refl

next : (k n : ℕ) → n / 256 ^ suc k ≡ n / 256 ^ k / 256
next k n = ap (λ p. n / p) (pow-suc 256 k) ∙ sym (div-div-eq-div-mul n (256 ^ k) 256)

join : (x y : ℕ) → x % 256 ≡ y % 256 → x / 256 ≡ y / 256 → x ≡ y
join x y e f = omega arith

same_above : (k m n : ℕ) → bytes_high_first k m ≡ bytes_high_first k n → m / 256 ^ k ≡ n / 256 ^ k → m ≡ n
same_above zero m n e h = omega arith
same_above (suc k) m n e h =
    let head : byte_at k m ≡ byte_at k n = cc in
    let tail : bytes_high_first k m ≡ bytes_high_first k n = cc in
    same_above k m n tail (join (m / 256 ^ k) (n / 256 ^ k) (sym (byte_is k m) ∙ head ∙ byte_is k n) (sym (next k m) ∙ h ∙ next k n))

-- a number below 2 ^ 128 has nothing past its sixteen bytes
none_past : (store number : ℕ) → identifier_number store number / 256 ^ 16 ≡ 0
none_past store number = omega arith

parts_are : (store other number n : ℕ) → store < 2 ^ 60 → other < 2 ^ 60 → number < 2 ^ 62 → n < 2 ^ 62 → identifier_number store number ≡ identifier_number other n → (store ≡ other) × (number ≡ n)
parts_are store other number n a b c d e = (omega arith, omega arith)

pub one_of_a_kind : (store number other n : ℕ) → IsHeldWhole store number → IsHeldWhole other n → identifier store number ≡ identifier other n → (store ≡ other) × (number ≡ n)
unfolding identifier
one_of_a_kind store number other n these those e =
    parts_are store other number n these.store_fits those.store_fits these.number_fits those.number_fits (same_above 16 _ _ e (none_past store number ∙ sym (none_past other n)))
