-- That what is made of texts is a text: other cases of letters, decimals, substrings and replacements.
use Rattle.std.proofs.Common.{◌≡◌, ℕ, zero, suc, ◌+◌, ◌-◌, ◌<◌, ◌≤◌, ◌/◌, ◌%◌, ◌==◌, true, false, cond, inl, inr, List, [], ◌∷◌, ◌++◌, length, map, take, drop, get_or, refl, sym, ap, ◌∙◌, subst, arith, append_assoc, append-nil, ℤ, pos, negsuc}
use Rattle.std.specs.Prelude.{All, IfSome, Option, Some, None, nat_eq, nat_lt, decimal}
use Rattle.std.specs.Char.{to_ascii_lowercase, to_ascii_uppercase}
use Rattle.std.specs.Fmt.{digits, digits_onto, digit_glyph, signed_decimal}
use Rattle.std.specs.List.{starts_with}
use Rattle.std.specs.Option.{option_map, option_map_or}
use Rattle.std.specs.Str.{IsUtf8, IsCharBoundary}
use Rattle.std.proofs.lemmas.Bool.{and_parts, cases_lt}
use Rattle.std.proofs.lemmas.Bool.Decides.{Decides-eqb}
use Rattle.std.proofs.lemmas.List.{map-append, length-append, take-append-le, drop-append-le, get_or-append_right, take_all, drop_all}
use Rattle.std.proofs.lemmas.List.Elements.{All-nil, All-cons}
use Rattle.std.proofs.lemmas.Slice.Eq.{starts_is}
use Rattle.std.proofs.lemmas.Str.{IsUtf8-append, IsUtf8-nil, IsUtf8-encode, IsUtf8-take, IsUtf8-drop, IsUtf8-from_ascii, IsCharBoundary-start, IsCharBoundary-from_take, encode_ascii, inside_one}
use Rattle.std.proofs.lemmas.Str.Ascii.{IsAscii-from_all, lowercase_ascii, uppercase_ascii, lowercase_is, uppercase_is}
use lib.Utf8.{scalar, scalars, encode, encodes}
use Rattle.expr_lang.specs.Functions.{first_place, before, behind, replaced, with_replaced}
use Rattle.machine_model.proofs.Options.{if_when}

-- ---- letters in another case

-- ASCII bytes become ASCII bytes, others stay
record ChangesAscii (f : ℕ → ℕ) : Type 0 where
  low : (b : ℕ) → b < 128 → f b < 128
  high : (b : ℕ) → 128 ≤ b → f b ≡ b

high-stays : (f : ℕ → ℕ) → ChangesAscii f → (bytes : List ℕ) → ((k : ℕ) → k < length bytes → 128 ≤ get_or bytes k 0) → map f bytes ≡ bytes
high-stays f changes [] h = refl
high-stays f changes (b ∷ bytes) h =
    let first = changes.high b (h 0 (omega arith)) in
    let rest = high-stays f changes bytes (λ k below. h (suc k) (omega arith)) in
    rw (first, rest) refl

one-ascii : (b : ℕ) → b < 128 → IsUtf8 (b ∷ [])
one-ascii b low = IsUtf8-from_ascii (b ∷ []) (IsAscii-from_all (b ∷ []) (All-cons (λ c. c < 128) b [] low (All-nil (λ c. c < 128))))

one-char : (f : ℕ → ℕ) → ChangesAscii f → (c : ℕ) → scalar c ≡ true → IsUtf8 (map f (encode c))
one-char f changes c is = elim (cases_lt c 128) [
  | inl low ↦ rw (encode_ascii c low) (one-ascii (f c) (changes.low c low))
  | inr big ↦
      let high : (k : ℕ) → k < length (encode c) → 128 ≤ get_or (encode c) k 0 = λ k below. elim (cases_lt (get_or (encode c) k 0) 128) [
        | inl low ↦ absurd (omega (arith, inside_one c [] (encode c) k (sym (append-nil (encode c))) below low))
        | inr h ↦ h
      ] in
      subst IsUtf8 (sym (high-stays f changes (encode c) high)) (IsUtf8-encode c is)
]

all-chars : (f : ℕ → ℕ) → ChangesAscii f → (cs : List ℕ) → scalars cs ≡ true → IsUtf8 (map f (encodes cs))
all-chars f changes [] is = IsUtf8-nil
all-chars f changes (c ∷ cs) is =
    let parts = and_parts (scalar c) (scalars cs) is in
    subst IsUtf8 (sym (map-append f (encode c) (encodes cs))) (IsUtf8-append _ _ (one-char f changes c parts.0) (all-chars f changes cs parts.1))

changed-text : (f : ℕ → ℕ) → ChangesAscii f → (bytes : List ℕ) → IsUtf8 bytes → IsUtf8 (map f bytes)
changed-text f changes bytes is = subst (λ l. IsUtf8 (map f l)) is.1.1 (all-chars f changes is.0 is.1.0)

pub lower-text : (bytes : List ℕ) → IsUtf8 bytes → IsUtf8 (map to_ascii_lowercase bytes)
lower-text = changed-text to_ascii_lowercase (record { low = lowercase_ascii; high = λ b big. (lowercase_is b).2 (omega arith) })

pub upper-text : (bytes : List ℕ) → IsUtf8 bytes → IsUtf8 (map to_ascii_uppercase bytes)
upper-text = changed-text to_ascii_uppercase (record { low = uppercase_ascii; high = λ b big. (uppercase_is b).2 (omega arith) })

-- ---- decimals

glyph-low : (d : ℕ) → d < 10 → digit_glyph false d < 128
glyph-low d below = elim (nat_lt d 10) as (λ b. cond b (48 + d) (87 + d) < 128) [ true ↦ omega arith | false ↦ omega arith ]

digits-low : (k n : ℕ) (behind : List ℕ) → All (λ c. c < 128) behind → All (λ c. c < 128) (digits_onto k 10 false n behind)
digits-low zero n behind low = low
digits-low (suc k) n behind low =
    let glyph = digit_glyph false (n % 10) in
    let more = All-cons (λ c. c < 128) glyph behind (glyph-low (n % 10) (omega arith)) low in
    elim (n / 10 == 0) as (λ b. All (λ c. c < 128) (cond b (glyph ∷ behind) (digits_onto k 10 false (n / 10) (glyph ∷ behind)))) [
      | true ↦ more
      | false ↦ digits-low k (n / 10) (glyph ∷ behind) more
    ]

digits-text : (k n : ℕ) → IsUtf8 (digits_onto k 10 false n [])
digits-text k n = IsUtf8-from_ascii (digits_onto k 10 false n []) (IsAscii-from_all (digits_onto k 10 false n []) (digits-low k n [] (All-nil (λ c. c < 128))))

pub decimal-text : (n : ℕ) → IsUtf8 (decimal n)
unfolding digits
decimal-text n = digits-text 64 n

pub number-text : (z : ℤ) → IsUtf8 (signed_decimal z)
number-text (pos n) = decimal-text n
number-text (negsuc n) = IsUtf8-append (45 ∷ []) (decimal (suc n)) (one-ascii 45 (omega arith)) (decimal-text (suc n))

-- ---- substrings

-- what stands before and behind a text that isn't empty
cut : (front x back : List ℕ) (c : ℕ) → IsUtf8 (c ∷ x) → IsUtf8 (front ++ (c ∷ x ++ back)) → IsUtf8 front × IsUtf8 back
cut front x back c is whole =
    let found = c ∷ x in
    let rest = c ∷ x ++ back in
    let long = length-append front rest in
    let start = IsCharBoundary-start found is in
    let at : get_or (front ++ rest) (length front) 0 ≡ get_or rest (length front - length front) 0 = get_or-append_right front rest (length front) (length front) 0 refl (omega arith) in
    let none : length front - length front ≡ 0 = omega arith in
    let first : get_or (front ++ rest) (length front) 0 ≡ c = at ∙ ap (λ n. get_or rest n 0) none in
    let seam : IsCharBoundary (front ++ rest) (length front) = (omega arith, λ below high. omega (arith, start.1 (omega arith))) in
    let before = IsUtf8-take (front ++ rest) (length front) whole seam in
    let after = IsUtf8-drop (front ++ rest) (length front) whole seam in
    let front_is : take (length front) (front ++ rest) ≡ front = take-append-le (length front) front rest (omega arith) ∙ take_all (length front) front (omega arith) in
    let rest_is : drop (length front) (front ++ rest) ≡ rest = drop-append-le (length front) front rest (omega arith) ∙ ap (λ l. l ++ rest) (drop_all (length front) front (omega arith)) in
    let found_is : take (length found) rest ≡ found = take-append-le (length found) found back (omega arith) ∙ take_all (length found) found (omega arith) in
    let back_is : drop (length found) rest ≡ back = drop-append-le (length found) found back (omega arith) ∙ ap (λ l. l ++ back) (drop_all (length found) found (omega arith)) in
    let behind = subst IsUtf8 rest_is after in
    let end = IsCharBoundary-from_take rest (length found) behind (omega (arith, length-append found back)) (subst IsUtf8 (sym found_is) is) in
    (subst IsUtf8 front_is before, subst IsUtf8 back_is (IsUtf8-drop rest (length found) behind end))

-- the place of a text in another
record StandsAt (x s : List ℕ) (n : ℕ) : Type 0 where
  front : List ℕ
  back : List ℕ
  whole : s ≡ front ++ (x ++ back)
  place : n ≡ length front

begins : (s x : List ℕ) → starts_with nat_eq s x ≡ true → s ≡ x ++ drop (length x) s
begins s x is = (starts_is Decides-eqb s x (starts_with nat_eq s x) refl).0 is

stands : (x s : List ℕ) → IfSome (first_place x s) (StandsAt x s)
stands x [] = if_when (starts_with nat_eq [] x) 0 (StandsAt x []) (λ is. record { front = []; back = drop (length x) []; whole = begins [] x is; place = refl })
stands x (c ∷ s) =
    elim (starts_with nat_eq (c ∷ s) x) as (λ b. starts_with nat_eq (c ∷ s) x ≡ b → IfSome (cond b (Some 0) (option_map (λ n. n + 1) (first_place x s))) (StandsAt x (c ∷ s))) [
      | true ↦ λ is. record { front = []; back = drop (length x) (c ∷ s); whole = begins (c ∷ s) x is; place = refl }
      | false ↦ λ is. later (first_place x s) (stands x s)
    ] refl
  where
    later : (o : Option ℕ) → IfSome o (StandsAt x s) → IfSome (option_map (λ n. n + 1) o) (StandsAt x (c ∷ s))
    later None h = tt
    later (Some n) h = record { front = c ∷ h.front; back = h.back; whole = ap (λ l. c ∷ l) h.whole; place = omega (arith, h.place) }

pub before-text : (x s : List ℕ) → IsUtf8 x → IsUtf8 s → IsUtf8 (before x s)
before-text [] [] is whole = IsUtf8-nil
before-text [] (d ∷ s) is whole = IsUtf8-nil
before-text (c ∷ x) s is whole = of_place (first_place (c ∷ x) s) (stands (c ∷ x) s)
  where
    of_place : (o : Option ℕ) → IfSome o (StandsAt (c ∷ x) s) → IsUtf8 (option_map_or (λ n. take n s) o s)
    of_place None h = whole
    of_place (Some n) h =
        let rest = c ∷ x ++ h.back in
        let front_is : take n s ≡ h.front =
        (λ i. take (h.place i) (h.whole i)) ∙ take-append-le (length h.front) h.front rest (omega arith) ∙ take_all (length h.front) h.front (omega arith) in
        subst IsUtf8 (sym front_is) (cut h.front x h.back c is (subst IsUtf8 h.whole whole)).0

pub behind-text : (x s : List ℕ) → IsUtf8 x → IsUtf8 s → IsUtf8 (behind x s)
behind-text [] [] is whole = whole
behind-text [] (d ∷ s) is whole = whole
behind-text (c ∷ x) s is whole = of_place (first_place (c ∷ x) s) (stands (c ∷ x) s)
  where
    of_place : (o : Option ℕ) → IfSome o (StandsAt (c ∷ x) s) → IsUtf8 (option_map_or (λ n. drop (n + length (c ∷ x)) s) o s)
    of_place None h = whole
    of_place (Some n) h =
        let past : n + length (c ∷ x) ≡ length (h.front ++ (c ∷ x)) = omega (arith, h.place, length-append h.front (c ∷ x)) in
        let split : s ≡ (h.front ++ (c ∷ x)) ++ h.back = h.whole ∙ sym (append_assoc h.front (c ∷ x) h.back) in
        let back_is : drop (n + length (c ∷ x)) s ≡ h.back =
        (λ i. drop (past i) (split i)) ∙ drop-append-le (length (h.front ++ (c ∷ x))) (h.front ++ (c ∷ x)) h.back (omega arith)
        ∙ ap (λ l. l ++ h.back) (drop_all (length (h.front ++ (c ∷ x))) (h.front ++ (c ∷ x)) (omega arith)) in
        subst IsUtf8 (sym back_is) (cut h.front x h.back c is (subst IsUtf8 h.whole whole)).1

-- ---- replacements

-- behind some bytes that stay, as a part of a character may
replaced-text : (c : ℕ) (x y : List ℕ) → IsUtf8 (c ∷ x) → IsUtf8 y → (passed : ℕ) (front s : List ℕ) → IsUtf8 (front ++ drop passed s) → IsUtf8 (front ++ replaced (c ∷ x) y passed s)
replaced-text c x y is by passed front [] h = subst (λ l. IsUtf8 (front ++ l)) (drop_all passed [] (omega arith)) h
replaced-text c x y is by (suc passed) front (d ∷ s) h = replaced-text c x y is by passed front s h
replaced-text c x y is by zero front (d ∷ s) h =
    let found = c ∷ x in
    elim (starts_with nat_eq (d ∷ s) found) as (λ b. starts_with nat_eq (d ∷ s) found ≡ b → IsUtf8 (front ++ cond b (y ++ replaced found y (length found - 1) s) (d ∷ replaced found y zero s))) [
      | true ↦ λ starts.
          let back = drop (length found) (d ∷ s) in
          let parts = cut front x back c is (subst (λ l. IsUtf8 (front ++ l)) (begins (d ∷ s) found starts) h) in
          let one_less : length found ≡ suc (length found - 1) = omega arith in
          let rest : back ≡ drop (length found - 1) s = ap (λ n. drop n (d ∷ s)) one_less in
          let later = replaced-text c x y is by (length found - 1) [] s (subst IsUtf8 rest parts.1) in
          IsUtf8-append front (y ++ replaced found y (length found - 1) s) parts.0 (IsUtf8-append y (replaced found y (length found - 1) s) by later)
      | false ↦ λ other.
          subst IsUtf8 (append_assoc front (d ∷ []) (replaced found y zero s))
          (replaced-text c x y is by zero (front ++ d ∷ []) s (subst IsUtf8 (sym (append_assoc front (d ∷ []) s)) h))
    ] refl

pub with-replaced-text : (x y s : List ℕ) → IsUtf8 x → IsUtf8 y → IsUtf8 s → IsUtf8 (with_replaced x y s)
with-replaced-text [] y s is by h = h
with-replaced-text (c ∷ x) y s is by h = replaced-text c x y is by 0 [] s h
