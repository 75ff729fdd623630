-- What is read is encoded so, and what is encoded so is read again: for each plain field, and for what is made of them.
use Rattle.std.proofs.Common.{◌≡◌, ℕ, zero, suc, ◌+◌, ◌^◌, ◌<◌, ◌≤◌, ◌&&◌, nat_lt, Bool, true, false, cond, eqb, ltb, leb, List, [], ◌∷◌, ◌++◌, length, take, drop, Result, Ok, Err, IsTrue, refl, sym, ap, subst, ◌∙◌, append_assoc, arith, inl, inr}
use Rattle.std.specs.Prelude.{All}
use Rattle.std.specs.List.{flat_map}
use Rattle.std.specs.Int.{Width, w16, w32, w64, byte_len, from_be_bytes, to_be_bytes}
use Rattle.std.specs.Str.{IsUtf8, is_utf8}
use Rattle.std.proofs.lemmas.Bool.{cases_lt, ltb-true, ltb-false, le-ltb, lt-ltb, le-leb, leb-true, and_parts, eqb-true}
use Rattle.std.proofs.lemmas.List.{append-nil, nil_from_length, take_at, drop_at, take-append-drop, length-append, length-take, get_or-drop, get_or-take, get_or_past}
use Rattle.std.proofs.lemmas.List.Elements.{All-nil, All-cons, All-head, All-tail}
use Rattle.std.proofs.lemmas.List.Concat.{flat_map-cons}
use Rattle.std.proofs.lemmas.Nat.{be_bytes_2, be_bytes_4, be_bytes_8, from_be_bytes-to_be_bytes_2, from_be_bytes-to_be_bytes_4, from_be_bytes-to_be_bytes_8}
use Rattle.std.proofs.lemmas.Str.{IsUtf8-from_is_utf8, is_utf8-from_IsUtf8}
use Rattle.flowfile_record.specs.Encoding.{byte, text, long, listed, numbers, IsNumber, IsText, IsLong, AreListed, AreNumbers, IsDigest}
use Rattle.flowfile_record.specs.Field.{IsBytes, Takes, IsField, HasOneEncoding}
use Rattle.flowfile_record.specs.Reading.{Reading, ◌>>=◌, ◌then◌, made, such, whole, items_at, byte_at, raw_at, uint_at, number_at, chars_at, utf8_at, text_at, long_at, listed_at, numbers_at}

IsBytes-drop : (n : ℕ) (bytes : List ℕ) → IsBytes bytes → IsBytes (drop n bytes)
IsBytes-drop n bytes h i = rw get_or-drop (h (n + i))

IsBytes-take : (n : ℕ) (bytes : List ℕ) → IsBytes bytes → IsBytes (take n bytes)
IsBytes-take n bytes h i =
    elim (cases_lt i n) [
      | inl lt ↦ rw (get_or-take n bytes i 0 lt) (h i)
      | inr le ↦ rw (get_or_past (take n bytes) i 0 (omega (arith, length-take n bytes))) (omega arith)
    ]

IsBytes-rest : (b : ℕ) (bytes : List ℕ) → IsBytes (b ∷ bytes) → IsBytes bytes
IsBytes-rest b bytes h i = h (suc i)

-- the value of a step that did not fail
pub bind_ok : {A B : Type 0} (r : Result A ℕ) (f : A → Result B ℕ) (y : B) → (r >>= f) ≡ Ok y → (x : A) × (r ≡ Ok x) × (f x ≡ Ok y)
bind_ok (Ok x) f y e = (x, refl, e)
bind_ok (Err d) f y e = absurd cc

-- tests that let through
pub guard_fails : {A : Type 0} (b : Bool) (d : ℕ) (x y : A) → cond b (Err d) (Ok x) ≡ Ok y → (b ≡ false) × (x ≡ y)
guard_fails true d x y e = absurd cc
guard_fails false d x y e = (refl, cc)

pub guard_holds : {A : Type 0} (b : Bool) (d : ℕ) (x y : A) → cond b (Ok x) (Err d) ≡ Ok y → (b ≡ true) × (x ≡ y)
guard_holds true d x y e = (refl, cc)
guard_holds false d x y e = absurd cc

abbrev done : {A : Type 0} → A → Result A ℕ
done x = Ok x

pub ok_is : {A : Type 0} (x y : A) → done x ≡ done y → x ≡ y
ok_is x y e = cc

pub Takes-then : (a x b y c : List ℕ) → Takes a x b → Takes b y c → Takes a (x ++ y) c
Takes-then a x b y c p q = record { parts = p.parts ∙ ap (λ (t : List ℕ). x ++ t) q.parts ∙ sym (append_assoc x y c); rest_fits = q.rest_fits }

-- ---- one value has one encoding, and none is a proper front of another

pub only_one : {A : Type 0} (read : Reading A) (encode : A → List ℕ) (Has : A → Type 0) → IsField read encode Has → HasOneEncoding encode Has
only_one {A = A} read encode Has field a b x y has_a has_b e =
    let same : done (a, x) ≡ done (b, y) = sym (field.again a x has_a) ∙ ap read e ∙ field.again b y has_b in
    let both = ok_is (a, x) (b, y) same in
    (ap (λ (p : A × List ℕ). p.0) both, ap (λ (p : A × List ℕ). p.1) both)

-- ---- all of the bytes

pub whole_takes : {A : Type 0} (read : Reading A) (encode : A → List ℕ) (Has : A → Type 0) → IsField read encode Has → (bytes : List ℕ) (a : A) → IsBytes bytes → whole read bytes ≡ Ok a → Has a × (bytes ≡ encode a)
whole_takes {A = A} read encode Has field bytes a fits e =
    let b = bind_ok (read bytes) (λ x. cond (eqb (length x.1) 0) (Ok x.0) (Err (length x.1))) a e in
    let g = guard_holds (eqb (length b.0.1) 0) (length b.0.1) b.0.0 a b.2 in
    let t = field.takes bytes b.0 fits b.1 in
    let nothing : b.0.1 ≡ [] = nil_from_length b.0.1 (eqb-true _ _ g.0) in
    let all : bytes ≡ encode b.0.0 = t.0.parts ∙ ap (λ (r : List ℕ). encode b.0.0 ++ r) nothing ∙ append-nil (encode b.0.0) in
    subst (λ (v : A). Has v × (bytes ≡ encode v)) g.1 (t.1, all)

pub whole_again : {A : Type 0} (read : Reading A) (encode : A → List ℕ) (Has : A → Type 0) → IsField read encode Has → (a : A) → Has a → whole read (encode a) ≡ Ok a
whole_again read encode Has field a has =
    let one : read (encode a) ≡ Ok (a, []) = ap read (sym (append-nil (encode a))) ∙ field.again a [] has in
    rw one refl

-- ---- two fields, a value made of fields, and a test

pub pair_is : {A B : Type 0} (r : Reading A) (t : Reading B) (s : A → List ℕ) (u : B → List ℕ) (F : A → Type 0) (G : B → Type 0) → IsField r s F → IsField t u G
    → IsField (r then t) (λ p. s p.0 ++ u p.1) (λ p. F p.0 × G p.1)
pair_is r t s u F G first second = record {
  takes = λ bytes x fits e.
      let a = bind_ok (r bytes) (λ a. t a.1 >>= λ b. Ok ((a.0, b.0), b.1)) x e in
      let b = bind_ok (t a.0.1) (λ b. Ok ((a.0.0, b.0), b.1)) x a.2 in
      let p = first.takes bytes a.0 fits a.1 in
      let q = second.takes a.0.1 b.0 p.0.rest_fits b.1 in
      subst (λ y. Takes bytes (s y.0.0 ++ u y.0.1) y.1 × (F y.0.0 × G y.0.1)) (ok_is ((a.0.0, b.0.0), b.0.1) x b.2)
      (Takes-then bytes (s a.0.0) a.0.1 (u b.0.0) b.0.1 p.0 q.0, (p.1, q.1));
  again = λ p rest has.
      let regrouped : (s p.0 ++ u p.1) ++ rest ≡ s p.0 ++ (u p.1 ++ rest) = append_assoc (s p.0) (u p.1) rest in
      ap (r then t) regrouped ∙ rw (first.again p.0 (u p.1 ++ rest) has.0, second.again p.1 rest has.1) refl;
}

pub made_is : {A B : Type 0} (make : A → B) (parts : B → A) (r : Reading A) (s : A → List ℕ) (t : B → List ℕ) (F : A → Type 0) (G : B → Type 0) → IsField r s F
    → ((b : B) → make (parts b) ≡ b) → ((a : A) → t (make a) ≡ s a) → ((a : A) → F a → G (make a)) → ((b : B) → G b → F (parts b))
    → IsField (made make r) t G
made_is make parts r s t F G field whole_of encoded has had = record {
  takes = λ bytes x fits e.
      let a = bind_ok (r bytes) (λ a. Ok (make a.0, a.1)) x e in
      let p = field.takes bytes a.0 fits a.1 in
      subst (λ y. Takes bytes (t y.0) y.1 × G y.0) (ok_is (make a.0.0, a.0.1) x a.2)
      (subst (λ w. Takes bytes w a.0.1) (sym (encoded a.0.0)) p.0, has a.0.0 p.1);
  again = λ b rest h.
      let w : t b ≡ s (parts b) = ap t (sym (whole_of b)) ∙ encoded (parts b) in
      let one : r (t b ++ rest) ≡ Ok (parts b, rest) = ap (λ (v : List ℕ). r (v ++ rest)) w ∙ field.again (parts b) rest (had b h) in
      rw (one, whole_of b) refl;
}

-- the same, where only the values that have an encoding are made so
pub made_from : {A B : Type 0} (make : A → B) (r : Reading A) (s : A → List ℕ) (t : B → List ℕ) (F : A → Type 0) (G : B → Type 0) → IsField r s F
    → ((a : A) → F a → (t (make a) ≡ s a) × G (make a)) → ((b : B) → G b → (a : A) × F a × (make a ≡ b))
    → IsField (made make r) t G
made_from make r s t F G field has had = record {
  takes = λ bytes x fits e.
      let a = bind_ok (r bytes) (λ a. Ok (make a.0, a.1)) x e in
      let p = field.takes bytes a.0 fits a.1 in
      let h = has a.0.0 p.1 in
      subst (λ y. Takes bytes (t y.0) y.1 × G y.0) (ok_is (make a.0.0, a.0.1) x a.2)
      (subst (λ w. Takes bytes w a.0.1) (sym h.0) p.0, h.1);
  again = λ b rest h.
      let a = had b h in
      let w : t b ≡ s a.0 = ap t (sym a.2) ∙ (has a.0 a.1).0 in
      let one : r (t b ++ rest) ≡ Ok (a.0, rest) = ap (λ (v : List ℕ). r (v ++ rest)) w ∙ field.again a.0 rest a.1 in
      rw (one, a.2) refl;
}

pub such_is : {A : Type 0} (test : A → Bool) (r : Reading A) (s : A → List ℕ) (F : A → Type 0) → IsField r s F → IsField (such test r) s (λ a. F a × IsTrue (test a))
such_is test r s F field = record {
  takes = λ bytes x fits e.
      let a = bind_ok (r bytes) (λ a. cond (test a.0) (Ok a) (Err (length bytes))) x e in
      let g = guard_holds (test a.0.0) (length bytes) a.0 x a.2 in
      let p = field.takes bytes a.0 fits a.1 in
      subst (λ y. Takes bytes (s y.0) y.1 × (F y.0 × IsTrue (test y.0))) g.1 (p.0, (p.1, g.0));
  again = λ a rest has. rw (field.again a rest has.0, has.1) refl;
}

-- ---- bytes and numbers

byte_takes : (bytes : List ℕ) (x : ℕ × List ℕ) → IsBytes bytes → byte_at bytes ≡ Ok x → Takes bytes (byte x.0) x.1 × (x.0 < 2 ^ 8)
unfolding byte_at
byte_takes [] x fits e = absurd cc
byte_takes (b ∷ rest) x fits e =
    subst (λ (y : ℕ × List ℕ). Takes (b ∷ rest) (byte y.0) y.1 × (y.0 < 2 ^ 8)) (ok_is (b, rest) x e) (record { parts = refl; rest_fits = IsBytes-rest b rest fits }, fits 0)

byte_again : (n : ℕ) (rest : List ℕ) → n < 2 ^ 8 → byte_at (byte n ++ rest) ≡ Ok (n, rest)
unfolding byte_at
byte_again n rest lt = refl

pub byte_is : IsField byte_at byte (λ n. n < 2 ^ 8)
byte_is = record { takes = byte_takes; again = byte_again }

raw_takes : (size : ℕ) (bytes : List ℕ) (x : List ℕ × List ℕ) → IsBytes bytes → raw_at size bytes ≡ Ok x → Takes bytes x.0 x.1 × (length x.0 ≡ size)
unfolding raw_at
raw_takes size bytes x fits e =
    let g = guard_fails (ltb (length bytes) size) (length bytes) (take size bytes, drop size bytes) x e in
    let long : size ≤ length bytes = ltb-false _ _ g.0 in
    subst (λ (y : List ℕ × List ℕ). Takes bytes y.0 y.1 × (length y.0 ≡ size)) g.1
    (record { parts = sym (take-append-drop size bytes); rest_fits = IsBytes-drop size bytes fits }, omega (arith, length-take size bytes))

raw_again : (size : ℕ) (a rest : List ℕ) → length a ≡ size → raw_at size (a ++ rest) ≡ Ok (a, rest)
unfolding raw_at
raw_again size a rest is =
    let long : ltb (length (a ++ rest)) size ≡ false = le-ltb _ _ (omega (arith, length-append a rest)) in
    rw (long, take_at a rest size is, drop_at a rest size is) refl

pub raw_is : (size : ℕ) → IsField (raw_at size) (λ a. a) (λ a. length a ≡ size)
raw_is size = record { takes = raw_takes size; again = raw_again size }

pub digest_is : IsField (raw_at 32) (λ a. a) IsDigest
digest_is = raw_is 32

pub record IsWide (w : Width) (limit : ℕ) : Type 0 where
  pub len : (n : ℕ) → length (to_be_bytes w n) ≡ byte_len w
  pub back : (bytes : List ℕ) → length bytes ≡ byte_len w → IsBytes bytes → to_be_bytes w (from_be_bytes w bytes) ≡ bytes
  pub again : (n : ℕ) → n < limit → from_be_bytes w (to_be_bytes w n) ≡ n
  pub below : (bytes : List ℕ) → IsBytes bytes → from_be_bytes w bytes < limit

pub wide16 : IsWide w16 (2 ^ 16)
wide16 = record {
  len = λ n. refl;
  back = λ bytes len fits. be_bytes_2 bytes _ len fits refl;
  again = λ n lt. from_be_bytes-to_be_bytes_2 n lt;
  below = λ bytes fits. omega (arith, fits 0, fits 1);
}

pub wide32 : IsWide w32 (2 ^ 32)
wide32 = record {
  len = λ n. refl;
  back = λ bytes len fits. be_bytes_4 bytes _ len fits refl;
  again = λ n lt. from_be_bytes-to_be_bytes_4 n lt;
  below = λ bytes fits. omega (arith, fits 0, fits 1, fits 2, fits 3);
}

pub wide64 : IsWide w64 (2 ^ 64)
wide64 = record {
  len = λ n. refl;
  back = λ bytes len fits. be_bytes_8 bytes _ len fits refl;
  again = λ n lt. from_be_bytes-to_be_bytes_8 n lt;
  below = λ bytes fits. omega (arith, fits 0, fits 1, fits 2, fits 3, fits 4, fits 5, fits 6, fits 7);
}

uint_takes : (w : Width) (limit : ℕ) → IsWide w limit → (bytes : List ℕ) (x : ℕ × List ℕ) → IsBytes bytes → uint_at w bytes ≡ Ok x → Takes bytes (to_be_bytes w x.0) x.1 × (x.0 < limit)
unfolding uint_at
uint_takes w limit wide bytes x fits e =
    let n = from_be_bytes w (take (byte_len w) bytes) in
    let rest = drop (byte_len w) bytes in
    let g = guard_fails (ltb (length bytes) (byte_len w)) (length bytes) (n, rest) x e in
    let long : byte_len w ≤ length bytes = ltb-false _ _ g.0 in
    let front : to_be_bytes w n ≡ take (byte_len w) bytes = wide.back (take (byte_len w) bytes) (omega (arith, length-take (byte_len w) bytes)) (IsBytes-take (byte_len w) bytes fits) in
    let took : Takes bytes (to_be_bytes w n) rest = record { parts = rw front (sym (take-append-drop (byte_len w) bytes)); rest_fits = IsBytes-drop (byte_len w) bytes fits } in
    subst (λ (y : ℕ × List ℕ). Takes bytes (to_be_bytes w y.0) y.1 × (y.0 < limit)) g.1 (took, wide.below (take (byte_len w) bytes) (IsBytes-take (byte_len w) bytes fits))

uint_again : (w : Width) (limit : ℕ) → IsWide w limit → (n : ℕ) (rest : List ℕ) → n < limit → uint_at w (to_be_bytes w n ++ rest) ≡ Ok (n, rest)
unfolding uint_at
uint_again w limit wide n rest lt =
    let len = wide.len n in
    let long : ltb (length (to_be_bytes w n ++ rest)) (byte_len w) ≡ false = le-ltb _ _ (omega (arith, length-append (to_be_bytes w n) rest)) in
    rw (long, take_at (to_be_bytes w n) rest (byte_len w) len, drop_at (to_be_bytes w n) rest (byte_len w) len, wide.again n lt) refl

uint_is : (w : Width) (limit : ℕ) → IsWide w limit → IsField (uint_at w) (to_be_bytes w) (λ n. n < limit)
uint_is w limit wide = record { takes = uint_takes w limit wide; again = uint_again w limit wide }

pub u16_is : IsField (uint_at w16) (to_be_bytes w16) (λ n. n < 2 ^ 16)
u16_is = uint_is w16 (2 ^ 16) wide16

pub u32_is : IsField (uint_at w32) (to_be_bytes w32) (λ n. n < 2 ^ 32)
u32_is = uint_is w32 (2 ^ 32) wide32

pub u64_is : IsField (uint_at w64) (to_be_bytes w64) (λ n. n < 2 ^ 64)
u64_is = uint_is w64 (2 ^ 64) wide64

-- the same field, with its values said in other words
pub said_is : {A : Type 0} (r : Reading A) (s : A → List ℕ) (F G : A → Type 0) → IsField r s F → ((a : A) → F a → G a) → ((a : A) → G a → F a) → IsField r s G
said_is r s F G field has had = record {
  takes = λ bytes x fits e. let p = field.takes bytes x fits e in (p.0, has x.0 p.1);
  again = λ a rest h. field.again a rest (had a h);
}

pub number_is : IsField number_at (to_be_bytes w64) IsNumber
unfolding number_at
number_is = said_is number_at (to_be_bytes w64) (λ n. (n < 2 ^ 64) × IsTrue (nat_lt n (2 ^ 62))) IsNumber (such_is (λ n. nat_lt n (2 ^ 62)) (uint_at w64) (to_be_bytes w64) (λ n. n < 2 ^ 64) u64_is)
    (λ n h. ltb-true n (2 ^ 62) h.1) (λ n h. (omega arith, lt-ltb n (2 ^ 62) h))

-- ---- texts

chars_take : (left size : ℕ) (bytes : List ℕ) (x : List ℕ × List ℕ) → IsBytes bytes → chars_at left size bytes ≡ Ok x → Takes bytes x.0 x.1 × (length x.0 ≡ size) × IsUtf8 x.0
unfolding chars_at
chars_take left size bytes x fits e =
    let g = guard_holds (leb size (length bytes) && is_utf8 (take size bytes)) left (take size bytes, drop size bytes) x e in
    let both = and_parts _ _ g.0 in
    let long : size ≤ length bytes = leb-true _ _ both.0 in
    subst (λ (y : List ℕ × List ℕ). Takes bytes y.0 y.1 × (length y.0 ≡ size) × IsUtf8 y.0) g.1
    (record { parts = sym (take-append-drop size bytes); rest_fits = IsBytes-drop size bytes fits }, omega (arith, length-take size bytes), IsUtf8-from_is_utf8 _ both.1)

chars_again : (left : ℕ) (a rest : List ℕ) → IsUtf8 a → chars_at left (length a) (a ++ rest) ≡ Ok (a, rest)
unfolding chars_at
chars_again left a rest utf8 =
    let front = take_at a rest (length a) refl in
    let long : leb (length a) (length (a ++ rest)) ≡ true = le-leb _ _ (omega (arith, length-append a rest)) in
    let is : is_utf8 (take (length a) (a ++ rest)) ≡ true = ap is_utf8 front ∙ is_utf8-from_IsUtf8 a utf8 in
    rw (long, is, front, drop_at a rest (length a) refl) refl

utf8_is : (w : Width) (limit : ℕ) → IsField (uint_at w) (to_be_bytes w) (λ n. n < limit) → IsField (utf8_at w) (λ a. to_be_bytes w (length a) ++ a) (λ a. (length a < limit) × IsUtf8 a)
unfolding utf8_at
utf8_is w limit field = record {
  takes = λ bytes x fits e.
      let n = bind_ok (uint_at w bytes) (λ n. chars_at (length bytes) n.0 n.1) x e in
      let p = field.takes bytes n.0 fits n.1 in
      let q = chars_take (length bytes) n.0.0 n.0.1 x p.0.rest_fits n.2 in
      let both = Takes-then bytes (to_be_bytes w n.0.0) n.0.1 x.0 x.1 p.0 q.0 in
      (subst (λ (k : ℕ). Takes bytes (to_be_bytes w k ++ x.0) x.1) (sym q.1) both, (subst (λ (k : ℕ). k < limit) (sym q.1) p.1, q.2));
  again = λ a rest has.
      let start = length ((to_be_bytes w (length a) ++ a) ++ rest) in
      let regrouped : (to_be_bytes w (length a) ++ a) ++ rest ≡ to_be_bytes w (length a) ++ (a ++ rest) = append_assoc (to_be_bytes w (length a)) a rest in
      let one : uint_at w ((to_be_bytes w (length a) ++ a) ++ rest) ≡ Ok (length a, a ++ rest) = ap (uint_at w) regrouped ∙ field.again (length a) (a ++ rest) has.0 in
      rw one (chars_again start a rest has.1);
}

pub text_is : IsField text_at text IsText
text_is = utf8_is w16 (2 ^ 16) u16_is

pub long_is : IsField long_at long IsLong
long_is = utf8_is w32 (2 ^ 32) u32_is

-- ---- lists

items_take : {A : Type 0} (r : Reading A) (s : A → List ℕ) (F : A → Type 0) → IsField r s F → (n : ℕ) (bytes : List ℕ) (x : List A × List ℕ) → IsBytes bytes → items_at r n bytes ≡ Ok x → Takes bytes (flat_map s x.0) x.1 × (length x.0 ≡ n) × All F x.0
unfolding items_at
items_take r s F field zero bytes x fits e =
    subst (λ y. Takes bytes (flat_map s y.0) y.1 × (length y.0 ≡ 0) × All F y.0) (ok_is ([], bytes) x e) (record { parts = refl; rest_fits = fits }, refl, All-nil F)
items_take r s F field (suc n) bytes x fits e =
    let a = bind_ok (r bytes) (λ first. items_at r n first.1 >>= λ others. Ok (first.0 ∷ others.0, others.1)) x e in
    let b = bind_ok (items_at r n a.0.1) (λ others. Ok (a.0.0 ∷ others.0, others.1)) x a.2 in
    let first = field.takes bytes a.0 fits a.1 in
    let second = items_take r s F field n a.0.1 b.0 first.0.rest_fits b.1 in
    let both = Takes-then bytes (s a.0.0) a.0.1 (flat_map s b.0.0) b.0.1 first.0 second.0 in
    subst (λ y. Takes bytes (flat_map s y.0) y.1 × (length y.0 ≡ suc n) × All F y.0) (ok_is (a.0.0 ∷ b.0.0, b.0.1) x b.2) (rw flat_map-cons both, ap suc second.1, All-cons F a.0.0 b.0.0 first.1 second.2)

items_again : {A : Type 0} (r : Reading A) (s : A → List ℕ) (F : A → Type 0) → IsField r s F → (xs : List A) (rest : List ℕ) → All F xs → items_at r (length xs) (flat_map s xs ++ rest) ≡ Ok (xs, rest)
unfolding items_at
items_again r s F field [] rest has = refl
items_again r s F field (x ∷ xs) rest has =
    let regrouped : flat_map s (x ∷ xs) ++ rest ≡ s x ++ (flat_map s xs ++ rest) = ap (λ (w : List ℕ). w ++ rest) (flat_map-cons s x xs) ∙ append_assoc (s x) (flat_map s xs) rest in
    ap (items_at r (suc (length xs))) regrouped ∙ rw (field.again x (flat_map s xs ++ rest) (All-head F x xs has), items_again r s F field xs rest (All-tail F x xs has)) refl

pub listed_is : {A : Type 0} (r : Reading A) (s : A → List ℕ) (F : A → Type 0) → IsField r s F → IsField (listed_at r) (listed s) (AreListed F)
unfolding listed_at
listed_is r s F field = record {
  takes = λ bytes x fits e.
      let n = bind_ok (uint_at w32 bytes) (λ n. items_at r n.0 n.1) x e in
      let p = u32_is.takes bytes n.0 fits n.1 in
      let q = items_take r s F field n.0.0 n.0.1 x p.0.rest_fits n.2 in
      let both = Takes-then bytes (to_be_bytes w32 n.0.0) n.0.1 (flat_map s x.0) x.1 p.0 q.0 in
      (subst (λ (k : ℕ). Takes bytes (to_be_bytes w32 k ++ flat_map s x.0) x.1) (sym q.1) both, (subst (λ (k : ℕ). k < 2 ^ 32) (sym q.1) p.1, q.2));
  again = λ xs rest has.
      let regrouped : listed s xs ++ rest ≡ to_be_bytes w32 (length xs) ++ (flat_map s xs ++ rest) = append_assoc (to_be_bytes w32 (length xs)) (flat_map s xs) rest in
      ap (listed_at r) regrouped ∙ rw (u32_is.again (length xs) (flat_map s xs ++ rest) has.0) (items_again r s F field xs rest has.1);
}

pub numbers_is : IsField numbers_at numbers AreNumbers
numbers_is = listed_is number_at (to_be_bytes w64) IsNumber number_is
