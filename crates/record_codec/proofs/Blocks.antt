-- What blocks that were encoded are read as, and what is known of bytes that are read as one.
use Rattle.std.proofs.Common.{◌≡◌, ◌≢◌, inl, inr, lit<, ℕ, ◌+◌, ◌-◌, ◌<◌, ◌≤◌, ltb, cond, Bool, true, false, List, [], ◌∷◌, ◌++◌, length, get_or, take, drop, bytes_eq, refl, sym, ap, subst, ◌∙◌, append_assoc, arith}
use Rattle.std.specs.Int.{w32, from_be_bytes, to_be_bytes}
use Rattle.std.proofs.lemmas.List.{length-append, take-append-drop, length-take-le, length-take, length-drop, get_or-take, get_or_past, take_at, drop_at, take-append-le, drop-append-le}
use Rattle.std.proofs.lemmas.Nat.{from_be_bytes-to_be_bytes_4, be_bytes_4}
use Rattle.std.proofs.lemmas.Slice.Eq.{bytes_eq-Decides}
use Rattle.std.proofs.Math.Seq.{take-add}
use Rattle.std.proofs.lemmas.Bool.{cases_lt}
use Rattle.std.proofs.lemmas.Bool.Decides.{nat_tests}
use Rattle.sha2.specs.Sha256.{sha256}
use Rattle.sha2.proofs.Facts256.{length-sha256}
use Rattle.record_codec.specs.declared.block.TheConstants.{PAYLOAD_MAX, BLOCK_OVERHEAD}
use Rattle.record_codec.specs.Block.{block, Reading, Whole, Cut, Long, Differs, tested, reading_of}

-- the size of a block
pub length-block : (kind : ℕ) (payload : List ℕ) → length (block kind payload) ≡ length payload + 37
unfolding block
length-block kind payload = omega (arith, length-append (to_be_bytes w32 (length payload) ++ (kind ∷ payload)) (sha256 (kind ∷ payload)), length-append (to_be_bytes w32 (length payload)) (kind ∷ payload), length-sha256 (kind ∷ payload))

-- the parts of a whole block at the head of some bytes
pub record IsWhole (bytes : List ℕ) (kind : ℕ) (payload : List ℕ) : Type 0 where
  pub size : from_be_bytes w32 (take 4 bytes) ≡ length payload
  pub not_long : length payload ≤ PAYLOAD_MAX
  pub fits : length payload + 37 ≤ length bytes
  pub body : take (length payload + 1) (drop 4 bytes) ≡ kind ∷ payload
  pub digest : take 32 (drop (length payload + 5) bytes) ≡ sha256 (kind ∷ payload)

tested-whole : (bytes : List ℕ) (size kind : ℕ) (payload : List ℕ)
    → take (size + 1) (drop 4 bytes) ≡ kind ∷ payload → take 32 (drop (size + 5) bytes) ≡ sha256 (kind ∷ payload)
    → tested bytes size ≡ Whole kind payload
tested-whole bytes size kind payload body digest =
    let same : bytes_eq (sha256 (kind ∷ payload)) (sha256 (kind ∷ payload)) ≡ true = (bytes_eq-Decides (sha256 (kind ∷ payload)) (sha256 (kind ∷ payload))).1 refl in
    rw (body, digest, same)

pub reading_of-whole : (bytes : List ℕ) (kind : ℕ) (payload : List ℕ) → IsWhole bytes kind payload → reading_of bytes ≡ Whole kind payload
unfolding reading_of
reading_of-whole bytes kind payload whole =
    let head : ltb (length bytes) 5 ≡ false = grind (arith, nat_tests, whole.fits) in
    let long : ltb PAYLOAD_MAX (length payload) ≡ false = grind (arith, nat_tests, whole.not_long) in
    let short : ltb (length bytes) (length payload + 37) ≡ false = grind (arith, nat_tests, whole.fits) in
    rw (whole.size, head, long, short) (tested-whole bytes (length payload) kind payload whole.body whole.digest)

whole_of-parts : (head : List ℕ) (kind : ℕ) (payload stored rest : List ℕ)
    → length head ≡ 4 → from_be_bytes w32 head ≡ length payload → length payload ≤ PAYLOAD_MAX → stored ≡ sha256 (kind ∷ payload)
    → IsWhole (head ++ (kind ∷ payload) ++ stored ++ rest) kind payload
whole_of-parts head kind payload stored rest four size small digest =
    let body = kind ∷ payload in
    let parted : head ++ body ++ stored ++ rest ≡ head ++ (body ++ (stored ++ rest)) = simp append_assoc in
    let paired : head ++ body ++ stored ++ rest ≡ (head ++ body) ++ (stored ++ rest) = simp append_assoc in
    let len : length stored ≡ 32 = ap length digest ∙ length-sha256 body in
    record {
      size = rw (parted, take_at head (body ++ (stored ++ rest)) 4 four) size;
      not_long = small;
      fits = omega (arith, length-append head body, length-append (head ++ body) stored, length-append (head ++ body ++ stored) rest);
      body = rw (parted, drop_at head (body ++ (stored ++ rest)) 4 four) (take_at body (stored ++ rest) (length payload + 1) (omega arith));
      digest = rw (paired, drop_at (head ++ body) (stored ++ rest) (length payload + 5) (omega (arith, length-append head body))) (take_at stored rest 32 len ∙ digest);
    }

pub reading_of-block : (kind : ℕ) (payload rest : List ℕ) → length payload ≤ PAYLOAD_MAX → reading_of (block kind payload ++ rest) ≡ Whole kind payload
unfolding block
reading_of-block kind payload rest small =
    reading_of-whole (block kind payload ++ rest) kind payload
    (whole_of-parts (to_be_bytes w32 (length payload)) kind payload (sha256 (kind ∷ payload)) rest refl (from_be_bytes-to_be_bytes_4 (length payload) (omega arith)) small refl)

-- what the tests say of bytes with a whole block
passed : (short long cut : Bool) (need have size need' have' : ℕ) (read : Reading) (kind : ℕ) (payload : List ℕ)
    → cond short (Cut need have) (cond long (Long size) (cond cut (Cut need' have') read)) ≡ Whole kind payload
    → (short ≡ false) × (long ≡ false) × (cut ≡ false) × (read ≡ Whole kind payload)
passed true long cut need have size need' have' read kind payload is = cc
passed false true cut need have size need' have' read kind payload is = cc
passed false false true need have size need' have' read kind payload is = cc
passed false false false need have size need' have' read kind payload is = (refl, refl, refl, is)

tests_alike : (same : Bool) (found kind : ℕ) (left payload stored sum : List ℕ) → cond same (Whole found left) (Differs stored sum) ≡ Whole kind payload → (same ≡ true) × (found ≡ kind) × (left ≡ payload)
tests_alike true found kind left payload stored sum is = (refl, cc, cc)
tests_alike false found kind left payload stored sum is = cc

-- a whole block's parts, from its reading
whole_of-tested : (bytes : List ℕ) (size kind : ℕ) (payload : List ℕ)
    → size ≤ PAYLOAD_MAX → size + 37 ≤ length bytes → from_be_bytes w32 (take 4 bytes) ≡ size → tested bytes size ≡ Whole kind payload
    → IsWhole bytes kind payload
whole_of-tested bytes size kind payload small fits is tests =
    let body = take (size + 1) (drop 4 bytes) in
    let stored = take 32 (drop (size + 5) bytes) in
    let alike = tests_alike (bytes_eq stored (sha256 body)) (get_or body 0 0) kind (drop 1 body) payload stored (sha256 body) tests in
    let long : length body ≡ size + 1 = length-take-le (size + 1) (drop 4 bytes) (omega (arith, length-drop 4 bytes)) in
    let whole : body ≡ kind ∷ payload = head_and_rest body kind payload (omega arith) alike.1 alike.2 in
    let as_long : length payload ≡ size = omega (arith, ap length whole) in
    record {
      size = is ∙ sym as_long;
      not_long = omega arith;
      fits = omega arith;
      body = rw (as_long) whole;
      digest = rw (as_long, (bytes_eq-Decides stored (sha256 body)).0 alike.0) (ap sha256 whole);
    }
  where
    head_and_rest : (body : List ℕ) (kind : ℕ) (payload : List ℕ) → 0 < length body → get_or body 0 0 ≡ kind → drop 1 body ≡ payload → body ≡ kind ∷ payload
    head_and_rest [] kind payload some head rest = absurd (omega arith)
    head_and_rest (x ∷ xs) kind payload some head rest = cc

pub whole_of-reading : (bytes : List ℕ) (kind : ℕ) (payload : List ℕ) → reading_of bytes ≡ Whole kind payload → IsWhole bytes kind payload
unfolding reading_of
whole_of-reading bytes kind payload is =
    let size = from_be_bytes w32 (take 4 bytes) in
    let tests = passed (ltb (length bytes) 5) (ltb PAYLOAD_MAX size) (ltb (length bytes) (size + 37)) 5 (length bytes) size (size + 37) (length bytes) (tested bytes size) kind payload is in
    whole_of-tested bytes size kind payload (grind (arith, nat_tests)) (grind (arith, nat_tests)) refl tests.3

whole_of-front : (front rest : List ℕ) (kind : ℕ) (payload : List ℕ) → length front ≡ length payload + 37 → (back : List ℕ) → IsWhole (front ++ back) kind payload → IsWhole (front ++ rest) kind payload
whole_of-front front rest kind payload long back whole =
    record {
      size = ap (from_be_bytes w32) (take-append-le 4 front rest (omega arith) ∙ sym (take-append-le 4 front back (omega arith))) ∙ whole.size;
      not_long = whole.not_long;
      fits = omega (arith, length-append front rest);
      body = front_of 4 (length payload + 1) (omega arith) ∙ whole.body;
      digest = front_of (length payload + 5) 32 (omega arith) ∙ whole.digest;
    }
  where
    front_of : (n m : ℕ) → n + m ≤ length front → take m (drop n (front ++ rest)) ≡ take m (drop n (front ++ back))
    front_of n m fits =
        ap (take m) (drop-append-le n front rest (omega arith)) ∙ take-append-le m (drop n front) rest (omega (arith, length-drop n front))
        ∙ sym (ap (take m) (drop-append-le n front back (omega arith)) ∙ take-append-le m (drop n front) back (omega (arith, length-drop n front)))

-- a reading looks at nothing behind its block
pub reading_of-same : (bytes rest : List ℕ) (kind : ℕ) (payload : List ℕ) → reading_of bytes ≡ Whole kind payload → reading_of (take (length payload + 37) bytes ++ rest) ≡ Whole kind payload
reading_of-same bytes rest kind payload is =
    let whole = whole_of-reading bytes kind payload is in
    let n = length payload + 37 in
    let split = subst (λ l. IsWhole l kind payload) (sym (take-append-drop n bytes)) whole in
    reading_of-whole (take n bytes ++ rest) kind payload (whole_of-front (take n bytes) rest kind payload (length-take-le n bytes whole.fits) (drop n bytes) split)

-- nor at how much stands behind it
pub whole_fits : (bytes : List ℕ) (kind : ℕ) (payload : List ℕ) → reading_of bytes ≡ Whole kind payload → length payload + BLOCK_OVERHEAD ≤ length bytes
whole_fits bytes kind payload is = (whole_of-reading bytes kind payload is).fits

pub reading_of-longer : (bytes rest : List ℕ) (n kind : ℕ) (payload : List ℕ) → reading_of bytes ≡ Whole kind payload → length payload + BLOCK_OVERHEAD ≤ n → n ≤ length bytes
    → reading_of (take n bytes ++ rest) ≡ Whole kind payload
reading_of-longer bytes rest n kind payload is le within =
    let m = length payload + BLOCK_OVERHEAD in
    let k = n - m in
    let split : take n bytes ≡ take m bytes ++ take k (drop m bytes) = ap (λ (i : ℕ). take i bytes) (omega arith) ∙ take-add m k bytes in
    ap (λ (l : List ℕ). reading_of (l ++ rest)) split ∙ ap reading_of (append_assoc (take m bytes) (take k (drop m bytes)) rest)
    ∙ reading_of-same bytes (take k (drop m bytes) ++ rest) kind payload is

-- bytes below 256 that hold a whole block are encoded as it is
pub encoded-whole : (bytes : List ℕ) (kind : ℕ) (payload : List ℕ) → ((i : ℕ) → get_or bytes i 0 < 256) → IsWhole bytes kind payload → take (length payload + 37) bytes ≡ block kind payload
unfolding block
encoded-whole bytes kind payload small whole =
    let n = length payload in
    let head : to_be_bytes w32 n ≡ take 4 bytes = be_bytes_4 (take 4 bytes) n (length-take-le 4 bytes (omega (arith, whole.fits))) (small_front 4) (sym whole.size) in
    let parts : take (4 + (n + 1) + 32) bytes ≡ take 4 bytes ++ take (n + 1) (drop 4 bytes) ++ take 32 (drop (4 + (n + 1)) bytes) =
    take-add (4 + (n + 1)) 32 bytes ∙ ap (λ l. l ++ take 32 (drop (4 + (n + 1)) bytes)) (take-add 4 (n + 1) bytes) in
    let long : n + 37 ≡ 4 + (n + 1) + 32 = omega arith in
    let at : 4 + (n + 1) ≡ n + 5 = omega arith in
    rw (long, parts, at, ← head, whole.body, whole.digest)
  where
    small_front : (n i : ℕ) → get_or (take n bytes) i 0 < 256
    small_front n i = elim (cases_lt i n) [
      | inl within ↦ rw (get_or-take n bytes i 0 within) (small i)
      | inr past ↦ rw (get_or_past (take n bytes) i 0 (omega (arith, length-take n bytes))) (lit< tt)
    ]

-- the other readings

pub reading_of-head_cut : (bytes : List ℕ) → length bytes < 5 → reading_of bytes ≡ Cut 5 (length bytes)
unfolding reading_of
reading_of-head_cut bytes few =
    let head : ltb (length bytes) 5 ≡ true = grind (arith, nat_tests) in
    rw head

module _ (bytes : List ℕ) (size : ℕ) (some : 5 ≤ length bytes) (is : from_be_bytes w32 (take 4 bytes) ≡ size) where
  pub reading_of-long : PAYLOAD_MAX < size → reading_of bytes ≡ Long size
  unfolding reading_of
  reading_of-long over =
      let head : ltb (length bytes) 5 ≡ false = grind (arith, nat_tests) in
      let long : ltb PAYLOAD_MAX size ≡ true = grind (arith, nat_tests) in
      rw (is, head, long)

  pub reading_of-payload_cut : size ≤ PAYLOAD_MAX → length bytes < size + 37 → reading_of bytes ≡ Cut (size + 37) (length bytes)
  unfolding reading_of
  reading_of-payload_cut small few =
      let head : ltb (length bytes) 5 ≡ false = grind (arith, nat_tests) in
      let long : ltb PAYLOAD_MAX size ≡ false = grind (arith, nat_tests) in
      let short : ltb (length bytes) (size + 37) ≡ true = grind (arith, nat_tests) in
      rw (is, head, long, short)

  pub reading_of-differs : size ≤ PAYLOAD_MAX → size + 37 ≤ length bytes
      → take 32 (drop (size + 5) bytes) ≢ sha256 (take (size + 1) (drop 4 bytes))
      → reading_of bytes ≡ Differs (take 32 (drop (size + 5) bytes)) (sha256 (take (size + 1) (drop 4 bytes)))
  unfolding reading_of
  reading_of-differs small fits other =
      let head : ltb (length bytes) 5 ≡ false = grind (arith, nat_tests) in
      let long : ltb PAYLOAD_MAX size ≡ false = grind (arith, nat_tests) in
      let short : ltb (length bytes) (size + 37) ≡ false = grind (arith, nat_tests) in
      let stored = take 32 (drop (size + 5) bytes) in
      let sum = sha256 (take (size + 1) (drop 4 bytes)) in
      let unlike : bytes_eq stored sum ≡ false = grind (arith, bytes_eq-Decides stored sum) in
      rw (is, head, long, short, unlike)

-- what is written head first, and then the digest of what stands behind the length
pub written-block : (old now done : List ℕ) (start kind : ℕ) (payload : List ℕ)
    → now ≡ old ++ to_be_bytes w32 (length payload) ++ kind ∷ [] ++ payload → start ≡ length old + 4 → done ≡ now ++ sha256 (drop start now)
    → done ≡ old ++ block kind payload
unfolding block
written-block old now done start kind payload is place digest =
    let head = to_be_bytes w32 (length payload) in
    let four : length head ≡ 4 = refl in
    let parted : now ≡ (old ++ head) ++ (kind ∷ payload) = is ∙ append_assoc (old ++ head) (kind ∷ []) payload in
    let body : drop start now ≡ kind ∷ payload = rw parted (drop_at (old ++ head) (kind ∷ payload) start (sym (place ∙ sym (length-append old head)))) in
    digest ∙ ap (λ l. now ++ sha256 l) body ∙ ap (λ l. l ++ sha256 (kind ∷ payload)) parted ∙ grouped old head (kind ∷ payload) (sha256 (kind ∷ payload))
  where
    grouped : (a b c d : List ℕ) → (a ++ b) ++ c ++ d ≡ a ++ (b ++ c ++ d)
    grouped a b c d = simp append_assoc

-- what stands behind a block at the head of some bytes
behind-block : (kind : ℕ) (payload rest : List ℕ) → drop (length payload + BLOCK_OVERHEAD) (block kind payload ++ rest) ≡ rest
behind-block kind payload rest = drop_at (block kind payload) rest (length payload + BLOCK_OVERHEAD) (length-block kind payload)

pub one_encoding : (a b : ℕ × List ℕ) (x y : List ℕ) → length a.1 ≤ PAYLOAD_MAX → length b.1 ≤ PAYLOAD_MAX → block a.0 a.1 ++ x ≡ block b.0 b.1 ++ y → (a ≡ b) × (x ≡ y)
one_encoding a b x y small small' same =
    let alike = same_whole a.0 b.0 a.1 b.1 (sym (reading_of-block a.0 a.1 x small) ∙ ap reading_of same ∙ reading_of-block b.0 b.1 y small') in
    let paired : a ≡ b = ap (λ (k : ℕ). (k, a.1)) alike.0 ∙ ap (λ (p : List ℕ). (b.0, p)) alike.1 in
    let rests = sym (behind-block a.0 a.1 x) ∙ ap (drop (length a.1 + BLOCK_OVERHEAD)) same ∙ ap (λ (p : List ℕ). drop (length p + BLOCK_OVERHEAD) (block b.0 b.1 ++ y)) alike.1 ∙ behind-block b.0 b.1 y in
    (paired, rests)
  where
    same_whole : (k l : ℕ) (p q : List ℕ) → Whole k p ≡ Whole l q → (k ≡ l) × (p ≡ q)
    same_whole k l p q e = (cc, cc)

-- a block is read wherever it stands
pub reading_of-anywhere : (bytes front rest payload : List ℕ) (at kind : ℕ) → length front ≡ at → length payload ≤ PAYLOAD_MAX → bytes ≡ front ++ block kind payload ++ rest
    → reading_of (drop at bytes) ≡ Whole kind payload
reading_of-anywhere bytes front rest payload at kind long small is =
    ap (λ (l : List ℕ). reading_of (drop at l)) (is ∙ append_assoc front (block kind payload) rest)
    ∙ ap reading_of (drop_at front (block kind payload ++ rest) at long) ∙ reading_of-block kind payload rest small
