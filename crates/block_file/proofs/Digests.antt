-- A block whose bytes are there by its header: what its digest says.
use Rattle.std.proofs.Common.{◌≡◌, ◌≢◌, ℕ, ◌+◌, ◌-◌, ◌≤◌, ltb, true, false, List, length, get_or, take, drop, bytes_eq, refl, sym, ap, ◌∙◌, arith, length-drop}
use Rattle.std.specs.Int.{w32, from_be_bytes}
use Rattle.std.proofs.lemmas.Bool.Decides.{nat_tests}
use Rattle.std.proofs.lemmas.List.{length-take-le}
use Rattle.std.proofs.lemmas.Slice.Eq.{bytes_eq-Decides}
use Rattle.sha2.specs.Sha256.{sha256}
use Rattle.record_codec.specs.Block.{Differs, reading_of}
use Rattle.record_codec.specs.Head.{IsWholeHead}
use Rattle.record_codec.specs.declared.block.TheConstants.{PAYLOAD_MAX}
use Rattle.record_codec.proofs.Blocks.{reading_of-differs}
use Rattle.block_file.specs.Address.{IsBlockOfSize}

-- the digest that stands in a block of this size, and what it is of
abbrev pub stored_in : ℕ → List ℕ → List ℕ
stored_in n bytes = take 32 (drop (n - 32) bytes)

abbrev pub body_in : ℕ → List ℕ → List ℕ
body_in n bytes = take (n - 36) (drop 4 bytes)

module _ (n : ℕ) (bytes : List ℕ) (head : IsWholeHead n bytes) where
  abbrev size : ℕ
  size = from_be_bytes w32 (take 4 bytes)

  at_digest : n - 32 ≡ size + 5
  at_digest = omega (arith, head.size)

  in_body : n - 36 ≡ size + 1
  in_body = omega (arith, head.size)

  pub differs : (stored found : List ℕ) → stored ≡ stored_in n bytes → found ≡ sha256 (body_in n bytes) → stored ≢ found → reading_of bytes ≡ Differs stored found
  differs stored found is of other =
      let stored_is : stored ≡ take 32 (drop (size + 5) bytes) = is ∙ ap (λ (k : ℕ). take 32 (drop k bytes)) at_digest in
      let found_is : found ≡ sha256 (take (size + 1) (drop 4 bytes)) = of ∙ ap (λ (k : ℕ). sha256 (take k (drop 4 bytes))) in_body in
      let long : 5 ≤ length bytes = omega (arith, head.size, head.whole) in
      rw (stored_is, found_is) (reading_of-differs bytes size long refl (omega (arith, head.size, head.short)) (omega (arith, head.size, head.whole)) (λ same. other (stored_is ∙ same ∙ sym found_is)))

  pub whole : (stored found : List ℕ) → stored ≡ stored_in n bytes → found ≡ sha256 (body_in n bytes) → stored ≡ found → IsBlockOfSize n (reading_of bytes)
  unfolding reading_of
  whole stored found is of same =
      let body = take (size + 1) (drop 4 bytes) in
      let stored_is : stored ≡ take 32 (drop (size + 5) bytes) = is ∙ ap (λ (k : ℕ). take 32 (drop k bytes)) at_digest in
      let found_is : found ≡ sha256 body = of ∙ ap (λ (k : ℕ). sha256 (take k (drop 4 bytes))) in_body in
      let alike : bytes_eq (take 32 (drop (size + 5) bytes)) (sha256 body) ≡ true = (bytes_eq-Decides _ _).1 (sym stored_is ∙ same ∙ found_is) in
      let short : ltb (length bytes) 5 ≡ false = grind (arith, nat_tests, head.size, head.whole) in
      let long : ltb PAYLOAD_MAX size ≡ false = grind (arith, nat_tests, head.size, head.short) in
      let cut : ltb (length bytes) (size + 37) ≡ false = grind (arith, nat_tests, head.size, head.whole) in
      let body_long : length body ≡ size + 1 = length-take-le (size + 1) (drop 4 bytes) (omega (arith, length-drop 4 bytes, head.size, head.whole)) in
      (get_or body 0 0, (drop 1 body, (rw (short, long, cut, alike) refl, omega (arith, body_long, length-drop 1 body, head.size))))
