-- Bytes that are as many as their head wants.
use Rattle.std.proofs.Common.{◌≡◌, ℕ, ◌+◌, ◌-◌, ◌≤◌, List, length, take, drop, sym, ◌∙◌, ap, arith, false, ltb, length-take, bytes_eq}
use Rattle.std.specs.Bool.{if◌then◌else◌}
use Rattle.std.specs.Prelude.{slice_index}
use Rattle.std.specs.Int.{w32, from_be_bytes}
use Rattle.std.proofs.lemmas.Bool.Decides.{nat_tests}
use Rattle.std.proofs.lemmas.List.{drop-take, take-take}
use Rattle.sha2.specs.Sha256.{sha256}
use Rattle.record_codec.specs.declared.block.TheConstants.{PAYLOAD_MAX}
use Rattle.record_codec.specs.Block.{Reading, Whole, Differs, reading_of, tested}
use Rattle.record_codec.specs.Head.{IsWholeHead}

-- of bytes that are as many as their head wants, only the digest is left to test
tested_whole : (n : ℕ) (bytes : List ℕ) → IsWholeHead n bytes → reading_of bytes ≡ tested bytes (from_be_bytes w32 (take 4 bytes))
unfolding reading_of
tested_whole n bytes head =
    let no_cut : ltb (length bytes) 5 ≡ false = grind (arith, nat_tests, head.size, head.whole) in
    let no_long : ltb PAYLOAD_MAX (from_be_bytes w32 (take 4 bytes)) ≡ false = grind (arith, nat_tests, head.size, head.short) in
    let no_short : ltb (length bytes) (from_be_bytes w32 (take 4 bytes) + 37) ≡ false = grind (arith, nat_tests, head.size, head.whole) in
    rw (no_cut, no_long, no_short)

pub whole_front : (n : ℕ) (bytes : List ℕ) → IsWholeHead n bytes → IsWholeHead n (take n bytes)
whole_front n bytes head = record {
  size = head.size ∙ ap (λ (l : List ℕ). from_be_bytes w32 l + 37) (sym (take-take 4 n bytes (omega (arith, head.size))));
  short = head.short;
  whole = omega (arith, length-take n bytes, head.whole);
}

-- the block's bytes are read as those that they begin
pub same_reading : (n : ℕ) (bytes : List ℕ) → IsWholeHead n bytes → reading_of (take n bytes) ≡ reading_of bytes
same_reading n bytes head =
    let size = from_be_bytes w32 (take 4 bytes) in
    let same_head : take 4 (take n bytes) ≡ take 4 bytes = take-take 4 n bytes (omega (arith, head.size)) in
    let rest : (m k : ℕ) → m + k ≤ n → take m (drop k (take n bytes)) ≡ take m (drop k bytes) = λ m k le.
    ap (λ (i : ℕ). take m (drop k (take i bytes))) (omega arith) ∙ ap (take m) (drop-take k (n - k) bytes) ∙ take-take m (n - k) (drop k bytes) (omega arith) in
    tested_whole n (take n bytes) (whole_front n bytes head)
    ∙ ap (λ (l : List ℕ). tested (take n bytes) (from_be_bytes w32 l)) same_head
    ∙ ap (λ (b : List ℕ). tested_parts b (take 32 (drop (size + 5) (take n bytes)))) (rest (size + 1) 4 (omega (arith, head.size)))
    ∙ ap (λ (d : List ℕ). tested_parts (take (size + 1) (drop 4 bytes)) d) (rest 32 (size + 5) (omega (arith, head.size)))
    ∙ sym (tested_whole n bytes head)
  where
    tested_parts : List ℕ → List ℕ → Reading
    tested_parts body stored = if bytes_eq stored (sha256 body) then Whole (slice_index body 0) (drop 1 body) else Differs stored (sha256 body)
