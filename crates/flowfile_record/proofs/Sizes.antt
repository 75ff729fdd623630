-- How many bytes a list of numbers has.
use Rattle.std.proofs.Common.{◌≡◌, ℕ, ◌+◌, ◌*◌, List, [], ◌∷◌, length, length-append, refl, ap, arith}
use Rattle.std.specs.List.{flat_map}
use Rattle.std.specs.Int.{w32, w64, to_be_bytes}
use Rattle.std.proofs.lemmas.List.Concat.{flat_map-cons}
use Rattle.flowfile_record.specs.Encoding.{numbers}

words_size : (ns : List ℕ) → length (flat_map (to_be_bytes w64) ns) ≡ 8 * length ns
words_size [] = refl
words_size (n ∷ ns) =
    omega (
      arith,
      ap length (flat_map-cons (to_be_bytes w64) n ns),
      length-append (to_be_bytes w64 n) (flat_map (to_be_bytes w64) ns),
      words_size ns,
    )

pub numbers_size : (ns : List ℕ) → length (numbers ns) ≡ 4 + 8 * length ns
numbers_size ns =
    omega (arith, length-append (to_be_bytes w32 (length ns)) (flat_map (to_be_bytes w64) ns), words_size ns)
