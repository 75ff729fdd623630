-- How plain fields are encoded, and what has an encoding. Numbers are big-endian.
use Rattle.std.specs.Prelude.{◌≡◌, ℕ, ◌<◌, ◌^◌, List, [], ◌∷◌, ◌++◌, length, All}
use Rattle.std.specs.List.{flat_map}
use Rattle.std.specs.Int.{w16, w32, w64, to_be_bytes}
use Rattle.std.specs.Str.{IsUtf8}
use Rattle.flowfile_record.specs.declared.limits.TheConstants.{NUMBER_LIMIT, DIGEST_SIZE}

abbrev pub byte : ℕ → List ℕ
byte n = n ∷ []

-- two bytes of length, and that many bytes of UTF-8
abbrev pub text : List ℕ → List ℕ
text bytes = to_be_bytes w16 (length bytes) ++ bytes

-- four bytes of length, and that many bytes of UTF-8
abbrev pub long : List ℕ → List ℕ
long bytes = to_be_bytes w32 (length bytes) ++ bytes

-- four bytes of count, and the items
abbrev pub listed : {A : Type 0} → (A → List ℕ) → List A → List ℕ
listed item xs = to_be_bytes w32 (length xs) ++ flat_map item xs

abbrev pub numbers : List ℕ → List ℕ
numbers ns = listed (to_be_bytes w64) ns

-- ---- what has an encoding

-- of a file, an arrival, an event, a batch or a log, a counter of these, and a count
abbrev pub IsNumber : ℕ → Type 0
IsNumber n = n < NUMBER_LIMIT

abbrev pub IsText : List ℕ → Type 0
IsText bytes = (length bytes < 2 ^ 16) × IsUtf8 bytes

abbrev pub IsLong : List ℕ → Type 0
IsLong bytes = (length bytes < 2 ^ 32) × IsUtf8 bytes

abbrev pub AreListed : {A : Type 0} → (A → Type 0) → List A → Type 0
AreListed Has xs = (length xs < 2 ^ 32) × All Has xs

abbrev pub AreNumbers : List ℕ → Type 0
AreNumbers ns = AreListed IsNumber ns

abbrev pub IsDigest : List ℕ → Type 0
IsDigest digest = length digest ≡ DIGEST_SIZE
