-- The version 8 identifiers of flow files (RFC 9562): which bits of the sixteen bytes hold what.
use Rattle.std.specs.Prelude.{◌≡◌, ℕ, ◌+◌, ◌*◌, ◌/◌, ◌%◌, ◌^◌, ◌<◌, List}
use Rattle.std.specs.Int.{to_be_bytes, w128}
use Rattle.flowfile_record.specs.declared.limits.TheConstants.{NUMBER_LIMIT, STORE_LIMIT}
use Rattle.flowfile_record.specs.declared.identifier.TheConstants.{VERSION, VARIANT}

-- The number of the 128 bits, from the highest: 48 bits of the store's 60, the version 8 in four bits, the store's
-- other 12 bits, the variant 10, and 62 bits of the flow file's number.
abbrev pub identifier_number : ℕ → ℕ → ℕ
identifier_number store number =
    store % STORE_LIMIT / 2 ^ 12 * 2 ^ 80 + VERSION * 2 ^ 76 + store % 2 ^ 12 * 2 ^ 64 + VARIANT * 2 ^ 62
    + number % NUMBER_LIMIT

unfoldable pub identifier : ℕ → ℕ → List ℕ
identifier store number = to_be_bytes w128 (identifier_number store number)

-- a store's id and a flow file's number that an identifier holds whole
pub record IsHeldWhole (store number : ℕ) : Type 0 where
  pub store_fits : store < STORE_LIMIT
  pub number_fits : number < NUMBER_LIMIT

-- no other two have this identifier
abbrev pub IsOneOfAKind : ℕ → ℕ → Type 0
IsOneOfAKind store number =
    (other n : ℕ) → IsHeldWhole store number → IsHeldWhole other n → identifier store number ≡ identifier other n
    → (store ≡ other) × (number ≡ n)
