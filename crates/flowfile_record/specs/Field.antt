-- What a reading of a field owes to the field's encoding.
use Rattle.std.specs.Prelude.{◌≡◌, ℕ, ◌<◌, List, ◌++◌, Ok, slice_index}
use Rattle.flowfile_record.specs.Reading.{Reading}

abbrev pub IsBytes : List ℕ → Type 0
IsBytes bytes = (i : ℕ) → slice_index bytes i < 256

-- what a reader took from the front of some bytes, and what it left
pub record Takes (bytes text rest : List ℕ) : Type 0 where
  pub parts : bytes ≡ text ++ rest
  pub rest_fits : IsBytes rest

-- What is read is a value that has an encoding, and stood there encoded so. What is encoded so is read, whatever
-- follows it.
pub record IsField {A : Type 0} (read : Reading A) (encode : A → List ℕ) (Has : A → Type 0) : Type 0 where
  pub takes : (bytes : List ℕ) (x : A × List ℕ) → IsBytes bytes → read bytes ≡ Ok x
      → Takes bytes (encode x.0) x.1 × Has x.0
  pub again : (a : A) (rest : List ℕ) → Has a → read (encode a ++ rest) ≡ Ok (a, rest)

-- One value has one encoding, and no encoding is a proper front of another.
abbrev pub HasOneEncoding : {A : Type 0} → (A → List ℕ) → (A → Type 0) → Type 0
HasOneEncoding {A = A} encode Has =
    (a b : A) (x y : List ℕ) → Has a → Has b → encode a ++ x ≡ encode b ++ y → (a ≡ b) × (x ≡ y)
