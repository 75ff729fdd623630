-- What a reader of all of some bytes owes, where it takes no memory, from the laws of the reading.
use Rattle.std.proofs.Common.{◌≡◌, ℕ, List, length, Result, Ok, Err, ap, ◌∙◌}
use Rattle.std.specs.Prelude.{IfOk}
use Rattle.flowfile_record.specs.declared.error.CodecError.{CodecError}
use Rattle.flowfile_record.specs.Field.{IsBytes, IsField}
use Rattle.flowfile_record.specs.Reading.{Reading, answer, whole}
use Rattle.flowfile_record.proofs.FieldLaws.{whole_again}
use Rattle.flowfile_record.proofs.Wholes.{is_found}

-- What is read stood there encoded so.
pub is_found_exactly : {A : Type 0} (read : Reading A) (encode : A → List ℕ) (Has : A → Type 0) → IsField read encode Has → (bytes : List ℕ) (r : Result A CodecError) → IsBytes bytes
    → r ≡ answer (length bytes) (whole read bytes) → IfOk r (λ a. Has a × (bytes ≡ encode a))
is_found_exactly read encode Has field bytes (Ok a) fits given = is_found read encode Has field bytes (Ok a) fits given
is_found_exactly read encode Has field bytes (Err e) fits given = tt

-- What is encoded so is read.
pub is_only_exactly : {A : Type 0} (read : Reading A) (encode : A → List ℕ) (Has : A → Type 0) → IsField read encode Has → (bytes : List ℕ) (r : Result A CodecError)
    → r ≡ answer (length bytes) (whole read bytes) → (a : A) → Has a → bytes ≡ encode a → r ≡ Ok a
is_only_exactly read encode Has field bytes r given a has e = given ∙ ap (answer (length bytes)) (ap (whole read) e ∙ whole_again read encode Has field a has)
