-- What a reader of all of some bytes owes, from the laws of the reading.
use Rattle.std.proofs.Common.{◌≡◌, ℕ, List, length, Result, Ok, Err, ap, subst, ◌∙◌}
use Rattle.std.specs.Prelude.{IfOk}
use Rattle.flowfile_record.specs.declared.error.CodecError.{CodecError}
use Rattle.flowfile_record.specs.Field.{IsBytes, IsField}
use Rattle.flowfile_record.specs.Reading.{Reading, answer, Answers, whole}
use Rattle.flowfile_record.proofs.FieldLaws.{whole_takes, whole_again}

abbrev done : {A : Type 0} → A → Result A CodecError
done x = Ok x

same : {A : Type 0} (size : ℕ) (x : A) (read : Result A ℕ) → done x ≡ answer size read → read ≡ Ok x
same size x (Ok y) e = cc
same size x (Err left) e = absurd cc

-- What is read stood there encoded so.
pub is_found : {A : Type 0} (read : Reading A) (encode : A → List ℕ) (Has : A → Type 0) → IsField read encode Has → (bytes : List ℕ) (r : Result A CodecError) → IsBytes bytes
    → Answers r (answer (length bytes) (whole read bytes)) → IfOk r (λ a. Has a × (bytes ≡ encode a))
is_found read encode Has field bytes (Ok a) fits given = whole_takes read encode Has field bytes a fits (same (length bytes) a (whole read bytes) given)
is_found read encode Has field bytes (Err e) fits given = tt

-- What is encoded so is read.
pub is_only : {A : Type 0} (read : Reading A) (encode : A → List ℕ) (Has : A → Type 0) → IsField read encode Has → (bytes : List ℕ) (r : Result A CodecError)
    → Answers r (answer (length bytes) (whole read bytes)) → (a : A) → Has a → bytes ≡ encode a → Answers r (Ok a)
is_only read encode Has field bytes r given a has e =
    let one : whole read bytes ≡ Ok a = ap (whole read) e ∙ whole_again read encode Has field a has in
    subst (Answers r) (ap (answer (length bytes)) one) given
