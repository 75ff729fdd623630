-- Contents that are UTF-8, and those that aren't, as a test says it.
use Rattle.std.proofs.Common.{◌≡◌, ℕ, Bool, true, false, List, refl}
use Rattle.std.specs.Str.{IsUtf8, is_utf8}
use Rattle.std.proofs.lemmas.Str.{is_utf8-from_IsUtf8, IsUtf8-from_is_utf8}

pub is-text : (bytes : List ℕ) → IsUtf8 bytes → is_utf8 bytes ≡ true
is-text bytes is = is_utf8-from_IsUtf8 bytes is

pub isnt-text : (bytes : List ℕ) → ¬ (IsUtf8 bytes) → is_utf8 bytes ≡ false
isnt-text bytes isnt = of_test (is_utf8 bytes) refl
  where
    of_test : (test : Bool) → is_utf8 bytes ≡ test → test ≡ false
    of_test true is = absurd (isnt (IsUtf8-from_is_utf8 bytes is))
    of_test false is = refl
