-- Texts that may be missing.
use Rattle.std.specs.Prelude.{ℕ, Bool, true, false, List, bytes_eq, Option, None, Some}

-- whether both are missing, or both the same text
abbrev pub same_text : Option (List ℕ) → Option (List ℕ) → Bool
same_text None None = true
same_text (Some text) (Some other) = bytes_eq text other
same_text _ _ = false
