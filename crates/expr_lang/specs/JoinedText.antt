-- A text that is joined piece by piece, up to a limit.
use Rattle.std.specs.Prelude.{◌≡◌, ℕ, ◌<◌, ◌≤◌, ◌⊎◌, true, false, List, length, string_bytes}
use Rattle.expr_lang.specs.declared.evaluator.joined.JoinedText.{JoinedText}
use Rattle.expr_lang.specs.declared.val.TheConstants.{VALUE_MAX}

-- it holds these bytes, or has noted that they are too many
abbrev pub Holds : JoinedText → List ℕ → Type 0
Holds joined bytes =
    ((joined.is_long ≡ false) × (string_bytes joined.text ≡ bytes) × (length bytes ≤ VALUE_MAX))
    ⊎ ((joined.is_long ≡ true) × (VALUE_MAX < length bytes))
