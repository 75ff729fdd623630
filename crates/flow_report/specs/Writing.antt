-- What a call that writes a text leaves in its sink.
use Rattle.std.specs.Prelude.{◌≡◌, ℕ, List, ◌++◌, OnOk, OnErr, Result}
use Rattle.disk_trait.specs.declared.file_name.Failed.{Failed}

-- the text has this part in front of the rest
abbrev pub IsFront : (part text : List ℕ) → Type 0
IsFront part text = (rest : List ℕ) × (part ++ rest ≡ text)

-- behind what stood there stands the whole text, or after a failure some front of it
pub record Writes (text before after : List ℕ) (result : Result (Unit {0}) Failed) : Type 0 where
  pub ok : OnOk result (after ≡ before ++ text)
  pub err : OnErr result ((part : List ℕ) × IsFront part text × (after ≡ before ++ part))

-- ---- for private clauses

-- Of what was held and the text behind it, this part went to the sink, and this rest is left; it is held, unless the
-- sink failed.
pub record Puts (text before held after kept : List ℕ) (result : Result (Unit {0}) Failed) : Type 0 where
  pub part : List ℕ
  pub rest : List ℕ
  pub written : after ≡ before ++ part
  pub whole : part ++ rest ≡ held ++ text
  pub left : OnOk result (rest ≡ kept)
