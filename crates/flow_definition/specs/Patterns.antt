-- What the builder of patterns says of a text.
use Rattle.std.specs.Prelude.{◌≡◌, ◌≢◌, ℕ, ◌-◌, ◌^◌, ◌<◌, List, [], ◌∷◌, ◌++◌, Result, Ok, Err}
use Rattle.disk_trait.specs.Count.{one_more}
use Rattle.regex_syntax.specs.Verdict.{default_config, Refuses}
use Rattle.regex_syntax.specs.declared.error.ErrorKind.{ErrorKind}
use Rattle.regex_syntax.specs.declared.error.ErrorKind.TheVariants.{OutOfMemory}
use Rattle.flow_definition.specs.declared.patterns.PatternError.{PatternError}
use Rattle.flow_definition.specs.declared.patterns.PatternError.TheVariants as error

-- no pattern is read from the text, or it nests too deep
abbrev pub IsUnread : List ℕ → Type 0
IsUnread text = (kind : ErrorKind) × (kind ≢ OutOfMemory) × Refuses default_config text kind

-- a builder's count of refusals for size goes up by one at each, up to its type's end, and at nothing else
pub record CountsEach (before now : ℕ) (refused : Type 0) : Type 0 where
  pub one : refused → now ≡ one_more before
  pub none : (refused → ⊥) → now ≡ before

-- the count of a builder's refusals for size rose, or stands at its type's end
abbrev pub HasRisen : (before now : ℕ) → Type 0
HasRisen before now = now < 2 ^ 64 - 1 → before < now

-- the texts that a builder refused for their size, behind the answer to one more
abbrev pub refused_behind : {A : Type 0} → List (List ℕ) → List ℕ → Result A PatternError → List (List ℕ)
refused_behind before text (Ok pattern) = before
refused_behind before text (Err error.Syntax) = before
refused_behind before text (Err error.TooBig) = before ++ text ∷ []
refused_behind before text (Err error.Memory) = before

-- what a builder tells of the texts that it refused for their size: its count, and which they were, in turn
pub record Told : Type 0 where
  pub count : ℕ
  pub texts : List (List ℕ)

abbrev pub told_by_builder : {S : Type 0} → (faults : S → ℕ) → (refused : S → List (List ℕ)) → S → Told
told_by_builder faults refused builder = record { count = faults builder; texts = refused builder }

-- one more text was refused so
abbrev pub refuse : Told → List ℕ → Told
refuse before text = record { count = one_more before.count; texts = before.texts ++ text ∷ [] }
