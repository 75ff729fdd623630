-- Patterns of a processor's own properties, and what becomes of them.
use Rattle.std.specs.Prelude.{◌≡◌, ℕ, Bool, true, false, List, [], ◌∷◌, Option, Some, None, option_map, unwrap_or}
use Rattle.std.specs.List.{list_all}
use Rattle.std.specs.Option.{option_or}
use Rattle.machine_model.specs.declared.kind.OwnPattern.{OwnPattern}
use Rattle.flow_definition.specs.declared.own_patterns.Attempt.{Attempt}
use Rattle.flow_definition.specs.declared.own_patterns.Attempt.TheVariants.{Read, Unread, TooBig}
use Rattle.flow_definition.specs.declared.own_patterns.RefusedPatterns.{RefusedPatterns}
use Rattle.flow_definition.specs.declared.own_patterns.MadePatterns.{MadePatterns}
use Rattle.flow_definition.specs.declared.own_patterns.MadePatterns.TheVariants as made
use Rattle.flow_definition.specs.declared.rule.Rule.{Rule}
use Rattle.flow_definition.specs.declared.rule.Rule.TheVariants.{BadPattern, PatternTooBig}
use Rattle.flow_definition.specs.Patterns.{HasRisen, IsUnread, Told, refuse}
use Rattle.flow_definition.specs.Reading.{own_patterns, pattern_of, patterns_of}

-- what becomes of an own property's text. The builder may call any pattern too big where its count of such refusals rose
abbrev pub IsAttempt : (Risen : Type 0) → (whole : Bool) → List ℕ × List ℕ → Attempt → Type 0
IsAttempt Risen whole (name, text) (Read own) = (own.name ≡ name) × (own.pattern.text ≡ pattern_of whole text)
IsAttempt Risen whole (name, text) (Unread other) = (other ≡ name) × IsUnread (pattern_of whole text)
IsAttempt Risen whole (name, text) (TooBig other) = (other ≡ name) × Risen

abbrev pub AreAttempts : (Risen : Type 0) → (whole : Bool) → List (List ℕ × List ℕ) → List Attempt → Type 0
AreAttempts Risen whole [] [] = Unit {0}
AreAttempts Risen whole (given ∷ more) (attempt ∷ rest) =
    IsAttempt Risen whole given attempt × AreAttempts Risen whole more rest
AreAttempts Risen whole [] (attempt ∷ rest) = ⊥
AreAttempts Risen whole (given ∷ more) [] = ⊥

abbrev pub is_read : Attempt → Bool
is_read (Read own) = true
is_read (Unread name) = false
is_read (TooBig name) = false

abbrev pub read_in : Attempt → Option OwnPattern
read_in (Read own) = Some own
read_in (Unread name) = None
read_in (TooBig name) = None

-- not each is read
abbrev pub AreRefused : (Risen : Type 0) → (whole : Bool) → List (List ℕ × List ℕ) → List Attempt → Type 0
AreRefused Risen whole texts attempts = AreAttempts Risen whole texts attempts × (list_all is_read attempts ≡ false)

abbrev pub AreOwnBuilt : (Risen : Type 0) → (whole : Bool) → List (List ℕ × List ℕ) → MadePatterns → Type 0
AreOwnBuilt Risen whole texts (made.Read list) = own_patterns list ≡ patterns_of whole texts
AreOwnBuilt Risen whole texts (made.Refused attempts) = AreRefused Risen whole texts attempts

-- ---- the rule that is broken, and by which: the first that is unread, else the first that is too big

abbrev pub unread_in : List Attempt → Option (List ℕ)
unread_in [] = None
unread_in (Read own ∷ rest) = unread_in rest
unread_in (Unread name ∷ rest) = Some name
unread_in (TooBig name ∷ rest) = unread_in rest

abbrev pub too_big_in : List Attempt → Option (List ℕ)
too_big_in [] = None
too_big_in (Read own ∷ rest) = too_big_in rest
too_big_in (Unread name ∷ rest) = too_big_in rest
too_big_in (TooBig name ∷ rest) = Some name

abbrev pub rule_by : (unread : Option (List ℕ)) → Rule
rule_by (Some name) = BadPattern
rule_by None = PatternTooBig

abbrev pub name_refused : List Attempt → List ℕ
name_refused attempts = unwrap_or (option_or (unread_in attempts) (too_big_in attempts)) []

-- ---- what a builder tells behind them: it refused one more text for each that is too big

abbrev pub told_attempt : (whole : Bool) → Told → List ℕ × List ℕ → Attempt → Told
told_attempt whole before given (Read own) = before
told_attempt whole before given (Unread name) = before
told_attempt whole before given (TooBig name) = refuse before (pattern_of whole given.1)

abbrev pub told_attempts : (whole : Bool) → Told → List (List ℕ × List ℕ) → List Attempt → Told
told_attempts whole before [] attempts = before
told_attempts whole before (given ∷ more) [] = before
told_attempts whole before (given ∷ more) (attempt ∷ rest) =
    told_attempts whole (told_attempt whole before given attempt) more rest

abbrev pub told_patterns : (whole : Bool) → Told → List (List ℕ × List ℕ) → MadePatterns → Told
told_patterns whole before texts (made.Read list) = before
told_patterns whole before texts (made.Refused attempts) = told_attempts whole before texts attempts

-- ---- patterns of which none is kept

-- what became of each, and what the builder tells behind that; and which are refused first
pub record AreTried (before now : Told) (whole : Bool) (texts : List (List ℕ × List ℕ)) (refused : RefusedPatterns)
    : Type 0 where
  pub attempts : List Attempt
  pub each : AreAttempts (HasRisen before.count now.count) whole texts attempts
  pub told : now ≡ told_attempts whole before texts attempts
  pub unread : refused.unread ≡ unread_in attempts
  pub too_big : refused.too_big ≡ too_big_in attempts

-- the rule that is broken, and by which
abbrev pub refusal_by : (unread too_big : Option (List ℕ)) → Option (Rule × List ℕ)
refusal_by unread too_big =
    option_or (option_map (λ name. (BadPattern, name)) unread) (option_map (λ name. (PatternTooBig, name)) too_big)
