-- Words as arguments, from the front.
use Rattle.std.proofs.Common.{◌≡◌, ℕ, ◌+◌, ◌<◌, Bool, true, false, cond, List, [], ◌∷◌, ◌++◌, length, Option, Some, None, refl, ap, ap₂, sym, ◌∙◌, arith, codes, append_assoc, lit<}
use Rattle.std.specs.Prelude.{◌||◌, not, option_map}
use Rattle.std.specs.List.{list_any, position_or_len}
use Rattle.std.specs.Str.Pattern.{FindsTextPrefix, StripsPrefix}
use Rattle.std.proofs.lemmas.Str.Pattern.{IsSplitOnceResult, split_once_first}
use Rattle.flow_words.specs.Arguments.{Argument, Named, Text, arguments_of, is_equals, with_argument, takes_next, whole_argument, without_hyphens}

-- ---- words

has_none : (text : Text) → position_or_len is_equals text ≡ length text → list_any is_equals text ≡ false
has_none [] h = refl
has_none (byte ∷ text) h = elim (is_equals byte) as (λ (b : Bool). cond (not b) (1 + position_or_len is_equals text) 0 ≡ length (byte ∷ text) → (b || list_any is_equals text) ≡ false) [
  | true ↦ λ none. absurd (omega arith)
  | false ↦ λ more. has_none text (omega arith)
] h

has_one : (text : Text) → position_or_len is_equals text < length text → list_any is_equals text ≡ true
has_one [] h = absurd (omega arith)
has_one (byte ∷ text) h = elim (is_equals byte) as (λ (b : Bool). cond (not b) (1 + position_or_len is_equals text) 0 < length (byte ∷ text) → (b || list_any is_equals text) ≡ true) [
  | true ↦ λ here. refl
  | false ↦ λ more. has_one text (omega arith)
] h

-- the word that `strip_prefix` found to be an option, in which `split_once` found no `=`
pub named : (word text : Text) → StripsPrefix (FindsTextPrefix (codes "--")) word text → IsSplitOnceResult 61 text None
    → (takes_next word ≡ true) × (without_hyphens word ≡ text)
named word text strips splits =
    let front : word ≡ codes "--" ++ text = strips.1.1 ∙ ap (λ (l : List ℕ). codes "--" ++ l) (sym strips.2) in
    rw front (rw (has_none text (split_once_first 61 text None splits (lit< tt))) refl, refl)

-- ---- arguments from the front

-- what the words behind are, where an option may wait for its value
abbrev pub behind : Option Text → List Text → Option (List Argument)
behind None words = arguments_of words
behind (Some name) [] = None
behind (Some name) (value ∷ words) = with_argument (Named name value) (arguments_of words)

-- arguments in front of those that come
abbrev pub after : List Argument → Option (List Argument) → Option (List Argument)
after front = option_map (λ rest. front ++ rest)

pub behind_option : (word : Text) (words : List Text) → takes_next word ≡ true
    → arguments_of (word ∷ words) ≡ behind (Some (without_hyphens word)) words
behind_option word [] h = rw h refl
behind_option word (next ∷ words) h = rw h refl

pub behind_whole : (word : Text) (words : List Text) → takes_next word ≡ false
    → arguments_of (word ∷ words) ≡ with_argument (whole_argument word) (arguments_of words)
behind_whole word [] h = rw h refl
behind_whole word (next ∷ words) h = rw h refl

pub after-joined : (front : List Argument) (argument : Argument) (rest : Option (List Argument))
    → after front (with_argument argument rest) ≡ after (front ++ argument ∷ []) rest
after-joined front argument None = refl
after-joined front argument (Some rest) = ap Some (sym (append_assoc front (argument ∷ []) rest))

-- one word more: behind an option, behind none where it is an option, and where it is an argument
module _ (all : Option (List Argument)) (front new : List Argument) (option next : Option Text) (word : Text) (words rest : List Text) where
  pub value_met : (name : Text) → all ≡ after front (behind option words) → words ≡ word ∷ rest
      → option ≡ Some name → new ≡ front ++ Named name word ∷ [] → next ≡ None → all ≡ after new (behind next rest)
  value_met name h first waits more none =
      h ∙ ap₂ (λ (o : Option Text) (ws : List Text). after front (behind o ws)) waits first
      ∙ after-joined front (Named name word) (arguments_of rest)
      ∙ sym (ap₂ (λ (a : List Argument) (o : Option Text). after a (behind o rest)) more none)

  pub name_met : (name : Text) → all ≡ after front (behind option words) → words ≡ word ∷ rest
      → option ≡ None → takes_next word ≡ true → without_hyphens word ≡ name → new ≡ front → next ≡ Some name
      → all ≡ after new (behind next rest)
  name_met name h first none takes is same waits =
      h ∙ ap₂ (λ (o : Option Text) (ws : List Text). after front (behind o ws)) none first
      ∙ ap (after front) (behind_option word rest takes ∙ ap (λ (n : Text). behind (Some n) rest) is)
      ∙ sym (ap₂ (λ (a : List Argument) (o : Option Text). after a (behind o rest)) same waits)

  pub whole_met : (argument : Argument) → all ≡ after front (behind option words) → words ≡ word ∷ rest
      → option ≡ None → takes_next word ≡ false → whole_argument word ≡ argument → new ≡ front ++ argument ∷ [] → next ≡ None
      → all ≡ after new (behind next rest)
  whole_met argument h first none takes is more still =
      h ∙ ap₂ (λ (o : Option Text) (ws : List Text). after front (behind o ws)) none first
      ∙ ap (after front) (behind_whole word rest takes ∙ ap (λ (a : Argument). with_argument a (arguments_of rest)) is)
      ∙ after-joined front argument (arguments_of rest)
      ∙ sym (ap₂ (λ (a : List Argument) (o : Option Text). after a (behind o rest)) more still)
