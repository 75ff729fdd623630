-- Runs, words and tokens at the front of some bytes.
use Rattle.std.proofs.Common.{◌≡◌, ℕ, Bool, true, false, cond, ◌==◌, List, [], ◌∷◌, ◌++◌, Option, Some, None, refl, ap, sym, ◌∙◌, inl, inr}
use Rattle.std.specs.List.{list_all}
use Rattle.std.specs.Option.{MatchOption, option_copied}
use Rattle.std.specs.Str.Pattern.{LacksTextAt, FindsTextPrefix, StripsPrefix}
use denote.Ref.{Bor}
use Rattle.std.proofs.lemmas.Bool.{cases_Bool, and_parts, eqb-true, eq-eqb}
use Rattle.std.proofs.lemmas.Option.{none-some, same_Some}
use Rattle.expr_lang.specs.Bytes.{is_space}
use Rattle.expr_lang.specs.Grammar.{AreSpaces}
use Rattle.expr_lang.specs.Reading.{front_while, behind_while, behind_spaces, behind_word, behind_token}

-- the bytes are x in front and these behind
pub record IsRead {A : Type 0} (G : List ℕ → A → Type 0) (bytes : List ℕ) (x : A) (behind : List ℕ) : Type 0 where
  pub front : List ℕ
  pub meant : G front x
  pub whole : bytes ≡ front ++ behind

-- the bytes don't begin with one that passes the test
abbrev pub Stops : (ℕ → Bool) → List ℕ → Type 0
Stops p [] = Unit {0}
Stops p (c ∷ rest) = p c ≡ false

module _ (p : ℕ → Bool) where
  pub front_behind : (bytes : List ℕ) → bytes ≡ front_while p bytes ++ behind_while p bytes
  front_behind [] = refl
  front_behind (c ∷ bytes) =
      elim (p c) as (λ (b : Bool). c ∷ bytes ≡ cond b (c ∷ front_while p bytes) [] ++ cond b (behind_while p bytes) (c ∷ bytes))
      [ true ↦ ap (λ (l : List ℕ). c ∷ l) (front_behind bytes) | false ↦ refl ]

  pub all_front : (bytes : List ℕ) → list_all p (front_while p bytes) ≡ true
  all_front [] = refl
  all_front (c ∷ bytes) = elim (cases_Bool (p c)) [
    | inl passes ↦ rw passes (rw passes (all_front bytes))
    | inr not_so ↦ rw not_so refl
  ]

  pub front_stopped : (rest : List ℕ) → Stops p rest → front_while p rest ≡ []
  front_stopped [] h = refl
  front_stopped (c ∷ rest) h = rw h refl

  pub behind_stopped : (rest : List ℕ) → Stops p rest → behind_while p rest ≡ rest
  behind_stopped [] h = refl
  behind_stopped (c ∷ rest) h = rw h refl

  pub front_all : (front rest : List ℕ) → list_all p front ≡ true → Stops p rest → front_while p (front ++ rest) ≡ front
  front_all [] rest h stops = front_stopped rest stops
  front_all (c ∷ front) rest h stops =
      let parts = and_parts (p c) (list_all p front) h in
      rw parts.0 (ap (λ (l : List ℕ). c ∷ l) (front_all front rest parts.1 stops))

  pub behind_all : (front rest : List ℕ) → list_all p front ≡ true → behind_while p (front ++ rest) ≡ behind_while p rest
  behind_all [] rest h = refl
  behind_all (c ∷ front) rest h =
      let parts = and_parts (p c) (list_all p front) h in
      rw parts.0 (behind_all front rest parts.1)

  pub behind_stops : (bytes : List ℕ) → Stops p (behind_while p bytes)
  behind_stops [] = tt
  behind_stops (c ∷ bytes) = elim (cases_Bool (p c)) [
    | inl passes ↦ rw passes (behind_stops bytes)
    | inr not_so ↦ rw not_so not_so
  ]

-- ---- words

pub word_sound : (word bytes rest : List ℕ) → behind_word word bytes ≡ Some rest → bytes ≡ word ++ rest
word_sound [] bytes rest h = same_Some bytes rest h
word_sound (c ∷ word) [] rest h = absurd (none-some rest h)
word_sound (c ∷ word) (b ∷ bytes) rest h = elim (cases_Bool (b == c)) [
  | inl same ↦ let there : behind_word word bytes ≡ Some rest = rw same at h in
      let e : b ≡ c = eqb-true b c same in
      let more : bytes ≡ word ++ rest = word_sound word bytes rest there in
      cc
  | inr other ↦ absurd (none-some rest (rw other at h))
]

pub word_complete : (word rest : List ℕ) → behind_word word (word ++ rest) ≡ Some rest
word_complete [] rest = refl
word_complete (c ∷ word) rest = rw (eq-eqb c c refl) (word_complete word rest)

-- ---- tokens: spaces, and a word

pub spaces_front : (bytes : List ℕ) → IsRead (λ front (x : Unit {0}). AreSpaces front) bytes tt (behind_spaces bytes)
spaces_front bytes = record { front = front_while is_space bytes; meant = all_front is_space bytes; whole = front_behind is_space bytes }

pub behind_all_spaces : (u rest : List ℕ) → AreSpaces u → Stops is_space rest → behind_spaces (u ++ rest) ≡ rest
behind_all_spaces u rest spaces stops = behind_all is_space u rest spaces ∙ behind_stopped is_space rest stops

pub token_sound : (word bytes rest : List ℕ) → behind_token word bytes ≡ Some rest → IsRead (λ u (x : Unit {0}). AreSpaces u) bytes tt (word ++ rest)
token_sound word bytes rest h =
    let e : behind_spaces bytes ≡ word ++ rest = word_sound word (behind_spaces bytes) rest h in
    record { front = front_while is_space bytes; meant = all_front is_space bytes; whole = front_behind is_space bytes ∙ ap (λ (l : List ℕ). front_while is_space bytes ++ l) e }

-- one byte that is no space is a token
pub token_complete : (c : ℕ) (u rest : List ℕ) → AreSpaces u → is_space c ≡ false → behind_token (c ∷ []) (u ++ (c ∷ rest)) ≡ Some rest
token_complete c u rest spaces other = ap (behind_word (c ∷ [])) (behind_all_spaces u (c ∷ rest) spaces other) ∙ word_complete (c ∷ []) rest

-- another byte stands there
pub token_none : (c d : ℕ) (u rest : List ℕ) → AreSpaces u → is_space d ≡ false → (d == c) ≡ false → behind_token (c ∷ []) (u ++ (d ∷ rest)) ≡ None
token_none c d u rest spaces other differs = ap (behind_word (c ∷ [])) (behind_all_spaces u (d ∷ rest) spaces other) ∙ rw differs refl

-- ---- the word that `strip_prefix` takes off

word_lacking : (word bytes : List ℕ) → LacksTextAt word bytes 0 → (o : Option (List ℕ)) → behind_word word bytes ≡ o → None ≡ o
word_lacking word bytes lacks None is = refl
word_lacking word bytes lacks (Some rest) is = absurd (lacks rest (word_sound word bytes rest is))

pub word_stripped : (word bytes : List ℕ) (r : Option (Bor (List ℕ))) →
    MatchOption r (FindsTextPrefix word bytes None) (λ x. StripsPrefix (FindsTextPrefix word) bytes x.now) → option_copied r ≡ behind_word word bytes
word_stripped word bytes None h = word_lacking word bytes h (behind_word word bytes) refl
word_stripped word bytes (Some x) h =
    let split : bytes ≡ word ++ x.now = h.1.1 ∙ ap (λ (l : List ℕ). word ++ l) (sym h.2) in
    sym (ap (behind_word word) split ∙ word_complete word x.now)
