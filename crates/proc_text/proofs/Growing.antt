-- How much a template writes at a match, and how long a text becomes by it.
use Rattle.std.proofs.Common.{◌≡◌, ◌≢◌, ℕ, zero, suc, ◌+◌, ◌-◌, ◌<◌, ◌≤◌, List, [], ◌∷◌, ◌++◌, length, drop, Option, None, Some, refl, sym, ◌∙◌, ap, subst, arith, get_or, slice_index, slice_range, length-append, length-drop}
use Rattle.std.specs.Prelude.{option_to_list}
use Rattle.std.specs.List.{sum_by}
use Rattle.std.proofs.lemmas.List.Sums.{sum_by-append}
use Rattle.regex.proofs.TemplateLemmas.{after_reference, dollar, plain_byte}
use Rattle.regex.specs.Templates.{at_dollar, group_called, name_at, text_or_nothing, written_after}
use Rattle.proc_text.specs.Shapes.{IsFrontOf, group_sizes}
use Rattle.proc_text.specs.declared.template.Front.{Front}

-- so many bytes that write one
abbrev pub bytes_front : (len : ℕ) → Front
bytes_front len = record { own = 1; group = None; len = len }

one_more : (front : List ℕ) (b : ℕ) (back : List ℕ) → front ≡ b ∷ back → length front ≡ (1 + 0) + length back
one_more front b back is =
    let same : length front ≡ suc (length back) = ap length is in
    omega (arith, same)

pub plain-front : (names : List (Option (List ℕ))) (t : List ℕ) → 0 < length t → get_or t 0 0 ≢ 36 → IsFrontOf names t (bytes_front 1)
plain-front names t some other text_of = one_more _ _ _ (plain_byte names t 0 some other text_of)

passed_over : (names : List (Option (List ℕ))) (text_of : ℕ → List ℕ) (t : List ℕ) → written_after names text_of t 1 ≡ written_after names text_of (drop 1 t) 0
unfolding written_after
passed_over names text_of [] = refl
passed_over names text_of (b ∷ t) = refl

pub escaped-front : (names : List (Option (List ℕ))) (t : List ℕ) → 0 < length t → get_or t 0 0 ≡ 36 → slice_index (drop 1 t) 0 ≡ 36 → IsFrontOf names t (bytes_front 2)
unfolding written_after
escaped-front names [] some sign again text_of = absurd (omega (arith, some))
escaped-front names (b ∷ t) some sign again text_of =
    let written : written_after names text_of (b ∷ t) 0 ≡ 36 ∷ written_after names text_of t 1 = rw (written_after, sign, again) refl in
    one_more _ _ _ (written ∙ ap (λ back. 36 ∷ back) (passed_over names text_of t))

pub alone-front : (names : List (Option (List ℕ))) (t : List ℕ) → 0 < length t → get_or t 0 0 ≡ 36 → slice_index (drop 1 t) 0 ≢ 36 → name_at (drop 1 t) ≡ None → IsFrontOf names t (bytes_front 1)
alone-front names t some sign alone none text_of =
    one_more _ _ _ (dollar names t 0 some sign alone text_of
    ∙ ap (λ name. at_dollar names text_of name (written_after names text_of (drop 1 t))) none)

pub reference-front : (names : List (Option (List ℕ))) (t name : List ℕ) (len : ℕ) → 0 < length t → get_or t 0 0 ≡ 36 → slice_index (drop 1 t) 0 ≢ 36 → name_at (drop 1 t) ≡ Some (name, len)
    → IsFrontOf names t (record { own = 0; group = group_called names name; len = len + 1 })
reference-front names t name len some sign alone found text_of =
    let group = text_or_nothing names text_of (group_called names name) in
    let places : 0 + (1 + len) ≡ len + 1 = omega arith in
    let written = dollar names t 0 some sign alone text_of
    ∙ ap (λ name. at_dollar names text_of name (written_after names text_of (drop 1 t))) found
    ∙ after_reference names t 0 len name text_of
    ∙ ap (λ n. group ++ written_after names text_of (drop n t) 0) places in
    let back = written_after names text_of (drop (len + 1) t) 0 in
    let same : length (written_after names text_of t 0) ≡ length (group ++ back) = ap length written in
    let both : length (group ++ back) ≡ length group + length back = length-append group back in
    omega (arith, same, both)

-- ---- a front is added to what was measured

sizes-of-one : (names : List (Option (List ℕ))) (text_of : ℕ → List ℕ) (group : Option ℕ) → group_sizes text_of (option_to_list group) ≡ length (text_or_nothing names text_of group)
sizes-of-one names text_of None = refl
sizes-of-one names text_of (Some n) = omega arith

pub sizes-push : (names : List (Option (List ℕ))) (text_of : ℕ → List ℕ) (groups : List ℕ) (group : Option ℕ)
    → group_sizes text_of (groups ++ option_to_list group) ≡ group_sizes text_of groups + length (text_or_nothing names text_of group)
sizes-push names text_of groups group =
    sum_by-append (λ n. length (text_of n)) groups (option_to_list group)
    ∙ ap (λ n. group_sizes text_of groups + n) (sizes-of-one names text_of group)

-- so many bytes of its own, what these groups matched, and what the rest writes are what a template writes
abbrev pub AreMeasuredUpTo : (names : List (Option (List ℕ))) → (template : List ℕ) → (own : ℕ) → (groups rest : List ℕ) → Type 0
AreMeasuredUpTo names template own groups rest = (text_of : ℕ → List ℕ) →
    (own + group_sizes text_of groups) + length (written_after names text_of rest 0)
    ≡ length (written_after names text_of template 0)

pub measured-more : (names : List (Option (List ℕ))) (template : List ℕ) (own : ℕ) (groups rest : List ℕ) (front : Front)
    → AreMeasuredUpTo names template own groups rest → IsFrontOf names rest front
    → AreMeasuredUpTo names template (own + front.own) (groups ++ option_to_list front.group) (drop front.len rest)
measured-more names template own groups rest front before is text_of =
    let more = sizes-push names text_of groups front.group in
    let step = is text_of in
    let so_far = before text_of in
    omega (arith, more, step, so_far)

pub measured-whole : (names : List (Option (List ℕ))) (template : List ℕ) (own : ℕ) (groups rest : List ℕ) → length rest ≡ 0
    → AreMeasuredUpTo names template own groups rest → (text_of : ℕ → List ℕ) → length (written_after names text_of template 0) ≡ own + group_sizes text_of groups
unfolding written_after
measured-whole names template own groups [] none all text_of =
    let nothing : length (written_after names text_of [] 0) ≡ 0 = refl in
    let whole = all text_of in
    omega (arith, nothing, whole)
measured-whole names template own groups (b ∷ rest) none all text_of =
    let some : suc (length rest) ≡ 0 = none in
    absurd (omega (arith, some))
