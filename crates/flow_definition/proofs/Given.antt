-- What stands in the fields of an object that breaks no rule.
use Rattle.std.proofs.Common.{◌≡◌, ℕ, Bool, true, false, cond, not, List, [], ◌∷◌, length, map, nat_lt, nat_le, Option, Some, None, option_and_then, is_none, is_some, unwrap_or, All, find, bytes_eq, refl, ap, ◌∙◌, subst, arith}
use Rattle.std.specs.Option.{option_map_or}
use Rattle.std.specs.List.{list_all, filter_map, cons_option}
use Rattle.std.proofs.lemmas.Bool.{true≢false, and_parts, or_parts, not-false, not-true, cond-true, both_ways}
use Rattle.std.proofs.lemmas.List.{length-map}
use Rattle.std.proofs.lemmas.List.Elements.{All-nil, All-cons}
use Rattle.std.proofs.lemmas.List.Kept.{AllPairs-cons}
use Rattle.std.proofs.lemmas.Option.{none-some, same_Some}
use Rattle.std.proofs.lemmas.Slice.Eq.{bytes_eq-Decides}
use Rattle.serde_json.specs.Data.{Data}
use Rattle.serde_json.specs.Find.{as_str}
use Rattle.machine_model.specs.Kinds.{is_among}
use Rattle.machine_model.specs.Sound.{is_id, within, are_distinct_texts, EachOnce}
use Rattle.prioritizer.specs.Order.{name_of}
use Rattle.prioritizer.specs.declared.prioritizer.Prioritizer.{Prioritizer}
use Rattle.prioritizer.specs.declared.prioritizer.Prioritizer.TheVariants.{FirstInFirstOut, NewestFlowFileFirst, OldestFlowFileFirst, PriorityAttribute}
use Rattle.flow_definition.specs.declared.field.Shape.TheVariants as shape
use Rattle.flow_definition.specs.Looks.{is_object, is_text, list_items, texts_in, text_or_empty}
use Rattle.flow_definition.specs.Reading.{number_in_range}
use Rattle.flow_definition.specs.Shapes.{has_shape, is_list, is_list_of_texts, is_prioritizer, are_prioritizers, prioritizer_named}

-- the text in a field that has to be there, as a text
pub text_given : (o : Option Data) → is_none o ≡ false → option_map_or (λ d. not (has_shape shape.Text d)) o false ≡ false
    → option_and_then as_str o ≡ Some (unwrap_or (option_and_then as_str o) [])
text_given None there shaped = absurd (true≢false there)
text_given (Some d) there shaped = text_is (as_str d) shaped
  where
    text_is : (s : Option (List ℕ)) → not (is_some s) ≡ false → s ≡ Some (unwrap_or s [])
    text_is None is = absurd (true≢false is)
    text_is (Some text) is = refl

-- an id
pub id_given : (o : Option Data) → is_none o ≡ false → option_map_or (λ d. not (has_shape shape.Id d)) o false ≡ false
    → (option_and_then as_str o ≡ Some (unwrap_or (option_and_then as_str o) [])) × (is_id (unwrap_or (option_and_then as_str o) []) ≡ true)
id_given None there shaped = absurd (true≢false there)
id_given (Some d) there shaped = id_is (as_str d) shaped
  where
    id_is : (s : Option (List ℕ)) → not (option_map_or is_id s false) ≡ false → (s ≡ Some (unwrap_or s [])) × (is_id (unwrap_or s []) ≡ true)
    id_is None is = absurd (true≢false is)
    id_is (Some text) is = (refl, not-false (is_id text) is)

-- a list of objects
pub objects_given : (o : Option Data) → option_map_or (λ d. not (has_shape shape.Objects d)) o false ≡ false
    → list_all is_object (option_map_or list_items o []) ≡ true
objects_given None shaped = refl
objects_given (Some d) shaped =
    (and_parts (is_list d) (list_all is_object (list_items d)) (not-false (has_shape shape.Objects d) shaped)).1

-- a list with at least one text
pub names_given : (o : Option Data) → is_none o ≡ false → option_map_or (λ d. not (has_shape shape.SomeNames d)) o false ≡ false
    → nat_lt 0 (length (texts_in (option_map_or list_items o []))) ≡ true
names_given None there shaped = absurd (true≢false there)
names_given (Some d) there shaped =
    let listed = and_parts (is_list_of_texts d) (nat_le 1 (length (list_items d))) (not-false (has_shape shape.SomeNames d) shaped) in
    let texts = and_parts (is_list d) (list_all is_text (list_items d)) listed.0 in
    ap (λ names. nat_lt 0 (length names)) (cond-true (list_all is_text (list_items d)) (map text_or_empty (list_items d)) [] texts.1)
    ∙ ap (λ n. nat_lt 0 n) (length-map (list_items d) text_or_empty)
    ∙ listed.1

-- a number, or what a missing one stands for
pub number_within : (default least most : ℕ) (given : Option ℕ) → within least default most ≡ true
    → within least (number_in_range default least most given) most ≡ true
number_within default least most None is = is
number_within default least most (Some n) is = either (within least n most) refl
  where
    either : (b : Bool) → within least n most ≡ b → within least (cond b n default) most ≡ true
    either true e = e
    either false e = is

pub number_below : (default most : ℕ) (given : Option ℕ) → within 0 default most ≡ true → nat_le (number_in_range default 0 most given) most ≡ true
number_below default most given is =
    (and_parts (nat_le 0 (number_in_range default 0 most given)) (nat_le (number_in_range default 0 most given) most) (number_within default 0 most given is)).1

-- ---- prioritizers, each once

found_first : {X : Type 0} (p : X → Bool) (y x : X) (rest : Option X) (b : Bool) → p y ≡ b → (rest ≡ Some x → p x ≡ true)
    → cond b (Some y) rest ≡ Some x → p x ≡ true
found_first p y x rest true is later e = subst (λ z. p z ≡ true) (same_Some y x e) is
found_first p y x rest false is later e = later e

find_passes : {X : Type 0} (p : X → Bool) (xs : List X) (x : X) → find p xs ≡ Some x → p x ≡ true
find_passes p [] x e = absurd (none-some x e)
find_passes p (y ∷ ys) x e = found_first p y x (find p ys) (p y) refl (find_passes p ys x) e

found_name : (name : List ℕ) (p : Prioritizer) → prioritizer_named name ≡ Some p → bytes_eq (name_of p) name ≡ true
found_name name p e =
    find_passes (λ q. bytes_eq (name_of q) name) (FirstInFirstOut ∷ NewestFlowFileFirst ∷ OldestFlowFileFirst ∷ PriorityAttribute ∷ []) p e

abbrev Differs : Prioritizer → Prioritizer → Type 0
Differs one other = one ≡ other → ⊥

other_differs : (p : Prioritizer) (name : List ℕ) (rest : List Prioritizer) (o : Option Prioritizer) → prioritizer_named name ≡ o
    → bytes_eq (name_of p) name ≡ false → All (Differs p) rest → All (Differs p) (cons_option o rest)
other_differs p name rest None named apart others = others
other_differs p name rest (Some q) named apart others =
    let here : Differs p q =
    λ same. both_ways (bytes_eq (name_of p) name) apart (ap (λ x. bytes_eq (name_of x) name) same ∙ found_name name q named) in
    All-cons (Differs p) q rest here others

others_differ : (p : Prioritizer) (names : List (List ℕ)) → is_among (name_of p) names ≡ false
    → All (Differs p) (filter_map prioritizer_named names)
others_differ p [] apart = All-nil (Differs p)
others_differ p (name ∷ names) apart =
    let parts = or_parts (bytes_eq (name_of p) name) (is_among (name_of p) names) apart in
    other_differs p name (filter_map prioritizer_named names) (prioritizer_named name) refl parts.0 (others_differ p names parts.1)

one_more : (rest : List Prioritizer) (o : Option Prioritizer) → ((p : Prioritizer) → o ≡ Some p → All (Differs p) rest) → EachOnce rest
    → EachOnce (cons_option o rest)
one_more rest None apart once = once
one_more rest (Some p) apart once = AllPairs-cons Differs p rest (apart p refl) once

each_once : (names : List (List ℕ)) → are_distinct_texts names ≡ true → EachOnce (filter_map prioritizer_named names)
each_once [] distinct = λ i j d less within. absurd (omega arith)
each_once (name ∷ names) distinct =
    let parts = and_parts (not (is_among name names)) (are_distinct_texts names) distinct in
    let apart : (p : Prioritizer) → prioritizer_named name ≡ Some p → is_among (name_of p) names ≡ false =
    λ p e. ap (λ n. is_among n names) ((bytes_eq-Decides (name_of p) name).0 (found_name name p e)) ∙ not-true (is_among name names) parts.0 in
    one_more (filter_map prioritizer_named names) (prioritizer_named name) (λ p e. others_differ p names (apart p e)) (each_once names parts.1)

pub prioritizers_given : (o : Option Data) → option_map_or (λ d. not (has_shape shape.Prioritizers d)) o false ≡ false
    → EachOnce (filter_map prioritizer_named (texts_in (option_map_or list_items o [])))
prioritizers_given None shaped = each_once [] refl
prioritizers_given (Some d) shaped =
    let listed = and_parts (is_list_of_texts d) (are_prioritizers (list_items d)) (not-false (has_shape shape.Prioritizers d) shaped) in
    let named = and_parts (list_all is_prioritizer (texts_in (list_items d))) (are_distinct_texts (texts_in (list_items d))) listed.1 in
    each_once (texts_in (list_items d)) named.1
