-- Names and ids that stand once.
use Rattle.std.proofs.Common.{◌≡◌, ℕ, ◌+◌, Bool, true, false, cond, not, List, [], ◌∷◌, ◌++◌, length, map, Option, Some, None, bytes_eq, refl, sym, ap, ◌∙◌, subst, arith}
use Rattle.std.specs.Option.{option_map_or}
use Rattle.std.specs.List.{list_all, list_any, position_or_len}
use Rattle.std.proofs.lemmas.Bool.{both_ways, and_from, or_from, or_parts, or_left, or_right, not-false, not_from_false, false_from_ne_true}
use Rattle.std.proofs.lemmas.List.Folds.{list_any-append}
use Rattle.std.proofs.lemmas.Slice.Eq.{bytes_eq-Decides}
use Rattle.serde_json.specs.Data.{Data}
use Rattle.machine_model.specs.Kinds.{is_among}
use Rattle.machine_model.specs.Sound.{are_distinct_texts}
use Rattle.flow_definition.specs.declared.field.Field.TheVariants.{Id}
use Rattle.flow_definition.specs.Looks.{field_text, has_text}
use Rattle.flow_definition.specs.Reading.{id_at}
use Rattle.flow_definition.specs.Rules.{is_doubled, is_wrong, wrong_name}
use Rattle.flow_definition.proofs.Passed.{none_first}

same_text : (text : List ℕ) → bytes_eq text text ≡ true
same_text text = (bytes_eq-Decides text text).1 refl

-- p holds of the item behind some others
at_end : {X : Type 0} (p : X → Bool) (xs : List X) (x : X) → p x ≡ true → list_any p (xs ++ x ∷ []) ≡ true
at_end p xs x holds = list_any-append p xs (x ∷ []) ∙ or_right (list_any p xs) _ (or_left (p x) false holds)

before_end : {X : Type 0} (p : X → Bool) (xs : List X) (x : X) → list_any p xs ≡ true → list_any p (xs ++ x ∷ []) ≡ true
before_end p xs x holds = list_any-append p xs (x ∷ []) ∙ or_left (list_any p xs) _ holds

-- ---- the names of a list, none of which is wrong

pub names_right : (rs earlier names : List (List ℕ)) → wrong_name rs earlier names ≡ None → list_all (λ name. is_among name rs) names ≡ true
names_right rs earlier [] right = refl
names_right rs earlier (name ∷ names) right =
    let both = none_first (is_wrong rs earlier name) (length earlier) (wrong_name rs (earlier ++ name ∷ []) names) right in
    let parts = or_parts (not (is_among name rs)) (is_among name earlier) both.0 in
    and_from (is_among name rs) _ (not-false (is_among name rs) parts.0) (names_right rs (earlier ++ name ∷ []) names both.1)

-- a name that stood earlier doesn't come again
names_later : (x : List ℕ) (rs earlier names : List (List ℕ)) → is_among x earlier ≡ true → wrong_name rs earlier names ≡ None
    → is_among x names ≡ false
names_later x rs earlier [] stood right = refl
names_later x rs earlier (name ∷ names) stood right =
    let both = none_first (is_wrong rs earlier name) (length earlier) (wrong_name rs (earlier ++ name ∷ []) names) right in
    let parts = or_parts (not (is_among name rs)) (is_among name earlier) both.0 in
    let here : bytes_eq x name ≡ true → ⊥ =
    λ same. both_ways (is_among name earlier) parts.1 (subst (λ y. is_among y earlier ≡ true) ((bytes_eq-Decides x name).0 same) stood) in
    or_from (bytes_eq x name) _ (false_from_ne_true (bytes_eq x name) here)
    (names_later x rs (earlier ++ name ∷ []) names (before_end (bytes_eq x) earlier name stood) both.1)

pub names_distinct : (rs earlier names : List (List ℕ)) → wrong_name rs earlier names ≡ None → are_distinct_texts names ≡ true
names_distinct rs earlier [] right = refl
names_distinct rs earlier (name ∷ names) right =
    let both = none_first (is_wrong rs earlier name) (length earlier) (wrong_name rs (earlier ++ name ∷ []) names) right in
    and_from (not (is_among name names)) _
    (not_from_false (is_among name names) (names_later name rs (earlier ++ name ∷ []) names (at_end (bytes_eq name) earlier name (same_text name)) both.1))
    (names_distinct rs (earlier ++ name ∷ []) names both.1)

-- ---- the ids of a list, each of which is a text that no earlier one has

pub record IsNamed (earlier : List Data) (d : Data) : Type 0 where
  pub text : field_text Id d ≡ Some (id_at Id d)
  pub once : is_doubled earlier d ≡ false

abbrev pub AreNamed : (earlier ds : List Data) → Type 0
AreNamed earlier [] = Unit {0}
AreNamed earlier (d ∷ ds) = IsNamed earlier d × AreNamed (earlier ++ d ∷ []) ds

-- an object's text, where it is there
pub has_given : (id : List ℕ) (d : Data) → field_text Id d ≡ Some (id_at Id d) → has_text Id id d ≡ bytes_eq id (id_at Id d)
has_given id d text = ap (λ (o : Option (List ℕ)). option_map_or (bytes_eq id) o false) text

none_before : (earlier : List Data) (d : Data) → IsNamed earlier d → list_any (has_text Id (id_at Id d)) earlier ≡ false
none_before earlier d named =
    sym (ap (λ (o : Option (List ℕ)). option_map_or (λ id. list_any (has_text Id id) earlier) o false) named.text) ∙ named.once

ids_later : (x : List ℕ) (earlier ds : List Data) → list_any (has_text Id x) earlier ≡ true → AreNamed earlier ds
    → is_among x (map (id_at Id) ds) ≡ false
ids_later x earlier [] stood named = refl
ids_later x earlier (d ∷ ds) stood named =
    let here : bytes_eq x (id_at Id d) ≡ true → ⊥ =
    λ same. both_ways (list_any (has_text Id (id_at Id d)) earlier) (none_before earlier d named.0)
    (subst (λ y. list_any (has_text Id y) earlier ≡ true) ((bytes_eq-Decides x (id_at Id d)).0 same) stood) in
    or_from (bytes_eq x (id_at Id d)) _ (false_from_ne_true (bytes_eq x (id_at Id d)) here)
    (ids_later x (earlier ++ d ∷ []) ds (before_end (has_text Id x) earlier d stood) named.1)

pub ids_distinct : (earlier ds : List Data) → AreNamed earlier ds → are_distinct_texts (map (id_at Id) ds) ≡ true
ids_distinct earlier [] named = refl
ids_distinct earlier (d ∷ ds) named =
    let id : List ℕ = id_at Id d in
    let itself : has_text Id id d ≡ true = has_given id d named.0.text ∙ same_text id in
    and_from (not (is_among id (map (id_at Id) ds))) _
    (not_from_false _ (ids_later id (earlier ++ d ∷ []) ds (at_end (has_text Id id) earlier d itself) named.1))
    (ids_distinct (earlier ++ d ∷ []) ds named.1)

-- ---- the place of an id

passed_by : {X : Type 0} (p : X → Bool) (xs ys : List X) (y : X) → list_any p xs ≡ false → p y ≡ true
    → position_or_len p (xs ++ y ∷ ys) ≡ length xs
passed_by p [] ys y none holds = ap (λ b. cond (not b) (1 + position_or_len p ys) 0) holds
passed_by p (x ∷ xs) ys y none holds =
    let parts = or_parts (p x) (list_any p xs) none in
    ap (λ b. cond (not b) (1 + position_or_len p (xs ++ y ∷ ys)) 0) parts.0
    ∙ ap (λ n. 1 + n) (passed_by p xs ys y parts.1 holds)
    ∙ omega arith

-- an object is the first one with its id
pub place_of_id : (earlier ds : List Data) (d : Data) → IsNamed earlier d
    → position_or_len (has_text Id (id_at Id d)) (earlier ++ d ∷ ds) ≡ length earlier
place_of_id earlier ds d named =
    passed_by (has_text Id (id_at Id d)) earlier ds d (none_before earlier d named)
    (has_given (id_at Id d) d named.text ∙ same_text (id_at Id d))
