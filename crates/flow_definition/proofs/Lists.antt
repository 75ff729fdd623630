-- Lists of a text, as clauses see them, and what is found in them.
use Rattle.std.proofs.Common.{◌≡◌, suc, Bool, true, false, cond, ◌&&◌, ◌||◌, List, [], ◌∷◌, Option, Some, None, option_map, is_some, map, find, position, length, nat_lt, not, fold, count_by, ◌+◌, String, Global, Bor, string_bytes, refl, ap, ◌∙◌}
use Rattle.std.specs.List.{list_any, list_all, prefix_len}
use Rattle.std.proofs.lemmas.List.{length-map}
use Rattle.serde_json.specs.View.{view, items_view, members_view}
use Rattle.serde_json.specs.declared.value.Value.{Value}
use Rattle.flow_definition.specs.Looks.{list_of_items, member_list, member_names}

pub list_of_view : (vs : List Value) → list_of_items (items_view vs) ≡ map view vs
list_of_view [] = refl
list_of_view (v ∷ vs) = ap (λ ds. view v ∷ ds) (list_of_view vs)

pub list_any-map : {A B : Type 0} (p : B → Bool) (f : A → B) (xs : List A) → list_any p (map f xs) ≡ list_any (λ x. p (f x)) xs
list_any-map p f [] = refl
list_any-map p f (x ∷ xs) = ap (λ b. p (f x) || b) (list_any-map p f xs)

pub list_all-map : {A B : Type 0} (p : B → Bool) (f : A → B) (xs : List A) → list_all p (map f xs) ≡ list_all (λ x. p (f x)) xs
list_all-map p f [] = refl
list_all-map p f (x ∷ xs) = ap (λ b. p (f x) && b) (list_all-map p f xs)

found-map : {A B : Type 0} (b : Bool) (f : A → B) (x : A) (o : Option A) (r : Option B) → option_map f o ≡ r → option_map f (cond b (Some x) o) ≡ cond b (Some (f x)) r
found-map true f x o r e = refl
found-map false f x o r e = e

pub find-map : {A B : Type 0} (p : B → Bool) (f : A → B) (xs : List A) → option_map f (find (λ x. p (f x)) xs) ≡ find p (map f xs)
find-map p f [] = refl
find-map p f (x ∷ xs) = found-map (p (f x)) f x _ _ (find-map p f xs)

fold-map : {A B C : Type 0} (g : C → B → C) (f : A → B) (xs : List A) (a : C) → fold g a (map f xs) ≡ fold (λ c x. g c (f x)) a xs
fold-map g f [] a = refl
fold-map g f (x ∷ xs) a = fold-map g f xs (g a (f x))

pub count_by_map : {A B : Type 0} (p : B → Bool) (f : A → B) (xs : List A) → count_by p (map f xs) ≡ count_by (λ x. p (f x)) xs
count_by_map p f xs = fold-map (λ a x. a + cond (p x) 1 0) f xs 0

prefix_len-map : {A B : Type 0} (p : B → Bool) (f : A → B) (xs : List A) → prefix_len p (map f xs) ≡ prefix_len (λ x. p (f x)) xs
prefix_len-map p f [] = refl
prefix_len-map p f (x ∷ xs) = ap (λ n. cond (p (f x)) (1 + n) 0) (prefix_len-map p f xs)

pub position-map : {A B : Type 0} (p : B → Bool) (f : A → B) (xs : List A) → position p (map f xs) ≡ position (λ x. p (f x)) xs
position-map p f xs =
    ap (λ n. cond (nat_lt n (length (map f xs))) (Some n) None) (prefix_len-map (λ x. not (p x)) f xs)
    ∙ ap (λ m. cond (nat_lt (prefix_len (λ x. not (p (f x))) xs) m) (Some (prefix_len (λ x. not (p (f x))) xs)) None) (length-map xs f)

-- what a search among references found, seen by f
pub seen_behind : {A B : Type 0} (f : A → B) (r : Option (Bor A)) → option_map (λ x. f x.now) r ≡ option_map f (option_map (λ x. x.now) r)
seen_behind f None = refl
seen_behind f (Some x) = refl

pub member_names_view : (es : List (String Global × Value)) → map string_bytes (map (λ e. e.0) es) ≡ member_names (member_list (members_view es))
member_names_view [] = refl
member_names_view (e ∷ es) = ap (λ names. string_bytes e.0 ∷ names) (member_names_view es)

pub member_count_view : (es : List (String Global × Value)) → length es ≡ length (member_list (members_view es))
member_count_view [] = refl
member_count_view (e ∷ es) = ap suc (member_count_view es)

pub seen_some : {A B : Type 0} (f : A → B) (o : Option A) → is_some o ≡ is_some (option_map f o)
seen_some f None = refl
seen_some f (Some x) = refl
