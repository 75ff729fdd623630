-- The members of each object of a text stand ascending by the bytes of their names.
use Rattle.std.proofs.Common.{◌≡◌, ℕ, Bool, true, false, cond, ◌&&◌, List, [], ◌∷◌, Option, Some, None, option_map, option_and_then, Ordering, Less, Equal, Greater, nat_cmp, refl, ap, ◌∙◌, subst}
use Rattle.std.specs.Cmp.Lexicographic.{slice_cmp}
use Rattle.std.specs.List.{list_all}
use Rattle.std.specs.Option.{option_map_or}
use Rattle.std.specs.Ordering.{match_ordering, ordering_reverse, is_lt}
use Rattle.std.specs.Str.{is_utf8}
use Rattle.std.proofs.lemmas.Bool.{and_from, and_parts}
use Rattle.std.proofs.lemmas.Cmp.{nat_list_cmp_total}
use Rattle.std.proofs.lemmas.Option.{none-some, same_Some}
use Rattle.json.specs.Json as json
use Rattle.json.specs.Lex.{tokens}
use Rattle.serde_json.specs.Data.{Data, null, boolean, number, string, array, object, Items, no_items, item, Members, no_members, member, put}
use Rattle.serde_json.specs.Find.{get, get_member}
use Rattle.serde_json.specs.Read.{number_of, of_json, of_items, of_members, max_depth, read}
use Rattle.machine_model.specs.Sound.{are_ascending}
use Rattle.flow_definition.specs.declared.field.Field.TheVariants.{Processors, Properties}
use Rattle.flow_definition.specs.Fields.{field_name}
use Rattle.flow_definition.specs.Looks.{value_at, is_object, list_of_items, list_items, list_items_at, member_list, members_of, member_names, given_properties}
use Rattle.flow_definition.specs.Verdict.{object_only, object_in}

abbrev names : Members → List (List ℕ)
names ms = member_names (member_list ms)

abbrev mutual
  pub is_ordered : Data → Bool
  is_ordered null = true
  is_ordered (boolean b) = true
  is_ordered (number n) = true
  is_ordered (string s) = true
  is_ordered (array ds) = are_items_ordered ds
  is_ordered (object ms) = are_ascending (member_names (member_list ms)) && are_values_ordered ms

  pub are_items_ordered : Items → Bool
  are_items_ordered no_items = true
  are_items_ordered (item d ds) = is_ordered d && are_items_ordered ds

  pub are_values_ordered : Members → Bool
  are_values_ordered no_members = true
  are_values_ordered (member k d ms) = is_ordered d && are_values_ordered ms

abbrev are_members_ordered : Members → Bool
are_members_ordered ms = are_ascending (names ms) && are_values_ordered ms

-- ---- a member is put into an object

before : (k l : List ℕ) → slice_cmp nat_cmp k l ≡ Greater → is_lt (slice_cmp nat_cmp l k) ≡ true
before k l e = ap is_lt (nat_list_cmp_total.antisymm l k ∙ ap ordering_reverse e)

put_behind_at : (o : Ordering) (l k m : List ℕ) (d e : Data) (ms : Members) → slice_cmp nat_cmp k m ≡ o
    → are_ascending (l ∷ m ∷ names ms) ≡ true → is_lt (slice_cmp nat_cmp l k) ≡ true
    → (is_lt (slice_cmp nat_cmp m k) ≡ true → are_ascending (m ∷ names (put k d ms)) ≡ true)
    → are_ascending (l ∷ names (match_ordering o (member k d (member m e ms)) (member m d ms) (member m e (put k d ms)))) ≡ true
put_behind_at Less l k m d e ms is ascending behind later =
    and_from (is_lt (slice_cmp nat_cmp l k)) _ behind
    (and_from (is_lt (slice_cmp nat_cmp k m)) _ (ap is_lt is)
    (and_parts (is_lt (slice_cmp nat_cmp l m)) (are_ascending (m ∷ names ms)) ascending).1)
put_behind_at Equal l k m d e ms is ascending behind later = ascending
put_behind_at Greater l k m d e ms is ascending behind later =
    and_from (is_lt (slice_cmp nat_cmp l m)) _
    (and_parts (is_lt (slice_cmp nat_cmp l m)) (are_ascending (m ∷ names ms)) ascending).0
    (later (before k m is))

put_behind : (l k : List ℕ) (d : Data) (ms : Members) → are_ascending (l ∷ names ms) ≡ true → is_lt (slice_cmp nat_cmp l k) ≡ true
    → are_ascending (l ∷ names (put k d ms)) ≡ true
put_behind l k d no_members ascending behind = and_from (is_lt (slice_cmp nat_cmp l k)) true behind refl
put_behind l k d (member m e ms) ascending behind =
    put_behind_at (slice_cmp nat_cmp k m) l k m d e ms refl ascending behind
    (put_behind m k d ms (and_parts (is_lt (slice_cmp nat_cmp l m)) (are_ascending (m ∷ names ms)) ascending).1)

put_at : (o : Ordering) (k m : List ℕ) (d e : Data) (ms : Members) → slice_cmp nat_cmp k m ≡ o → are_ascending (m ∷ names ms) ≡ true
    → are_ascending (names (match_ordering o (member k d (member m e ms)) (member m d ms) (member m e (put k d ms)))) ≡ true
put_at Less k m d e ms is ascending = and_from (is_lt (slice_cmp nat_cmp k m)) _ (ap is_lt is) ascending
put_at Equal k m d e ms is ascending = ascending
put_at Greater k m d e ms is ascending = put_behind m k d ms ascending (before k m is)

put_ascending : (k : List ℕ) (d : Data) (ms : Members) → are_ascending (names ms) ≡ true → are_ascending (names (put k d ms)) ≡ true
put_ascending k d no_members ascending = refl
put_ascending k d (member m e ms) ascending = put_at (slice_cmp nat_cmp k m) k m d e ms refl ascending

values_at : (o : Ordering) (k m : List ℕ) (d e : Data) (ms more : Members) → is_ordered d ≡ true → is_ordered e ≡ true → are_values_ordered ms ≡ true
    → are_values_ordered more ≡ true
    → are_values_ordered (match_ordering o (member k d (member m e ms)) (member m d ms) (member m e more)) ≡ true
values_at Less k m d e ms more one other rest later = and_from (is_ordered d) _ one (and_from (is_ordered e) _ other rest)
values_at Equal k m d e ms more one other rest later = and_from (is_ordered d) _ one rest
values_at Greater k m d e ms more one other rest later = and_from (is_ordered e) _ other later

put_values : (k : List ℕ) (d : Data) (ms : Members) → is_ordered d ≡ true → are_values_ordered ms ≡ true → are_values_ordered (put k d ms) ≡ true
put_values k d no_members one all = and_from (is_ordered d) true one refl
put_values k d (member m e ms) one all =
    let parts = and_parts (is_ordered e) (are_values_ordered ms) all in
    values_at (slice_cmp nat_cmp k m) k m d e ms (put k d ms) one parts.0 parts.1 (put_values k d ms one parts.1)

put_ordered : (k : List ℕ) (d : Data) (ms : Members) → is_ordered d ≡ true → are_members_ordered ms ≡ true → are_members_ordered (put k d ms) ≡ true
put_ordered k d ms one all =
    let parts = and_parts (are_ascending (names ms)) (are_values_ordered ms) all in
    and_from (are_ascending (names (put k d ms))) _ (put_ascending k d ms parts.0) (put_values k d ms one parts.1)

-- ---- a text

abbrev Holds : {A : Type 0} → (A → Bool) → Option A → Type 0
Holds p None = Unit {0}
Holds p (Some a) = p a ≡ true

holds_map : {A B : Type 0} (p : A → Bool) (q : B → Bool) (h : A → B) → ((a : A) → p a ≡ true → q (h a) ≡ true) → (o : Option A) → Holds p o
    → Holds q (option_map h o)
holds_map p q h k None x = tt
holds_map p q h k (Some a) x = k a x

holds_behind : {A B : Type 0} (p : A → Bool) (q : B → Bool) (h : A → Option B) → ((a : A) → p a ≡ true → Holds q (h a)) → (o : Option A) → Holds p o
    → Holds q (option_and_then h o)
holds_behind p q h k None x = tt
holds_behind p q h k (Some a) x = k a x

anything : {A : Type 0} (o : Option A) → Holds (λ _. true) o
anything None = tt
anything (Some a) = refl

mutual
  ordered_json : (j : json.Json) → Holds is_ordered (of_json j)
  ordered_json json.null = refl
  ordered_json (json.boolean b) = refl
  ordered_json (json.number s) = holds_map (λ _. true) is_ordered number (λ a x. refl) (number_of s) (anything _)
  ordered_json (json.string s) = refl
  ordered_json (json.array js) = holds_map are_items_ordered is_ordered array (λ a x. x) (of_items js) (ordered_items js)
  ordered_json (json.object ms) =
      holds_map are_members_ordered is_ordered object (λ a x. x) (of_members ms no_members) (ordered_members ms no_members refl)

  ordered_items : (js : json.Items) → Holds are_items_ordered (of_items js)
  ordered_items json.no_items = refl
  ordered_items (json.item j js) =
      holds_behind is_ordered are_items_ordered _ (λ d x.
      holds_map are_items_ordered are_items_ordered (item d) (λ ds y. and_from (is_ordered d) _ x y) (of_items js) (ordered_items js))
      (of_json j) (ordered_json j)

  ordered_members : (ms : json.Members) (found : Members) → are_members_ordered found ≡ true → Holds are_members_ordered (of_members ms found)
  ordered_members json.no_members found all = all
  ordered_members (json.member name j ms) found all =
      holds_behind is_ordered are_members_ordered _ (λ d x. ordered_members ms (put name d found) (put_ordered name d found x all))
      (of_json j) (ordered_json j)

ordered_option : (o : Option json.Json) → Holds is_ordered (option_and_then of_json o)
ordered_option None = tt
ordered_option (Some j) = ordered_json j

ordered_read : (text : List ℕ) → Holds is_ordered (read text)
ordered_read text = ordered_option (option_and_then (λ p. json.if_last p.0 p.1) (json.value max_depth (tokens text)))

ordered_object : (b : Bool) (d top : Data) → is_ordered d ≡ true → cond b (Some d) None ≡ Some top → is_ordered top ≡ true
ordered_object true d top ordered e = subst (λ x. is_ordered x ≡ true) (same_Some d top e) ordered
ordered_object false d top ordered e = absurd (none-some top e)

ordered_only : (o : Option Data) (top : Data) → Holds is_ordered o → option_and_then object_only o ≡ Some top → is_ordered top ≡ true
ordered_only None top ordered e = absurd (none-some top e)
ordered_only (Some d) top ordered e = ordered_object (is_object d) d top ordered e

ordered_if : (b : Bool) (o : Option Data) (top : Data) → Holds is_ordered o → cond b (option_and_then object_only o) None ≡ Some top
    → is_ordered top ≡ true
ordered_if true o top ordered e = ordered_only o top ordered e
ordered_if false o top ordered e = absurd (none-some top e)

pub ordered_in : (bytes : List ℕ) (top : Data) → object_in bytes ≡ Some top → is_ordered top ≡ true
ordered_in bytes top e = ordered_if (is_utf8 bytes) (read bytes) top (ordered_read bytes) e

-- ---- the parts of a text

found_member : (o : Ordering) (e : Data) (rest : Option Data) → is_ordered e ≡ true → Holds is_ordered rest
    → Holds is_ordered (match_ordering o rest (Some e) rest)
found_member Less e rest one later = later
found_member Equal e rest one later = one
found_member Greater e rest one later = later

ordered_member : (k : List ℕ) (ms : Members) → are_values_ordered ms ≡ true → Holds is_ordered (get_member k ms)
ordered_member k no_members all = tt
ordered_member k (member l e ms) all =
    let parts = and_parts (is_ordered e) (are_values_ordered ms) all in
    found_member (slice_cmp nat_cmp k l) e (get_member k ms) parts.0 (ordered_member k ms parts.1)

ordered_get : (k : List ℕ) (d : Data) → is_ordered d ≡ true → Holds is_ordered (get k d)
ordered_get k null all = tt
ordered_get k (boolean b) all = tt
ordered_get k (number n) all = tt
ordered_get k (string s) all = tt
ordered_get k (array ds) all = tt
ordered_get k (object ms) all = ordered_member k ms (and_parts (are_ascending (names ms)) (are_values_ordered ms) all).1

ordered_list : (ds : Items) → are_items_ordered ds ≡ true → list_all is_ordered (list_of_items ds) ≡ true
ordered_list no_items all = refl
ordered_list (item d ds) all =
    let parts = and_parts (is_ordered d) (are_items_ordered ds) all in
    and_from (is_ordered d) _ parts.0 (ordered_list ds parts.1)

ordered_items_of : (d : Data) → is_ordered d ≡ true → list_all is_ordered (list_items d) ≡ true
ordered_items_of null all = refl
ordered_items_of (boolean b) all = refl
ordered_items_of (number n) all = refl
ordered_items_of (string s) all = refl
ordered_items_of (array ds) all = ordered_list ds all
ordered_items_of (object ms) all = refl

ordered_items_in : (o : Option Data) → Holds is_ordered o → list_all is_ordered (option_map_or list_items o []) ≡ true
ordered_items_in None all = refl
ordered_items_in (Some d) all = ordered_items_of d all

ascending_members : (d : Data) → is_ordered d ≡ true → are_ascending (member_names (members_of d)) ≡ true
ascending_members null all = refl
ascending_members (boolean b) all = refl
ascending_members (number n) all = refl
ascending_members (string s) all = refl
ascending_members (array ds) all = refl
ascending_members (object ms) all = (and_parts (are_ascending (names ms)) (are_values_ordered ms) all).0

ascending_given : (o : Option Data) → Holds is_ordered o → are_ascending (member_names (option_map_or members_of o [])) ≡ true
ascending_given None all = refl
ascending_given (Some d) all = ascending_members d all

-- each names its properties in ascending order
abbrev pub AreAscending : List Data → Type 0
AreAscending [] = Unit {0}
AreAscending (d ∷ ds) = (are_ascending (member_names (given_properties d)) ≡ true) × AreAscending ds

all_ascending : (ds : List Data) → list_all is_ordered ds ≡ true → AreAscending ds
all_ascending [] all = tt
all_ascending (d ∷ ds) all =
    let parts = and_parts (is_ordered d) (list_all is_ordered ds) all in
    (ascending_given (value_at Properties d) (ordered_get (field_name Properties) d parts.0), all_ascending ds parts.1)

pub processors_ascending : (top : Data) → is_ordered top ≡ true → AreAscending (list_items_at Processors top)
processors_ascending top all =
    all_ascending (list_items_at Processors top) (ordered_items_in (value_at Processors top) (ordered_get (field_name Processors) top all))
