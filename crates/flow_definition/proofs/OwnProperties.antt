-- The properties of a processor's own.
use Rattle.std.proofs.Common.{not, ◌≡◌, ℕ, ◌≤◌, Bool, true, false, ◌&&◌, ◌||◌, List, [], ◌∷◌, ◌++◌, length, map, is_some, bytes_eq, codes, All, Option, Some, None, option_and_then, Ordering, Less, Equal, Greater, nat_cmp, is_eq, refl, sym, ap, ◌∙◌, subst}
use Rattle.std.specs.Cmp.Lexicographic.{slice_cmp}
use Rattle.std.specs.List.{list_all}
use Rattle.std.specs.Option.{option_map_or}
use Rattle.std.specs.Ordering.{match_ordering}
use Rattle.std.proofs.lemmas.Bool.{and_from, and_parts, or_from, or_parts, not-false, not-true, not_from_false, both_ways, false_from_ne_true, ltb-false, le-leb}
use Rattle.std.proofs.lemmas.List.{length-map}
use Rattle.std.proofs.lemmas.List.Elements.{All-nil, All-cons}
use Rattle.std.proofs.lemmas.Map.Text.{is_eq-slice_cmp}
use Rattle.std.proofs.lemmas.Slice.Eq.{bytes_eq-Decides}
use Rattle.expr_lang.specs.Grammar.{IsText}
use Rattle.expr_lang.specs.Tree.{Tree}
use Rattle.expr_lang.specs.View.{tree_of}
use Rattle.serde_json.specs.Data.{Data, null, boolean, number, string, array, object, Members, no_members, member}
use Rattle.serde_json.specs.Find.{get, get_member}
use Rattle.machine_model.specs.Kinds.{is_among}
use Rattle.machine_model.specs.Sound.{within, HasText, are_own_names, are_own_relationships, are_ascending}
use Rattle.machine_model.specs.declared.kind.OwnExpression.{OwnExpression}
use Rattle.machine_model.specs.declared.limits.TheConstants.{OWN_NAME_MAX, OWN_PROPERTIES_MAX}
use Rattle.flow_definition.specs.declared.processor_type.Own.TheVariants as own
use Rattle.flow_definition.specs.declared.processor_type.ProcessorType.{ProcessorType}
use Rattle.flow_definition.specs.declared.processor_type.Property.{Property}
use Rattle.flow_definition.specs.Looks.{is_text, member_list, members_of, member_names, texts_of, type_of, properties_in, own_in, is_fixed, others_in, own_given, own_properties_in, own_texts_in, given_properties, given_value, fixed_relationships_in}
use Rattle.flow_definition.specs.Reading.{IsOwnOf, AreOwnOf}
use Rattle.flow_definition.specs.Rules.{is_own_property, is_bad_property, is_bad_value, may_be_own}
use Rattle.flow_definition.specs.Types.{own_of_type, relationships_of_type}
use Rattle.flow_definition.proofs.Others.{not_named, none_fixed, none_others, ascending_others}
use Rattle.flow_definition.proofs.Passed.{NoneOf}
use Rattle.flow_definition.proofs.Properties.{IsRight}

-- ---- a property of a name is given just where the name is among those given

found_at : (o : Ordering) (d : Data) (rest : Option Data) (later : Bool) → is_some rest ≡ later
    → is_some (match_ordering o rest (Some d) rest) ≡ (is_eq o || later)
found_at Less d rest later e = e
found_at Equal d rest later e = refl
found_at Greater d rest later e = e

among_members : (name : List ℕ) (ms : Members) → is_some (get_member name ms) ≡ is_among name (member_names (member_list ms))
among_members name no_members = refl
among_members name (member k d ms) =
    found_at (slice_cmp nat_cmp name k) d (get_member name ms) (is_among name (member_names (member_list ms))) (among_members name ms)
    ∙ ap (λ b. b || is_among name (member_names (member_list ms))) (is_eq-slice_cmp name k)

among_data : (name : List ℕ) (d : Data) → is_some (get name d) ≡ is_among name (member_names (members_of d))
among_data name null = refl
among_data name (boolean b) = refl
among_data name (number n) = refl
among_data name (string s) = refl
among_data name (array ds) = refl
among_data name (object ms) = among_members name ms

among_option : (name : List ℕ) (o : Option Data) → is_some (option_and_then (get name) o) ≡ is_among name (member_names (option_map_or members_of o []))
among_option name None = refl
among_option name (Some d) = among_data name d

pub among_given : (name : List ℕ) (d : Data) → is_some (given_value name d) ≡ is_among name (member_names (given_properties d))
among_given name d = among_option name _

-- ---- the properties as they are read

own_named : (ts : List (List ℕ × List ℕ)) (list : List OwnExpression) → AreOwnOf ts list → map (λ property. property.name) list ≡ map (λ t. t.0) ts
own_named [] [] each = refl
own_named [] (x ∷ list) each = absurd each
own_named (t ∷ ts) [] each = absurd each
own_named (t ∷ ts) (x ∷ list) each =
    ap (λ name. name ∷ map (λ property. property.name) list) each.0.0 ∙ ap (λ names. t.0 ∷ names) (own_named ts list each.1)

pub texts_named : (gs : List (List ℕ × Data)) → map (λ t. t.0) (texts_of gs) ≡ member_names gs
texts_named [] = refl
texts_named (g ∷ gs) = ap (λ names. g.0 ∷ names) (texts_named gs)

pub own_read : (ts : List (List ℕ × List ℕ)) (list : List OwnExpression) → AreOwnOf ts list → All (λ property. HasText property.expression) list
own_read [] [] each = All-nil (λ property. HasText property.expression)
own_read [] (x ∷ list) each = absurd each
own_read (t ∷ ts) [] each = absurd each
own_read (t ∷ ts) (x ∷ list) each =
    All-cons (λ property. HasText property.expression) x list (t.1, each.0.1) (own_read ts list each.1)

pub names_read : (d : Data) (list : List OwnExpression) → AreOwnOf (own_texts_in d) list
    → map (λ property. property.name) list ≡ member_names (own_properties_in d)
names_read d list each = own_named (own_texts_in d) list each ∙ texts_named (own_properties_in d)

-- ---- one more property

pub own_push : (ts : List (List ℕ × List ℕ)) (list : List OwnExpression) (t : List ℕ × List ℕ) (x : OwnExpression) → AreOwnOf ts list → IsOwnOf t x
    → AreOwnOf (ts ++ t ∷ []) (list ++ x ∷ [])
own_push [] [] t x each one = (one, tt)
own_push [] (y ∷ list) t x each one = absurd each
own_push (s ∷ ts) [] t x each one = absurd each
own_push (s ∷ ts) (y ∷ list) t x each one = (each.0, own_push ts list t x each.1 one)

pub trees_read : (ts : List (List ℕ × List ℕ)) (list : List OwnExpression) → AreOwnOf ts list → All (λ given. (tree : Tree) × IsText given.1 tree) ts
trees_read [] [] each = All-nil (λ given. (tree : Tree) × IsText given.1 tree)
trees_read [] (x ∷ list) each = absurd each
trees_read (t ∷ ts) [] each = absurd each
trees_read (t ∷ ts) (x ∷ list) each =
    All-cons (λ given. (tree : Tree) × IsText given.1 tree) t ts (tree_of x.expression, each.0.1) (trees_read ts list each.1)

-- ---- the names of a processor that breaks no rule

right_own : (d : Data) (g : List ℕ × Data) → is_fixed (properties_in d) g.0 ≡ false → is_bad_property d g ≡ false → is_own_property d g ≡ true
right_own d g other right = not-false (is_own_property d g) (sym (ap (is_bad_value d g) (not_named (properties_in d) g.0 other)) ∙ right)

names_within : (d : Data) (gs : List (List ℕ × Data)) → NoneOf (λ g. is_fixed (properties_in d) g.0) gs → NoneOf (is_bad_property d) gs
    → list_all (λ name. within 1 (length name) OWN_NAME_MAX) (member_names gs) ≡ true
names_within d [] other right = refl
names_within d (g ∷ gs) other right =
    let short = and_parts (within 1 (length g.0) OWN_NAME_MAX && may_be_own (own_in d) (fixed_relationships_in d) g.0) (is_text g.1)
    (right_own d g other.0 right.0) in
    and_from (within 1 (length g.0) OWN_NAME_MAX) _
    (and_parts (within 1 (length g.0) OWN_NAME_MAX) (may_be_own (own_in d) (fixed_relationships_in d) g.0) short.0).0
    (names_within d gs other.1 right.1)

-- a name that isn't among the fixed ones, of which there is one
other_name : (name fixed : List ℕ) → not (is_among name (fixed ∷ [])) ≡ true → bytes_eq fixed name ≡ false
other_name name fixed may =
    let apart : bytes_eq name fixed ≡ false = (or_parts (bytes_eq name fixed) false (not-true _ may)).0 in
    false_from_ne_true (bytes_eq fixed name)
    (λ same. both_ways (bytes_eq name fixed) apart
    ((bytes_eq-Decides name fixed).1 (sym ((bytes_eq-Decides fixed name).0 same))))

names_other : (d : Data) (fixed : List ℕ) (gs : List (List ℕ × Data))
    → ((name : List ℕ) → may_be_own (own_in d) (fixed_relationships_in d) name ≡ not (is_among name (fixed ∷ [])))
    → NoneOf (λ g. is_fixed (properties_in d) g.0) gs → NoneOf (is_bad_property d) gs → is_among fixed (member_names gs) ≡ false
names_other d fixed [] makes other right = refl
names_other d fixed (g ∷ gs) makes other right =
    let short = and_parts (within 1 (length g.0) OWN_NAME_MAX && may_be_own (own_in d) (fixed_relationships_in d) g.0) (is_text g.1)
    (right_own d g other.0 right.0) in
    let may = (and_parts (within 1 (length g.0) OWN_NAME_MAX) (may_be_own (own_in d) (fixed_relationships_in d) g.0) short.0).1 in
    or_from (bytes_eq fixed g.0) _ (other_name g.0 fixed (sym (makes g.0) ∙ may)) (names_other d fixed gs makes other.1 right.1)

own_sound : (d : Data) → IsRight d → own_properties_in d ≡ others_in d → are_own_names (member_names (own_properties_in d)) ≡ true
own_sound d right all =
    let ps : List Property = properties_in d in
    let few : length (member_names (own_properties_in d)) ≤ OWN_PROPERTIES_MAX =
    subst (λ n. n ≤ OWN_PROPERTIES_MAX) (sym (length-map (own_properties_in d) (λ given. given.0))) (ltb-false OWN_PROPERTIES_MAX _ right.few) in
    and_from _ _
    (and_from _ _
    (le-leb (length (member_names (own_properties_in d))) OWN_PROPERTIES_MAX few)
    (ap (λ gs. list_all (λ name. within 1 (length name) OWN_NAME_MAX) (member_names gs)) all
    ∙ names_within d (others_in d) (none_fixed ps (given_properties d)) (none_others (is_bad_property d) ps (given_properties d) right.right)))
    (ap (λ gs. are_ascending (member_names gs)) all ∙ ascending_others ps (given_properties d) right.ascending)

-- the own properties of a type that sets attributes, or that makes relationships beside one
pub attributes_sound : (d : Data) (t : ProcessorType) → IsRight d → type_of d ≡ Some t
    → ((gs : List (List ℕ × Data)) → own_given (own_of_type t) gs ≡ gs) → are_own_names (member_names (own_properties_in d)) ≡ true
attributes_sound d t right is gives =
    own_sound d right (ap (λ type. own_given (option_map_or own_of_type type own.Nothing) (others_in d)) is ∙ gives (others_in d))

pub relationships_sound : (d : Data) (t : ProcessorType) → IsRight d → type_of d ≡ Some t
    → ((gs : List (List ℕ × Data)) → own_given (own_of_type t) gs ≡ gs)
    → ((name : List ℕ) → may_be_own (own_of_type t) (relationships_of_type t) name ≡ not (is_among name (codes "unmatched" ∷ [])))
    → are_own_relationships (member_names (own_properties_in d)) ≡ true
relationships_sound d t right is gives makes =
    let ps : List Property = properties_in d in
    let all : own_properties_in d ≡ others_in d =
    ap (λ type. own_given (option_map_or own_of_type type own.Nothing) (others_in d)) is ∙ gives (others_in d) in
    let may : (name : List ℕ) → may_be_own (own_in d) (fixed_relationships_in d) name ≡ not (is_among name (codes "unmatched" ∷ [])) =
    λ name. ap (λ type. may_be_own (option_map_or own_of_type type own.Nothing) (option_map_or relationships_of_type type []) name) is ∙ makes name in
    and_from (are_own_names (member_names (own_properties_in d))) _ (own_sound d right all)
    (not_from_false _ (ap (λ gs. is_among (codes "unmatched") (member_names gs)) all
    ∙ names_other d (codes "unmatched") (others_in d) may (none_fixed ps (given_properties d))
    (none_others (is_bad_property d) ps (given_properties d) right.right)))
