-- The properties of a processor that breaks no rule.
use Rattle.std.proofs.Common.{◌≡◌, ◌&&◌, not, ℕ, Bool, true, false, List, [], ◌∷◌, length, nat_lt, is_none, unwrap_or, find, bytes_eq, Option, Some, None, option_and_then, Ordering, Less, Equal, Greater, nat_cmp, is_eq, refl, sym, ap, ◌∙◌, subst, arith}
use Rattle.std.specs.Cmp.Lexicographic.{slice_cmp}
use Rattle.std.specs.Option.{option_map_or}
use Rattle.std.specs.Ordering.{match_ordering}
use Rattle.std.proofs.lemmas.Bool.{true≢false, and_parts, not-false, not-true, or_parts, le-leb, ltb-false, lt-ltb}
use Rattle.std.proofs.lemmas.Map.Text.{is_eq-slice_cmp}
use Rattle.std.proofs.lemmas.Option.{none-some, same_Some}
use Rattle.std.proofs.lemmas.Slice.Eq.{bytes_eq-Decides}
use Rattle.serde_json.specs.Data.{Data, null, boolean, number, string, array, object, Members, no_members, member}
use Rattle.serde_json.specs.Find.{as_str, get, get_member}
use Rattle.machine_model.specs.Sound.{are_ascending, are_entries_sound}
use Rattle.machine_model.specs.declared.kind.MergeStrategy.{MergeStrategy}
use Rattle.machine_model.specs.declared.kind.MergeStrategy.TheVariants.{BinPacking, Defragment}
use Rattle.machine_model.specs.declared.limits.TheConstants.{OWN_PROPERTIES_MAX}
use Rattle.flow_definition.specs.declared.field.Field.TheVariants.{Properties}
use Rattle.flow_definition.specs.declared.processor_type.Form.TheVariants as form
use Rattle.flow_definition.specs.declared.processor_type.ProcessorType.TheVariants.{ReplaceText, MergeContent}
use Rattle.flow_definition.specs.declared.processor_type.Property.TheVariants.{SearchValue, MinimumEntries, MaximumEntries}
use Rattle.flow_definition.specs.declared.processor_type.ReplaceStrategy.TheVariants.{Literal}
use Rattle.flow_definition.specs.Looks.{value_at, is_object, member_list, members_of, member_names, type_of, properties_in, own_properties_in, given_properties, given_value, property_text}
use Rattle.flow_definition.specs.Reading.{replace_strategy_in, merge_strategy_in, property_number}
use Rattle.flow_definition.specs.Rules.{is_misshapen, is_missing_property, is_bad_property, is_bad_value, is_above, is_above_most, is_bad_number_property, is_empty_search, may_give, property_may_hold, property_named}
use Rattle.flow_definition.specs.Shapes.{is_of_set}
use Rattle.flow_definition.specs.Types.{properties_of, property_name, default_of, form_of}
use Rattle.flow_definition.proofs.Passed.{NoneOf}

-- what the rules say of a processor's properties
pub record IsRight (d : Data) : Type 0 where
  pub shaped : is_misshapen d Properties ≡ false
  pub given : NoneOf (is_missing_property d) (properties_in d)
  pub right : NoneOf (is_bad_property d) (given_properties d)
  pub numbers : NoneOf (is_bad_number_property d) (properties_in d)
  pub few : nat_lt OWN_PROPERTIES_MAX (length (own_properties_in d)) ≡ false
  pub ascending : are_ascending (member_names (given_properties d)) ≡ true

-- ---- what is given under a name was looked at

passes_at : (p : List ℕ × Data → Bool) (o : Ordering) (name k : List ℕ) (d v : Data) (rest : Option Data) → slice_cmp nat_cmp name k ≡ o
    → p (k, d) ≡ false → (rest ≡ Some v → p (name, v) ≡ false) → match_ordering o rest (Some d) rest ≡ Some v → p (name, v) ≡ false
passes_at p Less name k d v rest is here later e = later e
passes_at p Equal name k d v rest is here later e =
    let same : name ≡ k = (bytes_eq-Decides name k).0 (sym (is_eq-slice_cmp name k) ∙ ap is_eq is) in
    subst (λ n. p (n, v) ≡ false) (sym same) (subst (λ x. p (k, x) ≡ false) (same_Some d v e) here)
passes_at p Greater name k d v rest is here later e = later e

passes_member : (p : List ℕ × Data → Bool) (name : List ℕ) (ms : Members) (v : Data) → get_member name ms ≡ Some v → NoneOf p (member_list ms)
    → p (name, v) ≡ false
passes_member p name no_members v e none = absurd (none-some v e)
passes_member p name (member k d ms) v e none =
    passes_at p (slice_cmp nat_cmp name k) name k d v (get_member name ms) refl none.0 (λ h. passes_member p name ms v h none.1) e

passes_data : (p : List ℕ × Data → Bool) (name : List ℕ) (d v : Data) → get name d ≡ Some v → NoneOf p (members_of d) → p (name, v) ≡ false
passes_data p name null v e none = absurd (none-some v e)
passes_data p name (boolean b) v e none = absurd (none-some v e)
passes_data p name (number n) v e none = absurd (none-some v e)
passes_data p name (string s) v e none = absurd (none-some v e)
passes_data p name (array ds) v e none = absurd (none-some v e)
passes_data p name (object ms) v e none = passes_member p name ms v e none

passes_option : (p : List ℕ × Data → Bool) (name : List ℕ) (o : Option Data) (v : Data) → option_and_then (get name) o ≡ Some v
    → NoneOf p (option_map_or members_of o []) → p (name, v) ≡ false
passes_option p name None v e none = absurd (none-some v e)
passes_option p name (Some d) v e none = passes_data p name d v e none

pub passes_given : (p : List ℕ × Data → Bool) (name : List ℕ) (d v : Data) → given_value name d ≡ Some v → NoneOf p (given_properties d) → p (name, v) ≡ false
passes_given p name d v e none = passes_option p name (value_at Properties d) v e none

-- ---- a required property is there

gives : (o : Option Data) → option_map_or (λ v. not (is_object v)) o false ≡ false → option_map_or is_object o true ≡ true
gives None shaped = refl
gives (Some d) shaped = not-false (is_object d) shaped

there : (b c : Bool) → b ≡ true → (b && true) && c ≡ false → c ≡ false
there true c is e = e
there false c is e = absurd (true≢false (sym is))

-- ---- what is sought as it stands isn't empty

sought_some : (text : List ℕ) → is_empty_search Literal form.Search text ≡ false → nat_lt 0 (length text) ≡ true
sought_some [] e = absurd (true≢false e)
sought_some (c ∷ cs) e = lt-ltb 0 (length (c ∷ cs)) (omega arith)

sought_text : (d : Data) (o : Option (List ℕ)) → replace_strategy_in d ≡ Literal → not (option_map_or (property_may_hold d SearchValue) o false) ≡ false
    → nat_lt 0 (length (unwrap_or o (unwrap_or (default_of SearchValue) []))) ≡ true
sought_text d None literal e = absurd (true≢false e)
sought_text d (Some text) literal e =
    let both = and_parts (is_of_set (form_of SearchValue) text) (not (is_empty_search (replace_strategy_in d) (form_of SearchValue) text)) (not-false _ e) in
    sought_some text (sym (ap (λ s. is_empty_search s form.Search text) literal) ∙ not-true _ both.1)

sought_given : (d : Data) (o : Option Data) → replace_strategy_in d ≡ Literal → is_none o ≡ false
    → ((v : Data) → o ≡ Some v → not (option_map_or (property_may_hold d SearchValue) (as_str v) false) ≡ false)
    → nat_lt 0 (length (unwrap_or (option_and_then as_str o) (unwrap_or (default_of SearchValue) []))) ≡ true
sought_given d None literal is right = absurd (true≢false is)
sought_given d (Some v) literal is right = sought_text d (as_str v) literal (right v refl)

pub search_sound : (d : Data) → IsRight d → type_of d ≡ Some ReplaceText → replace_strategy_in d ≡ Literal
    → nat_lt 0 (length (property_text SearchValue d)) ≡ true
search_sound d right is literal =
    let name : List ℕ = property_name SearchValue in
    let each = subst (NoneOf (is_missing_property d)) (ap (λ type. option_map_or properties_of type []) is) right.given in
    let named : property_named d name ≡ Some SearchValue =
    ap (λ type. find (λ p. bytes_eq (property_name p) name) (option_map_or properties_of type [])) is in
    sought_given d (given_value name d) literal
    (there (may_give d) (is_none (given_value name d)) (gives (value_at Properties d) right.shaped) each.1.1.0)
    (λ v e. sym (ap (is_bad_value d (name, v)) named) ∙ passes_given (is_bad_property d) name d v e right.right)

-- ---- of files that are joined by number the least isn't above the most

entries_at : (s : MergeStrategy) (minimum maximum : ℕ) → is_above s minimum maximum ≡ false → are_entries_sound s minimum maximum ≡ true
entries_at BinPacking minimum maximum within = le-leb minimum maximum (ltb-false maximum minimum within)
entries_at Defragment minimum maximum within = refl

pub entries_sound : (d : Data) → IsRight d → type_of d ≡ Some MergeContent
    → are_entries_sound (merge_strategy_in d) (property_number MinimumEntries d) (property_number MaximumEntries d) ≡ true
entries_sound d right is =
    let each = subst (NoneOf (is_bad_number_property d)) (ap (λ type. option_map_or properties_of type []) is) right.numbers in
    entries_at (merge_strategy_in d) (property_number MinimumEntries d) (property_number MaximumEntries d)
    (or_parts _ (is_above_most d MinimumEntries) each.1.1.0).1
