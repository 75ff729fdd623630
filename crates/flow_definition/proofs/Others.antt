-- What a processor gives beside the properties of its type.
use Rattle.std.proofs.Common.{◌≡◌, ◌&&◌, ◌||◌, ℕ, Bool, true, false, cond, not, List, [], ◌∷◌, ◌++◌, append_assoc, filter, length, map, suc, String, Global, string_bytes, find, bytes_eq, Option, Some, None, Ordering, Less, Equal, Greater, nat_cmp, refl, sym, ap, ◌∙◌}
use Rattle.std.specs.Cmp.Lexicographic.{slice_cmp}
use Rattle.std.specs.List.{list_any}
use Rattle.std.specs.Option.{option_map_or}
use Rattle.std.specs.Ordering.{is_lt}
use Rattle.std.proofs.lemmas.Bool.{false≢true, and_from, and_parts, or_parts, false_from_ne_true}
use Rattle.std.proofs.lemmas.Cmp.{nat_list_cmp_total}
use Rattle.std.proofs.lemmas.Slice.Eq.{bytes_eq-Decides}
use Rattle.serde_json.specs.Data.{Data}
use Rattle.serde_json.specs.View.{view, members_view}
use Rattle.serde_json.specs.declared.value.Value.{Value}
use Rattle.machine_model.specs.Kinds.{is_among}
use Rattle.machine_model.specs.Sound.{are_ascending}
use Rattle.flow_definition.specs.declared.processor_type.Property.{Property}
use Rattle.flow_definition.specs.Looks.{is_fixed, member_list, others, member_names, text_or_empty, texts_of}
use Rattle.flow_definition.specs.Types.{property_name}
use Rattle.flow_definition.proofs.Passed.{NoneOf}

-- ---- as they are seen

pub others_seen : {X : Type 0} (ps : List Property) (f : X → List (List ℕ × Data)) (o : Option X) → option_map_or (λ x. others ps (f x)) o [] ≡ others ps (option_map_or f o [])
others_seen ps f None = refl
others_seen ps f (Some x) = refl

pub names_seen : {X : Type 0} (ps : List Property) (f : X → List (List ℕ × Data)) (o : Option X)
    → option_map_or (λ x. member_names (others ps (f x))) o [] ≡ member_names (others ps (option_map_or f o []))
names_seen ps f None = refl
names_seen ps f (Some x) = refl

-- ---- one more

pub other_more : (ps : List Property) (g : List ℕ × Data) (gs : List (List ℕ × Data)) → is_fixed ps g.0 ≡ false → others ps (g ∷ gs) ≡ g ∷ others ps gs
other_more ps g gs is = ap (λ b. cond (not b) (g ∷ others ps gs) (others ps gs)) is

pub fixed_more : (ps : List Property) (g : List ℕ × Data) (gs : List (List ℕ × Data)) → is_fixed ps g.0 ≡ true → others ps (g ∷ gs) ≡ others ps gs
fixed_more ps g gs is = ap (λ b. cond (not b) (g ∷ others ps gs) (others ps gs)) is

-- the texts that are left behind some members
abbrev pub texts_left : List Property → List (String Global × Value) → List (List ℕ × List ℕ)
texts_left ps es = texts_of (others ps (member_list (members_view es)))

pub texts_one : (ps : List Property) (front : List (List ℕ × List ℕ)) (name : String Global) (value : Value) (es : List (String Global × Value))
    → is_fixed ps (string_bytes name) ≡ false
    → front ++ texts_left ps ((name, value) ∷ es) ≡ front ++ (string_bytes name, text_or_empty (view value)) ∷ texts_left ps es
texts_one ps front name value es is =
    ap (λ gs. front ++ texts_of gs) (other_more ps (string_bytes name, view value) (member_list (members_view es)) is)

pub texts_more : (ps : List Property) (front : List (List ℕ × List ℕ)) (name : String Global) (value : Value) (es : List (String Global × Value))
    → is_fixed ps (string_bytes name) ≡ false
    → front ++ texts_left ps ((name, value) ∷ es) ≡ (front ++ (string_bytes name, text_or_empty (view value)) ∷ []) ++ texts_left ps es
texts_more ps front name value es is =
    texts_one ps front name value es is ∙ sym (append_assoc front ((string_bytes name, text_or_empty (view value)) ∷ []) (texts_left ps es))

pub texts_past : (ps : List Property) (name : String Global) (value : Value) (es : List (String Global × Value))
    → is_fixed ps (string_bytes name) ≡ true → texts_left ps ((name, value) ∷ es) ≡ texts_left ps es
texts_past ps name value es is = ap texts_of (fixed_more ps (string_bytes name, view value) (member_list (members_view es)) is)

counted_at : (b : Bool) (ps : List Property) (e : String Global × Value) (es : List (String Global × Value))
    → length (filter (λ k. not (is_fixed ps (string_bytes k))) (map (λ x. x.0) es)) ≡ length (others ps (member_list (members_view es)))
    → length (cond (not b) (e.0 ∷ filter (λ k. not (is_fixed ps (string_bytes k))) (map (λ x. x.0) es))
    (filter (λ k. not (is_fixed ps (string_bytes k))) (map (λ x. x.0) es)))
    ≡ length (cond (not b) ((string_bytes e.0, view e.1) ∷ others ps (member_list (members_view es))) (others ps (member_list (members_view es))))
counted_at true ps e es later = later
counted_at false ps e es later = ap suc later

pub others_counted : (ps : List Property) (es : List (String Global × Value))
    → length (filter (λ k. not (is_fixed ps (string_bytes k))) (map (λ e. e.0) es)) ≡ length (others ps (member_list (members_view es)))
others_counted ps [] = refl
others_counted ps (e ∷ es) = counted_at (is_fixed ps (string_bytes e.0)) ps e es (others_counted ps es)

-- ---- what is among them

any_at : (b : Bool) (ps : List Property) (test : List ℕ → Bool) (g : List ℕ × Data) (gs : List (List ℕ × Data))
    → list_any (λ name. not (is_fixed ps name) && test name) (member_names gs) ≡ list_any test (member_names (others ps gs))
    → ((not b && test g.0) || list_any (λ name. not (is_fixed ps name) && test name) (member_names gs))
    ≡ list_any test (member_names (cond (not b) (g ∷ others ps gs) (others ps gs)))
any_at true ps test g gs later = later
any_at false ps test g gs later = ap (λ b. test g.0 || b) later

pub any_others : (ps : List Property) (test : List ℕ → Bool) (gs : List (List ℕ × Data))
    → list_any (λ name. not (is_fixed ps name) && test name) (member_names gs) ≡ list_any test (member_names (others ps gs))
any_others ps test [] = refl
any_others ps test (g ∷ gs) = any_at (is_fixed ps g.0) ps test g gs (any_others ps test gs)

names_differ : (ps : List Property) (name k : List ℕ) (b : Bool) → is_fixed ps name ≡ b → is_fixed ps k ≡ not b → bytes_eq name k ≡ false
names_differ ps name k b one other =
    false_from_ne_true (bytes_eq name k) (λ same. apart b (sym one ∙ ap (is_fixed ps) ((bytes_eq-Decides name k).0 same) ∙ other))
  where
    apart : (c : Bool) → c ≡ not c → ⊥
    apart true e = absurd (cc)
    apart false e = absurd (cc)

among_at : (b c : Bool) (ps : List Property) (name : List ℕ) (g : List ℕ × Data) (gs : List (List ℕ × Data)) → is_fixed ps name ≡ b
    → is_fixed ps g.0 ≡ c → (not b && is_among name (member_names gs)) ≡ is_among name (member_names (others ps gs))
    → (not b && (bytes_eq name g.0 || is_among name (member_names gs))) ≡ is_among name (member_names (cond (not c) (g ∷ others ps gs) (others ps gs)))
among_at true true ps name g gs is one later = later
among_at true false ps name g gs is one later =
    later ∙ sym (ap (λ b. b || is_among name (member_names (others ps gs))) (names_differ ps name g.0 true is one))
among_at false true ps name g gs is one later =
    ap (λ b. b || is_among name (member_names gs)) (names_differ ps name g.0 false is one) ∙ later
among_at false false ps name g gs is one later = ap (λ b. bytes_eq name g.0 || b) later

among_none : (b : Bool) → (not b && false) ≡ false
among_none true = refl
among_none false = refl

pub among_others : (ps : List Property) (name : List ℕ) (gs : List (List ℕ × Data))
    → (not (is_fixed ps name) && is_among name (member_names gs)) ≡ is_among name (member_names (others ps gs))
among_others ps name [] = among_none (is_fixed ps name)
among_others ps name (g ∷ gs) = among_at (is_fixed ps name) (is_fixed ps g.0) ps name g gs refl refl (among_others ps name gs)

-- ---- what holds of them

none_at : (b : Bool) (p : List ℕ × Data → Bool) (ps : List Property) (g : List ℕ × Data) (gs : List (List ℕ × Data)) → p g ≡ false
    → NoneOf p (others ps gs) → NoneOf p (cond (not b) (g ∷ others ps gs) (others ps gs))
none_at true p ps g gs here later = later
none_at false p ps g gs here later = (here, later)

pub none_others : (p : List ℕ × Data → Bool) (ps : List Property) (gs : List (List ℕ × Data)) → NoneOf p gs → NoneOf p (others ps gs)
none_others p ps [] none = tt
none_others p ps (g ∷ gs) none = none_at (is_fixed ps g.0) p ps g gs none.0 (none_others p ps gs none.1)

unfixed_at : (b : Bool) (ps : List Property) (g : List ℕ × Data) (gs : List (List ℕ × Data)) → is_fixed ps g.0 ≡ b
    → NoneOf (λ x. is_fixed ps x.0) (others ps gs) → NoneOf (λ x. is_fixed ps x.0) (cond (not b) (g ∷ others ps gs) (others ps gs))
unfixed_at true ps g gs here later = later
unfixed_at false ps g gs here later = (here, later)

pub none_fixed : (ps : List Property) (gs : List (List ℕ × Data)) → NoneOf (λ x. is_fixed ps x.0) (others ps gs)
none_fixed ps [] = tt
none_fixed ps (g ∷ gs) = unfixed_at (is_fixed ps g.0) ps g gs refl (none_fixed ps gs)

pub not_named : (ps : List Property) (name : List ℕ) → is_fixed ps name ≡ false → find (λ p. bytes_eq (property_name p) name) ps ≡ None
not_named [] name is = refl
not_named (p ∷ ps) name is =
    let both = or_parts (bytes_eq (property_name p) name) (is_fixed ps name) is in
    ap (λ b. cond b (Some p) (find (λ q. bytes_eq (property_name q) name) ps)) both.0 ∙ not_named ps name both.1

-- ---- they ascend

is_less : (o : Ordering) → is_lt o ≡ true → o ≡ Less
is_less Less h = refl
is_less Equal h = absurd (false≢true h)
is_less Greater h = absurd (false≢true h)

less_later : (a b c : List ℕ) → is_lt (slice_cmp nat_cmp a b) ≡ true → is_lt (slice_cmp nat_cmp b c) ≡ true → is_lt (slice_cmp nat_cmp a c) ≡ true
less_later a b c one two = ap is_lt (nat_list_cmp_total.trans a b c (is_less (slice_cmp nat_cmp a b) one) (is_less (slice_cmp nat_cmp b c) two))

without_second : (a b : List ℕ) (names : List (List ℕ)) → are_ascending (a ∷ b ∷ names) ≡ true → are_ascending (a ∷ names) ≡ true
without_second a b [] all = refl
without_second a b (c ∷ names) all =
    let first = and_parts (is_lt (slice_cmp nat_cmp a b)) (are_ascending (b ∷ c ∷ names)) all in
    let second = and_parts (is_lt (slice_cmp nat_cmp b c)) (are_ascending (c ∷ names)) first.1 in
    and_from (is_lt (slice_cmp nat_cmp a c)) _ (less_later a b c first.0 second.0) second.1

behind_at : (b : Bool) (name : List ℕ) (ps : List Property) (g : List ℕ × Data) (gs : List (List ℕ × Data))
    → are_ascending (name ∷ g.0 ∷ member_names gs) ≡ true
    → ((before : List ℕ) → are_ascending (before ∷ member_names gs) ≡ true → are_ascending (before ∷ member_names (others ps gs)) ≡ true)
    → are_ascending (name ∷ member_names (cond (not b) (g ∷ others ps gs) (others ps gs))) ≡ true
behind_at true name ps g gs all later = later name (without_second name g.0 (member_names gs) all)
behind_at false name ps g gs all later =
    let both = and_parts (is_lt (slice_cmp nat_cmp name g.0)) (are_ascending (g.0 ∷ member_names gs)) all in
    and_from (is_lt (slice_cmp nat_cmp name g.0)) _ both.0 (later g.0 both.1)

ascending_behind : (name : List ℕ) (ps : List Property) (gs : List (List ℕ × Data)) → are_ascending (name ∷ member_names gs) ≡ true
    → are_ascending (name ∷ member_names (others ps gs)) ≡ true
ascending_behind name ps [] all = refl
ascending_behind name ps (g ∷ gs) all =
    behind_at (is_fixed ps g.0) name ps g gs all (λ before h. ascending_behind before ps gs h)

tail_ascends : (name : List ℕ) (names : List (List ℕ)) → are_ascending (name ∷ names) ≡ true → are_ascending names ≡ true
tail_ascends name [] all = refl
tail_ascends name (next ∷ names) all = (and_parts (is_lt (slice_cmp nat_cmp name next)) (are_ascending (next ∷ names)) all).1

ascending_at : (b : Bool) (ps : List Property) (g : List ℕ × Data) (gs : List (List ℕ × Data)) → are_ascending (g.0 ∷ member_names gs) ≡ true
    → are_ascending (member_names (others ps gs)) ≡ true → are_ascending (member_names (cond (not b) (g ∷ others ps gs) (others ps gs))) ≡ true
ascending_at true ps g gs all later = later
ascending_at false ps g gs all later = ascending_behind g.0 ps gs all

pub ascending_others : (ps : List Property) (gs : List (List ℕ × Data)) → are_ascending (member_names gs) ≡ true → are_ascending (member_names (others ps gs)) ≡ true
ascending_others ps [] all = refl
ascending_others ps (g ∷ gs) all =
    ascending_at (is_fixed ps g.0) ps g gs all (ascending_others ps gs (tail_ascends g.0 (member_names gs) all))
