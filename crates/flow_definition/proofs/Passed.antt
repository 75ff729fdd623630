-- What the rules say of each object of a text that breaks none.
use Rattle.std.proofs.Common.{◌≡◌, Bool, true, false, cond, List, [], ◌∷◌, ◌++◌, length, nat_lt, find, Option, Some, None, option_map, refl, sym, ◌∙◌}
use Rattle.std.specs.Option.{option_or}
use Rattle.std.specs.List.{list_all, list_any}
use Rattle.std.proofs.lemmas.Bool.{and_parts, or_parts, cond-true}
use Rattle.std.proofs.lemmas.Option.{none-some}
use Rattle.serde_json.specs.Data.{Data}
use Rattle.machine_model.specs.declared.limits.TheConstants.{PROCESSORS_MAX, CONNECTIONS_MAX, OWN_PROPERTIES_MAX}
use Rattle.flow_definition.specs.declared.field.Field.{Field}
use Rattle.flow_definition.specs.declared.field.Field.TheVariants.{Processors, Connections, Id, Terminated, From, To, Properties}
use Rattle.flow_definition.specs.declared.field.Level.TheVariants as level
use Rattle.flow_definition.specs.declared.rule.Rule.{Rule}
use Rattle.flow_definition.specs.declared.rule.Rule.TheVariants.{MissingField, DoubleId, UnknownEnd, RelationshipUnconnected, BadProperty, TooMany, BadNumber}
use Rattle.flow_definition.specs.Fields.{fields_of}
use Rattle.flow_definition.specs.Looks.{list_items_at, is_object, relationships_in, given_properties, own_properties_in, properties_in}
use Rattle.flow_definition.specs.Rules.{Path, in_field, in_property, is_missing, missing_field, is_missing_property, missing_property, is_doubled, is_unknown_source, is_unknown_target, is_loose, wrong_item, not_of_source, is_misshapen, misshapen_field, is_bad_property, bad_property, bad_number, is_bad_number_property, bad_number_property, has_crowded, are_connections_too_many}
use Rattle.flow_definition.specs.Types.{property_name}
use Rattle.flow_definition.specs.Walk.{in_top, in_level, in_list_item, in_object, first_broken_in, first_broken_place, first_broken, first_rules, last_rules}

-- ---- nothing was found

pub none_first : {X : Type 0} (b : Bool) (x : X) (o : Option X) → cond b (Some x) o ≡ None → (b ≡ false) × (o ≡ None)
none_first true x o e = absurd (none-some x (sym e))
none_first false x o e = (refl, e)

pub none_or : {X : Type 0} (o rest : Option X) → option_or o rest ≡ None → (o ≡ None) × (rest ≡ None)
none_or None rest e = (refl, e)
none_or (Some x) rest e = absurd (none-some x (sym e))

pub none_map : {X Y : Type 0} (f : X → Y) (o : Option X) → option_map f o ≡ None → o ≡ None
none_map f None e = refl
none_map f (Some x) e = absurd (none-some (f x) (sym e))

-- the test fails at each item
abbrev pub NoneOf : {X : Type 0} → (X → Bool) → List X → Type 0
NoneOf p [] = Unit {0}
NoneOf p (x ∷ xs) = (p x ≡ false) × NoneOf p xs

pub unfound : {X : Type 0} (p : X → Bool) (xs : List X) → find p xs ≡ None → NoneOf p xs
unfound p [] e = tt
unfound p (x ∷ xs) e =
    let both = none_first (p x) x (find p xs) e in
    (both.0, unfound p xs both.1)

-- ---- a rule that is broken nowhere

pub record IsPassed (rule : Rule) (top : Data) : Type 0 where
  pub whole : in_top rule top ≡ None
  pub processors : first_broken_in (in_level level.Processor rule top) Processors [] (list_items_at Processors top) ≡ None
  pub connections : first_broken_in (in_level level.Connection rule top) Connections [] (list_items_at Connections top) ≡ None

passed : (rule : Rule) (top : Data) → first_broken_place rule top ≡ None → IsPassed rule top
passed rule top e =
    let below = none_or (in_top rule top) _ e in
    let lists = none_or (first_broken_in (in_level level.Processor rule top) Processors [] (list_items_at Processors top)) _ below.1 in
    record { whole = below.0; processors = lists.0; connections = lists.1 }

abbrev AllPassed : List Rule → Data → Type 0
AllPassed [] top = Unit {0}
AllPassed (rule ∷ rules) top = IsPassed rule top × AllPassed rules top

all_passed : (rules : List Rule) (top : Data) → first_broken rules top ≡ None → AllPassed rules top
all_passed [] top e = tt
all_passed (rule ∷ rules) top e =
    let both = none_or (option_map {U = Rule × Path} (λ path. (rule, path)) (first_broken_place rule top)) (first_broken rules top) e in
    (passed rule top (none_map {Y = Rule × Path} (λ path. (rule, path)) (first_broken_place rule top) both.0), all_passed rules top both.1)

pub record IsUnbroken (top : Data) : Type 0 where
  pub given : IsPassed MissingField top
  pub once : IsPassed DoubleId top
  pub ends : IsPassed UnknownEnd top
  pub connected : IsPassed RelationshipUnconnected top
  pub shaped : IsPassed BadProperty top
  pub few : IsPassed TooMany top
  pub numbers : IsPassed BadNumber top

pub unbroken : (top : Data) → first_broken first_rules top ≡ None → first_broken last_rules top ≡ None → IsUnbroken top
unbroken top first last =
    let before : AllPassed first_rules top = all_passed first_rules top first in
    let behind : AllPassed last_rules top = all_passed last_rules top last in
    record {
      given = before.0;
      once = before.1.1.0;
      ends = before.1.1.1.0;
      connected = before.1.1.1.1.0;
      shaped = before.1.1.1.1.1.0;
      few = behind.0;
      numbers = behind.1.1.0;
    }

-- ---- each object, behind the earlier ones of its list

head_passed : (rule : List Data → Data → Option Path) (f : Field) (earlier ds : List Data) (d : Data) → is_object d ≡ true
    → first_broken_in rule f earlier (d ∷ ds) ≡ None → (rule earlier d ≡ None) × (first_broken_in rule f (earlier ++ d ∷ []) ds ≡ None)
head_passed rule f earlier ds d is e =
    let both = none_or (option_map (in_list_item f (length earlier)) (in_object rule earlier d)) _ e in (
      sym (cond-true (is_object d) (rule earlier d) None is) ∙ none_map (in_list_item f (length earlier)) (in_object rule earlier d) both.0,
      both.1,
    )

pub record IsPassedProcessor (top : Data) (earlier : List Data) (d : Data) : Type 0 where
  pub given : NoneOf (is_missing d) (fields_of level.Processor)
  pub once : is_doubled earlier d ≡ false
  pub loose : list_any (is_loose top d) (relationships_in d) ≡ false
  pub named : wrong_item Terminated (Some d) d ≡ None
  pub shaped : NoneOf (is_misshapen d) (fields_of level.Processor)
  pub few : has_crowded top d ≡ false
  pub own : NoneOf (is_bad_property d) (given_properties d)
  pub properties : NoneOf (is_missing_property d) (properties_in d)
  pub numbers : NoneOf (is_bad_number_property d) (properties_in d)
  pub own_few : nat_lt OWN_PROPERTIES_MAX (length (own_properties_in d)) ≡ false

abbrev pub ArePassedProcessors : (top : Data) (earlier ds : List Data) → Type 0
ArePassedProcessors top earlier [] = Unit {0}
ArePassedProcessors top earlier (d ∷ ds) = IsPassedProcessor top earlier d × ArePassedProcessors top (earlier ++ d ∷ []) ds

pub passed_processors : (top : Data) (earlier ds : List Data) → list_all is_object ds ≡ true
    → first_broken_in (in_level level.Processor MissingField top) Processors earlier ds ≡ None
    → first_broken_in (in_level level.Processor DoubleId top) Processors earlier ds ≡ None
    → first_broken_in (in_level level.Processor RelationshipUnconnected top) Processors earlier ds ≡ None
    → first_broken_in (in_level level.Processor BadProperty top) Processors earlier ds ≡ None
    → first_broken_in (in_level level.Processor TooMany top) Processors earlier ds ≡ None
    → first_broken_in (in_level level.Processor BadNumber top) Processors earlier ds ≡ None
    → list_any (has_crowded top) ds ≡ false → ArePassedProcessors top earlier ds
passed_processors top earlier [] objects given once connected shaped own numbers few = tt
passed_processors top earlier (d ∷ ds) objects given once connected shaped own numbers few =
    let is = and_parts (is_object d) (list_all is_object ds) objects in
    let g = head_passed (in_level level.Processor MissingField top) Processors earlier ds d is.0 given in
    let o = head_passed (in_level level.Processor DoubleId top) Processors earlier ds d is.0 once in
    let c = head_passed (in_level level.Processor RelationshipUnconnected top) Processors earlier ds d is.0 connected in
    let s = head_passed (in_level level.Processor BadProperty top) Processors earlier ds d is.0 shaped in
    let n = none_or (missing_field level.Processor d) (missing_property d) g.0 in
    let p = none_or (misshapen_field level.Processor d) (bad_property d) s.0 in
    let t = head_passed (in_level level.Processor TooMany top) Processors earlier ds d is.0 own in
    let m = head_passed (in_level level.Processor BadNumber top) Processors earlier ds d is.0 numbers in
    let f = or_parts (has_crowded top d) (list_any (has_crowded top) ds) few in
    let linked = none_first (list_any (is_loose top d) (relationships_in d)) [] (wrong_item Terminated (Some d) d) c.0 in (
      record {
        given = unfound (is_missing d) (fields_of level.Processor)
            (none_map in_field _ n.0);
        once = (none_first (is_doubled earlier d) (in_field Id) None o.0).0;
        loose = linked.0;
        named = linked.1;
        shaped = unfound (is_misshapen d) (fields_of level.Processor) (none_map in_field _ p.0);
        few = f.0;
        own = unfound (is_bad_property d) (given_properties d) (none_map (λ given. in_property given.0) _ p.1);
        properties = unfound (is_missing_property d) (properties_in d) (none_map (λ p. in_property (property_name p)) _ n.1);
        numbers = unfound (is_bad_number_property d) (properties_in d)
            (none_map (λ p. in_property (property_name p)) _ (none_or (bad_number level.Processor d) (bad_number_property d) m.0).1);
        own_few = (none_first _ (in_field Properties) None t.0).0;
      },
      passed_processors top (earlier ++ d ∷ []) ds is.1 g.1 o.1 c.1 s.1 t.1 m.1 f.1,
    )

pub record IsPassedConnection (top : Data) (earlier : List Data) (d : Data) : Type 0 where
  pub given : NoneOf (is_missing d) (fields_of level.Connection)
  pub once : is_doubled earlier d ≡ false
  pub source : is_unknown_source top d ≡ false
  pub target : is_unknown_target top d ≡ false
  pub named : not_of_source top d ≡ None
  pub shaped : NoneOf (is_misshapen d) (fields_of level.Connection)

abbrev pub ArePassedConnections : (top : Data) (earlier ds : List Data) → Type 0
ArePassedConnections top earlier [] = Unit {0}
ArePassedConnections top earlier (d ∷ ds) = IsPassedConnection top earlier d × ArePassedConnections top (earlier ++ d ∷ []) ds

pub passed_connections : (top : Data) (earlier ds : List Data) → list_all is_object ds ≡ true
    → first_broken_in (in_level level.Connection MissingField top) Connections earlier ds ≡ None
    → first_broken_in (in_level level.Connection DoubleId top) Connections earlier ds ≡ None
    → first_broken_in (in_level level.Connection UnknownEnd top) Connections earlier ds ≡ None
    → first_broken_in (in_level level.Connection RelationshipUnconnected top) Connections earlier ds ≡ None
    → first_broken_in (in_level level.Connection BadProperty top) Connections earlier ds ≡ None → ArePassedConnections top earlier ds
passed_connections top earlier [] objects given once ends connected shaped = tt
passed_connections top earlier (d ∷ ds) objects given once ends connected shaped =
    let is = and_parts (is_object d) (list_all is_object ds) objects in
    let g = head_passed (in_level level.Connection MissingField top) Connections earlier ds d is.0 given in
    let o = head_passed (in_level level.Connection DoubleId top) Connections earlier ds d is.0 once in
    let e = head_passed (in_level level.Connection UnknownEnd top) Connections earlier ds d is.0 ends in
    let c = head_passed (in_level level.Connection RelationshipUnconnected top) Connections earlier ds d is.0 connected in
    let s = head_passed (in_level level.Connection BadProperty top) Connections earlier ds d is.0 shaped in
    let source = none_first (is_unknown_source top d) (in_field From) _ e.0 in
    let target = none_first (is_unknown_target top d) (in_field To) None source.1 in (
      record {
        given = unfound (is_missing d) (fields_of level.Connection) (none_map in_field _ g.0);
        once = (none_first (is_doubled earlier d) (in_field Id) None o.0).0;
        source = source.0;
        target = target.0;
        named = c.0;
        shaped = unfound (is_misshapen d) (fields_of level.Connection) (none_map in_field _ s.0);
      },
      passed_connections top (earlier ++ d ∷ []) ds is.1 g.1 o.1 e.1 c.1 s.1,
    )

-- ---- how many there are

pub record IsFew (top : Data) : Type 0 where
  pub processors : nat_lt PROCESSORS_MAX (length (list_items_at Processors top)) ≡ false
  pub connections : nat_lt CONNECTIONS_MAX (length (list_items_at Connections top)) ≡ false
  pub crowded : list_any (has_crowded top) (list_items_at Processors top) ≡ false

pub passed_few : (top : Data) → IsPassed TooMany top → IsFew top
passed_few top few =
    let processors = none_first (nat_lt PROCESSORS_MAX (length (list_items_at Processors top))) (in_field Processors) _ few.whole in
    let connections = none_first (are_connections_too_many top) (in_field Connections) None processors.1 in
    let both = or_parts (nat_lt CONNECTIONS_MAX (length (list_items_at Connections top))) (list_any (has_crowded top) (list_items_at Processors top)) connections.0 in
    record { processors = processors.0; connections = both.0; crowded = both.1 }
