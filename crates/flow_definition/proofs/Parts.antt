-- Each processor and each connection of an accepted text is sound.
use Rattle.std.proofs.Common.{◌≡◌, ℕ, ◌≤◌, true, false, not, List, [], ◌∷◌, ◌++◌, length, map, nat_le, nat_lt, is_none, is_some, slice_get, IfSome, IsSomeAnd, codes, Option, Some, None, option_and_then, All, refl, sym, ap, ◌∙◌, subst}
use Rattle.std.specs.Option.{option_map_or}
use Rattle.std.specs.List.{list_all, position_or_len}
use Rattle.std.proofs.lemmas.Bool.{false≢true, and_from, not-false, cond-true}
use Rattle.std.proofs.lemmas.List.Elements.{All-nil, All-cons}
use Rattle.serde_json.specs.Data.{Data}
use Rattle.serde_json.specs.Find.{as_number, as_u64}
use Rattle.flowfile_record.specs.declared.TheConstants.{CONTENT_MAX}
use Rattle.flowfile_record.specs.declared.limits.TheConstants.{TAKEN_MAX}
use Rattle.machine_model.specs.Kinds as kinds
use Rattle.machine_model.specs.Kinds.{is_among}
use Rattle.machine_model.specs.Sound.{within, IsSoundKind, MatchesWhole, to_match_whole, are_entries_sound, are_own_names, are_own_relationships, is_id, is_listed_name, is_replacement_sound, is_sound_processor, is_sound_connection, has_relationships, may_be_target, are_sound_limits, are_distinct_texts, EachOnce}
use Rattle.machine_model.specs.declared.flow.Flow.{Flow}
use Rattle.machine_model.specs.declared.flow.Processor.{Processor}
use Rattle.machine_model.specs.declared.kind.Kind.{Kind}
use Rattle.machine_model.specs.declared.kind.Kind.TheVariants as kind
use Rattle.machine_model.specs.declared.kind.MatchRequirement.TheVariants as requirement
use Rattle.machine_model.specs.declared.kind.Replacement.{Replacement}
use Rattle.machine_model.specs.declared.kind.Replacement.TheVariants as replacement
use Rattle.machine_model.specs.declared.limits.TheConstants.{COPIES_MAX, GENERATED_MAX, LINES_MAX, PENALTY_MAX, PROCESSORS_MAX, QUEUE_LIMIT_MAX, SWAP_MAX, SWAP_MIN, TASKS_MAX}
use Rattle.machine_model.specs.declared.pattern.Pattern.{Pattern}
use Rattle.flow_definition.specs.declared.field.Field.{Field}
use Rattle.flow_definition.specs.declared.field.Field.TheVariants.{Processors, Id, Tasks, Penalty, Terminated, From, To, Relationships, Prioritizers, Expiration, Objects, Bytes, Swap}
use Rattle.flow_definition.specs.declared.processor_type.Own.TheVariants as own
use Rattle.flow_definition.specs.declared.processor_type.ProcessorType.{ProcessorType}
use Rattle.flow_definition.specs.declared.processor_type.ProcessorType.TheVariants as type
use Rattle.flow_definition.specs.declared.processor_type.ReplaceStrategy.{ReplaceStrategy}
use Rattle.flow_definition.specs.declared.processor_type.ReplaceStrategy.TheVariants as strategy
use Rattle.flow_definition.specs.declared.processor_type.Property.TheVariants.{FileFilter, Count, CustomText, AttributesList, Copies, LineSplitCount, ReplacementValue, SearchValue, MinimumEntries, MaximumEntries, SegmentSize, StartOffset, EndOffset}
use Rattle.flow_definition.specs.Looks.{value_at, field_text, has_text, list_items_at, names_at, type_of, relationships_in, relationships_given, member_names, given_properties, others, own_given, own_texts_in, processor_named, property_text}
use Rattle.flow_definition.specs.Reading.{id_at, place_at, connection_of, replace_strategy_in, requirement_in, must_match_whole, IsReplacementOf, IsKindOf, IsProcessorOf, AreProcessorsOf}
use Rattle.flow_definition.specs.Rules.{may_be_end, in_item, wrong_item, wrong_name}
use Rattle.flow_definition.specs.Shapes.{number_of_digits}
use Rattle.flow_definition.specs.Types.{own_of_type, properties_of, relationships_of_type, is_source_type}
use Rattle.flow_definition.proofs.Ends.{HasPlace, place_found, HasProcessor, processor_at}
use Rattle.flow_definition.proofs.Given.{text_given, id_given, names_given, number_within, number_below, prioritizers_given}
use Rattle.flow_definition.proofs.Commas.{names_listed}
use Rattle.flow_definition.proofs.Names.{IsNamed, AreNamed, names_right, names_distinct}
use Rattle.flow_definition.proofs.Ordered.{AreAscending}
use Rattle.flow_definition.proofs.OwnPatterns.{pattern_names, whole_matched}
use Rattle.flow_definition.proofs.OwnProperties.{names_read, own_read, attributes_sound, relationships_sound}
use Rattle.flow_definition.proofs.Properties.{IsRight, entries_sound, search_sound}
use Rattle.flow_definition.proofs.Passed.{none_map, IsPassedProcessor, ArePassedProcessors, IsPassedConnection, ArePassedConnections}

-- the whole number in a field, where one stands there
abbrev number_given : Field → Data → Option ℕ
number_given f d = option_and_then as_u64 (option_and_then as_number (value_at f d))

-- ---- what a processor does

matches : (text : List ℕ) (filter : Option Pattern) → IsSomeAnd filter (λ pattern. pattern.text ≡ to_match_whole text)
    → IfSome filter MatchesWhole
matches text None is = absurd is
matches text (Some pattern) is = (text, is)

pub record IsTyped (d : Data) (k : Kind) : Type 0 where
  pub typed : is_some (type_of d) ≡ true
  pub names : relationships_in d ≡ kinds.relationships_of k
  pub source : option_map_or is_source_type (type_of d) false ≡ kinds.is_source k

abbrev names_by : Data → Option ProcessorType → List (List ℕ)
names_by d type =
    member_names (relationships_given (option_map_or own_of_type type own.Nothing) (others (option_map_or properties_of type []) (given_properties d)))
    ++ option_map_or relationships_of_type type []

abbrev own_names_by : Data → Option ProcessorType → List (List ℕ)
own_names_by d type = member_names (own_given (option_map_or own_of_type type own.Nothing) (others (option_map_or properties_of type []) (given_properties d)))

pub kind_typed : (d : Data) (k : Kind) → IsKindOf d k → IsTyped d k
kind_typed d (kind.GetFile filter) is = record {
  typed = ap is_some is.0;
  names = ap (names_by d) is.0;
  source = ap (λ type. option_map_or is_source_type type false) is.0;
}
kind_typed d (kind.GenerateFlowFile count text) is = record {
  typed = ap is_some is.0;
  names = ap (names_by d) is.0;
  source = ap (λ type. option_map_or is_source_type type false) is.0;
}
kind_typed d (kind.PutFile conflict) is = record {
  typed = ap is_some is.0;
  names = ap (names_by d) is.0;
  source = ap (λ type. option_map_or is_source_type type false) is.0;
}
kind_typed d (kind.UpdateAttribute own) is = record {
  typed = ap is_some is.0;
  names = ap (names_by d) is.0;
  source = ap (λ type. option_map_or is_source_type type false) is.0;
}
kind_typed d (kind.RouteOnAttribute list) is = record {
  typed = ap is_some is.0;
  names = ap (names_by d) is.0 ∙ ap (λ names. names ++ codes "unmatched" ∷ []) (sym (names_read d list is.1 ∙ ap (own_names_by d) is.0));
  source = ap (λ type. option_map_or is_source_type type false) is.0;
}
kind_typed d (kind.AttributesToJson destination names) is = record {
  typed = ap is_some is.0;
  names = ap (names_by d) is.0;
  source = ap (λ type. option_map_or is_source_type type false) is.0;
}
kind_typed d (kind.DuplicateFlowFile copies) is = record {
  typed = ap is_some is.0;
  names = ap (names_by d) is.0;
  source = ap (λ type. option_map_or is_source_type type false) is.0;
}
kind_typed d kind.CryptographicHashContent is = record {
  typed = ap is_some is;
  names = ap (names_by d) is;
  source = ap (λ type. option_map_or is_source_type type false) is;
}
kind_typed d (kind.SplitText lines) is = record {
  typed = ap is_some is.0;
  names = ap (names_by d) is.0;
  source = ap (λ type. option_map_or is_source_type type false) is.0;
}
kind_typed d (kind.ReplaceText by) is = record {
  typed = ap is_some is.0;
  names = ap (names_by d) is.0;
  source = ap (λ type. option_map_or is_source_type type false) is.0;
}
kind_typed d (kind.ExtractText list) is = record {
  typed = ap is_some is.0;
  names = ap (names_by d) is.0;
  source = ap (λ type. option_map_or is_source_type type false) is.0;
}
kind_typed d (kind.RouteOnContent requirement list) is = record {
  typed = ap is_some is.0;
  names = ap (names_by d) is.0
      ∙ ap (λ names. names ++ codes "unmatched" ∷ []) (sym (pattern_names d list is.2 ∙ ap (own_names_by d) is.0));
  source = ap (λ type. option_map_or is_source_type type false) is.0;
}
kind_typed d (kind.MergeContent by minimum maximum) is = record {
  typed = ap is_some is.0;
  names = ap (names_by d) is.0;
  source = ap (λ type. option_map_or is_source_type type false) is.0;
}
kind_typed d (kind.SegmentContent size) is = record {
  typed = ap is_some is.0;
  names = ap (names_by d) is.0;
  source = ap (λ type. option_map_or is_source_type type false) is.0;
}
kind_typed d (kind.ModifyBytes start end) is = record {
  typed = ap is_some is.0;
  names = ap (names_by d) is.0;
  source = ap (λ type. option_map_or is_source_type type false) is.0;
}

replacement_sound : (d : Data) (s : ReplaceStrategy) (by : Replacement) → IsRight d → type_of d ≡ Some type.ReplaceText
    → replace_strategy_in d ≡ s → IsReplacementOf s (property_text SearchValue d) (property_text ReplacementValue d) by
    → is_replacement_sound by ≡ true
replacement_sound d strategy.Regex (replacement.Regex search template) right typed is read = refl
replacement_sound d strategy.Regex (replacement.Literal search value) right typed is read = absurd read
replacement_sound d strategy.Literal (replacement.Regex search template) right typed is read = absurd read
replacement_sound d strategy.Literal (replacement.Literal search value) right typed is read =
    ap (λ text. nat_lt 0 (length text)) read.0 ∙ search_sound d right typed is

kind_sound : (d : Data) (k : Kind) → IsRight d → IsKindOf d k → IsSoundKind k
kind_sound d (kind.GetFile filter) right is =
    record { ranges = refl; texts = matches (property_text FileFilter d) filter is.1 }
kind_sound d (kind.GenerateFlowFile count text) right is = record {
  ranges = ap (λ n. nat_le n GENERATED_MAX) is.1 ∙ number_below 0 GENERATED_MAX (number_of_digits (property_text Count d)) refl;
  texts = (property_text CustomText d, is.2);
}
kind_sound d (kind.PutFile conflict) right is = record { ranges = refl; texts = tt }
kind_sound d (kind.UpdateAttribute list) right is =
    record {
      ranges = ap are_own_names (names_read d list is.1) ∙ attributes_sound d type.UpdateAttribute right is.0 (λ gs. refl);
      texts = own_read (own_texts_in d) list is.1;
    }
kind_sound d (kind.RouteOnAttribute list) right is = record {
  ranges = ap are_own_relationships (names_read d list is.1)
      ∙ relationships_sound d type.RouteOnAttribute right is.0 (λ gs. refl) (λ name. refl);
  texts = own_read (own_texts_in d) list is.1;
}
kind_sound d (kind.AttributesToJson destination names) right is = record {
  ranges = ap (list_all is_listed_name) is.2 ∙ names_listed (property_text AttributesList d);
  texts = tt;
}
kind_sound d (kind.DuplicateFlowFile copies) right is = record {
  ranges = ap (λ n. within 1 n COPIES_MAX) is.1 ∙ number_within 100 1 COPIES_MAX (number_of_digits (property_text Copies d)) refl;
  texts = tt;
}
kind_sound d kind.CryptographicHashContent right is = record { ranges = refl; texts = tt }
kind_sound d (kind.SplitText lines) right is = record {
  ranges = ap (λ n. within 1 n LINES_MAX) is.1 ∙ number_within 1 1 LINES_MAX (number_of_digits (property_text LineSplitCount d)) refl;
  texts = tt;
}
kind_sound d (kind.ReplaceText by) right is =
    record { ranges = replacement_sound d (replace_strategy_in d) by right is.0 refl is.1; texts = tt }
kind_sound d (kind.ExtractText list) right is = record {
  ranges = ap are_own_names (pattern_names d list is.1) ∙ attributes_sound d type.ExtractText right is.0 (λ gs. refl);
  texts = tt;
}
kind_sound d (kind.RouteOnContent requirement.Exactly list) right is = record {
  ranges = ap are_own_relationships (pattern_names d list is.2)
      ∙ relationships_sound d type.RouteOnContent right is.0 (λ gs. refl) (λ name. refl);
  texts = whole_matched d list
      (ap (λ type. must_match_whole (option_map_or own_of_type type own.Nothing) (requirement_in d)) is.0
      ∙ ap (must_match_whole own.RelationshipPatterns) (sym is.1)) is.2;
}
kind_sound d (kind.RouteOnContent requirement.Contains list) right is = record {
  ranges = ap are_own_relationships (pattern_names d list is.2)
      ∙ relationships_sound d type.RouteOnContent right is.0 (λ gs. refl) (λ name. refl);
  texts = tt;
}
kind_sound d (kind.MergeContent by minimum maximum) right is = record {
  ranges = and_from _ _
      (and_from _ _
      (ap (λ n. within 1 n TAKEN_MAX) is.2 ∙ number_within 1 1 TAKEN_MAX (number_of_digits (property_text MinimumEntries d)) refl)
      (ap (λ n. within 1 n TAKEN_MAX) is.3 ∙ number_within 1 1 TAKEN_MAX (number_of_digits (property_text MaximumEntries d)) refl))
      ((λ i. are_entries_sound (is.1 i) (is.2 i) (is.3 i)) ∙ entries_sound d right is.0);
  texts = tt;
}
kind_sound d (kind.SegmentContent size) right is = record {
  ranges = ap (λ n. within 1 n CONTENT_MAX) is.1
      ∙ number_within 1 1 CONTENT_MAX (number_of_digits (property_text SegmentSize d)) refl;
  texts = tt;
}
kind_sound d (kind.ModifyBytes start end) right is = record {
  ranges = and_from _ _
      (ap (λ n. nat_le n CONTENT_MAX) is.1 ∙ number_below 0 CONTENT_MAX (number_of_digits (property_text StartOffset d)) refl)
      (ap (λ n. nat_le n CONTENT_MAX) is.2 ∙ number_below 0 CONTENT_MAX (number_of_digits (property_text EndOffset d)) refl);
  texts = tt;
}

pub sound_kinds : (top : Data) (earlier ds : List Data) (ps : List Processor) → ArePassedProcessors top earlier ds → AreAscending ds
    → AreProcessorsOf ds ps → All (λ processor. IsSoundKind processor.kind) ps
sound_kinds top earlier [] [] passed ascending each = All-nil (λ processor. IsSoundKind processor.kind)
sound_kinds top earlier [] (p ∷ ps) passed ascending each = absurd each
sound_kinds top earlier (d ∷ ds) [] passed ascending each = absurd each
sound_kinds top earlier (d ∷ ds) (p ∷ ps) passed ascending each =
    let right : IsRight d = record {
      shaped = passed.0.shaped.1.1.1.1.0;
      given = passed.0.properties;
      right = passed.0.own;
      numbers = passed.0.numbers;
      few = passed.0.own_few;
      ascending = ascending.0;
    } in
    All-cons (λ processor. IsSoundKind processor.kind) p ps (kind_sound d p.kind right each.0.kind)
    (sound_kinds top (earlier ++ d ∷ []) ds ps passed.1 ascending.1 each.1)

-- ---- names of relationships

right_names : (f : Field) (d part : Data) → is_some (type_of d) ≡ true → wrong_item f (Some d) part ≡ None
    → wrong_name (relationships_in d) [] (names_at f part) ≡ None
right_names f d part typed right =
    none_map (in_item f) (wrong_name (relationships_in d) [] (names_at f part)) (sym (cond-true (is_some (type_of d)) _ None typed) ∙ right)

pub record HasNames (f : Field) (part : Data) (k : Kind) : Type 0 where
  pub distinct : are_distinct_texts (names_at f part) ≡ true
  pub among : list_all (λ name. is_among name (kinds.relationships_of k)) (names_at f part) ≡ true

has_names : (f : Field) (d part : Data) (k : Kind) → IsTyped d k → wrong_item f (Some d) part ≡ None → HasNames f part k
has_names f d part k typed right =
    let names = right_names f d part typed.typed right in
    record {
      distinct = names_distinct (relationships_in d) [] (names_at f part) names;
      among = subst (λ rs. list_all (λ name. is_among name rs) (names_at f part) ≡ true) typed.names
          (names_right (relationships_in d) [] (names_at f part) names);
    }

-- ---- processors

pub named_processor : (top : Data) (earlier : List Data) (d : Data) → IsPassedProcessor top earlier d → IsNamed earlier d
named_processor top earlier d passed = record {
  text = (id_given (value_at Id d) passed.given.0 passed.shaped.0).0;
  once = passed.once;
}

pub named_processors : (top : Data) (earlier ds : List Data) → ArePassedProcessors top earlier ds → AreNamed earlier ds
named_processors top earlier [] passed = tt
named_processors top earlier (d ∷ ds) passed =
    (named_processor top earlier d passed.0, named_processors top (earlier ++ d ∷ []) ds passed.1)

sound_processor : (top : Data) (earlier : List Data) (d : Data) (p : Processor) → IsPassedProcessor top earlier d → IsProcessorOf d p
    → is_sound_processor p ≡ true
sound_processor top earlier d p passed read =
    let names = has_names Terminated d d p.kind (kind_typed d p.kind read.kind) passed.named in
    and_from _ _
    (and_from _ _
    (and_from _ _
    (and_from _ _
    (ap is_id read.id ∙ (id_given (value_at Id d) passed.given.0 passed.shaped.0).1)
    (ap (λ n. within 1 n TASKS_MAX) read.tasks ∙ number_within 1 1 TASKS_MAX (number_given Tasks d) refl))
    (ap (λ n. nat_le n PENALTY_MAX) read.penalty ∙ number_below 30_000 PENALTY_MAX (number_given Penalty d) refl))
    (ap are_distinct_texts read.terminated ∙ names.distinct))
    (ap (list_all (λ name. is_among name (kinds.relationships_of p.kind))) read.terminated ∙ names.among)

pub sound_processors : (top : Data) (earlier ds : List Data) (ps : List Processor) → ArePassedProcessors top earlier ds
    → AreProcessorsOf ds ps → list_all is_sound_processor ps ≡ true
sound_processors top earlier [] [] passed each = refl
sound_processors top earlier [] (p ∷ ps) passed each = absurd each
sound_processors top earlier (d ∷ ds) [] passed each = absurd each
sound_processors top earlier (d ∷ ds) (p ∷ ps) passed each =
    and_from (is_sound_processor p) _ (sound_processor top earlier d p passed.0 each.0)
    (sound_processors top (earlier ++ d ∷ []) ds ps passed.1 each.1)

pub ids_of : (ds : List Data) (ps : List Processor) → AreProcessorsOf ds ps → map (λ processor. processor.id) ps ≡ map (id_at Id) ds
ids_of [] [] each = refl
ids_of [] (p ∷ ps) each = absurd each
ids_of (d ∷ ds) [] each = absurd each
ids_of (d ∷ ds) (p ∷ ps) each =
    ap (λ id. id ∷ map (λ processor. processor.id) ps) each.0.id ∙ ap (λ ids. id_at Id d ∷ ids) (ids_of ds ps each.1)

-- ---- connections

pub named_connections : (top : Data) (earlier cs : List Data) → ArePassedConnections top earlier cs → AreNamed earlier cs
named_connections top earlier [] passed = tt
named_connections top earlier (c ∷ cs) passed = (
  record {
    text = (id_given (value_at Id c) passed.0.given.0 passed.0.shaped.0).0;
    once = passed.0.once;
  },
  named_connections top (earlier ++ c ∷ []) cs passed.1,
)

pub connection_ids : (top : Data) (cs : List Data) → map (λ connection. connection.id) (map (connection_of top) cs) ≡ map (id_at Id) cs
connection_ids top [] = refl
connection_ids top (c ∷ cs) = ap (λ ids. id_at Id c ∷ ids) (connection_ids top cs)

pub source_given : (top : Data) (earlier : List Data) (c : Data) → IsPassedConnection top earlier c → field_text From c ≡ Some (id_at From c)
source_given top earlier c passed = text_given (value_at From c) passed.given.1.0 passed.shaped.1.0

target_given : (top : Data) (earlier : List Data) (c : Data) → IsPassedConnection top earlier c → field_text To c ≡ Some (id_at To c)
target_given top earlier c passed = text_given (value_at To c) passed.given.1.1.0 passed.shaped.1.1.0

pub source_place : (top : Data) (earlier : List Data) (c : Data) → length (list_items_at Processors top) ≤ PROCESSORS_MAX
    → IsPassedConnection top earlier c → HasPlace (has_text Id (id_at From c)) (list_items_at Processors top)
source_place top earlier c few passed =
    place_found (has_text Id (id_at From c)) (list_items_at Processors top) few
    (sym (ap (λ (o : Option (List ℕ)). option_map_or (λ id. is_none (processor_named top id)) o false) (source_given top earlier c passed)) ∙ passed.source)

may_end : (top : Data) (earlier : List Data) (c : Data) → IsPassedConnection top earlier c → may_be_end (processor_named top (id_at To c)) ≡ true
may_end top earlier c passed =
    not-false (may_be_end (processor_named top (id_at To c)))
    (sym (ap (λ (o : Option (List ℕ)). option_map_or (λ id. not (may_be_end (processor_named top id))) o false) (target_given top earlier c passed))
    ∙ passed.target)

end_there : (o : Option Data) → may_be_end o ≡ true → is_none o ≡ false
end_there None ends = absurd (false≢true ends)
end_there (Some d) ends = refl

-- the processor at the end that a field names
end_at : (top : Data) (ps : List Processor) (f : Field) (c : Data) (place : HasPlace (has_text Id (id_at f c)) (list_items_at Processors top))
    → AreProcessorsOf (list_items_at Processors top) ps → HasProcessor place.found (slice_get ps (place_at top f c))
end_at top ps f c place each =
    let has = processor_at (list_items_at Processors top) ps (position_or_len (has_text Id (id_at f c)) (list_items_at Processors top)) place.found each place.at in
    record {
      processor = has.processor;
      is = ap (slice_get ps) place.place ∙ has.is;
      read = has.read;
    }

sound_source : (top : Data) (flow : Flow) (earlier : List Data) (c : Data) → length (list_items_at Processors top) ≤ PROCESSORS_MAX
    → AreProcessorsOf (list_items_at Processors top) flow.processors → IsPassedConnection top earlier c
    → (are_distinct_texts (names_at Relationships c) ≡ true)
    × (has_relationships (connection_of top c) (slice_get flow.processors (place_at top From c)) ≡ true)
sound_source top flow earlier c few each passed =
    let place = source_place top earlier c few passed in
    let end = end_at top flow.processors From c place each in
    let named : wrong_item Relationships (Some place.found) c ≡ None =
    sym (ap (λ (o : Option (List ℕ)). wrong_item Relationships (option_and_then (processor_named top) o) c) (source_given top earlier c passed)
    ∙ ap (λ o. wrong_item Relationships o c) place.is) ∙ passed.named in
    let names = has_names Relationships place.found c end.processor.kind (kind_typed place.found end.processor.kind end.read.kind) named in
    (names.distinct, ap (has_relationships (connection_of top c)) end.is ∙ names.among)

sound_target : (top : Data) (flow : Flow) (earlier : List Data) (c : Data) → length (list_items_at Processors top) ≤ PROCESSORS_MAX
    → AreProcessorsOf (list_items_at Processors top) flow.processors → IsPassedConnection top earlier c
    → may_be_target (slice_get flow.processors (place_at top To c)) ≡ true
sound_target top flow earlier c few each passed =
    let ends = may_end top earlier c passed in
    let place = place_found (has_text Id (id_at To c)) (list_items_at Processors top) few (end_there _ ends) in
    let end = end_at top flow.processors To c place each in
    let typed = kind_typed place.found end.processor.kind end.read.kind in
    ap may_be_target end.is ∙ ap not (sym typed.source) ∙ sym (ap may_be_end place.is) ∙ ends

sound_limits : (top c : Data) → are_sound_limits (connection_of top c).limits ≡ true
sound_limits top c =
    and_from _ _
    (and_from _ _
    (and_from _ _
    (number_below 0 QUEUE_LIMIT_MAX (number_given Expiration c) refl)
    (number_below 10_000 QUEUE_LIMIT_MAX (number_given Objects c) refl))
    (number_below 1_073_741_824 QUEUE_LIMIT_MAX (number_given Bytes c) refl))
    (number_within 20_000 SWAP_MIN SWAP_MAX (number_given Swap c) refl)

sound_connection : (top : Data) (flow : Flow) (earlier : List Data) (c : Data) → length (list_items_at Processors top) ≤ PROCESSORS_MAX
    → AreProcessorsOf (list_items_at Processors top) flow.processors → IsPassedConnection top earlier c
    → is_sound_connection flow (connection_of top c) ≡ true
sound_connection top flow earlier c few each passed =
    let source = sound_source top flow earlier c few each passed in
    and_from _ _
    (and_from _ _
    (and_from _ _
    (and_from _ _
    (and_from _ _
    (id_given (value_at Id c) passed.given.0 passed.shaped.0).1
    (sound_limits top c))
    (names_given (value_at Relationships c) passed.given.1.1.1.0 passed.shaped.1.1.1.0))
    source.0)
    source.1)
    (sound_target top flow earlier c few each passed)

pub sound_connections : (top : Data) (flow : Flow) (earlier cs : List Data) → length (list_items_at Processors top) ≤ PROCESSORS_MAX
    → AreProcessorsOf (list_items_at Processors top) flow.processors → ArePassedConnections top earlier cs
    → list_all (is_sound_connection flow) (map (connection_of top) cs) ≡ true
sound_connections top flow earlier [] few each passed = refl
sound_connections top flow earlier (c ∷ cs) few each passed =
    and_from (is_sound_connection flow (connection_of top c)) _ (sound_connection top flow earlier c few each passed.0)
    (sound_connections top flow (earlier ++ c ∷ []) cs few each passed.1)

pub orders_once : (top : Data) (earlier cs : List Data) → ArePassedConnections top earlier cs
    → All (λ connection. EachOnce connection.order) (map (connection_of top) cs)
orders_once top earlier [] passed = All-nil (λ connection. EachOnce connection.order)
orders_once top earlier (c ∷ cs) passed =
    All-cons (λ connection. EachOnce connection.order) (connection_of top c) (map (connection_of top) cs)
    (prioritizers_given (value_at Prioritizers c) passed.0.shaped.1.1.1.1.0)
    (orders_once top (earlier ++ c ∷ []) cs passed.1)
