-- Which flows are sound: what a reader of flows accepts, and what every law over a flow asks of it.
use Rattle.std.specs.Prelude.{◌≡◌, ◌≢◌, ℕ, ◌≤◌, ◌==◌, ◌&&◌, ◌||◌, nat_lt, nat_le, not, Bool, true, false, List, [], ◌∷◌, ◌++◌, length, map, IsTrue, IfSome, All, Option, Some, None, slice_get, codes, count_by, if◌then◌else◌}
use Rattle.std.specs.List.{list_all, enumerate_from, AllPairs}
use Rattle.std.specs.Ordering.{nat_cmp, is_lt}
use Rattle.std.specs.Cmp.Lexicographic.{slice_cmp}
use Rattle.expr_lang.specs.Grammar.{IsText}
use Rattle.expr_lang.specs.View.{tree_of}
use Rattle.expr_lang.specs.declared.syntax.Expr.{Expr}
use Rattle.flowfile_record.specs.declared.TheConstants.{CONTENT_MAX}
use Rattle.flowfile_record.specs.declared.limits.TheConstants.{TAKEN_MAX}
use Rattle.machine_model.specs.declared.limits.TheConstants.{CONNECTIONS_MAX, COPIES_MAX, FAN_OUT_MAX, GENERATED_MAX, ID_MAX, LINES_MAX, OWN_NAME_MAX, OWN_PROPERTIES_MAX, PENALTY_MAX, PROCESSORS_MAX, QUEUE_LIMIT_MAX, SWAP_MAX, SWAP_MIN, TASKS_MAX}
use Rattle.prioritizer.specs.declared.prioritizer.Prioritizer.{Prioritizer}
use Rattle.machine_model.specs.declared.flow.Connection.{Connection}
use Rattle.machine_model.specs.declared.flow.Flow.{Flow}
use Rattle.machine_model.specs.declared.flow.Processor.{Processor}
use Rattle.machine_model.specs.declared.flow.QueueLimits.{QueueLimits}
use Rattle.machine_model.specs.declared.kind.Kind.{Kind}
use Rattle.machine_model.specs.declared.kind.Kind.TheVariants.{GetFile, GenerateFlowFile, PutFile, UpdateAttribute, RouteOnAttribute, AttributesToJson, DuplicateFlowFile, CryptographicHashContent, SplitText, ReplaceText, ExtractText, RouteOnContent, MergeContent, SegmentContent, ModifyBytes}
use Rattle.machine_model.specs.declared.kind.MatchRequirement.TheVariants.{Exactly}
use Rattle.machine_model.specs.declared.kind.MergeStrategy.{MergeStrategy}
use Rattle.machine_model.specs.declared.kind.MergeStrategy.TheVariants.{BinPacking, Defragment}
use Rattle.machine_model.specs.declared.kind.Replacement.{Replacement}
use Rattle.machine_model.specs.declared.kind.Replacement.TheVariants as replace
use Rattle.machine_model.specs.declared.pattern.Pattern.{Pattern}
use Rattle.machine_model.specs.Kinds.{is_source, relationships_of, is_among}

abbrev pub within : (least n most : ℕ) → Bool
within least n most = nat_le least n && nat_le n most

-- letters, digits, underscores, dots and dashes, at least one
abbrev pub is_id_byte : ℕ → Bool
is_id_byte c =
    (nat_le 65 c && nat_le c 90) || (nat_le 97 c && nat_le c 122) || (nat_le 48 c && nat_le c 57)
    || (c == 95) || (c == 46) || (c == 45)

abbrev pub is_id : List ℕ → Bool
is_id id = within 1 (length id) ID_MAX && list_all is_id_byte id

-- each text stands once
abbrev pub are_distinct_texts : List (List ℕ) → Bool
are_distinct_texts [] = true
are_distinct_texts (name ∷ names) = not (is_among name names) && are_distinct_texts names

-- names that aren't empty, ascending by their bytes
abbrev pub are_ascending : List (List ℕ) → Bool
are_ascending [] = true
are_ascending (name ∷ []) = true
are_ascending (name ∷ next ∷ names) = is_lt (slice_cmp nat_cmp name next) && are_ascending (next ∷ names)

abbrev pub are_own_names : List (List ℕ) → Bool
are_own_names names =
    nat_le (length names) OWN_PROPERTIES_MAX && list_all (λ name. within 1 (length name) OWN_NAME_MAX) names
    && are_ascending names

-- own relationships aren't named as the one that is there anyway
abbrev pub are_own_relationships : List (List ℕ) → Bool
are_own_relationships names = are_own_names names && not (is_among (codes "unmatched") names)

abbrev pub are_entries_sound : MergeStrategy → (minimum maximum : ℕ) → Bool
are_entries_sound BinPacking minimum maximum = nat_le minimum maximum
are_entries_sound Defragment minimum maximum = true

abbrev pub is_replacement_sound : Replacement → Bool
is_replacement_sound (replace.Regex search template) = true
is_replacement_sound (replace.Literal search value) = nat_lt 0 (length search)

-- a name of a list that stood between commas: something, with no comma in it and no blank at its ends
abbrev pub begins_blank : List ℕ → Bool
begins_blank [] = true
begins_blank (c ∷ cs) = c == 32

abbrev pub ends_blank : List ℕ → Bool
ends_blank [] = true
ends_blank (c ∷ []) = c == 32
ends_blank (c ∷ d ∷ cs) = ends_blank (d ∷ cs)

abbrev pub is_listed_name : List ℕ → Bool
is_listed_name name = not (begins_blank name) && not (ends_blank name) && list_all (λ c. not (c == 44)) name

-- each property lies within its range
abbrev pub are_within_ranges : Kind → Bool
are_within_ranges (GetFile filter) = true
are_within_ranges (GenerateFlowFile count text) = nat_le count GENERATED_MAX
are_within_ranges (PutFile conflict) = true
are_within_ranges (UpdateAttribute own) = are_own_names (map (λ property. property.name) own)
are_within_ranges (RouteOnAttribute own) = are_own_relationships (map (λ property. property.name) own)
are_within_ranges (AttributesToJson destination names) = list_all is_listed_name names
are_within_ranges (DuplicateFlowFile copies) = within 1 copies COPIES_MAX
are_within_ranges CryptographicHashContent = true
are_within_ranges (SplitText lines) = within 1 lines LINES_MAX
are_within_ranges (ReplaceText replacement) = is_replacement_sound replacement
are_within_ranges (ExtractText own) = are_own_names (map (λ property. property.name) own)
are_within_ranges (RouteOnContent requirement own) = are_own_relationships (map (λ property. property.name) own)
are_within_ranges (MergeContent strategy minimum maximum) =
    within 1 minimum TAKEN_MAX && within 1 maximum TAKEN_MAX && are_entries_sound strategy minimum maximum
are_within_ranges (SegmentContent size) = within 1 size CONTENT_MAX
are_within_ranges (ModifyBytes start end) = nat_le start CONTENT_MAX && nat_le end CONTENT_MAX

-- the expression was read from a text of the language
abbrev pub HasText : Expr → Type 0
HasText expression = (text : List ℕ) × IsText text (tree_of expression)

-- the pattern was read from a text that lets another one match whole texts alone
abbrev pub to_match_whole : List ℕ → List ℕ
to_match_whole pattern = codes "\\A(?:" ++ (pattern ++ codes ")\\z")

abbrev pub MatchesWhole : Pattern → Type 0
MatchesWhole pattern = (within : List ℕ) × (pattern.text ≡ to_match_whole within)

-- each expression was read from a text, and each pattern that has to match a whole text says so
abbrev pub AreTextsRead : Kind → Type 0
AreTextsRead (GetFile filter) = IfSome filter MatchesWhole
AreTextsRead (GenerateFlowFile count text) = HasText text
AreTextsRead (UpdateAttribute own) = All (λ property. HasText property.expression) own
AreTextsRead (RouteOnAttribute own) = All (λ property. HasText property.expression) own
AreTextsRead (RouteOnContent Exactly own) = All (λ property. MatchesWhole property.pattern) own
AreTextsRead _ = Unit {0}

pub record IsSoundKind (kind : Kind) : Type 0 where
  pub ranges : IsTrue (are_within_ranges kind)
  pub texts : AreTextsRead kind

abbrev pub is_sound_processor : Processor → Bool
is_sound_processor processor =
    is_id processor.id && within 1 processor.tasks TASKS_MAX && nat_le processor.penalty PENALTY_MAX
    && are_distinct_texts processor.terminated
    && list_all (λ name. is_among name (relationships_of processor.kind)) processor.terminated

abbrev pub are_sound_limits : QueueLimits → Bool
are_sound_limits limits =
    nat_le limits.expiration QUEUE_LIMIT_MAX && nat_le limits.objects QUEUE_LIMIT_MAX
    && nat_le limits.bytes QUEUE_LIMIT_MAX && within SWAP_MIN limits.swap SWAP_MAX

-- its ends are processors, no source stands at its end, and its names are relationships of its source
abbrev pub has_relationships : Connection → Option Processor → Bool
has_relationships connection None = false
has_relationships connection (Some source) =
    list_all (λ name. is_among name (relationships_of source.kind)) connection.relationships

abbrev pub may_be_target : Option Processor → Bool
may_be_target None = false
may_be_target (Some target) = not (is_source target.kind)

abbrev pub is_sound_connection : Flow → Connection → Bool
is_sound_connection flow connection =
    is_id connection.id && are_sound_limits connection.limits
    && nat_lt 0 (length connection.relationships) && are_distinct_texts connection.relationships
    && has_relationships connection (slice_get flow.processors connection.source)
    && may_be_target (slice_get flow.processors connection.target)

-- how many connections a relationship of a processor leads to
abbrev pub carries : ℕ → List ℕ → Connection → Bool
carries processor name connection = (connection.source == processor) && is_among name connection.relationships

abbrev pub connection_count : Flow → ℕ → List ℕ → ℕ
connection_count flow processor name = count_by (carries processor name) flow.connections

-- a relationship is terminated, or leads to a connection or more
abbrev pub is_sound_relationship : Flow → ℕ → Processor → List ℕ → Bool
is_sound_relationship flow place processor name =
    if is_among name processor.terminated then connection_count flow place name == 0
    else within 1 (connection_count flow place name) FAN_OUT_MAX

abbrev pub are_sound_relationships : Flow → ℕ × Processor → Bool
are_sound_relationships flow (place, processor) =
    list_all (is_sound_relationship flow place processor) (relationships_of processor.kind)

-- each prioritizer stands once
abbrev pub EachOnce : List Prioritizer → Type 0
EachOnce list = AllPairs (λ one other. one ≢ other) list

pub record IsSound (flow : Flow) : Type 0 where
  pub processor_count : length flow.processors ≤ PROCESSORS_MAX
  pub connection_count : length flow.connections ≤ CONNECTIONS_MAX
  pub processor_ids : IsTrue (are_distinct_texts (map (λ processor. processor.id) flow.processors))
  pub connection_ids : IsTrue (are_distinct_texts (map (λ connection. connection.id) flow.connections))
  pub processors : IsTrue (list_all is_sound_processor flow.processors)
  pub kinds : All (λ processor. IsSoundKind processor.kind) flow.processors
  pub connections : IsTrue (list_all (is_sound_connection flow) flow.connections)
  pub relationships : IsTrue (list_all (are_sound_relationships flow) (enumerate_from 0 flow.processors))
  pub prioritizers : All (λ connection. EachOnce connection.order) flow.connections
