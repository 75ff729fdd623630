-- A text that breaks a rule gives no flow.
use Rattle.std.proofs.Common.{◌≡◌, ◌≢◌, ◌⊎◌, inl, inr, ⊎_elim, ℕ, suc, ◌+◌, Bool, true, false, List, [], ◌∷◌, ◌++◌, take, drop, refl, sym, ◌∙◌, ap, subst, arith, Contains}
use Rattle.std.proofs.Math.Logic.{∥∥₁_elim}
use Rattle.std.proofs.lemmas.Bool.{true≢false}
use Rattle.std.specs.List.{list_all}
use Rattle.std.specs.Option.{option_map_or, option_or}
use Rattle.std.specs.Prelude.{Option, None, Some, Ok, Err, IfSome, IsSomeAnd, IsTrue, MatchBool, MatchOption, chars, option_map}
use Rattle.expr_lang.specs.View.{tree_of}
use Rattle.regex_hir.specs.declared.hir.Hir.{Hir}
use Rattle.regex_syntax.specs.Grammar.{Names, read}
use Rattle.regex_syntax.specs.Verdict.{Reads, Refuses as IsRefusedBy, default_config}
use Rattle.regex_syntax.specs.declared.Config.{Config}
use Rattle.regex_syntax.specs.declared.error.ErrorKind.{ErrorKind}
use Rattle.regex_syntax.specs.declared.error.ErrorKind.TheVariants.{OutOfMemory}
use Rattle.serde_json.specs.Data.{Data}
use Rattle.machine_model.specs.Sound.{to_match_whole}
use Rattle.machine_model.specs.declared.flow.Flow.{Flow}
use Rattle.machine_model.specs.declared.flow.Processor.{Processor}
use Rattle.machine_model.specs.declared.kind.Kind.{Kind}
use Rattle.machine_model.specs.declared.kind.Kind.TheVariants as kind
use Rattle.machine_model.specs.declared.kind.OwnExpression.{OwnExpression}
use Rattle.machine_model.specs.declared.kind.OwnPattern.{OwnPattern}
use Rattle.machine_model.specs.declared.kind.Replacement.{Replacement}
use Rattle.machine_model.specs.declared.kind.Replacement.TheVariants as replacement
use Rattle.machine_model.specs.declared.pattern.Pattern.{Pattern}
use Rattle.machine_model.proofs.Among.{Among, among_contained}
use Rattle.flow_definition.specs.declared.error.FlowError.TheVariants as error
use Rattle.flow_definition.specs.declared.field.Field.TheVariants.{Processors}
use Rattle.flow_definition.specs.declared.limits.TheConstants.{TEXT_MAX}
use Rattle.flow_definition.specs.declared.made.Made.{Made}
use Rattle.flow_definition.specs.declared.made.Made.TheVariants as made
use Rattle.flow_definition.specs.declared.made.Refusal.{Refusal}
use Rattle.flow_definition.specs.declared.made.Refusal.TheVariants.{NoType, Unread, TooBig, NoExpression, NoOwnExpression, NoOwnPatterns}
use Rattle.flow_definition.specs.declared.own_patterns.Attempt.{Attempt}
use Rattle.flow_definition.specs.declared.own_patterns.Attempt.TheVariants as attempt
use Rattle.flow_definition.specs.declared.own_patterns.Attempt.TheVariants.{Read}
use Rattle.flow_definition.specs.declared.processor_type.Own.{Own}
use Rattle.flow_definition.specs.declared.processor_type.Own.TheVariants as own
use Rattle.flow_definition.specs.declared.processor_type.ProcessorType.{ProcessorType}
use Rattle.flow_definition.specs.declared.processor_type.ProcessorType.TheVariants as type
use Rattle.flow_definition.specs.declared.processor_type.Property.{Property}
use Rattle.flow_definition.specs.declared.processor_type.Property.TheVariants.{FileFilter, Count, CustomText, ConflictResolution, AttributesList, JsonDestination, Copies, LineSplitCount, ReplacementStrategy, ReplacementValue, SearchValue, Requirement, MergeStrategy, MinimumEntries, MaximumEntries, SegmentSize, StartOffset, EndOffset}
use Rattle.flow_definition.specs.declared.processor_type.ReplaceStrategy.{ReplaceStrategy}
use Rattle.flow_definition.specs.declared.processor_type.ReplaceStrategy.TheVariants.{Regex}
use Rattle.flow_definition.specs.declared.rule.Rule.{Rule}
use Rattle.flow_definition.specs.declared.rule.Rule.TheVariants.{UnknownType, BadPattern, BadExpression, TooMany, PatternTooBig}
use Rattle.flow_definition.specs.Building.{IsPattern, pattern_text}
use Rattle.flow_definition.specs.Looks.{hold_expressions, hold_patterns, list_items_at, own_in, own_texts_in, properties_in, property_text, type_of}
use Rattle.flow_definition.specs.Made.{AreMade, IsExpressionProperty, IsFirstUnread, IsNoExpression, IsCauseOfRefusal, first_refused}
use Rattle.flow_definition.specs.OwnPatterns.{AreAttempts, AreRefused, is_read}
use Rattle.flow_definition.specs.Patterns.{IsUnread}
use Rattle.flow_definition.specs.Reading.{AreOwnOf, AreProcessorsOf, IsKindOf, IsProcessorOf, IsReplacementOf, is_whole_in, own_patterns, patterns_in, patterns_of, replace_strategy_in}
use Rattle.flow_definition.specs.Rules.{Path}
use Rattle.flow_definition.specs.Types.{own_of_type, properties_of}
use Rattle.flow_definition.specs.Verdict.{Accepts, IsAnswer, IsAnswerBehind, IsAnswerOf, IsAnswerTo, IsSettled, Refuses, first_behind, object_in, refused}
use Rattle.flow_definition.specs.Walk.{first_broken, last_rules}
use Rattle.flow_definition.proofs.Passed.{none_or}
use Rattle.run_top.specs.Text.{BreaksRule}
use Rattle.run_top.proofs.Texts.{IsAccepted, accepted, is_whole}

-- ---- a pattern that was read isn't unread

either : {A : Type 0} {P Q : A → Type 0} {S : Type 0} (o : Option A) → IsSomeAnd o P → (o ≡ None) ⊎ (S × IfSome o Q) → ((x : A) → P x → Q x → ⊥) → ⊥
either None some out both = absurd some
either (Some x) some (inl none) both = absurd (cc)
either (Some x) some (inr deep) both = both x some deep.1

reads_once : (text : List ℕ) (hir : Hir) (names : Names) (kind : ErrorKind) → kind ≢ OutOfMemory → Reads default_config text hir names → IsRefusedBy default_config text kind → ⊥
unfolding Reads IsRefusedBy
reads_once text hir names kind other reads refuses = ⊎_elim
    (λ memory. other memory)
    (λ out. either (read default_config (chars text)) reads out (λ x low high. let most = low.0 in omega (arith, most, high)))
    refuses

unread_of : (config : Config) (source text : List ℕ) (hir : Hir) (names : Names) → config ≡ default_config → source ≡ text → Reads config source hir names → IsUnread text → ⊥
unread_of config source text hir names usual same reads unread =
    reads_once text hir names unread.0 unread.1
    (subst (λ (t : List ℕ). Reads default_config t hir names) same (subst (λ (c : Config). Reads c source hir names) usual reads)) unread.2

was_read : (pattern : Pattern) → IsUnread pattern.text → ⊥
was_read pattern unread = ∥∥₁_elim pattern.read (λ a b. absurd a) (λ reads. unread_of _ _ pattern.text _ _ pattern.options pattern.source reads unread)

-- ---- a processor that was made isn't refused

typed : (d : Data) (k : Kind) → IsKindOf d k → (t : ProcessorType) × (type_of d ≡ Some t)
typed d (kind.GetFile filter) is = (type.GetFile, is.0)
typed d (kind.GenerateFlowFile count text) is = (type.GenerateFlowFile, is.0)
typed d (kind.PutFile conflict) is = (type.PutFile, is.0)
typed d (kind.UpdateAttribute properties) is = (type.UpdateAttribute, is.0)
typed d (kind.RouteOnAttribute properties) is = (type.RouteOnAttribute, is.0)
typed d (kind.AttributesToJson destination names) is = (type.AttributesToJson, is.0)
typed d (kind.DuplicateFlowFile copies) is = (type.DuplicateFlowFile, is.0)
typed d kind.CryptographicHashContent is = (type.CryptographicHashContent, is)
typed d (kind.SplitText lines) is = (type.SplitText, is.0)
typed d (kind.ReplaceText by) is = (type.ReplaceText, is.0)
typed d (kind.ExtractText list) is = (type.ExtractText, is.0)
typed d (kind.RouteOnContent requirement list) is = (type.RouteOnContent, is.0)
typed d (kind.MergeContent strategy minimum maximum) is = (type.MergeContent, is.0)
typed d (kind.SegmentContent size) is = (type.SegmentContent, is.0)
typed d (kind.ModifyBytes start end) is = (type.ModifyBytes, is.0)

-- the type has the property
has_property : (d : Data) (t : ProcessorType) (property : Property) → type_of d ≡ Some t → Contains (properties_in d) property → Among property (properties_of t)
has_property d t property is there =
    among_contained property (properties_of t) (subst (λ (o : Option ProcessorType). Contains (option_map_or properties_of o []) property) is there)

filter_read : (d : Data) (k : Kind) → IsKindOf d k → Contains (properties_in d) FileFilter → IsUnread (to_match_whole (property_text FileFilter d)) → ⊥
filter_read d (kind.GetFile None) is there unread = absurd is.1
filter_read d (kind.GetFile (Some pattern)) is there unread = was_read pattern (subst (λ (text : List ℕ). IsUnread text) (sym is.1) unread)
filter_read d (kind.GenerateFlowFile count text) is there unread =
    ⊎_elim (λ same. absurd (cc)) (λ more. ⊎_elim (λ same. absurd (cc)) (λ never. never) more) (has_property d type.GenerateFlowFile FileFilter is.0 there)
filter_read d (kind.PutFile conflict) is there unread =
    ⊎_elim (λ same. absurd (cc)) (λ never. never) (has_property d type.PutFile FileFilter is.0 there)
filter_read d (kind.UpdateAttribute properties) is there unread = has_property d type.UpdateAttribute FileFilter is.0 there
filter_read d (kind.RouteOnAttribute properties) is there unread = has_property d type.RouteOnAttribute FileFilter is.0 there
filter_read d (kind.AttributesToJson destination names) is there unread =
    ⊎_elim (λ same. absurd (cc)) (λ more. ⊎_elim (λ same. absurd (cc)) (λ never. never) more) (has_property d type.AttributesToJson FileFilter is.0 there)
filter_read d (kind.DuplicateFlowFile copies) is there unread =
    ⊎_elim (λ same. absurd (cc)) (λ never. never) (has_property d type.DuplicateFlowFile FileFilter is.0 there)
filter_read d kind.CryptographicHashContent is there unread = has_property d type.CryptographicHashContent FileFilter is there
filter_read d (kind.SplitText lines) is there unread =
    ⊎_elim (λ same. absurd (cc)) (λ never. never) (has_property d type.SplitText FileFilter is.0 there)
filter_read d (kind.ReplaceText by) is there unread =
    ⊎_elim (λ same. absurd (cc)) (λ more. ⊎_elim (λ same. absurd (cc)) (λ more. ⊎_elim (λ same. absurd (cc)) (λ never. never) more) more) (has_property d type.ReplaceText FileFilter is.0 there)
filter_read d (kind.ExtractText list) is there unread = has_property d type.ExtractText FileFilter is.0 there
filter_read d (kind.RouteOnContent requirement list) is there unread =
    ⊎_elim (λ same. absurd (cc)) (λ never. never) (has_property d type.RouteOnContent FileFilter is.0 there)
filter_read d (kind.MergeContent strategy minimum maximum) is there unread =
    ⊎_elim (λ same. absurd (cc)) (λ more. ⊎_elim (λ same. absurd (cc)) (λ more. ⊎_elim (λ same. absurd (cc)) (λ never. never) more) more) (has_property d type.MergeContent FileFilter is.0 there)
filter_read d (kind.SegmentContent size) is there unread =
    ⊎_elim (λ same. absurd (cc)) (λ never. never) (has_property d type.SegmentContent FileFilter is.0 there)
filter_read d (kind.ModifyBytes start end) is there unread =
    ⊎_elim (λ same. absurd (cc)) (λ more. ⊎_elim (λ same. absurd (cc)) (λ never. never) more) (has_property d type.ModifyBytes FileFilter is.0 there)

replaced_read : (search value : List ℕ) (by : Replacement) → IsReplacementOf Regex search value by → IsUnread search → ⊥
replaced_read search value (replacement.Regex pattern template) is unread = was_read pattern (subst (λ (text : List ℕ). IsUnread text) (sym is.0) unread)
replaced_read search value (replacement.Literal text other) is unread = absurd is

search_read : (d : Data) (k : Kind) → IsKindOf d k → Contains (properties_in d) SearchValue → replace_strategy_in d ≡ Regex → IsUnread (property_text SearchValue d) → ⊥
search_read d (kind.GetFile filter) is there regex unread =
    ⊎_elim (λ same. absurd (cc)) (λ never. never) (has_property d type.GetFile SearchValue is.0 there)
search_read d (kind.GenerateFlowFile count text) is there regex unread =
    ⊎_elim (λ same. absurd (cc)) (λ more. ⊎_elim (λ same. absurd (cc)) (λ never. never) more) (has_property d type.GenerateFlowFile SearchValue is.0 there)
search_read d (kind.PutFile conflict) is there regex unread =
    ⊎_elim (λ same. absurd (cc)) (λ never. never) (has_property d type.PutFile SearchValue is.0 there)
search_read d (kind.UpdateAttribute properties) is there regex unread = has_property d type.UpdateAttribute SearchValue is.0 there
search_read d (kind.RouteOnAttribute properties) is there regex unread = has_property d type.RouteOnAttribute SearchValue is.0 there
search_read d (kind.AttributesToJson destination names) is there regex unread =
    ⊎_elim (λ same. absurd (cc)) (λ more. ⊎_elim (λ same. absurd (cc)) (λ never. never) more) (has_property d type.AttributesToJson SearchValue is.0 there)
search_read d (kind.DuplicateFlowFile copies) is there regex unread =
    ⊎_elim (λ same. absurd (cc)) (λ never. never) (has_property d type.DuplicateFlowFile SearchValue is.0 there)
search_read d kind.CryptographicHashContent is there regex unread = has_property d type.CryptographicHashContent SearchValue is there
search_read d (kind.SplitText lines) is there regex unread =
    ⊎_elim (λ same. absurd (cc)) (λ never. never) (has_property d type.SplitText SearchValue is.0 there)
search_read d (kind.ReplaceText by) is there regex unread =
    replaced_read (property_text SearchValue d) (property_text ReplacementValue d) by
    (subst (λ (s : ReplaceStrategy). IsReplacementOf s (property_text SearchValue d) (property_text ReplacementValue d) by) regex is.1) unread
search_read d (kind.ExtractText list) is there regex unread = has_property d type.ExtractText SearchValue is.0 there
search_read d (kind.RouteOnContent requirement list) is there regex unread =
    ⊎_elim (λ same. absurd (cc)) (λ never. never) (has_property d type.RouteOnContent SearchValue is.0 there)
search_read d (kind.MergeContent strategy minimum maximum) is there regex unread =
    ⊎_elim (λ same. absurd (cc)) (λ more. ⊎_elim (λ same. absurd (cc)) (λ more. ⊎_elim (λ same. absurd (cc)) (λ never. never) more) more) (has_property d type.MergeContent SearchValue is.0 there)
search_read d (kind.SegmentContent size) is there regex unread =
    ⊎_elim (λ same. absurd (cc)) (λ never. never) (has_property d type.SegmentContent SearchValue is.0 there)
search_read d (kind.ModifyBytes start end) is there regex unread =
    ⊎_elim (λ same. absurd (cc)) (λ more. ⊎_elim (λ same. absurd (cc)) (λ never. never) more) (has_property d type.ModifyBytes SearchValue is.0 there)

text_read : (d : Data) (k : Kind) → IsKindOf d k → Contains (properties_in d) CustomText → IsNoExpression (property_text CustomText d) → ⊥
text_read d (kind.GetFile filter) is there none = ⊎_elim (λ same. absurd (cc)) (λ never. never) (has_property d type.GetFile CustomText is.0 there)
text_read d (kind.GenerateFlowFile count text) is there none = none (tree_of text) is.2
text_read d (kind.PutFile conflict) is there none = ⊎_elim (λ same. absurd (cc)) (λ never. never) (has_property d type.PutFile CustomText is.0 there)
text_read d (kind.UpdateAttribute properties) is there none = has_property d type.UpdateAttribute CustomText is.0 there
text_read d (kind.RouteOnAttribute properties) is there none = has_property d type.RouteOnAttribute CustomText is.0 there
text_read d (kind.AttributesToJson destination names) is there none =
    ⊎_elim (λ same. absurd (cc)) (λ more. ⊎_elim (λ same. absurd (cc)) (λ never. never) more) (has_property d type.AttributesToJson CustomText is.0 there)
text_read d (kind.DuplicateFlowFile copies) is there none =
    ⊎_elim (λ same. absurd (cc)) (λ never. never) (has_property d type.DuplicateFlowFile CustomText is.0 there)
text_read d kind.CryptographicHashContent is there none = has_property d type.CryptographicHashContent CustomText is there
text_read d (kind.SplitText lines) is there none = ⊎_elim (λ same. absurd (cc)) (λ never. never) (has_property d type.SplitText CustomText is.0 there)
text_read d (kind.ReplaceText by) is there none =
    ⊎_elim (λ same. absurd (cc)) (λ more. ⊎_elim (λ same. absurd (cc)) (λ more. ⊎_elim (λ same. absurd (cc)) (λ never. never) more) more) (has_property d type.ReplaceText CustomText is.0 there)
text_read d (kind.ExtractText list) is there none = has_property d type.ExtractText CustomText is.0 there
text_read d (kind.RouteOnContent requirement list) is there none =
    ⊎_elim (λ same. absurd (cc)) (λ never. never) (has_property d type.RouteOnContent CustomText is.0 there)
text_read d (kind.MergeContent strategy minimum maximum) is there none =
    ⊎_elim (λ same. absurd (cc)) (λ more. ⊎_elim (λ same. absurd (cc)) (λ more. ⊎_elim (λ same. absurd (cc)) (λ never. never) more) more) (has_property d type.MergeContent CustomText is.0 there)
text_read d (kind.SegmentContent size) is there none =
    ⊎_elim (λ same. absurd (cc)) (λ never. never) (has_property d type.SegmentContent CustomText is.0 there)
text_read d (kind.ModifyBytes start end) is there none =
    ⊎_elim (λ same. absurd (cc)) (λ more. ⊎_elim (λ same. absurd (cc)) (λ never. never) more) (has_property d type.ModifyBytes CustomText is.0 there)

pattern_read : (d : Data) (k : Kind) (property : Property) → IsKindOf d k → IsPattern d property → IsUnread (pattern_text property d) → ⊥
pattern_read d k FileFilter is one unread = filter_read d k is one.0 unread
pattern_read d k Count is one unread = absurd one.1
pattern_read d k CustomText is one unread = absurd one.1
pattern_read d k ConflictResolution is one unread = absurd one.1
pattern_read d k AttributesList is one unread = absurd one.1
pattern_read d k JsonDestination is one unread = absurd one.1
pattern_read d k Copies is one unread = absurd one.1
pattern_read d k LineSplitCount is one unread = absurd one.1
pattern_read d k ReplacementStrategy is one unread = absurd one.1
pattern_read d k ReplacementValue is one unread = absurd one.1
pattern_read d k SearchValue is one unread = search_read d k is one.0 one.1 unread
pattern_read d k Requirement is one unread = absurd one.1
pattern_read d k MergeStrategy is one unread = absurd one.1
pattern_read d k MinimumEntries is one unread = absurd one.1
pattern_read d k MaximumEntries is one unread = absurd one.1
pattern_read d k SegmentSize is one unread = absurd one.1
pattern_read d k StartOffset is one unread = absurd one.1
pattern_read d k EndOffset is one unread = absurd one.1

expression_read : (d : Data) (k : Kind) (property : Property) → IsKindOf d k → IsExpressionProperty d property → IsNoExpression (property_text property d) → ⊥
expression_read d k FileFilter is one none = let form = one.1 in absurd (cc)
expression_read d k Count is one none = let form = one.1 in absurd (cc)
expression_read d k CustomText is one none = text_read d k is one.0 none
expression_read d k ConflictResolution is one none = let form = one.1 in absurd (cc)
expression_read d k AttributesList is one none = let form = one.1 in absurd (cc)
expression_read d k JsonDestination is one none = let form = one.1 in absurd (cc)
expression_read d k Copies is one none = let form = one.1 in absurd (cc)
expression_read d k LineSplitCount is one none = let form = one.1 in absurd (cc)
expression_read d k ReplacementStrategy is one none = let form = one.1 in absurd (cc)
expression_read d k ReplacementValue is one none = let form = one.1 in absurd (cc)
expression_read d k SearchValue is one none = let form = one.1 in absurd (cc)
expression_read d k Requirement is one none = let form = one.1 in absurd (cc)
expression_read d k MergeStrategy is one none = let form = one.1 in absurd (cc)
expression_read d k MinimumEntries is one none = let form = one.1 in absurd (cc)
expression_read d k MaximumEntries is one none = let form = one.1 in absurd (cc)
expression_read d k SegmentSize is one none = let form = one.1 in absurd (cc)
expression_read d k StartOffset is one none = let form = one.1 in absurd (cc)
expression_read d k EndOffset is one none = let form = one.1 in absurd (cc)

-- each own property's text was read
own_read : (before behind : List (List ℕ × List ℕ)) (name text : List ℕ) (list : List OwnExpression) → AreOwnOf (before ++ (name, text) ∷ behind) list → IsNoExpression text → ⊥
own_read [] behind name text [] all none = absurd all
own_read [] behind name text (property ∷ list) all none = none (tree_of property.expression) all.0.1
own_read (given ∷ before) behind name text [] all none = absurd all
own_read (given ∷ before) behind name text (property ∷ list) all none = own_read before behind name text list all.1 none

own_is_read : (texts : List (List ℕ × List ℕ)) (list : List OwnExpression) (name : List ℕ) → AreOwnOf texts list → IsFirstUnread texts name → ⊥
own_is_read texts list name all first =
    own_read first.before first.behind name first.text list (subst (λ (ts : List (List ℕ × List ℕ)). AreOwnOf ts list) first.place all) first.unread

-- own properties are of one sort
own_by : (d : Data) (t : ProcessorType) → type_of d ≡ Some t → own_in d ≡ own_of_type t
own_by d t is = ap (λ (o : Option ProcessorType). option_map_or own_of_type o own.Nothing) is

no_expressions : (d : Data) (t : ProcessorType) → type_of d ≡ Some t → hold_expressions (own_of_type t) ≡ false → hold_expressions (own_in d) ≡ true → ⊥
no_expressions d t is none held = true≢false (sym held ∙ ap (λ (o : Own). hold_expressions o) (own_by d t is) ∙ none)

no_patterns : (d : Data) (t : ProcessorType) → type_of d ≡ Some t → hold_patterns (own_of_type t) ≡ false → hold_patterns (own_in d) ≡ true → ⊥
no_patterns d t is none held = true≢false (sym held ∙ ap (λ (o : Own). hold_patterns o) (own_by d t is) ∙ none)

own_texts_read : (d : Data) (k : Kind) (name : List ℕ) → IsKindOf d k → hold_expressions (own_in d) ≡ true → IsFirstUnread (own_texts_in d) name → ⊥
own_texts_read d (kind.GetFile filter) name is held first = no_expressions d type.GetFile is.0 refl held
own_texts_read d (kind.GenerateFlowFile count text) name is held first = no_expressions d type.GenerateFlowFile is.0 refl held
own_texts_read d (kind.PutFile conflict) name is held first = no_expressions d type.PutFile is.0 refl held
own_texts_read d (kind.UpdateAttribute properties) name is held first = own_is_read (own_texts_in d) properties name is.1 first
own_texts_read d (kind.RouteOnAttribute properties) name is held first = own_is_read (own_texts_in d) properties name is.1 first
own_texts_read d (kind.AttributesToJson destination names) name is held first = no_expressions d type.AttributesToJson is.0 refl held
own_texts_read d (kind.DuplicateFlowFile copies) name is held first = no_expressions d type.DuplicateFlowFile is.0 refl held
own_texts_read d kind.CryptographicHashContent name is held first = no_expressions d type.CryptographicHashContent is refl held
own_texts_read d (kind.SplitText lines) name is held first = no_expressions d type.SplitText is.0 refl held
own_texts_read d (kind.ReplaceText by) name is held first = no_expressions d type.ReplaceText is.0 refl held
own_texts_read d (kind.ExtractText list) name is held first = no_expressions d type.ExtractText is.0 refl held
own_texts_read d (kind.RouteOnContent requirement list) name is held first = no_expressions d type.RouteOnContent is.0 refl held
own_texts_read d (kind.MergeContent strategy minimum maximum) name is held first = no_expressions d type.MergeContent is.0 refl held
own_texts_read d (kind.SegmentContent size) name is held first = no_expressions d type.SegmentContent is.0 refl held
own_texts_read d (kind.ModifyBytes start end) name is held first = no_expressions d type.ModifyBytes is.0 refl held

-- the text of the first pattern of some
first_text : List (List ℕ × List ℕ) → List ℕ
first_text [] = []
first_text ((name, text) ∷ more) = text

-- each own property's pattern was read
attempts_read : (whole : Bool) (texts : List (List ℕ × List ℕ)) (attempts : List Attempt) (list : List OwnPattern)
    → own_patterns list ≡ patterns_of whole texts → AreAttempts ⊥ whole texts attempts → list_all is_read attempts ≡ true
unfolding first_text
attempts_read whole [] [] list same all = refl
attempts_read whole [] (attempt ∷ rest) list same all = absurd all
attempts_read whole (given ∷ more) [] list same all = absurd all
attempts_read whole ((name, text) ∷ more) (attempt ∷ rest) [] same all = absurd (cc)
attempts_read whole ((name, text) ∷ more) (Read own ∷ rest) (property ∷ list) same all =
    attempts_read whole more rest list (ap (λ (ps : List (List ℕ × List ℕ)). drop 1 ps) same) all.1
attempts_read whole ((name, text) ∷ more) (attempt.Unread other ∷ rest) (property ∷ list) same all =
    absurd (was_read property.pattern (subst (λ (t : List ℕ). IsUnread t) (sym (ap first_text same)) all.0.1))
attempts_read whole ((name, text) ∷ more) (attempt.TooBig other ∷ rest) (property ∷ list) same all = absurd all.0.1

own_are_read : (d : Data) (list : List OwnPattern) (attempts : List Attempt) → own_patterns list ≡ patterns_in d
    → AreRefused ⊥ (is_whole_in d) (own_texts_in d) attempts → ⊥
own_are_read d list attempts same refused =
    true≢false (sym (attempts_read (is_whole_in d) (own_texts_in d) attempts list same refused.0) ∙ refused.1)

own_patterns_read : (d : Data) (k : Kind) (attempts : List Attempt) → IsKindOf d k → hold_patterns (own_in d) ≡ true
    → AreRefused ⊥ (is_whole_in d) (own_texts_in d) attempts → ⊥
own_patterns_read d (kind.GetFile filter) attempts is held refused = no_patterns d type.GetFile is.0 refl held
own_patterns_read d (kind.GenerateFlowFile count text) attempts is held refused = no_patterns d type.GenerateFlowFile is.0 refl held
own_patterns_read d (kind.PutFile conflict) attempts is held refused = no_patterns d type.PutFile is.0 refl held
own_patterns_read d (kind.UpdateAttribute properties) attempts is held refused = no_patterns d type.UpdateAttribute is.0 refl held
own_patterns_read d (kind.RouteOnAttribute properties) attempts is held refused = no_patterns d type.RouteOnAttribute is.0 refl held
own_patterns_read d (kind.AttributesToJson destination names) attempts is held refused = no_patterns d type.AttributesToJson is.0 refl held
own_patterns_read d (kind.DuplicateFlowFile copies) attempts is held refused = no_patterns d type.DuplicateFlowFile is.0 refl held
own_patterns_read d kind.CryptographicHashContent attempts is held refused = no_patterns d type.CryptographicHashContent is refl held
own_patterns_read d (kind.SplitText lines) attempts is held refused = no_patterns d type.SplitText is.0 refl held
own_patterns_read d (kind.ReplaceText by) attempts is held refused = no_patterns d type.ReplaceText is.0 refl held
own_patterns_read d (kind.ExtractText list) attempts is held refused = own_are_read d list attempts is.1 refused
own_patterns_read d (kind.RouteOnContent requirement list) attempts is held refused = own_are_read d list attempts is.2 refused
own_patterns_read d (kind.MergeContent strategy minimum maximum) attempts is held refused = no_patterns d type.MergeContent is.0 refl held
own_patterns_read d (kind.SegmentContent size) attempts is held refused = no_patterns d type.SegmentContent is.0 refl held
own_patterns_read d (kind.ModifyBytes start end) attempts is held refused = no_patterns d type.ModifyBytes is.0 refl held

no_refusal : (d : Data) (p : Processor) (r : Refusal) → IsProcessorOf d p → IsCauseOfRefusal ⊥ d r → ⊥
no_refusal d p NoType is why = let some = (typed d p.kind is.kind).1 in absurd (cc (why, some))
no_refusal d p (Unread property) is why = pattern_read d p.kind property is.kind why.0 why.1
no_refusal d p (TooBig property) is why = why.1
no_refusal d p (NoExpression property) is why = expression_read d p.kind property is.kind why.0 why.1
no_refusal d p (NoOwnExpression name) is why = own_texts_read d p.kind name is.kind why.0 why.1
no_refusal d p (NoOwnPatterns attempts) is why = own_patterns_read d p.kind attempts is.kind why.0 why.1

none_refused : (rule : Rule) (k : ℕ) (ds : List Data) (ps : List Processor) (ms : List Made) → AreProcessorsOf ds ps → AreMade ⊥ ds ms → first_refused rule k ms ≡ None
none_refused rule k [] [] [] each all = refl
none_refused rule k [] [] (m ∷ ms) each all = absurd all
none_refused rule k [] (p ∷ ps) ms each all = absurd each
none_refused rule k (d ∷ ds) [] ms each all = absurd each
none_refused rule k (d ∷ ds) (p ∷ ps) [] each all = absurd all
none_refused rule k (d ∷ ds) (p ∷ ps) (made.Processor q ∷ ms) each all = none_refused rule (suc k) ds ps ms each.1 all.1
none_refused rule k (d ∷ ds) (p ∷ ps) (made.Refused r ∷ ms) each all = absurd (no_refusal d p r each.0 all.0)

-- ---- so no rule is broken

module _ (R : Type 0) (bytes : List ℕ) (flow : Flow) (is : IsAccepted R bytes flow) where
  last : first_broken last_rules is.top ≡ None
  last =
      let types = none_or (refused UnknownType is.made) _ is.behind in
      let patterns = none_or (refused BadPattern is.made) _ types.1 in
      let expressions = none_or (refused BadExpression is.made) _ patterns.1 in
      (none_or (first_broken last_rules is.top) _ expressions.1).0

  none_of : (rule : Rule) (ms : List Made) → AreMade ⊥ (list_items_at Processors is.top) ms → refused rule ms ≡ None
  none_of rule ms all = ap (option_map (λ (path : Path). (rule, path))) (none_refused rule 0 (list_items_at Processors is.top) flow.processors ms is.is.processors all)

  none_behind : (ms : List Made) → AreMade ⊥ (list_items_at Processors is.top) ms → first_behind is.top ms ≡ None
  none_behind ms all =
      let a = none_of UnknownType ms all in
      let b = none_of BadPattern ms all in
      let c = none_of BadExpression ms all in
      let e = none_of PatternTooBig ms all in
      λ i. option_or (a i) (option_or (b i) (option_or (c i) (option_or (last i) (e i))))

  contradicts : (rule : Rule) (place : List ℕ) → IsAnswer ⊥ bytes (Err (error.Rule rule place)) → ⊥
  contradicts rule place answer =
      let to : IsAnswerTo ⊥ bytes (object_in bytes) (Err (error.Rule rule place)) =
      subst (λ (b : Bool). MatchBool b (Refuses (TooMany, []) (Err (error.Rule rule place))) (IsAnswerTo ⊥ bytes (object_in bytes) (Err (error.Rule rule place)))) is.small answer
      in
      let of : IsAnswerOf ⊥ bytes is.top (Err (error.Rule rule place)) = subst (λ (o : Option Data). IsAnswerTo ⊥ bytes o (Err (error.Rule rule place))) is.object to in
      let behind : IsSettled ⊥ bytes is.top (Err (error.Rule rule place)) =
      subst (λ (o : Option (Rule × Path)). MatchOption o (IsAnswerBehind ⊥ bytes is.top (Err (error.Rule rule place))) (λ broken. Refuses broken (Err (error.Rule rule place)))) is.first of
      in
      subst (λ (o : Option (Rule × Path)). MatchOption o (Accepts bytes is.top (Err (error.Rule rule place))) (λ broken. Refuses broken (Err (error.Rule rule place))))
      (none_behind behind.0 behind.1) behind.2

pub not_broken : (R : Type 0) (tells : Bool) (rest bytes : List ℕ) (flow : Flow) → (IsTrue tells → bytes ≡ take (TEXT_MAX + 1) rest) → IsAnswer R bytes (Ok flow) → IsTrue tells → BreaksRule rest → ⊥
not_broken R tells rest bytes flow front answer told broken =
    let accept = accepted R bytes flow answer in
    contradicts R bytes flow accept broken.rule broken.place
    (subst (λ (b : List ℕ). IsAnswer ⊥ b (Err (error.Rule broken.rule broken.place))) (sym (is_whole R tells rest bytes flow front accept told)) broken.answer)
