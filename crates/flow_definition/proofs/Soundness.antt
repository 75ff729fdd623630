-- An accepted flow is sound.
use Rattle.std.proofs.Common.{◌≡◌, true, ℕ, ◌≤◌, List, [], length, map, All, Option, Some, None, Result, Ok, Err, IfOk, MatchOption, refl, sym, ap, ◌∙◌, subst}
use Rattle.std.specs.List.{list_all}
use Rattle.std.proofs.lemmas.Bool.{ltb-false}
use Rattle.std.proofs.lemmas.List.{length-map}
use Rattle.serde_json.specs.Data.{Data}
use Rattle.machine_model.specs.Sound.{IsSound, EachOnce, are_distinct_texts, is_sound_connection}
use Rattle.machine_model.specs.declared.flow.Connection.{Connection}
use Rattle.machine_model.specs.declared.flow.Flow.{Flow}
use Rattle.machine_model.specs.declared.limits.TheConstants.{PROCESSORS_MAX, CONNECTIONS_MAX}
use Rattle.flow_definition.specs.declared.error.FlowError.{FlowError}
use Rattle.flow_definition.specs.declared.field.Field.TheVariants.{Processors, Connections}
use Rattle.flow_definition.specs.declared.field.Level.TheVariants as level
use Rattle.flow_definition.specs.declared.rule.Rule.{Rule}
use Rattle.flow_definition.specs.declared.rule.Rule.TheVariants.{UnknownType, BadPattern, BadExpression}
use Rattle.flow_definition.specs.Looks.{value_at, list_items_at}
use Rattle.flow_definition.specs.Reading.{IsFlowOf, connection_of}
use Rattle.flow_definition.specs.Fields.{fields_of}
use Rattle.flow_definition.specs.Rules.{Path, in_field, is_misshapen}
use Rattle.flow_definition.specs.Verdict.{object_in, IsAnswerOf, IsAnswerBehind, IsSettled, Accepts, Refuses, first_behind, refused}
use Rattle.flow_definition.specs.Walk.{first_broken, first_rules, last_rules}
use Rattle.flow_definition.proofs.Ends.{processors_length}
use Rattle.flow_definition.proofs.Given.{objects_given}
use Rattle.flow_definition.proofs.Linked.{sound_relationships}
use Rattle.flow_definition.proofs.Names.{ids_distinct}
use Rattle.flow_definition.proofs.Ordered.{is_ordered, ordered_in, AreAscending, processors_ascending}
use Rattle.flow_definition.proofs.Parts.{sound_kinds, named_processors, sound_processors, ids_of, named_connections, connection_ids, sound_connections, orders_once}
use Rattle.flow_definition.proofs.Passed.{none_or, none_map, unfound, IsUnbroken, unbroken, ArePassedProcessors, passed_processors, ArePassedConnections, passed_connections, IsFew, passed_few}

-- ---- the parts of a text that breaks no rule

record IsWhole (top : Data) : Type 0 where
  few : IsFew top
  processors : ArePassedProcessors top [] (list_items_at Processors top)
  connections : ArePassedConnections top [] (list_items_at Connections top)
  ascending : AreAscending (list_items_at Processors top)

whole : (top : Data) → is_ordered top ≡ true → IsUnbroken top → IsWhole top
whole top ordered right =
    let shaped = unfound (is_misshapen top) (fields_of level.Top) (none_map in_field _ right.shaped.whole) in
    let few = passed_few top right.few in
    record {
      few = few;
      processors = passed_processors top [] (list_items_at Processors top) (objects_given (value_at Processors top) shaped.0)
          right.given.processors right.once.processors right.connected.processors right.shaped.processors right.few.processors
          right.numbers.processors few.crowded;
      connections = passed_connections top [] (list_items_at Connections top) (objects_given (value_at Connections top) shaped.1.0)
          right.given.connections right.once.connections right.ends.connections right.connected.connections
          right.shaped.connections;
      ascending = processors_ascending top ordered;
    }

sound : (bytes : List ℕ) (top : Data) (flow : Flow) → IsWhole top → IsFlowOf bytes top flow → IsSound flow
sound bytes top flow right read =
    let few : length (list_items_at Processors top) ≤ PROCESSORS_MAX = ltb-false PROCESSORS_MAX _ right.few.processors in
    record {
      processor_count = subst (λ n. n ≤ PROCESSORS_MAX) (sym (processors_length (list_items_at Processors top) flow.processors read.processors)) few;
      connection_count = subst (λ n. n ≤ CONNECTIONS_MAX)
          (sym (ap length read.connections ∙ length-map (list_items_at Connections top) (connection_of top)))
          (ltb-false CONNECTIONS_MAX _ right.few.connections);
      processor_ids = ap are_distinct_texts (ids_of (list_items_at Processors top) flow.processors read.processors)
          ∙ ids_distinct [] (list_items_at Processors top) (named_processors top [] (list_items_at Processors top) right.processors);
      connection_ids = ap (λ (cs : List Connection). are_distinct_texts (map (λ connection. connection.id) cs)) read.connections
          ∙ ap are_distinct_texts (connection_ids top (list_items_at Connections top))
          ∙ ids_distinct [] (list_items_at Connections top) (named_connections top [] (list_items_at Connections top) right.connections);
      processors = sound_processors top [] (list_items_at Processors top) flow.processors right.processors read.processors;
      kinds = sound_kinds top [] (list_items_at Processors top) flow.processors right.processors right.ascending read.processors;
      connections = ap (list_all (is_sound_connection flow)) read.connections
          ∙ sound_connections top flow [] (list_items_at Connections top) few read.processors right.connections;
      relationships = sound_relationships top flow [] (list_items_at Processors top) flow.processors refl few read.connections right.connections
          right.processors read.processors;
      prioritizers = subst (All (λ connection. EachOnce connection.order)) (sym read.connections)
          (orders_once top [] (list_items_at Connections top) right.connections);
    }

-- ---- an answer that gives a flow

sound_settled : (R : Type 0) (bytes : List ℕ) (top : Data) (flow : Flow) → is_ordered top ≡ true → first_broken first_rules top ≡ None
    → IsSettled R bytes top (Ok flow) → IsSound flow
sound_settled R bytes top flow ordered first settled = either (first_behind top settled.0) refl settled.2
  where
    last : first_behind top settled.0 ≡ None → first_broken last_rules top ≡ None
    last e =
        let typed = none_or (refused UnknownType settled.0) _ e in
        let read = none_or (refused BadPattern settled.0) _ typed.1 in
        let expressed = none_or (refused BadExpression settled.0) _ read.1 in
        (none_or (first_broken last_rules top) _ expressed.1).0

    either : (o : Option (Rule × Path)) → first_behind top settled.0 ≡ o
        → MatchOption o (Accepts bytes top (Ok flow)) (λ broken. Refuses broken (Ok flow)) → IsSound flow
    either None e is = sound bytes top flow (whole top ordered (unbroken top first (last e))) is
    either (Some broken) e is = absurd is

sound_of : (R : Type 0) (bytes : List ℕ) (top : Data) (flow : Flow) → is_ordered top ≡ true → IsAnswerOf R bytes top (Ok flow) → IsSound flow
sound_of R bytes top flow ordered answer = either (first_broken first_rules top) refl answer
  where
    either : (o : Option (Rule × Path)) → first_broken first_rules top ≡ o
        → MatchOption o (IsAnswerBehind R bytes top (Ok flow)) (λ broken. Refuses broken (Ok flow)) → IsSound flow
    either None e is = sound_settled R bytes top flow ordered e is
    either (Some broken) e is = absurd is

pub answer_sound : (R : Type 0) (bytes : List ℕ) (top : Data) (answer : Result Flow FlowError) → object_in bytes ≡ Some top
    → IsAnswerOf R bytes top answer → IfOk answer IsSound
answer_sound R bytes top (Ok flow) read answers = sound_of R bytes top flow (ordered_in bytes top read) answers
answer_sound R bytes top (Err e) read answers = tt
