use Rattle.std.proofs.Common.{◌≡◌, ℕ, false, List, [], ◌∷◌, ◌++◌, MatchOption, string_bytes, ap, sym, ◌∙◌, subst}
use Rattle.std.specs.Map.Iter.{deref_pair}
use Rattle.std.proofs.lemmas.Map.Iter.{rest_more}
use Rattle.serde_json.specs.View.{view}
use Rattle.flow_definition.specs.declared.processor_type.Property.{Property}
use Rattle.flow_definition.specs.Looks.{is_fixed, text_or_empty}
use Rattle.flow_definition.specs.Made.{IsNoExpression}
use Rattle.flow_definition.specs.Reading.{IsOwnOf, AreOwnOf}
use Rattle.flow_definition.proofs.Others.{texts_left, texts_more, texts_one}
use Rattle.flow_definition.proofs.OwnProperties.{own_push, trees_read}
use Rattle.flow_definition.proofs.expressions.make_members.Goals as goal

pub members-preserved-in_ok-push-in-Some-2 : goal.members-preserved-in_ok-push-in-Some-2
members-preserved-in_ok-push-in-Some-2 c =
    let ps : List Property = c.args.properties.now in
    let name : List ℕ = string_bytes c.in-Some.name.now in
    let text : List ℕ = text_or_empty (view c.in-Some.value.now) in
    let front : List (List ℕ × List ℕ) = c.members.invariant.0 in
    let own = c.in-Some-2.own in
    let other : is_fixed ps name ≡ false =
    sym (c.is_fixed.ensures ∙ ap (is_fixed ps) c.as_str.ensures.value) ∙ c.if-not-is_fixed.true in
    let more = rest_more deref_pair c.members.name-iterator c.next.new.self c.next.result (c.in-Some.name, c.in-Some.value) c.in-Some.is c.next.ensures.steps in
    let read = subst (λ o. MatchOption o (IsNoExpression c.text_of.result.now) (IsOwnOf (c.as_str-then-not-is_fixed.result.now, c.text_of.result.now))) c.in-Some-2.is c.in_ok-own.ensures in
    let one : IsOwnOf (name, text) own =
    subst (λ t. IsOwnOf (name, t) own) c.text_of.ensures (subst (λ n. IsOwnOf (n, c.text_of.result.now) own) c.as_str-then-not-is_fixed.ensures.value read) in (
      front ++ (name, text) ∷ [],
      c.members.invariant.1 ∙ ap (λ es. front ++ texts_left ps es) more
          ∙ texts_more ps front (c.in-Some.name.now) (c.in-Some.value.now) c.next.new.self other,
      subst (AreOwnOf (front ++ (name, text) ∷ [])) (sym c.in_ok-push-in-Some-2.ensures.items)
          (own_push front c.members.list.items (name, text) own c.members.invariant.2 one),
    )

pub returns-in-None-2 : goal.returns-in-None-2
returns-in-None-2 c =
    let ps : List Property = c.args.properties.now in
    let name : List ℕ = string_bytes c.in-Some.name.now in
    let text : List ℕ = text_or_empty (view c.in-Some.value.now) in
    let front : List (List ℕ × List ℕ) = c.members.invariant.0 in
    let rest : List (List ℕ × List ℕ) = texts_left ps c.next.new.self in
    let other : is_fixed ps name ≡ false =
    sym (c.is_fixed.ensures ∙ ap (is_fixed ps) c.as_str.ensures.value) ∙ c.if-not-is_fixed.true in
    let more = rest_more deref_pair c.members.name-iterator c.next.new.self c.next.result (c.in-Some.name, c.in-Some.value) c.in-Some.is c.next.ensures.steps in
    let unread = subst (λ o. MatchOption o (IsNoExpression c.text_of.result.now) (IsOwnOf (c.as_str-then-not-is_fixed.result.now, c.text_of.result.now))) c.in-None-2.is c.in_ok-own.ensures in
    record {
      before = front;
      text = text;
      behind = rest;
      place = c.members.invariant.1 ∙ ap (λ es. front ++ texts_left ps es) more
          ∙ texts_one ps front c.in-Some.name.now c.in-Some.value.now c.next.new.self other
          ∙ ap (λ n. front ++ (n, text) ∷ rest) (sym (c.in_ok-from_str-in-None-2.ensures ∙ c.as_str-in-None-2.ensures.value));
      read = trees_read front c.members.list.items c.members.invariant.2;
      unread = subst IsNoExpression c.text_of.ensures unread;
    }
