use Rattle.std.proofs.Common.{◌≡◌, ℕ, false, List, [], ◌∷◌, ◌++◌, string_bytes, ap, sym, ◌∙◌, subst, arith}
use Rattle.std.specs.Map.Iter.{deref_pair}
use Rattle.std.specs.Option.{option_or}
use Rattle.std.proofs.lemmas.Map.Iter.{rest_more}
use Rattle.serde_json.specs.View.{view}
use Rattle.flow_definition.specs.declared.processor_type.Property.{Property}
use Rattle.flow_definition.specs.Looks.{is_fixed, text_or_empty}
use Rattle.flow_definition.specs.OwnPatterns.{IsAttempt, told_attempt, too_big_in, unread_in}
use Rattle.flow_definition.specs.Patterns.{HasRisen, Told, told_by_builder}
use Rattle.flow_definition.proofs.Others.{texts_left, texts_more}
use Rattle.flow_definition.proofs.OwnPatterns.{attempt_push, attempts_told, attempts_later, attempt_later, too_big_push, unread_push}
use Rattle.flow_definition.proofs.Verdicts.{risen_before, risen_after}
use Rattle.flow_definition.proofs.own_patterns.try_all.Goals as goal

pub members-preserved-then-not-is_fixed : goal.members-preserved-then-not-is_fixed
members-preserved-then-not-is_fixed g c =
    let first = g.P.Patterns.faults c.args.patterns.now in
    let middle = g.P.Patterns.faults c.members.patterns in
    let last = g.P.Patterns.faults c.try_pattern.new.patterns in
    let whole = c.args.is_whole in
    let ps : List Property = c.args.properties.now in
    let name : List ℕ = string_bytes c.in-Some.name.now in
    let text : List ℕ = text_or_empty (view c.in-Some.value.now) in
    let front : List (List ℕ × List ℕ) = c.members.invariant.tried.0 in
    let are = c.members.invariant.tried.2 in
    let made = c.in_ok-attempt.attempt in
    let other : is_fixed ps name ≡ false =
    sym (c.is_fixed.ensures ∙ ap (is_fixed ps) c.as_str.ensures.value) ∙ c.if-not-is_fixed.true in
    let more = rest_more deref_pair c.members.name-iterator c.next.new.self c.next.result (c.in-Some.name, c.in-Some.value) c.in-Some.is c.next.ensures.steps in
    let before = attempts_later (HasRisen first middle) (HasRisen first last) whole front are.attempts
    (risen_before first middle last c.try_pattern.ensures.count) are.each in
    let read : IsAttempt (HasRisen middle last) whole (name, text) made =
    subst (λ t. IsAttempt (HasRisen middle last) whole (name, t) made) c.text_of.ensures
    (subst (λ n. IsAttempt (HasRisen middle last) whole (n, c.text_of.result.now) made) c.as_str-then-not-is_fixed.ensures.value c.in_ok-attempt.ensures.made) in
    let one = attempt_later (HasRisen middle last) (HasRisen first last) whole (name, text) made
    (risen_after first middle last c.members.invariant.count) read in
    let earlier : Told = told_by_builder g.P.Patterns.faults g.P.Patterns.refused c.args.patterns.now in
    let between : Told = told_by_builder g.P.Patterns.faults g.P.Patterns.refused c.members.patterns in
    let later : Told = told_by_builder g.P.Patterns.faults g.P.Patterns.refused c.try_pattern.new.patterns in
    let named : later ≡ told_attempt whole between (name, text) made =
    subst (λ t. later ≡ told_attempt whole between (name, t) made) c.text_of.ensures
    (subst (λ n. later ≡ told_attempt whole between (n, c.text_of.result.now) made) c.as_str-then-not-is_fixed.ensures.value c.in_ok-attempt.ensures.told) in
    record {
      tried = (
        front ++ (name, text) ∷ [],
        c.members.invariant.tried.1 ∙ ap (λ es. front ++ texts_left ps es) more
            ∙ texts_more ps front c.in-Some.name.now c.in-Some.value.now c.next.new.self other,
        record {
          attempts = are.attempts ++ made ∷ [];
          each = attempt_push (HasRisen first last) whole front are.attempts (name, text) made before one;
          told = named ∙ ap (λ n. told_attempt whole n (name, text) made) are.told
              ∙ sym (attempts_told (HasRisen first last) whole earlier front are.attempts (name, text) made before);
          unread = c.note.ensures.unread ∙ ap (λ u. option_or u (unread_in (made ∷ []))) are.unread
              ∙ sym (unread_push are.attempts made);
          too_big = c.note.ensures.too_big ∙ ap (λ u. option_or u (too_big_in (made ∷ []))) are.too_big
              ∙ sym (too_big_push are.attempts made);
        },
      );
      count = omega (arith, c.members.invariant.count, c.try_pattern.ensures.count);
    }
