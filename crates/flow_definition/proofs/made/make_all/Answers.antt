use Rattle.std.proofs.Common.{◌&&◌, not, [], ◌∷◌, ◌++◌, map, take, refl, sym, ap, ◌∙◌, subst, arith}
use Rattle.serde_json.specs.View.{view}
use Rattle.flow_definition.specs.Judged.{is_refusal, kept_if_made, processors_kept, processors_with, refused_processors, refused_with}
use Rattle.flow_definition.specs.Made.{AreMade, told_all, told_made}
use Rattle.flow_definition.specs.Patterns.{HasRisen, Told, told_by_builder}
use Rattle.flow_definition.proofs.Judged.{accepted_first, accepted_push, kept_first, kept_push, made_kept, made_place, refused_kept, refused_push}
use Rattle.flow_definition.proofs.Verdicts.{told_push, made_push, made_later, one_later, risen_before, risen_after}
use Rattle.flow_definition.proofs.Walks.{front_at}
use Rattle.flow_definition.proofs.made.make_all.Goals as goal

pub items-init : goal.items-init
items-init g c = record {
  judged = (
    record {
      made = [];
      each = tt;
      told = refl;
      refused = c.new-judged.ensures.refused;
      processors = c.new-judged.ensures.processors ∙ kept_first c.args.may_be_accepted;
    },
    c.new-judged.ensures.accepted ∙ accepted_first c.args.may_be_accepted,
  );
  count = omega arith;
}

pub items-preserved : goal.items-preserved
items-preserved g c =
    let first = g.P.Patterns.faults c.args.patterns.now in
    let middle = g.P.Patterns.faults c.items.patterns in
    let last = g.P.Patterns.faults c.judge.new.patterns in
    let items = c.args.items.now in
    let place = c.items.place in
    let front = map view (take place items) in
    let item = c.index-items-place.result in
    let is = c.in_ok-kept.ensures.judged in
    let made = is.made in
    let are = c.items.invariant.judged.0 in
    let accepted = c.args.may_be_accepted in
    let yet = c.items.judged.may_be_accepted in
    let before = made_later (HasRisen first middle) (HasRisen first last) front are.made
    (risen_before first middle last c.judge.ensures.count) are.each in
    let one = one_later (HasRisen middle last) (HasRisen first last) (view item) made
    (risen_after first middle last c.items.invariant.count) is.is_made in
    let earlier : Told = told_by_builder g.P.Patterns.faults g.P.Patterns.refused c.args.patterns.now in
    let is_more = sym (front_at view items place item c.items-test.true c.index-items-place.is) in
    record {
      judged = (
        record {
          made = are.made ++ made ∷ [];
          each = subst (λ ds. AreMade (HasRisen first last) ds (are.made ++ made ∷ [])) is_more
              (made_push (HasRisen first last) front are.made (view item) made before one);
          told = is.told ∙ ap (λ n. told_made n (view item) made) are.told
              ∙ sym (told_push (HasRisen first last) earlier front are.made (view item) made before)
              ∙ ap (λ ds. told_all earlier ds (are.made ++ made ∷ [])) is_more;
          refused = c.in_ok-push.ensures.refused
              ∙ (λ i. refused_with (are.refused i) (is.is_kept i))
              ∙ refused_kept yet place (refused_processors 0 are.made) made
              ∙ sym (refused_push 0 place are.made made
              (made_place (HasRisen first middle) view items place are.made c.items-test.true are.each));
          processors = c.in_ok-push.ensures.processors
              ∙ (λ i. processors_with (are.processors i) (is.is_kept i))
              ∙ (λ i. processors_with (processors_kept accepted are.made) (kept_if_made (c.items.invariant.judged.1 i) place made))
              ∙ kept_push accepted place are.made made;
        },
        c.in_ok-push.ensures.accepted
            ∙ (λ i. yet && not (is_refusal (is.is_kept i)))
            ∙ (λ i. c.items.invariant.judged.1 i && made_kept yet place made i)
            ∙ accepted_push accepted are.made made,
      );
      count = omega (arith, c.items.invariant.count, c.judge.ensures.count);
    }
