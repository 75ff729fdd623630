use Rattle.std.proofs.Common.{◌≡◌, ◌++◌, ◌∙◌, Result, Err, sym, subst, string_bytes, rules}
use Rattle.expr_lang.specs.declared.val.Val.{Val}
use Rattle.expr_lang.specs.Gives.{Gives}
use Rattle.expr_lang.specs.JoinedText.{Holds}
use Rattle.expr_lang.specs.Meaning.{tree_value}
use Rattle.expr_lang.specs.Seen.{seen}
use Rattle.expr_lang.specs.Tree.{joined}
use Rattle.expr_lang.specs.Value.{as_text}
use Rattle.expr_lang.specs.View.{piece_parts}
use Rattle.std.specs.List.{flat_map}
use Rattle.expr_lang.proofs.Steps.{gives_later, piece_decides, joined_more, plain_piece, computed_piece}
use Rattle.expr_lang.proofs.evaluator.joined_value.Goals as goal
use Rattle.expr_lang.proofs.evaluator.joined_value.Goals.{in-Plain+in_ok-push-in-Plain, in-Computed+in_ok-embedded_value-in-Computed+in_ok-text-in-Computed+in_ok-push-in-Computed}

pub returns-in_err-embedded_value-in-Computed : goal.returns-in_err-embedded_value-in-Computed
returns-in_err-embedded_value-in-Computed g c =
    let error = c.in_err-embedded_value-in-Computed.field-0.0 in
    let find = g.S.Subject.attributes c.args.subject.now in
    let given : c.from_residual-in_err-embedded_value-in-Computed.result ≡ Err error = search rules in
    let front = c.loop-piece.invariant in
    let decides = piece_decides find c.args.pieces.now c.loop-piece.piece-index c.piece-item.result c.in-Computed.embedded front.0 error c.loop-piece-test.true c.piece-item.is c.in-Computed.is front.1 in
    let wanted = tree_value find (joined (flat_map piece_parts c.args.pieces.now)) in
    let later = gives_later error _ wanted c.in_err-embedded_value-in-Computed.ensures decides in
    subst (λ (r : Result Val _). Gives seen r wanted) (sym given) later

pub loop-piece-preserved : goal.loop-piece-preserved
loop-piece-preserved g c =
    let find = g.S.Subject.attributes c.args.subject.now in
    let pieces = c.args.pieces.now in
    let i = c.loop-piece.piece-index in
    let piece = c.piece-item.result in
    let front = c.loop-piece.invariant in
    elim c.match-piece.branch [
      | in-Plain+in_ok-push-in-Plain w ↦
          (let worth = plain_piece find piece w.in-Plain.text w.in-Plain.is in
          let made = joined_more find pieces i piece front.0 (string_bytes w.in-Plain.text) c.loop-piece-test.true c.piece-item.is front.1 worth in
          let held = subst (λ s. Holds w.push.new.self (front.0 ++ s)) w.as_str.ensures.value (w.in_ok-push-in-Plain.ensures front.0 front.2) in
          (front.0 ++ string_bytes w.in-Plain.text, made, subst (λ j. Holds j (front.0 ++ string_bytes w.in-Plain.text)) (sym w.joined-is) held))
      | in-Computed+in_ok-embedded_value-in-Computed+in_ok-text-in-Computed+in_ok-push-in-Computed w ↦
          (let v = seen w.in_ok-embedded_value-in-Computed.field-0 in
          let worth = computed_piece find piece w.in-Computed.embedded v w.in-Computed.is w.in_ok-embedded_value-in-Computed.ensures in
          let made = joined_more find pieces i piece front.0 (as_text v) c.loop-piece-test.true c.piece-item.is front.1 worth in
          let same = w.as_str-in-Computed.ensures.value ∙ w.in_ok-text-in-Computed.ensures in
          let held = subst (λ s. Holds w.push-in-Computed.new.self (front.0 ++ s)) same (w.in_ok-push-in-Computed.ensures front.0 front.2) in
          (front.0 ++ as_text v, made, subst (λ j. Holds j (front.0 ++ as_text v)) (sym w.joined-is) held))
    ]
