use Rattle.std.proofs.lemmas.Result.{err_from_is_err_and}
use Rattle.std.proofs.Common.{◌+◌, true, false, [], ◌∷◌, ◌++◌, drop, refl, arith}
use Rattle.serde_json.specs.Written.{comma_if, items_text}
use Rattle.json.specs.Print.{quoted}
use Rattle.flow_report.specs.Events.{file_items}
use Rattle.flow_report.specs.Words.{identifier_text}
use Rattle.flow_report.proofs.Lists.{items-more, items-end}
use Rattle.flow_report.proofs.Writing.{puts-then, puts-failed, puts-named}
use Rattle.flow_report.proofs.held.Held.put_uuids.Goals as goal

pub loop-number-init : goal.loop-number-init
loop-number-init g c = record { text = 91 ∷ []; whole = refl; put = c.in_ok-put.ensures.put; faults = c.put.ensures.cause.never_falls }

pub loop-number-preserved : goal.loop-number-preserved
loop-number-preserved g c =
    let inv = c.loop-number.invariant in
    let id = c.uuid_of.result in
    record {
      text = inv.text ++ (comma_if c.loop-number.is_later ++ quoted (identifier_text id));
      whole = items-more inv.text c.loop-number.is_later c.args.store c.args.numbers.now c.loop-number.number-index id _ c.loop-number-test.true c.uuid_of.ensures.bits inv.whole;
      put = λ tells. puts-then _ _ _ _ _ _ _ _ _ (inv.put tells) (c.in_ok-put_item.ensures.put tells);
      faults = omega (arith, inv.faults, c.put_item.ensures.cause.never_falls);
    }

pub returns-in_err-put_item-clause-put : goal.returns-in_err-put_item-clause-put
returns-in_err-put_item-clause-put g c = λ tells. let p = err_from_is_err_and c.from_residual-in_err-put_item.result c.from_residual-in_err-put_item.ensures.1 in
    rw p.1
    (let inv = c.loop-number.invariant in
    let id = c.uuid_of.result in
    let i = c.loop-number.number-index in
    let rest = items_text true (file_items c.args.store (drop (i + 1) c.args.numbers.now)) in
    puts-named _ _ _ _ _ _ _
    (items-more inv.text c.loop-number.is_later c.args.store c.args.numbers.now i id _ c.loop-number-test.true c.uuid_of.ensures.bits inv.whole)
    (puts-failed (inv.text ++ (comma_if c.loop-number.is_later ++ quoted (identifier_text id))) rest _ _ _ _ _
    (puts-then _ _ _ _ _ _ _ _ _ (inv.put tells) (c.in_err-put_item.ensures.put tells))))

pub returns-clause-put : goal.returns-clause-put
returns-clause-put g c = λ tells.
    let inv = c.loop-number.invariant in
    puts-named _ _ _ _ _ _ _ (items-end inv.text c.loop-number.is_later c.args.store c.args.numbers.now c.loop-number.number-index _ c.loop-number-test.false inv.whole)
    (puts-then _ _ _ _ _ _ _ _ _ (inv.put tells) (c.put-2.ensures.put tells))

pub returns-in_err-put-clause-put : goal.returns-in_err-put-clause-put
returns-in_err-put-clause-put g c = λ tells. let p = err_from_is_err_and c.from_residual.result c.from_residual.ensures.1 in
    rw p.1
    (puts-failed (91 ∷ []) (items_text false (file_items c.args.store c.args.numbers.now)) _ _ _ _ _ (c.in_err-put.ensures.put tells))
