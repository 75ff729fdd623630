use Rattle.std.proofs.Common.{sym, ◌∙◌}
use Rattle.claimant_book.proofs.Taking.{idle-again, taken}
use Rattle.claimant_book.proofs.table.Book.take.Goals as goal

pub returns-then-not-again : goal.returns-then-not-again
returns-then-not-again g c =
    taken c.args.slot c.args.generation c.args.share.now c.loop.share c.try_take-answer.new.share c.try_take-answer.result
    (sym c.is_contended-again.ensures ∙ c.if-not-again.true) c.loop.invariant c.try_take-answer.ensures

pub loop-preserved : goal.loop-preserved
loop-preserved g c =
    idle-again c.args.slot c.args.generation c.args.share.now c.loop.share c.try_take-answer.new.share c.try_take-answer.result
    (sym c.is_contended-again.ensures ∙ c.if-not-again.false) c.loop.invariant c.try_take-answer.ensures
