use Rattle.std.proofs.Common.{◌≡◌, subst, arith}
use Rattle.std.specs.Prelude.{IfOk}
use Rattle.settlement.specs.Whole.{ending_place, settled_of}
use Rattle.settlement.proofs.settling.settle_at.Goals as goal

pub returns-clause-settled : goal.returns-clause-settled
returns-clause-settled c =
    subst (λ at. IfOk c.settle_files.result (λ settled. settled ≡ settled_of at c.args.given.now c.args.counters c.args.ended.connection c.args.ended.outcome))
    (λ i. record (ending_place c.args.flow.now c.args.given.now c.args.counters c.args.ended c.args.processor.now) { taken = c.as_slice.ensures i; sources = c.as_slice-2.ensures i; moment = c.moment_of-moment.ensures i }) c.settle_files.ensures

pub returns-clause-moment : goal.returns-clause-moment
returns-clause-moment c = omega (arith, c.moment_of-moment.type_inv, c.moment_of-moment.ensures)
