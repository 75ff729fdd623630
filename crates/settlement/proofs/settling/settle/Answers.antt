use Rattle.std.proofs.Common.{◌≡◌, ◌∙◌, get_or}
use Rattle.settlement.proofs.Contained.{if-tells}
use Rattle.settlement.proofs.Handing.{if-settles}
use Rattle.settlement.proofs.Lookups.{got_is}
use Rattle.settlement.proofs.Recorded.{if-records}
use Rattle.settlement.proofs.settling.settle.Goals as goal

pub returns-clause-settles : goal.returns-clause-settles
returns-clause-settles c =
    let at : c.index-as_slice-from.result ≡ get_or c.args.flow.now.processors c.args.ended.processor c.index-as_slice-from.result
    = c.index-as_slice-from.is ∙ (λ i. get_or (c.as_slice.ensures i) (c.from.ensures i) c.index-as_slice-from.result) in
    if-settles c.args.flow.now c.args.given.now c.args.counters c.args.ended c.index-as_slice-from.result c.settle_at.result c.requires
    (λ other found. got_is c.args.flow.now.processors c.args.ended.processor c.index-as_slice-from.result other c.requires.processor at found) c.settle_at.ensures.settled

pub returns-clause-tells : goal.returns-clause-tells
returns-clause-tells c = if-tells c.args.flow.now c.args.given.now c.args.counters c.args.ended c.index-as_slice-from.result c.settle_at.result c.requires c.settle_at.ensures.settled

pub returns-clause-records : goal.returns-clause-records
returns-clause-records c =
    let at : c.index-as_slice-from.result ≡ get_or c.args.flow.now.processors c.args.ended.processor c.index-as_slice-from.result
    = c.index-as_slice-from.is ∙ (λ i. get_or (c.as_slice.ensures i) (c.from.ensures i) c.index-as_slice-from.result) in
    if-records c.args.flow.now c.args.given.now c.args.counters c.args.ended c.index-as_slice-from.result c.settle_at.result c.settle_at.ensures.moment c.requires
    (λ other found. got_is c.args.flow.now.processors c.args.ended.processor c.index-as_slice-from.result other c.requires.processor at found) c.settle_at.ensures.settled
