use Rattle.std.proofs.Common.{[], get_or, ◌∙◌, arith}
use Rattle.flowfile_record.specs.declared.content.ContentRef.{ContentRef}
use Rattle.content_repo.specs.Slots.{count_of}
use Rattle.store_core.proofs.Referring.{next_held, take_next, unheld}
use Rattle.store_core.proofs.contents.let_go.Goals as goal

abbrev none : ContentRef
none = record { slot = 0; offset = 0; size = 0; digest = [] }

pub unhold-requires : goal.unhold-requires
unhold-requires c =
    let refs = c.args.refs.now in
    let i = c.loop-at.at-index in
    let at = get_or refs i none in
    next_held c.loop-at.contents (count_of c.args.contents.now) refs i none c.loop-at-test.true (c.loop-at.invariant.counts at.slot) (c.requires at.slot)

pub loop-at-preserved : goal.loop-at-preserved
loop-at-preserved c =
    let refs = c.args.refs.now in
    let i = c.loop-at.at-index in
    let at = get_or refs i none in
    let some = next_held c.loop-at.contents (count_of c.args.contents.now) refs i none c.loop-at-test.true (c.loop-at.invariant.counts at.slot) (c.requires at.slot) in
    record {
      counts = λ k. omega (arith, (unheld c.loop-at.contents c.unhold.new.self at k some c.unhold.ensures.value).0, take_next k refs i none c.loop-at-test.true, c.loop-at.invariant.counts k);
      held = omega (arith, c.unhold.ensures.held, c.loop-at.invariant.held);
      sizes = λ k. (unheld c.loop-at.contents c.unhold.new.self at k some c.unhold.ensures.value).1 ∙ c.loop-at.invariant.sizes k;
    }
