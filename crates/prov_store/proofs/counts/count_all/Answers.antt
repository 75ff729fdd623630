use Rattle.std.proofs.Common.{◌+◌, ◌-◌, ◌<◌, ◌≤◌, length, slice_index, ap, ◌^◌, ◌∙◌, arith}
use Rattle.std.specs.Prelude.{All}
use Rattle.std.proofs.lemmas.List.{take_all, length-set}
use Rattle.flowfile_record.specs.Events.{code_of}
use Rattle.prov_store.specs.State.{count_of_code}
use Rattle.prov_store.proofs.Counting.{code_within, counted_more, most_more}
use Rattle.prov_store.proofs.counts.count_all.Goals as goal

pub loop-event-init : goal.loop-event-init
loop-event-init c = record {
  counted = λ code first last. omega arith;
  most = λ most all k d lt. omega (arith, all k d lt);
  long = c.requires.long;
}

pub count-requires : goal.count-requires
count-requires c =
    let inv = c.loop-event.invariant in
    let k = code_of c.event-item.result.kind - 1 in
    let within = code_within c.event-item.result.kind in
    let there : k < length c.loop-event.counts.counts = omega (arith, inv.long, within.0, within.1) in
    let small : All (λ n. n ≤ 2 ^ 64 - 1 - length c.args.events.now) c.args.counts.now.counts = λ j d lt. let fits = c.requires.room j d lt in omega (arith, fits) in
    let here = inv.most (2 ^ 64 - 1 - length c.args.events.now) small k 0 there in
    let room = c.requires.room k 0 (omega (arith, c.requires.long, within.0, within.1)) in
    omega (arith, here, c.loop-event-test.true, room)

pub loop-event-preserved : goal.loop-event-preserved
loop-event-preserved c =
    let inv = c.loop-event.invariant in
    let e = c.event-item.result in
    let k = code_of e.kind - 1 in
    let within = code_within e.kind in
    let there : k < length c.loop-event.counts.counts = omega (arith, inv.long, within.0, within.1) in
    record {
      counted = counted_more c.loop-event.event-index c.args.events.now e c.args.counts.now.counts c.loop-event.counts.counts c.count.new.counts.counts c.loop-event-test.true c.event-item.is inv.long c.count.ensures inv.counted;
      most = λ most all j d lt. omega (arith, most_more k (most + c.loop-event.event-index) c.loop-event.counts.counts c.count.new.counts.counts there c.count.ensures (inv.most most all) j d lt);
      long = omega (arith, ap length c.count.ensures, length-set c.loop-event.counts.counts k (slice_index c.loop-event.counts.counts k + 1), inv.long);
    }

pub returns-clause-counted : goal.returns-clause-counted
returns-clause-counted c code first last =
    let all = take_all c.loop-event.event-index c.args.events.now c.loop-event-test.false in
    c.loop-event.invariant.counted code first last ∙ ap (λ l. slice_index c.args.counts.now.counts (code - 1) + count_of_code code l) all

pub returns-clause-most : goal.returns-clause-most
returns-clause-most c most all k d lt = omega (arith, c.loop-event.invariant.most most all k d lt, c.loop-event.auto.event-index-end)

pub returns-clause-long : goal.returns-clause-long
returns-clause-long c = c.loop-event.invariant.long
