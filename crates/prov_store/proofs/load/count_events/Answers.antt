use Rattle.std.proofs.Common.{◌≡◌, ◌+◌, ◌-◌, ◌^◌, ◌≤◌, ◌<◌, [], ◌∷◌, ◌++◌, length, slice_index, drop, refl, sym, ap, subst, arith, rules}
use Rattle.std.specs.Prelude.{All, Ok, Err}
use Rattle.std.proofs.lemmas.Result.{err_from_is_err_and}
use Rattle.std.proofs.lemmas.List.{length-set}
use Rattle.disk_trait.specs.Files.{Files}
use Rattle.flowfile_record.specs.Events.{code_of}
use Rattle.prov_store.specs.Loading.{AreReadEvents}
use Rattle.prov_store.specs.Reading.{HasWhole, event_there}
use Rattle.block_file.specs.declared.error.BlockError.TheVariants.{Damaged, Memory}
use Rattle.prov_store.specs.declared.read.Cursor.{Cursor}
use Rattle.prov_store.proofs.Counting.{code_within, most_more, counted_one}
use Rattle.prov_store.proofs.Loads.{read_more, damaged_there, cursor_on}
use Rattle.prov_store.proofs.Wholes.{whole_behind}
use Rattle.record_codec.specs.Block.{reading_of}
use Rattle.prov_store.proofs.load.count_events.Goals as goal

pub loop-init : goal.loop-init
loop-init g c = record {
  events = [];
  read = record { count = refl; numbered = refl; within = c.requires.there.within; says = λ told. refl; reaches = λ told. omega arith };
  cursor = search rules;
  counted = λ code first last. omega arith;
  most = λ most all k d lt. omega (arith, all k d lt);
  long = c.requires.long;
  stays = search rules;
  faults = omega arith;
}

pub count-requires : goal.count-requires
count-requires g c =
    let inv = c.loop.invariant in
    let k = code_of c.in_ok-event.event.kind - 1 in
    let within = code_within c.in_ok-event.event.kind in
    let there : k < length c.loop.counts.counts = omega (arith, inv.long, within.0, within.1) in
    let small : All (λ n. n ≤ 2 ^ 64 - 1 - c.args.many) c.args.counts.now.counts = λ j d lt. let fits = c.requires.room j d lt in omega (arith, fits) in
    let here = inv.most (2 ^ 64 - 1 - c.args.many) small k 0 there in
    let room = c.requires.room k 0 (omega (arith, c.requires.long, within.0, within.1)) in
    record { room = omega (arith, here, c.loop-test.true, room) }

pub loop-preserved : goal.loop-preserved
loop-preserved g c =
    let inv = c.loop.invariant in
    let e = c.in_ok-event.event in
    let k = code_of e.kind - 1 in
    let within = code_within e.kind in
    let there : k < length c.loop.counts.counts = omega (arith, inv.long, within.0, within.1) in
    let next = c.behind-cursor.ensures in
    let at = ap (λ (n : Cursor). n.at) next in
    record {
      events = inv.events ++ e ∷ [];
      read = subst (AreReadEvents g.D.Disk.tells (g.D.Disk.held c.args.disk.now) c.args.start (c.loop.counter + 1) (inv.events ++ e ∷ [])) (sym at)
          (read_more g.D.Disk.tells (g.D.Disk.held c.args.disk.now) c.args.start c.loop.counter inv.events c.loop.cursor e c.in_ok-event.size inv.read inv.cursor c.in_ok-event.ensures.within c.in_ok-event.ensures.number
          (λ told. subst (λ (f : Files). event_there f c.loop.cursor ≡ Ok (e, c.in_ok-event.size)) inv.stays.files (c.in_ok-event.ensures.found told)));
      cursor = cursor_on c.args.start c.loop.cursor c.behind-cursor.result c.loop.counter c.in_ok-event.size inv.cursor next;
      counted = counted_one inv.events e c.args.counts.now.counts c.loop.counts.counts c.count.new.counts.counts inv.long c.count.ensures inv.counted;
      most = λ most all j d lt. omega (arith, most_more k (most + c.loop.counter) c.loop.counts.counts c.count.new.counts.counts there c.count.ensures (inv.most most all) j d lt);
      long = omega (arith, ap length c.count.ensures, length-set c.loop.counts.counts k (slice_index c.loop.counts.counts k + 1), inv.long);
      stays = search rules;
      faults = omega (arith, inv.faults, c.read_event_at.ensures.cause.never_falls);
    }

pub returns-in_err-event-clause-damaged : goal.returns-in_err-event-clause-damaged
returns-in_err-event-clause-damaged g c damage is told =
    let inv = c.loop.invariant in
    let p = err_from_is_err_and c.from_residual.result c.from_residual.ensures.1 in
    let same : c.in_err-event.field-0.0 ≡ Damaged damage = cc (p.1, p.2, is) in
    damaged_there g.D.Disk.tells (g.D.Disk.held c.args.disk.now) c.args.start c.loop.counter c.args.many inv.events c.loop.cursor damage inv.read inv.cursor c.loop-test.true told
    (subst (λ (f : Files). event_there f c.loop.cursor ≡ Err damage) inv.stays.files (c.in_err-event.ensures.damaged damage (ap Err same) told))

pub returns-in_err-event-clause-memory : goal.returns-in_err-event-clause-memory
returns-in_err-event-clause-memory g c is told =
    let inv = c.loop.invariant in
    let p = err_from_is_err_and c.from_residual.result c.from_residual.ensures.1 in
    let same : c.in_err-event.field-0.0 ≡ Memory = cc (p.1, p.2, is) in
    whole_behind g.D.Disk.tells (g.D.Disk.held c.args.disk.now) c.args.start c.loop.counter c.args.many inv.events c.loop.cursor inv.read inv.cursor c.loop-test.true told
    (subst (λ (f : Files). HasWhole (reading_of (drop c.loop.cursor.at (f c.loop.cursor.file)))) inv.stays.files (c.in_err-event.ensures.memory (ap Err same) told))
