use Rattle.std.proofs.Common.{◌≡◌, ◌-◌, ◌<◌, List, [], ◌∷◌, take, length, sym, ap, subst, ◌∙◌, arith, rules}
use Rattle.std.specs.Prelude.{Ok}
use Rattle.std.proofs.lemmas.List.{take_all}
use Rattle.disk_trait.specs.Files.{Files}
use Rattle.flowfile_record.specs.Events.{code_of}
use Rattle.flowfile_record.specs.declared.event.Event.{Event}
use Rattle.prov_store.specs.Aging.{AreUncounted}
use Rattle.prov_store.specs.Reading.{event_there}
use Rattle.prov_store.specs.declared.read.Cursor.{Cursor}
use Rattle.prov_store.specs.declared.read.EventHead.{EventHead}
use Rattle.prov_store.proofs.Aging.{uncounted_none, uncounted_more, uncounted_one, fewer_same, fewer_more, fewer_one}
use Rattle.prov_store.proofs.Counting.{code_within}
use Rattle.prov_store.proofs.Headers.{same_head}
use Rattle.prov_store.proofs.InFile.{events_numbered}
use Rattle.prov_store.proofs.Loads.{cursor_on}
use Rattle.prov_store.proofs.Scans.{skip_one}
use Rattle.prov_store.proofs.age.uncount_events.Goals as goal

pub loop-init : goal.loop-init
loop-init g c = record {
  cursor = search rules;
  within = c.requires.there.within;
  reaches = λ told events is. omega arith;
  uncounted = λ told events is. uncounted_none c.args.counts.now.counts;
  fewer = fewer_same c.args.counts.now.counts;
  stays = search rules;
  faults = omega arith;
}

-- where an event stands its head is told
pub returns-in_default-clause-uncounted : goal.returns-in_default-clause-uncounted
returns-in_default-clause-uncounted g c told events is =
    let inv = c.loop.invariant in
    let skip = skip_one (g.D.Disk.held c.args.disk.now) c.args.start c.loop.counter c.args.many c.loop.cursor events inv.cursor (inv.reaches told events is) c.loop-test.true is in
    let head = c.in_ok-head.ensures.head told skip.event skip.size
    (subst (λ (f : Files). event_there f c.loop.cursor ≡ Ok (skip.event, skip.size)) (sym inv.stays.files) skip.there) in
    absurd (c.in_default.not-Some _ head)

pub loop-preserved : goal.loop-preserved
loop-preserved g c =
    let inv = c.loop.invariant in
    let next = c.behind-cursor.ensures in
    let at = ap (λ (n : Cursor). n.at) next in
    let size = ap (λ (n : Cursor). n.size) inv.cursor in
    let kind = c.in-Some.head.kind in
    let within = code_within kind in
    let long : length c.loop.counts.counts ≡ 12 = inv.fewer.long ∙ c.requires.long in
    let there : code_of kind - 1 < length c.loop.counts.counts = omega (arith, long, within.0, within.1) in
    record {
      cursor = cursor_on c.args.start c.loop.cursor c.behind-cursor.result c.loop.counter c.in-Some.head.size inv.cursor next;
      within = omega (arith, at, c.in_ok-head.ensures.within c.in-Some.head c.in-Some.is, size);
      reaches = λ told events is.
          let skip = skip_one (g.D.Disk.held c.args.disk.now) c.args.start c.loop.counter c.args.many c.loop.cursor events inv.cursor (inv.reaches told events is) c.loop-test.true is in
          let head = c.in_ok-head.ensures.head told skip.event skip.size
          (subst (λ (f : Files). event_there f c.loop.cursor ≡ Ok (skip.event, skip.size)) (sym inv.stays.files) skip.there) in
          let same : c.in-Some.head.size ≡ skip.size = ap (λ (h : EventHead). h.size) (same_head _ c.in-Some.head _ c.in-Some.is head) in
          omega (arith, at, same, skip.reaches);
      uncounted = λ told events is.
          let skip = skip_one (g.D.Disk.held c.args.disk.now) c.args.start c.loop.counter c.args.many c.loop.cursor events inv.cursor (inv.reaches told events is) c.loop-test.true is in
          let head = c.in_ok-head.ensures.head told skip.event skip.size
          (subst (λ (f : Files). event_there f c.loop.cursor ≡ Ok (skip.event, skip.size)) (sym inv.stays.files) skip.there) in
          let same : skip.event.kind ≡ kind = sym (ap (λ (h : EventHead). h.kind) (same_head _ c.in-Some.head _ c.in-Some.is head)) in
          subst (λ (l : List Event). AreUncounted l c.args.counts.now.counts c.uncount.new.counts.counts) (sym skip.next)
          (uncounted_more (take c.loop.counter events) (skip.event ∷ []) c.args.counts.now.counts c.loop.counts.counts c.uncount.new.counts.counts (inv.uncounted told events is)
          (uncounted_one skip.event kind c.loop.counts.counts c.uncount.new.counts.counts same long c.uncount.ensures));
      fewer = fewer_more c.args.counts.now.counts c.loop.counts.counts c.uncount.new.counts.counts inv.fewer (fewer_one (code_of kind - 1) c.loop.counts.counts c.uncount.new.counts.counts there c.uncount.ensures);
      stays = search rules;
      faults = omega (arith, inv.faults, c.read_head_at.ensures.cause.never_falls);
    }

pub returns-clause-uncounted : goal.returns-clause-uncounted
returns-clause-uncounted g c told events is =
    let inv = c.loop.invariant in
    let all : c.loop.counter ≡ c.args.many = omega (arith, c.loop-test.false, c.loop.auto.counter-end) in
    let long = (events_numbered c.args.many c.args.start.file c.args.start.at c.args.start.number _ events is).1 in
    subst (λ (l : List Event). AreUncounted l c.args.counts.now.counts c.loop.counts.counts) (take_all c.loop.counter events (omega (arith, all, long))) (inv.uncounted told events is)
