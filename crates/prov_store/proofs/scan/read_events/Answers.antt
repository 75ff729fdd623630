use Rattle.std.proofs.Common.{◌≡◌, ℕ, ◌+◌, List, [], ◌∷◌, ◌++◌, refl, sym, ap, subst, ◌∙◌, append_assoc, arith, rules}
use Rattle.std.specs.Prelude.{Ok, Err}
use Rattle.std.specs.List.{range_with_len}
use Rattle.std.proofs.lemmas.List.{append-nil}
use Rattle.std.proofs.lemmas.Result.{err_from_is_err_and}
use Rattle.disk_trait.specs.Files.{Files}
use Rattle.flowfile_record.specs.declared.event.Event.{Event}
use Rattle.prov_store.specs.Events.{events_from}
use Rattle.prov_store.specs.Loading.{AreReadEvents, bytes_there}
use Rattle.prov_store.specs.Reading.{event_there}
use Rattle.block_file.specs.declared.error.BlockError.TheVariants.{Damaged}
use Rattle.prov_store.specs.declared.read.Cursor.{Cursor}
use Rattle.prov_store.proofs.Loads.{read_more, damaged_there, cursor_on}
use Rattle.prov_store.proofs.scan.read_events.Goals as goal

pub loop-init : goal.loop-init
loop-init g c = record {
  events = [];
  read = record { count = refl; numbered = refl; within = c.requires.there.within; says = λ told. refl; reaches = λ told. omega arith };
  cursor = search rules;
  items = sym (append-nil c.args.found.now.items);
  stays = search rules;
  faults = omega arith;
}

pub loop-preserved : goal.loop-preserved
loop-preserved g c =
    let inv = c.loop.invariant in
    let e = c.in_ok-event.event in
    let next = c.behind-cursor.ensures in
    let at = ap (λ (n : Cursor). n.at) next in
    record {
      events = inv.events ++ e ∷ [];
      read = subst (AreReadEvents g.D.Disk.tells (g.D.Disk.held c.args.disk.now) c.args.start (c.loop.counter + 1) (inv.events ++ e ∷ [])) (sym at)
          (read_more g.D.Disk.tells (g.D.Disk.held c.args.disk.now) c.args.start c.loop.counter inv.events c.loop.cursor e c.in_ok-event.size inv.read inv.cursor c.in_ok-event.ensures.within c.in_ok-event.ensures.number
          (λ told. subst (λ (f : Files). event_there f c.loop.cursor ≡ Ok (e, c.in_ok-event.size)) inv.stays.files (c.in_ok-event.ensures.found told)));
      cursor = cursor_on c.args.start c.loop.cursor c.behind-cursor.result c.loop.counter c.in_ok-event.size inv.cursor next;
      items = c.push_reserved.ensures.items ∙ ap (λ (l : List Event). l ++ e ∷ []) (c.in_ok-reserve.ensures.items ∙ inv.items) ∙ append_assoc c.args.found.now.items inv.events (e ∷ []);
      stays = search rules;
      faults = omega (arith, inv.faults, c.read_event_at.ensures.cause.never_falls);
    }

pub returns-in_err-event-clause-damaged : goal.returns-in_err-event-clause-damaged
returns-in_err-event-clause-damaged g c damage is told =
    let inv = c.loop.invariant in
    let p = err_from_is_err_and c.from_residual.result c.from_residual.ensures.1 in
    let same : c.in_err-event.field-0.0 ≡ Damaged damage = cc (p.1, p.2, is) in
    damaged_there g.D.Disk.tells (g.D.Disk.held c.args.disk.now) c.args.start c.loop.counter c.args.many inv.events c.loop.cursor damage inv.read inv.cursor c.loop-test.true told
    (subst (λ (f : Files). event_there f c.loop.cursor ≡ Err damage) inv.stays.files (c.in_err-event.ensures.damaged damage (ap Err same) told))

pub returns-clause-read : goal.returns-clause-read
returns-clause-read g c =
    let inv = c.loop.invariant in
    let all : c.loop.counter ≡ c.args.many = omega (arith, c.loop-test.false, c.loop.auto.counter-end) in
    record {
      events = inv.events;
      says = λ told. subst (λ (n : ℕ). events_from n c.args.start.file c.args.start.at c.args.start.number (bytes_there (g.D.Disk.held c.args.disk.now) c.args.start) ≡ Ok inv.events) all (inv.read.says told);
      items = inv.items;
      numbered = inv.read.numbered ∙ ap (range_with_len c.args.start.number) all;
    }
