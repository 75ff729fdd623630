use Rattle.std.proofs.Common.{◌≡◌, ℕ, ◌+◌, sym, ap, subst, ◌∙◌, arith, rules}
use Rattle.std.specs.Prelude.{Ok, Err}
use Rattle.std.proofs.lemmas.Result.{err_from_is_err_and}
use Rattle.disk_trait.specs.Files.{Files}
use Rattle.prov_store.specs.Events.{blocks_size}
use Rattle.prov_store.specs.Loading.{bytes_there}
use Rattle.prov_store.specs.Reading.{event_there}
use Rattle.block_file.specs.declared.error.BlockError.TheVariants.{Damaged}
use Rattle.prov_store.specs.declared.read.Cursor.{Cursor}
use Rattle.prov_store.proofs.Loads.{cursor_on}
use Rattle.prov_store.proofs.Scans.{skip_one}
use Rattle.prov_store.proofs.scan.skip_events.Goals as goal

pub loop-init : goal.loop-init
loop-init g c = record {
  cursor = search rules;
  within = c.requires.there.within;
  reaches = λ told events is. omega arith;
  stays = search rules;
  faults = omega arith;
}

pub loop-preserved : goal.loop-preserved
loop-preserved g c =
    let inv = c.loop.invariant in
    let next = c.behind-cursor.ensures in
    let at = ap (λ (n : Cursor). n.at) next in
    let size = ap (λ (n : Cursor). n.size) inv.cursor in
    record {
      cursor = cursor_on c.args.start c.loop.cursor c.behind-cursor.result c.loop.counter c.in_ok-size.size inv.cursor next;
      within = omega (arith, at, c.in_ok-size.ensures.within, size);
      reaches = λ told events is.
          let skip = skip_one (g.D.Disk.held c.args.disk.now) c.args.start c.loop.counter c.args.many c.loop.cursor events inv.cursor (inv.reaches told events is) c.loop-test.true is in
          let same = c.in_ok-size.ensures.size told skip.event skip.size
          (subst (λ (f : Files). event_there f c.loop.cursor ≡ Ok (skip.event, skip.size)) (sym inv.stays.files) skip.there) in
          omega (arith, at, same, skip.reaches);
      stays = search rules;
      faults = omega (arith, inv.faults, c.skip_event_at.ensures.cause.never_falls);
    }

pub returns-in_err-size-clause-undamaged : goal.returns-in_err-size-clause-undamaged
returns-in_err-size-clause-undamaged g c damage is told events all =
    let inv = c.loop.invariant in
    let p = err_from_is_err_and c.from_residual.result c.from_residual.ensures.1 in
    let same : c.in_err-size.field-0.0 ≡ Damaged damage = cc (p.1, p.2, is) in
    let skip = skip_one (g.D.Disk.held c.args.disk.now) c.args.start c.loop.counter c.args.many c.loop.cursor events inv.cursor (inv.reaches told events all) c.loop-test.true all in
    c.in_err-size.ensures.damaged damage (ap Err same) told skip.event skip.size
    (subst (λ (f : Files). event_there f c.loop.cursor ≡ Ok (skip.event, skip.size)) (sym inv.stays.files) skip.there)

pub returns-clause-skipped : goal.returns-clause-skipped
returns-clause-skipped g c =
    let inv = c.loop.invariant in
    let all : c.loop.counter ≡ c.args.many = omega (arith, c.loop-test.false, c.loop.auto.counter-end) in
    record {
      behind = inv.cursor ∙ ap (λ (n : ℕ). record c.args.start { at = c.loop.cursor.at; number = c.args.start.number + n }) all;
      within = inv.within;
      reaches = λ told events is. inv.reaches told events is ∙ ap (λ (n : ℕ). c.args.start.at + blocks_size n (bytes_there (g.D.Disk.held c.args.disk.now) c.args.start)) all;
    }
