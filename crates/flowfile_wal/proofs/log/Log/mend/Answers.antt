use Rattle.std.proofs.Common.{◌≡◌, ◌∙◌, refl, sym, ap, subst}
use Rattle.std.specs.Prelude.{Some}
use Rattle.disk_trait.specs.Files.{Files, named}
use Rattle.disk_trait.specs.declared.file_name.FileKind.TheVariants.{Log}
use Rattle.disk_trait.proofs.Moments.{at_the_end}
use Rattle.flowfile_wal.specs.Current.{CurrentLog, current_log}
use Rattle.flowfile_wal.specs.Steps.{LogState, EndsClosed}
use Rattle.flowfile_wal.proofs.Files.{alike}
use Rattle.flowfile_wal.proofs.States.{current_by, log_at}
use Rattle.flowfile_wal.proofs.log.Log.mend.Goals as goal

pub mend_log-requires-clause-log : goal.mend_log-requires-clause-log
mend_log-requires-clause-log g c lfts out told =
    let has : c.args.self.now.number ≡ Some c.in-Some.number = sym (ap (λ (s : LogState). s.number) c.self.view_is) ∙ c.in-Some.is in
    log_at c.args.self.now c.in-Some.number c.args.self.now.version c.self.inside.gate has refl (sym (ap (λ (s : LogState). s.end) c.self.view_is)) (g.D.Disk.held c.args.disk.now) (c.requires.current told)

pub returns-clause-ready : goal.returns-clause-ready
returns-clause-ready g c =
    let laws = g.met.D.Disk g.world.𝓛 g.world.𝓜 g.world.𝓡 ((λ s x. x), (λ x. x), (λ x. x), λ x. x) in
    let old = c.args.disk.now in
    let new = c.mend_log.new.disk in
    let number = c.in-Some.number in
    let gate = c.self.inside.gate in
    let state : LogState = c.args.self.now in
    let has : state.number ≡ Some number = sym (ap (λ (s : LogState). s.number) c.self.view_is) ∙ c.in-Some.is in
    let ends = sym (ap (λ (s : LogState). s.end) c.self.view_is) in
    record {
      ready = λ c' left.
          let told = laws.left_is_told new (g.D.Disk.moment new) c' left in
          let is = c.requires.current told in
          let log : CurrentLog = record { number = number; version = state.version; entries = is.entries; end = gate } in
          let after = at_the_end g.D.Disk.moment g.D.Disk.images old new _ c.in-Ok.ensures.images c' left in
          let was = current_by state number state.version gate has refl ends (g.D.Disk.held old) is in
          record {
            log = log;
            number = c.in-Some.is;
            version = ap (λ (s : LogState). s.version) c.self.view_is;
            end = refl;
            ready = record {
              current = alike number after.0 c' after.2 ∙ ap current_log (c.requires.synced after.0 after.1) ∙ was;
              closed = subst (λ (f : Files). EndsClosed gate (f (named Log number))) (sym (c.in-Ok.ensures.synced c' left)) (c.in-Ok.ensures.closed told);
            };
          };
      synced = c.in-Ok.ensures.synced;
    }
