use Rattle.std.proofs.Common.{◌≡◌, ap, subst, ◌∙◌}
use Rattle.std.specs.Prelude.{Err}
use Rattle.std.proofs.lemmas.Result.{err_from_is_err_and}
use Rattle.disk_trait.specs.Files.{Files}
use Rattle.store_core.specs.Opened.{IsOfOther}
use Rattle.store_core.specs.declared.error.StoreError.TheVariants.{OtherFlow}
use Rattle.store_core.proofs.Restoring.{found_at}
use Rattle.store_core.proofs.store.Store.load.Goals as goal

pub returns-in_err-store-clause-other_flow : goal.returns-in_err-store-clause-other_flow
returns-in_err-store-clause-other_flow g c digest asked is =
    let p = err_from_is_err_and c.from_residual-in_err-store.result c.from_residual-in_err-store.ensures.1 in
    let same : c.in_err-store.field-0.0 ≡ OtherFlow digest asked = cc (p.1, p.2, is) in
    let told_of = c.in_err-store.ensures.other_flow digest asked (ap Err same) in
    record {
      asked_is = told_of.1;
      stands = λ told. subst (λ (files : Files). IsOfOther c.args.flow.now c.args.lot digest files) c.in_ok-sync.ensures.held (told_of.2 told);
      unwritten = record {
        files = told_of.0.files ∙ c.in_ok-sync.ensures.held;
        one_sync = told_of.0.time ∙ c.sync.ensures.moment;
      };
    }

pub returns-clause-opened : goal.returns-clause-opened
returns-clause-opened g c = record {
  opened = c.in_ok-store.ensures.opened.opened;
  found = λ told. found_at c.args.flow.now c.args.lot _ (g.D.Disk.held c.sync.new.self) (g.D.Disk.held c.args.disk.now) c.in_ok-sync.ensures.held (c.in_ok-store.ensures.opened.found told);
  kept = c.in_ok-store.ensures.opened.kept;
  tidy = c.in_ok-store.ensures.opened.tidy;
}
