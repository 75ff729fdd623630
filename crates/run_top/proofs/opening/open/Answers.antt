use Rattle.std.proofs.Common.{◌≡◌, ◌∙◌, refl, sym, ap, subst, rules}
use Rattle.std.proofs.lemmas.Result.{err_from_is_err_and}
use Rattle.std.specs.Prelude.{Err, IfErr, Result}
use Rattle.store_core.specs.Store.{StoreState as Store}
use Rattle.store_core.specs.declared.error.StoreError.TheVariants as StoreError
use Rattle.run_top.specs.Status.{answer_of_opening}
use Rattle.run_top.specs.Opening.{IsOfStore}
use Rattle.run_top.specs.declared.answer.Answer.{Answer}
use Rattle.run_top.proofs.Answers.{of_store}
use Rattle.run_top.proofs.Anew.{anew_is_consistent, identity_is}
use Rattle.run_top.proofs.Opened.{damage_of, other_of, shut_stays, told_damage, told_other}
use Rattle.run_top.proofs.opening.open.Goals as goal

pub load-requires-after_bounds : goal.load-requires-after_bounds
load-requires-after_bounds g c κs within =
    anew_is_consistent c.args.flow.now c.args.lot c.requires.sound c.requires.digest _ (identity_is c.args.flow.now _ _ _ refl c.in_ok-ids.ensures c.len.ensures)

pub returns-in_err-store-clause-shut : goal.returns-in_err-store-clause-shut
returns-in_err-store-clause-shut g c =
    let error = c.in_err-store.field-0.0 in
    let p = err_from_is_err_and c.from_residual-in_err-store.result c.from_residual-in_err-store.ensures.1 in
    let fails : c.from_residual-in_err-store.result ≡ Err (answer_of_opening error) = cc (p.1, p.2) in
    shut_stays g.D.Disk.tells g.D.Disk.held g.D.Disk.moment _ _ (identity_is c.args.flow.now _ _ _ refl c.in_ok-ids.ensures c.len.ensures) c.args.lot c.args.disk.now c.load.new.disk
    g.D.Disk.images c.load.result c.from_residual-in_err-store.result error c.in_err-store.was fails c.load.ensures.shut

pub returns-in_err-store-clause-refusal : goal.returns-in_err-store-clause-refusal
returns-in_err-store-clause-refusal g c =
    let error = c.in_err-store.field-0.0 in
    let p = err_from_is_err_and c.from_residual-in_err-store.result c.from_residual-in_err-store.ensures.1 in
    let fails : c.from_residual-in_err-store.result ≡ Err (answer_of_opening error) = cc (p.1, p.2) in
    let same = identity_is c.args.flow.now _ _ _ refl c.in_ok-ids.ensures c.len.ensures in
    record {
      kinds = subst (λ (r : Result Store Answer). IfErr r IsOfStore) (sym fails) (of_store error);
      damaged = λ damage is.
          let was : error ≡ StoreError.Damaged damage = damage_of error damage (cc (p.1, p.2, is)) in
          let told = c.load.ensures.damaged damage (c.in_err-store.was ∙ ap Err was) in
          told_damage g.D.Disk.tells g.D.Disk.held g.D.Disk.moment _ _ same c.args.lot c.args.disk.now c.load.new.disk damage told.stands told.unwritten;
      other_flow = λ is.
          let was = other_of error (cc (p.1, p.2, is)) in
          let told = c.load.ensures.other_flow was.0 was.1.0 (c.in_err-store.was ∙ ap Err was.1.1) in
          told_other g.D.Disk.tells g.D.Disk.held g.D.Disk.moment _ _ same c.args.lot c.args.disk.now c.load.new.disk was.0 told.stands told.unwritten;
      cause = search rules;
    }
