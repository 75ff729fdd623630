use Rattle.std.proofs.Common.{◌≡◌, ℕ, ◌+◌, ◌==◌, ◌||◌, Bool, true, false, get_or, take, sym, subst, ◌∙◌}
use Rattle.std.specs.List.{list_any}
use Rattle.std.proofs.lemmas.Bool.{eqb-true}
use Rattle.std.proofs.lemmas.List.Folds.{list_any_more}
use Rattle.prov_index.specs.Lists.{IsReadyAt}
use Rattle.prov_index.proofs.lists.reserve_all.Goals as goal

either : (a b : Bool) (P : Type 0) → (a || b) ≡ true → (a ≡ true → P) → (b ≡ true → P) → P
either true b P is left right = left is
either false b P is left right = right is

pub loop-file-preserved : goal.loop-file-preserved
loop-file-preserved c =
    let files = c.args.files.now in
    let i = c.loop-file.file-index in
    record {
      same = λ file. c.in_ok-reserve.ensures.same file ∙ c.loop-file.invariant.same file;
      kept = λ file ready. c.in_ok-reserve.ensures.kept file (c.loop-file.invariant.kept file ready);
      ready = λ file is.
          either (list_any (λ f. f == file) (take i files)) (get_or files i 0 == file) _ (sym (list_any_more (λ f. f == file) files i 0 c.loop-file-test.true) ∙ is)
          (λ before. c.in_ok-reserve.ensures.kept file (c.loop-file.invariant.ready file before))
          (λ here. subst (IsReadyAt c.reserve.new.lists c.args.number) (eqb-true _ _ here) c.in_ok-reserve.ensures.ready);
    }
