use Rattle.std.proofs.Common.{◌≡◌, ◌++◌, ◌∷◌, [], List, ℕ, false, sym, ap, subst, ◌∙◌}
use lib.Dec.{eqb}
use Rattle.std.specs.Cmp.{nat_eq_equiv}
use Rattle.std.specs.List.{list_any, IsDistinct}
use Rattle.std.specs.Ordering.{nat_cmp}
use Rattle.std.specs.BTreeSet.{contains}
use Rattle.std.proofs.lemmas.Map.Keys.{IsDistinct-push}
use Rattle.lineage_query.proofs.Seen.{not-true, seen-new}
use Rattle.lineage_query.proofs.found.Found.add.Goals as goal

pub invariant_of-self-then-branch : goal.invariant_of-self-then-branch
invariant_of-self-then-branch c =
    let file = c.args.file in
    let files = c.self.inside.files.items in
    let now : c.push_reserved.new.self.items ≡ files ++ file ∷ [] = c.push_reserved.ensures.items ∙ ap (λ (l : List ℕ). l ++ file ∷ []) c.reserve.ensures.items in
    let absent : list_any (eqb file) files ≡ false = sym (c.self.invariant.1 file) ∙ not-true (contains nat_cmp c.self.inside.seen file) (sym c.in_ok-insert.ensures.added ∙ c.if-branch.true) in (
      subst (IsDistinct eqb) (sym now) (IsDistinct-push nat_eq_equiv files file c.self.invariant.0 absent),
      seen-new (contains nat_cmp c.self.inside.seen) (contains nat_cmp c.insert.new.self) files c.push_reserved.new.self.items file now c.self.invariant.1 c.in_ok-insert.ensures.updates.0,
    )
