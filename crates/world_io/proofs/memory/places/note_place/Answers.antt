use Rattle.std.proofs.Common.{List, ℕ, Option, Some, sym, subst}
use Rattle.std.specs.BTreeMap.{BTreeMap, Updates}
use Rattle.std.specs.Cmp.Lexicographic.{slice_cmp}
use Rattle.std.specs.Ordering.{nat_cmp}
use Rattle.world_io.specs.Memory.{Indexes}
use Rattle.world_io.proofs.Indexing.{indexed-more}
use Rattle.world_io.proofs.memory.places.note_place.Goals as goal

pub returns-in_ok-insert-clause-ok : goal.returns-in_ok-insert-clause-ok
returns-in_ok-insert-clause-ok c = λ files bytes all count new.
    let before : BTreeMap (List ℕ) ℕ = c.in-Some.places in
    let now : BTreeMap (List ℕ) ℕ = c.insert.new.self in
    let at : List ℕ → Type 0 = λ name. Updates (slice_cmp nat_cmp) before now name (Some c.args.place) in
    let noted : ℕ → Type 0 = λ place. Updates (slice_cmp nat_cmp) before now c.args.name.now (Some place) in
    let indexed : Option (BTreeMap (List ℕ) ℕ) → Type 0 = λ places. Indexes places files in
    indexed-more before now files (c.args.name.now, bytes) (subst indexed c.in-Some.is all) new
    (subst noted (sym count) (subst at c.in_ok-clone.ensures.cases c.in_ok-insert.ensures.updates))
