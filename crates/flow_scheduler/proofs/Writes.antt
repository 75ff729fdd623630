-- Which files an engine's end changes.
use Rattle.std.proofs.Common.{inl, ℕ}
use Rattle.std.specs.Prelude.{Option}
use Rattle.disk_trait.specs.Files.{Files}
use Rattle.disk_trait.specs.Images.{After, Since}
use Rattle.store_core.specs.Store.{StoreState, live_in}
use Rattle.store_core.specs.Touched.{Frees, MayTouch, TouchesOnly}
use Rattle.run_law.specs.Work.{WritesLog}
use Rattle.run_law.proofs.Writing.{log_writes, writes_as}

touches_claims : (log : Option ℕ) (s : StoreState) (a b : Files) → Frees (live_in s) a b → TouchesOnly (MayTouch log) a b
touches_claims log s a b step f other = step.others f (λ is. other (inl is))

pub writes_by_close : {D : Type 0} (moment : D → ℕ) (images : D → ℕ → Files → Type 0) (log : Option ℕ) (s : StoreState) (old new : D)
    → Since moment images old new (After (Frees (live_in s)) (images old (moment old))) → WritesLog moment images log old new
writes_by_close moment images log s old new = writes_as moment images log (Frees (live_in s)) old new (λ a b step. log_writes log a b (touches_claims log s a b step))
