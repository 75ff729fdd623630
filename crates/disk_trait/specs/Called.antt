-- The calls of an object in memory.
use Rattle.std.specs.Prelude.{◌≡◌, Contains}
use Rattle.disk_trait.specs.Count.{one_more}
use Rattle.disk_trait.specs.Faults.{CountsFaults}
use Rattle.disk_trait.specs.declared.calls.Calls.{Calls}

-- the number of the next call is listed
abbrev pub FailsNext : Calls → Type 0
FailsNext calls = Contains calls.failing.items (one_more calls.count)

-- one call was counted, and a fault just where it failed
pub record Called (old new : Calls) (failed : Type 0) : Type 0 where
  pub failing : new.failing ≡ old.failing
  pub count : new.count ≡ one_more old.count
  pub fault : failed → new.faults ≡ one_more old.faults
  pub no_fault : (failed → ⊥) → new.faults ≡ old.faults
  pub faults : CountsFaults old.faults new.faults failed
