-- Fault counts.
use Rattle.std.specs.Prelude.{⊤}
use Rattle.std.proofs.Common.{ℕ}
use Rattle.disk_trait.specs.Faults.{CountsFaults}

-- a count that went up counts any failure
pub counts_any : (before now : ℕ) (failed : Type 0) → CountsFaults before now ⊤ → CountsFaults before now failed
counts_any before now failed up = record { never_falls = up.never_falls; rose = λ _. up.rose tt }
