-- A device that tells nothing of what it holds.
use Rattle.std.specs.Prelude.{false, IsTrue}
use Rattle.std.proofs.Common.{sym}
use Rattle.std.proofs.lemmas.Bool.{true≢false}

-- it owes nothing of what it would tell
pub told_by_none : {P : Type 0} → IsTrue false → P
told_by_none h = absurd (true≢false (sym h))

-- nothing is left that it would tell of
pub left_by_none : {P : Type 0} → ⊥ → P
left_by_none h = absurd h
