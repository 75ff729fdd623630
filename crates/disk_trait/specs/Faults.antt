-- Fault counts.
use Rattle.std.specs.Prelude.{ℕ, ◌-◌, ◌^◌, ◌<◌, ◌≤◌}

-- A fault count never falls, and the failure is answered only where the count rose, or stands at its
-- type's end.
pub record CountsFaults (before now : ℕ) (failed : Type 0) : Type 0 where
  pub never_falls : before ≤ now
  pub rose : failed → now < 2 ^ 64 - 1 → before < now
