-- What a stop may leave, at each moment.
use Rattle.std.specs.Prelude.{◌≡◌, ℕ, zero, suc, ◌<◌, ◌≤◌}
use Rattle.disk_trait.specs.Count.{one_more}
use Rattle.disk_trait.specs.Files.{Files}

-- one more call, counted up to 2^64 - 1
abbrev pub next_moment : ℕ → ℕ
next_moment = one_more

-- the moment of a disk after so many calls that change it
abbrev pub calls_later : (calls moment : ℕ) → ℕ
calls_later zero moment = moment
calls_later (suc calls) moment = calls_later calls (next_moment moment)

-- at least one of so many calls was made
pub record HasCalled (limit before now : ℕ) : Type 0 where
  pub calls : ℕ
  pub some : 0 < calls
  pub most : calls ≤ limit
  pub moment : now ≡ calls_later calls before

-- one of these files, after a step
abbrev pub After : (Files → Files → Type 0) → (Files → Type 0) → Files → Type 0
After step before c = (d : Files) × before d × step d c

-- a stop leaves these files and nothing else
abbrev pub IsOnly : Files → (Files → Type 0) → Type 0
IsOnly files left = (c : Files) → left c → c ≡ files

-- From a call's start to its end: time goes on, each moment of the past keeps its images, and from a moment `start` on
-- whatever a stop at a moment k may leave has P k. `start` may lie before the call, as where a run's promise goes on
-- over one call more, or inside it, as where a call promises nothing until its first sync has answered.
--
-- This covers a stop inside the call. Each call of the device that changes something takes the next moment, and the
-- images of that moment have in them what a stop within the device's own call may leave. So wherever the call is
-- stopped, what is left is an image of one of its moments, as that moment's images were then; all later parts of the
-- call keep these images as they were, and so `each`, which is said of them at the call's end, tells of that stop.
pub record SinceMoment {D : Type 0} (moment : D → ℕ) (images : D → ℕ → Files → Type 0) (start : ℕ) (old new : D)
    (P : ℕ → Files → Type 0) : Type 0 where
  pub later : moment old ≤ moment new
  pub begun : start ≤ moment new
  pub past : (k : ℕ) (c : Files) → k ≤ moment old → images new k c → images old k c
  pub kept : (k : ℕ) (c : Files) → k ≤ moment old → images old k c → images new k c
  pub each : (k : ℕ) (c : Files) → start ≤ k → k ≤ moment new → images new k c → P k c

-- the same from the call's own start on, of a P that doesn't look at the moment
abbrev pub Since : {D : Type 0} → (D → ℕ) → (D → ℕ → Files → Type 0) → D → D → (Files → Type 0) → Type 0
Since moment images old new P = SinceMoment moment images (moment old) old new (λ k. P)

-- a call that only reads
pub record Stays {D : Type 0} (held : D → Files) (moment : D → ℕ) (images : D → ℕ → Files → Type 0)
    (old new : D) : Type 0 where
  pub files : held new ≡ held old
  pub time : moment new ≡ moment old
  pub past : (k : ℕ) (c : Files) → images new k c → images old k c
  pub kept : (k : ℕ) (c : Files) → images old k c → images new k c
