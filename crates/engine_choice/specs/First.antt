-- The first of the processors from one place to another that gives a choice.
use Rattle.std.specs.Prelude.{◌≡◌, ℕ, ◌<◌, ◌≤◌, List, Option, None, Some, slice_get}

-- those before an end give nothing
abbrev pub GiveNothing : {X Y : Type 0} → (ℕ × X → Option Y) → List X → (start end : ℕ) → Type 0
GiveNothing {X} gives xs start end =
    (k : ℕ) (x : X) → start ≤ k → k < end → slice_get xs k ≡ Some x → gives (k, x) ≡ None

-- one gives this, and those before it nothing
pub record IsGivenBy {X Y : Type 0} (gives : ℕ × X → Option Y) (xs : List X) (start end : ℕ) (given : Y) : Type 0 where
  pub place : ℕ
  pub item : X
  pub from : start ≤ place
  pub within : place < end
  pub there : slice_get xs place ≡ Some item
  pub is_given : gives (place, item) ≡ Some given
  pub before : GiveNothing gives xs start place

abbrev pub IsFirstGiven : {X Y : Type 0} → (ℕ × X → Option Y) → List X → (start end : ℕ) → Option Y → Type 0
IsFirstGiven gives xs start end None = GiveNothing gives xs start end
IsFirstGiven gives xs start end (Some given) = IsGivenBy gives xs start end given
