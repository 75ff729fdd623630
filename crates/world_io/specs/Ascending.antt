-- Texts that ascend.
use Rattle.std.specs.Prelude.{ℕ, List, [], ◌∷◌}
use Rattle.std.specs.Ordering.{Ordering-set}
use Rattle.std.specs.List.{AllByRecursion-prop}
use mathlib.Core.HLevel.{×_prop, Unit-prop}
use Rattle.world_io.specs.Inbox.{IsAscending}

pub IsAscending-prop : (names : List (List ℕ)) → IsProp (IsAscending names)
IsAscending-prop [] = Unit-prop
IsAscending-prop (name ∷ names) = ×_prop (AllByRecursion-prop _ (λ y. Ordering-set _ _) names) (IsAscending-prop names)
