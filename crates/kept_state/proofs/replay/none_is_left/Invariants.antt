use Rattle.std.proofs.Common.{◌≡◌, ◌&&◌, not, is_some, drop}
use Rattle.std.specs.List.{list_all}
use Rattle.std.specs.Ordering.{nat_cmp}
use Rattle.std.specs.BTreeSet.{contains}
use Rattle.kept_state.specs.Fits.{active_of}
use Rattle.kept_state.proofs.replay.none_is_left.Given as goal

abbrev pub invariant-loop-number : goal.invariant-loop-number
invariant-loop-number l =
    list_all (λ n. not (is_some (active_of n l.files.items) && not (contains nat_cmp l.gone_set n))) (drop l.number-index l.numbers)
    ≡ list_all (λ n. not (is_some (active_of n l.files.items) && not (contains nat_cmp l.gone_set n))) l.numbers
