use Rattle.std.proofs.Common.{◌≡◌, ◌++◌, map}
use Rattle.std.specs.List.{filter_map, range_with_len}
use Rattle.proc_text.specs.Extracting.{group_pair, pair_of}
use Rattle.proc_text.proofs.extract_text.add_groups.Given as goal

abbrev pub invariant-loop-group : goal.invariant-loop-group
invariant-loop-group l = map pair_of l.extracts.items
    ≡ map pair_of l.initial.extracts.items ++ filter_map (group_pair l.name l.captures) (range_with_len 0 l.group-counter)
