use Rattle.std.proofs.Common.{◌≡◌, ◌+◌, ◌≤◌, length}
use Rattle.flowfile_record.specs.declared.TheConstants.{CONTENT_MAX}
use Rattle.regex.specs.Locations.{location}
use Rattle.regex.specs.Replace.{bytes_of}
use Rattle.proc_text.specs.Shapes.{group_sizes}
use Rattle.proc_text.proofs.growth.grown_by_groups.Given as goal

abbrev pub invariant-groups : goal.invariant-groups
invariant-groups l =
    (l.size ≤ CONTENT_MAX)
    × (l.size + group_sizes (λ n. bytes_of l.text (location l.fn.locations n)) l.rest
    ≡ l.fn.size + group_sizes (λ n. bytes_of l.text (location l.fn.locations n)) l.groups)

abbrev pub decreases-groups : goal.decreases-groups
decreases-groups l = length l.rest
