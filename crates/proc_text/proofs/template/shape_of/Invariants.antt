use Rattle.std.proofs.Common.{◌+◌, ◌≤◌, length}
use Rattle.regex.specs.Strings.{regex_names}
use Rattle.proc_text.proofs.Growing.{AreMeasuredUpTo}
use Rattle.proc_text.proofs.template.shape_of.Given as goal

abbrev pub invariant-fronts : goal.invariant-fronts
invariant-fronts l =
    (l.own + length l.rest ≤ length l.template)
    × AreMeasuredUpTo (regex_names l.fn.regex) l.template l.own l.groups.items l.rest

abbrev pub decreases-fronts : goal.decreases-fronts
decreases-fronts l = length l.rest
