use Rattle.std.proofs.Common.{◌≡◌}
use Rattle.proc_text.specs.Parting.{end_or_removed, with_first_ended}
use Rattle.proc_text.proofs.parting.end_parts.Given as goal

abbrev pub invariant-loop-index : goal.invariant-loop-index
invariant-loop-index l = l.session ≡ with_first_ended (end_or_removed l.relationship) l.index l.fn.session
