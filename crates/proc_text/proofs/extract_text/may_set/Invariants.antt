use Rattle.std.proofs.Common.{◌≡◌, drop, map}
use Rattle.proc_text.specs.Extracting.{pair_of, with_named}
use Rattle.proc_text.proofs.extract_text.may_set.Given as goal

abbrev pub invariant-loop-extract : goal.invariant-loop-extract
invariant-loop-extract l = with_named l.attributes (map pair_of l.extracts) ≡ with_named l.tried (map pair_of (drop l.extract-index l.extracts))
