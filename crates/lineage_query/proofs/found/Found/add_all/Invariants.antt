use Rattle.std.proofs.Common.{◌≡◌, drop}
use Rattle.lineage_query.specs.Walk.{with_all}
use Rattle.lineage_query.proofs.found.Found.add_all.Given as goal

abbrev pub invariant-loop-file : goal.invariant-loop-file
invariant-loop-file l = with_all l.self (drop l.file-index l.files) ≡ with_all l.fn.self l.files
