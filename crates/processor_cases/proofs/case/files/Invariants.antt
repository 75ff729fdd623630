use Rattle.std.specs.Prelude.{All}
use Rattle.processor_cases.specs.Cases.{IsReadFile}
use Rattle.processor_cases.proofs.case.files.Given as goal

abbrev pub invariant-loop-place : goal.invariant-loop-place
invariant-loop-place l = All IsReadFile l.files
