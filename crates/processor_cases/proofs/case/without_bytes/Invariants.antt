use Rattle.std.proofs.Common.{◌≡◌, map, take}
use Rattle.processor_cases.specs.Cases.{taken_without_bytes}
use Rattle.processor_cases.proofs.case.without_bytes.Given as goal

abbrev pub invariant-loop-file : goal.invariant-loop-file
invariant-loop-file l = l.unread ≡ map taken_without_bytes (take l.file-index l.files)
