use Rattle.std.proofs.Common.{◌≡◌, ◌+◌, ◌≤◌, ◌++◌, map, drop}
use Rattle.machine_model.specs.Placing.{numbers_from}
use Rattle.settlement.proofs.numbers.numbers_from.Given as goal

abbrev pub invariant-loop-file : goal.invariant-loop-file
invariant-loop-file l = record {
  whole : l.numbers.items ++ numbers_from l.next (map (λ file. file.number) l.taken) (drop l.file-index l.files)
      ≡ numbers_from l.fn.next (map (λ file. file.number) l.taken) l.files;
  next : l.next ≤ l.fn.next + l.file-index;
}
