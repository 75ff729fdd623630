use Rattle.std.proofs.Common.{◌≡◌, ◌+◌, ◌++◌, length, drop}
use Rattle.settlement.specs.Placing.{cloned_from, firsts, wanted}
use Rattle.settlement.proofs.placing.Placer.clones_of_all.Given as goal

abbrev pub invariant-loop-file : goal.invariant-loop-file
invariant-loop-file l = record {
  places : l.place + length (firsts (drop l.file-index l.files)) ≡ l.first_place + length (firsts l.files);
  count : length l.clones.items + length (wanted (drop l.file-index l.files)) ≡ length (wanted l.files);
  whole : l.clones.items ++ cloned_from l.place (l.number + length l.clones.items) (l.arrival + length l.clones.items) (drop l.file-index l.files)
      ≡ cloned_from l.first_place l.number l.arrival l.files;
}
