use Rattle.std.proofs.Common.{◌≡◌, length, map}
use Rattle.std.specs.Prelude.{zip}
use Rattle.settlement.specs.Ending.{ended_file, place_of}
use Rattle.settlement.proofs.making.Setting.end_each.Given as goal

abbrev pub invariant-loop-worked : goal.invariant-loop-worked
invariant-loop-worked l = record {
  place : l.place ≡ length l.yielded;
  whole : l.ended.items ≡ map (λ f. ended_file (place_of l.self) (f.0, f.1.0, f.1.1)) (zip l.numbers (zip l.entered l.yielded));
}
