use Rattle.std.proofs.Common.{◌≡◌, length, All}
use Rattle.content_repo.specs.Slots.{IsNamed}
use Rattle.bench_parts.proofs.appends.references.Given as goal

abbrev pub invariant-loop-slot : goal.invariant-loop-slot
invariant-loop-slot l = record { named : All IsNamed l.references.items; long : length l.references.items ≡ l.slot }
