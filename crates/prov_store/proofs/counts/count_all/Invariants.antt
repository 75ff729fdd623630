use Rattle.std.proofs.Common.{◌≡◌, ℕ, ◌+◌, ◌≤◌, length, take}
use Rattle.std.specs.Prelude.{All}
use Rattle.prov_store.specs.State.{AreCounted}
use Rattle.prov_store.proofs.counts.count_all.Given as goal

abbrev pub invariant-loop-event : goal.invariant-loop-event
invariant-loop-event l = record {
  counted : AreCounted (take l.event-index l.events) l.fn.counts.counts l.counts.counts;
  most : (most : ℕ) → All (λ n. n ≤ most) l.fn.counts.counts → All (λ n. n ≤ most + l.event-index) l.counts.counts;
  long : length l.counts.counts ≡ 12;
}
