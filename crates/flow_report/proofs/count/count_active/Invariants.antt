use Rattle.std.proofs.Common.{◌≡◌, ℕ, ◌+◌, ◌*◌, ◌^◌, ◌<◌, ◌≤◌, ◌==◌, filter, length}
use Rattle.std.specs.List.{sum_by}
use Rattle.flow_report.specs.Counts.{counted_bytes, files_at}
use Rattle.flow_report.specs.declared.count.TheConstants.{COUNTED}
use Rattle.flow_report.proofs.count.count_active.Given as goal

abbrev pub invariant-loop-active : goal.invariant-loop-active
invariant-loop-active l = record {
  next : (goal.iterator-loop-active).can_next l.active-iterator;
  finite : (goal.iterator-loop-active).is_finite l.active-iterator;
  first : l.counts.first ≡ l.fn.first;
  files : (at : ℕ) → at < COUNTED → files_at l.counts at + length (filter (λ active. active.connection == l.fn.first + at) l.active-iterator)
      ≡ length (filter (λ active. active.connection == l.fn.first + at) l.fn.files.items);
  bytes : (at : ℕ) → at < COUNTED → counted_bytes l.counts at + sum_by (λ active. active.file.content.size) (filter (λ active. active.connection == l.fn.first + at) l.active-iterator)
      ≡ sum_by (λ active. active.file.content.size) (filter (λ active. active.connection == l.fn.first + at) l.fn.files.items);
  few : (at : ℕ) → at < COUNTED → files_at l.counts at + length l.active-iterator ≤ length l.fn.files.items;
  fits : (at : ℕ) → at < COUNTED → counted_bytes l.counts at + length l.active-iterator * 2 ^ 64 ≤ length l.fn.files.items * 2 ^ 64;
}
