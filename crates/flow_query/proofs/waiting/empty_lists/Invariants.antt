use Rattle.std.proofs.Common.{◌≡◌, ℕ, [], vec_len}
use Rattle.flow_query.specs.Parts.{listed_waiting}
use Rattle.flow_query.proofs.waiting.empty_lists.Given as goal

abbrev pub invariant-loop : goal.invariant-loop
invariant-loop l = record {
  len : vec_len l.lists ≡ l.counter;
  empty : (place : ℕ) → listed_waiting l.lists.items place ≡ [];
}
