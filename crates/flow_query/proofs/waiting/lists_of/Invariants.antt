use Rattle.std.proofs.Common.{◌≡◌, ℕ, ◌<◌, ◌++◌, vec_len}
use Rattle.flow_query.specs.Parts.{listed_waiting, waiting_in}
use Rattle.flow_query.proofs.waiting.lists_of.Given as goal

-- what is listed, and what the files are to add that are left
abbrev pub invariant-loop-active : goal.invariant-loop-active
invariant-loop-active l = record {
  next : (goal.iterator-loop-active).can_next l.active-iterator;
  finite : (goal.iterator-loop-active).is_finite l.active-iterator;
  len : vec_len l.lists ≡ l.fn.connections;
  lists : (place : ℕ) → place < l.fn.connections → listed_waiting l.lists.items place ++ waiting_in l.active-iterator place ≡ waiting_in l.fn.files.items place;
}
