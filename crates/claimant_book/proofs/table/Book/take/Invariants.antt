use Rattle.claimant_book.proofs.Taking.{IsIdle}
use Rattle.claimant_book.proofs.table.Book.take.Given as goal

abbrev pub invariant-loop : goal.invariant-loop
invariant-loop g l = IsIdle l.slot l.generation l.initial.share l.share
