use Rattle.run_top.proofs.tests.delivers.Goals as goal

-- the outbox behind the run keeps what its type says
pub invariant_of-outbox-then-is_empty : goal.invariant_of-outbox-then-is_empty
invariant_of-outbox-then-is_empty c = record { once = c.run-status.new.outbox.once; indexed = c.run-status.new.outbox.indexed }
