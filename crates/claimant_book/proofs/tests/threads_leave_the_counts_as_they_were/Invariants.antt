use Rattle.claimant_book.proofs.tests.threads_leave_the_counts_as_they_were.Given as goal

-- the book that was just opened
abbrev pub ghosts-shared_by : goal.ghosts-shared_by
ghosts-shared_by g a = record { table = a.opened }
