use Rattle.std.proofs.Common.{◌≡◌, drop}
use Rattle.proc_merge.specs.Taken.{bytes_read}
use Rattle.proc_merge.proofs.Reading.{and_read}
use Rattle.proc_merge.proofs.contents.joined_content.Given as goal

abbrev pub invariant-loop-place : goal.invariant-loop-place
invariant-loop-place l = bytes_read l.session.sources ≡ and_read l.joined.items (bytes_read (drop l.place l.session.sources))
