use Rattle.bench_flows.proofs.Reading.{LeaveRoom}
use Rattle.bench_flows.proofs.files.taken.Given as goal

-- the files so far are read, and leave this room
abbrev pub invariant-loop-text : goal.invariant-loop-text
invariant-loop-text l = LeaveRoom l.room l.files
