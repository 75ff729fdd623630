use Rattle.std.proofs.Common.{◌≡◌, ◌+◌, drop}
use Rattle.machine_model.specs.Fragments.{fragment_seen}
use Rattle.proc_merge.proofs.Parts.{in_turn}
use Rattle.proc_merge.proofs.fragments.are_in_turn.Given as goal

abbrev pub invariant-loop-place : goal.invariant-loop-place
invariant-loop-place l = in_turn (fragment_seen l.fragment) 1 l.session.files ≡ in_turn (fragment_seen l.fragment) (l.place + 1) (drop l.place l.session.files)
