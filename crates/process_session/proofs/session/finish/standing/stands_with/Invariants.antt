use Rattle.std.proofs.Common.{◌≡◌, ◌≤◌, All, [], drop, length, map}
use Rattle.process_session.specs.Finish.{standing_from}
use Rattle.process_session.specs.Finishing.{AreMarkedUpto, IsInside, places_of}
use Rattle.process_session.proofs.session.finish.standing.stands_with.Given as goal

abbrev pub invariant-loop-file : goal.invariant-loop-file
invariant-loop-file l = record {
  counted : l.next ≤ l.file-index;
  rounds : l.round ≡ l.file-index;
  size : length l.met ≡ length l.files;
  marks : AreMarkedUpto l.met l.round;
  inside : All (IsInside (length l.files)) l.stands.items;
  standing : standing_from (map places_of l.stands.items) l.next (drop l.file-index l.files) ≡ standing_from [] 0 l.files;
}
