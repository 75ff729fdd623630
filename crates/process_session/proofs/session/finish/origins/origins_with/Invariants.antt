use Rattle.std.proofs.Common.{◌≡◌, ◌++◌, All, drop, length, map}
use Rattle.process_session.specs.Finishing.{AreMarkedUpto, IsInside, kept_origins, places_of}
use Rattle.process_session.proofs.session.finish.origins.origins_with.Given as goal

abbrev pub invariant-loop-file : goal.invariant-loop-file
invariant-loop-file l = record {
  rounds : l.round ≡ l.file-index;
  inside : All (IsInside (length l.met)) l.stands;
  marks : AreMarkedUpto l.met l.round;
  origins : l.origins.items ++ kept_origins (map places_of l.stands) (drop l.file-index l.files) ≡ kept_origins (map places_of l.stands) l.files;
}
