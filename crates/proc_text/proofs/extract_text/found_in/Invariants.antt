use Rattle.std.proofs.Common.{◌≡◌, map, take}
use Rattle.std.specs.List.{flat_map}
use Rattle.proc_text.specs.Extracting.{found_by, pair_of}
use Rattle.proc_text.proofs.extract_text.found_in.Given as goal

abbrev pub invariant-loop-property : goal.invariant-loop-property
invariant-loop-property l = map pair_of l.extracts.items ≡ flat_map (found_by l.text) (take l.property-index l.own)
