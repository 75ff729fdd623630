use Rattle.machine_examples.proofs.TriedFlows.{get_to_put-sound, duplicating-sound, generating-sound, ring-sound, splitting-sound, merging-sound, marked-sound, contained-not}
use Rattle.std.proofs.Common.{refl}
use Rattle.machine_examples.proofs.tries.flows_are_sound.Goals as goal

pub returns : goal.returns
returns c = record {
  get_to_put = get_to_put-sound;
  duplicating = duplicating-sound;
  generating = generating-sound;
  ring = ring-sound;
  splitting = splitting-sound;
  merging = merging-sound;
  marked = marked-sound;
  contained = contained-not;
  listed = refl;
}
