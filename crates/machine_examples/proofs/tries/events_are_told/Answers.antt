use Rattle.machine_examples.proofs.TriedNames.{received-filename}
use Rattle.machine_examples.proofs.TriedParts.{same_attributes-self, same_attributes-received}
use Rattle.machine_examples.specs.Small.{a_txt}
use Rattle.machine_model.specs.Acting.{received_attributes}
use Rattle.std.proofs.Common.{refl}
use Rattle.std.specs.Prelude.{codes}
use Rattle.machine_examples.proofs.tries.events_are_told.Goals as goal

pub returns : goal.returns
returns c = record {
  split = rw (received-filename a_txt, same_attributes-self (received_attributes a_txt)) refl;
  joined = rw (received-filename a_txt, same_attributes-self (received_attributes a_txt)) refl;
  change_written = refl;
  change_set = rw (same_attributes-received a_txt (codes "b")) refl;
  change_both = refl;
  change_removed = refl;
  change_unchanged = rw (same_attributes-self (received_attributes a_txt)) refl;
  change_routed = rw (same_attributes-self (received_attributes a_txt)) refl;
  change_in_turn = rw (same_attributes-received a_txt (codes "b")) refl;
  kinds_in_turn = rw (same_attributes-received a_txt (codes "b")) refl;
  forked_entered = refl;
  joined_entered = refl;
}
