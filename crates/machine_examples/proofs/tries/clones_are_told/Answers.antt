use Rattle.machine_examples.proofs.TriedNames.{received-path, generated-index, generated-path, received-filename, generated-filename, made-named, named-keeps}
use Rattle.machine_examples.proofs.TriedParts.{same_attributes-self}
use Rattle.machine_examples.specs.Small.{a_txt}
use Rattle.machine_model.specs.Acting.{received_attributes}
use Rattle.std.proofs.Common.{refl}
use Rattle.machine_examples.proofs.tries.clones_are_told.Goals as goal

pub returns : goal.returns
returns c = record {
  follow = rw (received-filename a_txt, same_attributes-self (received_attributes a_txt)) refl;
  penalised_too = rw (same_attributes-self (received_attributes a_txt)) refl;
  each_connection = λ text. rw (generated-filename 1) refl;
  name_made = made-named;
  name_named = named-keeps;
  name_taken = λ place store number attributes. refl;
  two_fan_out = rw (received-filename a_txt, same_attributes-self (received_attributes a_txt)) refl;
  copies = rw (same_attributes-self (received_attributes a_txt)) refl;
  beside_a_drop = rw (same_attributes-self (received_attributes a_txt)) refl;
  no_value = λ text error is. rw is refl;
  apart = rw (same_attributes-self (received_attributes a_txt)) refl;
  received = λ name. (received-filename name, received-path name);
  generated = λ index. (generated-index index, generated-path index);
}
