-- That a file goes from the inbox to the outbox.
use Rattle.std.proofs.Common.{◌≡◌, ℕ, List, [], ◌∷◌, false, refl, ap, ◌∙◌}
use Rattle.machine_model.specs.declared.kind.Conflict.TheVariants.{Replace}
use Rattle.machine_model.specs.declared.kind.Kind.TheVariants.{PutFile}
use Rattle.std.specs.Prelude.{Option, is_some, if◌then◌else◌, Some, None, codes, option_and_then}
use Rattle.machine_model.specs.Acting.{received_attributes, act, put, put_unless_there}
use Rattle.std.specs.Option.{option_map_or}
use Rattle.machine_model.specs.State.{Machine}
use Rattle.machine_model.specs.Stepping.{replay, given_in, same_bool, as_taken}
use Rattle.machine_examples.specs.Small.{a_txt, hi, machine, no_file, no_kin, waiting, at_moment, processor, both}
use Rattle.machine_examples.specs.Run.{between, world_between, flow, putting, IsReceived, IsSent, IsDelivered}
use Rattle.machine_examples.proofs.TriedNames.{received-filename, a_txt-name}
use Rattle.machine_examples.proofs.TriedWorlds.{no-kin-more}
use Rattle.machine_examples.proofs.TriedParts.{same_attributes-self, session-gives}

pub received-hi : IsReceived hi
received-hi = rw (received-filename a_txt, no-kin-more no_kin) refl

pub received-empty : IsReceived []
received-empty = rw (received-filename a_txt, no-kin-more no_kin) refl

given-there : (bytes : List ℕ) → given_in (PutFile Replace) 1 (between bytes) (world_between bytes) (waiting 1 1 (received_attributes a_txt) bytes ∷ []) (at_moment 2000) ≡ Some (at_moment 2000)
given-there bytes = ap (λ (o : Option (List ℕ)). if same_bool false (option_map_or (λ (name : List ℕ). is_some (no_file name)) o false) then Some (at_moment 2000) else None) a_txt-name

put-made : (bytes : List ℕ) → act (PutFile Replace) (as_taken (between bytes) (waiting 1 1 (received_attributes a_txt) bytes) ∷ []) (at_moment 2000) ≡ Some (put_unless_there Replace false (as_taken (between bytes) (waiting 1 1 (received_attributes a_txt) bytes)) a_txt)
put-made bytes = ap (λ (o : Option (List ℕ)). Some (put Replace false (as_taken (between bytes) (waiting 1 1 (received_attributes a_txt) bytes)) o)) a_txt-name

pub sent-hi : IsSent hi
sent-hi =
    session-gives flow (machine (between hi) (world_between hi)) 1 (1 ∷ []) 2000 (at_moment 2000) (at_moment 2000) (processor (codes "put") (PutFile Replace) both) (waiting 1 1 (received_attributes a_txt) hi ∷ []) (put_unless_there Replace false (as_taken (between hi) (waiting 1 1 (received_attributes a_txt) hi)) a_txt)
    refl refl (given-there hi) (put-made hi) ∙ rw (same_attributes-self (received_attributes a_txt), no-kin-more no_kin) refl

pub sent-empty : IsSent []
sent-empty =
    session-gives flow (machine (between []) (world_between [])) 1 (1 ∷ []) 2000 (at_moment 2000) (at_moment 2000) (processor (codes "put") (PutFile Replace) both) (waiting 1 1 (received_attributes a_txt) [] ∷ []) (put_unless_there Replace false (as_taken (between []) (waiting 1 1 (received_attributes a_txt) [])) a_txt)
    refl refl (given-there []) (put-made []) ∙ rw (same_attributes-self (received_attributes a_txt), no-kin-more no_kin) refl

pub delivered : (bytes : List ℕ) → IsReceived bytes → IsSent bytes → IsDelivered bytes
delivered bytes received sent =
    ap (option_and_then (λ (machine : Machine). replay flow machine (putting ∷ []))) received
    ∙ ap (option_and_then (λ (machine : Machine). replay flow machine [])) sent
