-- What a PutFile makes of a file.
use Rattle.std.proofs.Common.{◌≡◌, ℕ, List, [], ◌∷◌, Bool, true, false, refl, ap, ◌∙◌}
use Rattle.std.specs.Prelude.{Option, Some, None, is_some, codes, if◌then◌else◌}
use Rattle.std.specs.Option.{option_map_or}
use Rattle.flowfile_record.specs.Attributes.{AttributeMap}
use Rattle.machine_model.specs.declared.kind.Conflict.{Conflict}
use Rattle.machine_model.specs.declared.kind.Conflict.TheVariants.{Replace, Ignore, Fail}
use Rattle.machine_model.specs.declared.kind.Kind.TheVariants.{PutFile}
use Rattle.machine_model.specs.declared.given.Given.{Given}
use Rattle.machine_model.specs.State.{State, World}
use Rattle.machine_model.specs.Acting.{received_attributes, name_in, act, put, put_unless_there}
use Rattle.machine_model.specs.Stepping.{given_in, same_bool, as_taken}
use Rattle.machine_examples.specs.Small.{hi, machine, no_file, no_kin, nothing, with_a, both, processor, wide, get_to_put, a_txt, a_file, state_of, at_moment}
use Rattle.machine_examples.specs.Puts.{FailsToPut, ReplacePutsOver, IgnoreLeaves, FailLeaves}
use Rattle.machine_examples.specs.Refusals.{NamelessIsNotThere, RefusesAnswer}
use Rattle.machine_examples.proofs.TriedNames.{a_txt-name, no-name}
use Rattle.machine_examples.proofs.TriedWorlds.{no-kin-more, put-over}
use Rattle.machine_examples.proofs.TriedParts.{same_attributes-self, session-gives, session-refused}

-- what it makes of a file whose name is known
pub puts : (conflict : Conflict) (there : Bool) (attributes : AttributeMap) (name : Option (List ℕ)) → name_in attributes ≡ name →
    (uuid bytes : List ℕ) → act (PutFile conflict) (record { attributes = attributes; uuid = uuid; bytes = bytes } ∷ []) (record (at_moment 1000) { there = there })
    ≡ Some (put conflict there (record { attributes = attributes; uuid = uuid; bytes = bytes }) name)
puts conflict there attributes name is uuid bytes = ap (λ (o : Option (List ℕ)). Some (put conflict there (record { attributes = attributes; uuid = uuid; bytes = bytes }) o)) is

pub fails : (attributes : AttributeMap) → name_in attributes ≡ None → FailsToPut attributes
fails attributes is conflict there uuid bytes = puts conflict there attributes None is uuid bytes

queued : State
queued = state_of ((a_file 1 1 ∷ []) ∷ []) 2 2 (0 ∷ 0 ∷ [])

told : Bool → (moment : ℕ) → Given
told there moment = record (at_moment moment) { there = there }

answered : (world : World) (there : Bool) (moment : ℕ) (conflict : Conflict) →
    given_in (PutFile conflict) 1 queued world (a_file 1 1 ∷ []) (told there moment) ≡ (if same_bool there (is_some (world.outbox a_txt)) then Some (told there moment) else None)
unfolding told
answered world there moment conflict = ap (λ (o : Option (List ℕ)). if same_bool there (option_map_or (λ (name : List ℕ). is_some (world.outbox name)) o false) then Some (told there moment) else None) a_txt-name

pub there-refused : RefusesAnswer nothing true
unfolding queued told
there-refused = session-refused (get_to_put Replace wide) (machine queued nothing) 1 (1 ∷ []) 1000 (told true 1000) (processor (codes "put") (PutFile Replace) both) (a_file 1 1 ∷ []) refl refl (answered nothing true 1000 Replace)

pub missing-refused : RefusesAnswer with_a false
unfolding queued told
missing-refused = session-refused (get_to_put Replace wide) (machine queued with_a) 1 (1 ∷ []) 1000 (told false 1000) (processor (codes "put") (PutFile Replace) both) (a_file 1 1 ∷ []) refl refl (answered with_a false 1000 Replace)

made : (conflict : Conflict) → act (PutFile conflict) (as_taken queued (a_file 1 1) ∷ []) (told true 2000) ≡ Some (put_unless_there conflict true (as_taken queued (a_file 1 1)) a_txt)
unfolding told
made conflict = ap (λ (o : Option (List ℕ)). Some (put conflict true (as_taken queued (a_file 1 1)) o)) a_txt-name

pub replaces : ReplacePutsOver
unfolding queued told
replaces =
    session-gives (get_to_put Replace wide) (machine queued with_a) 1 (1 ∷ []) 2000 (told true 2000) (told true 2000) (processor (codes "put") (PutFile Replace) both) (a_file 1 1 ∷ [])
    (put_unless_there Replace true (as_taken queued (a_file 1 1)) a_txt) refl refl (answered with_a true 2000 Replace) (made Replace)
    ∙ rw (same_attributes-self (received_attributes a_txt), no-kin-more no_kin, put-over no_file a_txt (1 ∷ []) hi) refl

pub ignores : IgnoreLeaves
unfolding queued told
ignores =
    session-gives (get_to_put Ignore wide) (machine queued with_a) 1 (1 ∷ []) 2000 (told true 2000) (told true 2000) (processor (codes "put") (PutFile Ignore) both) (a_file 1 1 ∷ [])
    (put_unless_there Ignore true (as_taken queued (a_file 1 1)) a_txt) refl refl (answered with_a true 2000 Ignore) (made Ignore)
    ∙ rw (same_attributes-self (received_attributes a_txt), no-kin-more no_kin) refl

pub refuses : FailLeaves
unfolding queued told
refuses =
    session-gives (get_to_put Fail wide) (machine queued with_a) 1 (1 ∷ []) 2000 (told true 2000) (told true 2000) (processor (codes "put") (PutFile Fail) both) (a_file 1 1 ∷ [])
    (put_unless_there Fail true (as_taken queued (a_file 1 1)) a_txt) refl refl (answered with_a true 2000 Fail) (made Fail)
    ∙ rw (same_attributes-self (received_attributes a_txt), no-kin-more no_kin) refl

pub nameless-not-there : NamelessIsNotThere
nameless-not-there = ap (λ (name : Option (List ℕ)). option_map_or (λ (name : List ℕ). is_some (with_a.outbox name)) name false) no-name
