-- What tries need of attributes.
use Rattle.std.proofs.Common.{◌≡◌, ℕ, List, [], ◌∷◌, true, length, refl, sym, ap, ◌∙◌, arith}
use Rattle.std.specs.Prelude.{Some, None, codes, bytes_eq, map, slice_get, option_map, option_and_then}
use Rattle.std.proofs.lemmas.Slice.Eq.{bytes_eq-Decides}
use Rattle.std.specs.Ordering.{nat_cmp}
use Rattle.std.specs.Cmp.Lexicographic.{slice_cmp, nat_list_cmp_total}
use Rattle.std.specs.FinMap.{entries, empty, insert, put, len-entries, len-empty, entries-insert}
use Rattle.flowfile_record.specs.Attributes.{AttributeMap}
use Rattle.flowfile_record.specs.declared.worked.Outcome.{Outcome}
use Rattle.machine_model.specs.declared.flow.Flow.{Flow}
use Rattle.machine_model.specs.declared.flow.Processor.{Processor}
use Rattle.machine_model.specs.declared.given.Given.{Given}
use Rattle.machine_model.specs.declared.journal.Step.TheVariants as entry
use Rattle.machine_model.specs.State.{QueuedFile, Machine}
use Rattle.machine_model.specs.Acting.{act, received_attributes}
use Rattle.machine_model.specs.Kinds.{take_rule_of}
use Rattle.machine_model.specs.Stepping.{step, session_step, taken_files, given_at, given_in, as_taken, after_session, session_after, session_of}
use Rattle.flowfile_record.specs.Outcome.{same_attributes, same_pairs}

bytes_eq-self : (bytes : List ℕ) → bytes_eq bytes bytes ≡ true
bytes_eq-self bytes = (bytes_eq-Decides bytes bytes).1 refl

same_pairs-self : (pairs : List (List ℕ × List ℕ)) → same_pairs pairs pairs ≡ true
same_pairs-self [] = refl
same_pairs-self (pair ∷ pairs) = rw (bytes_eq-self pair.0, bytes_eq-self pair.1) (same_pairs-self pairs)

pub same_attributes-self : (attributes : AttributeMap) → same_attributes attributes attributes ≡ true
same_attributes-self attributes = same_pairs-self (entries attributes)

-- A session's step, from what it takes, is given and makes.
pub session-gives : (flow : Flow) (machine : Machine) (place : ℕ) (numbers : List ℕ) (moment : ℕ) (given given' : Given) (processor : Processor) (taken : List QueuedFile) (outcome : Outcome) →
    slice_get flow.processors place ≡ Some processor →
    taken_files flow machine.state place (take_rule_of processor.kind) numbers moment ≡ Some taken →
    option_and_then (given_in processor.kind place machine.state machine.world taken) (given_at moment given) ≡ Some given' →
    act processor.kind (map (as_taken machine.state) taken) given' ≡ Some outcome →
    step flow machine (entry.Session place numbers moment given) ≡ Some (session_after machine (session_of flow machine place processor taken given') outcome)
session-gives flow machine place numbers moment given given' processor taken outcome has takes is_given makes =
    ap (option_and_then (session_step flow machine place numbers moment given)) has
    ∙ ap (option_and_then (λ (taken : List QueuedFile). option_and_then (λ (given : Given). after_session machine (session_of flow machine place processor taken given)) (option_and_then (given_in processor.kind place machine.state machine.world taken) (given_at moment given)))) takes
    ∙ ap (option_and_then (λ (given : Given). after_session machine (session_of flow machine place processor taken given))) is_given
    ∙ ap (option_map (session_after machine (session_of flow machine place processor taken given'))) makes

-- No step where what a session is given doesn't stand in the state and the world.
pub session-refused : (flow : Flow) (machine : Machine) (place : ℕ) (numbers : List ℕ) (moment : ℕ) (given : Given) (processor : Processor) (taken : List QueuedFile) →
    slice_get flow.processors place ≡ Some processor →
    taken_files flow machine.state place (take_rule_of processor.kind) numbers moment ≡ Some taken →
    option_and_then (given_in processor.kind place machine.state machine.world taken) (given_at moment given) ≡ None →
    step flow machine (entry.Session place numbers moment given) ≡ None
session-refused flow machine place numbers moment given processor taken has takes refused =
    ap (option_and_then (session_step flow machine place numbers moment given)) has
    ∙ ap (option_and_then (λ (taken : List QueuedFile). option_and_then (λ (given : Given). after_session machine (session_of flow machine place processor taken given)) (option_and_then (given_in processor.kind place machine.state machine.world taken) (given_at moment given)))) takes
    ∙ ap (option_and_then (λ (given : Given). after_session machine (session_of flow machine place processor taken given))) refused

-- ---- attributes that differ

no_pairs : (pairs : List (List ℕ × List ℕ)) → length pairs ≡ 0 → pairs ≡ []
no_pairs [] none = refl
no_pairs (pair ∷ pairs) none = absurd (omega (arith, none))

entries-none : entries (empty {X = List ℕ} {R = slice_cmp nat_cmp}) ≡ []
entries-none = no_pairs (entries empty) (sym (len-entries empty) ∙ len-empty (slice_cmp nat_cmp) (List ℕ))

-- in the order of their keys
entries-received : (name : List ℕ) → entries (received_attributes name) ≡ (codes "filename", name) ∷ (codes "path", codes "./") ∷ []
entries-received name =
    entries-insert nat_list_cmp_total (insert empty (codes "filename") name) (codes "path") (codes "./")
    ∙ ap (put (slice_cmp nat_cmp) (codes "path") (codes "./")) (entries-insert nat_list_cmp_total empty (codes "filename") name
    ∙ ap (put (slice_cmp nat_cmp) (codes "filename") name) entries-none)

pub same_attributes-received : (name other : List ℕ) →
    same_attributes (received_attributes name) (received_attributes other)
    ≡ same_pairs ((codes "filename", name) ∷ (codes "path", codes "./") ∷ []) ((codes "filename", other) ∷ (codes "path", codes "./") ∷ [])
same_attributes-received name other =
    ap (λ (pairs : List (List ℕ × List ℕ)). same_pairs pairs (entries (received_attributes other))) (entries-received name)
    ∙ ap (same_pairs ((codes "filename", name) ∷ (codes "path", codes "./") ∷ [])) (entries-received other)
