-- Which files of the inbox are left behind a step.
use Rattle.std.proofs.Common.{◌≡◌, ◌⊎◌, inl, inr, ⊎_elim, ℕ, Bool, true, false, not, cond, List, [], ◌∷◌, bytes_eq, true≢false, refl, sym, ◌∙◌, ap, subst, arith}
use Rattle.std.proofs.lemmas.Slice.Eq.{bytes_eq-Decides}
use Rattle.std.specs.Prelude.{filter, ◌||◌, Option, None, Some, IfSome, Contains, slice_get}
use Rattle.std.specs.Option.{option_map_or}
use Rattle.flowfile_record.specs.NamedFile.{NamedFile, without}
use Rattle.flowfile_record.specs.declared.worked.Outcome.{Outcome}
use Rattle.machine_model.specs.declared.flow.Flow.{Flow}
use Rattle.machine_model.specs.declared.flow.Processor.{Processor}
use Rattle.machine_model.specs.declared.journal.Step.{Step}
use Rattle.machine_model.specs.declared.journal.Step.TheVariants as entry
use Rattle.machine_model.specs.declared.kind.Kind.{Kind}
use Rattle.machine_model.specs.declared.kind.Kind.TheVariants.{GetFile}
use Rattle.machine_model.specs.declared.pattern.Pattern.{Pattern}
use Rattle.machine_model.specs.Kinds.{is_among}
use Rattle.machine_model.specs.Laws.{LosesNames, StepsLoseNames, names_of_step, received_name}
use Rattle.machine_model.specs.Placing.{EndedSession}
use Rattle.machine_model.specs.State.{Machine, World}
use Rattle.machine_model.specs.Stepping.{step, without_name, world_after}
use Rattle.machine_model.proofs.Among.{Among, among_contained}
use Rattle.run_law.specs.Journal.{TakesFromInbox, inbox_left}
use Rattle.run_law.specs.Laws.{OtherSessionsLoseNone, OtherStepsLoseNone, ReceivingSessionsLoseAFile, TakingStepsLoseAFile}

bool_cases : (b : Bool) → (b ≡ true) ⊎ (b ≡ false)
bool_cases true = inl refl
bool_cases false = inr refl

or_false : (b : Bool) → (b || false) ≡ b
or_false true = refl
or_false false = refl

-- ---- names

flip : (a b : List ℕ) → bytes_eq a b ≡ false → bytes_eq b a ≡ false
flip a b apart = ⊎_elim
    (λ (same : bytes_eq b a ≡ true). absurd (true≢false (sym ((bytes_eq-Decides a b).1 (sym ((bytes_eq-Decides b a).0 same))) ∙ apart)))
    (λ (other : bytes_eq b a ≡ false). other)
    (bool_cases (bytes_eq b a))

none_among : (x : List ℕ) (names : List (List ℕ)) → is_among x (without_name names x) ≡ false
none_among x [] = refl
none_among x (other ∷ names) =
    let rest = without_name names x in
    ⊎_elim
    (λ (same : bytes_eq other x ≡ true). ap (λ (b : Bool). is_among x (cond (not b) (other ∷ rest) rest)) same ∙ none_among x names)
    (λ (apart : bytes_eq other x ≡ false).
    ap (λ (b : Bool). is_among x (cond (not b) (other ∷ rest) rest)) apart
    ∙ ap (λ (b : Bool). b || is_among x rest) (flip other x apart)
    ∙ none_among x names)
    (bool_cases (bytes_eq other x))

same_among : (x name : List ℕ) (names : List (List ℕ)) → bytes_eq x name ≡ false → is_among x (without_name names name) ≡ is_among x names
same_among x name [] apart = refl
same_among x name (other ∷ names) apart =
    let rest = without_name names name in
    ⊎_elim
    (λ (same : bytes_eq other name ≡ true).
    ap (λ (b : Bool). is_among x (cond (not b) (other ∷ rest) rest)) same
    ∙ same_among x name names apart
    ∙ sym (ap (λ (b : Bool). b || is_among x names) (subst (λ (n : List ℕ). bytes_eq x n ≡ false) (sym ((bytes_eq-Decides other name).0 same)) apart)))
    (λ (differs : bytes_eq other name ≡ false).
    ap (λ (b : Bool). is_among x (cond (not b) (other ∷ rest) rest)) differs
    ∙ ap (λ (b : Bool). bytes_eq x other || b) (same_among x name names apart))
    (bool_cases (bytes_eq other name))

-- ---- files

abbrev among : List (List ℕ) → NamedFile → Bool
among names file = is_among file.name names

left_list : (names : List (List ℕ)) (name : List ℕ) (files : List NamedFile) → filter (among (without_name names name)) files ≡ without name (filter (among names) files)
left_list names name [] = refl
left_list names name (file ∷ files) =
    let fewer = filter (among (without_name names name)) files in
    let more = filter (among names) files in
    ⊎_elim
    (λ (same : bytes_eq file.name name ≡ true).
    let none : is_among file.name (without_name names name) ≡ false =
    subst (λ (n : List ℕ). is_among file.name (without_name names n) ≡ false) ((bytes_eq-Decides file.name name).0 same) (none_among file.name names) in
    ap (λ (b : Bool). cond b (file ∷ fewer) fewer) none ∙ left_list names name files ∙ sym (goes same (is_among file.name names)))
    (λ (apart : bytes_eq file.name name ≡ false).
    ap (λ (b : Bool). cond b (file ∷ fewer) fewer) (same_among file.name name names apart) ∙ stays apart (left_list names name files) (is_among file.name names))
    (bool_cases (bytes_eq file.name name))
  where
    goes : bytes_eq file.name name ≡ true → (b : Bool) → without name (cond b (file ∷ filter (among names) files) (filter (among names) files)) ≡ without name (filter (among names) files)
    goes same true = ap (λ (b : Bool). cond (not b) (file ∷ without name (filter (among names) files)) (without name (filter (among names) files))) same
    goes same false = refl

    stays : bytes_eq file.name name ≡ false → filter (among (without_name names name)) files ≡ without name (filter (among names) files) → (b : Bool)
        → cond b (file ∷ filter (among (without_name names name)) files) (filter (among (without_name names name)) files) ≡ without name (cond b (file ∷ filter (among names) files) (filter (among names) files))
    stays apart same true =
        ap (λ (l : List NamedFile). file ∷ l) same
        ∙ sym (ap (λ (b : Bool). cond (not b) (file ∷ without name (filter (among names) files)) (without name (filter (among names) files))) apart)
    stays apart same false = same

-- one name less, one file less
left_without : (before after : World) (name : List ℕ) → after.left ≡ without_name before.left name → after.inbox ≡ before.inbox → inbox_left after ≡ without name (inbox_left before)
left_without before after name fewer same = (λ i. filter (among (fewer i)) (same i)) ∙ left_list before.left name before.inbox

left_same : (before after : World) → after.left ≡ before.left → after.inbox ≡ before.inbox → inbox_left after ≡ inbox_left before
left_same before after names same = λ i. filter (among (names i)) (same i)

-- ---- what a step takes: nothing, or one file

received_cases : (kind : Kind) (file : Option (List ℕ)) → (received_name kind file ≡ []) ⊎ ((name : List ℕ) × (received_name kind file ≡ name ∷ []))
received_cases (GetFile filter) (Some name) = inr (name, refl)
received_cases _ _ = inl refl

found_cases : (found : Option Processor) (file : Option (List ℕ)) → (option_map_or (λ p. received_name p.kind file) found [] ≡ []) ⊎ ((name : List ℕ) × (option_map_or (λ p. received_name p.kind file) found [] ≡ name ∷ []))
found_cases None file = inl refl
found_cases (Some p) file = received_cases p.kind file

pub takes_cases : (flow : Flow) (one : Step) → (names_of_step flow one ≡ []) ⊎ ((name : List ℕ) × (names_of_step flow one ≡ name ∷ []))
takes_cases flow (entry.Session processor numbers moment given) = found_cases (slice_get flow.processors processor) given.file
takes_cases flow (entry.Expire connection numbers moment) = inl refl
takes_cases flow (entry.SwapOut connection numbers batch) = inl refl
takes_cases flow (entry.SwapIn connection batch) = inl refl
takes_cases flow (entry.Age line) = inl refl

pub takes_one : (flow : Flow) (one : Step) (name : List ℕ) → names_of_step flow one ≡ name ∷ [] → TakesFromInbox flow one name
takes_one flow one name is = subst (λ (l : List (List ℕ)). Contains l name) (sym is) (0, omega arith, refl)

pub one_taken : (flow : Flow) (one : Step) (name : List ℕ) → TakesFromInbox flow one name → names_of_step flow one ≡ name ∷ []
one_taken flow one name takes = ⊎_elim
    (λ (none : names_of_step flow one ≡ []). absurd (among_contained name [] (subst (λ (l : List (List ℕ)). Contains l name) none takes)))
    (λ (some : (other : List ℕ) × (names_of_step flow one ≡ other ∷ [])).
    some.1 ∙ ap (λ (n : List ℕ). n ∷ []) (alone some.0 (among_contained name (some.0 ∷ []) (subst (λ (l : List (List ℕ)). Contains l name) some.1 takes))))
    (takes_cases flow one)
  where
    alone : (other : List ℕ) → Among name (other ∷ []) → other ≡ name
    alone other (inl is) = is
    alone other (inr none) = absurd none

-- ---- steps

lost_at : StepsLoseNames → (flow : Flow) (before after : Machine) (one : Step) → step flow before one ≡ Some after → LosesNames (names_of_step flow one) before.world after.world
lost_at law flow before after one goes =
    subst (λ (o : Option Machine). IfSome o (λ m. LosesNames (names_of_step flow one) before.world m.world)) goes (law flow before one)

none_lost : (names : List (List ℕ)) → filter (λ name. not (is_among name [])) names ≡ names
none_lost [] = refl
none_lost (name ∷ names) = ap (λ (l : List (List ℕ)). name ∷ l) (none_lost names)

one_lost : (name : List ℕ) (names : List (List ℕ)) → filter (λ n. not (is_among n (name ∷ []))) names ≡ without_name names name
one_lost name names = λ i. filter (λ n. not (or_false (bytes_eq n name) i)) names

pub step_takes : StepsLoseNames → (flow : Flow) (before after : Machine) (one : Step) (name : List ℕ) → step flow before one ≡ Some after → names_of_step flow one ≡ name ∷ [] → inbox_left after.world ≡ without name (inbox_left before.world)
step_takes law flow before after one name goes is =
    let lost = lost_at law flow before after one goes in
    left_without before.world after.world name
    (lost.left ∙ ap (λ (l : List (List ℕ)). filter (λ n. not (is_among n l)) before.world.left) is ∙ one_lost name before.world.left)
    lost.inbox

pub taking_steps : StepsLoseNames → TakingStepsLoseAFile
taking_steps law flow before after one name goes takes = step_takes law flow before after one name goes (one_taken flow one name takes)

pub other_steps : StepsLoseNames → OtherStepsLoseNone
other_steps law flow before after one goes is =
    let lost = lost_at law flow before after one goes in
    left_same before.world after.world
    (lost.left ∙ ap (λ (l : List (List ℕ)). filter (λ n. not (is_among n l)) before.world.left) is ∙ none_lost before.world.left)
    lost.inbox

-- ---- sessions

left_by_get : (filter : Option Pattern) (file : Option (List ℕ)) (left : List (List ℕ)) (name : List ℕ) → received_name (GetFile filter) file ≡ name ∷ [] → option_map_or (without_name left) file left ≡ without_name left name
left_by_get filter None left name is = absurd cc
left_by_get filter (Some other) left name is = ap (without_name left) (the_head other name is)
  where
    the_head : (a b : List ℕ) → ◌≡◌ {A = List (List ℕ)} (a ∷ []) (b ∷ []) → a ≡ b
    the_head a b e = cc

session_left : (kind : Kind) (w : World) (session : EndedSession) (outcome : Outcome) (name : List ℕ) → received_name kind session.given.file ≡ name ∷ [] → (world_after kind w session outcome).left ≡ without_name w.left name
session_left (GetFile filter) w session outcome name is = left_by_get filter session.given.file w.left name is
session_left _ w session outcome name is = absurd cc

unread : (filter : Option Pattern) (file : Option (List ℕ)) (left : List (List ℕ)) → received_name (GetFile filter) file ≡ [] → option_map_or (without_name left) file left ≡ left
unread filter None left is = refl
unread filter (Some other) left is = absurd cc

session_same : (kind : Kind) (w : World) (session : EndedSession) (outcome : Outcome) → received_name kind session.given.file ≡ [] → (world_after kind w session outcome).left ≡ w.left
session_same (GetFile filter) w session outcome is = unread filter session.given.file w.left is
session_same _ w session outcome is = refl

pub receiving_sessions : ReceivingSessionsLoseAFile
receiving_sessions machine session outcome name is =
    left_without machine.world (world_after session.processor.kind machine.world session outcome) name
    (session_left session.processor.kind machine.world session outcome name is) refl

pub other_sessions : OtherSessionsLoseNone
other_sessions machine session outcome is =
    left_same machine.world (world_after session.processor.kind machine.world session outcome)
    (session_same session.processor.kind machine.world session outcome is) refl
