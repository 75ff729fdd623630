-- The files that a session takes, and what it is handed of them.
use Rattle.std.proofs.Common.{◌≡◌, ℕ, ◌≤◌, Bool, true, false, List, [], ◌∷◌, length, refl, sym, ap, subst, ◌∙◌}
use Rattle.std.specs.Prelude.{All, Contains, Result, Ok, Err, IfOk, IsTrue, Option, None, Some, IsSome, IfSome}
use Rattle.std.specs.Option.{IsSomeAnd}
use Rattle.std.proofs.lemmas.List.Elements.{All-cons, All-head, All-nil, All-tail}
use Rattle.flowfile_record.specs.NamedFile.{NamedFile}
use Rattle.flowfile_record.specs.Stored.{Kept}
use Rattle.flowfile_record.specs.declared.TheConstants.{CONTENT_MAX}
use Rattle.flowfile_record.specs.declared.content.ContentRef.{ContentRef}
use Rattle.flowfile_record.specs.declared.flow_file.FlowFile.{FlowFile}
use Rattle.flowfile_record.specs.declared.stored.ActiveFile.{ActiveFile}
use Rattle.record_codec.specs.ActiveFile.{active}
use Rattle.kept_state.specs.Fits.{are_active_in, are_distinct_numbers}
use Rattle.machine_model.specs.declared.flow.Flow.{Flow}
use Rattle.machine_model.specs.declared.given.Given.{Given}
use Rattle.machine_model.proofs.Among.{among_contained, contains_among, makes}
use Rattle.store_core.specs.State.{live_contents}
use Rattle.engine_choice.specs.declared.choice.Taking.{Taking}
use Rattle.engine_choice.specs.declared.choice.Taking.TheVariants.{Generate, Receive}
use Rattle.engine_session.specs.Handing.{AreReadOf, AreTaken, files_fit_a_content, live_files}
use Rattle.engine_session.proofs.Lookups.{live_there}
use Rattle.engine_steps.specs.Handing.{HasBytesOf, IsHandedAs, JobIsHanded}
use Rattle.engine_session.specs.declared.job.Job.{Job}
use Rattle.engine_steps.specs.declared.flight.InFlight.{InFlight}
use Rattle.engine_steps.proofs.Told.{none_there}

pub some_and : {A : Type 0} (P : A → Type 0) (o : Option A) → IsSomeAnd o P → IsSome o × IfSome o P
some_and P None is = absurd is
some_and P (Some a) is = (refl, is)

-- ---- the files

all_live : (k : Kept) (connection : ℕ) (files : List FlowFile) → All (λ file. Contains k.files (active connection file)) files → All (λ (file : FlowFile). Contains (live_contents k) file.content) files
all_live k connection [] all = All-nil (λ (file : FlowFile). Contains (live_contents k) file.content)
all_live k connection (file ∷ files) all =
    let here = All-head (λ (f : FlowFile). Contains k.files (active connection f)) file files all in
    All-cons (λ (f : FlowFile). Contains (live_contents k) f.content) file files
    (contains_among file.content (live_contents k) (makes (λ (a : ActiveFile). a.file.content) k.files (active connection file) (among_contained (active connection file) k.files here)))
    (all_live k connection files (All-tail (λ (f : FlowFile). Contains k.files (active connection f)) file files all))

module _ (k : Kept) (connection : ℕ) (numbers : List ℕ) (may : (are_active_in k.files connection numbers ≡ true) × (are_distinct_numbers numbers ≡ true)) where
  pub all_are_live : All (λ (file : FlowFile). Contains (live_contents k) file.content) (live_files k numbers)
  all_are_live = all_live k connection (live_files k numbers) (live_there k connection numbers may.0)

  pub taken_so : (bytes : ContentRef → List ℕ) (files : List FlowFile) (contents : List (Option (List ℕ))) → files ≡ live_files k numbers → AreReadOf bytes (files_fit_a_content files) files contents
      → AreTaken k connection numbers bytes files contents
  taken_so bytes files contents are read = record { active = may.0; distinct = may.1; are = are; read = read }

-- ---- the job of a session

-- .. by what the session takes
abbrev with_taking : Taking → InFlight → InFlight
with_taking taking flight = record flight { choice = record flight.choice { taking = taking } }

pub handed_as : (k : Kept) (flight : InFlight) (taking : Taking) (job : Job) → flight.choice.taking ≡ taking → JobIsHanded k (with_taking taking flight) job → JobIsHanded k flight job
handed_as k flight taking job takes handed = subst (λ (t : Taking). JobIsHanded k (with_taking t flight) job) (sym takes) handed

none_taken : (k : Kept) → AreTaken k 0 [] (λ at. []) [] []
none_taken k = record { active = refl; distinct = refl; are = refl; read = tt }

abbrev without_files : InFlight → Given → Job
without_files flight given =
    record { session = flight.session; processor = flight.choice.processor; connection = 0; numbers = []; files = []; contents = []; given = given }

pub handed_index : (k : Kept) (index : ℕ) (flight : InFlight) (job : Job) → flight.choice.taking ≡ Generate index
    → job ≡ without_files flight (record { moment = flight.moment; index = index; there = false; file = None; bytes = None }) → JobIsHanded k flight job
handed_index k index flight job takes is =
    subst (λ (j : Job). JobIsHanded k flight j) (sym is)
    (handed_as k flight (Generate index) (without_files flight (record { moment = flight.moment; index = index; there = false; file = None; bytes = None })) takes
    (record { session = refl; processor = refl; connection = refl; numbers = refl; given = refl; has = refl; bytes = λ at. []; taken = none_taken k }))

pub handed_name : (k : Kept) (name file bytes : List ℕ) (flight : InFlight) (job : Job) → flight.choice.taking ≡ Receive name → file ≡ name → length bytes ≤ CONTENT_MAX
    → job ≡ without_files flight (record { moment = flight.moment; index = 0; there = false; file = Some file; bytes = Some bytes }) → JobIsHanded k flight job
handed_name k name file bytes flight job takes same most is =
    let as_named : job ≡ without_files flight (record { moment = flight.moment; index = 0; there = false; file = Some name; bytes = Some bytes }) =
    is ∙ ap (λ (n : List ℕ). without_files flight (record { moment = flight.moment; index = 0; there = false; file = Some n; bytes = Some bytes })) same in
    subst (λ (j : Job). JobIsHanded k flight j) (sym as_named)
    (handed_as k flight (Receive name) (without_files flight (record { moment = flight.moment; index = 0; there = false; file = Some name; bytes = Some bytes })) takes
    (record { session = refl; processor = refl; connection = refl; numbers = refl; given = refl; has = most; bytes = λ at. []; taken = none_taken k }))

-- one that takes no files is told no
pub told_without_files : (tells in_tells out_tells : Bool) (flow : Flow) (k : Kept) (contents : ContentRef → List ℕ) (left : List NamedFile) (standing : List ℕ → Option (List ℕ)) (flight : InFlight) (given : Given) (job : Job)
    → job ≡ without_files flight given → given.there ≡ false → (IsTrue in_tells → HasBytesOf left flight.choice.taking given.bytes)
    → IsHandedAs tells in_tells out_tells flow k contents left standing flight.choice job
told_without_files tells in_tells out_tells flow k contents left standing flight given job is untold bytes =
    subst (λ (j : Job). IsHandedAs tells in_tells out_tells flow k contents left standing flight.choice j) (sym is)
    (record {
      read = λ telling. record { active = refl; distinct = refl; are = refl; read = tt };
      received = bytes;
      there = λ telling world same. untold ∙ none_there flow flight.choice.processor world standing contents [] refl;
      unasked = λ unasked. untold;
    })

pub if_ok : {A E : Type 0} (r : Result A E) (P Q : A → Type 0) → ((a : A) → P a → Q a) → IfOk r P → IfOk r Q
if_ok (Ok a) P Q to is = to a is
if_ok (Err e) P Q to is = tt
