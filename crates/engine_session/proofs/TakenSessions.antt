-- What may still be taken is a session of the machine.
use Rattle.std.proofs.Common.{◌≡◌, ℕ, ◌+◌, ◌==◌, Bool, true, false, cond, List, [], map, refl, ap, ◌∙◌}
use Rattle.std.specs.Prelude.{Contains, Option, None, Some, filter, find, is_some, nat_le, slice_index, bytes_eq}
use Rattle.std.proofs.lemmas.Bool.{and_from, eq-eqb, le-leb, true≢false}
use Rattle.flowfile_record.specs.NamedFile.{bytes_of}
use Rattle.flowfile_record.specs.Stored.{Kept}
use Rattle.flowfile_record.specs.declared.content.ContentRef.{ContentRef}
use Rattle.flowfile_record.specs.declared.event.Event.{Event}
use Rattle.machine_model.specs.declared.flow.Flow.{Flow}
use Rattle.machine_model.specs.declared.given.Given.{Given}
use Rattle.machine_model.specs.declared.kind.Kind.{Kind}
use Rattle.machine_model.specs.declared.kind.Kind.TheVariants.{GetFile, GenerateFlowFile, PutFile}
use Rattle.machine_model.specs.declared.pattern.Pattern.{Pattern}
use Rattle.machine_model.specs.Acting.{passes}
use Rattle.machine_model.specs.Changing.{queued_file}
use Rattle.machine_model.specs.Kinds.{is_source, take_rule_of}
use Rattle.machine_model.specs.Laws.{OneConnectionHas}
use Rattle.machine_model.specs.State.{QueuedFile, State, World}
use Rattle.machine_model.specs.Stepping.{given_in, is_there, may_generate, may_get, same_bool, taken_files}
use Rattle.machine_model.proofs.Among.{among_contained, kept_by}
use Rattle.store_core.specs.State.{state_with}
use Rattle.store_core.specs.Valid.{KeptIsValid, LiveFilesAreQueued, QueuedFilesAreLive}
use Rattle.engine_change.proofs.Expiring as change
use Rattle.engine_queues.specs.Views.{HaveSizes}
use Rattle.engine_choice.specs.declared.choice.Taking.{Taking}
use Rattle.engine_choice.specs.declared.choice.Taking.TheVariants.{Files, Generate, Receive}
use Rattle.engine_choice.specs.Choice.{coming_of, fits_content}
use Rattle.engine_choice.specs.Laws.{given_for, numbers_in}
use Rattle.engine_choice.proofs.Found.{each-among}
use Rattle.engine_choice.proofs.Sessions.{stands-among}
use Rattle.engine_session.specs.Handing.{live_files}
use Rattle.engine_session.specs.Taken.{IsAmong, IsNextIndex, MayStillGet, MayStillMake, MayStillTake, TakenAreSessions}
use Rattle.engine_session.proofs.StillThere.{seen_in, takes_files, there_taken}

-- ---- names

may_be_got : (filter : Option Pattern) (world : World) (name : List ℕ) → passes filter name ≡ true → Contains (coming_of world) name → may_get filter world name ≡ true
may_be_got filter world name passing comes =
    let among = λ (name : List ℕ). is_some (find (bytes_eq name) world.left) ≡ true in
    let it = kept_by (fits_content world) world.left name (among_contained name (coming_of world) comes) in
    and_from _ (fits_content world name)
    (and_from (is_some (find (bytes_eq name) world.left)) (passes filter name) (each-among among name world.left (stands-among world.left) it.0) passing) it.1

-- ---- what a session is given

same_same : (b : Bool) → same_bool b b ≡ true
same_same true = refl
same_same false = refl

given_files : (kind : Kind) (place : ℕ) (state : State) (world : World) (files : List QueuedFile) (given : Given) → is_source kind ≡ false → given.there ≡ is_there world files
    → given_in kind place state world files given ≡ Some given
given_files (GetFile filter) place state world files given other there = absurd (true≢false other)
given_files (GenerateFlowFile count text) place state world files given other there = absurd (true≢false other)
given_files (PutFile conflict) place state world files given other there =
    ap (λ b. cond (same_bool b (is_there world files)) (Some given) None) there ∙ ap (λ b. cond b (Some given) None) (same_same (is_there world files))
given_files kind place state world files given other there = refl

-- the rule of its kind lets it take these files, and what it is given stands in the state and the world
record IsHandled (flow : Flow) (state : State) (world : World) (moment place : ℕ) (kind : Kind) (taking : Taking) : Type 0 where
  files : List QueuedFile
  handed : Given
  taken : taken_files flow state place (take_rule_of kind) (numbers_in taking) moment ≡ Some files
  given : given_in kind place state world files (given_for moment (is_there world files) taking) ≡ Some handed

makes_next : (flow : Flow) (state : State) (world : World) (moment place : ℕ) (kind : Kind) (index : ℕ) → MayStillMake kind index → index ≡ slice_index state.counts place + 1
    → IsHandled flow state world moment place kind (Generate index)
makes_next flow state world moment place (GenerateFlowFile count text) index may next =
    let here : (index == slice_index state.counts place + 1) ≡ true = eq-eqb index (slice_index state.counts place + 1) next in
    let within : nat_le index count ≡ true = le-leb index count may.1 in
    let tests : may_generate count (slice_index state.counts place) index ≡ true = and_from (index == slice_index state.counts place + 1) (nat_le index count) here within in
    record {
      files = [];
      handed = given_for moment (is_there world []) (Generate index);
      taken = refl;
      given = ap (λ b. cond b (Some (given_for moment (is_there world []) (Generate index))) None) tests;
    }
makes_next flow state world moment place kind index may next = absurd may

gets_name : (flow : Flow) (state : State) (world : World) (moment place : ℕ) (kind : Kind) (name : List ℕ) → MayStillGet kind name → Contains (coming_of world) name
    → IsHandled flow state world moment place kind (Receive name)
gets_name flow state world moment place (GetFile filter) name may comes =
    let given : Given = record (given_for moment (is_there world []) (Receive name)) { bytes = bytes_of world.inbox name } in
    record {
      files = [];
      handed = given;
      taken = refl;
      given = ap (λ b. cond b (Some given) None) (may_be_got filter world name may comes);
    }
gets_name flow state world moment place kind name may comes = absurd may

module _ (one_has : OneConnectionHas) (contents : ContentRef → List ℕ) (events : List Event) (k : Kept) (seen : change.Seen contents events k) (sizes : HaveSizes contents k) (world : World) (moment place : ℕ) where
  abbrev state : State
  state = state_with contents events k

  is_handled : (kind : Kind) (taking : Taking) → MayStillTake seen.flow k moment place kind taking → IsNextIndex k.counts place taking → IsAmong (coming_of world) taking
      → IsHandled seen.flow state world moment place kind taking
  is_handled kind (Files connection numbers) (other, there) next comes =
      let files = map (queued_file contents) (live_files k numbers) in
      let given = given_for moment (is_there world files) (Files connection numbers) in
      record {
        files = files;
        handed = given;
        taken = there_taken contents events k seen sizes one_has place (take_rule_of kind) moment connection numbers (takes_files kind other) there;
        given = given_files kind place state world files given other refl;
      }
  is_handled kind (Generate index) may next comes = makes_next seen.flow state world moment place kind index may next
  is_handled kind (Receive name) may next comes = gets_name seen.flow state world moment place kind name may comes

pub taken-are-sessions : OneConnectionHas → KeptIsValid → LiveFilesAreQueued → QueuedFilesAreLive → TakenAreSessions
taken-are-sessions one_has valid queued live flow contents events k world moment choice sound consistent none same up_to sizes takes next comes =
    let seen = seen_in valid queued live flow contents events k consistent none same up_to in
    let it = is_handled one_has contents events k seen sizes world moment choice.processor takes.processor.kind choice.taking takes.takes next comes in
    record { processor = takes.processor; files = it.files; handed = it.handed; found = takes.there; taken = it.taken; given = it.given }
