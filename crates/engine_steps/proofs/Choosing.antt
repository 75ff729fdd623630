-- An engine's choice is a step of the machine.
use Rattle.std.proofs.Common.{◌≡◌, ℕ, Bool, true, false, List, [], ◌∷◌, length, map, refl, sym, ◌∙◌, ap, subst, arith, true≢false}
use Rattle.std.proofs.lemmas.Bool.{and_parts}
use Rattle.std.proofs.lemmas.List.{length-map}
use Rattle.std.specs.Prelude.{Option, None, Some, IfSome, nat_le, slice_get, slice_index}
use Rattle.std.specs.Option.{option_map, option_map_or}
use Rattle.disk_trait.specs.Files.{Files}
use Rattle.flowfile_record.specs.NamedFile.{bytes_of}
use Rattle.flowfile_record.specs.declared.TheConstants.{CONTENT_MAX}
use Rattle.flowfile_record.specs.declared.worked.Origin.TheVariants.{Received}
use Rattle.flowfile_record.specs.declared.worked.Outcome.{Outcome}
use Rattle.checkpoint_store.specs.Consistent.{IsConsistent}
use Rattle.content_repo.specs.Claims.{content_in}
use Rattle.machine_model.specs.declared.flow.Flow.{Flow}
use Rattle.machine_model.specs.declared.given.Given.{Given}
use Rattle.machine_model.specs.declared.journal.Step.{Step}
use Rattle.machine_model.specs.declared.journal.Step.TheVariants.{Session}
use Rattle.machine_model.specs.declared.kind.Kind.{Kind}
use Rattle.machine_model.specs.declared.kind.Kind.TheVariants.{GetFile, GenerateFlowFile, PutFile, UpdateAttribute, RouteOnAttribute, AttributesToJson, DuplicateFlowFile, CryptographicHashContent, SplitText, ReplaceText, ExtractText, RouteOnContent, MergeContent, SegmentContent, ModifyBytes}
use Rattle.machine_model.specs.declared.pattern.Pattern.{Pattern}
use Rattle.machine_model.specs.Acting.{act, generated, name_in, put, received, received_attributes}
use Rattle.machine_model.specs.Making.{TakenFile, alone, made_file}
use Rattle.machine_model.specs.UpdateAttribute.{update}
use Rattle.machine_model.specs.RouteOnAttribute.{route}
use Rattle.machine_model.specs.AttributesToJson.{attributes_to_json}
use Rattle.machine_model.specs.DuplicateFlowFile.{duplicate}
use Rattle.machine_model.specs.CryptographicHashContent.{hash_content}
use Rattle.machine_model.specs.SplitText.{split}
use Rattle.machine_model.specs.ReplaceText.{replace_text}
use Rattle.machine_model.specs.ExtractText.{extract_text}
use Rattle.machine_model.specs.RouteOnContent.{route_by_content}
use Rattle.machine_model.specs.MergeContent.{merge}
use Rattle.machine_model.specs.SegmentContent.{segment}
use Rattle.machine_model.specs.ModifyBytes.{modify}
use Rattle.machine_model.specs.Due.{due_expiry}
use Rattle.machine_model.specs.Files.{queues_of}
use Rattle.machine_model.specs.Kinds.{take_rule_of}
use Rattle.machine_model.specs.Laws.{MayTake}
use Rattle.machine_model.specs.Placing.{EndedSession}
use Rattle.machine_model.specs.State.{Machine, QueuedFile, State, World}
use Rattle.machine_model.specs.Stepping.{as_taken, given_in, is_there, may_generate, may_get, same_bool, session_after, step, taken_files}
use Rattle.machine_model.specs.Valid.{IsValid}
use Rattle.machine_model.specs.View.{QueueView}
use Rattle.machine_model.proofs.Options.{if_and_then, if_at, if_when}
use Rattle.machine_model.proofs.Took.{Took, taken-took}
use Rattle.flow_queue.specs.Queue.{QueueState}
use Rattle.store_core.specs.Flow as store
use Rattle.store_core.specs.Flow.{flow_in}
use Rattle.store_core.specs.Store.{FilesHold, StoreState, kept_by}
use Rattle.engine_change.specs.Committing.{identity_of}
use Rattle.engine_queues.specs.Beside.{beside}
use Rattle.engine_queues.specs.Laws.{HeldContentsHaveSizes, QueuesAreSeen, SeesTheSame}
use Rattle.engine_queues.specs.Queues.{AreQueuesOf, queue_seen}
use Rattle.engine_choice.specs.Choice.{coming_of, known_alone, known_by, next_choice}
use Rattle.engine_choice.specs.Laws.{ChoicesAreSeen, ChoicesAreSessions, IsSessionAt, given_for, numbers_in}
use Rattle.engine_choice.specs.declared.choice.Choice.{Choice}
use Rattle.engine_choice.specs.declared.choice.Taking.{Taking}
use Rattle.engine_choice.specs.declared.choice.Taking.TheVariants as taking
use Rattle.engine_session.specs.Steps.{SessionsAreSteps}
use Rattle.run_law.specs.Run.{IsStateOf}
use Rattle.run_law.specs.Turns.{ComesNext, step_moment}
use Rattle.engine_steps.specs.Checkout.{choice_in}
use Rattle.engine_steps.specs.Flights.{busy_by, given_back, names_to_come, taken_by}
use Rattle.engine_steps.specs.Showing.{EngineShowsState}
use Rattle.engine_steps.specs.declared.flight.InFlight.{InFlight}
use Rattle.engine_queues.specs.Listing.{names_left}
use Rattle.engine_queues.proofs.Besides.{none-is-out}
use Rattle.engine_choice.proofs.ForCallers.{alone_known}
use Rattle.engine_steps.specs.Engine.{EngineState}

-- ---- the queues are the machine's

-- beside the sessions in flight
sees : QueuesAreSeen → HeldContentsHaveSizes → (flow : Flow) (s : StoreState) (files : Files) (out : List ℕ) (queues : List QueueState) (m : Machine) → FilesHold s files → IsConsistent (kept_by s)
    → flow_in (kept_by s) ≡ identity_of flow → AreQueuesOf flow (kept_by s) out queues → IsStateOf m (content_in files) (kept_by s) → SeesTheSame flow (queue_seen queues) (beside out (queues_of m.state))
sees law sizes flow s files out queues m holds consistent flow_is are tied =
    let count : length (kept_by s).connections ≡ length flow.connections = ap (λ (f : store.Flow). length f.connections) flow_is ∙ length-map flow.connections (λ c. c.id) in
    subst (λ (t : State). SeesTheSame flow (queue_seen queues) (beside out (queues_of t))) tied.is
    (law flow (content_in files) m.state.events (kept_by s) out queues consistent (sizes s files holds) count are)

-- ---- a choice is a step

-- a session of this moment comes next behind this last worker, and the machine goes on by it
pub record HasStep (flow : Flow) (last : Option ℕ) (moment : ℕ) (m : Machine) : Type 0 where
  pub next : Step
  pub at : step_moment next ≡ moment
  pub comes : ComesNext flow last m next
  pub after : Machine
  pub goes : step flow m next ≡ Some after

record HasOutcome (kind : Kind) (state : State) (files : List QueuedFile) (handed : Given) : Type 0 where
  outcome : Outcome
  is : act kind (map (as_taken state) files) handed ≡ Some outcome

-- a name and bytes are made a file
received_is : (filter : Option Pattern) (state : State) (files : List QueuedFile) (handed : Given) (name : List ℕ) (file bytes : Option (List ℕ)) → handed.file ≡ file → handed.bytes ≡ bytes → file ≡ Some name
    → option_map_or (λ (b : List ℕ). nat_le (length b) CONTENT_MAX) bytes false ≡ true → HasOutcome (GetFile filter) state files handed
received_is filter state files handed name None bytes file_is bytes_is is fits = absurd cc
received_is filter state files handed name (Some n) None file_is bytes_is is fits = absurd (true≢false (sym fits))
received_is filter state files handed name (Some n) (Some b) file_is bytes_is is fits = record {
  outcome = alone (made_file Received (received_attributes n) b false 0);
  is = ap (λ (o : Option (List ℕ)). received o handed.bytes) file_is ∙ ap (received (Some n)) bytes_is;
}

-- a kind that makes something of its one file, whatever it is given
one_outcome : (kind : Kind) (makes : TakenFile → Outcome) → ((taken : List TakenFile) (given : Given) → act kind taken given ≡ option_map makes (slice_get taken 0)) → (state : State) (files : List QueuedFile) (given : Given) → length files ≡ 1
    → HasOutcome kind state files given
one_outcome kind makes acts state [] given one = absurd (omega (arith, one))
one_outcome kind makes acts state (file ∷ more) given one = record { outcome = makes (as_taken state file); is = acts (map (as_taken state) (file ∷ more)) given }

-- what a processor is handed makes an outcome
module _ (place : ℕ) (state : State) (world : World) (files : List QueuedFile) (given : Given) where
  outcome_in : (kind : Kind) → MayTake (take_rule_of kind) (length files) → IfSome (given_in kind place state world files given) (HasOutcome kind state files)
  outcome_in (GetFile filter) many =
      if_and_then _ given.file (HasOutcome (GetFile filter) state files)
      (λ name is. if_when (may_get filter world name) (record given { bytes = bytes_of world.inbox name }) (HasOutcome (GetFile filter) state files)
      (λ may.
      received_is filter state files (record given { bytes = bytes_of world.inbox name }) name given.file (bytes_of world.inbox name) refl refl is
      (and_parts _ (option_map_or (λ (b : List ℕ). nat_le (length b) CONTENT_MAX) (bytes_of world.inbox name) false) may).1))
  outcome_in (GenerateFlowFile count text) many =
      if_when (may_generate count (slice_index state.counts place) given.index) given (HasOutcome (GenerateFlowFile count text) state files)
      (λ may. record { outcome = generated text given.index; is = refl })
  outcome_in (PutFile conflict) many =
      if_when (same_bool given.there (is_there world files)) given (HasOutcome (PutFile conflict) state files) (λ may. of_one files many)
    where
      of_one : (some : List QueuedFile) → length some ≡ 1 → HasOutcome (PutFile conflict) state some given
      of_one [] one = absurd (omega (arith, one))
      of_one (file ∷ more) one = record { outcome = put conflict given.there (as_taken state file) (name_in file.attributes); is = refl }
  outcome_in (UpdateAttribute own) many = one_outcome (UpdateAttribute own) (update own) (λ taken given. refl) state files given many
  outcome_in (RouteOnAttribute own) many = one_outcome (RouteOnAttribute own) (route own) (λ taken given. refl) state files given many
  outcome_in (AttributesToJson destination names) many = one_outcome (AttributesToJson destination names) (attributes_to_json destination names) (λ taken given. refl) state files given many
  outcome_in (DuplicateFlowFile copies) many = one_outcome (DuplicateFlowFile copies) (duplicate copies) (λ taken given. refl) state files given many
  outcome_in CryptographicHashContent many = one_outcome CryptographicHashContent hash_content (λ taken given. refl) state files given many
  outcome_in (SplitText lines) many = one_outcome (SplitText lines) (split lines) (λ taken given. refl) state files given many
  outcome_in (ReplaceText replacement) many = one_outcome (ReplaceText replacement) (replace_text replacement) (λ taken given. refl) state files given many
  outcome_in (ExtractText own) many = one_outcome (ExtractText own) (extract_text own) (λ taken given. refl) state files given many
  outcome_in (RouteOnContent requirement own) many = one_outcome (RouteOnContent requirement own) (route_by_content own) (λ taken given. refl) state files given many
  outcome_in (MergeContent strategy minimum maximum) many = record { outcome = merge strategy (map (as_taken state) files); is = refl }
  outcome_in (SegmentContent size) many = one_outcome (SegmentContent size) (segment size) (λ taken given. refl) state files given many
  outcome_in (ModifyBytes start end) many = one_outcome (ModifyBytes start end) (modify start end) (λ taken given. refl) state files given many

no_bytes : (moment : ℕ) (there : Bool) (takes : Taking) → (given_for moment there takes).bytes ≡ None
no_bytes moment there (taking.Files connection numbers) = refl
no_bytes moment there (taking.Generate index) = refl
no_bytes moment there (taking.Receive name) = refl

at_moment : (moment : ℕ) (there : Bool) (takes : Taking) → record (given_for moment there takes) { moment = moment } ≡ given_for moment there takes
at_moment moment there (taking.Files connection numbers) = refl
at_moment moment there (taking.Generate index) = refl
at_moment moment there (taking.Receive name) = refl

there_for : (moment : ℕ) (there : Bool) (takes : Taking) → given_for moment (given_for moment there takes).there takes ≡ given_for moment there takes
there_for moment there (taking.Files connection numbers) = refl
there_for moment there (taking.Generate index) = refl
there_for moment there (taking.Receive name) = refl

-- a session that comes next is one
session_step : SessionsAreSteps → (flow : Flow) (last : Option ℕ) (m : Machine) (moment : ℕ) (choice : Choice) → due_expiry flow (queues_of m.state) moment ≡ None
    → next_choice flow (known_alone (queues_of m.state) m.state.counts (coming_of m.world) moment) last ≡ Some choice → IsSessionAt flow m.state m.world moment choice → HasStep flow last moment m
session_step law flow last m moment choice nothing chosen s =
    let kind = s.processor.kind in
    let given : Given = given_for moment (is_there m.world s.files) choice.taking in
    let took = if_at (taken_files flow m.state choice.processor (take_rule_of kind) (numbers_in choice.taking) moment) s.files (Took m.state (take_rule_of kind)) s.taken
    (taken-took flow m.state choice.processor (take_rule_of kind) (numbers_in choice.taking) moment) in
    let makes = if_at (given_in kind choice.processor m.state m.world s.files given) s.handed (HasOutcome kind m.state s.files) s.given
    (outcome_in choice.processor m.state m.world s.files given kind took.many_enough) in
    let session : EndedSession = record { flow = flow; place = choice.processor; processor = s.processor; state = m.state; taken = s.files; given = s.handed } in
    record {
      next = Session choice.processor (numbers_in choice.taking) moment given;
      at = refl;
      comes = record {
        expired = nothing;
        choice = choice;
        chosen = chosen;
        place_is = refl;
        numbers_are = refl;
        given_is = there_for moment (is_there m.world s.files) choice.taking;
      };
      after = session_after m session makes.outcome;
      goes = law m.world (numbers_in choice.taking) moment given session makes.outcome (record {
        processor = s.found;
        no_bytes = no_bytes moment (is_there m.world s.files) choice.taking;
        taken = s.taken;
        handed = ap (given_in kind choice.processor m.state m.world s.files) (at_moment moment (is_there m.world s.files) choice.taking) ∙ s.given;
        worked = makes.is;
      });
    }

-- where no session is in flight, the queues are seen as the machine's
seen_at_rest : (e : EngineState) (m : Machine) → e.out ≡ [] → SeesTheSame e.flow (queue_seen e.queues) (beside (taken_by e.out) (queues_of m.state)) → SeesTheSame e.flow (queue_seen e.queues) (queues_of m.state)
seen_at_rest e m alone seen =
    subst (λ (views : ℕ → QueueView). SeesTheSame e.flow (queue_seen e.queues) views) (ap (λ (out : List InFlight). beside (taken_by out) (queues_of m.state)) alone ∙ none-is-out (queues_of m.state)) seen

-- .. and so the machine goes on where one comes, none is in flight and no file has expired
pub goes_on : ChoicesAreSessions → ChoicesAreSeen → SessionsAreSteps → (e : EngineState) (m : Machine) (moment : ℕ) (choice : Choice) → e.out ≡ [] → IsValid e.flow m.state
    → SeesTheSame e.flow (queue_seen e.queues) (beside (taken_by e.out) (queues_of m.state)) → (kept_by e.store).counts ≡ m.state.counts → coming_of m.world ≡ names_to_come e
    → due_expiry e.flow (queue_seen e.queues) moment ≡ None → choice_in e moment ≡ Some choice → HasStep e.flow e.last moment m
goes_on choices seen_so steps e m moment choice alone valid seen counts coming nothing is =
    let k = kept_by e.store in
    let known = known_alone (queue_seen e.queues) m.state.counts (coming_of m.world) moment in
    let at_rest = seen_at_rest e m alone seen in
    let left : coming_of m.world ≡ names_left e.listing = coming ∙ ap (λ (out : List InFlight). names_left (given_back out e.listing)) alone in
    let chosen : next_choice e.flow known e.last ≡ Some choice =
    ap (λ (made : List ℕ). next_choice e.flow (known_alone (queue_seen e.queues) made (coming_of m.world) moment) e.last) (sym counts)
    ∙ ap (λ (names : List (List ℕ)). next_choice e.flow (known_alone (queue_seen e.queues) k.counts names moment) e.last) left
    ∙ sym (ap (λ (out : List InFlight). next_choice e.flow (known_by e.queues k.counts (busy_by e.flow out) e.listing moment) e.last) alone) ∙ is in
    session_step steps e.flow e.last m moment choice (sym (at_rest.expiry moment) ∙ nothing)
    (sym (seen_so e.flow known (queues_of m.state) e.last at_rest) ∙ chosen)
    (choices e.flow m.state m.world [] known e.last choice valid (alone_known e.flow m.state m.world (queue_seen e.queues) moment at_rest) chosen).0

-- ---- an engine shows the machine's state

pub shown : QueuesAreSeen → HeldContentsHaveSizes → (e : EngineState) (s : StoreState) (files : Files) (m : Machine) → s ≡ e.store → flow_in (kept_by e.store) ≡ identity_of e.flow
    → AreQueuesOf e.flow (kept_by e.store) (taken_by e.out) e.queues → FilesHold s files → IsConsistent (kept_by s) → IsStateOf m (content_in files) (kept_by s) → EngineShowsState e m
shown law sizes e s files m is flow queues holds consistent tied =
    let same = subst (λ (t : StoreState). IsStateOf m (content_in files) (kept_by t)) is tied in
    record {
      seen = sees law sizes e.flow e.store files (taken_by e.out) e.queues m (subst (λ (t : StoreState). FilesHold t files) is holds) (subst (λ (t : StoreState). IsConsistent (kept_by t)) is consistent) flow queues same;
      counts = ap (λ (t : State). t.counts) same.is;
    }
