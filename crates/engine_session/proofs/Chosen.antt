-- What the session takes that comes next, it may take, and none of it is in flight.
use Rattle.std.proofs.Common.{◌≡◌, inl, ℕ, zero, suc, ◌+◌, ◌==◌, ◌<◌, nat_lt, Bool, true, false, cond, List, [], ◌∷◌, length, map, take, drop, refl, sym, ap, subst, ◌∙◌, arith}
use Rattle.std.specs.Prelude.{All, Option, None, Some, filter, find, is_some, not, option_and_then, option_map, slice_get, slice_index}
use Rattle.std.specs.List.{enumerate_from, range_with_len}
use Rattle.std.proofs.lemmas.Bool.{and_parts, eqb-true, ltb-true}
use Rattle.std.proofs.lemmas.List.Elements.{All-cons, All-nil}
use Rattle.flowfile_record.specs.Stored.{Kept}
use Rattle.flowfile_record.specs.declared.content.ContentRef.{ContentRef}
use Rattle.flowfile_record.specs.declared.event.Event.{Event}
use Rattle.flowfile_record.specs.declared.event.EventKind.TheVariants as event
use Rattle.flowfile_record.specs.declared.stored.ActiveFile.{ActiveFile}
use Rattle.record_codec.specs.ActiveFile.{active}
use Rattle.checkpoint_store.specs.Consistent.{IsConsistent}
use Rattle.kept_state.specs.Applied.{active_number}
use Rattle.kept_state.specs.Fits.{active_of, are_active_in}
use Rattle.expr_lang.specs.declared.syntax.Expr.{Expr}
use Rattle.machine_model.specs.declared.flow.Connection.{Connection}
use Rattle.machine_model.specs.declared.flow.Flow.{Flow}
use Rattle.machine_model.specs.declared.flow.Processor.{Processor}
use Rattle.machine_model.specs.declared.kind.Kind.{Kind}
use Rattle.machine_model.specs.declared.kind.Kind.TheVariants.{GetFile, GenerateFlowFile}
use Rattle.machine_model.specs.declared.kind.TakeRule.{TakeRule}
use Rattle.machine_model.specs.declared.kind.TakeRule.TheVariants.{Source}
use Rattle.machine_model.specs.declared.pattern.Pattern.{Pattern}
use Rattle.machine_model.specs.Acting.{passes}
use Rattle.machine_model.specs.Due.{at_place, numbers_of}
use Rattle.machine_model.specs.Files.{queues_of}
use Rattle.machine_model.specs.Kinds.{is_source, take_rule_of}
use Rattle.machine_model.specs.Laws.{OneConnectionHas, PicksMayBeTaken}
use Rattle.machine_model.specs.Order.{eligible_files}
use Rattle.machine_model.specs.Quiet.{is_held_back}
use Rattle.machine_model.specs.State.{State}
use Rattle.machine_model.specs.Taking.{picks}
use Rattle.machine_model.specs.View.{FileView, QueueView}
use Rattle.machine_model.proofs.Among.{Among, is_made, kept_by}
use Rattle.machine_model.proofs.Options.{if_at}
use Rattle.machine_model.proofs.Tally.{find-passes}
use Rattle.flow_queue.specs.Queue.{QueueState}
use Rattle.store_core.specs.Flow.{flow_in}
use Rattle.store_core.specs.State.{live_contents, state_with}
use Rattle.store_core.specs.Valid.{KeptIsValid, LiveFilesAreQueued, QueuedFilesAreLive}
use Rattle.engine_change.specs.Committing.{AreEventsUpTo, identity_of}
use Rattle.engine_change.proofs.Expiring as change
use Rattle.engine_queues.specs.Beside.{beside, file_beside, is_out}
use Rattle.engine_queues.specs.Laws.{SeesTheSame}
use Rattle.engine_queues.specs.Listing.{names_left}
use Rattle.engine_queues.specs.Picking.{first_pick, picked_from}
use Rattle.engine_queues.specs.Queues.{AreQueuesOf, queue_seen}
use Rattle.engine_queues.specs.Views.{HaveSizes, kept_queues, kept_views, view_of_kept}
use Rattle.engine_queues.proofs.Shown.{queues-seen, queues-shown}
use Rattle.engine_choice.specs.declared.choice.Choice.{Choice}
use Rattle.engine_choice.specs.declared.choice.Taking.{Taking}
use Rattle.engine_choice.specs.declared.choice.Taking.TheVariants.{Files, Generate, Receive}
use Rattle.engine_choice.specs.Choice.{Known, choice_at, choice_of, in_turn, is_ready, known_by, may_begin, next_choice, place_behind, taking_by, taking_of}
use Rattle.engine_choice.specs.Laws.{numbers_in}
use Rattle.engine_choice.proofs.Found.{Each, Stands, each-append, each-drop, each-stands, each-take, found, given-by}
use Rattle.engine_choice.proofs.Sessions.{picks-taken}
use Rattle.engine_session.specs.Taken.{AreStillThere, ChosenAreTaken, IsFirstName, IsNextIndex, MayStillTake}
use Rattle.engine_session.proofs.Lookups.{live_head}
use Rattle.engine_session.proofs.Picks.{AreAmong, eligible_among, picks_among}
use Rattle.engine_session.proofs.StillThere.{seen_in, some_admitted, taken_there, takes_files}

-- ---- contents and events of a state that is kept

abbrev zeros : ℕ → List ℕ
zeros zero = []
zeros (suc n) = 0 ∷ zeros n

zeros_long : (n : ℕ) → length (zeros n) ≡ n
zeros_long zero = refl
zeros_long (suc n) = ap suc (zeros_long n)

-- as many zeros as a reference says
abbrev contents_of : ContentRef → List ℕ
contents_of at = zeros at.size

contents_long : (contents : List ContentRef) → All (λ at. length (contents_of at) ≡ at.size) contents
contents_long [] = All-nil (λ at. length (contents_of at) ≡ at.size)
contents_long (at ∷ contents) = All-cons (λ at. length (contents_of at) ≡ at.size) at contents (zeros_long at.size) (contents_long contents)

abbrev event_numbered : ℕ → Event
event_numbered number = record {
  number = number;
  kind = event.Expire;
  moment = 0;
  component = [];
  file = 0;
  parents = [];
  children = [];
  detail = [];
  size = 0;
  digest = [];
}

-- events with numbers in a row
abbrev events_from : (first count : ℕ) → List Event
events_from first zero = []
events_from first (suc count) = event_numbered first ∷ events_from (first + 1) count

events_count : (first count : ℕ) → length (events_from first count) ≡ count
events_count first zero = refl
events_count first (suc count) = ap suc (events_count (first + 1) count)

events_numbered : (first count : ℕ) → map (λ (e : Event). e.number) (events_from first count) ≡ range_with_len first count
events_numbered first zero = refl
events_numbered first (suc count) = ap (λ (numbers : List ℕ). first ∷ numbers) (events_numbered (first + 1) count)

up_to : (last : ℕ) → AreEventsUpTo last (events_from 1 last)
up_to last = (events_count 1 last, events_numbered 1 last ∙ ap (range_with_len 1) (sym (events_count 1 last)))

-- ---- which processor comes next

-- it takes this, and one more session of it may be in flight
record Comes (flow : Flow) (known : Known) (choice : Choice) : Type 0 where
  processor : Processor
  there : slice_get flow.processors choice.processor ≡ Some processor
  taking : taking_of flow known (choice.processor, processor) ≡ Some choice.taking
  task : slice_index known.busy choice.processor < processor.tasks

record AreParts (place : ℕ) (taken : Option Taking) (choice : Choice) : Type 0 where
  processor : place ≡ choice.processor
  taking : taken ≡ Some choice.taking

choice_parts : (begins : Bool) (place : ℕ) (taking : Option Taking) (choice : Choice)
    → cond begins (option_map (choice_at place) taking) None ≡ Some choice → AreParts place taking choice
choice_parts false place taking choice is = cc
choice_parts true place None choice is = cc
choice_parts true place (Some taking) choice is =
    let same : choice_at place taking ≡ choice = cc in
    record { processor = ap (λ c. c.processor) same; taking = ap (λ c. Some c.taking) same }

module _ (flow : Flow) (known : Known) where
  turns : (last : Option ℕ) → Each (Stands flow.processors) (in_turn last (enumerate_from 0 flow.processors))
  turns last =
      let all = enumerate_from 0 flow.processors in
      let each = each-stands flow.processors in
      each-append (Stands flow.processors) (drop (place_behind last) all) (take (place_behind last) all)
      (each-drop (Stands flow.processors) (place_behind last) all each) (each-take (Stands flow.processors) (place_behind last) all each)

  by_found : (last : Option ℕ) (choice : Choice) (o : Option (ℕ × Processor)) → find (is_ready flow known) (in_turn last (enumerate_from 0 flow.processors)) ≡ o
      → option_and_then (choice_of flow known) o ≡ Some choice → Comes flow known choice
  by_found last choice None e is = cc
  by_found last choice (Some (place, processor)) e is =
      let parts = choice_parts (may_begin flow known (place, processor)) place (taking_of flow known (place, processor)) choice is in
      let it = found (Stands flow.processors) (is_ready flow known) (in_turn last (enumerate_from 0 flow.processors)) (place, processor) (turns last) e in
      let ready = and_parts (is_some (taking_of flow known (place, processor))) (may_begin flow known (place, processor)) it.1 in
      let begins = and_parts (nat_lt (slice_index known.busy place) processor.tasks) (not (is_held_back flow known.queues (place, processor))) ready.1 in
      record {
        processor = processor;
        there = ap (slice_get flow.processors) (sym parts.processor) ∙ it.0;
        taking = ap (λ n. taking_of flow known (n, processor)) (sym parts.processor) ∙ parts.taking;
        task = subst (λ n. slice_index known.busy n < processor.tasks) parts.processor (ltb-true (slice_index known.busy place) processor.tasks begins.0);
      }

  comes : (last : Option ℕ) (choice : Choice) → next_choice flow known last ≡ Some choice → Comes flow known choice
  comes last choice is = by_found last choice (find (is_ready flow known) (in_turn last (enumerate_from 0 flow.processors))) refl is

-- ---- the connection of what is picked

-- the live file of a number that was picked is in the connection
record IsPicked (k : Kept) (connection number : ℕ) : Type 0 where
  file : ActiveFile
  found : active_of number k.files ≡ Some file
  place : file.connection ≡ connection

module _ (k : Kept) (out : List ℕ) (consistent : IsConsistent k) where
  is_picked : (connection number : ℕ) (view : FileView) → Among view (map (file_beside out) (kept_views k connection)) → view.number ≡ number → IsPicked k connection number
  is_picked connection number view there named =
      let beside = is_made (file_beside out) (kept_views k connection) view there in
      let made = is_made (λ (a : ActiveFile). view_of_kept a.file) (filter (λ a. a.connection == connection) k.files) beside.source beside.there in
      let kept = kept_by (λ a. a.connection == connection) k.files made.source made.there in
      let same : active_number made.source ≡ number = ap (λ (v : FileView). v.number) made.is ∙ ap (λ (v : FileView). v.number) beside.is ∙ named in
      record {
        file = made.source;
        found = ap (λ n. active_of n k.files) (sym same) ∙ change.found_active made.source k.files consistent.numbers kept.0;
        place = eqb-true made.source.connection connection kept.1;
      }

  module _ (rule : TakeRule) (place moment connection : ℕ) (from : Connection) (queue : QueueView) (number : ℕ) (numbers : List ℕ) (shown : queue.active ≡ map (file_beside out) (kept_views k connection)) where
    abbrev eligible : List FileView
    eligible = eligible_files from.order from.limits moment queue.active

    by_files : (files : List FileView) → picks rule eligible ≡ Some files → numbers_of files ≡ number ∷ numbers → IsPicked k connection number
    by_files [] picked are = absurd cc
    by_files (view ∷ files) picked are =
        let among = if_at (picks rule eligible) (view ∷ files) (AreAmong eligible) picked (picks_among rule eligible) view (inl refl) in
        let there = eligible_among from.order from.limits moment queue.active view among in
        let named : view.number ≡ number = cc in
        is_picked connection number view (subst (λ (views : List FileView). Among view views) shown there) named

    by_target : (b : Bool) (o : Option (List FileView)) → picks rule eligible ≡ o → cond b (option_map numbers_of o) None ≡ Some (number ∷ numbers) → IsPicked k connection number
    by_target false o picked is = absurd cc
    by_target true None picked is = absurd cc
    by_target true (Some files) picked is = let are : numbers_of files ≡ number ∷ numbers = cc in by_files files picked are

    -- the first number of what a rule picks
    first_picked : picked_from rule place moment from queue ≡ Some (number ∷ numbers) → IsPicked k connection number
    first_picked is = by_target (from.target == place) (picks rule eligible) refl is

-- a connection that has a file of some is the one that they were picked from
same_place : (k : Kept) (one other number : ℕ) (numbers : List ℕ) → IsPicked k other number → are_active_in k.files one (number ∷ numbers) ≡ true → one ≡ other
same_place k one other number numbers picked all =
    let live = live_head k.files one number numbers all in
    let same : active one live.file ≡ picked.file = (let both : Some (active one live.file) ≡ Some picked.file = sym live.found ∙ picked.found in cc) in
    ap (λ (a : ActiveFile). a.connection) same ∙ picked.place

-- ---- what is picked

-- it may be taken, and is not in flight
record IsTaken (flow : Flow) (k : Kept) (out : List ℕ) (moment place : ℕ) (rule : TakeRule) (connection : ℕ) (numbers : List ℕ) : Type 0 where
  there : AreStillThere flow k moment place rule connection numbers
  at_rest : All (λ number. is_out out number ≡ false) numbers

module _ (picks_law : PicksMayBeTaken) (one_has : OneConnectionHas) (valid : KeptIsValid) (queued : LiveFilesAreQueued) (live : QueuedFilesAreLive) (flow : Flow) (k : Kept) (out : List ℕ) (queues : List QueueState)
    (consistent : IsConsistent k) (none : k.batches ≡ []) (same : flow_in k ≡ identity_of flow) (are : AreQueuesOf flow k out queues) where
  abbrev told : List Event
  told = events_from 1 k.last_event

  abbrev state : State
  state = state_with contents_of told k

  abbrev seen : change.Seen contents_of told k
  seen = seen_in valid queued live flow contents_of told k consistent none same (up_to k.last_event)

  sizes : HaveSizes contents_of k
  sizes = contents_long (live_contents k)

  shown : queue_seen queues ≡ beside out (kept_queues k)
  shown = queues-shown flow k out queues consistent (change.connections_same flow k same) are

  sees : SeesTheSame flow (queue_seen queues) (beside out (queues_of state))
  sees = queues-seen flow contents_of told k out queues consistent sizes (change.connections_same flow k same) are

  module _ (moment place : ℕ) (processor : Processor) (connection : ℕ) (numbers : List ℕ) where
    abbrev rule : TakeRule
    rule = take_rule_of processor.kind

    abbrev owes : Connection → QueueView → Option (List ℕ)
    owes = picked_from rule place moment

    first_at : (first : ℕ) (rest : List ℕ) → numbers ≡ first ∷ rest → (at : ℕ) (from : Connection) (o : Option (List ℕ)) → owes from (queue_seen queues at) ≡ o
        → option_map {U = ℕ × List ℕ} (λ x. (at, x)) o ≡ Some (connection, numbers) → IsPicked k connection first
    first_at first rest begin at from None e is = absurd cc
    first_at first rest begin at from (Some ns) e is =
        let one : ℕ × List ℕ = (at, ns) in
        let other : ℕ × List ℕ = (connection, numbers) in
        let pairs : one ≡ other = cc in
        let active : (queue_seen queues at).active ≡ map (file_beside out) (kept_views k connection) =
        ap (λ (views : ℕ → QueueView). (views at).active) shown ∙ ap (λ (p : ℕ × List ℕ). map (file_beside out) (kept_views k p.0)) pairs in
        first_picked k out consistent rule place moment connection from (queue_seen queues at) first rest active
        (e ∙ ap (λ (p : ℕ × List ℕ). Some p.1) pairs ∙ ap (λ (l : List ℕ). Some l) begin)

    pick_taken : (rule ≡ Source → ⊥) → first_pick flow (queue_seen queues) moment (place, processor) ≡ Some (connection, numbers) → IsTaken flow k out moment place rule connection numbers
    pick_taken other picked =
        let may = picks-taken picks_law one_has flow (queue_seen queues) state out moment seen.valid sees place processor connection numbers picked in
        let it = taken_there contents_of told k seen sizes place rule numbers moment may.files other may.taken in
        let some = some_admitted flow k moment place rule it.connection numbers other it.are in
        let given = given-by (Stands flow.connections) (at_place owes (queue_seen queues)) (enumerate_from 0 flow.connections) (connection, numbers) (each-stands flow.connections) picked in
        let first = first_at some.first some.rest some.are given.item.0 given.item.1 (owes given.item.1 (queue_seen queues given.item.0)) refl given.is_given in
        let at = same_place k it.connection connection some.first some.rest first (subst (λ (ns : List ℕ). are_active_in k.files it.connection ns ≡ true) some.are it.are.active) in
        record { there = subst (λ c. AreStillThere flow k moment place rule c numbers) at it.are; at_rest = may.at_rest }

-- ---- what is taken, by the kind of the processor

record IsTakenAs (flow : Flow) (k : Kept) (out : List ℕ) (moment place : ℕ) (coming : List (List ℕ)) (kind : Kind) (taking : Taking) : Type 0 where
  takes : MayStillTake flow k moment place kind taking
  at_rest : All (λ number. is_out out number ≡ false) (numbers_in taking)
  index : IsNextIndex k.counts place taking
  first : IsFirstName kind coming taking

module _ (flow : Flow) (k : Kept) (out : List ℕ) (moment place : ℕ) (coming : List (List ℕ)) (busy : ℕ) (pick : Option (ℕ × List ℕ)) where
  abbrev IsTakenHere : Kind → Taking → Type 0
  IsTakenHere kind taking = IsTakenAs flow k out moment place coming kind taking

  abbrev Picks : Kind → Type 0
  Picks kind = (connection : ℕ) (numbers : List ℕ) → is_source kind ≡ false → pick ≡ Some (connection, numbers) → IsTaken flow k out moment place (take_rule_of kind) connection numbers

  by_pick : (kind : Kind) (taking : Taking) → is_source kind ≡ false → Picks kind → (o : Option (ℕ × List ℕ)) → pick ≡ o
      → option_map (λ files. Files files.0 files.1) o ≡ Some taking → IsTakenHere kind taking
  by_pick kind taking other may None e is = absurd cc
  by_pick kind taking other may (Some (connection, numbers)) e is =
      let same : Files connection numbers ≡ taking = cc in
      let it = may connection numbers other e in
      subst (IsTakenHere kind) same (record { takes = (other, it.there); at_rest = it.at_rest; index = tt; first = tt })

  by_name : (filter : Option Pattern) (taking : Taking) (o : Option (List ℕ)) → find (passes filter) coming ≡ o → option_map (λ name. Receive name) o ≡ Some taking → IsTakenHere (GetFile filter) taking
  by_name filter taking None e is = absurd cc
  by_name filter taking (Some name) e is =
      let same : Receive name ≡ taking = cc in
      subst (IsTakenHere (GetFile filter)) same (record {
        takes = find-passes (passes filter) coming name e;
        at_rest = All-nil (λ number. is_out out number ≡ false);
        index = tt;
        first = e;
      })

  by_count : (count : ℕ) (text : Expr) (taking : Taking) (b : Bool) → nat_lt (slice_index k.counts place + busy) count ≡ b
      → cond b (Some (Generate (slice_index k.counts place + 1))) None ≡ Some taking → IsTakenHere (GenerateFlowFile count text) taking
  by_count count text taking false e is = absurd cc
  by_count count text taking true e is =
      let index = slice_index k.counts place + 1 in
      let same : Generate index ≡ taking = cc in
      let less : slice_index k.counts place + busy < count = ltb-true (slice_index k.counts place + busy) count e in
      subst (IsTakenHere (GenerateFlowFile count text)) same (record {
        takes = (omega arith, omega arith);
        at_rest = All-nil (λ number. is_out out number ≡ false);
        index = refl;
        first = tt;
      })

  taken_as : (kind : Kind) (taking : Taking) → Picks kind → taking_by kind coming (slice_index k.counts place) busy pick ≡ Some taking → IsTakenHere kind taking
  taken_as (GetFile filter) taking may is = by_name filter taking (find (passes filter) coming) refl is
  taken_as (GenerateFlowFile count text) taking may is = by_count count text taking (nat_lt (slice_index k.counts place + busy) count) refl is
  taken_as kind taking may is = by_pick kind taking refl may pick refl is

-- what holds of a processor of the flow holds of the one at its place
first_of : (flow : Flow) (place : ℕ) (coming : List (List ℕ)) (taking : Taking) (one other : Processor) → slice_get flow.processors place ≡ Some one → slice_get flow.processors place ≡ Some other
    → IsFirstName one.kind coming taking → IsFirstName other.kind coming taking
first_of flow place coming taking one other first second is =
    let same : one ≡ other = cc in
    subst (λ (p : Processor). IsFirstName p.kind coming taking) same is

task_of : (flow : Flow) (place sessions : ℕ) (one other : Processor) → slice_get flow.processors place ≡ Some one → slice_get flow.processors place ≡ Some other → sessions < one.tasks → sessions < other.tasks
task_of flow place sessions one other first second less =
    let same : one ≡ other = cc in
    subst (λ (p : Processor). sessions < p.tasks) same less

pub chosen-are-taken : PicksMayBeTaken → OneConnectionHas → KeptIsValid → LiveFilesAreQueued → QueuedFilesAreLive → ChosenAreTaken
chosen-are-taken picks_law one_has valid queued live flow k out queues busy listing moment last choice sound consistent none same are next =
    let known = known_by queues k.counts busy listing moment in
    let it = comes flow known last choice next in
    let place = choice.processor in
    let picks = λ (connection : ℕ) (numbers : List ℕ) (other : is_source it.processor.kind ≡ false) (picked : first_pick flow (queue_seen queues) moment (place, it.processor) ≡ Some (connection, numbers)).
    pick_taken picks_law one_has valid queued live flow k out queues consistent none same are moment place it.processor connection numbers (takes_files it.processor.kind other) picked in
    let taken = taken_as flow k out moment place (names_left listing) (slice_index busy place) (first_pick flow (queue_seen queues) moment (place, it.processor)) it.processor.kind choice.taking picks it.taking in
    record {
      takes = record { processor = it.processor; there = it.there; takes = taken.takes };
      at_rest = taken.at_rest;
      index = taken.index;
      first = λ processor there. first_of flow place (names_left listing) choice.taking it.processor processor it.there there taken.first;
      task = λ processor there. task_of flow place (slice_index busy place) it.processor processor it.there there it.task;
    }
