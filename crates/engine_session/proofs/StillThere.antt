-- Files are still there exactly where the machine lets a session take them.
use Rattle.std.proofs.Common.{◌≡◌, ℕ, ◌&&◌, ◌==◌, Bool, true, false, cond, List, [], ◌∷◌, length, map, refl, sym, ap, subst, ◌∙◌, arith}
use Rattle.std.specs.Prelude.{All, Contains, Option, None, Some, option_and_then, slice_get}
use Rattle.std.specs.List.{enumerate_from, list_all}
use Rattle.std.proofs.lemmas.Bool.{and_from, and_parts, eq-eqb, eqb-true, false≢true, true≢false}
use Rattle.std.proofs.lemmas.List.Elements.{All-head, All-tail, All-weaker}
use Rattle.flowfile_record.specs.Stored.{Kept}
use Rattle.flowfile_record.specs.declared.content.ContentRef.{ContentRef}
use Rattle.flowfile_record.specs.declared.event.Event.{Event}
use Rattle.flowfile_record.specs.declared.flow_file.FlowFile.{FlowFile}
use Rattle.flowfile_record.specs.declared.stored.ActiveFile.{ActiveFile}
use Rattle.record_codec.specs.ActiveFile.{active}
use Rattle.machine_model.specs.declared.flow.Connection.{Connection}
use Rattle.machine_model.specs.declared.flow.Flow.{Flow}
use Rattle.machine_model.specs.declared.kind.Kind.{Kind}
use Rattle.machine_model.specs.declared.kind.Kind.TheVariants.{GetFile, GenerateFlowFile, MergeContent}
use Rattle.machine_model.specs.declared.kind.MergeStrategy.TheVariants as strategy
use Rattle.machine_model.specs.declared.kind.TakeRule.{TakeRule}
use Rattle.machine_model.specs.declared.kind.TakeRule.TheVariants.{Source, One, Bin, Defragment}
use Rattle.machine_model.specs.Changing.{queued_file}
use Rattle.machine_model.specs.Files.{are_active, are_distinct, queue_at, view_of}
use Rattle.machine_model.specs.Kinds.{is_source, take_rule_of}
use Rattle.machine_model.specs.Laws.{OneConnectionHas}
use Rattle.machine_model.specs.State.{QueuedFile, State}
use Rattle.machine_model.specs.Stepping.{admits, files_of, has_all, may_be_taken, source_of, taken_files, taken_from}
use Rattle.machine_model.proofs.Among.{Among, all_among, among_contained, contains_among, makes}
use Rattle.machine_model.proofs.Places.{enumerated}
use Rattle.store_core.specs.State.{live_contents, state_with}
use Rattle.store_core.specs.Flow.{flow_in}
use Rattle.store_core.specs.Valid.{KeptIsValid, LiveFilesAreQueued, QueuedFilesAreLive}
use Rattle.checkpoint_store.specs.Consistent.{IsConsistent}
use Rattle.engine_change.specs.Committing.{AreEventsUpTo, identity_of}
use Rattle.engine_change.proofs.Expiring as change
use Rattle.engine_queues.specs.Views.{HaveSizes, view_of_kept}
use Rattle.engine_choice.proofs.Found.{Stands, each-stands, found}
use Rattle.engine_session.specs.Handing.{live_files}
use Rattle.engine_session.specs.Taken.{AreStillThere}
use Rattle.engine_session.proofs.Lookups.{distinct_as, live_there}
use Rattle.engine_session.proofs.Machines as machines

-- what is kept, as the machine sees it
abbrev pub seen_in : KeptIsValid → LiveFilesAreQueued → QueuedFilesAreLive → (flow : Flow) (contents : ContentRef → List ℕ) (events : List Event) (k : Kept) → IsConsistent k → k.batches ≡ []
    → flow_in k ≡ identity_of flow → AreEventsUpTo k.last_event events → change.Seen contents events k
seen_in valid queued live flow contents events k consistent none same up_to = record {
  flow = flow;
  valid = valid flow contents events k consistent none up_to.1 up_to.0 (change.connections_same flow k same) (change.counts_same flow k same);
  consistent = consistent;
  queued = queued;
  live = live;
}

-- ---- rules

-- the rule of a processor that is no source takes files
pub takes_files : (kind : Kind) → is_source kind ≡ false → take_rule_of kind ≡ Source → ⊥
takes_files (GetFile filter) other is = true≢false other
takes_files (GenerateFlowFile count text) other is = true≢false other
takes_files (MergeContent strategy.Defragment minimum maximum) other is = cc
takes_files (MergeContent strategy.BinPacking minimum maximum) other is = cc
takes_files kind other is = cc

-- it admits at least one
none_admitted : (rule : TakeRule) → (rule ≡ Source → ⊥) → (flow : Flow) (k : Kept) (moment place connection : ℕ) → AreStillThere flow k moment place rule connection [] → ⊥
none_admitted Source other flow k moment place connection is = other refl
none_admitted One other flow k moment place connection is = false≢true is.admitted
none_admitted (Bin min max) other flow k moment place connection is = false≢true is.admitted
none_admitted Defragment other flow k moment place connection is = false≢true is.admitted

pub record AreSome (numbers : List ℕ) : Type 0 where
  pub first : ℕ
  pub rest : List ℕ
  pub are : numbers ≡ first ∷ rest

pub some_admitted : (flow : Flow) (k : Kept) (moment place : ℕ) (rule : TakeRule) (connection : ℕ) (numbers : List ℕ) → (rule ≡ Source → ⊥) → AreStillThere flow k moment place rule connection numbers → AreSome numbers
some_admitted flow k moment place rule connection [] other is = absurd (none_admitted rule other flow k moment place connection is)
some_admitted flow k moment place rule connection (first ∷ rest) other is = record { first = first; rest = rest; are = refl }

by_source : (flow : Flow) (state : State) (place : ℕ) (rule : TakeRule) (numbers : List ℕ) (moment : ℕ) → (rule ≡ Source → ⊥)
    → taken_files flow state place rule numbers moment ≡ option_and_then (taken_from state rule numbers moment) (source_of flow state place numbers)
by_source flow state place Source numbers moment other = absurd (other refl)
by_source flow state place One numbers moment other = refl
by_source flow state place (Bin min max) numbers moment other = refl
by_source flow state place Defragment numbers moment other = refl

passing : {X : Type 0} (b : Bool) (x : X) → b ≡ true → cond b (Some x) None ≡ Some x
passing true x is = refl
passing false x is = absurd (false≢true is)

passed : {X : Type 0} (b : Bool) (x y : X) → cond b (Some x) None ≡ Some y → b ≡ true
passed true x y is = refl
passed false x y is = cc

-- ---- how live files are seen

view_same : (contents : ContentRef → List ℕ) (file : FlowFile) → length (contents file.content) ≡ file.content.size → view_of (queued_file contents file) ≡ view_of_kept file
view_same contents file size = λ i. record (view_of_kept file) { size = size i }

views_same : (contents : ContentRef → List ℕ) (files : List FlowFile) → All (λ file. length (contents file.content) ≡ file.content.size) files
    → map view_of (map (queued_file contents) files) ≡ map view_of_kept files
views_same contents [] sizes = refl
views_same contents (file ∷ files) sizes =
    let first = view_same contents file (All-head (λ (f : FlowFile). length (contents f.content) ≡ f.content.size) file files sizes) in
    let rest = views_same contents files (All-tail (λ (f : FlowFile). length (contents f.content) ≡ f.content.size) file files sizes) in
    λ i. first i ∷ rest i

module _ (contents : ContentRef → List ℕ) (events : List Event) (k : Kept) (seen : change.Seen contents events k) (sizes : HaveSizes contents k) where
  abbrev state : State
  state = state_with contents events k

  machine : machines.Seen k contents events
  machine = record { flow = seen.flow; valid = seen.valid; consistent = seen.consistent; live = seen.live }

  one_size : (connection : ℕ) (file : FlowFile) → Contains k.files (active connection file) → length (contents file.content) ≡ file.content.size
  one_size connection file there =
      all_among (λ (at : ContentRef). length (contents at) ≡ at.size) file.content (live_contents k) sizes
      (makes (λ (a : ActiveFile). a.file.content) k.files (active connection file) (among_contained (active connection file) k.files there))

  seen_as : (connection : ℕ) (numbers : List ℕ) → are_active (queue_at state connection) numbers ≡ true
      → map view_of (files_of (queue_at state connection) numbers) ≡ map view_of_kept (live_files k numbers)
  seen_as connection numbers all =
      let live = machines.all_active k contents events machine connection numbers all in
      ap (map view_of) (machines.all_same k contents events machine connection numbers all)
      ∙ views_same contents (live_files k numbers)
      (All-weaker (λ file. Contains k.files (active connection file)) (λ file. length (contents file.content) ≡ file.content.size) (one_size connection) (live_files k numbers) (live_there k connection numbers live))

  -- ---- what is still there may be taken

  module _ (one_has : OneConnectionHas) (place : ℕ) (rule : TakeRule) (moment : ℕ) (connection : ℕ) where
    some_taken : (number : ℕ) (numbers : List ℕ) → AreStillThere seen.flow k moment place rule connection (number ∷ numbers)
        → option_and_then (taken_from state rule (number ∷ numbers) moment) (source_of seen.flow state place (number ∷ numbers))
        ≡ Some (map (queued_file contents) (live_files k (number ∷ numbers)))
    some_taken number numbers is =
        let all = number ∷ numbers in
        let queue = queue_at state connection in
        let live : are_active queue all ≡ true = change.all_active contents events k seen connection all is.active in
        let from : ℕ × Connection = (connection, is.from) in
        let views = seen_as connection all live in
        let has : has_all state place all from ≡ true = and_from (is.from.target == place) (are_active queue all) (eq-eqb is.from.target place is.ends) live in
        let there : Contains (enumerate_from 0 seen.flow.connections) from
        = contains_among from (enumerate_from 0 seen.flow.connections) (subst (λ n. Among (n, is.from) (enumerate_from 0 seen.flow.connections)) (omega arith) (enumerated 0 seen.flow.connections connection is.from is.there)) in
        let tests = and_from _ _ (and_from _ _ (distinct_as all ∙ is.distinct) (ap (list_all (may_be_taken is.from moment)) views ∙ is.each)) (ap (admits rule is.from.order) views ∙ is.admitted) in
        ap (option_and_then (taken_from state rule all moment)) (one_has seen.flow state place number numbers from seen.valid there has)
        ∙ passing _ (files_of queue all) tests
        ∙ ap (λ (files : List QueuedFile). Some files) (machines.all_same k contents events machine connection all live)

    pub there_taken : (numbers : List ℕ) → (rule ≡ Source → ⊥) → AreStillThere seen.flow k moment place rule connection numbers
        → taken_files seen.flow state place rule numbers moment ≡ Some (map (queued_file contents) (live_files k numbers))
    there_taken [] other is = absurd (none_admitted rule other seen.flow k moment place connection is)
    there_taken (number ∷ numbers) other is = by_source seen.flow state place rule (number ∷ numbers) moment other ∙ some_taken number numbers is

  -- ---- what may be taken is still there

  -- .. in a connection
  pub record AreSomewhere (place : ℕ) (rule : TakeRule) (numbers : List ℕ) (moment : ℕ) : Type 0 where
    pub connection : ℕ
    pub are : AreStillThere seen.flow k moment place rule connection numbers

  module _ (place : ℕ) (rule : TakeRule) (numbers : List ℕ) (moment : ℕ) (files : List QueuedFile) where
    from_connection : (at : ℕ × Connection) → slice_get seen.flow.connections at.0 ≡ Some at.1 → has_all state place numbers at ≡ true
        → taken_from state rule numbers moment at ≡ Some files → AreSomewhere place rule numbers moment
    from_connection at there has taken =
        let queue = queue_at state at.0 in
        let views = map view_of (files_of queue numbers) in
        let parts = and_parts (at.1.target == place) (are_active queue numbers) has in
        let same = seen_as at.0 numbers parts.1 in
        let tests = passed (are_distinct numbers && list_all (may_be_taken at.1 moment) views && admits rule at.1.order views) (files_of queue numbers) files taken in
        let outer = and_parts (are_distinct numbers && list_all (may_be_taken at.1 moment) views) (admits rule at.1.order views) tests in
        let inner = and_parts (are_distinct numbers) (list_all (may_be_taken at.1 moment) views) outer.0 in
        record {
          connection = at.0;
          are = record {
            from = at.1;
            there = there;
            ends = eqb-true at.1.target place parts.0;
            active = machines.all_active k contents events machine at.0 numbers parts.1;
            distinct = sym (distinct_as numbers) ∙ inner.0;
            each = sym (ap (list_all (may_be_taken at.1 moment)) same) ∙ inner.1;
            admitted = sym (ap (admits rule at.1.order) same) ∙ outer.1;
          };
        }

    from_source : (o : Option (ℕ × Connection)) → source_of seen.flow state place numbers ≡ o → option_and_then (taken_from state rule numbers moment) o ≡ Some files
        → AreSomewhere place rule numbers moment
    from_source None is taken = cc
    from_source (Some at) is taken =
        let it = found (Stands seen.flow.connections) (has_all state place numbers) (enumerate_from 0 seen.flow.connections) at (each-stands seen.flow.connections) is in
        from_connection at it.0 it.1 taken

    pub taken_there : (rule ≡ Source → ⊥) → taken_files seen.flow state place rule numbers moment ≡ Some files → AreSomewhere place rule numbers moment
    taken_there other taken =
        from_source (source_of seen.flow state place numbers) refl (sym (by_source seen.flow state place rule numbers moment other) ∙ taken)
