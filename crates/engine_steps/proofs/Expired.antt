-- What is due expires, in the machine's words.
use Rattle.std.proofs.Common.{◌≡◌, inl, inr, ℕ, ◌==◌, ◌||◌, Bool, true, false, List, [], ◌∷◌, length, get_or, map, refl, sym, ap, subst, ◌∙◌}
use Rattle.std.specs.Prelude.{All, IsSome, Option, None, Some, Result, Ok, Err, IfOk, replicate, slice_get}
use Rattle.std.specs.List.{range_with_len}
use Rattle.std.proofs.lemmas.Bool.{cases_Bool, eq-eqb, eqb-true, false≢true, or_from}
use Rattle.std.proofs.lemmas.List.{length-map, length-replicate}
use Rattle.std.proofs.lemmas.List.Elements.{All-cons, All-head, All-nil, All-tail}
use Rattle.std.proofs.lemmas.List.FromFn.{length-map-range_with_len}
use Rattle.flowfile_record.specs.Stored.{Kept}
use Rattle.flowfile_record.specs.declared.change.Settled.{Settled}
use Rattle.flowfile_record.specs.declared.content.ContentRef.{ContentRef}
use Rattle.flowfile_record.specs.declared.event.Event.{Event}
use Rattle.flowfile_record.specs.declared.event.EventKind.TheVariants as kind
use Rattle.flowfile_record.specs.declared.stored.ActiveFile.{ActiveFile}
use Rattle.checkpoint_store.specs.Consistent.{IsConsistent}
use Rattle.kept_state.specs.Applied.{left_after}
use Rattle.kept_state.specs.Fits.{active_of}
use Rattle.kept_state.proofs.Moving.{stays_after}
use Rattle.machine_model.specs.declared.flow.Connection.{Connection}
use Rattle.machine_model.specs.declared.flow.Flow.{Flow}
use Rattle.machine_model.specs.declared.journal.Step.TheVariants.{Expire}
use Rattle.machine_model.specs.Changing.{state_after}
use Rattle.machine_model.specs.Due.{due_expiry}
use Rattle.machine_model.specs.Files.{queues_of}
use Rattle.machine_model.specs.State.{Machine, State, World}
use Rattle.machine_model.specs.Stepping.{expired, step}
use Rattle.machine_model.specs.View.{FileView, QueueView}
use Rattle.flow_queue.specs.Queue.{QueueState}
use Rattle.store_core.specs.Flow as store
use Rattle.store_core.specs.Flow.{flow_in}
use Rattle.store_core.specs.State.{live_contents, state_with}
use Rattle.engine_change.specs.Committing.{AreEventsUpTo, identity_of}
use Rattle.engine_change.specs.Expiring.{DueExpiriesMayExpire, HasExpiryStep, HaveContents, LeavesExpired, MayExpireIn, ShowFilesOf, without_flight}
use Rattle.engine_queues.specs.Beside.{beside, file_beside, is_out}
use Rattle.engine_queues.specs.Picking.{AreOf}
use Rattle.engine_queues.specs.Laws.{ExpiredAreAtRest, KeptIsSeen, QueuesShowKept}
use Rattle.engine_queues.specs.Queues.{AreQueuesOf, queue_seen}
use Rattle.engine_queues.specs.Settling.{MayTakeFrom}
use Rattle.engine_queues.specs.Views.{HaveSizes, kept_queues}
use Rattle.run_law.specs.Run.{IsStateOf}
use Rattle.engine_steps.specs.Tending.{GoesTo, MakesExpiry}

-- ---- some contents and some events that what is kept may have

-- so many bytes as each reference says
abbrev some_contents : ContentRef → List ℕ
some_contents at = replicate at.size 0

abbrev some_event : ℕ → Event
some_event number = record {
  number = number;
  kind = kind.Expire;
  moment = 0;
  component = [];
  file = 0;
  parents = [];
  children = [];
  detail = [];
  size = 0;
  digest = [];
}

numbers_back : (numbers : List ℕ) → map (λ (e : Event). e.number) (map some_event numbers) ≡ numbers
numbers_back [] = refl
numbers_back (number ∷ numbers) = ap (λ (ns : List ℕ). number ∷ ns) (numbers_back numbers)

abbrev some_events : ℕ → List Event
some_events last = map some_event (range_with_len 1 last)

some_are_up_to : (last : ℕ) → AreEventsUpTo last (some_events last)
some_are_up_to last =
    let count = length-map-range_with_len some_event 1 last in
    (count, numbers_back (range_with_len 1 last) ∙ ap (range_with_len 1) (sym count))

some_have_sizes : (k : Kept) → HaveSizes some_contents k
some_have_sizes k i d lt = length-replicate (get_or (live_contents k) i d).size 0

pub have_sizes : (contents : ContentRef → List ℕ) (k : Kept) → HaveContents contents k → HaveSizes contents k
have_sizes contents k have i d lt = (have i d lt).size

-- ---- beside sessions in flight the queues show the same files

same_files : (out : List ℕ) (files : List FileView) → map without_flight (map (file_beside out) files) ≡ map without_flight files
same_files out [] = refl
same_files out (file ∷ files) = ap (λ (l : List FileView). without_flight file ∷ l) (same_files out files)

shows_files : (out : List ℕ) (queues : ℕ → QueueView) → ShowFilesOf (beside out queues) queues
shows_files out queues = record { files = λ place. same_files out (queues place).active }

-- ---- what is due may expire, and there is a step for it

-- the state behind files that expired
pub record Leaves (flow : Flow) (before after : Machine) (place : ℕ) (numbers : List ℕ) (moment : ℕ) : Type 0 where
  pub connection : Connection
  pub at : slice_get flow.connections place ≡ Some connection
  pub is : after.state ≡ expired before.state place connection numbers moment

module _ (seen : KeptIsSeen) (law : DueExpiriesMayExpire) (flow : Flow) (k : Kept) (out : List ℕ) (place : ℕ) (numbers : List ℕ) (moment : ℕ) (consistent : IsConsistent k) (empty : k.batches ≡ [])
    (flow_is : flow_in k ≡ identity_of flow) (due : due_expiry flow (beside out (kept_queues k)) moment ≡ Some (place, numbers)) where
  has_step : (world : World) (contents : ContentRef → List ℕ) (events : List Event) → HaveSizes contents k → AreEventsUpTo k.last_event events → HasExpiryStep flow world contents events k place numbers moment
  has_step world contents events sizes up_to =
      let queues = queues_of (state_with contents events k) in
      law flow world contents events k (beside out queues) place numbers moment consistent empty flow_is up_to (shows_files out queues)
      (sym ((seen flow contents events k out consistent sizes).expiry moment) ∙ due)

  pub may_expire : MayExpireIn flow k place numbers
  may_expire = (has_step (record { inbox = []; left = []; outbox = λ name. None }) some_contents (some_events k.last_event) (some_have_sizes k) (some_are_up_to k.last_event)).may

  module _ (contents : ContentRef → List ℕ) (before : Machine) (sizes : HaveSizes contents k) (tied : IsStateOf before contents k) where
    pub due_goes : GoesTo flow before (Expire place numbers moment) (λ after. Leaves flow before after place numbers moment)
    due_goes =
        let has = has_step before.world contents before.state.events sizes tied.events in
        let P : State → Type 0 = λ s. step flow (record { state = s; world = before.world }) (Expire place numbers moment) ≡ Some (record { state = expired s place has.connection numbers moment; world = before.world }) in
        record {
          after = record { state = expired before.state place has.connection numbers moment; world = before.world };
          goes = subst P tied.is has.goes;
          is_so = record { connection = has.connection; at = has.at; is = refl };
        }

  -- the settled expiry makes it
  pub makes_expiry : (settled : Settled) → LeavesExpired flow k place numbers moment settled → MakesExpiry flow k place numbers moment settled
  makes_expiry settled leaves contents before have tied =
      let goes = due_goes contents before (have_sizes contents k have) tied in
      let P : State → Type 0 = λ s. state_after contents s settled ≡ expired s place goes.is_so.connection numbers moment in
      record {
        after = goes.after;
        goes = goes.goes;
        is_so = subst P tied.is (leaves goes.is_so.connection goes.is_so.at contents have before.state.events tied.events) ∙ sym goes.is_so.is;
      }

pub placed_there : (flow : Flow) (k : Kept) (place there : ℕ) (numbers gone : List ℕ) → there ≡ place → gone ≡ numbers → MayExpireIn flow k place numbers → MayExpireIn flow k there gone
placed_there flow k place there numbers gone same_place same may =
    subst (λ (p : ℕ). MayExpireIn flow k p gone) (sym same_place) (subst (λ (ns : List ℕ). MayExpireIn flow k place ns) (sym same) may)

pub ok_leads : {A E : Type 0} (result : Result A E) (P Q : A → Type 0) → ((x : A) → P x → Q x) → IfOk result P → IfOk result Q
ok_leads (Ok x) P Q leads is = leads x is
ok_leads (Err e) P Q leads is = tt

-- ---- as the queues show it

pub are_of : (flow : Flow) (k : Kept) (out : List ℕ) (queues : List QueueState) → AreQueuesOf flow k out queues → AreOf flow queues
are_of flow k out queues are = record {
  count = are.count;
  each = λ place connection queue at found. let it = are.each place connection queue at found in record { order = it.order; limits = it.limits };
}

pub due_kept : QueuesShowKept → (flow : Flow) (k : Kept) (out : List ℕ) (queues : List QueueState) (place : ℕ) (numbers : List ℕ) (moment : ℕ) → IsConsistent k → flow_in k ≡ identity_of flow
    → AreQueuesOf flow k out queues → due_expiry flow (queue_seen queues) moment ≡ Some (place, numbers) → due_expiry flow (beside out (kept_queues k)) moment ≡ Some (place, numbers)
due_kept shown flow k out queues place numbers moment consistent flow_is are due =
    let same = shown flow k out queues consistent (ap (λ (f : store.Flow). length f.connections) flow_is ∙ length-map flow.connections (λ c. c.id)) are in
    ap (λ (views : ℕ → QueueView). due_expiry flow views moment) (sym same) ∙ due

-- none of these files is out
pub at_rest_of : QueuesShowKept → ExpiredAreAtRest → (flow : Flow) (k : Kept) (out : List ℕ) (queues : List QueueState) (place : ℕ) (numbers : List ℕ) (moment : ℕ) → IsConsistent k
    → flow_in k ≡ identity_of flow → AreQueuesOf flow k out queues → due_expiry flow (queue_seen queues) moment ≡ Some (place, numbers) → All (λ number. is_out out number ≡ false) numbers
at_rest_of shown law flow k out queues place numbers moment consistent flow_is are due =
    law flow out (kept_queues k) moment place numbers (due_kept shown flow k out queues place numbers moment consistent flow_is are due)

-- .. and they may go out of the queues
pub may_go : (flow : Flow) (k : Kept) (out : List ℕ) (queues : List QueueState) (place : ℕ) (gone : List ℕ) → IsConsistent k → flow_in k ≡ identity_of flow → AreQueuesOf flow k out queues
    → MayExpireIn flow k place gone → All (λ number. is_out out number ≡ false) gone → MayTakeFrom flow k out place gone queues
may_go flow k out queues place gone consistent flow_is are may at_rest = record {
  of_kept = are;
  connections = ap (λ (f : store.Flow). length f.connections) flow_is ∙ length-map flow.connections (λ c. c.id);
  consistent = consistent;
  distinct = may.distinct;
  active = may.active;
  flights = at_rest;
}

-- ---- the files of sessions in flight live on

later : (first rest : Bool) → rest ≡ true → (first || rest) ≡ true
later true rest is = refl
later false rest is = is

-- what is out is none of the files that are at rest
not_gone : (n : ℕ) (out gone : List ℕ) → is_out out n ≡ true → All (λ number. is_out out number ≡ false) gone → is_out gone n ≡ false
not_gone n out [] is at_rest = refl
not_gone n out (g ∷ gone) is at_rest =
    let other : (g == n) ≡ false = elim (cases_Bool (g == n)) [
      | inl same ↦ absurd (false≢true (sym (All-head (λ (number : ℕ). is_out out number ≡ false) g gone at_rest) ∙ ap (is_out out) (eqb-true g n same) ∙ is))
      | inr other ↦ other
    ] in
    or_from (g == n) (is_out gone n) other (not_gone n out gone is (All-tail (λ (number : ℕ). is_out out number ≡ false) g gone at_rest))

module _ (gone all : List ℕ) (files : List ActiveFile) (at_rest : All (λ number. is_out all number ≡ false) gone) where
  some_stay : (out : List ℕ) → ((n : ℕ) → is_out out n ≡ true → is_out all n ≡ true) → All (λ number. active_of number (left_after gone files) ≡ active_of number files) out
  some_stay [] among = All-nil (λ (number : ℕ). active_of number (left_after gone files) ≡ active_of number files)
  some_stay (n ∷ out) among =
      let first : is_out (n ∷ out) n ≡ true = ap (λ (b : Bool). b || is_out out n) (eq-eqb n n refl) in
      All-cons (λ (number : ℕ). active_of number (left_after gone files) ≡ active_of number files) n out (stays_after n gone files (not_gone n all gone (among n first) at_rest))
      (some_stay out (λ m is. among m (later (n == m) (is_out out m) is)))

  pub all_stay : All (λ number. active_of number (left_after gone files) ≡ active_of number files) all
  all_stay = some_stay all (λ n is. is)

-- what expires leaves the files that are out as they were
pub files_stay : (k after : Kept) (gone out : List ℕ) → All (λ number. is_out out number ≡ false) gone → after.files ≡ left_after gone k.files
    → All (λ number. active_of number after.files ≡ active_of number k.files) out
files_stay k after gone out at_rest left =
    subst (λ (files : List ActiveFile). All (λ number. active_of number files ≡ active_of number k.files) out) (sym left) (all_stay gone out k.files at_rest)

pub still_live : (k after : Kept) (out : List ℕ) → All (λ number. active_of number after.files ≡ active_of number k.files) out → All (λ number. IsSome (active_of number k.files)) out
    → All (λ number. IsSome (active_of number after.files)) out
still_live k after out same live place some within = subst (λ (o : Option ActiveFile). IsSome o) (sym (same place some within)) (live place some within)
