-- What each exit of a commit leaves: of the contents that were placed, and of the entry that was logged behind them.
use Rattle.std.proofs.Common.{◌≡◌, ℕ, ◌+◌, ◌-◌, ◌^◌, ◌≤◌, Bool, true, false, List, [], ◌++◌, length, map, refl, sym, ap, subst, ◌∙◌, arith, inl, inr, IsTrue}
use Rattle.std.specs.List.{AllZip}
use Rattle.std.specs.Prelude.{Option, None, Some, is_some, Result, Ok, ◌⊎◌, min}
use Rattle.disk_trait.specs.Files.{Files}
use Rattle.disk_trait.specs.declared.damage.Damage.{Damage}
use Rattle.flowfile_record.specs.declared.event.Event.{Event}
use Rattle.disk_trait.specs.Images.{After, Since, calls_later}
use Rattle.disk_trait.proofs.Moments.{more_calls, wider, wider_where_left}
use Rattle.flowfile_record.specs.declared.stored.ActiveFile.{ActiveFile}
use Rattle.flowfile_record.specs.declared.stored.Placed.{Placed}
use Rattle.record_codec.specs.Placeless.{placeless_active, placeless_entry}
use Rattle.record_codec.specs.declared.entry.LogEntry.{LogEntry}
use Rattle.record_codec.specs.declared.entry.LogEntry.TheVariants.{Session}
use Rattle.record_codec.specs.declared.entry.SessionEntry.{SessionEntry}
use Rattle.checkpoint_store.specs.Consistent.{IsConsistent}
use Rattle.content_repo.specs.Claims.{content_in, HasSizes}
use Rattle.content_repo.specs.Slots.{count_of, size_of, held_in, references_to}
use Rattle.content_repo.specs.declared.slot.Slot.{Slot}
use Rattle.flowfile_wal.specs.Calls.{InEach, WithOrWithoutEntry}
use Rattle.flowfile_wal.specs.Steps.{AddsEntry, IsReadyIn}
use Rattle.kept_state.specs.Applied.{applied, session_applied}
use Rattle.kept_state.specs.Changes.{no_files, placed_in}
use Rattle.machine_model.specs.State.{State}
use Rattle.machine_model.specs.Changing.{HaveDigests, state_after}
use Rattle.prov_store.specs.Events.{events_in}
use Rattle.prov_store.specs.State.{EventsState, EventsAreAppended, files_for}
use Rattle.store_core.specs.Change.{HasLiveContents}
use Rattle.store_core.specs.Writing.{fresh_count}
use Rattle.store_core.specs.Committed.{PreparedChange, IsPreparedChange, HasChange, HoldsEither, KeepsShared, LogsEntry, calls_of_commit}
use Rattle.store_core.specs.Touched.{ClaimsGrow, MayTouch, TouchesOnly}
use Rattle.store_core.specs.Flow.{flow_in}
use Rattle.store_core.specs.Placing.{contents_of, GrowsAhead, GrowsByFresh, AppendsEvents, ArePlaced, HoldsMore, IsPlacedAs, PlacesAll, ReferAlike, StaysStored}
use Rattle.store_core.specs.State.{stands_for}
use Rattle.store_core.specs.Store.{StoreState, IsWorking, IsKeptOn, EachStandsFor, FilesHold, kept_by}
use Rattle.store_core.proofs.Agreeing.{of_state}
use Rattle.store_core.proofs.Appending.{GrowingClaims, claims_ahead, claims_logged, claims_acknowledged}
use Rattle.store_core.proofs.Commits.{entry_acts, referred_gone, events_beside_log, working_after}
use Rattle.store_core.proofs.EventsStay.{same_events, since_none}
use Rattle.store_core.proofs.Following.{Follows, follows_ahead, logs_ahead, state_following}
use Rattle.store_core.proofs.Parts.{digests_stay}
use Rattle.store_core.proofs.Referring.{bytes_same}
use Rattle.store_core.proofs.Sharing.{zip_wider}
use Rattle.store_core.proofs.States.{IsSame, state_added}
use Rattle.store_core.proofs.Whole.{IsAdded, is_added, since_ahead_holds, since_ahead_touches, since_either, since_holds, since_touches, holds_new, kept_added, logs_entry}

-- ---- the contents

-- the contents of a prepared change were placed, as far as the disk went
pub record HasPlaced {D : Type 0} (tells : Bool) (held : D → Files) (moment : D → ℕ) (images : D → ℕ → Files → Type 0)
    (s : StoreState) (p : PreparedChange) (e : LogEntry) (old mid : D) : Type 0 where
  pub works : IsWorking s
  pub kept : IsKeptOn tells held moment images s old
  pub unfailed : s.failed ≡ false
  pub prepared : IsPreparedChange s p
  pub live : HasLiveContents s p.settled
  pub digests : IsTrue tells → HaveDigests (content_in (held old)) p.settled.placed
  pub consistent : IsConsistent (kept_by s)
  pub batches : (kept_by s).batches ≡ []
  pub same : placeless_entry e ≡ placeless_entry p.entry
  pub grows : Since moment images old mid (After (GrowsAhead s.slots s.events) (images old (moment old)))
  pub held_grows : IsTrue tells → GrowsAhead s.slots s.events (held old) (held mid)

-- the same store and the same change by what is inside of them
pub has_placed : {D : Type 0} (tells : Bool) (held : D → Files) (moment : D → ℕ) (images : D → ℕ → Files → Type 0) (inside s : StoreState) (change p : PreparedChange) (e : LogEntry) (old mid : D)
    → inside ≡ s → change ≡ p → IsWorking inside → inside.failed ≡ false → IsConsistent (kept_by inside) → (kept_by inside).batches ≡ []
    → IsKeptOn tells held moment images s old → IsPreparedChange s p → HasLiveContents s p.settled → (IsTrue tells → HaveDigests (content_in (held old)) p.settled.placed) → placeless_entry e ≡ placeless_entry change.entry
    → Since moment images old mid (After (GrowsAhead inside.slots inside.events) (images old (moment old))) → (IsTrue tells → GrowsAhead inside.slots inside.events (held old) (held mid))
    → HasPlaced tells held moment images s p e old mid
has_placed tells held moment images inside s change p e old mid view p_view works unfailed consistent batches kept prepared live digests same grows held_grows = record {
  works = subst IsWorking view works;
  kept = kept;
  unfailed = subst (λ (t : StoreState). t.failed ≡ false) view unfailed;
  prepared = prepared;
  live = live;
  digests = digests;
  consistent = subst (λ (t : StoreState). IsConsistent (kept_by t)) view consistent;
  batches = subst (λ (t : StoreState). (kept_by t).batches ≡ []) view batches;
  same = same ∙ ap (λ (c : PreparedChange). placeless_entry c.entry) p_view;
  grows = subst (λ (t : StoreState). Since moment images old mid (After (GrowsAhead t.slots t.events) (images old (moment old)))) view grows;
  held_grows = subst (λ (t : StoreState). IsTrue tells → GrowsAhead t.slots t.events (held old) (held mid)) view held_grows;
}

-- what is kept has the change
pub has_change : (inside s new : StoreState) (change p : PreparedChange) (e e2 : LogEntry) → inside ≡ s → change ≡ p → placeless_entry e ≡ placeless_entry change.entry → AllZip StaysStored change.settled.placed (placed_in e) → e2 ≡ e
    → kept_by new ≡ applied no_files (kept_by inside) e2 → new.opened ≡ inside.opened → new.lot ≡ inside.lot → new.log.number ≡ inside.log.number
    → HasChange p s new
has_change inside s new change p e e2 view p_view same stays is kept opened lot log = record {
  entry = e;
  same = same ∙ ap (λ (c : PreparedChange). placeless_entry c.entry) p_view;
  kept = kept ∙ ap (applied no_files (kept_by inside)) is ∙ ap (λ (t : StoreState). applied no_files (kept_by t) e) view;
  stays = subst (λ (c : PreparedChange). AllZip StaysStored c.settled.placed (placed_in e)) p_view stays;
  log = log ∙ ap (λ (t : StoreState). t.log.number) view;
  opened = opened ∙ ap (λ (t : StoreState). t.opened) view;
  lot = lot ∙ ap (λ (t : StoreState). t.lot) view;
}

module _ {D : Type 0} (tells : Bool) (held : D → Files) (moment : D → ℕ) (images : D → ℕ → Files → Type 0) (s : StoreState) (p : PreparedChange) (e : LogEntry) (old mid : D) where
  pub placed_images : (new : StoreState) → HasPlaced tells held moment images s p e old mid → Since moment images old mid (HoldsEither s new)
  placed_images new has =
      wider moment images old mid (FilesHold s) (HoldsEither s new)
      (since_ahead_holds moment images s old mid has.works (has.kept.log has.unfailed) (has.kept.holds has.unfailed) has.grows) (λ c h. inl h)

  pub placed_states : (Q : Files → Type 0) (state : State) → HasPlaced tells held moment images s p e old mid → EachStandsFor (flow_in (kept_by s)) s.lot state (images old (moment old))
      → Since moment images old mid (λ c. (stands_for (flow_in (kept_by s)) s.lot c ≡ of_state state) ⊎ Q c)
  placed_states Q state has stands =
      wider moment images old mid (After (GrowsAhead s.slots s.events) (images old (moment old))) (λ c. (stands_for (flow_in (kept_by s)) s.lot c ≡ of_state state) ⊎ Q c) has.grows
      (λ c after.
      inl (state_following s state after.0 c has.works (has.kept.log has.unfailed after.0 after.1) (follows_ahead s after.0 c has.works (has.kept.holds has.unfailed after.0 after.1).events after.2) (has.kept.holds has.unfailed after.0 after.1)
      (stands after.0 after.1)))

  pub placed_alone : (log : Option ℕ) (slots : List Slot) (events : EventsState) → Since moment images old mid (After (GrowsAhead slots events) (images old (moment old)))
      → Since moment images old mid (After (TouchesOnly (MayTouch log)) (images old (moment old)))
  placed_alone log slots events grows = since_ahead_touches moment images held log slots events 0 e old mid mid grows

  pub placed_claims : HasPlaced tells held moment images s p e old mid → Since moment images old mid (GrowingClaims moment images s.slots old)
  placed_claims has = claims_ahead moment images held s.slots s.events old mid has.grows

-- ---- the entry

-- the entry was handed to the log, and stands there, or a stop may leave it there
pub record HasLogged {D : Type 0} (tells : Bool) (held : D → Files) (moment : D → ℕ) (images : D → ℕ → Files → Type 0)
    (s new : StoreState) (p : PreparedChange) (e : LogEntry) (old mid end : D) (number : ℕ) (slots : List Slot) : Type 0 where
  pub numbered : s.log.number ≡ Some number
  pub placed : PlacesAll tells (held mid) p.settled.placed s.slots slots e
  pub sizes : IsTrue tells → HasSizes slots (held mid)
  pub events : AppendsEvents tells p.events.events s.events new.events (held old) (held mid)
  pub kept : kept_by new ≡ applied no_files (kept_by s) e
  pub lot : new.lot ≡ s.lot
  pub logged : Since moment images mid end (WithOrWithoutEntry number e (images mid (moment mid)) (held mid))
  pub told : (disk : D) (k : ℕ) (c : Files) → images disk k c → IsTrue tells
  pub left : (disk : D) → IsTrue tells → images disk (moment disk) (held disk)

pub numbered_of : (number : Option ℕ) → IsTrue (is_some number) → (n : ℕ) × (number ≡ Some n)
numbered_of (Some n) some = (n, refl)
numbered_of None some = absurd cc

pub has_logged : {D : Type 0} (tells : Bool) (held : D → Files) (moment : D → ℕ) (images : D → ℕ → Files → Type 0) (inside s new : StoreState) (change p : PreparedChange) (e e2 : LogEntry)
    (old mid end : D) (number : ℕ) (slots : List Slot)
    → inside ≡ s → change ≡ p → inside.log.number ≡ Some number → PlacesAll tells (held mid) change.settled.placed inside.slots slots e → (IsTrue tells → HasSizes slots (held mid)) → AppendsEvents tells change.events.events inside.events new.events (held old) (held mid)
    → e2 ≡ e → kept_by new ≡ applied no_files (kept_by inside) e2 → new.lot ≡ inside.lot → Since moment images mid end (WithOrWithoutEntry number e (images mid (moment mid)) (held mid))
    → ((disk : D) (k : ℕ) (c : Files) → images disk k c → IsTrue tells) → ((disk : D) → IsTrue tells → images disk (moment disk) (held disk))
    → HasLogged tells held moment images s new p e old mid end number slots
has_logged tells held moment images inside s new change p e e2 old mid end number slots view p_view numbered placed sizes events is kept lot logged told left = record {
  numbered = subst (λ (t : StoreState). t.log.number ≡ Some number) view numbered;
  placed =
      subst (λ (c : PreparedChange). PlacesAll tells (held mid) c.settled.placed s.slots slots e) p_view
      (subst (λ (t : StoreState). PlacesAll tells (held mid) change.settled.placed t.slots slots e) view placed);
  sizes = sizes;
  events =
      subst (λ (c : PreparedChange). AppendsEvents tells c.events.events s.events new.events (held old) (held mid)) p_view
      (subst (λ (t : StoreState). AppendsEvents tells change.events.events t.events new.events (held old) (held mid)) view events);
  kept = kept ∙ ap (applied no_files (kept_by inside)) is ∙ ap (λ (t : StoreState). applied no_files (kept_by t) e) view;
  lot = lot ∙ ap (λ (t : StoreState). t.lot) view;
  logged = logged;
  told = told;
  left = left;
}

abbrev events_are : List Event → Result (List Event) Damage
events_are events = Ok events

-- the same by the placed files alone
as_session_places : (tells : Bool) (files : Files) (all : List Placed) (old new : List Slot) (e : LogEntry) (t : SessionEntry) → placed_in e ≡ t.placed → PlacesAll tells files all old new e
    → PlacesAll tells files all old new (Session t)
as_session_places tells files all old new e t puts places = record {
  placed = subst (λ (l : List ActiveFile). ArePlaced tells new files all l) puts places.placed;
  shared = subst (ReferAlike all) puts places.shared;
  holds = subst (λ (l : List ActiveFile). HoldsMore l old new) puts places.holds;
  grown = places.grown;
}

same_session : (s : StoreState) (p : PreparedChange) (e : LogEntry) (was : IsConsistent (kept_by s)) (prepared : IsPreparedChange s p) (same : placeless_entry e ≡ placeless_entry p.entry)
    → IsSame p.settled (entry_acts s p e was prepared same).session
same_session s p e was prepared same =
    let is = entry_acts s p e was prepared same in
    record { gone = is.gone; number = is.next_number; arrival = is.next_arrival; count = is.generator }

module _ {D : Type 0} (tells : Bool) (held : D → Files) (moment : D → ℕ) (images : D → ℕ → Files → Type 0) (s new : StoreState) (p : PreparedChange) (e : LogEntry) (old mid end : D) (number : ℕ)
    (slots : List Slot) (has : HasPlaced tells held moment images s p e old mid) (logged : HasLogged tells held moment images s new p e old mid end number slots) where
  really_placed : IsTrue tells → ArePlaced true slots (held mid) p.settled.placed (placed_in e)
  really_placed told = subst (λ (t : Bool). ArePlaced t slots (held mid) p.settled.placed (placed_in e)) told logged.placed.placed

  -- the last event of the entry is the last one that is known now
  last_known : (entry_acts s p e has.consistent has.prepared has.same).session.last_event ≡ new.events.end
  last_known =
      omega (
        arith,
        (entry_acts s p e has.consistent has.prepared has.same).last_event,
        has.works.last_event,
        logged.events.appended.end,
        ap {B = ℕ} (λ (l : List Event). length l) has.prepared.events,
      )

  added_entry : IsTrue tells → IsAdded s new e (held mid)
  added_entry told =
      let follows = follows_ahead s (held old) (held mid) has.works (has.kept.holds has.unfailed (held old) (logged.left old told)).events (has.held_grows told) in
      is_added moment images held s new p e old mid slots has.works (has.kept.log has.unfailed) (has.kept.holds has.unfailed) has.grows has.consistent has.prepared has.same has.live
      (digests_stay s (held old) (held mid) p.settled.placed has.live follows (has.digests told)) (logged.left mid told) (logged.sizes told) logged.placed.shared (really_placed told) logged.kept logged.lot logged.events.appended.line (logged.events.ready told).has

  added_holds : (c : Files) → IsTrue tells → AddsEntry number e (held mid) c → FilesHold new c
  added_holds c told added =
      holds_new moment images held s new number e old mid end has.works (has.kept.log has.unfailed) (has.kept.holds has.unfailed) has.grows logged.numbered (logged.left mid told) (added_entry told) c added

  pub logged_images : Since moment images old end (HoldsEither s new)
  logged_images =
      since_holds moment images held s new number e old mid end has.works (has.kept.log has.unfailed) (has.kept.holds has.unfailed) has.grows logged.numbered tells (logged.told end)
      (logged.left mid) added_entry logged.logged

  pub logged_alone : Since moment images old end (After (TouchesOnly (MayTouch s.log.number)) (images old (moment old)))
  logged_alone = since_touches moment images held s.log.number s.slots s.events number e old mid end logged.numbered has.grows logged.logged tells (logged.told end) (logged.left mid)

  pub logged_claims : Since moment images old end (GrowingClaims moment images s.slots old)
  logged_claims = claims_logged moment images held s.slots s.events old mid has.grows number e end logged.logged tells (logged.told end) (logged.left mid)

  pub acknowledged_claims : InEach (images end (moment end)) (AddsEntry number e (held mid)) → IsTrue tells → ClaimsGrow s.slots (held old) (held end)
  acknowledged_claims added told = claims_acknowledged s.slots s.events number e (held old) (held mid) (held end) (has.held_grows told) (added (held end) (logged.left end told))

  abbrev behind : State → State
  behind state = state_after (content_in (held old)) state p.settled

  events_behind : (c : Files) → IsTrue tells → AddsEntry number e (held mid) c → (events : List Event) → events_in (held old) 0 (kept_by s).last_event ≡ Ok events
      → events_in c 0 (entry_acts s p e has.consistent has.prepared has.same).session.last_event ≡ Ok (events ++ p.settled.events)
  events_behind c told added events are =
      let line = (has.kept.holds has.unfailed (held old) (logged.left old told)).line in
      since_none c new.events (entry_acts s p e has.consistent has.prepared has.same).session.last_event (logged.events.appended.line ∙ line) last_known
      ∙ same_events new.events.line new.events.end (held mid) c (events_beside_log number e (held mid) c added)
      ∙ logged.events.added told events (sym (since_none (held old) s.events (kept_by s).last_event line has.works.last_event) ∙ are)
      ∙ ap (λ (l : List Event). events_are (events ++ l)) has.prepared.events

  pub state_logged : (state : State) (c : Files) → EachStandsFor (flow_in (kept_by s)) s.lot state (images old (moment old)) → IsTrue tells → AddsEntry number e (held mid) c
      → stands_for (flow_in (kept_by s)) s.lot c ≡ of_state (behind state)
  state_logged state c stands told added =
      let is = entry_acts s p e has.consistent has.prepared has.same in
      let placed : ArePlaced true slots (held mid) p.settled.placed is.session.placed =
      subst (λ (l : List ActiveFile). ArePlaced true slots (held mid) p.settled.placed l) is.puts (really_placed told) in
      let before = logged.left old told in
      let kept : kept_by new ≡ session_applied (kept_by s) is.session = logged.kept ∙ is.act in
      let held_then = has.kept.holds has.unfailed (held old) before in
      state_added s new p.settled is.session number e slots (held old) (held mid) c state has.batches is.suits
      (same_session s p e has.consistent has.prepared has.same) (events_behind c told added) held_then (stands (held old) before)
      (follows_ahead s (held old) (held mid) has.works held_then.events (has.held_grows told)) added has.prepared.may.shared (subst (ReferAlike p.settled.placed) is.puts logged.placed.shared) placed has.live (added_holds c told added) kept logged.lot

  pub logged_states : (state : State) → EachStandsFor (flow_in (kept_by s)) s.lot state (images old (moment old))
      → Since moment images old end (λ c. (stands_for (flow_in (kept_by s)) s.lot c ≡ of_state state) ⊎ (stands_for (flow_in (kept_by s)) s.lot c ≡ of_state (behind state)))
  logged_states state stands =
      wider_where_left moment images old end (λ c. After (Follows s) (images old (moment old)) c ⊎ AddsEntry number e (held mid) c)
      (λ c. (stands_for (flow_in (kept_by s)) s.lot c ≡ of_state state) ⊎ (stands_for (flow_in (kept_by s)) s.lot c ≡ of_state (behind state)))
      (since_either moment images held s new number e old mid end has.works (has.kept.holds has.unfailed) has.grows logged.logged) by_end
    where
      by_end : (k : ℕ) (c : Files) → images end k c → After (Follows s) (images old (moment old)) c ⊎ AddsEntry number e (held mid) c
          → (stands_for (flow_in (kept_by s)) s.lot c ≡ of_state state) ⊎ (stands_for (flow_in (kept_by s)) s.lot c ≡ of_state (behind state))
      by_end k c image (inl after) =
          inl (state_following s state after.0 c has.works (has.kept.log has.unfailed after.0 after.1) after.2 (has.kept.holds has.unfailed after.0 after.1) (stands after.0 after.1))
      by_end k c image (inr added) = inr (state_logged state c stands (logged.told end k c image) added)

  -- what is kept has the files that share a content together
  pub kept_shared : KeepsShared p.settled s new
  kept_shared =
      let is = entry_acts s p e has.consistent has.prepared has.same in
      record {
        entry = e;
        kept = logged.kept;
        placed = ap (map placeless_active) is.puts ∙ is.placed;
        alike = logged.placed.shared;
        stays = zip_wider (IsPlacedAs tells slots (held mid)) StaysStored p.settled.placed (placed_in e) (λ q a r. r.old) logged.placed.placed;
      }

  -- the claims have as many bytes more as its new contents
  pub claims_grown : (given : List Slot) → ((k : ℕ) → size_of given k ≡ size_of slots k) → GrowsByFresh p.settled.placed s.slots given
  claims_grown given sizes = omega (arith, logged.placed.grown, bytes_same given slots sizes)

  -- once the log has answered
  pub acknowledged_state : (state : State) → EachStandsFor (flow_in (kept_by s)) s.lot state (images old (moment old)) → InEach (images end (moment end)) (AddsEntry number e (held mid))
      → EachStandsFor (flow_in (kept_by s)) s.lot (behind state) (images end (moment end))
  acknowledged_state state stands added c image = state_logged state c stands (logged.told end (moment end) c image) (added c image)

  -- what is held ahead of the log has the log of before
  pub acknowledged_entry : InEach (images end (moment end)) (AddsEntry number e (held mid)) → InEach (images end (moment end)) (LogsEntry p.entry (held old))
  acknowledged_entry added c image =
      let told = logged.told end (moment end) c image in
      logs_entry s p.entry e (held old) (held mid) c number (has.kept.log has.unfailed (held old) (logged.left old told)) logged.numbered
      (logs_ahead s (held old) (held mid) (has.held_grows told)) (added c image) has.same

  pub acknowledged_kept : InEach (images end (moment end)) (AddsEntry number e (held mid)) → InEach (images end (moment end)) (IsReadyIn new.log)
      → new.entries ≡ min (s.entries + 1) (2 ^ 64 - 1) → ((k : ℕ) → size_of new.slots k ≡ size_of slots k) → IsKeptOn tells held moment images new end
  acknowledged_kept added ready more sizes =
      kept_added tells moment images held s new number e old mid end slots has.works (has.kept.log has.unfailed) (has.kept.holds has.unfailed) has.grows logged.numbered
      (λ c image. logged.told end (moment end) c image) (logged.left mid) (logged.left end) added_entry added ready more logged.sizes sizes (λ t. (logged.events.ready t).trimmed)

  pub acknowledged_works : (given : List Slot) → new.slots ≡ given
      → ((k : ℕ) → count_of given k + references_to k (contents_of (kept_by s).files p.settled.gone) ≡ count_of slots k)
      → held_in given + length (contents_of (kept_by s).files p.settled.gone) ≡ held_in slots
      → ((k : ℕ) → size_of given k ≡ size_of slots k) → new.log.failed ≡ false → new.opened ≡ s.opened → IsWorking new
  acknowledged_works given slots_are counts held_less sizes log opened =
      let is = entry_acts s p e has.consistent has.prepared has.same in
      let gone : is.session.gone ≡ p.settled.gone = is.gone in
      let kept : kept_by new ≡ session_applied (kept_by s) is.session = logged.kept ∙ is.act in
      let placed : PlacesAll tells (held mid) p.settled.placed s.slots slots (Session is.session) = as_session_places tells (held mid) p.settled.placed s.slots slots e is.session is.puts logged.placed in
      working_after s is.session p.settled.placed slots given tells (held mid) new has.works has.consistent is.suits
      last_known placed.placed placed.holds
      (λ k. ap (λ (n : List ℕ). count_of given k + references_to k (contents_of (kept_by s).files n)) gone ∙ counts k)
      (ap (λ (n : List ℕ). held_in given + length (contents_of (kept_by s).files n)) gone ∙ held_less)
      sizes kept log slots_are opened

-- how many calls the disk took: those ahead of the log, and then the log's
pub called : (inside s : StoreState) (change p : PreparedChange) (placed : List Placed) (old mid end : ℕ) → inside ≡ s → change ≡ p → placed ≡ change.settled.placed → IsPreparedChange s p
    → mid ≡ calls_later (fresh_count placed + files_for inside.events.end (length change.events.events)) old → end ≡ calls_later 4 mid
    → end ≡ calls_later (calls_of_commit p.settled s.events.end) old
called inside s change p placed old mid end view p_view placed_is prepared ahead logged =
    let last : ℕ = s.events.end in
    let more = λ (l : List Placed) (t : StoreState) (c : PreparedChange). fresh_count l + files_for t.events.end (length c.events.events) in
    let first : more placed inside change ≡ fresh_count p.settled.placed + files_for last (length p.settled.events) =
    ap (λ (l : List Placed). more l inside change) placed_is
    ∙ ap (λ (t : StoreState). more change.settled.placed t change) view
    ∙ ap (λ (c : PreparedChange). more c.settled.placed s c) p_view
    ∙ ap (λ (l : List Event). fresh_count p.settled.placed + files_for last (length l)) prepared.events in
    logged ∙ ap (calls_later 4) ahead ∙ more_calls (more placed inside change) 4 old ∙ ap (λ (n : ℕ). calls_later (n + 4) old) first

-- the events of the change are counted
pub events_counted : (inside s : StoreState) (change p : PreparedChange) (known : EventsState) → inside ≡ s → change ≡ p → IsPreparedChange s p → EventsAreAppended change.events.events inside.events known → EventsAreAppended p.settled.events s.events known
events_counted inside s change p known view p_view prepared appended =
    subst (λ (l : List Event). EventsAreAppended l s.events known) prepared.events
    (subst (λ (c : PreparedChange). EventsAreAppended c.events.events s.events known) p_view
    (subst (λ (t : StoreState). EventsAreAppended change.events.events t.events known) view appended))

-- the contents of the files that go may be given up
pub may_give_up : {D : Type 0} (tells : Bool) (held : D → Files) (moment : D → ℕ) (images : D → ℕ → Files → Type 0) (s : StoreState) (p : PreparedChange) (e : LogEntry) (old mid : D) (slots : List Slot)
    → HasPlaced tells held moment images s p e old mid → PlacesAll tells (held mid) p.settled.placed s.slots slots e
    → (k : ℕ) → references_to k (contents_of (kept_by s).files p.settled.gone) ≤ count_of slots k
may_give_up tells held moment images s p e old mid slots has places k =
    let is = entry_acts s p e has.consistent has.prepared has.same in
    let placed : PlacesAll tells (held mid) p.settled.placed s.slots slots (Session is.session) = as_session_places tells (held mid) p.settled.placed s.slots slots e is.session is.puts places in
    let gone : is.session.gone ≡ p.settled.gone = is.gone in
    subst (λ (n : List ℕ). references_to k (contents_of (kept_by s).files n) ≤ count_of slots k) gone
    (referred_gone s is.session slots has.works has.consistent is.suits placed.holds k)
