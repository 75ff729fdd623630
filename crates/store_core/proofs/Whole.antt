-- A commit as a whole: what a stop within it leaves.
use Rattle.std.proofs.Common.{◌≡◌, ℕ, ◌+◌, ◌-◌, ◌^◌, Bool, true, List, [], ◌∷◌, length, map, sym, ap, subst, ◌∙◌, inl, inr, arith, length-append, IsTrue}
use Rattle.std.specs.Prelude.{Option, Some, Result, Ok, All, ◌⊎◌, min}
use Rattle.disk_trait.specs.Files.{Files, named}
use Rattle.disk_trait.specs.Images.{After, Since}
use Rattle.disk_trait.specs.declared.file_name.FileKind.TheVariants.{Log, Claim, Events}
use Rattle.disk_trait.specs.declared.file_name.FileName.{FileName}
use Rattle.disk_trait.proofs.Moments.{wider, wider_where_left, at_the_end, one_after_another}
use Rattle.flowfile_record.specs.declared.stored.ActiveFile.{ActiveFile}
use Rattle.record_codec.specs.declared.entry.LogEntry.{LogEntry}
use Rattle.record_codec.specs.declared.entry.SessionEntry.{SessionEntry}
use Rattle.content_repo.specs.Claims.{claim, content_in}
use Rattle.content_repo.specs.declared.slot.Slot.{Slot}
use Rattle.flowfile_wal.specs.Calls.{InEach, WithOrWithoutEntry}
use Rattle.flowfile_wal.specs.Current.{CurrentLog, current_log}
use Rattle.flowfile_wal.specs.Steps.{AddsEntry, EndsClosed, IsClosedIn, IsReadyIn, with_entry}
use Rattle.flowfile_wal.proofs.Files.{with_one_entry}
use Rattle.checkpoint_store.specs.Consistent.{IsConsistent}
use Rattle.kept_state.specs.Applied.{applied, session_applied, batch_swapped_out}
use Rattle.kept_state.specs.Changes.{no_files}
use Rattle.kept_state.specs.Fits.{entry_suits}
use Rattle.machine_model.specs.Changing.{HaveDigests}
use Rattle.prov_store.specs.State.{EventsState, HasEvents, IsTrimmed}
use Rattle.store_core.specs.Committed.{HoldsEither, LogsEntry}
use Rattle.store_core.specs.Touched.{MayTouch, TouchesOnly}
use Rattle.store_core.specs.Placing.{GrowsAhead}
use Rattle.store_core.specs.Store.{StoreState, IsWorking, IsKeptOn, kept_by, FilesHold, HasLog}
use Rattle.disk_trait.specs.declared.damage.Damage.{Damage}
use Rattle.content_repo.specs.Slots.{size_of}
use Rattle.store_core.proofs.ClaimsAlone.{SameLogs, current_same, has_log_same}
use Rattle.store_core.proofs.EventsStay.{trimmed_same}
use Rattle.store_core.proofs.Commits.{holds_added, events_beside_log, placed_sound, entry_acts}
use Rattle.record_codec.specs.Placeless.{placeless_entry}
use Rattle.content_repo.specs.Claims.{HasSizes}
use Rattle.store_core.specs.Change.{HasLiveContents}
use Rattle.store_core.specs.Committed.{PreparedChange, IsPreparedChange}
use Rattle.store_core.specs.Placing.{ArePlaced, ReferAlike}
use Rattle.kept_state.specs.Changes.{placed_in}
use Rattle.store_core.proofs.Following.{Follows, follows_ahead, follows_kept_log, follows_in_turn, holds_following, logs_ahead}
use Rattle.store_core.proofs.Sound.{IsSoundIn, content_of}

-- ---- before the log

-- files that grow ahead of the log hold what is kept
pub holds_ahead : (s : StoreState) (old new : Files) → IsWorking s → HasLog s old → FilesHold s old → GrowsAhead s.slots s.events old new → FilesHold s new
holds_ahead s old new works has holds grows = holds_following s old new has (follows_ahead s old new works holds.events grows) holds

module _ {D : Type 0} (moment : D → ℕ) (images : D → ℕ → Files → Type 0) (s : StoreState) (old mid : D) where
  -- each image is one of the start, grown ahead of the log
  abbrev pub SinceAhead : Type 0
  SinceAhead = Since moment images old mid (After (GrowsAhead s.slots s.events) (images old (moment old)))

  pub ready_ahead : InEach (images old (moment old)) (HasLog s) → SinceAhead → InEach (images mid (moment mid)) (HasLog s)
  ready_ahead has since c left =
      let after = at_the_end moment images old mid (After (GrowsAhead s.slots s.events) (images old (moment old))) since c left in
      has_log_same s after.0 c (logs_ahead s after.0 c after.2) (has after.0 after.1)

  pub since_ahead_holds : IsWorking s → InEach (images old (moment old)) (HasLog s) → InEach (images old (moment old)) (FilesHold s) → SinceAhead → Since moment images old mid (FilesHold s)
  since_ahead_holds works has holds since =
      wider moment images old mid (After (GrowsAhead s.slots s.events) (images old (moment old))) (FilesHold s) since
      (λ c after. holds_ahead s after.0 c works (has after.0 after.1) (holds after.0 after.1) after.2)

-- ---- the whole

-- the entry, as it is added behind the contents that were placed
pub record IsAdded (s new : StoreState) (e : LogEntry) (held : Files) : Type 0 where
  pub session : SessionEntry
  pub act : applied no_files (kept_by s) e ≡ session_applied (kept_by s) session
  pub alone : batch_swapped_out e ≡ []
  pub fit : entry_suits no_files (kept_by s) e ≡ true
  pub contents : All (IsSoundIn held) (map content_of session.placed)
  pub kept : kept_by new ≡ applied no_files (kept_by s) e
  pub lot : new.lot ≡ s.lot
  pub line : new.events.line ≡ s.events.line
  pub events : HasEvents new.events held

module _ {D : Type 0} (moment : D → ℕ) (images : D → ℕ → Files → Type 0) (held : D → Files) (s new : StoreState) (number : ℕ) (e : LogEntry) (old mid end : D) where
  -- one of the start grown ahead of the log, with the same log, or what was held with the entry
  abbrev pub Either : Files → Type 0
  Either c = After (Follows s) (images old (moment old)) c ⊎ AddsEntry number e (held mid) c

  pub since_either : IsWorking s → InEach (images old (moment old)) (FilesHold s) → Since moment images old mid (After (GrowsAhead s.slots s.events) (images old (moment old)))
      → Since moment images mid end (WithOrWithoutEntry number e (images mid (moment mid)) (held mid)) → Since moment images old end Either
  since_either works holds first second =
      one_after_another moment images old mid end (After (GrowsAhead s.slots s.events) (images old (moment old))) (WithOrWithoutEntry number e (images mid (moment mid)) (held mid)) Either first second
      (λ c after. inl (after.0, after.1, follows_ahead s after.0 c works (holds after.0 after.1).events after.2))
      by_log
    where
      by_log : (c : Files) → WithOrWithoutEntry number e (images mid (moment mid)) (held mid) c → Either c
      by_log c (inl after) =
          let before = at_the_end moment images old mid (After (GrowsAhead s.slots s.events) (images old (moment old))) first after.0 after.1 in
          inl (before.0, before.1, follows_in_turn s before.0 after.0 c (follows_ahead s before.0 after.0 works (holds before.0 before.1).events before.2) (follows_kept_log s number after.0 c after.2))
      by_log c (inr added) = inr added

  module _ (works : IsWorking s) (has : InEach (images old (moment old)) (HasLog s)) (holds : InEach (images old (moment old)) (FilesHold s))
      (first : Since moment images old mid (After (GrowsAhead s.slots s.events) (images old (moment old)))) (numbered : s.log.number ≡ Some number) where
    -- what was held is one of the images
    pub holds_new : images mid (moment mid) (held mid) → IsAdded s new e (held mid) → (c : Files) → AddsEntry number e (held mid) c → FilesHold new c
    holds_new left is c added =
        let before = at_the_end moment images old mid (After (GrowsAhead s.slots s.events) (images old (moment old))) first (held mid) left in
        let has_mid = has_log_same s before.0 (held mid) (logs_ahead s before.0 (held mid) before.2) (has before.0 before.1) in
        let holds_mid = holds_ahead s before.0 (held mid) works (has before.0 before.1) (holds before.0 before.1) before.2 in
        holds_added s new number e is.session (held mid) c has_mid holds_mid numbered is.act is.alone is.fit added is.contents is.kept is.lot is.line is.events

    pub since_holds : (tells : Bool) → ((k : ℕ) (c : Files) → images end k c → IsTrue tells) → (IsTrue tells → images mid (moment mid) (held mid)) → (IsTrue tells → IsAdded s new e (held mid))
        → Since moment images mid end (WithOrWithoutEntry number e (images mid (moment mid)) (held mid)) → Since moment images old end (HoldsEither s new)
    since_holds tells told left is second =
        wider_where_left moment images old end Either (HoldsEither s new) (since_either works holds first second) by_end
      where
        by_end : (k : ℕ) (c : Files) → images end k c → Either c → HoldsEither s new c
        by_end k c image (inl after) = inl (holds_following s after.0 c (has after.0 after.1) after.2 (holds after.0 after.1))
        by_end k c image (inr added) = let t = told k c image in inr (holds_new (left t) (is t) c added)

-- ---- which files change

not_claim : (log : Option ℕ) (f : FileName) → (MayTouch log f → ⊥) → f.kind ≡ Claim → ⊥
not_claim log f other is = other (inl is)

not_events : (log : Option ℕ) (f : FileName) → (MayTouch log f → ⊥) → f.kind ≡ Events → ⊥
not_events log f other is = other (inr (inl is))

not_log : (log : Option ℕ) (number : ℕ) (f : FileName) → log ≡ Some number → (MayTouch log f → ⊥) → f ≡ named Log number → ⊥
not_log log number f numbered other is = other (inr (inr (number, numbered, is)))

pub touches_ahead : (log : Option ℕ) (slots : List Slot) (events : EventsState) (old new : Files) → GrowsAhead slots events old new → TouchesOnly (MayTouch log) old new
touches_ahead log slots events old new grows f other = grows.events.others f (not_events log f other) ∙ grows.claims.others f (not_claim log f other)

module _ {D : Type 0} (moment : D → ℕ) (images : D → ℕ → Files → Type 0) (held : D → Files) (log : Option ℕ) (slots : List Slot) (events : EventsState) (number : ℕ) (e : LogEntry) (old mid end : D) where
  abbrev pub Touching : Files → Type 0
  Touching = After (TouchesOnly (MayTouch log)) (images old (moment old))

  pub since_ahead_touches : Since moment images old mid (After (GrowsAhead slots events) (images old (moment old))) → Since moment images old mid Touching
  since_ahead_touches since =
      wider moment images old mid (After (GrowsAhead slots events) (images old (moment old))) Touching since (λ c after. (after.0, after.1, touches_ahead log slots events after.0 c after.2))

  pub since_touches : log ≡ Some number → Since moment images old mid (After (GrowsAhead slots events) (images old (moment old)))
      → Since moment images mid end (WithOrWithoutEntry number e (images mid (moment mid)) (held mid))
      → (tells : Bool) → ((k : ℕ) (c : Files) → images end k c → IsTrue tells) → (IsTrue tells → images mid (moment mid) (held mid)) → Since moment images old end Touching
  since_touches numbered first second tells told left =
      wider_where_left moment images old end (λ c. Touching c ⊎ AddsEntry number e (held mid) c) Touching
      (one_after_another moment images old mid end (After (GrowsAhead slots events) (images old (moment old))) (WithOrWithoutEntry number e (images mid (moment mid)) (held mid)) (λ c. Touching c ⊎ AddsEntry number e (held mid) c) first second
      (λ c after. inl (after.0, after.1, touches_ahead log slots events after.0 c after.2)) by_log)
      by_end
    where
      from_mid : (d c : Files) → images mid (moment mid) d → ((f : FileName) → (f ≡ named Log number → ⊥) → c f ≡ d f) → Touching c
      from_mid d c image others =
          let before = at_the_end moment images old mid (After (GrowsAhead slots events) (images old (moment old))) first d image in
          (before.0, before.1, λ f other. others f (not_log log number f numbered other) ∙ touches_ahead log slots events before.0 d before.2 f other)

      by_log : (c : Files) → WithOrWithoutEntry number e (images mid (moment mid)) (held mid) c → Touching c ⊎ AddsEntry number e (held mid) c
      by_log c (inl after) = inl (from_mid after.0 c after.1 after.2.others)
      by_log c (inr added) = inr added

      by_end : (k : ℕ) (c : Files) → images end k c → Touching c ⊎ AddsEntry number e (held mid) c → Touching c
      by_end k c image (inl touching) = touching
      by_end k c image (inr added) = from_mid (held mid) c (left (told k c image)) added.others

-- ---- what a commit adds

module _ {D : Type 0} (moment : D → ℕ) (images : D → ℕ → Files → Type 0) (held : D → Files) (s new : StoreState) (p : PreparedChange) (e : LogEntry) (old mid : D) (slots : List Slot) where
  pub is_added : (works : IsWorking s) → InEach (images old (moment old)) (HasLog s) → InEach (images old (moment old)) (FilesHold s)
      → Since moment images old mid (After (GrowsAhead s.slots s.events) (images old (moment old)))
      → IsConsistent (kept_by s) → (prepared : IsPreparedChange s p) → (same : placeless_entry e ≡ placeless_entry p.entry) → HasLiveContents s p.settled
      → HaveDigests (content_in (held mid)) p.settled.placed → images mid (moment mid) (held mid) → HasSizes slots (held mid) → ReferAlike p.settled.placed (placed_in e) → ArePlaced true slots (held mid) p.settled.placed (placed_in e)
      → kept_by new ≡ applied no_files (kept_by s) e → new.lot ≡ s.lot → new.events.line ≡ s.events.line → HasEvents new.events (held mid) → IsAdded s new e (held mid)
  is_added works has holds first consistent prepared same live digests left sizes alike placed kept lot line events =
      let is = entry_acts s p e consistent prepared same in
      let before = at_the_end moment images old mid (After (GrowsAhead s.slots s.events) (images old (moment old))) first (held mid) left in
      let holds_mid = holds_ahead s before.0 (held mid) works (has before.0 before.1) (holds before.0 before.1) before.2 in
      record {
        session = is.session;
        act = is.act;
        alone = is.alone;
        fit = is.fit;
        contents =
            placed_sound (held mid) slots s p.settled.placed is.session.placed sizes holds_mid.contents prepared.may.fresh live digests prepared.may.shared
            (subst (ReferAlike p.settled.placed) is.puts alike)
            (subst (λ (l : List ActiveFile). ArePlaced true slots (held mid) p.settled.placed l) is.puts placed);
        kept = kept;
        lot = lot;
        line = line;
        events = events;
      }

-- ---- behind the log's second sync

abbrev read_as : Option CurrentLog → Result (Option CurrentLog) Damage
read_as log = Ok log

entries_more : (s new : StoreState) (e : LogEntry) (old files : Files) (number : ℕ) → HasLog s old → s.log.number ≡ Some number → AddsEntry number e old files → new.entries ≡ min (s.entries + 1) (2 ^ 64 - 1)
    → (l : CurrentLog) → current_log files ≡ Ok (Some l) → new.entries ≡ min (length l.entries) (2 ^ 64 - 1)
entries_more s new e old files number has numbered added more l is =
    let log = has.ready.log in
    let both : Some number ≡ Some log.number = sym numbered ∙ has.ready.number in
    let same : number ≡ log.number = cc in
    let now = with_one_entry log e old files has.ready.ready (subst (λ (n : ℕ). AddsEntry n e old files) same added) in
    let whole : read_as (Some l) ≡ read_as (Some (with_entry log e)) = sym is ∙ now.current in
    let last : l ≡ with_entry log e = cc in
    let long : length l.entries ≡ length log.entries + 1 = ap (λ (m : CurrentLog). length m.entries) last ∙ length-append log.entries ((log.end, e) ∷ []) in
    let before : s.entries ≡ min (length log.entries) (2 ^ 64 - 1) = has.entries log has.ready.ready.current in
    omega (arith, more, long, before)

pub logs_entry : (s : StoreState) (prepared e : LogEntry) (old mid new : Files) (number : ℕ) → HasLog s old → s.log.number ≡ Some number → SameLogs old mid → AddsEntry number e mid new
    → placeless_entry e ≡ placeless_entry prepared → LogsEntry prepared old new
logs_entry s prepared e old mid new number has numbered still added same =
    let log = has.ready.log in
    let both : Some number ≡ Some log.number = sym numbered ∙ has.ready.number in
    let numbers : number ≡ log.number = cc in
    let closed : IsClosedIn log mid = record {
      current = current_same old mid still ∙ has.ready.ready.current;
      closed = subst (λ (bytes : List ℕ). EndsClosed log.end bytes) (sym (still log.number)) has.ready.ready.closed;
    } in
    record {
      before = log;
      entry = e;
      same = same;
      was = has.ready.ready.current;
      now = (with_one_entry log e mid new closed (subst (λ (n : ℕ). AddsEntry n e mid new) numbers added)).current;
    }

claims_added : (number : ℕ) (e : LogEntry) (slots more : List Slot) (old new : Files) → AddsEntry number e old new → HasSizes slots old → ((k : ℕ) → size_of more k ≡ size_of slots k) → HasSizes more new
claims_added number e slots more old new added sizes same k =
    ap length (added.others (claim k) (λ (x : claim k ≡ named Log number). let kinds : Claim ≡ Log = ap (λ (f : FileName). f.kind) x in absurd cc)) ∙ sizes k ∙ sym (same k)

module _ {D : Type 0} (tells : Bool) (moment : D → ℕ) (images : D → ℕ → Files → Type 0) (held : D → Files) (s new : StoreState) (number : ℕ) (e : LogEntry) (old mid end : D) (slots : List Slot) where
  pub kept_added : (works : IsWorking s) → InEach (images old (moment old)) (HasLog s) → InEach (images old (moment old)) (FilesHold s)
      → Since moment images old mid (After (GrowsAhead s.slots s.events) (images old (moment old))) → s.log.number ≡ Some number
      → ((c : Files) → images end (moment end) c → IsTrue tells) → (IsTrue tells → images mid (moment mid) (held mid)) → (IsTrue tells → images end (moment end) (held end)) → (IsTrue tells → IsAdded s new e (held mid))
      → InEach (images end (moment end)) (AddsEntry number e (held mid)) → InEach (images end (moment end)) (IsReadyIn new.log)
      → new.entries ≡ min (s.entries + 1) (2 ^ 64 - 1) → (IsTrue tells → HasSizes slots (held mid)) → ((k : ℕ) → size_of new.slots k ≡ size_of slots k)
      → (IsTrue tells → IsTrimmed new.events.line new.events.end (held mid)) → IsKeptOn tells held moment images new end
  kept_added works has holds first numbered told left last is added ready more sizes same trimmed = record {
    holds = λ f c image. let t = told c image in holds_new moment images held s new number e old mid end works has holds first numbered (left t) (is t) c (added c image);
    log = λ f c image.
        let t = told c image in
        let before = at_the_end moment images old mid (After (GrowsAhead s.slots s.events) (images old (moment old))) first (held mid) (left t) in
        let has_mid = has_log_same s before.0 (held mid) (logs_ahead s before.0 (held mid) before.2) (has before.0 before.1) in
        record { ready = ready c image; entries = entries_more s new e (held mid) c number has_mid numbered (added c image) more };
    sizes = λ f t. claims_added number e slots new.slots (held mid) (held end) (added (held end) (last t)) (sizes t) same;
    trimmed = λ f t. trimmed_same new.events.line new.events.end (held mid) (held end) (events_beside_log number e (held mid) (held end) (added (held end) (last t))) (trimmed t);
  }
