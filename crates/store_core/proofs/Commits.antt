-- A session's entry, what a store knows once it is applied, and which files hold it.
use Rattle.std.proofs.Common.{◌≡◌, ℕ, ◌+◌, ◌≤◌, Bool, true, false, List, [], ◌∷◌, length, map, take, drop, get_or, refl, sym, ap, subst, ◌∙◌, arith, inl, inr, length-set}
use Rattle.std.specs.List.{AllZip}
use Rattle.std.specs.Prelude.{Option, None, Some, is_none, Ok, All, Contains}
use Rattle.std.proofs.lemmas.Bool.{and_from}
use Rattle.std.proofs.lemmas.List.{length-map}
use Rattle.std.proofs.lemmas.List.Elements.{All-nil, All-cons}
use Rattle.sha2.specs.Sha256.{sha256}
use Rattle.disk_trait.specs.Files.{Files, named}
use Rattle.disk_trait.specs.declared.file_name.FileKind.TheVariants.{Log, Claim, Events}
use Rattle.disk_trait.specs.declared.file_name.FileName.{FileName}
use Rattle.flowfile_record.specs.Shared.{AreShared, is_stored}
use Rattle.flowfile_record.specs.Stored.{Kept}
use Rattle.flowfile_record.specs.declared.change.Settled.{Settled}
use Rattle.flowfile_record.specs.declared.content.ContentRef.{ContentRef}
use Rattle.flowfile_record.specs.declared.limits.TheConstants.{LIVE_FILES_MAX}
use Rattle.flowfile_record.specs.declared.stored.ActiveFile.{ActiveFile}
use Rattle.flowfile_record.specs.declared.stored.Counted.{Counted}
use Rattle.flowfile_record.specs.declared.stored.Fresh.{Fresh}
use Rattle.flowfile_record.specs.declared.stored.Fresh.TheVariants.{No, Bytes, Staged, As}
use Rattle.flowfile_record.specs.declared.stored.Placed.{Placed}
use Rattle.record_codec.specs.Placeless.{placeless_active, placeless_entry}
use Rattle.record_codec.specs.declared.entry.LogEntry.{LogEntry}
use Rattle.record_codec.specs.declared.entry.LogEntry.TheVariants.{Begin, Session, Expire, SwapOut, SwapIn, Age}
use Rattle.record_codec.specs.declared.entry.ExpireEntry.{ExpireEntry}
use Rattle.record_codec.specs.declared.entry.SessionEntry.{SessionEntry}
use Rattle.checkpoint_store.specs.Consistent.{IsConsistent}
use Rattle.content_repo.specs.Claims.{claim, content_in, HasSizes}
use Rattle.content_repo.specs.Slots.{count_of, size_of, held_in, references_to, end_of, IsNamed}
use Rattle.content_repo.specs.declared.slot.Slot.{Slot}
use Rattle.flowfile_wal.specs.Steps.{AddsEntry, IsFrame}
use Rattle.flowfile_wal.proofs.OneEntry.{one_framed}
use Rattle.record_codec.specs.EntryEncoding.{entry as encoding, kind_of, IsEntry}
use Rattle.record_codec.specs.Frames.{entry_frame}
use Rattle.record_codec.specs.LogEntries.{belongs}
use Rattle.record_codec.specs.declared.block.TheConstants.{PAYLOAD_MAX}
use Rattle.record_codec.proofs.Sizes.{placeless_entry_size}
use Rattle.kept_state.specs.Applied.{left_after, session_applied, applied, batch_swapped_out}
use Rattle.flowfile_record.specs.Counts.{with_count}
use Rattle.kept_state.specs.Changes.{entry_of_session, expiry_entry, record_of, no_files, placed_in, MaySettleAs, MayExpireAs}
use Rattle.kept_state.specs.Fits.{entry_suits, session_suits}
use Rattle.kept_state.specs.Limits.{live_limit}
use Rattle.kept_state.proofs.Expiring.{expiry_payload, same_effect}
use Rattle.kept_state.proofs.Going.{active_from_one}
use Rattle.kept_state.proofs.Keeping.{within_limits, session_parts, distinct_of_suits, active_of_suits, length-with_files}
use Rattle.kept_state.proofs.Placing.{placeless_fits}
use Rattle.machine_model.specs.Changing.{HaveDigests}
use Rattle.prov_store.specs.Events.{events_file}
use Rattle.prov_store.specs.State.{HasEvents}
use Rattle.store_core.specs.Agreement.{SameEventFiles}
use Rattle.store_core.specs.Change.{IsFresh, IsOldLive, HasLiveContents}
use Rattle.store_core.specs.Committed.{PreparedChange, IsPreparedChange, IsEntryFor}
use Rattle.store_core.specs.Flow.{Flow, flow_in}
use Rattle.store_core.specs.Kept.{kept_in}
use Rattle.store_core.specs.Placing.{contents_of, IsHeldIn, MayPlace, IsPlacedAs, ArePlaced, HoldsMore, ReferAlike}
use Rattle.store_core.specs.State.{contents_damage, live_contents}
use Rattle.store_core.specs.Store.{StoreState, IsWorking, kept_by, live_in, FilesHold, HasLog}
use Rattle.store_core.proofs.Committing.{kept_with_entry}
use Rattle.store_core.proofs.Counting.{references_left, references_applied, length_applied}
use Rattle.store_core.proofs.EventsStay.{has_same}
use Rattle.store_core.proofs.Parts.{part_covered, part_held}
use Rattle.store_core.proofs.Reclaiming.{counted}
use Rattle.store_core.proofs.Sharing.{HasSource, all_at, all_sources}
use Rattle.store_core.proofs.Sound.{IsSoundIn, content_of, each_sound, all_sound, one_sound, all_applied}

-- ---- the entry

-- it does what that of a session does, which is this one but for where its contents stand
pub record ActsAs (k : Kept) (e : LogEntry) (t : SessionEntry) : Type 0 where
  pub session : SessionEntry
  pub act : applied no_files k e ≡ session_applied k session
  pub puts : placed_in e ≡ session.placed
  pub alone : batch_swapped_out e ≡ []
  pub later : kind_of e ≡ 1 → ⊥
  pub belongs_always : (version : ℕ) → belongs version e ≡ true
  pub fit : entry_suits no_files k e ≡ true
  pub suits : session_suits no_files k session ≡ true
  pub small : length (encoding e) ≤ PAYLOAD_MAX
  pub gone : session.gone ≡ t.gone
  pub placed : map placeless_active session.placed ≡ map placeless_active t.placed
  pub next_number : session.next_number ≡ t.next_number
  pub next_arrival : session.next_arrival ≡ t.next_arrival
  pub last_event : session.last_event ≡ t.last_event
  pub generator : session.generator ≡ t.generator

abbrev part_of : SessionEntry → LogEntry → SessionEntry
part_of t (Session s) = s
part_of t _ = t

pub fits_placed : (k : Kept) (s : Settled) (e : LogEntry) → MaySettleAs k s → live_limit (session_applied k (entry_of_session k s)) ≡ None
    → placeless_entry e ≡ placeless_entry (Session (entry_of_session k s)) → entry_suits no_files k e ≡ true
fits_placed k s e may none same =
    let fit : entry_suits no_files k (Session (entry_of_session k s)) ≡ true =
    and_from (session_suits no_files k (entry_of_session k s)) (is_none (live_limit (session_applied k (entry_of_session k s)))) may.suits (ap is_none none) in
    sym (placeless_fits no_files k e) ∙ ap (entry_suits no_files k) same ∙ placeless_fits no_files k (Session (entry_of_session k s)) ∙ fit

session_acts : (k : Kept) (s : Settled) (e : LogEntry) → MaySettleAs k s → live_limit (session_applied k (entry_of_session k s)) ≡ None → placeless_entry e ≡ placeless_entry (Session (entry_of_session k s))
    → ActsAs k e (entry_of_session k s)
session_acts k s (Session t) may none same =
    let fit = fits_placed k s (Session t) may none same in
    record {
      session = t;
      act = refl;
      puts = refl;
      alone = refl;
      later = λ (one : kind_of (Session t) ≡ 1). omega (arith, one);
      belongs_always = λ version. refl;
      fit = fit;
      suits = (session_parts k t fit).0;
      small =
          omega (
            arith,
            may.payload,
            placeless_entry_size (Session t),
            placeless_entry_size (Session (entry_of_session k s)),
            ap {B = ℕ} (λ (l : LogEntry). length (encoding l)) same,
          );
      gone = ap (λ (l : LogEntry). (part_of t l).gone) same;
      placed = ap (λ (l : LogEntry). (part_of t l).placed) same;
      next_number = ap (λ (l : LogEntry). (part_of t l).next_number) same;
      next_arrival = ap (λ (l : LogEntry). (part_of t l).next_arrival) same;
      last_event = ap (λ (l : LogEntry). (part_of t l).last_event) same;
      generator = ap (λ (l : LogEntry). (part_of t l).generator) same;
    }
session_acts k s (Begin version log) may none same = absurd cc
session_acts k s (Expire e) may none same = absurd cc
session_acts k s (SwapOut e) may none same = absurd cc
session_acts k s (SwapIn connection batch) may none same = absurd cc
session_acts k s (Age line) may none same = absurd cc

expiry_same : (e : LogEntry) (x : ExpireEntry) → placeless_entry e ≡ Expire x → e ≡ Expire x
expiry_same (Expire e) x same = same
expiry_same (Begin version log) x same = absurd cc
expiry_same (Session e) x same = absurd cc
expiry_same (SwapOut e) x same = absurd cc
expiry_same (SwapIn connection batch) x same = absurd cc
expiry_same (Age line) x same = absurd cc

expiry_acts : (k : Kept) (connection : ℕ) (s : Settled) (e : LogEntry) → IsConsistent k → MaySettleAs k s → MayExpireAs k connection s → e ≡ expiry_entry k connection s → ActsAs k e (entry_of_session k s)
expiry_acts k connection s e was settles may is = record {
  session = entry_of_session k s;
  act = ap (applied no_files k) is ∙ same_effect k connection s may;
  puts = ap placed_in is ∙ sym (ap (λ (t : Settled). map record_of t.placed) may.as_session);
  alone = ap batch_swapped_out is;
  later = λ (one : kind_of e ≡ 1). let other : kind_of (expiry_entry k connection s) ≡ 1 = ap kind_of (sym is) ∙ one in omega (arith, other);
  belongs_always = λ version. ap (belongs version) is;
  fit = ap (entry_suits no_files k) is ∙ may.fits;
  suits = settles.suits;
  small = omega (arith, expiry_payload k connection s was may, ap {B = ℕ} (λ (l : LogEntry). length (encoding l)) is);
  gone = refl;
  placed = refl;
  next_number = refl;
  next_arrival = refl;
  last_event = refl;
  generator = refl;
}

-- ---- the contents may be placed

held_live : (s : StoreState) → IsWorking s → (at : ContentRef) → Contains (live_in s) at → IsHeldIn s.slots at
held_live s works at has =
    let i = has.0 in
    subst (IsHeldIn s.slots) has.2 (record {
      held = counted s works i at has.1;
      named = works.named i at has.1;
      within = works.within i at has.1;
    })

pub may_place : (s : StoreState) (p : PreparedChange) → IsPreparedChange s p → HasLiveContents s p.settled → IsWorking s → IsConsistent (kept_by s) → length s.opened ≤ LIVE_FILES_MAX
    → MayPlace s.slots p.settled.placed
may_place s p prepared live works consistent opened =
    let k = kept_by s in
    let t = entry_of_session k p.settled in
    let limits = within_limits (session_applied k t) prepared.within.live in
    record {
      fresh = prepared.may.fresh;
      room = prepared.within.claims;
      old = λ i d lt none.
          let part = live i d lt none in
          part_held s.slots (get_or p.settled.placed i d).file.content part.0 part.2 (held_live s works part.0 part.1);
      shared = prepared.may.shared;
      few =
          omega (
            arith,
            works.held,
            opened,
            consistent.live_files,
            limits.0,
            length-map k.files (λ a. a.file.content),
            length-with_files t.placed (left_after t.gone k.files),
            length-map p.settled.placed record_of,
          );
    }

-- ---- what a store knows

zip_all : (P : ContentRef → Type 0) (R : Placed → ActiveFile → Type 0) (placed : List Placed) (files : List ActiveFile) → ((p : Placed) (a : ActiveFile) → R p a → P (content_of a)) → AllZip R placed files
    → All P (map content_of files)
zip_all P R [] [] to all = All-nil P
zip_all P R [] (a ∷ files) to all = absurd all
zip_all P R (p ∷ placed) [] to all = absurd all
zip_all P R (p ∷ placed) (a ∷ files) to all = All-cons P (content_of a) (map content_of files) (to p a all.0) (zip_all P R placed files to all.1)

pub working_after : (s : StoreState) (se : SessionEntry) (placed : List Placed) (placed_slots slots : List Slot) (tells : Bool) (files : Files) (new : StoreState) → IsWorking s → IsConsistent (kept_by s)
    → session_suits no_files (kept_by s) se ≡ true → se.last_event ≡ new.events.end
    → ArePlaced tells placed_slots files placed se.placed → HoldsMore se.placed s.slots placed_slots
    → ((k : ℕ) → count_of slots k + references_to k (contents_of (kept_by s).files se.gone) ≡ count_of placed_slots k)
    → held_in slots + length (contents_of (kept_by s).files se.gone) ≡ held_in placed_slots
    → ((k : ℕ) → size_of slots k ≡ size_of placed_slots k)
    → kept_by new ≡ session_applied (kept_by s) se → new.log.failed ≡ false → new.slots ≡ slots → new.opened ≡ s.opened
    → IsWorking new
working_after s se placed placed_slots slots tells files new works consistent suits no_event are holds counts held sizes kept log slots_are opened =
    let k = kept_by s in
    let distinct = distinct_of_suits k se suits in
    let active = active_from_one k.files se.gone (active_of_suits k se suits) in
    let live : live_in new ≡ live_contents (session_applied k se) = ap live_contents kept in
    record {
      log = log;
      last_event = ap (λ (l : Kept). l.last_event) kept ∙ no_event;
      counts = λ j.
          omega (
            arith,
            ap (λ (l : List Slot). count_of l j) slots_are,
            counts j,
            holds.counts j,
            works.counts j,
            references_applied j k se consistent.numbers distinct active,
            ap (references_to j) live,
            ap (references_to j) opened,
          );
      held =
          omega (
            arith,
            ap held_in slots_are,
            held,
            holds.held,
            works.held,
            length_applied k se consistent.numbers distinct active,
            ap length live,
            ap length opened,
            length-map k.files content_of,
            length-map (session_applied k se).files content_of,
          );
      named = subst (λ (refs : List ContentRef). All IsNamed refs) (sym live) (all_applied IsNamed k se works.named (zip_all IsNamed (IsPlacedAs tells placed_slots files) placed se.placed (λ p a is. is.named) are));
      within =
          subst (λ (refs : List ContentRef). All (λ at. end_of at ≤ size_of new.slots at.slot) refs) (sym live)
          (all_applied (λ at. end_of at ≤ size_of new.slots at.slot) k se
          (λ i d lt. let at = get_or (live_in s) i d in omega (arith, works.within i d lt, holds.sizes at.slot, sizes at.slot, ap (λ (l : List Slot). size_of l at.slot) slots_are))
          (zip_all (λ at. end_of at ≤ size_of new.slots at.slot) (IsPlacedAs tells placed_slots files) placed se.placed
          (λ p a is. omega (arith, is.within, sizes a.file.content.slot, ap (λ (l : List Slot). size_of l a.file.content.slot) slots_are)) are));
    }

pub referred_gone : (s : StoreState) (se : SessionEntry) (placed_slots : List Slot) → IsWorking s → IsConsistent (kept_by s) → session_suits no_files (kept_by s) se ≡ true → HoldsMore se.placed s.slots placed_slots
    → (k : ℕ) → references_to k (contents_of (kept_by s).files se.gone) ≤ count_of placed_slots k
referred_gone s se placed_slots works consistent suits holds j =
    let k = kept_by s in
    let active = active_from_one k.files se.gone (active_of_suits k se suits) in
    omega (arith, references_left j se.gone k.files consistent.numbers (distinct_of_suits k se suits) active, works.counts j, holds.counts j)

-- ---- files

sound_with : (files : Files) (slots : List Slot) (s : StoreState) (p : Placed) (a : ActiveFile) → HasSizes slots files → contents_damage files (live_in s) ≡ None → IsFresh p → IsOldLive s p
    → (is_stored p.fresh ≡ true → sha256 (content_in files p.file.content) ≡ p.file.content.digest) → ((of : ℕ) → p.fresh ≡ As of → ⊥) → IsPlacedAs true slots files p a → IsSoundIn files (content_of a)
sound_with files slots s p a sizes live fresh old digest alone is = by p.fresh refl
  where
    stored : is_stored p.fresh ≡ true → IsSoundIn files (content_of a)
    stored is_old =
        let part = old is_old in
        subst (IsSoundIn files) (sym (is.old is_old)) (record {
          covered = part_covered files p.file.content part.0 part.2 (one_sound files (live_in s) part.0 live part.1).covered;
          digest = digest is_old;
        })

    by : (f : Fresh) → p.fresh ≡ f → IsSoundIn files (content_of a)
    by No from = stored (ap is_stored from)
    by Staged from = stored (ap is_stored from)
    by (As of) from = absurd (alone of from)
    by (Bytes bytes) some =
        let at = content_of a in
        let f = fresh bytes some in
        record {
          covered = omega (arith, is.within, sizes at.slot);
          digest = ap sha256 (is.stands refl bytes some) ∙ sym f.2 ∙ sym is.digest;
        }

pub placed_sound : (files : Files) (slots : List Slot) (s : StoreState) (placed : List Placed) (recorded : List ActiveFile) → HasSizes slots files → contents_damage files (live_in s) ≡ None
    → All IsFresh placed → All (IsOldLive s) placed → HaveDigests (content_in files) placed → AreShared placed → ReferAlike placed recorded → ArePlaced true slots files placed recorded → All (IsSoundIn files) (map content_of recorded)
placed_sound files slots s placed recorded sizes live fresh old digests shared alike are =
    zip_all (IsSoundIn files) (HasSource placed true slots files) placed recorded
    (λ p a from.
    subst (IsSoundIn files) (sym from.refers)
    (sound_with files slots s from.source from.by sizes live (all_at IsFresh placed from.place from.source fresh from.there) (all_at (IsOldLive s) placed from.place from.source old from.there)
    (all_at (λ (p : Placed). is_stored p.fresh ≡ true → sha256 (content_in files p.file.content) ≡ p.file.content.digest) placed from.place from.source digests from.there) from.alone from.stands))
    (all_sources placed true slots files recorded shared alike are)

counts_long : (g : Option Counted) (counts : List ℕ) → length (with_count g counts) ≡ length counts
counts_long None counts = refl
counts_long (Some g) counts = length-set counts g.processor g.count

pub same_flow : (k : Kept) (se : SessionEntry) → flow_in (session_applied k se) ≡ flow_in k
same_flow k se = ap (λ (n : ℕ). record { digest = k.flow; connections = k.connections; processors = n }) (counts_long se.generator k.counts)

same_sound : (number : ℕ) (e : LogEntry) (old new : Files) (at : ContentRef) → AddsEntry number e old new → IsSoundIn old at → IsSoundIn new at
same_sound number e old new at added is =
    let same : new (claim at.slot) ≡ old (claim at.slot) = added.others (claim at.slot) (λ (x : claim at.slot ≡ named Log number). let kinds : Claim ≡ Log = ap (λ (f : FileName). f.kind) x in absurd cc) in
    record {
      covered = omega (arith, is.covered, ap {B = ℕ} length same);
      digest = ap (λ (bytes : List ℕ). sha256 (take at.size (drop at.offset bytes))) same ∙ is.digest;
    }

pub events_beside_log : (number : ℕ) (e : LogEntry) (old new : Files) → AddsEntry number e old new → SameEventFiles old new
events_beside_log number e old new added k =
    added.others (events_file k) (λ (x : events_file k ≡ named Log number). let kinds : Events ≡ Log = ap (λ (f : FileName). f.kind) x in absurd cc)

-- files that held what is kept, and got an entry that does what a session's does, hold what is kept after it
pub holds_added : (s new : StoreState) (number : ℕ) (e : LogEntry) (se : SessionEntry) (old files : Files) → HasLog s old → FilesHold s old → s.log.number ≡ Some number → applied no_files (kept_by s) e ≡ session_applied (kept_by s) se → batch_swapped_out e ≡ []
    → entry_suits no_files (kept_by s) e ≡ true → AddsEntry number e old files → All (IsSoundIn old) (map content_of se.placed) → kept_by new ≡ applied no_files (kept_by s) e → new.lot ≡ s.lot → new.events.line ≡ s.events.line → HasEvents new.events old → FilesHold new files
holds_added s new number e se old files has holds numbered act alone fit added placed kept lot line events =
    let k = kept_by s in
    let log = has.ready.log in
    let both : Some number ≡ Some log.number = sym numbered ∙ has.ready.number in
    let same : number ≡ log.number = cc in
    let kept_as : kept_by new ≡ session_applied k se = kept ∙ act in
    let flow : flow_in (kept_by new) ≡ flow_in k = ap flow_in kept_as ∙ same_flow k se in
    let live : live_in new ≡ live_contents (session_applied k se) = ap live_contents kept_as in
    let now = kept_with_entry (flow_in k) s.lot old files log k e has.ready.ready (subst (λ (n : ℕ). AddsEntry n e old files) same added) alone fit holds.kept in
    record {
      kept = ap (λ (f : Flow). kept_in f new.lot files) flow ∙ ap (λ (l : ℕ). kept_in (flow_in k) l files) lot ∙ now ∙ ap (λ (l : Kept). Ok l) (sym kept);
      contents =
          ap (contents_damage files) live
          ∙ all_sound files (live_contents (session_applied k se))
          (λ i d lt. same_sound number e old files (get_or (live_contents (session_applied k se)) i d) added
          (all_applied (IsSoundIn old) k se (each_sound old (live_in s) holds.contents) placed i d lt));
      events = has_same new.events old files (events_beside_log number e old files added) events;
      line = line ∙ holds.line;
    }

-- ---- the entry of a prepared change, once its contents are placed

module _ (s : StoreState) (p : PreparedChange) (e : LogEntry) (was : IsConsistent (kept_by s)) (prepared : IsPreparedChange s p) (same : placeless_entry e ≡ placeless_entry p.entry) where
  pub entry_acts : ActsAs (kept_by s) e (entry_of_session (kept_by s) p.settled)
  entry_acts = by prepared.entry
    where
      by : IsEntryFor (kept_by s) p.settled p.entry → ActsAs (kept_by s) e (entry_of_session (kept_by s) p.settled)
      by (inl is) = session_acts (kept_by s) p.settled e prepared.may.settles prepared.within.live (same ∙ ap placeless_entry is)
      by (inr expiry) =
          let is = expiry_same e _ (same ∙ ap placeless_entry expiry.is) in
          expiry_acts (kept_by s) expiry.connection p.settled e was prepared.may.settles expiry.may is

  pub entry_room : length (placed_in e) ≤ s.memory.room
  entry_room =
      omega (
        arith,
        prepared.room,
        ap {B = ℕ} length entry_acts.puts,
        length-map entry_acts.session.placed placeless_active,
        ap {B = ℕ} length entry_acts.placed,
        length-map (entry_of_session (kept_by s) p.settled).placed placeless_active,
        length-map p.settled.placed record_of,
      )

-- the placed files of the entry that was prepared
pub recorded_first : (s : StoreState) (p : PreparedChange) → IsPreparedChange s p → placed_in p.entry ≡ map record_of p.settled.placed
recorded_first s p prepared = by prepared.entry
  where
    by : IsEntryFor (kept_by s) p.settled p.entry → placed_in p.entry ≡ map record_of p.settled.placed
    by (inl is) = ap placed_in is
    by (inr expiry) = ap placed_in expiry.is ∙ sym (ap (λ (t : Settled). map record_of t.placed) expiry.may.as_session)

-- the block of the entry of a prepared change may be appended
pub framed_alone : (s : StoreState) (p : PreparedChange) (e : LogEntry) (version : ℕ) (bytes : List ℕ) → IsConsistent (kept_by s) → IsPreparedChange s p → placeless_entry e ≡ placeless_entry p.entry → IsEntry e → bytes ≡ entry_frame e
    → IsFrame version (e ∷ []) bytes
framed_alone s p e version bytes was prepared same encodes is =
    let acts = entry_acts s p e was prepared same in one_framed version e bytes encodes acts.small acts.later (acts.belongs_always version) is
