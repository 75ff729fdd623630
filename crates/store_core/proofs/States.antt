-- The machine's state that files stand for once a session's entry was added.
use Rattle.std.proofs.Common.{◌≡◌, ℕ, ◌==◌, Bool, true, false, cond, not, List, [], ◌∷◌, ◌++◌, map, take, drop, get_or, refl, sym, ap, ◌∙◌, arith}
use Rattle.std.specs.Prelude.{None, Ok, All, filter, unwrap_or}
use Rattle.std.specs.List.{AllZip}
use Rattle.std.proofs.lemmas.List.{length-append}
use Rattle.std.proofs.lemmas.List.Elements.{All-head, All-tail, All-filter}
use Rattle.disk_trait.specs.Files.{Files, named}
use Rattle.disk_trait.specs.declared.file_name.FileKind.TheVariants.{Log, Claim}
use Rattle.disk_trait.specs.declared.file_name.FileName.{FileName}
use Rattle.flowfile_record.specs.Shared.{AreShared, bytes_among, is_stored, own_bytes}
use Rattle.flowfile_record.specs.Stored.{Kept}
use Rattle.flowfile_record.specs.declared.change.Settled.{Settled}
use Rattle.flowfile_record.specs.declared.content.ContentRef.{ContentRef}
use Rattle.flowfile_record.specs.declared.event.Event.{Event}
use Rattle.flowfile_record.specs.declared.stored.ActiveFile.{ActiveFile}
use Rattle.flowfile_record.specs.declared.stored.Fresh.{Fresh}
use Rattle.flowfile_record.specs.declared.stored.Fresh.TheVariants.{No, Bytes, Staged, As}
use Rattle.flowfile_record.specs.declared.stored.Placed.{Placed}
use Rattle.record_codec.specs.declared.entry.LogEntry.{LogEntry}
use Rattle.record_codec.specs.declared.entry.SessionEntry.{SessionEntry}
use Rattle.content_repo.specs.Claims.{claim, content_in}
use Rattle.content_repo.specs.declared.slot.Slot.{Slot}
use Rattle.flowfile_wal.specs.Steps.{AddsEntry}
use Rattle.kept_state.specs.Applied.{left_after, session_applied, is_file_among}
use Rattle.kept_state.specs.Changes.{no_files}
use Rattle.kept_state.specs.Fits.{session_suits}
use Rattle.kept_state.proofs.Keeping.{suits_from}
use Rattle.machine_model.specs.State.{State}
use Rattle.machine_model.specs.Changing.{state_after}
use Rattle.prov_store.specs.Events.{events_in}
use Rattle.prov_store.proofs.InFiles.{last_numbered}
use Rattle.store_core.specs.Change.{IsOldLive}
use Rattle.store_core.specs.Flow.{Flow, flow_in}
use Rattle.store_core.specs.Kept.{kept_in}
use Rattle.store_core.specs.Placing.{ArePlaced, ReferAlike}
use Rattle.store_core.specs.State.{stands_for, contents_damage, live_contents, queued_active}
use Rattle.store_core.specs.Store.{StoreState, kept_by, live_in, FilesHold}
use Rattle.store_core.proofs.Agreeing.{of_state, sound_of, stands_by_kept, state_of_sound}
use Rattle.store_core.proofs.Commits.{same_flow}
use Rattle.store_core.proofs.Following.{Follows}
use Rattle.store_core.proofs.Machine.{IsSessionFor, state_behind}
use Rattle.store_core.proofs.Parts.{parts_stay}
use Rattle.store_core.proofs.Queues.{IsQueuedAs, line}
use Rattle.store_core.proofs.Sharing.{HasSource, all_at, all_sources, zip_wider}
use Rattle.store_core.proofs.Sound.{content_of, unmap}

added_content : (number : ℕ) (e : LogEntry) (old new : Files) (at : ContentRef) → AddsEntry number e old new → content_in new at ≡ content_in old at
added_content number e old new at added =
    ap (λ (bytes : List ℕ). take at.size (drop at.offset bytes))
    (added.others (claim at.slot) (λ (x : claim at.slot ≡ named Log number). let kinds : Claim ≡ Log = ap (λ (f : FileName). f.kind) x in absurd cc))

-- ---- queues

line_same : (new old : ContentRef → List ℕ) (place : ℕ) (files : List ActiveFile) → All (λ a. new (content_of a) ≡ old (content_of a)) files → line new place files ≡ line old place files
line_same new old place [] same = refl
line_same new old place (a ∷ files) same =
    by (a.connection == place) (All-head (λ b. new (content_of b) ≡ old (content_of b)) a files same) (line_same new old place files (All-tail (λ b. new (content_of b) ≡ old (content_of b)) a files same))
  where
    by : (t : Bool) → new (content_of a) ≡ old (content_of a) → line new place files ≡ line old place files
        → map (queued_active new) (cond t (a ∷ filter (λ b. b.connection == place) files) (filter (λ b. b.connection == place) files))
        ≡ map (queued_active old) (cond t (a ∷ filter (λ b. b.connection == place) files) (filter (λ b. b.connection == place) files))
    by true one rest =
        let first : queued_active new a ≡ queued_active old a = ap (λ (bytes : List ℕ). record {
          number = a.file.number;
          attributes = a.file.attributes;
          bytes = bytes;
          entered = a.file.entered;
          penalty_end = a.file.penalty_end;
          arrival = a.file.arrival;
          batch = None;
        }) one in cc
    by false one rest = rest

bytes_of : (f : Fresh) (p : Placed) (old : ContentRef → List ℕ) (bytes : List ℕ) → p.fresh ≡ f → ((of : ℕ) → p.fresh ≡ As of → ⊥) → ((b : List ℕ) → p.fresh ≡ Bytes b → bytes ≡ b)
    → (is_stored p.fresh ≡ true → bytes ≡ old p.file.content) → bytes ≡ unwrap_or (own_bytes p.fresh) (old p.file.content)
bytes_of No p old bytes is alone new stored = stored (ap is_stored is) ∙ ap (λ (f : Fresh). unwrap_or (own_bytes f) (old p.file.content)) (sym is)
bytes_of Staged p old bytes is alone new stored = stored (ap is_stored is) ∙ ap (λ (f : Fresh). unwrap_or (own_bytes f) (old p.file.content)) (sym is)
bytes_of (Bytes b) p old bytes is alone new stored = new b is ∙ ap (λ (f : Fresh). unwrap_or (own_bytes f) (old p.file.content)) (sym is)
bytes_of (As of) p old bytes is alone new stored = absurd (alone of is)

-- a placed file is queued with its bytes
queued_as : (new old : ContentRef → List ℕ) (slots : List Slot) (files : Files) (all : List Placed) (p : Placed) (a : ActiveFile) → HasSource all true slots files p a
    → ((at : ContentRef) → new at ≡ content_in files at) → All (λ q. is_stored q.fresh ≡ true → content_in files q.file.content ≡ old q.file.content) all → IsQueuedAs new old all p a
queued_as new old slots files all p a from reads same =
    let at = content_of a in
    let q = from.source in
    let source : new (content_of from.by) ≡ unwrap_or (own_bytes q.fresh) (old q.file.content) =
    bytes_of q.fresh q old (new (content_of from.by)) refl from.alone (λ b some. reads (content_of from.by) ∙ from.stands.stands refl b some)
    (λ stored. ap new (from.stands.old stored) ∙ reads q.file.content ∙ all_at (λ r. is_stored r.fresh ≡ true → content_in files r.file.content ≡ old r.file.content) all from.place q same from.there stored) in
    let bytes : new at ≡ unwrap_or (bytes_among all p.fresh) (old p.file.content) =
    ap new from.refers ∙ source ∙ (λ i. unwrap_or (sym from.bytes i) (old (sym from.same i))) in
    record {
      connection = ap (λ (b : ActiveFile). b.connection) from.is.file;
      file =
          ap (λ (b : ActiveFile). record { number = b.file.number; attributes = b.file.attributes; bytes = new at; entered = b.file.entered; penalty_end = b.file.penalty_end; arrival = b.file.arrival; batch = None }) from.is.file
          ∙ ap (λ (b : List ℕ). record { number = p.file.number; attributes = p.file.attributes; bytes = b; entered = p.file.entered; penalty_end = p.file.penalty_end; arrival = p.file.arrival; batch = None }) bytes;
    }

all_queued : (new old : ContentRef → List ℕ) (slots : List Slot) (files : Files) (placed : List Placed) (recorded : List ActiveFile) → AreShared placed → ReferAlike placed recorded → ArePlaced true slots files placed recorded
    → ((at : ContentRef) → new at ≡ content_in files at) → All (λ p. is_stored p.fresh ≡ true → content_in files p.file.content ≡ old p.file.content) placed → AllZip (IsQueuedAs new old placed) placed recorded
all_queued new old slots files placed recorded shared alike are reads same =
    zip_wider (HasSource placed true slots files) (IsQueuedAs new old placed) placed recorded (λ p a from. queued_as new old slots files placed p a from reads same)
    (all_sources placed true slots files recorded shared alike are)

-- ---- a state

-- what is the same of a session and its entry
pub record IsSame (s : Settled) (se : SessionEntry) : Type 0 where
  pub gone : se.gone ≡ s.gone
  pub number : se.next_number ≡ s.next_number
  pub arrival : se.next_arrival ≡ s.next_arrival
  pub count : se.generator ≡ s.count

pub state_added : (s new : StoreState) (settled : Settled) (se : SessionEntry) (number : ℕ) (e : LogEntry) (slots : List Slot) (old mid files : Files) (state : State)
    → (kept_by s).batches ≡ [] → session_suits no_files (kept_by s) se ≡ true → IsSame settled se
    → ((events : List Event) → events_in old 0 (kept_by s).last_event ≡ Ok events → events_in files 0 se.last_event ≡ Ok (events ++ settled.events))
    → FilesHold s old → stands_for (flow_in (kept_by s)) s.lot old ≡ of_state state → Follows s old mid → AddsEntry number e mid files → AreShared settled.placed → ReferAlike settled.placed se.placed → ArePlaced true slots mid settled.placed se.placed → All (IsOldLive s) settled.placed
    → FilesHold new files → kept_by new ≡ session_applied (kept_by s) se → new.lot ≡ s.lot
    → stands_for (flow_in (kept_by s)) s.lot files ≡ of_state (state_after (content_in old) state settled)
state_added s new settled se number e slots old mid files state batches suits same behind holds stands follows added shared alike are live now kept lot =
    let k = kept_by s in
    let flow = flow_in k in
    let k2 = session_applied k se in
    let was = sound_of old k state (sym (stands_by_kept flow s.lot old k holds.kept) ∙ stands) in
    let flow_same : flow_in (kept_by new) ≡ flow = ap flow_in kept ∙ same_flow k se in
    let keeps : kept_in flow s.lot files ≡ Ok k2 =
    ap (λ (f : Flow). kept_in f s.lot files) (sym flow_same) ∙ ap (λ (l : ℕ). kept_in (flow_in (kept_by new)) l files) (sym lot) ∙ now.kept ∙ ap (λ (l : Kept). Ok l) kept in
    let sound2 : contents_damage files (live_contents k2) ≡ None = ap (λ (l : Kept). contents_damage files (live_contents l)) (sym kept) ∙ now.contents in
    let events2 : events_in files 0 k2.last_event ≡ Ok (was.events ++ settled.events) = behind was.events was.events_are in
    let reads : (at : ContentRef) → content_in files at ≡ content_in mid at = λ at. added_content number e mid files at added in
    let stay : All (λ (at : ContentRef). content_in files at ≡ content_in old at) (live_in s) =
    λ i d lt. let at = get_or (live_in s) i d in reads at ∙ (follows.contents i d lt).bytes in
    let placed = parts_stay s old mid settled.placed live follows in
    let session : IsSessionFor (content_in files) (content_in old) k settled se = record {
      gone = same.gone;
      number = same.number;
      arrival = same.arrival;
      event = omega (
        arith,
        (last_numbered 0 k.last_event old was.events refl was.events_are).1,
        (last_numbered 0 se.last_event files (was.events ++ settled.events) refl events2).1,
        length-append was.events settled.events,
      );
      count = same.count;
      apart = (suits_from k se batches suits).arrivals;
      placed = all_queued (content_in files) (content_in old) slots mid settled.placed se.placed shared alike are reads placed;
      left = λ place.
          line_same (content_in files) (content_in old) place (left_after se.gone k.files)
          (All-filter (λ a. not (is_file_among se.gone a)) (λ a. content_in files (content_of a) ≡ content_in old (content_of a)) k.files
          (unmap (λ at. content_in files at ≡ content_in old at) k.files stay));
    } in
    stands_by_kept flow s.lot files k2 keeps
    ∙ state_of_sound files k2 (was.events ++ settled.events) sound2 events2
    ∙ ap of_state (state_behind (content_in files) (content_in old) was.events k settled se session ∙ ap (λ (t : State). state_after (content_in old) t settled) (sym was.is))
