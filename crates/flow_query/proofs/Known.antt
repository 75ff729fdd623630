-- What is known of the state of a store that was read.
use Rattle.std.proofs.Common.{◌≡◌, ℕ, ◌+◌, ◌<◌, ◌≤◌, List, [], ◌++◌, length, Ok, Err, refl, sym, ap, subst, ◌∙◌, arith}
use Rattle.std.specs.Prelude.{filter}
use Rattle.std.specs.List.{flat_map}
use Rattle.std.proofs.lemmas.List.Concat.{flat_map-append}
use Rattle.disk_trait.specs.Files.{Files}
use Rattle.disk_trait.specs.declared.file_name.Failed.{Failed}
use Rattle.flowfile_record.specs.declared.event.Event.{Event}
use Rattle.machine_model.specs.State.{State}
use Rattle.prov_store.specs.Events.{events_in}
use Rattle.prov_store.specs.Scanning.{is_within}
use Rattle.prov_store.specs.State.{AreNumberedFrom}
use Rattle.prov_store.proofs.InFiles.{last_numbered}
use Rattle.prov_store.proofs.Scans.{all_between, none_between}
use Rattle.store_core.specs.Seen.{no_flow, SeenState, kept_seen, IsSeenOn}
use Rattle.store_core.specs.State.{stands_for}
use Rattle.store_core.proofs.Seeing.{state_is, events_are}
use Rattle.flow_report.specs.Writing.{Writes}
use Rattle.flow_query.specs.Texts.{event_text, events_text}
use Rattle.flow_query.proofs.Ranges.{parted}
use Rattle.flow_query.proofs.Written.{Leaves, leaves-all, leaves-more, leaves-failed, leaves-named}

-- its events are in a row, as many as the last one's number says, and its id is the one that is kept
pub record IsKnown (s : SeenState) (state : State) : Type 0 where
  pub row : AreNumberedFrom 1 state.events
  pub many : length state.events ≡ (kept_seen s).last_event
  pub store : state.store ≡ (kept_seen s).store

pub known : (files : Files) (s : SeenState) (state : State) → IsSeenOn files s → stands_for no_flow 0 files ≡ Ok state → IsKnown s state
known files s state seen is =
    let row = last_numbered 0 s.events.end files seen.events.events refl (ap (λ (n : ℕ). events_in files n s.events.end) (sym seen.line) ∙ seen.events.says) in
    let many : length seen.events.events ≡ s.events.end = omega (arith, row.1) in
    let same : seen.events.events ≡ state.events = events_are files s state seen is in
    record {
      row = subst (AreNumberedFrom 1) same row.0;
      many = ap length (sym same) ∙ many ∙ seen.last_event;
      store = ap (λ (x : State). x.store) (state_is files s state seen is);
    }

-- ---- events are written range by range

-- the text of the events that are left behind a number
abbrev pub left_behind : SeenState → State → ℕ → List ℕ
left_behind s state shown = flat_map (event_text state.store) (filter (is_within (shown + 1) (kept_seen s).last_event) state.events)

pub all_left : (s : SeenState) (state : State) (before : List ℕ) → IsKnown s state → Leaves (events_text state) (left_behind s state 0) before before
all_left s state before k =
    leaves-named (events_text state) (events_text state) (left_behind s state 0) before before
    (ap (flat_map (event_text state.store)) (sym (all_between 1 (kept_seen s).last_event 1 state.events k.row (omega arith) (omega (arith, k.many))))) (leaves-all (events_text state) before)

next_left : (s : SeenState) (state : State) (shown to store : ℕ) (events : List Event) → IsKnown s state → shown < to → to ≤ (kept_seen s).last_event → store ≡ (kept_seen s).store
    → events ≡ filter (is_within (shown + 1) to) state.events → left_behind s state shown ≡ flat_map (event_text store) events ++ left_behind s state to
next_left s state shown to store events k more within same are =
    ap (flat_map (event_text state.store)) (sym (parted (shown + 1) to (kept_seen s).last_event 1 state.events k.row (omega arith) within))
    ∙ flat_map-append (event_text state.store) (filter (is_within (shown + 1) to) state.events) (filter (is_within (to + 1) (kept_seen s).last_event) state.events)
    ∙ ap (λ (l : List ℕ). l ++ left_behind s state to)
    (ap (flat_map (event_text state.store)) (sym are) ∙ ap (λ (n : ℕ). flat_map (event_text n) events) (k.store ∙ sym same))

pub range_more : (s : SeenState) (state : State) (shown to store : ℕ) (events : List Event) (b b' b'' : List ℕ) → IsKnown s state → shown < to → to ≤ (kept_seen s).last_event → store ≡ (kept_seen s).store
    → events ≡ filter (is_within (shown + 1) to) state.events → Leaves (events_text state) (left_behind s state shown) b b' → Writes (flat_map (event_text store) events) b' b'' (Ok tt)
    → Leaves (events_text state) (left_behind s state to) b b''
range_more s state shown to store events b b' b'' k more within same are left writes =
    leaves-more (events_text state) (flat_map (event_text store) events) (left_behind s state to) b b' b''
    (leaves-named (events_text state) (left_behind s state shown) (flat_map (event_text store) events ++ left_behind s state to) b b' (next_left s state shown to store events k more within same are) left) writes

pub range_failed : (s : SeenState) (state : State) (shown to store : ℕ) (events : List Event) (b b' b'' : List ℕ) (e : Failed) → IsKnown s state → shown < to → to ≤ (kept_seen s).last_event
    → store ≡ (kept_seen s).store → events ≡ filter (is_within (shown + 1) to) state.events → Leaves (events_text state) (left_behind s state shown) b b'
    → Writes (flat_map (event_text store) events) b' b'' (Err e) → Writes (events_text state) b b'' (Err e)
range_failed s state shown to store events b b' b'' e k more within same are left writes =
    leaves-failed (events_text state) (flat_map (event_text store) events) (left_behind s state to) b b' b'' e
    (leaves-named (events_text state) (left_behind s state shown) (flat_map (event_text store) events ++ left_behind s state to) b b' (next_left s state shown to store events k more within same are) left) writes

pub none_left : (s : SeenState) (state : State) (shown : ℕ) → (kept_seen s).last_event ≤ shown → left_behind s state shown ≡ []
none_left s state shown past = ap (flat_map (event_text state.store)) (none_between (shown + 1) (kept_seen s).last_event state.events (omega arith))
