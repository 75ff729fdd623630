-- The machine's state that files stand for behind a session.
use Rattle.std.proofs.Common.{◌≡◌, ℕ, ◌+◌, List, [], ◌∷◌, ◌++◌, length, map, refl, sym, ap, ◌∙◌}
use Rattle.std.specs.Prelude.{fold}
use Rattle.std.specs.List.{AllZip, enumerate_from}
use Rattle.std.specs.FinSet.{union, from_list}
use Rattle.std.proofs.lemmas.Grind.{flat_map-append}
use Rattle.machine_model.specs.State.{Kin}
use Rattle.machine_model.proofs.KinSets.{kin_joined}
use Rattle.flowfile_record.specs.Kin.{kin_of, kin_of_all}
use Rattle.flowfile_record.specs.Stored.{Kept}
use Rattle.flowfile_record.specs.declared.change.Settled.{Settled}
use Rattle.flowfile_record.specs.declared.content.ContentRef.{ContentRef}
use Rattle.flowfile_record.specs.declared.event.Event.{Event}
use Rattle.record_codec.specs.declared.entry.SessionEntry.{SessionEntry}
use Rattle.kept_state.specs.Applied.{left_after, session_applied}
use Rattle.flowfile_record.specs.Counts.{with_count}
use Rattle.kept_state.proofs.Apart.{AreApart}
use Rattle.machine_model.specs.State.{QueuedFile, State}
use Rattle.machine_model.specs.Stepping.{without_files}
use Rattle.machine_model.specs.Changing.{placed_into, with_arrival, queue_after, state_after}
use Rattle.store_core.specs.State.{queue_of, state_with}
use Rattle.store_core.proofs.Queues.{IsQueuedAs, queue_behind, line, arrival_of}

-- the session that is recorded is the settled one, each placed file queued as it was handed in
pub record IsSessionFor (new old : ContentRef → List ℕ) (k : Kept) (s : Settled) (se : SessionEntry) : Type 0 where
  pub gone : se.gone ≡ s.gone
  pub number : se.next_number ≡ s.next_number
  pub arrival : se.next_arrival ≡ s.next_arrival
  pub event : se.last_event ≡ k.last_event + length s.events
  pub count : se.generator ≡ s.count
  pub apart : AreApart arrival_of se.placed (left_after se.gone k.files)
  pub placed : AllZip (IsQueuedAs new old s.placed) s.placed se.placed
  pub left : (place : ℕ) → line new place (left_after se.gone k.files) ≡ line old place (left_after se.gone k.files)

same_queue : (new old : ContentRef → List ℕ) (k : Kept) (s : Settled) (se : SessionEntry) → IsSessionFor new old k s se → (place : ℕ)
    → queue_of new (session_applied k se).files place ≡ queue_after old s (place, queue_of old k.files place)
same_queue new old k s se is place =
    queue_behind new old place se.gone s.placed se.placed k.files is.apart is.placed (is.left place)
    ∙ ap (λ (gone : List ℕ). fold with_arrival (without_files (queue_of old k.files place) gone) (placed_into old s.placed place s.placed)) is.gone

same_queues : (new old : ContentRef → List ℕ) (k : Kept) (s : Settled) (se : SessionEntry) → IsSessionFor new old k s se → (from : ℕ) (connections : List (List ℕ))
    → map (λ c. queue_of new (session_applied k se).files c.0) (enumerate_from from connections)
    ≡ map (queue_after old s) (enumerate_from from (map (λ c. queue_of old k.files c.0) (enumerate_from from connections)))
same_queues new old k s se is from [] = refl
same_queues new old k s se is from (c ∷ connections) =
    let one = same_queue new old k s se is from in
    let rest = same_queues new old k s se is (from + 1) connections in cc

-- the kin that all events tell of is that of the earlier ones and that of the later ones
kin_of_both : (earlier later : List Event) → ◌≡◌ {A = Kin} (from_list (kin_of_all (earlier ++ later))) (union (from_list (kin_of_all earlier)) (from_list (kin_of_all later)))
kin_of_both earlier later =
    ap {B = Kin} from_list (flat_map-append kin_of earlier later) ∙ sym (kin_joined (kin_of_all earlier) (kin_of_all later))

pub state_behind : (new old : ContentRef → List ℕ) (events : List Event) (k : Kept) (s : Settled) (se : SessionEntry) → IsSessionFor new old k s se
    → state_with new (events ++ s.events) (session_applied k se) ≡ state_after old (state_with old events k) s
state_behind new old events k s se is =
    let queues = same_queues new old k s se is 0 k.connections in
    let made : List (List QueuedFile) → Kin → ℕ → ℕ → ℕ → List ℕ → State = λ qs kin n a e cs. record {
      store = k.store;
      line = k.line;
      queues = qs;
      events = events ++ s.events;
      kin = kin;
      next_number = n;
      next_arrival = a;
      next_batch = k.next_batch;
      last_event = e;
      counts = cs;
    } in
    let k2 = session_applied k se in
    let before = map (λ c. queue_of old k.files c.0) (enumerate_from 0 k.connections) in
    let qs2 = map (queue_after old s) (enumerate_from 0 before) in
    let kin1 : Kin = from_list (kin_of_all (events ++ s.events)) in
    let kin2 : Kin = union (from_list (kin_of_all events)) (from_list (kin_of_all s.events)) in
    ap (λ (qs : List (List QueuedFile)). made qs kin1 se.next_number se.next_arrival se.last_event (with_count se.generator k.counts)) queues
    ∙ ap (λ (kin : Kin). made qs2 kin se.next_number se.next_arrival se.last_event (with_count se.generator k.counts)) (kin_of_both events s.events)
    ∙ (λ i. made qs2 kin2 (is.number i) (is.arrival i) (is.event i) (with_count (is.count i) k.counts))
