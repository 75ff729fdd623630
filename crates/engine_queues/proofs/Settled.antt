-- The queues after a session that is committed: the entry that was applied, and the files that it placed.
use Rattle.std.proofs.Common.{◌≡◌, ℕ, ◌<◌, ◌==◌, ◌&&◌, not, nat_lt, Bool, true, false, cond, List, [], ◌∷◌, length, map, Option, None, Some, refl, sym, ap, subst, ◌∙◌, inl, inr}
use Rattle.std.specs.Prelude.{All}
use Rattle.std.specs.Option.{option_map_or}
use Rattle.std.specs.List.{list_any, list_all}
use Rattle.std.proofs.lemmas.Bool.{cases_Bool, and_parts, or_from, ltb-true, eqb-true}
use Rattle.std.proofs.lemmas.List.Elements.{All-nil, All-cons, All-head, All-tail}
use Rattle.flowfile_record.specs.NumberedItems.{with_item}
use Rattle.flowfile_record.specs.Shared.{is_stored}
use Rattle.flowfile_record.specs.Stored.{Kept}
use Rattle.flowfile_record.specs.declared.change.Settled.{Settled}
use Rattle.flowfile_record.specs.declared.content.ContentRef.{ContentRef}
use Rattle.flowfile_record.specs.declared.flow_file.FlowFile.{FlowFile}
use Rattle.flowfile_record.specs.declared.stored.ActiveFile.{ActiveFile}
use Rattle.flowfile_record.specs.declared.stored.Fresh.{Fresh}
use Rattle.flowfile_record.specs.declared.stored.Placed.{Placed}
use Rattle.record_codec.specs.ActiveFile.{active}
use Rattle.record_codec.specs.Placeless.{placeless, placeless_active, placeless_entry}
use Rattle.record_codec.specs.declared.entry.LogEntry.{LogEntry}
use Rattle.record_codec.specs.declared.entry.LogEntry.TheVariants.{Begin, Session, Expire, SwapOut, SwapIn, Age}
use Rattle.record_codec.specs.declared.entry.SessionEntry.{SessionEntry}
use Rattle.kept_state.specs.Applied.{active_number, is_file_among, left_after, with_files, applied}
use Rattle.kept_state.specs.Arrivals.{arrival_of}
use Rattle.kept_state.specs.Changes.{recorded_file, record_of, entry_of_session, at_content, no_files}
use Rattle.kept_state.specs.Fits.{active_of, are_distinct_numbers, are_active_in_one, are_new, has_place, has_count, keeps_counters, live, session_suits}
use Rattle.kept_state.proofs.Apart.{AreApart, none_from_any}
use Rattle.kept_state.proofs.Items.{item_of-with, refl_eqb}
use Rattle.kept_state.proofs.Keeping.{ascends-filter, suits_from}
use Rattle.kept_state.proofs.Moving.{stays_with}
use Rattle.kept_state.proofs.Placing.{placeless_session}
use Rattle.machine_model.specs.declared.flow.Flow.{Flow}
use Rattle.flow_queue.specs.Queue.{QueueState}
use Rattle.engine_queues.specs.Beside.{out_without}
use Rattle.engine_queues.specs.Queues.{AreQueuesOf}
use Rattle.engine_queues.specs.Settling.{MaySettleOver, IsKeptAfter, HasRoomIn, HasRoomFor, placed_connections, changed_at, queue_without, queues_without, queues_with, HasFiles, MayAllJoin, active_content, as_kept}
use Rattle.engine_queues.proofs.Changing.{length-changed, room_out, leaving, all_into, same_files}
use Rattle.engine_queues.proofs.Flights.{left-have, left-others, placed-at-rest}

-- ---- the entry that was applied

-- it is a session's, which is this one but for where its contents stand
record IsSessionOf (e : LogEntry) (t : SessionEntry) : Type 0 where
  session : SessionEntry
  is : e ≡ Session session
  same : placeless_session session ≡ placeless_session t

abbrev part_of : SessionEntry → LogEntry → SessionEntry
part_of t (Session s) = s
part_of t _ = t

session_from : (e : LogEntry) (t : SessionEntry) → placeless_entry e ≡ placeless_entry (Session t) → IsSessionOf e t
session_from (Session s) t same = record { session = s; is = refl; same = ap (part_of t) same }
session_from (Begin version log) t same = absurd cc
session_from (Expire e) t same = absurd cc
session_from (SwapOut s) t same = absurd cc
session_from (SwapIn connection batch) t same = absurd cc
session_from (Age line) t same = absurd cc

parts_same : (part : FlowFile → ℕ) → ((a : ActiveFile) → part (placeless_active a).file ≡ part a.file) → (placed : List ActiveFile) → map (λ a. part a.file) (map placeless_active placed) ≡ map (λ a. part a.file) placed
parts_same part same [] = refl
parts_same part same (a ∷ placed) = ap (λ n. n ∷ map (λ b. part b.file) (map placeless_active placed)) (same a) ∙ ap (λ (ns : List ℕ). part a.file ∷ ns) (parts_same part same placed)

places_same : (k : Kept) (s : SessionEntry) (placed : List ActiveFile) → list_all (has_place k (placeless_session s)) (map placeless_active placed) ≡ list_all (has_place k s) placed
places_same k s [] = refl
places_same k s (a ∷ placed) = ap (λ b. has_place k s a && b) (places_same k s placed)

suits_same : (k : Kept) (s : SessionEntry) → session_suits no_files k (placeless_session s) ≡ session_suits no_files k s
suits_same k s =
    let lives = live no_files (record k { files = left_after s.gone k.files }) in
    let test : List ℕ → List ℕ → Bool → Bool = λ numbers arrivals places.
    are_distinct_numbers s.gone && are_active_in_one k.files s.gone && (are_new (λ f. f.number) numbers lives && are_new (λ f. f.arrival) arrivals lives) && places && has_count k.counts s.generator && keeps_counters k s in
    let numbers = map (λ a. a.file.number) s.placed in
    let arrivals = map (λ a. a.file.arrival) s.placed in
    ap (λ (ns : List ℕ). test ns (map (λ a. a.file.arrival) (map placeless_active s.placed)) (list_all (has_place k (placeless_session s)) (map placeless_active s.placed))) (parts_same (λ f. f.number) (λ a. refl) s.placed)
    ∙ ap (λ (ns : List ℕ). test numbers ns (list_all (has_place k (placeless_session s)) (map placeless_active s.placed))) (parts_same (λ f. f.arrival) (λ a. refl) s.placed)
    ∙ ap (test numbers arrivals) (places_same k s s.placed)

-- ---- the placed files are found by their numbers

not_again : (n : ℕ) (a : ActiveFile) (placed files : List ActiveFile) → active_of n files ≡ Some a → AreApart active_number placed files → list_any (λ m. m == n) (map active_number placed) ≡ false
not_again n a [] files there apart = refl
not_again n a (b ∷ placed) files there apart =
    let other : (b.file.number == n) ≡ false = elim (cases_Bool (b.file.number == n)) [
      | inl t ↦
          let none : active_of n files ≡ None = ap (λ (m : ℕ). active_of m files) (sym (eqb-true b.file.number n t)) ∙ none_from_any b.file.number files apart.0 in
          absurd cc
      | inr f ↦ f
    ] in
    let still : active_of n (with_item active_number b files) ≡ Some a =
    item_of-with active_number n b files ∙ ap (λ c. cond c (Some b) (active_of n files)) other ∙ there in
    or_from (b.file.number == n) (list_any (λ m. m == n) (map active_number placed)) other (not_again n a placed (with_item active_number b files) still apart.1)

pub found_joined : (placed left : List ActiveFile) → AreApart active_number placed left → All (λ (a : ActiveFile). active_of (active_number a) (with_files placed left) ≡ Some a) placed
found_joined [] left apart = All-nil (λ (a : ActiveFile). active_of (active_number a) (with_files [] left) ≡ Some a)
found_joined (a ∷ placed) left apart =
    let there : active_of (active_number a) (with_item active_number a left) ≡ Some a =
    item_of-with active_number (active_number a) a left ∙ ap (λ c. cond c (Some a) (active_of (active_number a) left)) (refl_eqb (active_number a)) in
    let other = not_again (active_number a) a placed (with_item active_number a left) there apart.1 in
    All-cons (λ (b : ActiveFile). active_of (active_number b) (with_files (a ∷ placed) left) ≡ Some b) a placed
    (stays_with (active_number a) placed (with_item active_number a left) other ∙ there) (found_joined placed (with_item active_number a left) apart.1)

-- ---- the placed files as they are kept

recorded_placeless : (connection : ℕ) (file : FlowFile) (fresh : Fresh) → placeless_active (recorded_file connection file fresh) ≡ placeless_active (active connection file)
recorded_placeless connection file fresh = by (is_stored fresh)
  where
    by : (b : Bool) → placeless_active (active connection (cond b file (placeless file))) ≡ placeless_active (active connection file)
    by true = refl
    by false = refl

abbrev first : ActiveFile → List ActiveFile → ActiveFile
first d [] = d
first d (a ∷ files) = a

abbrev rest : List ActiveFile → List ActiveFile
rest [] = []
rest (a ∷ files) = files

kept_one : (files : List ActiveFile) (p : Placed) (a : ActiveFile) → placeless_active a ≡ placeless_active (active p.connection p.file) → active_of (active_number a) files ≡ Some a → as_kept files p ≡ a
kept_one files p a same found =
    let number : p.file.number ≡ a.file.number = ap (λ (b : ActiveFile). b.file.number) (sym same) in
    let content : active_content files p.file ≡ a.file.content =
    ap (λ (o : Option ActiveFile). option_map_or (λ (b : ActiveFile). b.file.content) o p.file.content) (ap (λ (n : ℕ). active_of n files) number ∙ found) in
    ap (λ (at : ContentRef). at_content at (active p.connection p.file)) content ∙ ap (at_content a.file.content) (sym same)

pub kept_as : (placed : List Placed) (entered files : List ActiveFile) → map placeless_active entered ≡ map placeless_active (map record_of placed)
    → All (λ (a : ActiveFile). active_of (active_number a) files ≡ Some a) entered → map (as_kept files) placed ≡ entered
kept_as [] [] files same found = refl
kept_as [] (a ∷ entered) files same found = absurd cc
kept_as (p ∷ placed) [] files same found = absurd cc
kept_as (p ∷ placed) (a ∷ entered) files same found =
    let one = ap (first (placeless_active a)) same ∙ recorded_placeless p.connection p.file p.fresh in
    let here = kept_one files p a one (All-head (λ (b : ActiveFile). active_of (active_number b) files ≡ Some b) a entered found) in
    let later = kept_as placed entered files (ap rest same) (All-tail (λ (b : ActiveFile). active_of (active_number b) files ≡ Some b) a entered found) in
    ap (λ (b : ActiveFile). b ∷ map (as_kept files) placed) here ∙ ap (λ (l : List ActiveFile). a ∷ l) later

-- their connections
connections_placeless : (files : List ActiveFile) → map (λ (a : ActiveFile). a.connection) (map placeless_active files) ≡ map (λ (a : ActiveFile). a.connection) files
connections_placeless [] = refl
connections_placeless (a ∷ files) = ap (λ (l : List ℕ). a.connection ∷ l) (connections_placeless files)

connections_recorded : (placed : List Placed) → map (λ (a : ActiveFile). a.connection) (map placeless_active (map record_of placed)) ≡ map (λ (p : Placed). p.connection) placed
connections_recorded [] = refl
connections_recorded (p ∷ placed) =
    ap (λ (a : ActiveFile). a.connection ∷ map (λ (b : ActiveFile). b.connection) (map placeless_active (map record_of placed))) (recorded_placeless p.connection p.file p.fresh)
    ∙ ap (λ (l : List ℕ). p.connection ∷ l) (connections_recorded placed)

-- ---- they have places

has_connection : (k : Kept) (s : SessionEntry) (a : ActiveFile) → has_place k s a ≡ true → a.connection < length k.connections
has_connection k s a place =
    let b = and_parts (nat_lt a.connection (length k.connections) && nat_lt a.file.number s.next_number && nat_lt 0 a.file.arrival) (nat_lt a.file.arrival s.next_arrival) place in
    let c = and_parts (nat_lt a.connection (length k.connections) && nat_lt a.file.number s.next_number) (nat_lt 0 a.file.arrival) b.0 in
    let d = and_parts (nat_lt a.connection (length k.connections)) (nat_lt a.file.number s.next_number) c.0 in
    ltb-true a.connection (length k.connections) d.0

pub have_connections : (k : Kept) (s : SessionEntry) (n : ℕ) (files : List ActiveFile) → length k.connections ≡ n → list_all (has_place k s) files ≡ true → All (λ (a : ActiveFile). a.connection < n) files
have_connections k s n [] many all = All-nil (λ (a : ActiveFile). a.connection < n)
have_connections k s n (a ∷ files) many all =
    let parts = and_parts (has_place k s a) (list_all (has_place k s) files) all in
    All-cons (λ (b : ActiveFile). b.connection < n) a files (subst (λ (m : ℕ). a.connection < m) many (has_connection k s a parts.0)) (have_connections k s n files many parts.1)

of_recorded : (n : ℕ) (placed : List Placed) → All (λ (a : ActiveFile). a.connection < n) (map record_of placed) → All (λ (p : Placed). p.connection < n) placed
of_recorded n [] all = All-nil (λ (p : Placed). p.connection < n)
of_recorded n (p ∷ placed) all =
    let here = All-head (λ (a : ActiveFile). a.connection < n) (record_of p) (map record_of placed) all in
    All-cons (λ (q : Placed). q.connection < n) p placed
    (subst (λ (c : ℕ). c < n) (ap (λ (a : ActiveFile). a.connection) (recorded_placeless p.connection p.file p.fresh)) here)
    (of_recorded n placed (All-tail (λ (a : ActiveFile). a.connection < n) (record_of p) (map record_of placed) all))

-- each placed file's connection has a queue
pub placed_within : (flow : Flow) (k : Kept) (out : List ℕ) (settled : Settled) (queues : List QueueState) → MaySettleOver flow k out settled queues → All (λ (p : Placed). p.connection < length queues) settled.placed
placed_within flow k out settled queues over =
    let suits = suits_from k (entry_of_session k settled) over.no_batches over.may.suits in
    of_recorded (length queues) settled.placed
    (have_connections k (entry_of_session k settled) (length queues) (map record_of settled.placed) (over.connections ∙ sym over.of_kept.count) suits.places)

-- ---- the session as a whole

-- the queues after the session, and that each step on the way may be made
pub record IsSettledIn (flow : Flow) (out : List ℕ) (connection : ℕ) (settled : Settled) (queues : List QueueState) (after : Kept) : Type 0 where
  pub leave : HasFiles connection settled.gone queues
  pub join : MayAllJoin (map (as_kept after.files) settled.placed) (queues_without connection settled.gone queues)
  pub of_after : AreQueuesOf flow after (out_without settled.gone out) (queues_with (map (as_kept after.files) settled.placed) (queues_without connection settled.gone queues))

length-without : (connection : ℕ) (numbers : List ℕ) (queues : List QueueState) → length (queues_without connection numbers queues) ≡ length queues
length-without connection [] queues = refl
length-without connection (n ∷ numbers) queues =
    length-without connection numbers (changed_at connection (queue_without n) queues) ∙ length-changed connection (queue_without n) queues

pub settled_in : (flow : Flow) (k : Kept) (out : List ℕ) (connection : ℕ) (settled : Settled) (queues : List QueueState) (after : Kept) → MaySettleOver flow k out settled queues → IsKeptAfter k connection settled after
    → HasRoomFor settled queues → IsSettledIn flow out connection settled queues after
settled_in flow k out connection settled queues after over kept room =
    let t = entry_of_session k settled in
    let entry = session_from kept.entry t kept.same in
    let s = entry.session in
    let suits_t : session_suits no_files k (placeless_session t) ≡ true = suits_same k t ∙ over.may.suits in
    let suits_s : session_suits no_files k s ≡ true = sym (suits_same k s) ∙ ap (session_suits no_files k) entry.same ∙ suits_t in
    let suits = suits_from k s over.no_batches suits_s in
    let gone : s.gone ≡ settled.gone = ap (λ (e : SessionEntry). e.gone) entry.same in
    let placed : map placeless_active s.placed ≡ map placeless_active (map record_of settled.placed) = ap (λ (e : SessionEntry). e.placed) entry.same in
    let left = left_after settled.gone k.files in
    let applied_to : after ≡ applied no_files k (Session s) = kept.kept ∙ ap (applied no_files k) entry.is in
    let files : after.files ≡ with_files s.placed left = ap (λ (l : Kept). l.files) applied_to ∙ ap (λ (ns : List ℕ). with_files s.placed (left_after ns k.files)) gone in
    let mid : Kept = record k { files = left } in
    let numbers : AreApart active_number s.placed left = subst (λ (ns : List ℕ). AreApart active_number s.placed (left_after ns k.files)) gone suits.numbers in
    let arrivals : AreApart arrival_of s.placed left = subst (λ (ns : List ℕ). AreApart arrival_of s.placed (left_after ns k.files)) gone suits.arrivals in
    let distinct : are_distinct_numbers settled.gone ≡ true = ap are_distinct_numbers (sym gone) ∙ suits.distinct in
    let others = out_without settled.gone out in
    let went = leaving flow out settled.gone k mid connection queues over.of_kept over.connections over.consistent distinct kept.active refl in
    let fewer = queues_without connection settled.gone queues in
    let many : length k.connections ≡ length fewer = over.connections ∙ sym over.of_kept.count ∙ sym (length-without connection settled.gone queues) in
    let within = have_connections k s (length fewer) s.placed many suits.places in
    let connections : placed_connections settled ≡ map (λ (a : ActiveFile). a.connection) s.placed =
    sym (connections_recorded settled.placed) ∙ ap (map (λ (a : ActiveFile). a.connection)) (sym placed) ∙ connections_placeless s.placed in
    let room_left : HasRoomIn (map (λ (a : ActiveFile). a.connection) s.placed) fewer =
    subst (λ (cs : List ℕ). HasRoomIn cs fewer) connections (room_out connection settled.gone (placed_connections settled) queues room) in
    let ascends = ascends-filter active_number (λ a. not (is_file_among settled.gone a)) k.files over.consistent.numbers in
    let are : AreQueuesOf flow mid others fewer = same_files flow out others mid mid fewer (λ place. left-others settled.gone out place k.files) went.0 in
    let rests = placed-at-rest s.placed left others (left-have settled.gone out k.files over.live) numbers in
    let in_all = all_into flow others s.placed mid after fewer are ascends numbers arrivals within room_left rests files in
    let found = subst (λ (fs : List ActiveFile). All (λ (a : ActiveFile). active_of (active_number a) fs ≡ Some a) s.placed) (sym files) (found_joined s.placed left numbers) in
    let as_entered : map (as_kept after.files) settled.placed ≡ s.placed = kept_as settled.placed s.placed after.files placed found in
    record {
      leave = went.1;
      join = subst (λ (l : List ActiveFile). MayAllJoin l fewer) (sym as_entered) in_all.1;
      of_after = subst (λ (l : List ActiveFile). AreQueuesOf flow after others (queues_with l fewer)) (sym as_entered) in_all.0;
    }
