-- The entry of a settled session suits what is kept.
use Rattle.std.proofs.Common.{◌≡◌, inl, inr, ℕ, ◌<◌, ◌==◌, ◌&&◌, Bool, true, false, cond, List, [], ◌∷◌, length, map, refl, ap, ◌∙◌, arith}
use Rattle.std.specs.Prelude.{All, Contains, Option, Some, nat_lt, nat_le}
use Rattle.std.specs.List.{list_all}
use Rattle.std.proofs.lemmas.Bool.{and_from, eq-eqb, ne_eqb, lt-ltb, le-leb}
use Rattle.std.proofs.lemmas.List.Elements.{All-head, All-tail}
use Rattle.flowfile_record.specs.NumberedItems.{AscendsByNumber}
use Rattle.flowfile_record.specs.Shared.{is_stored}
use Rattle.flowfile_record.specs.declared.flow_file.FlowFile.{FlowFile}
use Rattle.flowfile_record.specs.declared.stored.ActiveFile.{ActiveFile}
use Rattle.flowfile_record.specs.declared.stored.Fresh.{Fresh}
use Rattle.record_codec.specs.ActiveFile.{active}
use Rattle.record_codec.specs.Placeless.{placeless}
use Rattle.kept_state.specs.Applied.{left_after, active_number}
use Rattle.kept_state.specs.Changes.{no_files, record_of, recorded_file}
use Rattle.kept_state.specs.Fits.{active_of, are_active_in, are_active_in_one, are_active_with, are_distinct_numbers, are_new, has_count, has_place, is_in_connection, keeps_counters, live, placed_are_new, session_suits}
use Rattle.kept_state.proofs.Apart.{lives}
use Rattle.machine_model.specs.declared.kind.Kind.{Kind}
use Rattle.machine_model.specs.declared.kind.Kind.TheVariants.{GenerateFlowFile}
use Rattle.machine_model.proofs.Among.{Among, all_among, among_contained}
use Rattle.machine_model.proofs.Keyed.{once_from_differ}
use Rattle.machine_model.proofs.Tally.{bit, tally-map}
use Rattle.settlement.specs.Whole.{generator_count}
use Rattle.engine_change.proofs.Cases.{Case, IsSettled, counts_same, entry_in}
use Rattle.engine_change.proofs.Counts as counts
use Rattle.engine_change.proofs.Parts.{IsNewPart, new_arrivals, new_numbers}
use Rattle.engine_change.proofs.Recorded.{records, stand_somewhere}

-- ---- the files that go

found_active : (a : ActiveFile) (files : List ActiveFile) → AscendsByNumber active_number files → Among a files → active_of (active_number a) files ≡ Some a
found_active a [] ascends there = absurd there
found_active a (b ∷ files) ascends (inl same) =
    let yes : (active_number b == active_number a) ≡ true = eq-eqb (active_number b) (active_number a) (ap active_number same) in
    rw yes (ap (λ (x : ActiveFile). Some x) same)
found_active a (b ∷ files) ascends (inr later) =
    let above : active_number b < active_number a = all_among (λ l. active_number b < active_number l) a files ascends.0 later in
    let other : (active_number b == active_number a) ≡ false = ne_eqb (active_number b) (active_number a) (λ e. omega arith) in
    rw other (found_active a files ascends.1 later)

module _ (files : List ActiveFile) (connection : ℕ) (ascends : AscendsByNumber active_number files) where
  abbrev Stands : FlowFile → Type 0
  Stands file = Contains files (active connection file)

  found_here : (file : FlowFile) → Stands file → active_of file.number files ≡ Some (active connection file)
  found_here file there = found_active (active connection file) files ascends (among_contained (active connection file) files there)

  all_in : (taken : List FlowFile) → All Stands taken → are_active_in files connection (map (λ file. file.number) taken) ≡ true
  all_in [] there = refl
  all_in (file ∷ taken) there =
      and_from (is_in_connection connection (active_of file.number files)) (are_active_in files connection (map (λ f. f.number) taken))
      (ap (is_in_connection connection) (found_here file (All-head Stands file taken there)) ∙ eq-eqb connection connection refl)
      (all_in taken (All-tail Stands file taken there))

  all_in_one : (taken : List FlowFile) → All Stands taken → are_active_in_one files (map (λ file. file.number) taken) ≡ true
  all_in_one [] there = refl
  all_in_one (file ∷ taken) there =
      ap (λ (o : Option ActiveFile). are_active_with files o (map (λ (f : FlowFile). f.number) (file ∷ taken))) (found_here file (All-head Stands file taken there))
      ∙ all_in (file ∷ taken) there

gone_distinct : (c : Case) → IsSettled c → are_distinct_numbers c.settled.gone ≡ true
gone_distinct c is =
    ap are_distinct_numbers is.tells.gone
    ∙ counts.distinct (map (λ (file : FlowFile). file.number) c.ended.taken)
    (λ n. omega (arith, tally-map (λ (m : ℕ). bit (m == n)) (λ (file : FlowFile). file.number) c.ended.taken, once_from_differ (λ (file : FlowFile). file.number) c.ended.taken is.may.differ n))

gone_active : (c : Case) → IsSettled c → are_active_in_one c.k.files c.settled.gone ≡ true
gone_active c is = ap (are_active_in_one c.k.files) is.tells.gone ∙ all_in_one c.k.files c.ended.connection is.consistent.numbers c.ended.taken is.may.there

-- ---- the files that are placed

part_new : (c : Case) → IsSettled c → (part : FlowFile → ℕ) (next : ℕ) → IsNewPart c part next
    → are_new part (map (λ a. part a.file) (entry_in c).placed) (live no_files (record c.k { files = left_after c.settled.gone c.k.files })) ≡ true
part_new c is part next new =
    let left = left_after c.settled.gone c.k.files in
    let numbers = map (λ (a : ActiveFile). part a.file) (map record_of c.settled.placed) in
    ap (are_new part numbers) (lives left c.k.batches is.batches) ∙ counts.new_numbers part numbers (map (λ (a : ActiveFile). a.file) left) new.once

all_new : (c : Case) → IsSettled c → placed_are_new no_files c.k (entry_in c) ≡ true
all_new c is =
    let lives = live no_files (record c.k { files = left_after c.settled.gone c.k.files }) in
    and_from (are_new (λ f. f.number) (map (λ a. a.file.number) (entry_in c).placed) lives) (are_new (λ f. f.arrival) (map (λ a. a.file.arrival) (entry_in c).placed) lives)
    (part_new c is (λ f. f.number) c.settled.next_number (new_numbers c is)) (part_new c is (λ f. f.arrival) c.settled.next_arrival (new_arrivals c is))

-- where a placed file stands, and that its number and its arrival are in range
record HasPlace (c : Case) (connection : ℕ) (file : FlowFile) : Type 0 where
  place : connection < length c.k.connections
  number : file.number < c.settled.next_number
  first_arrival : 0 < file.arrival
  arrival : file.arrival < c.settled.next_arrival

place_of : (c : Case) (connection : ℕ) (file : FlowFile) (fresh : Fresh) → HasPlace c connection file → has_place c.k (entry_in c) (recorded_file connection file fresh) ≡ true
place_of c connection file fresh has = by (is_stored fresh)
  where
    a : nat_lt connection (length c.k.connections) ≡ true
    a = lt-ltb connection (length c.k.connections) has.place

    b : nat_lt file.number c.settled.next_number ≡ true
    b = lt-ltb file.number c.settled.next_number has.number

    d : nat_lt 0 file.arrival ≡ true
    d = lt-ltb 0 file.arrival has.first_arrival

    e : nat_lt file.arrival c.settled.next_arrival ≡ true
    e = lt-ltb file.arrival c.settled.next_arrival has.arrival

    by : (stored : Bool) → has_place c.k (entry_in c) (active connection (cond stored file (placeless file))) ≡ true
    by true = simp (a, b, d, e)
    by false = simp (a, b, d, e)

all_pass : {X Y : Type 0} (test : Y → Bool) (make : X → Y) (xs : List X) → All (λ x. test (make x) ≡ true) xs → list_all test (map make xs) ≡ true
all_pass test make [] all = refl
all_pass test make (x ∷ xs) all =
    and_from (test (make x)) (list_all test (map make xs)) (All-head (λ y. test (make y) ≡ true) x xs all) (all_pass test make xs (All-tail (λ y. test (make y) ≡ true) x xs all))

all_placed : (c : Case) → IsSettled c → list_all (has_place c.k (entry_in c)) (entry_in c).placed ≡ true
all_placed c is =
    all_pass (has_place c.k (entry_in c)) record_of c.settled.placed
    (λ i d lt.
    let number = (new_numbers c is).within i d lt in
    let arrival = (new_arrivals c is).within i d lt in
    place_of c _ _ _ (record {
      place = (stand_somewhere c is).placed i d lt;
      number = number.1;
      first_arrival = arrival.0;
      arrival = arrival.1;
    }))

-- ---- counters

counted : (kind : Kind) (place index : ℕ) (counts : List ℕ) → place < length counts → has_count counts (generator_count kind place index) ≡ true
counted (GenerateFlowFile count text) place index counts lt = lt-ltb place (length counts) lt
counted _ place index counts lt = refl

has_counted : (c : Case) → IsSettled c → has_count c.k.counts c.settled.count ≡ true
has_counted c is =
    let there = is.may.processor in
    ap (has_count c.k.counts) (records c is).count ∙ counted _ c.ended.processor c.given.index c.k.counts (omega (arith, there, counts_same c is))

counters_kept : (c : Case) → IsSettled c → keeps_counters c.k (entry_in c) ≡ true
counters_kept c is =
    let all = records c is in
    and_from (nat_le c.k.next_number c.settled.next_number && nat_le c.k.next_arrival c.settled.next_arrival) (nat_le c.k.last_event (entry_in c).last_event)
    (and_from (nat_le c.k.next_number c.settled.next_number) (nat_le c.k.next_arrival c.settled.next_arrival)
    (le-leb c.k.next_number c.settled.next_number all.next_number) (le-leb c.k.next_arrival c.settled.next_arrival all.next_arrival))
    (le-leb c.k.last_event (entry_in c).last_event (omega arith))

-- ---- all rules

six : (a b c d e f : Bool) → a ≡ true → b ≡ true → c ≡ true → d ≡ true → e ≡ true → f ≡ true → (a && b && c && d && e && f) ≡ true
six a b c d e f p q r s t u = rw (p, q, r, s, t, u) refl

pub suits : (c : Case) → IsSettled c → session_suits no_files c.k (entry_in c) ≡ true
suits c is = six _ _ _ _ _ _ (gone_distinct c is) (gone_active c is) (all_new c is) (all_placed c is) (has_counted c is) (counters_kept c is)
