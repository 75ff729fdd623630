-- Queues, one of which changes: whose they are then.
use Rattle.std.proofs.Common.{◌≡◌, ◌≢◌, ℕ, zero, suc, ◌+◌, ◌<◌, ◌==◌, not, Bool, true, false, cond, List, [], ◌∷◌, length, map, set, get_or, Some, IsSome, is_some, refl, sym, ap, subst, ◌∙◌, inl, inr, arith}
use Rattle.std.specs.Prelude.{All, count_by, slice_get}
use Rattle.std.specs.List.{list_any}
use Rattle.std.proofs.lemmas.Bool.{cases_eq, and_parts, not-true, eq-eqb, ne_eqb}
use Rattle.std.proofs.lemmas.List.Elements.{All-head, All-tail, All-weaker}
use Rattle.std.proofs.lemmas.List.Sums.{sum_by-cons}
use Rattle.std.proofs.lemmas.Option.{slice_get_read, slice_get_within}
use Rattle.flowfile_record.specs.NumberedItems.{with_item, without_item, AscendsByNumber}
use Rattle.flowfile_record.specs.Stored.{Kept}
use Rattle.flowfile_record.specs.declared.stored.ActiveFile.{ActiveFile}
use Rattle.checkpoint_store.specs.Consistent.{IsConsistent}
use Rattle.kept_state.specs.Applied.{active_number, left_after, with_files}
use Rattle.kept_state.specs.Arrivals.{arrival_of}
use Rattle.kept_state.specs.Fits.{active_of, is_in_connection, are_active_in, are_distinct_numbers}
use Rattle.kept_state.proofs.Apart.{AreApart, none_from_any}
use Rattle.kept_state.proofs.Items.{ascends-with}
use Rattle.kept_state.proofs.Keeping.{ascends-filter}
use Rattle.kept_state.proofs.Moving.{left_after-cons, left_after-nil}
use Rattle.machine_model.specs.declared.flow.Flow.{Flow}
use Rattle.flow_queue.specs.Queue.{QueueState, queue_with_file, without_file, flight_of, IsApart}
use Rattle.engine_queues.specs.Beside.{is_out}
use Rattle.engine_queues.specs.Queues.{AreQueuesOf}
use Rattle.engine_queues.specs.Settling.{changed_at, queue_without, queue_with, queues_without, queues_with, HasFile, HasFiles, MayJoin, MayAllJoin, HasRoomIn}
use Rattle.engine_queues.proofs.Held.{held_in, held_in-without, held_in-with, others_stay, found_in, still_active, connection_within, apart_in}

-- ---- a list of queues

pub length-changed : (place : ℕ) (change : QueueState → QueueState) (queues : List QueueState) → length (changed_at place change queues) ≡ length queues
length-changed place change [] = refl
length-changed zero change (queue ∷ queues) = refl
length-changed (suc place) change (queue ∷ queues) = omega (arith, length-changed place change queues)

-- the queue at the place is what the one before was changed to
pub got-changed : (place : ℕ) (change : QueueState → QueueState) (queues : List QueueState) (queue : QueueState) → slice_get (changed_at place change queues) place ≡ Some queue
    → (before : QueueState) × (slice_get queues place ≡ Some before) × (queue ≡ change before)
got-changed place change [] queue got = absurd cc
got-changed zero change (first ∷ queues) queue got = let is : queue ≡ change first = cc in (first, refl, is)
got-changed (suc place) change (first ∷ queues) queue got = got-changed place change queues queue got

pub got-other : (place other : ℕ) (change : QueueState → QueueState) (queues : List QueueState) → other ≢ place → slice_get (changed_at place change queues) other ≡ slice_get queues other
got-other place other change [] ne = refl
got-other zero zero change (queue ∷ queues) ne = absurd (ne refl)
got-other zero (suc other) change (queue ∷ queues) ne = refl
got-other (suc place) zero change (queue ∷ queues) ne = refl
got-other (suc place) (suc other) change (queue ∷ queues) ne = got-other place other change queues (λ e. ne (ap suc e))

pub set-changed : (place : ℕ) (change : QueueState → QueueState) (queues : List QueueState) (before : QueueState) → slice_get queues place ≡ Some before
    → set queues place (change before) ≡ changed_at place change queues
set-changed place change [] before got = absurd cc
set-changed zero change (queue ∷ queues) before got = let is : before ≡ queue = cc in ap (λ (q : QueueState). change q ∷ queues) is
set-changed (suc place) change (queue ∷ queues) before got = ap (λ (l : List QueueState). queue ∷ l) (set-changed place change queues before got)

-- what a write to one queue leaves
pub written : (queues : List QueueState) (at place : ℕ) (change : QueueState → QueueState) (before now : QueueState) → at ≡ place → place < length queues → before ≡ get_or queues at before → now ≡ change before
    → set queues at now ≡ changed_at place change queues
written queues at place change before now at_is within read is =
    let got = slice_get_read queues (length queues) place before refl within (read ∙ ap (λ (i : ℕ). get_or queues i before) at_is) in
    ap (λ (i : ℕ). set queues i now) at_is ∙ ap (set queues place) is ∙ set-changed place change queues before got

pub at_place : {X : Type 0} (xs : List X) (place : ℕ) → place < length xs → (x : X) × (slice_get xs place ≡ Some x)
at_place [] place lt = absurd (omega arith)
at_place (x ∷ xs) zero lt = (x, refl)
at_place (x ∷ xs) (suc place) lt = at_place xs place (omega arith)

-- ---- room

-- one more may be placed
room_less : (c n : ℕ) (connections : List ℕ) (queues : List QueueState) → HasRoomIn connections queues → HasRoomIn connections (changed_at c (queue_without n) queues)
room_less c n connections queues has = record {
  each = λ place queue got. elim (cases_eq place c) [
    | inl same ↦
        let before = got-changed c (queue_without n) queues queue (ap (slice_get (changed_at c (queue_without n) queues)) (sym same) ∙ got) in
        let le = has.each place before.0 (ap (slice_get queues) same ∙ before.1) in
        omega (arith, le, ap (λ (q : QueueState). q.spare) before.2)
    | inr differ ↦ has.each place queue (sym (got-other c place (queue_without n) queues differ) ∙ got)
  ];
}

pub room_out : (c : ℕ) (numbers connections : List ℕ) (queues : List QueueState) → HasRoomIn connections queues → HasRoomIn connections (queues_without c numbers queues)
room_out c [] connections queues has = has
room_out c (n ∷ numbers) connections queues has = room_out c numbers connections (changed_at c (queue_without n) queues) (room_less c n connections queues has)

-- one place of a number, or none
abbrev pub one_if : Bool → ℕ
one_if b = cond b 1 0

count_first : (c place : ℕ) (connections : List ℕ) → count_by (λ d. d == place) (c ∷ connections) ≡ one_if (c == place) + count_by (λ d. d == place) connections
count_first c place connections = sum_by-cons (λ (d : ℕ). cond (d == place) 1 0) c connections

room_into : (a : ActiveFile) (connections : List ℕ) (queues : List QueueState) → HasRoomIn (a.connection ∷ connections) queues → HasRoomIn connections (changed_at a.connection (queue_with a.file) queues)
room_into a connections queues has = record {
  each = λ place queue got. elim (cases_eq place a.connection) [
    | inl same ↦
        let before = got-changed a.connection (queue_with a.file) queues queue (ap (slice_get (changed_at a.connection (queue_with a.file) queues)) (sym same) ∙ got) in
        let le = has.each place before.0 (ap (slice_get queues) same ∙ before.1) in
        let one : one_if (a.connection == place) ≡ 1 = ap one_if (eq-eqb a.connection place (sym same)) in
        omega (arith, le, one, count_first a.connection place connections, ap (λ (q : QueueState). q.spare) before.2)
    | inr differ ↦
        let le = has.each place queue (sym (got-other a.connection place (queue_with a.file) queues differ) ∙ got) in
        omega (arith, le, count_first a.connection place connections)
  ];
}

-- ---- whose they are

-- where one queue changes, and only the files of its connection
pub one_changes : (flow : Flow) (out other : List ℕ) (k after : Kept) (c : ℕ) (change : QueueState → QueueState) (queues : List QueueState) → AreQueuesOf flow k out queues
    → ((queue : QueueState) → (change queue).order ≡ queue.order) → ((queue : QueueState) → (change queue).limits ≡ queue.limits) → ((queue : QueueState) → (change queue).batches ≡ queue.batches)
    → ((queue : QueueState) → queue.files ≡ held_in out c k.files → (change queue).files ≡ held_in other c after.files)
    → ((place : ℕ) → place ≢ c → held_in out place k.files ≡ held_in other place after.files) → AreQueuesOf flow after other (changed_at c change queues)
one_changes flow out other k after c change queues are order limits batches here others = record {
  count = length-changed c change queues ∙ are.count;
  each = λ place connection queue at got. elim (cases_eq place c) [
    | inl same ↦
        let before = got-changed c change queues queue (ap (slice_get (changed_at c change queues)) (sym same) ∙ got) in
        let was = are.each place connection before.0 at (ap (slice_get queues) same ∙ before.1) in
        let files = here before.0 (was.files ∙ ap (λ (p : ℕ). held_in out p k.files) same) in
        record {
          order = ap (λ (q : QueueState). q.order) before.2 ∙ order before.0 ∙ was.order;
          limits = ap (λ (q : QueueState). q.limits) before.2 ∙ limits before.0 ∙ was.limits;
          files = ap (λ (q : QueueState). q.files) before.2 ∙ files ∙ ap (λ (p : ℕ). held_in other p after.files) (sym same);
          batches = ap (λ (q : QueueState). q.batches) before.2 ∙ batches before.0 ∙ was.batches;
        }
    | inr differ ↦
        let was = are.each place connection queue at (sym (got-other c place change queues differ) ∙ got) in
        record { order = was.order; limits = was.limits; files = was.files ∙ others place differ; batches = was.batches }
  ];
}

-- the queues of what is kept, where the same files are in flight by other numbers
pub same_files : (flow : Flow) (out other : List ℕ) (k after : Kept) (queues : List QueueState) → ((place : ℕ) → held_in out place k.files ≡ held_in other place after.files) → AreQueuesOf flow k out queues
    → AreQueuesOf flow after other queues
same_files flow out other k after queues same are = record {
  count = are.count;
  each = λ place connection queue at got.
      let was = are.each place connection queue at got in record { order = was.order; limits = was.limits; files = was.files ∙ same place; batches = was.batches };
}

module _ (flow : Flow) (out : List ℕ) where
  pub files_at : (k : Kept) (queues : List QueueState) (place : ℕ) (queue : QueueState) → AreQueuesOf flow k out queues → slice_get queues place ≡ Some queue → queue.files ≡ held_in out place k.files
  files_at k queues place queue are got =
      let lt = slice_get_within queues place queue got in
      let connection = at_place flow.connections place (omega (arith, lt, are.count)) in
      (are.each place connection.0 queue connection.1 got).files

  -- ---- files leave

  out_of : (k after : Kept) (c n : ℕ) (queues : List QueueState) → AreQueuesOf flow k out queues → AscendsByNumber active_number k.files → is_in_connection c (active_of n k.files) ≡ true
      → after.files ≡ without_item active_number n k.files → AreQueuesOf flow after out (changed_at c (queue_without n) queues)
  out_of k after c n queues are ascends is files =
      one_changes flow out out k after c (queue_without n) queues are (λ queue. refl) (λ queue. refl) (λ queue. refl)
      (λ queue was. ap (without_file n) was ∙ sym (held_in-without out n c k.files) ∙ ap (held_in out c) (sym files))
      (λ place ne. sym (others_stay out c n place k.files ascends is ne) ∙ ap (held_in out place) (sym files))

  all_out : (numbers : List ℕ) (k after : Kept) (c : ℕ) (queues : List QueueState) → AreQueuesOf flow k out queues → AscendsByNumber active_number k.files → c < length queues → are_distinct_numbers numbers ≡ true
      → are_active_in k.files c numbers ≡ true → after.files ≡ left_after numbers k.files → AreQueuesOf flow after out (queues_without c numbers queues) × HasFiles c numbers queues
  all_out [] k after c queues are ascends within distinct active files = (same_files flow out out k after queues (λ place. ap (held_in out place) (sym (files ∙ left_after-nil k.files))) are, tt)
  all_out (n ∷ numbers) k after c queues are ascends within distinct active files =
      let d = and_parts (not (list_any (λ m. m == n) numbers)) (are_distinct_numbers numbers) distinct in
      let a = and_parts (is_in_connection c (active_of n k.files)) (are_active_in k.files c numbers) active in
      let mid : Kept = record k { files = without_item active_number n k.files } in
      let step = out_of k mid c n queues are ascends a.0 refl in
      let within_still : c < length (changed_at c (queue_without n) queues) = omega (arith, within, length-changed c (queue_without n) queues) in
      let rest = all_out numbers mid after c (changed_at c (queue_without n) queues) step (ascends-filter active_number (λ b. not (active_number b == n)) k.files ascends) within_still d.1
      (still_active c n k.files numbers (not-true (list_any (λ m. m == n) numbers) d.0) a.1) (files ∙ left_after-cons n numbers k.files) in
      let file : HasFile c n queues =
      record { within = within; there = λ queue got. subst (λ fs. IsSome (flight_of n fs)) (sym (files_at k queues c queue are got)) (ap is_some (found_in out c n k.files a.0)) } in
      (rest.0, (file, rest.1))

  pub leaving : (numbers : List ℕ) (k after : Kept) (c : ℕ) (queues : List QueueState) → AreQueuesOf flow k out queues → length k.connections ≡ length flow.connections → IsConsistent k → are_distinct_numbers numbers ≡ true
      → are_active_in k.files c numbers ≡ true → after.files ≡ left_after numbers k.files → AreQueuesOf flow after out (queues_without c numbers queues) × HasFiles c numbers queues
  leaving [] k after c queues are connections consistent distinct active files = (same_files flow out out k after queues (λ place. ap (held_in out place) (sym (files ∙ left_after-nil k.files))) are, tt)
  leaving (n ∷ numbers) k after c queues are connections consistent distinct active files =
      let a = and_parts (is_in_connection c (active_of n k.files)) (are_active_in k.files c numbers) active in
      let lt = connection_within k c n k.files consistent.files a.0 in
      let within : c < length queues = omega (arith, lt, connections, are.count) in
      all_out (n ∷ numbers) k after c queues are consistent.numbers within distinct active files

  -- ---- files join

  into : (k after : Kept) (a : ActiveFile) (queues : List QueueState) → AreQueuesOf flow k out queues → AscendsByNumber active_number k.files → is_out out a.file.number ≡ false → after.files ≡ with_item active_number a k.files
      → AreQueuesOf flow after out (changed_at a.connection (queue_with a.file) queues)
  into k after a queues are ascends rests files =
      let joined : (place : ℕ) → held_in out place after.files ≡ cond (a.connection == place) (queue_with_file a.file (held_in out place k.files)) (held_in out place k.files) =
      λ place. ap (held_in out place) files ∙ held_in-with out place a k.files ascends rests in
      one_changes flow out out k after a.connection (queue_with a.file) queues are (λ queue. refl) (λ queue. refl) (λ queue. refl)
      (λ queue was.
      ap (queue_with_file a.file) was
      ∙ sym (joined a.connection ∙ ap (λ b. cond b (queue_with_file a.file (held_in out a.connection k.files)) (held_in out a.connection k.files)) (eq-eqb a.connection a.connection refl)))
      (λ place ne. sym (joined place ∙ ap (λ b. cond b (queue_with_file a.file (held_in out place k.files)) (held_in out place k.files)) (ne_eqb a.connection place (λ e. ne (sym e)))))

  pub all_into : (placed : List ActiveFile) (k after : Kept) (queues : List QueueState) → AreQueuesOf flow k out queues → AscendsByNumber active_number k.files
      → AreApart active_number placed k.files → AreApart arrival_of placed k.files → All (λ (a : ActiveFile). a.connection < length queues) placed
      → HasRoomIn (map (λ (a : ActiveFile). a.connection) placed) queues → All (λ (a : ActiveFile). is_out out (active_number a) ≡ false) placed → after.files ≡ with_files placed k.files
      → AreQueuesOf flow after out (queues_with placed queues) × MayAllJoin placed queues
  all_into [] k after queues are ascends numbers arrivals within room rest_all files = (same_files flow out out k after queues (λ place. ap (held_in out place) (sym files)) are, tt)
  all_into (a ∷ placed) k after queues are ascends numbers arrivals within room rest_all files =
      let next = changed_at a.connection (queue_with a.file) queues in
      let mid : Kept = record k { files = with_item active_number a k.files } in
      let step = into k mid a queues are ascends (All-head (λ (b : ActiveFile). is_out out (active_number b) ≡ false) a placed rest_all) refl in
      let later = All-tail (λ (b : ActiveFile). b.connection < length queues) a placed within in
      let within_still = All-weaker (λ (b : ActiveFile). b.connection < length queues) (λ (b : ActiveFile). b.connection < length next)
      (λ b lt. omega (arith, lt, length-changed a.connection (queue_with a.file) queues)) placed later in
      let rest = all_into placed mid after next step (ascends-with active_number a k.files (none_from_any (active_number a) k.files numbers.0) ascends) numbers.1 arrivals.1 within_still
      (room_into a (map (λ (b : ActiveFile). b.connection) placed) queues room) (All-tail (λ (b : ActiveFile). is_out out (active_number b) ≡ false) a placed rest_all) files in
      let one : one_if (a.connection == a.connection) ≡ 1 = ap one_if (eq-eqb a.connection a.connection refl) in
      let joins : MayJoin a queues = record {
        within = All-head (λ (b : ActiveFile). b.connection < length queues) a placed within;
        room = λ queue got. let le = room.each a.connection queue got in omega (arith, le, one, count_first a.connection a.connection (map (λ (b : ActiveFile). b.connection) placed));
        apart = λ queue got. subst (IsApart a.file) (sym (files_at k queues a.connection queue are got)) (apart_in out a.connection a k.files numbers.0 arrivals.0);
      } in
      (rest.0, (joins, rest.1))
