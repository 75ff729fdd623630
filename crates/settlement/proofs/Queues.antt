-- That the settlement leaves the queues that the machine's does.
use Rattle.std.proofs.Common.{◌≡◌, ◌≢◌, inl, inr, ℕ, zero, suc, ◌+◌, ◌<◌, ◌≤◌, Bool, true, false, cond, List, [], ◌∷◌, ◌++◌, map, length, refl, sym, ap, subst, ◌∙◌, arith, append-nil}
use Rattle.std.specs.Prelude.{◌==◌, not, All, Option, Some, None, filter, find, is_some, fold, slice_get, zip, unwrap_or}
use Rattle.std.specs.List.{flat_map, range_with_len}
use Rattle.std.proofs.lemmas.Bool.{cases_eq, ne_eqb, eq-eqb, eqb-true, true≢false}
use Rattle.std.proofs.lemmas.List.{length-map, length_push, map-append}
use Rattle.std.proofs.lemmas.List.Elements.{All-head, All-tail}
use Rattle.flowfile_record.specs.Outcome.{AreInTurn}
use Rattle.flowfile_record.specs.declared.flow_file.FlowFile.{FlowFile}
use Rattle.flowfile_record.specs.declared.stored.Placed.{Placed}
use Rattle.flowfile_record.specs.declared.worked.Worked.{Worked}
use Rattle.machine_model.specs.Changing.{placed_file, placed_into, queued_file}
use Rattle.machine_model.specs.Files.{is_number_among, queue_at}
use Rattle.machine_model.specs.Placing as placing
use Rattle.machine_model.specs.Placing.{SettledFile, Destination, settled_file, settled_files, numbers_from, next_behind, entered_in, entered_by, count_made}
use Rattle.machine_model.specs.Settling.{in_queue, staying, staying_as}
use Rattle.machine_model.specs.State.{QueuedFile}
use Rattle.machine_model.specs.Stepping.{without_files}
use Rattle.machine_model.specs.Valid.{IsValid, AreByArrival}
use Rattle.machine_model.proofs.Among.{Among, all_among, among_contained, among_left, among_right, contains_among, each_among}
use Rattle.machine_model.proofs.Keyed.{once_from_differ, same_key}
use Rattle.machine_model.proofs.Numbers.{numbers_are}
use Rattle.machine_model.proofs.Ordered.{pairs_head, pairs_nil, pairs_tail}
use Rattle.machine_model.proofs.Tally.{Each, each-append, bit, many, tally, tally-append, tally-map, find-passes, run_below}
use Rattle.machine_model.proofs.Took.{find-contains}
use Rattle.settlement.specs.Ending.{goes_to}
use Rattle.settlement.specs.Placing.{taken_arrival, placed_at, returned, returning}
use Rattle.settlement.specs.Whole.{placing_at}
use Rattle.settlement.proofs.Arriving.{HasBytes, placed-queued}
use Rattle.settlement.proofs.ByArrival.{AreApart, Has, IsKept, Rising, Stays, stays-in-place, these, put_all}
use Rattle.settlement.proofs.EndedFiles.{Case, ended_of, place, session, taken_numbers}
use Rattle.settlement.proofs.Listing.{filter-append}
use Rattle.settlement.proofs.Taken.{IsEitherOne, back, back_of}

abbrev number_of : QueuedFile → ℕ
number_of file = file.number

abbrev has_number : ℕ → SettledFile → Bool
has_number number file = file.number == number

-- ---- what comes back, by number

abbrev back_if : Case → Option SettledFile → List QueuedFile
back_if c None = []
back_if c (Some file) = back c file

-- what comes back of a file has its number
back_these : (c : Case) (number : ℕ) (file : SettledFile) (goes : Destination) → these number (back_of c file goes) ≡ cond (file.number == number) (back_of c file goes) []
back_these c number file placing.Returns = refl
back_these c number file (placing.Queues first others) = elim (file.number == number) as (λ b. [] ≡ cond b (back_of c file (placing.Queues first others)) []) [ true ↦ refl | false ↦ refl ]
back_these c number file (placing.Drops relationship) = elim (file.number == number) as (λ b. [] ≡ cond b (back_of c file (placing.Drops relationship)) []) [ true ↦ refl | false ↦ refl ]
back_these c number file placing.Leaves = elim (file.number == number) as (λ b. [] ≡ cond b (back_of c file placing.Leaves) []) [ true ↦ refl | false ↦ refl ]

back_first : (c : Case) (number : ℕ) (file : SettledFile) (files : List SettledFile)
    → these number (flat_map (back c) (file ∷ files)) ≡ cond (file.number == number) (back c file) [] ++ these number (flat_map (back c) files)
back_first c number file files =
    filter-append (λ (other : QueuedFile). other.number == number) (back c file) (flat_map (back c) files)
    ∙ ap (λ xs. xs ++ these number (flat_map (back c) files)) (back_these c number file file.goes)

none_back : (c : Case) (number : ℕ) (files : List SettledFile) → many (λ (file : SettledFile). file.number) number files ≡ 0 → these number (flat_map (back c) files) ≡ []
none_back c number [] none = refl
none_back c number (file ∷ files) none =
    back_first c number file files
    ∙ (elim (file.number == number) as (λ b. bit b + many (λ (file : SettledFile). file.number) number files ≡ 0 → cond b (back c file) [] ++ these number (flat_map (back c) files) ≡ []) [
      | true ↦ λ none. absurd (omega arith)
      | false ↦ λ none. none_back c number files (omega arith)
    ] none)

found_back : (c : Case) (number : ℕ) (files : List SettledFile) → many (λ (file : SettledFile). file.number) number files ≤ 1
    → these number (flat_map (back c) files) ≡ back_if c (find (has_number number) files)
found_back c number [] once = refl
found_back c number (file ∷ files) once =
    back_first c number file files
    ∙ (elim (file.number == number) as (λ b. bit b + many (λ (file : SettledFile). file.number) number files ≤ 1
    → cond b (back c file) [] ++ these number (flat_map (back c) files) ≡ back_if c (cond b (Some file) (find (has_number number) files))) [
      | true ↦ λ once. ap (λ xs. back c file ++ xs) (none_back c number files (omega arith)) ∙ append-nil (back c file)
      | false ↦ λ once. found_back c number files (omega arith)
    ] once)

-- ---- what is placed as coming back

back_same : (c : Case) (all : List Placed) (file : SettledFile) (goes : Destination) → HasBytes c file → (connection : ℕ)
    → placed_into c.bytes all connection (returning (placing_at (place c) c.ended.connection c.state.next_arrival) (ended_of c file) (goes_to goes)) ≡ cond (c.ended.connection == connection) (back_of c file goes) []
back_same c all file placing.Returns has connection =
    let at = taken_arrival c.ended.taken file.worked.origin in
    elim (c.ended.connection == connection) as (λ b. map (placed_file c.bytes all) (cond b (placed_at at (c.ended.connection, file.number, ended_of c file) ∷ []) []) ≡ cond b (in_queue file file.number at ∷ []) []) [
      | true ↦ ap (λ one. one ∷ []) (placed-queued c all at c.ended.connection file.number file has)
      | false ↦ refl
    ]
back_same c all file (placing.Queues first others) has connection = elim (c.ended.connection == connection) as (λ b. [] ≡ cond b (back_of c file (placing.Queues first others)) []) [ true ↦ refl | false ↦ refl ]
back_same c all file (placing.Drops relationship) has connection = elim (c.ended.connection == connection) as (λ b. [] ≡ cond b (back_of c file (placing.Drops relationship)) []) [ true ↦ refl | false ↦ refl ]
back_same c all file placing.Leaves has connection = elim (c.ended.connection == connection) as (λ b. [] ≡ cond b (back_of c file placing.Leaves) []) [ true ↦ refl | false ↦ refl ]

placed_append : (c : Case) (all : List Placed) (connection : ℕ) (xs ys : List Placed) → placed_into c.bytes all connection (xs ++ ys) ≡ placed_into c.bytes all connection xs ++ placed_into c.bytes all connection ys
placed_append c all connection xs ys =
    ap (map (placed_file c.bytes all)) (filter-append (λ (file : Placed). file.connection == connection) xs ys)
    ∙ map-append (placed_file c.bytes all) (filter (λ (file : Placed). file.connection == connection) xs) (filter (λ (file : Placed). file.connection == connection) ys)

pub placed-append : (c : Case) (all : List Placed) (connection : ℕ) (xs ys : List Placed) → placed_into c.bytes all connection (xs ++ ys) ≡ placed_into c.bytes all connection xs ++ placed_into c.bytes all connection ys
placed-append c all connection xs ys = placed_append c all connection xs ys

cond_append : (b : Bool) (xs ys : List QueuedFile) → cond b xs [] ++ cond b ys [] ≡ cond b (xs ++ ys) []
cond_append true xs ys = refl
cond_append false xs ys = refl

returned_same : (c : Case) (all : List Placed) (connection : ℕ) (files : List SettledFile) → Each (HasBytes c) files
    → placed_into c.bytes all connection (returned (placing_at (place c) c.ended.connection c.state.next_arrival) (map (ended_of c) files)) ≡ cond (c.ended.connection == connection) (flat_map (back c) files) []
returned_same c all connection [] has = elim (c.ended.connection == connection) as (λ b. [] ≡ cond b (flat_map (back c) []) []) [ true ↦ refl | false ↦ refl ]
returned_same c all connection (file ∷ files) has =
    placed_append c all connection (returning (placing_at (place c) c.ended.connection c.state.next_arrival) (ended_of c file) (goes_to file.goes)) (returned (placing_at (place c) c.ended.connection c.state.next_arrival) (map (ended_of c) files))
    ∙ (λ i. back_same c all file file.goes has.0 connection i ++ returned_same c all connection files has.1 i)
    ∙ cond_append (c.ended.connection == connection) (back c file) (flat_map (back c) files)

-- ---- the file of a taken number

length_entered : (moment : ℕ) (taken before : List ℕ) (files : List Worked)
    → length (fold (λ before (file : Worked). before ++ entered_by moment taken before file.origin ∷ []) before files) ≡ length before + length files
length_entered moment taken before [] = omega arith
length_entered moment taken before (file ∷ files) =
    length_entered moment taken (before ++ entered_by moment taken before file.origin ∷ []) files
    ∙ omega (arith, length_push before (entered_by moment taken before file.origin))

numbers_kept : (c : Case) (numbers entered : List ℕ) (files : List Worked) → length numbers ≡ length files → length entered ≡ length files
    → map (λ (file : SettledFile). file.number) (map (λ f. settled_file (session c) (f.0, f.1.0, f.1.1)) (zip numbers (zip entered files))) ≡ numbers
numbers_kept c [] entered files h k = refl
numbers_kept c (number ∷ numbers) [] [] h k = absurd (omega arith)
numbers_kept c (number ∷ numbers) [] (file ∷ files) h k = absurd (omega arith)
numbers_kept c (number ∷ numbers) (moment ∷ entered) [] h k = absurd (omega arith)
numbers_kept c (number ∷ numbers) (moment ∷ entered) (file ∷ files) h k = ap (λ rest. number ∷ rest) (numbers_kept c numbers entered files (omega arith) (omega arith))

length_numbers : (next : ℕ) (taken : List ℕ) (files : List Worked) → length (numbers_from next taken files) ≡ length files
length_numbers next taken [] = refl
length_numbers next taken (file ∷ files) = ap suc (length_numbers (next_behind next file.origin) taken files)

abbrev pub files_of : Case → List SettledFile
files_of c = settled_files (session c) c.ended.outcome.files

-- the numbers of all files: those that were taken, and then the next ones
all_numbers : (c : Case) → AreInTurn 0 (length c.ended.taken) c.ended.outcome.files
    → map (λ (file : SettledFile). file.number) (files_of c) ≡ map (λ (file : FlowFile). file.number) c.ended.taken ++ range_with_len c.state.next_number (count_made c.ended.outcome.files)
all_numbers c turn =
    let files = c.ended.outcome.files in
    let taken = map (λ (file : QueuedFile). file.number) (map (queued_file c.bytes) c.ended.taken) in
    let moments = map (λ (file : QueuedFile). file.entered) (map (queued_file c.bytes) c.ended.taken) in
    numbers_kept c (numbers_from c.state.next_number taken files) (entered_in c.given.moment moments files) files (length_numbers c.state.next_number taken files)
    (length_entered c.given.moment moments [] files ∙ omega arith)
    ∙ numbers_are taken c.state.next_number 0 files (rw (length-map (map (queued_file c.bytes) c.ended.taken) (λ (file : QueuedFile). file.number), length-map c.ended.taken (queued_file c.bytes)) turn)
    ∙ ap (λ xs. xs ++ range_with_len c.state.next_number (count_made files)) (taken_numbers c.bytes c.ended.taken)

many_numbers : (n : ℕ) (files : List SettledFile) → many (λ (file : SettledFile). file.number) n files ≡ many (λ (m : ℕ). m) n (map (λ (file : SettledFile). file.number) files)
many_numbers n files = sym (tally-map (λ (m : ℕ). bit (m == n)) (λ (file : SettledFile). file.number) files)

-- how many files have a number
pub many_files : (c : Case) (n : ℕ) → AreInTurn 0 (length c.ended.taken) c.ended.outcome.files
    → many (λ (file : SettledFile). file.number) n (files_of c)
    ≡ many (λ (file : FlowFile). file.number) n c.ended.taken + many (λ (m : ℕ). m) n (range_with_len c.state.next_number (count_made c.ended.outcome.files))
many_files c n turn =
    many_numbers n (files_of c)
    ∙ ap (many (λ (m : ℕ). m) n) (all_numbers c turn)
    ∙ tally-append (λ (m : ℕ). bit (m == n)) (map (λ (file : FlowFile). file.number) c.ended.taken) (range_with_len c.state.next_number (count_made c.ended.outcome.files))
    ∙ ap (λ k. k + many (λ (m : ℕ). m) n (range_with_len c.state.next_number (count_made c.ended.outcome.files))) (tally-map (λ (m : ℕ). bit (m == n)) (λ (file : FlowFile). file.number) c.ended.taken)

-- one that is counted is found
counted_found : (n : ℕ) (files : List SettledFile) → 1 ≤ many (λ (file : SettledFile). file.number) n files → find (has_number n) files ≡ None → ⊥
counted_found n [] h none = absurd (omega arith)
counted_found n (file ∷ files) h none =
    elim (file.number == n) as (λ b. 1 ≤ bit b + many (λ (file : SettledFile). file.number) n files → cond b (Some file) (find (has_number n) files) ≡ None → ⊥) [
      | true ↦ λ h none. cc
      | false ↦ λ h none. counted_found n files (omega arith) none
    ] h none

among_numbers : (n : ℕ) (numbers : List ℕ) → 1 ≤ many (λ (m : ℕ). m) n numbers → is_number_among numbers n ≡ true
among_numbers n [] h = absurd (omega arith)
among_numbers n (m ∷ numbers) h =
    elim (m == n) as (λ b. 1 ≤ bit b + many (λ (m : ℕ). m) n numbers → is_some (cond b (Some m) (find (λ k. k == n) numbers)) ≡ true) [
      | true ↦ λ h. refl
      | false ↦ λ h. among_numbers n numbers (omega arith)
    ] h

numbers_among : (n : ℕ) (numbers : List ℕ) → is_number_among numbers n ≡ true → 1 ≤ many (λ (m : ℕ). m) n numbers
numbers_among n [] h = absurd (true≢false (sym h))
numbers_among n (m ∷ numbers) h =
    elim (m == n) as (λ b. is_some (cond b (Some m) (find (λ k. k == n) numbers)) ≡ true → 1 ≤ bit b + many (λ (m : ℕ). m) n numbers) [
      | true ↦ λ h. omega arith
      | false ↦ λ h. omega (arith, numbers_among n numbers h)
    ] h

-- ---- each file of a queue

abbrev gone : Case → List ℕ
gone c = map (λ (file : FlowFile). file.number) c.ended.taken

abbrev keeps : Case → QueuedFile → Bool
keeps c file = not (is_number_among (gone c) file.number)

abbrev stays : Case → QueuedFile → List QueuedFile
stays c file = staying_as file (find (has_number file.number) (files_of c))

-- what is known of a session's files: at most one has a number, and each is a taken one or a new one
pub record AreKnown (c : Case) : Type 0 where
  pub turn : AreInTurn 0 (length c.ended.taken) c.ended.outcome.files
  pub once : (n : ℕ) → many (λ (file : SettledFile). file.number) n (files_of c) ≤ 1
  pub either : Each (IsEitherOne c) (files_of c)

many_gone : (c : Case) (n : ℕ) → many (λ (file : FlowFile). file.number) n c.ended.taken ≡ many (λ (m : ℕ). m) n (gone c)
many_gone c n = sym (tally-map (λ (m : ℕ). bit (m == n)) (λ (file : FlowFile). file.number) c.ended.taken)

-- a queued_file file that wasn't taken is none of the session's
not_found : (c : Case) (n : ℕ) → AreKnown c → n < c.state.next_number → is_number_among (gone c) n ≡ false → many (λ (file : SettledFile). file.number) n (files_of c) ≡ 0
not_found c n known below absent =
    let none : many (λ (m : ℕ). m) n (gone c) ≡ 0 = nothing (many (λ (m : ℕ). m) n (gone c)) (λ some. true≢false (sym (among_numbers n (gone c) some) ∙ absent)) in
    omega (arith, many_files c n known.turn, many_gone c n, run_below c.state.next_number (count_made c.ended.outcome.files) n below)
  where
    nothing : (k : ℕ) → (1 ≤ k → ⊥) → k ≡ 0
    nothing zero h = refl
    nothing (suc k) h = absurd (h (omega arith))

none_found : (n : ℕ) (files : List SettledFile) → many (λ (file : SettledFile). file.number) n files ≡ 0 → find (has_number n) files ≡ None
none_found n [] h = refl
none_found n (file ∷ files) h =
    elim (file.number == n) as (λ b. bit b + many (λ (file : SettledFile). file.number) n files ≡ 0 → cond b (Some file) (find (has_number n) files) ≡ None) [
      | true ↦ λ h. absurd (omega arith)
      | false ↦ λ h. none_found n files (omega arith)
    ] h

abbrev back_here : Case → List QueuedFile
back_here c = flat_map (back c) (files_of c)

kept_as_it_is : (c : Case) (file : QueuedFile) (all : List QueuedFile) → AreKnown c → file.number < c.state.next_number → is_number_among (gone c) file.number ≡ false
    → (these file.number all ≡ these file.number (back_here c)) → IsKept (keeps c) (stays c) all file
kept_as_it_is c file all known below absent same =
    let none = not_found c file.number known below absent in
    record {
      keeps = ap not absent;
      as_it_is = ap (staying_as file) (none_found file.number (files_of c) none);
      none = same ∙ none_back c file.number (files_of c) none;
    }

-- what was taken stands in one queue alone
pub record IsOnly (c : Case) (file : QueuedFile) : Type 0 where
  pub taken : (one : FlowFile) → Among one c.ended.taken → one.number ≡ file.number → one.arrival ≡ file.arrival

stays_found : (c : Case) (file : QueuedFile) (found : SettledFile) → taken_arrival c.ended.taken found.worked.origin ≡ file.arrival → staying_as file (Some found) ≡ back c found
stays_found c file found is = by_goal found.goes refl
  where
    by_goal : (goes : Destination) → found.goes ≡ goes → staying_as file (Some found) ≡ back_of c found goes
    by_goal placing.Returns same = rw same (ap (λ arrival. in_queue found found.number arrival ∷ []) (sym is))
    by_goal (placing.Queues first others) same = rw same refl
    by_goal (placing.Drops relationship) same = rw same refl
    by_goal placing.Leaves same = rw same refl

-- ---- what a valid state has of a queue

each_of : {X : Type 0} (P : X → Type 0) (xs : List X) → ((x : X) → Among x xs → P x) → Each P xs
each_of P [] h = tt
each_of P (x ∷ xs) h = (h x (inl refl), each_of P xs (λ y there. h y (inr there)))

pub in_all : (queues : List (List QueuedFile)) (k : ℕ) (file : QueuedFile) → Among file (unwrap_or (slice_get queues k) []) → Among file (flat_map (λ queue. queue) queues)
in_all [] k file h = absurd h
in_all (queue ∷ queues) zero file h = among_left file queue (flat_map (λ queue. queue) queues) h
in_all (queue ∷ queues) (suc k) file h = among_right file queue (flat_map (λ queue. queue) queues) (in_all queues k file h)

among_counts : (file : QueuedFile) (queue : List QueuedFile) (n : ℕ) → Among file queue → file.number ≡ n → 1 ≤ many number_of n queue
among_counts file [] n h is = absurd h
among_counts file (other ∷ queue) n (inl same) is =
    let yes : (other.number == n) ≡ true = eq-eqb other.number n (ap number_of same ∙ is) in
    rw yes (omega arith)
among_counts file (other ∷ queue) n (inr h) is = omega (arith, among_counts file queue n h is)

queue_counts : (w : QueuedFile → ℕ) (queues : List (List QueuedFile)) (k : ℕ) → tally w (unwrap_or (slice_get queues k) []) ≤ tally w (flat_map (λ queue. queue) queues)
queue_counts w [] k = omega arith
queue_counts w (queue ∷ queues) zero = omega (arith, tally-append w queue (flat_map (λ queue. queue) queues))
queue_counts w (queue ∷ queues) (suc k) = omega (arith, tally-append w queue (flat_map (λ queue. queue) queues), queue_counts w queues k)

one_queue : (n : ℕ) (queues : List (List QueuedFile)) (one other : ℕ) → many number_of n (flat_map (λ queue. queue) queues) ≤ 1
    → 1 ≤ many number_of n (unwrap_or (slice_get queues one) []) → 1 ≤ many number_of n (unwrap_or (slice_get queues other) []) → one ≡ other
one_queue n [] one other once h k = absurd (omega arith)
one_queue n (queue ∷ queues) zero zero once h k = refl
one_queue n (queue ∷ queues) zero (suc other) once h k =
    absurd (omega (arith, tally-append (λ (file : QueuedFile). bit (file.number == n)) queue (flat_map (λ queue. queue) queues), queue_counts (λ file. bit (file.number == n)) queues other))
one_queue n (queue ∷ queues) (suc one) zero once h k =
    absurd (omega (arith, tally-append (λ (file : QueuedFile). bit (file.number == n)) queue (flat_map (λ queue. queue) queues), queue_counts (λ file. bit (file.number == n)) queues one))
one_queue n (queue ∷ queues) (suc one) (suc other) once h k =
    ap suc (one_queue n queues one other (omega (arith, tally-append (λ (file : QueuedFile). bit (file.number == n)) queue (flat_map (λ queue. queue) queues))) h k)

rising : (queue : List QueuedFile) → AreByArrival queue → Rising queue
rising [] h = tt
rising (file ∷ queue) h = (
  each_of (λ other. file.arrival < other.arrival) queue (λ other there. all_among (λ other. file.arrival < other.arrival) other queue (pairs_head (λ (earlier later : QueuedFile). earlier.arrival < later.arrival) file queue h) there),
  rising queue (pairs_tail (λ (earlier later : QueuedFile). earlier.arrival < later.arrival) file queue h),
)

apart : (queue : List QueuedFile) → ((n : ℕ) → many number_of n queue ≤ 1) → AreApart queue
apart [] once = tt
apart (file ∷ queue) once =
    let here : (file.number == file.number) ≡ true = eq-eqb file.number file.number refl in
    let only : bit (file.number == file.number) + many number_of file.number queue ≤ 1 = once file.number in
    let single : 1 + many number_of file.number queue ≤ 1 = rw here at only in (
      each_of (λ other. other.number ≢ file.number) queue (λ other there same. omega (arith, among_counts other queue file.number there same)),
      apart queue (λ n. omega (arith, once n)),
    )

-- all that is known of a session whose files stand in a valid state
pub record Stands (c : Case) : Type 0 where
  pub valid : IsValid c.flow c.state
  pub there : (one : FlowFile) → Among one c.ended.taken → Among (queued_file c.bytes one) (queue_at c.state c.ended.connection)
  pub known : AreKnown c
  pub bytes : Each (HasBytes c) (files_of c)

all_once : (c : Case) → Stands c → (n : ℕ) → many number_of n (flat_map (λ queue. queue) c.state.queues) ≤ 1
all_once c s n = once_from_differ number_of (flat_map (λ queue. queue) c.state.queues) s.valid.numbered.numbers.differ n

only_taken : (c : Case) → Stands c → (k : ℕ) (file : QueuedFile) → Among file (queue_at c.state k) → IsOnly c file
only_taken c s k file there = record {
  taken = λ one in_taken same.
      let all = flat_map (λ (queue : List QueuedFile). queue) c.state.queues in
      let equal : queued_file c.bytes one ≡ file
      = same_key number_of all (queued_file c.bytes one) file s.valid.numbered.numbers.differ
      (contains_among (queued_file c.bytes one) all (in_all c.state.queues c.ended.connection (queued_file c.bytes one) (s.there one in_taken)))
      (contains_among file all (in_all c.state.queues k file there)) same in
      ap (λ (q : QueuedFile). q.arrival) equal;
}

taken_number : (taken : List FlowFile) (n : ℕ) → 1 ≤ many (λ (file : FlowFile). file.number) n taken → (one : FlowFile) × (Among one taken × (one.number ≡ n))
taken_number [] n h = absurd (omega arith)
taken_number (file ∷ taken) n h =
    elim (cases_eq file.number n) [
      | inl is ↦ (file, (inl refl, is))
      | inr ne ↦ let none : bit (file.number == n) ≡ 0 = ap bit (ne_eqb file.number n ne) in
          let rest = taken_number taken n (omega arith) in
          (rest.0, (inr rest.1.0, rest.1.1))
    ]

same_connection : (c : Case) → Stands c → (k : ℕ) (file : QueuedFile) → Among file (queue_at c.state k) → is_number_among (gone c) file.number ≡ true → c.ended.connection ≡ k
same_connection c s k file there is =
    let one = taken_number c.ended.taken file.number (omega (arith, many_gone c file.number, numbers_among file.number (gone c) is)) in
    one_queue file.number c.state.queues c.ended.connection k (all_once c s file.number)
    (among_counts (queued_file c.bytes one.0) (queue_at c.state c.ended.connection) file.number (s.there one.0 one.1.0) one.1.1)
    (among_counts file (queue_at c.state k) file.number there refl)

-- ---- a file that was taken

comes_or_goes : (c : Case) (file : QueuedFile) (all : List QueuedFile) (found : SettledFile) → is_number_among (gone c) file.number ≡ true
    → stays c file ≡ back c found → these file.number all ≡ back c found → taken_arrival c.ended.taken found.worked.origin ≡ file.arrival → Stays (keeps c) (stays c) all file
comes_or_goes c file all found is same these_are arrival = by_goal found.goes refl
  where
    by_goal : (goes : Destination) → found.goes ≡ goes → Stays (keeps c) (stays c) all file
    by_goal placing.Returns goes =
        let new = in_queue found found.number (taken_arrival c.ended.taken found.worked.origin) in
        let one : back c found ≡ new ∷ [] = ap (back_of c found) goes in
        inr (inr (record { goes = ap not is; new = new; comes = same ∙ one; only = these_are ∙ one; place = arrival }))
    by_goal (placing.Queues first others) goes =
        let none : back c found ≡ [] = ap (back_of c found) goes in inr (inl (record { goes = ap not is; nothing = same ∙ none; none = these_are ∙ none }))
    by_goal (placing.Drops relationship) goes =
        let none : back c found ≡ [] = ap (back_of c found) goes in inr (inl (record { goes = ap not is; nothing = same ∙ none; none = these_are ∙ none }))
    by_goal placing.Leaves goes =
        let none : back c found ≡ [] = ap (back_of c found) goes in inr (inl (record { goes = ap not is; nothing = same ∙ none; none = these_are ∙ none }))

found_arrival : (c : Case) (file : QueuedFile) (found : SettledFile) → IsOnly c file → IsEitherOne c found → found.number ≡ file.number → file.number < c.state.next_number
    → taken_arrival c.ended.taken found.worked.origin ≡ file.arrival
found_arrival c file found only (inl one) is below = one.arrival ∙ only.taken one.taken one.there (sym one.number ∙ is)
found_arrival c file found only (inr new) is below = absurd (omega (arith, new.number))

taken_stays : (c : Case) (file : QueuedFile) (all : List QueuedFile) (found : Option SettledFile) → find (has_number file.number) (files_of c) ≡ found → AreKnown c → IsOnly c file
    → file.number < c.state.next_number → is_number_among (gone c) file.number ≡ true → these file.number all ≡ these file.number (back_here c) → Stays (keeps c) (stays c) all file
taken_stays c file all None looked known only below is same =
    absurd (counted_found file.number (files_of c) (omega (arith, many_files c file.number known.turn, many_gone c file.number, numbers_among file.number (gone c) is)) looked)
taken_stays c file all (Some found) looked known only below is same =
    let number : found.number ≡ file.number = eqb-true found.number file.number (find-passes (has_number file.number) (files_of c) found looked) in
    let there : Among found (files_of c) = among_contained found (files_of c) (find-contains (has_number file.number) (files_of c) found looked) in
    let arrival = found_arrival c file found only (each_among (IsEitherOne c) found (files_of c) known.either there) number below in
    comes_or_goes c file all found is (ap (staying_as file) looked ∙ stays_found c file found arrival)
    (same ∙ found_back c file.number (files_of c) (known.once file.number) ∙ ap (back_if c) looked) arrival

either_stays : (c : Case) (file : QueuedFile) (all : List QueuedFile) → AreKnown c → IsOnly c file → file.number < c.state.next_number → these file.number all ≡ these file.number (back_here c)
    → Stays (keeps c) (stays c) all file
either_stays c file all known only below same =
    elim (is_number_among (gone c) file.number) as (λ b. is_number_among (gone c) file.number ≡ b → Stays (keeps c) (stays c) all file) [
      | true ↦ λ is. taken_stays c file all (find (has_number file.number) (files_of c)) refl known only below is same
      | false ↦ λ no. inl (kept_as_it_is c file all known below no same)
    ] refl

-- where nothing comes back, nothing was taken
kept_elsewhere : (c : Case) → Stands c → (k : ℕ) (file : QueuedFile) → Among file (queue_at c.state k) → file.number < c.state.next_number → (c.ended.connection ≡ k → ⊥) → Stays (keeps c) (stays c) [] file
kept_elsewhere c s k file there below other =
    elim (is_number_among (gone c) file.number) as (λ b. is_number_among (gone c) file.number ≡ b → Stays (keeps c) (stays c) [] file) [
      | true ↦ λ is. absurd (other (same_connection c s k file there is))
      | false ↦ λ no.
          let none = not_found c file.number s.known below no in
          inl (record { keeps = ap not no; as_it_is = ap (staying_as file) (none_found file.number (files_of c) none); none = refl })
    ] refl

-- ---- what comes back was there

has_from : (queue : List QueuedFile) (was back : QueuedFile) → Among was queue → was.number ≡ back.number → was.arrival ≡ back.arrival → Has queue back
has_from [] was back h number arrival = absurd h
has_from (file ∷ queue) was back (inl same) number arrival = inl (ap number_of same ∙ number, ap (λ (q : QueuedFile). q.arrival) same ∙ arrival)
has_from (file ∷ queue) was back (inr h) number arrival = inr (has_from queue was back h number arrival)

back_has : (c : Case) → Stands c → (file : SettledFile) → IsEitherOne c file → Each (Has (queue_at c.state c.ended.connection)) (back c file)
back_has c s file (inr new) = rw new.stays_out tt
back_has c s file (inl one) = by_goal file.goes
  where
    by_goal : (goes : Destination) → Each (Has (queue_at c.state c.ended.connection)) (back_of c file goes)
    by_goal placing.Returns = (has_from (queue_at c.state c.ended.connection) (queued_file c.bytes one.taken) _ (s.there one.taken one.there) (sym one.number) (sym one.arrival), tt)
    by_goal (placing.Queues first others) = tt
    by_goal (placing.Drops relationship) = tt
    by_goal placing.Leaves = tt

all_have : (c : Case) → Stands c → (files : List SettledFile) → Each (IsEitherOne c) files → Each (Has (queue_at c.state c.ended.connection)) (flat_map (back c) files)
all_have c s [] either = tt
all_have c s (file ∷ files) either =
    each-append (Has (queue_at c.state c.ended.connection)) (back c file) (flat_map (back c) files) (back_has c s file either.0) (all_have c s files either.1)

-- ---- a queue

below_next : (c : Case) → Stands c → (k : ℕ) (file : QueuedFile) → Among file (queue_at c.state k) → file.number < c.state.next_number
below_next c s k file there =
    (all_among (λ (file : QueuedFile). (1 ≤ file.number) × (file.number < c.state.next_number)) file (flat_map (λ queue. queue) c.state.queues) s.valid.numbered.numbers.within (in_all c.state.queues k file there)).1

pub arrival-below : (c : Case) → Stands c → (k : ℕ) (file : QueuedFile) → Among file (queue_at c.state k) → file.arrival < c.state.next_arrival
arrival-below c s k file there =
    (all_among (λ (file : QueuedFile). (1 ≤ file.arrival) × (file.arrival < c.state.next_arrival)) file (flat_map (λ queue. queue) c.state.queues) s.valid.numbered.arrivals.within (in_all c.state.queues k file there)).1

by_arrival_at : (queues : List (List QueuedFile)) (k : ℕ) → All AreByArrival queues → AreByArrival (unwrap_or (slice_get queues k) [])
by_arrival_at [] k all = pairs_nil (λ (earlier later : QueuedFile). earlier.arrival < later.arrival)
by_arrival_at (queue ∷ queues) zero all = All-head AreByArrival queue queues all
by_arrival_at (queue ∷ queues) (suc k) all = by_arrival_at queues k (All-tail AreByArrival queue queues all)

queue_once : (c : Case) → Stands c → (k n : ℕ) → many number_of n (queue_at c.state k) ≤ 1
queue_once c s k n = omega (arith, queue_counts (λ file. bit (file.number == n)) c.state.queues k, all_once c s n)

-- what is left of a queue with what comes back is what stays of it
stays_at : (c : Case) → Stands c → (k : ℕ) → (all : List QueuedFile) → Each (Stays (keeps c) (stays c) all) (queue_at c.state k) → Each (Has (queue_at c.state k)) all
    → put_all (without_files (queue_at c.state k) (gone c)) all ≡ staying (files_of c) (queue_at c.state k)
stays_at c s k all each has =
    stays-in-place (keeps c) (stays c) (queue_at c.state k) all (rising (queue_at c.state k) (by_arrival_at c.state.queues k s.valid.by_arrival)) (apart (queue_at c.state k) (queue_once c s k)) each has

pub queue-stays : (c : Case) (all : List Placed) → Stands c → (k : ℕ)
    → put_all (without_files (queue_at c.state k) (gone c)) (placed_into c.bytes all k (returned (placing_at (place c) c.ended.connection c.state.next_arrival) (map (ended_of c) (files_of c))))
    ≡ staying (files_of c) (queue_at c.state k)
queue-stays c all s k =
    ap (put_all (without_files (queue_at c.state k) (gone c))) (returned_same c all k (files_of c) s.bytes)
    ∙ elim (cases_eq c.ended.connection k) [
      | inl same ↦
          let yes : (c.ended.connection == k) ≡ true = eq-eqb c.ended.connection k same in
          rw yes (stays_at c s k (back_here c)
          (each_of (Stays (keeps c) (stays c) (back_here c)) (queue_at c.state k) (λ file there. either_stays c file (back_here c) s.known (only_taken c s k file there) (below_next c s k file there) refl))
          (subst (λ n. Each (Has (queue_at c.state n)) (back_here c)) same (all_have c s (files_of c) s.known.either)))
      | inr other ↦
          let no : (c.ended.connection == k) ≡ false = ne_eqb c.ended.connection k other in
          rw no (stays_at c s k [] (each_of (Stays (keeps c) (stays c) []) (queue_at c.state k) (λ file there. kept_elsewhere c s k file there (below_next c s k file there) other)) tt)
    ]
