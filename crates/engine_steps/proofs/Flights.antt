-- Sessions in flight: which one has a number, what stays of the others once one is checked out or is gone, and which names
-- are left then.
use Rattle.std.proofs.Common.{◌≡◌, ◌≢◌, ℕ, zero, suc, ◌+◌, ◌<◌, ◌≤◌, ◌==◌, ◌||◌, not, Bool, true, false, cond, List, [], ◌∷◌, ◌++◌, length, map, filter, get_or, true≢false, refl, sym, ap, subst, ◌∙◌, arith}
use Rattle.std.specs.Prelude.{All, Contains, IsSome, Option, None, Some, find, count_by, slice_get, slice_set, slice_index}
use Rattle.std.specs.List.{AllPairs, enumerate_from}
use Rattle.std.proofs.lemmas.Bool.{and_parts, eqb-true, eq-eqb, ne_eqb, not-true, false≢true}
use Rattle.std.proofs.lemmas.List.Elements.{All-nil, All-cons, All-head, All-tail, All-append, All-filter, All-weaker, All-contains, All-contains_itself, All-push, filter-append, filter_passes}
use Rattle.std.proofs.lemmas.List.Kept.{AllPairs-filter}
use Rattle.std.proofs.lemmas.List.Quantifiers.{all_pairs_push}
use Rattle.std.proofs.lemmas.List.Sums.{sum_by-cons, sum_by_push}
use Rattle.std.proofs.lemmas.Option.{same_Some}
use Rattle.flowfile_record.specs.Stored.{Kept}
use Rattle.flowfile_record.specs.declared.stored.ActiveFile.{ActiveFile}
use Rattle.kept_state.specs.Fits.{active_of, are_active_in, is_in_connection}
use Rattle.checkpoint_store.specs.Consistent.{IsConsistent}
use Rattle.machine_model.specs.declared.flow.Flow.{Flow}
use Rattle.machine_model.specs.declared.flow.Processor.{Processor}
use Rattle.machine_model.specs.declared.kind.Kind.{Kind}
use Rattle.machine_model.proofs.Ordered.{contains_apart, contains_later, pairs_head, pairs_tail}
use Rattle.machine_model.proofs.Tally.{find-passes}
use Rattle.machine_model.proofs.Took.{find-contains}
use Rattle.flow_queue.specs.Queue.{QueueState}
use Rattle.flow_queue.specs.declared.held.Held.{Held}
use Rattle.engine_queues.specs.Beside.{is_out, out_without}
use Rattle.engine_queues.specs.Laws.{NamesGoBack, NamesLeave}
use Rattle.engine_queues.specs.Listing.{AreDistinct, Left, TakesFrom, names_left, with_mark}
use Rattle.engine_queues.specs.Queues.{AreQueuesOf, held_of}
use Rattle.engine_queues.specs.Settling.{MayGiveBack}
use Rattle.engine_choice.specs.Choice.{known_by}
use Rattle.engine_choice.specs.Laws.{numbers_in}
use Rattle.engine_choice.specs.declared.choice.Choice.{Choice}
use Rattle.engine_choice.specs.declared.choice.Taking.{Taking}
use Rattle.engine_choice.specs.declared.choice.Taking.TheVariants.{Files, Generate, Receive}
use Rattle.engine_session.specs.Change.{names_without}
use Rattle.engine_session.specs.Taken.{IsFirstName, IsTakenBy, MayStillTake, TakenStays, TakesStill}
use Rattle.engine_steps.specs.Checkout.{TakesPlace}
use Rattle.engine_steps.specs.Flights.{AreInFlight, AreTwoSessions, HaveNames, HaveOtherPlaces, HoldsName, HoldsInFlight, busy_by, files_of_flight, given_back, has_session, is_in_flight, received_in, sessions_of, taken_by, with_name, without_session}
use Rattle.engine_steps.specs.Handing.{MayBeTaken}
use Rattle.engine_steps.specs.declared.flight.InFlight.{InFlight}

-- ---- the session of a number

pub found_flies : (session : ℕ) (out : List InFlight) (flight : InFlight) → find (has_session session) out ≡ Some flight → Contains out flight × (flight.session ≡ session)
found_flies session out flight is = (find-contains (has_session session) out flight is, eqb-true flight.session session (find-passes (has_session session) out flight is))

pub flying_found : (session : ℕ) (out : List InFlight) → is_in_flight session out ≡ true → (flight : InFlight) × (find (has_session session) out ≡ Some flight)
flying_found session [] is = absurd (false≢true is)
flying_found session (first ∷ out) is = by_test (has_session session first) is (λ later. flying_found session out later)
  where
    by_test : (b : Bool) → (b || is_in_flight session out) ≡ true → (is_in_flight session out ≡ true → (flight : InFlight) × (find (has_session session) out ≡ Some flight))
        → (flight : InFlight) × (cond b (Some first) (find (has_session session) out) ≡ Some flight)
    by_test true is rest = (first, refl)
    by_test false is rest = rest is

pub none_flies : (session : ℕ) (out : List InFlight) → find (has_session session) out ≡ None → is_in_flight session out ≡ false
none_flies session [] is = refl
none_flies session (first ∷ out) is = by_test (has_session session first) is (λ later. none_flies session out later)
  where
    by_test : (b : Bool) → cond b (Some first) (find (has_session session) out) ≡ None → (find (has_session session) out ≡ None → is_in_flight session out ≡ false)
        → (b || is_in_flight session out) ≡ false
    by_test true is rest = cc
    by_test false is rest = rest is

pub found_is_flying : (session : ℕ) (out : List InFlight) (flight : InFlight) → find (has_session session) out ≡ Some flight → is_in_flight session out ≡ true
found_is_flying session [] flight is = cc
found_is_flying session (first ∷ out) flight is = by_test (has_session session first) is (λ later. found_is_flying session out flight later)
  where
    by_test : (b : Bool) → cond b (Some first) (find (has_session session) out) ≡ Some flight → (find (has_session session) out ≡ Some flight → is_in_flight session out ≡ true)
        → (b || is_in_flight session out) ≡ true
    by_test true is rest = refl
    by_test false is rest = rest is

pub the_flight : (out : List InFlight) (flight : InFlight) → Contains out flight → AllPairs AreTwoSessions out → find (has_session flight.session) out ≡ Some flight
the_flight [] flight has apart = absurd (omega (arith, has.1))
the_flight (first ∷ out) flight has apart =
    contains_apart (find (has_session flight.session) (first ∷ out) ≡ Some flight) first flight out has
    (λ same. let hit : (first.session == flight.session) ≡ true = eq-eqb first.session flight.session (ap (λ (f : InFlight). f.session) same) in rw hit (ap Some same))
    (λ later.
    let two : AreTwoSessions first flight = All-contains (AreTwoSessions first) out flight (pairs_head AreTwoSessions first out apart) later in
    let miss : (first.session == flight.session) ≡ false = ne_eqb first.session flight.session two.numbers in
    rw miss (the_flight out flight later (pairs_tail AreTwoSessions first out apart)))

pub in_flight_at : (flow : Flow) (k : Kept) (listing : Left) (next : ℕ) (out : List InFlight) (flight : InFlight) → AreInFlight flow k listing next out → Contains out flight → HoldsInFlight flow k listing next flight
in_flight_at flow k listing next out flight are has = All-contains (HoldsInFlight flow k listing next) out flight are.each has

-- ---- lists of numbers

all_left : (P : ℕ → Type 0) (xs ys : List ℕ) → All P (xs ++ ys) → All P xs
all_left P [] ys all = All-nil P
all_left P (x ∷ xs) ys all = All-cons P x xs (All-head P x (xs ++ ys) all) (all_left P xs ys (All-tail P x (xs ++ ys) all))

all_right : (P : ℕ → Type 0) (xs ys : List ℕ) → All P (xs ++ ys) → All P ys
all_right P [] ys all = all
all_right P (x ∷ xs) ys all = all_right P xs ys (All-tail P x (xs ++ ys) all)

all_taken : (P : ℕ → Type 0) (out : List InFlight) → All (λ (f : InFlight). All P (files_of_flight f)) out → All P (taken_by out)
all_taken P [] all = All-nil P
all_taken P (first ∷ out) all =
    All-append P (files_of_flight first) (taken_by out) (All-head (λ (f : InFlight). All P (files_of_flight f)) first out all)
    (all_taken P out (All-tail (λ (f : InFlight). All P (files_of_flight f)) first out all))

-- what holds of all files that were taken holds of those of each session
pub each_taken : (P : ℕ → Type 0) (out : List InFlight) → All P (taken_by out) → All (λ (f : InFlight). All P (files_of_flight f)) out
each_taken P [] all = All-nil (λ (f : InFlight). All P (files_of_flight f))
each_taken P (first ∷ out) all =
    All-cons (λ (f : InFlight). All P (files_of_flight f)) first out (all_left P (files_of_flight first) (taken_by out) all)
    (each_taken P out (all_right P (files_of_flight first) (taken_by out) all))

all_stay : {X : Type 0} (p : X → Bool) (xs : List X) → All (λ x. p x ≡ true) xs → filter p xs ≡ xs
all_stay p [] all = refl
all_stay p (x ∷ xs) all = rw (All-head (λ y. p y ≡ true) x xs all) (ap (λ ys. x ∷ ys) (all_stay p xs (All-tail (λ y. p y ≡ true) x xs all)))

all_go : {X : Type 0} (p : X → Bool) (xs : List X) → All (λ x. p x ≡ false) xs → filter p xs ≡ []
all_go p [] all = refl
all_go p (x ∷ xs) all = rw (All-head (λ y. p y ≡ false) x xs all) (all_go p xs (All-tail (λ y. p y ≡ false) x xs all))

or_true : (b c : Bool) → c ≡ true → (b || c) ≡ true
or_true true c is = refl
or_true false c is = is

not_false : (b : Bool) → b ≡ false → not b ≡ true
not_false b is = ap not is

pub out_has : (numbers : List ℕ) (n : ℕ) → Contains numbers n → is_out numbers n ≡ true
out_has [] n has = absurd (omega (arith, has.1))
out_has (m ∷ numbers) n has =
    contains_apart (is_out (m ∷ numbers) n ≡ true) m n numbers has (λ same. rw (eq-eqb m n same) refl)
    (λ later. or_true (m == n) (is_out numbers n) (out_has numbers n later))

pub has_out : (numbers : List ℕ) (n : ℕ) → is_out numbers n ≡ true → Contains numbers n
has_out [] n is = absurd (false≢true is)
has_out (m ∷ numbers) n is = by_test (m == n) refl is (λ later. has_out numbers n later)
  where
    by_test : (b : Bool) → (m == n) ≡ b → (b || is_out numbers n) ≡ true → (is_out numbers n ≡ true → Contains numbers n) → Contains (m ∷ numbers) n
    by_test true same is rest = (0, omega arith, eqb-true m n same)
    by_test false same is rest = contains_later n m numbers (rest is)

-- where none of these is among those, none of those is among these
apart_too : (one other : List ℕ) → All (λ n. is_out one n ≡ false) other → All (λ n. is_out other n ≡ false) one
apart_too one other apart = All-weaker (Contains one) (λ n. is_out other n ≡ false) (λ n has. by_test n has (is_out other n) refl) one (All-contains_itself one)
  where
    by_test : (n : ℕ) → Contains one n → (b : Bool) → is_out other n ≡ b → is_out other n ≡ false
    by_test n has true is =
        let none : is_out one n ≡ false = All-contains (λ m. is_out one m ≡ false) other n apart (has_out other n is) in
        absurd (true≢false (sym (out_has one n has) ∙ none))
    by_test n has false is = is

-- ---- what they took

-- the files are live ones of their connection, each once
pub may_be_taken : (flow : Flow) (k : Kept) (moment : ℕ) (choice : Choice) → TakesStill flow k moment choice → MayBeTaken k choice.taking
may_be_taken flow k moment choice still = by_taking still.processor.kind choice.taking still.takes
  where
    by_taking : (kind : Kind) (taking : Taking) → MayStillTake flow k moment choice.processor kind taking → MayBeTaken k taking
    by_taking kind (Files connection numbers) takes = (takes.1.active, takes.1.distinct)
    by_taking kind (Generate index) takes = tt
    by_taking kind (Receive name) takes = tt

numbers_live : (k : Kept) (connection : ℕ) (numbers : List ℕ) → are_active_in k.files connection numbers ≡ true → All (λ n. IsSome (active_of n k.files)) numbers
numbers_live k connection [] active = All-nil (λ n. IsSome (active_of n k.files))
numbers_live k connection (n ∷ numbers) active =
    let parts = and_parts (is_in_connection connection (active_of n k.files)) (are_active_in k.files connection numbers) active in
    All-cons (λ m. IsSome (active_of m k.files)) n numbers (is_there (active_of n k.files) parts.0) (numbers_live k connection numbers parts.1)
  where
    is_there : (a : Option ActiveFile) → is_in_connection connection a ≡ true → IsSome a
    is_there None is = absurd (false≢true is)
    is_there (Some a) is = refl

taking_live : (k : Kept) (taking : Taking) → MayBeTaken k taking → All (λ n. IsSome (active_of n k.files)) (numbers_in taking)
taking_live k (Files connection numbers) may = numbers_live k connection numbers may.0
taking_live k (Generate index) may = All-nil (λ n. IsSome (active_of n k.files))
taking_live k (Receive name) may = All-nil (λ n. IsSome (active_of n k.files))

pub taken_live : (flow : Flow) (k : Kept) (listing : Left) (next : ℕ) (out : List InFlight) → AreInFlight flow k listing next out → All (λ number. IsSome (active_of number k.files)) (taken_by out)
taken_live flow k listing next out are =
    all_taken (λ n. IsSome (active_of n k.files)) out
    (All-weaker (HoldsInFlight flow k listing next) (λ (f : InFlight). All (λ n. IsSome (active_of n k.files)) (files_of_flight f))
    (λ f is. taking_live k f.choice.taking (may_be_taken flow k f.moment f.choice is.takes)) out are.each)

-- the files of each are out
pub taken_out : (out : List InFlight) (flight : InFlight) → Contains out flight → All (λ n. is_out (taken_by out) n ≡ true) (files_of_flight flight)
taken_out out flight has =
    let each = each_taken (Contains (taken_by out)) out (All-contains_itself (taken_by out)) in
    All-weaker (Contains (taken_by out)) (λ n. is_out (taken_by out) n ≡ true) (λ n. out_has (taken_by out) n) (files_of_flight flight)
    (All-contains (λ (f : InFlight). All (Contains (taken_by out)) (files_of_flight f)) out flight each has)

-- where all others have other numbers, all are kept
others_stay : (session : ℕ) (first : InFlight) (out : List InFlight) → has_session session first ≡ true → All (AreTwoSessions first) out → without_session session out ≡ out
others_stay session first out is two =
    all_stay (λ (f : InFlight). not (has_session session f)) out
    (All-weaker (AreTwoSessions first) (λ (f : InFlight). not (has_session session f) ≡ true)
    (λ f apart. not_false (has_session session f) (ne_eqb f.session session (λ e. apart.numbers (eqb-true first.session session is ∙ sym e)))) out two)

own_gone : (first : InFlight) (out : List InFlight) → All (AreTwoSessions first) out → out_without (files_of_flight first) (files_of_flight first ++ taken_by out) ≡ taken_by out
own_gone first out two =
    let p : ℕ → Bool = λ n. not (is_out (files_of_flight first) n) in
    let gone : filter p (files_of_flight first) ≡ [] = all_go p (files_of_flight first)
    (All-weaker (Contains (files_of_flight first)) (λ n. p n ≡ false) (λ n has. ap not (out_has (files_of_flight first) n has)) (files_of_flight first) (All-contains_itself (files_of_flight first))) in
    let others : All (λ n. p n ≡ true) (taken_by out) = all_taken (λ n. p n ≡ true) out
    (All-weaker (AreTwoSessions first) (λ (f : InFlight). All (λ n. p n ≡ true) (files_of_flight f))
    (λ f apart. All-weaker (λ n. is_out (files_of_flight first) n ≡ false) (λ n. p n ≡ true) (λ n. not_false (is_out (files_of_flight first) n)) (files_of_flight f) apart.files) out two) in
    filter-append p (files_of_flight first) (taken_by out) ∙ ap (λ ns. ns ++ filter p (taken_by out)) gone ∙ all_stay p (taken_by out) others

other_stays : (one other : InFlight) (numbers : List ℕ) → AreTwoSessions one other → out_without (files_of_flight other) (files_of_flight one ++ numbers) ≡ files_of_flight one ++ out_without (files_of_flight other) numbers
other_stays one other numbers two =
    let p : ℕ → Bool = λ n. not (is_out (files_of_flight other) n) in
    let stay : All (λ n. p n ≡ true) (files_of_flight one) =
    All-weaker (λ n. is_out (files_of_flight other) n ≡ false) (λ n. p n ≡ true) (λ n. not_false (is_out (files_of_flight other) n)) (files_of_flight one) (apart_too (files_of_flight one) (files_of_flight other) two.files) in
    filter-append p (files_of_flight one) numbers ∙ ap (λ ns. ns ++ filter p numbers) (all_stay p (files_of_flight one) stay)

-- the others took the same
pub taken_without : (session : ℕ) (out : List InFlight) (flight : InFlight) → AllPairs AreTwoSessions out → find (has_session session) out ≡ Some flight
    → taken_by (without_session session out) ≡ out_without (files_of_flight flight) (taken_by out)
taken_without session [] flight apart is = cc
taken_without session (first ∷ out) flight apart is = by_test (has_session session first) refl is (λ found. taken_without session out flight (pairs_tail AreTwoSessions first out apart) found)
  where
    by_test : (b : Bool) → has_session session first ≡ b → cond b (Some first) (find (has_session session) out) ≡ Some flight
        → (find (has_session session) out ≡ Some flight → taken_by (without_session session out) ≡ out_without (files_of_flight flight) (taken_by out))
        → taken_by (cond (not b) (first ∷ without_session session out) (without_session session out)) ≡ out_without (files_of_flight flight) (files_of_flight first ++ taken_by out)
    by_test true test found rest =
        let two = pairs_head AreTwoSessions first out apart in
        let same : first ≡ flight = cc in
        ap taken_by (others_stay session first out test two) ∙ sym (own_gone first out two)
        ∙ ap (λ (f : InFlight). out_without (files_of_flight f) (files_of_flight first ++ taken_by out)) same
    by_test false test found rest =
        let two : AreTwoSessions first flight = All-contains (AreTwoSessions first) out flight (pairs_head AreTwoSessions first out apart) (find-contains (has_session session) out flight found) in
        ap (λ ns. files_of_flight first ++ ns) (rest found) ∙ sym (other_stays first flight (taken_by out) two)

-- .. and none of the files that this one took
pub others_not_taken : (session : ℕ) (out : List InFlight) (flight : InFlight) → AllPairs AreTwoSessions out → find (has_session session) out ≡ Some flight
    → All (λ number. is_out (files_of_flight flight) number ≡ false) (taken_by (without_session session out))
others_not_taken session out flight apart is =
    let gone = files_of_flight flight in
    subst (λ ns. All (λ n. is_out gone n ≡ false) ns) (sym (taken_without session out flight apart is))
    (All-weaker (λ n. not (is_out gone n) ≡ true) (λ n. is_out gone n ≡ false) (λ n. not-true (is_out gone n)) (out_without gone (taken_by out)) (filter_passes (λ n. not (is_out gone n)) (taken_by out)))

-- the files of a session are all out
pub may_give_back : (flow : Flow) (k : Kept) (listing : Left) (next : ℕ) (out : List InFlight) (session : ℕ) (flight : InFlight) (connection : ℕ) (numbers : List ℕ) (queues : List QueueState)
    → AreInFlight flow k listing next out → find (has_session session) out ≡ Some flight → flight.choice.taking ≡ Files connection numbers → AreQueuesOf flow k (taken_by out) queues
    → length k.connections ≡ length flow.connections → IsConsistent k → MayGiveBack flow k (taken_by out) connection numbers queues
may_give_back flow k listing next out session flight connection numbers queues are is takes of_kept connections consistent =
    let has = find-contains (has_session session) out flight is in
    let may : MayBeTaken k (Files connection numbers) =
    subst (MayBeTaken k) takes (may_be_taken flow k flight.moment flight.choice (in_flight_at flow k listing next out flight are has).takes) in
    record {
      of_kept = of_kept;
      connections = connections;
      consistent = consistent;
      distinct = may.1;
      active = may.0;
      flights = subst (λ (taking : Taking). All (λ n. is_out (taken_by out) n ≡ true) (numbers_in taking)) takes (taken_out out flight has);
    }

-- ---- the others stay in flight

fewer : {X : Type 0} (p q : X → Bool) (xs : List X) → count_by q (filter p xs) ≤ count_by q xs
fewer p q [] = omega arith
fewer {X} p q (x ∷ xs) = by_test (p x) (fewer p q xs)
  where
    one : X → ℕ
    one y = cond (q y) 1 0

    by_test : (b : Bool) → count_by q (filter p xs) ≤ count_by q xs → count_by q (cond b (x ∷ filter p xs) (filter p xs)) ≤ count_by q (x ∷ xs)
    by_test true rest = omega (arith, sum_by-cons (λ y. cond (q y) 1 0) x (filter p xs), sum_by-cons (λ y. cond (q y) 1 0) x xs, rest)
    by_test false rest = omega (arith, sum_by-cons (λ y. cond (q y) 1 0) x xs, rest)

pub flights_without : (flow : Flow) (k : Kept) (listing : Left) (next : ℕ) (out : List InFlight) (session : ℕ) → AreInFlight flow k listing next out → AreInFlight flow k listing next (without_session session out)
flights_without flow k listing next out session are =
    let p : InFlight → Bool = λ (f : InFlight). not (has_session session f) in
    record {
      each = All-filter p (HoldsInFlight flow k listing next) out are.each;
      apart = AllPairs-filter AreTwoSessions p out are.apart;
      tasks = λ place processor there. omega (arith, fewer p (λ (f : InFlight). f.choice.processor == place) out, are.tasks place processor there);
    }

-- while their files live as they did
pub flights_stay : TakenStays → (flow : Flow) (k after : Kept) (listing : Left) (next : ℕ) (out : List InFlight) → AreInFlight flow k listing next out
    → All (λ number. active_of number after.files ≡ active_of number k.files) (taken_by out) → AreInFlight flow after listing next out
flights_stay law flow k after listing next out are same =
    let each_same = each_taken (λ n. active_of n after.files ≡ active_of n k.files) out same in
    record {
      each = λ i d within.
          let flight : InFlight = get_or out i d in
          let was : HoldsInFlight flow k listing next flight = are.each i d within in
          record { takes = law flow k after flight.moment flight.choice (each_same i d within) was.takes; holds = was.holds; earlier = was.earlier };
      apart = are.apart;
      tasks = are.tasks;
    }

-- ---- places of names

other_way : (one other : Option ℕ) → HaveOtherPlaces one other → HaveOtherPlaces other one
other_way None None apart = tt
other_way None (Some other) apart = tt
other_way (Some one) None apart = tt
other_way (Some one) (Some other) apart = λ e. apart (sym e)

-- elements of which some pass a test are apart from those that don't
module _ {X : Type 0} (R : X → X → Type 0) (other : (x y : X) → R x y → R y x) (p : X → Bool) where
  parted : (xs : List X) → AllPairs R xs → All (λ x. All (λ y. R y x) (filter p xs)) (filter (λ x. not (p x)) xs)
  parted [] apart = All-nil (λ x. All (λ y. R y x) [])
  parted (x ∷ xs) apart = by_test (p x) (parted xs (pairs_tail R x xs apart))
    where
      two : All (R x) xs
      two = pairs_head R x xs apart

      by_test : (b : Bool) → All (λ z. All (λ y. R y z) (filter p xs)) (filter (λ y. not (p y)) xs)
          → All (λ z. All (λ y. R y z) (cond b (x ∷ filter p xs) (filter p xs))) (cond (not b) (x ∷ filter (λ y. not (p y)) xs) (filter (λ y. not (p y)) xs))
      by_test true rest = λ i d within.
          let z = get_or (filter (λ y. not (p y)) xs) i d in
          All-cons (λ y. R y z) x (filter p xs) (All-filter (λ y. not (p y)) (R x) xs two i d within) (rest i d within)
      by_test false rest =
          All-cons (λ z. All (λ y. R y z) (filter p xs)) x (filter (λ y. not (p y)) xs)
          (All-weaker (R x) (λ y. R y x) (λ y. other x y) (filter p xs) (All-filter p (R x) xs two)) rest

abbrev HaveTwoPlaces : InFlight → InFlight → Type 0
HaveTwoPlaces one other = HaveOtherPlaces one.place other.place

places_apart : (out : List InFlight) → AllPairs AreTwoSessions out → AllPairs HaveTwoPlaces out
places_apart out apart = λ i j d before within. (apart i j d before within).places

-- those that are gone from those that stay
gone_apart : (session : ℕ) (out : List InFlight) → AllPairs AreTwoSessions out → All (λ (f : InFlight). All (λ (g : InFlight). HaveTwoPlaces g f) (filter (has_session session) out)) (without_session session out)
gone_apart session out apart = parted HaveTwoPlaces (λ one other. other_way one.place other.place) (has_session session) out (places_apart out apart)

found_kept : {X : Type 0} (p : X → Bool) (xs : List X) (x : X) → find p xs ≡ Some x → Contains (filter p xs) x
found_kept p [] x is = cc
found_kept {X} p (y ∷ xs) x is = by_test (p y) is (λ found. found_kept p xs x found)
  where
    by_test : (b : Bool) → cond b (Some y) (find p xs) ≡ Some x → (find p xs ≡ Some x → Contains (filter p xs) x) → Contains (cond b (y ∷ filter p xs) (filter p xs)) x
    by_test true is rest = let same : y ≡ x = cc is in (0, omega arith, same)
    by_test false is rest = rest is

-- the others from one
others_apart : (session : ℕ) (out : List InFlight) (flight : InFlight) → AllPairs AreTwoSessions out → find (has_session session) out ≡ Some flight
    → All (λ (f : InFlight). HaveOtherPlaces f.place flight.place) (without_session session out)
others_apart session out flight apart is =
    All-weaker (λ (f : InFlight). All (λ (g : InFlight). HaveTwoPlaces g f) (filter (has_session session) out)) (λ (f : InFlight). HaveOtherPlaces f.place flight.place)
    (λ f all. other_way flight.place f.place (All-contains (λ (g : InFlight). HaveTwoPlaces g f) (filter (has_session session) out) flight all (found_kept (has_session session) out flight is)))
    (without_session session out) (gone_apart session out apart)

-- ---- marks

set_there : (marks : List Bool) (place : ℕ) (was is : Bool) → slice_get marks place ≡ Some was → slice_get (slice_set marks place is) place ≡ Some is
set_there [] place was is there = cc
set_there (mark ∷ marks) zero was is there = refl
set_there (mark ∷ marks) (suc place) was is there = set_there marks place was is there

set_elsewhere : (marks : List Bool) (place other : ℕ) (is : Bool) → place ≢ other → slice_get (slice_set marks place is) other ≡ slice_get marks other
set_elsewhere [] place other is apart = refl
set_elsewhere (mark ∷ marks) zero zero is apart = absurd (apart refl)
set_elsewhere (mark ∷ marks) zero (suc other) is apart = refl
set_elsewhere (mark ∷ marks) (suc place) zero is apart = refl
set_elsewhere (mark ∷ marks) (suc place) (suc other) is apart = set_elsewhere marks place other is (λ e. apart (ap suc e))

set_stays : (marks : List Bool) (place other : ℕ) (is : Bool) → slice_get marks other ≡ Some is → slice_get (slice_set marks place is) other ≡ Some is
set_stays [] place other is there = there
set_stays (mark ∷ marks) zero zero is there = refl
set_stays (mark ∷ marks) zero (suc other) is there = there
set_stays (mark ∷ marks) (suc place) zero is there = there
set_stays (mark ∷ marks) (suc place) (suc other) is there = set_stays marks place other is there

set_twice : (marks : List Bool) (place : ℕ) (is other : Bool) → slice_get marks place ≡ Some is → slice_set (slice_set marks place other) place is ≡ marks
set_twice [] place is other there = refl
set_twice (mark ∷ marks) zero is other there = let same : is ≡ mark = cc in ap (λ (m : Bool). m ∷ marks) same
set_twice (mark ∷ marks) (suc place) is other there = ap (λ (ms : List Bool). mark ∷ ms) (set_twice marks place is other there)

-- ---- names that are held

-- where it has a place the name there is taken
named : (listing : Left) (taking : Taking) (place : Option ℕ) → HoldsName listing taking place → (n : ℕ) → place ≡ Some n → slice_get listing.taken n ≡ Some true
named listing (Files connection numbers) place holds n is = cc
named listing (Generate index) place holds n is = cc
named listing (Receive name) None holds n is = absurd holds
named listing (Receive name) (Some place) holds n is = let same : place ≡ n = cc in ap (slice_get listing.taken) (sym same) ∙ holds.1

-- the name stays taken where another one is given back, ..
held_beside_back : (listing : Left) (taking : Taking) (place other : Option ℕ) → HaveOtherPlaces other place → HoldsName listing taking place → HoldsName (with_name false other listing) taking place
held_beside_back listing taking place None apart holds = holds
held_beside_back listing (Files connection numbers) place (Some other) apart holds = holds
held_beside_back listing (Generate index) place (Some other) apart holds = holds
held_beside_back listing (Receive name) None (Some other) apart holds = holds
held_beside_back listing (Receive name) (Some place) (Some other) apart holds = (holds.0, set_elsewhere listing.taken other place false apart ∙ holds.1)

held_behind : (gone : List InFlight) (listing : Left) (taking : Taking) (place : Option ℕ) → All (λ (g : InFlight). HaveOtherPlaces g.place place) gone → HoldsName listing taking place
    → HoldsName (given_back gone listing) taking place
held_behind [] listing taking place apart holds = holds
held_behind (first ∷ gone) listing taking place apart holds =
    held_beside_back (given_back gone listing) taking place first.place (All-head (λ (g : InFlight). HaveOtherPlaces g.place place) first gone apart)
    (held_behind gone listing taking place (All-tail (λ (g : InFlight). HaveOtherPlaces g.place place) first gone apart) holds)

-- .. and where another one is taken
held_beside : (listing : Left) (taking : Taking) (place other : Option ℕ) → HoldsName listing taking place → HoldsName (with_name true other listing) taking place
held_beside listing taking place None holds = holds
held_beside listing (Files connection numbers) place (Some other) holds = holds
held_beside listing (Generate index) place (Some other) holds = holds
held_beside listing (Receive name) None (Some other) holds = holds
held_beside listing (Receive name) (Some place) (Some other) holds = (holds.0, set_stays listing.taken other place true holds.1)

-- once the name of one that is gone is given back
pub flights_given_back : (flow : Flow) (k : Kept) (listing : Left) (next : ℕ) (out : List InFlight) (session : ℕ) → AreInFlight flow k listing next out
    → AreInFlight flow k (given_back (filter (has_session session) out) listing) next (without_session session out)
flights_given_back flow k listing next out session are =
    let gone = filter (has_session session) out in
    let stay : AreInFlight flow k listing next (without_session session out) = flights_without flow k listing next out session are in
    let apart = gone_apart session out are.apart in
    record {
      each = λ i d within.
          let flight : InFlight = get_or (without_session session out) i d in
          let was : HoldsInFlight flow k listing next flight = stay.each i d within in
          record { takes = was.takes; holds = held_behind gone listing flight.choice.taking flight.place (apart i d within) was.holds; earlier = was.earlier };
      apart = stay.apart;
      tasks = stay.tasks;
    }

-- ---- one more

-- the processor of the session, by the listing's flow
processor_there : (flow : Flow) (k : Kept) (listing : Left) (moment : ℕ) (choice : Choice) → listing.flow ≡ flow → (still : TakesStill flow k moment choice)
    → slice_get listing.flow.processors choice.processor ≡ Some still.processor
processor_there flow k listing moment choice of_flow still = ap (λ (f : Flow). slice_get f.processors choice.processor) of_flow ∙ still.there

-- the listing is then the one without the name
pub place_taken : (flow : Flow) (k : Kept) (listing after : Left) (moment : ℕ) (choice : Choice) (place : Option ℕ) → listing.flow ≡ flow → TakesStill flow k moment choice
    → TakesPlace listing choice.processor choice.taking place after → after ≡ with_name true place listing
place_taken flow k listing after moment choice place of_flow still takes = by_taking choice.taking place takes
  where
    by_kind : (kind : Kind) (place : Option ℕ) → TakesFrom kind place listing after → after ≡ with_name true place listing
    by_kind kind None taken = taken.1
    by_kind kind (Some place) taken = taken.new_is

    by_taking : (taking : Taking) (place : Option ℕ) → TakesPlace listing choice.processor taking place after → after ≡ with_name true place listing
    by_taking (Files connection numbers) place takes = takes.1 ∙ ap (λ (p : Option ℕ). with_name true p listing) (sym takes.0)
    by_taking (Generate index) place takes = takes.1 ∙ ap (λ (p : Option ℕ). with_name true p listing) (sym takes.0)
    by_taking (Receive name) place takes = by_kind still.processor.kind place (takes still.processor (processor_there flow k listing moment choice of_flow still))

-- the name at the place was left
pub place_was_left : (flow : Flow) (k : Kept) (listing after : Left) (moment : ℕ) (choice : Choice) (place : Option ℕ) → listing.flow ≡ flow → TakesStill flow k moment choice
    → TakesPlace listing choice.processor choice.taking place after → (n : ℕ) → place ≡ Some n → slice_get listing.taken n ≡ Some false
place_was_left flow k listing after moment choice place of_flow still takes n is = by_taking choice.taking place takes is
  where
    by_kind : (kind : Kind) (place : Option ℕ) → TakesFrom kind place listing after → place ≡ Some n → slice_get listing.taken n ≡ Some false
    by_kind kind None taken is = cc
    by_kind kind (Some place) taken is = let same : place ≡ n = cc is in ap (slice_get listing.taken) (sym same) ∙ taken.was_left

    by_taking : (taking : Taking) (place : Option ℕ) → TakesPlace listing choice.processor taking place after → place ≡ Some n → slice_get listing.taken n ≡ Some false
    by_taking (Files connection numbers) place takes is = cc (takes.0, is)
    by_taking (Generate index) place takes is = cc (takes.0, is)
    by_taking (Receive name) place takes is = by_kind still.processor.kind place (takes still.processor (processor_there flow k listing moment choice of_flow still)) is

-- the session holds its name
holds_taken : (listing after : Left) (processor : ℕ) (p : Processor) (taking : Taking) (place : Option ℕ) → slice_get listing.flow.processors processor ≡ Some p
    → IsFirstName p.kind (names_left listing) taking → TakesPlace listing processor taking place after → HoldsName (with_name true place listing) taking place
holds_taken listing after processor p (Files connection numbers) place there first takes = takes.0
holds_taken listing after processor p (Generate index) place there first takes = takes.0
holds_taken listing after processor p (Receive name) place there first takes = by_place place (takes p there)
  where
    by_place : (place : Option ℕ) → TakesFrom p.kind place listing after → HoldsName (with_name true place listing) (Receive name) place
    by_place None taken = absurd (cc (taken.0, first))
    by_place (Some place) taken =
        let same : taken.name ≡ name = same_Some taken.name name (sym taken.first ∙ first) in
        (taken.there ∙ ap Some same, set_there listing.taken place false true taken.was_left)

other_places : (marks : List Bool) (one other : Option ℕ) → ((n : ℕ) → one ≡ Some n → slice_get marks n ≡ Some true) → ((n : ℕ) → other ≡ Some n → slice_get marks n ≡ Some false)
    → HaveOtherPlaces one other
other_places marks None None is_one is_other = tt
other_places marks None (Some other) is_one is_other = tt
other_places marks (Some one) None is_one is_other = tt
other_places marks (Some one) (Some other) is_one is_other = λ e.
    let differ : Some true ≡ Some false = sym (is_one one refl) ∙ ap (slice_get marks) e ∙ is_other other refl in cc

-- by places what is said of numbered elements is said of the number
at_place : {X : Type 0} (g : ℕ → ℕ) (xs : List X) (start i : ℕ) (x : X) → slice_get xs i ≡ Some x → slice_index (map (λ (p : ℕ × X). g p.0) (enumerate_from start xs)) i ≡ g (start + i)
at_place g [] start i x there = cc
at_place g (y ∷ xs) start zero x there = let same : start ≡ start + 0 = omega arith in ap g same
at_place g (y ∷ xs) start (suc i) x there =
    let same : (start + 1) + i ≡ start + suc i = omega arith in
    at_place g xs (start + 1) i x there ∙ ap g same

-- how many sessions of a processor are in flight
busy_at : (flow : Flow) (out : List InFlight) (place : ℕ) (processor : Processor) → slice_get flow.processors place ≡ Some processor → slice_index (busy_by flow out) place ≡ sessions_of out place
busy_at flow [] place processor there = refl
busy_at flow (first ∷ out) place processor there =
    at_place (sessions_of (first ∷ out)) flow.processors 0 place processor there ∙ (let same : 0 + place ≡ place = omega arith in ap (sessions_of (first ∷ out)) same)

one_more : (p : InFlight → Bool) (out : List InFlight) (flight : InFlight) → count_by p (out ++ flight ∷ []) ≡ count_by p out + cond (p flight) 1 0
one_more p out flight = sum_by_push (λ (f : InFlight). cond (p f) 1 0) out flight

-- at most so many of each processor are in flight where the one more had room
few_sessions : (flow : Flow) (out : List InFlight) (flight : InFlight)
    → ((p : Processor) → slice_get flow.processors flight.choice.processor ≡ Some p → slice_index (busy_by flow out) flight.choice.processor < p.tasks)
    → ((place : ℕ) (p : Processor) → slice_get flow.processors place ≡ Some p → sessions_of out place ≤ p.tasks)
    → (place : ℕ) (p : Processor) → slice_get flow.processors place ≡ Some p → sessions_of (out ++ flight ∷ []) place ≤ p.tasks
few_sessions flow out flight room few place p there =
    by_test (flight.choice.processor == place) refl
  where
    by_test : (b : Bool) → (flight.choice.processor == place) ≡ b → sessions_of (out ++ flight ∷ []) place ≤ p.tasks
    by_test true is =
        let same : flight.choice.processor ≡ place = eqb-true flight.choice.processor place is in
        let free : slice_index (busy_by flow out) flight.choice.processor < p.tasks = room p (ap (slice_get flow.processors) same ∙ there) in
        let busy : slice_index (busy_by flow out) flight.choice.processor ≡ sessions_of out place =
        ap (slice_index (busy_by flow out)) same ∙ busy_at flow out place p there in
        let more : sessions_of (out ++ flight ∷ []) place ≡ sessions_of out place + 1 =
        one_more (λ (f : InFlight). f.choice.processor == place) out flight ∙ ap (λ (b : Bool). sessions_of out place + cond b 1 0) is in
        omega arith
    by_test false is =
        let more : sessions_of (out ++ flight ∷ []) place ≡ sessions_of out place + 0 =
        one_more (λ (f : InFlight). f.choice.processor == place) out flight ∙ ap (λ (b : Bool). sessions_of out place + cond b 1 0) is in
        omega (arith, more, few place p there)

pub flights_with : (flow : Flow) (k : Kept) (listing after : Left) (next moment : ℕ) (queues : List QueueState) (counts : List ℕ) (choice : Choice) (place : Option ℕ) (out : List InFlight)
    → AreInFlight flow k listing next out → listing.flow ≡ flow → IsTakenBy flow k (taken_by out) (known_by queues counts (busy_by flow out) listing moment) choice
    → TakesPlace listing choice.processor choice.taking place after
    → AreInFlight flow k (with_name true place listing) (next + 1) (out ++ record { session = next; moment = moment; choice = choice; place = place } ∷ [])
flights_with flow k listing after next moment queues counts choice place out are of_flow taken takes = record {
  each = All-push (HoldsInFlight flow k (with_name true place listing) (next + 1)) out flight
      (All-weaker (HoldsInFlight flow k listing next) (HoldsInFlight flow k (with_name true place listing) (next + 1)) stays out are.each) flies;
  apart = all_pairs_push AreTwoSessions out flight are.apart (λ i d within. two (get_or out i d) (are.each i d within) (not_theirs i d within));
  tasks = few_sessions flow out flight taken.task are.tasks;
}
  where
    flight : InFlight
    flight = record { session = next; moment = moment; choice = choice; place = place }

    flies : HoldsInFlight flow k (with_name true place listing) (next + 1) flight
    flies =
        let there = processor_there flow k listing moment choice of_flow taken.takes in
        let first = taken.first taken.takes.processor taken.takes.there in
        record {
          takes = taken.takes;
          holds = holds_taken listing after choice.processor taken.takes.processor choice.taking place there first takes;
          earlier = omega arith;
        }

    stays : (f : InFlight) → HoldsInFlight flow k listing next f → HoldsInFlight flow k (with_name true place listing) (next + 1) f
    stays f was = record { takes = was.takes; holds = held_beside listing f.choice.taking f.place place was.holds; earlier = omega (arith, was.earlier) }

    not_theirs : All (λ (f : InFlight). All (λ n. is_out (numbers_in choice.taking) n ≡ false) (files_of_flight f)) out
    not_theirs = each_taken (λ n. is_out (numbers_in choice.taking) n ≡ false) out (apart_too (taken_by out) (numbers_in choice.taking) taken.at_rest)

    two : (f : InFlight) → HoldsInFlight flow k listing next f → All (λ n. is_out (numbers_in choice.taking) n ≡ false) (files_of_flight f) → AreTwoSessions f flight
    two f was rests = record {
      numbers = λ e. omega (arith, was.earlier, e);
      files = apart_too (numbers_in choice.taking) (files_of_flight f) rests;
      places = other_places listing.taken f.place place (named listing f.choice.taking f.place was.holds)
          (place_was_left flow k listing after moment choice place of_flow taken.takes takes);
    }

out_more : (numbers out : List ℕ) (n : ℕ) → is_out (numbers ++ out) n ≡ (is_out numbers n || is_out out n)
out_more [] out n = refl
out_more (m ∷ numbers) out n = ap (λ (b : Bool). (m == n) || b) (out_more numbers out n) ∙ or_assoc (m == n) (is_out numbers n) (is_out out n)
  where
    or_assoc : (a b c : Bool) → (a || (b || c)) ≡ ((a || b) || c)
    or_assoc true b c = refl
    or_assoc false b c = refl

-- the files that it takes are out beside the others
pub taken_with : (out : List InFlight) (flight : InFlight) (n : ℕ) → is_out (taken_by (out ++ flight ∷ [])) n ≡ is_out (files_of_flight flight ++ taken_by out) n
taken_with [] flight n = refl
taken_with (first ∷ out) flight n =
    out_more (files_of_flight first) (taken_by (out ++ flight ∷ [])) n ∙ ap (λ (b : Bool). is_out (files_of_flight first) n || b) (taken_with out flight n ∙ out_more (files_of_flight flight) (taken_by out) n)
    ∙ or_swap (is_out (files_of_flight first) n) (is_out (files_of_flight flight) n) (is_out (taken_by out) n)
    ∙ ap (λ (b : Bool). is_out (files_of_flight flight) n || b) (sym (out_more (files_of_flight first) (taken_by out) n))
    ∙ sym (out_more (files_of_flight flight) (files_of_flight first ++ taken_by out) n)
  where
    or_swap : (a b c : Bool) → (a || (b || c)) ≡ (b || (a || c))
    or_swap true true c = refl
    or_swap true false c = refl
    or_swap false b c = refl

-- queues are those beside other numbers of which the same are out
pub queues_alike : (flow : Flow) (k : Kept) (out other : List ℕ) (queues : List QueueState) → ((n : ℕ) → is_out out n ≡ is_out other n) → AreQueuesOf flow k out queues → AreQueuesOf flow k other queues
queues_alike flow k out other queues same are = record {
  count = are.count;
  each = λ place connection queue at got.
      let was = are.each place connection queue at got in
      record { order = was.order; limits = was.limits; files = was.files ∙ alike place; batches = was.batches };
}
  where
    held : (ℕ → Bool) → ActiveFile → Held
    held is_out a = record { file = a.file; in_flight = is_out a.file.number }

    alike : (place : ℕ) → held_of out k place ≡ held_of other k place
    alike place = ap (λ (is_out : ℕ → Bool). map (held is_out) (filter (λ (a : ActiveFile). a.connection == place) k.files)) (λ i n. same n i)

-- the queues beside the others and those files are the queues beside all
pub queues_with_flight : (flow : Flow) (k : Kept) (out : List InFlight) (flight : InFlight) (queues : List QueueState) → AreQueuesOf flow k (files_of_flight flight ++ taken_by out) queues
    → AreQueuesOf flow k (taken_by (out ++ flight ∷ [])) queues
queues_with_flight flow k out flight queues are =
    queues_alike flow k (files_of_flight flight ++ taken_by out) (taken_by (out ++ flight ∷ [])) queues (λ n. sym (taken_with out flight n)) are

-- ---- names

pub holds_names : (flow : Flow) (k : Kept) (listing : Left) (next : ℕ) (out : List InFlight) → AreInFlight flow k listing next out → HaveNames listing out
holds_names flow k listing next out are = record {
  taken = All-weaker (HoldsInFlight flow k listing next) (λ (f : InFlight). (place : ℕ) → f.place ≡ Some place → slice_get listing.taken place ≡ Some true)
      (λ f is. named listing f.choice.taking f.place is.holds) out are.each;
  apart = λ i j d before within. (are.apart i j d before within).places;
}

pub names_with : (out : List InFlight) (flight : InFlight) (listing : Left) → given_back (out ++ flight ∷ []) listing ≡ given_back out (with_name false flight.place listing)
names_with [] flight listing = refl
names_with (first ∷ out) flight listing = ap (with_name false first.place) (names_with out flight listing)

-- what is to come stays once a name is taken by a session that is in flight
pub names_taken : NamesGoBack → (flow : Flow) (k : Kept) (listing after : Left) (out : List InFlight) (flight : InFlight) → listing.flow ≡ flow → TakesStill flow k flight.moment flight.choice
    → TakesPlace listing flight.choice.processor flight.choice.taking flight.place after → given_back (out ++ flight ∷ []) (with_name true flight.place listing) ≡ given_back out listing
names_taken law flow k listing after out flight of_flow still takes =
    names_with out flight (with_name true flight.place listing)
    ∙ ap (given_back out) (by_place flight.place (place_was_left flow k listing after flight.moment flight.choice flight.place of_flow still takes))
  where
    by_place : (place : Option ℕ) → ((n : ℕ) → place ≡ Some n → slice_get listing.taken n ≡ Some false) → with_name false place (with_name true place listing) ≡ listing
    by_place None left = refl
    by_place (Some place) left = (law listing).as_before place (left place refl)

-- two names are given back in any order
either_first : NamesGoBack → (one other : Option ℕ) (listing : Left) → with_name false one (with_name false other listing) ≡ with_name false other (with_name false one listing)
either_first back None other listing = refl
either_first back (Some one) None listing = refl
either_first back (Some one) (Some other) listing = by_test (one == other) refl
  where
    by_test : (b : Bool) → (one == other) ≡ b → with_mark false one (with_mark false other listing) ≡ with_mark false other (with_mark false one listing)
    by_test true is = let same : one ≡ other = eqb-true one other is in subst (λ (o : ℕ). with_mark false one (with_mark false o listing) ≡ with_mark false o (with_mark false one listing)) same refl
    by_test false is = sym ((back listing).in_any_order one other false false (λ e. true≢false (sym (eq-eqb one other e) ∙ is)))

-- where one is gone, its name was given back last
back_last : NamesGoBack → (session : ℕ) (out : List InFlight) (flight : InFlight) (listing : Left) → AllPairs AreTwoSessions out → find (has_session session) out ≡ Some flight
    → given_back out listing ≡ with_name false flight.place (given_back (without_session session out) listing)
back_last back session [] flight listing apart is = cc
back_last back session (first ∷ out) flight listing apart is =
    by_test (has_session session first) refl is (λ found. back_last back session out flight listing (pairs_tail AreTwoSessions first out apart) found)
  where
    by_test : (b : Bool) → has_session session first ≡ b → cond b (Some first) (find (has_session session) out) ≡ Some flight
        → (find (has_session session) out ≡ Some flight → given_back out listing ≡ with_name false flight.place (given_back (without_session session out) listing))
        → with_name false first.place (given_back out listing) ≡ with_name false flight.place (given_back (cond (not b) (first ∷ without_session session out) (without_session session out)) listing)
    by_test true test found rest =
        let same : first ≡ flight = cc in
        ap (λ (f : InFlight). with_name false f.place (given_back out listing)) same
        ∙ ap (λ (others : List InFlight). with_name false flight.place (given_back others listing)) (sym (others_stay session first out test (pairs_head AreTwoSessions first out apart)))
    by_test false test found rest =
        ap (with_name false first.place) (rest found) ∙ either_first back first.place flight.place (given_back (without_session session out) listing)

-- the listing, but for what is taken of it, stays
pub given_back_flow : (out : List InFlight) (listing : Left) → (given_back out listing).flow ≡ listing.flow
given_back_flow [] listing = refl
given_back_flow (first ∷ out) listing = by_place first.place ∙ given_back_flow out listing
  where
    by_place : (place : Option ℕ) → (with_name false place (given_back out listing)).flow ≡ (given_back out listing).flow
    by_place None = refl
    by_place (Some place) = refl

pub given_back_listed : (out : List InFlight) (listing : Left) → (given_back out listing).listed ≡ listing.listed
given_back_listed [] listing = refl
given_back_listed (first ∷ out) listing = by_place first.place ∙ given_back_listed out listing
  where
    by_place : (place : Option ℕ) → (with_name false place (given_back out listing)).listed ≡ (given_back out listing).listed
    by_place None = refl
    by_place (Some place) = refl

pub given_back_too_large : (out : List InFlight) (listing : Left) → (given_back out listing).too_large ≡ listing.too_large
given_back_too_large [] listing = refl
given_back_too_large (first ∷ out) listing = by_place first.place ∙ given_back_too_large out listing
  where
    by_place : (place : Option ℕ) → (with_name false place (given_back out listing)).too_large ≡ (given_back out listing).too_large
    by_place None = refl
    by_place (Some place) = refl

-- the name of a session that was committed is gone from those that are to come
pub names_committed : NamesGoBack → NamesLeave → (flow : Flow) (k : Kept) (listing : Left) (next : ℕ) (out : List InFlight) (session : ℕ) (flight : InFlight) → AreDistinct listing.listed
    → AreInFlight flow k listing next out → find (has_session session) out ≡ Some flight
    → names_left (given_back (without_session session out) listing) ≡ names_without (received_in flight.choice.taking) (names_left (given_back out listing))
names_committed back leave flow k listing next out session flight distinct are is =
    by_taking flight.choice.taking flight.place (in_flight_at flow k listing next out flight are (find-contains (has_session session) out flight is)).holds
    (others_apart session out flight are.apart is) (back_last back session out flight listing are.apart is)
  where
    others : List InFlight
    others = without_session session out

    all : Left
    all = given_back out listing

    by_taking : (taking : Taking) (place : Option ℕ) → HoldsName listing taking place → All (λ (f : InFlight). HaveOtherPlaces f.place place) others
        → all ≡ with_name false place (given_back others listing) → names_left (given_back others listing) ≡ names_without (received_in taking) (names_left all)
    by_taking (Files connection numbers) place holds apart last = ap names_left (ap (λ (p : Option ℕ). with_name false p (given_back others listing)) (sym holds)) ∙ ap names_left (sym last)
    by_taking (Generate index) place holds apart last = ap names_left (ap (λ (p : Option ℕ). with_name false p (given_back others listing)) (sym holds)) ∙ ap names_left (sym last)
    by_taking (Receive name) None holds apart last = absurd holds
    by_taking (Receive name) (Some place) holds apart last =
        let beside : HoldsName (given_back others listing) (Receive name) (Some place) = held_behind others listing (Receive name) (Some place) apart holds in
        let there : slice_get all.listed place ≡ Some name = ap (λ (names : List (List ℕ)). slice_get names place) (given_back_listed out listing) ∙ holds.0 in
        let left : slice_get all.taken place ≡ Some false =
        ap (λ (l : Left). slice_get l.taken place) last ∙ set_there (given_back others listing).taken place true false beside.1 in
        let again : with_mark true place all ≡ given_back others listing =
        ap (with_mark true place) last ∙ (λ i. record (given_back others listing) { taken = set_twice (given_back others listing).taken place true false beside.1 i }) in
        ap names_left (sym again) ∙ leave all place name (subst AreDistinct (sym (given_back_listed out listing)) distinct) there left

-- a name that is given back first might be given back last
pub given_back_first : NamesGoBack → (out : List InFlight) (place : Option ℕ) (listing : Left) → given_back out (with_name false place listing) ≡ with_name false place (given_back out listing)
given_back_first back [] place listing = refl
given_back_first back (first ∷ out) place listing = ap (with_name false first.place) (given_back_first back out place listing) ∙ either_first back first.place place (given_back out listing)

-- that of a session that has ended is still to come
pub names_ended : NamesGoBack → (listing : Left) (out : List InFlight) (session : ℕ) → given_back (without_session session out) (given_back (filter (has_session session) out) listing) ≡ given_back out listing
names_ended back listing [] session = refl
names_ended back listing (first ∷ out) session = by_test (has_session session first) (names_ended back listing out session)
  where
    by_test : (b : Bool) → given_back (without_session session out) (given_back (filter (has_session session) out) listing) ≡ given_back out listing
        → given_back (cond (not b) (first ∷ without_session session out) (without_session session out)) (given_back (cond b (first ∷ filter (has_session session) out) (filter (has_session session) out)) listing)
        ≡ with_name false first.place (given_back out listing)
    by_test true rest = given_back_first back (without_session session out) first.place (given_back (filter (has_session session) out) listing) ∙ ap (with_name false first.place) rest
    by_test false rest = ap (with_name false first.place) rest

-- no other session has the number
pub session_alone : (session : ℕ) (out : List InFlight) (flight : InFlight) → AllPairs AreTwoSessions out → find (has_session session) out ≡ Some flight → filter (has_session session) out ≡ flight ∷ []
session_alone session [] flight apart is = cc
session_alone session (first ∷ out) flight apart is = by_test (has_session session first) refl is (λ found. session_alone session out flight (pairs_tail AreTwoSessions first out apart) found)
  where
    by_test : (b : Bool) → has_session session first ≡ b → cond b (Some first) (find (has_session session) out) ≡ Some flight
        → (find (has_session session) out ≡ Some flight → filter (has_session session) out ≡ flight ∷ []) → cond b (first ∷ filter (has_session session) out) (filter (has_session session) out) ≡ flight ∷ []
    by_test true test found rest =
        let same : first ≡ flight = cc in
        let none : filter (has_session session) out ≡ [] = all_go (has_session session) out
        (All-weaker (AreTwoSessions first) (λ (f : InFlight). has_session session f ≡ false)
        (λ f two. ne_eqb f.session session (λ e. two.numbers (eqb-true first.session session test ∙ sym e))) out (pairs_head AreTwoSessions first out apart)) in
        λ i. same i ∷ none i
    by_test false test found rest = rest found

-- its name, if it has one, is taken
abbrev pub IsNameTaken : Left → InFlight → Type 0
IsNameTaken listing flight = (place : ℕ) → flight.place ≡ Some place → slice_get listing.taken place ≡ Some true

-- once the first name is given back the others may be
pub have_rest : (listing : Left) (first : InFlight) (out : List InFlight) → HaveNames listing (first ∷ out) → HaveNames (with_name false first.place listing) out
have_rest listing first out have = record {
  taken = λ i d within place is.
      still_taken first.place place (taken i d within place is) (subst (HaveOtherPlaces first.place) is (two i d within));
  apart = pairs_tail HaveTwoPlaces first out have.apart;
}
  where
    taken : All (IsNameTaken listing) out
    taken = All-tail (IsNameTaken listing) first out have.taken

    two : All (HaveTwoPlaces first) out
    two = pairs_head HaveTwoPlaces first out have.apart

    still_taken : (gone : Option ℕ) (place : ℕ) → slice_get listing.taken place ≡ Some true → HaveOtherPlaces gone (Some place) → slice_get (with_name false gone listing).taken place ≡ Some true
    still_taken None place there apart = there
    still_taken (Some gone) place there apart = set_elsewhere listing.taken gone place false apart ∙ there
