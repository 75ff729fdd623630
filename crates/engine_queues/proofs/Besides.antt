-- Queues beside sessions in flight: how they are seen by arrival, where none is out, and what of them expires.
use Rattle.std.proofs.Common.{◌≡◌, ◌≢◌, ℕ, ◌+◌, ◌==◌, ◌||◌, not, nat_lt, Bool, true, false, cond, List, [], ◌∷◌, map, refl, sym, ap, subst, ◌∙◌}
use Rattle.std.specs.Prelude.{nat_le, All, Option, None, Some, filter, fold, length, option_map, slice_get}
use Rattle.std.specs.List.{cons_option, enumerate_from, filter_map}
use Rattle.std.proofs.lemmas.List.Elements.{All-nil, All-cons, All-head, All-tail, All-map}
use Rattle.std.proofs.lemmas.List.Kept.{AllPairs-cons}
use Rattle.machine_model.specs.declared.flow.Connection.{Connection}
use Rattle.machine_model.specs.Due.{at_place, expired_numbers, numbers_of, some_numbers}
use Rattle.machine_model.specs.Events.{ascending, put_ascending}
use Rattle.machine_model.specs.Laws.{ArrivalsDiffer}
use Rattle.machine_model.specs.View.{FileView, QueueView, at_rest, is_expired}
use Rattle.machine_model.proofs.Ordered.{pairs_head, pairs_nil, pairs_tail}
use Rattle.store_core.proofs.ByKey.{put}
use Rattle.engine_queues.specs.Beside.{beside, file_beside, is_out, queue_beside}
use Rattle.engine_queues.specs.Laws.{ExpiredAreAtRest, NoneIsOut}
use Rattle.engine_queues.proofs.Alike.{arrival_of, by_arrival}

-- ---- none is out

or-false : (b : Bool) → (b || false) ≡ b
or-false true = refl
or-false false = refl

views-alone : (files : List FileView) → map (file_beside []) files ≡ files
views-alone [] = refl
views-alone (file ∷ files) = λ i. (let first : FileView = record file { in_flight = or-false file.in_flight i } in first) ∷ views-alone files i

pub none-is-out : NoneIsOut
none-is-out queues = λ i place. record (queues place) { active = views-alone (queues place).active i }

-- ---- by arrival

put-beside : (out : List ℕ) (file : FileView) (files : List FileView) → map (file_beside out) (put arrival_of files file) ≡ put arrival_of (map (file_beside out) files) (file_beside out file)
put-beside out file [] = refl
put-beside out file (first ∷ files) =
    let rest = put-beside out file files in
    elim (nat_lt first.arrival file.arrival) as (λ b. map (file_beside out) (cond b (first ∷ put arrival_of files file) (file ∷ first ∷ files))
    ≡ cond b (file_beside out first ∷ put arrival_of (map (file_beside out) files) (file_beside out file)) (file_beside out file ∷ file_beside out first ∷ map (file_beside out) files)) [
      | true ↦ ap (λ (views : List FileView). file_beside out first ∷ views) rest
      | false ↦ refl
    ]

fold-beside : (out : List ℕ) (files zs : List FileView) → map (file_beside out) (fold (put arrival_of) zs files) ≡ fold (put arrival_of) (map (file_beside out) zs) (map (file_beside out) files)
fold-beside out [] zs = refl
fold-beside out (file ∷ files) zs =
    fold-beside out files (put arrival_of zs file)
    ∙ ap (λ (views : List FileView). fold (put arrival_of) views (map (file_beside out) files)) (put-beside out file zs)

pub arrival-beside : (out : List ℕ) (queue : QueueView) → queue_beside out (by_arrival queue) ≡ by_arrival (queue_beside out queue)
arrival-beside out queue = λ i. record { active = fold-beside out queue.active [] i; batches = queue.batches }

abbrev Differ : FileView → FileView → Type 0
Differ one other = one.arrival ≢ other.arrival

pub differ-beside : (out : List ℕ) (files : List FileView) → ArrivalsDiffer files → ArrivalsDiffer (map (file_beside out) files)
differ-beside out [] differ = pairs_nil Differ
differ-beside out (file ∷ files) differ =
    AllPairs-cons Differ (file_beside out file) (map (file_beside out) files)
    (All-map (λ (other : FileView). file.arrival ≢ other.arrival) (file_beside out) files (pairs_head Differ file files differ))
    (differ-beside out files (pairs_tail Differ file files differ))

-- ---- what expires

abbrev at_rest_in : (out : List ℕ) → List FileView → List FileView
at_rest_in out files = at_rest (map (file_beside out) files)

-- the number of a file at rest beside the others is not out
none-among : (out : List ℕ) (p : FileView → Bool) (files : List FileView) → All (λ n. is_out out n ≡ false) (map (λ file. file.number) (filter p (at_rest (map (file_beside out) files))))
none-among out p [] = All-nil (λ n. is_out out n ≡ false)
none-among out p (file ∷ files) = by_flight (file.in_flight || is_out out file.number) refl (none-among out p files)
  where
    alone : (a b : Bool) → (a || b) ≡ false → b ≡ false
    alone true b is = cc
    alone false b is = is

    by_test : (b : Bool) → is_out out file.number ≡ false → All (λ n. is_out out n ≡ false) (map (λ (f : FileView). f.number) (filter p (at_rest_in out files)))
        → All (λ n. is_out out n ≡ false) (map (λ (f : FileView). f.number) (cond b (file_beside out file ∷ filter p (at_rest_in out files)) (filter p (at_rest_in out files))))
    by_test true here rest = All-cons (λ n. is_out out n ≡ false) file.number (map (λ (f : FileView). f.number) (filter p (at_rest_in out files))) here rest
    by_test false here rest = rest

    by_flight : (b : Bool) → (file.in_flight || is_out out file.number) ≡ b → All (λ n. is_out out n ≡ false) (map (λ (f : FileView). f.number) (filter p (at_rest_in out files)))
        → All (λ n. is_out out n ≡ false) (map (λ (f : FileView). f.number) (filter p (cond (not b) (file_beside out file ∷ at_rest_in out files) (at_rest_in out files))))
    by_flight true is rest = rest
    by_flight false is rest = by_test (p (file_beside out file)) (alone file.in_flight (is_out out file.number) is) rest

module _ (P : ℕ → Type 0) where
  all-put : (n : ℕ) (numbers : List ℕ) → P n → All P numbers → All P (put_ascending n numbers)
  all-put n [] here all = All-cons P n [] here all
  all-put n (m ∷ numbers) here all = either (nat_le n m) (all-put n numbers here (All-tail P m numbers all))
    where
      either : (b : Bool) → All P (put_ascending n numbers) → All P (cond b (n ∷ m ∷ numbers) (m ∷ put_ascending n numbers))
      either true rest = All-cons P n (m ∷ numbers) here all
      either false rest = All-cons P m (put_ascending n numbers) (All-head P m numbers all) rest

  all-ascending : (numbers : List ℕ) → All P numbers → All P (ascending numbers)
  all-ascending [] all = all
  all-ascending (n ∷ numbers) all = all-put n (ascending numbers) (All-head P n numbers all) (all-ascending numbers (All-tail P n numbers all))

-- the connection that owes something first
owed-by : {X : Type 0} (owes : Connection → QueueView → Option X) (views : ℕ → QueueView) (from : ℕ) (connections : List Connection) (place : ℕ) (x : X)
    → slice_get (filter_map (at_place owes views) (enumerate_from from connections)) 0 ≡ Some (place, x) → (connection : Connection) × (owes connection (views place) ≡ Some x)
owed-by owes views from [] place x is = absurd cc
owed-by {X} owes views from (connection ∷ connections) place x is =
    by_owed (owes connection (views from)) refl is (λ later. owed-by owes views (from + 1) connections place x later)
  where
    rest : List (ℕ × X)
    rest = filter_map (at_place owes views) (enumerate_from (from + 1) connections)

    by_owed : (o : Option X) → owes connection (views from) ≡ o → slice_get (cons_option (option_map (λ y. (from, y)) o) rest) 0 ≡ Some (place, x)
        → (slice_get rest 0 ≡ Some (place, x) → (c : Connection) × (owes c (views place) ≡ Some x)) → (c : Connection) × (owes c (views place) ≡ Some x)
    by_owed None e is later = later is
    by_owed (Some y) e is later =
        let one : ℕ × X = (from, y) in
        let other : ℕ × X = (place, x) in
        let pairs : one ≡ other = cc in
        (connection, ap (λ (p : ℕ × X). owes connection (views p.0)) (sym pairs) ∙ e ∙ ap (λ (p : ℕ × X). Some p.1) pairs)

some-are : (numbers found : List ℕ) → some_numbers numbers ≡ Some found → numbers ≡ found
some-are numbers found is = by_length (length numbers == 0) is
  where
    by_length : (b : Bool) → cond b None (Some numbers) ≡ Some found → numbers ≡ found
    by_length true is = absurd cc
    by_length false is = cc

pub expired-are-at-rest : ExpiredAreAtRest
expired-are-at-rest flow out queues moment place numbers is =
    let owed = owed-by (λ connection queue. some_numbers (expired_numbers connection.limits moment queue.active)) (beside out queues) 0 flow.connections place numbers is in
    let limits = owed.0.limits in
    let files = (queues place).active in
    let test : FileView → Bool = is_expired limits.expiration moment in
    let here : All (λ n. is_out out n ≡ false) (ascending (numbers_of (filter test (at_rest (map (file_beside out) files))))) =
    all-ascending (λ n. is_out out n ≡ false) (numbers_of (filter test (at_rest (map (file_beside out) files)))) (none-among out test files) in
    subst (λ (ns : List ℕ). All (λ n. is_out out n ≡ false) ns) (some-are (expired_numbers limits moment (map (file_beside out) files)) numbers owed.1) here
