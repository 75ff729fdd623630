-- Which files a session has taken: distinct ones of its queue, as many as its rule admits.
use Rattle.std.proofs.Common.{◌≡◌, ◌≢◌, inl, inr, ℕ, zero, suc, ◌+◌, ◌≤◌, Bool, true, false, cond, List, [], ◌∷◌, length, map, refl, ap, subst, arith}
use Rattle.std.specs.Prelude.{◌==◌, ◌&&◌, not, All, Contains, Option, Some, None, IfSome, is_some, find, unwrap_or, slice_get, option_and_then}
use Rattle.std.specs.List.{flat_map, cons_option, list_all, AllPairs}
use Rattle.std.proofs.lemmas.Bool.{and_parts, eqb-true, leb-true, cases_eq, ne_eqb, true≢false, not-true}
use Rattle.std.proofs.lemmas.List.{length-map}
use Rattle.std.proofs.lemmas.List.Elements.{All-nil, All-cons, Contains-append_left, Contains-append_right}
use Rattle.prioritizer.specs.declared.prioritizer.Prioritizer.{Prioritizer}
use Rattle.machine_model.specs.declared.flow.Connection.{Connection}
use Rattle.machine_model.specs.declared.flow.Flow.{Flow}
use Rattle.machine_model.specs.declared.kind.TakeRule.{TakeRule}
use Rattle.machine_model.specs.declared.kind.TakeRule.TheVariants.{Source, One, Bin, Defragment}
use Rattle.machine_model.specs.State.{QueuedFile, State}
use Rattle.machine_model.specs.Files.{queue_at, are_distinct, is_number_among, view_of}
use Rattle.machine_model.specs.View.{FileView}
use Rattle.machine_model.specs.Laws.{MayTake}
use Rattle.machine_model.specs.Valid.{files_of_all}
use Rattle.machine_model.specs.Stepping.{source_of, may_be_taken, admits, is_in_turn, files_of, taken_from, taken_files}
use Rattle.machine_model.proofs.Keyed.{differ_from_once}
use Rattle.machine_model.proofs.Options.{if_and_then, if_when}
use Rattle.machine_model.proofs.Ordered.{pairs_nil, contains_later}
use Rattle.machine_model.proofs.Tally.{bit, many, at_most, find-passes}

-- ---- numbers that stand once

absent : (m : ℕ) (numbers : List ℕ) → is_number_among numbers m ≡ false → many (λ (n : ℕ). n) m numbers ≡ 0
absent m [] h = refl
absent m (n ∷ numbers) h =
    elim (n == m) as (λ b. is_some (cond b (Some n) (find (λ k. k == m) numbers)) ≡ false → bit b + many (λ (k : ℕ). k) m numbers ≡ 0) [
      | true ↦ λ h. absurd (true≢false h)
      | false ↦ λ h. omega (arith, absent m numbers h)
    ] h

distinct-once : (numbers : List ℕ) → are_distinct numbers ≡ true → (n : ℕ) → many (λ (m : ℕ). m) n numbers ≤ 1
distinct-once [] h n = omega arith
distinct-once (m ∷ numbers) h n =
    let parts = and_parts (not (is_number_among numbers m)) (are_distinct numbers) h in
    let others : many (λ (k : ℕ). k) m numbers ≡ 0 = absent m numbers (not-true (is_number_among numbers m) parts.0) in
    elim (cases_eq m n) [
      | inl e ↦ omega (arith, at_most (m == n) 1, rw e at others)
      | inr ne ↦ let no : (m == n) ≡ false = ne_eqb m n ne in rw no (omega (arith, distinct-once numbers parts.1 n))
    ]

-- ---- the files of some numbers

abbrev number_of : QueuedFile → ℕ
number_of file = file.number

abbrev has_number : ℕ → QueuedFile → Bool
has_number number file = file.number == number

first_of : (queue : List QueuedFile) (number n : ℕ) (found : Option QueuedFile) (rest : List QueuedFile) → find (has_number number) queue ≡ found
    → many number_of n (cons_option found rest) ≤ bit (number == n) + many number_of n rest
first_of queue number n None rest is = omega arith
first_of queue number n (Some file) rest is =
    let same : file.number ≡ number = eqb-true file.number number (find-passes (has_number number) queue file is) in
    omega (arith, ap (λ m. bit (m == n)) same)

files-once : (queue : List QueuedFile) (numbers : List ℕ) (n : ℕ) → many number_of n (files_of queue numbers) ≤ many (λ (m : ℕ). m) n numbers
files-once queue [] n = omega arith
files-once queue (number ∷ numbers) n = omega (arith, first_of queue number n (find (has_number number) queue) (files_of queue numbers) refl, files-once queue numbers n)

pub find-contains : {X : Type 0} (p : X → Bool) (xs : List X) (x : X) → find p xs ≡ Some x → Contains xs x
find-contains p [] x is = cc
find-contains p (y ∷ xs) x is =
    elim (p y) as (λ b. cond b (Some y) (find p xs) ≡ Some x → Contains (y ∷ xs) x) [
      | true ↦ λ found. let same : y ≡ x = cc found in (0, omega arith, same)
      | false ↦ λ found. contains_later x y xs (find-contains p xs x found)
    ] is

first_there : (P : QueuedFile → Type 0) (queue : List QueuedFile) (number : ℕ) (found : Option QueuedFile) (rest : List QueuedFile) → find (has_number number) queue ≡ found
    → ((file : QueuedFile) → Contains queue file → P file) → All P rest → All P (cons_option found rest)
first_there P queue number None rest is each all = all
first_there P queue number (Some file) rest is each all = All-cons P file rest (each file (find-contains (has_number number) queue file is)) all

files-there : (P : QueuedFile → Type 0) (queue : List QueuedFile) (numbers : List ℕ) → ((file : QueuedFile) → Contains queue file → P file) → All P (files_of queue numbers)
files-there P queue [] each = All-nil P
files-there P queue (number ∷ numbers) each = first_there P queue number (find (has_number number) queue) (files_of queue numbers) refl each (files-there P queue numbers each)

in_some_queue : (queues : List (List QueuedFile)) (place : ℕ) (file : QueuedFile) → Contains (unwrap_or (slice_get queues place) []) file → Contains (flat_map (λ queue. queue) queues) file
in_some_queue [] place file h = h
in_some_queue (queue ∷ queues) zero file h = Contains-append_left queue (flat_map (λ queue. queue) queues) file h
in_some_queue (queue ∷ queues) (suc place) file h = Contains-append_right queue (flat_map (λ queue. queue) queues) file (in_some_queue queues place file h)

may_take : (rule : TakeRule) (order : List Prioritizer) (files : List FileView) → admits rule order files ≡ true → MayTake rule (length files)
may_take Source order files h = eqb-true (length files) 0 h
may_take One order files h = eqb-true (length files) 1 h
may_take (Bin min max) order files h =
    let outer = and_parts _ (is_in_turn order files) h in
    let parts = and_parts _ _ outer.0 in
    (leb-true 1 (length files) parts.0, leb-true (length files) max parts.1)
may_take Defragment order files h = let parts = and_parts _ _ h in (leb-true 1 (length files) parts.0, leb-true (length files) 1000 parts.1)

-- ---- what a session takes

pub record Took (state : State) (rule : TakeRule) (taken : List QueuedFile) : Type 0 where
  pub differ : AllPairs (λ (one other : QueuedFile). one.number ≢ other.number) taken
  pub there : All (Contains (files_of_all state)) taken
  pub many_enough : MayTake rule (length taken)

took-from : (state : State) (rule : TakeRule) (numbers : List ℕ) (moment place : ℕ) (connection : Connection) → IfSome (taken_from state rule numbers moment (place, connection)) (Took state rule)
took-from state rule numbers moment place connection =
    let queue = queue_at state place in
    let files = files_of queue numbers in
    let views = map view_of files in
    if_when (are_distinct numbers && list_all (may_be_taken connection moment) views && admits rule connection.order views) files (Took state rule) (λ passes.
    let outer = and_parts _ (admits rule connection.order views) passes in
    let distinct = (and_parts (are_distinct numbers) _ outer.0).0 in
    record {
      differ = differ_from_once number_of files (λ n. omega (arith, files-once queue numbers n, distinct-once numbers distinct n));
      there = files-there (Contains (files_of_all state)) queue numbers (λ file in_queue. in_some_queue state.queues place file in_queue);
      many_enough = subst (MayTake rule) (length-map files view_of) (may_take rule connection.order views outer.1);
    })

took-by : (flow : Flow) (state : State) (processor : ℕ) (rule : TakeRule) (numbers : List ℕ) (moment : ℕ)
    → IfSome (option_and_then (taken_from state rule numbers moment) (source_of flow state processor numbers)) (Took state rule)
took-by flow state processor rule numbers moment =
    if_and_then (taken_from state rule numbers moment) (source_of flow state processor numbers) (Took state rule) (λ source is.
    took-from state rule numbers moment source.0 source.1)

pub taken-took : (flow : Flow) (state : State) (processor : ℕ) (rule : TakeRule) (numbers : List ℕ) (moment : ℕ) → IfSome (taken_files flow state processor rule numbers moment) (Took state rule)
taken-took flow state processor Source [] moment = record {
  differ = pairs_nil (λ (one other : QueuedFile). one.number ≢ other.number);
  there = All-nil (Contains (files_of_all state));
  many_enough = refl;
}
taken-took flow state processor Source (number ∷ numbers) moment = tt
taken-took flow state processor One numbers moment = took-by flow state processor One numbers moment
taken-took flow state processor (Bin min max) numbers moment = took-by flow state processor (Bin min max) numbers moment
taken-took flow state processor Defragment numbers moment = took-by flow state processor Defragment numbers moment
