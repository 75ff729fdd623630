-- What a change of the files leaves of what holds of a queue's fields.
use Rattle.std.proofs.Common.{◌≡◌, ◌≢◌, inl, inr, ℕ, ◌+◌, ◌-◌, ◌*◌, ◌^◌, ◌<◌, ◌≤◌, ◌==◌, not, nat_lt, Bool, true, false, cond, List, [], ◌∷◌, length, map, Some, None, Result, Ok, Err, refl, sym, ap, ◌∙◌, subst, arith}
use Rattle.std.specs.Prelude.{All, OnErr, sum_by}
use Rattle.std.specs.List.Sorted.{IsPermutation}
use Rattle.std.proofs.lemmas.Bool.{cases_Bool, eqb-true}
use Rattle.std.proofs.lemmas.List.{length-map}
use Rattle.std.proofs.lemmas.List.Elements.{All-nil, All-cons, All-head, All-tail, All-map, All-weaker, All-filter}
use Rattle.std.proofs.lemmas.List.Kept.{AllPairs-cons, AllPairs-filter}
use Rattle.std.proofs.lemmas.List.Sorted.{IsPermutation-refl, IsPermutation-trans, IsPermutation-cons, IsPermutation-middle, IsPermutation-map, All-permutation, sum_by-IsPermutation}
use Rattle.std.proofs.lemmas.List.Sums.{sum_by-cons, sum_by-le}
use Rattle.flowfile_record.specs.NumberedItems.{item_of, with_item, AscendsByNumber}
use Rattle.flowfile_record.specs.declared.flow_file.FlowFile.{FlowFile}
use Rattle.flowfile_record.proofs.ByNumber.{ascends-with, none_above}
use Rattle.machine_model.specs.Laws.{ArrivalsDiffer}
use Rattle.machine_model.specs.View.{FileView}
use Rattle.machine_model.proofs.Ordered.{pairs_head, pairs_tail, pairs_nil}
use Rattle.machine_model.proofs.OnlyOrder.{differ-permuted}
use Rattle.flow_queue.specs.declared.held.Held.{Held}
use Rattle.flow_queue.specs.Inside.{AreSound}
use Rattle.flow_queue.specs.Queue.{QueueState, held_number, held_bytes, held_view, views_of, IsApart, queue_with_file, without_file, with_flight}
use Rattle.flow_queue.proofs.InOrder.{Differ, filter-mapped}
use Rattle.flow_queue.proofs.Numbered.{ascends-filter, ascends-map}

abbrev Fits64 : Held → Type 0
Fits64 held = held_bytes held < 2 ^ 64

pub same_state : (one other : QueueState) → one.order ≡ other.order → one.limits ≡ other.limits → one.files ≡ other.files → one.spare ≡ other.spare → one.batches ≡ other.batches
    → one.batch_room ≡ other.batch_room → one ≡ other
same_state one other order limits files spare batches batch_room =
    λ i. record { order = order i; limits = limits i; files = files i; spare = spare i; batches = batches i; batch_room = batch_room i }

pub on-err : {X E : Type 0} (result : Result X E) (P : Type 0) → P → OnErr result P
on-err (Ok x) P h = tt
on-err (Err error) P h = h

pub sum_fits : (files : List Held) (bytes : ℕ) → AreSound files bytes → bytes ≤ length files * (2 ^ 64 - 1)
sum_fits files bytes are =
    let le = sum_by-le held_bytes (2 ^ 64 - 1) files (All-weaker Fits64 (λ held. held_bytes held ≤ 2 ^ 64 - 1) (λ held lt. omega arith) files are.sizes) in
    let is = are.sum in
    omega arith

-- ---- a file comes in

pub with-permutes : (new : Held) (files : List Held) → IsPermutation (new ∷ files) (with_item held_number new files)
with-permutes new [] = IsPermutation-refl (new ∷ [])
with-permutes new (held ∷ files) =
    elim (nat_lt (held_number held) (held_number new)) as (λ b. IsPermutation (new ∷ held ∷ files) (cond b (held ∷ with_item held_number new files) (new ∷ held ∷ files))) [
      | true ↦ IsPermutation-trans _ _ _ (IsPermutation-middle (new ∷ []) held files) (IsPermutation-cons held (new ∷ files) (with_item held_number new files) (with-permutes new files))
      | false ↦ IsPermutation-refl (new ∷ held ∷ files)
    ]

pub new-number : (file : FlowFile) (files : List Held) → IsApart file files → item_of held_number file.number files ≡ None
new-number file [] apart = refl
new-number file (held ∷ files) apart =
    let Apart = λ (other : Held). (other.file.number ≢ file.number) × (other.file.arrival ≢ file.arrival) in
    let here = All-head Apart held files apart in
    elim (cases_Bool (held_number held == file.number)) [
      | inl is ↦ absurd (here.0 (eqb-true (held_number held) file.number is))
      | inr other ↦ ap (λ b. cond b (Some held) (item_of held_number file.number files)) other ∙ new-number file files (All-tail Apart held files apart)
    ]

module _ (file : FlowFile) (files : List Held) (apart : IsApart file files) where
  abbrev new : Held
  new = record { file = file; in_flight = false }

  pub arrives_apart : All (Differ (held_view new)) (views_of files)
  arrives_apart = All-map (Differ (held_view new)) held_view files
      (All-weaker (λ (held : Held). (held.file.number ≢ file.number) × (held.file.arrival ≢ file.arrival)) (λ held. Differ (held_view new) (held_view held)) (λ held h e. h.1 (sym e)) files apart)

  pub differ-with : ArrivalsDiffer (views_of files) → ArrivalsDiffer (held_view new ∷ views_of files)
  differ-with differ = AllPairs-cons Differ (held_view new) (views_of files) arrives_apart differ

  pub sound-put : (bytes total : ℕ) → AreSound files bytes → total ≡ bytes + file.content.size → file.content.size < 2 ^ 64 → AreSound (queue_with_file file files) total
  sound-put bytes total are is lt = record {
    apart = record {
      numbers = ascends-with held_number new files (new-number file files apart) are.apart.numbers;
      arrivals = differ-permuted (held_view new ∷ views_of files) (views_of (queue_with_file file files)) (differ-with are.apart.arrivals)
          (IsPermutation-map held_view (new ∷ files) (queue_with_file file files) (with-permutes new files));
    };
    sizes = All-permutation Fits64 (new ∷ files) (queue_with_file file files) (with-permutes new files) (All-cons Fits64 new files lt are.sizes);
    sum =
        let sum = sum_by-IsPermutation held_bytes (new ∷ files) (queue_with_file file files) (with-permutes new files) in
        let first = sum_by-cons held_bytes new files in
        let was = are.sum in
        omega arith;
  }

-- ---- a file leaves

pub one_gone : (n : ℕ) (held : Held) (files : List Held) → AscendsByNumber held_number files → item_of held_number n files ≡ Some held → sum_by held_bytes files ≡ held_bytes held + sum_by held_bytes (without_file n files)
one_gone n held [] up is = cc
one_gone n held (first ∷ files) up is =
    elim (cases_Bool (held_number first == n)) [
      | inl it ↦
          let found : Some first ≡ Some held = rw it at is in
          let same : first ≡ held = cc in
          let above : All (λ later. n < held_number later) files = rw (eqb-true (held_number first) n it) at up.0 in
          sum_by-cons held_bytes first files ∙ (λ j. held_bytes (same j) + sum_by held_bytes files)
          ∙ ap (λ l. held_bytes held + sum_by held_bytes l) (sym (ap (λ b. cond (not b) (first ∷ without_file n files) (without_file n files)) it ∙ none_above held_number n files above))
      | inr other ↦
          let later : item_of held_number n files ≡ Some held = rw other at is in
          let rest = one_gone n held files up.1 later in
          let left = ap (λ b. sum_by held_bytes (cond (not b) (first ∷ without_file n files) (without_file n files))) other in
          let first_of = sum_by-cons held_bytes first files in
          let first_left = sum_by-cons held_bytes first (without_file n files) in
          omega arith
    ]

pub sound-leave : (n : ℕ) (held : Held) (files : List Held) (bytes total : ℕ) → item_of held_number n files ≡ Some held → AreSound files bytes → total ≡ bytes - held_bytes held → AreSound (without_file n files) total
sound-leave n held files bytes total there are is =
    let stays : FileView → Bool = λ view. not (view.number == n) in
    record {
      apart = record {
        numbers = ascends-filter held_number _ files are.apart.numbers;
        arrivals = subst ArrivalsDiffer (filter-mapped held_view stays files) (AllPairs-filter Differ stays (views_of files) are.apart.arrivals);
      };
      sizes = All-filter _ Fits64 files are.sizes;
      sum =
          let sum = one_gone n held files are.apart.numbers there in
          let was = are.sum in
          omega arith;
    }

pub size-within : (n : ℕ) (held : Held) (files : List Held) (bytes : ℕ) → item_of held_number n files ≡ Some held → AreSound files bytes → held_bytes held ≤ bytes
size-within n held files bytes there are =
    let sum = one_gone n held files are.apart.numbers there in
    let was = are.sum in
    omega arith

-- ---- a file is marked

abbrev pub marks : ℕ → Bool → Held → Held
marks number in_flight held = cond (held_number held == number) (record { file = held.file; in_flight = in_flight }) held

pub same_file : (number : ℕ) (in_flight : Bool) (held : Held) → (marks number in_flight held).file ≡ held.file
same_file number in_flight held =
    elim (held_number held == number) as (λ b. (cond b (record { file = held.file; in_flight = in_flight }) held).file ≡ held.file) [ true ↦ refl | false ↦ refl ]

differ-marked : (number : ℕ) (in_flight : Bool) (files : List Held) → ArrivalsDiffer (views_of files) → ArrivalsDiffer (views_of (map (marks number in_flight) files))
differ-marked number in_flight [] differ = pairs_nil Differ
differ-marked number in_flight (held ∷ files) differ =
    AllPairs-cons Differ (held_view (marks number in_flight held)) (views_of (map (marks number in_flight) files))
    (behind files (pairs_head Differ (held_view held) (views_of files) differ))
    (differ-marked number in_flight files (pairs_tail Differ (held_view held) (views_of files) differ))
  where
    behind : (others : List Held) → All (Differ (held_view held)) (views_of others) → All (Differ (held_view (marks number in_flight held))) (views_of (map (marks number in_flight) others))
    behind [] h = All-nil (Differ (held_view (marks number in_flight held)))
    behind (other ∷ others) h =
        All-cons (Differ (held_view (marks number in_flight held))) (held_view (marks number in_flight other)) (views_of (map (marks number in_flight) others))
        (λ e. All-head (Differ (held_view held)) (held_view other) (views_of others) h (sym (ap (λ (f : FlowFile). f.arrival) (same_file number in_flight held)) ∙ e ∙ ap (λ (f : FlowFile). f.arrival) (same_file number in_flight other)))
        (behind others (All-tail (Differ (held_view held)) (held_view other) (views_of others) h))

pub sum-marked : (size : FlowFile → ℕ) (number : ℕ) (in_flight : Bool) (files : List Held) → sum_by (λ held. size held.file) (map (marks number in_flight) files) ≡ sum_by (λ held. size held.file) files
sum-marked size number in_flight [] = refl
sum-marked size number in_flight (held ∷ files) =
    let size_of : Held → ℕ = λ h. size h.file in
    let one = sum_by-cons size_of (marks number in_flight held) (map (marks number in_flight) files) in
    let other = sum_by-cons size_of held files in
    let same = ap size (same_file number in_flight held) in
    let rest = sum-marked size number in_flight files in
    omega arith

pub sound-mark : (number : ℕ) (in_flight : Bool) (files : List Held) (bytes : ℕ) → AreSound files bytes → AreSound (with_flight number in_flight files) bytes
sound-mark number in_flight files bytes are = record {
  apart = record {
    numbers = ascends-map held_number held_number (marks number in_flight) (λ held. ap (λ (f : FlowFile). f.number) (same_file number in_flight held)) files are.apart.numbers;
    arrivals = differ-marked number in_flight files are.apart.arrivals;
  };
  sizes = All-map Fits64 (marks number in_flight) files
      (All-weaker Fits64 (λ held. Fits64 (marks number in_flight held)) (λ held lt. subst (λ (f : FlowFile). f.content.size < 2 ^ 64) (sym (same_file number in_flight held)) lt) files are.sizes);
  sum = are.sum ∙ sym (sum-marked (λ (file : FlowFile). file.content.size) number in_flight files);
}

pub length-mark : (number : ℕ) (in_flight : Bool) (files : List Held) → length (with_flight number in_flight files) ≡ length files
length-mark number in_flight files = length-map files (marks number in_flight)
