-- Files of some numbers, and the numbers of files that stay or rest, in the order of the queue.
use Rattle.std.proofs.Common.{◌≡◌, ◌≢◌, inl, inr, ℕ, ◌+◌, ◌^◌, ◌<◌, ◌==◌, ◌&&◌, not, Bool, true, false, cond, List, [], ◌∷◌, drop, get_or, length, map, Option, Some, None, is_some, refl, sym, ap, ◌∙◌, subst, arith}
use Rattle.std.specs.Prelude.{All, IsSome, filter, find, sum_by}
use Rattle.std.specs.Option.{option_map, option_map_or}
use Rattle.std.proofs.lemmas.Bool.{true≢false, cases_Bool, cases_eq, eq-eqb, ne_eqb}
use Rattle.std.proofs.lemmas.List.{drop_more}
use Rattle.std.proofs.lemmas.List.Elements.{All-nil, All-cons, All-head, All-tail, All-weaker, All-filter}
use Rattle.std.proofs.lemmas.List.Filters.{sum_by-filter_both}
use Rattle.std.proofs.lemmas.List.Kept.{AllPairs-filter}
use Rattle.flowfile_record.specs.NumberedItems.{item_of, AscendsByNumber}
use Rattle.flowfile_record.proofs.ByNumber.{eqb_comm, item_of-without_other}
use Rattle.prioritizer.specs.declared.prioritizer.Prioritizer.{Prioritizer}
use Rattle.machine_model.specs.Due.{numbers_of}
use Rattle.machine_model.specs.Files.{are_distinct, is_number_among}
use Rattle.machine_model.specs.Laws.{ArrivalsDiffer}
use Rattle.machine_model.specs.Order.{in_order}
use Rattle.machine_model.specs.View.{FileView, at_rest}
use Rattle.flow_queue.specs.declared.held.Held.{Held}
use Rattle.flow_queue.specs.declared.queue.ranked.Note.{Note}
use Rattle.flow_queue.specs.Inside.{AreSound}
use Rattle.flow_queue.specs.Leaving.{files_going, files_staying, goes_out, is_held, queue_left_by, MayLeaveTogether}
use Rattle.flow_queue.specs.Queue.{QueueState, AreApart, held_number, held_bytes, held_view, views_of, flight_of, without_file}
use Rattle.flow_queue.specs.Ranked.{IsRanked, noted_as, numbers_noted}
use Rattle.flow_queue.specs.Swapping.{is_resting, resting_among}
use Rattle.flow_queue.proofs.Fields.{same_state}
use Rattle.flow_queue.proofs.InOrder.{Differ, filter-mapped, in_order-filter}
use Rattle.flow_queue.proofs.Numbered.{ascends-filter}
use Rattle.flow_queue.proofs.Ranks.{Found, all-found, ranked-numbers}

-- ---- the files that stay when some go

pub staying-cons : (n : ℕ) (ns : List ℕ) (files : List Held) → files_staying (n ∷ ns) files ≡ files_staying ns (without_file n files)
staying-cons n ns [] = refl
staying-cons n ns (held ∷ files) =
    let rest = staying-cons n ns files in
    elim (cases_Bool (n == held_number held)) [
      | inl t ↦
          let other : (held_number held == n) ≡ true = eqb_comm (held_number held) n ∙ t in
          rw (t, other) rest
      | inr f ↦
          let other : (held_number held == n) ≡ false = eqb_comm (held_number held) n ∙ f in
          rw (f, other) (elim (cases_Bool (is_number_among ns (held_number held))) [ inl s ↦ rw s rest | inr o ↦ rw o (ap (λ (l : List Held). held ∷ l) rest) ])
    ]

pub staying-none : (files : List Held) → files_staying [] files ≡ files
staying-none [] = refl
staying-none (held ∷ files) = ap (λ (l : List Held). held ∷ l) (staying-none files)

pub bytes-parted : (numbers : List ℕ) (files : List Held) → sum_by held_bytes (files_going numbers files) + sum_by held_bytes (files_staying numbers files) ≡ sum_by held_bytes files
bytes-parted numbers files = sum_by-filter_both (goes_out numbers) (λ held. not (goes_out numbers held)) (λ held. refl) held_bytes files

-- ---- what is kept by a test of the number

abbrev there_of : ℕ → List Held → Bool
there_of n files = is_some (item_of held_number n files)

module _ (q : ℕ → Bool) where
  abbrev keeps : Held → Bool
  keeps held = q (held_number held)

  none_held : (b : Bool) → false ≡ (b && false)
  none_held true = refl
  none_held false = refl

  held-kept : (n : ℕ) (files : List Held) → there_of n (filter keeps files) ≡ (q n && there_of n files)
  held-kept n [] = none_held (q n)
  held-kept n (held ∷ files) =
      let rest = held-kept n files in
      elim (cases_eq (held_number held) n) [
        | inl is ↦
            let here : (held_number held == n) ≡ true = eq-eqb (held_number held) n is in
            elim (cases_Bool (q n)) [
              | inl t ↦ let kept : q (held_number held) ≡ true = ap q is ∙ t in rw (kept, here, t) refl
              | inr f ↦
                  let kept : q (held_number held) ≡ false = ap q is ∙ f in
                  rw (kept, here, f) (rest ∙ ap (λ b. b && there_of n files) f)
            ]
        | inr ne ↦
            let away : (held_number held == n) ≡ false = ne_eqb (held_number held) n ne in
            elim (cases_Bool (q (held_number held))) [
              | inl t ↦ rw (t, away) rest
              | inr f ↦ rw (f, away) rest
            ]
      ]

  pub sound-kept : (files : List Held) (bytes total : ℕ) → AreSound files bytes → total ≡ sum_by held_bytes (filter keeps files) → AreSound (filter keeps files) total
  sound-kept files bytes total are is =
      let stays : FileView → Bool = λ view. q view.number in
      record {
        apart = record {
          numbers = ascends-filter held_number keeps files are.apart.numbers;
          arrivals = subst ArrivalsDiffer (filter-mapped held_view stays files) (AllPairs-filter Differ stays (views_of files) are.apart.arrivals);
        };
        sizes = All-filter keeps (λ held. held_bytes held < 2 ^ 64) files are.sizes;
        sum = is;
      }

-- ---- what is noted in the order of the queue

same-filter : {X : Type 0} (p q : X → Bool) (xs : List X) → All (λ x. p x ≡ q x) xs → filter p xs ≡ filter q xs
same-filter p q [] all = refl
same-filter p q (x ∷ xs) all =
    (λ i. cond (All-head (λ y. p y ≡ q y) x xs all i) (x ∷ filter p xs) (filter p xs))
    ∙ ap (λ l. cond (q x) (x ∷ l) l) (same-filter p q xs (All-tail (λ y. p y ≡ q y) x xs all))

module _ (order : List Prioritizer) (files : List Held) (notes : List Note) (apart : AreApart files) (ranked : IsRanked order files notes) where
  ordered-filter : {X : Type 0} (f : FileView → X) (p : X → Bool) (q : FileView → Bool) → ((view : FileView) → Found files view → p (f view) ≡ q view)
      → filter p (map f (in_order order (views_of files))) ≡ map f (in_order order (filter q (views_of files)))
  ordered-filter f p q says =
      let own = in_order order (views_of files) in
      let same = All-weaker (Found files) (λ (view : FileView). p (f view) ≡ q view) says own (all-found order files apart.numbers) in
      filter-mapped f p own
      ∙ ap (map f) (same-filter (λ (view : FileView). p (f view)) q own same)
      ∙ ap (map f) (sym (in_order-filter order q (views_of files) apart.arrivals))

  found-held : (n : ℕ) (view : FileView) → (o : Option Held) → option_map held_view o ≡ Some view → is_some o ≡ true
  found-held n view None h = cc
  found-held n view (Some held) h = refl

  with-true : (b : Bool) → (b && true) ≡ b
  with-true true = refl
  with-true false = refl

  pub ranked-kept : (q : ℕ → Bool) → IsRanked order (filter (λ held. q (held_number held)) files) (filter (is_held (filter (λ held. q (held_number held)) files)) notes)
  ranked-kept q =
      let kept = filter (λ held. q (held_number held)) files in
      ap (filter (is_held kept)) ranked
      ∙ ordered-filter noted_as (is_held kept) (λ (view : FileView). q view.number)
      (λ view f. held-kept q view.number files ∙ ap (λ b. q view.number && b) (found-held view.number view (item_of held_number view.number files) f) ∙ with-true (q view.number))
      ∙ ap (λ views. map noted_as (in_order order views)) (filter-mapped held_view (λ (view : FileView). q view.number) files)

  rests-found : (view : FileView) (o : Option Held) → option_map held_view o ≡ Some view → option_map_or (λ held. not held.in_flight) o false ≡ not view.in_flight
  rests-found view None h = cc
  rests-found view (Some held) h = let is : held_view held ≡ view = cc in ap (λ (v : FileView). not v.in_flight) is

  pub resting-ranked : resting_among files (numbers_noted notes) ≡ numbers_of (in_order order (at_rest (views_of files)))
  resting-ranked =
      ap (resting_among files) (ranked-numbers order files notes ranked)
      ∙ ordered-filter (λ (view : FileView). view.number) (is_resting files) (λ (view : FileView). not view.in_flight) (λ view f. rests-found view (item_of held_number view.number files) f)

-- ---- files are taken one by one

not-among : (n : ℕ) (ns : List ℕ) → not (is_number_among ns n) ≡ true → All (λ m. m ≢ n) ns
not-among n [] h = All-nil (λ m. m ≢ n)
not-among n (m ∷ ns) h =
    elim (m == n) as (λ b. (m == n) ≡ b → not (is_some (cond b (Some m) (find (λ k. k == n) ns))) ≡ true → All (λ k. k ≢ n) (m ∷ ns)) [
      | true ↦ λ is h. absurd (true≢false (sym h))
      | false ↦ λ is h. All-cons (λ k. k ≢ n) m ns (λ e. true≢false (sym (eq-eqb m n e) ∙ is)) (not-among n ns h)
    ] refl h

pub distinct-parts : (n : ℕ) (ns : List ℕ) → are_distinct (n ∷ ns) ≡ true → All (λ m. m ≢ n) ns × (are_distinct ns ≡ true)
distinct-parts n ns h =
    elim (cases_Bool (is_number_among ns n)) [
      | inl t ↦ let none : false ≡ true = rw t at h in absurd (true≢false (sym none))
      | inr f ↦ let rest : are_distinct ns ≡ true = rw f at h in (not-among n ns (ap not f), rest)
    ]

abbrev pub AreThere : List Held → List ℕ → Type 0
AreThere files numbers = All (λ n. IsSome (item_of held_number n files)) numbers

pub still-there : (n : ℕ) (ns : List ℕ) (files : List Held) → All (λ m. m ≢ n) ns → AreThere files ns → AreThere (without_file n files) ns
still-there n [] files apart there = All-nil (λ m. IsSome (item_of held_number m (without_file n files)))
still-there n (m ∷ ns) files apart there =
    All-cons (λ k. IsSome (item_of held_number k (without_file n files))) m ns
    (subst (λ (o : Option Held). IsSome o) (sym (item_of-without_other held_number m n files (All-head (λ k. k ≢ n) m ns apart))) (All-head (λ k. IsSome (item_of held_number k files)) m ns there))
    (still-there n ns files (All-tail (λ k. k ≢ n) m ns apart) (All-tail (λ k. IsSome (item_of held_number k files)) m ns there))

-- one is taken
pub still-may-go : (n : ℕ) (ns : List ℕ) (files : List Held) → MayLeaveTogether files (n ∷ ns) → MayLeaveTogether (without_file n files) ns
still-may-go n ns files may =
    let parts = distinct-parts n ns may.distinct in
    record {
      ascends = ascends-filter held_number _ files may.ascends;
      there = still-there n ns files parts.0 (All-tail (λ k. IsSome (item_of held_number k files)) n ns may.there);
      distinct = parts.1;
    }

-- the one whose turn it is, and those after it
pub next-may : (ns : List ℕ) (i : ℕ) (files : List Held) → i < length ns → MayLeaveTogether files (drop i ns) → MayLeaveTogether files (get_or ns i 0 ∷ drop (i + 1) ns)
next-may ns i files lt may = subst (MayLeaveTogether files) (drop_more ns i 0 lt) may

-- ---- what is there

flies-there : (o : Option Held) → IsSome (option_map (λ (held : Held). held.in_flight) o) → IsSome o
flies-there None h = h
flies-there (Some held) h = refl

there-flies : (o : Option Held) → IsSome o → IsSome (option_map (λ (held : Held). held.in_flight) o)
there-flies None h = h
there-flies (Some held) h = refl

pub flights-there : (files : List Held) (numbers : List ℕ) → All (λ n. IsSome (flight_of n files)) numbers → AreThere files numbers
flights-there files numbers there =
    All-weaker (λ n. IsSome (flight_of n files)) (λ n. IsSome (item_of held_number n files)) (λ n h. flies-there (item_of held_number n files) h) numbers there

-- files that leave may be taken
pub may-go : (files : List Held) (numbers : List ℕ) → AscendsByNumber held_number files → All (λ n. IsSome (flight_of n files)) numbers → are_distinct numbers ≡ true → MayLeaveTogether files numbers
may-go files numbers up there distinct = record {
  ascends = up;
  there = flights-there files numbers there;
  distinct = distinct;
}

pub has-flight : (n : ℕ) (files : List Held) → IsSome (item_of held_number n files) → IsSome (flight_of n files)
has-flight n files there = there-flies (item_of held_number n files) there

-- ---- the queue when files have left

pub left-none : (queue : QueueState) → queue_left_by [] queue ≡ queue
left-none queue = same_state (queue_left_by [] queue) queue refl refl (staying-none queue.files) (omega arith) refl refl

pub left-cons : (n : ℕ) (ns : List ℕ) (queue : QueueState) → queue_left_by ns (record queue { files = without_file n queue.files; spare = queue.spare + 1 }) ≡ queue_left_by (n ∷ ns) queue
left-cons n ns queue = same_state _ _ refl refl (sym (staying-cons n ns queue.files)) (omega arith) refl refl
