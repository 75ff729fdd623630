-- Many files come: one by one, or noted at the end and sorted once.
use Rattle.std.proofs.Common.{◌≡◌, ◌≢◌, inl, inr, ℕ, zero, suc, ◌+◌, ◌-◌, ◌<◌, ◌++◌, Bool, true, false, List, [], ◌∷◌, length, map, get_or, Option, Some, None, refl, sym, ap, ◌∙◌, subst, arith}
use Rattle.std.specs.Prelude.{All}
use Rattle.std.specs.Cmp.{IsStrictWeakOrder}
use Rattle.std.specs.FinMap.{empty}
use Rattle.std.specs.List.{AllPairs}
use Rattle.std.specs.List.Sorted.{IsPermutation, IsSortedBy}
use Rattle.std.specs.Option.{option_map, option_map_or}
use Rattle.std.proofs.lemmas.Bool.{true≢false, cases_lt}
use Rattle.std.proofs.lemmas.List.{get_or-map, length-map, map-append}
use Rattle.std.proofs.lemmas.List.Elements.{All-nil, All-cons, All-head, All-tail, All-map, All-weaker}
use Rattle.std.proofs.lemmas.List.Sorted.{IsPermutation-append_comm, IsPermutation-append_left, IsPermutation-map, IsPermutation-middle, IsPermutation-sym, IsPermutation-trans, All-permutation}
use Rattle.flowfile_record.specs.NumberedItems.{item_of, with_item}
use Rattle.flowfile_record.specs.declared.flow_file.FlowFile.{FlowFile}
use Rattle.flowfile_record.proofs.ByNumber.{length-with_items}
use Rattle.prioritizer.specs.LawsHold.{order_cmp-sorts}
use Rattle.prioritizer.specs.declared.prioritizer.Prioritizer.{Prioritizer}
use Rattle.machine_model.specs.Order.{goes_before, in_order, standing_of}
use Rattle.machine_model.specs.View.{FileView}
use Rattle.machine_model.proofs.OnlyOrder.{in_order-only}
use Rattle.machine_model.proofs.Ordered.{Follows, in_order-permutes, pairs_head, pairs_tail}
use Rattle.flow_queue.specs.declared.held.Held.{Held}
use Rattle.flow_queue.specs.declared.queue.ranked.Note.{Note}
use Rattle.flow_queue.specs.Entering.{MayComeTogether, files_with, queue_joined_by}
use Rattle.flow_queue.specs.Queue.{QueueState, AreApart, IsApart, held_number, held_view, queue_with_file, views_of}
use Rattle.flow_queue.specs.Ranked.{IsRanked, is_before, held_before, noted_file, noted_as}
use Rattle.flow_queue.specs.Swapping.{AreTwo, rested}
use Rattle.flow_queue.proofs.Fields.{same_state, with-permutes}
use Rattle.flow_queue.proofs.ForCallers.{All-with_file}
use Rattle.flow_queue.proofs.Ranks.{Found, all-found}

-- ---- the order of notes

module _ (order : List Prioritizer) where
  leads-one_way : (one other : Option Held) → held_before order one other ≡ true → held_before order other one ≡ false
  leads-one_way (Some one) (Some other) h = (order_cmp-sorts order).one_way (standing_of (held_view one)) (standing_of (held_view other)) h
  leads-one_way (Some one) None h = refl
  leads-one_way None other h = absurd (true≢false (sym h))

  leads-chain : (a b c : Option Held) → held_before order a b ≡ false → held_before order b c ≡ false → held_before order a c ≡ false
  leads-chain (Some a) (Some b) (Some c) h k = (order_cmp-sorts order).chain (standing_of (held_view a)) (standing_of (held_view b)) (standing_of (held_view c)) h k
  leads-chain (Some a) (Some b) None h k = absurd (true≢false k)
  leads-chain (Some a) None c h k = absurd (true≢false h)
  leads-chain None b c h k = refl

  pub before-sorts : (files : List Held) → IsStrictWeakOrder (is_before order files)
  before-sorts files = record {
    one_way = λ x y h. leads-one_way (item_of held_number x.number files) (item_of held_number y.number files) h;
    chain = λ x y z h k. leads-chain (item_of held_number x.number files) (item_of held_number y.number files) (item_of held_number z.number files) h k;
  }

-- none goes before one that stands ahead of it
sorted-pairs : {X : Type 0} (lt : X → X → Bool) (xs : List X) → IsStrictWeakOrder lt → IsSortedBy lt xs → (i j : ℕ) (d : X) → i < j → j < length xs → lt (get_or xs j d) (get_or xs i d) ≡ false
sorted-pairs lt xs is sorted i zero d below within = absurd (omega arith)
sorted-pairs lt xs is sorted i (suc j) d below within =
    let step : j + 1 ≡ suc j = omega arith in
    let next : lt (get_or xs (suc j) d) (get_or xs j d) ≡ false = subst (λ k. lt (get_or xs k d) (get_or xs j d) ≡ false) step (sorted j d (omega arith) (omega arith)) in
    elim (cases_lt i j) [
      | inl lower ↦ is.chain (get_or xs (suc j) d) (get_or xs j d) (get_or xs i d) next (sorted-pairs lt xs is sorted i j d lower (omega arith))
      | inr ge ↦ let same : j ≡ i = omega arith in subst (λ k. lt (get_or xs (suc j) d) (get_or xs k d) ≡ false) same next
    ]

-- ---- notes of files that are there

module _ (order : List Prioritizer) (files : List Held) (apart : AreApart files) where
  abbrev own : List FileView
  own = in_order order (views_of files)

  abbrev there : Note → Option Held
  there note = item_of held_number note.number files

  abbrev nothing : FileView
  nothing = record { number = 0; attributes = empty; size = 0; entered = 0; penalty_end = 0; arrival = 0; in_flight = false }

  abbrev seen : Note → FileView
  seen note = option_map_or held_view (there note) nothing

  abbrev IsSeen : Note → Type 0
  IsSeen note = (option_map held_view (there note) ≡ Some (seen note)) × (noted_as (seen note) ≡ note)

  seen_of : (view : FileView) (o : Option Held) → option_map held_view o ≡ Some view → option_map_or held_view o nothing ≡ view
  seen_of view None h = cc
  seen_of view (Some held) h = cc

  is_seen : (view : FileView) → Found files view → IsSeen (noted_as view)
  is_seen view found =
      let is : seen (noted_as view) ≡ view = seen_of view (there (noted_as view)) found in
      (found ∙ ap (λ (v : FileView). Some v) (sym is), ap noted_as is)

  their-views : (views : List FileView) → All (Found files) views → map seen (map noted_as views) ≡ views
  their-views [] all = refl
  their-views (view ∷ views) all =
      let is : seen (noted_as view) ≡ view = seen_of view (there (noted_as view)) (All-head (Found files) view views all) in
      let rest = their-views views (All-tail (Found files) view views all) in
      λ i. is i ∷ rest i

  their-notes : (notes : List Note) → All IsSeen notes → map noted_as (map seen notes) ≡ notes
  their-notes [] all = refl
  their-notes (note ∷ notes) all =
      let is : noted_as (seen note) ≡ note = (All-head IsSeen note notes all).1 in
      let rest = their-notes notes (All-tail IsSeen note notes all) in
      λ i. is i ∷ rest i

  leads-seen : (one other : FileView) (o p : Option Held) → option_map held_view o ≡ Some one → option_map held_view p ≡ Some other → held_before order o p ≡ goes_before order one other
  leads-seen one other None p h k = cc
  leads-seen one other (Some a) None h k = cc
  leads-seen one other (Some a) (Some b) h k =
      let first : held_view a ≡ one = cc in
      let second : held_view b ≡ other = cc in
      λ i. goes_before order (first i) (second i)

  pub ranked-sorted : (notes : List Note) → IsPermutation (map noted_as own) notes → IsSortedBy (is_before order files) notes → IsRanked order files notes
  ranked-sorted notes moved sorted =
      let all = all-found order files apart.numbers in
      let noted : All IsSeen (map noted_as own) = All-map IsSeen noted_as own (All-weaker (Found files) (λ view. IsSeen (noted_as view)) is_seen own all) in
      let told : All IsSeen notes = All-permutation IsSeen (map noted_as own) notes moved noted in
      let views = map seen notes in
      let same : IsPermutation own views = subst (λ l. IsPermutation l views) (their-views own all) (IsPermutation-map seen (map noted_as own) notes moved) in
      let follows : AllPairs (Follows order) views = λ i j d below within.
      let long : j < length notes = omega (arith, length-map notes seen) in
      let one = get_or notes i (noted_as d) in
      let other = get_or notes j (noted_as d) in
      let behind : is_before order files other one ≡ false = sorted-pairs (is_before order files) notes (before-sorts order files) sorted i j (noted_as d) below long in
      let seen_behind : goes_before order (seen other) (seen one) ≡ false
      = sym (leads-seen (seen other) (seen one) (there other) (there one) (told j (noted_as d) long).0 (told i (noted_as d) (omega arith)).0) ∙ behind in
      (λ k. goes_before order (get_or-map seen notes j (noted_as d) d long k) (get_or-map seen notes i (noted_as d) d (omega arith) k)) ∙ seen_behind in
      sym (their-notes notes told)
      ∙ ap (map noted_as) (in_order-only order (views_of files) views apart.arrivals
      (IsPermutation-trans (views_of files) own views (in_order-permutes order (views_of files)) same) follows)

-- ---- many files come

pub joins : (coming : List FlowFile) (files : List Held) → IsPermutation (files ++ map rested coming) (files_with coming files)
joins [] files = IsPermutation-append_comm files []
joins (file ∷ coming) files =
    let new = rested file in
    let later = map rested coming in
    IsPermutation-trans _ _ _ (IsPermutation-middle files new later)
    (IsPermutation-trans _ _ _ (IsPermutation-append_left later (new ∷ files) (with_item held_number new files) (with-permutes new files)) (joins coming (with_item held_number new files)))

noted-rested : (coming : List FlowFile) → map noted_as (map held_view (map rested coming)) ≡ map noted_file coming
noted-rested [] = refl
noted-rested (file ∷ coming) = ap (λ l. noted_file file ∷ l) (noted-rested coming)

pub ranked-joined : (order asked : List Prioritizer) (coming : List FlowFile) (files joined : List Held) (notes noted sorted : List Note) → IsRanked order files notes → AreApart joined
    → joined ≡ files_with coming files → noted ≡ notes ++ map noted_file coming → IsPermutation noted sorted → IsSortedBy (is_before asked joined) sorted → asked ≡ order → IsRanked order joined sorted
ranked-joined order asked coming files joined notes noted sorted ranked apart is are moved ordered same_order =
    let own = in_order order (views_of joined) in
    let was = in_order order (views_of files) in
    let new = map held_view (map rested coming) in
    let all : noted ≡ map noted_as (was ++ new) = are ∙ (λ i. ranked i ++ sym (noted-rested coming) i) ∙ sym (map-append noted_as was new) in
    let views : IsPermutation (views_of files ++ new) (views_of joined)
    = subst (λ l. IsPermutation l (views_of joined)) (map-append held_view files (map rested coming))
    (IsPermutation-map held_view (files ++ map rested coming) joined (subst (IsPermutation (files ++ map rested coming)) (sym is) (joins coming files))) in
    let same : IsPermutation (was ++ new) own
    = IsPermutation-trans (was ++ new) (views_of files ++ new) own (IsPermutation-append_left new was (views_of files) (IsPermutation-sym (views_of files) was (in_order-permutes order (views_of files))))
    (IsPermutation-trans (views_of files ++ new) (views_of joined) own views (in_order-permutes order (views_of joined))) in
    let back : IsPermutation (map noted_as own) noted = subst (IsPermutation (map noted_as own)) (sym all) (IsPermutation-sym (map noted_as (was ++ new)) (map noted_as own) (IsPermutation-map noted_as (was ++ new) own same)) in
    ranked-sorted order joined apart sorted (IsPermutation-trans (map noted_as own) noted sorted back moved)
    (subst (λ o. IsSortedBy (is_before o joined) sorted) same_order ordered)

-- ---- one comes, and the others may still

pub next-comes : (held : List Held) (file : FlowFile) (files : List FlowFile) → MayComeTogether held (file ∷ files) → MayComeTogether (queue_with_file file held) files
next-comes held file files may = record {
  apart = apart-with files (pairs_head AreTwo file files may.distinct) (All-tail (λ other. IsApart other held) file files may.apart);
  distinct = pairs_tail AreTwo file files may.distinct;
}
  where
    apart-with : (others : List FlowFile) → All (AreTwo file) others → All (λ other. IsApart other held) others → All (λ other. IsApart other (queue_with_file file held)) others
    apart-with [] two apart = All-nil (λ other. IsApart other (queue_with_file file held))
    apart-with (other ∷ others) two apart =
        All-cons (λ f. IsApart f (queue_with_file file held)) other others
        (All-with_file (λ (one : Held). (one.file.number ≢ other.number) × (one.file.arrival ≢ other.arrival)) file held
        (All-head (AreTwo file) other others two) (All-head (λ f. IsApart f held) other others apart))
        (apart-with others (All-tail (AreTwo file) other others two) (All-tail (λ f. IsApart f held) other others apart))

pub comes-none : (queue : QueueState) → queue_joined_by [] queue ≡ queue
comes-none queue = same_state (queue_joined_by [] queue) queue refl refl refl (omega arith) refl refl

pub comes-cons : (queue : QueueState) (file : FlowFile) (files : List FlowFile) → queue_joined_by files (record queue { files = queue_with_file file queue.files; spare = queue.spare - 1 }) ≡ queue_joined_by (file ∷ files) queue
comes-cons queue file files = same_state _ _ refl refl refl (omega arith) refl refl

pub files-more : (coming : List FlowFile) (files : List Held) → length (files_with coming files) ≡ length files + length coming
files-more coming files = omega (arith, length-with_items held_number (map rested coming) files, length-map coming rested)
