-- What is noted of files in their order: the files, where one stands among them, and how that changes.
use Rattle.std.proofs.Common.{◌≡◌, inl, inr, ℕ, suc, ◌+◌, ◌<◌, ◌≤◌, ◌==◌, Bool, true, false, cond, List, [], ◌∷◌, length, map, get_or, Option, Some, None, Result, Ok, Err, refl, sym, ap, ◌∙◌, subst, arith}
use Rattle.std.specs.Prelude.{All, Contains, OnErr, OnOk, OnSome, filter, max, nat_lt, not, ◌&&◌}
use Rattle.std.specs.List.{AllPairs, cons_option, filter_map, insert, remove}
use Rattle.std.specs.List.Sorted.{IsPartitionedBy, IsPartitionPoint}
use Rattle.std.specs.Option.{option_map, option_map_or}
use Rattle.std.proofs.lemmas.Bool.{cases_Bool, cases_lt}
use Rattle.std.proofs.lemmas.List.{get_or-map, get_or_default, length-map}
use Rattle.std.proofs.lemmas.List.Elements.{All-head, All-tail, All-weaker, All-contains_itself}
use Rattle.std.proofs.lemmas.List.Sorted.{IsPermutation-sym, IsPermutation-map, All-permutation, Contains-permutation, length_permutation}
use Rattle.flowfile_record.specs.NumberedItems.{item_of, AscendsByNumber}
use Rattle.flowfile_record.specs.declared.flow_file.FlowFile.{FlowFile}
use Rattle.prioritizer.specs.declared.prioritizer.Prioritizer.{Prioritizer}
use Rattle.machine_model.specs.declared.flow.QueueLimits.{QueueLimits}
use Rattle.machine_model.specs.Due.{numbers_of}
use Rattle.machine_model.specs.Order.{standing_of, goes_before, in_order, is_eligible, eligible_files}
use Rattle.machine_model.specs.View.{FileView, is_expired}
use Rattle.machine_model.proofs.Among.{Among, among_contained, contains_among}
use Rattle.machine_model.proofs.OnlyOrder.{Leads}
use Rattle.machine_model.proofs.Ordered.{goes_before-transitive, in_order-permutes}
use Rattle.flow_queue.specs.declared.held.Held.{Held}
use Rattle.flow_queue.specs.declared.queue.ranked.Note.{Note}
use Rattle.flow_queue.specs.Queue.{AreApart, IsApart, held_number, held_view, views_of, queue_with_file, without_file, with_flight}
use Rattle.flow_queue.specs.Ranked.{IsRanked, IsRankOf, eligible_among, eligible_at, noted_as, goes_ahead, if_eligible, numbers_noted}
use Rattle.flow_queue.proofs.Fields.{arrives_apart, with-permutes, differ-with}
use Rattle.flow_queue.proofs.InOrder.{Differ, Others, IsIt, in_order-filter, in_order-mapped, in_order-permuted, insert-mapped, remove-mapped, filter-mapped, leads-all, put-at, rank-within, removed-at}
use Rattle.flow_queue.proofs.Numbered.{item_of-at}

-- ---- the files that are noted

-- the file of a view's number is that of the view
abbrev pub Found : List Held → FileView → Type 0
Found files view = option_map held_view (item_of held_number view.number files) ≡ Some view

found : (files : List Held) (view : FileView) → AscendsByNumber held_number files → Contains (views_of files) view → Found files view
found [] view up (place, within, is) = absurd (omega arith)
found (first ∷ files) view up (place, within, is) =
    let all = first ∷ files in
    let long : place < length all = omega (arith, length-map all held_view) in
    let held = get_or all place first in
    let same : held_view held ≡ view = sym (get_or-map held_view all place first view long) ∙ is in
    let there = item_of-at held_number all place (held_number held) first up long (λ d. ap held_number (get_or_default all place d first long)) in
    subst (Found all) same (ap (option_map held_view) there)

there_too : (order : List Prioritizer) (files : List Held) (view : FileView) → Contains (in_order order (views_of files)) view → Contains (views_of files) view
there_too order files view h =
    let views = views_of files in
    Contains-permutation (in_order order views) views view (IsPermutation-sym views (in_order order views) (in_order-permutes order views)) h

pub all-found : (order : List Prioritizer) (files : List Held) → AscendsByNumber held_number files → All (Found files) (in_order order (views_of files))
all-found order files up =
    let own = in_order order (views_of files) in
    All-weaker (Contains own) (Found files) (λ view h. found files view up (there_too order files view h)) own (All-contains_itself own)

-- two files of one number are one
pub same-number : (files : List Held) (one other : FileView) → Found files one → Found files other → one.number ≡ other.number → one ≡ other
same-number files one other f g same =
    let both : Some one ≡ Some other = sym f ∙ ap (λ n. option_map held_view (item_of held_number n files)) same ∙ g in
    cc

-- ---- the files that may be taken

module _ (limits : QueueLimits) (moment : ℕ) (files : List Held) where
  abbrev once : FileView → Option FileView
  once view = cond (is_eligible limits moment view) (Some view) None

  by_found : (view : FileView) (o : Option Held) → option_map held_view o ≡ Some view → if_eligible limits moment o ≡ once view
  by_found view None h = cc
  by_found view (Some held) h = let is : held_view held ≡ view = cc in ap once is

  late : (in_flight expired : Bool) → (not in_flight && not true && not expired) ≡ false
  late true expired = refl
  late false expired = refl

  -- one whose penalty lasts isn't taken
  by_note : (view : FileView) → Found files view → eligible_at limits moment files (noted_as view) ≡ once view
  by_note view found =
      elim (cases_Bool (nat_lt moment view.penalty_end)) [
        | inl t ↦
            let no : is_eligible limits moment view ≡ false
            = ap (λ b. not view.in_flight && not b && not (is_expired limits.expiration moment view)) t ∙ late view.in_flight (is_expired limits.expiration moment view) in
            ap (λ b. cond b None (if_eligible limits moment (item_of held_number view.number files))) t ∙ sym (ap (λ b. cond b (Some view) None) no)
        | inr f ↦ ap (λ b. cond b None (if_eligible limits moment (item_of held_number view.number files))) f ∙ by_found view (item_of held_number view.number files) found
      ]

  taken : (views : List FileView) → All (Found files) views → filter_map (eligible_at limits moment files) (map noted_as views) ≡ filter (is_eligible limits moment) views
  taken [] all = refl
  taken (view ∷ views) all =
      let here : eligible_at limits moment files (noted_as view) ≡ once view = by_note view (All-head (Found files) view views all) in
      let rest = taken views (All-tail (Found files) view views all) in
      (λ j. cons_option (here j) (rest j))
      ∙ elim (is_eligible limits moment view) as (λ b. cons_option (cond b (Some view) None) (filter (is_eligible limits moment) views) ≡ cond b (view ∷ filter (is_eligible limits moment) views) (filter (is_eligible limits moment) views)) [ true ↦ refl | false ↦ refl ]

  pub eligible-ranked : (order : List Prioritizer) (notes : List Note) → AreApart files → IsRanked order files notes
      → eligible_among limits moment files notes ≡ eligible_files order limits moment (views_of files)
  eligible-ranked order notes apart ranked =
      ap (filter_map (eligible_at limits moment files)) ranked
      ∙ taken (in_order order (views_of files)) (all-found order files apart.numbers)
      ∙ sym (in_order-filter order (is_eligible limits moment) (views_of files) apart.arrivals)

pub among-length : (limits : QueueLimits) (moment : ℕ) (files : List Held) (notes : List Note) → length (eligible_among limits moment files notes) ≤ length notes
among-length limits moment files [] = omega arith
among-length limits moment files (note ∷ notes) =
    let rest = among-length limits moment files notes in
    elim (eligible_at limits moment files note) as (λ o. length (cons_option o (eligible_among limits moment files notes)) ≤ suc (length notes)) [
      | Some view ↦ omega arith
      | None ↦ omega arith
    ]

-- ---- where a file stands

module _ (order : List Prioritizer) (file : FileView) (files : List Held) where
  abbrev pub ahead : Note → Bool
  ahead note = goes_ahead order file files note.number

  by_ahead : (view : FileView) (o : Option Held) → option_map held_view o ≡ Some view → option_map_or (λ held. goes_before order (held_view held) file) o false ≡ goes_before order view file
  by_ahead view None h = cc
  by_ahead view (Some held) h = let is : held_view held ≡ view = cc in ap (λ v. goes_before order v file) is

  ahead-at : (views : List FileView) (k : ℕ) (view : FileView) → All (Found files) views → k < length views → (d : Note) → ahead (get_or (map noted_as views) k d) ≡ goes_before order (get_or views k view) file
  ahead-at views k view all lt d =
      ap ahead (get_or-map noted_as views k view d lt) ∙ by_ahead (get_or views k view) (item_of held_number (get_or views k view).number files) (all k view lt)

  parted : (views : List FileView) → All (Found files) views → AllPairs (Leads order) views → IsPartitionedBy ahead (map noted_as views)
  parted [] all leads i j d le within passes = absurd (omega arith)
  parted (view ∷ views) all leads i j d le within passes =
      let own = view ∷ views in
      let long : j < length own = omega (arith, length-map own noted_as) in
      elim (cases_lt i j) [
        | inl lt ↦
            ahead-at own i view all (omega arith) d
            ∙ goes_before-transitive order (get_or own i view) (get_or own j view) file (leads i j view lt long) (sym (ahead-at own j view all long d) ∙ passes)
        | inr ge ↦
            let same : j ≡ i = omega arith in
            subst (λ k. ahead (get_or (map noted_as own) k d) ≡ true) same passes
      ]

  pub notes-parted : (notes : List Note) → AreApart files → IsRanked order files notes → IsPartitionedBy ahead notes
  notes-parted notes apart ranked =
      subst (IsPartitionedBy ahead) (sym ranked) (parted (in_order order (views_of files)) (all-found order files apart.numbers) (leads-all order (views_of files) apart.arrivals))

  pub rank-from : (notes : List Note) (place : ℕ) → AreApart files → IsRanked order files notes → place ≤ length notes
      → IsPartitionPoint (λ n. ahead n ≡ true) (λ n. ahead n ≡ false) notes place → IsRankOf order file (in_order order (views_of files)) place
  rank-from notes place apart ranked le point =
      let own = in_order order (views_of files) in
      let all = all-found order files apart.numbers in
      let sides : IsPartitionPoint (λ n. ahead n ≡ true) (λ n. ahead n ≡ false) (map noted_as own) place = subst (λ ns. IsPartitionPoint (λ n. ahead n ≡ true) (λ n. ahead n ≡ false) ns place) ranked point in
      let width = length-map own noted_as in
      let long = ap length ranked in
      record {
        before = λ k d low high. sym (ahead-at own k d all (omega arith) (noted_as d)) ∙ sides.0 k (noted_as d) low high;
        after = λ k d low high. sym (ahead-at own k d all high (noted_as d)) ∙ sides.1 k (noted_as d) low (omega arith);
      }

pub ranked-length : (order : List Prioritizer) (files : List Held) (notes : List Note) → IsRanked order files notes → length notes ≡ length files
ranked-length order files notes ranked =
    let views = views_of files in
    let own = in_order order views in
    omega (arith, ap length ranked, length-map own noted_as, length_permutation views own (in_order-permutes order views), length-map files held_view)

pub if_some : {X : Type 0} (found : Option X) (x : X) (P : Type 0) → found ≡ Some x → OnSome found P → P
if_some None x P is h = cc
if_some (Some y) x P is h = h

-- room for more notes is room for so many more files
pub more-room : {E : Type 0} (result : Result (Unit {0}) E) (room more count long capacity : ℕ) → OnOk result (more ≡ max count room) → OnErr result (more ≡ room)
    → long + count ≤ capacity → long + room ≤ capacity → long + more ≤ capacity
more-room (Ok done) room more count long capacity ok err a b = omega (arith, ok)
more-room (Err error) room more count long capacity ok err a b = omega (arith, err)

-- of what is equal to the files and to the notes
pub still-ranked : (order : List Prioritizer) (files others : List Held) (notes changed : List Note) → others ≡ files → changed ≡ notes → IsRanked order files notes → IsRanked order others changed
still-ranked order files others notes changed same is ranked = is ∙ ranked ∙ ap (λ fs. map noted_as (in_order order (views_of fs))) (sym same)

-- the numbers that are noted are those of the files in their order
pub ranked-numbers : (order : List Prioritizer) (files : List Held) (notes : List Note) → IsRanked order files notes → numbers_noted notes ≡ numbers_of (in_order order (views_of files))
ranked-numbers order files notes ranked = ap numbers_noted ranked ∙ noted (in_order order (views_of files))
  where
    noted : (views : List FileView) → numbers_noted (map noted_as views) ≡ numbers_of views
    noted [] = refl
    noted (view ∷ views) = ap (λ l. view.number ∷ l) (noted views)

-- ---- a file comes, goes or is marked

among_files : (n : ℕ) (held : Held) (files : List Held) → item_of held_number n files ≡ Some held → Among (held_view held) (views_of files)
among_files n held [] is = cc
among_files n held (first ∷ files) is =
    elim (held_number first == n) as (λ b. cond b (Some first) (item_of held_number n files) ≡ Some held → Among (held_view held) (held_view first ∷ views_of files)) [
      | true ↦ λ here. inl (let same : first ≡ held = cc in ap held_view same)
      | false ↦ λ later. inr (among_files n held files later)
    ] is

module _ (order : List Prioritizer) (files : List Held) (notes : List Note) (apart : AreApart files) (ranked : IsRanked order files notes) where
  abbrev own : List FileView
  own = in_order order (views_of files)

  pub ranked-put : (file : FlowFile) (place : ℕ) → IsApart file files → IsRankOf order (held_view (record { file = file; in_flight = false })) own place
      → IsRanked order (queue_with_file file files) (insert notes place (record { number = file.number; penalty_end = file.penalty_end }))
  ranked-put file place new rank =
      let held : Held = record { file = file; in_flight = false } in
      let view = held_view held in
      let differ = All-permutation (Differ view) (views_of files) own (in_order-permutes order (views_of files)) (arrives_apart file files new) in
      ap (λ ns. insert ns place (noted_as view)) ranked
      ∙ sym (insert-mapped noted_as own place view)
      ∙ ap (map noted_as) (sym (put-at order view own place differ rank.before rank.after))
      ∙ ap (map noted_as) (sym (in_order-permuted order (view ∷ views_of files) (views_of (queue_with_file file files)) (differ-with file files new apart.arrivals)
      (IsPermutation-map held_view (held ∷ files) (queue_with_file file files) (with-permutes held files))))

  there : (held : Held) → item_of held_number (held_number held) files ≡ Some held → Among (held_view held) own
  there held is =
      let view = held_view held in
      among_contained view own (Contains-permutation (views_of files) own view (in_order-permutes order (views_of files)) (contains_among view (views_of files) (among_files (held_number held) held files is)))

  pub leave-within : (held : Held) (place : ℕ) → item_of held_number (held_number held) files ≡ Some held → IsRankOf order (held_view held) own place → place < length notes
  leave-within held place is rank =
      let lt = rank-within order (held_view held) own place (contains_among (held_view held) own (there held is)) rank.before in
      omega (arith, lt, ap length ranked, length-map own noted_as)

  pub ranked-leave : (held : Held) (place : ℕ) → item_of held_number (held_number held) files ≡ Some held → IsRankOf order (held_view held) own place
      → IsRanked order (without_file (held_number held) files) (remove notes place)
  ranked-leave held place is rank =
      let view = held_view held in
      let all = all-found order files apart.numbers in
      let here : Found files view = ap (option_map held_view) is in
      let only : All (IsIt order view) own = All-weaker (Found files) (IsIt order view) (λ other f same. same-number files other view f here same) own all in
      ap (λ ns. remove ns place) ranked
      ∙ sym (remove-mapped noted_as own place)
      ∙ ap (map noted_as) (sym (removed-at order view own place (there held is) (leads-all order (views_of files) apart.arrivals) only rank.before rank.after))
      ∙ ap (map noted_as) (sym (in_order-filter order (Others order view) (views_of files) apart.arrivals))
      ∙ ap (λ vs. map noted_as (in_order order vs)) (filter-mapped held_view (Others order view) files)

  -- a mark of a view
  flies : ℕ → Bool → FileView → FileView
  flies n in_flight view = cond (view.number == n) (record view { in_flight = in_flight }) view

  pub ranked-mark : (n : ℕ) (in_flight : Bool) → IsRanked order (with_flight n in_flight files) notes
  unfolding flies
  ranked-mark n in_flight =
      let f = flies n in_flight in
      let standing : (view : FileView) → standing_of (f view) ≡ standing_of view
      = λ view. elim (view.number == n) as (λ b. standing_of (cond b (record view { in_flight = in_flight }) view) ≡ standing_of view) [ true ↦ refl | false ↦ refl ] in
      let same : (view : FileView) → noted_as (f view) ≡ noted_as view
      = λ view. elim (view.number == n) as (λ b. noted_as (cond b (record view { in_flight = in_flight }) view) ≡ noted_as view) [ true ↦ refl | false ↦ refl ] in
      ranked
      ∙ sym (same-notes f same own)
      ∙ ap (map noted_as) (sym (in_order-mapped order f standing (views_of files)))
      ∙ ap (λ vs. map noted_as (in_order order vs)) (sym (views-marked files))
    where
      same-notes : (f : FileView → FileView) → ((view : FileView) → noted_as (f view) ≡ noted_as view) → (views : List FileView) → map noted_as (map f views) ≡ map noted_as views
      same-notes f same [] = refl
      same-notes f same (view ∷ views) = λ j. same view j ∷ same-notes f same views j

      views-marked : (files : List Held) → views_of (with_flight n in_flight files) ≡ map (flies n in_flight) (views_of files)
      views-marked [] = refl
      views-marked (held ∷ files) =
          let here : held_view (cond (held_number held == n) (record held { in_flight = in_flight }) held) ≡ cond (held_number held == n) (record (held_view held) { in_flight = in_flight }) (held_view held)
          = elim (held_number held == n) as (λ b. held_view (cond b (record held { in_flight = in_flight }) held) ≡ cond b (record (held_view held) { in_flight = in_flight }) (held_view held)) [ true ↦ refl | false ↦ refl ] in
          λ j. here j ∷ views-marked files j
