-- The batch that has to go out: the last of the numbers of files that rest.
use Rattle.std.proofs.Common.{◌≡◌, ◌≢◌, ℕ, ◌+◌, ◌-◌, ◌<◌, ◌≤◌, ◌==◌, not, nat_le, Bool, true, false, cond, List, [], ◌∷◌, length, drop, Option, Some, None, Result, Ok, Err, is_some, refl, sym, ap, ◌∙◌, subst, arith}
use Rattle.std.specs.Prelude.{All, IfOk, OnOk, filter}
use Rattle.std.specs.List.{AllPairs}
use Rattle.std.specs.Option.{option_map, option_map_or, unwrap_or}
use Rattle.std.proofs.lemmas.Bool.{true≢false, le-leb, lt-leb}
use Rattle.std.proofs.lemmas.List.{drop-map, length-map}
use Rattle.std.proofs.lemmas.List.Elements.{All-nil, All-drop, All-weaker, filter_passes}
use Rattle.std.proofs.lemmas.List.Filters.{length-filter_both}
use Rattle.std.proofs.lemmas.List.Kept.{AllPairs-cons}
use Rattle.std.proofs.lemmas.List.Sorted.{length_permutation}
use Rattle.flowfile_record.specs.NumberedItems.{item_of, AscendsByNumber}
use Rattle.machine_model.specs.declared.flow.QueueLimits.{QueueLimits}
use Rattle.machine_model.specs.Due.{batch_size, numbers_of}
use Rattle.machine_model.specs.Files.{are_distinct}
use Rattle.machine_model.specs.Order.{in_order}
use Rattle.machine_model.specs.View.{FileView, at_rest}
use Rattle.machine_model.proofs.Keyed.{once_from_differ}
use Rattle.machine_model.proofs.Numbered.{drop-weighs, once-distinct, order-weighs}
use Rattle.machine_model.proofs.Ordered.{in_order-permutes, pairs_nil}
use Rattle.machine_model.proofs.Tally.{bit, many, tally-filter, tally-map}
use Rattle.flow_queue.specs.declared.held.Held.{Held}
use Rattle.flow_queue.specs.declared.queue.ranked.Note.{Note}
use Rattle.flow_queue.specs.Picking.{Picks}
use Rattle.flow_queue.specs.Queue.{QueueState, AreApart, held_number, held_view, views_of, IsAtRest}
use Rattle.flow_queue.specs.Ranked.{IsRanked, numbers_noted}
use Rattle.flow_queue.specs.Swapping.{MayGoOut, batch_due, is_resting, last_of, resting_among}
use Rattle.flow_queue.proofs.InOrder.{filter-mapped}
use Rattle.flow_queue.proofs.Numbered.{ascends-map}
use Rattle.flow_queue.proofs.Swapped.{resting-ranked}

-- ---- the last of some numbers

pub none-last : (limits : QueueLimits) (numbers : List ℕ) → length numbers < limits.swap + batch_size limits → last_of limits numbers ≡ None
none-last limits numbers few =
    ap (λ b. cond b (Some (drop (length numbers - batch_size limits) numbers)) None) (lt-leb (limits.swap + batch_size limits) (length numbers) few)

pub some-last : (limits : QueueLimits) (numbers : List ℕ) → limits.swap + batch_size limits ≤ length numbers → last_of limits numbers ≡ Some (drop (length numbers - batch_size limits) numbers)
some-last limits numbers many =
    ap (λ b. cond b (Some (drop (length numbers - batch_size limits) numbers)) None) (le-leb (limits.swap + batch_size limits) (length numbers) many)

-- ---- how many rest

pub rest-count : (files : List Held) → length files - length (filter (λ held. held.in_flight) files) ≡ length (at_rest (views_of files))
rest-count files =
    let both = length-filter_both (λ (held : Held). held.in_flight) (λ (held : Held). not held.in_flight) (λ held. refl) files in
    let seen = length-map (filter (λ (held : Held). not held.in_flight) files) held_view in
    let mapped = ap length (filter-mapped held_view (λ (view : FileView). not view.in_flight) files) in
    omega (arith, both, seen, mapped)

pub none-go : (queue : QueueState) → MayGoOut queue []
none-go queue = record { at_rest = All-nil (IsAtRest queue); distinct = refl }

module _ (queue : QueueState) (notes : List Note) (apart : AreApart queue.files) (ranked : IsRanked queue.order queue.files notes) where
  abbrev ordered : List FileView
  ordered = in_order queue.order (at_rest (views_of queue.files))

  abbrev resting : List ℕ
  resting = resting_among queue.files (numbers_noted notes)

  are-ordered : resting ≡ numbers_of ordered
  are-ordered = resting-ranked queue.order queue.files notes apart ranked

  pub resting-count : length resting ≡ length (at_rest (views_of queue.files))
  resting-count =
      let views = at_rest (views_of queue.files) in
      omega (arith, ap length are-ordered, length-map ordered (λ (view : FileView). view.number), length_permutation views ordered (in_order-permutes queue.order views))

  -- ---- which have to go

  pub due-is : last_of queue.limits resting ≡ batch_due queue
  due-is =
      let size = batch_size queue.limits in
      let number = λ (view : FileView). view.number in
      ap (last_of queue.limits) are-ordered
      ∙ (λ i. cond (nat_le (queue.limits.swap + size) (length-map ordered number i)) (Some (drop (length-map ordered number i - size) (numbers_of ordered))) None)
      ∙ ap (λ l. cond (nat_le (queue.limits.swap + size) (length ordered)) (Some l) None) (drop-map number (length ordered - size) ordered)

  -- ---- they may go

  rests : (n : ℕ) (o : Option Held) → option_map_or (λ held. not held.in_flight) o false ≡ true → option_map (λ (held : Held). held.in_flight) o ≡ Some false
  rests n None h = absurd (true≢false (sym h))
  rests n (Some held) h = ap (λ (b : Bool). Some b) (is_false held.in_flight h)
    where
      is_false : (b : Bool) → not b ≡ true → b ≡ false
      is_false true h = absurd (true≢false (sym h))
      is_false false h = refl

  all-rest : All (IsAtRest queue) resting
  all-rest =
      All-weaker (λ n. is_resting queue.files n ≡ true) (IsAtRest queue) (λ n h. rests n (item_of held_number n queue.files) h) resting
      (filter_passes (is_resting queue.files) (numbers_noted notes))

  once : (k n : ℕ) → many (λ (m : ℕ). m) n (numbers_of (drop k ordered)) ≤ 1
  once k n =
      let number = λ (view : FileView). view.number in
      let w = λ (view : FileView). bit (view.number == n) in
      let views = views_of queue.files in
      omega (
        arith,
        once_from_differ number views (differ-ascending views (ascends-map held_number number held_view (λ _. refl) queue.files apart.numbers)) n,
        tally-map (λ m. bit (m == n)) number (drop k ordered),
        drop-weighs w k ordered,
        order-weighs w queue.order (at_rest views),
        tally-filter w (λ (view : FileView). not view.in_flight) views,
      )
    where
      differ-ascending : (views : List FileView) → AscendsByNumber (λ (view : FileView). view.number) views → AllPairs (λ (one other : FileView). one.number ≢ other.number) views
      differ-ascending [] up = pairs_nil (λ (one other : FileView). one.number ≢ other.number)
      differ-ascending (view ∷ views) up =
          AllPairs-cons (λ (one other : FileView). one.number ≢ other.number) view views
          (All-weaker (λ (later : FileView). view.number < later.number) (λ (later : FileView). view.number ≢ later.number) (λ later lt e. omega arith) views up.0)
          (differ-ascending views up.1)

  some-go : (k : ℕ) → MayGoOut queue (drop k resting)
  some-go k = record {
    at_rest = All-drop (IsAtRest queue) k resting all-rest;
    distinct =
        let number = λ (view : FileView). view.number in
        let is : drop k resting ≡ numbers_of (drop k ordered) = ap (drop k) are-ordered ∙ drop-map number k ordered in
        subst (λ ns. are_distinct ns ≡ true) (sym is) (once-distinct (numbers_of (drop k ordered)) (once k));
  }

  picked-go : (b : Bool) (k : ℕ) → MayGoOut queue (unwrap_or (cond b (Some (drop k resting)) None) [])
  picked-go true k = some-go k
  picked-go false k = none-go queue

  pub may-go : {E : Type 0} (result : Result Bool E) (list : List ℕ) → Picks (last_of queue.limits resting) result list → MayGoOut queue list
  may-go (Ok answer) list picks =
      subst (MayGoOut queue) (sym picks.1) (picked-go (nat_le (queue.limits.swap + batch_size queue.limits) (length resting)) (length resting - batch_size queue.limits))
  may-go (Err error) list picks = subst (MayGoOut queue) (sym picks) (none-go queue)

-- where too few files are active, none go
pub none-due : (queue : QueueState) → length queue.files < queue.limits.swap + batch_size queue.limits → batch_due queue ≡ None
none-due queue few =
    let views = at_rest (views_of queue.files) in
    let ordered = in_order queue.order views in
    let size = batch_size queue.limits in
    let long = length_permutation views ordered (in_order-permutes queue.order views) in
    let kept = fewer (λ (view : FileView). not view.in_flight) (views_of queue.files) in
    let no : nat_le (queue.limits.swap + size) (length ordered) ≡ false = lt-leb (queue.limits.swap + size) (length ordered) (omega (arith, few, long, kept, length-map queue.files held_view)) in
    ap (λ b. cond b (Some (numbers_of (drop (length ordered - size) ordered))) None) no
  where
    fewer : (p : FileView → Bool) (views : List FileView) → length (filter p views) ≤ length views
    fewer p [] = omega arith
    fewer p (view ∷ views) =
        let rest = fewer p views in
        elim (p view) as (λ b. length (cond b (view ∷ filter p views) (filter p views)) ≤ length (view ∷ views)) [ true ↦ omega arith | false ↦ omega arith ]

-- ---- the clauses of what is answered

pub picked-answer : {E : Type 0} (found : Option (List ℕ)) (result : Result Bool E) (list : List ℕ) → Picks found result list → IfOk result (λ answer. answer ≡ is_some found)
picked-answer found (Ok answer) list h = h.0
picked-answer found (Err error) list h = tt

pub picked-numbers : {E : Type 0} (found : Option (List ℕ)) (result : Result Bool E) (list : List ℕ) → Picks found result list → OnOk result (list ≡ unwrap_or found [])
picked-numbers found (Ok answer) list h = h.1
picked-numbers found (Err error) list h = tt
