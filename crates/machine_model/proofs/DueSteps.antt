-- That what is due has a step.
use Rattle.std.proofs.Common.{◌≡◌, inl, inr, ℕ, zero, suc, ◌+◌, ◌-◌, ◌*◌, ◌/◌, ◌%◌, ◌≤◌, Bool, true, false, cond, not, List, [], ◌∷◌, map, length, drop, refl, sym, ap, subst, ◌∙◌, arith}
use Rattle.std.specs.Prelude.{◌==◌, nat_lt, nat_le, Option, Some, None, IfSome, IsSome, filter, option_map, option_and_then, slice_get}
use Rattle.std.specs.List.{cons_option, filter_map, enumerate_from}
use Rattle.std.specs.Option.{option_map_or}
use Rattle.std.proofs.lemmas.Bool.{and_from, cases_lt, lt-ltb, le-leb, leb-true, eq-eqb, true≢false}
use Rattle.std.proofs.lemmas.List.{length-map, length-drop}
use Rattle.std.proofs.lemmas.List.Sorted.{IsPermutation-sym, Contains-permutation, length_permutation}
use Rattle.prioritizer.specs.declared.prioritizer.Prioritizer.{Prioritizer}
use Rattle.flowfile_record.specs.declared.limits.TheConstants.{EVENTS_PER_FILE}
use Rattle.machine_model.specs.declared.flow.Connection.{Connection}
use Rattle.machine_model.specs.declared.flow.Flow.{Flow}
use Rattle.machine_model.specs.declared.flow.QueueLimits.{QueueLimits}
use Rattle.machine_model.specs.declared.journal.Step.TheVariants.{Expire, SwapOut, SwapIn, Age}
use Rattle.machine_model.specs.Due.{numbers_of, expired_numbers, some_numbers, batch_size, last_batch, lowest_batch, at_place, first_due}
use Rattle.machine_model.specs.Events.{ascending}
use Rattle.machine_model.specs.Files.{is_active, active_files, active_views, queue_at, queues_of, view_of, queue_view}
use Rattle.machine_model.specs.Laws.{DueExpiriesHaveSteps, DueSwapOutsHaveSteps, DueSwapInsHaveSteps, DueAgingsHaveSteps}
use Rattle.machine_model.specs.Order.{in_order}
use Rattle.machine_model.specs.State.{QueuedFile, State, World}
use Rattle.machine_model.specs.Stepping.{step, same_world, aged, expire_step, swap_out_step, swap_in_step, swapped_in, with_queue}
use Rattle.machine_model.specs.View.{FileView, QueueView, is_expired, at_rest}
use Rattle.machine_model.proofs.Among.{Among, is_made, kept_by, ascending-had, contains_among, among_contained}
use Rattle.machine_model.proofs.Numbered.{HaveOwnNumbers, HasActive, all-active, all-pass, once-distinct, ascending-weighs, order-weighs, drop-weighs, own-numbers}
use Rattle.machine_model.proofs.Options.{if_when, if_weaker}
use Rattle.machine_model.proofs.Ordered.{in_order-permutes}
use Rattle.machine_model.proofs.Places.{place_of}
use Rattle.machine_model.proofs.Tally.{tally, bit, many, tally-map, tally-filter}

-- ---- the first connection that owes something

first-some : {X Y : Type 0} (f : X → Y) (P : Y → Type 0) (found : Option X) (rest : List Y) → IfSome found (λ x. P (f x)) → IfSome (slice_get rest 0) P
    → IfSome (slice_get (cons_option (option_map f found) rest) 0) P
first-some f P None rest h k = k
first-some f P (Some x) rest h k = h

first-of : {X : Type 0} (owes : Connection → QueueView → Option X) (queues : ℕ → QueueView) (P : ℕ × X → Type 0) (connections : List (ℕ × Connection))
    → ((c : ℕ × Connection) → Among c connections → IfSome (owes c.1 (queues c.0)) (λ x. P (c.0, x))) → IfSome (slice_get (filter_map (at_place owes queues) connections) 0) P
first-of owes queues P [] each = tt
first-of owes queues P (c ∷ connections) each =
    first-some (λ x. (c.0, x)) P (owes c.1 (queues c.0)) (filter_map (at_place owes queues) connections) (each c (inl refl))
    (first-of owes queues P connections (λ other h. each other (inr h)))

first-due : {X : Type 0} (owes : Connection → QueueView → Option X) (flow : Flow) (queues : ℕ → QueueView) (P : ℕ × X → Type 0)
    → ((place : ℕ) (connection : Connection) → slice_get flow.connections place ≡ Some connection → IfSome (owes connection (queues place)) (λ x. P (place, x))) → IfSome (first_due owes flow queues) P
first-due owes flow queues P each =
    first-of owes queues P (enumerate_from 0 flow.connections) (λ c h.
    let at = place_of 0 flow.connections c h in
    each c.0 c.1 (ap (slice_get flow.connections) (omega (arith, at.number)) ∙ at.is))

-- ---- a step that passes its tests

passed : (b : Bool) (x : State) (world : World) → b ≡ true → IsSome (same_world world (cond b (Some x) None))
passed true x world h = refl
passed false x world h = absurd (true≢false (sym h))

if_not : {A : Type 0} (b : Bool) (x : A) (P : A → Type 0) → (b ≡ false → P x) → IfSome (cond b None (Some x)) P
if_not true x P h = tt
if_not false x P h = h refl

-- ---- files that are seen

pub active-seen : (p : FileView → Bool) (queue : List QueuedFile) (number : ℕ) (view : FileView) → Among view (active_views queue) → view.number ≡ number → p view ≡ true → HasActive queue p number
active-seen p queue number view h same passes =
    let made = is_made view_of (active_files queue) view h in
    record {
      file = made.source;
      there = (kept_by is_active queue made.source made.there).0;
      active = made.there;
      is = ap (λ (v : FileView). v.number) made.is ∙ same;
      passes = ap p made.is ∙ passes;
    }

pub views-once : (queue : List QueuedFile) (n : ℕ) → HaveOwnNumbers queue → tally (λ (view : FileView). bit (view.number == n)) (active_views queue) ≤ 1
views-once queue n own = omega (
  arith,
  own n,
  tally-map (λ (view : FileView). bit (view.number == n)) view_of (active_files queue),
  tally-filter (λ (file : QueuedFile). bit (file.number == n)) is_active queue,
)

-- ---- expiries

has-expired : (limit moment : ℕ) (queue : List QueuedFile) (n : ℕ) → Among n (ascending (numbers_of (filter (is_expired limit moment) (at_rest (active_views queue))))) → HasActive queue (is_expired limit moment) n
has-expired limit moment queue n h =
    let views = at_rest (active_views queue) in
    let made = is_made (λ (view : FileView). view.number) (filter (is_expired limit moment) views) n (ascending-had n (numbers_of (filter (is_expired limit moment) views)) h) in
    let late = kept_by (is_expired limit moment) views made.source made.there in
    active-seen (is_expired limit moment) queue n made.source (kept_by (λ view. not view.in_flight) (active_views queue) made.source late.0).0 made.is late.1

expired-once : (limit moment : ℕ) (queue : List QueuedFile) (n : ℕ) → HaveOwnNumbers queue
    → many (λ (m : ℕ). m) n (ascending (numbers_of (filter (is_expired limit moment) (at_rest (active_views queue))))) ≤ 1
expired-once limit moment queue n own =
    let w = λ (view : FileView). bit (view.number == n) in
    let views = at_rest (active_views queue) in
    omega (
      arith,
      views-once queue n own,
      ascending-weighs (λ m. bit (m == n)) (numbers_of (filter (is_expired limit moment) views)),
      tally-map (λ m. bit (m == n)) (λ (view : FileView). view.number) (filter (is_expired limit moment) views),
      tally-filter w (is_expired limit moment) views,
      tally-filter w (λ view. not view.in_flight) (active_views queue),
    )

some-there : (n : ℕ) → (n == 0) ≡ false → nat_lt 0 n ≡ true
some-there n h = elim (cases_lt 0 n) [ inl lt ↦ lt-ltb 0 n lt | inr ge ↦ absurd (true≢false (sym (eq-eqb n 0 (omega arith)) ∙ h)) ]

pub expiry-has-step : DueExpiriesHaveSteps
expiry-has-step flow machine moment valid =
    first-due (λ connection queue. some_numbers (expired_numbers connection.limits moment queue.active)) flow (queues_of machine.state) (λ due. IsSome (step flow machine (Expire due.0 due.1 moment))) (λ place connection is.
    let queue = queue_at machine.state place in
    let limit = connection.limits.expiration in
    let numbers = expired_numbers connection.limits moment (active_views queue) in
    let own = own-numbers flow machine.state place valid in
    if_not (length numbers == 0) numbers (λ numbers. IsSome (step flow machine (Expire place numbers moment))) (λ some.
    subst (λ o. IsSome (same_world machine.world (option_and_then (expire_step machine.state place numbers moment) o))) (sym is)
    (passed _ _ machine.world
    (and_from _ _ (and_from _ _ (and_from _ _ (some-there (length numbers) some) (once-distinct numbers (λ n. expired-once limit moment queue n own)))
    (all-active (is_expired limit moment) queue numbers (has-expired limit moment queue)))
    (all-pass (is_expired limit moment) queue numbers own (has-expired limit moment queue))))))

-- ---- swaps

dropped-among : {X : Type 0} (n : ℕ) (xs : List X) (x : X) → Among x (drop n xs) → Among x xs
dropped-among zero xs x h = h
dropped-among (suc n) [] x h = h
dropped-among (suc n) (y ∷ xs) x h = inr (dropped-among n xs x h)

abbrev always : FileView → Bool
always view = true

has-swapped : (order : List Prioritizer) (n : ℕ) (queue : List QueuedFile) (number : ℕ) → Among number (numbers_of (drop n (in_order order (at_rest (active_views queue))))) → HasActive queue always number
has-swapped order n queue number h =
    let views = at_rest (active_views queue) in
    let ordered = in_order order views in
    let made = is_made (λ (view : FileView). view.number) (drop n ordered) number h in
    let there = Contains-permutation ordered views made.source (IsPermutation-sym views ordered (in_order-permutes order views)) (contains_among made.source ordered (dropped-among n ordered made.source made.there)) in
    active-seen always queue number made.source (kept_by (λ view. not view.in_flight) (active_views queue) made.source (among_contained made.source views there)).0 made.is refl

swapped-once : (order : List Prioritizer) (k : ℕ) (queue : List QueuedFile) (n : ℕ) → HaveOwnNumbers queue → many (λ (m : ℕ). m) n (numbers_of (drop k (in_order order (at_rest (active_views queue))))) ≤ 1
swapped-once order k queue n own =
    let w = λ (view : FileView). bit (view.number == n) in
    let views = at_rest (active_views queue) in
    omega (
      arith,
      views-once queue n own,
      tally-map (λ m. bit (m == n)) (λ (view : FileView). view.number) (drop k (in_order order views)),
      drop-weighs w k (in_order order views),
      order-weighs w order views,
      tally-filter w (λ view. not view.in_flight) (active_views queue),
    )

length-kept : {X : Type 0} (p : X → Bool) (xs : List X) → length (filter p xs) ≤ length xs
length-kept p [] = omega arith
length-kept p (x ∷ xs) =
    let rest = length-kept p xs in
    elim (p x) as (λ b. length (cond b (x ∷ filter p xs) (filter p xs)) ≤ length (x ∷ xs)) [ true ↦ omega arith | false ↦ omega arith ]

pub swap_out-has-step : DueSwapOutsHaveSteps
swap_out-has-step flow machine valid =
    first-due (λ connection queue. last_batch connection.order connection.limits queue.active) flow (queues_of machine.state) (λ due. IsSome (step flow machine (SwapOut due.0 due.1 machine.state.next_batch))) (λ place connection is.
    let queue = queue_at machine.state place in
    let next = machine.state.next_batch in
    let views = at_rest (active_views queue) in
    let ordered = in_order connection.order views in
    let size = batch_size connection.limits in
    let numbers = numbers_of (drop (length ordered - size) ordered) in
    let own = own-numbers flow machine.state place valid in
    if_when (nat_le (connection.limits.swap + size) (length ordered)) numbers (λ numbers. IsSome (step flow machine (SwapOut place numbers next))) (λ passes.
    let many_enough : connection.limits.swap + size ≤ length ordered = leb-true _ _ passes in
    let same : length ordered ≡ length views = length_permutation views ordered (in_order-permutes connection.order views) in
    let active : length (active_views queue) ≡ length (active_files queue) = length-map (active_files queue) view_of in
    let long : length numbers ≡ size = length-map (drop (length ordered - size) ordered) (λ (view : FileView). view.number) ∙ length-drop (length ordered - size) ordered ∙ omega arith in
    subst (λ o. IsSome (same_world machine.world (option_and_then (swap_out_step machine.state place numbers next) o))) (sym is)
    (passed _ _ machine.world
    (and_from _ _ (and_from _ _ (and_from _ _ (and_from _ _ (once-distinct numbers (λ n. swapped-once connection.order (length ordered - size) queue n own))
    (all-active always queue numbers (has-swapped connection.order (length ordered - size) queue)))
    (eq-eqb (length numbers) size long))
    (le-leb (connection.limits.swap + size) (length (active_files queue)) (omega (arith, length-kept (λ (view : FileView). not view.in_flight) (active_views queue)))))
    (eq-eqb next next refl)))))

lowest-is : (limits : QueueLimits) (queue : QueueView) (found : Option ℕ) (world : World) (after : ℕ → State) → lowest_batch limits queue ≡ found
    → IfSome found (λ batch. IsSome (same_world world (cond (option_map_or (λ lowest. lowest == batch) (lowest_batch limits queue) false) (Some (after batch)) None)))
lowest-is limits queue None world after is = tt
lowest-is limits queue (Some batch) world after is =
    passed _ (after batch) world (ap (λ o. option_map_or (λ lowest. lowest == batch) o false) is ∙ eq-eqb batch batch refl)

pub swap_in-has-step : DueSwapInsHaveSteps
swap_in-has-step flow machine =
    first-due (λ connection queue. lowest_batch connection.limits queue) flow (queues_of machine.state) (λ due. IsSome (step flow machine (SwapIn due.0 due.1))) (λ place connection is.
    let queue = queue_view (queue_at machine.state place) in
    if_weaker (lowest_batch connection.limits queue)
    (λ batch. IsSome (same_world machine.world (swap_in_step machine.state place batch connection))) (λ batch. IsSome (step flow machine (SwapIn place batch)))
    (λ batch h. subst (λ o. IsSome (same_world machine.world (option_and_then (swap_in_step machine.state place batch) o))) (sym is) h)
    (lowest-is connection.limits queue (lowest_batch connection.limits queue) machine.world
    (λ batch. with_queue machine.state place (map (swapped_in batch) (queue_at machine.state place))) refl))

-- ---- an aging

pub aging-has-step : DueAgingsHaveSteps
aging-has-step flow machine kept =
    let state = machine.state in
    let due = (state.last_event - kept) / EVENTS_PER_FILE * EVENTS_PER_FILE in
    let whole : due % EVENTS_PER_FILE ≡ 0 = omega arith in
    let told : due ≤ state.last_event = omega arith in
    if_when (nat_lt state.line due) due (λ line. IsSome (step flow machine (Age line))) (λ raised.
    passed _ (aged state due) machine.world (and_from _ _ (and_from _ _ (eq-eqb (due % EVENTS_PER_FILE) 0 whole) raised) (le-leb due state.last_event told)))
