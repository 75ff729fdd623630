-- What the machine has due may expire in a store, and there is a step for it.
use Rattle.std.proofs.Common.{◌≡◌, ℕ, zero, suc, ◌<◌, ◌≤◌, ◌==◌, not, Bool, true, false, cond, List, [], ◌∷◌, length, map, refl, sym, ap, subst, ◌∙◌, inl, inr, arith}
use Rattle.std.specs.Prelude.{IfSome, filter, Option, None, Some, find, is_some, option_map, slice_get}
use Rattle.std.specs.List.{cons_option, enumerate_from, filter_map}
use Rattle.std.proofs.lemmas.Bool.{and_from, and_parts, cases_Bool, eq-eqb, eqb-true, false≢true, true≢false}
use Rattle.flowfile_record.specs.Stored.{Kept}
use Rattle.flowfile_record.specs.declared.content.ContentRef.{ContentRef}
use Rattle.flowfile_record.specs.declared.event.Event.{Event}
use Rattle.kept_state.specs.Applied.{active_number}
use Rattle.kept_state.specs.Fits.{active_of, are_active_in, is_in_connection}
use Rattle.machine_model.specs.declared.flow.Connection.{Connection}
use Rattle.machine_model.specs.declared.flow.Flow.{Flow}
use Rattle.machine_model.specs.Due.{at_place, due_expiry, expired_numbers, numbers_of, some_numbers}
use Rattle.machine_model.specs.Events.{ascending}
use Rattle.machine_model.specs.Files.{active_files, active_views, are_active, file_numbered, is_active, queue_at}
use Rattle.machine_model.specs.State.{QueuedFile, State}
use Rattle.machine_model.specs.View.{FileView, QueueView, at_rest, is_expired}
use Rattle.machine_model.proofs.Among.{Among, among_contained, ascending-had, contains_among, is_made, kept_by, makes}
use Rattle.machine_model.proofs.DueSteps.{active-seen, views-once}
use Rattle.machine_model.proofs.Numbered.{HasActive, HaveOwnNumbers, all-active, all-pass, ascending-weighs, once-distinct, own-numbers}
use Rattle.machine_model.proofs.Options.{if_at}
use Rattle.machine_model.proofs.Places.{place_of}
use Rattle.machine_model.proofs.Tally.{bit, find-passes, many, tally, tally-filter, tally-map}
use Rattle.store_core.specs.State.{state_with}
use Rattle.store_core.specs.Valid.{KeptIsValid, LiveFilesAreQueued, QueuedFilesAreLive}
use Rattle.engine_change.specs.Expiring.{DueExpiriesMayExpire, HasExpiryStep, MayExpireIn, without_flight}
use Rattle.engine_change.proofs.Expiring.{Seen, ascending_stay, distinct_same, expiry_steps, found_active, seen_by}

-- ---- the first connection that has some

first_some : {X : Type 0} (P : ℕ × X → Type 0) (place : ℕ) (found : Option X) (rest : List (ℕ × X)) → IfSome found (λ x. P (place, x)) → IfSome (slice_get rest 0) P
    → IfSome (slice_get (cons_option (option_map (λ x. (place, x)) found) rest) 0) P
first_some P place None rest h k = k
first_some P place (Some x) rest h k = h

first_of : {X : Type 0} (owes : Connection → QueueView → Option X) (queues : ℕ → QueueView) (P : ℕ × X → Type 0) (connections : List (ℕ × Connection))
    → ((c : ℕ × Connection) → Among c connections → IfSome (owes c.1 (queues c.0)) (λ x. P (c.0, x))) → IfSome (slice_get (filter_map (at_place owes queues) connections) 0) P
first_of owes queues P [] each = tt
first_of owes queues P (c ∷ connections) each =
    first_some P c.0 (owes c.1 (queues c.0)) (filter_map (at_place owes queues) connections) (each c (inl refl))
    (first_of owes queues P connections (λ other later. each other (inr later)))

-- the numbers of the expired files of the connection at this place, of which there are some
record AreDue (flow : Flow) (queues : ℕ → QueueView) (moment place : ℕ) (numbers : List ℕ) : Type 0 where
  connection : Connection
  at : slice_get flow.connections place ≡ Some connection
  some : (length numbers == 0) ≡ false
  are : expired_numbers connection.limits moment (queues place).active ≡ numbers

if_not : {A : Type 0} (b : Bool) (x : A) (P : A → Type 0) → (b ≡ false → P x) → IfSome (cond b None (Some x)) P
if_not true x P holds = tt
if_not false x P holds = holds refl

are_due : (flow : Flow) (queues : ℕ → QueueView) (moment place : ℕ) (numbers : List ℕ) → due_expiry flow queues moment ≡ Some (place, numbers) → AreDue flow queues moment place numbers
are_due flow queues moment place numbers due =
    let P : ℕ × List ℕ → Type 0 = λ found. AreDue flow queues moment found.0 found.1 in
    if_at (due_expiry flow queues moment) (place, numbers) P due
    (first_of (λ connection queue. some_numbers (expired_numbers connection.limits moment queue.active)) queues P (enumerate_from 0 flow.connections) (λ c there.
    let here = place_of 0 flow.connections c there in
    let all = expired_numbers c.1.limits moment (queues c.0).active in
    if_not (length all == 0) all (λ numbers. AreDue flow queues moment c.0 numbers) (λ some. record {
      connection = c.1;
      at = ap (slice_get flow.connections) (omega (arith, here.number)) ∙ here.is;
      some = some;
      are = refl;
    })))

-- ---- files that are seen, in flight or not

module _ (views : List FileView) (queue : List QueuedFile) (same : map without_flight views ≡ map without_flight (active_views queue)) (limit moment : ℕ) where
  abbrev expiring : List FileView
  expiring = filter (is_expired limit moment) (at_rest views)

  has_expired : (n : ℕ) → Among n (ascending (numbers_of expiring)) → HasActive queue (is_expired limit moment) n
  has_expired n there =
      let made = is_made (λ (view : FileView). view.number) expiring n (ascending-had n (numbers_of expiring) there) in
      let late = kept_by (is_expired limit moment) (at_rest views) made.source made.there in
      let among : Among made.source views = (kept_by (λ view. not view.in_flight) views made.source late.0).0 in
      let other = is_made without_flight (active_views queue) (without_flight made.source)
      (subst (λ (all : List FileView). Among (without_flight made.source) all) same (makes without_flight views made.source among)) in
      active-seen (is_expired limit moment) queue n other.source other.there (ap (λ (view : FileView). view.number) other.is ∙ made.is)
      (ap (is_expired limit moment) other.is ∙ late.1)

  expired_once : (n : ℕ) → HaveOwnNumbers queue → many (λ (m : ℕ). m) n (ascending (numbers_of expiring)) ≤ 1
  expired_once n own =
      let w : FileView → ℕ = λ view. bit (view.number == n) in
      let shown : tally w (map without_flight views) ≡ tally w views = tally-map w without_flight views in
      let queued : tally w (map without_flight (active_views queue)) ≡ tally w (active_views queue) = tally-map w without_flight (active_views queue) in
      let both : tally w (map without_flight views) ≡ tally w (map without_flight (active_views queue)) = ap (tally w) same in
      let few : tally w (active_views queue) ≤ 1 = views-once queue n own in
      let all : tally w (at_rest views) ≤ tally w views = tally-filter w (λ view. not view.in_flight) views in
      let late : tally w expiring ≤ tally w (at_rest views) = tally-filter w (is_expired limit moment) (at_rest views) in
      let numbers : many (λ (m : ℕ). m) n (numbers_of expiring) ≡ tally w expiring = tally-map (λ m. bit (m == n)) (λ (view : FileView). view.number) expiring in
      let sorted : many (λ (m : ℕ). m) n (ascending (numbers_of expiring)) ≡ many (λ (m : ℕ). m) n (numbers_of expiring) = ascending-weighs (λ m. bit (m == n)) (numbers_of expiring) in
      omega arith

-- ---- they are live files of the connection

some_file : (x y : QueuedFile) → ◌≡◌ {A = Option QueuedFile} (Some x) (Some y) → x ≡ y
some_file x y is = cc

find_among : (p : QueuedFile → Bool) (xs : List QueuedFile) (x : QueuedFile) → find p xs ≡ Some x → Among x xs
find_among p [] x is = absurd cc
find_among p (y ∷ xs) x is =
    elim (cases_Bool (p y)) [
      | inl t ↦ inl (some_file y x (sym (ap (λ b. cond b (Some y) (find p xs)) t) ∙ is))
      | inr f ↦ inr (find_among p xs x (sym (ap (λ b. cond b (Some y) (find p xs)) f) ∙ is))
    ]

module _ (contents : ContentRef → List ℕ) (events : List Event) (k : Kept) (seen : Seen contents events k) where
  abbrev state : State
  state = state_with contents events k

  live_number : (place number : ℕ) (o : Option QueuedFile) → file_numbered (active_files (queue_at state place)) number ≡ o → is_some o ≡ true → is_in_connection place (active_of number k.files) ≡ true
  live_number place number None is some = absurd (false≢true some)
  live_number place number (Some file) is some =
      let queue = queue_at state place in
      let there = (kept_by is_active queue file (find_among (λ (f : QueuedFile). f.number == number) (active_files queue) file is)).0 in
      let named = eqb-true file.number number (find-passes (λ (f : QueuedFile). f.number == number) (active_files queue) file is) in
      let live = seen.live contents events k place file (contains_among file queue there) in
      let same : active_number live.active ≡ number = ap (λ (f : QueuedFile). f.number) live.is ∙ named in
      let found = ap (λ n. active_of n k.files) (sym same) ∙ found_active live.active k.files seen.consistent.numbers (among_contained live.active k.files live.there) in
      ap (is_in_connection place) found ∙ eq-eqb live.active.connection place live.connection

  all_live : (place : ℕ) (numbers : List ℕ) → are_active (queue_at state place) numbers ≡ true → are_active_in k.files place numbers ≡ true
  all_live place [] all = refl
  all_live place (n ∷ numbers) all =
      let parts = and_parts (is_some (file_numbered (active_files (queue_at state place)) n)) (are_active (queue_at state place) numbers) all in
      and_from (is_in_connection place (active_of n k.files)) (are_active_in k.files place numbers) (live_number place n (file_numbered (active_files (queue_at state place)) n) refl parts.0) (all_live place numbers parts.1)

-- ---- the step

within : {X : Type 0} (xs : List X) (place : ℕ) (x : X) → slice_get xs place ≡ Some x → place < length xs
within [] place x is = absurd (let none : None ≡ Some x = is in cc)
within (y ∷ xs) zero x is = omega arith
within (y ∷ xs) (suc place) x is = let rest = within xs place x is in omega arith

some_there : (n : ℕ) → (n == 0) ≡ false → 0 < n
some_there zero is = absurd (true≢false is)
some_there (suc n) is = omega arith

module _ (valid : KeptIsValid) (queued : LiveFilesAreQueued) (live : QueuedFilesAreLive) where
  pub due_expire : DueExpiriesMayExpire
  due_expire flow world contents events k queues place numbers moment was none same up_to shown due =
      let seen = seen_by valid queued live flow contents events k was none same up_to in
      let is = are_due flow queues moment place numbers due in
      let views = (queues place).active in
      let queue = queue_at (state_with contents events k) place in
      let limit = is.connection.limits.expiration in
      let own = own-numbers seen.flow (state_with contents events k) place seen.valid in
      let all = expired_numbers is.connection.limits moment views in
      let late = has_expired views queue (shown.files place) limit moment in
      let some : 0 < length all = subst (λ (ns : List ℕ). 0 < length ns) (sym is.are) (some_there (length numbers) is.some) in
      let active = all-active (is_expired limit moment) queue all late in
      let may : MayExpireIn flow k place all = record {
        connection = within flow.connections place is.connection is.at;
        active = all_live contents events k seen place all active;
        distinct = sym (distinct_same all) ∙ once-distinct all (λ n. expired_once views queue (shown.files place) limit moment n own);
        in_order = ascending_stay (numbers_of (filter (is_expired limit moment) (at_rest views)));
      } in
      subst (λ (ns : List ℕ). HasExpiryStep flow world contents events k place ns moment) is.are (record {
        may = may;
        some = some;
        connection = is.connection;
        at = is.at;
        goes = expiry_steps valid queued live flow world contents events k place is.connection all moment was none same up_to is.at may some
            (all-pass (is_expired limit moment) queue all own late);
      })
