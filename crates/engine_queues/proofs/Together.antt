-- Files of one queue leave together, as they would one by one.
use Rattle.std.proofs.Common.{◌≡◌, ◌≢◌, ℕ, zero, suc, ◌<◌, ◌==◌, Bool, true, false, List, [], ◌∷◌, length, Option, Some, IsSome, refl, sym, ap, subst, ◌∙◌, inl, inr}
use Rattle.std.specs.Prelude.{All, slice_get}
use Rattle.std.specs.Option.{option_map}
use Rattle.std.proofs.lemmas.Bool.{true≢false, cases_eq, ne_eqb}
use Rattle.std.proofs.lemmas.List.Elements.{All-nil, All-cons, All-head, All-tail}
use Rattle.flowfile_record.proofs.ByNumber.{item_of-without_other}
use Rattle.machine_model.specs.Files.{are_distinct, is_number_among}
use Rattle.flow_queue.specs.declared.held.Held.{Held}
use Rattle.flow_queue.specs.Leaving.{queue_left_by}
use Rattle.flow_queue.specs.Queue.{QueueState, held_number, flight_of, without_file}
use Rattle.flow_queue.proofs.ForCallers.{none-left}
use Rattle.flow_queue.proofs.Swapped.{left-cons, left-none}
use Rattle.engine_queues.specs.Settling.{changed_at, queue_without, queues_without, HasFiles}

-- ---- one queue of a list

changed-none : (place : ℕ) (change : QueueState → QueueState) (queues : List QueueState) → ((queue : QueueState) → change queue ≡ queue) → changed_at place change queues ≡ queues
changed-none place change [] same = refl
changed-none zero change (queue ∷ queues) same = ap (λ (q : QueueState). q ∷ queues) (same queue)
changed-none (suc place) change (queue ∷ queues) same = ap (λ (l : List QueueState). queue ∷ l) (changed-none place change queues same)

changed-twice : (place : ℕ) (first then_ both : QueueState → QueueState) (queues : List QueueState) → ((queue : QueueState) → then_ (first queue) ≡ both queue)
    → changed_at place then_ (changed_at place first queues) ≡ changed_at place both queues
changed-twice place first then_ both [] same = refl
changed-twice zero first then_ both (queue ∷ queues) same = ap (λ (q : QueueState). q ∷ queues) (same queue)
changed-twice (suc place) first then_ both (queue ∷ queues) same = ap (λ (l : List QueueState). queue ∷ l) (changed-twice place first then_ both queues same)

got-here : (place : ℕ) (change : QueueState → QueueState) (queues : List QueueState) (queue : QueueState) → slice_get queues place ≡ Some queue → slice_get (changed_at place change queues) place ≡ Some (change queue)
got-here place change [] queue got = absurd cc
got-here zero change (first ∷ queues) queue got = let is : first ≡ queue = cc in ap (λ (q : QueueState). Some (change q)) is
got-here (suc place) change (first ∷ queues) queue got = got-here place change queues queue got

-- ---- what they leave

pub left-together : (place : ℕ) (numbers : List ℕ) (queues : List QueueState) → queues_without place numbers queues ≡ changed_at place (queue_left_by numbers) queues
left-together place [] queues = sym (changed-none place (queue_left_by []) queues left-none)
left-together place (n ∷ numbers) queues =
    left-together place numbers (changed_at place (queue_without n) queues)
    ∙ changed-twice place (queue_without n) (queue_left_by numbers) (queue_left_by (n ∷ numbers)) queues (left-cons n numbers)

-- ---- they may leave

pub has-place : (place : ℕ) (numbers : List ℕ) (queues : List QueueState) → (length numbers == 0) ≡ false → HasFiles place numbers queues → place < length queues
has-place place [] queues some has = absurd (true≢false some)
has-place place (n ∷ numbers) queues some has = has.0.within

-- a file that is there without one of another number
there-before : (n m : ℕ) (files : List Held) → IsSome (flight_of m (without_file n files)) → (m ≢ n) × IsSome (flight_of m files)
there-before n m files there = elim (cases_eq m n) [
  | inl same ↦
      let none = ap (λ k. flight_of k (without_file n files)) same ∙ ap (option_map (λ (held : Held). held.in_flight)) (none-left n files) in
      let no : false ≡ true = subst (λ (o : Option Bool). IsSome o) none there in
      absurd (true≢false (sym no))
  | inr other ↦
      let is = ap (option_map (λ (held : Held). held.in_flight)) (item_of-without_other held_number m n files other) in
      (other, subst (λ (o : Option Bool). IsSome o) is there)
]

all-before : (n : ℕ) (numbers : List ℕ) (files : List Held) → All (λ m. IsSome (flight_of m (without_file n files))) numbers
    → All (λ m. IsSome (flight_of m files)) numbers × (is_number_among numbers n ≡ false)
all-before n [] files there = (All-nil (λ m. IsSome (flight_of m files)), refl)
all-before n (m ∷ numbers) files there =
    let here = there-before n m files (All-head (λ k. IsSome (flight_of k (without_file n files))) m numbers there) in
    let rest = all-before n numbers files (All-tail (λ k. IsSome (flight_of k (without_file n files))) m numbers there) in
    let no : (m == n) ≡ false = ne_eqb m n here.0 in
    (All-cons (λ k. IsSome (flight_of k files)) m numbers here.1 rest.0, rw no rest.1)

pub all-leave : (place : ℕ) (numbers : List ℕ) (queues : List QueueState) (queue : QueueState) → slice_get queues place ≡ Some queue → HasFiles place numbers queues
    → All (λ n. IsSome (flight_of n queue.files)) numbers × (are_distinct numbers ≡ true)
all-leave place [] queues queue got has = (All-nil (λ n. IsSome (flight_of n queue.files)), refl)
all-leave place (n ∷ numbers) queues queue got has =
    let rest = all-leave place numbers (changed_at place (queue_without n) queues) (queue_without n queue) (got-here place (queue_without n) queues queue got) has.1 in
    let before = all-before n numbers queue.files rest.0 in
    (All-cons (λ m. IsSome (flight_of m queue.files)) n numbers (has.0.there queue got) before.0, rw (before.1) rest.1)
