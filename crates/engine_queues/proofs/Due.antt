-- What the queues of a flow owe, told by the queues themselves.
use Rattle.std.proofs.Common.{◌≡◌, ◌≢◌, ℕ, ◌+◌, ◌<◌, ◌==◌, ◌&&◌, ◌||◌, Bool, true, false, cond, List, [], ◌∷◌, length, map, inl, inr, refl, sym, ap, ◌∙◌, zero-add, arith}
use Rattle.std.specs.Prelude.{Option, Some, None, find, is_some, slice_get, option_map}
use Rattle.std.specs.List.{list_any, enumerate_from}
use Rattle.std.specs.Option.{option_map_or}
use Rattle.std.proofs.lemmas.Bool.{true≢false, cases_eq, eq-eqb, ne_eqb}
use Rattle.std.proofs.lemmas.Option.{slice_get_cases, slice_get_within}
use Rattle.machine_model.specs.declared.flow.Connection.{Connection}
use Rattle.machine_model.specs.declared.flow.Flow.{Flow}
use Rattle.machine_model.specs.declared.flow.Processor.{Processor}
use Rattle.machine_model.specs.declared.kind.TakeRule.{TakeRule}
use Rattle.machine_model.specs.Due.{numbers_of, expired_numbers, at_place, first_due, some_numbers, due_expiry}
use Rattle.machine_model.specs.Kinds.{take_rule_of}
use Rattle.machine_model.specs.Order.{eligible_files}
use Rattle.machine_model.specs.Quiet.{gives_a_pick, holds_back_any, is_full}
use Rattle.machine_model.specs.Taking.{picks}
use Rattle.machine_model.specs.View.{QueueView, FileView}
use Rattle.flow_queue.specs.Queue.{QueueState, queue_as_seen, picked, picked_numbers}
use Rattle.engine_queues.specs.Queues.{queue_seen}
use Rattle.engine_queues.specs.Picking.{IsOf, AreOf, picked_from, first_pick}
use Rattle.engine_queues.proofs.First.{none-owes, first-owes, none-found, first-found, any-some}

pub seen-at : (queues : List QueueState) (place : ℕ) (queue : QueueState) → slice_get queues place ≡ Some queue → queue_seen queues place ≡ queue_as_seen queue
seen-at queues place queue at = ap (λ q. option_map_or queue_as_seen q (record { active = []; batches = [] })) at

-- there is a queue for a connection
pub queue-for : (flow : Flow) (queues : List QueueState) → AreOf flow queues → (place : ℕ) (connection : Connection) → slice_get flow.connections place ≡ Some connection
    → (queue : QueueState) × (slice_get queues place ≡ Some queue) × IsOf connection queue
queue-for flow queues are place connection at =
    let within = slice_get_within flow.connections place connection at in
    elim (slice_get_cases queues place).1 [
      | inl is ↦ (is.0, is.2, are.each place connection is.0 at is.2)
      | inr past ↦ absurd (omega (arith, within, past.0, are.count))
    ]

-- there is a connection for a queue
pub connection-for : (flow : Flow) (queues : List QueueState) → AreOf flow queues → (place : ℕ) (queue : QueueState) → slice_get queues place ≡ Some queue
    → (connection : Connection) × (slice_get flow.connections place ≡ Some connection) × IsOf connection queue
connection-for flow queues are place queue there =
    let within = slice_get_within queues place queue there in
    elim (slice_get_cases flow.connections place).1 [
      | inl is ↦ (is.0, is.2, are.each place is.0 queue is.2 there)
      | inr past ↦ absurd (omega (arith, within, past.0, are.count))
    ]

-- ---- what is owed

-- the queue at a place owes nothing
abbrev pub OwesNothing : {Y : Type 0} → (Connection → QueueView → Option Y) → Flow → List QueueState → ℕ → Type 0
OwesNothing owes flow queues place =
    (connection : Connection) (queue : QueueState) → slice_get flow.connections place ≡ Some connection → slice_get queues place ≡ Some queue → owes connection (queue_as_seen queue) ≡ None

module _ (flow : Flow) (queues : List QueueState) (are : AreOf flow queues) {Y : Type 0} (owes : Connection → QueueView → Option Y) where
  abbrev from_queue : ℕ → Connection → Option Y
  from_queue place connection = owes connection (queue_seen queues place)

  owes-nothing : (place : ℕ) (connection : Connection) → OwesNothing owes flow queues place → slice_get flow.connections place ≡ Some connection → from_queue (0 + place) connection ≡ None
  owes-nothing place connection none at =
      let of = queue-for flow queues are place connection at in
      ap (λ n. from_queue n connection) (zero-add place) ∙ ap (owes connection) (seen-at queues place of.0 of.1) ∙ none connection of.0 at of.1

  pub none-due : ((place : ℕ) → place < length flow.connections → OwesNothing owes flow queues place) → first_due owes flow (queue_seen queues) ≡ None
  none-due none = none-owes from_queue 0 flow.connections (λ k connection at. owes-nothing k connection (none k (slice_get_within flow.connections k connection at)) at)

  pub first-due : (place : ℕ) (connection : Connection) (queue : QueueState) (y : Y) → slice_get flow.connections place ≡ Some connection → slice_get queues place ≡ Some queue
      → owes connection (queue_as_seen queue) ≡ Some y → ((k : ℕ) → k < place → OwesNothing owes flow queues k) → first_due owes flow (queue_seen queues) ≡ Some (place, y)
  first-due place connection queue y at there is before =
      let due : from_queue (0 + place) connection ≡ Some y = ap (λ n. from_queue n connection) (zero-add place) ∙ ap (owes connection) (seen-at queues place queue there) ∙ is in
      first-owes from_queue 0 place flow.connections connection y at due (λ k other lt is_there. owes-nothing k other (before k lt) is_there)
      ∙ ap (λ n. Some (n, y)) (zero-add place)

-- ---- expired files

abbrev expires : ℕ → Connection → QueueView → Option (List ℕ)
expires moment connection queue = some_numbers (expired_numbers connection.limits moment queue.active)

-- no file of the queue at a place has expired
abbrev pub HasNoneExpired : ℕ → List QueueState → ℕ → Type 0
HasNoneExpired moment queues place = (queue : QueueState) → slice_get queues place ≡ Some queue → expired_numbers queue.limits moment (queue_as_seen queue).active ≡ []

module _ (moment : ℕ) (queues : List QueueState) (flow : Flow) (are : AreOf flow queues) where
  none_of : (place : ℕ) → HasNoneExpired moment queues place → OwesNothing (expires moment) flow queues place
  none_of place none connection queue at there =
      ap (λ limits. some_numbers (expired_numbers limits moment (queue_as_seen queue).active)) (sym (are.each place connection queue at there).limits) ∙ ap some_numbers (none queue there)

  pub no-expiry : ((place : ℕ) → place < length queues → HasNoneExpired moment queues place) → due_expiry flow (queue_seen queues) moment ≡ None
  no-expiry none = none-due flow queues are (expires moment) (λ place lt. none_of place (none place (omega (arith, lt, are.count))))

  some-are : (numbers : List ℕ) → numbers ≢ [] → some_numbers numbers ≡ Some numbers
  some-are [] some = absurd (some refl)
  some-are (n ∷ ns) some = ap (λ b. cond b None (Some (n ∷ ns))) (ne_eqb (length (n ∷ ns)) 0 (λ e. omega (arith, e)))

  pub first-expiry : (place : ℕ) (queue : QueueState) (numbers : List ℕ) → slice_get queues place ≡ Some queue → numbers ≡ expired_numbers queue.limits moment (queue_as_seen queue).active → numbers ≢ []
      → ((k : ℕ) → k < place → HasNoneExpired moment queues k) → due_expiry flow (queue_seen queues) moment ≡ Some (place, numbers)
  first-expiry place queue numbers there is some before =
      let of = connection-for flow queues are place queue there in
      first-due flow queues are (expires moment) place of.0 queue numbers of.1 there
      (ap (λ limits. some_numbers (expired_numbers limits moment (queue_as_seen queue).active)) (sym of.2.limits) ∙ ap some_numbers (sym is) ∙ some-are numbers some)
      (λ k lt. none_of k (before k lt))

-- ---- picks

picks-some : (o : Option (List FileView)) (numbers : List ℕ) → is_some o ≡ true → numbers ≡ picked_numbers o → option_map numbers_of o ≡ Some numbers
picks-some None numbers is same = absurd (true≢false (sym is))
picks-some (Some files) numbers is same = ap (λ n. Some n) (sym same)

picks-none : (o : Option (List FileView)) → is_some o ≡ false → option_map numbers_of o ≡ None
picks-none None is = refl
picks-none (Some files) is = absurd (true≢false is)

module _ (rule : TakeRule) (processor moment : ℕ) (connection : Connection) (queue : QueueState) (of : IsOf connection queue) where
  same_pick : picked rule moment queue ≡ picks rule (eligible_files connection.order connection.limits moment (queue_as_seen queue).active)
  same_pick = ap (λ order. picks rule (eligible_files order queue.limits moment (queue_as_seen queue).active)) of.order ∙ ap (λ limits. picks rule (eligible_files connection.order limits moment (queue_as_seen queue).active)) of.limits

  pub picked-here : (numbers : List ℕ) → (connection.target == processor) ≡ true → is_some (picked rule moment queue) ≡ true → numbers ≡ picked_numbers (picked rule moment queue)
      → picked_from rule processor moment connection (queue_as_seen queue) ≡ Some numbers
  picked-here numbers ends some is = rw ends (ap (option_map numbers_of) (sym same_pick) ∙ picks-some (picked rule moment queue) numbers some is)

  pub none-here : (connection.target == processor) ≡ true → is_some (picked rule moment queue) ≡ false → picked_from rule processor moment connection (queue_as_seen queue) ≡ None
  none-here ends none = rw ends (ap (option_map numbers_of) (sym same_pick) ∙ picks-none (picked rule moment queue) none)

pub none-elsewhere : (rule : TakeRule) (processor moment : ℕ) (connection : Connection) (view : QueueView) → (connection.target == processor) ≡ false → picked_from rule processor moment connection view ≡ None
none-elsewhere rule processor moment connection view ends = rw ends refl

gives : (queues : ℕ → QueueView) (moment place : ℕ) (processor : Processor) (c : ℕ × Connection)
    → is_some (at_place (picked_from (take_rule_of processor.kind) place moment) queues c) ≡ gives_a_pick queues moment place processor c
gives queues moment place processor c =
    let o = picks (take_rule_of processor.kind) (eligible_files c.1.order c.1.limits moment (queues c.0).active) in
    elim (c.1.target == place) as (λ b. is_some {T = ℕ × List ℕ} (option_map (λ x. (c.0, x)) (cond b (option_map numbers_of o) None)) ≡ (b && is_some o)) [ true ↦ mapped o | false ↦ refl ]
  where
    mapped : (o : Option (List FileView)) → is_some {T = ℕ × List ℕ} (option_map (λ x. (c.0, x)) (option_map numbers_of o)) ≡ is_some o
    mapped None = refl
    mapped (Some files) = refl

pub pick-given : (flow : Flow) (queues : ℕ → QueueView) (moment place : ℕ) (processor : Processor)
    → is_some (first_pick flow queues moment (place, processor)) ≡ list_any (gives_a_pick queues moment place processor) (enumerate_from 0 flow.connections)
pick-given flow queues moment place processor =
    any-some (at_place (picked_from (take_rule_of processor.kind) place moment) queues) (gives_a_pick queues moment place processor) (gives queues moment place processor) (enumerate_from 0 flow.connections)

-- ---- full connections

eq-sym : (m n : ℕ) → (m == n) ≡ (n == m)
eq-sym m n =
    elim (cases_eq m n) [
      | inl same ↦ eq-eqb m n same ∙ sym (eq-eqb n m (sym same))
      | inr differ ↦ ne_eqb m n differ ∙ sym (ne_eqb n m (λ e. differ (sym e)))
    ]

-- the queue of a connection is full, and the connection leaves one of these processors
abbrev pub holds_one_of : List ℕ → Connection → QueueState → Bool
holds_one_of processors connection queue = list_any (λ p. p == connection.source) processors && is_full queue.limits (queue_as_seen queue)

-- the connection at a place doesn't
abbrev pub HoldsNone : List ℕ → Flow → List QueueState → ℕ → Type 0
HoldsNone processors flow queues place =
    (connection : Connection) (queue : QueueState) → slice_get flow.connections place ≡ Some connection → slice_get queues place ≡ Some queue → holds_one_of processors connection queue ≡ false

and_or : (a b c : Bool) → ((a && c) || (b && c)) ≡ ((a || b) && c)
and_or true b true = refl
and_or true b false = elim b as (λ b. (false || (b && false)) ≡ false) [ true ↦ refl | false ↦ refl ]
and_or false b c = refl

one-of : (list : List (ℕ × Processor)) (source : ℕ) (full : Bool) → list_any (λ p. (source == p.0) && full) list ≡ (list_any (λ p. p == source) (map (λ p. p.0) list) && full)
one-of [] source full = refl
one-of (p ∷ list) source full =
    ap (λ b. ((source == p.0) && full) || b) (one-of list source full) ∙ and_or (source == p.0) _ full
    ∙ ap (λ b. (b || list_any (λ p. p == source) (map (λ p. p.0) list)) && full) (eq-sym source p.0)

pub not-one-of : (processors : List ℕ) (connection : Connection) (queue : QueueState) → list_any (λ p. p == connection.source) processors ≡ false → holds_one_of processors connection queue ≡ false
not-one-of processors connection queue none = ap (λ b. b && is_full queue.limits (queue_as_seen queue)) none

pub not-full : (processors : List ℕ) (connection : Connection) (queue : QueueState) → is_full queue.limits (queue_as_seen queue) ≡ false → holds_one_of processors connection queue ≡ false
not-full processors connection queue none = ap (λ b. list_any (λ p. p == connection.source) processors && b) none ∙ and_false (list_any (λ p. p == connection.source) processors)
  where
    and_false : (b : Bool) → (b && false) ≡ false
    and_false true = refl
    and_false false = refl

module _ (flow : Flow) (queues : List QueueState) (are : AreOf flow queues) (processors : List ℕ) (list : List (ℕ × Processor)) (those : map (λ p. p.0) list ≡ processors) where
  abbrev holds : ℕ × Connection → Bool
  holds = holds_back_any (queue_seen queues) list

  here : (place : ℕ) (connection : Connection) (queue : QueueState) → slice_get flow.connections place ≡ Some connection → slice_get queues place ≡ Some queue
      → holds (0 + place, connection) ≡ holds_one_of processors connection queue
  here place connection queue at there =
      ap (λ n. holds (n, connection)) (zero-add place)
      ∙ ap (λ view. list_any (λ p. (connection.source == p.0) && is_full connection.limits view) list) (seen-at queues place queue there)
      ∙ ap (λ limits. list_any (λ p. (connection.source == p.0) && is_full limits (queue_as_seen queue)) list) (sym (are.each place connection queue at there).limits)
      ∙ one-of list connection.source (is_full queue.limits (queue_as_seen queue))
      ∙ ap (λ ps. holds_one_of ps connection queue) those

  pub none-holds : ((k : ℕ) → HoldsNone processors flow queues k) → find holds (enumerate_from 0 flow.connections) ≡ None
  none-holds none =
      none-found holds 0 flow.connections (λ k connection at. let of = queue-for flow queues are k connection at in here k connection of.0 at of.1 ∙ none k connection of.0 at of.1)

  pub first-holds : (place : ℕ) (connection : Connection) (queue : QueueState) → slice_get flow.connections place ≡ Some connection → slice_get queues place ≡ Some queue
      → holds_one_of processors connection queue ≡ true → ((k : ℕ) → k < place → HoldsNone processors flow queues k)
      → option_map (λ c. c.0) (find holds (enumerate_from 0 flow.connections)) ≡ Some place
  first-holds place connection queue at there is before =
      ap (option_map (λ c. c.0)) (first-found holds 0 place flow.connections connection at (here place connection queue at there ∙ is)
      (λ k other lt at_k. let of = queue-for flow queues are k other at_k in here k other of.0 at_k of.1 ∙ before k lt other of.0 at_k of.1))
      ∙ ap (λ n. Some n) (zero-add place)
