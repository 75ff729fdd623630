-- What a walk over a processor's own connections tells of all connections of the flow.
use Rattle.std.proofs.Common.{◌≡◌, ℕ, ◌+◌, ◌<◌, ◌&&◌, Bool, true, false, length, get_or, refl, sym, ap, subst, ◌∙◌, zero-add, arith}
use borrow.Author.Count.{below_more}
use Rattle.std.specs.Prelude.{List, Some, None, is_some, slice_get}
use Rattle.std.proofs.lemmas.Option.{slice_get-get_or, slice_get_within}
use Rattle.machine_model.specs.declared.flow.Connection.{Connection}
use Rattle.machine_model.specs.declared.flow.Flow.{Flow}
use Rattle.machine_model.specs.declared.flow.Processor.{Processor}
use Rattle.machine_model.specs.declared.kind.TakeRule.{TakeRule}
use Rattle.machine_model.specs.Due.{first_due}
use Rattle.machine_model.specs.Quiet.{holds_back, is_held_back, is_full}
use Rattle.flow_queue.specs.Queue.{QueueState, queue_as_seen, picked}
use Rattle.machine_model.specs.RouteOnAttribute.{places_where}
use Rattle.engine_queues.specs.Linked.{ends_at, starts_at}
use Rattle.engine_queues.specs.Picking.{AreOf, picked_from}
use Rattle.engine_queues.specs.Queues.{queue_seen}
use Rattle.engine_queues.proofs.Due.{OwesNothing, first-due, none-due, none-elsewhere, none-here, queue-for, seen-at}
use Rattle.engine_queues.proofs.First.{any-none, any-there}
use Rattle.engine_queues.proofs.Linking.{walked-all, walked-at, walked-before}

-- the queue at a place isn't full
abbrev pub HasRoom : List QueueState → ℕ → Type 0
HasRoom queues place = (queue : QueueState) → slice_get queues place ≡ Some queue → is_full queue.limits (queue_as_seen queue) ≡ false

-- a walk's next place, which is that of a queue
pub walked-here : (test : Connection → Bool) (connections : List Connection) (walk : List ℕ) (n : ℕ) → walk ≡ places_where test connections → n < length walk
    → slice_get (places_where test connections) n ≡ Some (get_or walk n 0)
walked-here test connections walk n is lt = ap (λ l. slice_get l n) (sym is) ∙ slice_get-get_or walk n 0 lt

pub walked-within : (flow : Flow) (queues : List QueueState) → AreOf flow queues → (test : Connection → Bool) (n place : ℕ) → slice_get (places_where test flow.connections) n ≡ Some place → place < length queues
walked-within flow queues are test n place walked =
    let at = walked-at test flow.connections n place walked in
    omega (arith, slice_get_within flow.connections place at.0 at.1, are.count)

-- what holds of the places walked so far, and of the next one, holds of those walked then
pub walked-next : (test : Connection → Bool) (connections : List Connection) (P : ℕ → Type 0) (n place : ℕ) → slice_get (places_where test connections) n ≡ Some place
    → ((k other : ℕ) → k < n → slice_get (places_where test connections) k ≡ Some other → P other) → P place
    → (k other : ℕ) → k < n + 1 → slice_get (places_where test connections) k ≡ Some other → P other
walked-next test connections P n place at before here =
    let all = below_more (λ (k : ℕ). (other : ℕ) → slice_get (places_where test connections) k ≡ Some other → P other) n (λ k lt other there. before k other lt there)
    (λ other there. let same : place ≡ other = cc (at, there) in subst P same here) in
    λ k other lt there. all k lt other there

module _ (flow : Flow) (queues : List QueueState) (are : AreOf flow queues) (processor : ℕ) where
  -- ---- picks, of the connections that end at a processor

  module _ (rule : TakeRule) (moment : ℕ) where
    abbrev Nothing : ℕ → Type 0
    Nothing = OwesNothing (picked_from rule processor moment) flow queues

    abbrev incoming : List ℕ
    incoming = places_where (ends_at processor) flow.connections

    either : (place : ℕ) → ((connection : Connection) → slice_get flow.connections place ≡ Some connection → ends_at processor connection ≡ true → Nothing place) → Nothing place
    either place each connection queue at there = by_end (ends_at processor connection) refl
      where
        by_end : (b : Bool) → ends_at processor connection ≡ b → picked_from rule processor moment connection (queue_as_seen queue) ≡ None
        by_end true is = each connection at is connection queue at there
        by_end false is = none-elsewhere rule processor moment connection (queue_as_seen queue) is

    pub first-walked : (n place : ℕ) (queue : QueueState) (numbers : List ℕ) → slice_get incoming n ≡ Some place → slice_get queues place ≡ Some queue
        → ((connection : Connection) → slice_get flow.connections place ≡ Some connection → ends_at processor connection ≡ true → picked_from rule processor moment connection (queue_as_seen queue) ≡ Some numbers)
        → ((k other : ℕ) → k < n → slice_get incoming k ≡ Some other → Nothing other)
        → first_due (picked_from rule processor moment) flow (queue_seen queues) ≡ Some (place, numbers)
    first-walked n place queue numbers walked there picks before =
        let at = walked-at (ends_at processor) flow.connections n place walked in
        first-due flow queues are (picked_from rule processor moment) place at.0 queue numbers at.1 there (picks at.0 at.1 at.2)
        (λ k lt. either k (λ connection here ends. walked-before (ends_at processor) flow.connections Nothing n place walked before k connection lt here ends))

    -- the queue of a connection that was walked, and from which nothing is picked
    pub nothing-here : (n place : ℕ) (queue : QueueState) → slice_get incoming n ≡ Some place → slice_get queues place ≡ Some queue → is_some (picked rule moment queue) ≡ false → Nothing place
    nothing-here n place queue walked there none connection other at there_other =
        let passed = walked-at (ends_at processor) flow.connections n place walked in
        let same : passed.0 ≡ connection = cc (passed.1, at) in
        let same_queue : queue ≡ other = cc (there, there_other) in
        let ends : ends_at processor connection ≡ true = subst (λ (c : Connection). ends_at processor c ≡ true) same passed.2 in
        none-here rule processor moment connection other (are.each place connection other at there_other) ends (subst (λ (q : QueueState). is_some (picked rule moment q) ≡ false) same_queue none)

    pub none-walked : ((k other : ℕ) → slice_get incoming k ≡ Some other → Nothing other) → first_due (picked_from rule processor moment) flow (queue_seen queues) ≡ None
    none-walked each =
        none-due flow queues are (picked_from rule processor moment) (λ k lt. either k (λ connection here ends. walked-all (ends_at processor) flow.connections Nothing each k connection here ends))

  -- ---- full connections, of those that leave a processor

  abbrev outgoing : List ℕ
  outgoing = places_where (starts_at processor) flow.connections

  holds-here : (place : ℕ) (connection : Connection) (queue : QueueState) (b : Bool) → slice_get flow.connections place ≡ Some connection → slice_get queues place ≡ Some queue
      → starts_at processor connection ≡ true → is_full queue.limits (queue_as_seen queue) ≡ b → holds_back (queue_seen queues) processor (0 + place, connection) ≡ b
  holds-here place connection queue b at there is full =
      ap (λ n. holds_back (queue_seen queues) processor (n, connection)) (zero-add place)
      ∙ ap (λ l. l && is_full connection.limits (queue_seen queues place)) is
      ∙ ap (is_full connection.limits) (seen-at queues place queue there)
      ∙ ap (λ limits. is_full limits (queue_as_seen queue)) (sym (are.each place connection queue at there).limits) ∙ full

  pub is-held : (n place : ℕ) (queue : QueueState) (p : Processor) → slice_get outgoing n ≡ Some place → slice_get queues place ≡ Some queue → is_full queue.limits (queue_as_seen queue) ≡ true
      → is_held_back flow (queue_seen queues) (processor, p) ≡ true
  is-held n place queue p walked there full =
      let at = walked-at (starts_at processor) flow.connections n place walked in
      any-there (holds_back (queue_seen queues) processor) 0 place flow.connections at.0 at.1 (holds-here place at.0 queue true at.1 there at.2 full)

  pub is-free : (p : Processor) → ((k other : ℕ) → slice_get outgoing k ≡ Some other → HasRoom queues other) → is_held_back flow (queue_seen queues) (processor, p) ≡ false
  is-free p each = any-none (holds_back (queue_seen queues) processor) 0 flow.connections (λ k connection at. by_source k connection at (starts_at processor connection) refl)
    where
      by_source : (k : ℕ) (connection : Connection) → slice_get flow.connections k ≡ Some connection → (b : Bool) → starts_at processor connection ≡ b → holds_back (queue_seen queues) processor (0 + k, connection) ≡ false
      by_source k connection at true is =
          let of = queue-for flow queues are k connection at in
          holds-here k connection of.0 false at of.1 is (walked-all (starts_at processor) flow.connections (HasRoom queues) each k connection at is of.0 of.1)
      by_source k connection at false is = ap (λ l. l && is_full connection.limits (queue_seen queues (0 + k))) is
