-- By views that see the same as the queues of a state, a flow is as quiet, and as blocked.
use Rattle.std.proofs.Common.{◌≡◌, ℕ, ◌==◌, cond, List, length, sym}
use Rattle.std.specs.Prelude.{◌&&◌, ◌||◌, not, nat_lt, filter, is_some, option_map, None}
use Rattle.std.specs.List.{list_all, list_any, enumerate_from, find}
use Rattle.machine_model.specs.declared.flow.Connection.{Connection}
use Rattle.machine_model.specs.declared.flow.Flow.{Flow}
use Rattle.machine_model.specs.declared.flow.Processor.{Processor}
use Rattle.machine_model.specs.Files.{queues_of}
use Rattle.machine_model.specs.Kinds.{take_rule_of}
use Rattle.machine_model.specs.Quiet.{gives_a_pick, has_source, holds_back_any, wants, wanting}
use Rattle.machine_model.specs.State.{State, World}
use Rattle.machine_model.specs.Taking.{picks}
use Rattle.machine_model.specs.View.{QueueView}
use Rattle.engine_queues.specs.Laws.{BlockedIsSeen, QuietIsSeen, SeesTheSame, wants_by}

module _ (flow : Flow) (queues : ℕ → QueueView) (state : State) (world : World) (moment : ℕ) (same : SeesTheSame flow queues (queues_of state)) where
  gives_same : (place : ℕ) (processor : Processor) (c : ℕ × Connection) → gives_a_pick (queues_of state) moment place processor c ≡ gives_a_pick queues moment place processor c
  gives_same place processor c =
      let eligible = sym (same.eligible c.0 moment c.1.order c.1.limits) in
      λ i. (c.1.target == place) && is_some (picks (take_rule_of processor.kind) (eligible i))

  wants_same : (p : ℕ × Processor) → wants flow state world moment p ≡ wants_by flow queues state world moment p
  wants_same p = λ i. has_source p.1.kind p.0 state world || list_any (λ c. gives_same p.0 p.1 c i) (enumerate_from 0 flow.connections)

  wanting_same : wanting flow state world moment ≡ filter (wants_by flow queues state world moment) (enumerate_from 0 flow.processors)
  wanting_same = λ i. filter (λ p. wants_same p i) (enumerate_from 0 flow.processors)

  held_same : (processors : List (ℕ × Processor)) (c : ℕ × Connection) → holds_back_any (queues_of state) processors c ≡ holds_back_any queues processors c
  held_same processors c =
      let full = sym (same.full c.0 c.1.limits) in
      λ i. list_any (λ p. (c.1.source == p.0) && full i) processors

pub quiet-seen : QuietIsSeen
quiet-seen flow queues state world moment same =
    let due = sym (same.due moment) in
    λ i. due i && not (list_any (λ p. wants_same flow queues state world moment same p i) (enumerate_from 0 flow.processors))

pub blocked-seen : BlockedIsSeen
blocked-seen flow queues state world moment same =
    let due = sym (same.due moment) in
    let wanting = wanting_same flow queues state world moment same in
    λ i. cond (due i && nat_lt 0 (length (wanting i)) && list_all (λ p. sym (same.held_back p) i) (wanting i))
    (option_map (λ c. c.0) (find (λ c. held_same flow queues state world moment same (wanting i) c i) (enumerate_from 0 flow.connections))) None
