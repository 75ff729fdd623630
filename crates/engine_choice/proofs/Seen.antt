-- By views that see the same the same session comes next.
use Rattle.std.proofs.Common.{◌≡◌, ℕ, ◌==◌, ◌&&◌, not, nat_lt, cond, ap}
use Rattle.std.specs.Prelude.{None, find, is_some, option_map, option_and_then, slice_get, slice_index}
use Rattle.std.specs.List.{enumerate_from, filter_map}
use Rattle.machine_model.specs.declared.flow.Connection.{Connection}
use Rattle.machine_model.specs.declared.flow.Flow.{Flow}
use Rattle.machine_model.specs.declared.flow.Processor.{Processor}
use Rattle.machine_model.specs.Due.{at_place, numbers_of}
use Rattle.machine_model.specs.Kinds.{take_rule_of}
use Rattle.machine_model.specs.Taking.{picks}
use Rattle.machine_model.specs.View.{QueueView}
use Rattle.engine_queues.specs.Picking.{first_pick, picked_from}
use Rattle.engine_queues.specs.Laws.{SeesTheSame}
use Rattle.engine_choice.specs.Choice.{Known, choice_at, choice_of, in_turn, is_ready, may_begin, taking_by, taking_of}
use Rattle.engine_choice.specs.Laws.{ChoicesAreSeen}

module _ (flow : Flow) (known : Known) (other : ℕ → QueueView) (same : SeesTheSame flow known.queues other) where
  abbrev so : Known
  so = record known { queues = other }

  -- of a connection the same files are picked, ..
  picked-same : (p : ℕ × Processor) (c : ℕ × Connection)
      → at_place (picked_from (take_rule_of p.1.kind) p.0 known.moment) known.queues c ≡ at_place (picked_from (take_rule_of p.1.kind) p.0 known.moment) other c
  picked-same p c =
      let eligible = same.eligible c.0 known.moment c.1.order c.1.limits in
      λ i. option_map (λ x. (c.0, x)) (cond (c.1.target == p.0) (option_map numbers_of (picks (take_rule_of p.1.kind) (eligible i))) None)

  -- .. so it is the same first connection
  pick-same : (p : ℕ × Processor) → first_pick flow known.queues known.moment p ≡ first_pick flow other known.moment p
  pick-same p = λ i. slice_get (filter_map (λ c. picked-same p c i) (enumerate_from 0 flow.connections)) 0

  taking-same : (p : ℕ × Processor) → taking_of flow known p ≡ taking_of flow so p
  taking-same p = ap (taking_by p.1.kind known.coming (slice_index known.counts p.0) (slice_index known.busy p.0)) (pick-same p)

  begins-same : (p : ℕ × Processor) → may_begin flow known p ≡ may_begin flow so p
  begins-same p = λ i. nat_lt (slice_index known.busy p.0) p.1.tasks && not (same.held_back p i)

  ready-same : (p : ℕ × Processor) → is_ready flow known p ≡ is_ready flow so p
  ready-same p = λ i. is_some (taking-same p i) && begins-same p i

  choice-same : (p : ℕ × Processor) → choice_of flow known p ≡ choice_of flow so p
  choice-same p = λ i. cond (begins-same p i) (option_map (choice_at p.0) (taking-same p i)) None

pub choices-are-seen : ChoicesAreSeen
choices-are-seen flow known other last same =
    λ i. option_and_then (λ p. choice-same flow known other same p i)
    (find (λ p. ready-same flow known other same p i) (in_turn last (enumerate_from 0 flow.processors)))
