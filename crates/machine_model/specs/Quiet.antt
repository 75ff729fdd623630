-- When a flow has nothing left to do, and when it can't go on. Both speak of a state in which no session runs.
use Rattle.std.specs.Prelude.{ℕ, ◌==◌, ◌&&◌, ◌||◌, not, nat_lt, nat_le, Bool, false, List, length, filter, Option, None, is_none, is_some, option_map, slice_index, if◌then◌else◌}
use Rattle.std.specs.List.{list_all, list_any, enumerate_from, find}
use Rattle.machine_model.specs.declared.flow.Connection.{Connection}
use Rattle.machine_model.specs.declared.flow.Flow.{Flow}
use Rattle.machine_model.specs.declared.flow.Processor.{Processor}
use Rattle.machine_model.specs.declared.flow.QueueLimits.{QueueLimits}
use Rattle.machine_model.specs.declared.kind.Kind.{Kind}
use Rattle.machine_model.specs.declared.kind.Kind.TheVariants.{GetFile, GenerateFlowFile}
use Rattle.machine_model.specs.State.{State, World}
use Rattle.machine_model.specs.Due.{due_swap_in, due_swap_out, expired_numbers}
use Rattle.machine_model.specs.Files.{queues_of}
use Rattle.machine_model.specs.Kinds.{take_rule_of}
use Rattle.machine_model.specs.Order.{eligible_files}
use Rattle.machine_model.specs.Stepping.{may_get}
use Rattle.machine_model.specs.Taking.{picks}
use Rattle.machine_model.specs.View.{QueueView, is_penalised, file_count, byte_count}

-- its processor's rule picks from a connection that ends at it
abbrev pub gives_a_pick : (ℕ → QueueView) → ℕ → ℕ → Processor → ℕ × Connection → Bool
gives_a_pick queues moment place processor (c, connection) =
    (connection.target == place)
    && is_some (picks (take_rule_of processor.kind)
    (eligible_files connection.order connection.limits moment (queues c).active))

-- a source has something to make or to take
abbrev pub has_source : Kind → (place : ℕ) → State → World → Bool
has_source (GetFile filter) place state world = list_any (may_get filter world) world.left
has_source (GenerateFlowFile count text) place state world = nat_lt (slice_index state.counts place) count
has_source _ place state world = false

abbrev pub wants : Flow → State → World → ℕ → ℕ × Processor → Bool
wants flow state world moment (place, processor) =
    has_source processor.kind place state world
    || list_any (gives_a_pick (queues_of state) moment place processor) (enumerate_from 0 flow.connections)

-- a queue has reached one of its thresholds, with the files in flight and those that are swapped out
abbrev pub is_full : QueueLimits → QueueView → Bool
is_full limits queue =
    (nat_lt 0 limits.objects && nat_le limits.objects (file_count queue))
    || (nat_lt 0 limits.bytes && nat_le limits.bytes (byte_count queue))

-- no file of a queue has expired or waits for its penalty's end
abbrev pub is_nothing_due_in : (ℕ → QueueView) → ℕ → ℕ × Connection → Bool
is_nothing_due_in queues moment (place, connection) =
    let queue = queues place in
    (length (expired_numbers connection.limits moment queue.active) == 0)
    && list_all (λ file. not (is_penalised moment file)) queue.active

abbrev pub nothing_due : Flow → (ℕ → QueueView) → ℕ → Bool
nothing_due flow queues moment = list_all (is_nothing_due_in queues moment) (enumerate_from 0 flow.connections)

-- no batch has to be swapped out or in
abbrev pub no_swap_due : Flow → (ℕ → QueueView) → Bool
no_swap_due flow queues = is_none (due_swap_out flow queues) && is_none (due_swap_in flow queues)

-- nothing waits, and no processor wants to work
abbrev pub quiet_but_for_swaps : Flow → State → World → ℕ → Bool
quiet_but_for_swaps flow state world moment =
    nothing_due flow (queues_of state) moment
    && not (list_any (wants flow state world moment) (enumerate_from 0 flow.processors))

abbrev pub quiet : Flow → State → World → ℕ → Bool
quiet flow state world moment = no_swap_due flow (queues_of state) && quiet_but_for_swaps flow state world moment

-- a full connection that leaves a processor
abbrev pub holds_back : (ℕ → QueueView) → ℕ → ℕ × Connection → Bool
holds_back queues processor (place, connection) =
    (connection.source == processor) && is_full connection.limits (queues place)

abbrev pub is_held_back : Flow → (ℕ → QueueView) → ℕ × Processor → Bool
is_held_back flow queues (place, processor) = list_any (holds_back queues place) (enumerate_from 0 flow.connections)

abbrev pub wanting : Flow → State → World → ℕ → List (ℕ × Processor)
wanting flow state world moment = filter (wants flow state world moment) (enumerate_from 0 flow.processors)

abbrev pub holds_back_any : (ℕ → QueueView) → List (ℕ × Processor) → ℕ × Connection → Bool
holds_back_any queues processors connection =
    list_any (λ processor. holds_back queues processor.0 connection) processors

-- Nothing waits, some processor wants to work, and each that does is held back by a full connection. This is the place
-- of the first connection that holds one back.
abbrev pub blocked_but_for_swaps : Flow → State → World → ℕ → Option ℕ
blocked_but_for_swaps flow state world moment =
    let processors = wanting flow state world moment in
    if nothing_due flow (queues_of state) moment && nat_lt 0 (length processors)
    && list_all (is_held_back flow (queues_of state)) processors
    then option_map (λ c. c.0) (find (holds_back_any (queues_of state) processors) (enumerate_from 0 flow.connections))
    else None

abbrev pub blocked : Flow → State → World → ℕ → Option ℕ
blocked flow state world moment =
    if no_swap_due flow (queues_of state) then blocked_but_for_swaps flow state world moment else None
