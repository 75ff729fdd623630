-- The penalties of the files in the queues of a flow.
use Rattle.std.proofs.Common.{◌≡◌, ℕ, suc, ◌+◌, List, [], ◌∷◌, ◌++◌, length, refl, sym, ap, ◌∙◌, arith}
use Rattle.std.specs.Prelude.{Option, Some, None, slice_get}
use Rattle.std.specs.List.{enumerate_from, flat_map}
use Rattle.std.specs.Option.{option_map_or}
use Rattle.machine_model.specs.declared.flow.Connection.{Connection}
use Rattle.machine_model.specs.declared.flow.Flow.{Flow}
use Rattle.flow_queue.specs.Queue.{QueueState, next_penalty_end, queue_as_seen}
use Rattle.engine_queues.specs.Queues.{queue_seen}
use Rattle.engine_choice.specs.Choice.{first_penalty_end}

same-files : (all : List QueueState) (from : ℕ) (queues : List QueueState) (connections : List Connection) → length queues ≡ length connections
    → ((k : ℕ) → slice_get all (from + k) ≡ slice_get queues k)
    → flat_map (λ queue. (queue_as_seen queue).active) queues ≡ flat_map (λ c. (queue_seen all c.0).active) (enumerate_from from connections)
same-files all from [] [] long same = refl
same-files all from [] (c ∷ connections) long same = absurd (omega (arith, long))
same-files all from (queue ∷ queues) [] long same = absurd (omega (arith, long))
same-files all from (queue ∷ queues) (c ∷ connections) long same =
    let place : from ≡ from + 0 = omega arith in
    let there : slice_get all from ≡ Some queue = ap (slice_get all) place ∙ same 0 in
    let here : (queue_as_seen queue).active ≡ (queue_seen all from).active = ap (λ o. (option_map_or queue_as_seen o (record { active = []; batches = [] })).active) (sym there) in
    let rest = same-files all (from + 1) queues connections (omega (arith, long)) (λ k. let moved : from + 1 + k ≡ from + suc k = omega arith in ap (slice_get all) moved ∙ same (suc k)) in
    λ i. here i ++ rest i

pub same-penalty-end : (flow : Flow) (queues : List QueueState) (moment : ℕ) → length queues ≡ length flow.connections
    → next_penalty_end moment (flat_map (λ queue. (queue_as_seen queue).active) queues) ≡ first_penalty_end flow (queue_seen queues) moment
same-penalty-end flow queues moment long =
    ap (next_penalty_end moment) (same-files queues 0 queues flow.connections long (λ k. let same : 0 + k ≡ k = omega arith in ap (slice_get queues) same))

pub none-of : {X : Type 0} (o : Option X) → ((x : X) → o ≡ Some x → ⊥) → o ≡ None
none-of None none = refl
none-of (Some x) none = absurd (none x refl)
