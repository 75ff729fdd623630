-- What crates above cite: what is known where no session is in flight is that of the machine.
use Rattle.std.proofs.Common.{ℕ, List, [], refl, sym, subst}
use Rattle.std.specs.Prelude.{All, Contains}
use Rattle.std.proofs.lemmas.List.Elements.{Contains-get_or}
use Rattle.machine_model.specs.declared.flow.Flow.{Flow}
use Rattle.machine_model.specs.Files.{queues_of}
use Rattle.machine_model.specs.State.{State, World}
use Rattle.machine_model.specs.View.{QueueView}
use Rattle.engine_queues.specs.Laws.{SeesTheSame}
use Rattle.engine_queues.proofs.Besides.{none-is-out}
use Rattle.engine_choice.specs.Choice.{coming_of, known_alone}
use Rattle.engine_choice.specs.Laws.{IsKnownOf}

all-there : (names : List (List ℕ)) → All (Contains names) names
all-there names i d within = Contains-get_or names i d within

module _ (flow : Flow) (state : State) (world : World) (queues : ℕ → QueueView) (moment : ℕ) (seen : SeesTheSame flow queues (queues_of state)) where
  pub alone_known : IsKnownOf flow state world [] (known_alone queues state.counts (coming_of world) moment)
  alone_known = record {
    seen = subst (λ (views : ℕ → QueueView). SeesTheSame flow queues views) (sym (none-is-out (queues_of state))) seen;
    counts = refl;
    coming = all-there (coming_of world);
  }
