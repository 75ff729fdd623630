-- That a replay goes on from where the replay of the front ends.
use Rattle.std.proofs.Common.{◌≡◌, [], ◌∷◌, ◌++◌, refl, ap, ◌∙◌}
use Rattle.std.specs.Prelude.{Option, Some, None, option_and_then}
use Rattle.machine_model.specs.declared.flow.Flow.{Flow}
use Rattle.machine_model.specs.declared.journal.Step.{Step}
use Rattle.machine_model.specs.Laws.{ReplayOfOneMore, ReplayOfJoined}
use Rattle.machine_model.specs.State.{Machine}
use Rattle.machine_model.specs.Stepping.{step, replay}

chained : {A : Type 0} (f g h : A → Option A) (o : Option A) → ((x : A) → f x ≡ option_and_then g (h x)) → option_and_then f o ≡ option_and_then g (option_and_then h o)
chained f g h None each = refl
chained f g h (Some x) each = each x

pub replay-append : ReplayOfJoined
replay-append flow machine [] back = refl
replay-append flow machine (first ∷ front) back =
    chained (λ after. replay flow after (front ++ back)) (λ after. replay flow after back) (λ after. replay flow after front)
    (step flow machine first) (λ after. replay-append flow after front back)

last_alone : (flow : Flow) (after : Machine) (last : Step) → replay flow after (last ∷ []) ≡ step flow after last
last_alone flow after last = stops (step flow after last)
  where
    stops : (o : Option Machine) → option_and_then (λ machine. Some machine) o ≡ o
    stops None = refl
    stops (Some machine) = refl

pub replay-push : ReplayOfOneMore
replay-push flow machine steps last =
    replay-append flow machine steps (last ∷ []) ∙ ap (λ f. option_and_then f (replay flow machine steps)) (λ i after. last_alone flow after last i)
