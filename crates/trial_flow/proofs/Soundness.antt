-- The flow of a trial is sound.
use Rattle.std.proofs.Common.{ℕ, ◌≤◌, List, [], ◌∷◌, refl, sym, subst, arith}
use Rattle.std.specs.Prelude.{All, codes}
use Rattle.std.proofs.lemmas.Bool.{le-leb}
use Rattle.std.proofs.lemmas.List.Elements.{All-from_recursion}
use Rattle.expr_lang.specs.declared.syntax.Expr.{Expr}
use Rattle.machine_model.specs.declared.flow.Connection.{Connection}
use Rattle.machine_model.specs.declared.flow.Flow.{Flow}
use Rattle.machine_model.specs.declared.flow.Processor.{Processor}
use Rattle.machine_model.specs.declared.kind.OwnExpression.{OwnExpression}
use Rattle.machine_model.specs.declared.limits.TheConstants.{GENERATED_MAX}
use Rattle.machine_model.specs.Sound.{EachOnce, HasText, IsSound, IsSoundKind}
use Rattle.trial_flow.specs.Trial.{IsTrialFlow, custom_text, tens_text, processors, connections}

none_twice : EachOnce []
none_twice = λ i j d before within. absurd (omega (arith, within))

routed : (tens : Expr) → HasText tens → All (λ (own : OwnExpression). HasText own.expression) (record { name = codes "tens"; expression = tens } ∷ [])
routed tens has_tens =
    let own : List OwnExpression = record { name = codes "tens"; expression = tens } ∷ [] in
    All-from_recursion (λ (own : OwnExpression). HasText own.expression) own (has_tens, tt)

sound : (count : ℕ) → (text tens : Expr) → (digest : List ℕ) → count ≤ GENERATED_MAX → HasText text → HasText tens
    → IsSound (record { processors = processors count text tens; connections = connections; digest = digest })
sound count text tens digest few has_text has_tens = record {
  processor_count = omega arith;
  connection_count = omega arith;
  processor_ids = refl;
  connection_ids = refl;
  processors = refl;
  kinds = All-from_recursion (λ (processor : Processor). IsSoundKind processor.kind) (processors count text tens) (
    record { ranges = le-leb count GENERATED_MAX few; texts = has_text },
    (
      record { ranges = refl; texts = routed tens has_tens },
      (
        record { ranges = refl; texts = tt },
        (
          record { ranges = refl; texts = tt },
          (record { ranges = refl; texts = tt }, tt),
        ),
      ),
    ),
  );
  connections = refl;
  relationships = refl;
  prioritizers = All-from_recursion (λ (connection : Connection). EachOnce connection.order) connections
      (none_twice, (none_twice, (none_twice, (none_twice, (none_twice, tt)))));
}

pub trial_sound : (count : ℕ) → (flow : Flow) → count ≤ GENERATED_MAX → IsTrialFlow count flow → IsSound flow
trial_sound count flow few is =
    let list = is.processors in
    subst (λ (l : List Processor). IsSound (record { processors = l; connections = flow.connections; digest = flow.digest })) (sym list.are)
    (subst (λ (l : List Connection). IsSound (record { processors = processors count list.text list.tens; connections = l; digest = flow.digest })) (sym is.connections)
    (sound count list.text list.tens flow.digest few (custom_text, list.says_text) (tens_text, list.says_tens)))
