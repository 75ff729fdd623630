-- The parts of the flow of a trial make it.
use Rattle.std.proofs.Common.{◌≡◌, ℕ, List}
use Rattle.std.specs.Prelude.{IfOk, Result, Ok, Err}
use Rattle.expr_lang.specs.declared.syntax.Expr.{Expr}
use Rattle.machine_model.specs.declared.flow.Processor.{Processor}
use Rattle.trial_flow.specs.Trial.{AreTrialProcessors, Says, custom_text, processors, tens_text}

pub are_trial : {E : Type 0} (count : ℕ) (text tens : Expr) (made : Result (List Processor) E) → Says custom_text text → Says tens_text tens → IfOk made (λ list. list ≡ processors count text tens)
    → IfOk made (AreTrialProcessors count)
are_trial count text tens (Ok list) says_text says_tens are = record { text = text; tens = tens; says_text = says_text; says_tens = says_tens; are = are }
are_trial count text tens (Err error) says_text says_tens are = tt
