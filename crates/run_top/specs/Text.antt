-- The text of a flow, as a source holds it.
use Rattle.std.specs.Prelude.{◌≡◌, ⊤, ℕ, ◌≤◌, Bool, List, length, Some, Err, IsTrue}
use Rattle.serde_json.specs.Data.{Data}
use Rattle.machine_model.specs.declared.flow.Flow.{Flow}
use Rattle.machine_model.specs.Sound.{IsSound}
use Rattle.flow_definition.specs.declared.error.FlowError.TheVariants as error
use Rattle.flow_definition.specs.declared.limits.TheConstants.{TEXT_MAX}
use Rattle.flow_definition.specs.declared.rule.Rule.{Rule}
use Rattle.flow_definition.specs.Patterns.{HasRisen, Told}
use Rattle.flow_definition.specs.Reading.{IsFlowOf}
use Rattle.flow_definition.specs.Verdict.{IsAnswer, IsTold, object_in}
use Rattle.run_top.specs.declared.answer.Answer.{Answer}
use Rattle.run_top.specs.declared.answer.Answer.TheVariants.{Source, Memory, Refused}

-- the flow is one of this text
pub record IsFlowIn (bytes : List ℕ) (flow : Flow) : Type 0 where
  pub top : Data
  pub object : object_in bytes ≡ Some top
  pub is : IsFlowOf bytes top flow

-- The text breaks no rule, and the flow, which is sound, is one of it. Where the source tells, the text is all that it
-- held.
pub record IsReadFlow (tells : Bool) (rest : List ℕ) (flow : Flow) : Type 0 where
  pub bytes : List ℕ
  pub whole : IsTrue tells → bytes ≡ rest
  pub size : length bytes ≤ TEXT_MAX
  pub is : IsFlowIn bytes flow
  pub sound : IsSound flow

-- The text breaks this rule, the lowest, and at this place first. A pattern is too big where the builder told so, which
-- told this before and behind it.
pub record TextIsRefused (before now : Told) (tells : Bool) (rest : List ℕ) (rule : Rule) (place : List ℕ) : Type 0
  where
    pub bytes : List ℕ
    pub whole : IsTrue tells → bytes ≡ rest
    pub answer : IsAnswer (HasRisen before.count now.count) bytes (Err (error.Rule rule place))
    pub told : IsTold before now bytes (Err (error.Rule rule place))

-- The text breaks a rule, with no pattern too big.
pub record BreaksRule (bytes : List ℕ) : Type 0 where
  pub rule : Rule
  pub place : List ℕ
  pub answer : IsAnswer ⊥ bytes (Err (error.Rule rule place))

-- an answer that comes where no flow was read
abbrev pub IsOfText : Answer → Type 0
IsOfText Source = ⊤
IsOfText Memory = ⊤
IsOfText (Refused rule place) = ⊤
IsOfText _ = ⊥
