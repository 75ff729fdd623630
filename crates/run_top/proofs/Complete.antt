-- A run in which nothing fails comes to its end, or memory is wanting.
use Rattle.std.proofs.Common.{◌≡◌, ⊎_elim, ℕ, Bool, true, false, List, [], ◌∷◌, ◌∙◌, refl, sym, ap, subst, arith}
use Rattle.std.specs.Prelude.{IsTrue, MatchBool, MatchOption, Option, Some, None, Err, length, nat_lt}
use Rattle.disk_trait.specs.Faults.{CountsFaults}
use Rattle.disk_trait.specs.Files.{Files}
use Rattle.disk_trait.specs.declared.damage.Damage.{Damage}
use Rattle.serde_json.specs.Data.{Data}
use Rattle.machine_model.specs.State.{State}
use Rattle.machine_model.specs.declared.flow.Flow.{Flow}
use Rattle.store_core.specs.Opened.{IsOfOther}
use Rattle.engine_change.specs.Committing.{identity_of}
use Rattle.flow_definition.specs.declared.error.FlowError.TheVariants as error
use Rattle.flow_definition.specs.declared.field.Field.TheVariants.{Processors}
use Rattle.flow_definition.specs.declared.limits.TheConstants.{TEXT_MAX}
use Rattle.flow_definition.specs.declared.made.Made.{Made}
use Rattle.flow_definition.specs.declared.made.Made.TheVariants as made
use Rattle.flow_definition.specs.declared.made.Refusal.{Refusal}
use Rattle.flow_definition.specs.declared.made.Refusal.TheVariants.{NoType, Unread, TooBig, NoExpression, NoOwnExpression, NoOwnPatterns}
use Rattle.flow_definition.specs.declared.own_patterns.Attempt.{Attempt}
use Rattle.flow_definition.specs.declared.own_patterns.Attempt.TheVariants as attempt
use Rattle.flow_definition.specs.declared.rule.Rule.{Rule}
use Rattle.flow_definition.specs.declared.rule.Rule.TheVariants.{TooMany}
use Rattle.flow_definition.specs.Looks.{list_items_at}
use Rattle.flow_definition.specs.Made.{AreMade, IsMade, IsCauseOfRefusal}
use Rattle.flow_definition.specs.OwnPatterns.{AreAttempts}
use Rattle.flow_definition.specs.Patterns.{HasRisen, Told}
use Rattle.flow_definition.specs.Rules.{Path}
use Rattle.flow_definition.specs.Verdict.{IsAnswer, IsAnswerBehind, IsAnswerTo, Refuses, object_in}
use Rattle.flow_definition.specs.Walk.{first_broken, first_rules}
use Rattle.run_top.specs.Complete.{IsEndOrMemory, StandsStill}
use Rattle.run_top.specs.Opening.{IsOfFlow, IsShutAnswer}
use Rattle.run_top.specs.Run.{AnswerHasCause}
use Rattle.run_top.specs.Text.{BreaksRule, IsFlowIn, IsOfText, IsReadFlow, TextIsRefused}
use Rattle.run_top.specs.declared.answer.Answer.{Answer}
use Rattle.run_top.specs.declared.answer.Answer.TheVariants.{Done, Usage, Refused, OtherFlow, Damaged, Disk, Inbox, Outbox, Source, Sink, Blocked, Limit, Memory, Absent}
use Rattle.run_top.proofs.OneStore.{of_flow}

-- ---- devices

-- a fault that is told only where its count rose
pub not_told : {P : Type 0} (before now : ℕ) → CountsFaults before now P → StandsStill before now → P → ⊥
not_told before now counts still failed = let rose = counts.rose failed still.1 in let same = still.0 in absurd (omega (arith, rose, same))

-- ---- files that stand for a state of the flow

not_shut : (flow : Flow) (lot : ℕ) (files : Files) (state : State) → IsOfFlow flow lot files state → (damage : Damage) → IsShutAnswer (identity_of flow) lot files (Damaged damage) → ⊥
not_shut flow lot files state of damage shut = absurd (cc (of.stands, shut))

not_other : (flow : Flow) (lot : ℕ) (files : Files) (state : State) → IsOfFlow flow lot files state → (digest : List ℕ) → IsOfOther (identity_of flow) lot digest files → ⊥
not_other flow lot files state of digest other =
    let one : other.kept ≡ of.kept = cc (other.keeps, of.keeps) in
    other.other (sym other.is ∙ ap (λ kept. kept.flow) one ∙ of.is)

module _ {D I O : Type 0} (flow : Flow) (tells : Bool) (held : D → Files) (moment : D → ℕ) (images : D → ℕ → Files → Type 0) (lot most : ℕ) (old new : D) (inbox_old inbox_new : I) (outbox_old outbox_new : O) where
  pub run_completes : (a : Answer) → AnswerHasCause flow a tells held moment images lot most old new inbox_old inbox_new outbox_old outbox_new → IsTrue tells → (state : State) → IsOfFlow flow lot (held old) state
      → (a ≡ Disk → ⊥) → (a ≡ Inbox → ⊥) → (a ≡ Outbox → ⊥) → (a ≡ Sink → ⊥) → IsEndOrMemory a
  run_completes Done why told state of disk inbox outbox sink = tt
  run_completes Usage why told state of disk inbox outbox sink = absurd why.one_of
  run_completes (Refused rule place) why told state of disk inbox outbox sink = absurd why.one_of
  run_completes OtherFlow why told state of disk inbox outbox sink =
      let other = (why.other_flow refl).told.found told in
      absurd (not_other flow lot (held old) state of other.0 other.1)
  run_completes (Damaged damage) why told state of disk inbox outbox sink = ⊎_elim
      (λ shut. absurd (not_shut flow lot (held old) state of damage (shut.told.found told)))
      (λ read. absurd (read.untold told))
      (why.damaged damage refl)
  run_completes Disk why told state of disk inbox outbox sink = absurd (disk refl)
  run_completes Inbox why told state of disk inbox outbox sink = absurd (inbox refl)
  run_completes Outbox why told state of disk inbox outbox sink = absurd (outbox refl)
  run_completes Source why told state of disk inbox outbox sink = absurd why.one_of
  run_completes Sink why told state of disk inbox outbox sink = absurd (sink refl)
  run_completes (Blocked place) why told state of disk inbox outbox sink = tt
  run_completes (Limit limit) why told state of disk inbox outbox sink = tt
  run_completes Memory why told state of disk inbox outbox sink = tt
  run_completes Absent why told state of disk inbox outbox sink = absurd why.one_of

-- so of each flow of the text
pub of_read : (tells : Bool) (rest : List ℕ) (one other : Flow) → IsTrue tells → IsReadFlow tells rest one → IsReadFlow tells rest other
    → (lot : ℕ) (files : Files) (state : State) → IsOfFlow one lot files state → IsOfFlow other lot files state
of_read tells rest one other told a b lot files state of =
    of_flow a.bytes one other a.is (subst (λ (bytes : List ℕ). IsFlowIn bytes other) (b.whole told ∙ sym (a.whole told)) b.is) lot files state of

-- ---- a text that breaks no rule

module _ (R : Type 0) (none : R → ⊥) where
  attempts_stand : (whole : Bool) (texts : List (List ℕ × List ℕ)) (attempts : List Attempt) → AreAttempts R whole texts attempts → AreAttempts ⊥ whole texts attempts
  attempts_stand whole [] [] are = tt
  attempts_stand whole [] (a ∷ rest) are = absurd are
  attempts_stand whole (given ∷ more) [] are = absurd are
  attempts_stand whole (given ∷ more) (attempt.Read own ∷ rest) are = (are.0, attempts_stand whole more rest are.1)
  attempts_stand whole (given ∷ more) (attempt.Unread name ∷ rest) are = (are.0, attempts_stand whole more rest are.1)
  attempts_stand whole (given ∷ more) (attempt.TooBig name ∷ rest) are = absurd (none are.0.1)

  refusal_stands : (d : Data) (r : Refusal) → IsCauseOfRefusal R d r → IsCauseOfRefusal ⊥ d r
  refusal_stands d NoType is = is
  refusal_stands d (Unread property) is = is
  refusal_stands d (TooBig property) is = absurd (none is.1)
  refusal_stands d (NoExpression property) is = is
  refusal_stands d (NoOwnExpression name) is = is
  refusal_stands d (NoOwnPatterns attempts) is = (is.0, (attempts_stand _ _ attempts is.1.0, is.1.1))

  made_stands : (d : Data) (m : Made) → IsMade R d m → IsMade ⊥ d m
  made_stands d (made.Processor processor) is = is
  made_stands d (made.Refused refusal) is = refusal_stands d refusal is

  all_stand : (ds : List Data) (ms : List Made) → AreMade R ds ms → AreMade ⊥ ds ms
  all_stand [] [] are = tt
  all_stand [] (m ∷ ms) are = absurd are
  all_stand (d ∷ ds) [] are = absurd are
  all_stand (d ∷ ds) (m ∷ ms) are = (made_stands d m are.0, all_stand ds ms are.1)

  module _ (bytes : List ℕ) (rule : Rule) (place : List ℕ) where
    of_stands : (top : Data) (first : Option (Rule × Path)) → MatchOption first (IsAnswerBehind R bytes top (Err (error.Rule rule place))) (λ broken. Refuses broken (Err (error.Rule rule place)))
        → MatchOption first (IsAnswerBehind ⊥ bytes top (Err (error.Rule rule place))) (λ broken. Refuses broken (Err (error.Rule rule place)))
    of_stands top None is = (is.0, all_stand (list_items_at Processors top) is.0 is.1, is.2)
    of_stands top (Some broken) is = is

    to_stands : (object : Option Data) → IsAnswerTo R bytes object (Err (error.Rule rule place)) → IsAnswerTo ⊥ bytes object (Err (error.Rule rule place))
    to_stands None is = is
    to_stands (Some top) is = of_stands top (first_broken first_rules top) is

    answer_stands : (large : Bool) → MatchBool large (Refuses (TooMany, []) (Err (error.Rule rule place))) (IsAnswerTo R bytes (object_in bytes) (Err (error.Rule rule place)))
        → MatchBool large (Refuses (TooMany, []) (Err (error.Rule rule place))) (IsAnswerTo ⊥ bytes (object_in bytes) (Err (error.Rule rule place)))
    answer_stands true is = is
    answer_stands false is = to_stands (object_in bytes) is

not_risen : (before now : ℕ) → StandsStill before now → HasRisen before now → ⊥
not_risen before now still rose = let later = rose still.1 in let same = still.0 in absurd (omega (arith, later, same))

-- where no pattern was too big, a text that is refused breaks a rule
pub text_completes : (before now : Told) (tells : Bool) (rest : List ℕ) (a : Answer) → IsOfText a
    → ((rule : Rule) (place : List ℕ) → a ≡ Refused rule place → TextIsRefused before now tells rest rule place)
    → IsTrue tells → (BreaksRule rest → ⊥) → StandsStill before.count now.count → (a ≡ Source → ⊥) → IsEndOrMemory a
text_completes before now tells rest Source kinds refused told whole still source = absurd (source refl)
text_completes before now tells rest Memory kinds refused told whole still source = tt
text_completes before now tells rest (Refused rule place) kinds refused told whole still source =
    let is = refused rule place refl in
    let answer : IsAnswer ⊥ is.bytes (Err (error.Rule rule place)) =
    answer_stands (HasRisen before.count now.count) (not_risen before.count now.count still) is.bytes rule place (nat_lt TEXT_MAX (length is.bytes)) is.answer
    in
    absurd (whole (record { rule = rule; place = place; answer = subst (λ (b : List ℕ). IsAnswer ⊥ b (Err (error.Rule rule place))) (is.whole told) answer }))
text_completes before now tells rest _ kinds refused told whole still source = absurd kinds
