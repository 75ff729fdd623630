-- Which answer a reader of flows gives, as a text was read.
use Rattle.std.proofs.Common.{◌≡◌, ℕ, ◌+◌, ◌≤◌, ◌<◌, Bool, true, false, List, [], length, take, refl, sym, ◌∙◌, subst, arith}
use Rattle.std.proofs.lemmas.Bool.{lt-ltb, ltb-false, ltb-true}
use Rattle.std.proofs.lemmas.List.{length-take, take_all}
use Rattle.std.specs.Prelude.{Option, None, Some, Result, Ok, Err, IsTrue, MatchBool, MatchOption, nat_lt}
use Rattle.serde_json.specs.Data.{Data}
use Rattle.machine_model.specs.Sound.{IsSound}
use Rattle.machine_model.specs.declared.flow.Flow.{Flow}
use Rattle.flow_definition.specs.declared.error.FlowError.{FlowError}
use Rattle.flow_definition.specs.declared.error.FlowError.TheVariants as error
use Rattle.flow_definition.specs.declared.field.Field.TheVariants.{Processors}
use Rattle.flow_definition.specs.declared.limits.TheConstants.{TEXT_MAX}
use Rattle.flow_definition.specs.declared.made.Made.{Made}
use Rattle.flow_definition.specs.declared.rule.Rule.{Rule}
use Rattle.flow_definition.specs.declared.rule.Rule.TheVariants.{TooMany}
use Rattle.flow_definition.specs.Looks.{list_items_at}
use Rattle.flow_definition.specs.Made.{AreMade}
use Rattle.flow_definition.specs.Patterns.{HasRisen, Told}
use Rattle.flow_definition.specs.Reading.{IsFlowOf}
use Rattle.flow_definition.specs.Rules.{Path}
use Rattle.flow_definition.specs.Verdict.{Accepts, IsAnswer, IsAnswerBehind, IsAnswerTo, IsSettled, IsTold, IsToldIn, Refuses, first_behind, object_in}
use Rattle.flow_definition.specs.Walk.{first_broken, first_rules}
use Rattle.run_top.specs.Text.{IsReadFlow, TextIsRefused}

-- ---- an answer that gives a flow

pub record IsAccepted (R : Type 0) (bytes : List ℕ) (flow : Flow) : Type 0 where
  pub small : nat_lt TEXT_MAX (length bytes) ≡ false
  pub top : Data
  pub object : object_in bytes ≡ Some top
  pub first : first_broken first_rules top ≡ None
  pub made : List Made
  pub each : AreMade R (list_items_at Processors top) made
  pub behind : first_behind top made ≡ None
  pub is : IsFlowOf bytes top flow

module _ (R : Type 0) (bytes : List ℕ) (flow : Flow) where
  settled : (top : Data) → nat_lt TEXT_MAX (length bytes) ≡ false → object_in bytes ≡ Some top → first_broken first_rules top ≡ None → IsSettled R bytes top (Ok flow) → IsAccepted R bytes flow
  settled top small object first all = by (first_behind top all.0) refl all.2
    where
      by : (o : Option (Rule × Path)) → first_behind top all.0 ≡ o → MatchOption o (Accepts bytes top (Ok flow)) (λ broken. Refuses broken (Ok flow)) → IsAccepted R bytes flow
      by None behind is = record { small = small; top = top; object = object; first = first; made = all.0; each = all.1; behind = behind; is = is }
      by (Some broken) behind is = absurd is

  answered : (top : Data) → nat_lt TEXT_MAX (length bytes) ≡ false → object_in bytes ≡ Some top → (o : Option (Rule × Path)) → first_broken first_rules top ≡ o
      → MatchOption o (IsAnswerBehind R bytes top (Ok flow)) (λ broken. Refuses broken (Ok flow)) → IsAccepted R bytes flow
  answered top small object None first is = settled top small object first is
  answered top small object (Some broken) first is = absurd is

  given : nat_lt TEXT_MAX (length bytes) ≡ false → (o : Option Data) → object_in bytes ≡ o → IsAnswerTo R bytes o (Ok flow) → IsAccepted R bytes flow
  given small None object is = absurd is
  given small (Some top) object is = answered top small object (first_broken first_rules top) refl is

  pub accepted : IsAnswer R bytes (Ok flow) → IsAccepted R bytes flow
  accepted answer = by (nat_lt TEXT_MAX (length bytes)) refl answer
    where
      by : (b : Bool) → nat_lt TEXT_MAX (length bytes) ≡ b → MatchBool b (Refuses (TooMany, []) (Ok flow)) (IsAnswerTo R bytes (object_in bytes) (Ok flow)) → IsAccepted R bytes flow
      by true small is = absurd is
      by false small is = given small (object_in bytes) refl is

-- ---- the text is all that the source has, or longer than one may be

small_front : (rest : List ℕ) → length (take (TEXT_MAX + 1) rest) ≤ TEXT_MAX → take (TEXT_MAX + 1) rest ≡ rest
small_front rest small = take_all (TEXT_MAX + 1) rest (omega (arith, small, length-take (TEXT_MAX + 1) rest))

pub is_whole : (R : Type 0) (tells : Bool) (rest bytes : List ℕ) (flow : Flow) → (IsTrue tells → bytes ≡ take (TEXT_MAX + 1) rest) → IsAccepted R bytes flow → IsTrue tells → bytes ≡ rest
is_whole R tells rest bytes flow front accept told =
    let small : length bytes ≤ TEXT_MAX = ltb-false TEXT_MAX (length bytes) accept.small in
    front told ∙ small_front rest (subst (λ (b : List ℕ). length b ≤ TEXT_MAX) (front told) small)

pub is_read : (R : Type 0) (tells : Bool) (rest bytes : List ℕ) (flow : Flow) → (IsTrue tells → bytes ≡ take (TEXT_MAX + 1) rest) → IsAnswer R bytes (Ok flow) → IsSound flow → IsReadFlow tells rest flow
is_read R tells rest bytes flow front answer sound =
    let accept = accepted R bytes flow answer in
    record {
      bytes = bytes;
      whole = is_whole R tells rest bytes flow front accept;
      size = ltb-false TEXT_MAX (length bytes) accept.small;
      is = record { top = accept.top; object = accept.object; is = accept.is };
      sound = sound;
    }

-- what is too long is refused as its front is
front_answer : (R : Type 0) (rest : List ℕ) (answer : Result Flow FlowError) → IsAnswer R (take (TEXT_MAX + 1) rest) answer → IsAnswer R rest answer
front_answer R rest answer is = by (nat_lt TEXT_MAX (length rest)) refl
  where
    by : (b : Bool) → nat_lt TEXT_MAX (length rest) ≡ b → IsAnswer R rest answer
    by true long =
        let more : TEXT_MAX < length rest = ltb-true TEXT_MAX (length rest) long in
        let too : nat_lt TEXT_MAX (length (take (TEXT_MAX + 1) rest)) ≡ true = lt-ltb TEXT_MAX (length (take (TEXT_MAX + 1) rest)) (omega (arith, more, length-take (TEXT_MAX + 1) rest)) in
        subst (λ (b : Bool). MatchBool b (Refuses (TooMany, []) answer) (IsAnswerTo R rest (object_in rest) answer)) (sym long)
        (subst (λ (b : Bool). MatchBool b (Refuses (TooMany, []) answer) (IsAnswerTo R (take (TEXT_MAX + 1) rest) (object_in (take (TEXT_MAX + 1) rest)) answer)) too is)
    by false small =
        let most : length rest ≤ TEXT_MAX = ltb-false TEXT_MAX (length rest) small in
        subst (λ (b : List ℕ). IsAnswer R b answer) (take_all (TEXT_MAX + 1) rest (omega (arith, most))) is

-- .. and the builder tells the same of it
front_told : (before now : Told) (rest : List ℕ) (answer : Result Flow FlowError) → IsTold before now (take (TEXT_MAX + 1) rest) answer → IsTold before now rest answer
front_told before now rest answer is = by (nat_lt TEXT_MAX (length rest)) refl
  where
    by : (b : Bool) → nat_lt TEXT_MAX (length rest) ≡ b → IsTold before now rest answer
    by true long = subst (λ (b : Bool). MatchBool b (Unit {0}) ((top : Data) → object_in rest ≡ Some top → IsToldIn before now top answer)) (sym long) tt
    by false small =
        let most : length rest ≤ TEXT_MAX = ltb-false TEXT_MAX (length rest) small in
        subst (λ (b : List ℕ). IsTold before now b answer) (take_all (TEXT_MAX + 1) rest (omega (arith, most))) is

pub is_refused : (before now : Told) (tells : Bool) (rest bytes : List ℕ) (rule : Rule) (place : List ℕ) → (IsTrue tells → bytes ≡ take (TEXT_MAX + 1) rest)
    → IsAnswer (HasRisen before.count now.count) bytes (Err (error.Rule rule place)) → IsTold before now bytes (Err (error.Rule rule place)) → TextIsRefused before now tells rest rule place
is_refused before now true rest bytes rule place front answer told = record {
  bytes = rest;
  whole = λ yes. refl;
  answer = front_answer (HasRisen before.count now.count) rest (Err (error.Rule rule place)) (subst (λ (b : List ℕ). IsAnswer (HasRisen before.count now.count) b (Err (error.Rule rule place))) (front refl) answer);
  told = front_told before now rest (Err (error.Rule rule place)) (subst (λ (b : List ℕ). IsTold before now b (Err (error.Rule rule place))) (front refl) told);
}
is_refused before now false rest bytes rule place front answer told = record { bytes = bytes; whole = λ yes. absurd (cc); answer = answer; told = told }

-- .. also where the rule and the place are given otherwise
pub is_refused_so : (before now : Told) (tells : Bool) (rest : List ℕ) (rule other : Rule) (place elsewhere : List ℕ) → rule ≡ other → place ≡ elsewhere → TextIsRefused before now tells rest rule place → TextIsRefused before now tells rest other elsewhere
is_refused_so before now tells rest rule other place elsewhere rule_is place_is refused =
    subst (λ (r : Rule). TextIsRefused before now tells rest r elsewhere) rule_is (subst (λ (p : List ℕ). TextIsRefused before now tells rest rule p) place_is refused)
