-- What an answer owes: its cause, and that the builder's count rose where a pattern is too big.
use Rattle.std.proofs.Common.{◌≡◌, ◌≢◌, ℕ, Bool, true, false, cond, List, [], ◌∷◌, Option, Some, None, option_map, option_and_then, map, Ok, Err, MatchOption, refl, sym, ap, ◌∙◌, subst, rules}
use Rattle.std.specs.Option.{option_or}
use Rattle.std.specs.List.{filter_map}
use Rattle.std.specs.Str.{IsUtf8, is_utf8}
use Rattle.std.proofs.lemmas.Option.{none-some, same_Some}
use Rattle.std.proofs.lemmas.Str.{IsUtf8-from_is_utf8, is_utf8-from_IsUtf8}
use Rattle.serde_json.specs.Data.{Data}
use Rattle.serde_json.specs.Read.{read}
use Rattle.flow_definition.specs.declared.error.FlowError.{FlowError}
use Rattle.flow_definition.specs.declared.error.FlowError.TheVariants as error
use Rattle.flow_definition.specs.declared.field.Field.TheVariants.{Processors, Connections}
use Rattle.flow_definition.specs.declared.made.Made.{Made}
use Rattle.flow_definition.specs.declared.rule.Rule.{Rule}
use Rattle.flow_definition.specs.declared.rule.Rule.TheVariants.{UnknownType, BadPattern, BadExpression, PatternTooBig}
use Rattle.machine_model.specs.declared.flow.Flow.{Flow}
use Rattle.flow_definition.specs.Made.{AreMade, AreAllMade, told_all, first_refused, processor_in}
use Rattle.flow_definition.specs.Patterns.{HasRisen, Told}
use Rattle.flow_definition.specs.Looks.{list_items_at}
use Rattle.flow_definition.specs.Reading.{AreProcessorsOf, IsFlowOf, connection_of}
use Rattle.sha2.specs.Sha256.{sha256}
use Rattle.flow_definition.specs.Rules.{Path}
use Rattle.flow_definition.specs.Verdict.{object_only, object_in, refused, first_behind, IsError, Refuses, Accepts, IsAnswerBehind, IsPatternTooBig, IsToldIn}
use Rattle.flow_definition.specs.Walk.{first_broken_place, first_broken, last_rules}
use Rattle.flow_definition.proofs.Passed.{none_or, none_map}
use Rattle.flow_definition.proofs.Verdicts.{all_made, told_none, processors_made, risen}

-- ---- the text

pub object_read : (bytes : List ℕ) (d : Data) → IsUtf8 bytes → read bytes ≡ Some d → object_in bytes ≡ object_only d
object_read bytes d utf8 e =
    ap (λ b. cond b (option_and_then object_only (read bytes)) None) (is_utf8-from_IsUtf8 bytes utf8)
    ∙ ap (option_and_then object_only) e

unread_at : (bytes : List ℕ) (b : Bool) → is_utf8 bytes ≡ b → (IsUtf8 bytes → read bytes ≡ None)
    → cond b (option_and_then object_only (read bytes)) None ≡ None
unread_at bytes true e h = ap (option_and_then object_only) (h (IsUtf8-from_is_utf8 bytes e))
unread_at bytes false e h = refl

pub object_unread : (bytes : List ℕ) → (IsUtf8 bytes → read bytes ≡ None) → object_in bytes ≡ None
object_unread bytes h = unread_at bytes (is_utf8 bytes) refl h

-- ---- the count

-- the rule that an error names
pub named_big : (broken : Rule × Path) (e : FlowError) → IsError broken e → IsPatternTooBig (Err e) → broken.0 ≡ PatternTooBig
named_big broken error.Memory is big = absurd big
named_big broken (error.Rule rule place) is big = sym is.0 ∙ big

AreSmall : List Rule → Type 0
AreSmall [] = Unit {0}
AreSmall (rule ∷ rules) = (rule ≢ PatternTooBig) × AreSmall rules

small_or : (rule : Rule) (o : Option Path) (rest : Option (Rule × Path)) (b : Rule × Path) → rule ≢ PatternTooBig
    → (rest ≡ Some b → b.0 ≢ PatternTooBig) → option_or (option_map (λ path. (rule, path)) o) rest ≡ Some b → b.0 ≢ PatternTooBig
small_or rule None rest b small more e = more e
small_or rule (Some path) rest b small more e = λ big. small (ap (λ x. x.0) (same_Some (rule, path) b e) ∙ big)

small_first : (rules : List Rule) (top : Data) (b : Rule × Path) → AreSmall rules → first_broken rules top ≡ Some b → b.0 ≢ PatternTooBig
unfolding AreSmall
small_first [] top b small e = absurd (none-some _ e)
small_first (rule ∷ rules) top b small e =
    small_or rule (first_broken_place rule top) (first_broken rules top) b small.0 (small_first rules top b small.1) e

last_small : AreSmall last_rules
unfolding AreSmall
last_small = ((λ e. cc), ((λ e. cc), ((λ e. cc), tt)))

passes_small : (C : Type 0) (rule : Rule) (o : Option Path) (rest : Option (Rule × Path)) (b : Rule × Path) → rule ≢ PatternTooBig
    → (rest ≡ Some b → b.0 ≡ PatternTooBig → C) → option_or (option_map (λ path. (rule, path)) o) rest ≡ Some b → b.0 ≡ PatternTooBig → C
passes_small C rule None rest b small more e big = more e big
passes_small C rule (Some path) rest b small more e big =
    absurd (small (ap (λ x. x.0) (same_Some (rule, path) b e) ∙ big))

passes_last : (C : Type 0) (o rest : Option (Rule × Path)) (b : Rule × Path) → ((x : Rule × Path) → o ≡ Some x → x.0 ≢ PatternTooBig)
    → (rest ≡ Some b → b.0 ≡ PatternTooBig → C) → option_or o rest ≡ Some b → b.0 ≡ PatternTooBig → C
passes_last C None rest b small more e big = more e big
passes_last C (Some x) rest b small more e big = absurd (small x refl (ap (λ y. y.0) (same_Some x b e) ∙ big))

some_named : (o : Option Path) (b : Rule × Path) → option_map (λ path. (PatternTooBig, path)) o ≡ Some b → o ≡ Some b.1
some_named None b e = absurd (none-some _ e)
some_named (Some path) b e = ap (λ x. Some x.1) (same_Some (PatternTooBig, path) b e)

-- what is named as too big is the first that was refused so
pub big_first : (top : Data) (ms : List Made) (b : Rule × Path) → first_behind top ms ≡ Some b → b.0 ≡ PatternTooBig
    → first_refused PatternTooBig 0 ms ≡ Some b.1
big_first top ms b e big =
    let C : Type 0 = first_refused PatternTooBig 0 ms ≡ Some b.1 in
    let small : Option (Rule × Path) = refused PatternTooBig ms in
    let last : Option (Rule × Path) = option_or (first_broken last_rules top) small in
    let expressed : Option (Rule × Path) = option_or (refused BadExpression ms) last in
    let read : Option (Rule × Path) = option_or (refused BadPattern ms) expressed in
    passes_small C UnknownType (first_refused UnknownType 0 ms) read b (λ h. cc) (λ e1 big1.
    passes_small C BadPattern (first_refused BadPattern 0 ms) expressed b (λ h. cc) (λ e2 big2.
    passes_small C BadExpression (first_refused BadExpression 0 ms) last b (λ h. cc) (λ e3 big3.
    passes_last C (first_broken last_rules top) small b (λ x h. small_first last_rules top x last_small h) (λ e4 big4.
    some_named (first_refused PatternTooBig 0 ms) b e4)
    e3 big3) e2 big2) e1 big1) e big

-- a pattern is too big only where the count rose
pub big_rises : (R : Type 0) (top : Data) (ds : List Data) (ms : List Made) (b : Rule × Path) → AreMade R ds ms
    → first_behind top ms ≡ Some b → b.0 ≡ PatternTooBig → R
big_rises R top ds ms b each e big = risen R ds ms 0 b.1 each (big_first top ms b e big)

-- ---- what the builder tells behind an answer

pub behind_told : (before now : Told) (top : Data) (ms : List Made) (b : Rule × Path) (e : FlowError)
    → AreMade (HasRisen before.count now.count) (list_items_at Processors top) ms → now ≡ told_all before (list_items_at Processors top) ms
    → first_behind top ms ≡ Some b → IsError b e → IsToldIn before now top (Err e)
behind_told before now top ms b error.Memory each told found is = tt
behind_told before now top ms b (error.Rule rule place) each told found is = λ passed. record {
  made = ms;
  each = each;
  told = told;
  path = b.1;
  first = found ∙ ap (λ r. Some (r, b.1)) (sym is.0);
  stands = is.1;
}

-- ---- no rule is broken

pub none_behind : (top : Data) (ms : List Made) → first_behind top ms ≡ None → AreAllMade ms
none_behind top ms e =
    let typed = none_or (refused UnknownType ms) _ e in
    let read = none_or (refused BadPattern ms) _ typed.1 in
    let expressed = none_or (refused BadExpression ms) _ read.1 in
    let last = none_or (first_broken last_rules top) _ expressed.1 in
    let none : (rule : Rule) → refused rule ms ≡ None → first_refused rule 0 ms ≡ None =
    λ rule. none_map {Y = Rule × Path} (λ path. (rule, path)) (first_refused rule 0 ms) in
    all_made ms 0 (none UnknownType typed.0) (none BadPattern read.0) (none BadExpression expressed.0) (none PatternTooBig last.1)

pub accepted_told : (before now : Told) (top : Data) (ms : List Made) → now ≡ told_all before (list_items_at Processors top) ms
    → first_behind top ms ≡ None → now ≡ before
accepted_told before now top ms told found = told ∙ told_none before (list_items_at Processors top) ms (none_behind top ms found)

-- ---- answers

pub behind_accepted : (R : Type 0) (bytes : List ℕ) (top : Data) (ms : List Made) (flow : Flow)
    → AreMade R (list_items_at Processors top) ms → first_behind top ms ≡ None → IsFlowOf bytes top flow → IsAnswerBehind R bytes top (Ok flow)
behind_accepted R bytes top ms flow each found is =
    let Settles : Option (Rule × Path) → Type 0 = λ o. MatchOption o (Accepts bytes top (Ok flow)) (λ x. Refuses x (Ok flow)) in
    (ms, each, subst Settles (sym found) is)

pub behind_refused : (R : Type 0) (bytes : List ℕ) (top : Data) (ms : List Made) (b : Rule × Path) (e : FlowError)
    → AreMade R (list_items_at Processors top) ms → first_behind top ms ≡ Some b → IsError b e → IsAnswerBehind R bytes top (Err e)
behind_refused R bytes top ms b error.Memory each found is = tt
behind_refused R bytes top ms b (error.Rule rule place) each found is =
    let Settles : Option (Rule × Path) → Type 0 =
    λ o. MatchOption o (Accepts bytes top (Err (error.Rule rule place))) (λ x. Refuses x (Err (error.Rule rule place))) in
    (ms, each, subst Settles (sym found) is)

pub flow_made : (R : Type 0) (bytes : List ℕ) (top : Data) (ms : List Made) (flow : Flow)
    → AreMade R (list_items_at Processors top) ms → first_behind top ms ≡ None → flow.processors ≡ filter_map processor_in ms
    → flow.connections ≡ map (connection_of top) (list_items_at Connections top) → flow.digest ≡ sha256 bytes → IsFlowOf bytes top flow
flow_made R bytes top ms flow each found processors connections digest = record {
  processors = subst (AreProcessorsOf (list_items_at Processors top)) (sym processors)
      (processors_made R (list_items_at Processors top) ms each (none_behind top ms found));
  connections = connections;
  digest = digest;
}
