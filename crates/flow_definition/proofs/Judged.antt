-- What is kept of a text's processors once they are judged.
use Rattle.std.proofs.Common.{◌≡◌, ◌==◌, cond, ℕ, suc, ◌+◌, ◌<◌, Bool, true, false, ◌&&◌, List, [], ◌∷◌, ◌++◌, length, map, take, Option, Some, None, option_map, is_some, not, refl, sym, ap, ◌∙◌, arith}
use Rattle.std.specs.List.{filter_map, list_all}
use Rattle.std.specs.Option.{option_or}
use Rattle.std.proofs.lemmas.Bool.{false≢true}
use Rattle.std.proofs.lemmas.Option.{none-some}
use Rattle.std.proofs.lemmas.List.{append-nil, length-map, length-take-le}
use Rattle.std.proofs.lemmas.List.Folds.{list_all-append}
use Rattle.serde_json.specs.Data.{Data}
use Rattle.machine_model.specs.declared.flow.Processor.{Processor}
use Rattle.flow_definition.specs.declared.field.Field.TheVariants.{Processors}
use Rattle.flow_definition.specs.declared.made.Kept.TheVariants as kept
use Rattle.flow_definition.specs.declared.made.Made.{Made}
use Rattle.flow_definition.specs.declared.made.Made.TheVariants as made
use Rattle.flow_definition.specs.declared.made.Refusal.{Refusal}
use Rattle.flow_definition.specs.declared.made.Refusal.TheVariants.{NoType, Unread, TooBig, NoExpression, NoOwnExpression, NoOwnPatterns}
use Rattle.flow_definition.specs.declared.made.RefusedProcessor.{RefusedProcessor}
use Rattle.flow_definition.specs.declared.rule.Rule.{Rule}
use Rattle.flow_definition.specs.declared.rule.Rule.TheVariants.{UnknownType, BadPattern, BadExpression, PatternTooBig}
use Rattle.flow_definition.specs.Judged.{part_at, refused_property, refused_processors, refused_with, is_processor_made, is_refusal, kept_if_made, processors_kept, processors_with, first_refused_in, refused_in, first_told}
use Rattle.flow_definition.specs.Made.{AreAllMade, AreMade, first_refused, processor_in, refused_part, rule_of}
use Rattle.flow_definition.specs.Numbers.{rule_number}
use Rattle.flow_definition.specs.Rules.{Path}
use Rattle.flow_definition.specs.Verdict.{first_behind, refused}
use Rattle.flow_definition.specs.Walk.{first_broken, in_list_item, last_rules}
use Rattle.flow_definition.proofs.Passed.{none_or}

-- ---- before the first processor

pub kept_first : (a : Bool) → [] ≡ processors_kept a []
kept_first true = refl
kept_first false = refl

pub accepted_first : (a : Bool) → a ≡ (a && list_all is_processor_made [])
accepted_first true = refl
accepted_first false = refl

-- ---- one more processor

pub made_length : (R : Type 0) (ds : List Data) (ms : List Made) → AreMade R ds ms → length ms ≡ length ds
made_length R [] [] each = refl
made_length R [] (m ∷ ms) each = absurd each
made_length R (d ∷ ds) [] each = absurd each
made_length R (d ∷ ds) (m ∷ ms) each = ap suc (made_length R ds ms each.1)

pub made_place : {A : Type 0} (R : Type 0) (v : A → Data) (xs : List A) (k : ℕ) (ms : List Made) → k < length xs
    → AreMade R (map v (take k xs)) ms → k ≡ length ms + 0
made_place R v xs k ms h each =
    let long : length ms ≡ k =
    made_length R (map v (take k xs)) ms each ∙ length-map (take k xs) v ∙ length-take-le k xs (omega (arith, h)) in
    omega (arith, long)

pub refused_push : (k n : ℕ) (ms : List Made) (m : Made) → n ≡ length ms + k
    → refused_processors k (ms ++ m ∷ []) ≡ refused_processors k ms ++ refused_processors n (m ∷ [])
refused_push k n [] m is =
    let same : k ≡ n = omega (arith, is) in
    ap (λ place. refused_processors place (m ∷ [])) same
refused_push k n (made.Processor p ∷ ms) m is = refused_push (suc k) n ms m (omega (arith, is))
refused_push k n (made.Refused r ∷ ms) m is =
    ap (λ list. refused_processors k (made.Refused r ∷ []) ++ list) (refused_push (suc k) n ms m (omega (arith, is)))

all_push : (ms : List Made) (p : Processor) → filter_map processor_in (ms ++ made.Processor p ∷ []) ≡ filter_map processor_in ms ++ p ∷ []
all_push [] p = refl
all_push (made.Processor q ∷ ms) p = ap (λ list. q ∷ list) (all_push ms p)
all_push (made.Refused r ∷ ms) p = all_push ms p

kept_made : (a b : Bool) (list : List Processor) (p : Processor)
    → processors_with (cond (a && b) list []) (cond (a && b) (kept.Processor p) kept.Nothing) ≡ cond (a && (b && true)) (list ++ p ∷ []) []
kept_made true true list p = refl
kept_made true false list p = refl
kept_made false b list p = refl

kept_none : (a b : Bool) (list : List Processor) → cond (a && (b && false)) list [] ≡ []
kept_none true true list = refl
kept_none true false list = refl
kept_none false b list = refl

pub kept_push : (a : Bool) (place : ℕ) (ms : List Made) (m : Made)
    → processors_with (processors_kept a ms) (kept_if_made (a && list_all is_processor_made ms) place m) ≡ processors_kept a (ms ++ m ∷ [])
kept_push a place ms (made.Processor p) =
    kept_made a (list_all is_processor_made ms) (filter_map processor_in ms) p
    ∙ ap (λ list. cond (a && (list_all is_processor_made ms && true)) list []) (sym (all_push ms p))
    ∙ ap (λ b. cond (a && b) (filter_map processor_in (ms ++ made.Processor p ∷ [])) []) (sym (list_all-append is_processor_made ms (made.Processor p ∷ [])))
kept_push a place ms (made.Refused r) =
    sym (ap (λ b. cond (a && b) (filter_map processor_in (ms ++ made.Refused r ∷ [])) []) (list_all-append is_processor_made ms (made.Refused r ∷ []))
    ∙ kept_none a (list_all is_processor_made ms) (filter_map processor_in (ms ++ made.Refused r ∷ [])))

pub refused_kept : (a : Bool) (place : ℕ) (list : List RefusedProcessor) (m : Made)
    → refused_with list (kept_if_made a place m) ≡ list ++ refused_processors place (m ∷ [])
refused_kept true place list (made.Processor p) = sym (append-nil list)
refused_kept false place list (made.Processor p) = sym (append-nil list)
refused_kept a place list (made.Refused r) = refl

pub made_kept : (a : Bool) (place : ℕ) (m : Made) → not (is_refusal (kept_if_made a place m)) ≡ is_processor_made m
made_kept true place (made.Processor p) = refl
made_kept false place (made.Processor p) = refl
made_kept a place (made.Refused r) = refl

accepted_by : (a b c : Bool) → ((a && b) && c) ≡ (a && (b && (c && true)))
accepted_by true true true = refl
accepted_by true true false = refl
accepted_by true false c = refl
accepted_by false b c = refl

pub accepted_push : (a : Bool) (ms : List Made) (m : Made)
    → ((a && list_all is_processor_made ms) && is_processor_made m) ≡ (a && list_all is_processor_made (ms ++ m ∷ []))
accepted_push a ms m =
    accepted_by a (list_all is_processor_made ms) (is_processor_made m) ∙ ap (λ b. a && b) (sym (list_all-append is_processor_made ms (m ∷ [])))

-- ---- each is made

all_are_made : (ms : List Made) → AreAllMade ms → list_all is_processor_made ms ≡ true
all_are_made [] all = refl
all_are_made (made.Processor p ∷ ms) all = all_are_made ms all.1
all_are_made (made.Refused r ∷ ms) all = absurd all.0

pub all_kept : (a : Bool) (ms : List Made) → a ≡ true → AreAllMade ms → processors_kept a ms ≡ filter_map processor_in ms
all_kept a ms accepted all = λ i. cond (accepted i && all_are_made ms all i) (filter_map processor_in ms) []

-- ---- what is told of those that are refused

part_same : (r : Refusal) → part_at (refused_property r) ≡ refused_part r
part_same NoType = refl
part_same (Unread p) = refl
part_same (TooBig p) = refl
part_same (NoExpression p) = refl
part_same (NoOwnExpression name) = refl
part_same (NoOwnPatterns list) = refl

same_found : (by : Bool) (k : ℕ) (here there : Path) (rest other : Option Path) → here ≡ there → rest ≡ other
    → cond by (Some (in_list_item Processors k here)) rest ≡ option_or (option_map (in_list_item Processors k) (cond by (Some there) None)) other
same_found true k here there rest other part more = ap (λ path. Some (in_list_item Processors k path)) part
same_found false k here there rest other part more = more

same_refused : (rule : Rule) (k : ℕ) (ms : List Made) → first_refused_in rule (refused_processors k ms) ≡ first_refused rule k ms
same_refused rule k [] = refl
same_refused rule k (made.Processor p ∷ ms) = same_refused rule (suc k) ms
same_refused rule k (made.Refused r ∷ ms) =
    same_found (rule_number (rule_of r) == rule_number rule) k (part_at (refused_property r)) (refused_part r) _ _
    (part_same r) (same_refused rule (suc k) ms)

pub same_behind : (top : Data) (ms : List Made) → first_told (first_broken last_rules top) (refused_processors 0 ms) ≡ first_behind top ms
same_behind top ms =
    let same : (rule : Rule) → refused_in rule (refused_processors 0 ms) ≡ refused rule ms =
    λ rule. ap (option_map (λ path. (rule, path))) (same_refused rule 0 ms) in
    λ i. option_or (same UnknownType i) (option_or (same BadPattern i) (option_or (same BadExpression i)
    (option_or (first_broken last_rules top) (same PatternTooBig i))))

pub found_behind : (top : Data) (ms : List Made) (list : List RefusedProcessor) (last found : Option (Rule × Path)) → found ≡ first_told last list
    → list ≡ refused_processors 0 ms → last ≡ first_broken last_rules top → first_behind top ms ≡ found
found_behind top ms list last found is refused by =
    sym (is ∙ (λ i. first_told (by i) (refused i)) ∙ same_behind top ms)

pub last_unbroken : (top : Data) (ms : List Made) → first_behind top ms ≡ None → first_broken last_rules top ≡ None
last_unbroken top ms e =
    let typed = none_or (refused UnknownType ms) _ e in
    let read = none_or (refused BadPattern ms) _ typed.1 in
    let expressed = none_or (refused BadExpression ms) _ read.1 in
    (none_or (first_broken last_rules top) _ expressed.1).0

pub is_none_found : {X Y : Type 0} (f : X → Y) (o : Option X) (none : Bool) → is_some o ≡ not none → option_map f o ≡ None → none ≡ true
is_none_found f None true is e = refl
is_none_found f None false is e = absurd (false≢true is)
is_none_found f (Some x) none is e = absurd (none-some (f x) (sym e))
