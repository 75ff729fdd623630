-- What becomes of the processors of a text, and what that settles.
use Rattle.std.proofs.Common.{◌≡◌, ◌==◌, cond, ℕ, suc, ◌≤◌, List, [], ◌∷◌, ◌++◌, Option, Some, None, option_map, Result, Ok, Err, IfOk, Contains, refl, sym, subst, arith}
use Rattle.std.specs.List.{filter_map}
use Rattle.std.specs.Option.{option_map_or, option_or}
use Rattle.std.proofs.lemmas.Option.{none-some}
use Rattle.serde_json.specs.Data.{Data}
use Rattle.flow_definition.specs.declared.field.Field.TheVariants.{Processors}
use Rattle.flow_definition.specs.declared.made.Made.{Made}
use Rattle.flow_definition.specs.declared.made.Made.TheVariants as made
use Rattle.flow_definition.specs.declared.made.MadeKind.{MadeKind}
use Rattle.flow_definition.specs.declared.made.MadeKind.TheVariants as kind
use Rattle.flow_definition.specs.declared.made.Refusal.{Refusal}
use Rattle.flow_definition.specs.declared.made.Refusal.TheVariants.{NoType, Unread, TooBig, NoExpression, NoOwnExpression, NoOwnPatterns}
use Rattle.flow_definition.specs.declared.rule.Rule.TheVariants.{UnknownType, BadPattern, BadExpression, PatternTooBig}
use Rattle.flow_definition.specs.declared.processor_type.ProcessorType.TheVariants.{GetFile, GenerateFlowFile, ReplaceText}
use Rattle.flow_definition.specs.declared.processor_type.Property.TheVariants.{FileFilter, CustomText, SearchValue}
use Rattle.flow_definition.specs.Looks.{type_of, properties_in, own_texts_in}
use Rattle.flow_definition.specs.Numbers.{rule_number}
use Rattle.flow_definition.specs.OwnPatterns.{name_refused, rule_by, unread_in}
use Rattle.flow_definition.specs.Types.{properties_of}
use Rattle.flow_definition.specs.Made.{IsCauseOfRefusal, IsMade, IsMadeKind, told_kind, AreMade, AreAllMade, told_all, told_made, first_refused, processor_in}
use Rattle.flow_definition.specs.Patterns.{HasRisen, Told}
use Rattle.flow_definition.specs.Reading.{AreProcessorsOf, is_whole_in}
use Rattle.flow_definition.specs.Rules.{Path, in_property}
use Rattle.flow_definition.specs.Walk.{in_list_item}
use Rattle.flow_definition.proofs.OwnPatterns.{attempts_later, none_big, some_big}

-- own patterns are refused by one of two rules
refused_so : (k : ℕ) (unread : Option (List ℕ)) (place : Path) (rest other : Option Path)
    → option_or (option_map (in_list_item Processors k) (cond (rule_number (rule_by unread) == rule_number BadPattern) (Some place) None)) rest ≡ None
    → option_or (option_map (in_list_item Processors k) (cond (rule_number (rule_by unread) == rule_number PatternTooBig) (Some place) None)) other ≡ None → ⊥
refused_so k (Some name) place rest other read small = absurd (none-some _ (sym read))
refused_so k None place rest other read small = absurd (none-some _ (sym small))

risen_own : (R : Type 0) (k : ℕ) (unread : Option (List ℕ)) (place path : Path) (rest : Option Path) → (unread ≡ None → R) → (rest ≡ Some path → R)
    → option_or (option_map (in_list_item Processors k) (cond (rule_number (rule_by unread) == rule_number PatternTooBig) (Some place) None)) rest ≡ Some path → R
risen_own R k (Some name) place path rest here later found = later found
risen_own R k None place path rest here later found = here refl

pub all_made : (ms : List Made) (k : ℕ) → first_refused UnknownType k ms ≡ None → first_refused BadPattern k ms ≡ None
    → first_refused BadExpression k ms ≡ None → first_refused PatternTooBig k ms ≡ None → AreAllMade ms
all_made [] k typed read expressed small = tt
all_made (made.Processor p ∷ ms) k typed read expressed small = (tt, all_made ms (suc k) typed read expressed small)
all_made (made.Refused NoType ∷ ms) k typed read expressed small = absurd (none-some _ (sym typed))
all_made (made.Refused (Unread p) ∷ ms) k typed read expressed small = absurd (none-some _ (sym read))
all_made (made.Refused (TooBig p) ∷ ms) k typed read expressed small = absurd (none-some _ (sym small))
all_made (made.Refused (NoExpression p) ∷ ms) k typed read expressed small = absurd (none-some _ (sym expressed))
all_made (made.Refused (NoOwnExpression n) ∷ ms) k typed read expressed small = absurd (none-some _ (sym expressed))
all_made (made.Refused (NoOwnPatterns list) ∷ ms) k typed read expressed small =
    absurd (refused_so k (unread_in list) (in_property (name_refused list)) _ _ read small)

pub processors_made : (R : Type 0) (ds : List Data) (ms : List Made) → AreMade R ds ms → AreAllMade ms → AreProcessorsOf ds (filter_map processor_in ms)
processors_made R [] [] each all = tt
processors_made R [] (m ∷ ms) each all = absurd each
processors_made R (d ∷ ds) [] each all = absurd each
processors_made R (d ∷ ds) (made.Processor p ∷ ms) each all = (each.0, processors_made R ds ms each.1 all.1)
processors_made R (d ∷ ds) (made.Refused r ∷ ms) each all = absurd all.0

-- a pattern is refused as too big only where the count rose
pub risen : (R : Type 0) (ds : List Data) (ms : List Made) (k : ℕ) (path : Path) → AreMade R ds ms → first_refused PatternTooBig k ms ≡ Some path → R
risen R [] [] k path each found = absurd (none-some _ found)
risen R [] (m ∷ ms) k path each found = absurd each
risen R (d ∷ ds) [] k path each found = absurd each
risen R (d ∷ ds) (made.Processor p ∷ ms) k path each found = risen R ds ms (suc k) path each.1 found
risen R (d ∷ ds) (made.Refused NoType ∷ ms) k path each found = risen R ds ms (suc k) path each.1 found
risen R (d ∷ ds) (made.Refused (Unread p) ∷ ms) k path each found = risen R ds ms (suc k) path each.1 found
risen R (d ∷ ds) (made.Refused (TooBig p) ∷ ms) k path each found = each.0.1
risen R (d ∷ ds) (made.Refused (NoExpression p) ∷ ms) k path each found = risen R ds ms (suc k) path each.1 found
risen R (d ∷ ds) (made.Refused (NoOwnExpression n) ∷ ms) k path each found = risen R ds ms (suc k) path each.1 found
risen R (d ∷ ds) (made.Refused (NoOwnPatterns list) ∷ ms) k path each found =
    risen_own R k (unread_in list) (in_property (name_refused list)) path (first_refused PatternTooBig (suc k) ms)
    (some_big R (is_whole_in d) (own_texts_in d) list each.0.1.0 each.0.1.1) (risen R ds ms (suc k) path each.1) found

-- where each was made, no text was refused for its size
pub told_none : (n : Told) (ds : List Data) (ms : List Made) → AreAllMade ms → told_all n ds ms ≡ n
told_none n [] ms all = refl
told_none n (d ∷ ds) [] all = refl
told_none n (d ∷ ds) (made.Processor p ∷ ms) all = told_none n ds ms all.1
told_none n (d ∷ ds) (made.Refused r ∷ ms) all = absurd all.0

-- ---- one more processor

pub told_push : (R : Type 0) (n : Told) (ds : List Data) (ms : List Made) (d : Data) (m : Made) → AreMade R ds ms
    → told_all n (ds ++ d ∷ []) (ms ++ m ∷ []) ≡ told_made (told_all n ds ms) d m
told_push R n [] [] d m each = refl
told_push R n [] (x ∷ ms) d m each = absurd each
told_push R n (e ∷ ds) [] d m each = absurd each
told_push R n (e ∷ ds) (x ∷ ms) d m each = told_push R (told_made n e x) ds ms d m each.1

pub made_push : (R : Type 0) (ds : List Data) (ms : List Made) (d : Data) (m : Made) → AreMade R ds ms → IsMade R d m → AreMade R (ds ++ d ∷ []) (ms ++ m ∷ [])
made_push R [] [] d m each last = (last, tt)
made_push R [] (n ∷ ms) d m each last = absurd each
made_push R (e ∷ ds) [] d m each last = absurd each
made_push R (e ∷ ds) (n ∷ ms) d m each last = (each.0, made_push R ds ms d m each.1 last)

refusal_later : (R S : Type 0) (d : Data) (r : Refusal) → (R → S) → IsCauseOfRefusal R d r → IsCauseOfRefusal S d r
refusal_later R S d NoType f h = h
refusal_later R S d (Unread p) f h = h
refusal_later R S d (TooBig p) f h = (h.0, f h.1)
refusal_later R S d (NoExpression p) f h = h
refusal_later R S d (NoOwnExpression n) f h = h
refusal_later R S d (NoOwnPatterns list) f h =
    (h.0, (attempts_later R S (is_whole_in d) (own_texts_in d) list f h.1.0, h.1.1))

-- what is made without a pattern
kind_later : (S : Type 0) (d : Data) (m : MadeKind) → IsMadeKind ⊥ d m → IsMadeKind S d m
kind_later S d (kind.Kind k) h = h
kind_later S d (kind.Refused r) h = refusal_later ⊥ S d r (λ x. absurd x) h

pub answer_later : {E : Type 0} (S : Type 0) (d : Data) (r : Result MadeKind E) → IfOk r (IsMadeKind ⊥ d) → IfOk r (IsMadeKind S d)
answer_later S d (Ok m) h = kind_later S d m h
answer_later S d (Err e) h = tt

kind_untold : (n : Told) (d : Data) (m : MadeKind) → IsMadeKind ⊥ d m → n ≡ told_kind n d m
kind_untold n d (kind.Kind k) h = refl
kind_untold n d (kind.Refused NoType) h = refl
kind_untold n d (kind.Refused (Unread p)) h = refl
kind_untold n d (kind.Refused (TooBig p)) h = absurd h.1
kind_untold n d (kind.Refused (NoExpression p)) h = refl
kind_untold n d (kind.Refused (NoOwnExpression name)) h = refl
kind_untold n d (kind.Refused (NoOwnPatterns list)) h = sym (none_big n (is_whole_in d) (own_texts_in d) list h.1.0)

pub answer_untold : {E : Type 0} (n : Told) (d : Data) (r : Result MadeKind E) → IfOk r (IsMadeKind ⊥ d) → IfOk r (λ m. n ≡ told_kind n d m)
answer_untold n d (Ok m) h = kind_untold n d m h
answer_untold n d (Err e) h = tt

pub made_later : (R S : Type 0) (ds : List Data) (ms : List Made) → (R → S) → AreMade R ds ms → AreMade S ds ms
made_later R S [] [] f each = tt
made_later R S [] (m ∷ ms) f each = absurd each
made_later R S (d ∷ ds) [] f each = absurd each
made_later R S (d ∷ ds) (made.Processor p ∷ ms) f each = (each.0, made_later R S ds ms f each.1)
made_later R S (d ∷ ds) (made.Refused r ∷ ms) f each = (refusal_later R S d r f each.0, made_later R S ds ms f each.1)

pub one_later : (R S : Type 0) (d : Data) (m : Made) → (R → S) → IsMade R d m → IsMade S d m
one_later R S d (made.Processor p) f h = h
one_later R S d (made.Refused r) f h = refusal_later R S d r f h

pub risen_before : (a b c : ℕ) → b ≤ c → HasRisen a b → HasRisen a c
risen_before a b c later h = λ small. omega (arith, h)

pub risen_after : (a b c : ℕ) → a ≤ b → HasRisen b c → HasRisen a c
risen_after a b c later h = λ small. omega (arith, h)

-- ---- properties of a type

pub file_filter_in : (d : Data) → type_of d ≡ Some GetFile → Contains (properties_in d) FileFilter
file_filter_in d is =
    subst (λ type. Contains (option_map_or properties_of type []) FileFilter) (sym is) (0, omega arith, refl)

pub custom_text_in : (d : Data) → type_of d ≡ Some GenerateFlowFile → Contains (properties_in d) CustomText
custom_text_in d is =
    subst (λ type. Contains (option_map_or properties_of type []) CustomText) (sym is) (1, omega arith, refl)

pub search_value_in : (d : Data) → type_of d ≡ Some ReplaceText → Contains (properties_in d) SearchValue
search_value_in d is =
    subst (λ type. Contains (option_map_or properties_of type []) SearchValue) (sym is) (2, omega arith, refl)
