-- That an expression over texts is worth a text.
use Rattle.std.proofs.Common.{◌≡◌, ℕ, Bool, true, false, cond, List, [], ◌∷◌, ◌++◌, map, length, refl, sym, ap, ◌∙◌, subst, ℤ, pos, Ok, Err}
use Rattle.std.specs.Prelude.{◌+ℤ◌, ◌-ℤ◌, nat_le, Option, Some, None, IfSome, unwrap_or, string_bytes, codes}
use Rattle.std.specs.List.{fold, flat_map}
use Rattle.std.specs.Str.{IsUtf8, chars}
use Rattle.std.proofs.lemmas.Str.{IsUtf8-append, IsUtf8-nil, IsUtf8-string_bytes}
use Rattle.expr_lang.specs.declared.error.EvalError.TheVariants.{Overflow, TooLong}
use Rattle.expr_lang.specs.declared.function.Nullary.{Nullary}
use Rattle.expr_lang.specs.declared.function.Nullary.TheVariants.{IsEmpty, Length, ToUpper, ToLower, Not}
use Rattle.expr_lang.specs.declared.function.Unary.{Unary}
use Rattle.expr_lang.specs.declared.function.Unary.TheVariants.{Equals, StartsWith, EndsWith, Contains, Append, Prepend, SubstringBefore, SubstringAfter, GreaterThan, LessThan, Plus, Minus, And, Or}
use Rattle.expr_lang.specs.declared.function.Binary.{Binary}
use Rattle.expr_lang.specs.declared.function.Binary.TheVariants.{Replace}
use Rattle.expr_lang.specs.declared.syntax.Expr.{Expr}
use Rattle.expr_lang.specs.declared.syntax.Expr.TheVariants.{Whole, Joined}
use Rattle.expr_lang.specs.declared.syntax.Piece.{Piece}
use Rattle.expr_lang.specs.declared.syntax.Piece.TheVariants.{Plain, Computed}
use Rattle.expr_lang.specs.declared.syntax.Embedded.{Embedded}
use Rattle.expr_lang.specs.declared.syntax.Operand.{Operand}
use Rattle.expr_lang.specs.declared.syntax.Call.{Call}
use Rattle.expr_lang.specs.declared.syntax.Call.TheFolds.{map-Call, map-Operand, map-Embedded, ind-Embedded, fold-roll-Embedded, fold-roll-Operand, fold-roll-Call}
use Rattle.expr_lang.specs.declared.syntax.Call.TheViews.{roll-Embedded, roll-Operand, roll-Call}
use Rattle.expr_lang.specs.declared.syntax.Call.TheOpen as layer
use Rattle.expr_lang.specs.declared.syntax.Call.TheOpen.{Call-F, Operand-F, Embedded-F}
use Rattle.expr_lang.specs.Functions.{given_alone, given_one, given_two}
use Rattle.expr_lang.specs.Meaning.{Attributes, term_value, joined_text, tree_value}
use Rattle.expr_lang.specs.Tree.{Term, attribute, constant, alone, with_one, with_two, Part, byte}
use Rattle.expr_lang.specs.Value.{Value, text, number, truth, Answer, ◌>>=◌, as_text, as_number, as_truth, bounded, fitting, fits}
use Rattle.expr_lang.specs.View.{term_of, operand_term, call_term, call_layer, operand_layer, embedded_layer, piece_parts, tree_of}
use Rattle.machine_model.proofs.OneOutcome.{literal}
use Rattle.machine_model.proofs.TextParts.{number-text, lower-text, upper-text, before-text, behind-text, with-replaced-text}

-- ---- what an expression says is of texts

-- the constants of a term are texts
abbrev pub AreTexts : Term → Type 0
AreTexts (attribute name) = Unit {0}
AreTexts (constant v) = IsUtf8 (as_text v)
AreTexts (alone f t) = AreTexts t
AreTexts (with_one f t x) = AreTexts t × AreTexts x
AreTexts (with_two f t x y) = AreTexts t × AreTexts x × AreTexts y

abbrev KeepsTexts : Call → Type 0
KeepsTexts call = (t : Term) → AreTexts t → AreTexts (call_term call t)

abbrev HasTexts : Operand → Type 0
HasTexts operand = AreTexts (operand_term operand)

abbrev IsOfTexts : Embedded → Type 0
IsOfTexts e = AreTexts (term_of e)

truth-text : (b : Bool) → IsUtf8 (as_text (truth b))
truth-text true = literal (codes "true") refl
truth-text false = literal (codes "false") refl

-- a layer of an expression, where its parts have texts
call-texts : {C O E : Type 0} (y : Call-F C O E) (c : C → Call) (o : O → Operand) (e : E → Embedded) → ((x : O) → HasTexts (o x)) → KeepsTexts (roll-Call (map-Call C O E Call Operand Embedded c o e y))
call-texts (layer.Alone f) c o e each t h =
    subst (λ (g : Term → Term). AreTexts (g t)) (sym (fold-roll-Call (Term → Term) Term Term call_layer operand_layer embedded_layer (layer.Alone f))) h
call-texts (layer.WithOne f x) c o e each t h =
    subst (λ (g : Term → Term). AreTexts (g t)) (sym (fold-roll-Call (Term → Term) Term Term call_layer operand_layer embedded_layer (layer.WithOne f (o x)))) (h, each x)
call-texts (layer.WithTwo f x y) c o e each t h =
    subst (λ (g : Term → Term). AreTexts (g t)) (sym (fold-roll-Call (Term → Term) Term Term call_layer operand_layer embedded_layer (layer.WithTwo f (o x) (o y)))) (h, each x, each y)

operand-texts : {C O E : Type 0} (y : Operand-F C O E) (c : C → Call) (o : O → Operand) (e : E → Embedded) → ((x : E) → IsOfTexts (e x)) → HasTexts (roll-Operand (map-Operand C O E Call Operand Embedded c o e y))
operand-texts (layer.Attribute name) c o e each =
    subst AreTexts (sym (fold-roll-Operand (Term → Term) Term Term call_layer operand_layer embedded_layer (layer.Attribute name))) tt
operand-texts (layer.Text s) c o e each =
    subst AreTexts (sym (fold-roll-Operand (Term → Term) Term Term call_layer operand_layer embedded_layer (layer.Text s))) (IsUtf8-string_bytes s)
operand-texts (layer.Number n) c o e each =
    subst AreTexts (sym (fold-roll-Operand (Term → Term) Term Term call_layer operand_layer embedded_layer (layer.Number n))) (number-text n)
operand-texts (layer.Truth b) c o e each =
    subst AreTexts (sym (fold-roll-Operand (Term → Term) Term Term call_layer operand_layer embedded_layer (layer.Truth b))) (truth-text b)
operand-texts {C} {O} {E} (layer.Nested x) c o e each =
    let inner = map-Operand C O E Call Operand Embedded c o e (layer.Nested x) in
    subst AreTexts (sym (fold-roll-Operand (Term → Term) Term Term call_layer operand_layer embedded_layer inner)) (each x.value)

calls-texts : {C : Type 0} (c : C → Call) → ((x : C) → KeepsTexts (c x)) → (calls : List C) (t : Term) → AreTexts t → AreTexts (fold (λ t call. call t) t (map call_term (map c calls)))
calls-texts c each [] t h = h
calls-texts c each (call ∷ calls) t h = calls-texts c each calls (call_term (c call) t) (each call t h)

embedded-texts : {C O E : Type 0} (y : Embedded-F C O E) (c : C → Call) (o : O → Operand) (e : E → Embedded) → ((x : C) → KeepsTexts (c x)) → ((x : O) → HasTexts (o x))
    → IsOfTexts (roll-Embedded (map-Embedded C O E Call Operand Embedded c o e y))
embedded-texts {C} {O} {E} y c o e calls subject =
    subst AreTexts (sym (fold-roll-Embedded (Term → Term) Term Term call_layer operand_layer embedded_layer (map-Embedded C O E Call Operand Embedded c o e y)))
    (calls-texts c calls y.calls.items (operand_term (o y.subject)) (subject y.subject))

pub term-texts : (e : Embedded) → IsOfTexts e
term-texts = ind-Embedded KeepsTexts HasTexts IsOfTexts
    (λ x y is. subst (λ z. KeepsTexts (roll-Call z)) is (call-texts y (λ e. e.0) (λ e. e.0) (λ e. e.0) (λ e. e.1)))
    (λ x y is. subst (λ z. HasTexts (roll-Operand z)) is (operand-texts y (λ e. e.0) (λ e. e.0) (λ e. e.0) (λ e. e.1)))
    (λ x y is. subst (λ z. IsOfTexts (roll-Embedded z)) is (embedded-texts y (λ e. e.0) (λ e. e.0) (λ e. e.0) (λ e. e.1) (λ e. e.1)))

-- ---- values

abbrev pub GivesText : Answer Value → Type 0
GivesText (Ok v) = IsUtf8 (as_text v)
GivesText (Err e) = Unit {0}

then-text : (a : Answer Value) (f : Value → Answer Value) → GivesText a → ((v : Value) → IsUtf8 (as_text v) → GivesText (f v)) → GivesText (a >>= f)
then-text (Ok v) f h each = each v h
then-text (Err e) f h each = tt

any-text : {A : Type 0} (a : Answer A) (f : A → Answer Value) → ((x : A) → GivesText (f x)) → GivesText (a >>= f)
any-text (Ok x) f each = each x
any-text (Err e) f each = tt

bounded-text : (s : List ℕ) → IsUtf8 s → GivesText (bounded s)
bounded-text s h = elim (nat_le (length s) 65536) as (λ b. GivesText (cond b (Ok (text s)) (Err TooLong))) [ true ↦ h | false ↦ tt ]

fitting-text : (z : ℤ) → GivesText (fitting z)
fitting-text z = elim (fits z) as (λ b. GivesText (cond b (Ok (number z)) (Err Overflow))) [ true ↦ number-text z | false ↦ tt ]

-- ---- functions

alone-text : (f : Nullary) (v : Value) → IsUtf8 (as_text v) → GivesText (given_alone f v)
alone-text IsEmpty v h = truth-text _
alone-text Length v h = number-text (pos (length (chars (as_text v))))
alone-text ToUpper v h = upper-text (as_text v) h
alone-text ToLower v h = lower-text (as_text v) h
alone-text Not v h = any-text (as_truth v) _ (λ b. truth-text _)

one-text : (f : Unary) (v x : Value) → IsUtf8 (as_text v) → IsUtf8 (as_text x) → GivesText (given_one f v x)
one-text Equals v x h k = truth-text _
one-text StartsWith v x h k = truth-text _
one-text EndsWith v x h k = truth-text _
one-text Contains v x h k = truth-text _
one-text Append v x h k = bounded-text _ (IsUtf8-append (as_text v) (as_text x) h k)
one-text Prepend v x h k = bounded-text _ (IsUtf8-append (as_text x) (as_text v) k h)
one-text SubstringBefore v x h k = before-text (as_text x) (as_text v) k h
one-text SubstringAfter v x h k = behind-text (as_text x) (as_text v) k h
one-text GreaterThan v x h k = any-text (as_number v) _ (λ a. any-text (as_number x) _ (λ b. truth-text _))
one-text LessThan v x h k = any-text (as_number v) _ (λ a. any-text (as_number x) _ (λ b. truth-text _))
one-text Plus v x h k = any-text (as_number v) _ (λ a. any-text (as_number x) _ (λ b. fitting-text (a +ℤ b)))
one-text Minus v x h k = any-text (as_number v) _ (λ a. any-text (as_number x) _ (λ b. fitting-text (a -ℤ b)))
one-text And v x h k = any-text (as_truth v) _ (λ a. any-text (as_truth x) _ (λ b. truth-text _))
one-text Or v x h k = any-text (as_truth v) _ (λ a. any-text (as_truth x) _ (λ b. truth-text _))

two-text : (f : Binary) (v x y : Value) → IsUtf8 (as_text v) → IsUtf8 (as_text x) → IsUtf8 (as_text y) → GivesText (given_two f v x y)
two-text Replace v x y h k l = bounded-text _ (with-replaced-text (as_text x) (as_text y) (as_text v) k l h)

-- ---- over attributes that are texts

abbrev pub FindsTexts : Attributes → Type 0
FindsTexts find = (name : List ℕ) → IfSome (find name) IsUtf8

or-nothing-text : (found : Option (List ℕ)) → IfSome found IsUtf8 → IsUtf8 (unwrap_or found [])
or-nothing-text (Some value) h = h
or-nothing-text None h = IsUtf8-nil

pub found-text : (find : Attributes) → FindsTexts find → (name : List ℕ) → IsUtf8 (unwrap_or (find name) [])
found-text find finds name = or-nothing-text (find name) (finds name)

term-text : (find : Attributes) → FindsTexts find → (t : Term) → AreTexts t → GivesText (term_value find t)
term-text find finds (attribute name) h = bounded-text _ (found-text find finds name)
term-text find finds (constant v) h = h
term-text find finds (alone f t) h = then-text (term_value find t) _ (term-text find finds t h) (λ v k. alone-text f v k)
term-text find finds (with_one f t x) h =
    then-text (term_value find t) _ (term-text find finds t h.0)
    (λ v k. then-text (term_value find x) _ (term-text find finds x h.1) (λ a l. one-text f v a k l))
term-text find finds (with_two f t x y) h =
    then-text (term_value find t) _ (term-text find finds t h.0) (λ v k.
    then-text (term_value find x) _ (term-text find finds x h.1) (λ a l.
    then-text (term_value find y) _ (term-text find finds y h.2) (λ b m. two-text f v a b k l m)))

-- ---- texts that are joined

abbrev GivesBytes : Answer (List ℕ) → Type 0
GivesBytes (Ok s) = IsUtf8 s
GivesBytes (Err e) = Unit {0}

joined-then : (a : Answer (List ℕ)) (front : List ℕ) → IsUtf8 front → GivesBytes a → GivesBytes (a >>= λ s. Ok (front ++ s))
joined-then (Ok s) front is h = IsUtf8-append front s is h
joined-then (Err e) front is h = tt

-- bytes that stand for themselves stand before what follows
plain-joined : (find : Attributes) (bytes : List ℕ) (parts : List Part) → joined_text find (map byte bytes ++ parts) ≡ (joined_text find parts >>= λ s. Ok (bytes ++ s))
plain-joined find [] parts = itself (joined_text find parts)
  where
    itself : (a : Answer (List ℕ)) → a ≡ (a >>= λ s. Ok ([] ++ s))
    itself (Ok s) = refl
    itself (Err e) = refl
plain-joined find (c ∷ bytes) parts = ap (λ a. a >>= λ s. Ok (c ∷ s)) (plain-joined find bytes parts) ∙ one_more (joined_text find parts)
  where
    one_more : (a : Answer (List ℕ)) → ((a >>= (λ s. Ok (bytes ++ s))) >>= λ s. Ok (c ∷ s)) ≡ (a >>= λ s. Ok (c ∷ (bytes ++ s)))
    one_more (Ok s) = refl
    one_more (Err e) = refl

computed-text : (value : Answer Value) (rest : Answer (List ℕ)) → GivesText value → GivesBytes rest → GivesBytes (value >>= λ v. rest >>= λ s. Ok (as_text v ++ s))
computed-text (Ok v) rest h k = joined-then rest (as_text v) h k
computed-text (Err e) rest h k = tt

pieces-text : (find : Attributes) → FindsTexts find → (pieces : List Piece) → GivesBytes (joined_text find (flat_map piece_parts pieces))
pieces-text find finds [] = IsUtf8-nil
pieces-text find finds (Plain s ∷ pieces) =
    let parts = flat_map piece_parts pieces in
    subst GivesBytes (sym (plain-joined find (string_bytes s) parts))
    (joined-then (joined_text find parts) (string_bytes s) (IsUtf8-string_bytes s) (pieces-text find finds pieces))
pieces-text find finds (Computed e ∷ pieces) =
    computed-text (term_value find (term_of e)) (joined_text find (flat_map piece_parts pieces)) (term-text find finds (term_of e) (term-texts e)) (pieces-text find finds pieces)

bounded-then : (a : Answer (List ℕ)) → GivesBytes a → GivesText (a >>= bounded)
bounded-then (Ok s) h = bounded-text s h
bounded-then (Err e) h = tt

pub expression-text : (find : Attributes) → FindsTexts find → (expression : Expr) → GivesText (tree_value find (tree_of expression))
expression-text find finds (Whole e) = term-text find finds (term_of e) (term-texts e)
expression-text find finds (Joined pieces) = bounded-then (joined_text find (flat_map piece_parts pieces.items)) (pieces-text find finds pieces.items)
