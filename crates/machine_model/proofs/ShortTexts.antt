-- That an expression which was read from a text is worth few bytes.
use Rattle.std.proofs.Common.{◌≡◌, ℕ, zero, suc, ◌+◌, ◌-◌, ◌*◌, ◌^◌, ◌≤◌, Bool, true, false, cond, List, [], ◌∷◌, ◌++◌, length, take, drop, refl, ap, arith, ℤ, pos, negsuc, Ok, Err}
use Rattle.std.specs.Prelude.{◌+ℤ◌, ◌-ℤ◌, nat_le, min, Some, None, codes}
use Rattle.std.specs.Char.{to_ascii_lowercase, to_ascii_uppercase}
use Rattle.std.specs.Option.{option_map_or}
use Rattle.std.specs.Str.{chars, chars_after, continuation_len, lead_bits}
use Rattle.std.proofs.lemmas.Bool.{leb-true, ltb-true}
use Rattle.std.proofs.lemmas.Fmt.{length-decimal-le}
use Rattle.std.proofs.lemmas.List.{length-map, length-append, length-take, length-drop}
use Rattle.expr_lang.proofs.Fits.{fits-from_FitsSigned}
use Rattle.expr_lang.specs.declared.error.EvalError.TheVariants.{Overflow, TooLong}
use Rattle.expr_lang.specs.declared.function.Nullary.{Nullary}
use Rattle.expr_lang.specs.declared.function.Nullary.TheVariants.{IsEmpty, Length, ToUpper, ToLower, Not}
use Rattle.expr_lang.specs.declared.function.Unary.{Unary}
use Rattle.expr_lang.specs.declared.function.Unary.TheVariants.{Equals, StartsWith, EndsWith, Contains, Append, Prepend, SubstringBefore, SubstringAfter, GreaterThan, LessThan, Plus, Minus, And, Or}
use Rattle.expr_lang.specs.declared.function.Binary.{Binary}
use Rattle.expr_lang.specs.declared.function.Binary.TheVariants.{Replace}
use Rattle.expr_lang.specs.Functions.{given_alone, given_one, given_two, first_place, before, behind}
use Rattle.expr_lang.specs.Grammar.{IsBody, IsQuoted, IsArgument, IsSubject, IsCall, IsExpression, IsEmbedded, IsText}
use Rattle.expr_lang.specs.Meaning.{Attributes, term_value, joined_text, tree_value}
use Rattle.expr_lang.specs.Names.{unary_name, binary_name}
use Rattle.expr_lang.specs.Tree.{Term, attribute, constant, alone, with_one, with_two, Tree, whole, joined}
use Rattle.expr_lang.specs.Value.{Value, text, number, truth, Answer, ◌>>=◌, as_text, as_number, as_truth, bounded, fitting, fits}
use Rattle.machine_model.specs.Acting.{text_or_nothing}

-- ---- values

abbrev IsShort : Value → Type 0
IsShort v = length (as_text v) ≤ 65536

abbrev GivesShort : Answer Value → Type 0
GivesShort (Ok v) = IsShort v
GivesShort (Err e) = Unit {0}

then-short : (a : Answer Value) (f : Value → Answer Value) → GivesShort a → ((v : Value) → IsShort v → GivesShort (f v)) → GivesShort (a >>= f)
then-short (Ok v) f h each = each v h
then-short (Err e) f h each = tt

any-short : {A : Type 0} (a : Answer A) (f : A → Answer Value) → ((x : A) → GivesShort (f x)) → GivesShort (a >>= f)
any-short (Ok x) f each = each x
any-short (Err e) f each = tt

bounded-short : (s : List ℕ) → GivesShort (bounded s)
bounded-short s =
    elim (nat_le (length s) 65536) as (λ b. nat_le (length s) 65536 ≡ b → GivesShort (cond b (Ok (text s)) (Err TooLong))) [
      | true ↦ λ is. leb-true (length s) 65536 is
      | false ↦ λ is. tt
    ] refl

number-short : (z : ℤ) → fits z ≡ true → IsShort (number z)
number-short (pos n) h = let below = ltb-true n (2 ^ 63) h in omega (arith, length-decimal-le 20 n (omega arith) (omega arith) (omega arith))
number-short (negsuc n) h = let below = ltb-true n (2 ^ 63) h in omega (arith, length-decimal-le 20 (suc n) (omega arith) (omega arith) (omega arith))

fitting-short : (z : ℤ) → GivesShort (fitting z)
fitting-short z =
    elim (fits z) as (λ b. fits z ≡ b → GivesShort (cond b (Ok (number z)) (Err Overflow))) [ true ↦ λ is. number-short z is | false ↦ λ is. tt ] refl

truth-short : (b : Bool) → IsShort (truth b)
truth-short true = omega arith
truth-short false = omega arith

chars-after-few : (n c : ℕ) (bytes : List ℕ) → length (chars_after n c bytes) ≤ length bytes + 1
chars-after-few zero c [] = omega arith
chars-after-few zero c (b ∷ bytes) = omega (arith, chars-after-few (continuation_len b) (lead_bits b) bytes)
chars-after-few (suc n) c [] = omega arith
chars-after-few (suc n) c (b ∷ bytes) = omega (arith, chars-after-few n (c * 64 + (b - 128)) bytes)

chars-few : (bytes : List ℕ) → length (chars bytes) ≤ length bytes
unfolding chars
chars-few [] = omega arith
chars-few (b ∷ bytes) = omega (arith, chars-after-few (continuation_len b) (lead_bits b) bytes)

count-short : (n : ℕ) → n ≤ 65536 → IsShort (number (pos n))
count-short n h = omega (arith, length-decimal-le 20 n (omega arith) (omega arith) (omega arith))

before-few : (x s : List ℕ) → length (before x s) ≤ length s
before-few x s = elim (first_place x s) as (λ o. length (option_map_or (λ n. take n s) o s) ≤ length s) [ None ↦ omega arith | Some n ↦ omega (arith, length-take n s, min_right n (length s)) ]
  where
    min_right : (m n : ℕ) → min m n ≤ n
    min_right m n = omega arith

behind-few : (x s : List ℕ) → length (behind x s) ≤ length s
behind-few x s = elim (first_place x s) as (λ o. length (option_map_or (λ n. drop (n + length x) s) o s) ≤ length s) [ None ↦ omega arith | Some n ↦ omega (arith, length-drop (n + length x) s) ]

-- ---- functions

alone-short : (f : Nullary) (v : Value) → IsShort v → GivesShort (given_alone f v)
alone-short IsEmpty v h = truth-short _
alone-short Length v h = count-short (length (chars (as_text v))) (omega (arith, chars-few (as_text v)))
alone-short ToUpper v h = omega (arith, length-map (as_text v) to_ascii_uppercase)
alone-short ToLower v h = omega (arith, length-map (as_text v) to_ascii_lowercase)
alone-short Not v h = any-short (as_truth v) _ (λ b. truth-short _)

one-short : (f : Unary) (v x : Value) → IsShort v → IsShort x → GivesShort (given_one f v x)
one-short Equals v x h k = truth-short _
one-short StartsWith v x h k = truth-short _
one-short EndsWith v x h k = truth-short _
one-short Contains v x h k = truth-short _
one-short Append v x h k = bounded-short _
one-short Prepend v x h k = bounded-short _
one-short SubstringBefore v x h k = omega (arith, before-few (as_text x) (as_text v))
one-short SubstringAfter v x h k = omega (arith, behind-few (as_text x) (as_text v))
one-short GreaterThan v x h k = any-short (as_number v) _ (λ a. any-short (as_number x) _ (λ b. truth-short _))
one-short LessThan v x h k = any-short (as_number v) _ (λ a. any-short (as_number x) _ (λ b. truth-short _))
one-short Plus v x h k = any-short (as_number v) _ (λ a. any-short (as_number x) _ (λ b. fitting-short (a +ℤ b)))
one-short Minus v x h k = any-short (as_number v) _ (λ a. any-short (as_number x) _ (λ b. fitting-short (a -ℤ b)))
one-short And v x h k = any-short (as_truth v) _ (λ a. any-short (as_truth x) _ (λ b. truth-short _))
one-short Or v x h k = any-short (as_truth v) _ (λ a. any-short (as_truth x) _ (λ b. truth-short _))

two-short : (f : Binary) (v x y : Value) → GivesShort (given_two f v x y)
two-short Replace v x y = bounded-short _

-- ---- terms

abbrev AreShort : Term → Type 0
AreShort (attribute name) = Unit {0}
AreShort (constant v) = IsShort v
AreShort (alone f t) = AreShort t
AreShort (with_one f t x) = AreShort t × AreShort x
AreShort (with_two f t x y) = AreShort t × AreShort x × AreShort y

term-short : (find : Attributes) (t : Term) → AreShort t → GivesShort (term_value find t)
term-short find (attribute name) h = bounded-short _
term-short find (constant v) h = h
term-short find (alone f t) h = then-short (term_value find t) _ (term-short find t h) (λ v k. alone-short f v k)
term-short find (with_one f t x) h =
    then-short (term_value find t) _ (term-short find t h.0) (λ v k. then-short (term_value find x) _ (term-short find x h.1) (λ a l. one-short f v a k l))
term-short find (with_two f t x y) h =
    then-short (term_value find t) _ (term-short find t h.0) (λ v k. then-short (term_value find x) _ (term-short find x h.1) (λ a l.
    then-short (term_value find y) _ (term-short find y h.2) (λ b m. two-short f v a b)))

-- ---- what stands in a text

body-few : (mark : ℕ) (bytes s : List ℕ) → IsBody mark bytes s → length s ≤ length bytes
body-few mark bytes s IsBody.nothing = omega arith
body-few mark bytes s (IsBody.plain c rest t differ other body) = omega (arith, body-few mark rest t body)
body-few mark bytes s (IsBody.escape c d rest t is body) = omega (arith, body-few mark rest t body)

quoted-few : (bytes s : List ℕ) → IsQuoted bytes s → length s ≤ length bytes
quoted-few bytes s is = omega (arith, body-few is.mark is.body s is.is_body, ap length is.whole, length-append is.body (is.mark ∷ []))

-- the terms of E have short constants, where their texts are short
abbrev KeepsShort : (List ℕ → Term → Type 0) → Type 0
KeepsShort E = (bytes : List ℕ) (t : Term) → length bytes ≤ 4096 → E bytes t → AreShort t

argument-short : (E : List ℕ → Term → Type 0) → KeepsShort E → (bytes : List ℕ) (t : Term) → length bytes ≤ 4096 → IsArgument E bytes t → AreShort t
argument-short E keeps bytes t le (IsArgument.quoted _ s is) = omega (arith, quoted-few bytes s is)
argument-short E keeps bytes t le (IsArgument.numeral _ z is) = number-short z (fits-from_FitsSigned z is.fits)
argument-short E keeps bytes t le IsArgument.truly = truth-short true
argument-short E keeps bytes t le IsArgument.falsely = truth-short false
argument-short E keeps bytes t le (IsArgument.nested _ _ is) = keeps bytes t le is

-- a part of a text is no longer than the text
in-five : (a b c d : List ℕ) (m n : ℕ) → length (a ++ (b ++ (m ∷ (c ++ d)))) ≤ 4096 → length d ≤ 4096
in-five a b c d m n le = omega (arith, length-append a (b ++ (m ∷ (c ++ d))), length-append b (m ∷ (c ++ d)), length-append c d)

subject-short : (E : List ℕ → Term → Type 0) → KeepsShort E → (bytes : List ℕ) (t : Term) → length bytes ≤ 4096 → IsSubject E bytes t → AreShort t
subject-short E keeps bytes t le (IsSubject.named _ is) = tt
subject-short E keeps bytes t le (IsSubject.quoted _ s is) = tt
subject-short E keeps bytes t le (IsSubject.literal u v argument w _ u_is v_is is w_is) =
    argument-short E keeps argument t
    (omega (arith, in-five (codes "literal") u v (argument ++ (w ++ (41 ∷ []))) 40 0 le, length-append argument (w ++ (41 ∷ [])))) is

call-short : (E : List ℕ → Term → Type 0) → KeepsShort E → (before : Term) → AreShort before → (bytes : List ℕ) (t : Term) → length bytes ≤ 4096 → IsCall E before bytes t → AreShort t
call-short E keeps before h bytes t le (IsCall.no_argument f u v u_is v_is) = h
call-short E keeps before h bytes t le (IsCall.one_argument f u v first w x u_is v_is is w_is) = (
  h,
  argument-short E keeps first x
      (omega (arith, in-five (unary_name f) u v (first ++ (w ++ (41 ∷ []))) 40 0 le, length-append first (w ++ (41 ∷ [])))) is,
)
call-short E keeps before h bytes t le (IsCall.two_arguments f u v first w w' second w'' x y u_is v_is is w_is w'_is other w''_is) =
    let rest = second ++ (w'' ++ (41 ∷ [])) in
    let behind : length (first ++ (w ++ (44 ∷ (w' ++ rest)))) ≤ 4096 = in-five (binary_name f) u v (first ++ (w ++ (44 ∷ (w' ++ rest)))) 40 0 le in (
      h,
      argument-short E keeps first x (omega (arith, behind, length-append first (w ++ (44 ∷ (w' ++ rest))))) is,
      argument-short E keeps second y (omega (arith, in-five first w w' rest 44 0 behind, length-append second (w'' ++ (41 ∷ [])))) other,
    )

expression-short : (E : List ℕ → Term → Type 0) → KeepsShort E → (bytes : List ℕ) (t : Term) → length bytes ≤ 4096 → IsExpression E bytes t → AreShort t
expression-short E keeps bytes t le (IsExpression.subject _ _ is) = subject-short E keeps bytes t le is
expression-short E keeps bytes t le (IsExpression.call front u v rest before _ front_is u_is v_is is) =
    call-short E keeps before
    (expression-short E keeps front before (omega (arith, length-append front (u ++ (58 ∷ (v ++ rest))))) front_is) rest t (in-five front u v rest 58 0 le) is

embedded-short : (depth : ℕ) → KeepsShort (IsEmbedded depth)
embedded-short zero bytes t le is = absurd is
embedded-short (suc depth) bytes t le is =
    expression-short (IsEmbedded depth) (embedded-short depth) is.inner t
    (omega (
      arith,
      ap length is.whole,
      length-append (codes "${") (is.before ++ (is.inner ++ (is.behind ++ (125 ∷ [])))),
      length-append is.before (is.inner ++ (is.behind ++ (125 ∷ []))),
      length-append is.inner (is.behind ++ (125 ∷ [])),
    )) is.expression

tree-short : (find : Attributes) (bytes : List ℕ) (tree : Tree) → IsText bytes tree → GivesShort (tree_value find tree)
tree-short find bytes (whole t) is = term-short find t (embedded-short 16 bytes t is.0 is.1)
tree-short find bytes (joined parts) is = any-short (joined_text find parts) bounded (λ s. bounded-short s)

pub text-short : (find : Attributes) (bytes : List ℕ) (tree : Tree) → IsText bytes tree → length (text_or_nothing (tree_value find tree)) ≤ 65536
text-short find bytes tree is = of_answer (tree_value find tree) (tree-short find bytes tree is)
  where
    of_answer : (a : Answer Value) → GivesShort a → length (text_or_nothing a) ≤ 65536
    of_answer (Ok v) h = h
    of_answer (Err e) h = omega arith
