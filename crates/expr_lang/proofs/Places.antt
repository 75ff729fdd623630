-- Where a text stands in another, for the functions over texts.
use Rattle.std.proofs.Common.{◌≡◌, ℕ, zero, suc, ◌+◌, ◌-◌, ◌<◌, ◌≤◌, Bool, true, false, List, [], ◌∷◌, ◌++◌, length, take, drop, Some, None, MatchBool, nat_eq, refl, ap, sym, ◌∙◌, arith, append_assoc}
use Rattle.std.proofs.lemmas.Bool.{lt-leb, false_from_ne_true}
use Rattle.std.proofs.lemmas.Bool.Decides.{Decides-eqb}
use Rattle.std.proofs.lemmas.Slice.Eq.{starts_is}
use Rattle.std.proofs.lemmas.List.{drop_all, length-append}
use Rattle.std.specs.List.{starts_with}
use Rattle.std.specs.Option.{is_some}
use Rattle.std.specs.Str.Pattern.{FindsText, LacksTextAt, HasMatch, SplitsAroundMatch}
use Rattle.std.specs.Prelude.{nat_le, Err}
use Rattle.expr_lang.specs.declared.error.EvalError.TheVariants.{TooLong}
use Rattle.expr_lang.specs.Value.{bounded}
use Rattle.expr_lang.specs.Functions.{first_place, before, behind, replaced, with_replaced}

-- a text begins with another
begins : (s x : List ℕ) → starts_with nat_eq s x ≡ true → s ≡ x ++ drop (length x) s
begins s x e = (starts_is Decides-eqb s x _ refl).0 e

tells_begin : (s x rest : List ℕ) → s ≡ x ++ rest → starts_with nat_eq s x ≡ true
tells_begin s x rest e = (starts_is Decides-eqb s x _ refl).1 rest e

lacks_begin : (s x : List ℕ) → LacksTextAt x s 0 → starts_with nat_eq s x ≡ false
lacks_begin s x lacks = false_from_ne_true (starts_with nat_eq s x) (λ e. lacks (drop (length x) s) (begins s x e))

-- a text that stands nowhere in another has no first place there
pub no_place : (x s : List ℕ) → ((i : ℕ) → i ≤ length s → LacksTextAt x s i) → first_place x s ≡ None
no_place x [] lacks = rw (lacks_begin [] x (lacks 0 (omega arith))) refl
no_place x (c ∷ s) lacks =
    let later : first_place x s ≡ None = no_place x s (λ i below rest e. lacks (suc i) (omega arith) rest e) in
    rw (lacks_begin (c ∷ s) x (lacks 0 (omega arith)), later) refl

-- the first place is the first at which it stands
pub is_place : (x s rest : List ℕ) (i : ℕ) → ((k : ℕ) → k < i → LacksTextAt x s k) → drop i s ≡ x ++ rest → first_place x s ≡ Some i
is_place x [] rest zero lacks e = rw (tells_begin [] x rest e) refl
is_place x [] rest (suc i) lacks e = absurd (lacks 0 (omega arith) rest e)
is_place x (c ∷ s) rest zero lacks e = rw (tells_begin (c ∷ s) x rest e) refl
is_place x (c ∷ s) rest (suc i) lacks e =
    let later : first_place x s ≡ Some i = is_place x s rest i (λ k below rest' e'. lacks (suc k) (omega arith) rest' e') e in
    rw (lacks_begin (c ∷ s) x (lacks 0 (omega arith)), later) (ap Some (omega arith))

-- what the searches of std answer
pub contains_place : (r : Bool) (x s : List ℕ) → MatchBool r (HasMatch (FindsText x) s) (FindsText x s None) → is_some (first_place x s) ≡ r
contains_place true x s h = let e = is_place x s (drop h.1 s) h.0 h.2.0 h.2.1.split in rw e refl
contains_place false x s h = let e = no_place x s h in rw e refl

pub before_split : (x s front back : List ℕ) → SplitsAroundMatch (FindsText x) s front back → before x s ≡ front
before_split x s front back h =
    let e = is_place x s (drop h.1 s) h.0 h.2.0 h.2.1.split in
    rw (e, h.3) refl

pub behind_split : (x s front back : List ℕ) → SplitsAroundMatch (FindsText x) s front back → behind x s ≡ back
behind_split x s front back h =
    let e = is_place x s (drop h.1 s) h.0 h.2.0 h.2.1.split in
    rw (e, h.4, h.2.1.ends) refl

pub before_none : (x s : List ℕ) → FindsText x s None → before x s ≡ s
before_none x s h = let e = no_place x s h in rw e refl

pub behind_none : (x s : List ℕ) → FindsText x s None → behind x s ≡ s
behind_none x s h = let e = no_place x s h in rw e refl

-- bytes that are passed over stand in no result
passed_over : (x y s : List ℕ) (n : ℕ) → replaced x y n s ≡ replaced x y 0 (drop n s)
passed_over x y [] zero = refl
passed_over x y [] (suc n) =
    let empty : List ℕ = [] in
    let none : drop (suc n) empty ≡ empty = drop_all {X = ℕ} (suc n) empty (omega arith) in
    rw none refl
passed_over x y (c ∷ s) zero = refl
passed_over x y (c ∷ s) (suc n) = passed_over x y s n

drop_first : (x s : List ℕ) (c : ℕ) → 0 < length x → drop (length x) (c ∷ s) ≡ drop (length x - 1) s
drop_first x s c some = let e : length x ≡ suc (length x - 1) = omega arith in ap (λ n. drop n (c ∷ s)) e

replaced_none : (x y s : List ℕ) → ((i : ℕ) → i ≤ length s → LacksTextAt x s i) → replaced x y 0 s ≡ s
replaced_none x y [] lacks = refl
replaced_none x y (c ∷ s) lacks =
    let later : replaced x y 0 s ≡ s = replaced_none x y s (λ i below rest e. lacks (suc i) (omega arith) rest e) in
    rw (lacks_begin (c ∷ s) x (lacks 0 (omega arith)), later) refl

replaced_at : (x y s rest : List ℕ) (i : ℕ) → 0 < length x → ((k : ℕ) → k < i → LacksTextAt x s k) → drop i s ≡ x ++ rest
    → replaced x y 0 s ≡ take i s ++ (y ++ replaced x y 0 (drop (i + length x) s))
replaced_at x y [] rest i some lacks e =
    let long = length-append x rest in
    let empty : List ℕ = [] in
    let none : drop i empty ≡ empty = drop_all {X = ℕ} i empty (omega arith) in
    let short : length (x ++ rest) ≡ 0 = ap (length {A = ℕ}) (sym e ∙ none) in
    absurd (omega (arith, long))
replaced_at x y (c ∷ s) rest zero some lacks e =
    let now_here = tells_begin (c ∷ s) x rest e in
    let past : replaced x y (length x - 1) s ≡ replaced x y 0 (drop (length x) (c ∷ s)) = passed_over x y s (length x - 1) ∙ ap (replaced x y 0) (sym (drop_first x s c some)) in
    let zero_plus : 0 + length x ≡ length x = omega arith in
    rw (now_here, zero_plus, past) refl
replaced_at x y (c ∷ s) rest (suc i) some lacks e =
    let later = replaced_at x y s rest i some (λ k below rest' e'. lacks (suc k) (omega arith) rest' e') e in
    let one_more : suc i + length x ≡ suc (i + length x) = omega arith in
    rw (lacks_begin (c ∷ s) x (lacks 0 (omega arith)), one_more, later) refl

as_replaced : (x y s : List ℕ) → 0 < length x → with_replaced x y s ≡ replaced x y 0 s
as_replaced [] y s some = absurd (omega arith)
as_replaced (c ∷ x) y s some = refl

pub with_replaced_none : (x y s : List ℕ) → 0 < length x → FindsText x s None → with_replaced x y s ≡ s
with_replaced_none x y s some h = as_replaced x y s some ∙ replaced_none x y s h

pub with_replaced_split : (x y s front back : List ℕ) → 0 < length x → SplitsAroundMatch (FindsText x) s front back
    → with_replaced x y s ≡ front ++ (y ++ with_replaced x y back)
with_replaced_split x y s front back some h =
    let e = replaced_at x y s (drop h.1 s) h.0 some h.2.0 h.2.1.split in
    as_replaced x y s some ∙ rw (as_replaced x y back some, h.3, h.4, h.2.1.ends) e

-- a text that is made from the left
pub joined_step : (made made' made'' front y back whole result : List ℕ) → made' ≡ made ++ front → made'' ≡ made' ++ y
    → whole ≡ front ++ (y ++ back) → made ++ whole ≡ result → made'' ++ back ≡ result
joined_step made made' made'' front y back whole result e e' f g =
    rw (e', e, append_assoc, append_assoc, ← f) g

-- it never gets shorter
pub too_long : (front back whole : List ℕ) → front ++ back ≡ whole → 65536 < length front → bounded whole ≡ Err TooLong
too_long front back whole e long =
    let more = length-append front back in
    let same : length (front ++ back) ≡ length whole = ap length e in
    let over : nat_le (length whole) 65536 ≡ false = lt-leb (length whole) 65536 (omega arith) in
    rw over refl

-- the same of equal texts
pub both : {A : Type 0} (f : List ℕ → List ℕ → A) {a b s t : List ℕ} → a ≡ s → b ≡ t → f a b ≡ f s t
both f p q = λ i. f (p i) (q i)
