-- What holds of the value in an `Option`, if there is one.
use Rattle.std.proofs.Common.{◌≡◌, Bool, true, false, cond, refl, sym, subst}
use Rattle.std.proofs.lemmas.Bool.{true≢false}
use Rattle.std.specs.Prelude.{Option, Some, None, IfSome, option_map, option_and_then}

pub if_and_then : {A B : Type 0} (f : A → Option B) (o : Option A) (P : B → Type 0) → ((x : A) → o ≡ Some x → IfSome (f x) P) → IfSome (option_and_then f o) P
if_and_then f None P h = tt
if_and_then f (Some x) P h = h x refl

pub if_map : {A B : Type 0} (f : A → B) (o : Option A) (P : B → Type 0) → ((x : A) → o ≡ Some x → P (f x)) → IfSome (option_map f o) P
if_map f None P h = tt
if_map f (Some x) P h = h x refl

pub if_when : {A : Type 0} (b : Bool) (x : A) (P : A → Type 0) → (b ≡ true → P x) → IfSome (cond b (Some x) None) P
if_when true x P h = h refl
if_when false x P h = tt

pub if_where : {A : Type 0} (b : Bool) (o : Option A) (P : A → Type 0) → (b ≡ true → IfSome o P) → IfSome (cond b o None) P
if_where true o P h = h refl
if_where false o P h = tt

pub when_passes : {A : Type 0} (b : Bool) (x : A) (P : A → Type 0) → b ≡ true → IfSome (cond b (Some x) None) P → P x
when_passes true x P h is = is
when_passes false x P h is = absurd (true≢false (sym h))

pub if_at : {A : Type 0} (o : Option A) (x : A) (P : A → Type 0) → o ≡ Some x → IfSome o P → P x
if_at None x P is h = cc
if_at (Some y) x P is h = let same : y ≡ x = cc in subst P same h

pub if_weaker : {A : Type 0} (o : Option A) (P Q : A → Type 0) → ((x : A) → P x → Q x) → IfSome o P → IfSome o Q
if_weaker None P Q each h = tt
if_weaker (Some x) P Q each h = each x h
