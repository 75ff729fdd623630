-- Functions by their names.
use Rattle.std.proofs.Common.{◌≡◌, ℕ, ◌<◌, length, lit<, Bool, true, List, [], ◌∷◌, Some, None, refl, sym, ◌∙◌, subst, inl, inr}
use Rattle.std.specs.Prelude.{find, bytes_eq}
use Rattle.std.specs.List.{list_all}
use Rattle.std.proofs.lemmas.Bool.{cases_Bool, cond-false, false_from_ne_true}
use Rattle.std.proofs.lemmas.Option.{none-some, same_Some}
use Rattle.std.proofs.lemmas.Slice.Eq.{bytes_eq-Decides}
use Rattle.expr_lang.specs.declared.function.Nullary.TheVariants as nullary
use Rattle.expr_lang.specs.declared.function.Unary.TheVariants as unary
use Rattle.expr_lang.specs.declared.function.Binary.TheVariants as binary
use Rattle.expr_lang.specs.declared.function.Function.{Function}
use Rattle.expr_lang.specs.declared.function.Function.TheVariants.{Alone, WithOne, WithTwo}
use Rattle.expr_lang.specs.Bytes.{is_letter}
use Rattle.expr_lang.specs.Names.{name_of, functions, function_named}

find_passes : {A : Type 0} (p : A → Bool) (xs : List A) (x : A) → find p xs ≡ Some x → p x ≡ true
find_passes p [] x h = absurd (none-some x h)
find_passes p (y ∷ xs) x h = elim (cases_Bool (p y)) [
  | inl passes ↦ subst (λ v. p v ≡ true) (same_Some y x (rw passes at h)) passes
  | inr fails ↦ find_passes p xs x (rw fails at h)
]

pub named_sound : (name : List ℕ) (f : Function) → function_named name ≡ Some f → name ≡ name_of f
unfolding function_named
named_sound name f h = sym ((bytes_eq-Decides (name_of f) name).0 (find_passes (λ (g : Function). bytes_eq (name_of g) name) functions f h))

-- a name of its own
pub record IsOwn (f : Function) : Type 0 where
  pub found : function_named (name_of f) ≡ Some f
  pub letters : list_all is_letter (name_of f) ≡ true
  pub some : 0 < length (name_of f)

pub named_complete : (f : Function) → IsOwn f
unfolding function_named
named_complete (Alone nullary.IsEmpty) = record { found = refl; letters = refl; some = lit< tt }
named_complete (Alone nullary.Length) = record { found = refl; letters = refl; some = lit< tt }
named_complete (Alone nullary.ToUpper) = record { found = refl; letters = refl; some = lit< tt }
named_complete (Alone nullary.ToLower) = record { found = refl; letters = refl; some = lit< tt }
named_complete (Alone nullary.Not) = record { found = refl; letters = refl; some = lit< tt }
named_complete (WithOne unary.Equals) = record { found = refl; letters = refl; some = lit< tt }
named_complete (WithOne unary.StartsWith) = record { found = refl; letters = refl; some = lit< tt }
named_complete (WithOne unary.EndsWith) = record { found = refl; letters = refl; some = lit< tt }
named_complete (WithOne unary.Contains) = record { found = refl; letters = refl; some = lit< tt }
named_complete (WithOne unary.Append) = record { found = refl; letters = refl; some = lit< tt }
named_complete (WithOne unary.Prepend) = record { found = refl; letters = refl; some = lit< tt }
named_complete (WithOne unary.SubstringBefore) = record { found = refl; letters = refl; some = lit< tt }
named_complete (WithOne unary.SubstringAfter) = record { found = refl; letters = refl; some = lit< tt }
named_complete (WithOne unary.GreaterThan) = record { found = refl; letters = refl; some = lit< tt }
named_complete (WithOne unary.LessThan) = record { found = refl; letters = refl; some = lit< tt }
named_complete (WithOne unary.Plus) = record { found = refl; letters = refl; some = lit< tt }
named_complete (WithOne unary.Minus) = record { found = refl; letters = refl; some = lit< tt }
named_complete (WithOne unary.And) = record { found = refl; letters = refl; some = lit< tt }
named_complete (WithOne unary.Or) = record { found = refl; letters = refl; some = lit< tt }
named_complete (WithTwo binary.Replace) = record { found = refl; letters = refl; some = lit< tt }

-- none of the functions has this name
abbrev pub AreOthers : List Function → List ℕ → Type 0
AreOthers [] name = Unit {0}
AreOthers (f ∷ fs) name = (name ≡ name_of f → ⊥) × AreOthers fs name

find_none : (fs : List Function) (name : List ℕ) → AreOthers fs name → find (λ (g : Function). bytes_eq (name_of g) name) fs ≡ None
find_none [] name h = refl
find_none (f ∷ fs) name h =
    cond-false (bytes_eq (name_of f) name) _ _ (false_from_ne_true (bytes_eq (name_of f) name) (λ e. h.0 (sym ((bytes_eq-Decides (name_of f) name).0 e))))
    ∙ find_none fs name h.1

pub named_none : (name : List ℕ) → AreOthers functions name → function_named name ≡ None
unfolding function_named
named_none name h = find_none functions name h
