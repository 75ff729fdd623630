-- What the answer on a text says of every tree and of every place.
use Rattle.std.proofs.Common.{◌≡◌, ℕ, ◌≤◌, List, [], length, Result, Ok, Err, IsErrAnd, sym, ◌∙◌, subst, inr}
use Rattle.expr_lang.specs.declared.error.ExprError.{ExprError}
use Rattle.expr_lang.specs.declared.error.ExprError.TheVariants.{Bad, Memory}
use Rattle.expr_lang.specs.declared.syntax.Expr.{Expr}
use Rattle.expr_lang.specs.Gives.{GivesTree, RefusesAt, IsUnreadAt}
use Rattle.expr_lang.specs.Grammar.{ArePieces, IsText, IsBadAt}
use Rattle.expr_lang.specs.Tree.{Part, Tree, tree_of_parts}
use Rattle.expr_lang.proofs.Pieces.{text_of, tree_same, never_both, place_same}

pub tree_refused : (text : List ℕ) (e : ExprError) (r : Result Expr ExprError) → IsErrAnd r (λ x. x ≡ e) → length text ≤ 4096 → IsUnreadAt text e → (tree : Tree) → IsText text tree → GivesTree r tree
tree_refused text e (Ok x) is short unread tree h = absurd is
tree_refused text (Bad at) (Err (Bad place)) is short unread tree h = absurd (never_both text tree at h (inr (short, unread)))
tree_refused text (Bad at) (Err Memory) is short unread tree h = tt
tree_refused text Memory (Err (Bad place)) is short unread tree h = absurd (let e : ◌≡◌ {A = ExprError} (Bad place) Memory = is in cc)
tree_refused text Memory (Err Memory) is short unread tree h = tt

pub place_refused : (text : List ℕ) (e : ExprError) (r : Result Expr ExprError) → IsErrAnd r (λ x. x ≡ e) → length text ≤ 4096 → IsUnreadAt text e → (place : ℕ) → IsBadAt text place → RefusesAt r place
place_refused text e (Ok x) is short unread place h = absurd is
place_refused text (Bad at) (Err (Bad at')) is short unread place h =
    let same : at' ≡ at = (let e : ◌≡◌ {A = ExprError} (Bad at') (Bad at) = is in cc) in
    same ∙ place_same text at place (inr (short, unread)) h
place_refused text (Bad at) (Err Memory) is short unread place h = tt
place_refused text Memory (Err (Bad at')) is short unread place h = absurd (let e : ◌≡◌ {A = ExprError} (Bad at') Memory = is in cc)
place_refused text Memory (Err Memory) is short unread place h = tt

-- the parts of the whole text make this tree
module _ (text : List ℕ) (parts : List Part) (made : Tree) (short : length text ≤ 4096) (pieces : ArePieces text parts []) (is : made ≡ tree_of_parts parts) where
  pub is_text : IsText text made
  is_text = subst (IsText text) (sym is) (text_of text parts short pieces)

  pub one_tree : (tree : Tree) → IsText text tree → made ≡ tree
  one_tree tree h = tree_same text made tree is_text h

  pub no_place : (place : ℕ) → IsBadAt text place → ⊥
  no_place place h = never_both text made place is_text h
