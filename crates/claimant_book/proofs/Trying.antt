-- What the tests' steps leave.
use Rattle.std.proofs.Common.{◌≡◌, ◌≢◌, ℕ, ◌+◌, ◌-◌, ◌≤◌, sym, ap, ◌∙◌, subst, arith}
use mathlib.Core.Logic.{dite}
use native.Mathlib.Decide.{ℕ_discrete}
use Rattle.claimant_book.specs.declared.view.Spot.{Spot}
use Rattle.claimant_book.specs.declared.view.View.{View}
use Rattle.claimant_book.specs.declared.reply.Take.{Take}
use Rattle.claimant_book.specs.declared.reply.Take.TheVariants.{Held, Full, Gone, Contended}
use Rattle.claimant_book.specs.Views.{holds_of, seen_by, view_with, first_keeper, share_of, HoldsNothing}
use Rattle.claimant_book.specs.Replies.{IsTaken}
use Rattle.claimant_book.proofs.Spots.{spot-told}
use Rattle.claimant_book.proofs.Tables.{knowing-here, knowing-else}

pub begun : (k0 k1 : View) → k0 ≡ first_keeper → k1 ≡ view_with k0 0 1 (seen_by k0 0 + 1) → (seen_by k1 0 ≡ 1) × (holds_of k1 0 ≡ 1) × (seen_by k1 1 ≡ 0)
begun k0 k1 e0 e1 = (
  ap (λ (x : View). seen_by x 0) e1 ∙ ap (λ (x : View). seen_by (view_with x 0 1 (seen_by x 0 + 1)) 0) e0,
  ap (λ (x : View). holds_of x 0) e1 ∙ ap (λ (x : View). holds_of (view_with x 0 1 (seen_by x 0 + 1)) 0) e0,
  ap (λ (x : View). seen_by x 1) e1 ∙ ap (λ (x : View). seen_by (view_with x 0 1 (seen_by x 0 + 1)) 1) e0,
)

pub now-holds : (v w : View) (i held seen : ℕ) → w ≡ view_with v i held seen → holds_of w i ≡ held
now-holds v w i held seen e = ap (λ (x : View). holds_of x i) e ∙ ap (λ (x : Spot). x.held) (knowing-here v i held seen)

pub now-sees : (v w : View) (i held seen : ℕ) → w ≡ view_with v i held seen → seen_by w i ≡ seen
now-sees v w i held seen e = ap (λ (x : View). seen_by x i) e ∙ ap (λ (x : Spot). x.seen) (knowing-here v i held seen)

pub else-sees : (v w : View) (i held seen j : ℕ) → j ≢ i → w ≡ view_with v i held seen → seen_by w j ≡ seen_by v j
else-sees v w i held seen j ne e = ap (λ (x : View). seen_by x j) e ∙ ap (λ (x : Spot). x.seen) (knowing-else v i held seen j ne)

pub share-holds-nothing : (k : View) → HoldsNothing (share_of k)
share-holds-nothing k j = ap (λ (x : Spot). x.held) (spot-told k.spots j)

pub share-sees : (k : View) (j : ℕ) → seen_by (share_of k) j ≡ seen_by k j
share-sees k j = ap (λ (x : Spot). x.seen) (spot-told k.spots j)

-- after a try at a slot of a share that held nothing
pub after-take : (answer : Take) (v w : View) → HoldsNothing v → IsTaken 0 1 v answer w → (holds_of w 0 ≤ 1) × (1 ≤ seen_by w 0) × ((j : ℕ) → j ≢ 0 → holds_of w j ≡ 0)
after-take Held v w none t = (omega (arith, none 0, t.1), omega (arith, t.2), λ j ne. ap (λ (x : Spot). x.held) (t.0 j ne) ∙ none j)
after-take Full v w none t = absurd (omega (arith, none 0, t.2))
after-take (Gone later retired) v w none t = (omega (arith, none 0, t.1), omega (arith, t.3), λ j ne. ap (λ (x : Spot). x.held) (t.0 j ne) ∙ none j)
after-take (Contended seen found) v w none t = absurd t

pub none-left : (w : View) → holds_of w 0 ≡ 0 → ((j : ℕ) → j ≢ 0 → holds_of w j ≡ 0) → HoldsNothing w
none-left w here others j = dite (ℕ_discrete j 0) (λ e. subst (λ (x : ℕ). holds_of w x ≡ 0) (sym e) here) (λ ne. others j ne)

pub after-give : (w x : View) → holds_of w 0 ≤ 1 → ((j : ℕ) → j ≢ 0 → holds_of w j ≡ 0) → x ≡ view_with w 0 (holds_of w 0 - 1) (seen_by w 0) → HoldsNothing x
after-give w x few others e = none-left x (omega (arith, now-holds w x 0 (holds_of w 0 - 1) (seen_by w 0) e, few))
    (λ j ne. ap (λ (y : View). holds_of y j) e ∙ ap (λ (y : Spot). y.held) (knowing-else w 0 (holds_of w 0 - 1) (seen_by w 0) j ne) ∙ others j ne)
