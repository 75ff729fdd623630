-- What a token keeps in memory goes with its view.
use Rattle.std.proofs.Common.{◌≡◌, ◌≢◌, ℕ, zero, suc, ◌+◌, ◌<◌, ◌≤◌, List, [], ◌∷◌, length, eqb, eq-eqb, ne_eqb, get_or, set, refl, sym, ap, ◌∙◌, subst, get_or-set_same, get_or-set_other, arith}
use Rattle.std.specs.Bool.{MatchBool}
use mathlib.Core.Logic.{dite}
use native.Mathlib.Decide.{ℕ_discrete}
use Rattle.claimant_book.specs.Stages.{word_stage, final_stage, most_held}
use Rattle.claimant_book.specs.declared.view.Role.TheVariants.{Keeping, Sharing}
use Rattle.claimant_book.specs.declared.view.Spot.{Spot}
use Rattle.claimant_book.specs.declared.view.View.{View}
use Rattle.claimant_book.specs.Views.{spot, spot_of, holds_of, seen_by, joined_by, view_with, looked}
use Rattle.claimant_book.specs.Steps.{WordShows, LookTells, TakeTells, RetireTells}
use Rattle.claimant_book.proofs.Spots.{spot-here, spot-else}
use Rattle.claimant_book.proofs.Fitting.{fits-seen, seen-most}
use Rattle.claimant_book.proofs.Joining.{not-spent-sharing}

pub knowing-here : (v : View) (i held seen : ℕ) → spot_of (view_with v i held seen) i ≡ spot held seen (joined_by v i)
knowing-here v i held seen = spot-here v.spots i (spot held seen (joined_by v i))

pub knowing-else : (v : View) (i held seen j : ℕ) → j ≢ i → spot_of (view_with v i held seen) j ≡ spot_of v j
knowing-else v i held seen j ne = spot-else v.spots i j (spot held seen (joined_by v i)) ne

pub looked-here : (v : View) (i word : ℕ) → spot_of (looked v i word) i ≡ spot (holds_of v i) (word_stage word) (joined_by v i)
looked-here v i word = spot-here v.spots i (spot (holds_of v i) (word_stage word) (joined_by v i))

pub looked-else : (v : View) (i word j : ℕ) → j ≢ i → spot_of (looked v i word) j ≡ spot_of v j
looked-else v i word j ne = spot-else v.spots i j (spot (holds_of v i) (word_stage word) (joined_by v i)) ne

pub looked-held : (v : View) (i word j : ℕ) → holds_of (looked v i word) j ≡ holds_of v j
looked-held v i word j = dite (ℕ_discrete j i)
    (λ e. subst (λ (x : ℕ). holds_of (looked v i word) x ≡ holds_of v x) (sym e) (ap (λ (x : Spot). x.held) (looked-here v i word)))
    (λ ne. ap (λ (x : Spot). x.held) (looked-else v i word j ne))

-- the keeper sees what it had seen
pub looked-seen : (v : View) (i word j : ℕ) → v.role ≡ Keeping → WordShows v i word → seen_by (looked v i word) j ≡ seen_by v j
looked-seen v i word j is sh = dite (ℕ_discrete j i)
    (λ e. subst (λ (x : ℕ). seen_by (looked v i word) x ≡ seen_by v x) (sym e) (ap (λ (x : Spot). x.seen) (looked-here v i word) ∙ sym (fits-seen v.role (word_stage word) (spot_of v i) is sh.fits)))
    (λ ne. ap (λ (x : Spot). x.seen) (looked-else v i word j ne))

pub knowing-seen : (v : View) (i held j : ℕ) → seen_by (view_with v i held (seen_by v i)) j ≡ seen_by v j
knowing-seen v i held j = dite (ℕ_discrete j i)
    (λ e. subst (λ (x : ℕ). seen_by (view_with v i held (seen_by v i)) x ≡ seen_by v x) (sym e) (ap (λ (x : Spot). x.seen) (knowing-here v i held (seen_by v i))))
    (λ ne. ap (λ (x : Spot). x.seen) (knowing-else v i held (seen_by v i) j ne))

-- the keeper's stages
abbrev pub HasStages : ℕ → List ℕ → View → Type 0
HasStages n stages v = (slot : ℕ) → slot < n → (get_or stages slot 0 ≡ seen_by v slot) × (seen_by v slot ≤ final_stage)

pub stages-same : (n : ℕ) (stages : List ℕ) (v w : View) → ((j : ℕ) → seen_by w j ≡ seen_by v j) → HasStages n stages v → HasStages n stages w
stages-same n stages v w same h j below = ((h j below).0 ∙ sym (same j), omega (arith, same j, (h j below).1))

pub stages-set : (n : ℕ) (stages : List ℕ) (v : View) (i held seen : ℕ) → i < n → length stages ≡ n → seen ≤ final_stage → HasStages n stages v → HasStages n (set stages i seen) (view_with v i held seen)
stages-set n stages v i held seen below long ends h j under = dite (ℕ_discrete j i)
    (λ e. subst (λ (x : ℕ). (get_or (set stages i seen) x 0 ≡ seen_by (view_with v i held seen) x) × (seen_by (view_with v i held seen) x ≤ final_stage)) (sym e)
    (get_or-set_same stages i seen 0 (omega (arith, long)) ∙ sym (ap (λ (x : Spot). x.seen) (knowing-here v i held seen)), omega (arith, ap (λ (x : Spot). x.seen) (knowing-here v i held seen), ends)))
    (λ ne. let same = ap (λ (x : Spot). x.seen) (knowing-else v i held seen j ne) in
    (get_or-set_other stages i j seen 0 ne ∙ (h j under).0 ∙ sym same, omega (arith, same, (h j under).1)))

-- a share's holds
abbrev pub HasHolds : ℕ → List ℕ → View → Type 0
HasHolds n holds v = (slot : ℕ) → slot < n → (get_or holds slot 0 ≡ holds_of v slot) × (holds_of v slot ≤ most_held)

pub holds-same : (n : ℕ) (holds : List ℕ) (v w : View) → ((j : ℕ) → holds_of w j ≡ holds_of v j) → HasHolds n holds v → HasHolds n holds w
holds-same n holds v w same h j below = ((h j below).0 ∙ sym (same j), omega (arith, same j, (h j below).1))

pub holds-set : (n : ℕ) (holds : List ℕ) (v : View) (i held seen : ℕ) → i < n → length holds ≡ n → held ≤ most_held → HasHolds n holds v → HasHolds n (set holds i held) (view_with v i held seen)
holds-set n holds v i held seen below long most h j under = dite (ℕ_discrete j i)
    (λ e. subst (λ (x : ℕ). (get_or (set holds i held) x 0 ≡ holds_of (view_with v i held seen) x) × (holds_of (view_with v i held seen) x ≤ most_held)) (sym e)
    (get_or-set_same holds i held 0 (omega (arith, long)) ∙ sym (ap (λ (x : Spot). x.held) (knowing-here v i held seen)), omega (arith, ap (λ (x : Spot). x.held) (knowing-here v i held seen), most)))
    (λ ne. let same = ap (λ (x : Spot). x.held) (knowing-else v i held seen j ne) in
    (get_or-set_other holds i j held 0 ne ∙ (h j under).0 ∙ sym same, omega (arith, same, (h j under).1)))

pub stages-moved : (n : ℕ) (stages : List ℕ) (v w : View) (i held seen x : ℕ) → w ≡ view_with v i held seen → x ≡ seen → i < n → length stages ≡ n → seen ≤ final_stage → HasStages n stages v → HasStages n (set stages i x) w
stages-moved n stages v w i held seen x is same below long ends h =
    subst (λ (y : View). HasStages n (set stages i x) y) (sym is) (subst (λ (y : ℕ). HasStages n (set stages i y) (view_with v i held seen)) (sym same) (stages-set n stages v i held seen below long ends h))

pub holds-moved : (n : ℕ) (holds : List ℕ) (v w : View) (i held seen x : ℕ) → w ≡ view_with v i held seen → x ≡ held → i < n → length holds ≡ n → held ≤ most_held → HasHolds n holds v → HasHolds n (set holds i x) w
holds-moved n holds v w i held seen x is same below long most h =
    subst (λ (y : View). HasHolds n (set holds i x) y) (sym is) (subst (λ (y : ℕ). HasHolds n (set holds i y) (view_with v i held seen)) (sym same) (holds-set n holds v i held seen below long most h))

default-any : (l : List ℕ) (i d e : ℕ) → i < length l → get_or l i d ≡ get_or l i e
default-any [] i d e below = absurd (omega arith)
default-any (x ∷ xs) zero d e below = refl
default-any (x ∷ xs) (suc i) d e below = default-any xs i d e (omega arith)

-- what was read is what the table says
pub read-is : (l : List ℕ) (n i x y : ℕ) → x ≡ get_or l i x → get_or l i 0 ≡ y → i < n → length l ≡ n → x ≡ y
read-is l n i x y read is below long = read ∙ default-any l i x 0 (omega (arith, long)) ∙ is

match-hit : (a b : ℕ) (P Q : Type 0) → a ≡ b → MatchBool (eqb a b) P Q → P
match-hit a b P Q e m = subst (λ x. MatchBool x P Q) (eq-eqb a b e) m

match-miss : (a b : ℕ) (P Q : Type 0) → a ≢ b → MatchBool (eqb a b) P Q → Q
match-miss a b P Q ne m = subst (λ x. MatchBool x P Q) (ne_eqb a b ne) m

pub retire-hit : (v : View) (slot expected word : ℕ) (w : View) → word ≡ expected → RetireTells v slot expected word w → w ≡ view_with v slot 0 (seen_by v slot + 1)
retire-hit v slot expected word w e m = match-hit word expected (w ≡ view_with v slot 0 (seen_by v slot + 1)) (LookTells v slot word w) e m

pub retire-miss : (v : View) (slot expected word : ℕ) (w : View) → word ≢ expected → RetireTells v slot expected word w → LookTells v slot word w
retire-miss v slot expected word w ne m = match-miss word expected (w ≡ view_with v slot 0 (seen_by v slot + 1)) (LookTells v slot word w) ne m

pub take-hit : (v : View) (slot expected word : ℕ) (w : View) → word ≡ expected → TakeTells v slot expected word w → w ≡ view_with v slot (holds_of v slot + 1) (word_stage expected)
take-hit v slot expected word w e m = match-hit word expected (w ≡ view_with v slot (holds_of v slot + 1) (word_stage expected)) (LookTells v slot word w) e m

pub take-miss : (v : View) (slot expected word : ℕ) (w : View) → word ≢ expected → TakeTells v slot expected word w → LookTells v slot word w
take-miss v slot expected word w ne m = match-miss word expected (w ≡ view_with v slot (holds_of v slot + 1) (word_stage expected)) (LookTells v slot word w) ne m

-- a share that looks twice sees no earlier stage
pub looked-later : (v v1 : View) (slot seen found : ℕ) → v.role ≡ Sharing → LookTells v slot seen v1 → WordShows v1 slot found → seen_by v slot ≤ word_stage found
looked-later v v1 slot seen found is l sh =
    let first = seen-most v.role (word_stage seen) (spot_of v slot) (not-spent-sharing v.role is) l.1.fits in
    let second = seen-most v1.role (word_stage found) (spot_of v1 slot) (not-spent-sharing v1.role (ap (λ (x : View). x.role) l.0 ∙ is)) sh.fits in
    let here : seen_by v1 slot ≡ word_stage seen = ap (λ (x : View). seen_by x slot) l.0 ∙ ap (λ (x : Spot). x.seen) (looked-here v slot seen) in
    omega (arith, first.0, second.0, here)
