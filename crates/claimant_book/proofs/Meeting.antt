-- What a share and the keeper know after they met.
use Rattle.std.proofs.Common.{◌≡◌, ◌≢◌, ℕ, ◌<◌, ◌≤◌, Bool, true, false, cond, eqb, ne_eqb, max, [], ◌∷◌, ◌++◌, refl, sym, ap, ◌∙◌, subst, arith}
use Rattle.std.proofs.Math.Nat.{le-max_left}
use mathlib.Core.Logic.{dite}
use native.Mathlib.Decide.{ℕ_discrete}
use Rattle.claimant_book.specs.Stages.{word_stage, IsLiveStage}
use Rattle.claimant_book.specs.declared.view.Role.{Role}
use Rattle.claimant_book.specs.declared.view.Role.TheVariants.{Keeping, Sharing, Noting, Spent}
use Rattle.claimant_book.specs.declared.view.Spot.{Spot}
use Rattle.claimant_book.specs.declared.view.Find.{Find}
use Rattle.claimant_book.specs.declared.view.View.{View}
use Rattle.claimant_book.specs.Views.{spot_of, holds_of, seen_by, joined_by, note_of, joined_spot, joined, looked, HoldsNothing}
use Rattle.claimant_book.specs.Kept.{Fits, one_if_keeping, one_if_sharing}
use Rattle.claimant_book.specs.Steps.{WordShows}
use Rattle.claimant_book.specs.Replies.{IsMet}
use Rattle.claimant_book.proofs.Spots.{spot-told, spot-joined, joined-held}
use Rattle.claimant_book.proofs.Fitting.{seen-most, latest-old}
use Rattle.claimant_book.proofs.Joining.{not-spent-keeping, not-spent-sharing}
use Rattle.claimant_book.proofs.Tables.{looked-here, looked-else, looked-held, looked-seen}

abbrev found : ℕ → ℕ → Find
found slot word = record { slot = slot; word = word }

pub note-holds-nothing : (v : View) → HoldsNothing (note_of v)
note-holds-nothing v j = ap (λ (x : Spot). x.held) (spot-told v.spots j)

kept-seen : (r : Role) (a b : Spot) → r ≡ Keeping → (joined_spot r a b).seen ≡ a.seen
kept-seen Keeping a b is = refl
kept-seen Sharing a b is = absurd (omega (arith, ap one_if_keeping is))
kept-seen Noting a b is = refl
kept-seen Spent a b is = refl

cond-more : (b : Bool) (x y : ℕ) → y ≤ x → y ≤ cond b x y
cond-more true x y h = h
cond-more false x y h = omega arith

shared-seen : (r : Role) (a b : Spot) → a.seen ≤ (joined_spot r a b).seen
shared-seen Keeping a b = omega arith
shared-seen Sharing a b = cond-more (eqb a.held 0) (max a.seen b.seen) a.seen (le-max_left a.seen b.seen)
shared-seen Noting a b = omega arith
shared-seen Spent a b = omega arith

held-seen : (r : Role) (a b : Spot) → 0 < a.held → (joined_spot r a b).seen ≡ a.seen
held-seen Keeping a b h = refl
held-seen Sharing a b h = ap (λ c. cond c (max a.seen b.seen) a.seen) (ne_eqb a.held 0 (λ z. omega arith))
held-seen Noting a b h = refl
held-seen Spent a b h = refl

joined-is : (v w : View) (j : ℕ) → spot_of (joined v w) j ≡ joined_spot v.role (spot_of v j) (spot_of w j)
joined-is v w j = spot-joined v.role v.spots w.spots j

pub joined-seen : (v w : View) (j : ℕ) → v.role ≡ Keeping → seen_by (joined v w) j ≡ seen_by v j
joined-seen v w j is = ap (λ (x : Spot). x.seen) (joined-is v w j) ∙ kept-seen v.role (spot_of v j) (spot_of w j) is

pub joined-holds : (v w : View) (j : ℕ) → holds_of (joined v w) j ≡ holds_of v j
joined-holds v w j = ap (λ (x : Spot). x.held) (joined-is v w j) ∙ joined-held v.role (spot_of v j) (spot_of w j)

-- what the other had seen is noted
heard : (v w : View) (j : ℕ) → seen_by w j ≤ joined_by (joined v w) j
heard v w j = omega (arith, ap (λ (x : Spot). x.joined) (joined-is v w j), (latest-old v.role (spot_of v j) (spot_of w j)).1)

noted-seen : (v : View) (j : ℕ) → seen_by (note_of v) j ≡ seen_by v j
noted-seen v j = ap (λ (x : Spot). x.seen) (spot-told v.spots j)

live-holder : (r : Role) (g : ℕ) (s : Spot) → r ≡ Sharing → Fits r g s → 0 < s.held → (s.seen ≡ g) × IsLiveStage g
live-holder Keeping g s is f h = absurd (omega (arith, ap one_if_sharing is))
live-holder Sharing g s is f h = f.3 h
live-holder Noting g s is f h = absurd (omega (arith, ap one_if_sharing is))
live-holder Spent g s is f h = absurd (omega (arith, ap one_if_sharing is))

pub met : (slot : ℕ) (s k k1 k2 s1 s2 : View) (w1 w2 : ℕ) → s.role ≡ Sharing → k.role ≡ Keeping
    → k1 ≡ joined k (note_of s) → k2 ≡ looked k1 slot w1 → WordShows k1 slot w1
    → s1 ≡ joined s (note_of k2) → s2 ≡ looked s1 slot w2 → WordShows s1 slot w2 → IsMet slot s k s2 k2
met slot s k k1 k2 s1 s2 w1 w2 shares keeps k1-is k2-is sh1 s1-is s2-is sh2 =
    let k1-role : k1.role ≡ Keeping = ap (λ (x : View). x.role) k1-is ∙ keeps in
    let s1-role : s1.role ≡ Sharing = ap (λ (x : View). x.role) s1-is ∙ shares in
    let k1-seen : (j : ℕ) → seen_by k1 j ≡ seen_by k j = λ j. ap (λ (x : View). seen_by x j) k1-is ∙ joined-seen k (note_of s) j keeps in
    let k1-held : (j : ℕ) → holds_of k1 j ≡ holds_of k j = λ j. ap (λ (x : View). holds_of x j) k1-is ∙ joined-holds k (note_of s) j in
    let k2-seen : (j : ℕ) → seen_by k2 j ≡ seen_by k j = λ j. ap (λ (x : View). seen_by x j) k2-is ∙ looked-seen k1 slot w1 j k1-role sh1 ∙ k1-seen j in
    let k2-held : (j : ℕ) → holds_of k2 j ≡ holds_of k j = λ j. ap (λ (x : View). holds_of x j) k2-is ∙ looked-held k1 slot w1 j ∙ k1-held j in
    let k2-word : seen_by k2 slot ≡ word_stage w1 = ap (λ (x : View). seen_by x slot) k2-is ∙ ap (λ (x : Spot). x.seen) (looked-here k1 slot w1) in
    let s1-held : (j : ℕ) → holds_of s1 j ≡ holds_of s j = λ j. ap (λ (x : View). holds_of x j) s1-is ∙ joined-holds s (note_of k2) j in
    let s1-spot : (j : ℕ) → spot_of s1 j ≡ joined_spot s.role (spot_of s j) (spot_of (note_of k2) j) = λ j. ap (λ (x : View). spot_of x j) s1-is ∙ joined-is s (note_of k2) j in
    let s1-later : (j : ℕ) → seen_by s j ≤ seen_by s1 j = λ j. subst (λ (x : Spot). seen_by s j ≤ x.seen) (sym (s1-spot j)) (shared-seen s.role (spot_of s j) (spot_of (note_of k2) j)) in
    let s1-same : (j : ℕ) → 0 < holds_of s j → seen_by s1 j ≡ seen_by s j = λ j h. ap (λ (x : Spot). x.seen) (s1-spot j) ∙ held-seen s.role (spot_of s j) (spot_of (note_of k2) j) h in
    let s2-held : (j : ℕ) → holds_of s2 j ≡ holds_of s j = λ j. ap (λ (x : View). holds_of x j) s2-is ∙ looked-held s1 slot w2 j ∙ s1-held j in
    let s2-word : seen_by s2 slot ≡ word_stage w2 = ap (λ (x : View). seen_by x slot) s2-is ∙ ap (λ (x : Spot). x.seen) (looked-here s1 slot w2) in
    let s2-else : (j : ℕ) → j ≢ slot → seen_by s2 j ≡ seen_by s1 j = λ j ne. ap (λ (x : View). seen_by x j) s2-is ∙ ap (λ (x : Spot). x.seen) (looked-else s1 slot w2 j ne) in
    let m1 = seen-most k1.role (word_stage w1) (spot_of k1 slot) (not-spent-keeping k1.role k1-role) sh1.fits in
    let m2 = seen-most s1.role (word_stage w2) (spot_of s1 slot) (not-spent-sharing s1.role s1-role) sh2.fits in
    let told : seen_by s slot ≤ joined_by k1 slot = subst (λ (x : View). seen_by s slot ≤ joined_by x slot) (sym k1-is) (omega (arith, heard k (note_of s) slot, noted-seen s slot)) in
    let told' : seen_by k2 slot ≤ joined_by s1 slot = subst (λ (x : View). seen_by k2 slot ≤ joined_by x slot) (sym s1-is) (omega (arith, heard s (note_of k2) slot, noted-seen k2 slot)) in
    let learned : seen_by s slot ≤ seen_by k2 slot = omega (arith, told, m1.1, k2-word) in
    let reached : seen_by k2 slot ≤ seen_by s2 slot = omega (arith, told', m2.1, s2-word) in
    let holder : 0 < holds_of s slot → (seen_by s1 slot ≡ word_stage w2) × IsLiveStage (word_stage w2) = λ h. live-holder s1.role (word_stage w2) (spot_of s1 slot) s1-role sh2.fits (omega (arith, h, s1-held slot)) in
    let held-slot : 0 < holds_of s slot → seen_by s2 slot ≡ seen_by s slot = λ h. s2-word ∙ sym (holder h).0 ∙ s1-same slot h in
    record {
      reached = omega (arith, reached, k2-seen slot);
      learned = learned;
      live = λ h.
          let same : seen_by k2 slot ≡ seen_by s2 slot = omega (arith, reached, learned, held-slot h) in
          (same, subst IsLiveStage (sym (same ∙ s2-word)) (holder h).1);
      keeper_same = (ap (λ (x : View). x.role) k2-is ∙ ap (λ (x : View). x.role) k1-is, ap (λ (x : View). x.out) k2-is ∙ ap (λ (x : View). x.out) k1-is, λ j. (k2-held j, k2-seen j));
      holds_same = s2-held;
      held_same = λ j h. dite (ℕ_discrete j slot)
          (λ e. subst (λ (x : ℕ). 0 < holds_of s x → seen_by s2 x ≡ seen_by s x) (sym e) held-slot h)
          (λ ne. s2-else j ne ∙ s1-same j h);
      no_earlier = λ j. dite (ℕ_discrete j slot)
          (λ e. subst (λ (x : ℕ). seen_by s x ≤ seen_by s2 x) (sym e) (omega (arith, learned, reached)))
          (λ ne. omega (arith, s2-else j ne, s1-later j));
      share_found = (w2, sym s2-word, ap (λ (x : View). x.finds) s2-is ∙ ap (λ (x : View). x.finds ++ found slot w2 ∷ []) s1-is);
      keeper_found = (w1, sym k2-word, ap (λ (x : View). x.finds) k2-is ∙ ap (λ (x : View). x.finds ++ found slot w1 ∷ []) k1-is);
    }
