-- Each step on one slot keeps the rule.
use Rattle.std.proofs.Common.{◌≡◌, ◌≢◌, ⊎_elim, ℕ, zero, suc, ◌+◌, ◌<◌, ◌≤◌, List, [], ◌∷◌, ◌++◌, length, get_or, set, refl, sym, ap, ◌∙◌, subst, length-set, get_or-set_same, get_or-set_other, arith}
use mathlib.Core.Logic.{dite}
use mathlib.Core.Option.{Option, some, some-injective, some-ne-none}
use native.Mathlib.Decide.{ℕ_discrete}
use lib.ListN.{get_elem?}
use Rattle.atomic_table.specs.Table.{State, opening}
use Rattle.atomic_table.proofs.Lists.{at_set}
use Rattle.claimant_book.specs.Stages.{word_stage, word_count, IsLiveStage, final_stage}
use Rattle.claimant_book.specs.declared.view.Role.TheVariants.{Keeping}
use Rattle.claimant_book.specs.declared.view.Spot.{Spot}
use Rattle.claimant_book.specs.declared.view.Find.{Find}
use Rattle.claimant_book.specs.declared.view.View.{View}
use Rattle.claimant_book.specs.Views.{spot, spot_of, holds_of, joined_by, with_spot, looked, first_keeper}
use Rattle.claimant_book.specs.Kept.{Fits, one_if_keeping, one_if_sharing, shares_among, IsSlotKept, AreRolesKept, IsBookKept, OthersHoldNothing}
use Rattle.claimant_book.specs.Steps.{WordShows}
use Rattle.claimant_book.proofs.Totals.{total-set, term_le, terms_le, total-alone, total-most}
use Rattle.claimant_book.proofs.Spots.{spot-here, spot-else}
use Rattle.claimant_book.proofs.Fitting.{fits-looked, held-most, idle-holds-nothing}

abbrev pub St : Type 0
St = State ℕ View

abbrev pub state : List ℕ → List (Option ℕ) → List View → St
state ws hs vs = record { words = ws; homes = hs; views = vs }

-- a view is replaced by one of the same kind
pub roles-set : (views : List View) (id : ℕ) (v w : View) → get_elem? views id ≡ some v → one_if_keeping w.role ≡ one_if_keeping v.role → one_if_sharing w.role ≡ one_if_sharing v.role
    → (w.role ≡ Keeping → w.out ≡ shares_among views) → AreRolesKept views → AreRolesKept (set views id w)
roles-set views id v w me keep share out k =
    let same : shares_among (set views id w) ≡ shares_among views = omega (arith, total-set (λ u. one_if_sharing u.role) views id v w me, share) in
    record {
      one = omega (arith, total-set (λ u. one_if_keeping u.role) views id v w me, keep, k.one);
      few = omega (arith, same, k.few);
      out = λ j u e is. ⊎_elim
          (λ (t : (j ≡ id) × (w ≡ u)). ap (λ (x : View). x.out) (sym t.1) ∙ out (ap (λ (x : View). x.role) t.1 ∙ is) ∙ sym same)
          (λ (t : (j ≢ id) × (get_elem? views j ≡ some u)). k.out j u t.1 is ∙ sym same)
          (at_set views id j w u e);
    }

-- the view v knows this of the slot i, and what it knew of the others
abbrev pub spotted : View → ℕ → Spot → List Find → View
spotted v i s finds = record { role = v.role; out = v.out; spots = with_spot v.spots i s; finds = finds }

-- one view changes at one slot, and the slot's word with it
pub changed : (n i id : ℕ) (s : St) (v : View) (p : Spot) (finds : List Find) (m : ℕ) → IsBookKept n s → get_elem? s.views id ≡ some v → i < n
    → word_count m + holds_of v i ≡ word_count (get_or s.words i 0) + p.held
    → (0 < word_count m → IsLiveStage (word_stage m)) → word_stage m ≤ final_stage → Fits v.role (word_stage m) p
    → ((j : ℕ) (u : View) → j ≢ id → get_elem? s.views j ≡ some u → Fits u.role (word_stage m) (spot_of u i))
    → IsBookKept n (state (set s.words i m) s.homes (set s.views id (spotted v i p finds)))
changed n i id s v p finds m k me below count live ends fits others =
    let w : View = spotted v i p finds in
    let here : spot_of w i ≡ p = spot-here v.spots i p in
    let word : get_or (set s.words i m) i 0 ≡ m = get_or-set_same s.words i m 0 (omega (arith, k.wide)) in
    let at_slot : IsSlotKept m i (set s.views id w) = record {
      count = omega (arith, total-set (λ u. holds_of u i) s.views id v w me, ap (λ (x : Spot). x.held) here, (k.slot i).count, count);
      live = live;
      ends = ends;
      fits = λ j u e. ⊎_elim
          (λ (t : (j ≡ id) × (w ≡ u)). subst (λ (y : View). Fits y.role (word_stage m) (spot_of y i)) t.1 (subst (λ (x : Spot). Fits v.role (word_stage m) x) (sym here) fits))
          (λ (t : (j ≢ id) × (get_elem? s.views j ≡ some u)). others j u t.0 t.1)
          (at_set s.views id j w u e);
    } in
    let beside : (j : ℕ) → j ≢ i → IsSlotKept (get_or s.words j 0) j (set s.views id w) = λ j ne.
    let same : spot_of w j ≡ spot_of v j = spot-else v.spots i j p ne in record {
      count = omega (arith, total-set (λ u. holds_of u j) s.views id v w me, ap (λ (x : Spot). x.held) same, (k.slot j).count);
      live = (k.slot j).live;
      ends = (k.slot j).ends;
      fits = λ x u e. ⊎_elim
          (λ (t : (x ≡ id) × (w ≡ u)). subst (λ (y : View). Fits y.role (word_stage (get_or s.words j 0)) (spot_of y j)) t.1 (subst (λ (z : Spot). Fits v.role (word_stage (get_or s.words j 0)) z) (sym same) ((k.slot j).fits id v me)))
          (λ (t : (x ≢ id) × (get_elem? s.views x ≡ some u)). (k.slot j).fits x u t.1)
          (at_set s.views id x w u e);
    } in
    record {
      wide = length-set s.words i m ∙ k.wide;
      roles = roles-set s.views id v w me refl refl (λ is. k.roles.out id v me is) k.roles;
      slot = λ j. dite (ℕ_discrete j i)
          (λ e. subst (λ (x : ℕ). IsSlotKept (get_or (set s.words i m) x 0) x (set s.views id w)) (sym e) (subst (λ (x : ℕ). IsSlotKept x i (set s.views id w)) (sym word) at_slot))
          (λ ne. subst (λ (x : ℕ). IsSlotKept x j (set s.views id w)) (sym (get_or-set_other s.words i j m 0 ne)) (beside j ne));
    }

-- the stage stays
pub steady : (n i id : ℕ) (s : St) (v : View) (p : Spot) (finds : List Find) (m : ℕ) → IsBookKept n s → get_elem? s.views id ≡ some v → i < n
    → word_count m + holds_of v i ≡ word_count (get_or s.words i 0) + p.held
    → word_stage m ≡ word_stage (get_or s.words i 0) → (0 < word_count m → IsLiveStage (word_stage (get_or s.words i 0))) → Fits v.role (word_stage (get_or s.words i 0)) p
    → IsBookKept n (state (set s.words i m) s.homes (set s.views id (spotted v i p finds)))
steady n i id s v p finds m k me below count same live fits =
    changed n i id s v p finds m k me below count
    (λ h. subst IsLiveStage (sym same) (live h))
    (omega (arith, same, (k.slot i).ends))
    (subst (λ (g : ℕ). Fits v.role g p) (sym same) fits)
    (λ j u ne e. subst (λ (g : ℕ). Fits u.role g (spot_of u i)) (sym same) ((k.slot i).fits j u e))

pub others_hold_nothing : OthersHoldNothing
others_hold_nothing n s k id v me is i le other w ne there = (
  omega (arith, terms_le (λ u. holds_of u i) s.views id other v w ne me there, (k.slot i).count, le),
  λ keeps. absurd (omega (arith, terms_le (λ u. one_if_keeping u.role) s.views id other v w ne me there, ap one_if_keeping is, ap one_if_keeping keeps, k.roles.one)),
)

-- a view that neither keeps nor shares, beside a keeper with no share out
alone : (n i id : ℕ) (s : St) (v : View) → IsBookKept n s → get_elem? s.views id ≡ some v → v.role ≡ Keeping → v.out ≡ 0 → (j : ℕ) (u : View) → j ≢ id → get_elem? s.views j ≡ some u → holds_of u i ≡ 0
alone n i id s v k me is none j u ne e =
    idle-holds-nothing u.role (word_stage (get_or s.words i 0)) (spot_of u i)
    (omega (arith, terms_le (λ x. one_if_keeping x.role) s.views id j v u ne me e, ap one_if_keeping is, k.roles.one))
    (omega (arith, term_le (λ x. one_if_sharing x.role) s.views j u e, k.roles.out id v me is, none))
    ((k.slot i).fits j u e)

pub shows : (n i id : ℕ) (s : St) (v : View) → IsBookKept n s → get_elem? s.views id ≡ some v → WordShows v i (get_or s.words i 0)
shows n i id s v k me = record {
  fits = (k.slot i).fits id v me;
  counted = omega (arith, term_le (λ u. holds_of u i) s.views id v me, (k.slot i).count);
  live = (k.slot i).live;
  ends = (k.slot i).ends;
  alone = λ is none. (k.slot i).count ∙ total-alone (λ u. holds_of u i) s.views id v me (alone n i id s v k me is none);
}

-- a count has room for one more
pub has-room : (n i : ℕ) (s : St) → IsBookKept n s → word_count (get_or s.words i 0) ≤ 2214592512
has-room n i s k =
    omega (
      arith,
      (k.slot i).count,
      k.roles.one,
      k.roles.few,
      total-most (λ u. holds_of u i) (λ u. one_if_keeping u.role) (λ u. one_if_sharing u.role) s.views (λ j u e. held-most u.role (word_stage (get_or s.words i 0)) (spot_of u i) ((k.slot i).fits j u e)),
    )

pub look-keeps : (n i id : ℕ) (s : St) (v : View) → IsBookKept n s → get_elem? s.views id ≡ some v → i < n
    → IsBookKept n (state (set s.words i (get_or s.words i 0)) s.homes (set s.views id (looked v i (get_or s.words i 0))))
look-keeps n i id s v k me below =
    let word : ℕ = get_or s.words i 0 in
    steady n i id s v (spot (holds_of v i) (word_stage word) (joined_by v i)) (v.finds ++ record { slot = i; word = word } ∷ []) word k me below refl refl (k.slot i).live
    (fits-looked v.role (word_stage word) (spot_of v i) ((k.slot i).fits id v me))

first-fits : (i id : ℕ) (v : View) → get_elem? (first_keeper ∷ []) id ≡ some v → Fits v.role 0 (spot_of v i)
first-fits i zero v e = subst (λ (y : View). Fits y.role 0 (spot_of y i)) (some-injective first_keeper v e) (refl, omega arith, omega arith, (λ h. absurd (omega arith)), λ h. absurd (omega arith))
first-fits i (suc id) v e = absurd (some-ne-none v (sym e))

first-out : (id : ℕ) (v : View) → get_elem? (first_keeper ∷ []) id ≡ some v → v.out ≡ 0
first-out zero v e = ap (λ (x : View). x.out) (sym (some-injective first_keeper v e))
first-out (suc id) v e = absurd (some-ne-none v (sym e))

pub opens : (n : ℕ) (ws : List ℕ) → length ws ≡ n → ((i : ℕ) → get_or ws i 0 ≡ 0) → IsBookKept n (opening ws [] first_keeper)
opens n ws wide zeros = record {
  wide = wide;
  roles = record { one = refl; few = omega arith; out = λ id v e is. first-out id v e };
  slot = λ i. subst (λ (x : ℕ). IsSlotKept x i (first_keeper ∷ [])) (sym (zeros i)) record { count = refl; live = λ h. absurd (omega arith); ends = omega arith; fits = first-fits i };
}
