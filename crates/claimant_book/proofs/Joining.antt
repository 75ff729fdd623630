-- What the table asks where a view is cut in two, or two views are joined.
use Rattle.std.proofs.Common.{◌≡◌, ◌≢◌, ⊎_elim, ℕ, ◌+◌, ◌-◌, ◌<◌, List, [], ◌∷◌, ◌++◌, map, get_or, set, refl, sym, ap, ◌∙◌, subst, arith}
use mathlib.Core.Option.{some}
use lib.ListN.{get_elem?}
use Rattle.atomic_table.specs.Table.{Splits, Joins}
use Rattle.atomic_table.proofs.Lists.{at_set, at_snoc}
use Rattle.claimant_book.specs.Stages.{word_stage, most_shares}
use Rattle.claimant_book.specs.declared.view.Role.{Role}
use Rattle.claimant_book.specs.declared.view.Role.TheVariants.{Keeping, Sharing, Noting, Spent}
use Rattle.claimant_book.specs.declared.view.Spot.{Spot}
use Rattle.claimant_book.specs.declared.view.View.{View}
use Rattle.claimant_book.specs.Views.{blank_spot, spot_of, holds_of, told_spot, note_of, share_of, counting_out, spent_view, paired, joined_spot, joined, HoldsNothing}
use Rattle.claimant_book.specs.Kept.{Fits, one_if_keeping, one_if_sharing, shares_among, AreRolesKept, IsBookKept}
use Rattle.claimant_book.proofs.Totals.{total-set, total-snoc, terms_le}
use Rattle.claimant_book.proofs.Spots.{spot-told, spot-joined, joined-held}
use Rattle.claimant_book.proofs.Fitting.{seen-most, joined-fits}
use Rattle.claimant_book.proofs.Keeping.{St, state, roles-set}

-- no other view keeps
sole : (views : List View) (id j : ℕ) (v u : View) → AreRolesKept views → get_elem? views id ≡ some v → v.role ≡ Keeping → j ≢ id → get_elem? views j ≡ some u → ¬ (u.role ≡ Keeping)
sole views id j v u k me is ne e keeps = absurd (omega (arith, terms_le (λ x. one_if_keeping x.role) views id j v u ne me e, ap one_if_keeping is, ap one_if_keeping keeps, k.one))

-- a view is cut in two: the left one knows what it knew, the right one holds nothing
cut : (n id : ℕ) (s : St) (v left right : View) → IsBookKept n s → get_elem? s.views id ≡ some v
    → left.role ≡ v.role → left.spots ≡ v.spots → right.spots ≡ map told_spot v.spots
    → ((g : ℕ) (p : Spot) → Fits v.role g p → Fits right.role g (told_spot p))
    → AreRolesKept (set s.views id left ++ right ∷ [])
    → IsBookKept n (state s.words s.homes (set s.views id left ++ right ∷ []))
cut n id s v left right k me role spots told fits roles = record {
  wide = k.wide;
  roles = roles;
  slot = λ j.
      let g : ℕ = word_stage (get_or s.words j 0) in
      let left-is : spot_of left j ≡ spot_of v j = ap (λ (l : List Spot). get_or l j blank_spot) spots in
      let right-is : spot_of right j ≡ told_spot (spot_of v j) = ap (λ (l : List Spot). get_or l j blank_spot) told ∙ spot-told v.spots j in
      let mine : Fits left.role g (spot_of left j) = subst (λ (x : Role × Spot). Fits x.0 g x.1) (λ i. (sym role i, sym left-is i)) ((k.slot j).fits id v me) in
      let new : Fits right.role g (spot_of right j) = subst (λ (x : Spot). Fits right.role g x) (sym right-is) (fits g (spot_of v j) ((k.slot j).fits id v me)) in
      record {
        count = omega (arith, total-snoc (λ u. holds_of u j) (set s.views id left) right, total-set (λ u. holds_of u j) s.views id v left me, ap (λ (x : Spot). x.held) left-is, ap (λ (x : Spot). x.held) right-is, (k.slot j).count);
        live = (k.slot j).live;
        ends = (k.slot j).ends;
        fits = λ x u e. ⊎_elim
            (λ (old : get_elem? (set s.views id left) x ≡ some u). ⊎_elim
            (λ (t : (x ≡ id) × (left ≡ u)). subst (λ (y : View). Fits y.role g (spot_of y j)) t.1 mine)
            (λ (t : (x ≢ id) × (get_elem? s.views x ≡ some u)). (k.slot j).fits x u t.1)
            (at_set s.views id x left u old))
            (λ (t : right ≡ u). subst (λ (y : View). Fits y.role g (spot_of y j)) t new)
            (at_snoc (set s.views id left) right u x e);
      };
}

told-notes : (r : Role) → ¬ (r ≡ Spent) → (g : ℕ) (p : Spot) → Fits r g p → Fits Noting g (told_spot p)
told-notes r n g p f = let m = seen-most r g p n f in (m.0, omega arith, refl)

told-shares : (r : Role) → ¬ (r ≡ Spent) → (g : ℕ) (p : Spot) → Fits r g p → Fits Sharing g (told_spot p)
told-shares r n g p f = let m = seen-most r g p n f in (m.0, omega arith, omega arith, λ h. absurd (omega arith))

pub not-spent-keeping : (r : Role) → r ≡ Keeping → ¬ (r ≡ Spent)
not-spent-keeping r is spent = absurd (omega (arith, ap one_if_keeping (sym is ∙ spent)))

pub not-spent-sharing : (r : Role) → r ≡ Sharing → ¬ (r ≡ Spent)
not-spent-sharing r is spent = absurd (omega (arith, ap one_if_sharing (sym is ∙ spent)))

abbrev one_if_noting : Role → ℕ
one_if_noting Noting = 1
one_if_noting Keeping = 0
one_if_noting Sharing = 0
one_if_noting Spent = 0

not-spent-noting : (r : Role) → r ≡ Noting → ¬ (r ≡ Spent)
not-spent-noting r is spent = absurd (omega (arith, ap one_if_noting (sym is ∙ spent)))

roles-noted : (views : List View) (id : ℕ) (v note : View) → get_elem? views id ≡ some v → note.role ≡ Noting → AreRolesKept views → AreRolesKept (set views id v ++ note ∷ [])
roles-noted views id v note me is k =
    let k' = roles-set views id v v me refl refl (λ keeps. k.out id v me keeps) k in
    let same : shares_among (set views id v ++ note ∷ []) ≡ shares_among (set views id v) = omega (arith, total-snoc (λ u. one_if_sharing u.role) (set views id v) note, ap one_if_sharing is) in
    record {
      one = omega (arith, total-snoc (λ u. one_if_keeping u.role) (set views id v) note, ap one_if_keeping is, k'.one);
      few = omega (arith, same, k'.few);
      out = λ j u e keeps. ⊎_elim
          (λ (old : get_elem? (set views id v) j ≡ some u). k'.out j u old keeps ∙ sym same)
          (λ (t : note ≡ u). absurd (omega (arith, ap one_if_keeping (sym is ∙ ap (λ (x : View). x.role) t ∙ keeps))))
          (at_snoc (set views id v) note u j e);
    }

pub note_allowed : (n id : ℕ) (v : View) → ¬ (v.role ≡ Spent) → Splits (IsBookKept n) id v v (note_of v)
note_allowed n id v active s k me = cut n id s v v (note_of v) k me refl refl refl (told-notes v.role active) (roles-noted s.views id v (note_of v) me refl k.roles)

roles-shared : (views : List View) (id : ℕ) (v share : View) → get_elem? views id ≡ some v → v.role ≡ Keeping → share.role ≡ Sharing → v.out < most_shares → AreRolesKept views
    → AreRolesKept (set views id (counting_out v (v.out + 1)) ++ share ∷ [])
roles-shared views id v share me is shares few k =
    let w : View = counting_out v (v.out + 1) in
    let more : shares_among (set views id w ++ share ∷ []) ≡ v.out + 1 = omega (arith, total-snoc (λ u. one_if_sharing u.role) (set views id w) share, total-set (λ u. one_if_sharing u.role) views id v w me, ap one_if_sharing shares, k.out id v me is) in
    record {
      one = omega (arith, total-snoc (λ u. one_if_keeping u.role) (set views id w) share, total-set (λ u. one_if_keeping u.role) views id v w me, ap one_if_keeping shares, k.one);
      few = omega (arith, more, few);
      out = λ j u e keeps. ⊎_elim
          (λ (old : get_elem? (set views id w) j ≡ some u). ⊎_elim
          (λ (t : (j ≡ id) × (w ≡ u)). ap (λ (x : View). x.out) (sym t.1) ∙ sym more)
          (λ (t : (j ≢ id) × (get_elem? views j ≡ some u)). absurd (sole views id j v u k me is t.0 t.1 keeps))
          (at_set views id j w u old))
          (λ (t : share ≡ u). absurd (omega (arith, ap one_if_keeping (sym shares ∙ ap (λ (x : View). x.role) t ∙ keeps))))
          (at_snoc (set views id w) share u j e);
    }

pub share_allowed : (n id : ℕ) (v : View) → v.role ≡ Keeping → v.out < most_shares → Splits (IsBookKept n) id v (counting_out v (v.out + 1)) (share_of v)
share_allowed n id v is few s k me =
    cut n id s v (counting_out v (v.out + 1)) (share_of v) k me refl refl refl (told-shares v.role (not-spent-keeping v.role is)) (roles-shared s.views id v (share_of v) me is refl few k.roles)

-- where the second view came from
other-was : (views : List View) (id other : ℕ) (both w : View) → ¬ (other ≡ id) → get_elem? (set views id both) other ≡ some w → get_elem? views other ≡ some w
other-was views id other both w ne there = ⊎_elim (λ (t : (other ≡ id) × (both ≡ w)). absurd (ne t.0)) (λ (t : (other ≢ id) × (get_elem? views other ≡ some w)). t.1) (at_set views id other both w there)

-- one view takes in another, which holds nothing and is spent
merged : (n id other : ℕ) (s : St) (v w both : View) → IsBookKept n s → get_elem? s.views id ≡ some v → ¬ (other ≡ id) → get_elem? (set s.views id both) other ≡ some w
    → both.role ≡ v.role → both.spots ≡ paired (joined_spot v.role) v.spots w.spots → HoldsNothing w → ¬ (w.role ≡ Spent)
    → AreRolesKept (set (set s.views id both) other spent_view)
    → IsBookKept n (state s.words s.homes (set (set s.views id both) other spent_view))
merged n id other s v w both k me ne there role spots nothing active roles = record {
  wide = k.wide;
  roles = roles;
  slot = λ j.
      let g : ℕ = word_stage (get_or s.words j 0) in
      let was : get_elem? s.views other ≡ some w = other-was s.views id other both w ne there in
      let both-is : spot_of both j ≡ joined_spot v.role (spot_of v j) (spot_of w j) = ap (λ (l : List Spot). get_or l j blank_spot) spots ∙ spot-joined v.role v.spots w.spots j in
      let held : holds_of both j ≡ holds_of v j = ap (λ (x : Spot). x.held) both-is ∙ joined-held v.role (spot_of v j) (spot_of w j) in
      let m = seen-most w.role g (spot_of w j) active ((k.slot j).fits other w was) in
      let mine : Fits both.role g (spot_of both j) = subst (λ (x : Role × Spot). Fits x.0 g x.1) (λ i. (sym role i, sym both-is i)) (joined-fits v.role g (spot_of v j) (spot_of w j) ((k.slot j).fits id v me) m.0 m.1) in
      record {
        count = omega (arith, total-set (λ u. holds_of u j) (set s.views id both) other w spent_view there, total-set (λ u. holds_of u j) s.views id v both me, held, nothing j, (k.slot j).count);
        live = (k.slot j).live;
        ends = (k.slot j).ends;
        fits = λ x u e. ⊎_elim
            (λ (t : (x ≡ other) × (spent_view ≡ u)). subst (λ (y : View). Fits y.role g (spot_of y j)) t.1 refl)
            (λ (r : (x ≢ other) × (get_elem? (set s.views id both) x ≡ some u)). ⊎_elim
            (λ (t : (x ≡ id) × (both ≡ u)). subst (λ (y : View). Fits y.role g (spot_of y j)) t.1 mine)
            (λ (t : (x ≢ id) × (get_elem? s.views x ≡ some u)). (k.slot j).fits x u t.1)
            (at_set s.views id x both u r.1))
            (at_set (set s.views id both) other x spent_view u e);
      };
}

roles-heard : (views : List View) (id other : ℕ) (v w both : View) → get_elem? views id ≡ some v → get_elem? (set views id both) other ≡ some w
    → both.role ≡ v.role → both.out ≡ v.out → w.role ≡ Noting → AreRolesKept views → AreRolesKept (set (set views id both) other spent_view)
roles-heard views id other v w both me there role out is k =
    let k' = roles-set views id v both me (ap one_if_keeping role) (ap one_if_sharing role) (λ keeps. out ∙ k.out id v me (sym role ∙ keeps)) k in
    roles-set (set views id both) other w spent_view there (sym (ap one_if_keeping is)) (sym (ap one_if_sharing is)) (λ keeps. absurd (omega (arith, ap one_if_keeping keeps))) k'

pub hear_allowed : (n id : ℕ) (v : View) (other : ℕ) (w : View) → w.role ≡ Noting → HoldsNothing w → Joins (IsBookKept n) id v other w (joined v w) spent_view
hear_allowed n id v other w is nothing s k me ne there =
    merged n id other s v w (joined v w) k me ne there refl refl nothing (not-spent-noting w.role is) (roles-heard s.views id other v w (joined v w) me there refl refl is k.roles)

roles-back : (views : List View) (id other : ℕ) (v w both : View) → get_elem? views id ≡ some v → get_elem? (set views id both) other ≡ some w → v.role ≡ Keeping → w.role ≡ Sharing
    → both.role ≡ v.role → both.out ≡ v.out - 1 → AreRolesKept views → AreRolesKept (set (set views id both) other spent_view)
roles-back views id other v w both me there is shares role out k =
    let first : shares_among (set views id both) ≡ shares_among views = omega (arith, total-set (λ u. one_if_sharing u.role) views id v both me, ap one_if_sharing role) in
    let less : shares_among (set (set views id both) other spent_view) + 1 ≡ shares_among views = omega (arith, total-set (λ u. one_if_sharing u.role) (set views id both) other w spent_view there, ap one_if_sharing shares, first) in
    let counted : both.out ≡ shares_among (set (set views id both) other spent_view) = omega (arith, out, less, k.out id v me is) in
    record {
      one = omega (arith, total-set (λ u. one_if_keeping u.role) (set views id both) other w spent_view there, total-set (λ u. one_if_keeping u.role) views id v both me, ap one_if_keeping role, ap one_if_keeping shares, k.one);
      few = omega (arith, less, k.few);
      out = λ j u e keeps. ⊎_elim
          (λ (t : (j ≡ other) × (spent_view ≡ u)). absurd (omega (arith, ap one_if_keeping (ap (λ (x : View). x.role) t.1 ∙ keeps))))
          (λ (r : (j ≢ other) × (get_elem? (set views id both) j ≡ some u)). ⊎_elim
          (λ (t : (j ≡ id) × (both ≡ u)). ap (λ (x : View). x.out) (sym t.1) ∙ counted)
          (λ (t : (j ≢ id) × (get_elem? views j ≡ some u)). absurd (sole views id j v u k me is t.0 t.1 keeps))
          (at_set views id j both u r.1))
          (at_set (set views id both) other j spent_view u e);
    }

pub back_allowed : (n id : ℕ) (v : View) (other : ℕ) (w : View) → v.role ≡ Keeping → w.role ≡ Sharing → HoldsNothing w
    → Joins (IsBookKept n) id v other w (counting_out (joined v w) (v.out - 1)) spent_view
back_allowed n id v other w is shares nothing s k me ne there =
    let both : View = counting_out (joined v w) (v.out - 1) in
    merged n id other s v w both k me ne there refl refl nothing (not-spent-sharing w.role shares) (roles-back s.views id other v w both me there is shares refl refl k.roles)
