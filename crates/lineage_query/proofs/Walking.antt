-- A walk on its way, and at its end.
use Rattle.std.proofs.Common.{◌≡◌, ◌≢◌, ℕ, ◌+◌, ◌-◌, ◌<◌, ◌≤◌, Bool, true, false, List, [], ◌∷◌, ◌++◌, length, get_or, take, Some, None, ◌⊎◌, inl, inr, refl, sym, ap, subst, ◌∙◌, arith, length-append}
use lib.Dec.{eqb}
use Rattle.std.specs.Prelude.{◌↔◌}
use Rattle.std.specs.List.{sum_by, slice_get, flat_map, AllPairs, IsDistinct}
use Rattle.std.specs.List.Sorted.{IsPermutation, IsSorted, IsStrictlyIncreasing}
use Rattle.std.specs.Ordering.{nat_cmp}
use Rattle.std.proofs.lemmas.Bool.{cases_lt, eq-eqb}
use Rattle.std.proofs.lemmas.Option.{slice_get_within, get_or_from_slice_get, slice_get-get_or}
use Rattle.std.proofs.lemmas.List.{take_all, take_more, take-append-le, get_or_append_left, get_or_default}
use Rattle.std.proofs.lemmas.List.Elements.{Contains-get_or}
use Rattle.std.proofs.lemmas.List.Kept.{AllPairs-from_increasing}
use Rattle.std.proofs.lemmas.List.Sorted.{Contains-permutation, IsPermutation-sym}
use Rattle.std.proofs.lemmas.List.Sums.{sum_by-cons, sum_by_push, sum_by-take-le}
use Rattle.std.proofs.lemmas.Map.Keys.{IsDistinct-IsPermutation, apart_from_distinct, ge_from_not_lt}
use Rattle.flowfile_record.proofs.ByNumber.{eqb_comm}
use Rattle.flowfile_record.specs.declared.event.Event.{Event}
use Rattle.machine_model.specs.Lineage.{Lists}
use Rattle.prov_index.specs.Index.{numbers_naming}
use Rattle.lineage_query.specs.declared.kin.Way.{Way}
use Rattle.lineage_query.specs.declared.kin.Way.TheVariants.{Up, Down}
use Rattle.lineage_query.specs.Walk.{Leads, Reaches, first, further, kin_towards, kin_in, with_all}
use Rattle.lineage_query.specs.Work.{work}
use Rattle.lineage_query.proofs.Members.{Among, from-contains, to-contains, at-place, in-flat_map, from-flat_map}
use Rattle.lineage_query.proofs.Joining.{all-extends, all-keeps, all-has, all-only}
use Rattle.lineage_query.proofs.Stepping.{to-kin, from-kin, far-sides}
use Rattle.lineage_query.proofs.Steps.{distinct-le, distinct-length-le}

-- the files that were found, of which those before a place were looked at
pub record IsWalk (way : Way) (events : List Event) (file place : ℕ) (found : List ℕ) : Type 0 where
  pub sound : (o : ℕ) → Among o found → Reaches way events file o
  pub root : (o : ℕ) → Among o (kin_in way events file) → Among o found
  pub done : (k o : ℕ) → k < place → Among o (kin_in way events (get_or found k 0)) → Among o found
  pub within : place ≤ length found

none-past : (found : List ℕ) (place : ℕ) → slice_get found place ≡ None → length found ≤ place
none-past found place none =
    elim (cases_lt place (length found)) [
      | inl lt ↦ absurd (let some = slice_get-get_or found place 0 lt in cc)
      | inr le ↦ le
    ]

-- the files that an event names as parents, or as children
abbrev pub targets : Way → Event → List ℕ
targets Up event = event.parents
targets Down event = event.children

in-targets : (way : Way) (from o : ℕ) (event : Event) → Among o (kin_towards way from event) → Among o (targets way event)
in-targets Up from o event a = (far-sides event.kind from o event.children event.parents a).1
in-targets Down from o event a = (far-sides event.kind from o event.parents event.children a).1

-- numbers that are sorted and differ ascend
increasing : (numbers : List ℕ) → IsDistinct eqb numbers → IsSorted nat_cmp numbers → IsStrictlyIncreasing numbers
increasing numbers apart up = λ k within.
    let le : get_or numbers k 0 ≤ get_or numbers (k + 1) 0 = ge_from_not_lt (get_or numbers (k + 1) 0) (get_or numbers k 0) (up k 0 (omega arith) within) in
    let other : eqb (get_or numbers k 0) (get_or numbers (k + 1) 0) ≡ false = apart_from_distinct eqb numbers k (k + 1) 0 apart (omega arith) within in
    let ne : get_or numbers k 0 ≢ get_or numbers (k + 1) 0 = λ e. let equal = eq-eqb (get_or numbers k 0) (get_or numbers (k + 1) 0) e in absurd cc in
    omega (arith, le, ne)

module _ (way : Way) (events : List Event) (file : ℕ) where
  pub begins : IsWalk way events file 0 (with_all [] (kin_in way events file))
  begins =
      let kin = kin_in way events file in
      record {
        sound = λ o a. first o (from-kin way events file o (elim (all-only o [] kin a) [ inl none ↦ absurd none | inr b ↦ b ]));
        root = λ o a. all-has o [] kin a;
        done = λ k o lt a. absurd (omega arith);
        within = omega arith;
      }

  pub goes-on : (place next : ℕ) (found : List ℕ) → IsWalk way events file place found → slice_get found place ≡ Some next → IsWalk way events file (place + 1) (with_all found (kin_in way events next))
  goes-on place next found w at =
      let kin = kin_in way events next in
      let within : place < length found = slice_get_within found place next at in
      let is : (d : ℕ) → get_or found place d ≡ next = λ d. get_or_from_slice_get found place next d at in
      let more = all-extends found kin in
      let same : (k : ℕ) → k < length found → get_or (with_all found kin) k 0 ≡ get_or found k 0 = λ k lt. ap (λ (l : List ℕ). get_or l k 0) more.1 ∙ get_or_append_left found more.0 0 k lt in
      let long : length (with_all found kin) ≡ length found + length more.0 = ap length more.1 ∙ length-append found more.0 in
      record {
        sound = λ o a. elim (all-only o found kin a) [
          | inl b ↦ w.sound o b
          | inr b ↦ further next o (w.sound next (at-place next found place within (is next))) (from-kin way events next o b)
        ];
        root = λ o a. all-keeps o found kin (w.root o a);
        done = λ k o lt a. elim (cases_lt k place) [
          | inl before ↦ all-keeps o found kin (w.done k o before (subst (λ (f : ℕ). Among o (kin_in way events f)) (same k (omega (arith, before, within))) a))
          | inr after ↦
              let here : k ≡ place = omega (arith, lt, after) in
              let next_is : get_or (with_all found kin) k 0 ≡ next = same k (omega (arith, here, within)) ∙ ap (λ (i : ℕ). get_or found i 0) here ∙ is 0 in
              all-has o found kin (subst (λ (f : ℕ). Among o (kin_in way events f)) next_is a)
        ];
        within = omega (arith, within, long);
      }

  -- where each file that was found was looked at, there is no other
  pub ends : (place : ℕ) (found : List ℕ) → IsWalk way events file place found → slice_get found place ≡ None → (o : ℕ) → Reaches way events file o → Among o found
  ends place found w none o (first other leads) = w.root other (to-kin way events file other leads)
  ends place found w none o (further member other reaches leads) =
      let there = to-contains member found (ends place found w none member reaches) in
      let k = there.0 in
      let lt : k < length found = there.1 in
      let is : get_or found k 0 ≡ member = get_or_default found k 0 member lt ∙ there.2 in
      w.done k other (omega (arith, lt, none-past found place none)) (subst (λ (f : ℕ). Among other (kin_in way events f)) (sym is) (to-kin way events member other leads))

  -- ---- the walk ends: no more files are found than events name

  step-target : (from o : ℕ) → Leads way events from o → Among o (flat_map (targets way) events)
  step-target from o leads =
      let by = from-flat_map (kin_towards way from) o events (to-kin way events from o leads) in
      in-flat_map (targets way) by.0 o events by.1 (in-targets way from o by.0 by.2)

  reach-target : (o : ℕ) → Reaches way events file o → Among o (flat_map (targets way) events)
  reach-target o (first other leads) = step-target file other leads
  reach-target o (further member other reaches leads) = step-target member other leads

  pub bounded : (place : ℕ) (found : List ℕ) → IsWalk way events file place found → IsDistinct eqb found → length found ≤ length (flat_map (targets way) events)
  bounded place found w apart = distinct-length-le found (flat_map (targets way) events) apart (λ o a. reach-target o (w.sound o a))

  -- ---- its cost

  abbrev cost : ℕ → ℕ
  cost n = length (numbers_naming events n)

  work-place : (place next : ℕ) (found : List ℕ) → slice_get found place ≡ Some next → work events (file ∷ take (place + 1) found) ≡ work events (file ∷ take place found) + length (numbers_naming events next)
  work-place place next found at =
      let within : place < length found = slice_get_within found place next at in
      let now : take (place + 1) found ≡ take place found ++ next ∷ [] = take_more found place 0 within ∙ ap (λ (n : ℕ). take place found ++ n ∷ []) (get_or_from_slice_get found place next 0 at) in
      omega (
        arith,
        sum_by-cons cost file (take (place + 1) found),
        sum_by-cons cost file (take place found),
        ap (sum_by cost) now,
        sum_by_push cost (take place found) next,
      )

  pub work-within : (n place : ℕ) (found list : List ℕ) → IsWalk way events file place found → IsDistinct eqb found → Lists (Reaches way events file) list → work events (file ∷ take n found) ≤ work events (file ∷ list)
  work-within n place found list w apart is =
      omega (
        arith,
        sum_by-cons cost file (take n found),
        sum_by-cons cost file list,
        sum_by-take-le cost found n,
        distinct-le cost found list apart (λ o a. from-contains o list ((is.just o).1 (w.sound o a))),
      )

  pub steps-first : (before after : ℕ) (list : List ℕ) → after ≤ before + length (numbers_naming events file) → after ≤ before + work events (file ∷ list)
  steps-first before after list le = omega (arith, le, sum_by-cons cost file list)

  pub steps-more : (before steps after place next : ℕ) (found now : List ℕ) → slice_get found place ≡ Some next → now ≡ with_all found (kin_in way events next)
      → steps ≤ before + work events (file ∷ take place found) → after ≤ steps + length (numbers_naming events next) → after ≤ before + work events (file ∷ take (place + 1) now)
  steps-more before steps after place next found now at is le more =
      let within : place < length found = slice_get_within found place next at in
      let extended = all-extends found (kin_in way events next) in
      let same : take (place + 1) now ≡ take (place + 1) found = ap (take (place + 1)) (is ∙ extended.1) ∙ take-append-le (place + 1) found extended.0 (omega (arith, within)) in
      let equal : work events (file ∷ take (place + 1) now) ≡ work events (file ∷ take (place + 1) found) = ap (λ (l : List ℕ). work events (file ∷ l)) same in
      omega (arith, le, more, equal, work-place place next found at)

  pub steps-end : (before steps place : ℕ) (found list : List ℕ) → IsWalk way events file place found → IsDistinct eqb found → steps ≤ before + work events (file ∷ take place found) → Lists (Reaches way events file) list
      → steps ≤ before + work events (file ∷ list)
  steps-end before steps place found list w apart le is = omega (arith, le, work-within place place found list w apart is)

  pub steps-stopped : (before steps after place next : ℕ) (found list : List ℕ) → IsWalk way events file place found → IsDistinct eqb found → slice_get found place ≡ Some next
      → steps ≤ before + work events (file ∷ take place found) → after ≤ steps + length (numbers_naming events next) → Lists (Reaches way events file) list → after ≤ before + work events (file ∷ list)
  steps-stopped before steps after place next found list w apart at le more is = omega (arith, le, more, work-place place next found at, work-within (place + 1) place found list w apart is)

  pub smaller : (place next : ℕ) (found : List ℕ) → IsWalk way events file place found → IsDistinct eqb found → slice_get found place ≡ Some next
      → length (flat_map (targets way) events) - (place + 1) < length (flat_map (targets way) events) - place
  smaller place next found w apart at = omega (arith, slice_get_within found place next at, bounded place found w apart)

  -- ---- its answer

  pub sorted-lists : (place : ℕ) (found sorted : List ℕ) → IsWalk way events file place found → slice_get found place ≡ None → IsDistinct eqb found → IsPermutation found sorted → IsSorted nat_cmp sorted
      → Lists (Reaches way events file) sorted
  sorted-lists place found sorted w none apart moved up = record {
    ascend = AllPairs-from_increasing sorted (increasing sorted (IsDistinct-IsPermutation eqb eqb_comm found sorted moved apart) up);
    just = λ o. (
      λ there. w.sound o (from-contains o found (Contains-permutation sorted found o (IsPermutation-sym found sorted moved) there)),
      λ reaches. Contains-permutation found sorted o moved (to-contains o found (ends place found w none o reaches)),
    );
  }
