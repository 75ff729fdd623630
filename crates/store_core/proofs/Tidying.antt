-- Once a store has let go of the contents of its opening and emptied its idle claims, each claim that isn't empty has a
-- live content.
use Rattle.std.proofs.Common.{◌≡◌, ℕ, ◌<◌, ◌==◌, ◌&&◌, eqb, Bool, true, false, cond, List, [], ◌∷◌, refl, ap, ◌∙◌, inl, inr, arith, eq-eqb}
use Rattle.std.proofs.lemmas.Bool.{cases_eq, cases_lt, ne_eqb}
use Rattle.std.proofs.lemmas.List.{nil_from_length}
use Rattle.disk_trait.specs.Files.{Files}
use Rattle.flowfile_record.specs.declared.content.ContentRef.{ContentRef}
use Rattle.content_repo.specs.Claims.{claim, HasSizes}
use Rattle.content_repo.specs.Slots.{count_of, size_of, slot_numbered, references_to, reclaimed, unused, IsReclaimed}
use Rattle.content_repo.specs.declared.reclaim.Reclaimed.{Reclaimed}
use Rattle.content_repo.specs.declared.slot.Slot.{Slot}
use Rattle.machine_model.proofs.Ordered.{contains_head, contains_later}
use Rattle.store_core.specs.Store.{StoreState, StandsIn, IsTidy, kept_by, live_in}
use Rattle.store_core.proofs.Closing.{HasLetGo}
use Rattle.store_core.proofs.Reclaiming.{references-cons, slot_reclaimed}

both : (a b : Bool) → a ≡ true → b ≡ true → (a && b) ≡ true
both a b p q = rw (p, q) refl

-- a slot that nothing refers to has an empty claim once it is reclaimed
emptied_size : (slot : Slot) → (slot.live ≡ false → slot ≡ unused) → slot.count ≡ 0 → (reclaimed slot).size ≡ 0
emptied_size slot known none = by slot.live refl
  where
    by : (b : Bool) → slot.live ≡ b → (reclaimed slot).size ≡ 0
    by true is = ap (λ (b : Bool). (cond b unused slot).size) (both slot.live (slot.count == 0) is (eq-eqb slot.count 0 none))
    by false is = ap (λ (s : Slot). (reclaimed s).size) (known is)

stands_in : (n : ℕ) (refs : List ContentRef) → 0 < references_to n refs → StandsIn n refs
stands_in n [] some = absurd (omega (arith, some))
stands_in n (at ∷ refs) some =
    elim (cases_eq at.slot n) [
      | inl same ↦ (at, contains_head at refs, same)
      | inr differs ↦
          let other : ◌≡◌ {A = ℕ} (cond (eqb at.slot n) 1 0) 0 = ap {B = ℕ} (λ (b : Bool). cond b 1 0) (ne_eqb at.slot n differs) in
          let rest = stands_in n refs (omega (arith, some, references-cons n at refs, other)) in
          (rest.0, contains_later rest.0 at refs rest.1, rest.2)
    ]

pub tidy_closed : (s : StoreState) (slots emptied : List Slot) (answer : Reclaimed) (files : Files) → HasLetGo s slots → IsReclaimed slots emptied answer → HasSizes emptied files
    → IsTidy (kept_by s) files
tidy_closed s slots emptied answer files has is sizes = record {
  claims = λ n some.
      elim (cases_lt 0 (references_to n (live_in s))) [
        | inl lt ↦ stands_in n (live_in s) lt
        | inr none ↦
            let unheld : count_of slots n ≡ 0 = omega (arith, has.counts n, has.works.counts n, none) in
            let empty : size_of emptied n ≡ 0 =
            ap (λ (l : List Slot). size_of l n) is.slots ∙ ap (λ (slot : Slot). slot.size) (slot_reclaimed slots n) ∙ emptied_size (slot_numbered slots n) (is.unused n) unheld in
            absurd (some (nil_from_length (files (claim n)) (sizes n ∙ empty)))
      ];
}
