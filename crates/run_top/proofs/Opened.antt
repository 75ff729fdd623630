-- Why a store wasn't opened.
use Rattle.std.proofs.Common.{◌≡◌, ◌⊎◌, inl, inr, ⊎_elim, ℕ, Bool, List, refl, sym, ◌∙◌, ap, subst}
use Rattle.std.specs.Prelude.{Err, IsErrOf, IsTrue, Ok, Result}
use Rattle.disk_trait.specs.Files.{Files}
use Rattle.disk_trait.specs.declared.damage.Damage.{Damage}
use Rattle.flowfile_record.specs.Stored.{Kept}
use Rattle.machine_model.specs.declared.flow.Flow.{Flow as TheFlow}
use Rattle.machine_model.specs.State.{State}
use Rattle.store_core.specs.Calls.{IsUnsynced, IsUnwritten}
use Rattle.store_core.specs.Flow.{Flow}
use Rattle.store_core.specs.Opened.{IsOfOther, IsShut}
use Rattle.store_core.specs.State.{stands_for}
use Rattle.store_core.specs.declared.error.StoreError.{StoreError}
use Rattle.engine_change.specs.Committing.{identity_of}
use Rattle.run_top.specs.Opening.{IsLeftUnwritten, IsOfFlow, IsShutAnswer, IsToldBy, IsUnopened}
use Rattle.run_top.specs.Run.{IsNotOpened}
use Rattle.run_top.specs.Status.{answer_of_opening}
use Rattle.run_top.specs.declared.answer.Answer.{Answer}

pub damage_of : (error : StoreError) (damage : Damage) → answer_of_opening error ≡ Answer.Damaged damage → error ≡ StoreError.Damaged damage
damage_of StoreError.Disk damage is = absurd (cc)
damage_of StoreError.MustReopen damage is = absurd (cc)
damage_of StoreError.Memory damage is = absurd (cc)
damage_of (StoreError.Limit limit) damage is = absurd (cc)
damage_of (StoreError.Damaged found) damage is = cc
damage_of (StoreError.OtherFlow kept found) damage is = absurd (cc)

pub other_of : (error : StoreError) → answer_of_opening error ≡ Answer.OtherFlow → (kept : List ℕ) × ((found : List ℕ) × (error ≡ StoreError.OtherFlow kept found))
other_of StoreError.Disk is = absurd (cc)
other_of StoreError.MustReopen is = absurd (cc)
other_of StoreError.Memory is = absurd (cc)
other_of (StoreError.Limit limit) is = absurd (cc)
other_of (StoreError.Damaged found) is = absurd (cc)
other_of (StoreError.OtherFlow kept found) is = (kept, (found, refl))

err_is : {A E : Type 0} {a b : E} → ◌≡◌ {A = Result A E} (Err a) (Err b) → a ≡ b
err_is is = cc

module _ (tells : Bool) {D : Type 0} (held : D → Files) (moment : D → ℕ) (flow other : Flow) (same : flow ≡ other) (lot : ℕ) (old new : D) where
  pub told_damage : (damage : Damage) → (IsTrue tells → stands_for flow lot (held old) ≡ Err damage) → IsUnwritten held moment old new → IsToldBy other (Answer.Damaged damage) tells held moment lot old new
  told_damage damage stands unwritten = record {
    found = λ told. subst (λ (f : Flow). stands_for f lot (held old) ≡ Err damage) same (stands told);
    unwritten = unwritten;
  }

  pub told_other : (digest : List ℕ) → (IsTrue tells → IsOfOther flow lot digest (held old)) → IsUnwritten held moment old new → IsToldBy other Answer.OtherFlow tells held moment lot old new
  told_other digest is unwritten = record {
    found = λ told. (digest, subst (λ (f : Flow). IsOfOther f lot digest (held old)) same (is told));
    unwritten = unwritten;
  }

  -- what may not be opened is only read
  pub shut_stays : {A B : Type 0} (images : D → ℕ → Files → Type 0) (loaded : Result A StoreError) (result : Result B Answer) (error : StoreError) → loaded ≡ Err error → result ≡ Err (answer_of_opening error)
      → (IsTrue tells → IsShut flow lot (held old) → IsUnwritten held moment old new ⊎ IsUnsynced moment images old new loaded)
      → IsTrue tells → IsShut other lot (held old) → IsLeftUnwritten held moment images old new result
  shut_stays images loaded result error was is left told shut = ⊎_elim
      (λ (unwritten : IsUnwritten held moment old new). inl unwritten)
      (λ (failed : IsUnsynced moment images old new loaded). inr (record { told = inl (is ∙ ap (λ (e : StoreError). Err (answer_of_opening e)) (err_is (sym was ∙ failed.told))); left = failed.left }))
      (left told (subst (λ (f : Flow). IsShut f lot (held old)) (sym same) shut))

-- files of this flow's state are of no other
pub not_other : (flow : TheFlow) (lot : ℕ) (files : Files) (state : State) → IsOfFlow flow lot files state → IsShutAnswer (identity_of flow) lot files Answer.OtherFlow → ⊥
not_other flow lot files state of other =
    let is = other.1 in
    let kept : of.kept ≡ is.kept = ok_is (sym of.keeps ∙ is.keeps) in
    is.other (sym is.is ∙ sym (ap (λ (k : Kept). k.flow) kept) ∙ of.is)
  where
    ok_is : {a b : Kept} → ◌≡◌ {A = Result Kept Damage} (Ok a) (Ok b) → a ≡ b
    ok_is is = cc

-- the first sync failed, or memory was wanting before it
pub not_opened : {A D I O : Type 0} (moment : D → ℕ) (images : D → ℕ → Files → Type 0) (old new : D) (inbox : I) (outbox : O) (opened : Result A Answer) (error : Answer)
    → opened ≡ Err error → IsUnopened moment images old new opened → IsNotOpened error moment images old new inbox inbox outbox outbox
not_opened moment images old new inbox outbox opened error was un = record {
  told = ⊎_elim
      (λ (disk : IsErrOf opened Answer.Disk). inl (err_is (sym was ∙ disk)))
      (λ memory. inr (err_is (sym was ∙ memory.0), memory.1))
      un.told;
  since = un.left;
  inbox = refl;
  outbox = refl;
}
