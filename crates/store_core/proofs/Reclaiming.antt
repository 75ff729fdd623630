-- Claims that nothing refers to are emptied: what is kept stays, and so does what is known of the live ones.
use Rattle.std.proofs.Common.{◌≡◌, ℕ, zero, suc, ◌+◌, ◌<◌, ◌≤◌, ◌==◌, eqb, Bool, true, false, cond, List, [], ◌∷◌, length, take, drop, refl, sym, ap, subst, ◌∙◌, arith, get_or, eq-eqb, IsTrue}
use Rattle.std.specs.Prelude.{All, MatchBool, map, ◌&&◌}
use Rattle.std.proofs.lemmas.Bool.{ne_eqb, eqb-true, false≢true}
use Rattle.std.proofs.lemmas.List.Sums.{sum_by-cons}
use Rattle.std.proofs.Math.ListN.{get_or-map}
use Rattle.disk_trait.specs.Files.{Files}
use Rattle.flowfile_record.specs.declared.content.ContentRef.{ContentRef}
use Rattle.content_repo.specs.Claims.{claim, IdleShortened}
use Rattle.content_repo.specs.Slots.{count_of, size_of, slot_numbered, is_idle, end_of, references_to, reclaimed, unused, held_in}
use Rattle.content_repo.specs.declared.slot.Slot.{Slot}
use Rattle.store_core.specs.Agreement.{SameContent}
use Rattle.disk_trait.specs.Images.{After, Since}
use Rattle.disk_trait.proofs.Moments.{wider, at_the_end}
use Rattle.content_repo.specs.Claims.{HasSizes}
use Rattle.content_repo.specs.Slots.{IsReclaimed}
use Rattle.content_repo.specs.declared.reclaim.Reclaimed.{Reclaimed}
use Rattle.flowfile_wal.specs.Calls.{InEach}
use Rattle.store_core.specs.Store.{StoreState, IsWorking, IsSoundStore, live_in, FilesHold, HasLog, IsKeptOn}
use Rattle.store_core.proofs.ClaimsAlone.{events_stay, has_log_still, holds_still}
use Rattle.store_core.proofs.EventsStay.{trimmed_same}

-- ---- references

pub references-cons : (k : ℕ) (at : ContentRef) (refs : List ContentRef) → references_to k (at ∷ refs) ≡ cond (eqb at.slot k) 1 0 + references_to k refs
references-cons k at refs = sum_by-cons (λ (r : ContentRef). cond (eqb r.slot k) 1 0) at refs

-- a reference to a slot is counted
pub referred : (at : ContentRef) (refs : List ContentRef) → 0 < references_to at.slot (at ∷ refs)
referred at refs =
    let one : ◌≡◌ {A = ℕ} (cond (eqb at.slot at.slot) 1 0) 1 = ap {B = ℕ} (λ (b : Bool). cond b 1 0) (eq-eqb at.slot at.slot refl) in
    omega (arith, references-cons at.slot at refs, one)

pub referred_more : (k : ℕ) (at : ContentRef) (refs : List ContentRef) → references_to k refs ≤ references_to k (at ∷ refs)
referred_more k at refs = omega (arith, references-cons k at refs)

pub referred_at : (refs : List ContentRef) (i : ℕ) (d : ContentRef) → i < length refs → 0 < references_to (get_or refs i d).slot refs
referred_at [] i d lt = absurd (omega arith)
referred_at (x ∷ xs) zero d lt = referred x xs
referred_at (x ∷ xs) (suc i) d lt =
    omega (arith, referred_more (get_or xs i d).slot x xs, referred_at xs i d (omega (arith, lt)))

-- ---- idle slots

and_false : (a b : Bool) → b ≡ false → (a && b) ≡ false
and_false true b is = is
and_false false b is = refl

and_true : (a b : Bool) → (a && b) ≡ true → b ≡ true
and_true true b is = is
and_true false b is = absurd (false≢true is)

pub not_idle : (slot : Slot) → 0 < slot.count → is_idle slot ≡ false
not_idle slot some = and_false slot.live (slot.count == 0) (ne_eqb slot.count 0 (λ (e : slot.count ≡ 0). omega (arith, some, e)))

idle_count : (slot : Slot) → is_idle slot ≡ true → slot.count ≡ 0
idle_count slot is = eqb-true slot.count 0 (and_true slot.live (slot.count == 0) is)

count_kept : (slot : Slot) → (reclaimed slot).count ≡ slot.count
count_kept slot = by (is_idle slot) refl
  where
    by : (b : Bool) → is_idle slot ≡ b → (cond b unused slot).count ≡ slot.count
    by true is = sym (idle_count slot is)
    by false is = refl

pub slot_reclaimed : (slots : List Slot) (k : ℕ) → slot_numbered (map reclaimed slots) k ≡ reclaimed (slot_numbered slots k)
slot_reclaimed slots k = get_or-map reclaimed slots k unused

pub count_reclaimed : (slots : List Slot) (k : ℕ) → count_of (map reclaimed slots) k ≡ count_of slots k
count_reclaimed slots k = ap (λ (slot : Slot). slot.count) (slot_reclaimed slots k) ∙ count_kept (slot_numbered slots k)

pub size_reclaimed : (slots : List Slot) (k : ℕ) → 0 < count_of slots k → size_of (map reclaimed slots) k ≡ size_of slots k
size_reclaimed slots k some =
    ap (λ (slot : Slot). slot.size) (slot_reclaimed slots k)
    ∙ ap (λ (b : Bool). (cond b unused (slot_numbered slots k)).size) (not_idle (slot_numbered slots k) some)

-- ---- what a store knows

pub counted : (s : StoreState) → IsWorking s → (i : ℕ) (d : ContentRef) → i < length (live_in s) → 0 < count_of s.slots (get_or (live_in s) i d).slot
counted s works i d lt =
    let at = get_or (live_in s) i d in
    omega (arith, works.counts at.slot, referred_at (live_in s) i d lt)

pub working_reclaimed : (s : StoreState) (slots : List Slot) → IsWorking s → slots ≡ map reclaimed s.slots → held_in slots ≡ held_in s.slots → IsWorking (record s { slots = slots })
working_reclaimed s slots works are held = record {
  log = works.log;
  last_event = works.last_event;
  counts = λ k. ap (λ (l : List Slot). count_of l k) are ∙ count_reclaimed s.slots k ∙ works.counts k;
  held = held ∙ works.held;
  named = works.named;
  within = λ i d lt.
      let at = get_or (live_in s) i d in
      let same : size_of slots at.slot ≡ size_of s.slots at.slot =
      ap (λ (l : List Slot). size_of l at.slot) are ∙ size_reclaimed s.slots at.slot (counted s works i d lt) in
      omega (arith, same, works.within i d lt);
}

-- ---- contents

pub same_claim : (old new : Files) (at : ContentRef) → new (claim at.slot) ≡ old (claim at.slot) → SameContent old new at
same_claim old new at e = record {
  bytes = ap (λ (bytes : List ℕ). take at.size (drop at.offset bytes)) e;
  covered = λ h. subst (λ (bytes : List ℕ). end_of at ≤ length bytes) (sym e) h;
}

pub unmatched : (b : Bool) (P Q : Type 0) → b ≡ false → MatchBool b P Q → Q
unmatched true P Q is m = absurd (false≢true (sym is))
unmatched false P Q is m = m

pub live_stay : (s : StoreState) (old new : Files) → IsWorking s → IdleShortened s.slots old new → All (SameContent old new) (live_in s)
live_stay s old new works step = λ i d lt.
    let at = get_or (live_in s) i d in
    same_claim old new at
    (unmatched (is_idle (slot_numbered s.slots at.slot)) _ _ (not_idle (slot_numbered s.slots at.slot) (counted s works i d lt)) (step.claims at.slot))

-- ---- a call that empties idle claims

pub holds_reclaimed : (s : StoreState) (old new : Files) → IsWorking s → IdleShortened s.slots old new → HasLog s old → FilesHold s old → FilesHold s new
holds_reclaimed s old new works step log holds = holds_still s old new step.others log (live_stay s old new works step) holds

module _ {D : Type 0} (moment : D → ℕ) (images : D → ℕ → Files → Type 0) (s : StoreState) (old new : D) where
  pub since_reclaimed : IsWorking s → InEach (images old (moment old)) (FilesHold s) → InEach (images old (moment old)) (HasLog s)
      → Since moment images old new (After (IdleShortened s.slots) (images old (moment old))) → Since moment images old new (FilesHold s)
  since_reclaimed works holds log since =
      wider moment images old new (After (IdleShortened s.slots) (images old (moment old))) (FilesHold s) since
      (λ c after. holds_reclaimed s after.0 c works after.2 (log after.0 after.1) (holds after.0 after.1))

  pub log_reclaimed : InEach (images old (moment old)) (HasLog s)
      → Since moment images old new (After (IdleShortened s.slots) (images old (moment old))) → InEach (images new (moment new)) (HasLog s)
  log_reclaimed log since c left =
      let after = at_the_end moment images old new (After (IdleShortened s.slots) (images old (moment old))) since c left in
      has_log_still s after.0 c after.2.others (log after.0 after.1)

  pub kept_reclaimed : (tells : Bool) (held : D → Files) (slots : List Slot) → IsWorking s → s.failed ≡ false → IsKeptOn tells held moment images s old
      → Since moment images old new (After (IdleShortened s.slots) (images old (moment old)))
      → (IsTrue tells → IdleShortened s.slots (held old) (held new)) → (IsTrue tells → HasSizes slots (held new)) → IsKeptOn tells held moment images (record s { slots = slots }) new
  kept_reclaimed tells held slots works works_on kept since shortened sizes = record {
    holds = λ f c left. let h = at_the_end moment images old new (FilesHold s) (since_reclaimed works (kept.holds works_on) (kept.log works_on) since) c left in record { kept = h.kept; contents = h.contents; events = h.events; line = h.line };
    log = λ f c left. let h = log_reclaimed (kept.log works_on) since c left in record { ready = h.ready; entries = h.entries };
    sizes = λ f told. sizes told;
    trimmed = λ f told. trimmed_same s.events.line s.events.end (held old) (held new) (events_stay (held old) (held new) (shortened told).others) (kept.trimmed works_on told);
  }

pub sound_reclaimed : (s : StoreState) (slots : List Slot) (answer : Reclaimed) → IsSoundStore s → s.failed ≡ false → IsReclaimed s.slots slots answer → IsSoundStore (record s { slots = slots })
sound_reclaimed s slots answer sound works is = record {
  current = sound.current;
  mended = sound.mended;
  opened = sound.opened;
  works = λ f. working_reclaimed s slots (sound.works works) is.slots is.held;
}
