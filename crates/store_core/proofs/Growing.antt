-- Claims that only grow: what stood in them stands there.
use Rattle.std.proofs.Common.{◌≡◌, ℕ, ◌+◌, ◌≤◌, List, length, take, drop, refl, sym, ap, ◌∙◌, arith}
use Rattle.std.specs.Prelude.{Some}
use Rattle.std.proofs.lemmas.List.{take-take, drop-take}
use Rattle.disk_trait.specs.Files.{Files}
use Rattle.disk_trait.specs.Images.{After, Since}
use Rattle.disk_trait.proofs.Moments.{wider, step_after_step}
use Rattle.flowfile_record.specs.declared.content.ContentRef.{ContentRef}
use Rattle.content_repo.specs.Append.{TornAtEnd}
use Rattle.content_repo.specs.Claims.{claim}
use Rattle.content_repo.specs.Slots.{size_of, end_of, next_slot}
use Rattle.content_repo.specs.declared.slot.Slot.{Slot}
use Rattle.content_repo.proofs.ClaimFiles.{OnClaims-refl, OnClaims-one}
use Rattle.prov_store.specs.Events.{covered_bytes}
use Rattle.prov_store.specs.State.{EventsState, HasEvents, GrowsBehind as EventsGrow}
use Rattle.prov_store.proofs.Keeping.{grows_keep}
use Rattle.store_core.specs.Agreement.{SameContent}
use Rattle.store_core.specs.Placing.{ClaimsGrowBehind, GrowsAhead}

abbrev Grown : List Slot → ℕ → List ℕ → List ℕ → Type 0
Grown slots k old new = (take (size_of slots k) new ≡ take (size_of slots k) old) × (length old ≤ length new)

shorter_front : (m n : ℕ) (a b : List ℕ) → m ≤ n → take n b ≡ take n a → take m b ≡ take m a
shorter_front m n a b le same = sym (take-take m n b le) ∙ ap (take m) same ∙ take-take m n a le

same_front : (z offset size : ℕ) (a b : List ℕ) → offset + size ≤ z → take z a ≡ take z b → take size (drop offset a) ≡ take size (drop offset b)
same_front z offset size a b within same =
    sym (drop-take offset size a) ∙ ap (drop offset) (shorter_front (offset + size) z b a within same) ∙ drop-take offset size b

pub grows_nothing : (slots : List Slot) (files : Files) → ClaimsGrowBehind slots files files
grows_nothing slots files = OnClaims-refl (Grown slots) (λ k a. (refl, omega arith)) files

pub grows_torn : (slots : List Slot) (k size : ℕ) (old new : Files) → next_slot slots ≡ Some k → TornAtEnd slots size old new → ClaimsGrowBehind slots old new
grows_torn slots k size old new next torn =
    let at = torn k next in
    OnClaims-one (Grown slots) (λ j a. (refl, omega arith)) k old new (record { here = (at.here.front, at.here.no_shorter); others = at.others })

-- first by these slots, and then by those that are no shorter
pub grows_in_turn : (slots mid_slots : List Slot) (old mid new : Files) → ((k : ℕ) → size_of slots k ≤ size_of mid_slots k)
    → ClaimsGrowBehind slots old mid → ClaimsGrowBehind mid_slots mid new → ClaimsGrowBehind slots old new
grows_in_turn slots mid_slots old mid new sizes first second = record {
  claims = λ k. (
    shorter_front (size_of slots k) (size_of mid_slots k) (mid (claim k)) (new (claim k)) (sizes k) (second.claims k).0 ∙ (first.claims k).0,
    omega (arith, (first.claims k).1, (second.claims k).1),
  );
  others = λ f other. second.others f other ∙ first.others f other;
}

pub same_grown : (slots : List Slot) (old new : Files) (at : ContentRef) → end_of at ≤ size_of slots at.slot → ClaimsGrowBehind slots old new → SameContent old new at
same_grown slots old new at within grows = record {
  bytes = same_front (size_of slots at.slot) at.offset at.size (new (claim at.slot)) (old (claim at.slot)) within (grows.claims at.slot).0;
  covered = λ h. omega (arith, h, (grows.claims at.slot).1);
}

-- files of events that only grow have the same bytes up to the last event
pub covered_grown : (state : EventsState) (old new : Files) → HasEvents state old → EventsGrow state old new → (k : ℕ) → covered_bytes state.line state.end k new ≡ covered_bytes state.line state.end k old
covered_grown state old new has grows = (grows_keep state old new has grows).events

pub no_events_grow : (events : EventsState) (files : Files) → EventsGrow events files files
no_events_grow events files = record { others = λ f other. refl; earlier = λ k lt. refl; front = refl; no_shorter = λ k. omega arith }

module _ {D : Type 0} (moment : D → ℕ) (images : D → ℕ → Files → Type 0) where
  abbrev pub Growing : List Slot → D → Files → Type 0
  Growing slots disk = After (ClaimsGrowBehind slots) (images disk (moment disk))

  pub since_nothing_grows : (slots : List Slot) (old new : D) → Since moment images old new (images old (moment old)) → Since moment images old new (Growing slots old)
  since_nothing_grows slots old new since = wider moment images old new (images old (moment old)) (Growing slots old) since (λ c left. (c, left, grows_nothing slots c))

  pub since_torn : (slots : List Slot) (k size : ℕ) (old new : D) → next_slot slots ≡ Some k
      → Since moment images old new (After (TornAtEnd slots size) (images old (moment old))) → Since moment images old new (Growing slots old)
  since_torn slots k size old new next since =
      wider moment images old new (After (TornAtEnd slots size) (images old (moment old))) (Growing slots old) since
      (λ c after. (after.0, after.1, grows_torn slots k size after.0 c next after.2))

  pub since_grown : (slots mid_slots : List Slot) (old mid new : D) → ((k : ℕ) → size_of slots k ≤ size_of mid_slots k)
      → Since moment images old mid (Growing slots old) → Since moment images mid new (Growing mid_slots mid) → Since moment images old new (Growing slots old)
  since_grown slots mid_slots old mid new sizes first second =
      step_after_step moment images old mid new (ClaimsGrowBehind slots) (ClaimsGrowBehind mid_slots) (ClaimsGrowBehind slots) (images old (moment old)) first second
      (λ d c r. r) (λ d e c r s. grows_in_turn slots mid_slots d e c sizes r s)

  -- claims grew, and then files of events
  pub since_ahead : (slots : List Slot) (events : EventsState) (old mid new : D)
      → Since moment images old mid (Growing slots old) → Since moment images mid new (After (EventsGrow events) (images mid (moment mid))) → Since moment images old new (After (GrowsAhead slots events) (images old (moment old)))
  since_ahead slots events old mid new first second =
      step_after_step moment images old mid new (ClaimsGrowBehind slots) (EventsGrow events) (GrowsAhead slots events) (images old (moment old)) first second
      (λ d c r. record { mid = c; claims = r; events = no_events_grow events c })
      (λ d e c r s. record { mid = e; claims = r; events = s })

  pub since_claims : (slots : List Slot) (events : EventsState) (old new : D) → Since moment images old new (Growing slots old) → Since moment images old new (After (GrowsAhead slots events) (images old (moment old)))
  since_claims slots events old new first =
      wider moment images old new (Growing slots old) (After (GrowsAhead slots events) (images old (moment old))) first
      (λ c after. (after.0, after.1, record { mid = c; claims = after.2; events = no_events_grow events c }))
