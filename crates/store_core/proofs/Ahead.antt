-- What is written ahead of the log: contents, and then events.
use Rattle.std.proofs.Common.{◌≡◌, ℕ, Bool, List, [], ◌∷◌, ◌++◌, length, take, drop, ap, ◌∙◌, IsTrue}
use Rattle.std.specs.Prelude.{Ok}
use Rattle.disk_trait.specs.Files.{Files}
use Rattle.disk_trait.specs.declared.file_name.FileKind.TheVariants.{Claim, Events}
use Rattle.flowfile_record.specs.declared.event.Event.{Event}
use Rattle.flowfile_record.specs.declared.stored.ActiveFile.{ActiveFile}
use Rattle.flowfile_record.specs.declared.stored.Placed.{Placed}
use Rattle.record_codec.specs.declared.entry.LogEntry.{LogEntry}
use Rattle.content_repo.specs.Claims.{claim, HasSizes}
use Rattle.content_repo.specs.declared.slot.Slot.{Slot}
use Rattle.kept_state.specs.Changes.{placed_in}
use Rattle.prov_store.specs.Events.{events_in}
use Rattle.prov_store.specs.State.{EventsState, EventsAreReady, EventsAreAppended, GrowsBehind as EventsGrow}
use Rattle.store_core.specs.Placing.{ClaimsGrowBehind, GrowsAhead, IsPlacedAs, ArePlaced, PlacesAll, AppendsEvents}
use Rattle.store_core.proofs.ClaimsAlone.{events_stay}
use Rattle.store_core.proofs.EventsStay.{has_same, same_events, trimmed_same}
use Rattle.store_core.proofs.Growing.{no_events_grow}

-- ---- contents that were placed, beside files of events

abbrev SameClaims : Files → Files → Type 0
SameClaims old new = (k : ℕ) → new (claim k) ≡ old (claim k)

claims_beside : (events : EventsState) (old new : Files) → EventsGrow events old new → SameClaims old new
claims_beside events old new grows k = grows.others (claim k) (λ (e : Claim ≡ Events). absurd cc)

placed_as : (tells : Bool) (slots : List Slot) (old new : Files) (p : Placed) (a : ActiveFile) → (IsTrue tells → SameClaims old new) → IsPlacedAs tells slots old p a → IsPlacedAs tells slots new p a
placed_as tells slots old new p a same is = record {
  file = is.file;
  old = is.old;
  size = is.size;
  digest = is.digest;
  named = is.named;
  within = is.within;
  stands = λ told bytes some.
      let at = a.file.content in
      ap (λ (l : List ℕ). take at.size (drop at.offset l)) (same told at.slot) ∙ is.stands told bytes some;
}

are_placed : (tells : Bool) (slots : List Slot) (old new : Files) (placed : List Placed) (recorded : List ActiveFile) → (IsTrue tells → SameClaims old new) → ArePlaced tells slots old placed recorded
    → ArePlaced tells slots new placed recorded
are_placed tells slots old new [] [] same are = are
are_placed tells slots old new [] (a ∷ recorded) same are = absurd are
are_placed tells slots old new (p ∷ placed) [] same are = absurd are
are_placed tells slots old new (p ∷ placed) (a ∷ recorded) same are =
    (placed_as tells slots old new p a same are.0, are_placed tells slots old new placed recorded same are.1)

pub places_beside : (tells : Bool) (events : EventsState) (old new : Files) (placed : List Placed) (slots more : List Slot) (e : LogEntry) → (IsTrue tells → EventsGrow events old new) → PlacesAll tells old placed slots more e
    → PlacesAll tells new placed slots more e
places_beside tells events old new placed slots more e grows is = record {
  placed = are_placed tells more old new placed (placed_in e) (λ told. claims_beside events old new (grows told)) is.placed;
  shared = is.shared;
  holds = is.holds;
  grown = is.grown;
}

pub sizes_beside : (events : EventsState) (slots : List Slot) (old new : Files) → EventsGrow events old new → HasSizes slots old → HasSizes slots new
sizes_beside events slots old new grows sizes k = ap length (claims_beside events old new grows k) ∙ sizes k

-- ---- events, beside claims

pub ready_beside : (events : EventsState) (slots : List Slot) (old new : Files) → ClaimsGrowBehind slots old new → EventsAreReady events old → EventsAreReady events new
ready_beside events slots old new grows ready = record {
  has = has_same events old new (events_stay old new grows.others) ready.has;
  trimmed = trimmed_same events.line events.end old new (events_stay old new grows.others) ready.trimmed;
}

pub adds_events : (tells : Bool) (added : List Event) (slots : List Slot) (events more : EventsState) (old mid new : Files) → (IsTrue tells → ClaimsGrowBehind slots old mid) → EventsAreAppended added events more
    → (IsTrue tells → (before : List Event) → events_in mid events.line events.end ≡ Ok before → events_in new more.line more.end ≡ Ok (before ++ added)) → (IsTrue tells → EventsAreReady more new)
    → AppendsEvents tells added events more old new
adds_events tells added slots events more old mid new grows appended stand ready = record {
  appended = appended;
  added = λ told before are. stand told before (same_events events.line events.end old mid (events_stay old mid (grows told).others) ∙ are);
  ready = ready;
}

pub grows_both : (slots : List Slot) (events : EventsState) (old mid new : Files) → ClaimsGrowBehind slots old mid → EventsGrow events mid new → GrowsAhead slots events old new
grows_both slots events old mid new claims grows = record { mid = mid; claims = claims; events = grows }

pub grows_claims : (slots : List Slot) (events : EventsState) (old new : Files) → ClaimsGrowBehind slots old new → GrowsAhead slots events old new
grows_claims slots events old new claims = record { mid = new; claims = claims; events = no_events_grow events new }
