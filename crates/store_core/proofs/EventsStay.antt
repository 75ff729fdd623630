-- What stays of a store's events while files change.
use Rattle.std.proofs.Common.{◌≡◌, ℕ, zero, suc, ◌/◌, ◌+◌, List, [], ◌++◌, take, get_or, refl, sym, ap, ◌∙◌, arith}
use Rattle.std.specs.Prelude.{Result, Ok}
use Rattle.disk_trait.specs.Files.{Files}
use Rattle.disk_trait.specs.declared.damage.Damage.{Damage}
use Rattle.flowfile_record.specs.declared.event.Event.{Event}
use Rattle.prov_store.specs.Events.{events_file, count_in, first_event, events_from, events_of_file, events_of_files, ◌>>=◌, events_in, blocks_size, covered_bytes, covered_size}
use Rattle.prov_store.specs.State.{EventsState, HasEvents, HasStale, IsTrimmed, CutsStale, SameEvents}
use Rattle.prov_store.specs.declared.events.Stale.{Stale}
use Rattle.flowfile_record.specs.declared.limits.TheConstants.{EVENTS_PER_FILE}
use Rattle.prov_store.proofs.InFiles.{events_stay}
use Rattle.prov_store.proofs.Keeping.{still_has, cuts_keep}
use Rattle.store_core.specs.Agreement.{SameEventFiles}

pub events_in_turn : (line last : ℕ) (a b c : Files) → SameEvents line last a b → SameEvents line last b c → SameEvents line last a c
events_in_turn line last a b c first second k = second k ∙ first k

-- ---- the same files of events

pub same_size : (line last k : ℕ) (old new : Files) → new (events_file k) ≡ old (events_file k) → covered_size line last k new ≡ covered_size line last k old
unfolding covered_size
same_size line last k old new same = ap (blocks_size (count_in line last k)) same

pub same_covered : (line last : ℕ) (old new : Files) → SameEventFiles old new → SameEvents line last old new
same_covered line last old new same k =
    ap (λ (n : ℕ). take n (new (events_file k))) (same_size line last k old new (same k))
    ∙ ap (take (covered_size line last k old)) (same k)

abbrev both : Result (List Event) Damage → Result (List Event) Damage → Result (List Event) Damage
both one other = do
  events ← one
  later ← other
  Ok (events ++ later)

of_files : (count line last k : ℕ) (old new : Files) → SameEventFiles old new → events_of_files count line last k new ≡ events_of_files count line last k old
of_files zero line last k old new same = refl
of_files (suc count) line last k old new same =
    ap (λ (bytes : List ℕ). both (events_from (count_in line last k) (events_file k) 0 (first_event k) bytes) (events_of_files count line last (k + 1) new)) (same k)
    ∙ ap (both (events_of_file line last k old)) (of_files count line last (k + 1) old new same)

pub same_events : (line last : ℕ) (old new : Files) → SameEventFiles old new → events_in new line last ≡ events_in old line last
unfolding events_in
same_events line last old new same = of_files (suc (last / EVENTS_PER_FILE)) line last 0 old new same

pub has_same : (state : EventsState) (old new : Files) → SameEventFiles old new → HasEvents state old → HasEvents state new
has_same state old new same has = record {
  events = has.events;
  says = same_events state.line state.end old new same ∙ has.says;
  offset = has.offset ∙ sym (same_size state.line state.end (state.end / EVENTS_PER_FILE) old new (same (state.end / EVENTS_PER_FILE)));
  counts = has.counts;
}

pub stale_same : (state : EventsState) (old new : Files) → SameEventFiles old new → HasStale state old → HasStale state new
stale_same state old new same has = record {
  sizes = λ i d lt.
      let s = get_or state.stale i d in
      has.sizes i d lt ∙ sym (same_size state.line state.end s.file old new (same s.file));
  others = λ k known. same k ∙ has.others k known ∙ sym (same_covered state.line state.end old new same k);
}

pub trimmed_same : (line last : ℕ) (old new : Files) → SameEventFiles old new → IsTrimmed line last old → IsTrimmed line last new
trimmed_same line last old new same trimmed k = same k ∙ trimmed k ∙ sym (same_covered line last old new same k)

-- what is known of files to be cut is no part of the events
pub has_trimmed : (state : EventsState) (stale : List Stale) (files : Files) → HasEvents state files → HasEvents (record state { stale = stale }) files
has_trimmed state stale files has = record { events = has.events; says = has.says; offset = has.offset; counts = has.counts }

-- ---- no event

pub none_covered : (k : ℕ) (files : Files) → covered_bytes 0 0 k files ≡ []
unfolding covered_size
none_covered k files =
    let none : count_in 0 0 k ≡ 0 = omega arith in
    ap (λ (n : ℕ). take (blocks_size n (files (events_file k))) (files (events_file k))) none

abbrev of_none : Result (List Event) Damage
of_none = Ok []

pub no_event : (files : Files) → events_in files 0 0 ≡ of_none
unfolding events_in
no_event files = refl

-- those of a state in which none is forgotten
pub since_none : (files : Files) (state : EventsState) (last : ℕ) → state.line ≡ 0 → last ≡ state.end → events_in files 0 last ≡ events_in files state.line state.end
since_none files state last line end = ap (events_in files 0) end ∙ ap (λ (n : ℕ). events_in files n state.end) (sym line)

-- ---- the same bytes up to the last event

pub says_still : (line last : ℕ) (old new : Files) (events : List Event) → SameEvents line last old new → events_in old line last ≡ Ok events → events_in new line last ≡ Ok events
says_still line last old new events same says = events_stay line last old new events same says

pub has_still : (state : EventsState) (old new : Files) → SameEvents state.line state.end old new → HasEvents state old → HasEvents state new
has_still state old new same has = still_has state old new same has

-- ---- cut behind the last event

pub cut_covers : (state : EventsState) (old new : Files) → HasEvents state old → HasStale state old → CutsStale state.stale old new → SameEvents state.line state.end old new
cut_covers state old new has stale cuts = (cuts_keep state old new has stale.sizes cuts).events
