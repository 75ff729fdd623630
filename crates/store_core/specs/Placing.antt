-- What a change has ahead of the log: its contents, as they are placed and given up, and its events.
use Rattle.std.specs.Prelude.{◌≡◌, ℕ, ◌+◌, ◌<◌, ◌≤◌, IsTrue, Bool, true, List, [], ◌∷◌, ◌++◌, length, take, map, slice_get, sum, sum_by, All, Some, Ok, option_map}
use Rattle.std.specs.List.{filter_map}
use Rattle.std.specs.List.{AllZip}
use Rattle.disk_trait.specs.Files.{Files}
use Rattle.flowfile_record.specs.Shared.{AreShared, is_stored}
use Rattle.flowfile_record.specs.declared.content.ContentRef.{ContentRef}
use Rattle.flowfile_record.specs.declared.event.Event.{Event}
use Rattle.flowfile_record.specs.declared.stored.ActiveFile.{ActiveFile}
use Rattle.flowfile_record.specs.declared.stored.Fresh.TheVariants.{Bytes, As}
use Rattle.flowfile_record.specs.declared.stored.Placed.{Placed}
use Rattle.record_codec.specs.ActiveFile.{active}
use Rattle.record_codec.specs.declared.entry.LogEntry.{LogEntry}
use Rattle.content_repo.specs.Claims.{content_in, OnClaims}
use Rattle.content_repo.specs.Slots.{count_of, size_of, held_in, references_to, end_of, IsNamed, SlotsHaveRoom}
use Rattle.content_repo.specs.declared.content.TheConstants.{HELD_MAX}
use Rattle.content_repo.specs.declared.slot.Slot.{Slot}
use Rattle.kept_state.specs.Changes.{placed_in, record_of, at_content}
use Rattle.kept_state.specs.Fits.{active_of}
use Rattle.prov_store.specs.Events.{events_in}
use Rattle.prov_store.specs.State.{EventsState, EventsAreReady, EventsAreAppended, GrowsBehind as EventsGrow}
use Rattle.store_core.specs.Change.{IsFresh, fresh_sizes_of}

-- the contents of the files of these numbers
abbrev pub contents_of : List ActiveFile → List ℕ → List ContentRef
contents_of files numbers = filter_map (λ n. option_map (λ a. a.file.content) (active_of n files)) numbers

-- the content of a claim to which references are held
pub record IsHeldIn (slots : List Slot) (at : ContentRef) : Type 0 where
  pub held : 0 < count_of slots at.slot
  pub named : IsNamed at
  pub within : end_of at ≤ size_of slots at.slot

-- in claims of these sizes nothing changes but behind their ends
abbrev pub ClaimsGrowBehind : List Slot → Files → Files → Type 0
ClaimsGrowBehind slots =
    OnClaims (λ k old new. (take (size_of slots k) new ≡ take (size_of slots k) old) × (length old ≤ length new))

-- how many bytes stand in the claims
abbrev pub bytes_in : List Slot → ℕ
bytes_in slots = sum_by (λ slot. slot.size) slots

-- the claims have as many bytes more as the new contents of these files, each once
abbrev pub GrowsByFresh : List Placed → (old new : List Slot) → Type 0
GrowsByFresh placed old new = bytes_in new ≡ bytes_in old + sum (fresh_sizes_of placed)

-- claims grow behind their ends, and then files of events behind the last event
pub record GrowsAhead (slots : List Slot) (known : EventsState) (old new : Files) : Type 0 where
  pub mid : Files
  pub claims : ClaimsGrowBehind slots old mid
  pub events : EventsGrow known mid new

-- a content that is in the store is recorded where it stood
abbrev pub StaysStored : Placed → ActiveFile → Type 0
StaysStored p a = is_stored p.fresh ≡ true → a.file.content ≡ p.file.content

-- The placed file as it is recorded: a new content stands in its claim, one that is in the store where it stood. Where a
-- shared one stands see `ReferAlike`.
pub record IsPlacedAs (tells : Bool) (slots : List Slot) (files : Files) (p : Placed) (a : ActiveFile) : Type 0 where
  pub file : a ≡ at_content a.file.content (active p.connection p.file)
  pub old : StaysStored p a
  pub size : a.file.content.size ≡ p.file.content.size
  pub digest : a.file.content.digest ≡ p.file.content.digest
  pub named : IsNamed a.file.content
  pub within : end_of a.file.content ≤ size_of slots a.file.content.slot
  pub stands : IsTrue tells → (bytes : List ℕ) → p.fresh ≡ Bytes bytes → content_in files a.file.content ≡ bytes

-- these files are recorded, one for each placed one
abbrev pub ArePlaced : (tells : Bool) → List Slot → Files → List Placed → List ActiveFile → Type 0
ArePlaced tells slots files = AllZip (IsPlacedAs tells slots files)

-- where the contents of files stand, by place
abbrev pub references_of : List ActiveFile → List ContentRef
references_of files = map (λ a. a.file.content) files

-- a file that shares the content of an earlier one refers to the same bytes of the same claim
abbrev pub ReferAlike : List Placed → List ActiveFile → Type 0
ReferAlike placed recorded =
    (place of : ℕ) (p : Placed) → slice_get placed place ≡ Some p → p.fresh ≡ As of
    → slice_get (references_of recorded) place ≡ slice_get (references_of recorded) of

-- The contents of these files are held once more, and claims only grow.
pub record HoldsMore (files : List ActiveFile) (old new : List Slot) : Type 0 where
  pub counts : (k : ℕ) → count_of new k ≡ count_of old k + references_to k (references_of files)
  pub held : held_in new ≡ held_in old + length files
  pub sizes : (k : ℕ) → size_of old k ≤ size_of new k

-- The content that a file shares may be placed: the entry has it at the place of the original, as this file says it, and
-- it is held.
pub record MayShare (slots : List Slot) (files : List ActiveFile) (p : Placed) (of : ℕ) : Type 0 where
  pub at : ContentRef
  pub there : slice_get (references_of files) of ≡ Some at
  pub held : IsHeldIn slots at
  pub size : at.size ≡ p.file.content.size
  pub digest : at.digest ≡ p.file.content.digest

-- This file's content may be placed: a new one is as its file says and finds a slot, one in the store is held.
pub record MayPlaceOne (slots : List Slot) (p : Placed) : Type 0 where
  pub fresh : IsFresh p
  pub room : SlotsHaveRoom slots (fresh_sizes_of (p ∷ []))
  pub old : is_stored p.fresh ≡ true → IsHeldIn slots p.file.content
  pub few : held_in slots < HELD_MAX

-- so may each of these, one after the other
pub record MayPlace (slots : List Slot) (placed : List Placed) : Type 0 where
  pub fresh : All IsFresh placed
  pub room : SlotsHaveRoom slots (fresh_sizes_of placed)
  pub old : All (λ p. is_stored p.fresh ≡ true → IsHeldIn slots p.file.content) placed
  pub shared : AreShared placed
  pub few : held_in slots + length placed ≤ HELD_MAX

-- the file stands at this place, without its new content
abbrev pub IsRecordedAt : ℕ → Placed → List ActiveFile → Type 0
IsRecordedAt place p files =
    (front : List ActiveFile) × (back : List ActiveFile) × (length front ≡ place)
    × (files ≡ front ++ record_of p ∷ back)

-- The file at this place is recorded in the entry, and each other file as before.
pub record PlacesOne (tells : Bool) (files : Files) (place : ℕ) (p : Placed) (old new : List Slot)
    (before after : LogEntry) : Type 0 where
  pub recorded : ActiveFile
  pub placed : IsPlacedAs tells new files p recorded
  pub shared : (of : ℕ) → p.fresh ≡ As of → slice_get (references_of (placed_in before)) of ≡ Some recorded.file.content
  pub holds : HoldsMore (recorded ∷ []) old new
  pub grown : GrowsByFresh (p ∷ []) old new
  pub room : (sizes : List ℕ) → SlotsHaveRoom old (fresh_sizes_of (p ∷ []) ++ sizes) → SlotsHaveRoom new sizes
  pub entry : (front back : List ActiveFile) → length front ≡ place → placed_in before ≡ front ++ record_of p ∷ back
      → placed_in after ≡ front ++ recorded ∷ back

-- All are recorded.
pub record PlacesAll (tells : Bool) (files : Files) (all : List Placed) (old new : List Slot) (after : LogEntry)
    : Type 0 where
  pub placed : ArePlaced tells new files all (placed_in after)
  pub shared : ReferAlike all (placed_in after)
  pub holds : HoldsMore (placed_in after) old new
  pub grown : GrowsByFresh all old new

-- These events stand behind those of before, and nothing behind them.
pub record AppendsEvents (tells : Bool) (events : List Event) (old new : EventsState) (before after : Files) : Type 0
  where
    pub appended : EventsAreAppended events old new
    pub added : IsTrue tells → (earlier : List Event) → events_in before old.line old.end ≡ Ok earlier
        → events_in after new.line new.end ≡ Ok (earlier ++ events)
    pub ready : IsTrue tells → EventsAreReady new after
