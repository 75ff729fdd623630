-- A content that is appended: when it may be, where it stands, and what the disk holds then.
use Rattle.std.specs.Prelude.{◌≡◌, ℕ, ◌+◌, ◌<◌, ◌≤◌, List, [], ◌∷◌, ◌++◌, length, Some}
use Rattle.sha2.specs.Sha256.{sha256}
use Rattle.disk_trait.specs.Files.{Files, At, Torn}
use Rattle.flowfile_record.specs.declared.content.ContentRef.{ContentRef}
use Rattle.flowfile_record.specs.declared.TheConstants.{CONTENT_MAX}
use Rattle.content_repo.specs.declared.content.TheConstants.{HELD_MAX}
use Rattle.content_repo.specs.declared.slot.Slot.{Slot}
use Rattle.content_repo.specs.declared.slot.TheConstants.{OPEN_SIZE}
use Rattle.content_repo.specs.Claims.{claim, content_in, HasSizes}
use Rattle.content_repo.specs.Slots.{size_of, held_in, end_of, next_slot, taken, SlotsHaveRoom, IsNamed}

-- these bytes, with this digest, find a slot, and a reference more may be held
pub record MayAppend (slots : List Slot) (bytes digest : List ℕ) : Type 0 where
  pub size : length bytes ≤ CONTENT_MAX
  pub hashed : digest ≡ sha256 bytes
  pub room : SlotsHaveRoom slots (length bytes ∷ [])
  pub few : held_in slots < HELD_MAX

-- the reference to these bytes, and the slots with it held
pub record IsAppended (bytes digest : List ℕ) (old new : List Slot) (at : ContentRef) : Type 0 where
  pub slot : next_slot old ≡ Some at.slot
  pub offset : at.offset ≡ size_of old at.slot
  pub low : at.offset < OPEN_SIZE
  pub size : at.size ≡ length bytes
  pub hashed : at.digest ≡ digest
  pub named : IsNamed at
  pub slots : new ≡ taken old at.slot (end_of at)
  pub held : held_in new ≡ held_in old + 1

-- these bytes stand at the end of their claim, where the reference reads them, and each other file is as it was
pub record IsWritten (bytes : List ℕ) (at : ContentRef) (slots : List Slot) (old new : Files) : Type 0 where
  pub written : At (claim at.slot) (λ before now. now ≡ before ++ bytes) old new
  pub content : content_in new at ≡ bytes
  pub sizes : HasSizes slots new

-- at most so many bytes change, at the end of the claim that the next content goes to
abbrev pub TornAtEnd : List Slot → ℕ → Files → Files → Type 0
TornAtEnd slots size old new = (k : ℕ) → next_slot slots ≡ Some k → At (claim k) (Torn (size_of slots k) size) old new

-- and each content that stood in its claim reads as before
pub record KeepsContents (slots : List Slot) (size : ℕ) (old new : Files) : Type 0 where
  pub torn : TornAtEnd slots size old new
  pub contents : (at : ContentRef) → end_of at ≤ size_of slots at.slot → content_in new at ≡ content_in old at
