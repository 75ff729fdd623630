-- The files of the claims.
use Rattle.std.specs.Prelude.{◌≡◌, ◌≢◌, ◌⊎◌, ℕ, ◌<◌, ◌≤◌, Bool, IsTrue, List, [], length, take, drop, MatchBool}
use Rattle.sha2.specs.Sha256.{sha256}
use Rattle.disk_trait.specs.Files.{Files, named, At, Shortened}
use Rattle.disk_trait.specs.declared.damage.Damage.{Damage}
use Rattle.disk_trait.specs.declared.damage.Damage.TheVariants.{Digest, Short, Form}
use Rattle.disk_trait.specs.declared.file_name.FileKind.TheVariants.{Claim}
use Rattle.disk_trait.specs.declared.file_name.FileName.{FileName}
use Rattle.flowfile_record.specs.declared.content.ContentRef.{ContentRef}
use Rattle.content_repo.specs.declared.error.ContentError.{ContentError}
use Rattle.content_repo.specs.declared.error.ContentError.TheVariants.{Memory, SlotsFull, Damaged}
use Rattle.content_repo.specs.declared.slot.Slot.{Slot}
use Rattle.content_repo.specs.Slots.{size_of, held_in, end_of, covered, is_idle, reclaimed, slot_numbered}

-- the file of a slot
abbrev pub claim : ℕ → FileName
claim k = named Claim k

-- the bytes that stand where a reference says
abbrev pub content_in : Files → ContentRef → List ℕ
content_in files at = take at.size (drop at.offset (files (claim at.slot)))

-- the claim of a content reaches to its end
abbrev pub IsCovered : Files → ContentRef → Type 0
IsCovered files at = end_of at ≤ length (files (claim at.slot))

-- each file is as long as is known; one past the slots is empty
abbrev pub HasSizes : List Slot → Files → Type 0
HasSizes slots files = (k : ℕ) → length (files (claim k)) ≡ size_of slots k

-- only files of claims change, each by a step of its number
pub record OnClaims (step : ℕ → List ℕ → List ℕ → Type 0) (old new : Files) : Type 0 where
  pub claims : (k : ℕ) → step k (old (claim k)) (new (claim k))
  pub others : (f : FileName) → f.kind ≢ Claim → new f ≡ old f

-- only bytes past these ends change, and go
abbrev pub ShortenedTo : (ℕ → ℕ) → Files → Files → Type 0
ShortenedTo ends = OnClaims (λ k. Shortened (ends k))

-- each file is cut to its end
abbrev pub CutTo : (ℕ → ℕ) → Files → Files → Type 0
CutTo ends = OnClaims (λ k old new. new ≡ take (ends k) old)

-- each claim ends where the last of these contents does, and that is its size in these slots
pub record AreCut (refs : List ContentRef) (slots : List Slot) (old new : Files) : Type 0 where
  pub claims : CutTo (λ k. covered k refs) old new
  pub sizes : HasSizes slots new

-- the claims of idle slots are emptied, and each other file is as it was
abbrev pub IdleEmptied : List Slot → Files → Files → Type 0
IdleEmptied slots = OnClaims (λ k old new. MatchBool (is_idle (slot_numbered slots k)) (new ≡ []) (new ≡ old))

-- and that is known of the slots
pub record AreEmptied (old_slots new_slots : List Slot) (old new : Files) : Type 0 where
  pub claims : IdleEmptied old_slots old new
  pub sizes : HasSizes new_slots new

-- Each slot is as it was; or it was idle and is free, and its claim is empty.
pub record AreReclaimedInPart (tells : Bool) (old new : List Slot) (files : Files) : Type 0 where
  pub slots : (k : ℕ) → (slot_numbered new k ≡ slot_numbered old k)
      ⊎ ((slot_numbered new k ≡ reclaimed (slot_numbered old k)) × (IsTrue tells → files (claim k) ≡ []))
  pub held : held_in new ≡ held_in old

abbrev pub IdleShortened : List Slot → Files → Files → Type 0
IdleShortened slots =
    OnClaims (λ k old new. MatchBool (is_idle (slot_numbered slots k)) (Shortened 0 old new) (new ≡ old))

-- a slot's file is emptied where it is idle
abbrev pub EmptiedAt : Slot → ℕ → Files → Files → Type 0
EmptiedAt slot k old new = MatchBool (is_idle slot) (At (claim k) (λ a b. b ≡ []) old new) (new ≡ old)

abbrev pub ShortenedAt : Slot → ℕ → Files → Files → Type 0
ShortenedAt slot k old new = MatchBool (is_idle slot) (At (claim k) (Shortened 0) old new) (new ≡ old)

-- what is wrong with a content where the bytes of its claim are these
abbrev pub IsDamage : ContentRef → List ℕ → Damage → Type 0
IsDamage at bytes (Digest file offset stored found) =
    (file ≡ claim at.slot) × (offset ≡ at.offset) × (end_of at ≤ length bytes)
    × (stored ≡ at.digest) × (found ≡ sha256 (take at.size (drop at.offset bytes))) × (stored ≢ found)
IsDamage at bytes (Short file offset need have) =
    (file ≡ claim at.slot) × (offset ≡ at.offset) × (length bytes < end_of at)
    × (need ≡ end_of at) × (have ≡ length bytes)
IsDamage at bytes (Form file offset) = ⊥

-- a content stands where its reference says, with its digest
pub record ContentIsWhole (files : Files) (at : ContentRef) : Type 0 where
  pub covered : IsCovered files at
  pub digest : sha256 (content_in files at) ≡ at.digest

-- a content stands where its reference says, as these bytes
pub record StandsAs (files : Files) (at : ContentRef) (bytes : List ℕ) : Type 0 where
  pub covered : IsCovered files at
  pub content : content_in files at ≡ bytes

-- the bytes of a content: they have its size and its digest, and where the disk tells they stand in its claim
pub record IsRead (tells : Bool) (files : Files) (at : ContentRef) (bytes : List ℕ) : Type 0 where
  pub size : length bytes ≡ at.size
  pub digest : sha256 bytes ≡ at.digest
  pub whole : IsTrue tells → IsCovered files at
  pub content : IsTrue tells → bytes ≡ content_in files at

-- Why a content isn't read. What is damaged is told as it is, whether or not there is memory: that is taken only for a
-- content that stands there whole and right, and has bytes.
pub record IsReadRefusal (tells : Bool) (files : Files) (at : ContentRef) (error : ContentError) : Type 0 where
  pub damaged : (damage : Damage) → error ≡ Damaged damage → IsTrue tells → IsDamage at (files (claim at.slot)) damage
  pub memory : error ≡ Memory → IsTrue tells → ContentIsWhole files at
  pub some : error ≡ Memory → 0 < at.size
  pub not_full : error ≢ SlotsFull
