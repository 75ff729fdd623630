-- What a stop leaves, of all that it may leave.
use Rattle.std.specs.Prelude.{◌≡◌, ℕ, ◌+◌, ◌*◌, ◌/◌, ◌%◌, ◌^◌, ◌<◌, nat_lt, nat_le, ◌&&◌, Bool, false, List, [], ◌∷◌, length, take, drop, slice_index_or, Contains, if◌then◌else◌}
use Rattle.std.specs.List.{list_any}
use Rattle.std.specs.List.Sorted.{IsStrictlySortedBy}
use Rattle.disk_trait.specs.Files.{Files}
use Rattle.disk_trait.specs.Memory.{FileState, durable, state_after, same_name}
use Rattle.disk_trait.specs.declared.file_name.FileName.{FileName}
use Rattle.disk_trait.specs.declared.memory.call.DiskCall.{DiskCall}
use Rattle.disk_trait.specs.declared.memory.call.DiskCall.TheVariants.{Write, Cut, Sync}
use Rattle.std.specs.BTreeMap.{keys}
use Rattle.disk_trait.specs.MemoryPast.{Past, file_at, left_at}
use Rattle.disk_trait.specs.MemoryTable.{has_file}
use Rattle.disk_trait.specs.declared.memory.table.FileTable.{FileTable}
use Rattle.disk_trait.specs.declared.memory.call.Pick.{Pick}
use Rattle.disk_trait.specs.declared.memory.call.Pick.TheVariants.{Old, New, Torn}
use Rattle.disk_trait.specs.contracts.file_name.FileNameOrd.TheImpl as order

-- whether a call wrote over this offset of a file, or cut it off
unfoldable pub touches : FileName → DiskCall → ℕ → Bool
touches file (Write name at bytes) i = same_name name file && (nat_le at i && nat_lt i (at + length bytes))
touches file (Cut name size) i = same_name name file && nat_le size i
touches file Sync i = false

unfoldable pub touched_by : FileName → List DiskCall → ℕ → Bool
touched_by file calls i = list_any (λ call. touches file call i) calls

-- a list of marks that says of each of its places whether it passes the test
abbrev pub MarksOffsets : List Bool → (ℕ → Bool) → Type 0
MarksOffsets marks test = (i : ℕ) → i < length marks → slice_index_or marks i false ≡ test i

-- the first so many calls are those up to the last sync
pub record IsSyncedCount (calls : List DiskCall) (count : ℕ) : Type 0 where
  pub synced : (f : FileName) (first : List ℕ) → (state_after f (durable first) calls).synced
      ≡ (state_after f (durable first) (take count calls)).held
  pub pending : (f : FileName) (first : List ℕ) (i : ℕ) → (state_after f (durable first) calls).pending i
      ≡ touched_by f (drop count calls) i

abbrev pub next_draw : ℕ → ℕ
next_draw x = (x * 6364136223846793005 + 1442695040888963407) % 2 ^ 64

abbrev pub next_seed : Bool → ℕ → ℕ
next_seed draws x = if draws then next_draw x else x

-- the bytes from an offset on, with those that a test picks drawn from the seed
abbrev pub drawn : (ℕ → Bool) → ℕ → ℕ → List ℕ → List ℕ
drawn picked i x [] = []
drawn picked i x (b ∷ bs) =
    (if picked i then next_draw x / 2 ^ 56 else b) ∷ drawn picked (i + 1) (next_seed (picked i) x) bs

-- the seed after these draws
abbrev pub seed_after : (ℕ → Bool) → ℕ → ℕ → List ℕ → ℕ
seed_after picked i x [] = x
seed_after picked i x (b ∷ bs) = seed_after picked (i + 1) (next_seed (picked i) x) bs

-- the files of these names are what was held, but each byte at a picked offset is drawn, one name after another
abbrev pub Draws : Files → (FileName → ℕ → Bool) → List FileName → ℕ → Files → Type 0
Draws held picked [] x files = Unit {0}
Draws held picked (f ∷ names) x files =
    (files f ≡ drawn (picked f) 0 x (held f)) × Draws held picked names (seed_after (picked f) 0 x (held f)) files

-- all files as held, but each pending byte drawn from the seed, in the order of their names
pub record IsTorn (x : ℕ) (state : FileName → FileState) (files : Files) : Type 0 where
  pub names : List FileName
  pub ascending : IsStrictlySortedBy order.ghosts.cmp names
  pub draws : Draws (λ f. (state f).held) (λ f. (state f).pending) names x files
  pub others : (f : FileName) → (Contains names f → ⊥) → (files f ≡ []) × ((state f).held ≡ [])

-- the files that a stop leaves, by the states of all files at its moment
abbrev pub IsPicked : Pick → (FileName → FileState) → Files → Type 0
IsPicked Old state files = (f : FileName) → files f ≡ (state f).synced
IsPicked New state files = (f : FileName) → files f ≡ (state f).held
IsPicked (Torn x) state files = IsTorn x state files

-- the files that a stop at a moment leaves, which are among those that it may leave
pub record IsPickedImage (past : Past) (at : ℕ) (pick : Pick) (files : Files) : Type 0 where
  pub picked : IsPicked pick (file_at past at) files
  pub left : left_at past at files

-- the files of a table, torn: the names in their order, and nothing under others
pub record IsDrawn (table : FileTable) (held : Files) (picked : FileName → ℕ → Bool) (x : ℕ)
    (files : Files) : Type 0 where
  pub ascending : IsStrictlySortedBy order.ghosts.cmp (keys table.files)
  pub draws : Draws held picked (keys table.files) x files
  pub others : (f : FileName) → has_file table f ≡ false → files f ≡ []
