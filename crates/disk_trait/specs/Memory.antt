-- A file of a disk in memory: what its recorded calls make of it, and what a stop may leave.
use Rattle.std.specs.Prelude.{◌≡◌, ℕ, ◌+◌, ◌<◌, ◌≤◌, min, max, nat_lt, nat_le, ◌&&◌, ◌||◌, Bool, true, false, not, List, [], ◌∷◌, ◌++◌, length, take, drop, slice_index, if◌then◌else◌}
use Rattle.disk_trait.specs.declared.file_name.FileName.{FileName}
use Rattle.disk_trait.specs.contracts.file_name.FileNamePartialEq.TheImpl as names
use Rattle.disk_trait.specs.declared.memory.call.DiskCall.{DiskCall}
use Rattle.disk_trait.specs.declared.memory.call.DiskCall.TheVariants.{Write, Cut, Sync}

-- a file since the last sync: its bytes now and at that sync, its least and greatest length since, and
-- the offsets that may hold any byte after a stop
pub record FileState : Type 0 where
  pub held : List ℕ
  pub synced : List ℕ
  pub least : ℕ
  pub greatest : ℕ
  pub pending : ℕ → Bool

-- right after a sync
unfoldable pub durable : List ℕ → FileState
durable bytes = record {
  held = bytes;
  synced = bytes;
  least = length bytes;
  greatest = length bytes;
  pending = λ _. false;
}

-- after a call that made the file this and left these offsets pending
unfoldable pub changed : List ℕ → (ℕ → Bool) → FileState → FileState
changed held touched state = record {
  held = held;
  synced = state.synced;
  least = min state.least (length held);
  greatest = max state.greatest (length held);
  pending = λ i. touched i || state.pending i;
}

-- the same name, by the names' own `==`
abbrev pub same_name : FileName → FileName → Bool
same_name = names.ghosts.eq

-- what a call does to a file
unfoldable pub after_call : FileName → DiskCall → FileState → FileState
after_call file (Write name at bytes) state =
    if same_name name file
    then changed (take at state.held ++ bytes ++ drop (at + length bytes) state.held)
    (λ i. nat_le at i && nat_lt i (at + length bytes)) state
    else state
after_call file (Cut name size) state =
    if same_name name file then changed (take size state.held) (λ i. nat_le size i) state else state
after_call file Sync state = durable state.held

-- a write to the file begins at most at its end
unfoldable pub fits : FileName → DiskCall → FileState → Bool
fits file (Write name at bytes) state = not (same_name name file) || nat_le at (length state.held)
fits file (Cut name size) state = true
fits file Sync state = true

-- a file that began like this, after these calls
abbrev pub state_after : FileName → FileState → List DiskCall → FileState
state_after file state [] = state
state_after file state (call ∷ calls) = state_after file (after_call file call state) calls

-- what a stop may leave of the file
pub record IsImage (state : FileState) (image : List ℕ) : Type 0 where
  pub no_shorter : state.least ≤ length image
  pub no_longer : length image ≤ state.greatest
  pub same : (i : ℕ) → i < length image → state.pending i ≡ false → slice_index image i ≡ slice_index state.synced i
