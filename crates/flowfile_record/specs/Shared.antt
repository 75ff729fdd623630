-- Where the contents of the files that a change places come from, and which of them share one.
use Rattle.std.specs.Prelude.{◌≡◌, ℕ, ◌<◌, Bool, true, false, List, Option, None, Some, slice_get}
use Rattle.std.specs.Option.{option_and_then}
use Rattle.flowfile_record.specs.declared.stored.Fresh.{Fresh}
use Rattle.flowfile_record.specs.declared.stored.Fresh.TheVariants.{No, Bytes, Staged, As}
use Rattle.flowfile_record.specs.declared.stored.Placed.{Placed}

abbrev pub is_stored : Fresh → Bool
is_stored No = true
is_stored Staged = true
is_stored _ = false

-- whether other files of the change may share it
abbrev pub may_be_shared : Fresh → Bool
may_be_shared (Bytes bytes) = true
may_be_shared Staged = true
may_be_shared _ = false

-- the bytes that a file brings itself
abbrev pub own_bytes : Fresh → Option (List ℕ)
own_bytes (Bytes bytes) = Some bytes
own_bytes _ = None

-- the bytes of a content that isn't in the store yet, of a file of a change that places these files
abbrev pub bytes_among : List Placed → Fresh → Option (List ℕ)
bytes_among placed (As place) = option_and_then (λ p. own_bytes p.fresh) (slice_get placed place)
bytes_among placed fresh = own_bytes fresh

-- the file that stands at a place has the content of one that stands before it
pub record IsSharedAt (placed : List Placed) (place : ℕ) (p : Placed) (of : ℕ) : Type 0 where
  pub original : Placed
  pub there : slice_get placed of ≡ Some original
  pub earlier : of < place
  pub shared : may_be_shared original.fresh ≡ true
  pub same : p.file.content ≡ original.file.content

-- so does each file that says it
abbrev pub AreShared : List Placed → Type 0
AreShared placed =
    (place of : ℕ) (p : Placed) → slice_get placed place ≡ Some p → p.fresh ≡ As of → IsSharedAt placed place p of
