-- Ranges of contents, and the bytes that references to them stand for.
use Rattle.std.specs.Prelude.{◌≡◌, ℕ, ◌+◌, ◌≤◌, List, Contains, slice_range}
use Rattle.flowfile_record.specs.declared.content.ContentRef.{ContentRef}

-- so many bytes of a content from a place in it on, which have this digest
abbrev pub range_of : ContentRef → (offset size : ℕ) → (digest : List ℕ) → ContentRef
range_of whole offset size digest =
    record { slot = whole.slot; offset = whole.offset + offset; size = size; digest = digest }

-- the bytes of a content are some of those of another one, or all
pub record IsRangeOf (at whole : ContentRef) : Type 0 where
  pub slot : at.slot ≡ whole.slot
  pub from : whole.offset ≤ at.offset
  pub to : at.offset + at.size ≤ whole.offset + whole.size

-- .. of one of these
abbrev pub IsRangeOfOne : List ContentRef → ContentRef → Type 0
IsRangeOfOne contents at = (whole : ContentRef) × Contains contents whole × IsRangeOf at whole

-- where references stand for these bytes, one to a range of a content stands for that range of its bytes
abbrev pub HaveRanges : (bytes : ContentRef → List ℕ) → Type 0
HaveRanges bytes =
    (whole : ContentRef) (offset size : ℕ) (digest : List ℕ) → offset + size ≤ whole.size
    → bytes (range_of whole offset size digest) ≡ slice_range (bytes whole) offset (offset + size)
