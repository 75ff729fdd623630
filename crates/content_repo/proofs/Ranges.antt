-- A reference to a range of a content stands for that range of its bytes.
use Rattle.std.proofs.Common.{◌≡◌, ℕ, ◌+◌, ◌-◌, ◌≤◌, List, take, drop, sym, ap, ◌∙◌, arith}
use Rattle.std.specs.Prelude.{slice_range}
use Rattle.std.proofs.lemmas.List.{drop-take, drop-drop, take-take}
use Rattle.disk_trait.specs.Files.{Files}
use Rattle.flowfile_record.specs.Ranges.{HaveRanges, IsRangeOf}
use Rattle.flowfile_record.specs.declared.content.ContentRef.{ContentRef}
use Rattle.content_repo.specs.Claims.{claim, content_in}

-- the first bytes of a part that begins at a place
range_within : (bytes : List ℕ) (start long from many : ℕ) → from + many ≤ long → slice_range (take long (drop start bytes)) from (from + many) ≡ take many (drop (start + from) bytes)
range_within bytes start long from many within =
    let more = long - from in
    let is : from + more ≡ long = omega (arith, within) in
    let count : (from + many) - from ≡ many = omega (arith) in
    ap (λ n. take n (drop from (take long (drop start bytes)))) count
    ∙ ap (λ n. take many (drop from (take n (drop start bytes)))) (sym is)
    ∙ ap (take many) (drop-take from more (drop start bytes))
    ∙ take-take many more (drop from (drop start bytes)) (omega (arith, within))
    ∙ ap (take many) (drop-drop from start bytes)

pub contents-have-ranges : (files : Files) → HaveRanges (content_in files)
contents-have-ranges files whole offset size digest within =
    sym (range_within (files (claim whole.slot)) whole.offset whole.size offset size within)

-- a part of a content reads as that part of its bytes
pub part_reads : (files : Files) (at whole : ContentRef) → IsRangeOf at whole
    → content_in files at ≡ slice_range (content_in files whole) (at.offset - whole.offset) (at.offset - whole.offset + at.size)
part_reads files at whole is =
    let from = at.offset - whole.offset in
    let start : whole.offset + from ≡ at.offset = omega (arith, is.from) in
    ap (λ (k : ℕ). take at.size (drop at.offset (files (claim k)))) is.slot
    ∙ ap (λ (n : ℕ). take at.size (drop n (files (claim whole.slot)))) (sym start)
    ∙ sym (range_within (files (claim whole.slot)) whole.offset whole.size from at.size (omega (arith, is.from, is.to)))

-- files in which a content reads alike have each part of it alike
pub part_same : (old new : Files) (at whole : ContentRef) → IsRangeOf at whole → content_in new whole ≡ content_in old whole → content_in new at ≡ content_in old at
part_same old new at whole is same =
    part_reads new at whole is
    ∙ ap (λ (bytes : List ℕ). slice_range bytes (at.offset - whole.offset) (at.offset - whole.offset + at.size)) same
    ∙ sym (part_reads old at whole is)
