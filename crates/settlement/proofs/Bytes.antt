-- That references stand for the contents of a session's files.
use Rattle.std.proofs.Common.{◌≡◌, ℕ, zero, suc, ◌+◌, ◌-◌, ◌<◌, ◌≤◌, List, [], ◌∷◌, map, length, take, drop, refl, sym, ap, ◌∙◌, arith}
use Rattle.std.specs.Prelude.{Option, Some, None, IfSome, unwrap_or, slice_get, slice_index, slice_range}
use Rattle.std.proofs.lemmas.List.{length-drop, length-map, length-take}
use Rattle.sha2.specs.Sha256.{sha256}
use Rattle.flowfile_record.specs.Outcome.{content_of, IsBodyOver}
use Rattle.flowfile_record.specs.Ranges.{HaveRanges}
use Rattle.flowfile_record.specs.Shared.{own_bytes}
use Rattle.flowfile_record.specs.declared.content.ContentRef.{ContentRef}
use Rattle.flowfile_record.specs.declared.flow_file.FlowFile.{FlowFile}
use Rattle.flowfile_record.specs.declared.worked.Body.{Body}
use Rattle.flowfile_record.specs.declared.worked.Body.TheVariants.{Whole, Part, New}
use Rattle.process_session.specs.declared.file.Source.{Source}
use Rattle.settlement.specs.Contents.{body_content, fresh_in, kept_content, source_bytes, IsBodyWithin}
use Rattle.settlement.specs.Handed.{AreReadSources, content_sizes}

abbrev pub contents_of : (bytes : ContentRef → List ℕ) → List FlowFile → List (List ℕ)
contents_of bytes taken = map (λ file. bytes file.content) taken

-- a reference, and the bytes of a content
pub record IsStamp (at : ContentRef) (content : List ℕ) : Type 0 where
  pub size : at.size ≡ length content
  pub digest : at.digest ≡ sha256 content

kept_stamp : (bytes : ContentRef → List ℕ) (taken : List FlowFile) (sources : List Source) (of : ℕ) → AreReadSources bytes taken sources
    → IsStamp (kept_content taken of) (unwrap_or (slice_get (contents_of bytes taken) of) [])
kept_stamp bytes [] [] of read = record { size = refl; digest = refl }
kept_stamp bytes [] (source ∷ sources) of read = absurd read
kept_stamp bytes (file ∷ files) [] of read = absurd read
kept_stamp bytes (file ∷ files) (source ∷ sources) zero read = record { size = read.0.size; digest = read.0.digest }
kept_stamp bytes (file ∷ files) (source ∷ sources) (suc of) read = kept_stamp bytes files sources of read.1

-- what a reference of a taken file stands for
kept_bytes : (bytes : ContentRef → List ℕ) (taken : List FlowFile) (of : ℕ) → of < length taken → unwrap_or (slice_get (contents_of bytes taken) of) [] ≡ bytes (kept_content taken of)
kept_bytes bytes [] of h = absurd (omega arith)
kept_bytes bytes (file ∷ files) zero h = refl
kept_bytes bytes (file ∷ files) (suc of) h = kept_bytes bytes files of (omega arith)

-- a part of what was read
part_of_read : (read : Option (List ℕ)) (whole : List ℕ) (offset size : ℕ) → IfSome read (λ read. read ≡ whole) → offset + size ≤ length (unwrap_or read [])
    → slice_range (unwrap_or read []) offset (offset + size) ≡ take size (drop offset whole)
part_of_read (Some read) whole offset size is within =
    let same : (offset + size) - offset ≡ size = omega arith in
    ap (λ n. take n (drop offset read)) same ∙ ap (λ xs. take size (drop offset xs)) is
part_of_read None whole offset size is within =
    let none : size ≡ 0 = omega arith in
    let nothing : offset ≡ 0 = omega arith in
    rw (none, nothing) refl

part_same : (bytes : ContentRef → List ℕ) (taken : List FlowFile) (sources : List Source) (of offset size : ℕ) → AreReadSources bytes taken sources
    → offset + size ≤ length (source_bytes sources of)
    → slice_range (source_bytes sources of) offset (offset + size) ≡ take size (drop offset (unwrap_or (slice_get (contents_of bytes taken) of) []))
part_same bytes [] [] of offset size read within = part_of_read None [] offset size tt within
part_same bytes [] (source ∷ sources) of offset size read within = absurd read
part_same bytes (file ∷ files) [] of offset size read within = absurd read
part_same bytes (file ∷ files) (source ∷ sources) zero offset size read within =
    part_of_read source.bytes (bytes file.content) offset size read.0.read within
part_same bytes (file ∷ files) (source ∷ sources) (suc of) offset size read within = part_same bytes files sources of offset size read.1 within

-- so much was read of it
part_read : (read : Option (List ℕ)) (whole : List ℕ) (offset size : ℕ) → IfSome read (λ read. read ≡ whole) → offset + size ≤ length (unwrap_or read []) → offset + size ≤ length whole
part_read (Some read) whole offset size is within = omega (arith, within, ap length is)
part_read None whole offset size is within = omega (arith, within)

part_within : (bytes : ContentRef → List ℕ) (taken : List FlowFile) (sources : List Source) (of offset size : ℕ) → AreReadSources bytes taken sources
    → offset + size ≤ length (source_bytes sources of) → offset + size ≤ length (unwrap_or (slice_get (contents_of bytes taken) of) [])
part_within bytes [] [] of offset size read within = omega (arith, within)
part_within bytes [] (source ∷ sources) of offset size read within = absurd read
part_within bytes (file ∷ files) [] of offset size read within = absurd read
part_within bytes (file ∷ files) (source ∷ sources) zero offset size read within = part_read source.bytes (bytes file.content) offset size read.0.read within
part_within bytes (file ∷ files) (source ∷ sources) (suc of) offset size read within = part_within bytes files sources of offset size read.1 within

part_size : (whole : List ℕ) (offset size : ℕ) → offset + size ≤ length whole → size ≡ length (take size (drop offset whole))
part_size whole offset size within = omega (arith, within, length-take size (drop offset whole), length-drop offset whole)

-- a reference to a file's content has its size and its digest
pub content-stamp : (bytes : ContentRef → List ℕ) (taken : List FlowFile) (sources : List Source) (body : Body) → AreReadSources bytes taken sources → IsBodyWithin sources body
    → IsStamp (body_content taken sources body) (content_of (contents_of bytes taken) body)
content-stamp bytes taken sources (Whole of) read within = kept_stamp bytes taken sources of read
content-stamp bytes taken sources (Part of offset size) read within = record {
  size = part_size (unwrap_or (slice_get (contents_of bytes taken) of) []) offset size (part_within bytes taken sources of offset size read within);
  digest = ap sha256 (part_same bytes taken sources of offset size read within);
}
content-stamp bytes taken sources (New written) read within = record { size = refl; digest = refl }

-- the size of a taken content
pub kept-size : (taken : List FlowFile) (of : ℕ) → of < length taken → (kept_content taken of).size ≡ slice_index (content_sizes taken) of
kept-size [] of h = absurd (omega arith)
kept-size (file ∷ taken) zero h = refl
kept-size (file ∷ taken) (suc of) h = kept-size taken of (omega arith)

same_range : (whole : List ℕ) (offset size : ℕ) → slice_range whole offset (offset + size) ≡ take size (drop offset whole)
same_range whole offset size =
    let same : (offset + size) - offset ≡ size = omega arith in
    ap (λ n. take n (drop offset whole)) same

-- the bytes of a file's content are those that come with it, or else those that its reference stands for
pub content-bytes : (bytes : ContentRef → List ℕ) (taken : List FlowFile) (sources : List Source) (body : Body) → HaveRanges bytes → IsBodyOver (content_sizes taken) body
    → unwrap_or (own_bytes (fresh_in body)) (bytes (body_content taken sources body)) ≡ content_of (contents_of bytes taken) body
content-bytes bytes taken sources (Whole of) ranges over = sym (kept_bytes bytes taken of (omega (arith, over, length-map taken (λ (file : FlowFile). file.content.size))))
content-bytes bytes taken sources (Part of offset size) ranges over =
    let there : of < length taken = omega (arith, over.0, length-map taken (λ (file : FlowFile). file.content.size)) in
    ranges (kept_content taken of) offset size (sha256 (slice_range (source_bytes sources of) offset (offset + size))) (omega (arith, over.1, kept-size taken of there))
    ∙ same_range (bytes (kept_content taken of)) offset size
    ∙ ap (λ whole. take size (drop offset whole)) (sym (kept_bytes bytes taken of there))
content-bytes bytes taken sources (New written) ranges over = refl
