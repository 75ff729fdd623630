-- The parts of a content, one after another, as the machine makes them and as a session does.
use Rattle.std.proofs.Common.{◌≡◌, ℕ, ◌+◌, ◌<◌, ◌≤◌, true, false, cond, ◌&&◌, inl, inr, List, [], ◌∷◌, ◌++◌, length, map, None, Some, refl, sym, ◌∙◌, ap, subst, arith, length-append, append_assoc}
use Rattle.std.specs.Prelude.{◌==◌, All, Option, option_and_then, option_map}
use Rattle.std.proofs.lemmas.List.{append-nil, length-map, map-append}
use Rattle.std.proofs.lemmas.List.Elements.{All-append, All-cons, All-nil}
use Rattle.flowfile_record.specs.Attributes.{AttributeMap, encoded_size}
use Rattle.flowfile_record.specs.declared.limits.TheConstants.{FILES_MAX}
use Rattle.flowfile_record.specs.declared.worked.Body.TheVariants.{Part}
use Rattle.flowfile_record.specs.declared.worked.Origin.TheVariants.{Part as PartOf}
use Rattle.flowfile_record.specs.declared.worked.Worked.{Worked}
use Rattle.machine_model.specs.Making.{TakenFile, clone_of}
use Rattle.machine_model.specs.Parts.{Piece, all_set_beside, fragment_pairs, part_of, parts_from}
use Rattle.process_session.specs.Bench.{Bench, attribute_size, bench_attributes, content_size}
use Rattle.process_session.specs.Changes.{is_whole}
use Rattle.process_session.specs.Finish.{is_left_out}
use Rattle.process_session.specs.declared.file.File.{File}
use Rattle.processor_api.specs.Sessions.{BeganWithOne, HasFirstTaken}
use Rattle.proc_text.specs.Parting.{AddsPart, AddsParts, IsPart, IsReadTaken, opened, part_file, parts_of, taken_in, bench_with_files}
use Rattle.proc_text.proofs.Telling.{MayAdd, Pair, end-size, part-attributes}

-- ---- a part as the machine makes it

part-opened : (relationship : ℕ) (file : TakenFile) (attributes : AttributeMap) (offset size : ℕ)
    → opened (part_of file attributes offset size relationship) ≡ part_file ((offset == 0) && (size == length file.bytes)) attributes offset size
part-opened relationship file attributes offset size =
    let clone = clone_of 0 attributes relationship in
    elim ((offset == 0) && (size == length file.bytes)) as (λ b. opened (cond b clone (record clone { origin = PartOf 0; body = Part 0 offset size })) ≡ part_file b attributes offset size) [
      | true ↦ refl
      | false ↦ refl
    ]

part-is : (relationship : ℕ) (file : TakenFile) (attributes : AttributeMap) (offset size : ℕ) → IsPart relationship (part_of file attributes offset size relationship)
part-is relationship file attributes offset size =
    let clone = clone_of 0 attributes relationship in
    elim ((offset == 0) && (size == length file.bytes)) as (λ b. IsPart relationship (cond b clone (record clone { origin = PartOf 0; body = Part 0 offset size }))) [
      | true ↦ record { origin = inl refl; goes = refl }
      | false ↦ record { origin = inr refl; goes = refl }
    ]

-- ---- all of them

abbrev behind : List Worked → Option (List Worked) → Option (List Worked)
behind parts rest = option_map (λ more. parts ++ more) rest

behind-one : (parts : List Worked) (part : Worked) (rest : Option (List Worked)) → behind parts (option_map (λ more. part ∷ more) rest) ≡ behind (parts ++ part ∷ []) rest
behind-one parts part None = refl
behind-one parts part (Some more) = ap Some (sym (append_assoc parts (part ∷ []) more))

parts-more : (file : TakenFile) (relationship count index offset others : ℕ) (piece : Piece) (pieces : List Piece) (attributes : AttributeMap) → all_set_beside others file.attributes (piece.told ++ fragment_pairs file index count) ≡ Some attributes
    → parts_from file relationship count index offset others (piece ∷ pieces) ≡ option_map (λ parts. part_of file attributes offset piece.size relationship ∷ parts) (parts_from file relationship count (index + 1) (offset + piece.size) (others + encoded_size attributes) pieces)
parts-more file relationship count index offset others piece pieces attributes set =
    let part : AttributeMap → Worked = λ attributes. part_of file attributes offset piece.size relationship in
    let rest : AttributeMap → Option (List Worked) = λ attributes. parts_from file relationship count (index + 1) (offset + piece.size) (others + encoded_size attributes) pieces in
    ap (option_and_then (λ attributes. option_map (λ parts. part attributes ∷ parts) (rest attributes))) set

parts-none : (file : TakenFile) (relationship count index offset others : ℕ) (piece : Piece) (pieces : List Piece) → all_set_beside others file.attributes (piece.told ++ fragment_pairs file index count) ≡ None
    → parts_from file relationship count index offset others (piece ∷ pieces) ≡ None
parts-none file relationship count index offset others piece pieces none =
    let part : AttributeMap → Worked = λ attributes. part_of file attributes offset piece.size relationship in
    let rest : AttributeMap → Option (List Worked) = λ attributes. parts_from file relationship count (index + 1) (offset + piece.size) (others + encoded_size attributes) pieces in
    ap (option_and_then (λ attributes. option_map (λ parts. part attributes ∷ parts) (rest attributes))) none

-- ---- a session that makes them

-- so many are made, and these pieces are left, from an offset on
pub record Adding (before now : Bench) (relationship : ℕ) (pieces left : List Piece) (place offset : ℕ) : Type 0 where
  pub parts : List Worked
  pub is : now ≡ bench_with_files before (map opened parts)
  pub many : length parts ≡ place
  pub each : All (IsPart relationship) parts
  pub same : parts_of before relationship pieces ≡ behind parts (parts_from (taken_in before) relationship (length pieces) (place + 1) offset (attribute_size now) left)

-- what it is while the parts are made
with-taken : (before : Bench) (files : List File) (took : BeganWithOne before) → HasFirstTaken (bench_with_files before files)
with-taken before files took = record { taken = took.taken; more = files; files = ap (λ (b : Bench). b.files ++ files) took.begun }

with-content : (before : Bench) (files : List File) → BeganWithOne before → content_size (bench_with_files before files) 0 ≡ content_size before 0
with-content before files took = ap (λ b. content_size (bench_with_files b files) 0) took.begun ∙ sym (ap (λ b. content_size b 0) took.begun)

with-attributes : (before : Bench) (files : List File) → BeganWithOne before → bench_attributes (bench_with_files before files) 0 ≡ bench_attributes before 0
with-attributes before files took = ap (λ b. bench_attributes (bench_with_files b files) 0) took.begun ∙ sym (ap (λ b. bench_attributes b 0) took.begun)

pub adding-may : (before now : Bench) (relationship : ℕ) (pieces left : List Piece) (place offset size : ℕ) → BeganWithOne before → Adding before now relationship pieces left place offset → place + 1 < FILES_MAX → offset + size ≤ content_size before 0
    → MayAdd now offset size
adding-may before now relationship pieces left place offset size took adding few fits =
    let files = map opened adding.parts in
    let count : length now.files ≡ 1 + length files = ap (λ (b : Bench). length b.files) adding.is ∙ length-append before.files files ∙ ap (λ (b : Bench). length b.files + length files) took.begun in
    record {
      taken = subst HasFirstTaken (sym adding.is) (with-taken before files took);
      few = omega (arith, count, few, length-map adding.parts opened, adding.many);
      unwritten = ap (λ (b : Bench). b.handed) adding.is ∙ ap (λ (b : Bench). b.handed) took.begun;
      fits = omega (arith, fits, ap (λ b. content_size b 0) adding.is ∙ with-content before files took);
    }

set-is : (before now : Bench) (files : List File) (told pairs : List Pair) (answer : Option AttributeMap) → BeganWithOne before → now ≡ bench_with_files before files → told ≡ pairs → all_set_beside (attribute_size now) (bench_attributes now 0) told ≡ answer
    → all_set_beside (attribute_size now) (taken_in before).attributes pairs ≡ answer
set-is before now files told pairs answer took is are set =
    ap (λ ps. all_set_beside (attribute_size now) (taken_in before).attributes ps) (sym are)
    ∙ ap (λ a. all_set_beside (attribute_size now) a told) (sym (ap (λ b. bench_attributes b 0) is ∙ with-attributes before files took))
    ∙ set

whole-is : (before now : Bench) (files : List File) (offset size : ℕ) → BeganWithOne before → IsReadTaken before → now ≡ bench_with_files before files → is_whole now 0 offset size ≡ ((offset == 0) && (size == length (taken_in before).bytes))
whole-is before now files offset size took read is =
    ap (λ n. (offset == 0) && (size == n)) (ap (λ b. content_size b 0) is ∙ with-content before files took ∙ read.sized)

more-files : (before : Bench) (parts : List Worked) (part : Worked) → bench_with_files (bench_with_files before (map opened parts)) (opened part ∷ []) ≡ bench_with_files before (map opened (parts ++ part ∷ []))
more-files before parts part =
    ap (λ files. record before { files = files }) (append_assoc before.files (map opened parts) (opened part ∷ []) ∙ ap (λ files. before.files ++ files) (sym (map-append opened parts (part ∷ []))))

pub adding-more : (before now new : Bench) (relationship : ℕ) (pieces left rest : List Piece) (place offset : ℕ) (piece : Piece) (told : List Pair) → BeganWithOne before → IsReadTaken before → Adding before now relationship pieces left place offset → left ≡ piece ∷ rest
    → told ≡ piece.told ++ fragment_pairs (taken_in before) (place + 1) (length pieces) → AddsPart now new offset piece.size told true → Adding before new relationship pieces rest (place + 1) (offset + piece.size)
adding-more before now new relationship pieces left rest place offset piece told took read adding next are added =
    let file = taken_in before in
    let files = map opened adding.parts in
    let count = length pieces in
    let attributes = added.0 in
    let part = part_of file attributes offset piece.size relationship in
    let set = set-is before now files told (piece.told ++ fragment_pairs file (place + 1) count) (Some attributes) took adding.is are added.1 in
    let made : part_file (is_whole now 0 offset piece.size) attributes offset piece.size ≡ opened part =
    ap (λ w. part_file w attributes offset piece.size) (whole-is before now files offset piece.size took read adding.is) ∙ sym (part-opened relationship file attributes offset piece.size) in
    let is : new ≡ bench_with_files now (opened part ∷ []) = added.2 ∙ ap (λ f. bench_with_files now (f ∷ [])) made in
    let size : attribute_size new ≡ attribute_size now + encoded_size attributes =
    ap attribute_size added.2 ∙ end-size now (part_file (is_whole now 0 offset piece.size) attributes offset piece.size)
    ∙ ap (λ a. attribute_size now + encoded_size a) (part-attributes (is_whole now 0 offset piece.size) attributes offset piece.size) in
    let later : ℕ → Option (List Worked) = λ n. parts_from file relationship count (place + 1 + 1) (offset + piece.size) n rest in
    record {
      parts = adding.parts ++ part ∷ [];
      is = is ∙ ap (λ b. bench_with_files b (opened part ∷ [])) adding.is ∙ more-files before adding.parts part;
      many = omega (arith, length-append adding.parts (part ∷ []), adding.many);
      each = All-append (IsPart relationship) adding.parts (part ∷ []) adding.each (All-cons (IsPart relationship) part [] (part-is relationship file attributes offset piece.size) (All-nil (IsPart relationship)));
      same = adding.same ∙ ap (λ l. behind adding.parts (parts_from file relationship count (place + 1) offset (attribute_size now) l)) next
          ∙ ap (behind adding.parts) (parts-more file relationship count (place + 1) offset (attribute_size now) piece rest attributes set)
          ∙ behind-one adding.parts part (later (attribute_size now + encoded_size attributes))
          ∙ ap (λ n. behind (adding.parts ++ part ∷ []) (later n)) (sym size);
    }

pub adding-refused : (before now new : Bench) (relationship : ℕ) (pieces left rest : List Piece) (place offset : ℕ) (piece : Piece) (told : List Pair) → BeganWithOne before → Adding before now relationship pieces left place offset → left ≡ piece ∷ rest
    → place < length pieces → told ≡ piece.told ++ fragment_pairs (taken_in before) (place + 1) (length pieces) → AddsPart now new offset piece.size told false → AddsParts before new relationship pieces place
adding-refused before now new relationship pieces left rest place offset piece told took adding next fewer are refused =
    let file = taken_in before in
    let files = map opened adding.parts in
    let count = length pieces in
    let none = set-is before now files told (piece.told ++ fragment_pairs file (place + 1) count) None took adding.is are refused.0 in
    let out = refused.1 in
    record {
      parts = adding.parts;
      dropped = out.dropped;
      is = out.is ∙ ap (λ b. bench_with_files b out.dropped) adding.is ∙ ap (λ files. record before { files = files }) (append_assoc before.files files out.dropped);
      many = adding.many;
      few = omega (arith, fewer);
      each = adding.each;
      left_out = out.left_out;
      all = λ all. absurd (omega (arith, all, fewer));
      fewer = λ less. adding.same ∙ ap (λ l. behind adding.parts (parts_from file relationship count (place + 1) offset (attribute_size now) l)) next
          ∙ ap (behind adding.parts) (parts-none file relationship count (place + 1) offset (attribute_size now) piece rest none);
    }

pub adding-ends : (before now : Bench) (relationship : ℕ) (pieces left : List Piece) (place offset made : ℕ) → Adding before now relationship pieces left place offset → left ≡ [] → place ≡ length pieces → made ≡ place → AddsParts before now relationship pieces made
adding-ends before now relationship pieces left place offset made adding none all is =
    let file = taken_in before in
    record {
      parts = adding.parts;
      dropped = [];
      is = adding.is ∙ ap (λ files. bench_with_files before files) (sym (append-nil (map opened adding.parts)));
      many = adding.many ∙ sym is;
      few = omega (arith, all, is);
      each = adding.each;
      left_out = All-nil (λ (f : File). is_left_out f ≡ true);
      all = λ _. (refl, adding.same ∙ ap (λ l. behind adding.parts (parts_from file relationship (length pieces) (place + 1) offset (attribute_size now) l)) none ∙ ap Some (append-nil adding.parts));
      fewer = λ less. absurd (omega (arith, less, all, is));
    }
