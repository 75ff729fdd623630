-- A session that ended may be committed.
use Rattle.std.proofs.Common.{◌≡◌, ◌⊎◌, ⊎_elim, inl, inr, ℕ, zero, suc, ◌+◌, ◌<◌, ◌≤◌, Bool, true, false, cond, List, [], ◌∷◌, ◌++◌, length, map, refl, sym, ap, subst, arith, append-nil}
use Rattle.std.specs.Prelude.{All, Contains, Option, None, Some, IfSome, option_map, slice_get, slice_index, sum_by}
use Rattle.std.specs.List.{range_with_len}
use Rattle.std.proofs.lemmas.Bool.{le-leb}
use Rattle.std.proofs.lemmas.List.Elements.{All-cons, All-contains, All-head, All-nil, All-weaker}
use Rattle.std.proofs.lemmas.List.Sums.{sum_by-cons}
use Rattle.flowfile_record.specs.Attributes.{AttributeMap}
use Rattle.flowfile_record.specs.Outcome.{IsBodyOver, IsOutcome, IsWorked}
use Rattle.flowfile_record.specs.Stored.{Kept}
use Rattle.flowfile_record.specs.declared.TheConstants.{CONTENT_MAX}
use Rattle.flowfile_record.specs.declared.flow_file.FlowFile.{FlowFile}
use Rattle.flowfile_record.specs.declared.worked.Body.{Body}
use Rattle.flowfile_record.specs.declared.worked.Body.TheVariants.{Whole, Part, New}
use Rattle.flowfile_record.specs.declared.worked.Origin.TheVariants.{Joined}
use Rattle.flowfile_record.specs.declared.worked.Outcome.{Outcome}
use Rattle.flowfile_record.specs.declared.worked.Worked.{Worked}
use Rattle.record_codec.specs.ActiveFile.{active}
use Rattle.checkpoint_store.specs.Consistent.{IsConsistent, IsFileIn}
use Rattle.machine_model.specs.declared.flow.Flow.{Flow}
use Rattle.machine_model.specs.declared.given.Given.{Given}
use Rattle.machine_model.specs.declared.kind.Kind.{Kind}
use Rattle.machine_model.specs.declared.kind.Kind.TheVariants.{MergeContent}
use Rattle.machine_model.specs.declared.kind.MergeStrategy.{MergeStrategy}
use Rattle.machine_model.specs.Acting.{act}
use Rattle.machine_model.specs.Changing.{queued_file}
use Rattle.machine_model.specs.Kinds.{take_rule_of, relationships_of}
use Rattle.machine_model.specs.Laws.{MayTake}
use Rattle.machine_model.specs.Making.{TakenFile, made_file, or_given_up, passed_from, passed_on}
use Rattle.machine_model.specs.MergeContent.{joined, joined_attributes, joined_content, may_join, merge}
use Rattle.machine_model.specs.Stepping.{as_taken}
use Rattle.machine_model.proofs.Options.{if_and_then, if_map, if_where}
use Rattle.process_session.specs.Bench.{taken_source}
use Rattle.process_session.specs.declared.file.Source.{Source}
use Rattle.process_session.specs.declared.file.Taken.{Taken}
use Rattle.processor_api.specs.Acts.{KeepsGiven}
use Rattle.settlement.specs.Contents.{IsBodyWithin, source_bytes}
use Rattle.settlement.specs.Handed.{AreReadSources, content_sizes}
use Rattle.store_core.specs.State.{state_with}
use Rattle.engine_change.specs.Committing.{MayCommit}
use Rattle.engine_session.specs.Handing.{AreReadOf, MayEndSession, files_fit_a_content, taken_with_contents}
use Rattle.engine_session.specs.Laws.{AreThere}
use Rattle.engine_session.specs.Working.{IsWorkOf}
use Rattle.engine_session.proofs.Handed.{source_lengths, source_sizes, taken-files-are-the-machines, taken-files-are-there, taken_count}

-- the kind is the one that merges
record IsMerge (kind : Kind) : Type 0 where
  strategy : MergeStrategy
  minimum : ℕ
  maximum : ℕ
  is : kind ≡ MergeContent strategy minimum maximum

place_below : {X : Type 0} (xs : List X) (place : ℕ) (x : X) → slice_get xs place ≡ Some x → place < length xs
place_below [] place x is = absurd cc
place_below (y ∷ xs) zero x is = omega arith
place_below (y ∷ xs) (suc place) x is = omega (arith, place_below xs place x is)

-- ---- what is read of one file

-- each processor takes one file at most, but for the one that merges
few : (kind : Kind) (count : ℕ) → MayTake (take_rule_of kind) count → (count ≤ 1) ⊎ IsMerge kind
few (MergeContent strategy minimum maximum) count may = inr (record { strategy = strategy; minimum = minimum; maximum = maximum; is = refl })
few kind count may = inl (omega (arith, may))

-- and one file's content is read
fits : (k : Kept) (connection : ℕ) (files : List FlowFile) → IsConsistent k → All (λ file. Contains k.files (active connection file)) files → length files ≤ 1
    → files_fit_a_content files ≡ true
fits k connection [] consistent there few = le-leb 0 CONTENT_MAX (omega arith)
fits k connection (file ∷ []) consistent there few =
    let size : file.content.size ≤ CONTENT_MAX =
    (All-contains (IsFileIn k) k.files (active connection file) consistent.files (All-head (λ f. Contains k.files (active connection f)) file [] there)).encoded.file.content.size in
    le-leb (sum_by (λ (f : FlowFile). f.content.size) (file ∷ [])) CONTENT_MAX (omega (arith, size, sum_by-cons (λ (f : FlowFile). f.content.size) file []))
fits k connection (file ∷ other ∷ files) consistent there few = absurd (omega (arith, few))

-- ---- parts

abbrev AreWithin : List Source → Outcome → Type 0
AreWithin sources outcome = All (λ file. IsBodyWithin sources file.body) outcome.files

within : (sizes : List ℕ) (sources : List Source) (b : Body) → ((of : ℕ) → slice_index sizes of ≡ length (source_bytes sources of)) → IsBodyOver sizes b → IsBodyWithin sources b
within sizes sources (Whole of) lengths over = tt
within sizes sources (Part of offset size) lengths over = omega (arith, lengths of, over.1)
within sizes sources (New bytes) lengths over = tt

parts_within : (relationships : ℕ) (sizes : List ℕ) (sources : List Source) (outcome : Outcome) → IsOutcome relationships sizes outcome
    → ((of : ℕ) → slice_index sizes of ≡ length (source_bytes sources of)) → AreWithin sources outcome
parts_within relationships sizes sources outcome is lengths =
    All-weaker (IsWorked relationships sizes) (λ file. IsBodyWithin sources file.body)
    (λ (file : Worked) (worked : IsWorked relationships sizes file). within sizes sources file.body lengths worked.body) outcome.files is.each

-- ---- a merge has none

passed_within : (sources : List Source) (place relationship : ℕ) (taken : List TakenFile) (more : List Worked) → All (λ file. IsBodyWithin sources file.body) more
    → All (λ file. IsBodyWithin sources file.body) (passed_from place relationship taken ++ more)
passed_within sources place relationship [] more all = all
passed_within sources place relationship (file ∷ taken) more all =
    All-cons (λ f. IsBodyWithin sources f.body) (passed_on place file.attributes false relationship) (passed_from (place + 1) relationship taken ++ more) tt
    (passed_within sources (place + 1) relationship taken more all)

none_within : (sources : List Source) → All (λ (file : Worked). IsBodyWithin sources file.body) []
none_within sources = All-nil (λ (file : Worked). IsBodyWithin sources file.body)

joined_within : (sources : List Source) (strategy : MergeStrategy) (taken : List TakenFile) → IfSome (joined strategy taken) (AreWithin sources)
joined_within sources strategy taken =
    let origin = Joined (range_with_len 0 (length taken)) in
    let whole : AttributeMap → List ℕ → Outcome = λ attributes bytes. record { files = passed_from 0 1 taken ++ made_file origin attributes bytes true 0 ∷ []; sent = None } in
    if_and_then (λ attributes. option_map (whole attributes) (joined_content taken)) (joined_attributes strategy origin taken) (AreWithin sources)
    (λ attributes is. if_map (whole attributes) (joined_content taken) (AreWithin sources)
    (λ bytes has. passed_within sources 0 1 taken (made_file origin attributes bytes true 0 ∷ []) (All-cons (λ f. IsBodyWithin sources f.body) (made_file origin attributes bytes true 0) [] tt (none_within sources))))

given_up_within : (sources : List Source) (taken : List TakenFile) (made : Option Outcome) → IfSome made (AreWithin sources) → AreWithin sources (or_given_up 2 taken made)
given_up_within sources taken (Some outcome) all = all
given_up_within sources taken None all =
    subst (λ files. All (λ file. IsBodyWithin sources file.body) files) (append-nil (passed_from 0 2 taken)) (passed_within sources 0 2 taken [] (none_within sources))

merged_within : (sources : List Source) (strategy : MergeStrategy) (taken : List TakenFile) → AreWithin sources (merge strategy taken)
merged_within sources strategy taken =
    given_up_within sources taken (cond (may_join strategy taken) (joined strategy taken) None)
    (if_where (may_join strategy taken) (joined strategy taken) (AreWithin sources) (λ may. joined_within sources strategy taken))

merge_within : (sources : List Source) (kind : Kind) (taken : List TakenFile) (given : Given) (outcome : Outcome) → IsMerge kind → act kind taken given ≡ Some outcome → AreWithin sources outcome
merge_within sources kind taken given outcome merges acts =
    let made : ◌≡◌ {A = Option Outcome} (Some (merge merges.strategy taken)) (Some outcome) = subst (λ (k : Kind). act k taken given ≡ Some outcome) merges.is acts in
    let same : merge merges.strategy taken ≡ outcome = cc in
    subst (AreWithin sources) same (merged_within sources merges.strategy taken)

-- ---- all of it

module _ (flow : Flow) (k : Kept) (given : Given) (place connection : ℕ) (files : List FlowFile) (done : Outcome × List Source) (may : MayEndSession flow k given place connection files done) where
  abbrev taken : List Taken
  taken = taken_with_contents k.store files may.contents

  abbrev kind : Kind
  kind = may.may.processor.kind

  work : IsWorkOf kind taken given done
  work = may.work may.may.processor may.may.found

  there : AreThere k connection may.bytes files may.contents
  there = taken-files-are-there k connection may.numbers may.bytes files may.contents may.taken

  sound : IsOutcome (length (relationships_of kind)) (content_sizes files) done.0
  sound =
      subst (λ (sizes : List ℕ). IsOutcome (length (relationships_of kind)) sizes done.0)
      (source_sizes k.store may.bytes (files_fit_a_content files) files may.contents may.taken.read) work.sound

  -- the content of one file was read
  one_within : length taken ≤ 1 → AreWithin (map taken_source taken) done.0
  one_within one =
      let n : length taken ≡ length files = taken_count k.store may.bytes (files_fit_a_content files) files may.contents may.taken.read in
      let whole : files_fit_a_content files ≡ true = fits k connection files may.consistent there.there (omega (arith, n, one)) in
      let read : AreReadOf may.bytes true files may.contents = subst (λ (b : Bool). AreReadOf may.bytes b files may.contents) whole may.taken.read in
      parts_within (length (relationships_of kind)) (content_sizes files) (map taken_source taken) done.0 sound (λ of. source_lengths k.store may.bytes files may.contents of read)

  merged : IsMerge kind → AreWithin (map taken_source taken) done.0
  merged merges =
      let seen : List TakenFile = map (as_taken (state_with may.bytes [] k)) (map (queued_file may.bytes) files) in
      merge_within (map taken_source taken) kind seen given done.0 merges
      (work.outcome seen (taken-files-are-the-machines k connection may.numbers may.bytes files may.contents [] may.taken))

  pub may_commit : (left : Given) → KeepsGiven given left → MayCommit flow left k (record { processor = place; connection = connection; taken = files; sources = done.1; outcome = done.0 })
  may_commit left keeps =
      let sources : map taken_source taken ≡ done.1 = sym work.sources in
      let index : left.index ≡ given.index = ap (λ (g : Given). g.index) keeps.but_bytes in
      record {
        processor = place_below flow.processors place may.may.processor may.may.found;
        index = omega (arith, index, may.index);
        there = there.there;
        differ = there.differ;
        relationships = length (relationships_of kind);
        outcome = sound;
        parts = subst (λ (s : List Source). AreWithin s done.0) sources (⊎_elim one_within merged (few kind (length taken) may.may.handed.count));
        bytes = may.bytes;
        read = subst (λ (s : List Source). AreReadSources may.bytes files s) sources there.read;
      }
