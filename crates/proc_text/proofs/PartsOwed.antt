-- What a processor that makes parts knows of the session that it is handed, and how it shows what it owes.
use Rattle.std.proofs.Common.{◌≡◌, ℕ, ◌≤◌, true, List, [], ◌∷◌, length, Option, None, Some, refl, sym, ◌∙◌, ap, subst, arith}
use Rattle.std.specs.Prelude.{is_some, unwrap_or}
use Rattle.std.proofs.lemmas.Bool.{false≢true, le-leb}
use Rattle.std.proofs.lemmas.List.Elements.{All-head}
use Rattle.std.proofs.lemmas.List.Sums.{sum_by-cons}
use Rattle.flowfile_record.specs.declared.TheConstants.{CONTENT_MAX}
use Rattle.machine_model.specs.Kinds.{relationships_of, take_rule_of}
use Rattle.machine_model.specs.Laws.{MayTake}
use Rattle.machine_model.specs.Making.{TakenFile}
use Rattle.machine_model.specs.SegmentContent.{segment}
use Rattle.machine_model.specs.SplitText.{split}
use Rattle.machine_model.specs.declared.given.Given.{Given}
use Rattle.machine_model.specs.declared.kind.Kind.{Kind}
use Rattle.machine_model.specs.declared.kind.Kind.TheVariants.{SegmentContent, SplitText}
use Rattle.machine_model.specs.declared.kind.TakeRule.TheVariants.{One}
use Rattle.process_session.specs.Bench.{Bench, HasItsSize, IsWhole, bench_of, bench_bytes, content_size}
use Rattle.process_session.specs.declared.file.Taken.{Taken}
use Rattle.processor_api.specs.Acts.{AreRead, Begins, EndsAs, IsTakenAs, fit_a_content}
use Rattle.processor_api.proofs.Began.{one-acts, taken-attributes, taken-content}
use Rattle.proc_text.specs.declared.pieces.Cut.TheVariants.{Bytes, Lines}
use Rattle.proc_text.specs.Parting.{IsReadTaken, taken_in}
use Rattle.proc_text.specs.Pieces.{pieces_in}
use Rattle.proc_text.proofs.PartsEnd.{EndsParted}

-- ---- as it begins

is-read : (bench : Bench) (n : ℕ) (one : Taken) (bytes : List ℕ) → bench ≡ bench_of n (one ∷ []) → one.bytes ≡ Some bytes → length bytes ≡ one.size → length bytes ≤ CONTENT_MAX → IsReadTaken bench
is-read bench n one bytes is has sized short =
    let shown : bench_bytes bench 0 ≡ Some bytes = ap (λ b. bench_bytes b 0) is ∙ has in
    let same : (taken_in bench).bytes ≡ bytes = ap (λ o. unwrap_or o []) shown in
    record {
      bytes = shown ∙ ap Some (sym same);
      sized = ap (λ b. content_size b 0) is ∙ sym sized ∙ ap length (sym same);
      short = omega (arith, ap length same, short);
    }

pub began-read : (kind : Kind) (bench : Bench) (given : Given) → take_rule_of kind ≡ One → Begins kind bench given → IsReadTaken bench
began-read kind bench given rule begins = of_taken begins.taken begins.begun begins.handed.read (subst (λ r. MayTake r (length begins.taken)) rule begins.handed.count)
  where
    of_bytes : (one : Taken) (bytes : Option (List ℕ)) → one.bytes ≡ bytes → bench ≡ bench_of (length (relationships_of kind)) (one ∷ []) → AreRead (one ∷ []) → IsReadTaken bench
    of_bytes one None none is read =
        let small = All-head (λ (file : Taken). file.size ≤ CONTENT_MAX) one [] read.small in
        let fits : fit_a_content (one ∷ []) ≡ true = le-leb _ CONTENT_MAX (omega (arith, small, sum_by-cons (λ (file : Taken). file.size) one [])) in
        let some : is_some one.bytes ≡ true = All-head (λ (file : Taken). is_some file.bytes ≡ fit_a_content (one ∷ [])) one [] read.filled ∙ fits in
        absurd (false≢true (sym (ap is_some none) ∙ some))
    of_bytes one (Some bytes) has is read =
        let small = All-head (λ (file : Taken). file.size ≤ CONTENT_MAX) one [] read.small in
        let sized : length bytes ≡ one.size = subst (λ b. HasItsSize b one.size) has (All-head IsWhole one [] read.whole) in
        is-read bench (length (relationships_of kind)) one bytes is has sized (omega (arith, small, sized))

    of_taken : (taken : List Taken) → bench ≡ bench_of (length (relationships_of kind)) taken → AreRead taken → length taken ≡ 1 → IsReadTaken bench
    of_taken [] is read count = absurd (omega (arith, count))
    of_taken (one ∷ []) is read count = of_bytes one one.bytes refl is read
    of_taken (one ∷ other ∷ more) is read count = absurd (omega (arith, count))

-- ---- as it ends

taken-is : (before : Bench) (taken : Taken) (file : TakenFile) → IsReadTaken before → before ≡ bench_of before.relationships (taken ∷ []) → IsTakenAs file taken → file ≡ taken_in before
taken-is before taken file read is alike =
    let attributes = taken-attributes before taken file is alike in
    let uuid : file.uuid ≡ (taken_in before).uuid = alike.uuid ∙ sym (ap (λ b. (taken_in b).uuid) is) in
    let bytes = taken-content before taken file (taken_in before).bytes is alike read.bytes in
    λ i. record { attributes = attributes i; uuid = uuid i; bytes = bytes i }

-- ---- segments

pub segment-acts : (size : ℕ) (before : Bench) (given : Given) (after : Bench) → Begins (SegmentContent size) before given → EndsParted before after 1 0 (pieces_in (Bytes size) (taken_in before).bytes) → EndsAs (SegmentContent size) before given after
segment-acts size before given after begins ends =
    one-acts (SegmentContent size) before given after refl begins ends.finished ends.kept
    (λ taken file began alike. ap (λ f. Some (segment size f)) (taken-is before taken file (began-read (SegmentContent size) before given refl begins) began alike) ∙ ap Some (sym ends.outcome))

-- ---- lines

pub split-acts : (lines : ℕ) (before : Bench) (given : Given) (after : Bench) → Begins (SplitText lines) before given → EndsParted before after 0 1 (pieces_in (Lines lines) (taken_in before).bytes) → EndsAs (SplitText lines) before given after
split-acts lines before given after begins ends =
    one-acts (SplitText lines) before given after refl begins ends.finished ends.kept
    (λ taken file began alike. ap (λ f. Some (split lines f)) (taken-is before taken file (began-read (SplitText lines) before given refl begins) began alike) ∙ ap Some (sym ends.outcome))
