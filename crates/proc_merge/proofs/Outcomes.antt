-- The outcome of a session whose taken files were all passed on, with what it made behind them.
use Rattle.std.proofs.Common.{◌≡◌, ℕ, ◌+◌, ◌<◌, ◌≤◌, zero, suc, Bool, true, false, cond, List, [], ◌∷◌, ◌++◌, length, map, drop, None, Some, refl, sym, ◌∙◌, ap, arith, append_assoc, length-append}
use Rattle.std.specs.Prelude.{◌==◌, ◌&&◌, Option, filter, is_none, not, slice_get, unwrap_or}
use Rattle.std.specs.List.{All, flat_map, range_with_len}
use Rattle.std.proofs.lemmas.Bool.{ne_eqb}
use Rattle.std.proofs.lemmas.List.{append-nil, drop_at, take_at}
use Rattle.std.proofs.lemmas.List.Elements.{All-head, All-tail}
use Rattle.std.proofs.Math.Seq.{get_or-append_seam}
use Rattle.std.proofs.lemmas.Option.{slice_get-get_or}
use Rattle.flowfile_record.specs.Attributes.{AttributeMap}
use Rattle.flowfile_record.specs.declared.worked.End.{End}
use Rattle.flowfile_record.specs.declared.worked.Origin.TheVariants.{Joined}
use Rattle.flowfile_record.specs.declared.worked.Outcome.{Outcome}
use Rattle.flowfile_record.specs.declared.worked.Worked.{Worked}
use Rattle.flowfile_record.specs.Outcome.{is_made, parents_of}
use Rattle.machine_model.specs.Making.{TakenFile, made_file, passed_from, passed_on}
use Rattle.process_session.specs.declared.file.File.{File}
use Rattle.process_session.specs.declared.file.Taken.{Taken}
use Rattle.process_session.specs.Bench.{Bench, files_taken}
use Rattle.process_session.specs.Finish.{places_once, is_left_out, ends_removed, joined_of, kept_files, origin_in, outcome_of, sent_in, standing_for, standing_from, worked_of, worked_with}
use Rattle.process_session.specs.Reasons.{not_accounted_from}
use Rattle.process_session.specs.Refusals.{refusal_of_finish}
use Rattle.process_session.proofs.Refusing.{no_refusal}
use Rattle.processor_api.specs.Acts.{AreTakenAs, KeepsTaken}
use Rattle.proc_merge.specs.Joining.{joined_file, origin_joined, with_more}
use Rattle.proc_merge.specs.Passing.{passed_first, file_passed_to, with_all_passed}
use Rattle.proc_merge.specs.Taken.{TookSome}
use Rattle.proc_merge.proofs.Benches.{next}
use Rattle.proc_merge.proofs.Reading.{count-taken, many-taken}

-- ---- the taken files, passed on

abbrev pub all_passed : (relationship from : ℕ) → List Taken → List File
all_passed relationship from taken = map (file_passed_to relationship) (files_taken from taken)

-- a session that passed on all files that it took, and has these behind them
abbrev pub passed_bench : Bench → (relationship : ℕ) → List Taken → List File → (handed : ℕ) → Bench
passed_bench bench relationship taken more handed =
    record bench { files = all_passed relationship 0 taken ++ more; handed = handed }

pub all-passed : (bench : Bench) (took : TookSome bench) (relationship : ℕ) (more : List File) (handed : ℕ)
    → with_all_passed (with_more bench more handed) relationship ≡ passed_bench bench relationship took.taken more handed
all-passed bench took relationship more handed =
    let files = files_taken 0 took.taken in
    let many : length files ≡ length bench.sources = count-taken 0 took.taken ∙ sym (many-taken bench took) in
    ap (λ fs. record bench { files = passed_first (length bench.sources) relationship (fs ++ more); handed = handed }) (ap (λ (b : Bench). b.files) took.begun)
    ∙ ap (λ fs. record bench { files = map (file_passed_to relationship) fs ++ drop (length bench.sources) (files ++ more); handed = handed }) (take_at files more (length bench.sources) many)
    ∙ ap (λ rest. record bench { files = all_passed relationship 0 took.taken ++ rest; handed = handed }) (drop_at files more (length bench.sources) many)

ended-passed : (relationship place from : ℕ) (taken : List Taken) (more : List File) → not_accounted_from place (all_passed relationship from taken ++ more) ≡ not_accounted_from (place + length taken) more
unfolding not_accounted_from
ended-passed relationship place from [] more = let same : place ≡ place + 0 = omega arith in ap (λ p. not_accounted_from p more) same
ended-passed relationship place from (one ∷ taken) more =
    let same : (place + 1) + length taken ≡ place + length (one ∷ taken) = omega arith in
    ended-passed relationship (place + 1) (from + 1) taken more ∙ ap (λ p. not_accounted_from p more) same

kept-passed : (stand : List (List ℕ)) (relationship from : ℕ) (files : List TakenFile) (taken : List Taken) (more : List File) → AreTakenAs files taken
    → kept_files stand (all_passed relationship from taken ++ more) ≡ passed_from from relationship files ++ kept_files stand more
unfolding kept_files
kept-passed stand relationship from [] [] more alike = refl
kept-passed stand relationship from [] (one ∷ taken) more alike = absurd alike
kept-passed stand relationship from (file ∷ files) [] more alike = absurd alike
kept-passed stand relationship from (file ∷ files) (one ∷ taken) more alike =
    ap (λ a. passed_on from a false relationship ∷ kept_files stand (all_passed relationship (from + 1) taken ++ more)) (sym alike.0.attributes)
    ∙ ap (λ rest. passed_on from file.attributes false relationship ∷ rest) (kept-passed stand relationship (from + 1) files taken more alike.1)

-- ---- what isn't in the outcome

abbrev pub IsGone : File → Type 0
IsGone file = is_left_out file ≡ true

kept-gone : (stand : List (List ℕ)) (gone : List File) → All IsGone gone → kept_files stand gone ≡ []
unfolding kept_files
kept-gone stand [] all = refl
kept-gone stand (file ∷ gone) all =
    ap (λ b. cond b (kept_files stand gone) (worked_of stand file ∷ kept_files stand gone)) (All-head IsGone file gone all)
    ∙ kept-gone stand gone (All-tail IsGone file gone all)

gone_ended : (file : File) → IsGone file → is_none file.«end» ≡ false
gone_ended file gone = of_end (is_made file.origin) file.«end» gone
  where
    of_end : (made : Bool) (how : Option End) → (made && ends_removed how) ≡ true → is_none how ≡ false
    of_end true None is = sym is
    of_end false None is = sym is
    of_end made (Some how) is = refl

pub ended-gone : (place : ℕ) (gone : List File) → All IsGone gone → not_accounted_from place gone ≡ None
unfolding not_accounted_from
ended-gone place [] all = refl
ended-gone place (file ∷ gone) all = rw (gone_ended file (All-head IsGone file gone all)) (ended-gone (place + 1) gone (All-tail IsGone file gone all))

-- ---- whom the joined file names

singles : (from : ℕ) → List Taken → List (List ℕ)
singles from [] = []
singles from (one ∷ taken) = (from ∷ []) ∷ singles (from + 1) taken

standing-passed : (stand : List (List ℕ)) (relationship place from : ℕ) (taken : List Taken) (more : List File)
    → standing_from stand place (all_passed relationship from taken ++ more) ≡ standing_from (stand ++ singles place taken) (place + length taken) more
unfolding standing_from singles
standing-passed stand relationship place from [] more =
    let same : place ≡ place + 0 = omega arith in
    ap (λ s. standing_from s place more) (sym (append-nil stand)) ∙ ap (λ p. standing_from (stand ++ []) p more) same
standing-passed stand relationship place from (one ∷ taken) more =
    let same : (place + 1) + length taken ≡ place + length (one ∷ taken) = omega arith in
    standing-passed (stand ++ (place ∷ []) ∷ []) relationship (place + 1) (from + 1) taken more
    ∙ ap (λ s. standing_from s ((place + 1) + length taken) more) (append_assoc stand ((place ∷ []) ∷ []) (singles (place + 1) taken))
    ∙ ap (λ p. standing_from (stand ++ singles place (one ∷ taken)) p more) same

abbrev at : List (List ℕ) → ℕ → List ℕ
at stand place = unwrap_or (slice_get stand place) []

stand-there : (before rest : List (List ℕ)) (places : List ℕ) → at (before ++ places ∷ rest) (length before) ≡ places
stand-there before rest places =
    ap (λ o. unwrap_or o [])
    (slice_get-get_or (before ++ places ∷ rest) (length before) places (omega (arith, length-append before (places ∷ rest))) ∙ ap Some (get_or-append_seam before places rest places))

names-all : (stand before rest : List (List ℕ)) (taken : List Taken) → stand ≡ before ++ (singles (length before) taken ++ rest)
    → flat_map (at stand) (range_with_len (length before) (length taken)) ≡ range_with_len (length before) (length taken)
unfolding singles
names-all stand before rest [] is = refl
names-all stand before rest (one ∷ taken) is =
    let here : at stand (length before) ≡ length before ∷ [] = ap (λ s. at s (length before)) is ∙ stand-there before (singles (length before + 1) taken ++ rest) (length before ∷ []) in
    let longer = before ++ (length before ∷ []) ∷ [] in
    let long : length longer ≡ length before + 1 = length-append before ((length before ∷ []) ∷ []) in
    let is_so : stand ≡ longer ++ (singles (length longer) taken ++ rest) =
    is ∙ sym (append_assoc before ((length before ∷ []) ∷ []) (singles (length before + 1) taken ++ rest)) ∙ ap (λ n. longer ++ (singles n taken ++ rest)) (sym long) in
    ap (λ places. places ++ flat_map (at stand) (range_with_len (length before + 1) (length taken))) here
    ∙ ap (λ places. length before ∷ places) (ap (λ n. flat_map (at stand) (range_with_len n (length taken))) (sym long) ∙ names-all stand longer rest taken is_so ∙ ap (λ n. range_with_len n (length taken)) long)

apart : (from one count : ℕ) → one < from → filter (λ other. not (other == one)) (range_with_len from count) ≡ range_with_len from count
apart from one zero before = refl
apart from one (suc count) before =
    let rest = filter (λ other. not (other == one)) (range_with_len (from + 1) count) in
    ap (λ b. cond (not b) (from ∷ rest) rest) (ne_eqb from one (λ e. omega arith)) ∙ ap (λ places. from ∷ places) (apart (from + 1) one count (omega arith))

once-range : (from count : ℕ) → places_once (range_with_len from count) ≡ range_with_len from count
once-range from zero = refl
once-range from (suc count) =
    ap (λ places. from ∷ filter (λ other. not (other == from)) places) (once-range (from + 1) count) ∙ ap (λ places. from ∷ places) (apart (from + 1) from count (omega arith))

joined-some : (from count : ℕ) → 1 ≤ count → joined_of (range_with_len from count) ≡ Joined (range_with_len from count)
joined-some from zero some = absurd (omega arith)
joined-some from (suc count) some = refl

names-taken : (relationship : ℕ) (taken : List Taken) (file : File) → 1 ≤ length taken → is_left_out file ≡ false
    → origin_in (standing_from [] 0 (all_passed relationship 0 taken ++ file ∷ [])) (origin_joined (length taken)) ≡ origin_joined (length taken)
unfolding standing_from
names-taken relationship taken file some stays =
    let stand = standing_from [] 0 (all_passed relationship 0 taken ++ file ∷ []) in
    let last : standing_from (singles 0 taken) (0 + length taken) (file ∷ []) ≡ singles 0 taken ++ ((0 + length taken) ∷ []) ∷ [] =
    ap (λ b. cond b (singles 0 taken ++ standing_for (singles 0 taken) (parents_of file.origin) ∷ []) (singles 0 taken ++ ((0 + length taken) ∷ []) ∷ [])) stays in
    let is : stand ≡ [] ++ (singles 0 taken ++ ((0 + length taken) ∷ []) ∷ []) = standing-passed [] relationship 0 0 taken (file ∷ []) ∙ last in
    ap (λ places. joined_of (places_once places)) (names-all stand [] (((0 + length taken) ∷ []) ∷ []) taken is)
    ∙ ap joined_of (once-range 0 (length taken)) ∙ joined-some 0 (length taken) some

-- ---- the outcomes

abbrev pub outcome_with : List Worked → Outcome
outcome_with files = record { files = files; sent = None }

outcome-is : (bench : Bench) → bench.sent ≡ None → outcome_of bench ≡ outcome_with (kept_files (standing_from [] 0 bench.files) bench.files)
unfolding outcome_of sent_in
outcome-is bench unsent = ap (λ s. record { files = kept_files (standing_from [] 0 bench.files) bench.files; sent = sent_in bench s }) unsent

-- it can be finished with what it took
pub passed-finished : (bench after : Bench) (took : TookSome bench) (relationship handed : ℕ) (more : List File) → ((place : ℕ) → not_accounted_from place more ≡ None) → after ≡ passed_bench bench relationship took.taken more handed
    → (refusal_of_finish after ≡ None) × KeepsTaken bench after
passed-finished bench after took relationship handed more ended is = (
  ap refusal_of_finish is ∙ next _ _ (ended-passed relationship 0 0 took.taken more ∙ ended (0 + length took.taken)) no_refusal,
  record { relationships = ap (λ (b : Bench). b.relationships) is; sources = ap (λ (b : Bench). b.sources) is },
)

-- nothing is made
pub gives-up : (bench after : Bench) (took : TookSome bench) (relationship handed : ℕ) (gone : List File) → All IsGone gone → after ≡ passed_bench bench relationship took.taken gone handed
    → (files : List TakenFile) → AreTakenAs files took.taken → outcome_of after ≡ outcome_with (passed_from 0 relationship files)
gives-up bench after took relationship handed gone all is files alike =
    let ended = passed_bench bench relationship took.taken gone handed in
    let stand = standing_from [] 0 ended.files in
    ap outcome_of is ∙ outcome-is ended (ap (λ (b : Bench). b.sent) took.begun)
    ∙ ap outcome_with (kept-passed stand relationship 0 files took.taken gone alike ∙ ap (λ rest. passed_from 0 relationship files ++ rest) (kept-gone stand gone all)
    ∙ append-nil (passed_from 0 relationship files))

pub joined-ended : (place count : ℕ) (attributes : AttributeMap) (bytes : List ℕ) → not_accounted_from place (joined_file count attributes bytes ∷ []) ≡ None
unfolding not_accounted_from
joined-ended place count attributes bytes = refl

kept-joined : (stand : List (List ℕ)) (count : ℕ) (attributes : AttributeMap) (bytes : List ℕ) → origin_in stand (origin_joined count) ≡ origin_joined count
    → kept_files stand (joined_file count attributes bytes ∷ []) ≡ made_file (origin_joined count) attributes bytes true 0 ∷ []
unfolding kept_files
kept-joined stand count attributes bytes names = ap (λ origin. worked_with origin (joined_file count attributes bytes) ∷ []) names

-- the joined file is
pub gives-joined : (bench after : Bench) (took : TookSome bench) (relationship handed count : ℕ) (attributes : AttributeMap) (bytes : List ℕ) → count ≡ length took.taken
    → after ≡ passed_bench bench relationship took.taken (joined_file count attributes bytes ∷ []) handed
    → (files : List TakenFile) → AreTakenAs files took.taken → outcome_of after ≡ outcome_with (passed_from 0 relationship files ++ made_file (origin_joined count) attributes bytes true 0 ∷ [])
gives-joined bench after took relationship handed count attributes bytes many is files alike =
    let file = joined_file count attributes bytes in
    let ended = passed_bench bench relationship took.taken (file ∷ []) handed in
    let stand = standing_from [] 0 ended.files in
    let names : origin_in stand (origin_joined count) ≡ origin_joined count =
    ap (λ n. origin_in stand (origin_joined n)) many ∙ names-taken relationship took.taken file took.some refl ∙ ap origin_joined (sym many) in
    ap outcome_of is ∙ outcome-is ended (ap (λ (b : Bench). b.sent) took.begun)
    ∙ ap outcome_with (kept-passed stand relationship 0 files took.taken (file ∷ []) alike ∙ ap (λ rest. passed_from 0 relationship files ++ rest) (kept-joined stand count attributes bytes names))
