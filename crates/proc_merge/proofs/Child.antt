-- How the joined file is made, and how it ends.
use Rattle.std.proofs.Common.{◌≡◌, inl, inr, ℕ, ◌+◌, ◌<◌, ◌≤◌, zero, suc, true, false, cond, List, [], ◌∷◌, ◌++◌, length, map, get_or, Option, None, Some, refl, sym, ◌∙◌, ap, subst, arith, sum_by, length-append}
use Rattle.std.specs.Prelude.{◌==◌, ◌⊎◌, IfErr, IfOk, OnOk, codes, decimal, Result, Ok, Err, is_ok, is_some, option_and_then, slice_get}
use Rattle.std.specs.FinMap.{empty, remove}
use Rattle.std.specs.List.{All, AllByRecursion, IsDistinct, range_with_len}
use Rattle.std.specs.Option.{option_map, option_map_or}
use Rattle.std.specs.Result.{result_err}
use Rattle.std.proofs.lemmas.Bool.{le-leb, lt-leb, leb-true, ne_eqb}
use Rattle.std.proofs.lemmas.List.{append-nil, length-map}
use Rattle.std.proofs.lemmas.List.Elements.{All-cons, All-get_or, All-head, All-nil, All-tail}
use Rattle.std.proofs.lemmas.List.Sums.{sum_by-cons}
use Rattle.std.proofs.lemmas.Option.{slice_get-get_or}
use Rattle.flowfile_record.specs.Attributes.{AttributeMap}
use Rattle.flowfile_record.specs.declared.TheConstants.{CONTENT_MAX}
use Rattle.flowfile_record.specs.declared.attributes.TheConstants.{ATTRIBUTES_MAX}
use Rattle.flowfile_record.specs.declared.limits.TheConstants.{TAKEN_MAX}
use Rattle.flowfile_record.specs.declared.worked.Body.TheVariants.{New}
use Rattle.flowfile_record.specs.declared.worked.End.{End}
use Rattle.flowfile_record.specs.declared.worked.End.TheVariants.{To, Removed}
use Rattle.machine_model.specs.Making.{TakenFile, may_have}
use Rattle.machine_model.specs.MergeContent.{counted, joined_attributes, named_as_whole, shared_by_all, without_fragment}
use Rattle.machine_model.specs.declared.kind.MergeStrategy.{MergeStrategy}
use Rattle.machine_model.specs.declared.kind.MergeStrategy.TheVariants.{BinPacking, Defragment}
use Rattle.process_session.specs.declared.error.SessionError.{SessionError}
use Rattle.process_session.specs.declared.error.SessionError.TheVariants.{Memory}
use Rattle.process_session.specs.declared.file.File.{File}
use Rattle.process_session.specs.declared.file.Taken.{Taken}
use Rattle.process_session.specs.Bench.{Bench, HasItsSize, IsWhole, bench_attributes, made_size, taken_source}
use Rattle.process_session.specs.Changes.{attributed_file, common_attributes, new_file, with_attributes, with_end, with_joined, with_written, written_file}
use Rattle.process_session.specs.Finish.{is_left_out}
use Rattle.process_session.specs.Reasons.{IsRefusal, IsRefusalBehind, Refusal, already_ended, session_full}
use Rattle.process_session.specs.Refusals.{ended_refusal, refusal_of_create_joined, refusal_of_parents, refusal_of_remove, refusal_of_transfer, refusal_of_write, unknown_files}
use Rattle.process_session.proofs.Refusing.{no_refusal}
use Rattle.processor_api.proofs.Answered.{only_memory}
use Rattle.processor_api.specs.Acts.{AreRead, fit_a_content}
use Rattle.proc_merge.specs.Joining.{HasJoined, IsDescribed, IsJoined, described, file_joined, joined_file, of_parents, origin_joined, with_joined_child, with_more}
use Rattle.proc_merge.specs.Taken.{IsSmall, TookSome, bytes_read, files_seen}
use Rattle.proc_merge.proofs.Benches.{no_file, at-seam, change-seam, few_attributes, known, known-within, next, remove-free, roomy, short_content, still_open, transfer-free}
use Rattle.proc_merge.proofs.Reading.{IsOpen, as-many, many-taken, open-taken}
use Rattle.proc_merge.proofs.Described.{set-fits}
use Rattle.proc_merge.proofs.Shared.{common-is}

-- ---- its parents

range-apart : (count from one : ℕ) → one < from → AllByRecursion (λ other. (one == other) ≡ false) (range_with_len from count)
range-apart zero from one before = tt
range-apart (suc count) from one before = (ne_eqb one from (λ e. omega arith), range-apart count (from + 1) one (omega arith))

pub range-distinct : (count from : ℕ) → IsDistinct (λ one other. one == other) (range_with_len from count)
unfolding IsDistinct
range-distinct zero from = tt
range-distinct (suc count) from = (range-apart count (from + 1) from (omega arith), range-distinct count (from + 1))

open-at : (bench : Bench) (place : ℕ) → TookSome bench → place < length bench.files → already_ended bench place ≡ None
open-at bench place took within =
    let all : All IsOpen bench.files = subst (All IsOpen) (sym (ap (λ (b : Bench). b.files) took.begun)) (open-taken 0 took.taken) in
    still_open bench place (get_or bench.files place no_file) (slice_get-get_or bench.files place no_file within) (All-get_or IsOpen bench.files place no_file within all)

parents-free : (bench : Bench) (from count : ℕ) → TookSome bench → from + count ≤ length bench.files → (unknown_files bench (range_with_len from count) ≡ None) × (ended_refusal bench (range_with_len from count) ≡ None)
parents-free bench from zero took within = (refl, refl)
parents-free bench from (suc count) took within =
    let rest = parents-free bench (from + 1) count took (omega arith) in
    (next _ _ (known-within bench from (omega arith)) (next _ _ rest.0 no_refusal), next _ _ (open-at bench from took (omega arith)) (next _ _ rest.1 no_refusal))

pub few-files : (bench : Bench) → TookSome bench → length bench.files ≤ TAKEN_MAX
few-files bench took = omega (arith, as-many bench took, many-taken bench took, took.few)

pub some-files : (bench : Bench) → TookSome bench → 1 ≤ length bench.files
some-files bench took = omega (arith, as-many bench took, many-taken bench took, took.some)

unwritten : (bench : Bench) → TookSome bench → bench.handed ≡ 0
unwritten bench took = ap (λ (b : Bench). b.handed) took.begun

abbrev parents_of_all : Bench → List ℕ
parents_of_all bench = range_with_len 0 (length bench.sources)

common-of-all : (bench : Bench) → TookSome bench → common_attributes bench (parents_of_all bench) ≡ shared_by_all (files_seen bench)
common-of-all bench took =
    ap (λ n. common_attributes bench (range_with_len 0 n)) (sym (as-many bench took)) ∙ common-is bench (omega (arith, some-files bench took))

pub joined-is : (bench : Bench) → TookSome bench → with_joined bench (parents_of_all bench) ≡ with_joined_child bench (shared_by_all (files_seen bench))
joined-is bench took =
    ap (λ a. record bench { files = bench.files ++ new_file (origin_joined (length bench.sources)) a (New []) ∷ [] }) (common-of-all bench took)

create-free : (bench : Bench) → TookSome bench → All IsSmall bench.files → made_size (shared_by_all (files_seen bench)) ≤ ATTRIBUTES_MAX → refusal_of_create_joined bench (parents_of_all bench) ≡ None
create-free bench took small fits =
    let shared = shared_by_all (files_seen bench) in
    let parents = parents-free bench 0 (length bench.sources) took (omega (arith, as-many bench took)) in
    let sized = ap made_size (common-of-all bench took) in
    let file = new_file (origin_joined (length bench.sources)) shared (New []) in
    let full : session_full (with_joined bench (parents_of_all bench)) ≡ None =
    ap session_full (joined-is bench took) ∙ roomy bench.files file bench.handed (few-files bench took) small (omega (arith, fits)) (omega (arith, unwritten bench took)) in
    next _ _ parents.0 (next _ _ parents.1 (next _ _ (few_attributes _ (omega (arith, sized, fits))) (next _ _ full no_refusal)))

behind_free : {A : Type 0} (known refusal : Refusal) (result : Result A SessionError) → known ≡ None → refusal ≡ None → IsRefusalBehind known result refusal → IfErr result (λ error. error ≡ Memory)
behind_free {A = A} known refusal result none free is = of_parts (subst (λ k. IsRefusalBehind k result refusal) none is)
  where
    of_error : (result : Result A SessionError) → result_err result ≡ Some Memory → IfErr result (λ error. error ≡ Memory)
    of_error (Ok value) is = tt
    of_error (Err error) is = cc

    of_parts : IsRefusal result refusal ⊎ (result_err result ≡ Some Memory) → IfErr result (λ error. error ≡ Memory)
    of_parts (inl is) = only_memory result refusal is free
    of_parts (inr is) = of_error result is

pub create-memory : (bench : Bench) (parents : List ℕ) (result : Result ℕ SessionError) → TookSome bench → parents ≡ range_with_len 0 (length bench.sources) → All IsSmall bench.files → made_size (shared_by_all (files_seen bench)) ≤ ATTRIBUTES_MAX
    → IsRefusalBehind (refusal_of_parents bench parents) result (refusal_of_create_joined bench parents) → IfErr result (λ error. error ≡ Memory)
create-memory bench parents result took are small fits is =
    let free = parents-free bench 0 (length bench.sources) took (omega (arith, as-many bench took)) in
    behind_free (refusal_of_parents bench parents) (refusal_of_create_joined bench parents) result
    (ap (refusal_of_parents bench) are ∙ next _ _ free.0 (next _ _ free.1 no_refusal))
    (ap (refusal_of_create_joined bench) are ∙ create-free bench took small fits) is

pub made-so : {A E : Type 0} (answer : Result A E) (made : Result A SessionError) (old new next wanted : Bench) → IfOk answer (λ value. made ≡ Ok value) → new ≡ cond (is_ok made) next old → next ≡ wanted → OnOk answer (new ≡ wanted)
made-so {A = A} (Ok value) made old new next wanted is after same = after ∙ ap (λ (r : Result A SessionError). cond (is_ok r) next old) is ∙ same
made-so (Err error) made old new next wanted is after same = tt

pub at-ok : {A E : Type 0} (answer : Result A E) (value : A) (P : A → Type 0) → answer ≡ Ok value → IfOk answer P → P value
at-ok {A = A} {E = E} answer value P is holds =
    let Q : Result A E → Type 0 = λ r. IfOk r P in
    subst Q is holds

-- ---- as it is made

pub has-joined : (bench now : Bench) (place : ℕ) (shared : AttributeMap) → TookSome bench → All IsSmall bench.files → shared ≡ shared_by_all (files_seen bench) → made_size shared ≤ ATTRIBUTES_MAX → place ≡ length bench.files
    → now ≡ with_joined_child bench (shared_by_all (files_seen bench)) → HasJoined now place
has-joined bench now place shared took small same fits last is =
    let now-is : now ≡ with_joined_child bench shared = is ∙ ap (with_joined_child bench) (sym same) in
    record {
      before = bench.files;
      parents = range_with_len 0 (length bench.sources);
      attributes = shared;
      files = ap (λ (b : Bench). b.files) now-is;
      last = last;
      few = few-files bench took;
      small = small;
      named = fits;
      unwritten = ap (λ (b : Bench). b.handed) now-is ∙ unwritten bench took;
    }

pub child-attributes : (bench now : Bench) (place : ℕ) (shared : AttributeMap) → shared ≡ shared_by_all (files_seen bench) → place ≡ length bench.files → now ≡ with_joined_child bench (shared_by_all (files_seen bench)) → shared ≡ bench_attributes now place
child-attributes bench now place shared same last is =
    let child = with_joined_child bench (shared_by_all (files_seen bench)) in
    let file = new_file (origin_joined (length bench.sources)) (shared_by_all (files_seen bench)) (New []) in
    same ∙ sym (ap (λ o. option_map_or (λ (f : File). f.attributes) o empty) (at-seam bench.files [] file))
    ∙ sym (ap (λ b. bench_attributes b place) is ∙ ap (bench_attributes child) last)

-- which attributes it comes to
origin-any : (strategy : MergeStrategy) (count : ℕ) (attributes : AttributeMap) → named_as_whole strategy (origin_joined count) attributes ≡ named_as_whole strategy of_parents attributes
origin-any BinPacking count attributes = refl
origin-any Defragment count attributes = refl

pub attributes-may : (strategy : MergeStrategy) (files : List TakenFile) → made_size (shared_by_all files) ≤ ATTRIBUTES_MAX → joined_attributes strategy (origin_joined (length files)) files ≡ described strategy (length files) (shared_by_all files)
attributes-may strategy files fits =
    let common = shared_by_all files in
    let own = without_fragment common in
    let wanted = option_and_then (counted (length files) (origin_joined (length files))) (named_as_whole strategy (origin_joined (length files)) own) in
    let may : may_have (origin_joined (length files)) common ≡ true = le-leb (made_size common) ATTRIBUTES_MAX fits in
    ap (λ b. cond b wanted None) may ∙ ap (option_and_then (counted (length files) of_parents)) (origin-any strategy (length files) own)

pub attributes-mayn't : (strategy : MergeStrategy) (files : List TakenFile) → ATTRIBUTES_MAX < made_size (shared_by_all files) → joined_attributes strategy (origin_joined (length files)) files ≡ None
attributes-mayn't strategy files large =
    let common = shared_by_all files in
    let own = without_fragment common in
    let wanted = option_and_then (counted (length files) (origin_joined (length files))) (named_as_whole strategy (origin_joined (length files)) own) in
    let may : may_have (origin_joined (length files)) common ≡ false = lt-leb (made_size common) ATTRIBUTES_MAX large in
    ap (λ b. cond b wanted None) may

pub many-seen : (bench : Bench) → TookSome bench → length (files_seen bench) ≡ length bench.sources
many-seen bench took = length-map bench.files _ ∙ as-many bench took

-- ---- its content

size-read : (taken : List Taken) (bytes : List ℕ) → All IsWhole taken → bytes_read (map taken_source taken) ≡ Some bytes → length bytes ≡ sum_by (λ file. file.size) taken
size-read [] bytes whole is = let same : [] ≡ bytes = cc in ap length (sym same)
size-read (one ∷ taken) bytes whole is =
    of_bytes one.bytes (bytes_read (map taken_source taken)) (All-head IsWhole one taken whole) (λ more more_is. size-read taken more (All-tail IsWhole one taken whole) more_is) refl is
  where
    of_bytes : (o rest : Option (List ℕ)) → HasItsSize o one.size → ((more : List ℕ) → bytes_read (map taken_source taken) ≡ Some more → length more ≡ sum_by (λ (file : Taken). file.size) taken) → bytes_read (map taken_source taken) ≡ rest
        → option_and_then (λ bytes. option_map (λ more. bytes ++ more) rest) o ≡ Some bytes → length bytes ≡ sum_by (λ (file : Taken). file.size) (one ∷ taken)
    of_bytes None rest sized others rest-is is = cc
    of_bytes (Some here) None sized others rest-is is = cc
    of_bytes (Some here) (Some more) sized others rest-is is =
        let same : here ++ more ≡ bytes = cc in
        let long = ap length same in
        omega (arith, long, sized, length-append here more, others more rest-is, sum_by-cons (λ (file : Taken). file.size) one taken)

first-read : (taken : List Taken) (bytes : List ℕ) → AreRead taken → bytes_read (map taken_source taken) ≡ Some bytes → fit_a_content taken ≡ true
first-read [] bytes read is = refl
first-read (one ∷ taken) bytes read is =
    sym (All-head (λ (file : Taken). is_some file.bytes ≡ fit_a_content (one ∷ taken)) one taken read.filled) ∙ of_bytes one.bytes is
  where
    of_bytes : (o : Option (List ℕ)) → option_and_then (λ bytes. option_map (λ more. bytes ++ more) (bytes_read (map taken_source taken))) o ≡ Some bytes → is_some o ≡ true
    of_bytes None is = cc
    of_bytes (Some here) is = refl

pub short-read : (bench : Bench) (bytes : List ℕ) → TookSome bench → bytes_read bench.sources ≡ Some bytes → length bytes ≤ CONTENT_MAX
short-read bench bytes took is =
    let is-so : bytes_read (map taken_source took.taken) ≡ Some bytes = ap (λ (b : Bench). bytes_read b.sources) (sym took.begun) ∙ is in
    omega (arith, size-read took.taken bytes took.read.whole is-so, leb-true (sum_by (λ (file : Taken). file.size) took.taken) CONTENT_MAX (first-read took.taken bytes took.read is-so))

-- ---- how it ends

-- with other attributes it is as it was made
pub child-described : (bench made now : Bench) (place : ℕ) (shared attributes : AttributeMap) → place ≡ length bench.files → made ≡ with_joined_child bench shared → now ≡ with_attributes made place attributes → now ≡ with_joined_child bench attributes
child-described bench made now place shared attributes last is described =
    let file = new_file (origin_joined (length bench.sources)) shared (New []) in
    described ∙ ap (λ b. with_attributes b place attributes) is ∙ ap (λ p. with_attributes (with_joined_child bench shared) p attributes) last
    ∙ ap (λ files. record bench { files = files }) (change-seam (attributed_file attributes) bench.files [] file)

child-there : (bench now : Bench) (place : ℕ) (attributes : AttributeMap) → place ≡ length bench.files → now ≡ with_joined_child bench attributes
    → slice_get now.files place ≡ Some (new_file (origin_joined (length bench.sources)) attributes (New []))
child-there bench now place attributes last is =
    ap (λ (b : Bench). slice_get b.files place) is ∙ ap (slice_get (with_joined_child bench attributes).files) last ∙ at-seam bench.files [] (new_file (origin_joined (length bench.sources)) attributes (New []))

pub child-remove : (bench now : Bench) (place : ℕ) (attributes : AttributeMap) → place ≡ length bench.files → now ≡ with_joined_child bench attributes → refusal_of_remove now place ≡ None
child-remove bench now place attributes last is = remove-free now place _ (child-there bench now place attributes last is) refl

child-ended : (bench now : Bench) (place handed : ℕ) (file : File) (how : End) → place ≡ length bench.files → now ≡ with_more bench (file ∷ []) handed
    → with_end now place how ≡ with_more bench (record file { «end» = Some how } ∷ []) handed
child-ended bench now place handed file how last is =
    ap (λ b. with_end b place how) is ∙ ap (λ p. with_end (with_more bench (file ∷ []) handed) p how) last
    ∙ ap (λ files. record bench { files = files; handed = handed }) (change-seam (λ file. record file { «end» = Some how }) bench.files [] file)

pub child-removed : (bench now after : Bench) (place : ℕ) (attributes : AttributeMap) (wanted : Option File) → place ≡ length bench.files → now ≡ with_joined_child bench attributes → after ≡ with_end now place Removed → wanted ≡ None
    → IsJoined bench after wanted false
child-removed bench now after place attributes wanted last is removed none =
    let file = new_file (origin_joined (length bench.sources)) attributes (New []) in
    let gone : File = record file { «end» = Some Removed } in
    subst (λ o. IsJoined bench after o false) (sym none)
    (gone ∷ [], bench.handed, All-cons (λ file. is_left_out file ≡ true) gone [] refl (All-nil (λ file. is_left_out file ≡ true)), removed ∙ child-ended bench now place bench.handed file Removed last is)

pub nothing-made : (bench : Bench) (wanted : Option File) → wanted ≡ None → IsJoined bench bench wanted false
nothing-made bench wanted none =
    subst (λ o. IsJoined bench bench o false) (sym none)
    ([], bench.handed, All-nil (λ file. is_left_out file ≡ true), ap (λ files. record bench { files = files }) (sym (append-nil bench.files)))

pub write-free : (bench now : Bench) (place : ℕ) (attributes : AttributeMap) (bytes : List ℕ) → TookSome bench → All IsSmall bench.files → place ≡ length bench.files → now ≡ with_joined_child bench attributes → made_size attributes ≤ ATTRIBUTES_MAX
    → length bytes ≤ CONTENT_MAX → refusal_of_write now place bytes ≡ None
write-free bench now place attributes bytes took small last is fits short =
    let file = new_file (origin_joined (length bench.sources)) attributes (New []) in
    let there = child-there bench now place attributes last is in
    let full : session_full (with_written now place bytes) ≡ None =
    ap (λ b. session_full (with_written b place bytes)) is ∙ ap (λ p. session_full (with_written (with_joined_child bench attributes) p bytes)) last
    ∙ ap (λ files. session_full (record bench { files = files; handed = bench.handed + length bytes })) (change-seam (written_file bytes) bench.files [] file)
    ∙ roomy bench.files (written_file bytes file) (bench.handed + length bytes) (few-files bench took) small (omega (arith, fits)) (omega (arith, short, unwritten bench took)) in
    next _ _ (known now place file there) (next _ _ (still_open now place file there refl) (next _ _ (short_content _ short) (next _ _ full no_refusal)))

pub child-written : (bench now after : Bench) (place : ℕ) (attributes : AttributeMap) (bytes : List ℕ) → place ≡ length bench.files → now ≡ with_joined_child bench attributes → after ≡ with_written now place bytes
    → after ≡ with_more bench (written_file bytes (new_file (origin_joined (length bench.sources)) attributes (New [])) ∷ []) (bench.handed + length bytes)
child-written bench now after place attributes bytes last is written =
    let file = new_file (origin_joined (length bench.sources)) attributes (New []) in
    written ∙ ap (λ b. with_written b place bytes) is ∙ ap (λ p. with_written (with_joined_child bench attributes) p bytes) last
    ∙ ap (λ files. record bench { files = files; handed = bench.handed + length bytes }) (change-seam (written_file bytes) bench.files [] file)

pub child-transfer : (bench now : Bench) (place handed relationship : ℕ) (file : File) → place ≡ length bench.files → now ≡ with_more bench (file ∷ []) handed → file.«end» ≡ None → relationship < bench.relationships → refusal_of_transfer now place relationship ≡ None
child-transfer bench now place handed relationship file last is opened goes =
    ap (λ b. refusal_of_transfer b place relationship) is ∙ ap (λ p. refusal_of_transfer (with_more bench (file ∷ []) handed) p relationship) last
    ∙ transfer-free (with_more bench (file ∷ []) handed) (length bench.files) relationship file (at-seam bench.files [] file) opened goes

pub child-joined : (bench now after : Bench) (place handed : ℕ) (attributes : AttributeMap) (bytes : List ℕ) (wanted : Option File) → place ≡ length bench.files
    → now ≡ with_more bench (written_file bytes (new_file (origin_joined (length bench.sources)) attributes (New [])) ∷ []) handed → after ≡ with_end now place (To 0) → wanted ≡ Some (joined_file (length bench.sources) attributes bytes)
    → IsJoined bench after wanted true
child-joined bench now after place handed attributes bytes wanted last is ended some =
    let file = written_file bytes (new_file (origin_joined (length bench.sources)) attributes (New [])) in
    subst (λ o. IsJoined bench after o true) (sym some) (handed, ended ∙ child-ended bench now place handed file (To 0) last is)

-- ---- by what describing it came to

pub refused-child : (bench made now : Bench) (place : ℕ) (shared : AttributeMap) (wanted : Option AttributeMap) → place ≡ length bench.files → made ≡ with_joined_child bench shared → IsDescribed made now place wanted false
    → (attributes : AttributeMap) × (wanted ≡ None) × (now ≡ with_joined_child bench attributes)
refused-child bench made now place shared (Some attributes) last is described = absurd described
refused-child bench made now place shared None last is described = (described.0, refl, child-described bench made now place shared described.0 last is described.1)

pub done-child : (bench made now : Bench) (place : ℕ) (shared : AttributeMap) (wanted : Option AttributeMap) → place ≡ length bench.files → made ≡ with_joined_child bench shared → IsDescribed made now place wanted true
    → (attributes : AttributeMap) × (wanted ≡ Some attributes) × (now ≡ with_joined_child bench attributes)
done-child bench made now place shared None last is described = absurd described
done-child bench made now place shared (Some attributes) last is described = (attributes, refl, child-described bench made now place shared attributes last is described)

-- the file that is wanted
abbrev file_of : ℕ → Option AttributeMap → Option (List ℕ) → Option File
file_of count attributes bytes = option_and_then (λ attributes. option_map (joined_file count attributes) bytes) attributes

pub large-none : (strategy : MergeStrategy) (files : List TakenFile) (bytes : Option (List ℕ)) → ATTRIBUTES_MAX < made_size (shared_by_all files) → file_joined strategy files bytes ≡ None
large-none strategy files bytes large = ap (λ a. file_of (length files) a bytes) (attributes-mayn't strategy files large)

pub unread-none : (strategy : MergeStrategy) (files : List TakenFile) (bytes : Option (List ℕ)) → bytes ≡ None → file_joined strategy files bytes ≡ None
unread-none strategy files bytes none = ap (file_joined strategy files) none ∙ of_attributes (joined_attributes strategy (origin_joined (length files)) files)
  where
    of_attributes : (o : Option AttributeMap) → file_of (length files) o None ≡ None
    of_attributes None = refl
    of_attributes (Some attributes) = refl

pub wanted-is : (bench made : Bench) (strategy : MergeStrategy) (shared : AttributeMap) (wanted : Option AttributeMap) (bytes : Option (List ℕ)) → TookSome bench → shared ≡ shared_by_all (files_seen bench) → made_size shared ≤ ATTRIBUTES_MAX
    → made ≡ with_joined_child bench shared → described strategy (length made.sources) shared ≡ wanted → file_joined strategy (files_seen bench) bytes ≡ file_of (length bench.sources) wanted bytes
wanted-is bench made strategy shared wanted bytes took same fits is wanted_so =
    let files = files_seen bench in
    let sources : length files ≡ length made.sources = many-seen bench took ∙ sym (ap (λ (b : Bench). length b.sources) is) in
    let attributes : joined_attributes strategy (origin_joined (length files)) files ≡ wanted =
    attributes-may strategy files (subst (λ a. made_size a ≤ ATTRIBUTES_MAX) same fits)
    ∙ ap (λ n. described strategy n (shared_by_all files)) sources ∙ ap (described strategy (length made.sources)) (sym same) ∙ wanted_so in
    ap (λ a. file_of (length files) a bytes) attributes ∙ ap (λ n. file_of n wanted bytes) (many-seen bench took)

pub described-fits : (strategy : MergeStrategy) (count : ℕ) (shared attributes : AttributeMap) → described strategy count shared ≡ Some attributes → made_size attributes ≤ ATTRIBUTES_MAX
described-fits strategy count shared attributes is = of_named (named_as_whole strategy of_parents (without_fragment shared)) is
  where
    of_named : (o : Option AttributeMap) → option_and_then (counted count of_parents) o ≡ Some attributes → made_size attributes ≤ ATTRIBUTES_MAX
    of_named None is = cc
    of_named (Some own) is = set-fits (remove own (codes "segment.original.filename")) attributes (codes "merge.count") (decimal count) refl is
