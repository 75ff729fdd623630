-- The session of a MergeContent, from its beginning to its end.
use Rattle.std.proofs.Common.{◌≡◌, inl, inr, ℕ, ◌+◌, ◌≤◌, Bool, true, false, cond, List, [], ◌∷◌, ◌++◌, length, map, take, Option, None, Some, refl, sym, ◌∙◌, ap, subst, arith, sum_by, length-append}
use Rattle.std.specs.Prelude.{◌==◌, ◌&&◌, IfSome, fold, is_some, nat_le, option_and_then}
use Rattle.std.specs.List.{All, concat, enumerate_from, list_all}
use Rattle.std.specs.Option.{option_map}
use Rattle.std.proofs.lemmas.Bool.{and_parts, cases_lt, le-leb, leb-true, lt-leb, false≢true, true≢false}
use Rattle.std.proofs.lemmas.List.{append-nil, take_at}
use Rattle.std.proofs.lemmas.List.Elements.{All-head, All-nil, All-tail}
use Rattle.std.proofs.lemmas.List.Sums.{sum_by-cons}
use Rattle.flowfile_record.specs.Attributes.{AttributeMap, shared}
use Rattle.flowfile_record.specs.declared.TheConstants.{CONTENT_MAX}
use Rattle.flowfile_record.specs.declared.worked.Outcome.{Outcome}
use Rattle.flowfile_record.specs.declared.limits.TheConstants.{TAKEN_MAX}
use Rattle.machine_model.specs.Making.{TakenFile, made_file, may_have, or_given_up, passed_from}
use Rattle.machine_model.specs.MergeContent.{are_fragments_of, counted, joined, joined_attributes, joined_content, may_join, merge, named_as_whole, shared_by_all, without_fragment}
use Rattle.machine_model.specs.Kinds.{take_rule_of}
use Rattle.machine_model.specs.Laws.{MayTake}
use Rattle.machine_model.specs.Sound.{IsSoundKind, are_entries_sound, within}
use Rattle.machine_model.specs.Taking.{Fragment, fragment_of, is_fragment_at}
use Rattle.machine_model.specs.declared.given.Given.{Given}
use Rattle.machine_model.specs.declared.kind.Kind.TheVariants.{MergeContent}
use Rattle.machine_model.specs.declared.kind.MergeStrategy.{MergeStrategy}
use Rattle.machine_model.specs.declared.kind.MergeStrategy.TheVariants.{BinPacking, Defragment}
use Rattle.process_session.specs.declared.file.File.{File}
use Rattle.process_session.specs.declared.file.Taken.{Taken}
use Rattle.process_session.specs.Bench.{Bench, bench_of, taken_source, taken_file, files_taken}
use Rattle.process_session.specs.Finish.{outcome_of}
use Rattle.process_session.specs.Reasons.{not_accounted_from}
use Rattle.process_session.specs.Refusals.{refusal_of_finish}
use Rattle.processor_api.specs.Acts.{AreRead, AreTakenAs, BeganWith, Begins, EndsAs, KeepsTaken, fit_a_content}
use Rattle.proc_merge.specs.Joining.{IsJoined, file_joined, joined_file, origin_joined, with_more}
use Rattle.proc_merge.specs.Passing.{with_all_passed}
use Rattle.proc_merge.specs.Taken.{TookSome, bytes_read, files_seen, file_seen}
use Rattle.proc_merge.proofs.Reading.{IsOpen, as-many, count-taken, many-taken, open-taken}
use Rattle.proc_merge.proofs.Child.{many-seen}
use Rattle.proc_merge.proofs.Outcomes.{IsGone, all-passed, ended-gone, gives-joined, gives-up, joined-ended, outcome_with, passed-finished}

-- ---- as it begins

may_count : (strategy : MergeStrategy) (minimum maximum count : ℕ) → IsSoundKind (MergeContent strategy minimum maximum) → MayTake (take_rule_of (MergeContent strategy minimum maximum)) count → (1 ≤ count) × (count ≤ TAKEN_MAX)
may_count Defragment minimum maximum count sound may = may
may_count BinPacking minimum maximum count sound may =
    let parts = and_parts (within 1 minimum TAKEN_MAX && within 1 maximum TAKEN_MAX) (are_entries_sound BinPacking minimum maximum) sound.ranges in
    let both = and_parts (within 1 minimum TAKEN_MAX) (within 1 maximum TAKEN_MAX) parts.0 in
    let most = and_parts (nat_le 1 maximum) (nat_le maximum TAKEN_MAX) both.1 in
    (may.0, omega (arith, may.1, leb-true maximum TAKEN_MAX most.1))

pub took-some : (strategy : MergeStrategy) (minimum maximum : ℕ) (bench : Bench) (given : Given) → Begins (MergeContent strategy minimum maximum) bench given → TookSome bench
took-some strategy minimum maximum bench given begins =
    let count = may_count strategy minimum maximum (length begins.taken) begins.handed.sound begins.handed.count in
    record {
      taken = begins.taken;
      some = count.0;
      few = count.1;
      begun = begins.begun ∙ ap (λ n. bench_of n begins.taken) (sym (ap (λ (b : Bench). b.relationships) begins.begun));
      read = begins.handed.read;
    }

pub three : (strategy : MergeStrategy) (minimum maximum : ℕ) (bench : Bench) (given : Given) → Begins (MergeContent strategy minimum maximum) bench given → bench.relationships ≡ 3
three strategy minimum maximum bench given begins = ap (λ (b : Bench). b.relationships) begins.begun

-- ---- the taken files, which haven't ended

pub still-open : (bench now : Bench) (took : TookSome bench) (more : List File) (handed : ℕ) → now ≡ with_more bench more handed → All IsOpen (take (length now.sources) now.files)
still-open bench now took more handed is =
    let files = files_taken 0 took.taken in
    let many : length files ≡ length bench.sources = count-taken 0 took.taken ∙ sym (many-taken bench took) in
    let parts : take (length now.sources) now.files ≡ files =
    ap (λ (b : Bench). take (length b.sources) b.files) is ∙ ap (λ fs. take (length bench.sources) (fs ++ more)) (ap (λ (b : Bench). b.files) took.begun) ∙ take_at files more (length bench.sources) many in
    subst (All IsOpen) (sym parts) (open-taken 0 took.taken)

pub all-there : (bench now : Bench) (took : TookSome bench) (more : List File) (handed : ℕ) → now ≡ with_more bench more handed → length now.sources ≤ length now.files
all-there bench now took more handed is =
    let sources = ap (λ (b : Bench). length b.sources) is in
    let files = ap (λ (b : Bench). length b.files) is in
    omega (arith, sources, files, as-many bench took, length-append bench.files more)

pub no-more : (bench : Bench) → bench ≡ with_more bench [] bench.handed
no-more bench = ap (λ files. record bench { files = files }) (sym (append-nil bench.files))

-- ---- the files of the machine

record Together (one other : Taken) : Type 0 where
  source : taken_source one ≡ taken_source other
  attributes : one.attributes ≡ other.attributes

same-one : (one other : Taken) → Together one other → one ≡ other
same-one one other same =
    λ j. record {
      attributes = same.attributes j;
      uuid = (same.source j).uuid;
      size = (same.source j).size;
      bytes = (same.source j).bytes;
    }

same-taken : (from : ℕ) (taken others : List Taken) → map taken_source taken ≡ map taken_source others → files_taken from taken ≡ files_taken from others → taken ≡ others
same-taken from [] [] sources files = refl
same-taken from [] (other ∷ others) sources files = cc
same-taken from (one ∷ taken) [] sources files = cc
same-taken from (one ∷ taken) (other ∷ others) sources files =
    let source : taken_source one ≡ taken_source other = cc in
    let file : taken_file from one ≡ taken_file from other = cc in
    let more_sources : map taken_source taken ≡ map taken_source others = cc in
    let more_files : files_taken (from + 1) taken ≡ files_taken (from + 1) others = cc in
    let first : one ≡ other = same-one one other (record { source = source; attributes = ap (λ (f : File). f.attributes) file }) in
    let rest : taken ≡ others = same-taken (from + 1) taken others more_sources more_files in
    λ j. first j ∷ rest j

took-alike : (bench : Bench) (took : TookSome bench) (files : List TakenFile) → BeganWith bench files → AreTakenAs files took.taken
took-alike bench took files began =
    let both : bench_of bench.relationships began.0 ≡ bench_of bench.relationships took.taken = sym began.1 ∙ took.begun in
    subst (AreTakenAs files) (same-taken 0 began.0 took.taken (ap (λ (b : Bench). b.sources) both) (ap (λ (b : Bench). b.files) both)) began.2

count-alike : (from : ℕ) (files : List TakenFile) (taken : List Taken) → AreTakenAs files taken → length files ≡ length (map file_seen (files_taken from taken))
count-alike from [] [] alike = refl
count-alike from [] (one ∷ taken) alike = absurd alike
count-alike from (file ∷ files) [] alike = absurd alike
count-alike from (file ∷ files) (one ∷ taken) alike = omega (arith, count-alike (from + 1) files taken alike.1)

turn-alike : (fragment : Fragment) (index from : ℕ) (files : List TakenFile) (taken : List Taken) → AreTakenAs files taken
    → list_all (λ (file : ℕ × TakenFile). is_fragment_at fragment file.0 (fragment_of file.1.attributes)) (enumerate_from index files)
    ≡ list_all (λ (file : ℕ × TakenFile). is_fragment_at fragment file.0 (fragment_of file.1.attributes)) (enumerate_from index (map file_seen (files_taken from taken)))
turn-alike fragment index from [] [] alike = refl
turn-alike fragment index from [] (one ∷ taken) alike = absurd alike
turn-alike fragment index from (file ∷ files) [] alike = absurd alike
turn-alike fragment index from (file ∷ files) (one ∷ taken) alike =
    ap (λ a. is_fragment_at fragment index (fragment_of a) && list_all (λ (file : ℕ × TakenFile). is_fragment_at fragment file.0 (fragment_of file.1.attributes)) (enumerate_from (index + 1) files)) alike.0.attributes
    ∙ ap (λ b. is_fragment_at fragment index (fragment_of one.attributes) && b) (turn-alike fragment (index + 1) (from + 1) files taken alike.1)

fragments-alike : (found : Option Fragment) (from : ℕ) (files : List TakenFile) (taken : List Taken) → AreTakenAs files taken → are_fragments_of files found ≡ are_fragments_of (map file_seen (files_taken from taken)) found
fragments-alike None from files taken alike = refl
fragments-alike (Some fragment) from files taken alike =
    ap (λ n. (n == fragment.count) && list_all (λ (file : ℕ × TakenFile). is_fragment_at fragment file.0 (fragment_of file.1.attributes)) (enumerate_from 1 files)) (count-alike from files taken alike)
    ∙ ap (λ b. (length (map file_seen (files_taken from taken)) == fragment.count) && b) (turn-alike fragment 1 from files taken alike)

join-alike : (strategy : MergeStrategy) (files : List TakenFile) (taken : List Taken) → AreTakenAs files taken → may_join strategy files ≡ may_join strategy (map file_seen (files_taken 0 taken))
join-alike BinPacking files taken alike = refl
join-alike Defragment [] [] alike = refl
join-alike Defragment [] (one ∷ taken) alike = absurd alike
join-alike Defragment (file ∷ files) [] alike = absurd alike
join-alike Defragment (file ∷ files) (one ∷ taken) alike =
    ap (λ a. are_fragments_of (file ∷ files) (fragment_of a)) alike.0.attributes ∙ fragments-alike (fragment_of one.attributes) 0 (file ∷ files) (one ∷ taken) alike

fold-alike : (these : AttributeMap) (from : ℕ) (files : List TakenFile) (taken : List Taken) → AreTakenAs files taken
    → fold (λ these (other : TakenFile). shared these other.attributes) these files ≡ fold (λ these (other : TakenFile). shared these other.attributes) these (map file_seen (files_taken from taken))
fold-alike these from [] [] alike = refl
fold-alike these from [] (one ∷ taken) alike = absurd alike
fold-alike these from (file ∷ files) [] alike = absurd alike
fold-alike these from (file ∷ files) (one ∷ taken) alike =
    ap (λ a. fold (λ these (other : TakenFile). shared these other.attributes) (shared these a) files) alike.0.attributes
    ∙ fold-alike (shared these one.attributes) (from + 1) files taken alike.1

shared-alike : (from : ℕ) (files : List TakenFile) (taken : List Taken) → AreTakenAs files taken → shared_by_all files ≡ shared_by_all (map file_seen (files_taken from taken))
shared-alike from [] [] alike = refl
shared-alike from [] (one ∷ taken) alike = absurd alike
shared-alike from (file ∷ files) [] alike = absurd alike
shared-alike from (file ∷ files) (one ∷ taken) alike =
    ap (λ a. fold (λ these (other : TakenFile). shared these other.attributes) a files) alike.0.attributes
    ∙ fold-alike one.attributes (from + 1) files taken alike.1

-- what a file that joins so many has, by what they share
attributes_by : MergeStrategy → ℕ → AttributeMap → Option AttributeMap
attributes_by strategy count common =
    cond (may_have (origin_joined count) common) (option_and_then (counted count (origin_joined count)) (named_as_whole strategy (origin_joined count) (without_fragment common))) None

attributes-alike : (strategy : MergeStrategy) (files : List TakenFile) (taken : List Taken) → AreTakenAs files taken
    → joined_attributes strategy (origin_joined (length files)) files ≡ joined_attributes strategy (origin_joined (length (map file_seen (files_taken 0 taken)))) (map file_seen (files_taken 0 taken))
unfolding attributes_by
attributes-alike strategy files taken alike =
    let others = map file_seen (files_taken 0 taken) in
    ap (λ n. attributes_by strategy n (shared_by_all files)) (count-alike 0 files taken alike)
    ∙ ap (attributes_by strategy (length others)) (shared-alike 0 files taken alike)

-- ---- their contents

size-alike : (files : List TakenFile) (taken : List Taken) → AreTakenAs files taken → length (concat (map (λ (file : TakenFile). file.bytes) files)) ≡ sum_by (λ (file : Taken). file.size) taken
size-alike [] [] alike = refl
size-alike [] (one ∷ taken) alike = absurd alike
size-alike (file ∷ files) [] alike = absurd alike
size-alike (file ∷ files) (one ∷ taken) alike =
    omega (arith, alike.0.size, size-alike files taken alike.1, length-append file.bytes (concat (map (λ (file : TakenFile). file.bytes) files)), sum_by-cons (λ (file : Taken). file.size) one taken)

abbrev HasBytes : Taken → Type 0
HasBytes file = is_some file.bytes ≡ true

read-alike : (files : List TakenFile) (taken : List Taken) → AreTakenAs files taken → All HasBytes taken → Some (concat (map (λ (file : TakenFile). file.bytes) files)) ≡ bytes_read (map taken_source taken)
read-alike [] [] alike all = refl
read-alike [] (one ∷ taken) alike all = absurd alike
read-alike (file ∷ files) [] alike all = absurd alike
read-alike (file ∷ files) (one ∷ taken) alike all =
    of_bytes one.bytes (All-head HasBytes one taken all) refl
    ∙ ap (λ rest. option_and_then (λ bytes. option_map (λ more. bytes ++ more) rest) one.bytes) (read-alike files taken alike.1 (All-tail HasBytes one taken all))
  where
    of_bytes : (o : Option (List ℕ)) → is_some o ≡ true → one.bytes ≡ o
        → Some (concat (map (λ (file : TakenFile). file.bytes) (file ∷ files))) ≡ option_and_then (λ bytes. option_map (λ more. bytes ++ more) (Some (concat (map (λ (file : TakenFile). file.bytes) files)))) one.bytes
    of_bytes None some is = absurd (false≢true some)
    of_bytes (Some bytes) some is =
        let same : bytes ≡ file.bytes = subst (λ o. IfSome o (λ bytes. bytes ≡ file.bytes)) is alike.0.bytes in
        ap (λ b. Some (b ++ concat (map (λ (file : TakenFile). file.bytes) files))) (sym same)
        ∙ ap (option_and_then (λ bytes. option_map (λ more. bytes ++ more) (Some (concat (map (λ (file : TakenFile). file.bytes) files))))) (sym is)

unread-first : (taken : List Taken) → AreRead taken → fit_a_content taken ≡ false → None ≡ bytes_read (map taken_source taken)
unread-first [] read isnt = absurd (true≢false isnt)
unread-first (one ∷ taken) read isnt =
    of_bytes one.bytes (All-head (λ (file : Taken). is_some file.bytes ≡ fit_a_content (one ∷ taken)) one taken read.filled ∙ isnt)
  where
    of_bytes : (o : Option (List ℕ)) → is_some o ≡ false → None ≡ option_and_then (λ bytes. option_map (λ more. bytes ++ more) (bytes_read (map taken_source taken))) o
    of_bytes None isnt = refl
    of_bytes (Some bytes) isnt = absurd (true≢false isnt)

content-alike : (files : List TakenFile) (taken : List Taken) → AreTakenAs files taken → AreRead taken → joined_content files ≡ bytes_read (map taken_source taken)
content-alike files taken alike read =
    let all = concat (map (λ (file : TakenFile). file.bytes) files) in
    let size = sum_by (λ (file : Taken). file.size) taken in
    let long = size-alike files taken alike in
    elim (cases_lt CONTENT_MAX size) [
      | inl large ↦
          ap (λ b. cond b (Some all) None) (lt-leb (length all) CONTENT_MAX (omega (arith, long, large)))
          ∙ unread-first taken read (lt-leb size CONTENT_MAX large)
      | inr fits ↦
          let fit : fit_a_content taken ≡ true = le-leb size CONTENT_MAX fits in
          ap (λ b. cond b (Some all) None) (le-leb (length all) CONTENT_MAX (omega (arith, long, fits)))
          ∙ read-alike files taken alike (subst (λ b. All (λ (file : Taken). is_some file.bytes ≡ b) taken) fit read.filled)
    ]

-- ---- what becomes of all

abbrev file_of : ℕ → Option AttributeMap → Option (List ℕ) → Option File
file_of count attributes bytes = option_and_then (λ attributes. option_map (joined_file count attributes) bytes) attributes

-- the session with what `join` left in it, and that all of that has ended
pub record IsBehind (bench now : Bench) : Type 0 where
  pub more : List File
  pub handed : ℕ
  pub is : now ≡ with_more bench more handed
  pub ended : (place : ℕ) → not_accounted_from place more ≡ None

behind-gone : (bench now : Bench) (wanted : Option File) → IsJoined bench now wanted false → IsBehind bench now
behind-gone bench now (Some file) joined = absurd joined
behind-gone bench now None joined = record { more = joined.0; handed = joined.1; is = joined.3; ended = λ place. ended-gone place joined.0 joined.2 }

behind-by : (bench now : Bench) (count : ℕ) (attributes : Option AttributeMap) (bytes : Option (List ℕ)) → IsJoined bench now (file_of count attributes bytes) true → IsBehind bench now
behind-by bench now count None bytes joined = absurd joined
behind-by bench now count (Some attributes) None joined = absurd joined
behind-by bench now count (Some attributes) (Some bytes) joined =
    record { more = joined_file count attributes bytes ∷ []; handed = joined.0; is = joined.1; ended = λ place. joined-ended place count attributes bytes }

pub behind : (bench now : Bench) (strategy : MergeStrategy) (done : Bool) → IsJoined bench now (file_joined strategy (files_seen bench) (bytes_read bench.sources)) done → IsBehind bench now
behind bench now strategy true joined =
    let files = files_seen bench in
    behind-by bench now (length files) (joined_attributes strategy (origin_joined (length files)) files) (bytes_read bench.sources) joined
behind bench now strategy false joined = behind-gone bench now _ joined

pub nothing-behind : (bench : Bench) → IsBehind bench bench
nothing-behind bench = record { more = []; handed = bench.handed; is = no-more bench; ended = λ place. ended-gone place [] (All-nil IsGone) }

passed-behind : (bench now after : Bench) (took : TookSome bench) (relationship : ℕ) (behind : IsBehind bench now) → after ≡ with_all_passed now relationship → (refusal_of_finish after ≡ None) × KeepsTaken bench after
passed-behind bench now after took relationship behind passed =
    passed-finished bench after took relationship behind.handed behind.more behind.ended
    (passed ∙ ap (λ b. with_all_passed b relationship) behind.is ∙ all-passed bench took relationship behind.more behind.handed)

-- the outcome, by what the joined file is
outcome-up : (bench now after : Bench) (took : TookSome bench) (wanted : Option File) → IsJoined bench now wanted false → after ≡ with_all_passed now 2 → (files : List TakenFile) → AreTakenAs files took.taken
    → (wanted ≡ None) × (outcome_of after ≡ outcome_with (passed_from 0 2 files))
outcome-up bench now after took (Some file) joined passed files alike = absurd joined
outcome-up bench now after took None joined passed files alike =
    (refl, gives-up bench after took 2 joined.1 joined.0 joined.2 (passed ∙ ap (λ b. with_all_passed b 2) joined.3 ∙ all-passed bench took 2 joined.0 joined.1) files alike)

-- what the machine gives, by the joined file's attributes and bytes
abbrev given_by : ℕ → List TakenFile → Option AttributeMap → Option (List ℕ) → Option Outcome
given_by count files attributes bytes =
    option_and_then (λ attributes. option_map (λ bytes. outcome_with (passed_from 0 1 files ++ made_file (origin_joined count) attributes bytes true 0 ∷ [])) bytes) attributes

outcome-made : (bench now after : Bench) (took : TookSome bench) (count : ℕ) (attributes : Option AttributeMap) (bytes : Option (List ℕ)) → count ≡ length took.taken → IsJoined bench now (file_of count attributes bytes) true → after ≡ with_all_passed now 1
    → (files : List TakenFile) → AreTakenAs files took.taken → or_given_up 2 files (given_by count files attributes bytes) ≡ outcome_of after
outcome-made bench now after took count None bytes many joined passed files alike = absurd joined
outcome-made bench now after took count (Some attributes) None many joined passed files alike = absurd joined
outcome-made bench now after took count (Some attributes) (Some bytes) many joined passed files alike =
    sym (gives-joined bench after took 1 joined.0 count attributes bytes many
    (passed ∙ ap (λ b. with_all_passed b 1) joined.1 ∙ all-passed bench took 1 (joined_file count attributes bytes ∷ []) joined.0) files alike)

none-given : (count : ℕ) (files : List TakenFile) (attributes : Option AttributeMap) (bytes : Option (List ℕ)) → file_of count attributes bytes ≡ None → given_by count files attributes bytes ≡ None
none-given count files None bytes is = refl
none-given count files (Some attributes) None is = refl
none-given count files (Some attributes) (Some bytes) is = cc

-- ---- the processor

seen-is : (bench : Bench) (took : TookSome bench) → files_seen bench ≡ map file_seen (files_taken 0 took.taken)
seen-is bench took = ap (λ (b : Bench). map file_seen b.files) took.begun

may-is : (bench : Bench) (took : TookSome bench) (strategy : MergeStrategy) (files : List TakenFile) → AreTakenAs files took.taken → may_join strategy files ≡ may_join strategy (files_seen bench)
may-is bench took strategy files alike = join-alike strategy files took.taken alike ∙ ap (may_join strategy) (sym (seen-is bench took))

joined-given : (bench : Bench) (took : TookSome bench) (strategy : MergeStrategy) (files : List TakenFile) → AreTakenAs files took.taken
    → let others = files_seen bench in joined strategy files ≡ given_by (length others) files (joined_attributes strategy (origin_joined (length others)) others) (bytes_read bench.sources)
joined-given bench took strategy files alike =
    let others = files_seen bench in
    let same = sym (seen-is bench took) in
    let count : length files ≡ length others = count-alike 0 files took.taken alike ∙ ap length same in
    let attributes : joined_attributes strategy (origin_joined (length files)) files ≡ joined_attributes strategy (origin_joined (length others)) others =
    attributes-alike strategy files took.taken alike ∙ ap (λ fs. joined_attributes strategy (origin_joined (length fs)) fs) same in
    let content : joined_content files ≡ bytes_read bench.sources = content-alike files took.taken alike took.read ∙ ap (λ (b : Bench). bytes_read b.sources) (sym took.begun) in
    ap (λ a. given_by (length files) files a (joined_content files)) attributes
    ∙ ap (given_by (length files) files (joined_attributes strategy (origin_joined (length others)) others)) content
    ∙ ap (λ n. given_by n files (joined_attributes strategy (origin_joined (length others)) others) (bytes_read bench.sources)) count

ends-as : (strategy : MergeStrategy) (minimum maximum : ℕ) (bench now after : Bench) (given : Given) (took : TookSome bench) (relationship : ℕ) → IsBehind bench now → after ≡ with_all_passed now relationship
    → ((files : List TakenFile) → AreTakenAs files took.taken → merge strategy files ≡ outcome_of after) → EndsAs (MergeContent strategy minimum maximum) bench given after
ends-as strategy minimum maximum bench now after given took relationship behind passed outcome =
    let finished = passed-behind bench now after took relationship behind passed in
    record {
      finished = finished.0;
      kept = finished.1;
      outcome = λ files began. ap Some (outcome files (took-alike bench took files began));
    }

-- where they may not be joined
pub apart-acts : (strategy : MergeStrategy) (minimum maximum : ℕ) (bench after : Bench) (given : Given) → TookSome bench → may_join strategy (files_seen bench) ≡ false → after ≡ with_all_passed bench 2
    → EndsAs (MergeContent strategy minimum maximum) bench given after
apart-acts strategy minimum maximum bench after given took mayn't passed =
    ends-as strategy minimum maximum bench bench after given took 2 (nothing-behind bench) passed (λ files alike.
    ap (λ b. or_given_up 2 files (cond b (joined strategy files) None)) (may-is bench took strategy files alike ∙ mayn't)
    ∙ sym (outcome-up bench bench after took None ([], bench.handed, All-nil IsGone, no-more bench) passed files alike).1)

-- where a limit keeps it from that
pub limit-acts : (strategy : MergeStrategy) (minimum maximum : ℕ) (bench now after : Bench) (given : Given) → TookSome bench → may_join strategy (files_seen bench) ≡ true
    → IsJoined bench now (file_joined strategy (files_seen bench) (bytes_read bench.sources)) false → after ≡ with_all_passed now 2 → EndsAs (MergeContent strategy minimum maximum) bench given after
limit-acts strategy minimum maximum bench now after given took may isnt passed =
    ends-as strategy minimum maximum bench now after given took 2 (behind bench now strategy false isnt) passed (λ files alike.
    let others = files_seen bench in
    let up = outcome-up bench now after took _ isnt passed files alike in
    ap (λ b. or_given_up 2 files (cond b (joined strategy files) None)) (may-is bench took strategy files alike ∙ may)
    ∙ ap (or_given_up 2 files)
    (joined-given bench took strategy files alike ∙ none-given (length others) files (joined_attributes strategy (origin_joined (length others)) others) (bytes_read bench.sources) up.0)
    ∙ sym up.1)

-- where they are joined
pub merge-acts : (strategy : MergeStrategy) (minimum maximum : ℕ) (bench now after : Bench) (given : Given) → TookSome bench → may_join strategy (files_seen bench) ≡ true
    → IsJoined bench now (file_joined strategy (files_seen bench) (bytes_read bench.sources)) true → after ≡ with_all_passed now 1 → EndsAs (MergeContent strategy minimum maximum) bench given after
merge-acts strategy minimum maximum bench now after given took may joined_so passed =
    ends-as strategy minimum maximum bench now after given took 1 (behind bench now strategy true joined_so) passed (λ files alike.
    let others = files_seen bench in
    let many : length others ≡ length took.taken = many-seen bench took ∙ many-taken bench took in
    ap (λ b. or_given_up 2 files (cond b (joined strategy files) None)) (may-is bench took strategy files alike ∙ may)
    ∙ ap (or_given_up 2 files) (joined-given bench took strategy files alike)
    ∙ outcome-made bench now after took (length others) (joined_attributes strategy (origin_joined (length others)) others) (bytes_read bench.sources) many joined_so passed files alike)
