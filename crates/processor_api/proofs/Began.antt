-- What a processor knows of the session that it is handed, by how many files its rule takes, and how it shows what it owes.
use Rattle.std.proofs.Common.{◌≡◌, ℕ, ◌≤◌, true, List, [], ◌∷◌, length, map, Option, Some, None, refl, sym, ◌∙◌, ap, subst, arith}
use Rattle.std.specs.Prelude.{IfSome, is_some, option_map, slice_get}
use Rattle.std.proofs.lemmas.Bool.{false≢true, le-leb}
use Rattle.std.proofs.lemmas.List.{length-map}
use Rattle.std.proofs.lemmas.List.Elements.{All-head}
use Rattle.std.proofs.lemmas.List.Sums.{sum_by-cons}
use Rattle.flowfile_record.specs.declared.TheConstants.{CONTENT_MAX}
use Rattle.flowfile_record.specs.declared.worked.Outcome.{Outcome}
use Rattle.machine_model.specs.Acting.{act}
use Rattle.machine_model.specs.Making.{TakenFile}
use Rattle.machine_model.specs.Kinds.{take_rule_of, relationships_of}
use Rattle.machine_model.specs.Laws.{MayTake}
use Rattle.machine_model.specs.declared.given.Given.{Given}
use Rattle.machine_model.specs.declared.kind.Kind.{Kind}
use Rattle.machine_model.specs.declared.kind.TakeRule.{TakeRule}
use Rattle.machine_model.specs.declared.kind.TakeRule.TheVariants.{Source as MakesFiles, One}
use Rattle.process_session.specs.Bench.{Bench, bench_attributes, bench_of, bench_bytes, taken_source}
use Rattle.process_session.specs.Finish.{outcome_of}
use Rattle.process_session.specs.Reasons.{first_refusal, no_bytes, unknown_file}
use Rattle.process_session.specs.Refusals.{refusal_of_content, refusal_of_finish}
use Rattle.process_session.specs.declared.file.Taken.{Taken}
use Rattle.processor_api.specs.Acts.{AreRead, Begins, EndsAs, KeepsTaken, MayBeHandedTo, AreTakenAs, IsOutcomeOf, IsTakenAs, fit_a_content}
use Rattle.processor_api.specs.Sessions.{TookOne}

-- ---- how many files it took

none_of : (taken : List Taken) → length taken ≡ 0 → taken ≡ []
none_of [] none = refl
none_of (one ∷ taken) none = absurd (omega arith)

abbrev IsLone : List Taken → Type 0
IsLone taken = (one : Taken) × (taken ≡ one ∷ [])

one_of : (taken : List Taken) → length taken ≡ 1 → IsLone taken
one_of [] one = absurd (omega arith)
one_of (file ∷ []) one = (file, refl)
one_of (file ∷ other ∷ taken) one = absurd (omega arith)

taken_count : (n : ℕ) (taken : List Taken) (bench : Bench) → bench ≡ bench_of n taken → length bench.sources ≡ length taken
taken_count n taken bench is = ap (λ (b : Bench). length b.sources) is ∙ length-map taken taken_source

-- alike many alike this
may_take_none : (rule : TakeRule) (count : ℕ) → rule ≡ MakesFiles → MayTake rule count → count ≡ 0
may_take_none rule count is may = subst (λ r. MayTake r count) is may

may_take_one : (rule : TakeRule) (count : ℕ) → rule ≡ One → MayTake rule count → count ≡ 1
may_take_one rule count is may = subst (λ r. MayTake r count) is may

-- ---- a source

pub source-begins : (kind : Kind) (bench : Bench) (given : Given) → take_rule_of kind ≡ MakesFiles → Begins kind bench given → bench ≡ bench_of (length (relationships_of kind)) []
source-begins kind bench given rule begins =
    begins.begun ∙ ap (bench_of (length (relationships_of kind))) (none_of begins.taken (may_take_none _ _ rule begins.handed.count))

no_files : (files : List TakenFile) (taken : List Taken) → taken ≡ [] → AreTakenAs files taken → files ≡ []
no_files [] taken none alike = refl
no_files (file ∷ files) taken none alike = absurd (subst (AreTakenAs (file ∷ files)) none alike)

pub source-acts : (kind : Kind) (before : Bench) (given : Given) (after : Bench) → take_rule_of kind ≡ MakesFiles → Begins kind before given → refusal_of_finish after ≡ None → KeepsTaken before after → act kind [] given ≡ Some (outcome_of after)
    → EndsAs kind before given after
source-acts kind before given after rule begins finished kept outcome = record {
  finished = finished;
  kept = kept;
  outcome = λ files began. begins_with files began.0 began.1 began.2;
}
  where
    begins_with : (files : List TakenFile) (taken : List Taken) → before ≡ bench_of before.relationships taken → AreTakenAs files taken → act kind files given ≡ Some (outcome_of after)
    begins_with files taken is alike =
        let none : length taken ≡ 0 = sym (taken_count _ taken before is) ∙ taken_count _ begins.taken before begins.begun ∙ may_take_none _ _ rule begins.handed.count in
        ap (λ (fs : List TakenFile). act kind fs given) (no_files files taken (none_of taken none) alike) ∙ outcome

-- ---- one file

abbrev pub BeginsWithOne : Kind → Bench → Type 0
BeginsWithOne kind bench = (taken : Taken) × (bench ≡ bench_of (length (relationships_of kind)) (taken ∷ []))

pub one-begins : (kind : Kind) (bench : Bench) (given : Given) → take_rule_of kind ≡ One → Begins kind bench given → BeginsWithOne kind bench
one-begins kind bench given rule begins =
    let one = one_of begins.taken (may_take_one _ _ rule begins.handed.count) in
    (one.0, begins.begun ∙ ap (bench_of (length (relationships_of kind))) one.1)

-- of a kind with two relationships
pub kind-took : (kind : Kind) (before : Bench) (given : Given) → take_rule_of kind ≡ One → length (relationships_of kind) ≡ 2 → Begins kind before given → TookOne before
kind-took kind before given rule two begins =
    let one = one-begins kind before given rule begins in
    record { taken = one.0; begun = one.1 ∙ ap (λ n. bench_of n (one.0 ∷ [])) two }

-- its content was read, since one file's is never too long
lone_fits : (taken : Taken) → taken.size ≤ CONTENT_MAX → fit_a_content (taken ∷ []) ≡ true
lone_fits taken small = le-leb _ CONTENT_MAX (omega (arith, small, sum_by-cons (λ (file : Taken). file.size) taken []))

lone_read : (taken : Taken) → AreRead (taken ∷ []) → is_some taken.bytes ≡ true
lone_read taken read =
    All-head (λ (file : Taken). is_some file.bytes ≡ fit_a_content (taken ∷ [])) taken [] read.filled
    ∙ lone_fits taken (All-head (λ (file : Taken). file.size ≤ CONTENT_MAX) taken [] read.small)

content_there : (relationships : ℕ) (taken : Taken) → is_some taken.bytes ≡ true → refusal_of_content (bench_of relationships (taken ∷ [])) 0 ≡ None
unfolding unknown_file no_bytes first_refusal
content_there relationships taken some = of_bytes taken.bytes refl some
  where
    of_bytes : (bytes : Option (List ℕ)) → taken.bytes ≡ bytes → is_some bytes ≡ true → refusal_of_content (bench_of relationships (taken ∷ [])) 0 ≡ None
    of_bytes None is some = absurd (false≢true some)
    of_bytes (Some bytes) is some = rw is refl

pub content-free : (kind : Kind) (bench : Bench) (given : Given) → take_rule_of kind ≡ One → Begins kind bench given → refusal_of_content bench 0 ≡ None
content-free kind bench given rule begins =
    let one = one_of begins.taken (may_take_one _ _ rule begins.handed.count) in
    ap (λ b. refusal_of_content b 0) (begins.begun ∙ ap (bench_of (length (relationships_of kind))) one.1)
    ∙ content_there (length (relationships_of kind)) one.0 (lone_read one.0 (subst AreRead one.1 begins.handed.read))

-- what a file of the machine is, by what the session shows of it
pub taken-attributes : (before : Bench) (taken : Taken) (file : TakenFile) → before ≡ bench_of before.relationships (taken ∷ []) → IsTakenAs file taken → file.attributes ≡ bench_attributes before 0
taken-attributes before taken file is alike = alike.attributes ∙ sym (ap (λ b. bench_attributes b 0) is)

pub taken-uuid : (before : Bench) (taken : Taken) (file : TakenFile) (uuid : List ℕ) → before ≡ bench_of before.relationships (taken ∷ []) → IsTakenAs file taken
    → option_map (λ source. source.uuid) (slice_get before.sources 0) ≡ Some uuid → file.uuid ≡ uuid
taken-uuid before taken file uuid is alike shown =
    let same : Some taken.uuid ≡ Some uuid = sym (ap (λ (b : Bench). option_map (λ source. source.uuid) (slice_get b.sources 0)) is) ∙ shown in
    let uuid-is : taken.uuid ≡ uuid = cc in
    alike.uuid ∙ uuid-is

pub taken-content : (before : Bench) (taken : Taken) (file : TakenFile) (content : List ℕ) → before ≡ bench_of before.relationships (taken ∷ []) → IsTakenAs file taken → bench_bytes before 0 ≡ Some content → file.bytes ≡ content
taken-content before taken file content is alike shown =
    let same : taken.bytes ≡ Some content = sym (ap (λ b. bench_bytes b 0) is) ∙ shown in
    let P : Option (List ℕ) → Type 0 = λ o. IfSome o (λ bytes. bytes ≡ file.bytes) in
    sym (subst P same alike.bytes)

-- What the machine gives of one file, whose attributes are those that the session took. More of it may be asked.
pub one-acts : (kind : Kind) (before : Bench) (given : Given) (after : Bench) → take_rule_of kind ≡ One → Begins kind before given → refusal_of_finish after ≡ None → KeepsTaken before after
    → ((taken : Taken) (file : TakenFile) → before ≡ bench_of before.relationships (taken ∷ []) → IsTakenAs file taken → act kind (file ∷ []) given ≡ Some (outcome_of after))
    → EndsAs kind before given after
one-acts kind before given after rule begins finished kept outcome = record {
  finished = finished;
  kept = kept;
  outcome = λ files began. begins_with files began.0 began.1 began.2;
}
  where
    of_one : (files : List TakenFile) (one : Taken) → before ≡ bench_of before.relationships (one ∷ []) → AreTakenAs files (one ∷ []) → act kind files given ≡ Some (outcome_of after)
    of_one [] one is alike = absurd alike
    of_one (file ∷ []) one is alike = outcome one file is alike.0
    of_one (file ∷ other ∷ files) one is alike = absurd alike.1

    begins_with : (files : List TakenFile) (taken : List Taken) → before ≡ bench_of before.relationships taken → AreTakenAs files taken → act kind files given ≡ Some (outcome_of after)
    begins_with files taken is alike =
        let count : length taken ≡ 1 = sym (taken_count _ taken before is) ∙ taken_count _ begins.taken before begins.begun ∙ may_take_one _ _ rule begins.handed.count in
        let one = one_of taken count in
        of_one files one.0 (is ∙ ap (bench_of before.relationships) one.1) (subst (AreTakenAs files) one.1 alike)

-- ---- one session, from its beginning to its end

pub work-begins : (kind : Kind) (relationships : ℕ) (taken : List Taken) (given : Given) (bench : Bench) → relationships ≡ length (relationships_of kind) → bench ≡ bench_of relationships taken → MayBeHandedTo kind taken given
    → Begins kind bench given
work-begins kind relationships taken given bench many is handed =
    record { taken = taken; begun = is ∙ ap (λ n. bench_of n taken) many; handed = handed }

pub work-outcome : (kind : Kind) (relationships : ℕ) (taken : List Taken) (given : Given) (before after : Bench) (outcome : Outcome) → before ≡ bench_of relationships taken → EndsAs kind before given after → outcome ≡ outcome_of after
    → IsOutcomeOf kind taken given outcome
work-outcome kind relationships taken given before after outcome is ends outcome-is files alike =
    let n : relationships ≡ before.relationships = sym (ap (λ (b : Bench). b.relationships) is) in
    ends.outcome files (taken, is ∙ ap (λ n. bench_of n taken) n, alike) ∙ ap Some (sym outcome-is)

pub work-sources : (relationships : ℕ) (taken : List Taken) (before after : Bench) → before ≡ bench_of relationships taken → KeepsTaken before after → after.sources ≡ map taken_source taken
work-sources relationships taken before after is kept = kept.sources ∙ ap (λ (b : Bench). b.sources) is

pub work-relationships : (relationships : ℕ) (taken : List Taken) (before after : Bench) → before ≡ bench_of relationships taken → KeepsTaken before after → after.relationships ≡ relationships
work-relationships relationships taken before after is kept = kept.relationships ∙ ap (λ (b : Bench). b.relationships) is
