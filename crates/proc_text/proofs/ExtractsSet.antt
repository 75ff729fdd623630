-- Attributes that are set one after another in a session with one taken file, and what an ExtractText ends as.
use Rattle.std.proofs.Common.{◌≡◌, ℕ, ◌+◌, ◌<◌, ◌≤◌, ◌==◌, Bool, true, false, cond, List, [], ◌∷◌, length, map, drop, get_or, suc, add-one, drop-cons, Option, None, Some, Ok, Err, Result, refl, sym, ◌∙◌, ap, arith}
use Rattle.std.specs.Prelude.{codes, is_some, nat_lt, not, option_and_then, option_map}
use Rattle.std.specs.FinMap.{insert}
use Rattle.std.specs.List.{list_all}
use Rattle.std.specs.Str.{is_utf8}
use Rattle.std.proofs.lemmas.Bool.{le-leb, leb-true, lt-leb, ltb-false, ltb-true}
use Rattle.std.proofs.lemmas.Slice.Eq.{bytes_eq-Decides}
use Rattle.flowfile_record.specs.Attributes.{AttributeMap, after_put, encoded_size, has_key_length, is_uuid, put_answer}
use Rattle.flowfile_record.specs.declared.attributes.TheConstants.{ATTRIBUTES_MAX}
use Rattle.flowfile_record.specs.declared.attributes.AttrError.{AttrError}
use Rattle.flowfile_record.specs.declared.attributes.Put.{Put}
use Rattle.flowfile_record.specs.declared.worked.Origin.TheVariants.{Taken as FromQueue}
use Rattle.flowfile_record.specs.declared.worked.Outcome.{Outcome}
use Rattle.machine_model.specs.Acting.{act}
use Rattle.machine_model.specs.ExtractText.{extracted, found_pairs}
use Rattle.machine_model.specs.Making.{TakenFile, alone as alone_outcome, may_have, or_given_up, passed_on, with_set}
use Rattle.machine_model.specs.declared.given.Given.{Given}
use Rattle.machine_model.specs.declared.kind.Kind.TheVariants.{ExtractText}
use Rattle.machine_model.specs.declared.kind.OwnPattern.{OwnPattern}
use Rattle.process_session.specs.Bench.{Bench, bench_attributes, bench_of, bench_bytes, taken_file, taken_source}
use Rattle.process_session.specs.Changes.{with_put}
use Rattle.process_session.specs.Finish.{outcome_of}
use Rattle.process_session.specs.Refusals.{refusal_of_put}
use Rattle.process_session.specs.declared.file.Taken.{Taken}
use Rattle.processor_api.specs.Acts.{Begins, EndsAs, KeepsTaken}
use Rattle.processor_api.specs.Sessions.{BeganWithOne, EndsWith}
use Rattle.processor_api.proofs.Alone.{penalize-free, put-alone, put-free}
use Rattle.processor_api.proofs.Began.{one-acts, taken-attributes, taken-content}
use Rattle.proc_text.specs.Extracting.{matched_with, with_named}
use Rattle.proc_text.proofs.Extracts.{any-found}

abbrev pub Pair : Type 0
Pair = List ℕ × List ℕ

-- ---- one attribute

-- the attributes with one more set, where its name may be that of an attribute
abbrev pub with_one : AttributeMap → Pair → Option AttributeMap
with_one attributes pair = cond (has_key_length pair.0) (with_set (FromQueue 0) attributes pair) None

uuid-fits : (key : List ℕ) → is_uuid key ≡ true → has_key_length key ≡ true
uuid-fits key is =
    let same : key ≡ codes "uuid" = (bytes_eq-Decides key (codes "uuid")).0 is in
    ap has_key_length same

-- what a put of attributes says of that
abbrev pub put-sets : Result Put AttrError → AttributeMap → List ℕ → List ℕ → Option AttributeMap
put-sets (Ok put) attributes key value = Some (after_put (Ok put) attributes key value)
put-sets (Err error) attributes key value = None

pub answer-sets : (attributes : AttributeMap) (key value : List ℕ) → with_one attributes (key, value) ≡ put-sets (put_answer attributes key value) attributes key value
answer-sets attributes key value = of_tests (is_uuid key) (has_key_length key) (nat_lt ATTRIBUTES_MAX size) refl refl refl
  where
    size : ℕ
    size = encoded_size (insert attributes key value)

    of_tests : (uuid good large : Bool) → is_uuid key ≡ uuid → has_key_length key ≡ good → nat_lt ATTRIBUTES_MAX size ≡ large → with_one attributes (key, value) ≡ put-sets (put_answer attributes key value) attributes key value
    of_tests true good large is good-is large-is = rw (is, uuid-fits key is) refl
    of_tests false false large isnt bad large-is = rw (isnt, bad) refl
    of_tests false true true isnt good large-is =
        let above : ATTRIBUTES_MAX < size + 0 = omega (arith, ltb-true ATTRIBUTES_MAX size large-is) in
        rw (isnt, good, large-is, lt-leb (size + 0) ATTRIBUTES_MAX above) refl
    of_tests false true false isnt good large-is =
        let within : size + 0 ≤ ATTRIBUTES_MAX = omega (arith, ltb-false ATTRIBUTES_MAX size large-is) in
        rw (isnt, good, large-is, le-leb (size + 0) ATTRIBUTES_MAX within) refl

-- ---- one after another

abbrev nothing : AttributeMap → Option AttributeMap
nothing set = None

pub named-more : (attributes : AttributeMap) (pair : Pair) (rest : List Pair) → with_named attributes (pair ∷ rest) ≡ option_and_then (λ set. with_named set rest) (with_one attributes pair)
named-more attributes pair rest = of_tests (has_key_length pair.0) (list_all (λ (pair : Pair). has_key_length pair.0) rest) refl refl
  where
    none : (o : Option AttributeMap) → None ≡ option_and_then nothing o
    none None = refl
    none (Some set) = refl

    of_tests : (good rest_good : Bool) → has_key_length pair.0 ≡ good → list_all (λ (pair : Pair). has_key_length pair.0) rest ≡ rest_good
        → with_named attributes (pair ∷ rest) ≡ option_and_then (λ set. with_named set rest) (with_one attributes pair)
    of_tests false rest_good bad rest-is = rw bad refl
    of_tests true true good rest-is = rw (good, rest-is) refl
    of_tests true false good rest-is = rw (good, rest-is) (none (with_set (FromQueue 0) attributes pair))

pub sets-more : (before now set : AttributeMap) (pairs left rest : List Pair) (pair : Pair) → with_named before pairs ≡ with_named now left → left ≡ pair ∷ rest → with_one now pair ≡ Some set → with_named before pairs ≡ with_named set rest
sets-more before now set pairs left rest pair so_far is set-is =
    so_far ∙ ap (with_named now) is ∙ named-more now pair rest ∙ ap (option_and_then (λ set. with_named set rest)) set-is

pub sets-none : (before now : AttributeMap) (pairs left rest : List Pair) (pair : Pair) → with_named before pairs ≡ with_named now left → left ≡ pair ∷ rest → with_one now pair ≡ None → with_named before pairs ≡ None
sets-none before now pairs left rest pair so_far is none =
    so_far ∙ ap (with_named now) is ∙ named-more now pair rest ∙ ap (option_and_then (λ set. with_named set rest)) none

-- the first of what can all be set can be set
pub sets-first : (before now : AttributeMap) (pairs left rest : List Pair) (pair : Pair) → with_named before pairs ≡ with_named now left → left ≡ pair ∷ rest → is_some (with_named before pairs) ≡ true → (set : AttributeMap) × (with_one now pair ≡ Some set)
sets-first before now pairs left rest pair so_far is may = of_option (with_one now pair) refl
  where
    of_option : (o : Option AttributeMap) → with_one now pair ≡ o → (set : AttributeMap) × (with_one now pair ≡ Some set)
    of_option None none = absurd (let no : is_some (with_named before pairs) ≡ false = ap is_some (sets-none before now pairs left rest pair so_far is none) in cc)
    of_option (Some set) set-is = (set, set-is)

next-left : {A : Type 0} (xs : List A) (i : ℕ) (x : A) → i < length xs → x ≡ get_or xs i x → drop i xs ≡ x ∷ drop (i + 1) xs
next-left xs i x within is = rw add-one (drop-cons xs i x within ∙ ap (λ y. y ∷ drop (suc i) xs) (sym is))

pub next-pair : {A : Type 0} (f : A → Pair) (xs : List A) (i : ℕ) (x : A) → i < length xs → x ≡ get_or xs i x → map f (drop i xs) ≡ f x ∷ map f (drop (i + 1) xs)
next-pair f xs i x within is = ap (map f) (next-left xs i x within is)

-- ---- setting them in a session

abbrev with_taken : Taken → AttributeMap → Taken
with_taken taken attributes = record taken { attributes = attributes }

-- what a put that sets these attributes comes to
pub record PutOne (now : Bench) (one : BeganWithOne now) (pair : Pair) (set : AttributeMap) : Type 0 where
  pub free : refusal_of_put now 0 pair.0 pair.1 ≡ None
  pub after : with_put now 0 pair.0 pair.1 ≡ bench_of now.relationships (with_taken one.taken set ∷ [])

module _ (n : ℕ) (taken : Taken) (pair : Pair) where
  abbrev begun : Bench
  begun = bench_of n (taken ∷ [])

  abbrev Comes : AttributeMap → Type 0
  Comes set = (refusal_of_put begun 0 pair.0 pair.1 ≡ None) × (with_put begun 0 pair.0 pair.1 ≡ bench_of n (with_taken taken set ∷ []))

  put-comes : (set : AttributeMap) → with_one taken.attributes pair ≡ Some set → Comes set
  put-comes set is = of_tests (has_key_length pair.0) (is_uuid pair.0) (may_have (FromQueue 0) (insert taken.attributes pair.0 pair.1)) refl refl refl is
    where
      of_tests : (good uuid may : Bool) → has_key_length pair.0 ≡ good → is_uuid pair.0 ≡ uuid → may_have (FromQueue 0) (insert taken.attributes pair.0 pair.1) ≡ may
          → cond good (cond uuid (Some taken.attributes) (cond may (Some (insert taken.attributes pair.0 pair.1)) None)) None ≡ Some set → Comes set
      of_tests false uuid may good-is uuid-is may-is never = cc
      of_tests true true may good-is uuid-is may-is same =
          let set-is : taken.attributes ≡ set = cc in (
            rw uuid-is (penalize-free n (taken_source taken ∷ []) (taken_file 0 taken) None 0 refl),
            rw uuid-is (ap (λ a. bench_of n (with_taken taken a ∷ [])) set-is),
          )
      of_tests true false false good-is uuid-is may-is never = cc
      of_tests true false true good-is uuid-is may-is same =
          let set-is : insert taken.attributes pair.0 pair.1 ≡ set = cc in
          let small = leb-true _ _ may-is in (
            put-free n (taken_source taken ∷ []) (taken_file 0 taken) None 0 pair.0 pair.1 refl uuid-is good-is small (omega arith),
            put-alone n (taken_source taken ∷ []) (taken_file 0 taken) None 0 pair.0 pair.1 uuid-is ∙ ap (λ a. bench_of n (with_taken taken a ∷ [])) set-is,
          )

pub put-one : (now : Bench) (one : BeganWithOne now) (pair : Pair) (set : AttributeMap) → with_one (bench_attributes now 0) pair ≡ Some set → PutOne now one pair set
put-one now one pair set is =
    let same : with_one one.taken.attributes pair ≡ Some set = sym (ap (λ b. with_one (bench_attributes b 0) pair) one.begun) ∙ is in
    let comes = put-comes now.relationships one.taken pair set same in
    record {
      free = ap (λ b. refusal_of_put b 0 pair.0 pair.1) one.begun ∙ comes.0;
      after = ap (λ b. with_put b 0 pair.0 pair.1) one.begun ∙ comes.1;
    }

-- what holds of the session once it is made
pub record AfterPut (before now new : Bench) (set : AttributeMap) : Type 0 where
  pub began : BeganWithOne new
  pub kept : KeepsTaken before new
  pub attributes : bench_attributes new 0 ≡ set

pub put-made : (before now new : Bench) (one : BeganWithOne now) (pair : Pair) (set : AttributeMap) → KeepsTaken before now → PutOne now one pair set → new ≡ with_put now 0 pair.0 pair.1 → AfterPut before now new set
put-made before now new one pair set kept put new-is =
    let is : new ≡ bench_of now.relationships (with_taken one.taken set ∷ []) = new-is ∙ put.after in
    let many : new.relationships ≡ now.relationships = ap (λ (b : Bench). b.relationships) is in
    record {
      began = record { taken = with_taken one.taken set; begun = is ∙ ap (λ n. bench_of n (with_taken one.taken set ∷ [])) (sym many) };
      kept = record {
        relationships = many ∙ kept.relationships;
        sources = ap (λ (b : Bench). b.sources) is ∙ sym (ap (λ (b : Bench). b.sources) one.begun) ∙ kept.sources;
      };
      attributes = ap (λ b. bench_attributes b 0) is;
    }

-- ---- how it ends

pub set-ends : (before now after : Bench) (pairs : List Pair) → KeepsTaken before now → with_named (bench_attributes before 0) pairs ≡ Some (bench_attributes now 0) → EndsWith now after (alone_outcome (passed_on 0 (bench_attributes now 0) false 0))
    → EndsWith before after (matched_with (bench_attributes before 0) (with_named (bench_attributes before 0) pairs))
set-ends before now after pairs kept set ends = record {
  finished = ends.finished;
  kept = record { relationships = ends.kept.relationships ∙ kept.relationships; sources = ends.kept.sources ∙ kept.sources };
  outcome = ends.outcome ∙ ap (matched_with (bench_attributes before 0)) (sym set);
}

pub none-ends : (before after : Bench) (wanted : Option AttributeMap) → is_some wanted ≡ false → EndsWith before after (alone_outcome (passed_on 0 (bench_attributes before 0) false 1)) → EndsWith before after (matched_with (bench_attributes before 0) wanted)
none-ends before after None none ends = ends
none-ends before after (Some set) none ends = cc

-- ---- the processor

-- what a content gives
abbrev pub pairs_in : (content : List ℕ) → List OwnPattern → List Pair
pairs_in content own = cond (is_utf8 content) (found_pairs content own) []

-- the attributes that it is given, where it gives any
abbrev pub wanted_in : List Pair → AttributeMap → Option AttributeMap
wanted_in pairs attributes = cond (length pairs == 0) None (with_named attributes pairs)

abbrev matched : AttributeMap → Outcome
matched attributes = alone_outcome (passed_on 0 attributes false 0)

given-up : (file : TakenFile) (set : Option AttributeMap) → or_given_up 1 (file ∷ []) (option_map matched set) ≡ matched_with file.attributes set
given-up file None = refl
given-up file (Some attributes) = refl

extracted-is : (own : List OwnPattern) (file : TakenFile) → extracted own file ≡ option_map matched (wanted_in (pairs_in file.bytes own) file.attributes)
extracted-is own file = of_tests (is_utf8 file.bytes) (length (found_pairs file.bytes own) == 0) refl refl
  where
    found : List Pair
    found = found_pairs file.bytes own

    set : Option Outcome
    set = option_map matched (with_named file.attributes found)

    chosen : (any : Bool) → cond (not any) set None ≡ option_map matched (cond any None (with_named file.attributes found))
    chosen true = refl
    chosen false = refl

    of_tests : (text none : Bool) → is_utf8 file.bytes ≡ text → (length found == 0) ≡ none → extracted own file ≡ option_map matched (wanted_in (pairs_in file.bytes own) file.attributes)
    of_tests false none isnt none-is = rw isnt refl
    of_tests true none is none-is = rw (is, any-found file.bytes own) (chosen (length found == 0))

-- a content that gives nothing, and one that gives something
pub empty-ends : (before after : Bench) (pairs : List Pair) → (length pairs == 0) ≡ true → EndsWith before after (alone_outcome (passed_on 0 (bench_attributes before 0) false 1))
    → EndsWith before after (matched_with (bench_attributes before 0) (wanted_in pairs (bench_attributes before 0)))
empty-ends before after pairs none ends = rw none ends

pub some-ends : (before after : Bench) (pairs : List Pair) → (length pairs == 0) ≡ false → EndsWith before after (matched_with (bench_attributes before 0) (with_named (bench_attributes before 0) pairs))
    → EndsWith before after (matched_with (bench_attributes before 0) (wanted_in pairs (bench_attributes before 0)))
some-ends before after pairs some ends = rw some ends

pub extract-acts : (own : List OwnPattern) (before : Bench) (given : Given) (after : Bench) (content : List ℕ) (pairs : List Pair) → Begins (ExtractText own) before given → bench_bytes before 0 ≡ Some content → pairs ≡ pairs_in content own
    → EndsWith before after (matched_with (bench_attributes before 0) (wanted_in pairs (bench_attributes before 0))) → EndsAs (ExtractText own) before given after
extract-acts own before given after content pairs begins shown are ends =
    one-acts (ExtractText own) before given after refl begins ends.finished ends.kept
    (λ taken file began alike. of_file file (taken-attributes before taken file began alike) (taken-content before taken file content began alike shown))
  where
    of_file : (file : TakenFile) → file.attributes ≡ bench_attributes before 0 → file.bytes ≡ content → act (ExtractText own) (file ∷ []) given ≡ Some (outcome_of after)
    of_file file attributes same =
        ap Some (ap (or_given_up 1 (file ∷ [])) (extracted-is own file)
        ∙ given-up file (wanted_in (pairs_in file.bytes own) file.attributes)
        ∙ ap (λ p. matched_with file.attributes (wanted_in p file.attributes)) (ap (λ b. pairs_in b own) same ∙ sym are)
        ∙ ap (λ a. matched_with a (wanted_in pairs a)) attributes ∙ sym ends.outcome)
