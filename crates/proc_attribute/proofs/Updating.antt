-- What own properties are worth, and what setting them comes to, a property at a time.
use Rattle.std.proofs.Common.{◌≡◌, ℕ, ◌+◌, ◌<◌, ◌≤◌, Bool, true, false, List, [], ◌∷◌, ◌++◌, length, drop, get_or, map, suc, add-one, drop-cons, Option, None, Some, Ok, Err, Result, refl, sym, ◌∙◌, ap, arith, append_assoc}
use Rattle.std.specs.Prelude.{◌&&◌, IfSome, is_some, slice_get, option_and_then, option_map, nat_lt}
use Rattle.std.specs.FinMap.{insert}
use Rattle.std.specs.List.{list_all}
use Rattle.std.proofs.lemmas.Bool.{le-leb, lt-leb, ltb-false, ltb-true}
use Rattle.flowfile_record.specs.Attributes.{AttributeMap, after_put, encoded_size, has_key_length, is_uuid, put_answer}
use Rattle.flowfile_record.specs.declared.attributes.TheConstants.{ATTRIBUTES_MAX}
use Rattle.flowfile_record.specs.declared.attributes.AttrError.{AttrError}
use Rattle.flowfile_record.specs.declared.attributes.Put.{Put}
use Rattle.flowfile_record.specs.declared.worked.Origin.TheVariants.{Taken as FromQueue}
use Rattle.expr_lang.specs.Meaning.{Attributes, tree_value}
use Rattle.expr_lang.specs.View.{tree_of}
use Rattle.machine_model.specs.declared.kind.OwnExpression.{OwnExpression}
use Rattle.flowfile_record.specs.declared.worked.Outcome.{Outcome}
use Rattle.machine_model.specs.Acting.{act}
use Rattle.machine_model.specs.Making.{TakenFile, found_in, with_all_set, with_set}
use Rattle.machine_model.specs.Sound.{IsSoundKind, within}
use Rattle.machine_model.specs.declared.given.Given.{Given}
use Rattle.machine_model.specs.declared.kind.Kind.TheVariants.{UpdateAttribute}
use Rattle.machine_model.specs.declared.limits.TheConstants.{OWN_NAME_MAX}
use Rattle.machine_model.specs.UpdateAttribute.{own_texts, text_in}
use Rattle.process_session.specs.Bench.{Bench, bench_attributes}
use Rattle.process_session.specs.Changes.{change_at, with_attributes, with_put}
use Rattle.process_session.specs.Refusals.{refusal_of_put}
use Rattle.process_session.specs.Finish.{outcome_of}
use Rattle.processor_api.specs.Acts.{Begins, EndsAs}
use Rattle.processor_api.proofs.Began.{one-acts, taken-attributes, taken-uuid}
use Rattle.processor_api.specs.Sessions.{TookOne, HasOneOpen, EndsWith}
use Rattle.proc_attribute.specs.Passing.{all_to, passed_with}
use Rattle.proc_attribute.specs.Setting.{have_keys}
use Rattle.proc_attribute.proofs.Passed.{PutComesTo, ends-behind, given-up, one_with, put-at-one, with-keeps, with-open}

abbrev pub Pair : Type 0
Pair = List ℕ × List ℕ

-- ---- a list, an item at a time

pub next-left : {A : Type 0} (xs : List A) (i : ℕ) (x : A) → i < length xs → x ≡ get_or xs i x → drop i xs ≡ x ∷ drop (i + 1) xs
next-left xs i x within is = rw add-one (drop-cons xs i x within ∙ ap (λ y. y ∷ drop (suc i) xs) (sym is))

pub next-pair : {A : Type 0} (f : A → Pair) (xs : List A) (i : ℕ) (x : A) → i < length xs → x ≡ get_or xs i x → map f (drop i xs) ≡ f x ∷ map f (drop (i + 1) xs)
next-pair f xs i x within is = ap (map f) (next-left xs i x within is)

-- ---- what own properties are worth

abbrev pub text_of : Attributes → OwnExpression → Option (List ℕ)
text_of find property = text_in (tree_value find (tree_of property.expression))

-- these and what the rest is worth
abbrev pub and_texts : List Pair → Option (List Pair) → Option (List Pair)
and_texts done rest = option_map (λ texts. done ++ texts) rest

one_more : (done : List Pair) (pair : Pair) (rest : Option (List Pair)) → and_texts done (option_map (λ texts. pair ∷ texts) rest) ≡ and_texts (done ++ pair ∷ []) rest
one_more done pair None = refl
one_more done pair (Some texts) = ap Some (sym (append_assoc done (pair ∷ []) texts))

pub texts-begin : (o : Option (List Pair)) → o ≡ and_texts [] o
texts-begin None = refl
texts-begin (Some texts) = refl

worth : (find : Attributes) (property : OwnExpression) (rest : List OwnExpression) (text : List ℕ) → text_of find property ≡ Some text → own_texts find (property ∷ rest) ≡ option_map (λ texts. (property.name, text) ∷ texts) (own_texts find rest)
worth find property rest text is = ap (option_and_then (λ text. option_map (λ texts. (property.name, text) ∷ texts) (own_texts find rest))) is

pub texts-more : (find : Attributes) (own left rest : List OwnExpression) (done : List Pair) (property : OwnExpression) (text : List ℕ) → own_texts find own ≡ and_texts done (own_texts find left) → left ≡ property ∷ rest → text_of find property ≡ Some text
    → own_texts find own ≡ and_texts (done ++ (property.name, text) ∷ []) (own_texts find rest)
texts-more find own left rest done property text so_far is text-is =
    so_far ∙ ap (λ l. and_texts done (own_texts find l)) is ∙ ap (and_texts done) (worth find property rest text text-is)
    ∙ one_more done (property.name, text) (own_texts find rest)

pub texts-none : (find : Attributes) (own left rest : List OwnExpression) (done : List Pair) (property : OwnExpression) → own_texts find own ≡ and_texts done (own_texts find left) → left ≡ property ∷ rest → text_of find property ≡ None
    → own_texts find own ≡ None
texts-none find own left rest done property so_far is none =
    so_far ∙ ap (λ l. and_texts done (own_texts find l)) is
    ∙ ap (λ o. and_texts done (option_and_then (λ text. option_map (λ texts. (property.name, text) ∷ texts) (own_texts find rest)) o)) none

-- ---- what setting them comes to

pub sets-more : (before now set : AttributeMap) (pairs left rest : List Pair) (pair : Pair) → with_all_set (FromQueue 0) before pairs ≡ with_all_set (FromQueue 0) now left → left ≡ pair ∷ rest → with_set (FromQueue 0) now pair ≡ Some set
    → with_all_set (FromQueue 0) before pairs ≡ with_all_set (FromQueue 0) set rest
sets-more before now set pairs left rest pair so_far is set-is =
    so_far ∙ ap (with_all_set (FromQueue 0) now) is ∙ ap (option_and_then (λ set. with_all_set (FromQueue 0) set rest)) set-is

pub sets-none : (before now : AttributeMap) (pairs left rest : List Pair) (pair : Pair) → with_all_set (FromQueue 0) before pairs ≡ with_all_set (FromQueue 0) now left → left ≡ pair ∷ rest → with_set (FromQueue 0) now pair ≡ None
    → with_all_set (FromQueue 0) before pairs ≡ None
sets-none before now pairs left rest pair so_far is none =
    so_far ∙ ap (with_all_set (FromQueue 0) now) is ∙ ap (option_and_then (λ set. with_all_set (FromQueue 0) set rest)) none

-- the first of what can all be set can be set
pub sets-first : (before now : AttributeMap) (pairs left rest : List Pair) (pair : Pair) → with_all_set (FromQueue 0) before pairs ≡ with_all_set (FromQueue 0) now left → left ≡ pair ∷ rest → is_some (with_all_set (FromQueue 0) before pairs) ≡ true
    → (set : AttributeMap) × (with_set (FromQueue 0) now pair ≡ Some set)
sets-first before now pairs left rest pair so_far is may = of_option (with_set (FromQueue 0) now pair) refl
  where
    of_option : (o : Option AttributeMap) → with_set (FromQueue 0) now pair ≡ o → (set : AttributeMap) × (with_set (FromQueue 0) now pair ≡ Some set)
    of_option None none = absurd (let no : is_some (with_all_set (FromQueue 0) before pairs) ≡ false = ap is_some (sets-none before now pairs left rest pair so_far is none) in cc)
    of_option (Some set) set-is = (set, set-is)

-- ---- what a put of attributes says of that

abbrev pub put-answer : Result Put AttrError → AttributeMap → List ℕ → List ℕ → Option AttributeMap
put-answer (Ok put) attributes key value = Some (after_put (Ok put) attributes key value)
put-answer (Err error) attributes key value = None

pub answer-sets : (attributes : AttributeMap) (key value : List ℕ) → has_key_length key ≡ true → with_set (FromQueue 0) attributes (key, value) ≡ put-answer (put_answer attributes key value) attributes key value
answer-sets attributes key value good = of_tests (is_uuid key) (nat_lt ATTRIBUTES_MAX (encoded_size (insert attributes key value))) refl refl
  where
    of_tests : (uuid large : Bool) → is_uuid key ≡ uuid → nat_lt ATTRIBUTES_MAX (encoded_size (insert attributes key value)) ≡ large → with_set (FromQueue 0) attributes (key, value) ≡ put-answer (put_answer attributes key value) attributes key value
    of_tests true large is large-is = rw is refl
    of_tests false true isnt large-is =
        let size = encoded_size (insert attributes key value) in
        let above : ATTRIBUTES_MAX < size + 0 = omega (arith, ltb-true ATTRIBUTES_MAX size large-is) in
        rw (isnt, good, large-is, lt-leb (size + 0) ATTRIBUTES_MAX above) refl
    of_tests false false isnt large-is =
        let size = encoded_size (insert attributes key value) in
        let within : size + 0 ≤ ATTRIBUTES_MAX = omega (arith, ltb-false ATTRIBUTES_MAX size large-is) in
        rw (isnt, good, large-is, le-leb (size + 0) ATTRIBUTES_MAX within) refl

-- ---- setting them in a session

both : (a b : Bool) → a && b ≡ true → (a ≡ true) × (b ≡ true)
both true b h = (refl, h)
both false b h = cc

pub keys-first : (left rest : List Pair) (pair : Pair) → left ≡ pair ∷ rest → have_keys left ≡ true → (has_key_length pair.0 ≡ true) × (have_keys rest ≡ true)
keys-first left rest pair is keys = both (has_key_length pair.0) (have_keys rest) (sym (ap have_keys is) ∙ keys)

with-is : (before : Bench) (one : TookOne before) (attributes : AttributeMap) → with_attributes before 0 attributes ≡ one_with one.taken attributes
unfolding change_at
with-is before one attributes = ap (λ b. with_attributes b 0 attributes) one.begun

pub set-begins : (before : Bench) → TookOne before → before ≡ with_attributes before 0 (bench_attributes before 0)
set-begins before one = one.begun ∙ sym (ap (one_with one.taken) (ap (λ b. bench_attributes b 0) one.begun)) ∙ sym (with-is before one (bench_attributes before 0))

-- what a put of the first of them comes to
pub record PutOne (before now : Bench) (one : TookOne before) (pair : Pair) (value : List ℕ) : Type 0 where
  pub set : AttributeMap
  pub set_is : with_set (FromQueue 0) (bench_attributes now 0) pair ≡ Some set
  pub free : refusal_of_put now 0 pair.0 value ≡ None
  pub after : with_put now 0 pair.0 value ≡ one_with one.taken set

pub put-one : (before now : Bench) (one : TookOne before) (pairs left rest : List Pair) (pair : Pair) (value : List ℕ) → now ≡ with_attributes before 0 (bench_attributes now 0)
    → with_all_set (FromQueue 0) (bench_attributes before 0) pairs ≡ with_all_set (FromQueue 0) (bench_attributes now 0) left → left ≡ pair ∷ rest → have_keys left ≡ true → is_some (with_all_set (FromQueue 0) (bench_attributes before 0) pairs) ≡ true
    → value ≡ pair.1 → PutOne before now one pair value
put-one before now one pairs left rest pair value after so_far is keys may value-is =
    let first = sets-first (bench_attributes before 0) (bench_attributes now 0) pairs left rest pair so_far is may in
    let now-is : now ≡ one_with one.taken (bench_attributes now 0) = after ∙ with-is before one (bench_attributes now 0) in
    let set-is : with_set (FromQueue 0) (bench_attributes now 0) (pair.0, value) ≡ Some first.0 = ap (λ v. with_set (FromQueue 0) (bench_attributes now 0) (pair.0, v)) value-is ∙ first.1 in
    let comes : PutComesTo one.taken now pair.0 value (Some first.0) = put-at-one now one.taken (bench_attributes now 0) pair.0 value (Some first.0) now-is (keys-first left rest pair is keys).0 set-is in
    record { set = first.0; set_is = first.1; free = comes.0; after = comes.1 }

pub put-keeps : (before now new : Bench) (one : TookOne before) (pair : Pair) (value : List ℕ) (put : PutOne before now one pair value) → new ≡ with_put now 0 pair.0 value → new ≡ with_attributes before 0 (bench_attributes new 0)
put-keeps before now new one pair value put new-is =
    let is : new ≡ one_with one.taken put.set = new-is ∙ put.after in
    is ∙ sym (ap (one_with one.taken) (ap (λ b. bench_attributes b 0) is)) ∙ sym (with-is before one (bench_attributes new 0))

pub put-sets : (before now new : Bench) (one : TookOne before) (pair : Pair) (value : List ℕ) (put : PutOne before now one pair value) → new ≡ with_put now 0 pair.0 value → with_set (FromQueue 0) (bench_attributes now 0) pair ≡ Some (bench_attributes new 0)
put-sets before now new one pair value put new-is = put.set_is ∙ ap Some (sym (ap (λ b. bench_attributes b 0) (new-is ∙ put.after)))

-- ---- all set, and the file passed on

pub record AllSet (before new : Bench) (one : TookOne before) (wanted : Option AttributeMap) : Type 0 where
  pub set : AttributeMap
  pub is : wanted ≡ Some set
  pub after : new ≡ one_with one.taken set

pub all-set : (before new : Bench) (one : TookOne before) (wanted : Option AttributeMap) → IfSome wanted (λ set. new ≡ with_attributes before 0 set) → is_some wanted ≡ true → AllSet before new one wanted
all-set before new one (Some set) after may = record { set = set; is = refl; after = after ∙ with-is before one set }
all-set before new one None after may = cc

pub set-open : (before new : Bench) (one : TookOne before) (wanted : Option AttributeMap) → AllSet before new one wanted → HasOneOpen new
set-open before new one wanted all = with-open new one.taken all.set all.after

pub set-ends : (before new after : Bench) (one : TookOne before) (wanted : Option AttributeMap) → AllSet before new one wanted → EndsWith new after (all_to 0 new.files) → EndsWith before after (passed_with (bench_attributes before 0) wanted)
set-ends before new after one wanted all ends =
    ends-behind before new after _ _ (with-keeps before new one.taken one.taken.attributes all.set one.begun all.after)
    (ap (λ (b : Bench). all_to 0 b.files) all.after ∙ ap (passed_with (bench_attributes before 0)) (sym all.is)) ends

pub none-ends : (before after : Bench) (one : TookOne before) (wanted : Option AttributeMap) → wanted ≡ None → EndsWith before after (all_to 1 before.files) → EndsWith before after (passed_with (bench_attributes before 0) wanted)
none-ends before after one wanted none ends =
    ends-behind before before after _ _ (record { relationships = refl; sources = refl })
    (ap (λ (b : Bench). all_to 1 b.files) one.begun ∙ ap (λ attributes. passed_with attributes None) (sym (ap (λ b. bench_attributes b 0) one.begun))
    ∙ ap (passed_with (bench_attributes before 0)) (sym none)) ends

-- ---- the processor

-- names of own properties may be keys
pub own-keys : (find : Attributes) (own : List OwnExpression) (pairs : List Pair) → list_all (λ name. within 1 (length name) OWN_NAME_MAX) (map (λ property. property.name) own) ≡ true → own_texts find own ≡ Some pairs → have_keys pairs ≡ true
own-keys find [] pairs sound is =
    let none : pairs ≡ [] = cc in
    ap have_keys none
own-keys find (property ∷ own) pairs sound is =
    let named = both (within 1 (length property.name) OWN_NAME_MAX) (list_all (λ name. within 1 (length name) OWN_NAME_MAX) (map (λ property. property.name) own)) sound in
    of_texts (text_of find property) (own_texts find own) named.0 (λ rest rest-is. own-keys find own rest named.1 rest-is) refl is
  where
    of_texts : (text : Option (List ℕ)) (rest : Option (List Pair)) → within 1 (length property.name) OWN_NAME_MAX ≡ true → ((rest : List Pair) → own_texts find own ≡ Some rest → have_keys rest ≡ true) → own_texts find own ≡ rest
        → option_and_then (λ text. option_map (λ texts. (property.name, text) ∷ texts) rest) text ≡ Some pairs → have_keys pairs ≡ true
    of_texts None rest named rest-keys rest-is is = cc
    of_texts (Some text) None named rest-keys rest-is is = cc
    of_texts (Some text) (Some rest) named rest-keys rest-is is =
        let pairs-are : pairs ≡ (property.name, text) ∷ rest = cc in
        let key : has_key_length property.name ≡ true = named in
        ap have_keys pairs-are ∙ rw (key, rest-keys rest rest-is) refl

pub update-keys : (own : List OwnExpression) (find : Attributes) (pairs : List Pair) → IsSoundKind (UpdateAttribute own) → own_texts find own ≡ Some pairs → have_keys pairs ≡ true
update-keys own find pairs sound is = own-keys find own pairs (both _ _ (both _ _ sound.ranges).0).1 is

abbrev meant : List OwnExpression → AttributeMap → List ℕ → Outcome
meant own attributes uuid =
    passed_with attributes (option_and_then (with_all_set (FromQueue 0) attributes) (own_texts (found_in (record { attributes = attributes; uuid = uuid; bytes = [] })) own))

pub update-acts : (own : List OwnExpression) (before : Bench) (given : Given) (after : Bench) (attributes : AttributeMap) (uuid : List ℕ) (texts : Option (List Pair)) → Begins (UpdateAttribute own) before given → attributes ≡ bench_attributes before 0
    → option_map (λ source. source.uuid) (slice_get before.sources 0) ≡ Some uuid → own_texts (found_in (record { attributes = attributes; uuid = uuid; bytes = [] })) own ≡ texts
    → EndsWith before after (passed_with (bench_attributes before 0) (option_and_then (with_all_set (FromQueue 0) (bench_attributes before 0)) texts)) → EndsAs (UpdateAttribute own) before given after
update-acts own before given after attributes uuid texts begins attributes-is uuid-is texts-is ends =
    one-acts (UpdateAttribute own) before given after refl begins ends.finished ends.kept
    (λ taken file began alike. of_file file (taken-attributes before taken file began alike ∙ sym attributes-is) (taken-uuid before taken file uuid began alike uuid-is))
  where
    of_file : (file : TakenFile) → file.attributes ≡ attributes → file.uuid ≡ uuid → act (UpdateAttribute own) (file ∷ []) given ≡ Some (outcome_of after)
    of_file file same-attributes same-uuid =
        let same : meant own file.attributes file.uuid ≡ passed_with (bench_attributes before 0) (option_and_then (with_all_set (FromQueue 0) (bench_attributes before 0)) texts) =
        ap (λ a. meant own a file.uuid) same-attributes ∙ ap (meant own attributes) same-uuid
        ∙ ap (λ o. passed_with attributes (option_and_then (with_all_set (FromQueue 0) attributes) o)) texts-is
        ∙ ap (λ a. passed_with a (option_and_then (with_all_set (FromQueue 0) a) texts)) attributes-is in
        ap Some (given-up file (option_and_then (with_all_set (FromQueue 0) file.attributes) (own_texts (found_in file) own)) ∙ same ∙ sym ends.outcome)
