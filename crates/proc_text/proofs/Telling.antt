-- A part of the taken file, as it is made and told its attributes, one after another.
use Rattle.std.proofs.Common.{◌≡◌, ℕ, ◌+◌, ◌<◌, ◌≤◌, Bool, true, false, cond, ◌&&◌, List, [], ◌∷◌, ◌++◌, length, map, drop, get_or, suc, add-one, drop-cons, None, Some, Ok, Result, is_ok, refl, sym, ◌∙◌, ap, subst, arith, sum_by, length-append}
use Rattle.std.specs.Prelude.{IfOk, Option, is_none, is_some, not, nat_le, nat_lt, slice_get, string_bytes}
use Rattle.std.specs.FinMap.{empty, insert}
use Rattle.std.specs.Option.{option_map_or}
use Rattle.std.proofs.lemmas.Bool.{and_parts, le-leb, le-ltb, lt-leb, ltb-false, ltb-true}
use Rattle.std.proofs.lemmas.List.{append-nil, map-append}
use Rattle.std.proofs.lemmas.List.Elements.{All-cons, All-nil}
use Rattle.std.proofs.lemmas.List.Sums.{sum_by-append, sum_by-cons}
use Rattle.flowfile_record.specs.Attributes.{AttributeMap, encoded_size, has_key_length, is_uuid}
use Rattle.flowfile_record.specs.Outcome.{is_made}
use Rattle.flowfile_record.specs.declared.attributes.TheConstants.{ATTRIBUTES_MAX}
use Rattle.flowfile_record.specs.declared.limits.TheConstants.{FILES_MAX, SESSION_ATTRIBUTES_MAX, WRITTEN_MAX}
use Rattle.flowfile_record.specs.declared.worked.Body.TheVariants.{Whole, New}
use Rattle.flowfile_record.specs.declared.worked.End.TheVariants.{Removed}
use Rattle.flowfile_record.specs.declared.worked.Origin.{Origin}
use Rattle.flowfile_record.specs.declared.worked.Origin.TheVariants.{Taken as FromQueue, Part as PartOf}
use Rattle.machine_model.specs.Making.{may_have}
use Rattle.machine_model.specs.Parts.{all_set_beside, has_room}
use Rattle.process_session.specs.declared.error.Full.TheVariants.{Attributes}
use Rattle.process_session.specs.declared.error.SessionError.{SessionError}
use Rattle.process_session.specs.declared.error.SessionError.TheVariants.{SessionFull}
use Rattle.process_session.specs.declared.file.File.{File}
use Rattle.process_session.specs.Bench.{Bench, attribute_size, bench_attributes, body_at, content_size, file_size, made_size, named_size, origin_at, taken_file}
use Rattle.process_session.specs.Changes.{attributed_file, is_whole, body_part, with_attributes, with_clone, with_end, with_made, with_part, with_put, with_range}
use Rattle.process_session.specs.Finish.{is_left_out}
use Rattle.process_session.specs.Reasons.{Refusal, IsErrorFor, IsRefusal, attributes_too_large, bad_key, first_refusal, past_limits, range_outside, session_full, where_it_holds}
use Rattle.process_session.specs.Refusals.{refusal_of_clone_range, refusal_of_put, refusal_of_remove}
use Rattle.process_session.proofs.Refused.{put_refusal, range_refusal}
use Rattle.process_session.proofs.Refusing.{no_refusal, one, pass}
use Rattle.processor_api.specs.Sessions.{HasFirstTaken}
use Rattle.proc_text.specs.declared.parting.Told.{Told}
use Rattle.proc_text.specs.Parting.{AddsPart, IsAnswered, ended_as, may_be_keys, part_file, pair_told}
use Rattle.processor_api.proofs.Clones.{at-end, changed-end, clone-is, known, next, none_holds, still_open, with_file}

abbrev pub Pair : Type 0
Pair = List ℕ × List ℕ

-- ---- an answer that isn't want of memory

pub accepted : {A : Type 0} (answer : Result A SessionError) (refusal : Refusal) (value : A) → IsRefusal answer refusal → answer ≡ Ok value → is_none refusal ≡ true
accepted {A = A} answer refusal value is ok = of_refusal refusal (subst (λ (r : Result A SessionError). IsRefusal r refusal) ok is)
  where
    of_refusal : (refusal : Refusal) → IsErrorFor None refusal → is_none refusal ≡ true
    of_refusal None h = refl
    of_refusal (Some reason) h = cc

pub refused : {A : Type 0} (answer : Result A SessionError) (refusal : Refusal) → IsRefusal answer refusal → IsAnswered answer None → is_none refusal ≡ false
refused {A = A} answer refusal is answered = of_refusal refusal (subst (λ (r : Result A SessionError). IsRefusal r refusal) answered.1 is)
  where
    of_refusal : (refusal : Refusal) → IsErrorFor (Some answered.0) refusal → is_none refusal ≡ false
    of_refusal None h = absurd (answered.2 h)
    of_refusal (Some reason) h = refl

pub unchanged : {A : Type 0} (answer : Result A SessionError) (old new after : Bench) → new ≡ cond (is_ok answer) after old → IsAnswered answer None → new ≡ old
unchanged {A = A} answer old new after is answered = is ∙ ap (λ (r : Result A SessionError). cond (is_ok r) after old) answered.1

-- ---- whether there is a reason to refuse

shut : (holds : Bool) (error : SessionError) → is_none (where_it_holds holds error) ≡ not holds
shut true error = refl
shut false error = refl

free : (refusal : Refusal) (refusals : List Refusal) → refusal ≡ None → is_none (first_refusal (refusal ∷ refusals)) ≡ is_none (first_refusal refusals)
free refusal refusals none = ap is_none (pass refusal refusals (sym none))

either : (refusal : Refusal) (refusals : List Refusal) → is_none (first_refusal (refusal ∷ refusals)) ≡ (is_none refusal && is_none (first_refusal refusals))
unfolding first_refusal
either None refusals = refl
either (Some error) refusals = refl

not-less : (a b : ℕ) → not (nat_lt a b) ≡ nat_le b a
not-less a b = of_test (nat_lt a b) refl
  where
    of_test : (less : Bool) → nat_lt a b ≡ less → not less ≡ nat_le b a
    of_test true is = sym (lt-leb b a (ltb-true a b is))
    of_test false is = sym (le-leb b a (ltb-false a b is))

size-refused : (size : ℕ) → is_none (attributes_too_large size) ≡ nat_le size ATTRIBUTES_MAX
unfolding attributes_too_large
size-refused size = shut _ _ ∙ not-less ATTRIBUTES_MAX size

sum-refused : (files attributes handed : ℕ) → files ≤ FILES_MAX → handed ≤ WRITTEN_MAX → is_none (past_limits files attributes handed) ≡ nat_le attributes SESSION_ATTRIBUTES_MAX
unfolding past_limits
sum-refused files attributes handed few short =
    rw (le-ltb FILES_MAX files few) (rw (le-ltb WRITTEN_MAX handed short) (shut (nat_lt SESSION_ATTRIBUTES_MAX attributes) (SessionFull Attributes SESSION_ATTRIBUTES_MAX) ∙ not-less SESSION_ATTRIBUTES_MAX attributes))

-- both limits of attributes, the last reasons
room-refused : (files others handed : ℕ) (attributes : AttributeMap) (size : ℕ) → size ≡ named_size (PartOf 0) attributes → files ≤ FILES_MAX → handed ≤ WRITTEN_MAX
    → is_none (first_refusal (attributes_too_large size ∷ past_limits files (others + encoded_size attributes) handed ∷ [])) ≡ has_room others attributes
room-refused files others handed attributes size named few short =
    let room = past_limits files (others + encoded_size attributes) handed in
    either (attributes_too_large size) (room ∷ [])
    ∙ ap (λ b. b && is_none (first_refusal (room ∷ []))) (size-refused size ∙ ap (λ n. nat_le n ATTRIBUTES_MAX) named)
    ∙ ap (λ b. may_have (PartOf 0) attributes && b) (ap is_none (one room) ∙ sum-refused files (others + encoded_size attributes) handed few short)

-- ---- a part is made

inside : (bench : Bench) (offset size : ℕ) → offset + size ≤ content_size bench 0 → range_outside bench 0 offset size ≡ None
unfolding range_outside
inside bench offset size fits = none_holds _ _ (le-ltb (content_size bench 0) (offset + size) fits)

pub first-there : (bench : Bench) (has : HasFirstTaken bench) → slice_get bench.files 0 ≡ Some (taken_file 0 has.taken)
first-there bench has = ap (λ (files : List File). slice_get files 0) has.files

pub range-room : (bench : Bench) (offset size : ℕ) → HasFirstTaken bench → length bench.files < FILES_MAX → bench.handed ≡ 0 → offset + size ≤ content_size bench 0
    → is_none (refusal_of_clone_range bench 0 offset size) ≡ has_room (attribute_size bench) (bench_attributes bench 0)
range-room bench offset size has few unwritten fits =
    ap is_none (range_refusal bench 0 offset size)
    ∙ free _ _ (known bench 0 (taken_file 0 has.taken) (first-there bench has))
    ∙ free _ _ (still_open bench 0 (taken_file 0 has.taken) (first-there bench has) refl)
    ∙ free _ _ (inside bench offset size fits)
    ∙ room-refused (length bench.files + 1) (attribute_size bench) (bench.handed + 0) (bench_attributes bench 0) (made_size (bench_attributes bench 0)) refl (omega arith) (omega arith)

pub range-is : (bench : Bench) (offset size : ℕ) → HasFirstTaken bench → with_range bench 0 offset size ≡ with_file bench (part_file (is_whole bench 0 offset size) (bench_attributes bench 0) offset size)
range-is bench offset size has = of_whole (is_whole bench 0 offset size)
  where
    of_whole : (whole : Bool) → cond whole (with_clone bench 0) (with_part bench 0 offset size) ≡ with_file bench (part_file whole (bench_attributes bench 0) offset size)
    of_whole true = clone-is bench has
    of_whole false =
        let body : body_at bench 0 ≡ Whole 0 = ap (λ (files : List File). option_map_or (λ (f : File). f.body) (slice_get files 0) (New [])) has.files in
        ap (λ b. with_made bench (PartOf 0) (bench_attributes bench 0) (body_part b offset size)) body

-- ---- what is known of it

part-attributed : (whole : Bool) (before after : AttributeMap) (offset size : ℕ) → attributed_file after (part_file whole before offset size) ≡ part_file whole after offset size
part-attributed true before after offset size = refl
part-attributed false before after offset size = refl

pub part-attributes : (whole : Bool) (attributes : AttributeMap) (offset size : ℕ) → (part_file whole attributes offset size).attributes ≡ attributes
part-attributes true attributes offset size = refl
part-attributes false attributes offset size = refl

part-made : (whole : Bool) (attributes : AttributeMap) (offset size : ℕ) → is_made (part_file whole attributes offset size).origin ≡ true
part-made true attributes offset size = refl
part-made false attributes offset size = refl

part-open : (whole : Bool) (attributes : AttributeMap) (offset size : ℕ) → (part_file whole attributes offset size).«end» ≡ None
part-open true attributes offset size = refl
part-open false attributes offset size = refl

part-left-out : (whole : Bool) (attributes : AttributeMap) (offset size : ℕ) → is_left_out (ended_as Removed (part_file whole attributes offset size)) ≡ true
part-left-out true attributes offset size = refl
part-left-out false attributes offset size = refl

-- ---- an attribute of it is set

end-attributes : (base : Bench) (file : File) → bench_attributes (with_file base file) (length base.files) ≡ file.attributes
end-attributes base file = ap (λ o. option_map_or (λ (f : File). f.attributes) o empty) (at-end base.files file)

end-origin : (base : Bench) (file : File) → origin_at (with_file base file) (length base.files) ≡ file.origin
end-origin base file = ap (λ o. option_map_or (λ (f : File). f.origin) o (FromQueue (length base.files))) (at-end base.files file)

made-named : (origin : Origin) (attributes : AttributeMap) → is_made origin ≡ true → named_size origin attributes ≡ named_size (PartOf 0) attributes
made-named origin attributes made = rw made refl

good_key : (key : List ℕ) → has_key_length key ≡ true → bad_key key ≡ None
unfolding bad_key
good_key key good = none_holds _ _ (ap not good)

pub end-size : (base : Bench) (file : File) → attribute_size (with_file base file) ≡ attribute_size base + encoded_size file.attributes
end-size base file = sum_by-append file_size base.files (file ∷ []) ∙ ap (λ n. sum_by file_size base.files + n) (let first = sum_by-cons file_size file [] in omega arith)

file-room : (base : Bench) (file : File) (key value : List ℕ) → is_uuid key ≡ false → has_key_length key ≡ true → is_made file.origin ≡ true → file.«end» ≡ None → length base.files < FILES_MAX → base.handed ≡ 0
    → is_none (refusal_of_put (with_file base file) (length base.files) key value) ≡ has_room (attribute_size base) (insert file.attributes key value)
file-room base file key value isnt good made opened few unwritten =
    let bench = with_file base file in
    let place = length base.files in
    let set = insert file.attributes key value in
    let there = at-end base.files file in
    let full : session_full (with_attributes bench place set) ≡ past_limits (length (base.files ++ file ∷ [])) (attribute_size base + encoded_size set) base.handed =
    ap session_full (changed-end base file (attributed_file set))
    ∙ ap (λ n. past_limits n (attribute_size (with_file base (attributed_file set file))) base.handed) (length-append base.files (attributed_file set file ∷ []) ∙ sym (length-append base.files (file ∷ [])))
    ∙ ap (λ n. past_limits (length (base.files ++ file ∷ [])) n base.handed) (end-size base (attributed_file set file)) in
    ap is_none (put_refusal bench place key value isnt)
    ∙ free _ _ (known bench place file there)
    ∙ free _ _ (still_open bench place file there opened)
    ∙ free _ _ (good_key key good)
    ∙ ap (λ a. is_none (first_refusal (attributes_too_large (named_size (origin_at bench place) (insert a key value)) ∷ session_full (with_attributes bench place (insert a key value)) ∷ []))) (end-attributes base file)
    ∙ ap (λ r. is_none (first_refusal (attributes_too_large (named_size (origin_at bench place) set) ∷ r ∷ []))) full
    ∙ room-refused (length (base.files ++ file ∷ [])) (attribute_size base) base.handed set (named_size (origin_at bench place) set)
    (ap (λ o. named_size o set) (end-origin base file) ∙ made-named file.origin set made) (omega (arith, length-append base.files (file ∷ []))) (omega arith)

file-put : (base : Bench) (file : File) (key value : List ℕ) → is_uuid key ≡ false → with_put (with_file base file) (length base.files) key value ≡ with_file base (attributed_file (insert file.attributes key value) file)
file-put base file key value isnt =
    let bench = with_file base file in
    let place = length base.files in
    ap (λ b. cond b bench (with_attributes bench place (insert (bench_attributes bench place) key value))) isnt
    ∙ ap (λ a. with_attributes bench place (insert a key value)) (end-attributes base file)
    ∙ changed-end base file (attributed_file (insert file.attributes key value))

-- ---- one attribute after another

pub next-pair : (told : List Told) (i : ℕ) (one : Told) (value : List ℕ) → i < length told → one ≡ get_or told i one → value ≡ string_bytes one.text → map pair_told (drop i told) ≡ (one.name.now, value) ∷ map pair_told (drop (i + 1) told)
next-pair told i one value within is text =
    let left : drop i told ≡ one ∷ drop (i + 1) told = rw add-one (drop-cons told i one within ∙ ap (λ (t : Told). t ∷ drop (suc i) told) (sym is)) in
    ap (map pair_told) left ∙ ap (λ (v : List ℕ). (one.name.now, v) ∷ map pair_told (drop (i + 1) told)) (sym text)

pub none-is : {A : Type 0} (o : Option A) (none : Bool) → is_some o ≡ not none → none ≡ true → o ≡ None
none-is None none is h = refl
none-is (Some value) none is h = cc

pub some-is : {A : Type 0} (o : Option A) (none : Bool) → is_some o ≡ not none → none ≡ false → (value : A) × (o ≡ Some value)
some-is None none is h = cc
some-is (Some value) none is h = (value, refl)

-- so far it is told these of all attributes, and the rest is left
pub record Telling (base now : Bench) (offset size : ℕ) (pairs left : List Pair) : Type 0 where
  pub attributes : AttributeMap
  pub is : now ≡ with_file base (part_file (is_whole base 0 offset size) attributes offset size)
  pub same : all_set_beside (attribute_size base) (bench_attributes base 0) pairs ≡ all_set_beside (attribute_size base) attributes left
  pub room : has_room (attribute_size base) attributes ≡ true
  pub keys : may_be_keys left ≡ true

-- what the session that it is made in has
pub record MayAdd (base : Bench) (offset size : ℕ) : Type 0 where
  pub taken : HasFirstTaken base
  pub few : length base.files < FILES_MAX
  pub unwritten : base.handed ≡ 0
  pub fits : offset + size ≤ content_size base 0

pub telling-begins : (base now : Bench) (offset size : ℕ) (pairs : List Pair) → MayAdd base offset size → may_be_keys pairs ≡ true → now ≡ with_range base 0 offset size → is_none (refusal_of_clone_range base 0 offset size) ≡ true
    → Telling base now offset size pairs pairs
telling-begins base now offset size pairs may keys is free = record {
  attributes = bench_attributes base 0;
  is = is ∙ range-is base offset size may.taken;
  same = refl;
  room = sym (range-room base offset size may.taken may.few may.unwritten may.fits) ∙ free;
  keys = keys;
}

no-room : (others : ℕ) (attributes : AttributeMap) (pairs : List Pair) → has_room others attributes ≡ false → all_set_beside others attributes pairs ≡ None
no-room others attributes [] isnt = rw isnt refl
no-room others attributes (pair ∷ pairs) isnt = rw isnt refl

pub none-begun : (base now : Bench) (offset size : ℕ) (pairs : List Pair) → MayAdd base offset size → now ≡ base → is_none (refusal_of_clone_range base 0 offset size) ≡ false → AddsPart base now offset size pairs false
none-begun base now offset size pairs may is isnt = (
  no-room (attribute_size base) (bench_attributes base 0) pairs (sym (range-room base offset size may.taken may.few may.unwritten may.fits) ∙ isnt),
  record { dropped = []; is = is ∙ ap (λ files. record base { files = files }) (sym (append-nil base.files)); left_out = All-nil _ },
)

left-not : (b : Bool) → not b ≡ true → b ≡ false
left-not true h = cc
left-not false h = refl

-- the first attribute that is left
pub record Next (base now : Bench) (offset size : ℕ) (pairs left rest : List Pair) (pair : Pair) (telling : Telling base now offset size pairs left) (place : ℕ) : Type 0 where
  pub room : is_none (refusal_of_put now place pair.0 pair.1) ≡ has_room (attribute_size base) (insert telling.attributes pair.0 pair.1)
  pub after : with_put now place pair.0 pair.1 ≡ with_file base (part_file (is_whole base 0 offset size) (insert telling.attributes pair.0 pair.1) offset size)
  pub same : all_set_beside (attribute_size base) (bench_attributes base 0) pairs ≡ all_set_beside (attribute_size base) (insert telling.attributes pair.0 pair.1) rest
  pub keys : may_be_keys rest ≡ true

pub telling-next : (base now : Bench) (offset size : ℕ) (pairs left rest : List Pair) (pair : Pair) (place : ℕ) → MayAdd base offset size → (telling : Telling base now offset size pairs left) → left ≡ pair ∷ rest → place ≡ length base.files
    → Next base now offset size pairs left rest pair telling place
telling-next base now offset size pairs left rest pair place may telling are last =
    let whole = is_whole base 0 offset size in
    let others = attribute_size base in
    let old = telling.attributes in
    let set = insert old pair.0 pair.1 in
    let file = part_file whole old offset size in
    let both = and_parts (has_key_length pair.0 && not (is_uuid pair.0)) (may_be_keys rest) (sym (ap may_be_keys are) ∙ telling.keys) in
    let key = and_parts (has_key_length pair.0) (not (is_uuid pair.0)) both.0 in
    let isnt = left-not (is_uuid pair.0) key.1 in
    let here : insert file.attributes pair.0 pair.1 ≡ set = ap (λ a. insert a pair.0 pair.1) (part-attributes whole old offset size) in
    let at : (acts : Bench → ℕ → Bench) → acts now place ≡ acts (with_file base file) (length base.files) = λ acts. ap (λ b. acts b place) telling.is ∙ ap (acts (with_file base file)) last in
    record {
      room = ap (λ b. is_none (refusal_of_put b place pair.0 pair.1)) telling.is ∙ ap (λ p. is_none (refusal_of_put (with_file base file) p pair.0 pair.1)) last
          ∙ file-room base file pair.0 pair.1 isnt key.0 (part-made whole old offset size) (part-open whole old offset size) may.few may.unwritten
          ∙ ap (has_room others) here;
      after = at (λ b p. with_put b p pair.0 pair.1) ∙ file-put base file pair.0 pair.1 isnt
          ∙ ap (λ a. with_file base (attributed_file a file)) here ∙ ap (with_file base) (part-attributed whole old set offset size);
      same = telling.same ∙ ap (all_set_beside others old) are ∙ ap (λ b. cond b (all_set_beside others set rest) None) telling.room;
      keys = both.1;
    }

pub telling-more : (base now new : Bench) (offset size : ℕ) (pairs left rest : List Pair) (pair : Pair) (place : ℕ) (telling : Telling base now offset size pairs left) → (step : Next base now offset size pairs left rest pair telling place)
    → is_none (refusal_of_put now place pair.0 pair.1) ≡ true → new ≡ with_put now place pair.0 pair.1 → Telling base new offset size pairs rest
telling-more base now new offset size pairs left rest pair place telling step free is = record {
  attributes = insert telling.attributes pair.0 pair.1;
  is = is ∙ step.after;
  same = step.same;
  room = sym step.room ∙ free;
  keys = step.keys;
}

-- it can be removed
file-remove : (base : Bench) (file : File) → file.«end» ≡ None → refusal_of_remove (with_file base file) (length base.files) ≡ None
file-remove base file opened =
    let bench = with_file base file in
    let there = at-end base.files file in
    next _ _ (known bench (length base.files) file there) (next _ _ (still_open bench (length base.files) file there opened) no_refusal)

pub telling-removes : (base now : Bench) (offset size : ℕ) (pairs left : List Pair) (place : ℕ) (telling : Telling base now offset size pairs left) → place ≡ length base.files → refusal_of_remove now place ≡ None
telling-removes base now offset size pairs left place telling last =
    let file = part_file (is_whole base 0 offset size) telling.attributes offset size in
    ap (λ b. refusal_of_remove b place) telling.is ∙ ap (refusal_of_remove (with_file base file)) last
    ∙ file-remove base file (part-open (is_whole base 0 offset size) telling.attributes offset size)

pub telling-refused : (base now new : Bench) (offset size : ℕ) (pairs left rest : List Pair) (pair : Pair) (place : ℕ) (telling : Telling base now offset size pairs left) → (step : Next base now offset size pairs left rest pair telling place) → place ≡ length base.files
    → is_none (refusal_of_put now place pair.0 pair.1) ≡ false → new ≡ with_end now place Removed → AddsPart base new offset size pairs false
telling-refused base now new offset size pairs left rest pair place telling step last isnt is =
    let whole = is_whole base 0 offset size in
    let file = part_file whole telling.attributes offset size in (
      step.same ∙ no-room (attribute_size base) (insert telling.attributes pair.0 pair.1) rest (sym step.room ∙ isnt),
      record {
        dropped = ended_as Removed file ∷ [];
        is = is ∙ ap (λ b. with_end b place Removed) telling.is ∙ ap (λ p. with_end (with_file base file) p Removed) last ∙ changed-end base file (ended_as Removed);
        left_out = All-cons (λ (f : File). is_left_out f ≡ true) (ended_as Removed file) [] (part-left-out whole telling.attributes offset size) (All-nil (λ (f : File). is_left_out f ≡ true));
      },
    )

pub telling-ends : (base now : Bench) (offset size : ℕ) (pairs left : List Pair) → Telling base now offset size pairs left → left ≡ [] → AddsPart base now offset size pairs true
telling-ends base now offset size pairs left telling none = (
  telling.attributes,
  telling.same ∙ ap (all_set_beside (attribute_size base) telling.attributes) none ∙ ap (λ b. cond b (Some telling.attributes) None) telling.room,
  telling.is,
)

-- ---- what a part is told

pub told-more : (items new : List Told) (one : Told) (pairs : List Pair) (pair : Pair) → map pair_told items ≡ pairs → new ≡ items ++ one ∷ [] → pair_told one ≡ pair → map pair_told new ≡ pairs ++ pair ∷ []
told-more items new one pairs pair are is told =
    ap (map pair_told) is ∙ map-append pair_told items (one ∷ []) ∙ ap (λ ps. ps ++ pair_told one ∷ []) are ∙ ap (λ (p : Pair). pairs ++ p ∷ []) told

pub told-four : (lines : List Pair) (a b c d : Pair) → (((lines ++ a ∷ []) ++ b ∷ []) ++ c ∷ []) ++ d ∷ [] ≡ lines ++ a ∷ b ∷ c ∷ d ∷ []
told-four [] a b c d = refl
told-four (line ∷ lines) a b c d = ap (λ (ps : List Pair). line ∷ ps) (told-four lines a b c d)

pub adds-told : {E : Type 0} (before after : Bench) (offset size : ℕ) (result : Result Bool E) (told pairs : List Pair) → told ≡ pairs → IfOk result (AddsPart before after offset size told) → IfOk result (AddsPart before after offset size pairs)
adds-told {E = E} before after offset size result told pairs same adds = subst (λ ps. IfOk result (AddsPart before after offset size ps)) same adds
