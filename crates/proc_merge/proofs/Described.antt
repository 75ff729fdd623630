-- The attributes of the joined file, a call at a time.
use Rattle.std.proofs.Common.{◌≡◌, inl, inr, ℕ, ◌≤◌, Bool, true, false, cond, List, [], ◌∷◌, ◌++◌, length, Option, None, Some, codes, refl, sym, ◌∙◌, ap, subst, arith, bytes_eq, not, ◌&&◌}
use Rattle.std.specs.Prelude.{Err, IfOk, IsTrue, Ok, Result, decimal, is_none, is_some, nat_lt, option_and_then, slice_get}
use Rattle.std.specs.FinMap.{contains_key, empty, get, get-remove, insert, remove}
use Rattle.std.specs.Cmp.Lexicographic.{nat_list_cmp_total}
use Rattle.std.specs.Option.{option_map_or}
use Rattle.std.proofs.lemmas.Bool.{and_parts, cases_lt, le-leb, lt-leb, lt-ltb}
use Rattle.flowfile_record.specs.Attributes.{AttributeMap, has_key_length, is_uuid}
use Rattle.flowfile_record.specs.Outcome.{filename_to_come}
use Rattle.flowfile_record.specs.declared.attributes.TheConstants.{ATTRIBUTES_MAX}
use Rattle.flowfile_record.specs.declared.limits.TheConstants.{FILENAME_SIZE, WRITTEN_MAX}
use Rattle.flowfile_record.specs.declared.worked.Body.TheVariants.{New}
use Rattle.flowfile_record.specs.declared.worked.Origin.{Origin}
use Rattle.flowfile_record.specs.declared.worked.Origin.TheVariants.{Joined}
use Rattle.machine_model.specs.Making.{may_have, with_set}
use Rattle.machine_model.specs.MergeContent.{counted, named_as_whole, without_fragment}
use Rattle.machine_model.specs.declared.kind.MergeStrategy.{MergeStrategy}
use Rattle.machine_model.specs.declared.kind.MergeStrategy.TheVariants.{BinPacking, Defragment}
use Rattle.process_session.specs.declared.error.SessionError.{SessionError}
use Rattle.process_session.specs.declared.error.SessionError.TheVariants.{AttributesTooLarge, Memory}
use Rattle.process_session.specs.declared.file.File.{File}
use Rattle.process_session.specs.Bench.{Bench, bench_attributes, made_size, named_size, origin_at}
use Rattle.process_session.specs.Changes.{attributed_file, change_at, new_file, with_attributes, with_put, with_removed}
use Rattle.process_session.specs.Reasons.{IsErrorFor, attributes_too_large, bad_key, session_full, where_it_holds}
use Rattle.process_session.specs.Refusals.{refusal_of_put, refusal_of_remove_attribute}
use Rattle.process_session.proofs.Encoded.{absent-remove, encoded_size-remove}
use Rattle.process_session.proofs.Refused.{put_refusal}
use Rattle.process_session.proofs.Refusing.{no_refusal, pass, stop}
use Rattle.proc_merge.specs.Joining.{HasJoined, IsDescribed, described, name_of_whole, of_parents}
use Rattle.proc_merge.proofs.Benches.{at-seam, change-seam, few_attributes, known, next, roomy, still_open}

-- ---- a session with the joined file

abbrev pub joined_as : {bench : Bench} {place : ℕ} → HasJoined bench place → AttributeMap → File
joined_as joined attributes = new_file (Joined joined.parents) attributes (New [])

pub joined-there : (bench : Bench) (place : ℕ) (joined : HasJoined bench place) → slice_get bench.files place ≡ Some (joined_as joined joined.attributes)
joined-there bench place joined =
    ap (λ files. slice_get files place) joined.files
    ∙ ap (slice_get (joined.before ++ joined_as joined joined.attributes ∷ [])) joined.last
    ∙ at-seam joined.before [] (joined_as joined joined.attributes)

pub joined-attributes : (bench : Bench) (place : ℕ) (joined : HasJoined bench place) → bench_attributes bench place ≡ joined.attributes
joined-attributes bench place joined = ap (λ o. option_map_or (λ (file : File). file.attributes) o empty) (joined-there bench place joined)

joined-origin : (bench : Bench) (place : ℕ) (joined : HasJoined bench place) → origin_at bench place ≡ Joined joined.parents
joined-origin bench place joined = ap (λ o. option_map_or (λ (file : File). file.origin) o (Origin.Taken place)) (joined-there bench place joined)

change-joined : (bench : Bench) (place : ℕ) (joined : HasJoined bench place) (change : File → File)
    → change_at change place bench.files ≡ joined.before ++ change (joined_as joined joined.attributes) ∷ []
change-joined bench place joined change =
    ap (change_at change place) joined.files
    ∙ ap (λ p. change_at change p (joined.before ++ joined_as joined joined.attributes ∷ [])) joined.last
    ∙ change-seam change joined.before [] (joined_as joined joined.attributes)

-- with other attributes
pub described-joined : (bench : Bench) (place : ℕ) (attributes : AttributeMap) → HasJoined bench place → made_size attributes ≤ ATTRIBUTES_MAX → HasJoined (with_attributes bench place attributes) place
described-joined bench place attributes joined fits = record {
  before = joined.before;
  parents = joined.parents;
  attributes = attributes;
  files = change-joined bench place joined (attributed_file attributes);
  last = joined.last;
  few = joined.few;
  small = joined.small;
  named = fits;
  unwritten = joined.unwritten;
}

pub attributes-described : (bench : Bench) (place : ℕ) (attributes : AttributeMap) → HasJoined bench place → bench_attributes (with_attributes bench place attributes) place ≡ attributes
attributes-described bench place attributes joined =
    let file = joined_as joined attributes in
    ap (λ files. option_map_or (λ (f : File). f.attributes) (slice_get files place) empty) (change-joined bench place joined (attributed_file attributes))
    ∙ ap (λ p. option_map_or (λ (f : File). f.attributes) (slice_get (joined.before ++ file ∷ []) p) empty) joined.last
    ∙ ap (λ o. option_map_or (λ (f : File). f.attributes) o empty) (at-seam joined.before [] file)

pub described-again : (bench : Bench) (place : ℕ) (first second : AttributeMap) → HasJoined bench place → with_attributes (with_attributes bench place first) place second ≡ with_attributes bench place second
described-again bench place first second joined =
    let file = joined_as joined first in
    ap (λ files. record bench { files = files })
    (ap (change_at (attributed_file second) place) (change-joined bench place joined (attributed_file first))
    ∙ ap (λ p. change_at (attributed_file second) p (joined.before ++ file ∷ [])) joined.last
    ∙ change-seam (attributed_file second) joined.before [] file
    ∙ sym (change-joined bench place joined (attributed_file second)))

pub described-same : (bench : Bench) (place : ℕ) → HasJoined bench place → bench ≡ with_attributes bench place (bench_attributes bench place)
described-same bench place joined =
    ap (λ files. record bench { files = files })
    (joined.files ∙ sym (change-joined bench place joined (attributed_file joined.attributes)))
    ∙ ap (with_attributes bench place) (sym (joined-attributes bench place joined))

-- by what another call left, the same of all of it
pub described-from : (bench now after : Bench) (place : ℕ) (first : AttributeMap) (wanted : Option AttributeMap) (done : Bool) → HasJoined bench place → now ≡ with_attributes bench place first
    → IsDescribed now after place wanted done → IsDescribed bench after place wanted done
described-from bench now after place first (Some attributes) true joined is described =
    described ∙ ap (λ b. with_attributes b place attributes) is ∙ described-again bench place first attributes joined
described-from bench now after place first (Some attributes) false joined is described = absurd described
described-from bench now after place first None true joined is described = absurd described
described-from bench now after place first None false joined is described =
    (described.0, described.1 ∙ ap (λ b. with_attributes b place described.0) is ∙ described-again bench place first described.0 joined)

-- ---- an attribute less

pub smaller : (attributes : AttributeMap) (key : List ℕ) → bytes_eq key (codes "filename") ≡ false → made_size attributes ≤ ATTRIBUTES_MAX → made_size (remove attributes key) ≤ ATTRIBUTES_MAX
smaller attributes key other fits =
    let absent : not (contains_key (remove attributes key) (codes "filename")) ≡ is_none (get attributes (codes "filename")) =
    absent-remove attributes key (codes "filename") ∙ ap (λ b. cond b true (is_none (get attributes (codes "filename")))) other in
    let same : filename_to_come of_parents (remove attributes key) ≡ filename_to_come of_parents attributes =
    ap (λ b. cond b FILENAME_SIZE 0) (absent ∙ sym (absent_is (get attributes (codes "filename")))) in
    omega (arith, fits, same, encoded_size-remove attributes key)
  where
    absent_is : (o : Option (List ℕ)) → not (is_some o) ≡ is_none o
    absent_is None = refl
    absent_is (Some value) = refl

pub remove_attribute-free : (bench : Bench) (place : ℕ) (key : List ℕ) → HasJoined bench place → bytes_eq key (codes "filename") ≡ false → refusal_of_remove_attribute bench place key ≡ None
remove_attribute-free bench place key joined other =
    let there = joined-there bench place joined in
    let attributes = remove (bench_attributes bench place) key in
    let fits : made_size attributes ≤ ATTRIBUTES_MAX =
    smaller (bench_attributes bench place) key other (subst (λ a. made_size a ≤ ATTRIBUTES_MAX) (sym (joined-attributes bench place joined)) joined.named) in
    let sized : named_size (origin_at bench place) attributes ≡ made_size attributes = ap (λ o. named_size o attributes) (joined-origin bench place joined) in
    next _ _ (known bench place _ there) (next _ _ (still_open bench place _ there refl) (next _ _ (few_attributes _ (omega (arith, sized, fits))) no_refusal))

pub removed-joined : (bench now : Bench) (place : ℕ) (key : List ℕ) → HasJoined bench place → bytes_eq key (codes "filename") ≡ false → now ≡ with_removed bench place key → HasJoined now place
removed-joined bench now place key joined other is =
    subst (λ b. HasJoined b place) (sym is)
    (described-joined bench place (remove (bench_attributes bench place) key) joined
    (smaller (bench_attributes bench place) key other (subst (λ a. made_size a ≤ ATTRIBUTES_MAX) (sym (joined-attributes bench place joined)) joined.named)))

pub removed-more : (bench now after : Bench) (place : ℕ) (first : AttributeMap) (key : List ℕ) → HasJoined bench place → now ≡ with_attributes bench place first → after ≡ with_removed now place key
    → after ≡ with_attributes bench place (remove first key)
removed-more bench now after place first key joined is removed =
    removed ∙ ap (λ b. with_removed b place key) is
    ∙ ap (λ a. with_attributes (with_attributes bench place first) place (remove a key)) (attributes-described bench place first joined)
    ∙ described-again bench place first (remove first key) joined

pub fragment-fits : (attributes : AttributeMap) → made_size attributes ≤ ATTRIBUTES_MAX → made_size (without_fragment attributes) ≤ ATTRIBUTES_MAX
fragment-fits attributes fits =
    let first = remove attributes (codes "fragment.identifier") in
    let second = remove first (codes "fragment.index") in
    smaller second (codes "fragment.count") refl (smaller first (codes "fragment.index") refl (smaller attributes (codes "fragment.identifier") refl fits))

-- ---- an attribute more

good_key : (key : List ℕ) → has_key_length key ≡ true → bad_key key ≡ None
unfolding bad_key
good_key key good = rw good refl

not_true : (b : Bool) → not b ≡ true → b ≡ false
not_true true is = sym is
not_true false is = refl

-- what refuses a put is the size of the attributes alone
put-only : (bench : Bench) (place : ℕ) (key value : List ℕ) → HasJoined bench place → has_key_length key ≡ true → is_uuid key ≡ false → made_size (insert (bench_attributes bench place) key value) ≤ ATTRIBUTES_MAX
    → refusal_of_put bench place key value ≡ None
put-only bench place key value joined good isnt fits =
    let there = joined-there bench place joined in
    let attributes = insert (bench_attributes bench place) key value in
    let file = joined_as joined attributes in
    let sized : named_size (origin_at bench place) attributes ≡ made_size attributes = ap (λ o. named_size o attributes) (joined-origin bench place joined) in
    let files = change-joined bench place joined (attributed_file attributes) in
    let short : bench.handed ≤ WRITTEN_MAX = omega (arith, joined.unwritten) in
    let full : session_full (with_attributes bench place attributes) ≡ None =
    ap (λ fs. session_full (record bench { files = fs })) files ∙ roomy joined.before file bench.handed joined.few joined.small (omega (arith, fits)) short in
    put_refusal bench place key value isnt
    ∙ next _ _ (known bench place _ there) (next _ _ (still_open bench place _ there refl) (next _ _ (good_key key good) (next _ _ (few_attributes _ (omega (arith, sized, fits))) (next _ _ full no_refusal))))

too_large : (size : ℕ) → nat_lt ATTRIBUTES_MAX size ≡ true → Some (AttributesTooLarge size) ≡ attributes_too_large size
unfolding attributes_too_large
too_large size is = sym (ap (λ b. where_it_holds b (AttributesTooLarge size)) is)

put-refused : (bench : Bench) (place : ℕ) (key value : List ℕ) → HasJoined bench place → has_key_length key ≡ true → is_uuid key ≡ false → nat_lt ATTRIBUTES_MAX (made_size (insert (bench_attributes bench place) key value)) ≡ true
    → refusal_of_put bench place key value ≡ Some (AttributesTooLarge (made_size (insert (bench_attributes bench place) key value)))
put-refused bench place key value joined good isnt large =
    let there = joined-there bench place joined in
    let attributes = insert (bench_attributes bench place) key value in
    let sized : named_size (origin_at bench place) attributes ≡ made_size attributes = ap (λ o. named_size o attributes) (joined-origin bench place joined) in
    put_refusal bench place key value isnt
    ∙ pass _ _ (sym (known bench place _ there)) ∙ pass _ _ (sym (still_open bench place _ there refl)) ∙ pass _ _ (sym (good_key key good))
    ∙ stop _ _ _ (too_large (made_size attributes) large ∙ ap attributes_too_large (sym sized))

-- what a set comes to
set-is : (attributes : AttributeMap) (key value : List ℕ) (fits : Bool) → is_uuid key ≡ false → may_have of_parents (insert attributes key value) ≡ fits
    → with_set of_parents attributes (key, value) ≡ cond fits (Some (insert attributes key value)) None
set-is attributes key value fits isnt may =
    let set = insert attributes key value in
    ap (λ b. cond b (Some attributes) (cond (may_have of_parents set) (Some set) None)) isnt ∙ ap (λ b. cond b (Some set) None) may

put-is : (bench : Bench) (place : ℕ) (key value : List ℕ) → is_uuid key ≡ false → with_put bench place key value ≡ with_attributes bench place (insert (bench_attributes bench place) key value)
put-is bench place key value isnt = ap (λ b. cond b bench (with_attributes bench place (insert (bench_attributes bench place) key value))) isnt

abbrev IsGoodKey : List ℕ → Type 0
IsGoodKey key = IsTrue (has_key_length key && not (is_uuid key))

-- a put that isn't refused
pub set-done : (bench after : Bench) (place : ℕ) (key value : List ℕ) → HasJoined bench place → IsGoodKey key → IsErrorFor None (refusal_of_put bench place key value) → after ≡ with_put bench place key value
    → IsDescribed bench after place (with_set of_parents (bench_attributes bench place) (key, value)) true
set-done bench after place key value joined good free is =
    let parts = and_parts (has_key_length key) (not (is_uuid key)) good in
    let isnt = not_true (is_uuid key) parts.1 in
    let attributes = bench_attributes bench place in
    let size = made_size (insert attributes key value) in
    elim (cases_lt ATTRIBUTES_MAX size) [
      | inl large ↦
          let refused = put-refused bench place key value joined parts.0 isnt (lt-ltb ATTRIBUTES_MAX size large) in
          absurd (none_some (subst (IsErrorFor None) refused free))
      | inr fits ↦
          subst (λ o. IsDescribed bench after place o true) (sym (set-is attributes key value true isnt (le-leb size ATTRIBUTES_MAX fits))) (is ∙ put-is bench place key value isnt)
    ]
  where
    none_some : {e : SessionError} → ◌≡◌ {A = Option SessionError} None (Some e) → ⊥
    none_some h = cc

-- and one that is
pub set-refused : (bench after : Bench) (place : ℕ) (key value : List ℕ) (error : SessionError) → HasJoined bench place → IsGoodKey key → IsErrorFor (Some error) (refusal_of_put bench place key value) → ¬ (error ≡ Memory) → after ≡ bench
    → IsDescribed bench after place (with_set of_parents (bench_attributes bench place) (key, value)) false
set-refused bench after place key value error joined good refused other is =
    let parts = and_parts (has_key_length key) (not (is_uuid key)) good in
    let isnt = not_true (is_uuid key) parts.1 in
    let attributes = bench_attributes bench place in
    let size = made_size (insert attributes key value) in
    elim (cases_lt ATTRIBUTES_MAX size) [
      | inl large ↦
          subst (λ o. IsDescribed bench after place o false) (sym (set-is attributes key value false isnt (lt-leb size ATTRIBUTES_MAX large))) (attributes, is ∙ described-same bench place joined)
      | inr fits ↦ absurd (other (subst (IsErrorFor (Some error)) (put-only bench place key value joined parts.0 isnt fits) refused))
    ]

-- ---- all of them

pub found-whole : (attributes : AttributeMap) → get (without_fragment attributes) (codes "segment.original.filename") ≡ get attributes (codes "segment.original.filename")
found-whole attributes =
    let key = codes "segment.original.filename" in
    let first = remove attributes (codes "fragment.identifier") in
    let second = remove first (codes "fragment.index") in
    get-remove nat_list_cmp_total second (codes "fragment.count") key
    ∙ get-remove nat_list_cmp_total first (codes "fragment.index") key
    ∙ get-remove nat_list_cmp_total attributes (codes "fragment.identifier") key

-- by the name of the whole
pub named-by : (strategy : MergeStrategy) (shared : AttributeMap) (name : Option (List ℕ)) → name_of_whole strategy shared ≡ name
    → named_as_whole strategy of_parents (without_fragment shared) ≡ option_map_or (λ name. with_set of_parents (without_fragment shared) (codes "filename", name)) name (Some (without_fragment shared))
named-by BinPacking shared name is =
    ap (λ o. option_map_or (λ name. with_set of_parents (without_fragment shared) (codes "filename", name)) o (Some (without_fragment shared))) is
named-by Defragment shared name is =
    ap (λ o. option_map_or (λ name. with_set of_parents (without_fragment shared) (codes "filename", name)) o (Some (without_fragment shared))) (found-whole shared ∙ is)

-- the joined file is no fragment any more
pub record IsNoFragment (bench now : Bench) (place : ℕ) (shared : AttributeMap) : Type 0 where
  pub is : now ≡ with_attributes bench place (without_fragment shared)
  pub attributes : bench_attributes now place ≡ without_fragment shared
  pub joined : HasJoined now place

pub no-fragment : (bench now : Bench) (place : ℕ) (shared : AttributeMap) → HasJoined bench place → shared ≡ bench_attributes bench place → now ≡ with_attributes bench place (without_fragment (bench_attributes bench place)) → IsNoFragment bench now place shared
no-fragment bench now place shared joined same left =
    let is : now ≡ with_attributes bench place (without_fragment shared) = left ∙ ap (λ a. with_attributes bench place (without_fragment a)) (sym same) in
    let fits : made_size shared ≤ ATTRIBUTES_MAX = subst (λ a. made_size a ≤ ATTRIBUTES_MAX) (sym (same ∙ joined-attributes bench place joined)) joined.named in
    record {
      is = is;
      attributes = ap (λ b. bench_attributes b place) is ∙ attributes-described bench place (without_fragment shared) joined;
      joined = subst (λ b. HasJoined b place) (sym is) (described-joined bench place (without_fragment shared) joined (fragment-fits shared fits));
    }

pub set-fits : (attributes set : AttributeMap) (key value : List ℕ) → is_uuid key ≡ false → with_set of_parents attributes (key, value) ≡ Some set → made_size set ≤ ATTRIBUTES_MAX
set-fits attributes set key value isnt is =
    let wanted = insert attributes key value in
    elim (cases_lt ATTRIBUTES_MAX (made_size wanted)) [
      | inl large ↦
          let none : None ≡ Some set = sym (set-is attributes key value false isnt (lt-leb (made_size wanted) ATTRIBUTES_MAX large)) ∙ is in
          absurd (none_some none)
      | inr fits ↦
          let some : Some wanted ≡ Some set = sym (set-is attributes key value true isnt (le-leb (made_size wanted) ATTRIBUTES_MAX fits)) ∙ is in
          let same : wanted ≡ set = cc in
          subst (λ a. made_size a ≤ ATTRIBUTES_MAX) same fits
    ]
  where
    none_some : {X : Type 0} {x : X} → ◌≡◌ {A = Option X} None (Some x) → ⊥
    none_some h = cc

-- the joined file is named
pub record IsNamed (bench now : Bench) (place : ℕ) (wanted : Option AttributeMap) : Type 0 where
  pub attributes : AttributeMap
  pub wanted_is : wanted ≡ Some attributes
  pub is : now ≡ with_attributes bench place attributes
  pub attributes_is : bench_attributes now place ≡ attributes
  pub joined : HasJoined now place

is-described : (before after : Bench) (place : ℕ) (wanted : Option AttributeMap) → IsDescribed before after place wanted true → (attributes : AttributeMap) × (wanted ≡ Some attributes) × (after ≡ with_attributes before place attributes)
is-described before after place (Some attributes) described = (attributes, refl, described)
is-described before after place None described = absurd described

isnt-described : (before after : Bench) (place : ℕ) (wanted : Option AttributeMap) → IsDescribed before after place wanted false → wanted ≡ None
isnt-described before after place (Some attributes) described = absurd described
isnt-described before after place None described = refl

pub named-joined : (bench now named : Bench) (place : ℕ) (strategy : MergeStrategy) (shared : AttributeMap) (name : List ℕ) → HasJoined bench place → IsNoFragment bench now place shared → name_of_whole strategy shared ≡ Some name
    → IsDescribed now named place (with_set of_parents (bench_attributes now place) (codes "filename", name)) true → IsNamed bench named place (named_as_whole strategy of_parents (without_fragment shared))
named-joined bench now named place strategy shared name joined none name-is described =
    let by-set : with_set of_parents (bench_attributes now place) (codes "filename", name) ≡ with_set of_parents (without_fragment shared) (codes "filename", name) =
    ap (λ a. with_set of_parents a (codes "filename", name)) none.attributes in
    let set = is-described now named place _ described in
    let is : named ≡ with_attributes bench place set.0 = set.2 ∙ ap (λ b. with_attributes b place set.0) none.is ∙ described-again bench place (without_fragment shared) set.0 joined in
    let set_is = sym by-set ∙ set.1 in
    record {
      attributes = set.0;
      wanted_is = named-by strategy shared (Some name) name-is ∙ set_is;
      is = is;
      attributes_is = ap (λ b. bench_attributes b place) is ∙ attributes-described bench place set.0 joined;
      joined = subst (λ b. HasJoined b place) (sym is) (described-joined bench place set.0 joined (set-fits (without_fragment shared) set.0 (codes "filename") name refl set_is));
    }

pub unnamed-joined : (bench now : Bench) (place : ℕ) (strategy : MergeStrategy) (shared : AttributeMap) → IsNoFragment bench now place shared → name_of_whole strategy shared ≡ None → IsNamed bench now place (named_as_whole strategy of_parents (without_fragment shared))
unnamed-joined bench now place strategy shared none name-is = record {
  attributes = without_fragment shared;
  wanted_is = named-by strategy shared None name-is;
  is = none.is;
  attributes_is = none.attributes;
  joined = none.joined;
}

pub name-refused : (bench now after : Bench) (place : ℕ) (strategy : MergeStrategy) (shared : AttributeMap) (name : List ℕ) (count : ℕ) → HasJoined bench place → IsNoFragment bench now place shared → name_of_whole strategy shared ≡ Some name
    → IsDescribed now after place (with_set of_parents (bench_attributes now place) (codes "filename", name)) false → IsDescribed bench after place (described strategy count shared) false
name-refused bench now after place strategy shared name count joined none name-is described_so =
    let set : with_set of_parents (without_fragment shared) (codes "filename", name) ≡ None =
    ap (λ a. with_set of_parents a (codes "filename", name)) (sym none.attributes) ∙ isnt-described now after place _ described_so in
    let wanted : described strategy count shared ≡ None = ap (option_and_then (counted count of_parents)) (named-by strategy shared (Some name) name-is ∙ set) in
    subst (λ o. IsDescribed bench after place o false) (sym wanted)
    (described-from bench now after place (without_fragment shared) None false joined none.is
    (subst (λ o. IsDescribed now after place o false) (isnt-described now after place _ described_so) described_so))

pub count-described : (bench named after : Bench) (place : ℕ) (strategy : MergeStrategy) (shared : AttributeMap) (done : Bool) → HasJoined bench place → IsNamed bench named place (named_as_whole strategy of_parents (without_fragment shared))
    → IsDescribed named after place (counted (length named.sources) of_parents (bench_attributes named place)) done → IsDescribed bench after place (described strategy (length bench.sources) shared) done
count-described bench named after place strategy shared done joined name described_so =
    let count : length named.sources ≡ length bench.sources = ap (λ (b : Bench). length b.sources) name.is in
    let wanted : described strategy (length bench.sources) shared ≡ counted (length bench.sources) of_parents name.attributes =
    ap (option_and_then (counted (length bench.sources) of_parents)) name.wanted_is in
    subst (λ o. IsDescribed bench after place o done) (ap (λ n. counted n of_parents (bench_attributes named place)) count ∙ ap (counted (length bench.sources) of_parents) name.attributes_is ∙ sym wanted)
    (described-from bench named after place name.attributes _ done joined name.is described_so)

-- the count, set behind the name of the whole
pub count-done : (bench now after : Bench) (place count : ℕ) (value : List ℕ) (done : Bool) → HasJoined bench place → now ≡ with_removed bench place (codes "segment.original.filename") → value ≡ decimal count
    → IsDescribed now after place (with_set of_parents (bench_attributes now place) (codes "merge.count", value)) done → IsDescribed bench after place (counted count of_parents (bench_attributes bench place)) done
count-done bench now after place count value done joined is value-is described_so =
    let left = remove (bench_attributes bench place) (codes "segment.original.filename") in
    let there : bench_attributes now place ≡ left = ap (λ b. bench_attributes b place) is ∙ attributes-described bench place left joined in
    subst (λ o. IsDescribed bench after place o done)
    (ap (λ a. with_set of_parents a (codes "merge.count", value)) there ∙ ap (λ v. with_set of_parents left (codes "merge.count", v)) value-is)
    (described-from bench now after place left _ done joined is described_so)

pub ok-weaker : {A E : Type 0} (r : Result A E) (P Q : A → Type 0) → ((a : A) → P a → Q a) → IfOk r P → IfOk r Q
ok-weaker (Ok value) P Q step is = step value is
ok-weaker (Err error) P Q step is = is
