-- A session with one taken file, behind each of its calls.
use Rattle.std.proofs.Common.{◌≡◌, ℕ, ◌<◌, Bool, true, false, cond, List, [], ◌∷◌, Option, None, Some, refl, sym, ◌∙◌, ap, subst, arith}
use Rattle.std.specs.Prelude.{◌&&◌, option_map}
use Rattle.std.specs.FinMap.{insert}
use Rattle.std.proofs.lemmas.Bool.{leb-false, lt-ltb, leb-true}
use Rattle.flowfile_record.specs.Attributes.{AttributeMap, has_key_length, is_uuid}
use Rattle.flowfile_record.specs.Outcome.{is_made}
use Rattle.flowfile_record.specs.declared.attributes.TheConstants.{ATTRIBUTES_MAX}
use Rattle.flowfile_record.specs.declared.worked.End.TheVariants.{To}
use Rattle.flowfile_record.specs.declared.worked.Origin.{Origin}
use Rattle.flowfile_record.specs.declared.worked.Origin.TheVariants.{Taken as FromQueue}
use Rattle.flowfile_record.specs.declared.worked.Outcome.{Outcome}
use Rattle.machine_model.specs.Making.{TakenFile, alone as alone_outcome, may_have, or_given_up, passed_on, with_set}
use Rattle.process_session.specs.Bench.{Bench, bench_attributes, taken_source, taken_file}
use Rattle.process_session.specs.Changes.{attributed_file, with_end, with_put}
use Rattle.process_session.specs.Finish.{origin_in, outcome_of}
use Rattle.process_session.specs.Reasons.{Refusal, IsErrorFor, already_ended, attributes_too_large, bad_key, first_refusal, unknown_file}
use Rattle.process_session.specs.Refusals.{refusal_of_finish, refusal_of_put, refusal_of_transfer}
use Rattle.process_session.specs.declared.error.SessionError.{SessionError}
use Rattle.process_session.specs.declared.error.SessionError.TheVariants.{AttributesTooLarge, Memory}
use Rattle.process_session.specs.declared.file.File.{File}
use Rattle.process_session.specs.declared.file.Taken.{Taken}
use Rattle.process_session.proofs.Refused.{put_refusal}
use Rattle.process_session.proofs.Refusing.{pass, stop}
use Rattle.processor_api.specs.Acts.{KeepsTaken}
use Rattle.processor_api.proofs.Alone.{alone, ended-alone, finish-free, outcome-alone, penalize-free, put-alone, put-free, transfer-free}
use Rattle.processor_api.specs.Sessions.{TookOne, HasOneOpen, EndsWith}
use Rattle.proc_attribute.specs.Passing.{all_to, passed_with}

-- ---- a session with one open file, and how it ends

one-is : (bench : Bench) (one : HasOneOpen bench) → bench ≡ alone 2 bench.sources one.file None bench.handed
one-is bench one =
    ap (λ n. record bench { relationships = n }) one.relationships
    ∙ ap (λ (files : List File). record bench { relationships = 2; files = files }) one.only
    ∙ ap (λ sent. alone 2 bench.sources one.file sent bench.handed) one.unsent

pub open-transfer : (bench : Bench) (relationship : ℕ) → relationship < 2 → HasOneOpen bench → refusal_of_transfer bench 0 relationship ≡ None
open-transfer bench relationship there one =
    ap (λ b. refusal_of_transfer b 0 relationship) (one-is bench one)
    ∙ transfer-free 2 bench.sources one.file None bench.handed relationship one.opened there

abbrev ended : File → ℕ → File
ended file relationship = record file { «end» = Some (To relationship) }

pub open-ended : (bench : Bench) (relationship : ℕ) → HasOneOpen bench → EndsWith bench (with_end bench 0 (To relationship)) (all_to relationship bench.files)
open-ended bench relationship one =
    let file = ended one.file relationship in
    let after : with_end bench 0 (To relationship) ≡ alone 2 bench.sources file None bench.handed =
    ap (λ b. with_end b 0 (To relationship)) (one-is bench one) ∙ ended-alone 2 bench.sources one.file None bench.handed (To relationship) in
    let stays : is_made one.file.origin && false ≡ false = ap (λ o. is_made o && false) one.taken in
    let own : (stand : List (List ℕ)) → origin_in stand one.file.origin ≡ one.file.origin =
    λ stand. (let P : Origin → Type 0 = λ o. origin_in stand o ≡ o in subst P (sym one.taken) refl) in
    record {
      finished = ap refusal_of_finish after ∙ finish-free 2 bench.sources file None bench.handed refl;
      kept = record { relationships = refl; sources = refl };
      outcome = ap outcome_of after ∙ outcome-alone 2 bench.sources file bench.handed stays own ∙ ap (all_to relationship) (sym one.only);
    }

-- what is done before the end, which leaves what was taken
pub ends-behind : (before now after : Bench) (outcome wanted : Outcome) → KeepsTaken before now → outcome ≡ wanted → EndsWith now after outcome → EndsWith before after wanted
ends-behind before now after outcome wanted kept is ends = record {
  finished = ends.finished;
  kept = record { relationships = ends.kept.relationships ∙ kept.relationships; sources = ends.kept.sources ∙ kept.sources };
  outcome = ends.outcome ∙ is;
}

-- ---- a taken file with other attributes, and nothing else done

abbrev pub one_with : Taken → AttributeMap → Bench
one_with taken attributes = alone 2 (taken_source taken ∷ []) (attributed_file attributes (taken_file 0 taken)) None 0

pub with-open : (bench : Bench) (taken : Taken) (attributes : AttributeMap) → bench ≡ one_with taken attributes → HasOneOpen bench
with-open bench taken attributes is = record {
  file = attributed_file attributes (taken_file 0 taken);
  relationships = ap (λ (b : Bench). b.relationships) is;
  only = ap (λ (b : Bench). b.files) is;
  taken = refl;
  opened = refl;
  unsent = ap (λ (b : Bench). b.sent) is;
}

pub with-keeps : (before now : Bench) (taken : Taken) (attributes other : AttributeMap) → before ≡ one_with taken attributes → now ≡ one_with taken other → KeepsTaken before now
with-keeps before now taken attributes other began is = record {
  relationships = ap (λ (b : Bench). b.relationships) is ∙ sym (ap (λ (b : Bench). b.relationships) began);
  sources = ap (λ (b : Bench). b.sources) is ∙ sym (ap (λ (b : Bench). b.sources) began);
}

-- ---- setting an attribute

-- a refusal for the attributes' size
abbrev pub IsTooLarge : Refusal → Type 0
IsTooLarge refusal = (size : ℕ) × (refusal ≡ Some (AttributesTooLarge size))

-- what a put that sets these attributes, or none, comes to
abbrev pub PutComesTo : Taken → Bench → List ℕ → List ℕ → Option AttributeMap → Type 0
PutComesTo taken bench key value (Some set) = (refusal_of_put bench 0 key value ≡ None) × (with_put bench 0 key value ≡ one_with taken set)
PutComesTo taken bench key value None = IsTooLarge (refusal_of_put bench 0 key value)

known : (bench : Bench) (taken : Taken) (attributes : AttributeMap) → bench ≡ one_with taken attributes → unknown_file bench 0 ≡ None
unfolding unknown_file
known bench taken attributes is = ap (λ b. unknown_file b 0) is

still_open : (bench : Bench) (taken : Taken) (attributes : AttributeMap) → bench ≡ one_with taken attributes → already_ended bench 0 ≡ None
unfolding already_ended
still_open bench taken attributes is = ap (λ b. already_ended b 0) is

good_key : (key : List ℕ) → has_key_length key ≡ true → bad_key key ≡ None
unfolding bad_key
good_key key good = rw good refl

too_large : (size : ℕ) → ATTRIBUTES_MAX < size → attributes_too_large size ≡ Some (AttributesTooLarge size)
unfolding attributes_too_large
too_large size above = rw (lt-ltb ATTRIBUTES_MAX size above) refl

next : (refusal : Refusal) (refusals : List Refusal) (error : SessionError) → refusal ≡ None → first_refusal refusals ≡ Some error → first_refusal (refusal ∷ refusals) ≡ Some error
next refusal refusals error none rest = pass refusal refusals (sym none) ∙ rest

uuid-put : (taken : Taken) (attributes : AttributeMap) (key value : List ℕ) → is_uuid key ≡ true → PutComesTo taken (one_with taken attributes) key value (Some attributes)
uuid-put taken attributes key value is =
    let file = attributed_file attributes (taken_file 0 taken) in (
      rw is (penalize-free 2 (taken_source taken ∷ []) file None 0 refl),
      rw is refl,
    )

stored-put : (taken : Taken) (attributes : AttributeMap) (key value : List ℕ) → has_key_length key ≡ true → is_uuid key ≡ false → may_have (FromQueue 0) (insert attributes key value) ≡ true
    → PutComesTo taken (one_with taken attributes) key value (Some (insert attributes key value))
stored-put taken attributes key value good isnt may =
    let file = attributed_file attributes (taken_file 0 taken) in
    let small = leb-true _ _ may in (
      put-free 2 (taken_source taken ∷ []) file None 0 key value refl isnt good small (omega arith),
      put-alone 2 (taken_source taken ∷ []) file None 0 key value isnt,
    )

refused-put : (taken : Taken) (attributes : AttributeMap) (key value : List ℕ) → has_key_length key ≡ true → is_uuid key ≡ false → may_have (FromQueue 0) (insert attributes key value) ≡ false
    → PutComesTo taken (one_with taken attributes) key value None
refused-put taken attributes key value good isnt may =
    let bench = one_with taken attributes in
    let large = too_large _ (leb-false _ _ may) in (
      _,
      put_refusal bench 0 key value isnt
          ∙ next _ _ _ (known bench taken attributes refl) (next _ _ _ (still_open bench taken attributes refl) (next _ _ _ (good_key key good) (stop _ _ _ (sym large)))),
    )

put-comes : (taken : Taken) (attributes : AttributeMap) (key value : List ℕ) → has_key_length key ≡ true → PutComesTo taken (one_with taken attributes) key value (with_set (FromQueue 0) attributes (key, value))
put-comes taken attributes key value good = of_tests (is_uuid key) (may_have (FromQueue 0) (insert attributes key value)) refl refl
  where
    of_tests : (uuid may : Bool) → is_uuid key ≡ uuid → may_have (FromQueue 0) (insert attributes key value) ≡ may
        → PutComesTo taken (one_with taken attributes) key value (cond uuid (Some attributes) (cond may (Some (insert attributes key value)) None))
    of_tests true may is may-is = uuid-put taken attributes key value is
    of_tests false true is may-is = stored-put taken attributes key value good is may-is
    of_tests false false is may-is = refused-put taken attributes key value good is may-is

-- the same of a session that is known to be so
pub put-at-one : (bench : Bench) (taken : Taken) (attributes : AttributeMap) (key value : List ℕ) (set : Option AttributeMap) → bench ≡ one_with taken attributes → has_key_length key ≡ true
    → with_set (FromQueue 0) attributes (key, value) ≡ set → PutComesTo taken bench key value set
put-at-one bench taken attributes key value set is good set-is =
    let P : Bench → Type 0 = λ b. PutComesTo taken b key value set in
    subst P (sym is) (subst (PutComesTo taken (one_with taken attributes) key value) set-is (put-comes taken attributes key value good))

-- a put that was made
pub put-made : (taken : Taken) (bench : Bench) (key value : List ℕ) (set : Option AttributeMap) → IsErrorFor None (refusal_of_put bench 0 key value) → PutComesTo taken bench key value set
    → (attributes : AttributeMap) × (set ≡ Some attributes) × (with_put bench 0 key value ≡ one_with taken attributes)
put-made taken bench key value (Some attributes) made comes = (attributes, refl, comes.1)
put-made taken bench key value None made comes = absurd (none_isnt (subst (IsErrorFor None) comes.1 made))
  where
    none_isnt : {error : SessionError} → None ≡ Some error → ⊥
    none_isnt is = cc

-- a put that was refused, and not for want of memory
pub put-refused : (taken : Taken) (bench : Bench) (key value : List ℕ) (set : Option AttributeMap) (error : SessionError) → IsErrorFor (Some error) (refusal_of_put bench 0 key value) → (error ≡ Memory → ⊥)
    → PutComesTo taken bench key value set → set ≡ None
put-refused taken bench key value None error refused other comes = refl
put-refused taken bench key value (Some attributes) error refused other comes = absurd (other (subst (IsErrorFor (Some error)) comes.0 refused))

-- ---- an attribute that is noted

abbrev noted : Taken → (key value : List ℕ) → Outcome
noted taken key value = passed_with taken.attributes (with_set (FromQueue 0) taken.attributes (key, value))

pub took-open : (bench : Bench) → TookOne bench → HasOneOpen bench
took-open bench one = with-open bench one.taken one.taken.attributes one.begun

pub note-made : (before now after : Bench) (one : TookOne before) (key value : List ℕ) → has_key_length key ≡ true → IsErrorFor None (refusal_of_put before 0 key value) → now ≡ with_put before 0 key value
    → (EndsWith now after (all_to 0 now.files)) → EndsWith before after (passed_with (bench_attributes before 0) (with_set (FromQueue 0) (bench_attributes before 0) (key, value)))
note-made before now after one key value good made now-is ends =
    let taken = one.taken in
    let put = put-made taken before key value _ made (put-at-one before taken taken.attributes key value _ one.begun good refl) in
    let is : now ≡ one_with taken put.0 = now-is ∙ put.2 in
    let wanted : all_to 0 now.files ≡ noted taken key value = ap (λ (b : Bench). all_to 0 b.files) is ∙ ap (passed_with taken.attributes) (sym put.1) in
    ends-behind before now after _ _ (with-keeps before now taken taken.attributes put.0 one.begun is)
    (wanted ∙ ap (λ b. passed_with (bench_attributes b 0) (with_set (FromQueue 0) (bench_attributes b 0) (key, value))) (sym one.begun)) ends

pub note-open : (before now : Bench) (one : TookOne before) (key value : List ℕ) → has_key_length key ≡ true → IsErrorFor None (refusal_of_put before 0 key value) → now ≡ with_put before 0 key value → HasOneOpen now
note-open before now one key value good made now-is =
    let put = put-made one.taken before key value _ made (put-at-one before one.taken one.taken.attributes key value _ one.begun good refl) in
    with-open now one.taken put.0 (now-is ∙ put.2)

pub note-refused : (before now after : Bench) (one : TookOne before) (key value : List ℕ) (error : SessionError) → has_key_length key ≡ true → IsErrorFor (Some error) (refusal_of_put before 0 key value) → (error ≡ Memory → ⊥) → now ≡ before
    → EndsWith now after (all_to 1 now.files) → EndsWith before after (passed_with (bench_attributes before 0) (with_set (FromQueue 0) (bench_attributes before 0) (key, value)))
note-refused before now after one key value error good refused other now-is ends =
    let taken = one.taken in
    let none = put-refused taken before key value _ error refused other (put-at-one before taken taken.attributes key value _ one.begun good refl) in
    let is : now ≡ one_with taken taken.attributes = now-is ∙ one.begun in
    let wanted : all_to 1 now.files ≡ noted taken key value = ap (λ (b : Bench). all_to 1 b.files) is ∙ ap (passed_with taken.attributes) (sym none) in
    ends-behind before now after _ _ (with-keeps before now taken taken.attributes taken.attributes one.begun is)
    (wanted ∙ ap (λ b. passed_with (bench_attributes b 0) (with_set (FromQueue 0) (bench_attributes b 0) (key, value))) (sym one.begun)) ends

-- ---- a processor

pub given-up : (file : TakenFile) (set : Option AttributeMap) → or_given_up 1 (file ∷ []) (option_map (λ attributes. alone_outcome (passed_on 0 attributes false 0)) set) ≡ passed_with file.attributes set
given-up file None = refl
given-up file (Some attributes) = refl
