-- A session with one file: what its calls refuse and change, and its outcome.
use Rattle.std.proofs.Common.{◌≡◌, ℕ, ◌+◌, ◌<◌, ◌≤◌, Bool, true, false, cond, List, [], ◌∷◌, length, Option, None, Some, is_none, refl, sym, ◌∙◌, ap, arith}
use Rattle.std.specs.Prelude.{codes, not, ◌&&◌}
use Rattle.std.specs.FinMap.{empty, insert, entries, contains_key, len-entries, len-empty}
use Rattle.std.specs.Ordering.{nat_cmp}
use Rattle.std.specs.Cmp.Lexicographic.{slice_cmp}
use Rattle.std.proofs.lemmas.Bool.{le-ltb, lt-leb}
use Rattle.std.proofs.lemmas.List.Sums.{sum_by-cons}
use Rattle.flowfile_record.specs.Attributes.{AttributeMap, encoded_size, has_key_length, is_uuid, pair_size}
use Rattle.flowfile_record.specs.Outcome.{filename_to_come, is_made}
use Rattle.flowfile_record.specs.declared.TheConstants.{CONTENT_MAX}
use Rattle.flowfile_record.specs.declared.attributes.TheConstants.{ATTRIBUTES_MAX, COUNT_SIZE}
use Rattle.flowfile_record.specs.declared.limits.TheConstants.{FILENAME_SIZE, FILES_MAX, SESSION_ATTRIBUTES_MAX, WRITTEN_MAX}
use Rattle.flowfile_record.specs.declared.worked.End.{End}
use Rattle.flowfile_record.specs.declared.worked.Body.TheVariants.{New}
use Rattle.flowfile_record.specs.declared.worked.Origin.{Origin}
use Rattle.flowfile_record.specs.declared.worked.Origin.TheVariants.{Created, Received}
use Rattle.flowfile_record.specs.declared.worked.Outcome.{Outcome}
use Rattle.flowfile_record.specs.declared.worked.Sent.{Sent}
use Rattle.flowfile_record.specs.declared.worked.Worked.{Worked}
use Rattle.process_session.specs.declared.error.SessionError.{SessionError}
use Rattle.process_session.specs.declared.file.File.{File}
use Rattle.process_session.specs.declared.file.Source.{Source}
use Rattle.process_session.specs.Bench.{Bench, bench_of, attribute_size, file_size, named_size}
use Rattle.process_session.specs.Changes.{attributed_file, change_at, new_file, with_attributes, with_put, with_written, written_file, with_end, with_penalty}
use Rattle.process_session.specs.Finish.{is_left_out, kept_files, origin_in, outcome_of, sent_in, standing_from, worked_with}
use Rattle.process_session.specs.Reasons.{Refusal, where_it_holds, first_refusal, unknown_file, already_ended, no_relationship, content_too_large, bad_key, attributes_too_large, already_sent, past_limits, session_full, not_accounted_from}
use Rattle.process_session.specs.Refusals.{refusal_of_create, refusal_of_receive, refusal_of_put, refusal_of_write, refusal_of_transfer, refusal_of_penalize, refusal_of_send, refusal_of_finish}
use Rattle.process_session.proofs.Encoded.{encoded_size-insert}
use Rattle.process_session.proofs.Refused.{put_refusal}
use Rattle.process_session.proofs.Refusing.{pass, no_refusal}

-- a session that has this file and no other
abbrev pub alone : (relationships : ℕ) → List Source → File → Option Sent → (handed : ℕ) → Bench
alone relationships sources file sent handed =
    record { relationships = relationships; sources = sources; files = file ∷ []; sent = sent; handed = handed }

-- ---- what its calls change

change-alone : (change : File → File) (file : File) → change_at change 0 (file ∷ []) ≡ change file ∷ []
unfolding change_at
change-alone change file = refl

changed : (n : ℕ) (s : List Source) (file : File) (t : Option Sent) (h : ℕ) (change : File → File) → record (alone n s file t h) { files = change_at change 0 (file ∷ []) } ≡ alone n s (change file) t h
changed n s file t h change = ap (λ files. record (alone n s file t h) { files = files }) (change-alone change file)

pub put-alone : (n : ℕ) (s : List Source) (file : File) (t : Option Sent) (h : ℕ) (key value : List ℕ) → is_uuid key ≡ false → with_put (alone n s file t h) 0 key value ≡ alone n s (attributed_file (insert file.attributes key value) file) t h
put-alone n s file t h key value isnt = rw isnt (changed n s file t h (attributed_file (insert file.attributes key value)))

pub written-alone : (n : ℕ) (s : List Source) (file : File) (t : Option Sent) (h : ℕ) (bytes : List ℕ) → with_written (alone n s file t h) 0 bytes ≡ alone n s (written_file bytes file) t (h + length bytes)
written-alone n s file t h bytes = ap (λ files. record (alone n s file t (h + length bytes)) { files = files }) (change-alone (written_file bytes) file)

pub ended-alone : (n : ℕ) (s : List Source) (file : File) (t : Option Sent) (h : ℕ) (end_of_file : End) → with_end (alone n s file t h) 0 end_of_file ≡ alone n s (record file { «end» = Some end_of_file }) t h
ended-alone n s file t h end_of_file = changed n s file t h (λ file. record file { «end» = Some end_of_file })

pub penalised-alone : (n : ℕ) (s : List Source) (file : File) (t : Option Sent) (h : ℕ) → with_penalty (alone n s file t h) 0 ≡ alone n s (record file { penalised = true }) t h
penalised-alone n s file t h = changed n s file t h (λ file. record file { penalised = true })

-- ---- what they refuse

none_holds : (holds : Bool) (error : SessionError) → holds ≡ false → where_it_holds holds error ≡ None
none_holds holds error isnt = ap (λ b. where_it_holds b error) isnt

next : (refusal : Refusal) (refusals : List Refusal) → refusal ≡ None → first_refusal refusals ≡ None → first_refusal (refusal ∷ refusals) ≡ None
next refusal refusals none rest = pass refusal refusals (sym none) ∙ rest

known : (n : ℕ) (s : List Source) (file : File) (t : Option Sent) (h : ℕ) → unknown_file (alone n s file t h) 0 ≡ None
unfolding unknown_file
known n s file t h = refl

still_open : (n : ℕ) (s : List Source) (file : File) (t : Option Sent) (h : ℕ) → file.«end» ≡ None → already_ended (alone n s file t h) 0 ≡ None
unfolding already_ended
still_open n s file t h opened = rw opened refl

few_attributes : (size : ℕ) → size ≤ ATTRIBUTES_MAX → attributes_too_large size ≡ None
unfolding attributes_too_large
few_attributes size le = none_holds _ _ (le-ltb ATTRIBUTES_MAX size le)

short_content : (size : ℕ) → size ≤ CONTENT_MAX → content_too_large size ≡ None
unfolding content_too_large
short_content size le = none_holds _ _ (le-ltb CONTENT_MAX size le)

good_key : (key : List ℕ) → has_key_length key ≡ true → bad_key key ≡ None
unfolding bad_key
good_key key good = rw good refl

within_limits : (files attributes handed : ℕ) → files ≤ FILES_MAX → attributes ≤ SESSION_ATTRIBUTES_MAX → handed ≤ WRITTEN_MAX → past_limits files attributes handed ≡ None
unfolding past_limits
within_limits files attributes handed few small short =
    rw (le-ltb FILES_MAX files few) (rw (le-ltb SESSION_ATTRIBUTES_MAX attributes small) (rw (le-ltb WRITTEN_MAX handed short) refl))

-- a session with one file, of which its own limits hold
pub roomy : (n : ℕ) (s : List Source) (file : File) (t : Option Sent) (h : ℕ) → encoded_size file.attributes ≤ ATTRIBUTES_MAX → h ≤ WRITTEN_MAX → session_full (alone n s file t h) ≡ None
roomy n s file t h small short =
    within_limits 1 (attribute_size (alone n s file t h)) h (omega arith) (omega (arith, sum_by-cons file_size file [])) short

pub put-free : (n : ℕ) (s : List Source) (file : File) (t : Option Sent) (h : ℕ) (key value : List ℕ) → file.«end» ≡ None → is_uuid key ≡ false → has_key_length key ≡ true
    → named_size file.origin (insert file.attributes key value) ≤ ATTRIBUTES_MAX → h ≤ WRITTEN_MAX → refusal_of_put (alone n s file t h) 0 key value ≡ None
put-free n s file t h key value opened isnt good small short =
    let attributes = insert file.attributes key value in
    let full : session_full (with_attributes (alone n s file t h) 0 attributes) ≡ None =
    ap session_full (changed n s file t h (attributed_file attributes)) ∙ roomy n s (attributed_file attributes file) t h (omega arith) short in
    put_refusal (alone n s file t h) 0 key value isnt
    ∙ next _ _ (known n s file t h) (next _ _ (still_open n s file t h opened) (next _ _ (good_key key good) (next _ _ (few_attributes _ small) (next _ _ full no_refusal))))

pub write-free : (n : ℕ) (s : List Source) (file : File) (t : Option Sent) (h : ℕ) (bytes : List ℕ) → file.«end» ≡ None → encoded_size file.attributes ≤ ATTRIBUTES_MAX → length bytes ≤ CONTENT_MAX → h + length bytes ≤ WRITTEN_MAX
    → refusal_of_write (alone n s file t h) 0 bytes ≡ None
write-free n s file t h bytes opened small fits short =
    let full : session_full (with_written (alone n s file t h) 0 bytes) ≡ None =
    ap session_full (written-alone n s file t h bytes) ∙ roomy n s (written_file bytes file) t (h + length bytes) small short in
    next _ _ (known n s file t h) (next _ _ (still_open n s file t h opened) (next _ _ (short_content _ fits) (next _ _ full no_refusal)))

related : (n : ℕ) (s : List Source) (file : File) (t : Option Sent) (h relationship : ℕ) → relationship < n → no_relationship (alone n s file t h) relationship ≡ None
unfolding no_relationship
related n s file t h relationship there = none_holds _ _ (lt-leb n relationship there)

pub transfer-free : (n : ℕ) (s : List Source) (file : File) (t : Option Sent) (h relationship : ℕ) → file.«end» ≡ None → relationship < n → refusal_of_transfer (alone n s file t h) 0 relationship ≡ None
transfer-free n s file t h relationship opened there =
    next _ _ (known n s file t h) (next _ _ (still_open n s file t h opened) (next _ _ (related n s file t h relationship there) no_refusal))

pub penalize-free : (n : ℕ) (s : List Source) (file : File) (t : Option Sent) (h : ℕ) → file.«end» ≡ None → refusal_of_penalize (alone n s file t h) 0 ≡ None
penalize-free n s file t h opened = next _ _ (known n s file t h) (next _ _ (still_open n s file t h opened) no_refusal)

unsent : (n : ℕ) (s : List Source) (file : File) (h : ℕ) → already_sent (alone n s file None h) ≡ None
unfolding already_sent
unsent n s file h = refl

pub send-free : (n : ℕ) (s : List Source) (file : File) (h : ℕ) → file.«end» ≡ None → refusal_of_send (alone n s file None h) 0 ≡ None
send-free n s file h opened = next _ _ (known n s file None h) (next _ _ (still_open n s file None h opened) (next _ _ (unsent n s file h) no_refusal))

all_ended : (file : File) → is_none file.«end» ≡ false → not_accounted_from 0 (file ∷ []) ≡ None
unfolding not_accounted_from
all_ended file ended = rw ended refl

pub finish-free : (n : ℕ) (s : List Source) (file : File) (t : Option Sent) (h : ℕ) → is_none file.«end» ≡ false → refusal_of_finish (alone n s file t h) ≡ None
finish-free n s file t h ended = next _ _ (all_ended file ended) no_refusal

-- ---- how it comes to its file

no-entries : entries (empty {X = List ℕ} {R = slice_cmp nat_cmp}) ≡ []
no-entries = none_of_none (entries empty) (sym (len-entries empty) ∙ len-empty (slice_cmp nat_cmp) (List ℕ))
  where
    none_of_none : {X : Type 0} (xs : List X) → length xs ≡ 0 → xs ≡ []
    none_of_none [] h = refl
    none_of_none (x ∷ xs) h = absurd (omega arith)

pub encoded_size-empty : encoded_size empty ≡ COUNT_SIZE
unfolding encoded_size
encoded_size-empty = rw no-entries refl

no_attributes : encoded_size empty ≤ ATTRIBUTES_MAX
no_attributes = omega (arith, encoded_size-empty)

pub create-free : (n : ℕ) → refusal_of_create (bench_of n []) ≡ None
create-free n = next _ _ (roomy n [] (new_file Created empty (New [])) None 0 no_attributes (omega arith)) no_refusal

pub receive-free : (n : ℕ) (bytes : List ℕ) → length bytes ≤ CONTENT_MAX → refusal_of_receive (bench_of n []) bytes ≡ None
receive-free n bytes fits =
    next _ _ (short_content _ fits) (next _ _ (roomy n [] (new_file Received empty (New bytes)) None (0 + length bytes) no_attributes (omega arith)) no_refusal)

-- ---- attributes of a file

pub encoded_size-insert_le : (attributes : AttributeMap) (key value : List ℕ) → encoded_size (insert attributes key value) ≤ encoded_size attributes + pair_size (key, value)
encoded_size-insert_le attributes key value = omega (arith, encoded_size-insert attributes key value)

pub filename_to_come_le : (origin : Origin) (attributes : AttributeMap) → filename_to_come origin attributes ≤ FILENAME_SIZE
filename_to_come_le origin attributes =
    elim (is_made origin && not (contains_key attributes (codes "filename"))) as (λ b. cond b FILENAME_SIZE 0 ≤ FILENAME_SIZE) [ true ↦ omega arith | false ↦ omega arith ]

-- ---- its outcome

-- an origin that names no file of the session
abbrev pub IsItsOwn : Origin → Type 0
IsItsOwn origin = (stand : List (List ℕ)) → origin_in stand origin ≡ origin

stands : (file : File) → is_left_out file ≡ false → standing_from [] 0 (file ∷ []) ≡ (0 ∷ []) ∷ []
unfolding standing_from
stands file stays = rw stays refl

kept : (stand : List (List ℕ)) (file : File) → is_left_out file ≡ false → IsItsOwn file.origin → kept_files stand (file ∷ []) ≡ worked_with file.origin file ∷ []
unfolding kept_files
kept stand file stays own = rw stays (ap (λ origin. worked_with origin file ∷ []) (own stand))

pub outcome-alone : (n : ℕ) (s : List Source) (file : File) (h : ℕ) → is_left_out file ≡ false → IsItsOwn file.origin
    → outcome_of (alone n s file None h) ≡ record { files = worked_with file.origin file ∷ []; sent = None }
unfolding outcome_of sent_in
outcome-alone n s file h stays own =
    let outcome : List Worked → Outcome = λ files. record { files = files; sent = None } in
    ap outcome (kept (standing_from [] 0 (file ∷ [])) file stays own)

pub outcome-sent : (n : ℕ) (s : List Source) (file : File) (name : List ℕ) (h : ℕ) → is_left_out file ≡ false → IsItsOwn file.origin
    → outcome_of (alone n s file (Some (record { place = 0; name = name })) h) ≡ record { files = worked_with file.origin file ∷ []; sent = Some (record { place = 0; name = name }) }
unfolding outcome_of sent_in
outcome-sent n s file name h stays own =
    let sent : Sent = record { place = 0; name = name } in
    let bench = alone n s file (Some sent) h in
    let put : sent_in bench (Some sent) ≡ Some sent = rw (stands file stays) (rw stays refl) in
    let outcome : List Worked → Option Sent → Outcome = λ files sent. record { files = files; sent = sent } in
    ap (λ files. outcome files (sent_in bench (Some sent))) (kept (standing_from [] 0 (file ∷ [])) file stays own)
    ∙ ap (outcome (worked_with file.origin file ∷ [])) put
