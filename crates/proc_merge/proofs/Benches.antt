-- What a session's calls refuse and change at a file that stands among others.
use Rattle.std.proofs.Common.{◌≡◌, ℕ, ◌*◌, ◌<◌, ◌≤◌, Bool, false, List, [], ◌∷◌, ◌++◌, length, None, Some, refl, sym, ◌∙◌, ap, arith, sum_by, length-append}
use Rattle.std.specs.Prelude.{is_some, slice_get, slice_set}
use Rattle.std.specs.FinMap.{empty}
use Rattle.std.specs.List.{All}
use Rattle.std.specs.Option.{option_map_or}
use Rattle.std.proofs.Math.Seq.{get_or-append_seam, set-append_seam}
use Rattle.std.proofs.lemmas.Bool.{le-ltb, lt-leb}
use Rattle.std.proofs.lemmas.List.Elements.{All-append, All-cons, All-nil}
use Rattle.std.proofs.lemmas.List.Sums.{sum_by-le}
use Rattle.std.proofs.lemmas.Option.{slice_get-get_or, slice_get_within}
use Rattle.flowfile_record.specs.declared.TheConstants.{CONTENT_MAX}
use Rattle.flowfile_record.specs.declared.attributes.TheConstants.{ATTRIBUTES_MAX}
use Rattle.flowfile_record.specs.declared.limits.TheConstants.{FILES_MAX, SESSION_ATTRIBUTES_MAX, TAKEN_MAX, WRITTEN_MAX}
use Rattle.flowfile_record.specs.declared.worked.Body.TheVariants.{New}
use Rattle.flowfile_record.specs.declared.worked.Origin.TheVariants.{Created}
use Rattle.process_session.specs.declared.error.SessionError.{SessionError}
use Rattle.process_session.specs.declared.file.File.{File}
use Rattle.process_session.specs.Bench.{Bench, file_size}
use Rattle.process_session.specs.Changes.{change_at}
use Rattle.process_session.specs.Reasons.{Refusal, where_it_holds, first_refusal, unknown_file, already_ended, no_relationship, attributes_too_large, content_too_large, past_limits}
use Rattle.process_session.specs.Refusals.{refusal_of_remove, refusal_of_transfer}
use Rattle.process_session.proofs.Refusing.{pass, no_refusal}
use Rattle.proc_merge.specs.Taken.{IsSmall}

-- what stands where no file does
pub no_file : File
no_file = record {
  origin = Created;
  attributes = empty;
  body = New [];
  «end» = None;
  written = false;
  penalised = false;
  routed = None;
}

-- ---- a file between others

pub at-seam : (before more : List File) (file : File) → slice_get (before ++ file ∷ more) (length before) ≡ Some file
at-seam before more file =
    slice_get-get_or (before ++ file ∷ more) (length before) file (omega (arith, length-append before (file ∷ more)))
    ∙ ap Some (get_or-append_seam before file more file)

pub change-seam : (change : File → File) (before more : List File) (file : File) → change_at change (length before) (before ++ file ∷ more) ≡ before ++ change file ∷ more
unfolding change_at
change-seam change before more file =
    let all = before ++ file ∷ more in
    ap (λ o. option_map_or (λ f. slice_set all (length before) (change f)) o all) (at-seam before more file)
    ∙ set-append_seam before file more (change file)

-- ---- what isn't refused

none_holds : (holds : Bool) (error : SessionError) → holds ≡ false → where_it_holds holds error ≡ None
none_holds holds error isnt = ap (λ b. where_it_holds b error) isnt

pub next : (refusal : Refusal) (refusals : List Refusal) → refusal ≡ None → first_refusal refusals ≡ None → first_refusal (refusal ∷ refusals) ≡ None
next refusal refusals none rest = pass refusal refusals (sym none) ∙ rest

pub known-within : (bench : Bench) (place : ℕ) → place < length bench.files → unknown_file bench place ≡ None
unfolding unknown_file
known-within bench place within = none_holds _ _ (lt-leb (length bench.files) place within)

pub known : (bench : Bench) (place : ℕ) (file : File) → slice_get bench.files place ≡ Some file → unknown_file bench place ≡ None
known bench place file there = known-within bench place (slice_get_within bench.files place file there)

pub still_open : (bench : Bench) (place : ℕ) (file : File) → slice_get bench.files place ≡ Some file → file.«end» ≡ None → already_ended bench place ≡ None
unfolding already_ended
still_open bench place file there opened =
    none_holds _ _ (ap (λ o. option_map_or (λ (f : File). is_some f.«end») o false) there ∙ ap is_some opened)

related : (bench : Bench) (relationship : ℕ) → relationship < bench.relationships → no_relationship bench relationship ≡ None
unfolding no_relationship
related bench relationship there = none_holds _ _ (lt-leb bench.relationships relationship there)

pub few_attributes : (size : ℕ) → size ≤ ATTRIBUTES_MAX → attributes_too_large size ≡ None
unfolding attributes_too_large
few_attributes size le = none_holds _ _ (le-ltb ATTRIBUTES_MAX size le)

pub short_content : (size : ℕ) → size ≤ CONTENT_MAX → content_too_large size ≡ None
unfolding content_too_large
short_content size le = none_holds _ _ (le-ltb CONTENT_MAX size le)

within_limits : (files attributes handed : ℕ) → files ≤ FILES_MAX → attributes ≤ SESSION_ATTRIBUTES_MAX → handed ≤ WRITTEN_MAX → past_limits files attributes handed ≡ None
unfolding past_limits
within_limits files attributes handed few small short =
    rw (le-ltb FILES_MAX files few) (rw (le-ltb SESSION_ATTRIBUTES_MAX attributes small) (rw (le-ltb WRITTEN_MAX handed short) refl))

-- as many files as may be taken leave room for one more
pub roomy : (before : List File) (file : File) (handed : ℕ) → length before ≤ TAKEN_MAX → All IsSmall before → IsSmall file → handed ≤ WRITTEN_MAX
    → past_limits (length (before ++ file ∷ [])) (sum_by file_size (before ++ file ∷ [])) handed ≡ None
roomy before file handed few small fits short =
    let files = before ++ file ∷ [] in
    let each : All IsSmall files = All-append IsSmall before (file ∷ []) small (All-cons IsSmall file [] fits (All-nil IsSmall)) in
    let count : length files ≤ 1001 = omega (arith, few, length-append before (file ∷ [])) in
    let sum : sum_by file_size files ≤ length files * ATTRIBUTES_MAX = sum_by-le file_size ATTRIBUTES_MAX files each in
    within_limits (length files) (sum_by file_size files) handed (omega arith) (omega arith) short

pub transfer-free : (bench : Bench) (place relationship : ℕ) (file : File) → slice_get bench.files place ≡ Some file → file.«end» ≡ None → relationship < bench.relationships → refusal_of_transfer bench place relationship ≡ None
transfer-free bench place relationship file there opened goes =
    next _ _ (known bench place file there) (next _ _ (still_open bench place file there opened) (next _ _ (related bench relationship goes) no_refusal))

pub remove-free : (bench : Bench) (place : ℕ) (file : File) → slice_get bench.files place ≡ Some file → file.«end» ≡ None → refusal_of_remove bench place ≡ None
remove-free bench place file there opened = next _ _ (known bench place file there) (next _ _ (still_open bench place file there opened) no_refusal)
