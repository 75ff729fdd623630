-- The contents of taken files, a file at a time.
use Rattle.std.proofs.Common.{◌≡◌, ℕ, ◌+◌, ◌<◌, ◌≤◌, zero, suc, List, [], ◌∷◌, ◌++◌, length, map, drop, get_or, Option, None, Some, refl, sym, ◌∙◌, ap, arith, append_assoc}
use Rattle.std.specs.Prelude.{Err, Result, is_none, option_and_then, slice_get}
use Rattle.std.specs.List.{All}
use Rattle.std.specs.Option.{option_map}
use Rattle.std.specs.Result.{result_err}
use Rattle.std.proofs.lemmas.List.{length-map}
use Rattle.std.proofs.lemmas.List.Elements.{All-cons, All-nil}
use Rattle.std.proofs.lemmas.Option.{slice_get-get_or, slice_get-map}
use Rattle.process_session.specs.declared.error.SessionError.{SessionError}
use Rattle.process_session.specs.declared.file.File.{File}
use Rattle.process_session.specs.declared.file.Source.{Source}
use Rattle.process_session.specs.declared.file.Taken.{Taken}
use Rattle.process_session.specs.Bench.{Bench, bench_of, body_bytes, bench_bytes, taken_source, taken_file, files_taken}
use Rattle.process_session.specs.Reasons.{no_bytes, where_it_holds}
use Rattle.process_session.specs.Refusals.{refusal_of_content}
use Rattle.process_session.proofs.Refusing.{no_refusal}
use Rattle.proc_merge.specs.Taken.{TookSome, bytes_read}
use Rattle.proc_merge.proofs.Benches.{known-within, next}
use Rattle.proc_merge.proofs.Passed.{left}

-- ---- the files as they are taken

pub taken-at : (from place : ℕ) (taken : List Taken) → slice_get (files_taken from taken) place ≡ option_map (taken_file (from + place)) (slice_get taken place)
taken-at from place [] = refl
taken-at from zero (one ∷ taken) =
    let first : from ≡ from + 0 = omega arith in
    ap (λ p. Some (taken_file p one)) first
taken-at from (suc place) (one ∷ taken) =
    let later : (from + 1) + place ≡ from + suc place = omega arith in
    taken-at (from + 1) place taken ∙ ap (λ p. option_map (taken_file p) (slice_get taken place)) later

pub count-taken : (from : ℕ) (taken : List Taken) → length (files_taken from taken) ≡ length taken
count-taken from [] = refl
count-taken from (one ∷ taken) = ap (λ n. suc n) (count-taken (from + 1) taken)

abbrev pub IsOpen : File → Type 0
IsOpen file = file.«end» ≡ None

-- none of them has ended
pub open-taken : (from : ℕ) (taken : List Taken) → All IsOpen (files_taken from taken)
open-taken from [] = All-nil IsOpen
open-taken from (one ∷ taken) = All-cons IsOpen (taken_file from one) (files_taken (from + 1) taken) refl (open-taken (from + 1) taken)

-- as many files as sources
pub as-many : (bench : Bench) → TookSome bench → length bench.files ≡ length bench.sources
as-many bench took =
    ap (λ (b : Bench). length b.files) took.begun ∙ count-taken 0 took.taken ∙ sym (length-map took.taken taken_source) ∙ sym (ap (λ (b : Bench). length b.sources) took.begun)

pub many-taken : (bench : Bench) (took : TookSome bench) → length bench.sources ≡ length took.taken
many-taken bench took = ap (λ (b : Bench). length b.sources) took.begun ∙ length-map took.taken taken_source

bytes-taken : (n : ℕ) (taken : List Taken) (place : ℕ) → bench_bytes (bench_of n taken) place ≡ option_and_then (λ source. source.bytes) (slice_get (map taken_source taken) place)
bytes-taken n taken place =
    let sources = map taken_source taken in
    let at : 0 + place ≡ place = omega arith in
    ap (option_and_then (λ (file : File). body_bytes sources file.body)) (taken-at 0 place taken ∙ ap (λ p. option_map (taken_file p) (slice_get taken place)) at)
    ∙ by_taken (slice_get taken place) refl
  where
    by_taken : (o : Option Taken) → slice_get taken place ≡ o
        → option_and_then (λ (file : File). body_bytes (map taken_source taken) file.body) (option_map (taken_file place) o) ≡ option_and_then (λ (source : Source). source.bytes) (slice_get (map taken_source taken) place)
    by_taken None is = sym (ap (option_and_then (λ (source : Source). source.bytes)) (slice_get-map taken_source taken place ∙ ap (option_map taken_source) is))
    by_taken (Some one) is = refl

pub bytes-there : (bench : Bench) (place : ℕ) (d : Source) → TookSome bench → place < length bench.sources → bench_bytes bench place ≡ (get_or bench.sources place d).bytes
bytes-there bench place d took within =
    ap (λ b. bench_bytes b place) took.begun ∙ bytes-taken bench.relationships took.taken place
    ∙ ap (λ s. option_and_then (λ (source : Source). source.bytes) (slice_get s place)) (sym (ap (λ (b : Bench). b.sources) took.begun))
    ∙ ap (option_and_then (λ (source : Source). source.bytes)) (slice_get-get_or bench.sources place d within)

there : (bench : Bench) (place : ℕ) (bytes : List ℕ) → bench_bytes bench place ≡ Some bytes → no_bytes bench place ≡ None
unfolding no_bytes
there bench place bytes is = ap (λ o. where_it_holds (is_none o) SessionError.NoBytes) is

pub unread : {A : Type 0} (bench : Bench) (place : ℕ) (result : Result A SessionError) (error : SessionError) → place < length bench.files → result ≡ Err error → result_err result ≡ refusal_of_content bench place → bench_bytes bench place ≡ None
unread {A = A} bench place result error within is refused = by_bytes (bench_bytes bench place) refl
  where
    by_bytes : (o : Option (List ℕ)) → bench_bytes bench place ≡ o → bench_bytes bench place ≡ None
    by_bytes None there_is = there_is
    by_bytes (Some bytes) there_is =
        let free : refusal_of_content bench place ≡ None = next _ _ (known-within bench place within) (next _ _ (there bench place bytes there_is) no_refusal) in
        let no : Some error ≡ None = sym (ap result_err is) ∙ refused ∙ free in
        cc

-- what stands where no source does
pub no_source : Source
no_source = record { uuid = []; size = 0; bytes = None }

-- ---- a loop over them

-- these bytes, and behind them what else is read
abbrev pub and_read : List ℕ → Option (List ℕ) → Option (List ℕ)
and_read bytes rest = option_map (λ more. bytes ++ more) rest

one_more : (bytes content : List ℕ) (rest : Option (List ℕ)) → and_read bytes (option_map (λ more. content ++ more) rest) ≡ and_read (bytes ++ content) rest
one_more bytes content None = refl
one_more bytes content (Some more) = ap Some (sym (append_assoc bytes content more))

pub read-more : (sources : List Source) (place : ℕ) (d : Source) (bytes content : List ℕ) → place < length sources → (get_or sources place d).bytes ≡ Some content
    → and_read bytes (bytes_read (drop place sources)) ≡ and_read (bytes ++ content) (bytes_read (drop (place + 1) sources))
read-more sources place d bytes content within is =
    let rest = bytes_read (drop (place + 1) sources) in
    ap (λ s. and_read bytes (bytes_read s)) (left sources place d within)
    ∙ ap (λ o. and_read bytes (option_and_then (λ bytes. option_map (λ more. bytes ++ more) rest) o)) is
    ∙ one_more bytes content rest

pub read-stops : (sources : List Source) (place : ℕ) (d : Source) (bytes : List ℕ) → place < length sources → (get_or sources place d).bytes ≡ None → and_read bytes (bytes_read (drop place sources)) ≡ None
read-stops sources place d bytes within is =
    let rest = bytes_read (drop (place + 1) sources) in
    ap (λ s. and_read bytes (bytes_read s)) (left sources place d within)
    ∙ ap (λ o. and_read bytes (option_and_then (λ bytes. option_map (λ more. bytes ++ more) rest) o)) is

pub drop-past : {A : Type 0} (xs : List A) (n : ℕ) → length xs ≤ n → drop n xs ≡ []
drop-past [] zero long = refl
drop-past [] (suc n) long = refl
drop-past (x ∷ xs) zero long = absurd (omega arith)
drop-past (x ∷ xs) (suc n) long = drop-past xs n (omega arith)
