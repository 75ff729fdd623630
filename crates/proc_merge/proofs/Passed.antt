-- The taken files of a session, passed on one after another.
use Rattle.std.proofs.Common.{◌≡◌, ℕ, ◌+◌, ◌<◌, ◌≤◌, List, [], ◌∷◌, ◌++◌, length, map, take, drop, get_or, None, Some, sym, ◌∙◌, ap, arith, add-one, append_assoc, drop-cons, length-take-le}
use Rattle.std.specs.Prelude.{slice_get}
use Rattle.std.specs.List.{All}
use Rattle.std.proofs.lemmas.List.{get_or-take, length-map, map-append, take_more}
use Rattle.std.proofs.lemmas.List.Elements.{All-get_or}
use Rattle.flowfile_record.specs.declared.worked.End.TheVariants.{To}
use Rattle.process_session.specs.declared.file.File.{File}
use Rattle.process_session.specs.Bench.{Bench}
use Rattle.process_session.specs.Changes.{change_at, with_end}
use Rattle.process_session.specs.Refusals.{refusal_of_transfer}
use Rattle.proc_merge.specs.Passing.{passed_first, file_passed_to}
use Rattle.proc_merge.proofs.Benches.{at-seam, change-seam, transfer-free}

pub left : {A : Type 0} (xs : List A) (i : ℕ) (d : A) → i < length xs → drop i xs ≡ get_or xs i d ∷ drop (i + 1) xs
left xs i d within = rw add-one (drop-cons xs i d within)

-- the first so many of them have ended
abbrev pub with_passed : Bench → (count relationship : ℕ) → Bench
with_passed bench count relationship = record bench { files = passed_first count relationship bench.files }

passed-parts : (count relationship : ℕ) (files : List File) (d : File) → count < length files
    → passed_first count relationship files ≡ map (file_passed_to relationship) (take count files) ++ get_or files count d ∷ drop (count + 1) files
passed-parts count relationship files d within = ap (λ rest. map (file_passed_to relationship) (take count files) ++ rest) (left files count d within)

count-passed : (count relationship : ℕ) (files : List File) → count ≤ length files → length (map (file_passed_to relationship) (take count files)) ≡ count
count-passed count relationship files within = length-map (take count files) (file_passed_to relationship) ∙ length-take-le count files within

pub passed-at : (count relationship : ℕ) (files : List File) (d : File) → count < length files → slice_get (passed_first count relationship files) count ≡ Some (get_or files count d)
passed-at count relationship files d within =
    let before = map (file_passed_to relationship) (take count files) in
    let file = get_or files count d in
    ap (λ fs. slice_get fs count) (passed-parts count relationship files d within)
    ∙ ap (slice_get (before ++ file ∷ drop (count + 1) files)) (sym (count-passed count relationship files (omega (arith, within))))
    ∙ at-seam before (drop (count + 1) files) file

passed-next : (count relationship : ℕ) (files : List File) (d : File) → count < length files → change_at (file_passed_to relationship) count (passed_first count relationship files) ≡ passed_first (count + 1) relationship files
passed-next count relationship files d within =
    let goes = file_passed_to relationship in
    let before = map goes (take count files) in
    let file = get_or files count d in
    let rest = drop (count + 1) files in
    ap (change_at goes count) (passed-parts count relationship files d within)
    ∙ ap (λ n. change_at goes n (before ++ file ∷ rest)) (sym (count-passed count relationship files (omega (arith, within))))
    ∙ change-seam goes before rest file
    ∙ sym (append_assoc before (goes file ∷ []) rest)
    ∙ ap (λ fs. fs ++ rest) (sym (map-append goes (take count files) (file ∷ [])) ∙ ap (map goes) (sym (take_more files count d within)))

-- one more
pub pass-step : (bench now new : Bench) (count relationship : ℕ) (d : File) → count < length bench.files → now ≡ with_passed bench count relationship → new ≡ with_end now count (To relationship) → new ≡ with_passed bench (count + 1) relationship
pass-step bench now new count relationship d within is ended =
    ended ∙ ap (λ b. with_end b count (To relationship)) is
    ∙ ap (λ files. record bench { files = files }) (passed-next count relationship bench.files d within)

pub pass-free : (bench now : Bench) (place count relationship : ℕ) (d : File) → place < count → count ≤ length bench.files → now ≡ with_passed bench place relationship → All (λ (file : File). file.«end» ≡ None) (take count bench.files)
    → relationship < bench.relationships → refusal_of_transfer now place relationship ≡ None
pass-free bench now place count relationship d within few is opened goes =
    let file = get_or bench.files place d in
    let long : place < length (take count bench.files) = omega (arith, within, length-take-le count bench.files few) in
    let file-is : get_or (take count bench.files) place d ≡ file = get_or-take count bench.files place d within in
    let ended : file.«end» ≡ None = sym (ap (λ (f : File). f.«end») file-is) ∙ All-get_or (λ (f : File). f.«end» ≡ None) (take count bench.files) place d long opened in
    ap (λ b. refusal_of_transfer b place relationship) is
    ∙ transfer-free (with_passed bench place relationship) place relationship file (passed-at place relationship bench.files d (omega (arith, within, few))) ended goes
