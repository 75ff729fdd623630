-- How parts end, and the outcome of a session that made them.
use Rattle.std.proofs.Common.{◌≡◌, ℕ, zero, suc, ◌+◌, ◌<◌, Bool, true, false, cond, ◌&&◌, inl, inr, List, [], ◌∷◌, ◌++◌, length, map, None, Some, refl, sym, ◌∙◌, ap, subst, arith, length-append}
use Rattle.std.specs.Prelude.{◌⊎◌, All, Option, IsSomeAnd, is_none, option_map, slice_get, slice_set}
use Rattle.std.specs.Option.{option_map_or}
use Rattle.std.proofs.lemmas.Bool.{and_parts, lt-ltb}
use Rattle.std.proofs.lemmas.List.{length-map}
use Rattle.std.proofs.lemmas.List.Elements.{All-cons, All-head, All-nil, All-tail}
use Rattle.flowfile_record.specs.Outcome.{is_made}
use Rattle.flowfile_record.specs.declared.limits.TheConstants.{FILES_MAX}
use Rattle.flowfile_record.specs.declared.worked.End.{End}
use Rattle.flowfile_record.specs.declared.worked.End.TheVariants.{To, Removed}
use Rattle.flowfile_record.specs.declared.worked.Origin.TheVariants.{Taken as FromQueue, Cloned, Part as PartOf}
use Rattle.flowfile_record.specs.declared.worked.Outcome.{Outcome}
use Rattle.flowfile_record.specs.declared.worked.Worked.{Worked}
use Rattle.machine_model.specs.Making.{or_given_up, passed_on}
use Rattle.machine_model.specs.Parts.{Piece, parted}
use Rattle.process_session.specs.declared.file.File.{File}
use Rattle.process_session.specs.Bench.{Bench, bench_attributes, bench_of, taken_file}
use Rattle.process_session.specs.Changes.{change_at, with_end}
use Rattle.process_session.specs.Finish.{is_left_out, ends_removed, kept_files, origin_in, outcome_of, sent_in, standing_from, worked_of, worked_with}
use Rattle.process_session.specs.Reasons.{not_accounted_from}
use Rattle.process_session.specs.Refusals.{refusal_of_finish, refusal_of_remove, refusal_of_transfer}
use Rattle.process_session.proofs.Refusing.{no_refusal}
use Rattle.processor_api.specs.Sessions.{BeganWithOne, EndsWith}
use Rattle.processor_api.specs.Cloning.{file_ended}
use Rattle.proc_text.specs.Parting.{AddsParts, HasOpen, IsPart, behind_first, ended_as, first_ended, opened, parts_of, taken_in, bench_with_files, with_first_ended}
use Rattle.processor_api.proofs.Clones.{change-first, known, next, starts, still_open, taken_names, taken_stays, transfer-free}

-- ---- one part after another ends

open-at : (how : End) (k : ℕ) (files others : List File) → k < length files → All (λ file. file.«end» ≡ None) files → IsSomeAnd (slice_get (first_ended how k (files ++ others)) k) (λ file. file.«end» ≡ None)
open-at how k [] others within all = absurd (omega (arith, within))
open-at how zero (file ∷ files) others within all = All-head (λ (f : File). f.«end» ≡ None) file files all
open-at how (suc k) (file ∷ files) others within all = open-at how k files others (omega (arith, within)) (All-tail (λ (f : File). f.«end» ≡ None) file files all)

change-behind : (change : File → File) (k : ℕ) (first : File) (files after : List File) → change_at change k files ≡ after → change_at change (suc k) (first ∷ files) ≡ first ∷ after
unfolding change_at
change-behind change k first files after is = of_option (slice_get files k) is
  where
    of_option : (o : Option File) → option_map_or (λ f. slice_set files k (change f)) o files ≡ after → option_map_or (λ f. slice_set (first ∷ files) (suc k) (change f)) o (first ∷ files) ≡ first ∷ after
    of_option None is = ap (λ (fs : List File). first ∷ fs) is
    of_option (Some file) is = ap (λ (fs : List File). first ∷ fs) is

end-next : (how : End) (k : ℕ) (files : List File) → k < length files → change_at (ended_as how) k (first_ended how k files) ≡ first_ended how (suc k) files
end-next how k [] within = absurd (omega (arith, within))
end-next how zero (file ∷ files) within = change-first (ended_as how) file files
end-next how (suc k) (file ∷ files) within =
    change-behind (ended_as how) k (ended_as how file) (first_ended how k files) (first_ended how (suc k) files) (end-next how k files (omega (arith, within)))

files-are : (how : End) (bench now : Bench) (count k : ℕ) (has : HasOpen count bench) → now ≡ with_first_ended how k bench → now.files ≡ has.first ∷ first_ended how k (has.parts ++ has.others)
files-are how bench now count k has is = ap (λ (b : Bench). b.files) is ∙ ap (behind_first (first_ended how k)) has.files

pub part-open-at : (how : End) (bench now : Bench) (count k place : ℕ) → HasOpen count bench → k < count → place ≡ suc k → now ≡ with_first_ended how k bench → IsSomeAnd (slice_get now.files place) (λ file. file.«end» ≡ None)
part-open-at how bench now count k place has below at is =
    let P : List File → ℕ → Type 0 = λ files place. IsSomeAnd (slice_get files place) (λ file. file.«end» ≡ None) in
    subst (λ files. P files place) (sym (files-are how bench now count k has is))
    (subst (P (has.first ∷ first_ended how k (has.parts ++ has.others))) (sym at) (open-at how k has.parts has.others (omega (arith, below, has.many)) has.each))

pub end-more : (how : End) (bench now new : Bench) (count k place next : ℕ) → HasOpen count bench → k < count → place ≡ suc k → next ≡ suc k → now ≡ with_first_ended how k bench → new ≡ with_end now place how → new ≡ with_first_ended how next bench
end-more how bench now new count k place next has below at then is new-is =
    let rest = has.parts ++ has.others in
    let changed : change_at (ended_as how) (suc k) (behind_first (first_ended how k) bench.files) ≡ behind_first (first_ended how (suc k)) bench.files =
    ap (λ files. change_at (ended_as how) (suc k) (behind_first (first_ended how k) files)) has.files
    ∙ change-behind (ended_as how) k has.first (first_ended how k rest) (first_ended how (suc k) rest) (end-next how k rest (omega (arith, below, has.many, length-append has.parts has.others)))
    ∙ ap (behind_first (first_ended how (suc k))) (sym has.files) in
    new-is ∙ ap (λ b. with_end b place how) is ∙ ap (λ p. with_end (with_first_ended how k bench) p how) at
    ∙ ap (λ files. record bench { files = files }) changed ∙ ap (λ n. with_first_ended how n bench) (sym then)

-- it isn't refused
pub open-there : (o : Option File) → IsSomeAnd o (λ file. file.«end» ≡ None) → (file : File) × (o ≡ Some file) × (file.«end» ≡ None)
open-there None h = absurd h
open-there (Some file) h = (file, refl, h)

pub part-transfer : (bench : Bench) (place relationship : ℕ) → IsSomeAnd (slice_get bench.files place) (λ file. file.«end» ≡ None) → relationship < bench.relationships → refusal_of_transfer bench place relationship ≡ None
part-transfer bench place relationship is goes =
    let there = open-there (slice_get bench.files place) is in
    transfer-free bench place relationship there.0 there.1 there.2 goes

pub part-remove : (bench : Bench) (place : ℕ) → IsSomeAnd (slice_get bench.files place) (λ file. file.«end» ≡ None) → refusal_of_remove bench place ≡ None
part-remove bench place is =
    let there = open-there (slice_get bench.files place) is in
    next _ _ (known bench place there.0 there.1) (next _ _ (still_open bench place there.0 there.1 there.2) no_refusal)

-- ---- all of them

all-open : (parts : List Worked) → All (λ file. file.«end» ≡ None) (map opened parts)
all-open [] = All-nil (λ (f : File). f.«end» ≡ None)
all-open (part ∷ parts) = All-cons (λ (f : File). f.«end» ≡ None) (opened part) (map opened parts) refl (all-open parts)

pub adds-open : (before after : Bench) (relationship : ℕ) (pieces : List Piece) (made : ℕ) → BeganWithOne before → AddsParts before after relationship pieces made → HasOpen made after
adds-open before after relationship pieces made took adds = record {
  first = taken_file 0 took.taken;
  parts = map opened adds.parts;
  others = adds.dropped;
  files = ap (λ (b : Bench). b.files) adds.is ∙ ap (λ (b : Bench). b.files ++ (map opened adds.parts ++ adds.dropped)) took.begun;
  many = length-map adds.parts opened ∙ adds.many;
  each = all-open adds.parts;
}

first-all : (how : End) (files others : List File) → first_ended how (length files) (files ++ others) ≡ map (ended_as how) files ++ others
first-all how [] others = refl
first-all how (file ∷ files) others = ap (λ (fs : List File). ended_as how file ∷ fs) (first-all how files others)

-- ---- the taken file ends last

abbrev done_bench : Bench → Worked → List File → Bench
done_bench before file files = record { relationships = before.relationships; sources = before.sources; files = file_ended file ∷ files; sent = None; handed = 0 }

-- the session, as its parts have ended
abbrev parts_ended : End → ℕ → List File → Bench → Bench
parts_ended how made files bench = with_first_ended how made (bench_with_files bench files)

pub last-transfer : (how : End) (before now mid : Bench) (made relationship : ℕ) (files : List File) → BeganWithOne before → now ≡ bench_with_files before files → mid ≡ with_first_ended how made now → relationship < before.relationships
    → refusal_of_transfer mid 0 relationship ≡ None
last-transfer how before now mid made relationship files took is ends goes =
    let whole : mid ≡ parts_ended how made files (bench_of before.relationships (took.taken ∷ [])) = ends ∙ ap (with_first_ended how made) is ∙ ap (parts_ended how made files) took.begun in
    let there : slice_get mid.files 0 ≡ Some (taken_file 0 took.taken) = ap (λ (b : Bench). slice_get b.files 0) whole in
    transfer-free mid 0 relationship (taken_file 0 took.taken) there refl (omega (arith, goes, ap (λ (b : Bench). b.relationships) whole))

done-is : (how : End) (before now mid after : Bench) (made relationship : ℕ) (parts dropped : List File) → BeganWithOne before → length parts ≡ made → now ≡ bench_with_files before (parts ++ dropped) → mid ≡ with_first_ended how made now → after ≡ with_end mid 0 (To relationship)
    → after ≡ done_bench before (passed_on 0 (bench_attributes before 0) false relationship) (map (ended_as how) parts ++ dropped)
done-is how before now mid after made relationship parts dropped took many is ends last =
    let n = before.relationships in
    let bench = bench_of n (took.taken ∷ []) in
    let files = parts ++ dropped in
    let taken = taken_file 0 took.taken in
    let with : List File → Bench = λ files. record bench { files = files } in
    last ∙ ap (λ b. with_end b 0 (To relationship)) (ends ∙ ap (with_first_ended how made) is ∙ ap (parts_ended how made files) took.begun)
    ∙ ap with (change-first (ended_as (To relationship)) taken (first_ended how made files))
    ∙ ap (λ fs. with (ended_as (To relationship) taken ∷ fs)) (ap (λ m. first_ended how m files) (sym many) ∙ first-all how parts dropped)
    ∙ ap (λ s. record bench { sources = s; files = file_ended (passed_on 0 took.taken.attributes false relationship) ∷ (map (ended_as how) parts ++ dropped) }) (sym (ap (λ (b : Bench). b.sources) took.begun))
    ∙ ap (λ a. done_bench before (passed_on 0 a false relationship) (map (ended_as how) parts ++ dropped)) (sym (ap (λ b. bench_attributes b 0) took.begun))

-- ---- the outcome

and-false : (b : Bool) → (b && false) ≡ false
and-false true = refl
and-false false = refl

part-stays : (relationship : ℕ) (part : Worked) → IsPart relationship part → is_left_out (file_ended part) ≡ false
part-stays relationship part is = ap (λ (e : End). is_made part.origin && ends_removed (Some e)) is.goes ∙ and-false (is_made part.origin)

part-names : (rest : List (List ℕ)) (relationship : ℕ) (part : Worked) → IsPart relationship part → worked_of ((0 ∷ []) ∷ rest) (file_ended part) ≡ part
part-names rest relationship part is = ap (λ o. worked_with o (file_ended part)) (same is.origin)
  where
    same : ((part.origin ≡ Cloned 0) ⊎ (part.origin ≡ PartOf 0)) → origin_in ((0 ∷ []) ∷ rest) part.origin ≡ part.origin
    same (inl e) = ap (origin_in ((0 ∷ []) ∷ rest)) e ∙ sym e
    same (inr e) = ap (origin_in ((0 ∷ []) ∷ rest)) e ∙ sym e

kept_parts : (rest : List (List ℕ)) (relationship : ℕ) (parts : List Worked) (dropped : List File) → All (IsPart relationship) parts → All (λ file. is_left_out file ≡ true) dropped → kept_files ((0 ∷ []) ∷ rest) (map file_ended parts ++ dropped) ≡ parts
unfolding kept_files
kept_parts rest relationship [] [] all out = refl
kept_parts rest relationship [] (file ∷ dropped) all out =
    let stand : List (List ℕ) = (0 ∷ []) ∷ rest in
    let more = kept_files stand dropped in
    ap (λ b. cond b more (worked_of stand file ∷ more)) (All-head (λ (f : File). is_left_out f ≡ true) file dropped out)
    ∙ kept_parts rest relationship [] dropped all (All-tail (λ (f : File). is_left_out f ≡ true) file dropped out)
kept_parts rest relationship (part ∷ parts) dropped all out =
    let here = All-head (IsPart relationship) part parts all in
    let stand : List (List ℕ) = (0 ∷ []) ∷ rest in
    let more = kept_files stand (map file_ended parts ++ dropped) in
    ap (λ b. cond b more (worked_of stand (file_ended part) ∷ more)) (part-stays relationship part here)
    ∙ ap (λ w. w ∷ more) (part-names rest relationship part here)
    ∙ ap (λ (ws : List Worked). part ∷ ws) (kept_parts rest relationship parts dropped (All-tail (IsPart relationship) part parts all) out)

out-ended : (file : File) → is_left_out file ≡ true → is_none file.«end» ≡ false
out-ended file out = of_end file.«end» (and_parts (is_made file.origin) (ends_removed file.«end») out).1
  where
    of_end : (o : Option End) → ends_removed o ≡ true → is_none o ≡ false
    of_end None h = cc
    of_end (Some how) h = refl

all-ended : (place : ℕ) (files : List Worked) (dropped : List File) → All (λ file. is_left_out file ≡ true) dropped → not_accounted_from place (map file_ended files ++ dropped) ≡ None
unfolding not_accounted_from
all-ended place [] [] out = refl
all-ended place [] (file ∷ dropped) out =
    rw (out-ended file (All-head (λ (f : File). is_left_out f ≡ true) file dropped out)) (all-ended (place + 1) [] dropped (All-tail (λ (f : File). is_left_out f ≡ true) file dropped out))
all-ended place (file ∷ files) dropped out = all-ended (place + 1) files dropped out

done-outcome : (before : Bench) (relationship : ℕ) (file : Worked) (parts : List Worked) (dropped : List File) → file.origin ≡ FromQueue 0 → All (IsPart relationship) parts → All (λ file. is_left_out file ≡ true) dropped
    → outcome_of (done_bench before file (map file_ended parts ++ dropped)) ≡ record { files = file ∷ parts; sent = None }
unfolding outcome_of sent_in kept_files standing_from
done-outcome before relationship file parts dropped taken all out =
    let files = map file_ended parts ++ dropped in
    let outcome : List Worked → Outcome = λ files. record { files = files; sent = None } in
    let stand : standing_from [] 0 (file_ended file ∷ files) ≡ standing_from ((0 ∷ []) ∷ []) 1 files = rw (taken_stays file taken) refl in
    let first = starts (0 ∷ []) [] 1 files in
    let after = (0 ∷ []) ∷ first.0 in
    let more = kept_files after files in
    ap outcome (ap (λ s. kept_files s (file_ended file ∷ files)) (stand ∙ first.1)
    ∙ ap (λ b. cond b more (worked_of after (file_ended file) ∷ more)) (taken_stays file taken)
    ∙ ap (λ w. w ∷ more) (taken_names after file taken)
    ∙ ap (λ (ws : List Worked). file ∷ ws) (kept_parts first.0 relationship parts dropped all out))

ends-done : (before after : Bench) (relationship : ℕ) (file : Worked) (parts : List Worked) (dropped : List File) → file.origin ≡ FromQueue 0 → All (IsPart relationship) parts → All (λ file. is_left_out file ≡ true) dropped
    → after ≡ done_bench before file (map file_ended parts ++ dropped) → EndsWith before after (record { files = file ∷ parts; sent = None })
ends-done before after relationship file parts dropped taken all out is = record {
  finished = ap refusal_of_finish is ∙ next _ _ (all-ended 0 (file ∷ parts) dropped out) no_refusal;
  kept = record { relationships = ap (λ (b : Bench). b.relationships) is; sources = ap (λ (b : Bench). b.sources) is };
  outcome = ap outcome_of is ∙ done-outcome before relationship file parts dropped taken all out;
}

-- ---- all parts were made, or they were removed

parts-go : (relationship : ℕ) (parts : List Worked) → All (IsPart relationship) parts → map (ended_as (To relationship)) (map opened parts) ≡ map file_ended parts
parts-go relationship [] all = refl
parts-go relationship (part ∷ parts) all =
    let here = All-head (IsPart relationship) part parts all in
    ap (λ (e : End). record (file_ended part) { «end» = Some e } ∷ map (ended_as (To relationship)) (map opened parts)) (sym here.goes)
    ∙ ap (λ (fs : List File). file_ended part ∷ fs) (parts-go relationship parts (All-tail (IsPart relationship) part parts all))

part-removed : (relationship : ℕ) (part : Worked) → IsPart relationship part → is_left_out (ended_as Removed (opened part)) ≡ true
part-removed relationship part is = of_origin is.origin
  where
    of_origin : ((part.origin ≡ Cloned 0) ⊎ (part.origin ≡ PartOf 0)) → (is_made part.origin && true) ≡ true
    of_origin (inl e) = ap (λ o. is_made o && true) e
    of_origin (inr e) = ap (λ o. is_made o && true) e

parts-removed : (relationship : ℕ) (parts : List Worked) (dropped : List File) → All (IsPart relationship) parts → All (λ file. is_left_out file ≡ true) dropped → All (λ file. is_left_out file ≡ true) (map (ended_as Removed) (map opened parts) ++ dropped)
parts-removed relationship [] dropped all out = out
parts-removed relationship (part ∷ parts) dropped all out =
    All-cons (λ (f : File). is_left_out f ≡ true) (ended_as Removed (opened part)) (map (ended_as Removed) (map opened parts) ++ dropped)
    (part-removed relationship part (All-head (IsPart relationship) part parts all))
    (parts-removed relationship parts dropped (All-tail (IsPart relationship) part parts all) out)

abbrev pub EndsParted : (before after : Bench) (original parts : ℕ) → List Piece → Type 0
EndsParted before after original parts pieces = EndsWith before after (or_given_up 2 (taken_in before ∷ []) (parted original parts (taken_in before) pieces))

some-parted : (before : Bench) (original relationship : ℕ) (pieces : List Piece) (parts : Option (List Worked)) → length pieces < FILES_MAX → parts_of before relationship pieces ≡ parts
    → parted original relationship (taken_in before) pieces ≡ option_map (λ made. record { files = passed_on 0 (taken_in before).attributes false original ∷ made; sent = None }) parts
some-parted before original relationship pieces parts few is =
    let outcome : Option (List Worked) → Option Outcome = option_map (λ made. record { files = passed_on 0 (taken_in before).attributes false original ∷ made; sent = None }) in
    ap (λ b. cond b (outcome (parts_of before relationship pieces)) None) (lt-ltb (length pieces) FILES_MAX few) ∙ ap outcome is

pub all-parted : (before now mid after : Bench) (original relationship : ℕ) (pieces : List Piece) (made : ℕ) → BeganWithOne before → length pieces < FILES_MAX → AddsParts before now relationship pieces made → made ≡ length pieces
    → mid ≡ with_first_ended (To relationship) made now → after ≡ with_end mid 0 (To original) → EndsParted before after original relationship pieces
all-parted before now mid after original relationship pieces made took few adds all ends last =
    let file = passed_on 0 (bench_attributes before 0) false original in
    let done = done-is (To relationship) before now mid after made original (map opened adds.parts) adds.dropped took (length-map adds.parts opened ∙ adds.many) adds.is ends last in
    let is : after ≡ done_bench before file (map file_ended adds.parts ++ adds.dropped) = done ∙ ap (λ fs. done_bench before file (fs ++ adds.dropped)) (parts-go relationship adds.parts adds.each) in
    subst (EndsWith before after) (sym (ap (or_given_up 2 (taken_in before ∷ [])) (some-parted before original relationship pieces (Some adds.parts) few (adds.all all).1)))
    (ends-done before after relationship file adds.parts adds.dropped refl adds.each adds.left_out is)

pub none-parted : (before now mid after : Bench) (original relationship : ℕ) (pieces : List Piece) (made : ℕ) → BeganWithOne before → length pieces < FILES_MAX → AddsParts before now relationship pieces made → made < length pieces
    → mid ≡ with_first_ended Removed made now → after ≡ with_end mid 0 (To 2) → EndsParted before after original relationship pieces
none-parted before now mid after original relationship pieces made took few adds fewer ends last =
    let file = passed_on 0 (bench_attributes before 0) false 2 in
    let done = done-is Removed before now mid after made 2 (map opened adds.parts) adds.dropped took (length-map adds.parts opened ∙ adds.many) adds.is ends last in
    subst (EndsWith before after) (sym (ap (or_given_up 2 (taken_in before ∷ [])) (some-parted before original relationship pieces None few (adds.fewer fewer))))
    (ends-done before after relationship file [] (map (ended_as Removed) (map opened adds.parts) ++ adds.dropped) refl (All-nil (IsPart relationship)) (parts-removed relationship adds.parts adds.dropped adds.each adds.left_out) done)
