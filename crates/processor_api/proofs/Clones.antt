-- A session of one taken file and its clones: what its calls refuse and change, and its outcome.
use Rattle.std.proofs.Common.{◌≡◌, ℕ, ◌+◌, ◌*◌, ◌<◌, ◌≤◌, Bool, true, false, cond, List, [], ◌∷◌, ◌++◌, length, map, None, Some, refl, sym, ◌∙◌, ap, subst, arith, sum_by, length-append, append_assoc}
use Rattle.std.specs.Prelude.{◌&&◌, is_some, slice_get, slice_set}
use Rattle.std.specs.List.{All}
use Rattle.std.specs.Option.{option_map_or}
use Rattle.std.proofs.Math.Seq.{get_or-append_seam, set-append_seam}
use Rattle.std.proofs.lemmas.Bool.{le-ltb, lt-leb, leb-true}
use Rattle.std.proofs.lemmas.List.{append-nil, length-map, map-append}
use Rattle.std.proofs.lemmas.List.Elements.{All-append, All-cons, All-head, All-nil, All-tail}
use Rattle.std.proofs.lemmas.List.Sums.{sum_by-le}
use Rattle.std.proofs.lemmas.Option.{slice_get-get_or, slice_get_within}
use Rattle.flowfile_record.specs.Attributes.{AttributeMap, encoded_size}
use Rattle.flowfile_record.specs.declared.attributes.TheConstants.{ATTRIBUTES_MAX}
use Rattle.flowfile_record.specs.declared.limits.TheConstants.{FILES_MAX, SESSION_ATTRIBUTES_MAX, WRITTEN_MAX}
use Rattle.flowfile_record.specs.declared.worked.Body.TheVariants.{Whole, New}
use Rattle.flowfile_record.specs.declared.worked.End.{End}
use Rattle.flowfile_record.specs.declared.worked.End.TheVariants.{To}
use Rattle.flowfile_record.specs.declared.worked.Origin.TheVariants.{Taken as FromQueue, Cloned}
use Rattle.flowfile_record.specs.declared.worked.Outcome.{Outcome}
use Rattle.flowfile_record.specs.declared.worked.Worked.{Worked}
use Rattle.flowfile_record.specs.Outcome.{is_made, parents_of}
use Rattle.machine_model.specs.Making.{may_have, passed_on}
use Rattle.process_session.specs.declared.error.SessionError.{SessionError}
use Rattle.process_session.specs.declared.file.File.{File}
use Rattle.process_session.specs.declared.file.Source.{Source}
use Rattle.process_session.specs.declared.file.Taken.{Taken}
use Rattle.process_session.specs.Bench.{Bench, bench_of, bench_attributes, body_at, file_size, made_size, taken_source, taken_file}
use Rattle.process_session.specs.Changes.{change_at, new_file, with_changed, with_clone, with_end, with_made, with_route}
use Rattle.process_session.specs.Finish.{is_left_out, ends_removed, kept_files, origin_in, outcome_of, sent_in, standing_for, standing_from, worked_of, worked_with}
use Rattle.process_session.specs.Reasons.{Refusal, where_it_holds, first_refusal, unknown_file, already_ended, no_relationship, attributes_too_large, past_limits, session_full, not_accounted_from}
use Rattle.process_session.specs.Refusals.{refusal_of_clone, refusal_of_finish, refusal_of_route, refusal_of_transfer}
use Rattle.process_session.proofs.Refusing.{pass, no_refusal}
use Rattle.machine_model.specs.RouteOnAttribute.{routed_file}
use Rattle.machine_model.specs.Kinds.{take_rule_of, relationships_of}
use Rattle.machine_model.specs.declared.given.Given.{Given}
use Rattle.machine_model.specs.declared.kind.Kind.{Kind}
use Rattle.machine_model.specs.declared.kind.TakeRule.TheVariants.{One}
use Rattle.processor_api.specs.Acts.{Begins}
use Rattle.processor_api.proofs.Began.{one-begins}
use Rattle.processor_api.specs.Sessions.{HasFirstTaken, BeganWithOne, EndsWith}
use Rattle.processor_api.specs.Cloning.{file_ended, with_ended}

-- ---- the file at the end of a list

abbrev pub with_file : Bench → File → Bench
with_file bench file = record bench { files = bench.files ++ file ∷ [] }

pub at-end : (files : List File) (file : File) → slice_get (files ++ file ∷ []) (length files) ≡ Some file
at-end files file =
    slice_get-get_or (files ++ file ∷ []) (length files) file (omega (arith, length-append files (file ∷ [])))
    ∙ ap Some (get_or-append_seam files file [] file)

change-end : (change : File → File) (files : List File) (file : File) → change_at change (length files) (files ++ file ∷ []) ≡ files ++ change file ∷ []
unfolding change_at
change-end change files file =
    let all = files ++ file ∷ [] in
    ap (λ o. option_map_or (λ f. slice_set all (length files) (change f)) o all) (at-end files file)
    ∙ set-append_seam files file [] (change file)

pub changed-end : (bench : Bench) (file : File) (change : File → File) → with_changed (with_file bench file) (length bench.files) change ≡ with_file bench (change file)
changed-end bench file change = ap (λ files. record bench { files = files }) (change-end change bench.files file)

pub change-first : (change : File → File) (file : File) (more : List File) → change_at change 0 (file ∷ more) ≡ change file ∷ more
unfolding change_at
change-first change file more = refl

-- ---- what isn't refused

pub none_holds : (holds : Bool) (error : SessionError) → holds ≡ false → where_it_holds holds error ≡ None
none_holds holds error isnt = ap (λ b. where_it_holds b error) isnt

pub next : (refusal : Refusal) (refusals : List Refusal) → refusal ≡ None → first_refusal refusals ≡ None → first_refusal (refusal ∷ refusals) ≡ None
next refusal refusals none rest = pass refusal refusals (sym none) ∙ rest

pub known : (bench : Bench) (place : ℕ) (file : File) → slice_get bench.files place ≡ Some file → unknown_file bench place ≡ None
unfolding unknown_file
known bench place file there = none_holds _ _ (lt-leb (length bench.files) place (slice_get_within bench.files place file there))

pub still_open : (bench : Bench) (place : ℕ) (file : File) → slice_get bench.files place ≡ Some file → file.«end» ≡ None → already_ended bench place ≡ None
unfolding already_ended
still_open bench place file there opened =
    none_holds _ _ (ap (λ o. option_map_or (λ (f : File). is_some f.«end») o false) there ∙ ap is_some opened)

pub related : (bench : Bench) (relationship : ℕ) → relationship < bench.relationships → no_relationship bench relationship ≡ None
unfolding no_relationship
related bench relationship there = none_holds _ _ (lt-leb bench.relationships relationship there)

pub transfer-free : (bench : Bench) (place relationship : ℕ) (file : File) → slice_get bench.files place ≡ Some file → file.«end» ≡ None → relationship < bench.relationships → refusal_of_transfer bench place relationship ≡ None
transfer-free bench place relationship file there opened goes =
    next _ _ (known bench place file there) (next _ _ (still_open bench place file there opened) (next _ _ (related bench relationship goes) no_refusal))

pub route-free : (bench : Bench) (place relationship : ℕ) (file : File) → slice_get bench.files place ≡ Some file → file.«end» ≡ None → relationship < bench.relationships → refusal_of_route bench place relationship ≡ None
route-free bench place relationship file there opened goes =
    next _ _ (known bench place file there) (next _ _ (still_open bench place file there opened) (next _ _ (related bench relationship goes) no_refusal))

-- ---- what is done with the file at the end

pub end-transfer : (bench now : Bench) (file : File) (place relationship : ℕ) → now ≡ with_file bench file → place ≡ length bench.files → file.«end» ≡ None → relationship < bench.relationships → refusal_of_transfer now place relationship ≡ None
end-transfer bench now file place relationship is last opened goes =
    ap (λ b. refusal_of_transfer b place relationship) is ∙ ap (λ p. refusal_of_transfer (with_file bench file) p relationship) last
    ∙ transfer-free (with_file bench file) (length bench.files) relationship file (at-end bench.files file) opened goes

pub end-route : (bench now : Bench) (file : File) (place relationship : ℕ) → now ≡ with_file bench file → place ≡ length bench.files → file.«end» ≡ None → relationship < bench.relationships → refusal_of_route now place relationship ≡ None
end-route bench now file place relationship is last opened goes =
    ap (λ b. refusal_of_route b place relationship) is ∙ ap (λ p. refusal_of_route (with_file bench file) p relationship) last
    ∙ route-free (with_file bench file) (length bench.files) relationship file (at-end bench.files file) opened goes

pub end-ended : (bench now : Bench) (file : File) (place relationship : ℕ) → now ≡ with_file bench file → place ≡ length bench.files → with_end now place (To relationship) ≡ with_file bench (record file { «end» = Some (To relationship) })
end-ended bench now file place relationship is last =
    ap (λ b. with_end b place (To relationship)) is ∙ ap (λ p. with_end (with_file bench file) p (To relationship)) last
    ∙ changed-end bench file (λ file. record file { «end» = Some (To relationship) })

pub end-routed : (bench now : Bench) (file : File) (place relationship : ℕ) → now ≡ with_file bench file → place ≡ length bench.files → with_route now place relationship ≡ with_file bench (record file { routed = Some relationship })
end-routed bench now file place relationship is last =
    ap (λ b. with_route b place relationship) is ∙ ap (λ p. with_route (with_file bench file) p relationship) last
    ∙ changed-end bench file (λ file. record file { routed = Some relationship })

-- ---- the taken file and its clones

-- the clone of the taken file, with these attributes, as it is made
abbrev pub clone_made : AttributeMap → File
clone_made attributes = new_file (Cloned 0) attributes (Whole 0)

pub clone-is : (bench : Bench) → HasFirstTaken bench → with_clone bench 0 ≡ with_file bench (clone_made (bench_attributes bench 0))
clone-is bench has =
    let body : body_at bench 0 ≡ Whole 0 = ap (λ (files : List File). option_map_or (λ (f : File). f.body) (slice_get files 0) (New [])) has.files in
    ap (with_made bench (Cloned 0) (bench_attributes bench 0)) body

-- a clone of the taken file, with these attributes, as it stands in the outcome
pub record IsClone (taken : AttributeMap) (file : Worked) : Type 0 where
  pub origin : file.origin ≡ Cloned 0
  pub attributes : file.attributes ≡ taken
  pub goes : (relationship : ℕ) × (file.«end» ≡ To relationship)

-- a session that took one file, with so many relationships, and made these clones
abbrev pub cloned_bench : ℕ → Taken → List Worked → Bench
cloned_bench n taken clones = with_ended (bench_of n (taken ∷ [])) clones

pub took-cloned : (bench : Bench) (clones : List Worked) (took : BeganWithOne bench) → with_ended bench clones ≡ cloned_bench bench.relationships took.taken clones
took-cloned bench clones took = ap (λ b. with_ended b clones) took.begun

pub took-attributes : (bench : Bench) (took : BeganWithOne bench) → bench_attributes bench 0 ≡ took.taken.attributes
took-attributes bench took = ap (λ b. bench_attributes b 0) took.begun

pub cloned-has : (bench : Bench) (clones : List Worked) → BeganWithOne bench → HasFirstTaken (with_ended bench clones)
cloned-has bench clones took = record {
  taken = took.taken;
  more = map file_ended clones;
  files = ap (λ (b : Bench). b.files) (took-cloned bench clones took);
}

pub cloned-attributes : (bench : Bench) (clones : List Worked) → BeganWithOne bench → bench_attributes (with_ended bench clones) 0 ≡ bench_attributes bench 0
cloned-attributes bench clones took = ap (λ b. bench_attributes (with_ended b clones) 0) took.begun ∙ sym (took-attributes bench took)

pub no-clones : (bench : Bench) → with_ended bench [] ≡ bench
no-clones bench = ap (λ files. record bench { files = files }) (append-nil bench.files)

pub one-more : (bench : Bench) (clones : List Worked) (file : Worked) → with_ended (with_ended bench clones) (file ∷ []) ≡ with_ended bench (clones ++ file ∷ [])
one-more bench clones file =
    ap (λ files. record bench { files = files }) (append_assoc bench.files (map file_ended clones) (file_ended file ∷ []) ∙ ap (λ files. bench.files ++ files) (sym (map-append file_ended clones (file ∷ []))))

pub took-has : (bench : Bench) → BeganWithOne bench → HasFirstTaken bench
took-has bench took = record { taken = took.taken; more = []; files = ap (λ (b : Bench). b.files) took.begun }

within_limits : (files attributes handed : ℕ) → files ≤ FILES_MAX → attributes ≤ SESSION_ATTRIBUTES_MAX → handed ≤ WRITTEN_MAX → past_limits files attributes handed ≡ None
unfolding past_limits
within_limits files attributes handed few small short =
    rw (le-ltb FILES_MAX files few) (rw (le-ltb SESSION_ATTRIBUTES_MAX attributes small) (rw (le-ltb WRITTEN_MAX handed short) refl))

few_attributes : (size : ℕ) → size ≤ ATTRIBUTES_MAX → attributes_too_large size ≡ None
unfolding attributes_too_large
few_attributes size le = none_holds _ _ (le-ltb ATTRIBUTES_MAX size le)

abbrev IsSmall : File → Type 0
IsSmall file = file_size file ≤ ATTRIBUTES_MAX

small_clones : (attributes : AttributeMap) (clones : List Worked) → encoded_size attributes ≤ ATTRIBUTES_MAX → All (IsClone attributes) clones → All IsSmall (map file_ended clones)
small_clones attributes [] small all = All-nil IsSmall
small_clones attributes (clone ∷ clones) small all =
    let same : encoded_size clone.attributes ≡ encoded_size attributes = ap encoded_size (All-head (IsClone attributes) clone clones all).attributes in
    All-cons IsSmall (file_ended clone) (map file_ended clones) (omega arith) (small_clones attributes clones small (All-tail (IsClone attributes) clone clones all))

-- fewer than a thousand clones leave room for one more
pub clone-free : (n : ℕ) (taken : Taken) (clones : List Worked) → may_have (Cloned 0) taken.attributes ≡ true → All (IsClone taken.attributes) clones → length clones < 999 → refusal_of_clone (cloned_bench n taken clones) 0 ≡ None
clone-free n taken clones may all few =
    let bench = cloned_bench n taken clones in
    let small : made_size taken.attributes ≤ ATTRIBUTES_MAX = leb-true _ _ may in
    let least : encoded_size taken.attributes ≤ ATTRIBUTES_MAX = omega arith in
    let files = taken_file 0 taken ∷ map file_ended clones in
    let made = clone_made taken.attributes in
    let each : All IsSmall (files ++ made ∷ []) =
    All-append IsSmall files (made ∷ []) (All-cons IsSmall (taken_file 0 taken) (map file_ended clones) least (small_clones taken.attributes clones least all)) (All-cons IsSmall made [] least (All-nil IsSmall)) in
    let count : length (files ++ made ∷ []) ≤ 1000 = omega (arith, length-append files (made ∷ []), length-map clones file_ended) in
    let sum : sum_by file_size (files ++ made ∷ []) ≤ length (files ++ made ∷ []) * ATTRIBUTES_MAX = sum_by-le file_size ATTRIBUTES_MAX (files ++ made ∷ []) each in
    let room : session_full (with_clone bench 0) ≡ None = within_limits (length (files ++ made ∷ [])) (sum_by file_size (files ++ made ∷ [])) 0 (omega arith) (omega arith) (omega arith) in
    next _ _ (known bench 0 (taken_file 0 taken) refl)
    (next _ _ (still_open bench 0 (taken_file 0 taken) refl refl)
    (next _ _ (few_attributes _ small) (next _ _ room no_refusal)))

pub took-free : (bench : Bench) (clones : List Worked) → BeganWithOne bench → may_have (Cloned 0) (bench_attributes bench 0) ≡ true → All (IsClone (bench_attributes bench 0)) clones → length clones < 999 → refusal_of_clone (with_ended bench clones) 0 ≡ None
took-free bench clones took may all few =
    let attributes = took-attributes bench took in
    ap (λ b. refusal_of_clone b 0) (took-cloned bench clones took)
    ∙ clone-free bench.relationships took.taken clones (ap (may_have (Cloned 0)) (sym attributes) ∙ may) (subst (λ a. All (IsClone a) clones) attributes all) few

-- ---- the outcome

all_ended : (place : ℕ) (files : List Worked) → not_accounted_from place (map file_ended files) ≡ None
unfolding not_accounted_from
all_ended place [] = refl
all_ended place (file ∷ files) = all_ended (place + 1) files

abbrev pub StartsWith : List ℕ → List (List ℕ) → Type 0
StartsWith places stand = (rest : List (List ℕ)) × (stand ≡ places ∷ rest)

starts_so : (places : List ℕ) (b : Bool) (one other : List (List ℕ)) → StartsWith places one → StartsWith places other → StartsWith places (cond b one other)
starts_so places true one other first second = first
starts_so places false one other first second = second

pub starts : (places : List ℕ) (stand : List (List ℕ)) (place : ℕ) (files : List File) → StartsWith places (standing_from (places ∷ stand) place files)
unfolding standing_from
starts places stand place [] = (stand, refl)
starts places stand place (file ∷ files) =
    starts_so places (is_left_out file) _ _ (starts places (stand ++ standing_for (places ∷ stand) (parents_of file.origin) ∷ []) place files) (starts places (stand ++ (place ∷ []) ∷ []) (place + 1) files)

clone_stays : (attributes : AttributeMap) (clone : Worked) → IsClone attributes clone → is_left_out (file_ended clone) ≡ false
clone_stays attributes clone is =
    ap (λ o. is_made o && ends_removed (Some clone.«end»)) is.origin ∙ ap (λ (e : End). ends_removed (Some e)) is.goes.1

clone_names : (rest : List (List ℕ)) (attributes : AttributeMap) (clone : Worked) → IsClone attributes clone → worked_of ((0 ∷ []) ∷ rest) (file_ended clone) ≡ clone
clone_names rest attributes clone is =
    let same : origin_in ((0 ∷ []) ∷ rest) clone.origin ≡ clone.origin = ap (origin_in ((0 ∷ []) ∷ rest)) is.origin ∙ sym is.origin in
    ap (λ o. worked_with o (file_ended clone)) same

kept_clones : (rest : List (List ℕ)) (attributes : AttributeMap) (clones : List Worked) → All (IsClone attributes) clones → kept_files ((0 ∷ []) ∷ rest) (map file_ended clones) ≡ clones
unfolding kept_files
kept_clones rest attributes [] all = refl
kept_clones rest attributes (clone ∷ clones) all =
    let here = All-head (IsClone attributes) clone clones all in
    let stand : List (List ℕ) = (0 ∷ []) ∷ rest in
    let more = kept_files stand (map file_ended clones) in
    ap (λ b. cond b more (worked_of stand (file_ended clone) ∷ more)) (clone_stays attributes clone here)
    ∙ ap (λ w. w ∷ more) (clone_names rest attributes clone here)
    ∙ ap (λ ws. clone ∷ ws) (kept_clones rest attributes clones (All-tail (IsClone attributes) clone clones all))

-- all files of a session that took one file have ended
abbrev pub ended_bench : (n : ℕ) → List Source → List Worked → Bench
ended_bench n sources files = record { relationships = n; sources = sources; files = map file_ended files; sent = None; handed = 0 }

pub ended-finished : (n : ℕ) (sources : List Source) (files : List Worked) → refusal_of_finish (ended_bench n sources files) ≡ None
ended-finished n sources files = next _ _ (all_ended 0 files) no_refusal

pub taken_stays : (file : Worked) → file.origin ≡ FromQueue 0 → is_left_out (file_ended file) ≡ false
taken_stays file is = ap (λ o. is_made o && ends_removed (Some file.«end»)) is

pub taken_names : (stand : List (List ℕ)) (file : Worked) → file.origin ≡ FromQueue 0 → worked_of stand (file_ended file) ≡ file
taken_names stand file is = ap (λ o. worked_with o (file_ended file)) (ap (origin_in stand) is ∙ sym is)

pub ended-outcome : (n : ℕ) (sources : List Source) (attributes : AttributeMap) (file : Worked) (clones : List Worked) → file.origin ≡ FromQueue 0 → All (IsClone attributes) clones
    → outcome_of (ended_bench n sources (file ∷ clones)) ≡ record { files = file ∷ clones; sent = None }
unfolding outcome_of sent_in kept_files standing_from
ended-outcome n sources attributes file clones taken all =
    let files = map file_ended clones in
    let outcome : List Worked → Outcome = λ files. record { files = files; sent = None } in
    let stand : standing_from [] 0 (file_ended file ∷ files) ≡ standing_from ((0 ∷ []) ∷ []) 1 files = rw (taken_stays file taken) refl in
    let first = starts (0 ∷ []) [] 1 files in
    let whole = stand ∙ first.1 in
    let after = (0 ∷ []) ∷ first.0 in
    let more = kept_files after files in
    ap outcome (ap (λ s. kept_files s (file_ended file ∷ files)) whole
    ∙ ap (λ b. cond b more (worked_of after (file_ended file) ∷ more)) (taken_stays file taken)
    ∙ ap (λ w. w ∷ more) (taken_names after file taken)
    ∙ ap (λ ws. file ∷ ws) (kept_clones first.0 attributes clones all))

pub ends-with : (bench after : Bench) (attributes : AttributeMap) (file : Worked) (clones : List Worked) → file.origin ≡ FromQueue 0 → All (IsClone attributes) clones → after ≡ ended_bench bench.relationships bench.sources (file ∷ clones)
    → EndsWith bench after (record { files = file ∷ clones; sent = None })
ends-with bench after attributes file clones taken all is = record {
  finished = ap refusal_of_finish is ∙ ended-finished bench.relationships bench.sources (file ∷ clones);
  kept = record { relationships = ap (λ (b : Bench). b.relationships) is; sources = ap (λ (b : Bench). b.sources) is };
  outcome = ap outcome_of is ∙ ended-outcome bench.relationships bench.sources attributes file clones taken all;
}

-- ---- the taken file itself

-- as it begins, and behind its clones
pub took-one : (kind : Kind) (bench : Bench) (given : Given) → take_rule_of kind ≡ One → Begins kind bench given → BeganWithOne bench
took-one kind bench given rule begins =
    let one = one-begins kind bench given rule begins in
    record {
      taken = one.0;
      begun = one.1 ∙ ap (λ n. bench_of n (one.0 ∷ [])) (sym (ap (λ (b : Bench). b.relationships) one.1));
    }

pub took-relationships : (kind : Kind) (bench : Bench) (given : Given) → Begins kind bench given → bench.relationships ≡ length (relationships_of kind)
took-relationships kind bench given begins = ap (λ (b : Bench). b.relationships) begins.begun

-- what is done with it behind its clones is done with that of the session as it begins
first_is : (bench : Bench) (clones : List Worked) (took : BeganWithOne bench) (acts : Bench → Bench) (file : Worked) → acts (cloned_bench bench.relationships took.taken clones) ≡ ended_bench bench.relationships (taken_source took.taken ∷ []) (file ∷ clones)
    → acts (with_ended bench clones) ≡ ended_bench bench.relationships bench.sources (file ∷ clones)
first_is bench clones took acts file is =
    ap acts (took-cloned bench clones took) ∙ is ∙ ap (λ s. ended_bench bench.relationships s (file ∷ clones)) (sym (ap (λ (b : Bench). b.sources) took.begun))

pub passed-is : (bench : Bench) (clones : List Worked) (relationship : ℕ) → BeganWithOne bench → with_end (with_ended bench clones) 0 (To relationship) ≡ ended_bench bench.relationships bench.sources (passed_on 0 (bench_attributes bench 0) false relationship ∷ clones)
passed-is bench clones relationship took =
    first_is bench clones took (λ b. with_end b 0 (To relationship)) (passed_on 0 took.taken.attributes false relationship)
    (ap (λ files. record (cloned_bench bench.relationships took.taken clones) { files = files })
    (change-first (λ file. record file { «end» = Some (To relationship) }) (taken_file 0 took.taken) (map file_ended clones)))
    ∙ ap (λ a. ended_bench bench.relationships bench.sources (passed_on 0 a false relationship ∷ clones)) (sym (took-attributes bench took))

pub routed-is : (bench : Bench) (clones : List Worked) (relationship : ℕ) → BeganWithOne bench
    → with_end (with_route (with_ended bench clones) 0 relationship) 0 (To relationship) ≡ ended_bench bench.relationships bench.sources (routed_file (bench_attributes bench 0) relationship ∷ clones)
routed-is bench clones relationship took =
    let route : File → File = λ file. record file { routed = Some relationship } in
    let file = taken_file 0 took.taken in
    let with : List File → Bench = λ files. record (cloned_bench bench.relationships took.taken clones) { files = files } in
    first_is bench clones took (λ b. with_end (with_route b 0 relationship) 0 (To relationship)) (routed_file took.taken.attributes relationship)
    (ap (λ files. with_end (with files) 0 (To relationship)) (change-first route file (map file_ended clones))
    ∙ ap with (change-first (λ file. record file { «end» = Some (To relationship) }) (route file) (map file_ended clones)))
    ∙ ap (λ a. ended_bench bench.relationships bench.sources (routed_file a relationship ∷ clones)) (sym (took-attributes bench took))

-- nor is it refused to end it
pub first-transfer : (bench : Bench) (relationship : ℕ) → HasFirstTaken bench → relationship < bench.relationships → refusal_of_transfer bench 0 relationship ≡ None
first-transfer bench relationship has goes = transfer-free bench 0 relationship (taken_file 0 has.taken) (ap (λ files. slice_get files 0) has.files) refl goes

pub first-route : (bench : Bench) (relationship : ℕ) → HasFirstTaken bench → relationship < bench.relationships → refusal_of_route bench 0 relationship ≡ None
first-route bench relationship has goes = route-free bench 0 relationship (taken_file 0 has.taken) (ap (λ files. slice_get files 0) has.files) refl goes

pub cloned-transfer : (bench now : Bench) (clones : List Worked) (relationship : ℕ) → BeganWithOne bench → now ≡ with_ended bench clones → relationship < bench.relationships → refusal_of_transfer now 0 relationship ≡ None
cloned-transfer bench now clones relationship took is goes =
    ap (λ b. refusal_of_transfer b 0 relationship) is ∙ first-transfer (with_ended bench clones) relationship (cloned-has bench clones took) goes

-- a routed file may still go to where it is routed
pub routed-transfer : (bench now : Bench) (relationship : ℕ) → HasFirstTaken bench → now ≡ with_route bench 0 relationship → relationship < bench.relationships → refusal_of_transfer now 0 relationship ≡ None
routed-transfer bench now relationship has is goes =
    let route : File → File = λ file. record file { routed = Some relationship } in
    let file = taken_file 0 has.taken in
    let files : change_at route 0 bench.files ≡ route file ∷ has.more = ap (change_at route 0) has.files ∙ change-first route file has.more in
    ap (λ b. refusal_of_transfer b 0 relationship) is
    ∙ transfer-free (with_route bench 0 relationship) 0 relationship (route file) (ap (λ files. slice_get files 0) files) refl goes
