-- Files one by one: what stands for each, its origin, and how it is kept.
use Rattle.std.proofs.Common.{◌≡◌, ℕ, ◌+◌, ◌<◌, ◌≤◌, Bool, true, false, cond, List, [], ◌∷◌, ◌++◌, length, get_or, drop, map, Option, None, Some, is_none, refl, sym, ◌∙◌, ap, arith, append_assoc}
use Rattle.std.specs.Option.{option_map}
use Rattle.std.proofs.lemmas.List.{append-nil, drop_more, map-append}
use Rattle.flowfile_record.specs.declared.worked.Origin.{Origin}
use Rattle.flowfile_record.specs.declared.worked.Outcome.{Outcome}
use Rattle.flowfile_record.specs.declared.worked.Sent.{Sent}
use Rattle.flowfile_record.specs.declared.worked.Worked.{Worked}
use Rattle.process_session.specs.declared.error.SessionError.TheVariants.{NotAccounted}
use Rattle.process_session.specs.declared.file.File.{File}
use Rattle.process_session.specs.declared.session.finish.standing.Stand.{Stand}
use Rattle.process_session.specs.Bench.{Bench}
use Rattle.process_session.specs.Finish.{is_left_out, standing, standing_for, standing_from, origin_in, kept_files, outcome_of, place_in, sent_in, worked_with}
use Rattle.flowfile_record.specs.Outcome.{parents_of}
use Rattle.process_session.specs.Finishing.{kept_origins, next_place, place_of_sent, places_of, sent_at, stand_for, KeepsFile}
use Rattle.process_session.specs.Reasons.{not_accounted_from}

pub rest_is : (files : List File) (i : ℕ) (file : File) → i < length files → file ≡ get_or files i file → drop i files ≡ file ∷ drop (i + 1) files
rest_is files i file within is = drop_more files i file within ∙ ap (λ f. f ∷ drop (i + 1) files) (sym is)

standing_cases : (out : Bool) (stand : List (List ℕ)) (next : ℕ) (gone : List ℕ) (files : List File) → standing_from (stand ++ cond out gone (next ∷ []) ∷ []) (cond out next (next + 1)) files ≡ cond out (standing_from (stand ++ gone ∷ []) next files) (standing_from (stand ++ (next ∷ []) ∷ []) (next + 1) files)
standing_cases true stand next gone files = refl
standing_cases false stand next gone files = refl

standing_cons : (stand : List (List ℕ)) (next : ℕ) (file : File) (files : List File) → standing_from stand next (file ∷ files) ≡ standing_from (stand ++ stand_for stand next file ∷ []) (next_place next file) files
unfolding standing_from
standing_cons stand next file files = sym (standing_cases (is_left_out file) stand next (standing_for stand (parents_of file.origin)) files)

-- one more file has a stand
pub stand_step : (stands : List Stand) (stand : Stand) (next next' i : ℕ) (files : List File) (file : File) → i < length files → file ≡ get_or files i file → places_of stand ≡ stand_for (map places_of stands) next file → next' ≡ next_place next file → standing_from (map places_of (stands ++ stand ∷ [])) next' (drop (i + 1) files) ≡ standing_from (map places_of stands) next (drop i files)
stand_step stands stand next next' i files file within is places counted =
    let known = map places_of stands in
    let more = drop (i + 1) files in
    ap (λ l. standing_from l next' more) (map-append places_of stands (stand ∷ []) ∙ ap (λ l. known ++ l ∷ []) places)
    ∙ ap (λ n. standing_from (known ++ stand_for known next file ∷ []) n more) counted
    ∙ sym (standing_cons known next file more)
    ∙ ap (standing_from known next) (sym (rest_is files i file within is))

next_cases : (out : Bool) (next i : ℕ) → next ≤ i → cond out next (next + 1) ≤ i + 1
next_cases true next i counted = omega arith
next_cases false next i counted = omega arith

pub next_upto : (next i : ℕ) (file : File) → next ≤ i → next_place next file ≤ i + 1
next_upto next i file counted = next_cases (is_left_out file) next i counted

pub standing_done : (stand : List (List ℕ)) (next : ℕ) → standing_from stand next [] ≡ stand
unfolding standing_from
standing_done stand next = refl

origins_out : (stand : List (List ℕ)) (file : File) (files : List File) → is_left_out file ≡ true → kept_origins stand (file ∷ files) ≡ kept_origins stand files
unfolding kept_origins
origins_out stand file files out = ap (λ b. cond b (kept_origins stand files) (origin_in stand file.origin ∷ kept_origins stand files)) out

origins_kept : (stand : List (List ℕ)) (file : File) (files : List File) → is_left_out file ≡ false → kept_origins stand (file ∷ files) ≡ origin_in stand file.origin ∷ kept_origins stand files
unfolding kept_origins
origins_kept stand file files out = ap (λ b. cond b (kept_origins stand files) (origin_in stand file.origin ∷ kept_origins stand files)) out

pub origin_out : (stand : List (List ℕ)) (origins : List Origin) (file : File) (more : List File) → is_left_out file ≡ true → origins ++ kept_origins stand more ≡ origins ++ kept_origins stand (file ∷ more)
origin_out stand origins file more out = ap (λ l. origins ++ l) (sym (origins_out stand file more out))

pub origin_kept : (stand : List (List ℕ)) (origins : List Origin) (origin : Origin) (file : File) (more : List File) → is_left_out file ≡ false → origin ≡ origin_in stand file.origin → (origins ++ origin ∷ []) ++ kept_origins stand more ≡ origins ++ kept_origins stand (file ∷ more)
origin_kept stand origins origin file more out e =
    append_assoc origins (origin ∷ []) (kept_origins stand more) ∙ ap (λ o. origins ++ o ∷ kept_origins stand more) e ∙ ap (λ l. origins ++ l) (sym (origins_kept stand file more out))

pub origins_done : (stand : List (List ℕ)) (origins : List Origin) → origins ++ kept_origins stand [] ≡ origins
unfolding kept_origins
origins_done stand origins = append-nil origins

files_out : (stand : List (List ℕ)) (file : File) (files : List File) → is_left_out file ≡ true → kept_files stand (file ∷ files) ≡ kept_files stand files
unfolding kept_files
files_out stand file files out = ap (λ b. cond b (kept_files stand files) (worked_with (origin_in stand file.origin) file ∷ kept_files stand files)) out

files_kept : (stand : List (List ℕ)) (file : File) (files : List File) → is_left_out file ≡ false → kept_files stand (file ∷ files) ≡ worked_with (origin_in stand file.origin) file ∷ kept_files stand files
unfolding kept_files
files_kept stand file files out = ap (λ b. cond b (kept_files stand files) (worked_with (origin_in stand file.origin) file ∷ kept_files stand files)) out

pub keeps_out : (file : File) (kept : List Worked) (origins : List Origin) (stand : List (List ℕ)) (more : List File) → is_left_out file ≡ true → origins ≡ kept_origins stand (file ∷ more) → KeepsFile file kept kept origins origins stand more
keeps_out file kept origins stand more out is = record {
  rest = is ∙ origins_out stand file more out;
  files = ap (λ l. kept ++ l) (sym (files_out stand file more out));
}

pub keeps_more : (file : File) (kept kept' : List Worked) (origins origins' : List Origin) (origin : Origin) (stand : List (List ℕ)) (more : List File) → is_left_out file ≡ false → origins ≡ kept_origins stand (file ∷ more) → origins ≡ origin ∷ origins' → kept' ≡ kept ++ worked_with origin file ∷ [] → KeepsFile file kept kept' origins origins' stand more
keeps_more file kept kept' origins origins' origin stand more out is first added =
    let both : ◌≡◌ {A = List Origin} (origin ∷ origins') (origin_in stand file.origin ∷ kept_origins stand more) = sym first ∙ is ∙ origins_kept stand file more out in
    let head : origin ≡ origin_in stand file.origin = cc in
    let tail : origins' ≡ kept_origins stand more = cc in
    record {
      rest = tail;
      files = ap (λ l. l ++ kept_files stand more) (added ∙ ap (λ o. kept ++ worked_with o file ∷ []) head) ∙ append_assoc kept (worked_with (origin_in stand file.origin) file ∷ []) (kept_files stand more) ∙ ap (λ l. kept ++ l) (sym (files_kept stand file more out));
    }

-- a file that isn't left out has an origin
pub keeps_none : (file : File) (origins : List Origin) (stand : List (List ℕ)) (more : List File) → is_left_out file ≡ false → origins ≡ kept_origins stand (file ∷ more) → length origins ≡ 0 → ⊥
keeps_none file origins stand more out is none =
    let both : origins ≡ origin_in stand file.origin ∷ kept_origins stand more = is ∙ origins_kept stand file more out in
    absurd (omega (arith, ap length both))

pub kept_done : (stand : List (List ℕ)) (kept : List Worked) → kept ++ kept_files stand [] ≡ kept
unfolding kept_files
kept_done stand kept = append-nil kept

-- the put
put_at : (place : Option ℕ) (sent : Sent) → sent_at place (Some sent) ≡ option_map (λ at. record { place = at; name = sent.name }) place
put_at None sent = refl
put_at (Some place) sent = refl

pub sent_is : (bench : Bench) (sent : Option Sent) → sent_at (place_of_sent (standing bench) bench.files sent) sent ≡ sent_in bench sent
unfolding sent_in
sent_is bench None = refl
sent_is bench (Some sent) = put_at (place_in (standing bench) bench.files sent.place) sent

outcome_is : (bench : Bench) (outcome : Outcome) → outcome.files ≡ kept_files (standing bench) bench.files → outcome.sent ≡ sent_in bench bench.sent → outcome ≡ outcome_of bench
unfolding outcome_of
outcome_is bench outcome files sent =
    let made : List Worked → Option Sent → Outcome = λ f s. record { files = f; sent = s } in
    ap (λ f. made f outcome.sent) files ∙ ap (made (kept_files (standing bench) bench.files)) sent

pub outcome_from : (fields bench : Bench) (place : Option ℕ) (outcome : Outcome) → fields ≡ bench → outcome.files ≡ kept_files (standing fields) fields.files → outcome.sent ≡ sent_at place fields.sent → place ≡ place_of_sent (standing bench) bench.files bench.sent → outcome ≡ outcome_of bench
outcome_from fields bench place outcome same files sent is =
    outcome_is bench outcome (files ∙ ap (λ (b : Bench). kept_files (standing b) b.files) same) (sent ∙ ap (λ (b : Bench). sent_at place b.sent) same ∙ ap (λ p. sent_at p bench.sent) is ∙ sent_is bench bench.sent)

-- the first file that hasn't ended
accounted_cons : (place : ℕ) (file : File) (files : List File) (open_still : Bool) → is_none file.«end» ≡ open_still → not_accounted_from place (file ∷ files) ≡ cond open_still (Some (NotAccounted place)) (not_accounted_from (place + 1) files)
unfolding not_accounted_from
accounted_cons place file files open_still is = ap (λ b. cond b (Some (NotAccounted place)) (not_accounted_from (place + 1) files)) is

pub open_here : (place i : ℕ) (files : List File) (file : File) → i < length files → file ≡ get_or files i file → is_none file.«end» ≡ true → not_accounted_from place (drop i files) ≡ Some (NotAccounted place)
open_here place i files file within is still = ap (not_accounted_from place) (rest_is files i file within is) ∙ accounted_cons place file (drop (i + 1) files) true still

pub ended_here : (place i : ℕ) (files : List File) (file : File) → i < length files → file ≡ get_or files i file → is_none file.«end» ≡ false → not_accounted_from (place + 1) (drop (i + 1) files) ≡ not_accounted_from place (drop i files)
ended_here place i files file within is ended = sym (ap (not_accounted_from place) (rest_is files i file within is) ∙ accounted_cons place file (drop (i + 1) files) false ended)

pub all_ended : (place : ℕ) → not_accounted_from place [] ≡ None
unfolding not_accounted_from
all_ended place = refl
