-- The session of a PutFile, behind each of its calls.
use Rattle.std.proofs.Common.{◌≡◌, ℕ, ◌<◌, Bool, true, false, List, [], ◌∷◌, Option, None, Some, refl, sym, ◌∙◌, ap, subst}
use Rattle.std.specs.Prelude.{IfSome, slice_get}
use Rattle.std.specs.Option.{option_map, option_map_or}
use Rattle.std.specs.FinMap.{empty, get-empty}
use Rattle.flowfile_record.specs.Attributes.{AttributeMap}
use Rattle.flowfile_record.specs.declared.worked.End.TheVariants.{To}
use Rattle.flowfile_record.specs.declared.worked.Sent.{Sent}
use Rattle.machine_model.specs.Acting.{act, name_in, put, put_unless_there}
use Rattle.machine_model.specs.Making.{TakenFile}
use Rattle.machine_model.specs.declared.given.Given.{Given}
use Rattle.machine_model.specs.declared.kind.Conflict.{Conflict}
use Rattle.machine_model.specs.declared.kind.Kind.TheVariants.{PutFile}
use Rattle.process_session.specs.Bench.{Bench, bench_attributes, bench_of, taken_file}
use Rattle.process_session.specs.Changes.{with_end, with_penalty, with_sent}
use Rattle.process_session.specs.Finish.{outcome_of}
use Rattle.process_session.specs.Refusals.{refusal_of_finish, refusal_of_penalize, refusal_of_send, refusal_of_transfer}
use Rattle.process_session.specs.declared.file.File.{File}
use Rattle.process_session.specs.declared.file.Source.{Source}
use Rattle.process_session.specs.declared.file.Taken.{Taken}
use Rattle.processor_api.proofs.Alone.{alone, ended-alone, finish-free, outcome-alone, outcome-sent, penalised-alone, penalize-free, send-free, transfer-free}
use Rattle.processor_api.specs.Acts.{Begins, EndsAs, KeepsTaken}
use Rattle.processor_api.proofs.Began.{one-acts, one-begins, taken-attributes}
use Rattle.processor_api.specs.Sessions.{EndsWith}
use Rattle.proc_source.specs.Putting.{HasOneTaken, passed_and_put}

-- a session that has one taken file and no other
abbrev one_of : Bench → Taken → Bench
one_of bench taken = alone 2 bench.sources (taken_file 0 taken) bench.sent bench.handed

one-is : (bench : Bench) (one : HasOneTaken bench) → bench ≡ one_of bench one.taken
one-is bench one =
    ap (λ n. record bench { relationships = n }) one.relationships
    ∙ ap (λ (files : List File). record bench { relationships = 2; files = files }) one.only

-- what a session begins with is that
pub begun-one : (bench : Bench) (taken : Taken) → bench ≡ bench_of 2 (taken ∷ []) → HasOneTaken bench
begun-one bench taken is = record {
  taken = taken;
  relationships = ap (λ (b : Bench). b.relationships) is;
  only = ap (λ (b : Bench). b.files) is;
  sent = subst (λ (sent : Option Sent). IfSome sent (λ sent. sent.place ≡ 0)) (sym (ap (λ (b : Bench). b.sent) is)) tt;
}

pub sent-one : (bench : Bench) (name : List ℕ) → HasOneTaken bench → HasOneTaken (with_sent bench 0 name)
sent-one bench name one = record { taken = one.taken; relationships = one.relationships; only = one.only; sent = refl }

-- ---- what isn't refused

pub one-transfer : (bench : Bench) (relationship : ℕ) → relationship < 2 → HasOneTaken bench → refusal_of_transfer bench 0 relationship ≡ None
one-transfer bench relationship there one =
    ap (λ b. refusal_of_transfer b 0 relationship) (one-is bench one)
    ∙ transfer-free 2 bench.sources (taken_file 0 one.taken) bench.sent bench.handed relationship refl there

pub one-penalize : (bench : Bench) → HasOneTaken bench → refusal_of_penalize bench 0 ≡ None
one-penalize bench one =
    ap (λ b. refusal_of_penalize b 0) (one-is bench one) ∙ penalize-free 2 bench.sources (taken_file 0 one.taken) bench.sent bench.handed refl

pub one-send : (bench : Bench) → bench.sent ≡ None → HasOneTaken bench → refusal_of_send bench 0 ≡ None
one-send bench unsent one =
    ap (λ b. refusal_of_send b 0) (one-is bench one ∙ ap (λ sent. alone 2 bench.sources (taken_file 0 one.taken) sent bench.handed) unsent)
    ∙ send-free 2 bench.sources (taken_file 0 one.taken) bench.handed refl

-- ---- penalised

abbrev penalised : Taken → File
penalised taken = record (taken_file 0 taken) { penalised = true }

penalty-is : (bench : Bench) (one : HasOneTaken bench) → with_penalty bench 0 ≡ alone 2 bench.sources (penalised one.taken) bench.sent bench.handed
penalty-is bench one = ap (λ b. with_penalty b 0) (one-is bench one) ∙ penalised-alone 2 bench.sources (taken_file 0 one.taken) bench.sent bench.handed

pub penalised-transfer : (bench : Bench) (relationship : ℕ) → relationship < 2 → HasOneTaken bench → refusal_of_transfer (with_penalty bench 0) 0 relationship ≡ None
penalised-transfer bench relationship there one =
    ap (λ b. refusal_of_transfer b 0 relationship) (penalty-is bench one)
    ∙ transfer-free 2 bench.sources (penalised one.taken) bench.sent bench.handed relationship refl there

-- ---- what it ends with

-- the attributes that it took
attributes-of-one : (bench : Bench) (one : HasOneTaken bench) → bench_attributes bench 0 ≡ one.taken.attributes
attributes-of-one bench one = ap (λ b. bench_attributes b 0) (one-is bench one)

-- the taken file, once it has ended
abbrev ended : Taken → (is_penalised : Bool) → (relationship : ℕ) → File
ended taken is_penalised relationship = record (taken_file 0 taken) { penalised = is_penalised; «end» = Some (To relationship) }

of_sent : (s : List Source) (taken : Taken) (is_penalised : Bool) (relationship : ℕ) (sent : Option Sent) (h : ℕ) → IfSome sent (λ sent. sent.place ≡ 0)
    → outcome_of (alone 2 s (ended taken is_penalised relationship) sent h) ≡ passed_and_put sent taken.attributes is_penalised relationship
of_sent s taken is_penalised relationship None h here = outcome-alone 2 s (ended taken is_penalised relationship) h refl (λ stand. refl)
of_sent s taken is_penalised relationship (Some sent) h here =
    let at : ℕ → Sent = λ place. record { place = place; name = sent.name } in
    let P : ℕ → Type 0 = λ place. outcome_of (alone 2 s (ended taken is_penalised relationship) (Some (at place)) h) ≡ passed_and_put (Some (at place)) taken.attributes is_penalised relationship in
    subst P (sym here) (outcome-sent 2 s (ended taken is_penalised relationship) sent.name h refl (λ stand. refl))

ends_with : (bench after : Bench) (taken : Taken) (is_penalised : Bool) (relationship : ℕ) → (one : HasOneTaken bench) → one.taken ≡ taken → KeepsTaken bench after
    → after ≡ alone 2 bench.sources (ended taken is_penalised relationship) bench.sent bench.handed → EndsWith bench after (passed_and_put bench.sent (bench_attributes bench 0) is_penalised relationship)
ends_with bench after taken is_penalised relationship one same kept is =
    let attributes : taken.attributes ≡ bench_attributes bench 0 = sym (attributes-of-one bench one ∙ ap (λ (t : Taken). t.attributes) same) in
    record {
      finished = ap refusal_of_finish is ∙ finish-free 2 bench.sources (ended taken is_penalised relationship) bench.sent bench.handed refl;
      kept = kept;
      outcome = ap outcome_of is ∙ of_sent bench.sources taken is_penalised relationship bench.sent bench.handed one.sent
          ∙ ap (λ attributes. passed_and_put bench.sent attributes is_penalised relationship) attributes;
    }

pub one-ended : (bench : Bench) (relationship : ℕ) → HasOneTaken bench → EndsWith bench (with_end bench 0 (To relationship)) (passed_and_put bench.sent (bench_attributes bench 0) false relationship)
one-ended bench relationship one =
    let after : with_end bench 0 (To relationship) ≡ alone 2 bench.sources (ended one.taken false relationship) bench.sent bench.handed =
    ap (λ b. with_end b 0 (To relationship)) (one-is bench one) ∙ ended-alone 2 bench.sources (taken_file 0 one.taken) bench.sent bench.handed (To relationship) in
    ends_with bench _ one.taken false relationship one refl (record { relationships = refl; sources = refl }) after

pub penalised-ended : (bench : Bench) (relationship : ℕ) → HasOneTaken bench → EndsWith bench (with_end (with_penalty bench 0) 0 (To relationship)) (passed_and_put bench.sent (bench_attributes bench 0) true relationship)
penalised-ended bench relationship one =
    let after : with_end (with_penalty bench 0) 0 (To relationship) ≡ alone 2 bench.sources (ended one.taken true relationship) bench.sent bench.handed =
    ap (λ b. with_end b 0 (To relationship)) (penalty-is bench one) ∙ ended-alone 2 bench.sources (penalised one.taken) bench.sent bench.handed (To relationship) in
    ends_with bench _ one.taken true relationship one refl (record { relationships = refl; sources = refl }) after

-- ---- the processor

-- no file has no name
pub no-file : (bench : Bench) (place : ℕ) → option_map (λ file. file.attributes) (slice_get bench.files place) ≡ None → name_in (bench_attributes bench place) ≡ None
no-file bench place none = of_option (slice_get bench.files place) none
  where
    of_option : (o : Option File) → option_map (λ file. file.attributes) o ≡ None → name_in (option_map_or (λ file. file.attributes) o empty) ≡ None
    of_option None is = rw get-empty refl
    of_option (Some file) is = cc

pub put-begins : (conflict : Conflict) (before : Bench) (given : Given) → Begins (PutFile conflict) before given → HasOneTaken before
put-begins conflict before given begins =
    let one = one-begins (PutFile conflict) before given refl begins in
    begun-one before one.0 one.1

pub put-unsent : (conflict : Conflict) (before : Bench) (given : Given) → Begins (PutFile conflict) before given → before.sent ≡ None
put-unsent conflict before given begins = ap (λ (b : Bench). b.sent) begins.begun

-- what the machine gives of the taken file, by its attributes
abbrev some_file : AttributeMap → TakenFile
some_file attributes = record { attributes = attributes; uuid = []; bytes = [] }

pub put-acts : (conflict : Conflict) (before : Bench) (given : Given) (after : Bench) (name : List ℕ) → Begins (PutFile conflict) before given → name_in (bench_attributes before 0) ≡ Some name
    → ((file : TakenFile) → file.attributes ≡ bench_attributes before 0 → EndsWith before after (put_unless_there conflict given.there file name)) → EndsAs (PutFile conflict) before given after
put-acts conflict before given after name begins named ends =
    one-acts (PutFile conflict) before given after refl begins (ends (some_file (bench_attributes before 0)) refl).finished (ends (some_file (bench_attributes before 0)) refl).kept (λ taken file is alike. of_file file (taken-attributes before taken file is alike))
  where
    of_file : (file : TakenFile) → file.attributes ≡ bench_attributes before 0 → act (PutFile conflict) (file ∷ []) given ≡ Some (outcome_of after)
    of_file file same =
        ap (λ o. Some (put conflict given.there file o)) (ap name_in same ∙ named) ∙ ap Some (sym (ends file same).outcome)

pub fail-acts : (conflict : Conflict) (before : Bench) (given : Given) (after : Bench) → Begins (PutFile conflict) before given → name_in (bench_attributes before 0) ≡ None
    → EndsWith before after (passed_and_put before.sent (bench_attributes before 0) true 1) → EndsAs (PutFile conflict) before given after
fail-acts conflict before given after begins unnamed ends =
    one-acts (PutFile conflict) before given after refl begins ends.finished ends.kept (λ taken file is alike. of_file file (taken-attributes before taken file is alike))
  where
    of_file : (file : TakenFile) → file.attributes ≡ bench_attributes before 0 → act (PutFile conflict) (file ∷ []) given ≡ Some (outcome_of after)
    of_file file same =
        ap (λ o. Some (put conflict given.there file o)) (ap name_in same ∙ unnamed)
        ∙ ap (λ attributes. Some (passed_and_put None attributes true 1)) same
        ∙ ap (λ sent. Some (passed_and_put sent (bench_attributes before 0) true 1)) (sym (put-unsent conflict before given begins))
        ∙ ap Some (sym ends.outcome)
