-- How many events tell of a session at most.
use Rattle.std.proofs.Common.{ℕ, ◌+◌, ◌*◌, ◌≤◌, Bool, true, false, cond, List, [], ◌∷◌, ◌++◌, length, length-append, map, arith}
use Rattle.std.specs.Prelude.{Option, Some, None, slice_get, ◌||◌}
use Rattle.std.specs.List.{enumerate_from, flat_map}
use Rattle.std.specs.Option.{option_map_or}
use Rattle.std.proofs.lemmas.List.{length-map}
use Rattle.std.proofs.lemmas.List.FromFn.{length-enumerate_from}
use Rattle.flowfile_record.specs.Outcome.{same_attributes}
use Rattle.flowfile_record.specs.declared.event.EventKind.TheVariants as kind
use Rattle.flowfile_record.specs.declared.limits.TheConstants.{FILES_MAX}
use Rattle.flowfile_record.specs.declared.worked.Origin.{Origin}
use Rattle.flowfile_record.specs.declared.worked.Origin.TheVariants as origin
use Rattle.flowfile_record.specs.declared.worked.Outcome.{Outcome}
use Rattle.flowfile_record.specs.declared.worked.Sent.{Sent}
use Rattle.machine_model.specs.declared.limits.TheConstants.{FAN_OUT_MAX}
use Rattle.machine_model.specs.Events.{Draft, alone, attributes_modified, clone_event, clonings, copies, created, drafts, dropped, fork_of, forked_children, forks, is_cloned_from, is_removed, joined, modified, received, routed, sent}
use Rattle.machine_model.specs.Placing.{Destination, Drops, EndedSession, Leaves, Queues, Returns, SettledFile, SettlementClone, clones_from, further_connections, settled_files, settlement_clones, wanted_clones}
use Rattle.machine_model.specs.State.{QueuedFile}
use Rattle.machine_model.proofs.Drafted.{attributes_part, clones_part, dropped_part, joined_part, modified_part, routed_part}
use Rattle.machine_model.proofs.Tally.{Each}
use Rattle.engine_change.proofs.Each.{each_so, each_weaker, length-filtered, length-joined}
use Rattle.engine_change.proofs.Ended.{LeadsToFew}

-- ---- of one file

at_most_one : (b : Bool) (draft : Draft) → length (cond b [] (draft ∷ [])) ≤ 1
at_most_one true draft = omega arith
at_most_one false draft = omega arith

module _ (session : EndedSession) where
  of_created : (file : SettledFile) (from : Origin) → length (created session file from) ≤ 1
  of_created file origin.Created = omega arith
  of_created file _ = omega arith

  of_received : (file : SettledFile) (from : Origin) → length (received session file from) ≤ 1
  of_received file origin.Received = omega arith
  of_received file _ = omega arith

  of_fork : (file : SettledFile) (children : List ℕ) → length (fork_of session file children) ≤ 1
  of_fork file [] = omega arith
  of_fork file (child ∷ children) = omega arith

  of_joined : (files : List SettledFile) (file : SettledFile) (from : Origin) → length (joined session files file from) ≤ 1
  of_joined files file (origin.Joined parents) = omega arith
  of_joined files file _ = omega arith

  of_modified : (file : SettledFile) (from : Origin) → length (modified session file from) ≤ 1
  of_modified file (origin.Taken place) = by (is_removed file.worked.end) file.worked.written
    where
      by : (gone written : Bool) → length (cond gone [] (cond written (alone session kind.ContentModified file [] ∷ []) [])) ≤ 1
      by true written = omega arith
      by false true = omega arith
      by false false = omega arith
  of_modified file _ = omega arith

  of_attributes : (file : SettledFile) (from : Origin) → length (attributes_modified session file from) ≤ 1
  of_attributes file (origin.Taken place) = by (is_removed file.worked.end || file.worked.written) (slice_get session.taken place)
    where
      by : (b : Bool) (taken : Option QueuedFile)
          → length (cond b [] (option_map_or (λ (taken : QueuedFile). cond (same_attributes taken.attributes file.attributes) [] (alone session kind.AttributesModified file [] ∷ [])) taken [])) ≤ 1
      by true taken = omega arith
      by false None = omega arith
      by false (Some taken) = at_most_one (same_attributes taken.attributes file.attributes) (alone session kind.AttributesModified file [])
  of_attributes file _ = omega arith

  of_routed : (file : SettledFile) (relationship : Option ℕ) → length (routed session file relationship) ≤ 1
  of_routed file (Some relationship) = omega arith
  of_routed file None = omega arith

  of_dropped : (file : SettledFile) (goes : Destination) → length (dropped session file goes) ≤ 1
  of_dropped file (Drops relationship) = omega arith
  of_dropped file Leaves = omega arith
  of_dropped file (Queues first others) = omega arith
  of_dropped file Returns = omega arith

  of_sent : (files : List SettledFile) (put : Option Sent) → length (sent session files put) ≤ 1
  of_sent files None = omega arith
  of_sent files (Some put) = by (slice_get files put.place)
    where
      by : (found : Option SettledFile) → length (option_map_or (λ file. alone session kind.Send file put.name ∷ []) found []) ≤ 1
      by None = omega arith
      by (Some file) = omega arith

  -- ---- of all files

  module _ (files : List SettledFile) (few : length files ≤ FILES_MAX) where
    one_each : (tell : SettledFile → List Draft) → ((file : SettledFile) → length (tell file) ≤ 1) → length (flat_map tell files) ≤ FILES_MAX
    one_each tell most = omega (arith, few, length-joined tell 1 files (each_so (λ file. length (tell file) ≤ 1) most files))

    of_forks : length (forks session files) ≤ FILES_MAX
    of_forks =
        let tell : ℕ × SettledFile → List Draft = λ f. fork_of session f.1 (forked_children files f.0) in
        omega (
          arith,
          few,
          length-enumerate_from 0 files,
          length-joined tell 1 (enumerate_from 0 files) (each_so (λ f. length (tell f) ≤ 1) (λ f. of_fork f.1 (forked_children files f.0)) (enumerate_from 0 files)),
        )

    of_clonings : length (clonings session files) ≤ FILES_MAX * FILES_MAX
    of_clonings =
        let tell : ℕ × SettledFile → List Draft = λ f. map (λ copy. clone_event session f.1 copy.number) (copies files f.0) in
        omega (
          arith,
          few,
          length-enumerate_from 0 files,
          length-joined tell FILES_MAX (enumerate_from 0 files) (each_so (λ f. length (tell f) ≤ FILES_MAX)
              (λ f. omega (arith, few, length-map (copies files f.0) (λ copy. clone_event session f.1 copy.number), length-filtered (λ file. is_cloned_from f.0 file.worked.origin) files)) (enumerate_from 0 files)),
        )

  length-clones : (next : ℕ) (wanted : List (SettledFile × ℕ)) → length (clones_from next wanted) ≤ length wanted
  length-clones next [] = omega arith
  length-clones next (clone ∷ wanted) = omega (arith, length-clones (next + 1) wanted)

  of_clones : (next : ℕ) (files : List SettledFile) → length files ≤ FILES_MAX → Each LeadsToFew files → length (clones_part session (clones_from next (wanted_clones files))) ≤ FILES_MAX * FAN_OUT_MAX
  of_clones next files few leads =
      let clones = clones_from next (wanted_clones files) in
      let want : SettledFile → List (SettledFile × ℕ) = λ file. map (λ connection. (file, connection)) (further_connections file.goes) in
      omega (
        arith,
        few,
        length-map clones (λ (clone : SettlementClone). clone_event session clone.original clone.number),
        length-clones next (wanted_clones files),
        length-joined want FAN_OUT_MAX files (each_weaker LeadsToFew (λ file. length (want file) ≤ FAN_OUT_MAX)
            (λ file others. omega (arith, others, length-map {B = SettledFile × ℕ} (further_connections file.goes) (λ (connection : ℕ). (file, connection)))) files leads),
      )

-- ---- of the session

sum : (a b c d e f g h i j k : List Draft) → length a ≤ FILES_MAX → length b ≤ FILES_MAX → length c ≤ FILES_MAX → length d ≤ FILES_MAX → length e ≤ FILES_MAX * FILES_MAX → length f ≤ FILES_MAX
    → length g ≤ FILES_MAX → length h ≤ FILES_MAX → length i ≤ 1 → length j ≤ FILES_MAX * FAN_OUT_MAX → length k ≤ FILES_MAX
    → length (a ++ b ++ c ++ d ++ e ++ f ++ g ++ h ++ i ++ j ++ k) ≤ FILES_MAX * FILES_MAX + FILES_MAX * (FAN_OUT_MAX + 9)
sum a b c d e f g h i j k ha hb hc hd he hf hg hh hi hj hk = simp length-append (omega arith)

pub draft_count : (session : EndedSession) (outcome : Outcome) → length (settled_files session outcome.files) ≤ FILES_MAX → Each LeadsToFew (settled_files session outcome.files)
    → length (drafts session outcome) ≤ FILES_MAX * FILES_MAX + FILES_MAX * (FAN_OUT_MAX + 9)
draft_count session outcome few leads =
    let files = settled_files session outcome.files in
    sum (flat_map (λ file. created session file file.worked.origin) files) (flat_map (λ file. received session file file.worked.origin) files) (forks session files) (joined_part session files)
    (clonings session files) (modified_part session files) (attributes_part session files) (routed_part session files) (sent session files outcome.sent)
    (clones_part session (settlement_clones session outcome.files)) (dropped_part session files)
    (one_each session files few (λ file. created session file file.worked.origin) (λ file. of_created session file file.worked.origin))
    (one_each session files few (λ file. received session file file.worked.origin) (λ file. of_received session file file.worked.origin))
    (of_forks session files few)
    (one_each session files few (λ file. joined session files file file.worked.origin) (λ file. of_joined session files file file.worked.origin))
    (of_clonings session files few)
    (one_each session files few (λ file. modified session file file.worked.origin) (λ file. of_modified session file file.worked.origin))
    (one_each session files few (λ file. attributes_modified session file file.worked.origin) (λ file. of_attributes session file file.worked.origin))
    (one_each session files few (λ file. routed session file file.worked.routed) (λ file. of_routed session file file.worked.routed))
    (of_sent session files outcome.sent)
    (of_clones session _ files few leads)
    (one_each session files few (λ file. dropped session file file.goes) (λ file. of_dropped session file file.goes))
