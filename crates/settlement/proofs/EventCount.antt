-- How many events tell of a session at most.
use Rattle.std.proofs.Common.{ℕ, ◌+◌, ◌*◌, ◌≤◌, Bool, true, false, cond, List, [], ◌∷◌, ◌++◌, length, arith, length-append}
use Rattle.std.specs.Prelude.{Option, Some, None, filter, slice_get, ◌||◌}
use Rattle.std.specs.Option.{option_map_or}
use Rattle.std.specs.List.{flat_map, enumerate_from}
use Rattle.std.proofs.lemmas.List.{length-map}
use Rattle.flowfile_record.specs.Outcome.{same_attributes}
use Rattle.flowfile_record.specs.declared.event.EventKind.TheVariants as kind
use Rattle.flowfile_record.specs.declared.flow_file.FlowFile.{FlowFile}
use Rattle.flowfile_record.specs.declared.worked.Origin.{Origin}
use Rattle.flowfile_record.specs.declared.worked.Origin.TheVariants as origin
use Rattle.flowfile_record.specs.declared.worked.Sent.{Sent}
use Rattle.machine_model.specs.Events.{is_removed}
use Rattle.settlement.specs.Placing.{wanted}
use Rattle.settlement.specs.Telling.{ToldSession, Unnumbered, all_drafts, draft_alone, attributes_drafts, children_of, clone_draft, clone_events, create_drafts, drop_drafts, fork_drafts, if_other, is_child, join_drafts, modify_drafts, receive_drafts, route_drafts, row_at, row_drafts, send_drafts}
use Rattle.settlement.specs.declared.file.EndedFile.{EndedFile}
use Rattle.settlement.specs.declared.file.Goes.{Goes}
use Rattle.settlement.specs.declared.file.Goes.TheVariants.{Queues, Returns, Drops, Leaves}
use Rattle.settlement.specs.declared.offspring.Kinship.TheVariants.{Forked, Cloned}
use Rattle.settlement.specs.declared.rows.Row.{Row}
use Rattle.settlement.specs.declared.rows.Row.TheVariants as row
use Rattle.settlement.proofs.AddedEvents.{length-clone_events}
use Rattle.settlement.proofs.Bounds.{length_filter}

one_or_none : {X : Type 0} (b : Bool) (x : X) → length (cond b [] (x ∷ [])) ≤ 1
one_or_none true x = omega arith
one_or_none false x = omega arith

created_bound : (told : ToldSession) (file : EndedFile) (from : Origin) → length (create_drafts told file from) ≤ 1
created_bound told file origin.Created = omega arith
created_bound told file _ = omega arith

received_bound : (told : ToldSession) (file : EndedFile) (from : Origin) → length (receive_drafts told file from) ≤ 1
received_bound told file origin.Received = omega arith
received_bound told file _ = omega arith

fork_bound : (told : ToldSession) (file : EndedFile) (children : List ℕ) → length (fork_drafts told file children) ≤ 1
fork_bound told file [] = omega arith
fork_bound told file (child ∷ children) = omega arith

joined_bound : (told : ToldSession) (file : EndedFile) (from : Origin) → length (join_drafts told file from) ≤ 1
joined_bound told file (origin.Joined parents) = omega arith
joined_bound told file _ = omega arith

modified_bound : (told : ToldSession) (file : EndedFile) (from : Origin) → length (modify_drafts told file from) ≤ 1
modified_bound told file (origin.Taken place) =
    elim (is_removed file.worked.«end») as (λ b. length (cond b [] (cond file.worked.written (draft_alone told kind.ContentModified file [] ∷ []) [])) ≤ 1) [
      | true ↦ omega arith
      | false ↦ elim file.worked.written as (λ b. length (cond b (draft_alone told kind.ContentModified file [] ∷ []) []) ≤ 1) [ true ↦ omega arith | false ↦ omega arith ]
    ]
modified_bound told file _ = omega arith

other_bound : (told : ToldSession) (file : EndedFile) (taken : Option FlowFile) → length (if_other told file taken) ≤ 1
other_bound told file None = omega arith
other_bound told file (Some taken) = one_or_none (same_attributes taken.attributes file.worked.attributes) (draft_alone told kind.AttributesModified file [])

attributes_bound : (told : ToldSession) (file : EndedFile) (from : Origin) → length (attributes_drafts told file from) ≤ 1
attributes_bound told file (origin.Taken place) =
    elim (is_removed file.worked.«end» || file.worked.written) as (λ b. length (cond b [] (if_other told file (slice_get told.taken place))) ≤ 1) [
      | true ↦ omega arith
      | false ↦ other_bound told file (slice_get told.taken place)
    ]
attributes_bound told file _ = omega arith

routed_bound : (told : ToldSession) (file : EndedFile) (to : Option ℕ) → length (route_drafts told file to) ≤ 1
routed_bound told file (Some relationship) = omega arith
routed_bound told file None = omega arith

dropped_bound : (told : ToldSession) (file : EndedFile) (goes : Goes) → length (drop_drafts told file goes) ≤ 1
dropped_bound told file (Drops relationship) = omega arith
dropped_bound told file Leaves = omega arith
dropped_bound told file (Queues first others) = omega arith
dropped_bound told file Returns = omega arith

sent_bound : (told : ToldSession) (put : Option Sent) → length (send_drafts told put) ≤ 1
sent_bound told None = omega arith
sent_bound told (Some put) = found (slice_get told.files put.place)
  where
    found : (file : Option EndedFile) → length (option_map_or (λ file. draft_alone told kind.Send file put.name ∷ []) file []) ≤ 1
    found None = omega arith
    found (Some file) = omega arith

row_bound : (told : ToldSession) (r : Row) (place : ℕ) (file : EndedFile) → length (row_at told r (place, file)) ≤ 1 + length told.files
row_bound told row.Created place file = omega (arith, created_bound told file file.worked.origin)
row_bound told row.Received place file = omega (arith, received_bound told file file.worked.origin)
row_bound told row.Forked place file = omega (arith, fork_bound told file (children_of Forked told.files place))
row_bound told row.Joined place file = omega (arith, joined_bound told file file.worked.origin)
row_bound told row.Cloned place file =
    let kept = filter (λ (file : EndedFile). is_child Cloned place file.worked.origin) told.files in
    omega (
      arith,
      length-map (children_of Cloned told.files place) (clone_draft told file),
      length-map kept (λ (file : EndedFile). file.number),
      length_filter (λ (file : EndedFile). is_child Cloned place file.worked.origin) told.files,
    )
row_bound told row.ContentModified place file = omega (arith, modified_bound told file file.worked.origin)
row_bound told row.AttributesModified place file = omega (arith, attributes_bound told file file.worked.origin)
row_bound told row.Routed place file = omega (arith, routed_bound told file file.worked.routed)
row_bound told row.Dropped place file = omega (arith, dropped_bound told file file.goes)

rows_bound : (told : ToldSession) (r : Row) (most k : ℕ) → 1 + length told.files ≤ most → (files : List EndedFile) → length (flat_map (row_at told r) (enumerate_from k files)) ≤ length files * most
rows_bound told r most k le [] = omega arith
rows_bound told r most k le (file ∷ files) =
    omega (arith, length-append (row_at told r (k, file)) (flat_map (row_at told r) (enumerate_from (k + 1) files)), row_bound told r k file, rows_bound told r most (k + 1) le files)

row_count : (told : ToldSession) (r : Row) → length told.files ≤ 10000 → length (row_drafts told r) ≤ 100020000
row_count told r few =
    let all = rows_bound told r 10001 0 (omega arith) told.files in omega (arith, all)

pub drafts-bound : (told : ToldSession) (put : Option Sent) (first clones : ℕ) → length told.files ≤ 10000 → length (wanted told.files) ≤ clones → length (all_drafts told put first) ≤ 1000000000 + clones
drafts-bound told put first clones few le =
    let a = row_drafts told row.Created in
    let b = row_drafts told row.Received in
    let c = row_drafts told row.Forked in
    let d = row_drafts told row.Joined in
    let e = row_drafts told row.Cloned in
    let f = row_drafts told row.ContentModified in
    let g = row_drafts told row.AttributesModified in
    let h = row_drafts told row.Routed in
    let s = send_drafts told put in
    let l = clone_events told first (wanted told.files) in
    let o = row_drafts told row.Dropped in
    sum a b c d e f g h s l o clones (row_count told row.Created few) (row_count told row.Received few) (row_count told row.Forked few) (row_count told row.Joined few) (row_count told row.Cloned few)
    (row_count told row.ContentModified few) (row_count told row.AttributesModified few) (row_count told row.Routed few) (sent_bound told put)
    (omega (arith, length-clone_events told first (wanted told.files))) (row_count told row.Dropped few)
  where
    sum : (a b c d e f g h s l o : List Unnumbered) (clones : ℕ) → length a ≤ 100020000 → length b ≤ 100020000 → length c ≤ 100020000 → length d ≤ 100020000 → length e ≤ 100020000
        → length f ≤ 100020000 → length g ≤ 100020000 → length h ≤ 100020000 → length s ≤ 1 → length l ≤ clones → length o ≤ 100020000
        → length ((a ++ b ++ c ++ d ++ e) ++ (f ++ g ++ h) ++ s ++ l ++ o) ≤ 1000000000 + clones
    sum a b c d e f g h s l o clones ha hb hc hd he hf hg hh hs hl ho = simp length-append (omega arith)
