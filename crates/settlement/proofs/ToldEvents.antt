-- That the events which the calls inside tell are those of the machine.
use Rattle.std.proofs.Common.{◌≡◌, ℕ, ◌+◌, Bool, true, false, cond, List, [], ◌∷◌, ◌++◌, map, refl, sym, ap, ◌∙◌, append_assoc}
use Rattle.std.specs.Prelude.{Option, Some, None, filter, slice_get, slice_index, ◌||◌}
use Rattle.std.specs.Option.{option_map, option_map_or}
use Rattle.std.specs.List.{enumerate_from, flat_map}
use Rattle.std.proofs.lemmas.List.{map-append}
use Rattle.flowfile_record.specs.Outcome.{same_attributes}
use Rattle.flowfile_record.specs.declared.event.EventKind.TheVariants as kind
use Rattle.flowfile_record.specs.declared.flow_file.FlowFile.{FlowFile}
use Rattle.flowfile_record.specs.declared.worked.Origin.{Origin}
use Rattle.flowfile_record.specs.declared.worked.Origin.TheVariants as origin
use Rattle.flowfile_record.specs.declared.worked.Sent.{Sent}
use Rattle.flowfile_record.specs.declared.worked.Outcome.{Outcome}
use Rattle.machine_model.specs.Changing.{queued_file}
use Rattle.machine_model.specs.Events as machine
use Rattle.machine_model.specs.Events.{Draft, drafts, is_removed}
use Rattle.machine_model.specs.Placing as placing
use Rattle.machine_model.specs.Placing.{SettledFile, SettlementClone, Destination, settled_files, settlement_clones, wanted_clones, further_connections, count_made}
use Rattle.machine_model.specs.State.{QueuedFile}
use Rattle.settlement.specs.Ending.{goes_to}
use Rattle.settlement.specs.Placing.{wanted, further}
use Rattle.settlement.specs.Telling.{ToldSession, Unnumbered, draft_alone, ended_number, create_drafts, receive_drafts, fork_drafts, join_drafts, clone_draft, modify_drafts, attributes_drafts, if_other, route_drafts, drop_drafts, row_at, row_drafts, send_drafts, clone_events, all_drafts}
use Rattle.settlement.specs.Whole.{told_of}
use Rattle.settlement.specs.declared.file.EndedFile.{EndedFile}
use Rattle.settlement.specs.declared.rows.Row.{Row}
use Rattle.settlement.specs.declared.rows.Row.TheVariants as row
use Rattle.settlement.proofs.EndedFiles.{Case, by_bytes, ended_of, session}
use Rattle.settlement.proofs.Listing.{map-map, filter-map, get-map, flat_map-map, map-flat_map, flat_map-same, enumerated-map, enumerated-each}

abbrev pub told : Case → List SettledFile → ToldSession
told c files = told_of c.processor c.ended.taken c.given (map (ended_of (by_bytes c)) files)

-- the events of drafts
abbrev events : List Draft → List Unnumbered
events drafts = map (λ (draft : Draft). draft.event) drafts

events-cond : (b : Bool) (xs ys : List Draft) → events (cond b xs ys) ≡ cond b (events xs) (events ys)
events-cond true xs ys = refl
events-cond false xs ys = refl

-- ---- rows of a file alone

created_same : (c : Case) (files : List SettledFile) (file : SettledFile) (from : Origin) → create_drafts (told c files) (ended_of (by_bytes c) file) from ≡ events (machine.created (session c) file from)
created_same c files file origin.Created = refl
created_same c files file origin.Received = refl
created_same c files file (origin.Taken of) = refl
created_same c files file (origin.Forked of) = refl
created_same c files file (origin.Part of) = refl
created_same c files file (origin.Cloned of) = refl
created_same c files file (origin.Joined of) = refl

received_same : (c : Case) (files : List SettledFile) (file : SettledFile) (from : Origin) → receive_drafts (told c files) (ended_of (by_bytes c) file) from ≡ events (machine.received (session c) file from)
received_same c files file origin.Created = refl
received_same c files file origin.Received = refl
received_same c files file (origin.Taken of) = refl
received_same c files file (origin.Forked of) = refl
received_same c files file (origin.Part of) = refl
received_same c files file (origin.Cloned of) = refl
received_same c files file (origin.Joined of) = refl

modified_same : (c : Case) (files : List SettledFile) (file : SettledFile) (from : Origin) → modify_drafts (told c files) (ended_of (by_bytes c) file) from ≡ events (machine.modified (session c) file from)
modified_same c files file origin.Created = refl
modified_same c files file origin.Received = refl
modified_same c files file (origin.Taken of) =
    sym (events-cond (is_removed file.worked.«end») [] _ ∙ ap (cond (is_removed file.worked.«end») []) (events-cond file.worked.written _ []))
modified_same c files file (origin.Forked of) = refl
modified_same c files file (origin.Part of) = refl
modified_same c files file (origin.Cloned of) = refl
modified_same c files file (origin.Joined of) = refl

other_same : (c : Case) (files : List SettledFile) (file : SettledFile) (taken : Option FlowFile) → if_other (told c files) (ended_of (by_bytes c) file) taken
    ≡ events (option_map_or (λ (taken : QueuedFile). cond (same_attributes taken.attributes file.attributes) [] (machine.alone (session c) kind.AttributesModified file [] ∷ []))
    (option_map (queued_file c.bytes) taken) [])
other_same c files file None = refl
other_same c files file (Some taken) = sym (events-cond (same_attributes taken.attributes file.attributes) [] _)

attributes_same : (c : Case) (files : List SettledFile) (file : SettledFile) (from : Origin)
    → attributes_drafts (told c files) (ended_of (by_bytes c) file) from ≡ events (machine.attributes_modified (session c) file from)
attributes_same c files file (origin.Taken of) =
    ap (cond (is_removed file.worked.«end» || file.worked.written) [])
    (other_same c files file (slice_get c.ended.taken of)
    ∙ ap (λ found. events (option_map_or (λ (taken : QueuedFile). cond (same_attributes taken.attributes file.attributes) [] (machine.alone (session c) kind.AttributesModified file [] ∷ [])) found []))
    (sym (get-map (queued_file c.bytes) c.ended.taken of)))
    ∙ sym (events-cond (is_removed file.worked.«end» || file.worked.written) [] _)
attributes_same c files file origin.Created = refl
attributes_same c files file origin.Received = refl
attributes_same c files file (origin.Forked of) = refl
attributes_same c files file (origin.Part of) = refl
attributes_same c files file (origin.Cloned of) = refl
attributes_same c files file (origin.Joined of) = refl

routed_same : (c : Case) (files : List SettledFile) (file : SettledFile) (to : Option ℕ) → route_drafts (told c files) (ended_of (by_bytes c) file) to ≡ events (machine.routed (session c) file to)
routed_same c files file None = refl
routed_same c files file (Some relationship) = refl

dropped_same : (c : Case) (files : List SettledFile) (file : SettledFile) (goes : Destination) → drop_drafts (told c files) (ended_of (by_bytes c) file) (goes_to goes) ≡ events (machine.dropped (session c) file goes)
dropped_same c files file (placing.Queues first others) = refl
dropped_same c files file placing.Returns = refl
dropped_same c files file (placing.Drops relationship) = refl
dropped_same c files file placing.Leaves = refl

-- ---- rows of a file and others

numbers_same : (c : Case) (files : List SettledFile) → map (λ (file : EndedFile). file.number) (map (ended_of (by_bytes c)) files) ≡ map (λ (file : SettledFile). file.number) files
numbers_same c files = map-map (λ (file : EndedFile). file.number) (ended_of (by_bytes c)) files

number_at_same : (c : Case) (files : List SettledFile) → ended_number (map (ended_of (by_bytes c)) files) ≡ machine.number_at files
number_at_same c files = λ i place. slice_index (numbers_same c files i) place

joined_same : (c : Case) (files : List SettledFile) (file : SettledFile) (from : Origin) → join_drafts (told c files) (ended_of (by_bytes c) file) from ≡ events (machine.joined (session c) files file from)
joined_same c files file (origin.Joined parents) =
    ap (λ at. machine.of_file (session c) kind.Join file (machine.ascending (map at parents)) (file.number ∷ []) [] ∷ []) (number_at_same c files)
joined_same c files file origin.Created = refl
joined_same c files file origin.Received = refl
joined_same c files file (origin.Taken of) = refl
joined_same c files file (origin.Forked of) = refl
joined_same c files file (origin.Part of) = refl
joined_same c files file (origin.Cloned of) = refl

chosen_same : (c : Case) (p : Origin → Bool) (files : List SettledFile)
    → map (λ (file : EndedFile). file.number) (filter (λ (file : EndedFile). p file.worked.origin) (map (ended_of (by_bytes c)) files))
    ≡ map (λ (file : SettledFile). file.number) (filter (λ (file : SettledFile). p file.worked.origin) files)
chosen_same c p files =
    ap (map (λ (file : EndedFile). file.number)) (filter-map (λ (file : EndedFile). p file.worked.origin) (ended_of (by_bytes c)) files)
    ∙ numbers_same c (filter (λ (file : SettledFile). p file.worked.origin) files)

fork_same : (c : Case) (files : List SettledFile) (file : SettledFile) (children : List ℕ) → fork_drafts (told c files) (ended_of (by_bytes c) file) children ≡ events (machine.fork_of (session c) file children)
fork_same c files file [] = refl
fork_same c files file (child ∷ children) = refl

forked_same : (c : Case) (files : List SettledFile) (k : ℕ) (file : SettledFile) → row_at (told c files) row.Forked (k, ended_of (by_bytes c) file) ≡ events (machine.fork_of (session c) file (machine.forked_children files k))
forked_same c files k file =
    ap (fork_drafts (told c files) (ended_of (by_bytes c) file)) (chosen_same c (machine.is_forked_from k) files) ∙ fork_same c files file (machine.forked_children files k)

cloned_same : (c : Case) (files : List SettledFile) (k : ℕ) (file : SettledFile)
    → row_at (told c files) row.Cloned (k, ended_of (by_bytes c) file) ≡ events (map (λ (copy : SettledFile). machine.clone_event (session c) file copy.number) (machine.copies files k))
cloned_same c files k file =
    ap (map (clone_draft (told c files) (ended_of (by_bytes c) file))) (chosen_same c (machine.is_cloned_from k) files)
    ∙ map-map (clone_draft (told c files) (ended_of (by_bytes c) file)) (λ (copy : SettledFile). copy.number) (machine.copies files k)
    ∙ sym (map-map (λ (draft : Draft). draft.event) (λ (copy : SettledFile). machine.clone_event (session c) file copy.number) (machine.copies files k))

-- ---- what is sent, and clones

sent_at : (c : Case) (files : List SettledFile) (put : Sent) (found : Option SettledFile)
    → option_map_or (λ file. draft_alone (told c files) kind.Send file put.name ∷ []) (option_map (ended_of (by_bytes c)) found) []
    ≡ events (option_map_or (λ file. machine.alone (session c) kind.Send file put.name ∷ []) found [])
sent_at c files put None = refl
sent_at c files put (Some file) = refl

sent_same : (c : Case) (files : List SettledFile) (put : Option Sent) → send_drafts (told c files) put ≡ events (machine.sent (session c) files put)
sent_same c files None = refl
sent_same c files (Some put) =
    ap (λ found. option_map_or (λ file. draft_alone (told c files) kind.Send file put.name ∷ []) found []) (get-map (ended_of (by_bytes c)) files put.place)
    ∙ sent_at c files put (slice_get files put.place)

pub further_same : (goes : Destination) → further (goes_to goes) ≡ further_connections goes
further_same (placing.Queues first others) = refl
further_same placing.Returns = refl
further_same (placing.Drops relationship) = refl
further_same placing.Leaves = refl

abbrev pub as_ended : Case → SettledFile × ℕ → EndedFile × ℕ
as_ended c clone = (ended_of c clone.0, clone.1)

wanted_of : (c : Case) (file : SettledFile) → map (λ connection. (ended_of c file, connection)) (further (goes_to file.goes)) ≡ map (as_ended c) (map (λ connection. (file, connection)) (further_connections file.goes))
wanted_of c file =
    ap (map (λ connection. (ended_of c file, connection))) (further_same file.goes)
    ∙ sym (map-map (as_ended c) (λ connection. (file, connection)) (further_connections file.goes))

pub wanted-same : (c : Case) (files : List SettledFile) → wanted (map (ended_of c) files) ≡ map (as_ended c) (wanted_clones files)
wanted-same c files =
    flat_map-map (λ (file : EndedFile). map (λ connection. (file, connection)) (further file.goes)) (ended_of c) files
    ∙ flat_map-same _ _ (wanted_of c) files
    ∙ sym (map-flat_map (as_ended c) (λ (file : SettledFile). map (λ connection. (file, connection)) (further_connections file.goes)) files)

clones_same : (c : Case) (files : List SettledFile) (number : ℕ) (clones : List (SettledFile × ℕ))
    → clone_events (told c files) number (map (as_ended (by_bytes c)) clones)
    ≡ events (map (λ (clone : SettlementClone). machine.clone_event (session c) clone.original clone.number) (placing.clones_from number clones))
clones_same c files number [] = refl
clones_same c files number (clone ∷ clones) = ap (λ rest. (machine.clone_event (session c) clone.0 number).event ∷ rest) (clones_same c files (number + 1) clones)

-- ---- all rows

-- one kind behind the other
abbrev in_rows : {X : Type 0} (a b c d e f g h s l o : List X) → List X
in_rows a b c d e f g h s l o = a ++ b ++ c ++ d ++ e ++ f ++ g ++ h ++ s ++ l ++ o

regroup : (a b c d e f g h s l o : List Unnumbered) → ((a ++ b ++ c ++ d ++ e) ++ (f ++ g ++ h) ++ s ++ l ++ o) ≡ in_rows a b c d e f g h s l o
regroup a b c d e f g h s l o = simp append_assoc

together : (a b c d e f g h s l o : List Draft)
    → events (in_rows a b c d e f g h s l o) ≡ in_rows (events a) (events b) (events c) (events d) (events e) (events f) (events g) (events h) (events s) (events l) (events o)
together a b c d e f g h s l o = simp map-append

each_row : (c : Case) (files : List SettledFile) (r : Row) (m : SettledFile → List Draft) → ((k : ℕ) (file : SettledFile) → row_at (told c files) r (k, ended_of (by_bytes c) file) ≡ events (m file))
    → row_drafts (told c files) r ≡ events (flat_map m files)
each_row c files r m each =
    enumerated-each (row_at (told c files) r) (λ file. events (m file)) (ended_of (by_bytes c)) each 0 files ∙ sym (map-flat_map (λ (draft : Draft). draft.event) m files)

-- the same, where what is told of a file goes by its place
each_place : (c : Case) (files : List SettledFile) (r : Row) (m : ℕ × SettledFile → List Draft) → ((k : ℕ) (file : SettledFile) → row_at (told c files) r (k, ended_of (by_bytes c) file) ≡ events (m (k, file)))
    → row_drafts (told c files) r ≡ events (flat_map m (enumerate_from 0 files))
each_place c files r m each =
    enumerated-map (row_at (told c files) r) (λ f. events (m f)) (ended_of (by_bytes c)) each 0 files ∙ sym (map-flat_map (λ (draft : Draft). draft.event) m (enumerate_from 0 files))

pub drafts-same : (c : Case) (outcome : Outcome) → all_drafts (told c (settled_files (session c) outcome.files)) outcome.sent (c.state.next_number + count_made outcome.files) ≡ events (drafts (session c) outcome)
drafts-same c outcome =
    let files = settled_files (session c) outcome.files in
    let first = c.state.next_number + count_made outcome.files in
    let created_row = each_row c files row.Created (λ file. machine.created (session c) file file.worked.origin) (λ k file. created_same c files file file.worked.origin) in
    let received_row = each_row c files row.Received (λ file. machine.received (session c) file file.worked.origin) (λ k file. received_same c files file file.worked.origin) in
    let forked_row = each_place c files row.Forked (λ f. machine.fork_of (session c) f.1 (machine.forked_children files f.0)) (forked_same c files) in
    let joined_row = each_row c files row.Joined (λ file. machine.joined (session c) files file file.worked.origin) (λ k file. joined_same c files file file.worked.origin) in
    let cloned_row = each_place c files row.Cloned (λ f. map (λ (copy : SettledFile). machine.clone_event (session c) f.1 copy.number) (machine.copies files f.0)) (cloned_same c files) in
    let modified_row = each_row c files row.ContentModified (λ file. machine.modified (session c) file file.worked.origin) (λ k file. modified_same c files file file.worked.origin) in
    let attributes_row = each_row c files row.AttributesModified (λ file. machine.attributes_modified (session c) file file.worked.origin) (λ k file. attributes_same c files file file.worked.origin) in
    let routed_row = each_row c files row.Routed (λ file. machine.routed (session c) file file.worked.routed) (λ k file. routed_same c files file file.worked.routed) in
    let sent_row = sent_same c files outcome.sent in
    let clone_drafts = map (λ (clone : SettlementClone). machine.clone_event (session c) clone.original clone.number) (settlement_clones (session c) outcome.files) in
    let clones_row : clone_events (told c files) first (wanted (map (ended_of (by_bytes c)) files)) ≡ events clone_drafts
    = ap (clone_events (told c files) first) (wanted-same (by_bytes c) files) ∙ clones_same c files first (wanted_clones files) in
    let dropped_row = each_row c files row.Dropped (λ file. machine.dropped (session c) file file.goes) (λ k file. dropped_same c files file file.goes) in
    regroup (row_drafts (told c files) row.Created) (row_drafts (told c files) row.Received) (row_drafts (told c files) row.Forked) (row_drafts (told c files) row.Joined) (row_drafts (told c files) row.Cloned)
    (row_drafts (told c files) row.ContentModified) (row_drafts (told c files) row.AttributesModified) (row_drafts (told c files) row.Routed) (send_drafts (told c files) outcome.sent)
    (clone_events (told c files) first (wanted (map (ended_of (by_bytes c)) files))) (row_drafts (told c files) row.Dropped)
    ∙ (λ i. in_rows (created_row i) (received_row i) (forked_row i) (joined_row i) (cloned_row i) (modified_row i) (attributes_row i) (routed_row i) (sent_row i) (clones_row i) (dropped_row i))
    ∙ sym (together (flat_map (λ file. machine.created (session c) file file.worked.origin) files) (flat_map (λ file. machine.received (session c) file file.worked.origin) files)
    (machine.forks (session c) files) (flat_map (λ file. machine.joined (session c) files file file.worked.origin) files) (machine.clonings (session c) files)
    (flat_map (λ file. machine.modified (session c) file file.worked.origin) files) (flat_map (λ file. machine.attributes_modified (session c) file file.worked.origin) files)
    (flat_map (λ file. machine.routed (session c) file file.worked.routed) files) (machine.sent (session c) files outcome.sent) clone_drafts
    (flat_map (λ file. machine.dropped (session c) file file.goes) files))
