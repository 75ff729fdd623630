-- The events of a settled session: which they are, how they are numbered, how many there are, and that each has a block.
use Rattle.std.proofs.Common.{◌≡◌, ◌+◌, ◌^◌, ◌<◌, ◌≤◌, List, length, sym, ap, subst, ◌∙◌, arith}
use Rattle.std.specs.Prelude.{All, None}
use Rattle.std.proofs.lemmas.List.{append_cancel_left, length-map}
use Rattle.flowfile_record.specs.Outcome.{AreInTurn}
use Rattle.flowfile_record.specs.declared.TheConstants.{CONTENT_MAX}
use Rattle.flowfile_record.specs.declared.event.Event.{Event}
use Rattle.flowfile_record.specs.declared.flow_file.FlowFile.{FlowFile}
use Rattle.record_codec.specs.ActiveFile.{active}
use Rattle.checkpoint_store.specs.Consistent.{IsFileIn}
use Rattle.kept_state.specs.Applied.{session_applied}
use Rattle.kept_state.specs.Limits.{numbers_limit}
use Rattle.machine_model.specs.Changing.{queued_file, state_after}
use Rattle.machine_model.specs.Events.{drafts, numbered_from}
use Rattle.machine_model.specs.Placing.{EndedSession, count_made, settled_files, settlement_clones}
use Rattle.machine_model.specs.Settling.{settle}
use Rattle.machine_model.specs.State.{QueuedFile, State}
use Rattle.machine_model.proofs.Drafted.{length-numbered, numbers_in_row, session-drafts}
use Rattle.prov_store.specs.State.{AreNumberedFrom, HasBlock}
use Rattle.settlement.specs.Handed.{content_sizes}
use Rattle.settlement.specs.StateAfter.{LeavesAs}
use Rattle.engine_change.specs.Committing.{HasTexts}
use Rattle.engine_change.proofs.Cases.{Case, IsSettled, entry_in, handed, session_in, state_of}
use Rattle.engine_change.proofs.DraftCount.{draft_count}
use Rattle.engine_change.proofs.Each.{all_from_each, each_from_all, each_made, each_weaker}
use Rattle.engine_change.proofs.Encoded.{numbers_below}
use Rattle.engine_change.proofs.Ended.{IsKnown, clones_known, each_fits, each_leads, few_files, read_small}
use Rattle.engine_change.proofs.FanOut.{fan_out}
use Rattle.engine_change.proofs.Fits.{have_blocks}
use Rattle.engine_change.proofs.Names.{id_short, relationship_short}
use Rattle.engine_change.proofs.Past.{past}
use Rattle.engine_change.proofs.Recorded.{taken_kept, the_processor}
use Rattle.engine_change.proofs.Told.{IsFitSession, all_fit}

-- the session over the bytes that were read, and some events
abbrev session : (c : Case) → IsSettled c → EndedSession
session c is = session_in c (the_processor c is).0 is.may.bytes

-- the settlement leaves what the machine does
leaves : (c : Case) (is : IsSettled c) → LeavesAs c.ended is.may.bytes (state_after is.may.bytes (state_of c is.may.bytes) c.settled) (settle (session c is) c.ended.outcome)
leaves c is =
    let processor = the_processor c is in
    is.settles processor.0 is.may.bytes (state_of c is.may.bytes) (handed c is processor.0 processor.1 is.may.bytes)

told : (c : Case) (is : IsSettled c) → c.settled.events ≡ numbered_from (c.k.last_event + 1) (drafts (session c is) c.ended.outcome)
told c is = append_cancel_left (past c.k.last_event) c.settled.events _ ((leaves c is).events is.may.read)

next_is : (c : Case) (is : IsSettled c) → c.settled.next_number ≡ c.k.next_number + count_made c.ended.outcome.files + length (settlement_clones (session c is) c.ended.outcome.files)
next_is c is = ap (λ (s : State). s.next_number) (leaves c is).rest

-- ---- the session's files

known : (c : Case) (is : IsSettled c) → IsKnown (session c is) c.ended.outcome.files
known c is =
    let processor = the_processor c is in
    let kept = each_from_all (λ file. IsFileIn c.k (active c.ended.connection file)) c.ended.taken (taken_kept c is) in
    let sizes = length-map c.ended.taken (λ (file : FlowFile). file.content.size) in
    let files = length-map c.ended.taken (queued_file is.may.bytes) in
    record {
      contents = read_small is.may.bytes c.ended.taken c.ended.sources is.may.read
          (each_weaker (λ file. IsFileIn c.k (active c.ended.connection file)) (λ file. file.content.size ≤ CONTENT_MAX) (λ file known. known.encoded.file.content.size) c.ended.taken kept);
      numbers = each_made (λ (file : QueuedFile). (1 ≤ file.number) × (file.number < c.k.next_number)) (λ n. (1 ≤ n) × (n < c.k.next_number)) (λ file. file.number) (λ file known. known)
          (session c is).taken
          (each_made (λ file. IsFileIn c.k (active c.ended.connection file)) (λ (file : QueuedFile). (1 ≤ file.number) × (file.number < c.k.next_number)) (queued_file is.may.bytes)
          (λ file known. (known.encoded.file.first_number, known.number)) c.ended.taken kept);
      first = is.consistent.counters.next_number;
      relationships = is.may.relationships;
      sizes = content_sizes c.ended.taken;
      worked = is.may.outcome.each;
      in_turn = subst (λ n. AreInTurn 0 n c.ended.outcome.files) (sizes ∙ sym files) is.may.outcome.in_turn;
      few = is.may.outcome.count;
      short = relationship_short c.flow c.ended.processor processor.0 is.sound processor.1;
      fan_out = fan_out c.flow c.ended.processor processor.0 is.sound processor.1;
    }

fit_session : (c : Case) (is : IsSettled c) → IsFitSession (session c is)
fit_session c is =
    let processor = the_processor c is in
    record {
      moment = is.moment;
      component = id_short c.flow c.ended.processor processor.0 is.sound processor.1;
      received = is.received;
      relationships = relationship_short c.flow c.ended.processor processor.0 is.sound processor.1;
    }

-- ---- how many, and which numbers

count : (c : Case) (is : IsSettled c) → length c.settled.events ≡ length (drafts (session c is) c.ended.outcome)
count c is = ap length (told c is) ∙ length-numbered (c.k.last_event + 1) (drafts (session c is) c.ended.outcome)

pub event_count : (c : Case) → IsSettled c → length c.settled.events < 2 ^ 32
event_count c is =
    let about = known c is in
    omega (
      arith,
      count c is,
      draft_count (session c is) c.ended.outcome (few_files (session c is) c.ended.outcome.files about) (each_leads (session c is) c.ended.outcome.files about),
    )

pub events_numbered : (c : Case) → IsSettled c → AreNumberedFrom (c.k.last_event + 1) c.settled.events
events_numbered c is =
    let all = drafts (session c is) c.ended.outcome in
    subst (λ (events : List Event). AreNumberedFrom (c.k.last_event + 1) events) (sym (told c is))
    (numbers_in_row (c.k.last_event + 1) all (session-drafts (session c is) c.ended.outcome))

-- ---- each has a block

pub events_have_blocks : (c : Case) → IsSettled c → numbers_limit (session_applied c.k (entry_in c)) ≡ None → All HasBlock c.settled.events
events_have_blocks c is none =
    let below = numbers_below c none in
    let number_below = below.number in
    let event_below = below.event in
    let about = known c is in
    let next = next_is c is in
    let first = c.k.last_event + 1 in
    let all = drafts (session c is) c.ended.outcome in
    let files = settled_files (session c is) c.ended.outcome.files in
    let fit = each_fits (session c is) c.ended.outcome.files about (omega (arith, next, number_below)) in
    let clones = clones_known (c.k.next_number + count_made c.ended.outcome.files) files fit (omega (arith, next, number_below)) in
    let texts = each_from_all HasTexts (numbered_from first all) (subst (λ (events : List Event). All HasTexts events) (told c is) is.texts) in
    subst (λ (events : List Event). All HasBlock events) (sym (told c is))
    (all_from_each HasBlock (numbered_from first all)
    (have_blocks first all (omega arith) (omega (arith, event_below, count c is)) (session-drafts (session c is) c.ended.outcome)
    (all_fit (session c is) (fit_session c is) files fit (few_files (session c is) c.ended.outcome.files about) c.ended.outcome.sent is.sent
    (settlement_clones (session c is) c.ended.outcome.files) clones) texts))
