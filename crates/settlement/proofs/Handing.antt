-- That what is handed in stands for a session of a valid state, and what the calls inside make of it settles it.
use Rattle.std.proofs.Common.{◌≡◌, inl, inr, ℕ, ◌*◌, ◌<◌, ◌≤◌, List, [], ◌∷◌, map, length, refl, sym, ap, subst, ◌∙◌, arith}
use Rattle.std.specs.Prelude.{◌==◌, All, Contains, IfOk, Ok, Err, Result, Some, slice_get, zip}
use Rattle.flowfile_record.specs.Ranges.{HaveRanges}
use Rattle.flowfile_record.specs.declared.change.Settled.{Settled}
use Rattle.std.proofs.lemmas.Bool.{cases_lt, ne_eqb}
use Rattle.std.proofs.lemmas.List.{length-map}
use Rattle.std.proofs.lemmas.List.Elements.{All-head, All-tail}
use Rattle.flowfile_record.specs.Outcome.{AreInTurn, IsWorked}
use Rattle.flowfile_record.specs.declared.content.ContentRef.{ContentRef}
use Rattle.flowfile_record.specs.declared.flow_file.FlowFile.{FlowFile}
use Rattle.flowfile_record.specs.declared.worked.Worked.{Worked}
use Rattle.machine_model.specs.declared.flow.Flow.{Flow}
use Rattle.machine_model.specs.declared.flow.Processor.{Processor}
use Rattle.machine_model.specs.declared.given.Given.{Given}
use Rattle.machine_model.specs.Changing.{queued_file, state_after}
use Rattle.machine_model.specs.Files.{queue_at}
use Rattle.machine_model.specs.Placing.{SettledFile, settled_file, numbers_from, entered_in, count_made}
use Rattle.machine_model.specs.Settling.{settle}
use Rattle.machine_model.specs.State.{QueuedFile, State}
use Rattle.machine_model.proofs.Among.{Among, all_among, among_contained, makes}
use Rattle.machine_model.proofs.Keyed.{once_from_differ}
use Rattle.machine_model.proofs.Tally.{Each, bit, many, run_below, run_once}
use Rattle.settlement.specs.Contents.{body_content, IsBodyWithin}
use Rattle.settlement.specs.Ending.{ended_files}
use Rattle.settlement.specs.Handed.{AreReadSources, SessionIsHanded, MaySettle, ended_session, content_sizes}
use Rattle.settlement.specs.Placing.{wanted}
use Rattle.settlement.specs.StateAfter.{LeavesAs, Settles}
use Rattle.settlement.specs.Whole.{settled_in}
use Rattle.settlement.specs.declared.counters.Counters.{Counters}
use Rattle.settlement.specs.declared.handed.Ended.{Ended}
use Rattle.settlement.proofs.Arriving.{HasBytes}
use Rattle.settlement.proofs.Bounds.{clones-bound}
use Rattle.settlement.proofs.Bytes.{content-bytes}
use Rattle.settlement.proofs.EndedFiles.{Case, by_body, by_bytes, counters_of, ended-by-body, ended-by-bytes, ended_of, place, session, taken_contents, taken_numbers}
use Rattle.settlement.proofs.EventCount.{drafts-bound}
use Rattle.settlement.proofs.Queues.{Stands, files_of, in_all, many_files}
use Rattle.settlement.proofs.Settles.{EventsFit, ended_all, first_clone, over-events, over-kin, over-last, over-queues, over-rest, settled_over}
use Rattle.settlement.proofs.Taken.{IsEitherOne, each-either}
use Rattle.settlement.proofs.ToldEvents.{told}

-- ---- bytes

all_has : (c : Case) (relationships : ℕ) (numbers entered : List ℕ) (files : List Worked) → HaveRanges c.bytes → All (IsWorked relationships (content_sizes c.ended.taken)) files
    → Each (HasBytes (by_body c)) (map (λ f. settled_file (session c) (f.0, f.1.0, f.1.1)) (zip numbers (zip entered files)))
all_has c relationships [] entered files ranges worked = tt
all_has c relationships (number ∷ numbers) [] files ranges worked = tt
all_has c relationships (number ∷ numbers) (moment ∷ entered) [] ranges worked = tt
all_has c relationships (number ∷ numbers) (moment ∷ entered) (file ∷ files) ranges worked = (
  rw (taken_contents c.bytes c.ended.taken) (content-bytes c.bytes c.ended.taken c.ended.sources file.body ranges (All-head (IsWorked relationships (content_sizes c.ended.taken)) file files worked).body),
  all_has c relationships numbers entered files ranges (All-tail (IsWorked relationships (content_sizes c.ended.taken)) file files worked),
)

-- ---- numbers

none_above : (taken : List FlowFile) (next n : ℕ) → ((one : FlowFile) → Among one taken → one.number < next) → next ≤ n → many (λ (file : FlowFile). file.number) n taken ≡ 0
none_above [] next n below le = refl
none_above (file ∷ taken) next n below le =
    let none : bit (file.number == n) ≡ 0 = ap bit (ne_eqb file.number n (λ same. omega (arith, below file (inl refl)))) in
    omega (arith, none_above taken next n (λ one there. below one (inr there)) le)

abbrev case_of : Flow → Given → Ended → Processor → (ContentRef → List ℕ) → State → Case
case_of flow given ended processor bytes state = record {
  flow = flow;
  given = given;
  ended = ended;
  processor = processor;
  bytes = bytes;
  state = state;
  content = λ file. body_content ended.taken ended.sources file.worked.body;
}

stands : (c : Case) (counters : Counters) → MaySettle c.flow counters c.ended → SessionIsHanded c.flow counters c.ended c.processor c.bytes c.state → HaveRanges c.bytes → Stands (by_body c)
stands c counters may handed ranges = record { valid = handed.valid; there = there; known = record { turn = turn; once = once; either = either }; bytes = has }
  where
    there : (one : FlowFile) → Among one c.ended.taken → Among (queued_file c.bytes one) (queue_at c.state c.ended.connection)
    there one in_taken =
        among_contained (queued_file c.bytes one) (queue_at c.state c.ended.connection)
        (all_among (Contains (queue_at c.state c.ended.connection)) (queued_file c.bytes one) (map (queued_file c.bytes) c.ended.taken) handed.there (makes (queued_file c.bytes) c.ended.taken one in_taken))

    turn : AreInTurn 0 (length c.ended.taken) c.ended.outcome.files
    turn = subst (λ n. AreInTurn 0 n c.ended.outcome.files) (length-map c.ended.taken (λ (file : FlowFile). file.content.size)) may.outcome.in_turn

    below : (one : FlowFile) → Among one c.ended.taken → one.number < c.state.next_number
    below one in_taken =
        (all_among (λ (file : QueuedFile). (1 ≤ file.number) × (file.number < c.state.next_number)) (queued_file c.bytes one) _ handed.valid.numbered.numbers.within
        (in_all c.state.queues c.ended.connection (queued_file c.bytes one) (there one in_taken))).1

    once : (n : ℕ) → many (λ (file : SettledFile). file.number) n (files_of c) ≤ 1
    once n = elim (cases_lt n c.state.next_number) [
      | inl lt ↦ omega (arith, many_files c n turn, once_from_differ (λ (file : FlowFile). file.number) c.ended.taken handed.differ n, run_below c.state.next_number (count_made c.ended.outcome.files) n lt)
      | inr ge ↦ omega (arith, many_files c n turn, none_above c.ended.taken c.state.next_number n below ge, run_once c.state.next_number (count_made c.ended.outcome.files) n)
    ]

    either : Each (IsEitherOne (by_body c)) (files_of c)
    either =
        rw (taken_numbers c.bytes c.ended.taken)
        (each-either (by_body c) may.relationships (content_sizes c.ended.taken) 0 c.state.next_number (entered_in c.given.moment (map (λ (file : QueuedFile). file.entered) (map (queued_file c.bytes) c.ended.taken)) c.ended.outcome.files) c.ended.outcome.files (omega arith) turn may.outcome.each)

    has : Each (HasBytes (by_body c)) (files_of c)
    has = all_has c may.relationships (numbers_from c.state.next_number (map (λ (file : QueuedFile). file.number) (map (queued_file c.bytes) c.ended.taken)) c.ended.outcome.files) (entered_in c.given.moment (map (λ (file : QueuedFile). file.entered) (map (queued_file c.bytes) c.ended.taken)) c.ended.outcome.files) c.ended.outcome.files ranges may.outcome.each

-- ---- events

files_few : (c : Case) (numbers entered : List ℕ) (files : List Worked) → length (map (λ f. settled_file (session c) (f.0, f.1.0, f.1.1)) (zip numbers (zip entered files))) ≤ length files
files_few c [] entered files = omega arith
files_few c (number ∷ numbers) [] files = omega arith
files_few c (number ∷ numbers) (moment ∷ entered) [] = omega arith
files_few c (number ∷ numbers) (moment ∷ entered) (file ∷ files) = omega (arith, files_few c numbers entered files)

fits : (c : Case) (counters : Counters) → MaySettle c.flow counters c.ended → SessionIsHanded c.flow counters c.ended c.processor c.bytes c.state → AreReadSources c.bytes c.ended.taken c.ended.sources → EventsFit c
fits c counters may handed read =
    let files = map (ended_of (by_bytes c)) (files_of c) in
    let few : length files ≤ 10000 = omega (arith, length-map (files_of c) (ended_of (by_bytes c)), files_few c (numbers_from c.state.next_number (map (λ (file : QueuedFile). file.number) (map (queued_file c.bytes) c.ended.taken)) c.ended.outcome.files) (entered_in c.given.moment (map (λ (file : QueuedFile). file.entered) (map (queued_file c.bytes) c.ended.taken)) c.ended.outcome.files) c.ended.outcome.files, may.outcome.count) in
    let same : ended_files (place c) c.state.next_number c.ended.outcome.files ≡ files = ended-by-bytes c c.ended.outcome.files read may.parts in
    let clones : length (wanted files) ≤ length c.ended.outcome.files * 65536
    = subst (λ xs. length (wanted xs) ≤ length c.ended.outcome.files * 65536) same (clones-bound (place c) c.state.next_number 65536 c.ended.outcome.files may.connections) in
    let drafts = drafts-bound (told c (files_of c)) c.ended.outcome.sent (first_clone c) (length c.ended.outcome.files * 65536) few clones in
    omega (arith, drafts, handed.last_event, may.last_event, may.outcome.count)

-- ---- all of it

-- what the calls inside make of a case
abbrev made : Case → Settled
made c = settled_in c.flow c.given (counters_of c.state) c.ended c.processor

made_by_body : (c : Case) → made c ≡ settled_over c (ended_all (by_body c))
made_by_body c = ap (settled_over c) (ended-by-body c c.ended.outcome.files)

made_by_bytes : (c : Case) → AreReadSources c.bytes c.ended.taken c.ended.sources → All (λ file. IsBodyWithin c.ended.sources file.body) c.ended.outcome.files → made c ≡ settled_over c (ended_all (by_bytes c))
made_by_bytes c read within = ap (settled_over c) (ended-by-bytes c c.ended.outcome.files read within)

leaves : (c : Case) (counters : Counters) → MaySettle c.flow counters c.ended → SessionIsHanded c.flow counters c.ended c.processor c.bytes c.state
    → LeavesAs c.ended c.bytes (state_after c.bytes c.state (made c)) (settle (session c) c.ended.outcome)
leaves c counters may handed = record {
  queues = λ ranges. ap (λ settled. (state_after c.bytes c.state settled).queues) (made_by_body c) ∙ over-queues (by_body c) (stands c counters may handed ranges);
  events = λ read. ap (λ settled. (state_after c.bytes c.state settled).events) (made_by_bytes c read may.parts) ∙ over-events c (fits c counters may handed read);
  kin = λ read. ap (λ settled. (state_after c.bytes c.state settled).kin) (made_by_bytes c read may.parts) ∙ over-kin c handed.valid.kin (fits c counters may handed read);
  last_event = λ read. ap (λ settled. (state_after c.bytes c.state settled).last_event) (made_by_bytes c read may.parts) ∙ over-last c (fits c counters may handed read);
  rest = ap (λ settled. rest_of (state_after c.bytes c.state settled)) (made_by_body c) ∙ over-rest (by_body c);
}
  where
    rest_of : State → State
    rest_of state =
        let wanted = settle (session c) c.ended.outcome in
        record state { queues = wanted.queues; events = wanted.events; kin = wanted.kin; last_event = wanted.last_event }

-- what the calls inside make settles the session
pub settled-settles : (flow : Flow) (given : Given) (counters : Counters) (ended : Ended) (processor : Processor) → MaySettle flow counters ended
    → ((other : Processor) → slice_get flow.processors ended.processor ≡ Some other → other ≡ processor)
    → Settles flow given counters ended (settled_in flow given counters ended processor)
settled-settles flow given counters ended processor may only other bytes state handed =
    let wanted = settle (ended_session flow given ended other bytes state) ended.outcome in
    let same : counters_of state ≡ counters = λ i. record { store = handed.store i; next_number = handed.next_number i; next_arrival = handed.next_arrival i; last_event = handed.last_event i } in
    subst (λ k. LeavesAs ended bytes (state_after bytes state (settled_in flow given k ended processor)) wanted) same
    (subst (λ p. LeavesAs ended bytes (state_after bytes state (settled_in flow given (counters_of state) ended p)) wanted) (only other handed.found)
    (leaves (case_of flow given ended other bytes state) counters may handed))

pub if-settles : {E : Type 0} (flow : Flow) (given : Given) (counters : Counters) (ended : Ended) (processor : Processor) (result : Result Settled E) → MaySettle flow counters ended
    → ((other : Processor) → slice_get flow.processors ended.processor ≡ Some other → other ≡ processor)
    → IfOk result (λ settled. settled ≡ settled_in flow given counters ended processor) → IfOk result (Settles flow given counters ended)
if-settles flow given counters ended processor (Ok settled) may only is =
    subst (Settles flow given counters ended) (sym is) (settled-settles flow given counters ended processor may only)
if-settles flow given counters ended processor (Err error) may only is = is
