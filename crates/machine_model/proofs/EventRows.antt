-- That events are numbered in a row from the line on, and that new ones stand behind the others.
use Rattle.std.proofs.Common.{◌≡◌, inl, inr, ℕ, ◌+◌, ◌<◌, ◌≤◌, Bool, true, false, cond, List, [], ◌∷◌, ◌++◌, length, refl, sym, ap, ◌∙◌, arith, append_assoc}
use Rattle.std.specs.Prelude.{map, nat_lt, nat_le, ◌==◌, ◌%◌, ◌&&◌}
use Rattle.std.specs.List.{range_with_len}
use Rattle.std.proofs.lemmas.Bool.{and_parts, cases_lt, eqb-true, leb-true, lt-ltb, ltb-true, le-ltb}
use Rattle.std.proofs.lemmas.List.{append-nil, length-append, map-append}
use Rattle.std.proofs.lemmas.List.Elements.{filter-append}
use Rattle.flowfile_record.specs.declared.event.Event.{Event}
use Rattle.flowfile_record.specs.declared.limits.TheConstants.{EVENTS_PER_FILE}
use Rattle.machine_model.specs.State.{QueuedFile, State}
use Rattle.machine_model.specs.Events.{Draft, ascending, drafts, numbered_from}
use Rattle.machine_model.specs.Files.{queue_at}
use Rattle.machine_model.specs.Laws.{AddsEvents, SettlingNumbersEvents, StepsNumberEvents, ReplaysNumberEvents, ReplaysAddEvents, ReplaysKeepLine, left_past}
use Rattle.machine_model.specs.Settling.{settle}
use Rattle.machine_model.specs.Valid.{AreEventsInRow}
use Rattle.machine_model.specs.Stepping.{aged, expired, expiry_of, files_of, past, replay}
use Rattle.machine_model.specs.declared.flow.Connection.{Connection}
use Rattle.machine_model.proofs.Drafted.{IsDraft, draft-of-plain, length-numbered, numbers_in_row, row_joined, session-drafts, row_goes_on}
use Rattle.machine_model.proofs.Options.{if_when, if_weaker}
use Rattle.machine_model.proofs.Preserved.{IsKept, IsKeptUnaged, step-kept, replay-kept, replay-unaged}
use Rattle.machine_model.proofs.Tally.{Each, each-map}

abbrev number_of : Event → ℕ
number_of event = event.number

pub expiry-drafts : (connection : Connection) (moment : ℕ) (files : List QueuedFile) → Each IsDraft (map (expiry_of connection moment) files)
expiry-drafts connection moment files =
    each-map IsDraft (expiry_of connection moment) files (λ file. draft-of-plain (expiry_of connection moment file) (record { number = λ n. refl; named = λ n. refl; kin = refl }))

-- what an aging asks of the line
pub record MayAge (state : State) (line : ℕ) : Type 0 where
  pub whole : line % EVENTS_PER_FILE ≡ 0
  pub higher : state.line < line
  pub told : line ≤ state.last_event

pub may_age : (state : State) (line : ℕ) → ((line % EVENTS_PER_FILE == 0) && nat_lt state.line line && nat_le line state.last_event) ≡ true → MayAge state line
may_age state line passes =
    let parts = and_parts _ (nat_le line state.last_event) passes in
    let first = and_parts (line % EVENTS_PER_FILE == 0) (nat_lt state.line line) parts.0 in
    record { whole = eqb-true _ 0 first.0; higher = ltb-true state.line line first.1; told = leb-true line state.last_event parts.1 }

-- ---- events past a line

one_past : (line : ℕ) (event : Event) (events : List Event) → line < event.number → past line (event ∷ events) ≡ event ∷ past line events
one_past line event events lt = ap (λ b. cond b (event ∷ past line events) (past line events)) (lt-ltb line event.number lt)

one_gone : (line : ℕ) (event : Event) (events : List Event) → event.number ≤ line → past line (event ∷ events) ≡ past line events
one_gone line event events le = ap (λ b. cond b (event ∷ past line events) (past line events)) (le-ltb line event.number le)

row_parts : (first n : ℕ) (numbers : List ℕ) (m : ℕ) → ◌≡◌ {A = List ℕ} (n ∷ numbers) (first ∷ range_with_len (first + 1) m) → (n ≡ first) × (numbers ≡ range_with_len (first + 1) m)
row_parts first n numbers m is = (cc, cc)

-- all events of a row that begins past a line
all_past : (line first : ℕ) (events : List Event) → line < first → map number_of events ≡ range_with_len first (length events) → past line events ≡ events
all_past line first [] lt row = refl
all_past line first (event ∷ events) lt row =
    let parts = row_parts first event.number (map number_of events) (length events) row in
    one_past line event events (omega (arith, parts.0)) ∙ ap (λ rest. event ∷ rest) (all_past line (first + 1) events (omega arith) parts.1)

-- the events of a row past a line are a row
record IsRowPast (line to : ℕ) (events : List Event) : Type 0 where
  numbers : map number_of (past to events) ≡ range_with_len (to + 1) (length (past to events))
  many : to + length (past to events) ≡ line + length events

row_past : (line to : ℕ) (events : List Event) → line ≤ to → to ≤ line + length events → map number_of events ≡ range_with_len (line + 1) (length events) → IsRowPast line to events
row_past line to [] low high row = record { numbers = refl; many = omega arith }
row_past line to (event ∷ events) low high row = elim (cases_lt line to) [
  | inl lt ↦
      let parts = row_parts (line + 1) event.number (map number_of events) (length events) row in
      let rest = row_past (line + 1) to events (omega arith) (omega arith) parts.1 in
      let gone = one_gone to event events (omega (arith, parts.0)) in
      record { numbers = rw gone rest.numbers; many = rw gone (omega (arith, rest.many)) }
  | inr le ↦
      let same : line ≡ to = omega arith in
      let all = all_past to (line + 1) (event ∷ events) (omega arith) row in
      record { numbers = rw all (row ∙ ap (λ n. range_with_len (n + 1) (length (event ∷ events))) same); many = rw all (omega arith) }
]

-- ---- rows are kept

pub settle-numbers : SettlingNumbersEvents
settle-numbers session outcome before =
    let state = session.state in
    let told = drafts session outcome in
    record {
      line = before.line;
      numbers = row_goes_on state.line state.last_event state.events told (session-drafts session outcome) before.last_event before.numbers;
      last_event = omega (arith, before.last_event, length-append state.events (numbered_from (state.last_event + 1) told), length-numbered (state.last_event + 1) told);
    }

pub row-kept : IsKept AreEventsInRow
row-kept = record {
  others = record {
    settling = λ session outcome taken next ends before. settle-numbers session outcome before;
    expiry = λ state place numbers moment connection before.
        let files = files_of (queue_at state place) (ascending numbers) in
        let told = map (expiry_of connection moment) files in
        if_when _ (expired state place connection numbers moment) AreEventsInRow (λ _. record {
          line = before.line;
          numbers = row_goes_on state.line state.last_event state.events told (expiry-drafts connection moment files) before.last_event before.numbers;
          last_event = omega (arith, before.last_event, length-append state.events (numbered_from (state.last_event + 1) told), length-numbered (state.last_event + 1) told);
        });
    swap_out = λ state place numbers batch connection before. if_when _ _ AreEventsInRow (λ _. record { line = before.line; numbers = before.numbers; last_event = before.last_event });
    swap_in = λ state place batch connection before. if_when _ _ AreEventsInRow (λ _. record { line = before.line; numbers = before.numbers; last_event = before.last_event });
  };
  aging = λ state line before.
      if_when _ (aged state line) AreEventsInRow (λ passes.
      let may = may_age state line passes in
      let row = row_past state.line line state.events (omega (arith, may.higher)) (omega (arith, may.told, before.last_event)) before.numbers in
      record { line = may.whole; numbers = row.numbers; last_event = omega (arith, before.last_event, row.many) });
}

pub step-numbers : StepsNumberEvents
step-numbers = step-kept AreEventsInRow row-kept

pub replay-numbers : ReplaysNumberEvents
replay-numbers = replay-kept AreEventsInRow row-kept

-- ---- events are only added, and gone up to the line

past_twice : (low high : ℕ) (events : List Event) → low ≤ high → past high (past low events) ≡ past high events
past_twice low high [] le = refl
past_twice low high (event ∷ events) le = elim (cases_lt low event.number) [
  | inl lt ↦ rw (one_past low event events lt) (ap (λ rest. cond (nat_lt high event.number) (event ∷ rest) rest) (past_twice low high events le))
  | inr early ↦ rw (one_gone low event events early, one_gone high event events (omega arith)) (past_twice low high events le)
]

left-cases : (b : Bool) (to : ℕ) (xs ys : List Event) → (b ≡ true → past to ys ≡ ys) → cond b (past to (xs ++ ys)) (xs ++ ys) ≡ cond b (past to xs) xs ++ ys
left-cases true to xs ys past_it = filter-append (λ (event : Event). nat_lt to event.number) xs ys ∙ ap (λ rest. past to xs ++ rest) (past_it refl)
left-cases false to xs ys past_it = refl

left_twice : (from mid to : ℕ) (events : List Event) → from ≤ mid → mid ≤ to → left_past mid to (left_past from mid events) ≡ left_past from to events
left_twice from mid to events low high = elim (cases_lt from mid) [
  | inl raised ↦
      let once = lt-ltb from mid raised in
      let over = lt-ltb from to (omega arith) in
      rw (once, over) (elim (cases_lt mid to) [
        | inl again ↦ let twice = lt-ltb mid to again in rw twice (past_twice mid to events (omega arith))
        | inr stays ↦ let no = le-ltb mid to stays in let same : mid ≡ to = omega arith in rw no (ap (λ line. past line events) same)
      ])
  | inr stays ↦
      let no = le-ltb from mid stays in
      let same : mid ≡ from = omega arith in
      rw no (ap (λ line. left_past line to events) same)
]

-- events that are added in two goes, the line being where it was told between them
pub adds-both : (before mid after : State) (first then : List Event) → AddsEvents before mid first → AddsEvents mid after then → (before.line < mid.line → mid.line ≤ mid.last_event)
    → AddsEvents before after (first ++ then)
adds-both before mid after first then one two told =
    let at : before.last_event + 1 + length first ≡ mid.last_event + 1 = omega (arith, one.last_event) in
    let all = before.events ++ first in
    record {
      line = omega (arith, one.line, two.line);
      numbers = map-append number_of first then
          ∙ (λ i. one.numbers i ++ two.numbers i)
          ∙ ap (λ n. range_with_len (before.last_event + 1) (length first) ++ range_with_len n (length then)) (sym at)
          ∙ sym (row_joined (before.last_event + 1) (length first) (length then))
          ∙ ap (range_with_len (before.last_event + 1)) (sym (length-append first then));
      last_event = omega (arith, one.last_event, two.last_event, length-append first then);
      events = two.events
          ∙ ap (λ events. left_past mid.line after.line (events ++ then)) one.events
          ∙ ap (left_past mid.line after.line) (sym (left-cases (nat_lt before.line mid.line) mid.line all then
          (λ raised. all_past mid.line (mid.last_event + 1) then (omega (arith, told (ltb-true before.line mid.line raised))) two.numbers)))
          ∙ left_twice before.line mid.line after.line (all ++ then) one.line two.line
          ∙ ap (left_past before.line after.line) (append_assoc before.events first then);
    }

left-stays : (line : ℕ) (events : List Event) → left_past line line events ≡ events
left-stays line events = let no = le-ltb line line (omega arith) in rw no refl

-- events of drafts are added
pub adds-told : (state after : State) (told : List Draft) → Each IsDraft told → after.line ≡ state.line → after.last_event ≡ state.last_event + length told
    → after.events ≡ state.events ++ numbered_from (state.last_event + 1) told → AddsEvents state after (numbered_from (state.last_event + 1) told)
adds-told state after told honest line last events = record {
  line = omega (arith, line);
  numbers = numbers_in_row (state.last_event + 1) told honest;
  last_event = omega (arith, last, length-numbered (state.last_event + 1) told);
  events = events ∙ sym (left-stays state.line (state.events ++ numbered_from (state.last_event + 1) told)) ∙ ap (λ to. left_past state.line to (state.events ++ numbered_from (state.last_event + 1) told)) (sym line);
}

-- nothing is added
pub adds-nothing : (state after : State) → after.line ≡ state.line → after.last_event ≡ state.last_event → after.events ≡ state.events → AddsEvents state after []
adds-nothing state after line last events = record {
  line = omega (arith, line);
  numbers = refl;
  last_event = omega (arith, last);
  events = events ∙ sym (append-nil state.events) ∙ sym (left-stays state.line (state.events ++ [])) ∙ ap (λ to. left_past state.line to (state.events ++ [])) (sym line);
}

pub adds-aged : (state : State) (line : ℕ) → MayAge state line → AddsEvents state (aged state line) []
adds-aged state line may =
    let raised = lt-ltb state.line line may.higher in
    record {
      line = omega (arith, may.higher);
      numbers = refl;
      last_event = omega arith;
      events = ap (past line) (sym (append-nil state.events)) ∙ ap (λ b. cond b (past line (state.events ++ [])) (state.events ++ [])) (sym raised);
    }

-- what was added, and that the line, if it was raised, is where it was told
pub record IsAdding (before after : State) : Type 0 where
  pub more : List Event
  pub adds : AddsEvents before after more
  pub told : before.line < after.line → after.line ≤ after.last_event

pub adding-on : (before mid after : State) (then : List Event) → IsAdding before mid → AddsEvents mid after then → (mid.line < after.line → after.line ≤ after.last_event) → IsAdding before after
adding-on before mid after then was adds told = record {
  more = was.more ++ then;
  adds = adds-both before mid after was.more then was.adds adds was.told;
  told = λ raised. elim (cases_lt mid.line after.line) [
    | inl again ↦ told again
    | inr stays ↦ omega (arith, adds.line, adds.last_event, was.told (omega (arith, adds.line)))
  ];
}

pub adding-none : (state : State) → IsAdding state state
adding-none state = record { more = []; adds = adds-nothing state state refl refl refl; told = λ raised. absurd (omega arith) }

adds-kept : (before : State) → IsKept (IsAdding before)
adds-kept before = record {
  others = record {
    settling = λ session outcome taken next ends h.
        let state = session.state in
        let told = drafts session outcome in
        adding-on before state (settle session outcome) (numbered_from (state.last_event + 1) told) h
        (adds-told state (settle session outcome) told (session-drafts session outcome) refl refl refl) (λ raised. absurd (omega arith));
    expiry = λ state place numbers moment connection h.
        let files = files_of (queue_at state place) (ascending numbers) in
        let told = map (expiry_of connection moment) files in
        let after = expired state place connection numbers moment in
        if_when _ after (IsAdding before) (λ _.
        adding-on before state after (numbered_from (state.last_event + 1) told) h (adds-told state after told (expiry-drafts connection moment files) refl refl refl) (λ raised. absurd (omega arith)));
    swap_out = λ state place numbers batch connection h. if_when _ _ (IsAdding before) (λ _. adding-on before state _ [] h (adds-nothing state _ refl refl refl) (λ raised. absurd (omega arith)));
    swap_in = λ state place batch connection h. if_when _ _ (IsAdding before) (λ _. adding-on before state _ [] h (adds-nothing state _ refl refl refl) (λ raised. absurd (omega arith)));
  };
  aging = λ state line h. if_when _ (aged state line) (IsAdding before) (λ passes.
      let may = may_age state line passes in
      adding-on before state (aged state line) [] h (adds-aged state line may) (λ _. may.told));
}

pub replay-adds : ReplaysAddEvents
replay-adds flow machine journal =
    if_weaker (replay flow machine journal) (λ after. IsAdding machine.state after.state) _ (λ after adding. (adding.more, adding.adds))
    (replay-kept (IsAdding machine.state) (adds-kept machine.state) flow machine journal (adding-none machine.state))

-- ---- only an aging moves the line

line-kept : (line : ℕ) → IsKeptUnaged (λ state. state.line ≡ line)
line-kept line = record {
  settling = λ session outcome taken next ends h. h;
  expiry = λ state place numbers moment connection h. if_when _ (expired state place connection numbers moment) (λ state. state.line ≡ line) (λ _. h);
  swap_out = λ state place numbers batch connection h. if_when _ _ (λ state. state.line ≡ line) (λ _. h);
  swap_in = λ state place batch connection h. if_when _ _ (λ state. state.line ≡ line) (λ _. h);
}

pub replay-line : ReplaysKeepLine
replay-line flow machine steps none = replay-unaged (λ state. state.line ≡ machine.state.line) (line-kept machine.state.line) flow machine steps none refl
