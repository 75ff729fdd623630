-- That the files which come into the queues with a session are told of.
use Rattle.std.proofs.Common.{◌≡◌, ◌⊎◌, inl, inr, ℕ, zero, suc, ◌+◌, ◌<◌, Bool, true, false, cond, List, [], ◌∷◌, ◌++◌, map, length, refl, sym, ap, subst, ◌∙◌, arith}
use Rattle.std.specs.Prelude.{◌==◌, All, Contains, Option, Some, None, find, slice_get, slice_index, zip}
use Rattle.std.specs.List.{flat_map, enumerate_from}
use Rattle.std.proofs.lemmas.Bool.{eqb-true}
use Rattle.std.proofs.lemmas.List.Elements.{All-weaker}
use Rattle.flowfile_record.specs.Outcome.{is_made, parents_of, StandsInTurn, AreInTurn}
use Rattle.flowfile_record.specs.declared.worked.Origin.{Origin}
use Rattle.flowfile_record.specs.declared.worked.Origin.TheVariants as origin
use Rattle.flowfile_record.specs.declared.worked.Outcome.{Outcome}
use Rattle.flowfile_record.specs.declared.worked.Worked.{Worked}
use Rattle.machine_model.specs.Events.{drafts}
use Rattle.machine_model.specs.Laws.{HasTaken, EndsAllInTurn}
use Rattle.machine_model.specs.Placing.{EndedSession, SettledFile, SettlementClone, Destination, Queues, Returns, Drops, Leaves, settled_file, settled_files, settlement_clones, entered_in, numbers_from, number_by, next_behind, goes}
use Rattle.machine_model.specs.Settling.{Newcomer, newcomer, newcomers, in_queue, arriving, staying, staying_as, settle}
use Rattle.machine_model.specs.State.{QueuedFile}
use Rattle.machine_model.specs.Valid.{files_of_all}
use Rattle.machine_model.proofs.Among.{Among, among_contained, all_among, among_either, comes_from, goes_to, is_made as made_by}
use Rattle.machine_model.proofs.Numbered.{number_of}
use Rattle.machine_model.proofs.Places.{at_place_below, place_of}
use Rattle.machine_model.proofs.Settled.{stayed, queues_after}
use Rattle.machine_model.proofs.Tally.{find-passes}
use Rattle.event_laws.proofs.Files.{Has, all}
use Rattle.event_laws.proofs.Made.{TellComing, made-told, clone-told}

-- ---- where a settled file stands

-- a taken file has the number of the taken one of its place
abbrev pub HasNumber : (taken : List ℕ) → Origin → (number : ℕ) → Type 0
HasNumber taken (origin.Taken of) number = number ≡ slice_index taken of
HasNumber taken _ number = Unit {0}

has_number : (next : ℕ) (taken : List ℕ) (from : Origin) → HasNumber taken from (number_by next taken from)
has_number next taken (origin.Taken of) = refl
has_number next taken origin.Created = tt
has_number next taken origin.Received = tt
has_number next taken (origin.Forked parent) = tt
has_number next taken (origin.Part parent) = tt
has_number next taken (origin.Cloned parent) = tt
has_number next taken (origin.Joined parents) = tt

-- a file of a session that took so many, which ends with files up to the last place
pub record IsSettled (session : EndedSession) (taken : List ℕ) (count last : ℕ) (file : SettledFile) : Type 0 where
  pub place : ℕ
  pub turn : StandsInTurn place count file.worked.origin
  pub parents : All (λ parent. parent < place) (parents_of file.worked.origin)
  pub within : place < last
  pub number : HasNumber taken file.worked.origin file.number
  pub goes : file.goes ≡ goes session.flow session.place session.processor file.worked.«end»

abbrev settled_from : EndedSession → (taken : List ℕ) (next : ℕ) (entered : List ℕ) → List Worked → List SettledFile
settled_from session taken next entered files = map (λ f. settled_file session (f.0, f.1.0, f.1.1)) (zip (numbers_from next taken files) (zip entered files))

settled_each : (session : EndedSession) (taken : List ℕ) (next place count : ℕ) (entered : List ℕ) (files : List Worked) → AreInTurn place count files → (file : SettledFile)
    → Among file (settled_from session taken next entered files) → IsSettled session taken count (place + length (settled_from session taken next entered files)) file
settled_each session taken next place count entered [] turn file h = absurd h
settled_each session taken next place count [] (first ∷ files) turn file h = absurd h
settled_each session taken next place count (time ∷ entered) (first ∷ files) turn file (inl is) =
    subst (IsSettled session taken count (place + suc (length (settled_from session taken (next_behind next first.origin) entered files)))) is
    (record { place = place; turn = turn.0; parents = turn.1; within = omega arith; number = has_number next taken first.origin; goes = refl })
settled_each session taken next place count (time ∷ entered) (first ∷ files) turn file (inr h) =
    let rest = settled_each session taken (next_behind next first.origin) (place + 1) count entered files turn.2 file h in
    record { place = rest.place; turn = rest.turn; parents = rest.parents; within = omega (arith, rest.within); number = rest.number; goes = rest.goes }

abbrev pub taken_numbers : EndedSession → List ℕ
taken_numbers session = map number_of session.taken

pub settled : (session : EndedSession) (outcome : Outcome) → EndsAllInTurn (length session.taken) outcome → (file : SettledFile) → Among file (settled_files session outcome.files)
    → IsSettled session (taken_numbers session) (length session.taken) (0 + length (settled_files session outcome.files)) file
settled session outcome ends file h =
    settled_each session (taken_numbers session) session.state.next_number 0 (length session.taken)
    (entered_in session.given.moment (map (λ (file : QueuedFile). file.entered) session.taken) outcome.files) outcome.files ends file h

-- ---- its number was there, or is told of

at_among : {X : Type 0} (xs : List X) (place : ℕ) (x : X) → slice_get xs place ≡ Some x → Among x xs
at_among [] place x is = cc
at_among (y ∷ xs) zero x is = let same : y ≡ x = cc in inl same
at_among (y ∷ xs) (suc place) x is = inr (at_among xs place x is)

number_at_place : (files : List QueuedFile) (place : ℕ) (file : QueuedFile) → slice_get files place ≡ Some file → slice_index (map number_of files) place ≡ file.number
number_at_place [] place file is = cc
number_at_place (first ∷ files) zero file is = let same : first ≡ file = cc in ap number_of same
number_at_place (first ∷ files) (suc place) file is = number_at_place files place file is

taken-there : (session : EndedSession) → HasTaken session → (of number : ℕ) → of < length session.taken → number ≡ slice_index (taken_numbers session) of → Has (files_of_all session.state) number
taken-there session taken of number within is =
    let at = at_place_below session.taken of within in
    let there = all_among (Contains (files_of_all session.state)) at.element session.taken taken.there (at_among session.taken of at.element at.is) in
    record {
      source = at.element;
      there = among_contained at.element (files_of_all session.state) there;
      is = sym (is ∙ number_at_place session.taken of at.element at.is);
    }

abbrev ComesTold : EndedSession → Outcome → ℕ → Type 0
ComesTold session outcome number = Has (files_of_all session.state) number ⊎ TellComing number (drafts session outcome)

made_there : (session : EndedSession) (outcome : Outcome) (file : SettledFile) → Among file (settled_files session outcome.files) → is_made file.worked.origin ≡ true
    → IsSettled session (taken_numbers session) (length session.taken) (0 + length (settled_files session outcome.files)) file → TellComing file.number (drafts session outcome)
made_there session outcome file there made settled =
    let count = length (settled_files session outcome.files) in
    made-told session outcome file there made
    (All-weaker (λ parent. parent < settled.place) (λ parent. parent < count) (λ parent h. omega (arith, settled.within)) (parents_of file.worked.origin) settled.parents)

by_origin : (session : EndedSession) (outcome : Outcome) (file : SettledFile) (from : Origin) → HasTaken session → Among file (settled_files session outcome.files) → file.worked.origin ≡ from
    → IsSettled session (taken_numbers session) (length session.taken) (0 + length (settled_files session outcome.files)) file → ComesTold session outcome file.number
by_origin session outcome file (origin.Taken of) taken there is settled =
    let turn = subst (StandsInTurn settled.place (length session.taken)) is settled.turn in
    inl (taken-there session taken of file.number (omega (arith, turn.0, turn.1)) (subst (λ o. HasNumber (taken_numbers session) o file.number) is settled.number))
by_origin session outcome file origin.Created taken there is settled = inr (made_there session outcome file there (ap is_made is) settled)
by_origin session outcome file origin.Received taken there is settled = inr (made_there session outcome file there (ap is_made is) settled)
by_origin session outcome file (origin.Forked of) taken there is settled = inr (made_there session outcome file there (ap is_made is) settled)
by_origin session outcome file (origin.Part of) taken there is settled = inr (made_there session outcome file there (ap is_made is) settled)
by_origin session outcome file (origin.Cloned of) taken there is settled = inr (made_there session outcome file there (ap is_made is) settled)
by_origin session outcome file (origin.Joined parents) taken there is settled = inr (made_there session outcome file there (ap is_made is) settled)

-- ---- what the queues have behind a session

-- what stays in a file's place has its number
stay_number : (queued : QueuedFile) (found : Option SettledFile) (file : QueuedFile) → ((settled : SettledFile) → found ≡ Some settled → settled.number ≡ queued.number) → Among file (staying_as queued found)
    → file.number ≡ queued.number
stay_number queued None file same (inl is) = ap number_of (sym is)
stay_number queued None file same (inr h) = absurd h
stay_number queued (Some settled) file same h = by_goal settled.goes refl h
  where
    by_goal : (goes : Destination) → settled.goes ≡ goes → Among file (staying_as queued (Some settled)) → file.number ≡ queued.number
    by_goal (Queues first others) is h = absurd (rw is at h)
    by_goal Returns is h = elim (rw is at h) [ inl e ↦ ap number_of (sym e) ∙ same settled refl | inr later ↦ absurd later ]
    by_goal (Drops relationship) is h = absurd (rw is at h)
    by_goal Leaves is h = absurd (rw is at h)

stayed_was : (files : List SettledFile) (queues : List (List QueuedFile)) (queue : List QueuedFile) (file : QueuedFile) → Among queue queues → Among file (staying files queue) → Has (all queues) file.number
stayed_was files queues queue file there h =
    let from = comes_from (stayed files) queue file h in
    let queued = from.source in
    let same = stay_number queued (find (λ f. f.number == queued.number) files) file
    (λ settled found. eqb-true settled.number queued.number (find-passes (λ f. f.number == queued.number) files settled found)) from.made in
    record { source = queued; there = goes_to (λ queue. queue) queues queue queued there from.there; is = sym same }

-- a newcomer with its arrival
record HasArrived (coming : List Newcomer) (file : QueuedFile) : Type 0 where
  newcomer : Newcomer
  arrival : ℕ
  there : Among newcomer coming
  is : newcomer.1 arrival ≡ file

abbrev behind_first : ℕ → (place : ℕ) (first : Newcomer) (rest : List Newcomer) (same : Bool) → List QueuedFile
behind_first arrival place first rest same = cond same (first.1 arrival ∷ arriving (arrival + 1) place rest) (arriving (arrival + 1) place rest)

arrived_later : (first : Newcomer) (rest : List Newcomer) (file : QueuedFile) → HasArrived rest file → HasArrived (first ∷ rest) file
arrived_later first rest file had = record { newcomer = had.newcomer; arrival = had.arrival; there = inr had.there; is = had.is }

arrived_first : (arrival place : ℕ) (first : Newcomer) (rest : List Newcomer) (file : QueuedFile) (same : Bool) → (Among file (arriving (arrival + 1) place rest) → HasArrived rest file)
    → Among file (behind_first arrival place first rest same) → HasArrived (first ∷ rest) file
arrived_first arrival place first rest file true later (inl is) = record { newcomer = first; arrival = arrival; there = inl refl; is = is }
arrived_first arrival place first rest file true later (inr h) = arrived_later first rest file (later h)
arrived_first arrival place first rest file false later h = arrived_later first rest file (later h)

has_arrived : (arrival place : ℕ) (coming : List Newcomer) (file : QueuedFile) → Among file (arriving arrival place coming) → HasArrived coming file
has_arrived arrival place [] file h = absurd h
has_arrived arrival place (first ∷ rest) file h = arrived_first arrival place first rest file (first.0 == place) (λ later. has_arrived (arrival + 1) place rest file later) h

new_number : (file : SettledFile) (goes : Destination) (new : Newcomer) (arrival : ℕ) → Among new (newcomer file goes) → (new.1 arrival).number ≡ file.number
new_number file (Queues first others) new arrival (inl is) = ap (λ (n : Newcomer). (n.1 arrival).number) (sym is)
new_number file (Queues first others) new arrival (inr h) = absurd h
new_number file Returns new arrival h = absurd h
new_number file (Drops relationship) new arrival h = absurd h
new_number file Leaves new arrival h = absurd h

arrived_told : (session : EndedSession) (outcome : Outcome) (file : QueuedFile) → HasTaken session → EndsAllInTurn (length session.taken) outcome
    → HasArrived (newcomers (settled_files session outcome.files) (settlement_clones session outcome.files)) file → ComesTold session outcome file.number
arrived_told session outcome file taken ends arrived =
    let files = settled_files session outcome.files in
    let clones = settlement_clones session outcome.files in
    let of_clone : SettlementClone → Newcomer = λ clone. (clone.connection, in_queue clone.original clone.number) in
    elim (among_either arrived.newcomer (flat_map (λ file. newcomer file file.goes) files) (map of_clone clones) arrived.there) [
      | inl new ↦
          let from = comes_from (λ file. newcomer file file.goes) files arrived.newcomer new in
          let same : from.source.number ≡ file.number = sym (new_number from.source from.source.goes arrived.newcomer arrived.arrival from.made) ∙ ap number_of arrived.is in
          subst (ComesTold session outcome) same
          (by_origin session outcome from.source from.source.worked.origin taken from.there refl (settled session outcome ends from.source from.there))
      | inr new ↦
          let made = made_by of_clone clones arrived.newcomer new in
          let same : made.source.number ≡ file.number = ap (λ (n : Newcomer). (n.1 arrived.arrival).number) made.is ∙ ap number_of arrived.is in
          inr (subst (λ n. TellComing n (drafts session outcome)) same (clone-told session outcome made.source made.there))
    ]

queue_there : (queues : List (List QueuedFile)) (numbered : ℕ × List QueuedFile) → Among numbered (enumerate_from 0 queues) → Among numbered.1 queues
queue_there queues numbered h = let at = place_of 0 queues numbered h in at_among queues at.place numbered.1 at.is

-- a file of the queues behind a session was there, or is told of
pub comes-told : (session : EndedSession) (outcome : Outcome) (number : ℕ) → HasTaken session → EndsAllInTurn (length session.taken) outcome → Has (files_of_all (settle session outcome)) number
    → ComesTold session outcome number
comes-told session outcome number taken ends has =
    let queues = session.state.queues in
    let files = settled_files session outcome.files in
    let coming = newcomers files (settlement_clones session outcome.files) in
    let next = session.state.next_arrival in
    let behind = λ (queue : ℕ × List QueuedFile). staying files queue.1 ++ arriving next queue.0 coming in
    let from = comes_from (λ queue. queue) (queues_after files coming next queues) has.source has.there in
    let made = made_by behind (enumerate_from 0 queues) from.source from.there in
    let queue = made.source in
    let here : Among has.source (staying files queue.1 ++ arriving next queue.0 coming) = subst (Among has.source) (sym made.is) from.made in
    subst (ComesTold session outcome) has.is (elim (among_either has.source (staying files queue.1) (arriving next queue.0 coming) here) [
      | inl stays ↦ inl (stayed_was files queues queue.1 has.source (queue_there queues queue made.there) stays)
      | inr comes ↦ arrived_told session outcome has.source taken ends (has_arrived next queue.0 coming has.source comes)
    ])
