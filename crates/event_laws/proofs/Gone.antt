-- That the files which go out of the queues with a session are told of.
use Rattle.std.proofs.Common.{◌≡◌, ◌⊎◌, inl, inr, ℕ, zero, suc, ◌+◌, ◌<◌, true, false, cond, List, [], ◌∷◌, ◌++◌, length, refl, sym, ap, subst, ◌∙◌, arith}
use Rattle.std.specs.Prelude.{◌==◌, Option, Some, None, find, filter, slice_get}
use Rattle.std.specs.List.{flat_map, enumerate_from}
use Rattle.std.proofs.lemmas.Bool.{eqb-true, eq-eqb}
use Rattle.flowfile_record.specs.declared.worked.End.{End}
use Rattle.flowfile_record.specs.declared.worked.End.TheVariants.{To, Back, Removed}
use Rattle.flowfile_record.specs.declared.worked.Outcome.{Outcome}
use Rattle.flowfile_record.specs.declared.event.EventKind.TheVariants as kind
use Rattle.machine_model.specs.declared.flow.Connection.{Connection}
use Rattle.machine_model.specs.declared.flow.Flow.{Flow}
use Rattle.machine_model.specs.declared.flow.Processor.{Processor}
use Rattle.machine_model.specs.Events.{alone, dropped, drafts}
use Rattle.machine_model.specs.Kinds.{is_among}
use Rattle.machine_model.specs.Laws.{EndsAllInTurn}
use Rattle.machine_model.specs.Placing.{EndedSession, SettledFile, Destination, Queues, Returns, Drops, Leaves, settled_files, settlement_clones, goes, to_connections, connections_of, relationship_at, leads}
use Rattle.machine_model.specs.Settling.{Newcomer, newcomer, newcomers, in_queue, arriving, staying, staying_as, settle}
use Rattle.machine_model.specs.State.{QueuedFile}
use Rattle.machine_model.specs.Valid.{files_of_all}
use Rattle.machine_model.proofs.Among.{Among, among_contained, among_left, among_right, comes_from, goes_to, is_made, makes, kept_by}
use Rattle.machine_model.proofs.Drafted.{dropped_part}
use Rattle.machine_model.proofs.Places.{at_place_below, enumerated, place_of}
use Rattle.machine_model.proofs.Settled.{stayed, queues_after}
use Rattle.machine_model.proofs.Tally.{find-passes}
use Rattle.machine_model.proofs.Took.{find-contains}
use Rattle.event_laws.specs.Told.{TellsOfGoing}
use Rattle.event_laws.proofs.Files.{Has}
use Rattle.event_laws.proofs.Settled.{settled}
use Rattle.event_laws.proofs.Told.{Tell}

-- ---- a file goes to a connection of its flow

abbrev IsWithin : (count : ℕ) → Destination → Type 0
IsWithin count (Queues first others) = first < count
IsWithin count _ = Unit {0}

at_below : {X : Type 0} (xs : List X) (place : ℕ) (x : X) → slice_get xs place ≡ Some x → place < length xs
at_below [] place x is = cc
at_below (y ∷ xs) zero x is = omega arith
at_below (y ∷ xs) (suc place) x is = omega (arith, at_below xs place x is)

connection_within : (flow : Flow) (place : ℕ) (relationship : List ℕ) (first : ℕ) → Among first (connections_of flow place relationship) → first < length flow.connections
connection_within flow place relationship first h =
    let made = is_made (λ (c : ℕ × Connection). c.0) (filter (leads place relationship) (enumerate_from 0 flow.connections)) first h in
    let kept = kept_by (leads place relationship) (enumerate_from 0 flow.connections) made.source made.there in
    let at = place_of 0 flow.connections made.source kept.0 in
    omega (arith, made.is, at.number, at_below flow.connections at.place made.source.1 at.is)

to_within : (count : ℕ) (relationship connections : List ℕ) → ((first : ℕ) → Among first connections → first < count) → IsWithin count (to_connections relationship connections)
to_within count relationship [] each = tt
to_within count relationship (first ∷ others) each = each first (inl refl)

goes_within : (flow : Flow) (place : ℕ) (processor : Processor) (way : End) → IsWithin (length flow.connections) (goes flow place processor way)
goes_within flow place processor (To at) =
    let relationship = relationship_at processor at in
    let connections = connections_of flow place relationship in
    elim (is_among relationship processor.terminated) as (λ b. IsWithin (length flow.connections) (cond b (Drops relationship) (to_connections relationship connections))) [
      | true ↦ tt
      | false ↦ to_within (length flow.connections) relationship connections (connection_within flow place relationship)
    ]
goes_within flow place processor Back = tt
goes_within flow place processor Removed = tt

-- ---- a newcomer of a queue's place arrives there

record Arrives (arrival place : ℕ) (coming : List Newcomer) (newcomer : Newcomer) : Type 0 where
  at : ℕ
  there : Among (newcomer.1 at) (arriving arrival place coming)

arrives : (arrival place : ℕ) (coming : List Newcomer) (newcomer : Newcomer) → Among newcomer coming → newcomer.0 ≡ place → Arrives arrival place coming newcomer
arrives arrival place [] newcomer h is = absurd h
arrives arrival place (first ∷ rest) newcomer (inl same) is =
    let yes : (first.0 == place) ≡ true = eq-eqb first.0 place (ap (λ (n : Newcomer). n.0) same ∙ is) in
    record { at = arrival; there = subst (λ b. Among (newcomer.1 arrival) (cond b (first.1 arrival ∷ arriving (arrival + 1) place rest) (arriving (arrival + 1) place rest))) (sym yes) (inl (ap (λ (n : Newcomer). n.1 arrival) same)) }
arrives arrival place (first ∷ rest) newcomer (inr h) is =
    let later = arrives (arrival + 1) place rest newcomer h is in
    record {
      at = later.at;
      there = elim (first.0 == place) as (λ b. Among (newcomer.1 later.at) (cond b (first.1 arrival ∷ arriving (arrival + 1) place rest) (arriving (arrival + 1) place rest))) [
        | true ↦ inr later.there
        | false ↦ later.there
      ];
    }

-- ---- a queued file is still there, or is told of

abbrev GoesTold : EndedSession → Outcome → ℕ → Type 0
GoesTold session outcome number = Has (files_of_all (settle session outcome)) number ⊎ Tell (λ event. TellsOfGoing event number) (drafts session outcome)

abbrev coming_of : EndedSession → Outcome → List Newcomer
coming_of session outcome = newcomers (settled_files session outcome.files) (settlement_clones session outcome.files)

-- what a queue has behind a session, the queues have
in_behind : (session : EndedSession) (outcome : Outcome) (queue : ℕ × List QueuedFile) (file : QueuedFile) → Among queue (enumerate_from 0 session.state.queues)
    → Among file (staying (settled_files session outcome.files) queue.1 ++ arriving session.state.next_arrival queue.0 (coming_of session outcome)) → Among file (files_of_all (settle session outcome))
in_behind session outcome queue file there h =
    let files = settled_files session outcome.files in
    let coming = coming_of session outcome in
    let next = session.state.next_arrival in
    let behind = λ (queue : ℕ × List QueuedFile). staying files queue.1 ++ arriving next queue.0 coming in
    goes_to (λ queue. queue) (queues_after files coming next session.state.queues) (behind queue) file (makes behind (enumerate_from 0 session.state.queues) queue there) h

stays_there : (session : EndedSession) (outcome : Outcome) (queue : ℕ × List QueuedFile) (queued file : QueuedFile) → Among queue (enumerate_from 0 session.state.queues) → Among queued queue.1
    → Among file (stayed (settled_files session outcome.files) queued) → Among file (files_of_all (settle session outcome))
stays_there session outcome queue queued file there queued_there stays =
    let files = settled_files session outcome.files in
    in_behind session outcome queue file there
    (among_left file (staying files queue.1) (arriving session.state.next_arrival queue.0 (coming_of session outcome)) (goes_to (stayed files) queue.1 queued file queued_there stays))

-- a file that goes to a queue of the state is there
joins_there : (session : EndedSession) (outcome : Outcome) (file : SettledFile) (first : ℕ) (others : List ℕ) → Among file (settled_files session outcome.files) → file.goes ≡ Queues first others
    → first < length session.state.queues → Has (files_of_all (settle session outcome)) file.number
joins_there session outcome file first others there is within =
    let files = settled_files session outcome.files in
    let new : Newcomer = (first, in_queue file file.number) in
    let made : Among new (newcomer file file.goes) = subst (λ goes. Among new (newcomer file goes)) (sym is) (inl refl) in
    let comes : Among new (coming_of session outcome) = among_left new (flat_map (λ file. newcomer file file.goes) files) _ (goes_to (λ file. newcomer file file.goes) files file new there made) in
    let arrived = arrives session.state.next_arrival first (coming_of session outcome) new comes refl in
    let at = at_place_below session.state.queues first within in
    let queue : Among (first, at.element) (enumerate_from 0 session.state.queues)
    = subst (λ n. Among (n, at.element) (enumerate_from 0 session.state.queues)) (omega arith) (enumerated 0 session.state.queues first at.element at.is) in
    record {
      source = in_queue file file.number arrived.at;
      there = in_behind session outcome (first, at.element) (in_queue file file.number arrived.at) queue
          (among_right (in_queue file file.number arrived.at) (staying files at.element) (arriving session.state.next_arrival first (coming_of session outcome)) arrived.there);
      is = refl;
    }

drop_told : (session : EndedSession) (outcome : Outcome) (file : SettledFile) (detail : List ℕ) → Among file (settled_files session outcome.files) → Among (alone session kind.Drop file detail) (dropped session file file.goes)
    → Tell (λ event. TellsOfGoing event file.number) (drafts session outcome)
drop_told session outcome file detail there h =
    let files = settled_files session outcome.files in
    let draft = alone session kind.Drop file detail in
    record {
      draft = draft;
      there = among_right draft _ (dropped_part session files) (goes_to (λ file. dropped session file file.goes) files file draft there h);
      tells = λ number. refl;
    }

by_way : (session : EndedSession) (outcome : Outcome) (queue : ℕ × List QueuedFile) (queued : QueuedFile) (file : SettledFile) (way : Destination) → Among queue (enumerate_from 0 session.state.queues)
    → Among queued queue.1 → find (λ file. file.number == queued.number) (settled_files session outcome.files) ≡ Some file → Among file (settled_files session outcome.files) → file.goes ≡ way
    → IsWithin (length session.state.queues) way → GoesTold session outcome file.number
by_way session outcome queue queued file (Queues first others) there queued_there found in_files is within = inl (joins_there session outcome file first others in_files is within)
by_way session outcome queue queued file Returns there queued_there found in_files is within =
    let back = in_queue file file.number queued.arrival in
    let stays : Among back (staying_as queued (Some file)) = rw is (inl refl) in
    inl (record { source = back; there = stays_there session outcome queue queued back there queued_there (subst (λ o. Among back (staying_as queued o)) (sym found) stays); is = refl })
by_way session outcome queue queued file (Drops relationship) there queued_there found in_files is within =
    let draft = alone session kind.Drop file relationship in
    inr (drop_told session outcome file relationship in_files (subst (λ goes. Among draft (dropped session file goes)) (sym is) (inl refl)))
by_way session outcome queue queued file Leaves there queued_there found in_files is within =
    let draft = alone session kind.Drop file [] in
    inr (drop_told session outcome file [] in_files (subst (λ goes. Among draft (dropped session file goes)) (sym is) (inl refl)))

by_found : (session : EndedSession) (outcome : Outcome) (queue : ℕ × List QueuedFile) (queued : QueuedFile) (found : Option SettledFile) → EndsAllInTurn (length session.taken) outcome
    → length session.state.queues ≡ length session.flow.connections → Among queue (enumerate_from 0 session.state.queues) → Among queued queue.1
    → find (λ file. file.number == queued.number) (settled_files session outcome.files) ≡ found → GoesTold session outcome queued.number
by_found session outcome queue queued None ends long there queued_there is =
    inl (record { source = queued; there = stays_there session outcome queue queued queued there queued_there (subst (λ o. Among queued (staying_as queued o)) (sym is) (inl refl)); is = refl })
by_found session outcome queue queued (Some file) ends long there queued_there is =
    let files = settled_files session outcome.files in
    let same : file.number ≡ queued.number = eqb-true file.number queued.number (find-passes (λ file. file.number == queued.number) files file is) in
    let in_files : Among file files = among_contained file files (find-contains (λ file. file.number == queued.number) files file is) in
    let within : IsWithin (length session.flow.connections) file.goes
    = subst (IsWithin (length session.flow.connections)) (sym (settled session outcome ends file in_files).goes) (goes_within session.flow session.place session.processor file.worked.«end») in
    subst (GoesTold session outcome) same
    (by_way session outcome queue queued file file.goes there queued_there is in_files refl (subst (λ n. IsWithin n file.goes) (sym long) within))

numbered_there : (k : ℕ) (queues : List (List QueuedFile)) (queue : List QueuedFile) → Among queue queues → (place : ℕ) × Among (place, queue) (enumerate_from k queues)
numbered_there k [] queue h = absurd h
numbered_there k (first ∷ queues) queue (inl is) = (k, inl (λ i. (k, is i)))
numbered_there k (first ∷ queues) queue (inr h) = let rest = numbered_there (k + 1) queues queue h in (rest.0, inr rest.1)

-- a file of the queues before a session is in those behind it, or is told of
pub goes-told : (session : EndedSession) (outcome : Outcome) (number : ℕ) → EndsAllInTurn (length session.taken) outcome → length session.state.queues ≡ length session.flow.connections
    → Has (files_of_all session.state) number → GoesTold session outcome number
goes-told session outcome number ends long has =
    let from = comes_from (λ queue. queue) session.state.queues has.source has.there in
    let numbered = numbered_there 0 session.state.queues from.source from.there in
    let queued = has.source in
    subst (GoesTold session outcome) has.is
    (by_found session outcome (numbered.0, from.source) queued (find (λ file. file.number == queued.number) (settled_files session outcome.files)) ends long numbered.1 from.made refl)
