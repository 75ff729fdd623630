-- That the steps of an engine's journal come in turn, where a session is committed at the moment of its checkout.
use Rattle.std.proofs.Common.{◌≡◌, ◌⊎◌, inl, inr, ⊎_elim, ℕ, ◌≤◌, List, [], ◌∷◌, ◌++◌, refl, sym, ap, subst, ◌∙◌, arith}
use Rattle.std.proofs.lemmas.List.{map-append}
use Rattle.std.specs.Prelude.{Option, None, Some, Result, Ok, Err, IfSome, option_map}
use Rattle.machine_model.specs.declared.flow.Flow.{Flow}
use Rattle.machine_model.specs.declared.given.Given.{Given}
use Rattle.machine_model.specs.declared.journal.Entry.{Entry}
use Rattle.machine_model.specs.declared.journal.Step.{Step}
use Rattle.machine_model.specs.declared.journal.Step.TheVariants.{Expire}
use Rattle.machine_model.specs.Acknowledged.{steps}
use Rattle.machine_model.specs.Due.{due_expiry}
use Rattle.machine_model.specs.Files.{queues_of}
use Rattle.machine_model.specs.State.{Machine}
use Rattle.machine_model.specs.Stepping.{replay}
use Rattle.machine_model.specs.View.{QueueView}
use Rattle.engine_choice.specs.Choice.{coming_of, known_alone, known_by, known_of, next_choice}
use Rattle.engine_choice.specs.Laws.{ChoicesAreSeen, given_for}
use Rattle.engine_choice.specs.declared.choice.Choice.{Choice}
use Rattle.engine_queues.specs.Beside.{beside}
use Rattle.engine_queues.specs.Laws.{SeesTheSame}
use Rattle.engine_queues.specs.Listing.{names_left}
use Rattle.engine_queues.specs.Queues.{queue_seen}
use Rattle.engine_queues.proofs.Besides.{none-is-out}
use Rattle.store_core.specs.Store.{kept_by}
use Rattle.engine_session.specs.Done.{IsWorkOn, step_done}
use Rattle.engine_session.specs.declared.done.Done.{Done}
use Rattle.engine_session.specs.declared.job.Job.{Job}
use Rattle.run_law.specs.Laws.{NextStepsComeInTurn}
use Rattle.run_law.specs.Turns.{ComeInTurn, ComesNext, IsInTurn, IsNextSession}
use Rattle.engine_steps.specs.Checkout.{session_in}
use Rattle.engine_steps.specs.Commit.{IsJournaled}
use Rattle.engine_steps.specs.Engine.{EngineState}
use Rattle.engine_steps.specs.Flights.{busy_by, given_back, names_to_come, taken_by}
use Rattle.engine_steps.specs.Handing.{JobIsHanded}
use Rattle.engine_steps.specs.Ready.{expiry_in}
use Rattle.engine_steps.specs.Running.{undone_step}
use Rattle.engine_steps.specs.Showing.{EngineShowsState}
use Rattle.engine_steps.specs.Tending.{HasExpired, HasTended}
use Rattle.engine_steps.specs.declared.commit.Committed.{Committed}
use Rattle.engine_steps.specs.declared.commit.Committed.TheVariants.{Acked, Changed, Dropped}
use Rattle.engine_steps.specs.declared.error.EngineError.{EngineError}
use Rattle.engine_steps.specs.declared.error.EngineError.TheVariants.{Damaged, Disk, Inbox, Outbox, Put, Limit, MustReopen, NoSession, Memory}
use Rattle.engine_steps.specs.declared.flight.InFlight.{InFlight}
use Rattle.engine_steps.specs.declared.tending.Tended.{Tended}
use Rattle.engine_steps.specs.declared.tending.Tended.TheVariants.{Expired, Checkpointed, Reclaimed, Nothing}
use Rattle.engine_steps.proofs.Due.{chosen_of, nothing_due}
use Rattle.engine_steps.proofs.Ending.{none_expired}

-- ---- no session is in flight

-- the queues are seen as the machine's
pub seen_alone : (e : EngineState) (m : Machine) → e.out ≡ [] → EngineShowsState e m → SeesTheSame e.flow (queue_seen e.queues) (queues_of m.state)
seen_alone e m none shown =
    subst (λ (views : ℕ → QueueView). SeesTheSame e.flow (queue_seen e.queues) views)
    (ap (λ (out : List InFlight). beside (taken_by out) (queues_of m.state)) none ∙ none-is-out (queues_of m.state)) shown.seen

-- the names that are to come are those that are left
pub left_alone : (e : EngineState) → e.out ≡ [] → names_to_come e ≡ names_left e.listing
left_alone e none = ap (λ (out : List InFlight). names_left (given_back out e.listing)) none

-- ---- a session that was checked out alone comes next

module _ (law : ChoicesAreSeen) (e : EngineState) (m : Machine) (flight : InFlight) (none : e.out ≡ []) (shown : EngineShowsState e m) (coming : coming_of m.world ≡ names_to_come e) (session : session_in e flight.moment ≡ Some flight.choice) where
  abbrev moment : ℕ
  moment = flight.moment

  abbrev choice : Choice
  choice = flight.choice

  abbrev seen : SeesTheSame e.flow (queue_seen e.queues) (queues_of m.state)
  seen = seen_alone e m none shown

  none_due : due_expiry e.flow (queues_of m.state) moment ≡ None
  none_due = sym (seen.expiry moment) ∙ none_expired e moment (nothing_due e moment choice session)

  chosen : next_choice e.flow (known_of m.state m.world moment) e.last ≡ Some choice
  chosen =
      sym (law e.flow (known_alone (queue_seen e.queues) m.state.counts (coming_of m.world) moment) (queues_of m.state) e.last seen)
      ∙ ap (λ (made : List ℕ). next_choice e.flow (known_alone (queue_seen e.queues) made (coming_of m.world) moment) e.last) (sym shown.counts)
      ∙ ap (λ (names : List (List ℕ)). next_choice e.flow (known_alone (queue_seen e.queues) (kept_by e.store).counts names moment) e.last) (coming ∙ left_alone e none)
      ∙ sym (ap (λ (out : List InFlight). next_choice e.flow (known_by e.queues (kept_by e.store).counts (busy_by e.flow out) e.listing moment) e.last) none)
      ∙ chosen_of e moment choice session

  module _ (job : Job) (done : Done) (handed : JobIsHanded (kept_by e.store) flight job) (work : IsWorkOn e.flow (kept_by e.store).store job done) (at : done.given.moment ≡ moment) where
    there_is : job.given.there ≡ done.given.there
    there_is = sym (ap (λ (g : Given). g.there) work.given.but_bytes)

    given_is : record done.given { bytes = None } ≡ given_for moment done.given.there choice.taking
    given_is =
        ap (λ (g : Given). record g { bytes = None }) work.given.but_bytes
        ∙ handed.given
        ∙ ap (λ b. given_for moment b choice.taking) there_is

    is_next : IsNextSession e.flow e.last m done.processor done.numbers done.given.moment (record done.given { bytes = None })
    is_next = record {
      expired = ap (due_expiry e.flow (queues_of m.state)) at ∙ none_due;
      choice = choice;
      chosen = ap (λ (t : ℕ). next_choice e.flow (known_of m.state m.world t) e.last) at ∙ chosen;
      place_is = sym (work.processor ∙ handed.processor);
      numbers_are = sym (work.numbers ∙ handed.numbers);
      given_is = ap (λ (t : ℕ). given_for t done.given.there choice.taking) at ∙ sym given_is;
    }

    pub comes_next : (last : Option ℕ) → e.last ≡ last → ComesNext e.flow last m (step_done done)
    comes_next last same = subst (λ (o : Option ℕ). ComesNext e.flow o m (step_done done)) same is_next

-- ---- the journal with a step more

-- it is as it was, or has this step more
abbrev pub GrowsBy : Step → (old new : List Entry) → Type 0
GrowsBy one old new = (new ≡ old) ⊎ ((acked : Option ℕ) × (new ≡ old ++ record { step = one; acked = acked } ∷ []))

module _ (flow : Flow) (since until : ℕ) (opened : Machine) where
  abbrev InTurn : List Step → Type 0
  InTurn all = ComeInTurn flow None since until opened all

  pub turns_by : (one : Step) (old new : List Entry) → GrowsBy one old new → InTurn (steps old) → InTurn (steps old ++ one ∷ []) → InTurn (steps new)
  turns_by one old new (inl same) turns turned = subst (λ (j : List Entry). InTurn (steps j)) (sym same) turns
  turns_by one old new (inr (acked, is)) turns turned =
      subst (λ (j : List Entry). InTurn (steps j)) (sym is)
      (subst InTurn (sym (map-append (λ (entry : Entry). entry.step) old (record { step = one; acked = acked } ∷ []))) turned)

  -- a step that would have come behind a journal that stayed
  turned_behind : (one : Step) (old new : List Entry) → new ≡ old → InTurn (steps old ++ one ∷ []) → InTurn (steps new ++ one ∷ [])
  turned_behind one old new same turned = subst (λ (j : List Entry). InTurn (steps j ++ one ∷ [])) (sym same) turned

  -- ---- .. by a commit

  module _ (done : Done) (now : ℕ) (old new : EngineState) (turned : InTurn (steps old.journal ++ step_done done ∷ [])) where
    entered : (acked : Option ℕ) → new.journal ≡ old.journal ++ record { step = step_done done; acked = acked } ∷ [] → GrowsBy (step_done done) old.journal new.journal
    entered acked is = inr (acked, is)

    pub committed_by : (result : Result Committed EngineError) → IsJournaled result done now old new → GrowsBy (step_done done) old.journal new.journal
    committed_by (Ok (Acked entry acked)) has = entered (Some acked) has.2.journal
    committed_by (Ok Changed) has = inl has.0.0
    committed_by (Ok Dropped) has = inl has.0.0
    committed_by (Err Disk) (inl none) = inl none.0.0
    committed_by (Err Disk) (inr cut) = entered None cut.0
    committed_by (Err Inbox) (inl none) = inl none.0.0
    committed_by (Err Inbox) (inr acked) = entered (Some now) acked.journal
    committed_by (Err (Damaged damage)) has = inl has.0.0
    committed_by (Err Outbox) has = inl has.0.0
    committed_by (Err Put) has = inl has.0.0
    committed_by (Err (Limit limit)) has = inl has.0.0
    committed_by (Err MustReopen) has = inl has.0.0
    committed_by (Err NoSession) has = inl has.0.0
    committed_by (Err Memory) has = inl has.0.0

    stopped_by : (error : EngineError) → IsJournaled (Err error) done now old new → IfSome (undone_step error (Some (step_done done))) (λ one. InTurn (steps new.journal ++ one ∷ []))
    stopped_by Put has = turned_behind (step_done done) old.journal new.journal has.0.0 turned
    stopped_by (Limit limit) has = turned_behind (step_done done) old.journal new.journal has.0.0 turned
    stopped_by Disk has = tt
    stopped_by Inbox has = tt
    stopped_by (Damaged damage) has = tt
    stopped_by Outbox has = tt
    stopped_by MustReopen has = tt
    stopped_by NoSession has = tt
    stopped_by Memory has = tt

    pub commit_stops : InTurn (steps old.journal) → (error : EngineError) → IsJournaled (Err error) done now old new → IsInTurn flow since until opened new.journal (undone_step error (Some (step_done done)))
    commit_stops turns error has = record {
      made = turns_by (step_done done) old.journal new.journal (committed_by (Err error) has) turns turned;
      stopped = stopped_by error has;
    }

  -- ---- .. by a call that tends

  module _ (moment now : ℕ) (old new : EngineState) (turns : InTurn (steps old.journal))
      (next : (connection : ℕ) (numbers : List ℕ) → due_expiry old.flow (queue_seen old.queues) moment ≡ Some (connection, numbers) → InTurn (steps old.journal ++ Expire connection numbers moment ∷ [])) where
    gone_by : (acked : Option ℕ) → HasExpired moment acked old new → InTurn (steps new.journal)
    gone_by acked it =
        turns_by (Expire it.connection it.numbers moment) old.journal new.journal (inr (acked, it.journal)) turns (next it.connection it.numbers it.due)

    stays : new.journal ≡ old.journal → InTurn (steps new.journal)
    stays same = subst (λ (j : List Entry). InTurn (steps j)) (sym same) turns

    pub tended_turns : (result : Result Tended EngineError) → HasTended result moment now old new → InTurn (steps new.journal)
    tended_turns (Ok Expired) has = gone_by (Some now) has.0
    tended_turns (Ok Checkpointed) has = stays has.0
    tended_turns (Ok (Reclaimed answer)) has = stays has.0
    tended_turns (Ok Nothing) has = stays (ap (λ (e : EngineState). e.journal) has)
    tended_turns (Err Disk) has = ⊎_elim (λ (same : new.journal ≡ old.journal). stays same) (λ (it : HasExpired moment None old new). gone_by None it) has.0
    tended_turns (Err (Damaged damage)) has = stays has.0
    tended_turns (Err Inbox) has = stays has.0
    tended_turns (Err Outbox) has = stays has.0
    tended_turns (Err Put) has = stays has.0
    tended_turns (Err (Limit limit)) has = stays has.0
    tended_turns (Err MustReopen) has = stays has.0
    tended_turns (Err NoSession) has = stays has.0
    tended_turns (Err Memory) has = stays has.0

    behind_due : new.journal ≡ old.journal → (due : Option (ℕ × List ℕ)) → due_expiry old.flow (queue_seen old.queues) moment ≡ due
        → IfSome (option_map (λ due. Expire due.0 due.1 moment) due) (λ one. InTurn (steps new.journal ++ one ∷ []))
    behind_due same None is = tt
    behind_due same (Some (connection, numbers)) is = turned_behind (Expire connection numbers moment) old.journal new.journal same (next connection numbers is)

    tend_stopped : (error : EngineError) → HasTended (Err error) moment now old new → IfSome (undone_step error (expiry_in old moment)) (λ one. InTurn (steps new.journal ++ one ∷ []))
    tend_stopped Put has = behind_due has.0 (due_expiry old.flow (queue_seen old.queues) moment) refl
    tend_stopped (Limit limit) has = behind_due has.0 (due_expiry old.flow (queue_seen old.queues) moment) refl
    tend_stopped Disk has = tt
    tend_stopped Inbox has = tt
    tend_stopped (Damaged damage) has = tt
    tend_stopped Outbox has = tt
    tend_stopped MustReopen has = tt
    tend_stopped NoSession has = tt
    tend_stopped Memory has = tt

    pub tend_stops : (error : EngineError) → HasTended (Err error) moment now old new → IsInTurn flow since until opened new.journal (undone_step error (expiry_in old moment))
    tend_stops error has = record { made = tended_turns (Err error) has; stopped = tend_stopped error has }

-- files that have expired come next
pub expiry_turns : NextStepsComeInTurn → (e : EngineState) (m opened : Machine) (since time moment : ℕ) → e.out ≡ [] → EngineShowsState e m → time ≤ moment → ComeInTurn e.flow None since time opened (steps e.journal)
    → replay e.flow opened (steps e.journal) ≡ Some m → (connection : ℕ) (numbers : List ℕ) → due_expiry e.flow (queue_seen e.queues) moment ≡ Some (connection, numbers)
    → ComeInTurn e.flow None since moment opened (steps e.journal ++ Expire connection numbers moment ∷ [])
expiry_turns law e m opened since time moment none shown le turns replays connection numbers due =
    law e.flow since time moment opened m (steps e.journal) (Expire connection numbers moment) turns replays le (omega arith) (sym ((seen_alone e m none shown).expiry moment) ∙ due)

-- ---- an engine of the same flow

-- .. and journal
pub turns_still : (e f : EngineState) → f.flow ≡ e.flow → f.journal ≡ e.journal → (since until : ℕ) (opened : Machine) → ComeInTurn e.flow None since until opened (steps e.journal) → ComeInTurn f.flow None since until opened (steps f.journal)
turns_still e f flow_is journal_is since until opened turns =
    subst (λ (fl : Flow). ComeInTurn fl None since until opened (steps f.journal)) (sym flow_is)
    (subst (λ (j : List Entry). ComeInTurn e.flow None since until opened (steps j)) (sym journal_is) turns)

pub turns_of : (flow other : Flow) (since until : ℕ) (opened : Machine) (all : List Step) → other ≡ flow → ComeInTurn flow None since until opened all → ComeInTurn other None since until opened all
turns_of flow other since until opened all same turns = subst (λ (f : Flow). ComeInTurn f None since until opened all) (sym same) turns

pub in_turn_of : (flow other : Flow) (since until : ℕ) (opened : Machine) (journal : List Entry) (next : Option Step) → other ≡ flow → IsInTurn flow since until opened journal next → IsInTurn other since until opened journal next
in_turn_of flow other since until opened journal next same turns = subst (λ (f : Flow). IsInTurn f since until opened journal next) (sym same) turns

-- where it stopped at no step
pub none_stopped : (flow : Flow) (since until : ℕ) (opened : Machine) (journal : List Entry) → ComeInTurn flow None since until opened (steps journal) → IsInTurn flow since until opened journal None
none_stopped flow since until opened journal turns = record { made = turns; stopped = tt }
