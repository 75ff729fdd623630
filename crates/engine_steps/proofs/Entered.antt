-- What an engine is behind a session that was written: acknowledged, it is no longer in flight; refused, all stay.
use Rattle.std.proofs.Common.{◌≡◌, ◌⊎◌, inl, inr, ⊎_elim, ℕ, ◌<◌, ◌≤◌, Bool, List, [], ◌∷◌, ◌++◌, length, refl, sym, ap, subst, ◌∙◌}
use Rattle.std.specs.Prelude.{All, find, get_or, IfErr, IfOk, IsErrOf, IsTrue, None, Ok, OnOk, Err, Option, Result, Some}
use Rattle.disk_trait.specs.Files.{Files}
use Rattle.disk_trait.specs.declared.damage.Damage.{Damage}
use Rattle.flowfile_record.specs.NamedFile.{NamedFile}
use Rattle.flowfile_record.specs.Stored.{Kept}
use Rattle.kept_state.specs.Fits.{active_of}
use Rattle.kept_state.specs.declared.limit.Limit.{Limit as TheLimit}
use Rattle.machine_model.specs.declared.journal.Entry.{Entry}
use Rattle.machine_model.specs.declared.journal.Step.{Step}
use Rattle.store_core.specs.Change.{MayChange}
use Rattle.store_core.specs.Store.{kept_by}
use Rattle.engine_queues.specs.Beside.{is_out, out_without}
use Rattle.engine_queues.specs.Laws.{NamesGoBack, NamesLeave}
use Rattle.run_law.specs.Puts.{Outgoing}
use Rattle.run_law.specs.Work.{IsRefused}
use Rattle.engine_session.specs.Change.{names_without, with_sending, without_received}
use Rattle.engine_session.specs.Done.{step_done}
use Rattle.engine_session.specs.Sending.{sending_of}
use Rattle.engine_session.specs.Taken.{TakenStays}
use Rattle.engine_session.specs.declared.change.Changed.{Changed}
use Rattle.engine_session.specs.declared.change.Sending.{Sending}
use Rattle.engine_session.specs.declared.done.Done.{Done}
use Rattle.engine_steps.specs.Commit.{IsUncounted, SessionIsAcknowledged, StaysInFlight}
use Rattle.engine_steps.specs.Committing.{HasWritten, IsAtWorkWithQueues, IsLeftBySend, out_behind}
use Rattle.engine_steps.specs.Engine.{EngineState}
use Rattle.engine_steps.specs.Entering.{EntersSession, NotesStep}
use Rattle.engine_steps.specs.Errors.{HasCause}
use Rattle.engine_steps.specs.Flights.{AreInFlight, files_of_flight, has_session, names_to_come, received_in, taken_by, without_session}
use Rattle.engine_steps.specs.Journal.{journaled}
use Rattle.engine_steps.specs.Ready.{EngineIsReady, KnowsDue}
use Rattle.engine_steps.specs.Tending.{counted_on}
use Rattle.engine_steps.specs.declared.error.EngineError.{EngineError}
use Rattle.engine_steps.specs.declared.flight.InFlight.{InFlight}
use Rattle.engine_steps.proofs.Commits.{refuses}
use Rattle.engine_steps.proofs.Follows.{follows_grown, follows_put, follows_still}
use Rattle.engine_steps.proofs.Flights.{flights_stay, flights_without, names_committed, others_not_taken, taken_live, taken_without}
use Rattle.engine_steps.proofs.Readied.{knows_none, no_entry, not_both, one_more, ready_by, rest_is, the_error}

module _ {D : Type 0} (tells : Bool) (held : D → Files) (moment : D → ℕ) (images : D → ℕ → Files → Type 0) (e : EngineState) (old : D) (ready : EngineIsReady tells held moment images e old) where
  pub queued_at : IsAtWorkWithQueues e.flow tells held moment images e.store (taken_by e.out) e.queues old
  queued_at = record {
    work = ready.work;
    are = ready.memory.queues;
    live = taken_live e.flow (kept_by e.store) e.listing e.next_session e.out ready.memory.flights;
  }

  -- a session that was written with this result, and the engine behind that
  module _ (w : EngineState) (new : D) (result : Result ℕ EngineError) (out_tells : Bool) (changed : Changed) (out now_out : Outgoing) (one : Step)
      (written : HasWritten result tells held moment images out_tells e.store w.store e.queues w.queues changed out now_out old new) (noted : NotesStep result one e w) where
    queued_behind : (r : Result ℕ EngineError) → result ≡ r → (r ≡ Err EngineError.Disk → ⊥) → IsAtWorkWithQueues e.flow tells held moment images w.store (out_behind r changed.settled.gone (taken_by e.out)) w.queues new
    queued_behind r is other =
        subst (λ (x : Result ℕ EngineError). IsAtWorkWithQueues e.flow tells held moment images w.store (out_behind x changed.settled.gone (taken_by e.out)) w.queues new) is
        (written.work (λ disk. other (sym is ∙ disk)) e.flow (taken_by e.out) queued_at)

    unjournaled : (error : EngineError) → result ≡ Err error → (error ≡ EngineError.Disk → ⊥) → w.journal ≡ e.journal
    unjournaled error is other = noted.journal ∙ ap (λ (r : Result ℕ EngineError). journaled r one e.journal) is ∙ no_entry error one e.journal other

    -- it was refused before the commit
    pub still_ready : (error : EngineError) → result ≡ Err error → (error ≡ EngineError.Disk → ⊥) → EngineIsReady tells held moment images w new
    still_ready error is other =
        let kept : kept_by w.store ≡ kept_by e.store = ap kept_by (written.unwritten error is other).1 in
        let same : w.out ≡ e.out = ap (λ (x : EngineState). x.out) noted.rest in
        ready_by tells held moment images e w old new (rest_is e w noted.rest) ready
        (subst (λ (l : List InFlight). IsAtWorkWithQueues e.flow tells held moment images w.store (taken_by l) w.queues new) (sym same) (queued_behind (Err error) is (λ disk. other (the_error error EngineError.Disk disk))))
        (subst (λ (l : List InFlight). AreInFlight e.flow (kept_by w.store) e.listing e.next_session l) (sym same)
        (subst (λ (k : Kept). AreInFlight e.flow k e.listing e.next_session e.out) (sym kept) ready.memory.flights))
        (subst (λ (j : List Entry). length j ≤ e.most) (sym (unjournaled error is other)) ready.memory.entries)
        (⊎_elim (λ (none : w.tended ≡ None). knows_none w none) (λ (same : IsErrOf result EngineError.Memory × (w ≡ e)). subst KnowsDue (sym same.1) ready.memory.due) noted.tended)

    uncounted : IsUncounted e w
    uncounted = record {
      names = ap (λ (x : EngineState). names_to_come x) noted.rest;
      last = ap (λ (x : EngineState). x.last) noted.rest;
      since = ap (λ (x : EngineState). x.since_reclaim) noted.rest;
    }

    stays_in_flight : (error : EngineError) → result ≡ Err error → (error ≡ EngineError.Disk → ⊥) → StaysInFlight e w
    stays_in_flight error is other =
        ((unjournaled error is other, uncounted, ap kept_by (written.unwritten error is other).1), ap (λ (x : EngineState). x.out) noted.rest)

    abbrev IsKind : EngineError → Type 0
    IsKind error = (error ≡ EngineError.Disk) ⊎ (error ≡ EngineError.Memory) ⊎ (error ≡ EngineError.Put) ⊎ ((limit : TheLimit) × (error ≡ EngineError.Limit limit))

    not_damaged : (error : EngineError) (damage : Damage) → IsKind error → error ≡ EngineError.Damaged damage → ⊥
    not_damaged error damage (inl disk) is = let both : EngineError.Disk ≡ EngineError.Damaged damage = sym disk ∙ is in cc
    not_damaged error damage (inr (inl memory)) is = let both : EngineError.Memory ≡ EngineError.Damaged damage = sym memory ∙ is in cc
    not_damaged error damage (inr (inr (inl put))) is = let both : EngineError.Put ≡ EngineError.Damaged damage = sym put ∙ is in cc
    not_damaged error damage (inr (inr (inr limited))) is = let both : EngineError.Limit limited.0 ≡ EngineError.Damaged damage = sym limited.1 ∙ is in cc

    -- a limit is one that the store met
    pub why_refused : MayChange (kept_by e.store) changed.settled → (error : EngineError) → result ≡ Err error → (answer : Result ℕ EngineError) → answer ≡ Err error
        → HasCause answer e.flow tells held moment images e.most w.journal w.store new
    why_refused may error is answer answered = record {
      limited = λ limit limited.
          let so : result ≡ Err (EngineError.Limit limit) = is ∙ sym answered ∙ limited in
          let other : EngineError.Limit limit ≡ EngineError.Disk → ⊥ = λ e. cc in
          let same = written.unwritten (EngineError.Limit limit) so other in
          inl (subst (λ (d : D). IsRefused e.flow tells held moment images limit w.store d) (sym same.0)
          (refuses e.flow tells held moment images e.store w.store w.store.memory.room changed.settled limit old same.1 ready.work may (written.passes limit so)));
      damaged = λ damage damaged.
          absurd (not_damaged error damage (subst (λ (r : Result ℕ EngineError). IfErr r IsKind) is written.kinds) (the_error error (EngineError.Damaged damage) (sym answered ∙ damaged)));
    }

    -- it was refused, and the inbox wasn't asked
    module _ (done : Done) (one_is : one ≡ step_done done) (sending : changed.sending ≡ sending_of done.outcome.sent done.sources) (in_tells : Bool) (files : List NamedFile) where
      abbrev Enters : Result ℕ EngineError → Type 0
      Enters answer = EntersSession answer done (moment new) in_tells out_tells e w files files out now_out

      abbrev wanted : Option Sending
      wanted = sending_of done.outcome.sent done.sources

      pub enters_refused : (error : EngineError) → result ≡ Err error → Enters (Err error)
      enters_refused error is = by_kind (subst (λ (r : Result ℕ EngineError). IfErr r IsKind) is written.kinds)
        where
          by_kind : IsKind error → Enters (Err error)
          by_kind (inl disk) =
              let cut = is ∙ ap Err disk in
              let journal_is : w.journal ≡ e.journal ++ record { step = step_done done; acked = None } ∷ [] = noted.journal ∙ (λ i. journaled (cut i) (one_is i) e.journal) in
              let put : IsTrue out_tells → now_out ≡ with_sending wanted out = λ telling. written.sent_before cut telling ∙ ap (λ (o : Option Sending). with_sending o out) sending in
              subst (λ (er : EngineError). Enters (Err er)) (sym disk) (record {
                journal = inr (journal_is, uncounted, ap (λ (x : EngineState). x.out) noted.rest);
                inbox = λ telling. refl;
                outbox = put;
                follow = follows_grown (Err EngineError.Disk) in_tells out_tells wanted e.journal w.journal files files out now_out (record { step = step_done done; acked = None }) journal_is put;
              })
          by_kind (inr (inl memory)) =
              let so = is ∙ ap Err memory in
              let other : EngineError.Memory ≡ EngineError.Disk → ⊥ = λ e. cc in
              let another : EngineError.Memory ≡ EngineError.Put → ⊥ = λ e. cc in
              subst (λ (er : EngineError). Enters (Err er)) (sym memory)
              (record {
                journal = stays_in_flight EngineError.Memory so other;
                inbox = λ telling. refl;
                outbox = λ telling. written.unsent EngineError.Memory so other another;
                follow = follows_still (Err EngineError.Memory) in_tells out_tells wanted e.journal w.journal files files out now_out (unjournaled EngineError.Memory so other) (λ telling. refl) (λ telling. written.unsent EngineError.Memory so other another);
              })
          by_kind (inr (inr (inl put))) =
              let so = is ∙ ap Err put in
              let other : EngineError.Put ≡ EngineError.Disk → ⊥ = λ e. cc in
              subst (λ (er : EngineError). Enters (Err er)) (sym put) (record {
                journal = stays_in_flight EngineError.Put so other;
                inbox = λ telling. refl;
                outbox = λ telling. subst (λ (o : Option Sending). IsLeftBySend o out now_out) sending (written.put so telling);
                follow = follows_put (Err EngineError.Put) in_tells out_tells wanted e.journal w.journal files files out now_out refl (unjournaled EngineError.Put so other) (λ telling. refl);
              })
          by_kind (inr (inr (inr limited))) =
              let so = is ∙ ap Err limited.1 in
              let other : EngineError.Limit limited.0 ≡ EngineError.Disk → ⊥ = λ e. cc in
              let another : EngineError.Limit limited.0 ≡ EngineError.Put → ⊥ = λ e. cc in
              subst (λ (er : EngineError). Enters (Err er)) (sym limited.1)
              (record {
                journal = stays_in_flight (EngineError.Limit limited.0) so other;
                inbox = λ telling. refl;
                outbox = λ telling. written.unsent (EngineError.Limit limited.0) so other another;
                follow = follows_still (Err (EngineError.Limit limited.0)) in_tells out_tells wanted e.journal w.journal files files out now_out (unjournaled (EngineError.Limit limited.0) so other) (λ telling. refl)
                    (λ telling. written.unsent (EngineError.Limit limited.0) so other another);
              })

    -- it was acknowledged, and is no longer in flight
    module _ (m : ℕ) (is : result ≡ Ok m) (done : Done) (one_is : one ≡ step_done done) (flight : InFlight) (found : find (has_session done.session) e.out ≡ Some flight)
        (file : done.given.file ≡ received_in flight.choice.taking) (gone : changed.settled.gone ≡ files_of_flight flight) (f : EngineState)
        (left : f ≡ record w { out = without_session done.session w.out; last = Some done.processor; since_reclaim = counted_on w.since_reclaim }) where
      abbrev others : List InFlight
      others = without_session done.session e.out

      abbrev entered : EngineState
      entered = record e {
        store = w.store;
        queues = w.queues;
        last = Some done.processor;
        journal = w.journal;
        since_reclaim = counted_on e.since_reclaim;
        failed = w.failed;
        tended = w.tended;
        out = others;
      }

      pub entered_as : f ≡ entered
      entered_as = left ∙ ap (λ (x : EngineState). record x { out = without_session done.session x.out; last = Some done.processor; since_reclaim = counted_on x.since_reclaim }) noted.rest

      pub names_entered : NamesGoBack → NamesLeave → names_to_come f ≡ names_without done.given.file (names_to_come e)
      names_entered back leave =
          ap (λ (x : EngineState). names_to_come x) entered_as
          ∙ names_committed back leave e.flow (kept_by e.store) e.listing e.next_session e.out done.session flight ready.memory.distinct ready.memory.flights found
          ∙ ap (λ (o : Option (List ℕ)). names_without o (names_to_come e)) (sym file)

      no_disk : result ≡ Err EngineError.Disk → ⊥
      no_disk disk = not_both m EngineError.Disk (sym is ∙ disk)

      -- the files of the others live as they did
      stay : All (λ number. active_of number (kept_by w.store).files ≡ active_of number (kept_by e.store).files) (taken_by others)
      stay k d lt =
          let apart = others_not_taken done.session e.out flight ready.memory.flights.apart found k d lt in
          let live = taken_live e.flow (kept_by e.store) e.listing e.next_session others (flights_without e.flow (kept_by e.store) e.listing e.next_session e.out done.session ready.memory.flights) k d lt in
          let number = get_or (taken_by others) k d in
          written.stay no_disk number (ap (λ (numbers : List ℕ). is_out numbers number) gone ∙ apart) live

      queued : IsAtWorkWithQueues e.flow tells held moment images w.store (taken_by others) w.queues new
      queued =
          subst (λ (taken : List ℕ). IsAtWorkWithQueues e.flow tells held moment images w.store taken w.queues new)
          (ap (λ (numbers : List ℕ). out_without numbers (taken_by e.out)) gone ∙ sym (taken_without done.session e.out flight ready.memory.flights.apart found))
          (queued_behind (Ok m) is (not_both m EngineError.Disk))

      tended : w.tended ≡ None
      tended = ⊎_elim (λ (none : w.tended ≡ None). none) (λ (same : IsErrOf result EngineError.Memory × (w ≡ e)). not_both m EngineError.Memory (sym is ∙ same.0)) noted.tended

      pub entered_ready : TakenStays → length e.journal < e.most → EngineIsReady tells held moment images f new
      entered_ready law room =
          subst (λ (x : EngineState). EngineIsReady tells held moment images x new) (sym entered_as)
          (ready_by tells held moment images e entered old new refl ready queued
          (flights_stay law e.flow (kept_by e.store) (kept_by w.store) e.listing e.next_session others
          (flights_without e.flow (kept_by e.store) e.listing e.next_session e.out done.session ready.memory.flights) stay)
          (subst (λ (j : List Entry). length j ≤ e.most) (sym (noted.journal ∙ ap (λ (r : Result ℕ EngineError). journaled r one e.journal) is)) (one_more m one e.journal e.most room))
          (knows_none entered tended))

      acknowledged : NamesGoBack → NamesLeave → SessionIsAcknowledged done m e f
      acknowledged back leave = record {
        journal = ap (λ (x : EngineState). x.journal) entered_as ∙ noted.journal ∙ (λ i. journaled (is i) (one_is i) e.journal);
        out = ap (λ (x : EngineState). x.out) entered_as;
        names = names_entered back leave;
        last = ap (λ (x : EngineState). x.last) entered_as;
        since = ap (λ (x : EngineState). x.since_reclaim) entered_as;
      }

      moment_is : m ≡ moment new
      moment_is = subst (λ (r : Result ℕ EngineError). IfOk r (λ answer. answer ≡ moment new)) is written.moment_is

      module _ (back : NamesGoBack) (leave : NamesLeave) (sending : changed.sending ≡ sending_of done.outcome.sent done.sources) (in_tells : Bool) (files now_files : List NamedFile) where
        sent : IsTrue out_tells → now_out ≡ with_sending (sending_of done.outcome.sent done.sources) out
        sent telling =
            (subst (λ (r : Result ℕ EngineError). OnOk r (IsTrue out_tells → now_out ≡ with_sending changed.sending out)) is written.sent) telling
            ∙ ap (λ (o : Option Sending). with_sending o out) sending

        -- and the file that it received was removed
        pub enters_acknowledged : (IsTrue in_tells → now_files ≡ without_received done.given.file files) → EntersSession (Ok m) done (moment new) in_tells out_tells e f files now_files out now_out
        enters_acknowledged removed = record {
          journal = (moment_is, acknowledged back leave);
          inbox = removed;
          outbox = sent;
          follow = follows_grown (Ok m) in_tells out_tells (sending_of done.outcome.sent done.sources) e.journal f.journal files now_files out now_out (record { step = step_done done; acked = Some m }) (acknowledged back leave).journal sent;
        }

        -- .. or was to be
        pub enters_unremoved : (IsTrue in_tells → (now_files ≡ files) ⊎ (now_files ≡ without_received done.given.file files))
            → EntersSession (Err EngineError.Inbox) done (moment new) in_tells out_tells e f files now_files out now_out
        enters_unremoved either = record {
          journal = subst (λ (at : ℕ). SessionIsAcknowledged done at e f) moment_is (acknowledged back leave);
          inbox = either;
          outbox = sent;
          follow = follows_grown (Err EngineError.Inbox) in_tells out_tells (sending_of done.outcome.sent done.sources) e.journal f.journal files now_files out now_out (record { step = step_done done; acked = Some m }) (acknowledged back leave).journal sent;
        }
