-- What one step of a run keeps, and what a run that fails within it leaves.
use Rattle.std.proofs.Common.{◌≡◌, ◌⊎◌, inl, inr, ⊎_elim, ℕ, ◌+◌, ◌≤◌, Bool, List, [], ◌∷◌, ◌++◌, refl, sym, ◌∙◌, ap, subst, arith}
use Rattle.std.specs.Prelude.{Option, None, Some, IfSome}
use Rattle.disk_trait.specs.Files.{Files}
use Rattle.flowfile_record.specs.NamedFile.{NamedFile, without}
use Rattle.machine_model.specs.declared.flow.Flow.{Flow}
use Rattle.machine_model.specs.declared.journal.Entry.{Entry}
use Rattle.machine_model.specs.declared.journal.Step.{Step}
use Rattle.machine_model.specs.Laws.{ReplayOfOneMore, StepsLoseNames, StepsStayValid, names_of_step}
use Rattle.machine_model.specs.State.{Machine}
use Rattle.machine_model.specs.Stepping.{step}
use Rattle.machine_model.specs.Valid.{IsValid}
use Rattle.run_law.specs.Going.{IsBetween, IsRunningAt, IsStepped}
use Rattle.machine_model.specs.Acknowledged.{steps}
use Rattle.run_law.specs.Journal.{inbox_left}
use Rattle.run_law.specs.Laws.{DiskFaultsEnd, FaultsEnd, InboxFaultsEnd, OutboxFaultsEnd, SparedRunsGoOn, SteppedRunsGoOn}
use Rattle.run_law.specs.Puts.{IsPutBy, Outgoing, Start, puts_of_step}
use Rattle.run_law.specs.Run.{HasPut, HasRun, IsGoneByEntry, Replays}
use Rattle.run_law.specs.Turns.{AreWithin, IsWithinRun}
use Rattle.run_law.specs.declared.ended.Ended.TheVariants as ending
use Rattle.run_law.specs.declared.ended.Fault.TheVariants as fault
use Rattle.run_law.proofs.Behind.{LeavesInbox, follows_all, follows_but_one}
use Rattle.run_law.proofs.Gone.{gone_without, still_gone}
use Rattle.run_law.proofs.Journals.{acknowledged-all, acknowledged-open, all-append, step_acked, step_none, step_open}
use Rattle.run_law.proofs.Left.{one_taken, other_steps, step_takes, takes_cases}
use Rattle.run_law.proofs.Puts.{puts_behind}
use Rattle.run_law.proofs.Turns.{one_more_within, within_later}

next_valid : StepsStayValid → (flow : Flow) (m after : Machine) (one : Step) → IsValid flow m.state → step flow m one ≡ Some after → IsValid flow after.state
next_valid stays flow m after one valid goes = subst (λ (o : Option Machine). IfSome o (λ n. IsValid flow n.state)) goes (stays flow m one valid)

module _ (law : ReplayOfOneMore) (stays : StepsStayValid) (loses : StepsLoseNames) {D : Type 0} (moment : D → ℕ) (images : D → ℕ → Files → Type 0) where
  -- ---- a run goes on

  pub spared : SparedRunsGoOn moment images
  spared flow start time later lot opened reached first old new journal left out run le since = record {
    ran = step_none law flow moment images lot first old new opened reached reached journal run.ran run.all since;
    all = run.all;
    within = within_later start.time time later (steps journal) le run.within;
    gone = run.gone;
    valid = run.valid;
    holds = λ c there. since.each (moment new) c since.later (omega arith) there;
    lies = run.lies;
    stands = run.stands;
  }

  module _ (flow : Flow) (start : Start) (time later lot : ℕ) (opened reached after : Machine) (first old new : D) (journal : List Entry) (one : Step) (left : List NamedFile) (out : Outgoing)
      (run : IsRunningAt flow start time moment images lot opened first old journal reached left out) (le : time ≤ later) (is_within : IsWithinRun start.time later one)
      (goes : step flow reached one ≡ Some after) where
    within_now : (acked : Option ℕ) → AreWithin start.time later (steps (journal ++ record { step = one; acked = acked } ∷ []))
    within_now acked = one_more_within start.time time later journal (record { step = one; acked = acked }) le run.within is_within

    -- the outbox behind it
    put_now : (acked : Option ℕ) (now_out : Outgoing) → IsPutBy flow reached one after out now_out → HasPut flow start opened (journal ++ record { step = one; acked = acked } ∷ []) after now_out
    put_now acked now_out by = record {
      standing = by.standing;
      puts =
          by.puts
          ∙ ap (λ (l : List NamedFile). l ++ puts_of_step flow reached one) run.stands.puts
          ∙ puts_behind flow opened reached start.puts journal (record { step = one; acked = acked }) run.ran.replays;
    }

    -- ---- a step that is acknowledged

    module _ (stepped : IsStepped flow moment images lot reached after old new) where
      abbrev entry_acked : Entry
      entry_acked = record { step = one; acked = Some (moment new) }

      acked_ran : Replays flow moment images lot opened (journal ++ entry_acked ∷ []) after first new
      acked_ran = step_acked law flow moment images lot first old new opened reached after journal one run.ran run.all goes stepped.since stepped.done

      -- its file is gone, where it took one
      acked_gone : (now_left : List NamedFile) → now_left ≡ inbox_left after.world → IsGoneByEntry flow opened.world.inbox now_left (journal ++ entry_acked ∷ [])
      acked_gone now_left lies = ⊎_elim
          (λ (none : names_of_step flow one ≡ []).
          subst (λ (l : List NamedFile). IsGoneByEntry flow opened.world.inbox l (journal ++ entry_acked ∷ []))
          (run.lies ∙ sym (other_steps loses flow reached after one goes none) ∙ sym lies) (still_gone flow opened.world.inbox left journal entry_acked run.gone))
          (λ (some : (name : List ℕ) × (names_of_step flow one ≡ name ∷ [])).
          subst (λ (l : List NamedFile). IsGoneByEntry flow opened.world.inbox l (journal ++ entry_acked ∷ []))
          (ap (without some.0) run.lies ∙ sym (step_takes loses flow reached after one some.0 goes some.1) ∙ sym lies)
          (gone_without flow opened.world.inbox left some.0 journal entry_acked run.gone some.1 refl))
          (takes_cases flow one)

      stepped_on : (now_left : List NamedFile) (now_out : Outgoing) → now_left ≡ inbox_left after.world → IsPutBy flow reached one after out now_out
          → IsRunningAt flow start later moment images lot opened first new (journal ++ entry_acked ∷ []) after now_left now_out
      stepped_on now_left now_out lies stands = record {
        ran = acked_ran;
        all = all-append journal entry_acked run.all refl;
        within = within_now (Some (moment new));
        gone = acked_gone now_left lies;
        valid = next_valid stays flow reached after one run.valid goes;
        holds = stepped.done;
        lies = lies;
        stands = put_now (Some (moment new)) now_out stands;
      }

      -- ---- the file's removal failed: it may be there

      module _ (tells : Bool) (held : D → Files) (name : List ℕ) (takes : names_of_step flow one ≡ name ∷ []) where
        removed_is : (now_left : List NamedFile) → now_left ≡ without name left → now_left ≡ inbox_left after.world
        removed_is now_left removed = removed ∙ ap (without name) run.lies ∙ sym (step_takes loses flow reached after one name goes takes)

        left_by : (now_left : List NamedFile) → (now_left ≡ left) ⊎ (now_left ≡ without name left) → LeavesInbox flow (ending.Fault fault.Inbox) opened (journal ++ entry_acked ∷ []) now_left
        left_by now_left either = ⊎_elim
            (λ (same : now_left ≡ left). follows_but_one flow (ending.Fault fault.Inbox) opened reached journal now_left run.ran.replays (same ∙ run.lies) entry_acked (inr refl))
            (λ (removed : now_left ≡ without name left). follows_all flow (ending.Fault fault.Inbox) opened after (journal ++ entry_acked ∷ []) now_left acked_ran.replays (removed_is now_left removed))
            either

        unremoved : (now_left : List NamedFile) (now_out : Outgoing) → (now_left ≡ left) ⊎ (now_left ≡ without name left) → IsPutBy flow reached one after out now_out
            → HasRun flow (ending.Fault fault.Inbox) start later tells held moment images lot opened first new now_left now_out (journal ++ entry_acked ∷ []) None
        unremoved now_left now_out either stands = record {
          reached = after;
          ran = acked_ran;
          acked = λ closed. absurd closed;
          few_open = inl (acknowledged-all (journal ++ entry_acked ∷ []) (moment first + 1) (moment new) (moment new) (all-append journal entry_acked run.all refl) acked_ran.in_order (omega arith));
          within = within_now (Some (moment new));
          gone = ⊎_elim
              (λ (same : now_left ≡ left). subst (λ (l : List NamedFile). IsGoneByEntry flow opened.world.inbox l (journal ++ entry_acked ∷ [])) (sym same) (still_gone flow opened.world.inbox left journal entry_acked run.gone))
              (λ (removed : now_left ≡ without name left). acked_gone now_left (removed_is now_left removed))
              either;
          inbox = (left_by now_left either).0;
          few_left = (left_by now_left either).1;
          outbox = inl (put_now (Some (moment new)) now_out stands);
          ends = tt;
        }

    -- ---- a step that isn't acknowledged

    module _ (since : IsBetween flow moment images lot reached after old new) where
      abbrev entry_open : Entry
      entry_open = record { step = one; acked = None }

      open_ran : Replays flow moment images lot opened (journal ++ entry_open ∷ []) after first new
      open_ran = step_open law flow moment images lot first old new opened reached after journal one run.ran run.all goes since

      -- what the step took is still there
      open_inbox : LeavesInbox flow (ending.Fault fault.Disk) opened (journal ++ entry_open ∷ []) left
      open_inbox = follows_but_one flow (ending.Fault fault.Disk) opened reached journal left run.ran.replays run.lies entry_open (inl refl)

      stopped_within : (tells : Bool) (held : D → Files) (now_out : Outgoing) → IsPutBy flow reached one after out now_out
          → HasRun flow (ending.Fault fault.Disk) start later tells held moment images lot opened first new left now_out (journal ++ entry_open ∷ []) None
      stopped_within tells held now_out stands = record {
        reached = after;
        ran = open_ran;
        acked = λ closed. absurd closed;
        few_open = inr (refl, acknowledged-open journal one (moment first + 1) (moment old) (moment new) run.all run.ran.in_order since.later);
        within = within_now None;
        gone = still_gone flow opened.world.inbox left journal entry_open run.gone;
        inbox = open_inbox.0;
        few_left = open_inbox.1;
        outbox = inl (put_now None now_out stands);
        ends = tt;
      }

  pub steps_go_on : SteppedRunsGoOn moment images
  steps_go_on flow start time later lot opened reached after first old new journal one left now_left out now_out run le within goes stepped lies stands =
      stepped_on flow start time later lot opened reached after first old new journal one left out run le within goes stepped now_left now_out lies stands

  module _ (tells : Bool) (held : D → Files) where
    pub disk_faults : DiskFaultsEnd tells held moment images
    disk_faults flow start time later lot opened reached after first old new journal one left out now_out run le within goes since stands =
        stopped_within flow start time later lot opened reached after first old new journal one left out run le within goes since tells held now_out stands

    pub inbox_faults : InboxFaultsEnd tells held moment images
    inbox_faults flow start time later lot opened reached after first old new journal one name left now_left out now_out run le within goes stepped takes either stands =
        unremoved flow start time later lot opened reached after first old new journal one left out run le within goes stepped tells held name (one_taken flow one name takes) now_left now_out either stands

    pub faults : FaultsEnd tells held moment images
    faults flow start time later lot opened reached first old new journal left out next cause run le since =
        let on = spared flow start time later lot opened reached first old new journal left out run le since in
        record {
          reached = reached;
          ran = on.ran;
          acked = λ closed. absurd closed;
          few_open = inl (acknowledged-all journal (moment first + 1) (moment new) (moment new) on.all on.ran.in_order (omega arith));
          within = on.within;
          gone = on.gone;
          inbox = (follows_all flow (ending.Fault cause) opened reached journal left on.ran.replays on.lies).0;
          few_left = (follows_all flow (ending.Fault cause) opened reached journal left on.ran.replays on.lies).1;
          outbox = inl on.stands;
          ends = tt;
        }

    pub outbox_faults : OutboxFaultsEnd tells held moment images
    outbox_faults flow start time later lot opened reached after first old new journal one left out now_out name bytes run since le within goes put puts others tried =
        let on = spared flow start time later lot opened reached first old new journal left out run le since in
        record {
          reached = reached;
          ran = on.ran;
          acked = λ closed. absurd closed;
          few_open = inl (acknowledged-all journal (moment first + 1) (moment new) (moment new) on.all on.ran.in_order (omega arith));
          within = on.within;
          gone = on.gone;
          inbox = (follows_all flow (ending.Fault fault.Outbox) opened reached journal left on.ran.replays on.lies).0;
          few_left = (follows_all flow (ending.Fault fault.Outbox) opened reached journal left on.ran.replays on.lies).1;
          outbox = inr (record {
            failed = refl;
            one = one;
            is = refl;
            within = within;
            after = after;
            goes = goes;
            name = name;
            put = put;
            bytes = bytes;
            puts = puts;
            others = λ other isnt. others other isnt ∙ ap (λ (o : List ℕ → Option (List ℕ)). o other) on.stands.standing;
            tried = tried ∙ ap (λ (l : List NamedFile). l ++ puts_of_step flow reached one) on.stands.puts;
          });
          ends = tt;
        }
