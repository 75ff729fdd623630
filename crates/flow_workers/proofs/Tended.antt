-- How a run goes on by a call that tends.
use Rattle.std.proofs.Common.{◌≡◌, ◌⊎◌, inl, inr, ℕ, ◌≤◌, Bool, true, false, true≢false, List, sym, subst, ◌∙◌, arith}
use Rattle.std.specs.Prelude.{All, Option, None, Result, Ok, Err, IfErr, IsErrOf, IsTrue, OnOk}
use Rattle.disk_trait.specs.Files.{Files}
use Rattle.disk_trait.specs.declared.damage.Damage.{Damage}
use Rattle.flowfile_record.specs.NamedFile.{NamedFile}
use Rattle.kept_state.specs.declared.limit.Limit.{Limit as TheLimit}
use Rattle.machine_model.specs.declared.flow.Flow.{Flow}
use Rattle.engine_queues.specs.Listing.{names_left}
use Rattle.run_law.specs.Puts.{outgoing}
use Rattle.run_law.specs.Work.{IsAtWork, IsRefused}
use Rattle.engine_steps.specs.Engine.{AreTakeable, EngineState}
use Rattle.engine_steps.specs.Errors.{IsJournalFull, RefusesToTend}
use Rattle.engine_steps.specs.Flights.{given_back, names_to_come}
use Rattle.engine_steps.specs.Ready.{IsUsable}
use Rattle.engine_steps.specs.Tending.{TendsAlone, TendsFirst}
use Rattle.engine_steps.specs.declared.error.EngineError.{EngineError}
use Rattle.engine_steps.specs.declared.error.EngineError.TheVariants.{Damaged, Disk, Inbox, Limit, Memory, MustReopen, NoSession, Outbox, Put}
use Rattle.engine_steps.specs.declared.flight.InFlight.{InFlight}
use Rattle.engine_steps.specs.declared.tending.Tended.{Tended}
use Rattle.session_history.specs.Runs.{FailsByDevices, PlaysOn}
use Rattle.flow_workers.specs.Going.{WorkGoesOn, DeskIsInOrder}
use Rattle.flow_workers.specs.Jobs.{AreAsListed}
use Rattle.flow_workers.specs.Seen.{Seen, stopped_by}
use Rattle.flow_workers.specs.declared.cause.Cause.{Cause}
use Rattle.flow_workers.proofs.ByCalls.{goes_by, order_by, works_on}
use Rattle.flow_workers.proofs.Given.{made_by_tending}

-- ---- answers

-- a device that failed earlier is none that works
pub not_before : (failed : Bool) (behind : Type 0) → failed ≡ false → (failed ≡ true) ⊎ behind → behind
not_before failed behind works (inl before) = absurd (true≢false (sym before ∙ works))
not_before failed behind works (inr is) = is

pub on_ok : {A : Type 0} (result : Result A EngineError) (M : Type 0) → M → OnOk result M
on_ok (Ok answer) M so = so
on_ok (Err error) M so = tt

abbrev Kinds : EngineError → Type 0
Kinds error = (error ≡ Disk) ⊎ (error ≡ Memory) ⊎ (error ≡ MustReopen) ⊎ ((limit : TheLimit) × (error ≡ Limit limit))

-- tending answers none of another kind
no_kind : (error : EngineError) → (error ≡ Disk → ⊥) → (error ≡ Memory → ⊥) → (error ≡ MustReopen → ⊥) → ((limit : TheLimit) → error ≡ Limit limit → ⊥) → Kinds error → ⊥
no_kind error disk memory reopen limited (inl is) = disk is
no_kind error disk memory reopen limited (inr (inl is)) = memory is
no_kind error disk memory reopen limited (inr (inr (inl is))) = reopen is
no_kind error disk memory reopen limited (inr (inr (inr (limit, is)))) = limited limit is

kind_of : {A : Type 0} (result : Result A EngineError) (error : EngineError) → IsErrOf result error → IfErr result Kinds → Kinds error
kind_of result error is kinds = subst (λ (r : Result _ EngineError). IfErr r Kinds) is kinds

not_the_inbox : Kinds Inbox → ⊥
not_the_inbox = no_kind Inbox (λ is. cc) (λ is. cc) (λ is. cc) (λ limit is. cc)

not_the_outbox : Kinds Outbox → ⊥
not_the_outbox = no_kind Outbox (λ is. cc) (λ is. cc) (λ is. cc) (λ limit is. cc)

not_a_put : Kinds Put → ⊥
not_a_put = no_kind Put (λ is. cc) (λ is. cc) (λ is. cc) (λ limit is. cc)

no_session : Kinds NoSession → ⊥
no_session = no_kind NoSession (λ is. cc) (λ is. cc) (λ is. cc) (λ limit is. cc)

no_damage : (damage : Damage) → Kinds (Damaged damage) → ⊥
no_damage damage = no_kind (Damaged damage) (λ is. cc) (λ is. cc) (λ is. cc) (λ limit is. cc)

-- ---- a call that tends

module _ {D I O C : Type 0} (tells : Bool) (held : D → Files) (moment_of : D → ℕ) (images : D → ℕ → Files → Type 0) (faults : D → ℕ) (in_tells : Bool) (left : I → List NamedFile) (in_faults : I → ℕ)
    (out_tells : Bool) (standing : O → List ℕ → Option (List ℕ)) (puts : O → List NamedFile) (out_faults : O → ℕ) (time : C → ℕ) (given : ℕ → Type 0)
    (e f : EngineState) (old new : D) (inbox : I) (outbox : O) (was now : C) (p q : Option Cause) where
  abbrev s : Seen D I O C
  s = record { engine = e; disk = old; inbox = inbox; outbox = outbox; clock = was; cause = p }

  abbrev t : Seen D I O C
  t = record { engine = f; disk = new; inbox = inbox; outbox = outbox; clock = now; cause = q }

  module _ (order : DeskIsInOrder tells held moment_of images in_tells left time given s) (none : p ≡ None) (result : Result Tended EngineError) (noted_is : q ≡ stopped_by result) (moment : ℕ) (at : moment ≡ time now) (later : time was ≤ time now)
      (is_given : given moment) (first : TendsFirst result moment_of images moment e f old new) (alone : TendsAlone result moment_of images e f old new) (usable : IsUsable tells held moment_of images f new)
      (refusal : RefusesToTend result tells held moment_of images faults e f old new) where
    works : e.failed ≡ false
    works = works_on tells held moment_of images in_tells left time given s order none

    names : names_to_come f ≡ names_to_come e
    names = λ i. names_left (given_back (alone.out i) (alone.listing i))

    failed_by : f.failed ≡ true → IsErrOf result Disk ⊎ IsErrOf result Put
    failed_by fails = not_before e.failed (IsErrOf result Disk ⊎ IsErrOf result Put) works (refusal.reopen.only fails)

    pub tended_fails : FailsByDevices result f
    tended_fails = record { only = failed_by; from_put = λ put. absurd (not_a_put (kind_of result Put put refusal.kinds)) }

    tended_order : DeskIsInOrder tells held moment_of images in_tells left time given t
    tended_order =
        order_by tells held moment_of images in_tells left time given result t noted_is (record {
          usable = usable;
          takeable = λ well telling. subst (AreTakeable (left inbox)) (sym names) (order.usable.takeable works telling);
        }) failed_by (record {
          limited = λ limit is.
              subst (λ (flow : Flow). IsRefused flow tells held moment_of images limit f.store new ⊎ (IsJournalFull limit f.most f.journal × IsAtWork flow tells held moment_of images f.store new)) (sym alone.same.flow)
              (subst (λ (most : ℕ). IsRefused e.flow tells held moment_of images limit f.store new ⊎ (IsJournalFull limit most f.journal × IsAtWork e.flow tells held moment_of images f.store new)) (sym alone.same.most) (refusal.limited limit is));
          damaged = λ damage is. absurd (no_damage damage (kind_of result (Damaged damage) is refusal.kinds));
        }) (λ is. true≢false (sym (refusal.reopen.exactly.0 is) ∙ works)) (λ is. no_session (kind_of result NoSession is refusal.kinds))

    pub tended_goes : (IsTrue tells → PlaysOn result tells held moment_of images e f moment old new (left inbox) (left inbox) (outgoing standing puts outbox) (outgoing standing puts outbox))
        → WorkGoesOn tells held moment_of images faults in_tells left in_faults out_tells standing puts out_faults time given s t
    tended_goes plays =
        goes_by tells held moment_of images in_tells left time given faults in_faults out_tells standing puts out_faults result s t none noted_is tended_order alone.same alone.log alone.alone (record {
          disk = refusal.disk;
          inbox = record { never_falls = omega arith; rose = λ is. absurd (not_the_inbox (kind_of result Inbox is refusal.kinds)) };
          outbox = record { never_falls = omega arith; rose = λ is. absurd (not_the_outbox (kind_of result Outbox is refusal.kinds)) };
          put = record { never_falls = omega arith; rose = λ is. absurd (not_a_put (kind_of result Put is refusal.kinds)) };
        }) later
        (λ all. (made_by_tending given result moment (moment_of new) e f is_given first.done all.0, subst (λ (out : List InFlight). All (λ flight. given flight.moment) out) (sym alone.out) all.1))
        (on_ok result _ (λ files all. subst (AreAsListed in_tells files (left inbox)) (sym names) all))
        (λ telling in_telling out_telling.
        subst (λ (m : ℕ). PlaysOn result tells held moment_of images e f m old new (left inbox) (left inbox) (outgoing standing puts outbox) (outgoing standing puts outbox)) at (plays telling))
