-- An engine that is ready again behind a step.
use Rattle.std.proofs.Common.{◌≡◌, ℕ, ◌≤◌, ◌<◌, Bool, List, [], ◌∷◌, length, refl, sym, ap, subst, ◌∙◌, arith, length-append}
use Rattle.std.specs.Prelude.{None, Option, Result, Ok, Err, Some}
use Rattle.disk_trait.specs.Files.{Files}
use Rattle.machine_model.specs.declared.journal.Entry.{Entry}
use Rattle.machine_model.specs.declared.journal.Step.{Step}
use Rattle.store_core.specs.Store.{kept_by}
use Rattle.engine_steps.specs.Committing.{IsAtWorkWithQueues}
use Rattle.engine_steps.specs.Engine.{EngineState}
use Rattle.engine_steps.specs.Flights.{AreInFlight, taken_by}
use Rattle.engine_steps.specs.Journal.{journaled}
use Rattle.engine_steps.specs.Ready.{EngineIsReady, KnowsDue}
use Rattle.engine_steps.specs.declared.error.EngineError.{EngineError}

-- an engine that knows no moment says nothing of what is due
pub knows_none : (e : EngineState) → e.tended ≡ None → KnowsDue e
knows_none e none moment is = absurd (apart (sym none ∙ is))
  where
    apart : ◌≡◌ {A = Option ℕ} None (Some moment) → ⊥
    apart both = cc

-- what a session leaves of an engine: its constants, its listing and the number of the next session stay
abbrev pub behind : (e f : EngineState) → EngineState
behind e f = record e {
  store = f.store;
  queues = f.queues;
  last = f.last;
  journal = f.journal;
  since_reclaim = f.since_reclaim;
  failed = f.failed;
  tended = f.tended;
  out = f.out;
}

pub rest_is : (e w : EngineState) → w ≡ record e { store = w.store; queues = w.queues; journal = w.journal; failed = w.failed; tended = w.tended } → w ≡ behind e w
rest_is e w rest = rest ∙ (λ i. record e {
  store = w.store;
  queues = w.queues;
  last = sym (ap (λ (x : EngineState). x.last) rest) i;
  journal = w.journal;
  since_reclaim = sym (ap (λ (x : EngineState). x.since_reclaim) rest) i;
  failed = w.failed;
  tended = w.tended;
  out = sym (ap (λ (x : EngineState). x.out) rest) i;
})

pub ready_by : {D : Type 0} (tells : Bool) (held : D → Files) (moment : D → ℕ) (images : D → ℕ → Files → Type 0) (e f : EngineState) (old new : D) → f ≡ behind e f → EngineIsReady tells held moment images e old
    → IsAtWorkWithQueues e.flow tells held moment images f.store (taken_by f.out) f.queues new → AreInFlight e.flow (kept_by f.store) e.listing e.next_session f.out → length f.journal ≤ e.most → KnowsDue f
    → EngineIsReady tells held moment images f new
ready_by tells held moment images e f old new is ready queued flights entries due =
    subst (λ (x : EngineState). EngineIsReady tells held moment images x new) (sym is) (record {
      work = queued.work;
      memory = record {
        sound = ready.memory.sound;
        flow_is = queued.work.flow_is;
        queues = queued.are;
        listing = ready.memory.listing;
        distinct = ready.memory.distinct;
        flights = flights;
        most = ready.memory.most;
        entries = entries;
        due = subst KnowsDue is due;
      };
    })

-- ---- which entries the journal has then

-- none, where the commit hadn't begun
pub no_entry : (error : EngineError) (one : Step) (journal : List Entry) → (error ≡ EngineError.Disk → ⊥) → journaled (Err error) one journal ≡ journal
no_entry (EngineError.Damaged damage) one journal apart = refl
no_entry EngineError.Disk one journal apart = absurd (apart refl)
no_entry EngineError.Inbox one journal apart = refl
no_entry EngineError.Outbox one journal apart = refl
no_entry EngineError.Put one journal apart = refl
no_entry (EngineError.Limit limit) one journal apart = refl
no_entry EngineError.MustReopen one journal apart = refl
no_entry EngineError.NoSession one journal apart = refl
no_entry EngineError.Memory one journal apart = refl

-- one more, where it was acknowledged
pub one_more : (m : ℕ) (one : Step) (journal : List Entry) (most : ℕ) → length journal < most → length (journaled (Ok m) one journal) ≤ most
one_more m one journal most room = omega (arith, room, length-append journal (record { step = one; acked = Some m } ∷ []))

-- ---- what is answered

pub the_error : (a b : EngineError) → ◌≡◌ {A = Result ℕ EngineError} (Err a) (Err b) → a ≡ b
the_error a b is = cc

pub not_both : {X : Type 0} (m : ℕ) (a : EngineError) → ◌≡◌ {A = Result ℕ EngineError} (Ok m) (Err a) → X
not_both m a is = absurd cc
