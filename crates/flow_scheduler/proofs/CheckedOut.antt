-- What stays of a run as its next session is checked out.
use Rattle.std.proofs.Common.{◌≡◌, ◌⊎◌, ⊎_elim, inl, inr, ℕ, Bool, true, false, true≢false, List, refl, sym, ◌∙◌, ap, subst}
use Rattle.std.specs.Prelude.{Err, IsErrOf, Ok, None, OnOk, Option, Result, Some}
use Rattle.disk_trait.specs.Files.{Files}
use Rattle.flowfile_record.specs.NamedFile.{NamedFile}
use Rattle.machine_model.specs.declared.flow.Flow.{Flow}
use Rattle.machine_model.specs.State.{Machine}
use Rattle.engine_queues.specs.Listing.{Left}
use Rattle.run_law.specs.Puts.{Outgoing, Start}
use Rattle.run_law.specs.Work.{IsAtWork, WritesLog}
use Rattle.run_law.proofs.Writing.{writes_none}
use Rattle.store_core.specs.Store.{StoreState, kept_by}
use Rattle.engine_steps.specs.Checkout.{HasCheckedOut}
use Rattle.engine_steps.specs.Engine.{AreTakeable, EngineState, IsOfSameRun}
use Rattle.engine_steps.specs.Errors.{HasCause}
use Rattle.engine_steps.specs.Flights.{names_to_come, with_name}
use Rattle.engine_steps.specs.Leaving.{MayGoOn}
use Rattle.engine_steps.specs.Ready.{IsReadyInMemory}
use Rattle.engine_steps.specs.declared.error.EngineError.{EngineError}
use Rattle.engine_steps.specs.declared.error.EngineError.TheVariants.{Damaged, Limit, Memory, MustReopen, NoSession}
use Rattle.flow_scheduler.specs.Driving.{LeavesRun, MayTurn, RunsInTurn}
use Rattle.flow_scheduler.proofs.Turning.{same_run_on}

-- ---- a session is checked out

same_large : (place : Option ℕ) (listing : Left) → (with_name true place listing).too_large ≡ listing.too_large
same_large None listing = refl
same_large (Some place) listing = refl

module _ (moment session : ℕ) (e f : EngineState) (out : HasCheckedOut moment session e f) where
  flow_is : f.flow ≡ e.flow
  flow_is = ap (λ (x : EngineState). x.flow) out.rest

  store_is : f.store ≡ e.store
  store_is = ap (λ (x : EngineState). x.store) out.rest

  most_is : f.most ≡ e.most
  most_is = ap (λ (x : EngineState). x.most) out.rest

  pub still_works : e.failed ≡ false → f.failed ≡ false
  still_works works = ap (λ (x : EngineState). x.failed) out.rest ∙ works

  pub same_log : f.store.log.number ≡ e.store.log.number
  same_log = ap (λ (s : StoreState). s.log.number) store_is

  same_run : IsOfSameRun e f
  same_run = record {
    flow = flow_is;
    most = most_is;
    checkpoint = ap (λ (x : EngineState). x.checkpoint) out.rest;
    too_large = ap (λ (x : EngineState). x.listing.too_large) out.rest ∙ same_large out.place e.listing;
    lot = ap (λ (s : StoreState). s.lot) store_is;
    id = ap (λ (x : EngineState). (kept_by x.store).store) out.rest;
  }

  -- the run goes on, ..
  pub runs_checked_out : {D : Type 0} (moment_of : D → ℕ) (images : D → ℕ → Files → Type 0) (opened : Machine) (first : D) (start : Start) (time : ℕ) (now : D) (left : List NamedFile) (puts : Outgoing)
      → RunsInTurn moment_of images e opened first start time now left puts → RunsInTurn moment_of images f opened first start time now left puts
  runs_checked_out moment_of images opened first start time now left puts run =
      subst (λ (x : EngineState). RunsInTurn moment_of images x opened first start time now left puts) (sym out.rest) (record {
        run = record {
          reached = run.run.reached;
          to = record { run = run.run.to.run; coming = run.run.to.coming ∙ sym out.coming ∙ ap (λ (x : EngineState). names_to_come x) out.rest; last = run.run.to.last };
        };
        turns = run.turns;
      })

  module _ {D : Type 0} (tells : Bool) (held : D → Files) (moment_of : D → ℕ) (images : D → ℕ → Files → Type 0) (in_tells : Bool) (left : List NamedFile) where
    -- .. the engine may, too
    pub may_checked_out : (disk : D) → MayTurn tells held moment_of images in_tells left e disk → (f.failed ≡ false → IsReadyInMemory f) → MayGoOn tells held moment_of images in_tells left f disk
    may_checked_out disk may ready =
        let works : f.failed ≡ false = still_works may.may.works in
        record {
          ready = record {
            work = subst (λ (x : EngineState). IsAtWork x.flow tells held moment_of images x.store disk) (sym out.rest) may.may.ready.work;
            memory = ready works;
          };
          works = works;
          left = λ telling. subst (AreTakeable left) (sym out.coming) (may.may.left telling);
        }

    -- and what is left behind is left of the engine that it was
    pub leaves_checked_out : {A : Type 0} (result : Result A EngineError) (g : EngineState) (old new : D) → LeavesRun result tells held moment_of images in_tells left f g old new → LeavesRun result tells held moment_of images in_tells left e g old new
    leaves_checked_out result g old new leaves = record {
      may = leaves.may;
      usable = leaves.usable;
      failed = leaves.failed;
      works = leaves.works;
      known = leaves.known;
      same = same_run_on e f g same_run leaves.same;
      alone = subst (λ (log : Option ℕ). WritesLog moment_of images log old new) same_log leaves.alone;
      why = subst (λ (flow : Flow). HasCause result flow tells held moment_of images e.most g.journal g.store new) flow_is
          (subst (λ (most : ℕ). HasCause result f.flow tells held moment_of images most g.journal g.store new) most_is leaves.why);
    }

-- ---- an error that is handed on

module _ {A B : Type 0} (one : Result A EngineError) (other : Result B EngineError) (error : EngineError) (one_is : one ≡ Err error) (other_is : other ≡ Err error) where
  same_error : (met : EngineError) → IsErrOf other met → IsErrOf one met
  same_error met is = let same : ◌≡◌ {A = Result B EngineError} (Err error) (Err met) = sym other_is ∙ is in let it : error ≡ met = cc in one_is ∙ ap Err it

  pub leaves_by_error : {D : Type 0} (tells : Bool) (held : D → Files) (moment_of : D → ℕ) (images : D → ℕ → Files → Type 0) (in_tells : Bool) (left : List NamedFile) (e f : EngineState) (old new : D)
      → LeavesRun one tells held moment_of images in_tells left e f old new → LeavesRun other tells held moment_of images in_tells left e f old new
  leaves_by_error tells held moment_of images in_tells left e f old new leaves = record {
    may = subst (λ (r : Result B EngineError). OnOk r (MayTurn tells held moment_of images in_tells left f new)) (sym other_is) tt;
    usable = leaves.usable;
    failed = λ fails. ⊎_elim (λ is. inl (other_is ∙ same_kind is)) (λ is. inr (other_is ∙ same_kind is)) (leaves.failed fails);
    works = λ is. leaves.works (same_error MustReopen is);
    known = λ is. leaves.known (same_error NoSession is);
    same = leaves.same;
    alone = leaves.alone;
    why = record {
      limited = λ limit is. leaves.why.limited limit (same_error (Limit limit) is);
      damaged = λ damage is. leaves.why.damaged damage (same_error (Damaged damage) is);
    };
  }
    where
      same_kind : {met : EngineError} → IsErrOf one met → ◌≡◌ {A = Result B EngineError} (Err error) (Err met)
      same_kind {met} is = let same : ◌≡◌ {A = Result A EngineError} (Err error) (Err met) = sym one_is ∙ is in let it : error ≡ met = cc in ap Err it

-- ---- nothing is checked out

on_ok : {A : Type 0} (result : Result A EngineError) (M : Type 0) → M → OnOk result M
on_ok (Ok answer) M so = so
on_ok (Err error) M so = tt

-- the engine is as it was
pub leaves_unmoved : {A D : Type 0} (result : Result A EngineError) (tells : Bool) (held : D → Files) (moment_of : D → ℕ) (images : D → ℕ → Files → Type 0) (in_tells : Bool) (left : List NamedFile) (e f : EngineState) (disk : D)
    → MayTurn tells held moment_of images in_tells left e disk → f ≡ e → (IsErrOf result MustReopen → ⊥) → (IsErrOf result NoSession → ⊥) → HasCause result e.flow tells held moment_of images e.most e.journal e.store disk
    → LeavesRun result tells held moment_of images in_tells left e f disk disk
leaves_unmoved result tells held moment_of images in_tells left e f disk may same works known why =
    subst (λ (x : EngineState). LeavesRun result tells held moment_of images in_tells left e x disk disk) (sym same) (record {
      may = on_ok result (MayTurn tells held moment_of images in_tells left e disk) may;
      usable = λ so. may.may.ready;
      failed = λ fails. absurd (true≢false (sym fails ∙ may.may.works));
      works = works;
      known = known;
      same = record { flow = refl; most = refl; checkpoint = refl; too_large = refl; lot = refl; id = refl };
      alone = writes_none moment_of images e.store.log.number disk;
      why = why;
    })

pub memory_alone : (error : EngineError) → (error ≡ MustReopen) ⊎ (error ≡ Memory) → (error ≡ MustReopen → ⊥) → error ≡ Memory
memory_alone error (inl reopen) works = absurd (works reopen)
memory_alone error (inr memory) works = memory

-- for want of memory alone
pub leaves_without_memory : {A D : Type 0} (result : Result A EngineError) (tells : Bool) (held : D → Files) (moment_of : D → ℕ) (images : D → ℕ → Files → Type 0) (in_tells : Bool) (left : List NamedFile) (e f : EngineState) (disk : D)
    → MayTurn tells held moment_of images in_tells left e disk → f ≡ e → result ≡ Err Memory → LeavesRun result tells held moment_of images in_tells left e f disk disk
leaves_without_memory {A} result tells held moment_of images in_tells left e f disk may same is =
    leaves_unmoved result tells held moment_of images in_tells left e f disk may same
    (λ reopen. let both : ◌≡◌ {A = Result A EngineError} (Err Memory) (Err MustReopen) = sym is ∙ reopen in cc)
    (λ unknown. let both : ◌≡◌ {A = Result A EngineError} (Err Memory) (Err NoSession) = sym is ∙ unknown in cc)
    (record {
      limited = λ limit limited. absurd (let both : ◌≡◌ {A = Result A EngineError} (Err Memory) (Err (Limit limit)) = sym is ∙ limited in cc);
      damaged = λ damage damaged. absurd (let both : ◌≡◌ {A = Result A EngineError} (Err Memory) (Err (Damaged damage)) = sym is ∙ damaged in cc);
    })
