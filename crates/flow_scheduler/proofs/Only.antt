-- What follows from a session that was checked out as the only one in flight.
use Rattle.std.proofs.Common.{◌≡◌, ℕ, ◌≤◌, ◌||◌, not, Bool, true, false, cond, List, [], ◌∷◌, ◌++◌, refl, sym, ap, subst, ◌∙◌, arith, true≢false}
use Rattle.std.specs.Prelude.{Contains, IsTrue, Ok, Option, Some}
use Rattle.std.proofs.lemmas.Bool.{eq-eqb}
use Rattle.disk_trait.specs.Files.{Files}
use Rattle.flowfile_wal.specs.Calls.{InEach}
use Rattle.machine_model.specs.declared.flow.Flow.{Flow}
use Rattle.machine_model.specs.State.{Machine}
use Rattle.machine_model.proofs.Ordered.{contains_apart}
use Rattle.store_core.specs.Store.{StoreState, kept_by}
use Rattle.engine_choice.specs.Choice.{coming_of}
use Rattle.engine_choice.specs.Laws.{ChoicesAreSeen}
use Rattle.engine_session.specs.Done.{IsWorkOn, step_done}
use Rattle.engine_session.specs.declared.done.Done.{Done}
use Rattle.engine_session.specs.declared.job.Job.{Job}
use Rattle.run_law.specs.Run.{StandsFor}
use Rattle.run_law.specs.Turns.{ComesNext}
use Rattle.engine_steps.specs.Checkout.{session_in}
use Rattle.engine_steps.specs.Commit.{IsJournaled}
use Rattle.engine_steps.specs.Engine.{EngineState}
use Rattle.engine_steps.specs.Flights.{IsCheckedOutWithin, is_in_flight, names_to_come, without_session}
use Rattle.engine_steps.specs.Handing.{JobIsHanded}
use Rattle.engine_steps.specs.declared.commit.Committed.{Committed}
use Rattle.engine_steps.specs.declared.commit.Committed.TheVariants.{Acked, Changed, Dropped}
use Rattle.engine_steps.specs.declared.flight.InFlight.{InFlight}
use Rattle.engine_steps.proofs.Flights.{found_flies}
use Rattle.flow_scheduler.specs.Driving.{IsOnlySession}
use Rattle.flow_scheduler.proofs.InTurn.{comes_next}

-- ---- one session in flight

-- it has this number, ..
alone_flies : (session : ℕ) (out : List InFlight) (flight : InFlight) → out ≡ flight ∷ [] → flight.session ≡ session → is_in_flight session out ≡ true
alone_flies session out flight is number = ap (is_in_flight session) is ∙ ap (λ (b : Bool). b || false) (eq-eqb flight.session session number)

-- .. and none is left without it
none_without : (session : ℕ) (out : List InFlight) (flight : InFlight) → out ≡ flight ∷ [] → flight.session ≡ session → without_session session out ≡ []
none_without session out flight is number = ap (without_session session) is ∙ ap (λ (b : Bool). cond (not b) (flight ∷ []) []) (eq-eqb flight.session session number)

-- whichever is in flight is this one
it_alone : (out : List InFlight) (flight one : InFlight) → out ≡ flight ∷ [] → Contains out one → one ≡ flight
it_alone out flight one is has =
    contains_apart (one ≡ flight) flight one [] (subst (λ (l : List InFlight). Contains l one) is has) (λ same. sym same) (λ later. absurd (omega (arith, later.1)))

-- ---- where it was checked out

module _ {D : Type 0} (tells : Bool) (moment_of : D → ℕ) (images : D → ℕ → Files → Type 0) (moment session : ℕ) (e : EngineState) (disk : D) (only : IsOnlySession tells moment_of images moment session e disk) where
  abbrev before : EngineState
  before = only.before

  abbrev its : InFlight
  its = record { session = session; moment = moment; choice = only.checked_out.choice; place = only.checked_out.place }

  out_is : e.out ≡ its ∷ []
  out_is = ap (λ (x : EngineState). x.out) only.checked_out.rest ∙ ap (λ (out : List InFlight). out ++ its ∷ []) only.none

  flow_is : e.flow ≡ before.flow
  flow_is = ap (λ (x : EngineState). x.flow) only.checked_out.rest

  store_is : e.store ≡ before.store
  store_is = ap (λ (x : EngineState). x.store) only.checked_out.rest

  -- the session of this number is in flight
  pub only_flies : is_in_flight session e.out ≡ true
  only_flies = alone_flies session e.out its out_is refl

  module _ (flight : InFlight) (flying : Contains e.out flight) where
    pub is_only : flight ≡ its
    is_only = it_alone e.out its flight out_is flying

    pub moment_is : flight.moment ≡ moment
    moment_is = ap (λ (f : InFlight). f.moment) is_only

    -- its choice came next
    came_next : session_in before flight.moment ≡ Some flight.choice
    came_next = ap (λ (f : InFlight). session_in before f.moment) is_only ∙ only.checked_out.chosen ∙ ap (λ (f : InFlight). Some f.choice) (sym is_only)

    -- .. and so does the work on its job
    pub only_comes_next : ChoicesAreSeen → IsTrue tells → (m : Machine) → InEach (images disk (moment_of disk)) (StandsFor e.flow e.store.lot m) → coming_of m.world ≡ names_to_come e
        → (job : Job) (done : Done) → JobIsHanded (kept_by e.store) flight job → IsWorkOn e.flow (kept_by e.store).store job done → done.given.moment ≡ flight.moment
        → (last : Option ℕ) → e.last ≡ last → ComesNext e.flow last m (step_done done)
    only_comes_next law telling m stands coming job done handed work at last last_is =
        let holds = subst (λ (f : Flow). InEach (images disk (moment_of disk)) (StandsFor f before.store.lot m)) flow_is
        (subst (λ (s : StoreState). InEach (images disk (moment_of disk)) (StandsFor e.flow s.lot m)) store_is stands) in
        let worked = subst (λ (f : Flow). IsWorkOn f (kept_by before.store).store job done) flow_is
        (subst (λ (s : StoreState). IsWorkOn e.flow (kept_by s).store job done) store_is work) in
        subst (λ (f : Flow). ComesNext f last m (step_done done)) (sym flow_is)
        (comes_next law before m flight only.none (only.shows telling m holds) (coming ∙ only.checked_out.coming) came_next job done
        (subst (λ (s : StoreState). JobIsHanded (kept_by s) flight job) store_is handed) worked at last
        (ap (λ (x : EngineState). x.last) (sym only.checked_out.rest) ∙ last_is))

  -- whichever number is asked for, it was checked out at this moment
  pub only_within : (since : ℕ) → since ≤ moment → (number : ℕ) → IsCheckedOutWithin since moment number e.out
  only_within since le number flight found =
      let at : flight.moment ≡ moment = moment_is flight (found_flies number e.out flight found).0 in
      (subst (λ (m : ℕ). since ≤ m) (sym at) le, omega (arith, at))

  -- ---- its commit

  module _ (done : Done) (number : done.session ≡ session) where
    pub done_flies : is_in_flight done.session e.out ≡ true
    done_flies = ap (λ (n : ℕ). is_in_flight n e.out) number ∙ only_flies

    -- none is in flight behind it
    pub none_behind : (answer : Committed) (now : ℕ) (new : EngineState) → (answer ≡ Dropped → is_in_flight done.session e.out ≡ false) → IsJournaled (Ok answer) done now e new → new.out ≡ []
    none_behind (Acked entry at) now new dropped has = has.2.out ∙ none_without done.session e.out its out_is (sym number)
    none_behind Changed now new dropped has = ap (λ (x : EngineState). x.out) has.1.rest ∙ none_without done.session e.out its out_is (sym number)
    none_behind Dropped now new dropped has = absurd (true≢false (sym done_flies ∙ dropped refl))
