-- Where each session comes alone the steps come in turn.
use Rattle.std.proofs.Common.{◌≡◌, ℕ, ◌≤◌, ◌||◌, not, Bool, false, true, cond, List, [], ◌∷◌, ◌++◌, append_assoc, refl, sym, ap, subst, ◌∙◌, arith}
use Rattle.std.proofs.lemmas.List.{append-nil}
use Rattle.std.proofs.lemmas.Option.{same_Some}
use Rattle.std.specs.Prelude.{Option, None, Some, find}
use Rattle.machine_model.specs.declared.flow.Flow.{Flow}
use Rattle.machine_model.specs.declared.journal.Step.{Step}
use Rattle.machine_model.specs.declared.journal.Step.TheVariants.{Expire}
use Rattle.machine_model.specs.Due.{due_expiry}
use Rattle.machine_model.specs.Files.{queues_of}
use Rattle.machine_model.specs.State.{Machine}
use Rattle.machine_model.specs.Stepping.{step}
use Rattle.machine_model.specs.View.{QueueView}
use Rattle.engine_queues.specs.Beside.{beside}
use Rattle.engine_queues.specs.Laws.{NoneIsOut}
use Rattle.engine_choice.specs.Choice.{Known, coming_of, known_of, next_choice}
use Rattle.engine_choice.specs.Laws.{given_for}
use Rattle.engine_choice.specs.declared.choice.Taking.{Taking}
use Rattle.engine_choice.specs.declared.choice.Taking.TheVariants.{Files, Generate, Receive}
use Rattle.run_law.specs.Turns.{ComeInTurn, ComesNext, step_moment, worker_behind}
use Rattle.engine_steps.specs.Flights.{busy_by, has_session, is_in_flight, taken_by, without_session}
use Rattle.engine_steps.specs.declared.flight.InFlight.{InFlight}
use Rattle.session_history.specs.History.{AreAlone, ComesNextBeside, ExpireBeside, Expires, IsMadeFrom, IsPlayed, Leaves, Makes, Move, Play, Takes, known_beside, names_beside, queues_beside, step_in_flight, unplayed}
use Rattle.session_history.specs.Laws.{HistoriesComeInTurn}

-- what a session is given tells what the outbox answered
tells_there : (moment : ℕ) (there : Bool) (taking : Taking) → (given_for moment there taking).there ≡ there
tells_there moment there (Files connection numbers) = refl
tells_there moment there (Generate index) = refl
tells_there moment there (Receive name) = refl

-- ---- a session that is in flight alone

or_none : (b : Bool) → (b || false) ≡ true → b ≡ true
or_none true is = refl
or_none false is = is

module _ (session : ℕ) (flight : InFlight) where
  number_alone : is_in_flight session (flight ∷ []) ≡ true → has_session session flight ≡ true
  number_alone flies = or_none (has_session session flight) flies

  found_alone : (found : InFlight) → find (has_session session) (flight ∷ []) ≡ Some found → (found ≡ flight) × (has_session session flight ≡ true)
  found_alone found is = by_test (has_session session flight) is
    where
      by_test : (b : Bool) → cond b (Some flight) None ≡ Some found → (found ≡ flight) × (b ≡ true)
      by_test true is = (sym (same_Some flight found is), refl)
      by_test false is = absurd cc

  none_without : has_session session flight ≡ true → without_session session (flight ∷ []) ≡ []
  none_without is = ap (λ (b : Bool). cond (not b) (flight ∷ []) []) is

module _ (alone : NoneIsOut) (flow : Flow) (until : ℕ) where
  -- the steps that are made from one point to another come in turn
  abbrev MakesInTurn : (since : ℕ) → (p q : Play) → Type 0
  MakesInTurn since p q = (later : List Step) × (q.made ≡ p.made ++ later) × ComeInTurn flow p.last since until p.machine later

  -- so they do from a point on at which the same was made, ..
  as_before : (since : ℕ) (p mid q : Play) → mid.made ≡ p.made → mid.last ≡ p.last → mid.machine ≡ p.machine → MakesInTurn since mid q → MakesInTurn since p q
  as_before since p mid q made last machine rest = (
    rest.0,
    rest.1 ∙ ap (λ (all : List Step). all ++ rest.0) made,
    subst (λ (m : Machine). ComeInTurn flow p.last since until m rest.0) machine
        (subst (λ (o : Option ℕ). ComeInTurn flow o since until mid.machine rest.0) last rest.2),
  )

  -- .. and from one on at which the next step was made
  one_before : (since : ℕ) (p mid q : Play) (one : Step) → since ≤ step_moment one → ComesNext flow p.last p.machine one → step flow p.machine one ≡ Some mid.machine → mid.made ≡ p.made ++ one ∷ []
      → mid.last ≡ worker_behind p.last one → MakesInTurn (step_moment one) mid q → MakesInTurn since p q
  one_before since p mid q one le comes goes made last rest = (
    one ∷ rest.0,
    rest.1 ∙ ap (λ (all : List Step). all ++ rest.0) made ∙ append_assoc p.made (one ∷ []) rest.0,
    (
      le,
      comes,
      λ after is.
          subst (λ (m : Machine). ComeInTurn flow (worker_behind p.last one) (step_moment one) until m rest.0) (same_Some mid.machine after (sym goes ∙ is))
          (subst (λ (o : Option ℕ). ComeInTurn flow o (step_moment one) until mid.machine rest.0) last rest.2),
    ),
  )

  -- ---- none is in flight

  module _ (p : Play) (none : p.out ≡ []) where
    queues_alone : queues_beside p ≡ queues_of p.machine.state
    queues_alone = ap (λ (out : List InFlight). beside (taken_by out) (queues_of p.machine.state)) none ∙ alone (queues_of p.machine.state)

    pub due_alone : (moment : ℕ) → due_expiry flow (queues_of p.machine.state) moment ≡ due_expiry flow (queues_beside p) moment
    due_alone moment = ap (λ (views : ℕ → QueueView). due_expiry flow views moment) (sym queues_alone)

    pub known_alone : (moment : ℕ) → known_of p.machine.state p.machine.world moment ≡ known_beside flow p moment
    known_alone moment = λ i. record {
      queues = sym queues_alone i;
      counts = p.machine.state.counts;
      busy = busy_by flow (sym none i);
      coming = names_beside (sym none i) (coming_of p.machine.world);
      moment = moment;
    }

    -- files expire
    gone_alone : (since moment : ℕ) (mid q : Play) → since ≤ p.moment → ExpireBeside flow p moment mid → MakesInTurn moment mid q → MakesInTurn since p q
    gone_alone since moment mid q le gone rest =
        let from : since ≤ moment = omega (arith, le, gone.later) in
        one_before since p mid q (Expire gone.connection gone.numbers moment) from (due_alone moment ∙ gone.due)
        (gone.goes ∙ sym (ap (λ (x : Play). Some x.machine) gone.is))
        (ap (λ (x : Play). x.made) gone.is) (ap (λ (x : Play). x.last) gone.is) rest

    -- a session is checked out
    module _ (flight : InFlight) (mid : Play) (taken : ComesNextBeside flow p flight mid) where
      out_alone : mid.out ≡ flight ∷ []
      out_alone = ap (λ (x : Play). x.out) taken.is ∙ ap (λ (out : List InFlight). out ++ flight ∷ []) none

      comes_next : (there : Bool) → ComesNext flow p.last p.machine (step_in_flight flight there)
      comes_next there = record {
        expired = due_alone flight.moment ∙ taken.expired;
        choice = flight.choice;
        chosen = ap (λ (known : Known). next_choice flow known p.last) (known_alone flight.moment) ∙ taken.chosen;
        place_is = refl;
        numbers_are = refl;
        given_is = ap (λ (b : Bool). given_for flight.moment b flight.choice.taking) (tells_there flight.moment there flight.choice.taking);
      }

      -- .. and is committed
      module _ (session : ℕ) (there : Bool) (behind : Play) (made : IsMadeFrom flow mid session there behind) where
        found : (made.flight ≡ flight) × (has_session session flight ≡ true)
        found = found_alone session flight made.flight (sym (ap (find (has_session session)) out_alone) ∙ made.found)

        made_out : behind.out ≡ []
        made_out = ap (λ (x : Play). x.out) made.is ∙ ap (without_session session) out_alone ∙ none_without session flight found.1

        made_time : behind.moment ≡ flight.moment
        made_time = ap (λ (x : Play). x.moment) made.is ∙ ap (λ (x : Play). x.moment) taken.is

        made_alone : (since : ℕ) (q : Play) → since ≤ p.moment → MakesInTurn flight.moment behind q → MakesInTurn since p q
        made_alone since q le rest =
            let from : since ≤ flight.moment = omega (arith, le, taken.later) in
            one_before since p behind q (step_in_flight flight there) from (comes_next there)
            ((λ i. step flow (ap (λ (x : Play). x.machine) (sym taken.is) i) (step_in_flight (sym found.0 i) there)) ∙ made.goes ∙ sym (ap (λ (x : Play). Some x.machine) made.is))
            (ap (λ (x : Play). x.made) made.is ∙ (λ i. ap (λ (x : Play). x.made) taken.is i ++ step_in_flight (found.0 i) there ∷ []))
            (ap (λ (x : Play). x.last) made.is ∙ ap (λ (f : InFlight). Some f.choice.processor) found.0) rest

      -- .. or ends
      module _ (session : ℕ) (behind : Play) (flies : is_in_flight session mid.out ≡ true) (is : behind ≡ record mid { out = without_session session mid.out }) where
        left_out : behind.out ≡ []
        left_out =
            ap (λ (x : Play). x.out) is ∙ ap (without_session session) out_alone
            ∙ none_without session flight (number_alone session flight (sym (ap (is_in_flight session) out_alone) ∙ flies))

        left_time : behind.moment ≡ flight.moment
        left_time = ap (λ (x : Play). x.moment) is ∙ ap (λ (x : Play). x.moment) taken.is

        left_alone : (since : ℕ) (q : Play) → MakesInTurn since behind q → MakesInTurn since p q
        left_alone since q rest =
            as_before since p behind q (ap (λ (x : Play). x.made) is ∙ ap (λ (x : Play). x.made) taken.is) (ap (λ (x : Play). x.last) is ∙ ap (λ (x : Play). x.last) taken.is)
            (ap (λ (x : Play). x.machine) is ∙ ap (λ (x : Play). x.machine) taken.is) rest

  -- ---- any moves

  none_more : (since : ℕ) (p q : Play) → q.made ≡ p.made → since ≤ until → MakesInTurn since p q
  none_more since p q same le = ([], same ∙ sym (append-nil p.made), le)

  in_turn : (moves : List Move) (since : ℕ) (p q : Play) → p.out ≡ [] → AreAlone moves → IsPlayed flow p moves q → since ≤ p.moment → q.moment ≤ until → MakesInTurn since p q
  in_turn [] since p q none are played le within =
      let time : p.moment ≡ q.moment = ap (λ (x : Play). x.moment) played in
      none_more since p q (ap (λ (x : Play). x.made) (sym played)) (omega (arith, time, le, within))
  in_turn (Expires moment ∷ moves) since p q none are played le within =
      let time : played.0.moment ≡ moment = ap (λ (x : Play). x.moment) played.1.is in
      gone_alone p none since moment played.0 q le played.1
      (in_turn moves moment played.0 q (ap (λ (x : Play). x.out) played.1.is ∙ none) are played.2 (omega (arith, time)) within)
  in_turn (Takes flight ∷ []) since p q none are played le within =
      let is = sym played.2 ∙ played.1.is in
      let time : q.moment ≡ flight.moment = ap (λ (x : Play). x.moment) is in
      none_more since p q (ap (λ (x : Play). x.made) is) (omega (arith, time, le, within, played.1.later))
  in_turn (Takes flight ∷ Makes session there ∷ moves) since p q none are played le within =
      let behind = played.2.0 in
      let made = played.2.1 in
      let time : behind.moment ≡ flight.moment = made_time p none flight played.0 played.1 session there behind made in
      made_alone p none flight played.0 played.1 session there behind made since q le
      (in_turn moves flight.moment behind q (made_out p none flight played.0 played.1 session there behind made) are played.2.2 (omega (arith, time)) within)
  in_turn (Takes flight ∷ Leaves session ∷ moves) since p q none are played le within =
      let behind = played.2.0 in
      let left = played.2.1 in
      let time : behind.moment ≡ flight.moment = left_time p none flight played.0 played.1 session behind left.0 left.1 in
      left_alone p none flight played.0 played.1 session behind left.0 left.1 since q
      (in_turn moves since behind q (left_out p none flight played.0 played.1 session behind left.0 left.1) are played.2.2 (omega (arith, time, le, played.1.later)) within)
  in_turn (Takes flight ∷ Takes other ∷ moves) since p q none are played le within = absurd are
  in_turn (Takes flight ∷ Expires moment ∷ moves) since p q none are played le within = absurd are
  in_turn (Makes session there ∷ moves) since p q none are played le within = absurd are
  in_turn (Leaves session ∷ moves) since p q none are played le within = absurd are

pub come_in_turn : NoneIsOut → HistoriesComeInTurn
come_in_turn law flow opened since until moves q alone played within =
    let made = in_turn law flow until moves since (unplayed opened since) q refl alone played (omega arith) within in
    subst (ComeInTurn flow None since until opened) (sym made.1) made.2
