-- A history goes on by one move more, and its steps lead to the machine that it has reached.
use Rattle.std.proofs.Common.{◌≡◌, List, [], ◌∷◌, ◌++◌, refl, sym, ap, subst, ◌∙◌}
use Rattle.std.specs.Prelude.{Some, option_and_then}
use Rattle.machine_model.specs.declared.flow.Flow.{Flow}
use Rattle.machine_model.specs.declared.journal.Step.{Step}
use Rattle.machine_model.specs.declared.journal.Step.TheVariants.{Expire}
use Rattle.machine_model.specs.Laws.{ReplayOfOneMore}
use Rattle.machine_model.specs.State.{Machine}
use Rattle.machine_model.specs.Stepping.{replay, step}
use Rattle.session_history.specs.History.{Expires, IsMove, IsPlayed, Leaves, Makes, Move, Play, Takes, step_in_flight, unplayed}
use Rattle.session_history.specs.Laws.{HistoriesAreReplays, HistoriesGoOn}

-- ---- one move more

pub goes_on : HistoriesGoOn
goes_on flow p q r [] move played moved = (r, subst (λ (x : Play). IsMove flow x move r) (sym played) moved, refl)
goes_on flow p q r (first ∷ moves) move played moved = (played.0, played.1, goes_on flow played.0 q r moves move played.2 moved)

-- ---- replays

module _ (law : ReplayOfOneMore) (flow : Flow) (opened : Machine) where
  -- the steps that were made lead to its machine
  abbrev LeadsThere : Play → Type 0
  LeadsThere p = replay flow opened p.made ≡ Some p.machine

  one_more : (made : List Step) (reached after : Machine) (one : Step) → replay flow opened made ≡ Some reached → step flow reached one ≡ Some after → replay flow opened (made ++ one ∷ []) ≡ Some after
  one_more made reached after one leads goes = law flow opened made one ∙ ap (option_and_then (λ (m : Machine). step flow m one)) leads ∙ goes

  move_leads : (p q : Play) (move : Move) → LeadsThere p → IsMove flow p move q → LeadsThere q
  move_leads p q (Takes flight) leads moved = subst LeadsThere (sym moved.is) leads
  move_leads p q (Leaves session) leads moved = subst LeadsThere (sym moved.1) leads
  move_leads p q (Makes session there) leads moved =
      subst LeadsThere (sym moved.is) (one_more p.made p.machine moved.after (step_in_flight moved.flight there) leads moved.goes)
  move_leads p q (Expires moment) leads moved =
      subst LeadsThere (sym moved.is) (one_more p.made p.machine moved.after (Expire moved.connection moved.numbers moment) leads moved.goes)

  leads_on : (p q : Play) (moves : List Move) → LeadsThere p → IsPlayed flow p moves q → LeadsThere q
  leads_on p q [] leads played = subst LeadsThere played leads
  leads_on p q (move ∷ moves) leads played = leads_on played.0 q moves (move_leads p played.0 move leads played.1) played.2

pub are_replays : ReplayOfOneMore → HistoriesAreReplays
are_replays law flow opened moment moves q played = leads_on law flow opened (unplayed opened moment) q moves refl played
