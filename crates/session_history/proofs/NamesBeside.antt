-- The names that are to come, but for those of files that sessions in flight receive, are those that are left.
use Rattle.std.proofs.Common.{◌≡◌, ℕ, ◌==◌, ◌||◌, not, Bool, false, true, cond, List, [], ◌∷◌, refl, sym, ap, subst, ◌∙◌, arith}
use Rattle.std.specs.Prelude.{All, Some, find}
use Rattle.std.proofs.lemmas.Bool.{eq-eqb, ne_eqb}
use Rattle.std.proofs.lemmas.List.Elements.{All-head, All-tail}
use Rattle.flowfile_record.specs.Stored.{Kept}
use Rattle.machine_model.specs.declared.flow.Flow.{Flow}
use Rattle.machine_model.proofs.Ordered.{pairs_head}
use Rattle.engine_queues.specs.Laws.{NamesGoBack, NamesLeave}
use Rattle.engine_queues.specs.Listing.{AreDistinct, Left, names_left}
use Rattle.engine_session.specs.Change.{names_without}
use Rattle.engine_steps.specs.Flights.{AreInFlight, AreTwoSessions, HoldsInFlight, given_back, has_session, is_in_flight, received_in, without_session}
use Rattle.engine_steps.specs.declared.flight.InFlight.{InFlight}
use Rattle.engine_steps.proofs.Flights.{flights_without, names_committed}
use Rattle.session_history.specs.History.{names_beside}

-- no session in flight has the next number
pub next_is_new : (flow : Flow) (k : Kept) (listing : Left) (next : ℕ) (out : List InFlight) → All (HoldsInFlight flow k listing next) out → is_in_flight next out ≡ false
next_is_new flow k listing next [] each = refl
next_is_new flow k listing next (first ∷ out) each =
    let holds : HoldsInFlight flow k listing next first = All-head (HoldsInFlight flow k listing next) first out each in
    let other : (first.session == next) ≡ false = ne_eqb first.session next (λ e. omega (arith, holds.earlier, e)) in
    ap (λ (b : Bool). b || is_in_flight next out) other ∙ next_is_new flow k listing next out (All-tail (HoldsInFlight flow k listing next) first out each)

-- ---- one session after the other

has_itself : (flight : InFlight) → has_session flight.session flight ≡ true
has_itself flight = eq-eqb flight.session flight.session refl

others_stay : (first : InFlight) (out : List InFlight) → All (AreTwoSessions first) out → without_session first.session out ≡ out
others_stay first [] two = refl
others_stay first (next ∷ out) two =
    let apart : AreTwoSessions first next = All-head (AreTwoSessions first) next out two in
    let other : has_session first.session next ≡ false = ne_eqb next.session first.session (λ e. apart.numbers (sym e)) in
    ap (λ (b : Bool). cond (not b) (next ∷ without_session first.session out) (without_session first.session out)) other
    ∙ ap (λ (fs : List InFlight). next ∷ fs) (others_stay first out (All-tail (AreTwoSessions first) next out two))

module _ (back : NamesGoBack) (leave : NamesLeave) (flow : Flow) (k : Kept) (listing : Left) (next : ℕ) (distinct : AreDistinct listing.listed) where
  pub left_beside : (out : List InFlight) → AreInFlight flow k listing next out → names_left listing ≡ names_beside out (names_left (given_back out listing))
  left_beside [] are = refl
  left_beside (first ∷ out) are =
      let all = first ∷ out in
      let coming = names_left (given_back all listing) in
      let others : without_session first.session all ≡ out =
      ap (λ (b : Bool). cond (not b) (first ∷ without_session first.session out) (without_session first.session out)) (has_itself first)
      ∙ others_stay first out (pairs_head AreTwoSessions first out are.apart) in
      let found : find (has_session first.session) all ≡ Some first = ap (λ (b : Bool). cond b (Some first) (find (has_session first.session) out)) (has_itself first) in
      let without : names_left (given_back out listing) ≡ names_without (received_in first.choice.taking) coming =
      ap (λ (fs : List InFlight). names_left (given_back fs listing)) (sym others)
      ∙ names_committed back leave flow k listing next all first.session first distinct are found in
      left_beside out (subst (AreInFlight flow k listing next) others (flights_without flow k listing next all first.session are)) ∙ ap (names_beside out) without
