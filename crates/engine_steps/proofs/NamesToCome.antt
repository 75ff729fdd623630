-- The name that a session in flight receives is among those that are to come, so its file is left.
use Rattle.std.proofs.Common.{◌≡◌, inl, inr, ℕ, ◌≤◌, zero, suc, Bool, true, false, List, [], ◌∷◌, length, refl, sym, ap, subst, ◌∙◌}
use Rattle.std.specs.Prelude.{Contains, Option, None, Some, slice_get, slice_set}
use Rattle.std.specs.Option.{IsSomeAnd}
use Rattle.flowfile_record.specs.NamedFile.{NamedFile, bytes_of}
use Rattle.flowfile_record.specs.declared.TheConstants.{CONTENT_MAX}
use Rattle.machine_model.proofs.Among.{Among, all_among, among_contained}
use Rattle.engine_choice.specs.declared.choice.Taking.{Taking}
use Rattle.engine_choice.specs.declared.choice.Taking.TheVariants.{Files, Generate, Receive}
use Rattle.engine_queues.specs.Listing.{Left, left_of, names_left}
use Rattle.engine_steps.specs.Engine.{AreTakeable}
use Rattle.engine_steps.specs.Flights.{HoldsName, given_back, with_name}
use Rattle.engine_steps.specs.Handing.{MayBeReceived}
use Rattle.engine_steps.specs.declared.flight.InFlight.{InFlight}
use Rattle.engine_steps.proofs.Flights.{given_back_listed}

-- ---- marks that are taken back

marked : (taken : List Bool) (place : ℕ) (mark : Bool) → slice_get taken place ≡ Some mark → slice_get (slice_set taken place false) place ≡ Some false
marked [] place mark there = absurd cc
marked (m ∷ taken) zero mark there = refl
marked (m ∷ taken) (suc place) mark there = marked taken place mark there

-- a mark that is there, whichever one it is
abbrev HasMark : List Bool → ℕ → Type 0
HasMark taken place = (mark : Bool) × (slice_get taken place ≡ Some mark)

still_marked : (taken : List Bool) (other place : ℕ) → HasMark taken place → HasMark (slice_set taken other false) place
still_marked [] other place there = there
still_marked (m ∷ taken) zero zero there = (false, refl)
still_marked (m ∷ taken) zero (suc place) there = there
still_marked (m ∷ taken) (suc other) zero there = there
still_marked (m ∷ taken) (suc other) (suc place) there = still_marked taken other place there

still_left : (taken : List Bool) (other place : ℕ) → slice_get taken place ≡ Some false → slice_get (slice_set taken other false) place ≡ Some false
still_left [] other place there = there
still_left (m ∷ taken) zero zero there = refl
still_left (m ∷ taken) zero (suc place) there = there
still_left (m ∷ taken) (suc other) zero there = there
still_left (m ∷ taken) (suc other) (suc place) there = still_left taken other place there

-- ---- names that are given back

marked_back : (out : List InFlight) (listing : Left) (place : ℕ) → HasMark listing.taken place → HasMark (given_back out listing).taken place
marked_back [] listing place there = there
marked_back (flight ∷ out) listing place there = by_place flight.place (marked_back out listing place there)
  where
    by_place : (o : Option ℕ) → HasMark (given_back out listing).taken place → HasMark (with_name false o (given_back out listing)).taken place
    by_place None before = before
    by_place (Some other) before = still_marked (given_back out listing).taken other place before

left_back : (out : List InFlight) (listing : Left) (flight : InFlight) (place : ℕ) → Among flight out → flight.place ≡ Some place → HasMark listing.taken place → slice_get (given_back out listing).taken place ≡ Some false
left_back [] listing flight place among at there = absurd among
left_back (first ∷ out) listing flight place (inl same) at there =
    let before = marked_back out listing place there in
    let here : first.place ≡ Some place = ap (λ (f : InFlight). f.place) same ∙ at in
    subst (λ (o : Option ℕ). slice_get (with_name false o (given_back out listing)).taken place ≡ Some false) (sym here) (marked (given_back out listing).taken place before.0 before.1)
left_back (first ∷ out) listing flight place (inr later) at there = by_place first.place (left_back out listing flight place later at there)
  where
    by_place : (o : Option ℕ) → slice_get (given_back out listing).taken place ≡ Some false → slice_get (with_name false o (given_back out listing)).taken place ≡ Some false
    by_place None before = before
    by_place (Some other) before = still_left (given_back out listing).taken other place before

-- a name without a mark is left
left_among : (names : List (List ℕ)) (taken : List Bool) (place : ℕ) (name : List ℕ) → slice_get names place ≡ Some name → slice_get taken place ≡ Some false → Among name (left_of names taken)
left_among [] taken place name there left = absurd cc
left_among (n ∷ names) [] place name there left = absurd cc
left_among (n ∷ names) (true ∷ taken) zero name there left = absurd cc
left_among (n ∷ names) (true ∷ taken) (suc place) name there left = left_among names taken place name there left
left_among (n ∷ names) (false ∷ taken) zero name there left = let same : n ≡ name = cc in inl same
left_among (n ∷ names) (false ∷ taken) (suc place) name there left = inr (left_among names taken place name there left)

-- ---- the name of a session in flight

pub name_comes : (out : List InFlight) (listing : Left) (flight : InFlight) (name : List ℕ) → Contains out flight → flight.choice.taking ≡ Receive name → HoldsName listing flight.choice.taking flight.place
    → Among name (names_left (given_back out listing))
name_comes out listing flight name flying takes holds =
    by_place flight.place refl (subst (λ (t : Taking). HoldsName listing t flight.place) takes holds)
  where
    by_place : (o : Option ℕ) → flight.place ≡ o → HoldsName listing (Receive name) o → Among name (names_left (given_back out listing))
    by_place None at held = absurd held
    by_place (Some place) at held =
        left_among (given_back out listing).listed (given_back out listing).taken place name (ap (λ (names : List (List ℕ)). slice_get names place) (given_back_listed out listing) ∙ held.0)
        (left_back out listing flight place (among_contained flight out flying) at (true, held.1))

-- where the files can be taken that are to come, its file may be received
pub may_be_received : (left : List NamedFile) (out : List InFlight) (listing : Left) (flight : InFlight) → AreTakeable left (names_left (given_back out listing)) → Contains out flight
    → HoldsName listing flight.choice.taking flight.place → MayBeReceived left flight.choice.taking
may_be_received left out listing flight all flying holds = by_taking flight.choice.taking refl
  where
    by_taking : (t : Taking) → flight.choice.taking ≡ t → MayBeReceived left t
    by_taking (Files connection numbers) is = tt
    by_taking (Generate index) is = tt
    by_taking (Receive name) is =
        all_among (λ (n : List ℕ). IsSomeAnd (bytes_of left n) (λ bytes. length bytes ≤ CONTENT_MAX)) name (names_left (given_back out listing)) all (name_comes out listing flight name flying is holds)
