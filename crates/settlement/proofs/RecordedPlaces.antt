-- That what is placed goes to connections of the flow, and each file to no more of them than one may.
use Rattle.std.proofs.Common.{◌≡◌, ℕ, suc, ◌+◌, ◌<◌, ◌≤◌, Bool, true, false, cond, List, [], ◌∷◌, map, length, arith}
use Rattle.std.specs.Prelude.{filter}
use Rattle.std.specs.List.{enumerate_from}
use Rattle.std.proofs.lemmas.Bool.{true≢false}
use Rattle.flowfile_record.specs.Outcome.{IsEndOf, StandsInTurn, is_made}
use Rattle.flowfile_record.specs.declared.worked.End.{End}
use Rattle.flowfile_record.specs.declared.worked.End.TheVariants.{To, Back, Removed}
use Rattle.flowfile_record.specs.declared.worked.Origin.{Origin}
use Rattle.flowfile_record.specs.declared.worked.Origin.TheVariants as origin
use Rattle.machine_model.specs.declared.flow.Flow.{Flow}
use Rattle.machine_model.specs.declared.flow.Processor.{Processor}
use Rattle.machine_model.specs.declared.limits.TheConstants.{FAN_OUT_MAX}
use Rattle.machine_model.specs.Kinds.{is_among}
use Rattle.machine_model.specs.Placing as placing
use Rattle.machine_model.specs.Placing.{goes, leads, relationship_at, to_connections, to_relationship, connections_of}
use Rattle.machine_model.proofs.Tally.{Each}
use Rattle.settlement.specs.Ending.{goes_to}
use Rattle.settlement.specs.declared.file.Goes.{Goes}
use Rattle.settlement.specs.declared.file.Goes.TheVariants.{Queues, Returns}

abbrev pub Below : ℕ → List ℕ → Type 0
Below most places = Each (λ place. place < most) places

-- ---- connections of the flow

enumerated_below : {X : Type 0} (k most : ℕ) (xs : List X) → k + length xs ≤ most → Each (λ (numbered : ℕ × X). numbered.0 < most) (enumerate_from k xs)
enumerated_below k most [] h = tt
enumerated_below k most (x ∷ xs) h = (omega arith, enumerated_below (k + 1) most xs (omega arith))

filtered_below : {X : Type 0} (p : ℕ × X → Bool) (most : ℕ) (xs : List (ℕ × X)) → Each (λ (numbered : ℕ × X). numbered.0 < most) xs → Below most (map (λ numbered. numbered.0) (filter p xs))
filtered_below p most [] h = tt
filtered_below p most (x ∷ xs) h =
    elim (p x) as (λ b. Below most (map (λ numbered. numbered.0) (cond b (x ∷ filter p xs) (filter p xs)))) [
      | true ↦ (h.0, filtered_below p most xs h.1)
      | false ↦ filtered_below p most xs h.1
    ]

connections_below : (flow : Flow) (processor : ℕ) (relationship : List ℕ) → Below (length flow.connections) (connections_of flow processor relationship)
connections_below flow processor relationship =
    filtered_below (leads processor relationship) (length flow.connections) (enumerate_from 0 flow.connections)
    (enumerated_below 0 (length flow.connections) flow.connections (omega arith))

-- ---- where a file goes

-- how many queues a file goes to
abbrev pub places_of : Goes → ℕ
places_of (Queues first others) = suc (length others)
places_of Returns = 1
places_of _ = 0

-- the queues of a file are those of so many connections, the one that it returns to being this
abbrev pub AreBelow : (most connection : ℕ) → Goes → Type 0
AreBelow most connection (Queues first others) = (first < most) × Below most others
AreBelow most connection Returns = connection < most
AreBelow most connection _ = Unit {0}

-- a file goes to connections that there are, and to few of them
pub record GoesFew (most connection : ℕ) (goes : Goes) : Type 0 where
  pub below : AreBelow most connection goes
  pub few : places_of goes ≤ FAN_OUT_MAX

to_few : (most connection : ℕ) (relationship found : List ℕ) → Below most found → length found ≤ FAN_OUT_MAX → GoesFew most connection (goes_to (to_connections relationship found))
to_few most connection relationship [] below few = record { below = tt; few = omega arith }
to_few most connection relationship (first ∷ others) below few = record { below = below; few = few }

relationship_few : (flow : Flow) (place connection : ℕ) (processor : Processor) (relationship : List ℕ) → length (connections_of flow place relationship) ≤ FAN_OUT_MAX
    → GoesFew (length flow.connections) connection (goes_to (to_relationship flow place processor relationship))
relationship_few flow place connection processor relationship few =
    elim (is_among relationship processor.terminated) as (λ b. GoesFew (length flow.connections) connection (goes_to (cond b (placing.Drops relationship) (to_connections relationship (connections_of flow place relationship))))) [
      | true ↦ record { below = tt; few = omega arith }
      | false ↦ to_few (length flow.connections) connection relationship (connections_of flow place relationship) (connections_below flow place relationship) few
    ]

-- a file that isn't made is a taken one
taken_there : (place count : ℕ) (from : Origin) → StandsInTurn place count from → is_made from ≡ false → 0 < count
taken_there place count (origin.Taken of) turn made = omega (arith, turn.1)
taken_there place count origin.Created turn made = absurd (true≢false made)
taken_there place count origin.Received turn made = absurd (true≢false made)
taken_there place count (origin.Forked of) turn made = absurd (true≢false made)
taken_there place count (origin.Part of) turn made = absurd (true≢false made)
taken_there place count (origin.Cloned of) turn made = absurd (true≢false made)
taken_there place count (origin.Joined of) turn made = absurd (true≢false made)

pub goes-few : (flow : Flow) (place connection : ℕ) (processor : Processor) (relationships at count : ℕ) (from : Origin) (end : End)
    → ((relationship : List ℕ) → length (connections_of flow place relationship) ≤ FAN_OUT_MAX) → (0 < count → connection < length flow.connections)
    → StandsInTurn at count from → IsEndOf relationships from end → GoesFew (length flow.connections) connection (goes_to (goes flow place processor end))
goes-few flow place connection processor relationships at count from (To relationship) few there turn ends = relationship_few flow place connection processor (relationship_at processor relationship) (few (relationship_at processor relationship))
goes-few flow place connection processor relationships at count from Back few there turn ends = record { below = there (taken_there at count from turn ends); few = omega arith }
goes-few flow place connection processor relationships at count from Removed few there turn ends = record { below = tt; few = omega arith }
