-- Which flow files come from which, as events tell it.
use Rattle.std.specs.Prelude.{ℕ, List, [], map}
use Rattle.std.specs.List.{flat_map}
use Rattle.flowfile_record.specs.declared.event.Event.{Event}
use Rattle.flowfile_record.specs.declared.event.EventKind.{EventKind}
use Rattle.flowfile_record.specs.declared.event.EventKind.TheVariants.{Fork, Join, Clone}

-- each child with each parent
abbrev pub pairs_of : (parents children : List ℕ) → List (ℕ × ℕ)
pairs_of parents children = flat_map (λ child. map (λ parent. (child, parent)) parents) children

-- what an event of this kind names: a FORK, a JOIN and a CLONE name children and parents, other kinds none
abbrev pub pairs_by_kind : EventKind → (parents children : List ℕ) → List (ℕ × ℕ)
pairs_by_kind Fork parents children = pairs_of parents children
pairs_by_kind Join parents children = pairs_of parents children
pairs_by_kind Clone parents children = pairs_of parents children
pairs_by_kind _ parents children = []

-- the pairs (child, parent) that an event names
abbrev pub pairs_named : Event → List (ℕ × ℕ)
pairs_named event = pairs_by_kind event.kind event.parents event.children

-- these with the number of the event that names them: the triples (child, parent, event)
abbrev pub kin_of : Event → List (ℕ × ℕ × ℕ)
kin_of event = map (λ pair. (pair.0, pair.1, event.number)) (pairs_named event)

abbrev pub kin_of_all : List Event → List (ℕ × ℕ × ℕ)
kin_of_all events = flat_map kin_of events
