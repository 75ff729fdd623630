-- Tried: ancestors and descendants over a clone and a join.
use Rattle.std.specs.Prelude.{◌≡◌, ℕ, Bool, List, [], ◌∷◌, codes}
use Rattle.flowfile_record.specs.declared.event.Event.{Event}
use Rattle.flowfile_record.specs.declared.event.EventKind.TheVariants as kind
use Rattle.machine_model.specs.Lineage.{IsAncestor, IsDescendant, TellsOf, names, is_named}
use Rattle.machine_examples.specs.Small.{hi, told}

-- file 1 is received, 2 is a clone of it, 3 is received, 4 is joined of 2 and 3, 5 is received
abbrev pub cloned : Event
cloned = record (told 3 1000 kind.Clone (codes "dup") 1 [] hi) { parents = 1 ∷ []; children = 2 ∷ [] }

abbrev pub joined : Event
joined = record (told 4 1000 kind.Join (codes "merge") 4 [] hi) { parents = 2 ∷ 3 ∷ []; children = 4 ∷ [] }

abbrev pub stranger : Event
stranger = told 5 1000 kind.Receive (codes "get") 5 [] hi

abbrev pub events : List Event
events =
    told 1 1000 kind.Receive (codes "get") 1 [] hi ∷ told 2 1000 kind.Receive (codes "get") 3 [] hi ∷ cloned ∷ joined
    ∷ stranger ∷ []

abbrev pub IsAncestorOf : (file ancestor : ℕ) → Type 0
IsAncestorOf file ancestor = IsAncestor events file ancestor

abbrev pub IsNoAncestorOf : (file other : ℕ) → Type 0
IsNoAncestorOf file other = IsAncestor events file other → ⊥

abbrev pub IsDescendantOf : (file descendant : ℕ) → Type 0
IsDescendantOf file descendant = IsDescendant events file descendant

abbrev pub IsNoDescendantOf : (file other : ℕ) → Type 0
IsNoDescendantOf file other = IsDescendant events file other → ⊥

-- an event tells of a file's family, or doesn't
abbrev pub Tells : (file : ℕ) → Event → Type 0
Tells file event = TellsOf events file event

abbrev pub TellsNot : (file : ℕ) → Event → Type 0
TellsNot file event = TellsOf events file event → ⊥

-- whether an event, and whether any, names a file
abbrev pub Names : Event → (file : ℕ) → Bool → Type 0
Names event file answer = names file event ≡ answer

abbrev pub AnyNames : (file : ℕ) → Bool → Type 0
AnyNames file answer = is_named events file ≡ answer
