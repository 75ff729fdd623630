-- Which files a file came from, which came from it, and which events tell of them.
use Rattle.std.specs.Prelude.{◌≡◌, ◌⊎◌, ◌↔◌, ℕ, ◌<◌, ◌==◌, ◌||◌, Bool, List, Contains}
use Rattle.std.specs.List.{list_any, flat_map, AllPairs}
use Rattle.flowfile_record.specs.Kin.{pairs_named}
use Rattle.flowfile_record.specs.declared.event.Event.{Event}
use Rattle.machine_model.specs.Files.{is_number_among}

-- events name one file as the child of another
abbrev pub NamesParent : List Event → (child parent : ℕ) → Type 0
NamesParent events child parent = Contains (flat_map pairs_named events) (child, parent)

-- the least set that has the parents of the file and of its members
pub data IsAncestor (events : List Event) (file : ℕ) : ℕ → Type 0 where
  parent : (ancestor : ℕ) → NamesParent events file ancestor → IsAncestor events file ancestor
  further : (member ancestor : ℕ) → IsAncestor events file member → NamesParent events member ancestor →
      IsAncestor events file ancestor

-- the least set that has the children of the file and of its members
pub data IsDescendant (events : List Event) (file : ℕ) : ℕ → Type 0 where
  child : (descendant : ℕ) → NamesParent events descendant file → IsDescendant events file descendant
  further : (member descendant : ℕ) → IsDescendant events file member → NamesParent events descendant member →
      IsDescendant events file descendant

-- the event is of the file, of an ancestor or of a descendant
abbrev pub TellsOf : List Event → (file : ℕ) → Event → Type 0
TellsOf events file event =
    (event.file ≡ file) ⊎ (IsAncestor events file event.file ⊎ IsDescendant events file event.file)

-- an event with this number tells of the file
pub record HasTold (events : List Event) (file number : ℕ) : Type 0 where
  pub event : Event
  pub there : Contains events event
  pub is : event.number ≡ number
  pub tells : TellsOf events file event

-- a list has just the numbers of which this holds, ascending
pub record Lists (Holds : ℕ → Type 0) (numbers : List ℕ) : Type 0 where
  pub ascend : AllPairs (λ earlier later. earlier < later) numbers
  pub just : (number : ℕ) → Contains numbers number ↔ Holds number

-- by their numbers: ancestors, descendants, and the events that tell of the file
pub record Lineage : Type 0 where
  pub ancestors : List ℕ
  pub descendants : List ℕ
  pub events : List ℕ

-- the lineage of a file, as the events tell it
pub record IsLineage (events : List Event) (file : ℕ) (lineage : Lineage) : Type 0 where
  pub ancestors : Lists (IsAncestor events file) lineage.ancestors
  pub descendants : Lists (IsDescendant events file) lineage.descendants
  pub told : Lists (HasTold events file) lineage.events

-- whether an event names a file: as that which it is of, as a parent or as a child
abbrev pub names : ℕ → Event → Bool
names file event = (event.file == file) || is_number_among event.parents file || is_number_among event.children file

-- whether any event names a file; where none does, it has no lineage to show
abbrev pub is_named : List Event → ℕ → Bool
is_named events file = list_any (names file) events
