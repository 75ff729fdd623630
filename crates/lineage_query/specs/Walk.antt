-- A walk from file to file, to parents or to children.
use Rattle.std.specs.Prelude.{ℕ, ◌==◌, List, [], ◌∷◌, ◌++◌, if◌then◌else◌}
use Rattle.std.specs.List.{list_any, flat_map}
use Rattle.flowfile_record.specs.declared.event.Event.{Event}
use Rattle.flowfile_record.specs.declared.event.EventKind.{EventKind}
use Rattle.flowfile_record.specs.declared.event.EventKind.TheVariants.{Fork, Join, Clone}
use Rattle.machine_model.specs.Lineage.{NamesParent}
use Rattle.lineage_query.specs.declared.kin.Way.{Way}
use Rattle.lineage_query.specs.declared.kin.Way.TheVariants.{Up, Down}

-- one step of this way leads from a file to another
abbrev pub Leads : Way → List Event → (from to : ℕ) → Type 0
Leads Up events from to = NamesParent events from to
Leads Down events from to = NamesParent events to from

-- some steps lead to a file
pub data Reaches (way : Way) (events : List Event) (file : ℕ) : ℕ → Type 0 where
  first : (other : ℕ) → Leads way events file other → Reaches way events file other
  further : (member other : ℕ) → Reaches way events file member → Leads way events member other →
      Reaches way events file other

-- what an event of this kind names on the far side, where it names the file on the near one
abbrev pub far_of : EventKind → ℕ → (near far : List ℕ) → List ℕ
far_of Fork file near far = if list_any (λ n. n == file) near then far else []
far_of Join file near far = if list_any (λ n. n == file) near then far else []
far_of Clone file near far = if list_any (λ n. n == file) near then far else []
far_of _ file near far = []

-- the parents, or the children, of a file that an event names
abbrev pub kin_towards : Way → ℕ → Event → List ℕ
kin_towards Up file event = far_of event.kind file event.children event.parents
kin_towards Down file event = far_of event.kind file event.parents event.children

-- .. that some events name
abbrev pub kin_in : Way → List Event → ℕ → List ℕ
kin_in way events file = flat_map (kin_towards way file) events

-- files that were found, and one more unless it is among them
abbrev pub with_new : List ℕ → ℕ → List ℕ
with_new found file = if list_any (λ f. file == f) found then found else found ++ file ∷ []

abbrev pub with_all : (found files : List ℕ) → List ℕ
with_all found [] = found
with_all found (file ∷ files) = with_all (with_new found file) files
