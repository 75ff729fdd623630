-- What goes into queues, as the calls inside make it: the machine's newcomers, over references in place of bytes.
use Rattle.std.specs.Prelude.{ℕ, ◌+◌, Bool, true, false, Option, Some, None, List, [], ◌∷◌, ◌++◌, length, map, slice_index}
use Rattle.std.specs.List.{flat_map}
use Rattle.flowfile_record.specs.declared.flow_file.FlowFile.{FlowFile}
use Rattle.flowfile_record.specs.declared.stored.Fresh.{Fresh}
use Rattle.flowfile_record.specs.declared.stored.Placed.{Placed}
use Rattle.flowfile_record.specs.declared.worked.Origin.{Origin}
use Rattle.flowfile_record.specs.declared.worked.Origin.TheVariants.{Taken}
use Rattle.settlement.specs.Contents.{fresh_in, shared_in}
use Rattle.settlement.specs.declared.file.EndedFile.{EndedFile}
use Rattle.settlement.specs.declared.file.Goes.{Goes}
use Rattle.settlement.specs.declared.file.Goes.TheVariants.{Queues, Returns}
use Rattle.settlement.specs.declared.placing.Placer.{Placer}

-- ---- newcomers, each with its connection and its number

abbrev pub EndedNewcomer : Type 0
EndedNewcomer = ℕ × ℕ × EndedFile

abbrev pub first_newcomer : EndedFile → Goes → List EndedNewcomer
first_newcomer file (Queues first others) = (first, file.number, file) ∷ []
first_newcomer file _ = []

-- the first connection, where there is one
abbrev pub first_connection : Goes → Option ℕ
first_connection (Queues first others) = Some first
first_connection _ = None

abbrev pub is_returning : Goes → Bool
is_returning Returns = true
is_returning _ = false

abbrev pub firsts : List EndedFile → List EndedNewcomer
firsts files = flat_map (λ file. first_newcomer file file.goes) files

abbrev pub further : Goes → List ℕ
further (Queues first others) = others
further _ = []

-- the clones that files get, by place, then by connection
abbrev pub wanted : List EndedFile → List (EndedFile × ℕ)
wanted files = flat_map (λ file. map (λ connection. (file, connection)) (further file.goes)) files

-- ---- what is placed

-- where files come from, and the next arrival
pub record PlacingFrom : Type 0 where
  pub connection : ℕ
  pub taken : List FlowFile
  pub next_arrival : ℕ

abbrev pub placing_of : Placer → PlacingFrom
placing_of placer = record {
  connection = placer.connection;
  taken = placer.taken.now;
  next_arrival = placer.next_arrival;
}

-- a newcomer whose content comes from there
abbrev pub placed_as : Fresh → (arrival : ℕ) → EndedNewcomer → Placed
placed_as fresh arrival (connection, number, file) = record {
  connection = connection;
  file = record {
    number = number;
    attributes = file.worked.attributes;
    content = file.content;
    entered = file.entered;
    penalty_end = file.penalty_end;
    arrival = arrival;
  };
  fresh = fresh;
}

abbrev pub placed_at : (arrival : ℕ) → EndedNewcomer → Placed
placed_at arrival (connection, number, file) =
    placed_as (fresh_in file.worked.body) arrival (connection, number, file)

-- arrivals are given in turn
abbrev pub placed_from : (arrival : ℕ) → List EndedNewcomer → List Placed
placed_from arrival [] = []
placed_from arrival (newcomer ∷ rest) = placed_at arrival newcomer ∷ placed_from (arrival + 1) rest

-- a taken file keeps its arrival
abbrev pub taken_arrival : List FlowFile → Origin → ℕ
taken_arrival taken (Taken place) = slice_index (map (λ file. file.arrival) taken) place
taken_arrival taken _ = 0

abbrev pub returning : PlacingFrom → EndedFile → Goes → List Placed
returning placing file Returns =
    placed_at (taken_arrival placing.taken file.worked.origin) (placing.connection, file.number, file) ∷ []
returning placing file _ = []

abbrev pub returned : PlacingFrom → List EndedFile → List Placed
returned placing files = flat_map (λ file. returning placing file file.goes) files

-- the clones of a file that is placed here, one for each of these connections, with numbers and arrivals in turn
abbrev pub clones_of : (place number arrival : ℕ) → EndedFile → List ℕ → List Placed
clones_of place number arrival file [] = []
clones_of place number arrival file (connection ∷ connections) =
    placed_as (shared_in place file.worked.body) arrival (connection, number, file)
    ∷ clones_of place (number + 1) (arrival + 1) file connections

-- the clones of all files, of which the first one that goes on is placed here
abbrev pub cloned_from : (place number arrival : ℕ) → List EndedFile → List Placed
cloned_from place number arrival [] = []
cloned_from place number arrival (file ∷ files) =
    let count = length (further file.goes) in
    clones_of place number arrival file (further file.goes)
    ++ cloned_from (place + length (first_newcomer file file.goes)) (number + count) (arrival + count) files

-- the files that go on, then the clones; those that return stand before them
abbrev pub arrived : PlacingFrom → (first_clone : ℕ) → List EndedFile → List Placed
arrived placing first_clone files =
    placed_from placing.next_arrival (firsts files)
    ++ cloned_from (length (returned placing files)) first_clone (placing.next_arrival + length (firsts files)) files
