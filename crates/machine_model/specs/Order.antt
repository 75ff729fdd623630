-- In which order the files of a queue go.
use Rattle.std.specs.Prelude.{ℕ, Bool, not, ◌&&◌, List, [], ◌∷◌, filter, Option, slice_get, codes, if◌then◌else◌}
use Rattle.std.specs.Ordering.{is_lt}
use Rattle.std.specs.FinMap.{get}
use Rattle.prioritizer.specs.Standing.{Standing}
use Rattle.prioritizer.specs.Order.{order_cmp}
use Rattle.prioritizer.specs.declared.prioritizer.Prioritizer.{Prioritizer}
use Rattle.machine_model.specs.declared.flow.QueueLimits.{QueueLimits}
use Rattle.machine_model.specs.View.{FileView, is_penalised, is_expired}

-- what an order looks at in a file
abbrev pub standing_of : FileView → Standing
standing_of file =
    record { priority = get file.attributes (codes "priority"); entered = file.entered; arrival = file.arrival }

-- one file goes before another
abbrev pub goes_before : List Prioritizer → FileView → FileView → Bool
goes_before order file other = is_lt (order_cmp order (standing_of file) (standing_of other))

-- a file among others that are in order: before the first that it goes before
abbrev pub put_in_order : List Prioritizer → FileView → List FileView → List FileView
put_in_order order file [] = file ∷ []
put_in_order order file (other ∷ files) =
    if goes_before order file other then file ∷ other ∷ files else other ∷ put_in_order order file files

abbrev pub in_order : List Prioritizer → List FileView → List FileView
in_order order [] = []
in_order order (file ∷ files) = put_in_order order file (in_order order files)

-- of the active files of a queue: one that no session works on, neither penalised nor expired
abbrev pub is_eligible : QueueLimits → ℕ → FileView → Bool
is_eligible limits moment file =
    not file.in_flight && not (is_penalised moment file) && not (is_expired limits.expiration moment file)

-- of the active files of a queue those that a session may take, in the order in which they go
abbrev pub eligible_files : List Prioritizer → QueueLimits → ℕ → List FileView → List FileView
eligible_files order limits moment files = in_order order (filter (is_eligible limits moment) files)

-- the eligible file that no other goes before
abbrev pub best : List Prioritizer → QueueLimits → ℕ → List FileView → Option FileView
best order limits moment files = slice_get (eligible_files order limits moment files) 0
