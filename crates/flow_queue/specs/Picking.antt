-- What is picked of files that stand in their order.
use Rattle.std.specs.Prelude.{◌≡◌, ℕ, ◌&&◌, ◌||◌, nat_lt, nat_le, Bool, List, [], map, filter, Option, Some, None, Result, Ok, Err, is_some, if◌then◌else◌}
use Rattle.std.specs.Option.{option_map, unwrap_or}
use Rattle.machine_model.specs.declared.flow.QueueLimits.{QueueLimits}
use Rattle.machine_model.specs.declared.kind.TakeRule.{TakeRule}
use Rattle.machine_model.specs.Due.{numbers_of}
use Rattle.machine_model.specs.Taking.{picks}
use Rattle.machine_model.specs.View.{FileView, is_expired, at_rest}
use Rattle.flow_queue.specs.declared.held.Held.{Held}
use Rattle.flow_queue.specs.Queue.{held_view}
use denote.Ref.{Bor}

abbrev pub views_at : List (Bor Held) → List FileView
views_at files = map (λ held. held_view held.now) files

-- the numbers of the files that a rule picks
abbrev pub numbers_picked : TakeRule → List FileView → Option (List ℕ)
numbers_picked rule files = option_map numbers_of (picks rule files)

-- what a call answers, and leaves in a list that was empty, that picks the files of these numbers or none
abbrev pub Picks : {E : Type 0} → Option (List ℕ) → Result Bool E → List ℕ → Type 0
Picks found (Ok answer) list = (answer ≡ is_some found) × (list ≡ unwrap_or found [])
Picks found (Err error) list = list ≡ []

-- the same where there are files
abbrev pub PicksAll : {E : Type 0} → List ℕ → Result (Unit {0}) E → List ℕ → Type 0
PicksAll numbers (Ok done) list = list ≡ numbers
PicksAll numbers (Err error) list = list ≡ []

-- so many files, if they are at least `min`, or the next one has no room
abbrev pub size_by : (size min : ℕ) → (is_filled : Bool) → Option ℕ
size_by size min is_filled = if nat_lt 0 size && (nat_le min size || is_filled) then Some size else None

-- the numbers of the files that expired and that no session works on, in the order of the files
abbrev pub expiring : QueueLimits → ℕ → List FileView → List ℕ
expiring limits moment files = numbers_of (filter (is_expired limits.expiration moment) (at_rest files))
