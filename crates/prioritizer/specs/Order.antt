-- In which order files go.
use Rattle.std.specs.Prelude.{◌≡◌, ℕ, List, [], ◌∷◌, codes}
use Rattle.std.specs.declared.cmp.Ordering.{Ordering}
use Rattle.std.specs.declared.cmp.Ordering.TheVariants.{Less}
use Rattle.std.specs.Ordering.{nat_cmp, on, flip_args, then_cmp}
use Rattle.prioritizer.specs.declared.prioritizer.Prioritizer.{Prioritizer}
use Rattle.prioritizer.specs.declared.prioritizer.Prioritizer.TheVariants.{FirstInFirstOut, NewestFlowFileFirst, OldestFlowFileFirst, PriorityAttribute}
use Rattle.prioritizer.specs.Standing.{Standing}
use Rattle.prioritizer.specs.Priority.{priority_cmp}

-- its name in NiFi
abbrev pub name_of : Prioritizer → List ℕ
name_of FirstInFirstOut = codes "FirstInFirstOut"
name_of NewestFlowFileFirst = codes "NewestFlowFileFirst"
name_of OldestFlowFileFirst = codes "OldestFlowFileFirst"
name_of PriorityAttribute = codes "PriorityAttribute"

-- the lower arrival first; the later entry first; the earlier entry first; the lower priority first
abbrev pub prioritizer_cmp : Prioritizer → Standing → Standing → Ordering
prioritizer_cmp FirstInFirstOut = on (λ (file : Standing). file.arrival) nat_cmp
prioritizer_cmp NewestFlowFileFirst = flip_args (on (λ (file : Standing). file.entered) nat_cmp)
prioritizer_cmp OldestFlowFileFirst = on (λ (file : Standing). file.entered) nat_cmp
prioritizer_cmp PriorityAttribute = on (λ (file : Standing). file.priority) priority_cmp

-- the first prioritizer that tells two files apart decides, and else the lower arrival goes first
abbrev pub chain_cmp : List Prioritizer → Standing → Standing → Ordering
chain_cmp [] = on (λ (file : Standing). file.arrival) nat_cmp
chain_cmp (prioritizer ∷ rest) = then_cmp (prioritizer_cmp prioritizer) (chain_cmp rest)

-- an empty list stands for the default
abbrev pub prioritizers_of : List Prioritizer → List Prioritizer
prioritizers_of [] = OldestFlowFileFirst ∷ []
prioritizers_of (prioritizer ∷ rest) = prioritizer ∷ rest

-- `Less` where the first file goes first
unfoldable pub order_cmp : List Prioritizer → Standing → Standing → Ordering
order_cmp list = chain_cmp (prioritizers_of list)

abbrev pub GoesBefore : List Prioritizer → Standing → Standing → Type 0
GoesBefore list a b = order_cmp list a b ≡ Less
