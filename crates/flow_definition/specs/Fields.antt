-- The fields of a flow's text: for each object its fields in their order, and of each field its name, what it may hold,
-- the number that a missing one stands for, and whether it may be missing.
use Rattle.std.specs.Prelude.{ℕ, Bool, true, false, List, [], ◌∷◌, codes}
use Rattle.machine_model.specs.declared.limits.TheConstants.{PENALTY_MAX, QUEUE_LIMIT_MAX, SWAP_MAX, SWAP_MIN, TASKS_MAX}
use Rattle.flow_definition.specs.declared.field.Field.{Field}
use Rattle.flow_definition.specs.declared.field.Field.TheVariants.{Processors, Connections, Id, TypeName, Tasks, Penalty, Properties, Terminated, From, To, Relationships, Prioritizers, Expiration, Objects, Bytes, Swap}
use Rattle.flow_definition.specs.declared.field.Level.{Level}
use Rattle.flow_definition.specs.declared.field.Level.TheVariants as level
use Rattle.flow_definition.specs.declared.field.Shape.{Shape}
use Rattle.flow_definition.specs.declared.field.Shape.TheVariants as shape

abbrev pub fields_of : Level → List Field
fields_of level.Top = Processors ∷ Connections ∷ []
fields_of level.Processor = Id ∷ TypeName ∷ Tasks ∷ Penalty ∷ Properties ∷ Terminated ∷ []
fields_of level.Connection =
    Id ∷ From ∷ To ∷ Relationships ∷ Prioritizers ∷ Expiration ∷ Objects ∷ Bytes ∷ Swap ∷ []

abbrev pub field_name : Field → List ℕ
field_name Processors = codes "processors"
field_name Connections = codes "connections"
field_name Id = codes "id"
field_name TypeName = codes "type"
field_name Tasks = codes "tasks"
field_name Penalty = codes "penalty"
field_name Properties = codes "properties"
field_name Terminated = codes "terminated"
field_name From = codes "from"
field_name To = codes "to"
field_name Relationships = codes "relationships"
field_name Prioritizers = codes "prioritizers"
field_name Expiration = codes "expiration"
field_name Objects = codes "objects"
field_name Bytes = codes "bytes"
field_name Swap = codes "swap"

-- a number: the least, the most, and what a missing one stands for
abbrev pub shape_of : Field → Shape
shape_of Processors = shape.Objects
shape_of Connections = shape.Objects
shape_of Id = shape.Id
shape_of TypeName = shape.Text
shape_of Tasks = shape.Number 1 TASKS_MAX 1
shape_of Penalty = shape.Number 0 PENALTY_MAX 30_000
shape_of Properties = shape.Properties
shape_of Terminated = shape.Names
shape_of From = shape.Text
shape_of To = shape.Text
shape_of Relationships = shape.SomeNames
shape_of Prioritizers = shape.Prioritizers
shape_of Expiration = shape.Number 0 QUEUE_LIMIT_MAX 0
shape_of Objects = shape.Number 0 QUEUE_LIMIT_MAX 10_000
shape_of Bytes = shape.Number 0 QUEUE_LIMIT_MAX 1_073_741_824
shape_of Swap = shape.Number SWAP_MIN SWAP_MAX 20_000

abbrev pub is_required : Field → Bool
is_required Processors = true
is_required Connections = true
is_required Id = true
is_required TypeName = true
is_required From = true
is_required To = true
is_required Relationships = true
is_required Tasks = false
is_required Penalty = false
is_required Properties = false
is_required Terminated = false
is_required Prioritizers = false
is_required Expiration = false
is_required Objects = false
is_required Bytes = false
is_required Swap = false
