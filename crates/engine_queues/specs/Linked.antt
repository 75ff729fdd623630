-- Which connections of a flow end at a processor, and which leave it.
use Rattle.std.specs.Prelude.{◌≡◌, ℕ, ◌==◌, Bool, List, length, Some, slice_get}
use Rattle.machine_model.specs.declared.flow.Connection.{Connection}
use Rattle.machine_model.specs.declared.flow.Flow.{Flow}
use Rattle.machine_model.specs.RouteOnAttribute.{places_where}
use Rattle.engine_queues.specs.declared.linked.Links.{Links}

abbrev pub ends_at : (processor : ℕ) → Connection → Bool
ends_at processor connection = connection.target == processor

abbrev pub starts_at : (processor : ℕ) → Connection → Bool
starts_at processor connection = connection.source == processor

-- the places of all that end at a processor, and of all that leave it
pub record IsLinked (connections : List Connection) (processor : ℕ) (links : Links) : Type 0 where
  pub incoming : links.incoming.items ≡ places_where (ends_at processor) connections
  pub outgoing : links.outgoing.items ≡ places_where (starts_at processor) connections

-- each processor of the flow has its own
pub record AreLinksOf (flow : Flow) (links : List Links) : Type 0 where
  pub count : length links ≡ length flow.processors
  pub each : (processor : ℕ) (its : Links) → slice_get links processor ≡ Some its
      → IsLinked flow.connections processor its
