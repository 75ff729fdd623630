-- That an engine may go from thread to thread.
use denote.Ref.{NamedLft}
use denote.Param.Send.{IsSend, sendable}
use Rattle.std.proofs.Crossing.{crosses}
use Rattle.flowfile_record.proofs.name.Name.TheSendSync as name
use Rattle.machine_model.proofs.Crosses.{flow_sync}
use Rattle.machine_model.proofs.journal.Entry.TheSendSync as entry
use Rattle.store_core.proofs.store.Store.TheSendSync as store
use Rattle.engine_queues.proofs.queues.Queues.TheSendSync as queues
use Rattle.engine_queues.proofs.listing.Source.TheSendSync as source
use Rattle.engine_queues.proofs.linked.Links.TheSendSync as links
use Rattle.engine_queues.specs.contracts.linked.LinkedFlow as LinkedFlow
use Rattle.engine_queues.specs.contracts.listing.Listing as Listing
use Rattle.engine_steps.proofs.flight.InFlight.TheSendSync as flight
use Rattle.engine_steps.specs.contracts.engine.Engine as Engine

linked_send : (f : NamedLft) → IsSend (LinkedFlow.the_row f)
linked_send f = search (sendable, crosses, flow_sync, links.the_send) depth 60 fits 50000

listing_send : (f : NamedLft) → IsSend (Listing.the_row f)
listing_send f = search (sendable, crosses, linked_send, source.the_send, name.the_send) depth 60 fits 2000000

pub engine_send : (f : NamedLft) → IsSend (Engine.the_row f)
engine_send f = search (sendable, crosses, flow_sync, store.the_send, queues.the_send, listing_send, entry.the_send, flight.the_send) depth 60 fits 2000000
