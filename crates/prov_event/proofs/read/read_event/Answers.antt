use Rattle.std.proofs.Common.{arith}
use Rattle.flowfile_record.proofs.Wholes.{is_found, is_only}
use Rattle.prov_event.specs.EventReading.{event_at}
use Rattle.prov_event.specs.Encoding.{event, IsEvent}
use Rattle.prov_event.proofs.EventLaws.{event_is}
use Rattle.prov_event.proofs.read.read_event.Goals as goal

pub returns-clause-found : goal.returns-clause-found
returns-clause-found c = is_found event_at event IsEvent event_is c.args.bytes.now c.read_answer.result (λ i. omega (arith, c.type_inv.bytes i)) c.read_answer.ensures.exact

pub returns-clause-only : goal.returns-clause-only
returns-clause-only c = is_only event_at event IsEvent event_is c.args.bytes.now c.read_answer.result c.read_answer.ensures.exact
