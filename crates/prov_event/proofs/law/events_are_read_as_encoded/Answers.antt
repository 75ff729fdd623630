use Rattle.flowfile_record.proofs.FieldLaws.{whole_takes, whole_again}
use Rattle.prov_event.specs.EventReading.{event_at}
use Rattle.prov_event.specs.Encoding.{event, IsEvent}
use Rattle.prov_event.proofs.EventLaws.{event_is}
use Rattle.prov_event.proofs.law.events_are_read_as_encoded.Goals as goal

pub returns-clause-field : goal.returns-clause-field
returns-clause-field c = event_is

pub returns-clause-found : goal.returns-clause-found
returns-clause-found c bytes value fits e = whole_takes event_at event IsEvent event_is bytes value fits e

pub returns-clause-only : goal.returns-clause-only
returns-clause-only c value is = whole_again event_at event IsEvent event_is value is
