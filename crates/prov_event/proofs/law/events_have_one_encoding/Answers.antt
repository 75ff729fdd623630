use Rattle.flowfile_record.proofs.FieldLaws.{only_one}
use Rattle.prov_event.specs.EventReading.{event_at}
use Rattle.prov_event.specs.Encoding.{event, IsEvent}
use Rattle.prov_event.proofs.EventLaws.{event_is}
use Rattle.prov_event.proofs.law.events_have_one_encoding.Goals as goal

pub returns : goal.returns
returns c = only_one event_at event IsEvent event_is
