-- That what workers share may be shared by threads, and what they move may go to another.
use denote.RattleType.{RattleType}
use denote.Param.Send.{IsSend, IsSync, sendable}
use Rattle.std.proofs.Crossing.{crosses}
use Rattle.flowfile_record.specs.contracts.text.Text as Text
use Rattle.flowfile_record.specs.contracts.name.Name as Name
use Rattle.flowfile_record.specs.contracts.attributes.Attributes as Attributes
use Rattle.flowfile_record.specs.contracts.flow_file.FlowFile as FlowFile
use Rattle.flowfile_record.specs.contracts.event.Event as Event
use Rattle.flowfile_record.specs.contracts.worked.Outcome as Outcome
use Rattle.flowfile_record.specs.declared.numbered.Numbered.{Ghosts}
use Rattle.flowfile_record.specs.contracts.numbered_list.NumberedList as NumberedList
use Rattle.flowfile_record.specs.contracts.stored.Stored as Stored

pub text_sync : IsSync Text.the_row
text_sync = search (sendable, crosses) depth 60 fits 50000

pub text_send : IsSend Text.the_row
text_send = search (sendable, crosses) depth 60 fits 50000

pub name_sync : IsSync Name.the_row
name_sync = search (sendable, crosses) depth 60 fits 50000

pub name_send : IsSend Name.the_row
name_send = search (sendable, crosses) depth 60 fits 50000

pub attributes_sync : IsSync Attributes.the_row
attributes_sync = search (sendable, crosses) depth 60 fits 50000

pub attributes_send : IsSend Attributes.the_row
attributes_send = search (sendable, crosses) depth 60 fits 50000

pub flow_file_sync : IsSync FlowFile.the_row
flow_file_sync = search (sendable, crosses, attributes_sync) depth 60 fits 50000

pub flow_file_send : IsSend FlowFile.the_row
flow_file_send = search (sendable, crosses, attributes_send) depth 60 fits 50000

pub event_sync : IsSync Event.the_row
event_sync = search (sendable, crosses, text_sync) depth 60 fits 50000

pub event_send : IsSend Event.the_row
event_send = search (sendable, crosses, text_send) depth 60 fits 50000

pub outcome_sync : IsSync Outcome.the_row
outcome_sync = search (sendable, crosses, attributes_sync, name_sync) depth 60 fits 50000

pub outcome_send : IsSend Outcome.the_row
outcome_send = search (sendable, crosses, attributes_send, name_send) depth 60 fits 50000

pub stored_sync : IsSync Stored.the_row
stored_sync = search (sendable, crosses, text_sync) depth 60 fits 50000

pub stored_send : IsSend Stored.the_row
stored_send = search (sendable, crosses, text_send) depth 60 fits 50000

pub numbered_list_sync : (T : RattleType) (own : Ghosts T.Denot) → IsSync T → IsSync (NumberedList.the_row T own)
numbered_list_sync T own sync = search (sendable, crosses) depth 60 fits 50000

pub numbered_list_send : (T : RattleType) (own : Ghosts T.Denot) → IsSend T → IsSend (NumberedList.the_row T own)
numbered_list_send T own send = search (sendable, crosses) depth 60 fits 50000
