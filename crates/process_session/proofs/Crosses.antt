-- That a session and the files that come into it and out of it may go to another thread and be shared by threads.
use denote.Param.Send.{IsSend, IsSync, sendable}
use Rattle.std.proofs.Crossing.{crosses}
use Rattle.process_session.specs.contracts.file.Taken as Taken
use Rattle.process_session.specs.contracts.file.Source as Source
use Rattle.process_session.specs.contracts.session.Session as Session

pub taken_sync : IsSync Taken.the_row
taken_sync = search (sendable, crosses) depth 60 fits 50000

pub taken_send : IsSend Taken.the_row
taken_send = search (sendable, crosses) depth 60 fits 50000

pub source_sync : IsSync Source.the_row
source_sync = search (sendable, crosses) depth 60 fits 50000

pub source_send : IsSend Source.the_row
source_send = search (sendable, crosses) depth 60 fits 50000

pub session_sync : IsSync Session.the_row
session_sync = search (sendable, crosses) depth 60 fits 50000

pub session_send : IsSend Session.the_row
session_send = search (sendable, crosses) depth 60 fits 50000
