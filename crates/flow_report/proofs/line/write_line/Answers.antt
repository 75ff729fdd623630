use Rattle.flow_report.proofs.line.write_line.Goals as goal

pub returns-in-Connection-clause-written : goal.returns-in-Connection-clause-written
returns-in-Connection-clause-written g c = λ tells. rw c.in-Connection.is (c.write_parts.ensures.written tells)

pub returns-in-Sound-clause-written : goal.returns-in-Sound-clause-written
returns-in-Sound-clause-written g c = λ tells. rw c.in-Sound.is (c.write_parts-in-Sound.ensures.written tells)

pub returns-in-Usage-clause-written : goal.returns-in-Usage-clause-written
returns-in-Usage-clause-written g c = λ tells. rw c.in-Usage.is (c.write_parts-in-Usage.ensures.written tells)

pub returns-in-InboxFault-clause-written : goal.returns-in-InboxFault-clause-written
returns-in-InboxFault-clause-written g c = λ tells. rw c.in-InboxFault.is (c.write_parts-in-InboxFault.ensures.written tells)

pub returns-in-OutboxFault-clause-written : goal.returns-in-OutboxFault-clause-written
returns-in-OutboxFault-clause-written g c = λ tells. rw c.in-OutboxFault.is (c.write_parts-in-OutboxFault.ensures.written tells)

pub returns-in-SourceFault-clause-written : goal.returns-in-SourceFault-clause-written
returns-in-SourceFault-clause-written g c = λ tells. rw c.in-SourceFault.is (c.write_parts-in-SourceFault.ensures.written tells)
