-- Values without where their contents stand.
use Rattle.std.specs.Prelude.{map}
use Rattle.flowfile_record.specs.declared.flow_file.FlowFile.{FlowFile}
use Rattle.flowfile_record.specs.declared.stored.ActiveFile.{ActiveFile}
use Rattle.record_codec.specs.ActiveFile.{active}
use Rattle.record_codec.specs.declared.entry.LogEntry.{LogEntry}
use Rattle.record_codec.specs.declared.entry.LogEntry.TheVariants.{Begin, Session, Expire, SwapOut, SwapIn, Age}

-- the same flow file, its content at offset 0 of slot 0
abbrev pub placeless : FlowFile → FlowFile
placeless f = record {
  number = f.number;
  attributes = f.attributes;
  content = record { slot = 0; offset = 0; size = f.content.size; digest = f.content.digest };
  entered = f.entered;
  penalty_end = f.penalty_end;
  arrival = f.arrival;
}

abbrev pub placeless_active : ActiveFile → ActiveFile
placeless_active a = active a.connection (placeless a.file)

-- the same entry, with each content there
abbrev pub placeless_entry : LogEntry → LogEntry
placeless_entry (Begin version log) = Begin version log
placeless_entry (Session s) = Session (record {
  processor = s.processor;
  moment = s.moment;
  gone = s.gone;
  placed = map placeless_active s.placed;
  next_number = s.next_number;
  next_arrival = s.next_arrival;
  last_event = s.last_event;
  generator = s.generator;
})
placeless_entry (Expire e) = Expire e
placeless_entry (SwapOut s) = SwapOut s
placeless_entry (SwapIn connection batch) = SwapIn connection batch
placeless_entry (Age line) = Age line
