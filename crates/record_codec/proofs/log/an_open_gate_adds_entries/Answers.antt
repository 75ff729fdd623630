use Rattle.record_codec.proofs.Logs.{entries_more}
use Rattle.record_codec.proofs.log.an_open_gate_adds_entries.Goals as goal

pub returns : goal.returns
returns c = entries_more
