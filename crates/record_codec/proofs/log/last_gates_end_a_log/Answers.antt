use Rattle.record_codec.proofs.Logs.{ends_missing, ends_last, ends_shut}
use Rattle.record_codec.proofs.log.last_gates_end_a_log.Goals as goal

pub returns : goal.returns
returns c = record { missing = ends_missing; last_byte = ends_last; not_open = ends_shut }
