use Rattle.record_codec.proofs.Logs.{is_first, first_is_told}
use Rattle.record_codec.proofs.log.the_first_damage_is_told.Goals as goal

pub returns : goal.returns
returns c = record { told = is_first; only = first_is_told }
