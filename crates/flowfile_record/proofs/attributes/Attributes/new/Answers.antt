use Rattle.flowfile_record.proofs.Held.{map_of_none}
use Rattle.flowfile_record.proofs.attributes.Attributes.new.Goals as goal

pub returns : goal.returns
returns c = map_of_none _ c.new.ensures.items
