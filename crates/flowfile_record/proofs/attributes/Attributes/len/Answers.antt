use Rattle.std.proofs.Common.{◌∙◌, ap}
use Rattle.std.specs.FinMap.{len}
use Rattle.flowfile_record.proofs.Held.{len-map_of}
use Rattle.flowfile_record.proofs.attributes.Attributes.len.Goals as goal

pub returns : goal.returns
returns c = c.len.ensures ∙ c.self.inside.pairs.ok.0 ∙ len-map_of _ _ c.self.invariant ∙ ap len c.self.view_is
