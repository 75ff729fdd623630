use Rattle.std.proofs.Common.{◌==◌, ◌∙◌, ap}
use Rattle.std.specs.FinMap.{len}
use Rattle.flowfile_record.proofs.Held.{len-map_of}
use Rattle.flowfile_record.proofs.attributes.Attributes.is_empty.Goals as goal

pub returns : goal.returns
returns c =
    c.is_empty.ensures ∙ ap (λ n. n == 0) (c.self.inside.pairs.ok.0 ∙ len-map_of _ _ c.self.invariant ∙ ap len c.self.view_is)
