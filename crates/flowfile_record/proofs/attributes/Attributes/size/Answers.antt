use Rattle.std.proofs.Common.{◌∙◌, ap, subst}
use Rattle.flowfile_record.specs.Attributes.{IsWithinLimits, encoded_size}
use Rattle.flowfile_record.proofs.Held.{encoded_size-map_of, limits}
use Rattle.flowfile_record.proofs.attributes.Attributes.size.Goals as goal

pub returns-clause-size : goal.returns-clause-size
returns-clause-size c = encoded_size-map_of _ _ c.self.invariant ∙ ap encoded_size c.self.view_is

pub returns-clause-limits : goal.returns-clause-limits
returns-clause-limits c = subst IsWithinLimits c.self.view_is (limits _ _ c.self.invariant)
