use Rattle.std.proofs.Common.{◌+◌, ◌∙◌, ap, sum_by, map}
use Rattle.std.specs.Ordering.{nat_cmp}
use Rattle.std.specs.Cmp.Lexicographic.{slice_cmp}
use Rattle.std.specs.FinMap.{put, insert}
use Rattle.flowfile_record.specs.Attributes.{pair_size, encoded_size}
use Rattle.flowfile_record.specs.HeldPairs.{key_and_value}
use Rattle.flowfile_record.specs.declared.attributes.TheConstants.{COUNT_SIZE}
use Rattle.flowfile_record.proofs.Held.{size_of_put}
use Rattle.flowfile_record.proofs.attributes.Attributes.size_with.Goals as goal

pub returns : goal.returns
returns c =
    c.size_with.ensures ∙ ap (λ pairs. sum_by pair_size (put (slice_cmp nat_cmp) c.args.key.now c.args.value.now (map key_and_value pairs)) + COUNT_SIZE) c.deref-2.ensures.value
    ∙ size_of_put _ _ _ _ c.self.invariant ∙ ap (λ these. encoded_size (insert these c.args.key.now c.args.value.now)) c.self.view_is
