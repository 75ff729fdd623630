use Rattle.std.proofs.Common.{◌∙◌, ap, sym, map}
use Rattle.std.specs.FinMap.{entries}
use Rattle.flowfile_record.specs.Outcome.{same_pairs, same_attributes}
use Rattle.flowfile_record.specs.HeldPairs.{key_and_value, map_of}
use Rattle.flowfile_record.proofs.Held.{entries-map_of}
use Rattle.flowfile_record.proofs.Same.{pointwise-same_pairs, same_attributes-decides}
use Rattle.flowfile_record.proofs.attributes.Attributes.equals.Goals as goal

pub returns-clause-same : goal.returns-clause-same
returns-clause-same c =
    let these = c.self.inside.pairs.items in
    let those = c.other.inside.pairs.items in
    c.eq.ensures ∙ pointwise-same_pairs these those ∙ ap (λ es. same_pairs es (map key_and_value those)) (sym (entries-map_of _ _ c.self.invariant))
    ∙ ap (λ es. same_pairs (entries (map_of these)) es) (sym (entries-map_of _ _ c.other.invariant)) ∙ ap (λ m. same_attributes m (map_of those)) c.self.view_is ∙ ap (same_attributes c.args.self.now) c.other.view_is

pub returns-clause-equal : goal.returns-clause-equal
returns-clause-equal c =
    let is = returns-clause-same c in
    let both = same_attributes-decides c.args.self.now c.args.other.now in
    (λ e. both.0 (sym is ∙ e), λ e. is ∙ both.1 e)
