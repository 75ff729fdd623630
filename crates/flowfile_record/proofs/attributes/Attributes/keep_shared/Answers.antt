use Rattle.std.proofs.Common.{◌+◌, ◌≤◌, ◌∙◌, ap, sym, subst, map, sum_by}
use Rattle.flowfile_record.specs.Attributes.{pair_size, shared}
use Rattle.flowfile_record.specs.HeldPairs.{key_and_value, map_of, IsHeld}
use Rattle.flowfile_record.specs.declared.attributes.TheConstants.{ATTRIBUTES_MAX, COUNT_SIZE}
use Rattle.flowfile_record.proofs.Held.{shared-map_of, kept_size, kept_held}
use Rattle.flowfile_record.proofs.attributes.Attributes.keep_shared.Goals as goal

pub size_of_all-self-inside-requires : goal.size_of_all-self-inside-requires
size_of_all-self-inside-requires c =
    subst (λ pairs. sum_by pair_size (map key_and_value pairs) + COUNT_SIZE ≤ ATTRIBUTES_MAX) (sym (c.deref.ensures.value ∙ c.keep_standing_in.ensures)) (kept_size _ _ c.self.invariant c.args.others.now)

pub invariant_of-self : goal.invariant_of-self
invariant_of-self c =
    subst (λ pairs. IsHeld pairs c.size_of_all-self-inside.result) (sym c.keep_standing_in.ensures) (kept_held _ _ c.self.invariant c.args.others.now _ (c.size_of_all-self-inside.ensures ∙ ap (λ pairs. sum_by pair_size (map key_and_value pairs) + COUNT_SIZE) (c.deref.ensures.value ∙ c.keep_standing_in.ensures)))

pub returns : goal.returns
returns c =
    ap map_of c.keep_standing_in.ensures ∙ shared-map_of _ _ c.self.invariant c.args.others.now ∙ ap (λ these. shared these c.args.others.now) c.self.view_is
