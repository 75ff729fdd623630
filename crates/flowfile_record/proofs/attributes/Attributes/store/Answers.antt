use Rattle.std.proofs.Common.{◌+◌, ◌≤◌, ◌∙◌, ap, sym, subst, sum_by, map}
use Rattle.std.specs.Ordering.{nat_cmp}
use Rattle.std.specs.Cmp.Lexicographic.{slice_cmp}
use Rattle.std.specs.FinMap.{put, insert, from_sorted}
use Rattle.flowfile_record.specs.Attributes.{pair_size, encoded_size}
use Rattle.flowfile_record.specs.HeldPairs.{key_and_value}
use Rattle.flowfile_record.specs.declared.attributes.TheConstants.{ATTRIBUTES_MAX, COUNT_SIZE}
use Rattle.flowfile_record.proofs.Held.{put_held, same_held, size_of_put, insert-map_of}
use Rattle.flowfile_record.proofs.attributes.Attributes.store.Goals as goal

pub invariant_of-self : goal.invariant_of-self
invariant_of-self c = same_held _ _ _ c.in_err-store.ensures c.self.invariant

pub invariant_of-self-2 : goal.invariant_of-self-2
invariant_of-self-2 c =
    let summed = c.size_with-size.ensures ∙ ap (λ pairs. sum_by pair_size (put (slice_cmp nat_cmp) c.args.key.now c.args.value.now (map key_and_value pairs)) + COUNT_SIZE) c.deref-2.ensures.value in
    let is = summed ∙ size_of_put _ _ _ _ c.self.invariant ∙ ap (λ these. encoded_size (insert these c.args.key.now c.args.value.now)) c.self.view_is in
    let within = subst (λ n. n ≤ ATTRIBUTES_MAX) (sym is) c.requires.size in
    put_held _ _ _ _ _ _ c.self.invariant (record { key = c.requires.key; key_text = c.utf8.key; value_text = c.utf8.value }) c.in_ok-store.ensures summed within

pub returns-clause-ok : goal.returns-clause-ok
returns-clause-ok c =
    ap from_sorted c.in_ok-store.ensures ∙ sym (insert-map_of _ _ _ _ c.self.invariant) ∙ ap (λ these. insert these c.args.key.now c.args.value.now) c.self.view_is
