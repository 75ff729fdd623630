use Rattle.std.proofs.Common.{◌-◌, ◌∙◌, ap, sym, arith}
use Rattle.std.specs.FinMap as finite
use Rattle.flowfile_record.specs.Attributes.{encoded_size}
use Rattle.flowfile_record.proofs.Held.{in_pairs, size_within, get_of_gap, remove-map_of, remove_held, remove_missing, encoded_size-map_of}
use Rattle.flowfile_record.proofs.attributes.Attributes.size_without.Goals as goal

pub size-requires : goal.size-requires
size-requires c =
    let is = rw c.deref.ensures.value at c.in-Ok.ensures.found in
    let le = size_within _ _ c.index.result.now (in_pairs _ _ _ is) c.index.ensures in
    let summed = c.self.invariant.size_is in
    let most = c.self.invariant.within in
    omega arith

pub overflow_sub-result : goal.overflow_sub-result
overflow_sub-result c =
    let is = rw c.deref.ensures.value at c.in-Ok.ensures.found in
    let le = size_within _ _ c.index.result.now (in_pairs _ _ _ is) c.index.ensures in
    let summed = c.self.invariant.size_is in
    omega arith

pub returns-in-Ok : goal.returns-in-Ok
returns-in-Ok c =
    let is = rw c.deref.ensures.value at c.in-Ok.ensures.found in
    let le = size_within _ _ c.index.result.now (in_pairs _ _ _ is) c.index.ensures in
    let summed = c.self.invariant.size_is in
    let held = remove_held _ _ c.self.invariant _ _ is c.index.result.now (c.self.inside.size - c.size.result) (in_pairs _ _ _ is) c.index.ensures (omega arith) in
    encoded_size-map_of _ _ held ∙ ap encoded_size (sym (remove-map_of _ _ c.self.invariant _ _ is)) ∙ ap (λ these. encoded_size (finite.remove these c.args.key.now)) c.self.view_is

pub returns-in-Err : goal.returns-in-Err
returns-in-Err c =
    let is = rw c.deref.ensures.value at c.in-Err.ensures.absent in
    encoded_size-map_of _ _ c.self.invariant ∙ ap encoded_size (c.self.view_is ∙ remove_missing _ _ (ap (λ these. finite.get these c.args.key.now) (sym c.self.view_is) ∙ get_of_gap _ _ c.self.invariant _ _ is))
