use Rattle.std.proofs.Common.{◌∙◌, Some, map, ap, refl}
use Rattle.std.specs.Cmp.{nat_cmp_total}
use Rattle.std.specs.FinMap.{nat_cmp-IsAntisymmetric}
use Rattle.flowfile_record.specs.Slots.{number_and_item}
use Rattle.flowfile_record.proofs.Search.{put_over, put_new}
use Rattle.flowfile_record.proofs.numbered_list.fill.Goals as goal

pub returns-in-Ok-clause-slots : goal.returns-in-Ok-clause-slots
returns-in-Ok-clause-slots g c =
    let is = rw c.in-Ok.is at c.requires.found in
    put_over nat_cmp_total nat_cmp-IsAntisymmetric number_and_item c.args.slots.now.items c.args.number c.in-Ok.place c.index_mut.result.now _ (Some c.args.item) is c.index_mut.ensures.value refl

pub returns-in-Ok-insert-clause-slots : goal.returns-in-Ok-insert-clause-slots
returns-in-Ok-insert-clause-slots g c =
    let is = rw c.in-Err.is at c.requires.absent in
    ap (map number_and_item) c.in-Ok-insert.ensures.items ∙ put_new nat_cmp_total nat_cmp-IsAntisymmetric number_and_item c.args.slots.now.items c.args.number c.in-Err.place _ (Some c.args.item) is refl
