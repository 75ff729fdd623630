use Rattle.std.proofs.Common.{length, arith, ◌∙◌}
use Rattle.settlement.proofs.Children.{childless_is, lists_more, lists_all}
use Rattle.settlement.proofs.offspring.all_children.Goals as goal

pub loop-file-init : goal.loop-file-init
loop-file-init c = c.in_ok-all.ensures ∙ childless_is c.args.kinship 0 (length c.args.files.now)

pub loop-file-preserved : goal.loop-file-preserved
loop-file-preserved c =
    lists_more c.args.kinship c.args.files.now c.loop-file.file-index c.file-item.result (length c.args.files.now) c.loop-file.all.items c.add_child.new.all.items
    (omega arith) c.file-item.is c.in_ok-add_child.ensures c.loop-file.invariant

pub returns : goal.returns
returns c = lists_all c.args.kinship c.args.files.now c.loop-file.file-index c.loop-file.all.items (omega arith) c.loop-file.invariant
