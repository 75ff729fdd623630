use Rattle.std.proofs.Common.{◌≡◌, false, sym, ◌∙◌}
use Rattle.store_core.specs.Discard.{spares}
use Rattle.store_core.proofs.Cutting.{since_one_cut}
use Rattle.store_core.proofs.discard.cut_unless_spared.Goals as goal

pub returns-clause-images : goal.returns-clause-images
returns-clause-images g c =
    let cut : spares c.args.spared c.args.number ≡ false = sym c.spares.ensures ∙ c.if-spares.false in
    since_one_cut c.args.kind (spares c.args.spared) c.args.size g.D.Disk.moment g.D.Disk.images c.args.number
    c.args.disk.now c.cut_file.new.disk cut c.cut_file.ensures.images
