use Rattle.store_core.proofs.TakingOver.{since_log_cut, since_both_cut, gone_cut}
use Rattle.store_core.proofs.checkpoint.drop_log.Goals as goal

pub returns-in_err-cut_file-clause-images : goal.returns-in_err-cut_file-clause-images
returns-in_err-cut_file-clause-images g c =
    since_log_cut g.D.Disk.moment g.D.Disk.images c.args.number c.args.disk.now c.cut_file.new.disk c.cut_file.ensures.images

pub returns-in_err-cut_file-2-clause-images : goal.returns-in_err-cut_file-2-clause-images
returns-in_err-cut_file-2-clause-images g c =
    since_both_cut g.D.Disk.moment g.D.Disk.images c.args.number c.args.disk.now c.cut_file.new.disk c.cut_file-2.new.disk c.cut_file.ensures.images c.cut_file-2.ensures.images

pub returns-clause-images : goal.returns-clause-images
returns-clause-images g c =
    since_both_cut g.D.Disk.moment g.D.Disk.images c.args.number c.args.disk.now c.cut_file.new.disk c.cut_file-2.new.disk c.cut_file.ensures.images c.cut_file-2.ensures.images

pub returns-clause-gone : goal.returns-clause-gone
returns-clause-gone g c told =
    gone_cut c.args.number (g.D.Disk.held c.cut_file.new.disk) (g.D.Disk.held c.cut_file-2.new.disk) (c.in_ok-cut_file.ensures.short told) (c.in_ok-cut_file-2.ensures.cut told) (c.in_ok-cut_file-2.ensures.short told)
