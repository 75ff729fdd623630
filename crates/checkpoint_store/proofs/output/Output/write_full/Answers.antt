use Rattle.checkpoint_store.proofs.Puts.{put_within}
use Rattle.checkpoint_store.proofs.output.Output.write_full.Goals as goal

pub returns-else-len-ge-PIECE_SIZE-clause-left : goal.returns-else-len-ge-PIECE_SIZE-clause-left
returns-else-len-ge-PIECE_SIZE-clause-left g c start bytes put =
    put_within g.D.Disk.tells g.D.Disk.held g.D.Disk.moment g.D.Disk.images c.args.self.now.file start c.args.disk.now c.args.self.now.offset c.args.self.now.piece.items bytes put
