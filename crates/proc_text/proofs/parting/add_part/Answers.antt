use Rattle.std.proofs.Common.{◌++◌, map, ◌∙◌, ap}
use Rattle.proc_text.specs.Parting.{fragments_by, pair_told}
use Rattle.proc_text.specs.Pieces.{lines_told}
use Rattle.proc_text.proofs.Telling.{adds-told}
use Rattle.proc_text.proofs.parting.add_part.Goals as goal

pub returns : goal.returns
returns c = adds-told c.args.session.now c.add_told_part.new.session c.args.offset c.args.piece.size c.add_told_part.result (map pair_told c.as_slice.result.now) (lines_told c.args.piece.lines ++ fragments_by c.args.whole.now c.args.index) (ap (map pair_told) c.as_slice.ensures.value ∙ c.in_ok-told.ensures) c.add_told_part.ensures
