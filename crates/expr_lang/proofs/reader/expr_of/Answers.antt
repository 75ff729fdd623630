use Rattle.std.proofs.Common.{◌≡◌, false, sym, rules}
use Rattle.expr_lang.specs.View.{is_one_computed}
use Rattle.expr_lang.proofs.PieceLists.{joined_pieces}
use Rattle.expr_lang.proofs.reader.expr_of.Goals as goal

pub returns-then-not-is_one_embedded : goal.returns-then-not-is_one_embedded
returns-then-not-is_one_embedded c =
    let other : is_one_computed c.args.pieces.items ≡ false = search rules in
    sym (joined_pieces c.args.pieces.items c.requires other)
