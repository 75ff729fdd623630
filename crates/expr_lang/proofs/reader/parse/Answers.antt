use Rattle.std.proofs.Common.{arith, ◌≤◌, length}
use Rattle.std.specs.List.{flat_map}
use Rattle.expr_lang.specs.View.{tree_of, piece_parts}
use Rattle.expr_lang.proofs.Answered.{tree_refused, place_refused, one_tree, no_place}
use Rattle.expr_lang.proofs.reader.parse.Goals as goal

pub returns-in_err-read_pieces-clause-every_tree : goal.returns-in_err-read_pieces-clause-every_tree
returns-in_err-read_pieces-clause-every_tree c =
    let short : length c.args.text.now ≤ 4096 = omega arith in
    tree_refused c.args.text.now c.in_err-read_pieces.field-0.0 c.from_residual.result c.from_residual.ensures.1 short c.in_err-read_pieces.ensures.unread

pub returns-in_err-read_pieces-clause-every_place : goal.returns-in_err-read_pieces-clause-every_place
returns-in_err-read_pieces-clause-every_place c =
    let short : length c.args.text.now ≤ 4096 = omega arith in
    place_refused c.args.text.now c.in_err-read_pieces.field-0.0 c.from_residual.result c.from_residual.ensures.1 short c.in_err-read_pieces.ensures.unread

pub returns-clause-every_tree : goal.returns-clause-every_tree
returns-clause-every_tree c =
    let short : length c.args.text.now ≤ 4096 = omega arith in
    one_tree c.args.text.now (flat_map piece_parts c.in_ok-read_pieces.field-0.items) (tree_of c.expr_of.result) short c.in_ok-read_pieces.ensures.pieces c.expr_of.ensures

pub returns-clause-every_place : goal.returns-clause-every_place
returns-clause-every_place c =
    let short : length c.args.text.now ≤ 4096 = omega arith in
    no_place c.args.text.now (flat_map piece_parts c.in_ok-read_pieces.field-0.items) (tree_of c.expr_of.result) short c.in_ok-read_pieces.ensures.pieces c.expr_of.ensures
