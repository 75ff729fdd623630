use Rattle.std.proofs.Common.{rules, arith, ◌≡◌, ◌++◌, ◌<◌, List, [], ◌∷◌, None, length, map, ap, ◌∙◌, string_bytes}
use Rattle.std.specs.List.{flat_map, AllByRecursion}
use Rattle.expr_lang.specs.declared.syntax.Piece.TheVariants.{Computed}
use Rattle.expr_lang.specs.Reading.{embedded_read}
use Rattle.expr_lang.specs.Tree.{Part, byte, embedded}
use Rattle.expr_lang.specs.View.{piece_parts, HasParts, term_of}
use Rattle.expr_lang.proofs.PieceLists.{flat_map_push, has_parts_push}
use Rattle.expr_lang.proofs.Pieces.{finished, no_longer, unread_here, goes_on, gets_shorter}
use Rattle.expr_lang.proofs.reader.read_pieces.Goals as goal

pub returns-then-is_empty-clause-pieces : goal.returns-then-is_empty-clause-pieces
returns-then-is_empty-clause-pieces c =
    let none : length c.in_ok-plain.behind.now ≡ 0 = search rules in
    finished c.args.text.now (flat_map piece_parts c.loop-pieces.pieces.items) c.loop-pieces.rest.now (string_bytes c.in_ok-plain.plain) c.in_ok-plain.behind.now
    c.loop-pieces.invariant.so_far c.in_ok-plain.ensures.plain c.in_ok-plain.ensures.behind
    (flat_map piece_parts c.push_plain.new.pieces.items) c.in_ok-push_plain.ensures.pieces none

pub overflow_sub-at : goal.overflow_sub-at
overflow_sub-at c =
    no_longer c.args.text.now (flat_map piece_parts c.loop-pieces.pieces.items) c.loop-pieces.rest.now (string_bytes c.in_ok-plain.plain) c.in_ok-plain.behind.now
    c.loop-pieces.invariant.so_far c.in_ok-plain.ensures.plain c.in_ok-plain.ensures.behind c.loop-pieces.invariant.no_longer

pub returns-in-Err-Unread-clause-unread : goal.returns-in-Err-Unread-clause-unread
returns-in-Err-Unread-clause-unread c =
    let some : 0 < length c.in_ok-plain.behind.now = search rules in
    let none : embedded_read 16 c.in_ok-plain.behind.now ≡ None = search rules in
    unread_here c.args.text.now (flat_map piece_parts c.loop-pieces.pieces.items) c.loop-pieces.rest.now (string_bytes c.in_ok-plain.plain) c.in_ok-plain.behind.now
    c.loop-pieces.invariant.so_far c.in_ok-plain.ensures.plain c.in_ok-plain.ensures.behind some c.loop-pieces.invariant.no_longer none

pub loop-pieces-smaller : goal.loop-pieces-smaller
loop-pieces-smaller c =
    gets_shorter c.args.text.now (flat_map piece_parts c.loop-pieces.pieces.items) c.loop-pieces.rest.now (string_bytes c.in_ok-plain.plain) c.in_ok-plain.behind.now
    c.loop-pieces.invariant.so_far c.in_ok-plain.ensures.plain c.in_ok-plain.ensures.behind
    (term_of c.in-Ok.read.0) c.in-Ok.read.1.now c.in-Ok.ensures

pub loop-pieces-preserved : goal.loop-pieces-preserved
loop-pieces-preserved c =
    let before = flat_map piece_parts c.loop-pieces.pieces.items in
    let pushed : c.push.new.self.items ≡ c.push_plain.new.pieces.items ++ (Computed c.in-Ok.read.0 ∷ []) = search rules in
    let more : flat_map piece_parts c.push.new.self.items ≡ (before ++ map byte (string_bytes c.in_ok-plain.plain)) ++ (embedded (term_of c.in-Ok.read.0) ∷ []) =
    ap (flat_map piece_parts) pushed
    ∙ flat_map_push c.push_plain.new.pieces.items (Computed c.in-Ok.read.0)
    ∙ ap (λ (l : List Part). l ++ (embedded (term_of c.in-Ok.read.0) ∷ [])) c.in_ok-push_plain.ensures.pieces in
    let less = gets_shorter c.args.text.now before c.loop-pieces.rest.now (string_bytes c.in_ok-plain.plain) c.in_ok-plain.behind.now
    c.loop-pieces.invariant.so_far c.in_ok-plain.ensures.plain c.in_ok-plain.ensures.behind (term_of c.in-Ok.read.0) c.in-Ok.read.1.now c.in-Ok.ensures in
    let has : AllByRecursion HasParts c.push_plain.new.pieces.items = c.in_ok-push_plain.ensures.parts c.loop-pieces.invariant.parts in
    record {
      text = search rules;
      so_far = goes_on c.args.text.now before c.loop-pieces.rest.now (string_bytes c.in_ok-plain.plain) c.in_ok-plain.behind.now
          c.loop-pieces.invariant.so_far c.in_ok-plain.ensures.plain c.in_ok-plain.ensures.behind
          (term_of c.in-Ok.read.0) c.in-Ok.read.1.now (flat_map piece_parts c.push.new.self.items) c.in-Ok.ensures more;
      parts = rw pushed (has_parts_push c.push_plain.new.pieces.items (Computed c.in-Ok.read.0) has (omega arith));
      no_longer = omega (arith, less, c.loop-pieces.invariant.no_longer);
    }
