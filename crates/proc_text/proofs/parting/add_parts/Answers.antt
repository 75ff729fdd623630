use Rattle.std.proofs.Common.{◌≡◌, ◌+◌, ◌++◌, Bool, List, true, false, length, map, drop, None, sym, ◌∙◌, ap, subst, arith, slice_index_or}
use Rattle.std.proofs.lemmas.List.{drop_all, length-map}
use Rattle.process_session.specs.Bench.{content_size}
use Rattle.proc_text.specs.Parting.{AddsPart, fragments_by}
use Rattle.proc_text.specs.Pieces.{lines_told, piece_of}
use Rattle.proc_text.specs.declared.pieces.Piece.{Piece}
use Rattle.proc_text.proofs.PartList.{adding-ends, adding-may, adding-more, adding-refused}
use Rattle.proc_text.proofs.PartsOf.{left-next, offset-next, piece-fits, told-is}
use Rattle.proc_text.proofs.Telling.{MayAdd, Pair}
use Rattle.proc_text.proofs.parting.add_parts.Goals as goal

pub add_part-requires-clause-taken : goal.add_part-requires-clause-taken
add_part-requires-clause-taken c =
    let pieces = c.args.pieces.now in
    let place = c.loop-place.place in
    let other : Piece = record { size = 0; lines = None } in
    let piece : Piece = slice_index_or pieces place other in
    let fits = piece-fits pieces place c.loop-place.offset (content_size c.args.session.now 0) other c.loop-place-test.true c.loop-place.invariant.offset c.requires.inside in
    let may : MayAdd c.loop-place.session c.loop-place.offset piece.size =
    adding-may c.args.session.now c.loop-place.session 0 (map piece_of pieces) (map piece_of (drop place pieces)) place c.loop-place.offset piece.size c.requires.one (c.loop-place.invariant.adding 0) (omega (arith, c.loop-place-test.true, c.requires.few)) fits in
    may.taken

pub add_part-requires-clause-few : goal.add_part-requires-clause-few
add_part-requires-clause-few c =
    let pieces = c.args.pieces.now in
    let place = c.loop-place.place in
    let other : Piece = record { size = 0; lines = None } in
    let piece : Piece = slice_index_or pieces place other in
    let fits = piece-fits pieces place c.loop-place.offset (content_size c.args.session.now 0) other c.loop-place-test.true c.loop-place.invariant.offset c.requires.inside in
    let may : MayAdd c.loop-place.session c.loop-place.offset piece.size =
    adding-may c.args.session.now c.loop-place.session 0 (map piece_of pieces) (map piece_of (drop place pieces)) place c.loop-place.offset piece.size c.requires.one (c.loop-place.invariant.adding 0) (omega (arith, c.loop-place-test.true, c.requires.few)) fits in
    may.few

pub add_part-requires-clause-unwritten : goal.add_part-requires-clause-unwritten
add_part-requires-clause-unwritten c =
    let pieces = c.args.pieces.now in
    let place = c.loop-place.place in
    let other : Piece = record { size = 0; lines = None } in
    let piece : Piece = slice_index_or pieces place other in
    let fits = piece-fits pieces place c.loop-place.offset (content_size c.args.session.now 0) other c.loop-place-test.true c.loop-place.invariant.offset c.requires.inside in
    let may : MayAdd c.loop-place.session c.loop-place.offset piece.size =
    adding-may c.args.session.now c.loop-place.session 0 (map piece_of pieces) (map piece_of (drop place pieces)) place c.loop-place.offset piece.size c.requires.one (c.loop-place.invariant.adding 0) (omega (arith, c.loop-place-test.true, c.requires.few)) fits in
    may.unwritten

pub add_part-requires-clause-inside : goal.add_part-requires-clause-inside
add_part-requires-clause-inside c =
    let pieces = c.args.pieces.now in
    let place = c.loop-place.place in
    let other : Piece = record { size = 0; lines = None } in
    let piece : Piece = slice_index_or pieces place other in
    let fits = piece-fits pieces place c.loop-place.offset (content_size c.args.session.now 0) other c.loop-place-test.true c.loop-place.invariant.offset c.requires.inside in
    let may : MayAdd c.loop-place.session c.loop-place.offset piece.size =
    adding-may c.args.session.now c.loop-place.session 0 (map piece_of pieces) (map piece_of (drop place pieces)) place c.loop-place.offset piece.size c.requires.one (c.loop-place.invariant.adding 0) (omega (arith, c.loop-place-test.true, c.requires.few)) fits in
    may.fits

pub returns-then-not-branch : goal.returns-then-not-branch
returns-then-not-branch c relationship =
    let pieces = c.args.pieces.now in
    let place = c.loop-place.place in
    let other : Piece = record { size = 0; lines = None } in
    let piece : Piece = slice_index_or pieces place other in
    let before = c.args.session.now in
    let now = c.loop-place.session in
    let new = c.add_part.new.session in
    let left = map piece_of (drop place pieces) in
    let rest = map piece_of (drop (place + 1) pieces) in
    let told : List Pair = lines_told piece.lines ++ fragments_by c.args.whole.now (place + 1) in
    let next = left-next pieces place other c.loop-place-test.true in
    let are = told-is c.args.whole.now before pieces piece (place + 1) c.requires.tells in
    let added : c.in_ok-add_part.field-0 ≡ false = c.if-not-branch.true in
    let answer : AddsPart now new c.loop-place.offset piece.size told false = subst (λ (b : Bool). AddsPart now new c.loop-place.offset piece.size told b) added c.in_ok-add_part.ensures in
    adding-refused before now new relationship (map piece_of pieces) left rest place c.loop-place.offset (piece_of piece) told c.requires.one (c.loop-place.invariant.adding relationship) next
    (omega (arith, c.loop-place-test.true, length-map pieces piece_of)) are answer

pub loop-place-preserved : goal.loop-place-preserved
loop-place-preserved c =
    let pieces = c.args.pieces.now in
    let place = c.loop-place.place in
    let other : Piece = record { size = 0; lines = None } in
    let piece : Piece = slice_index_or pieces place other in
    let before = c.args.session.now in
    let now = c.loop-place.session in
    let new = c.add_part.new.session in
    let left = map piece_of (drop place pieces) in
    let rest = map piece_of (drop (place + 1) pieces) in
    let told : List Pair = lines_told piece.lines ++ fragments_by c.args.whole.now (place + 1) in
    let next = left-next pieces place other c.loop-place-test.true in
    let are = told-is c.args.whole.now before pieces piece (place + 1) c.requires.tells in
    let added : c.in_ok-add_part.field-0 ≡ true = c.if-not-branch.false in
    let answer : AddsPart now new c.loop-place.offset piece.size told true = subst (λ (b : Bool). AddsPart now new c.loop-place.offset piece.size told b) added c.in_ok-add_part.ensures in
    record {
      adding = λ relationship. adding-more before now new relationship (map piece_of pieces) left rest place c.loop-place.offset (piece_of piece) told c.requires.one c.requires.read (c.loop-place.invariant.adding relationship) next are answer;
      offset = offset-next pieces place c.loop-place.offset other c.loop-place-test.true c.loop-place.invariant.offset;
    }

pub returns : goal.returns
returns c relationship =
    let pieces = c.args.pieces.now in
    let place = c.loop-place.place in
    let all : place ≡ length pieces = omega (arith, c.loop-place-test.false, c.loop-place.auto.place-end) in
    adding-ends c.args.session.now c.loop-place.session relationship (map piece_of pieces) (map piece_of (drop place pieces)) place c.loop-place.offset (length pieces) (c.loop-place.invariant.adding relationship)
    (ap (map piece_of) (drop_all place pieces (omega (arith, all)))) (all ∙ sym (length-map pieces piece_of)) (sym all)
