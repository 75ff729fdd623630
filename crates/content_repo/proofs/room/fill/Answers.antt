use Rattle.std.proofs.Common.{◌≡◌, ℕ, ◌+◌, ◌∷◌, drop, min, slice_index, sym, ap, ◌∙◌, add-one, arith, drop-cons}
use Rattle.content_repo.specs.Room.{left_behind}
use Rattle.content_repo.proofs.Rooms.{left_full, left_open, left_capped}
use Rattle.content_repo.proofs.room.fill.Goals as goal

pub returns-then-filled-ge-OPEN_SIZE-clause-left : goal.returns-then-filled-ge-OPEN_SIZE-clause-left
returns-then-filled-ge-OPEN_SIZE-clause-left c = sym (left_full c.loop-next.filled (drop c.loop-next.next c.args.sizes.now) (omega arith)) ∙ c.loop-next.invariant

pub loop-next-preserved : goal.loop-next-preserved
loop-next-preserved c =
    let sizes = c.args.sizes.now in
    let next = c.loop-next.next in
    let filled = c.loop-next.filled in
    let n = slice_index sizes next in
    let rest = drop (next + 1) sizes in
    let capped : c.min-filled.result ≡ min (filled + n) 1048576 = omega (arith, c.min-filled.ensures, c.saturating_add.ensures) in
    let front : drop next sizes ≡ n ∷ rest = rw add-one (drop-cons sizes next 0 c.loop-next-test.true) in
    ap (λ (a : ℕ). left_behind a rest) capped ∙ left_capped (filled + n) rest ∙ sym (left_open filled n rest (omega arith))
    ∙ ap (left_behind filled) (sym front) ∙ c.loop-next.invariant
