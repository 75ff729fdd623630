use Rattle.std.proofs.Common.{◌≡◌, ℕ, [], length, drop, sym, ap, ◌∙◌, arith, length-drop}
use Rattle.std.proofs.lemmas.List.{nil_from_length}
use Rattle.content_repo.specs.Room.{left_by_live, left_by_new, left_by_all}
use Rattle.content_repo.proofs.Rooms.{nothing_left, room_for}
use Rattle.content_repo.proofs.content.Content.room.Goals as goal

pub returns-then-fill_new-sizes-clause-full : goal.returns-then-fill_new-sizes-clause-full
returns-then-fill_new-sizes-clause-full c room =
    let slots = c.args.self.now in
    let sizes = c.args.sizes.now in
    let live = c.fill_live-next.ensures in
    let left : drop c.fill_new.result sizes ≡ left_by_all slots sizes =
    c.fill_new.ensures.left ∙ ap (left_by_new c.fill_live-next.result.1) live.left ∙ ap (λ (f : ℕ). left_by_new f (left_by_live slots sizes)) live.free in
    omega (arith, c.if-fill_new-sizes.true, length-drop c.fill_new.result sizes, ap length (left ∙ nothing_left sizes slots live.unused room))

pub returns-clause-room : goal.returns-clause-room
returns-clause-room c =
    let slots = c.args.self.now in
    let sizes = c.args.sizes.now in
    let live = c.fill_live-next.ensures in
    let left : drop c.fill_new.result sizes ≡ left_by_all slots sizes =
    c.fill_new.ensures.left ∙ ap (left_by_new c.fill_live-next.result.1) live.left ∙ ap (λ (f : ℕ). left_by_new f (left_by_live slots sizes)) live.free in
    let none : drop c.fill_new.result sizes ≡ [] = nil_from_length (drop c.fill_new.result sizes) (omega (arith, c.if-fill_new-sizes.false, length-drop c.fill_new.result sizes)) in
    room_for sizes slots live.unused (sym left ∙ none)
