use Rattle.std.proofs.Common.{◌≡◌, ℕ, [], length, drop, sym, ap, ◌∙◌, arith, length-drop}
use Rattle.std.proofs.lemmas.Bool.{eqb-true}
use Rattle.std.proofs.lemmas.List.{nil_from_length}
use Rattle.content_repo.specs.declared.slot.Slot.{Slot}
use Rattle.content_repo.specs.Room.{left_behind}
use Rattle.content_repo.specs.Slots.{size_of}
use Rattle.content_repo.proofs.Rooms.{one_takes_all}
use Rattle.content_repo.proofs.content.Content.fit_the_next_slot.Goals as goal

pub returns-in-Some : goal.returns-in-Some
returns-in-Some c full =
    let slots = c.args.self.now in
    let sizes = c.args.sizes.now in
    let number = c.in-Some.number in
    let all : c.fill.result ≡ length sizes = eqb-true c.fill.result (length sizes) full in
    let size : c.slot.result.size ≡ size_of slots number = ap (λ (s : Slot). s.size) c.slot.ensures.slot in
    let none : drop c.fill.result sizes ≡ [] = nil_from_length (drop c.fill.result sizes) (omega (arith, all, length-drop c.fill.result sizes)) in
    one_takes_all slots sizes number c.len-slots.ensures.unused (sym c.in-Some.ensures.next)
    (ap (λ (n : ℕ). left_behind n sizes) (sym size) ∙ sym c.fill.ensures.left ∙ none)
