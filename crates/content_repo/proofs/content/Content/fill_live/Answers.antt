use Rattle.std.proofs.Common.{◌≡◌, ℕ, cond, Bool, true, false, refl, ◌<◌, List, length, take, sym, ap, ◌∙◌, arith}
use mir.Val.{bool_byte}
use Rattle.std.proofs.lemmas.List.{take_more}
use Rattle.content_repo.specs.declared.slot.Slot.{Slot}
use Rattle.content_repo.specs.Room.{left_by_slot, left_by_live}
use Rattle.content_repo.specs.Slots.{unused, slot_numbered, is_free}
use Rattle.content_repo.proofs.Rooms.{left_by_live-more, free_more}
use Rattle.content_repo.proofs.content.Content.fill_live.Goals as goal

byte_is : (b : Bool) → bool_byte b ≡ cond b 1 0
byte_is true = refl
byte_is false = refl

pub loop-number-preserved : goal.loop-number-preserved
loop-number-preserved c =
    let slots = c.args.self.now in
    let sizes = c.args.sizes.now in
    let k = c.loop-number.number in
    let inv = c.loop-number.invariant in
    let within : k < length slots = omega (arith, c.loop-number-test.true, c.len-number-end.ensures.len) in
    record {
      within = c.fill_slot-next.ensures.within;
      left =
          c.fill_slot-next.ensures.left ∙ ap (left_by_slot c.slot-slot.result) inv.left
          ∙ ap (λ (s : Slot). left_by_slot s (left_by_live (take k slots) sizes)) c.slot-slot.ensures.slot
          ∙ sym (left_by_live-more (take k slots) (slot_numbered slots k) sizes)
          ∙ sym (ap (λ (l : List Slot). left_by_live l sizes) (take_more slots k unused within));
      free = omega (arith, inv.free, c.from-free.ensures ∙ byte_is (is_free c.slot-slot.result), ap {B = ℕ} (λ (s : Slot). cond (is_free s) 1 0) c.slot-slot.ensures.slot, free_more slots k within);
    }
