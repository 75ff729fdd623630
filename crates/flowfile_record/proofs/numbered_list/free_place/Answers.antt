use Rattle.std.proofs.Common.{length, ap, arith}
use Rattle.flowfile_record.proofs.Numbers.{items-swept, slots-swept, length-swept}
use Rattle.flowfile_record.proofs.numbered_list.free_place.Goals as goal

pub returns-then-len-capacity-clause-items : goal.returns-then-len-capacity-clause-items
returns-then-len-capacity-clause-items g c = items-swept (λ _. 0) c.args.slots.now.items c.sweep.new.slots.items c.sweep.ensures.slots

pub returns-then-len-capacity-clause-slots : goal.returns-then-len-capacity-clause-slots
returns-then-len-capacity-clause-slots g c number count are = slots-swept number c.args.slots.now.items c.sweep.new.slots.items count c.sweep.ensures.slots are

pub returns-then-len-capacity-clause-room : goal.returns-then-len-capacity-clause-room
returns-then-len-capacity-clause-room g c some =
    omega (arith, some, c.sweep.new.slots.ok.0, ap length c.sweep.ensures.slots, length-swept (λ _. 0) c.args.slots.now.items, c.sweep.ensures.capacity)
