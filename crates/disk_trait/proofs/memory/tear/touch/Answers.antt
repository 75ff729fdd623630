use Rattle.std.proofs.Common.{sym, ◌∙◌, ap, ◌||◌, ◌&&◌, ◌+◌, ◌-◌, ◌^◌, min, leb, ltb, false, get_or, length}
use Rattle.disk_trait.proofs.DiskStops.{touches_write, touches_cut, touches_write_other, touches_cut_other, touches_sync, range_below_end, past_cut}
use Rattle.disk_trait.proofs.memory.tear.touch.Goals as goal

pub returns-then-eq : goal.returns-then-eq
returns-then-eq c = λ i lt.
    c.mark.ensures.marked i lt
    ∙ ap (λ b. b || get_or c.args.marks.now i false)
    (ap (λ to. leb c.in-Write.at i && ltb i to) (c.saturating_add.ensures ∙ ap (λ bytes. min (c.in-Write.at + length bytes) (2 ^ 64 - 1)) c.as_slice.ensures)
    ∙ range_below_end c.in-Write.at (length c.in-Write.bytes) i (length c.args.marks.now) lt c.mark.ensures.short
    ∙ sym (touches_write c.args.name c.in-Write.file c.in-Write.at c.in-Write.bytes c.args.call.now i c.in-Write.is (sym c.eq.ensures ∙ c.if-eq.true)))

pub returns-else-eq : goal.returns-else-eq
returns-else-eq c = λ i lt.
    ap (λ b. b || get_or c.args.marks.now i false) (sym (touches_write_other c.args.name c.in-Write.file c.in-Write.at c.in-Write.bytes c.args.call.now i c.in-Write.is (sym c.eq.ensures ∙ c.if-eq.false)))

pub returns-then-eq-2 : goal.returns-then-eq-2
returns-then-eq-2 c = λ i lt.
    c.mark-then-eq-2.ensures.marked i lt
    ∙ ap (λ b. b || get_or c.args.marks.now i false)
    (past_cut c.in-Cut.size i (length c.args.marks.now) lt c.mark-then-eq-2.ensures.short
    ∙ sym (touches_cut c.args.name c.in-Cut.file c.in-Cut.size c.args.call.now i c.in-Cut.is (sym c.eq-in-Cut.ensures ∙ c.if-eq-2.true)))

pub returns-else-eq-2 : goal.returns-else-eq-2
returns-else-eq-2 c = λ i lt.
    ap (λ b. b || get_or c.args.marks.now i false) (sym (touches_cut_other c.args.name c.in-Cut.file c.in-Cut.size c.args.call.now i c.in-Cut.is (sym c.eq-in-Cut.ensures ∙ c.if-eq-2.false)))

pub returns-in-Sync : goal.returns-in-Sync
returns-in-Sync c = λ i lt. ap (λ b. b || get_or c.args.marks.now i false) (sym (touches_sync c.args.name c.args.call.now i c.in-Sync.is))
