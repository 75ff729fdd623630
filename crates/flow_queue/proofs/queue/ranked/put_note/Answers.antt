use Rattle.std.proofs.Common.{◌≡◌, false, ◌∙◌, subst}
use Rattle.machine_model.specs.Order.{in_order}
use Rattle.flow_queue.specs.declared.held.Held.{Held}
use Rattle.flow_queue.specs.Queue.{held_view, views_of}
use Rattle.flow_queue.specs.Ranked.{IsRankOf}
use Rattle.flow_queue.proofs.Ranks.{ranked-put}
use Rattle.flow_queue.proofs.queue.ranked.put_note.Goals as goal

pub returns-clause-ranked : goal.returns-clause-ranked
returns-clause-ranked c =
    let order = c.args.order.now in
    let files = c.args.files.now.items in
    let held = c.args.held.now in
    let place = c.place_to_come-place.result in
    let rests : held ≡ record { file = held.file; in_flight = false } = λ j. record { file = held.file; in_flight = c.requires.rests j } in
    c.in-Ok.ensures.items
    ∙ ranked-put order files c.args.notes.now.items c.requires.apart c.requires.ranked held.file place c.requires.new
    (subst (λ (h : Held). IsRankOf order (held_view h) (in_order order (views_of files)) place) rests c.place_to_come-place.ensures.rank)

pub returns-clause-capacity : goal.returns-clause-capacity
returns-clause-capacity c = c.in-Ok.ensures.capacity
