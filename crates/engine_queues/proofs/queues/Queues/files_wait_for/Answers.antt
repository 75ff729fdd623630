use Rattle.std.proofs.Common.{◌≡◌, ◌+◌, ◌<◌, List, true, false, length, map, set, replicate, get_or, sym, ap, subst, ◌∙◌, arith}
use Rattle.std.proofs.lemmas.List.{length-map}
use Rattle.std.proofs.lemmas.Option.{get_or_from_slice_get}
use Rattle.machine_model.specs.declared.flow.Connection.{Connection}
use Rattle.engine_queues.specs.Waiting.{has_files}
use Rattle.engine_queues.proofs.Changing.{at_place}
use Rattle.engine_queues.proofs.Due.{connection-for}
use Rattle.engine_queues.proofs.Waiting.{AreWaitsSoFar, all-waits, mark-read, no-marks, one-waits, still-waits}
use Rattle.engine_queues.proofs.queues.Queues.files_wait_for.Goals as goal
use Rattle.engine_queues.proofs.queues.Queues.files_wait_for.Goals.{then-is_occupied, else-is_occupied}

pub loop-place-init : goal.loop-place-init
loop-place-init c =
    no-marks c.args.flow.now c.args.self.now c.in_ok-waits.waits.items
    (c.in_ok-waits.ensures.items_if_clones_equal (λ y same. same) ∙ ap (λ n. replicate n false) c.len.ensures)

pub loop-place-preserved : goal.loop-place-preserved
loop-place-preserved c =
    let flow = c.args.flow.now in
    let queues = c.args.self.now in
    let place = c.loop-place.place in
    let marks = c.self.invariant ∙ ap (map has_files) c.self.view_is in
    let within : place < length queues = omega (arith, ap length marks, length-map queues has_files, ap length c.deref-is_occupied-items.ensures.value, c.loop-place-test.true) in
    let queue = at_place queues place within in
    let connection = connection-for flow queues c.requires place queue.0 queue.1 in
    elim c.if-is_occupied.branch [
      | then-is_occupied w ↦
          let d = w.index-as_slice-place.result in
          let target : (get_or w.as_slice.result.now place d).target ≡ connection.0.target =
          ap (λ (l : List Connection). (get_or l place d).target) w.as_slice.ensures ∙ ap (λ (o : Connection). o.target) (get_or_from_slice_get flow.connections place connection.0 d connection.1) in
          let has = mark-read queues c.self.inside.occupied.items c.deref-is_occupied-items.result.now place queue.0 _ true marks c.deref-is_occupied-items.ensures.value w.if-is_occupied.true queue.1 in
          subst (AreWaitsSoFar flow queues (place + 1)) (sym (ap (λ v. v.items) w.waits-is ∙ w.mark_waiting.ensures ∙ ap (λ n. set c.loop-place.waits.items n true) target))
          (one-waits flow queues place connection.0 queue.0 connection.1 queue.1 c.loop-place.waits.items has c.loop-place.invariant)
      | else-is_occupied w ↦
          let none = mark-read queues c.self.inside.occupied.items c.deref-is_occupied-items.result.now place queue.0 _ false marks c.deref-is_occupied-items.ensures.value w.if-is_occupied.false queue.1 in
          subst (AreWaitsSoFar flow queues (place + 1)) (sym (ap (λ v. v.items) w.waits-is))
          (still-waits flow queues place connection.0 queue.0 connection.1 queue.1 c.loop-place.waits.items none c.loop-place.invariant)
    ]

pub returns : goal.returns
returns c =
    let marks = ap length c.self.invariant ∙ length-map c.self.inside.list.items has_files in
    all-waits c.args.flow.now c.args.self.now c.loop-place.place c.loop-place.waits.items
    (omega (arith, marks, ap length c.self.view_is, c.requires.count, ap length c.deref-is_occupied-items.ensures.value, c.loop-place-test.false)) c.loop-place.invariant
