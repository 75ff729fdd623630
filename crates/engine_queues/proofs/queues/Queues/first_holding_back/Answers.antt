use Rattle.std.proofs.Common.{◌≡◌, ℕ, ◌<◌, ◌==◌, ◌&&◌, true, false, length, get_or, option_map, refl, sym, ap, subst, ◌∙◌, arith}
use borrow.Author.Count.{below_more}
use Rattle.std.specs.List.{list_any}
use Rattle.std.proofs.lemmas.Option.{slice_get_read, slice_get_within}
use Rattle.machine_model.specs.declared.flow.Connection.{Connection}
use Rattle.machine_model.specs.Quiet.{is_full}
use Rattle.flow_queue.specs.Queue.{queue_as_seen}
use Rattle.engine_queues.proofs.Due.{HoldsNone, not-one-of, not-full, none-holds, first-holds}
use Rattle.engine_queues.proofs.queues.Queues.first_holding_back.Goals as goal
use Rattle.engine_queues.proofs.queues.Queues.first_holding_back.Goals.{else-contains-via-then-contains+else-is_full, else-contains-via-else-contains}

pub returns-then-is_full : goal.returns-then-is_full
returns-then-is_full c list those =
    let queues = c.args.self.now in
    let connections = c.args.flow.now.connections in
    let place = c.loop-place.place in
    let connection = c.connection-item.result in
    let queue = c.index.result.now in
    let within : place < length connections = omega (arith, ap length c.as_slice-connection-items.ensures, c.loop-place-test.true) in
    let at = slice_get_read connections (length connections) place connection refl within (c.connection-item.is ∙ ap (λ l. get_or l place connection) c.as_slice-connection-items.ensures) in
    let there = slice_get_read queues (length queues) place queue refl (omega (arith, within, c.requires.queues.count)) (c.index.ensures ∙ ap (λ l. get_or l place queue) c.self.view_is) in
    let leaves : list_any (λ p. p == connection.source) c.args.processors.now ≡ true = sym c.contains.ensures.value ∙ c.if-contains.true in
    sym (first-holds c.args.flow.now queues c.requires.queues c.args.processors.now list those place connection queue at there
    (ap (λ b. b && is_full queue.limits (queue_as_seen queue)) leaves ∙ sym c.is_full.ensures ∙ c.if-is_full.true) c.loop-place.invariant)

pub loop-place-preserved : goal.loop-place-preserved
loop-place-preserved c =
    let queues = c.args.self.now in
    let connections = c.args.flow.now.connections in
    let processors = c.args.processors.now in
    let place = c.loop-place.place in
    let item = c.connection-item.result in
    let within : place < length connections = omega (arith, ap length c.as_slice-connection-items.ensures, c.loop-place-test.true) in
    let at_item = slice_get_read connections (length connections) place item refl within (c.connection-item.is ∙ ap (λ l. get_or l place item) c.as_slice-connection-items.ensures) in
    below_more (HoldsNone processors c.args.flow.now queues) place c.loop-place.invariant
    (λ connection queue at there.
    elim c.else-contains.branch [
      | else-contains-via-then-contains+else-is_full w ↦
          let found = w.index.result.now in
          let there_found = slice_get_read queues (length queues) place found refl (omega (arith, within, c.requires.queues.count)) (w.index.ensures ∙ ap (λ l. get_or l place found) c.self.view_is) in
          let same : found ≡ queue = cc (there_found, there) in
          not-full processors connection queue (subst (λ q. is_full q.limits (queue_as_seen q) ≡ false) same (sym w.is_full.ensures ∙ w.if-is_full.false))
      | else-contains-via-else-contains w ↦
          let same : item ≡ connection = cc (at_item, at) in
          not-one-of processors connection queue (subst (λ (cn : Connection). list_any (λ p. p == cn.source) processors ≡ false) same (sym c.contains.ensures.value ∙ w.if-contains.false))
    ])

pub returns : goal.returns
returns c list those =
    let connections = c.args.flow.now.connections in
    sym (ap (option_map (λ (p : ℕ × Connection). p.0)) (none-holds c.args.flow.now c.args.self.now c.requires.queues c.args.processors.now list those
    (λ k connection queue at there.
    c.loop-place.invariant k (omega (arith, slice_get_within connections k connection at, ap length c.as_slice-connection-items.ensures, c.loop-place-test.false)) connection queue at there)))
