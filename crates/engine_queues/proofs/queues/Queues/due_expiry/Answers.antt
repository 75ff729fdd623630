use Rattle.std.proofs.Common.{◌≡◌, ◌≢◌, ◌<◌, false, [], length, map, get_or, refl, sym, ap, subst, ◌∙◌, arith}
use borrow.Author.Count.{below_more}
use Rattle.std.proofs.lemmas.Bool.{true≢false, eqb-true, eq-eqb}
use Rattle.std.proofs.lemmas.List.{length-map, nil_from_length}
use Rattle.std.proofs.lemmas.Option.{slice_get_read}
use Rattle.machine_model.specs.Due.{expired_numbers}
use Rattle.flow_queue.specs.Queue.{views_of}
use Rattle.engine_queues.specs.Waiting.{has_files}
use Rattle.engine_queues.proofs.Due.{HasNoneExpired, no-expiry, first-expiry}
use Rattle.engine_queues.proofs.Waiting.{mark-read, none-to-expire}
use Rattle.engine_queues.proofs.queues.Queues.due_expiry.Goals as goal
use Rattle.engine_queues.proofs.queues.Queues.due_expiry.Goals.{then-is_occupied+in_ok-expired+else-not-is_empty, else-is_occupied}

pub returns-then-not-is_empty : goal.returns-then-not-is_empty
returns-then-not-is_empty c flow are =
    let queues = c.args.self.now in
    let place = c.loop-place.place in
    let queue = c.index.result.now in
    let list = c.expired.new.list in
    let marks = ap length c.self.invariant ∙ length-map c.self.inside.list.items has_files in
    let within : place < length queues = omega (arith, ap length c.self.view_is, ap length c.deref-is_occupied-items.ensures.value, marks, c.loop-place-test.true) in
    let there = slice_get_read queues (length queues) place queue refl within (c.index.ensures ∙ ap (λ qs. get_or qs place queue) c.self.view_is) in
    let some : c.from.result ≢ [] = λ e.
    let none : list.len ≡ 0 = omega (arith, list.ok.0, list.ok.1, ap length (sym c.from.ensures ∙ e)) in
    true≢false (sym (eq-eqb list.len 0 none) ∙ sym c.is_empty.ensures ∙ c.if-not-is_empty.true) in
    sym (first-expiry c.args.moment queues flow are place queue c.from.result there (c.from.ensures ∙ c.in_ok-expired.ensures.numbers) some c.loop-place.invariant)

pub loop-place-preserved : goal.loop-place-preserved
loop-place-preserved c =
    let queues = c.args.self.now in
    let place = c.loop-place.place in
    let marks = ap length c.self.invariant ∙ length-map c.self.inside.list.items has_files in
    let within : place < length queues = omega (arith, ap length c.self.view_is, ap length c.deref-is_occupied-items.ensures.value, marks, c.loop-place-test.true) in
    below_more (HasNoneExpired c.args.moment queues) place c.loop-place.invariant
    (λ queue at.
    elim c.if-is_occupied.branch [
      | then-is_occupied+in_ok-expired+else-not-is_empty w ↦
          let item = w.index.result.now in
          let list = w.expired.new.list in
          let there = slice_get_read queues (length queues) place item refl within (w.index.ensures ∙ ap (λ qs. get_or qs place item) c.self.view_is) in
          let len : list.len ≡ 0 = eqb-true list.len 0 (sym w.is_empty.ensures ∙ w.if-not-is_empty.false) in
          let none : list.items ≡ [] = nil_from_length list.items (omega (arith, list.ok.0, list.ok.1, len)) in
          let same : item ≡ queue = cc (there, at) in
          subst (λ q. expired_numbers q.limits c.args.moment (views_of q.files) ≡ []) same (sym w.in_ok-expired.ensures.numbers ∙ none)
      | else-is_occupied w ↦
          none-to-expire c.args.moment queue
          (mark-read queues c.self.inside.occupied.items c.deref-is_occupied-items.result.now place queue _ false (c.self.invariant ∙ ap (map has_files) c.self.view_is)
          c.deref-is_occupied-items.ensures.value w.if-is_occupied.false at)
    ])

pub returns : goal.returns
returns c flow are =
    let queues = c.args.self.now in
    let marks = ap length c.self.invariant ∙ length-map c.self.inside.list.items has_files in
    sym (no-expiry c.args.moment queues flow are
    (λ k lt. c.loop-place.invariant k (omega (arith, lt, ap length c.self.view_is, ap length c.deref-is_occupied-items.ensures.value, marks, c.loop-place-test.false))))
