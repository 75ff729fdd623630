use Rattle.std.proofs.Common.{◌≡◌, ◌+◌, ◌-◌, ◌<◌, ◌||◌, true, false, length, take, drop, sym, ap, ◌∙◌, arith}
use Rattle.std.specs.Prelude.{◌==◌, nat_lt}
use Rattle.std.specs.Option.{option_map}
use Rattle.std.proofs.lemmas.Bool.{eq-eqb, ne_eqb, lt-ltb, le-ltb}
use Rattle.std.proofs.lemmas.List.{length-map}
use Rattle.flow_queue.specs.Picking.{views_at, size_by}
use Rattle.flow_queue.specs.Queue.{held_view}
use Rattle.flow_queue.proofs.Bins.{walked, view-at, walked-is, walked-last, walked-more, walked-all, or-right, or-none}
use Rattle.flow_queue.proofs.queue.bins.bin_size.Goals as goal
use Rattle.flow_queue.proofs.queue.bins.bin_size.Goals.{then-is_filled-via-then-is_filled, then-is_filled-via-else-is_filled+then-size-max}

pub returns-then-is_filled-clause-bin : goal.returns-then-is_filled-clause-bin
returns-then-is_filled-clause-bin c =
    let files = views_at c.args.files.now in
    let i = c.loop-held.held-index in
    let room = c.loop-held.room in
    let size = c.loop-held.size in
    let held = c.held-item.result in
    let file = held_view held.now in
    let within : i < length files = omega (arith, length-map c.args.files.now (λ held. held_view held.now), c.loop-held-test.true) in
    let stops : (nat_lt room file.size || (size == c.args.max)) ≡ true = ap (λ s. nat_lt room s || (size == c.args.max)) (sym c.size.ensures) ∙ (elim c.then-is_filled.branch [
      | then-is_filled-via-then-is_filled w ↦ ap (λ b. b || (size == c.args.max)) (lt-ltb room c.size.result w.if-is_filled.true)
      | then-is_filled-via-else-is_filled+then-size-max w ↦ or-right (nat_lt room c.size.result) (size == c.args.max) (eq-eqb size c.args.max w.if-size-max.true)
    ]) in
    ap (option_map (λ size. take size files))
    (c.size_if.ensures
    ∙ ap (λ s. size_by size c.args.min (nat_lt room s)) c.size.ensures
    ∙ sym (walked-last c.args.min c.args.max size room i files file within (view-at c.args.files.now i held c.loop-held-test.true c.held-item.is) stops)
    ∙ c.loop-held.invariant.1)
    ∙ walked-is c.args.min c.args.max files

pub loop-held-preserved : goal.loop-held-preserved
loop-held-preserved c =
    let files = views_at c.args.files.now in
    let i = c.loop-held.held-index in
    let room = c.loop-held.room in
    let size = c.loop-held.size in
    let held = c.held-item.result in
    let file = held_view held.now in
    let within : i < length files = omega (arith, length-map c.args.files.now (λ held. held_view held.now), c.loop-held-test.true) in
    let goes : (nat_lt room file.size || (size == c.args.max)) ≡ false = ap (λ s. nat_lt room s || (size == c.args.max)) (sym c.size.ensures)
    ∙ or-none (nat_lt room c.size.result) (size == c.args.max) (le-ltb room c.size.result c.if-is_filled.false) (ne_eqb size c.args.max c.if-size-max.false) in (
      omega (arith, c.loop-held.invariant.0),
      ap (λ s. walked c.args.min c.args.max (size + 1) (room - s) (drop (i + 1) files)) c.size-room.ensures
          ∙ sym (walked-more c.args.min c.args.max size room i files file within (view-at c.args.files.now i held c.loop-held-test.true c.held-item.is) goes)
          ∙ c.loop-held.invariant.1,
    )

pub returns-clause-bin : goal.returns-clause-bin
returns-clause-bin c =
    let files = views_at c.args.files.now in
    ap (option_map (λ size. take size files))
    (c.size_if-2.ensures
    ∙ sym (walked-all c.args.min c.args.max c.loop-held.size c.loop-held.room c.loop-held.held-index files (omega (arith, length-map c.args.files.now (λ held. held_view held.now), c.loop-held-test.false)))
    ∙ c.loop-held.invariant.1)
    ∙ walked-is c.args.min c.args.max files
