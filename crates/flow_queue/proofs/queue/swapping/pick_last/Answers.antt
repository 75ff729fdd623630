use Rattle.std.proofs.Common.{◌≡◌, ◌-◌, [], drop, length, sym, ap, ◌∙◌, arith}
use Rattle.std.specs.Option.{is_some, unwrap_or}
use Rattle.machine_model.specs.Due.{batch_size}
use Rattle.flow_queue.specs.Ranked.{numbers_noted}
use Rattle.flow_queue.specs.Swapping.{resting_among}
use Rattle.flow_queue.proofs.OutBatch.{none-last, some-last}
use Rattle.flow_queue.proofs.queue.swapping.pick_last.Goals as goal

pub returns-then-resting-least-clause-picks : goal.returns-then-resting-least-clause-picks
returns-then-resting-least-clause-picks c =
    let none = none-last c.args.limits.now (resting_among c.args.files.now.items (numbers_noted c.args.notes.now.items)) (omega (arith, c.requires.count, c.least_of-least.ensures, c.if-resting-least.true)) in
    (ap is_some (sym none), c.requires.empty ∙ ap (λ o. unwrap_or o []) (sym none))

pub returns-in_err-list_resting-clause-free : goal.returns-in_err-list_resting-clause-free
returns-in_err-list_resting-clause-free c none =
    let some = some-last c.args.limits.now (resting_among c.args.files.now.items (numbers_noted c.args.notes.now.items)) (omega (arith, c.requires.count, c.least_of-least.ensures, c.if-resting-least.false)) in
    absurd (let e = sym some ∙ none in cc)

pub returns-clause-picks : goal.returns-clause-picks
returns-clause-picks c =
    let limits = c.args.limits.now in
    let numbers = resting_among c.args.files.now.items (numbers_noted c.args.notes.now.items) in
    let some = some-last limits numbers (omega (arith, c.requires.count, c.least_of-least.ensures, c.if-resting-least.false)) in
    let first : c.args.resting - c.from-size.result ≡ length numbers - batch_size limits = omega (arith, c.requires.count, c.from-size.ensures) in (
      ap is_some (sym some),
      c.in_ok-list_resting.ensures ∙ ap (λ n. drop n numbers) first ∙ ap (λ o. unwrap_or o []) (sym some),
    )
