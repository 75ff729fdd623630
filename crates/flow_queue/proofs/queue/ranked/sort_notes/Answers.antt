use Rattle.std.proofs.Common.{rules, sym, subst, arith}
use Rattle.std.specs.List.Sorted.{IsSortedBy}
use Rattle.std.proofs.lemmas.Fn.{always_returns_same}
use Rattle.std.proofs.lemmas.List.Sorted.{length_permutation}
use Rattle.flow_queue.specs.Ranked.{is_before}
use Rattle.flow_queue.proofs.Joining.{before-sorts}
use Rattle.flow_queue.proofs.queue.ranked.sort_notes.Goals as goal

pub returns-clause-sorted : goal.returns-clause-sorted
returns-clause-sorted c =
    let order = c.args.order.now in
    let files = c.args.files.now.items in
    let sorted = c.sort_unstable_by.new.self in
    let lent = c.make_contiguous.ensures in
    let long = length_permutation _ sorted c.sort_unstable_by.ensures.permutation in
    let ordered : IsSortedBy (is_before order files) sorted
    = c.sort_unstable_by.ensures.sorted (is_before order files) (before-sorts order files) (always_returns_same _ _ _ (λ a r f called. search rules)) in
    subst (IsSortedBy (is_before order files)) (sym (lent.writes_back sorted (omega (arith, long, lent.len)))) ordered
