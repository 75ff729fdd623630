use Rattle.std.proofs.Common.{Bool, false, List, replicate, ap, ◌∙◌}
use Rattle.engine_queues.specs.Listing.{Left}
use Rattle.engine_queues.proofs.listing.Listing.new.Goals as goal

pub returns : goal.returns
returns c =
    let names = c.args.names.items in
    let none = c.in_ok-taken.ensures.items_if_clones_equal (λ y same. same) in
    let with_taken : List Bool → Left = λ taken. record { flow = c.args.flow.now; listed = names; taken = taken; too_large = c.args.too_large } in
    ap (λ fl. record { flow = fl; listed = names; taken = c.in_ok-taken.taken.items; too_large = c.args.too_large }) c.in_ok-linked.ensures
    ∙ ap with_taken (none ∙ ap (λ n. replicate n false) (c.len.ensures ∙ c.args.names.ok.0))
