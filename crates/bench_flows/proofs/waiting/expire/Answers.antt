use Rattle.std.proofs.Common.{◌≡◌, true, sym, ◌∙◌, subst}
use Rattle.machine_model.specs.Files.{are_distinct}
use Rattle.bench_flows.proofs.Expiring.{expired-distinct}
use Rattle.bench_flows.proofs.waiting.expire.Goals as goal

pub leave_all-requires-clause-distinct : goal.leave_all-requires-clause-distinct
leave_all-requires-clause-distinct c =
    let is = c.as_slice.ensures.value ∙ c.in_ok-expired.ensures.numbers in
    subst (λ numbers. are_distinct numbers ≡ true) (sym is) (expired-distinct c.args.queue.now.limits c.args.moment c.args.queue.now.files c.len-before.ensures.apart.numbers)
