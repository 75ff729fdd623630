use Rattle.std.proofs.Common.{◌≤◌, arith}
use Rattle.disk_trait.specs.MemoryHistory.{past_of}
use Rattle.disk_trait.proofs.DiskPasts.{is_past_passed, since_passed}
use Rattle.disk_trait.proofs.memory.history.History.pass.Goals as goal

pub invariant_of-self : goal.invariant_of-self
invariant_of-self c =
    let later : c.args.self.now.moment ≤ c.saturating_add-self.result = omega (arith, c.saturating_add-self.ensures) in
    record { past = is_past_passed (past_of c.args.self.now) c.saturating_add-self.result later c.args.self.now.past }

pub returns-clause-images : goal.returns-clause-images
returns-clause-images c =
    let later : c.args.self.now.moment ≤ c.saturating_add-self.result = omega (arith, c.saturating_add-self.ensures) in
    since_passed (past_of c.args.self.now) c.saturating_add-self.result later c.args.self.now.past
