use Rattle.std.proofs.Common.{◌≡◌, ◌<◌, ap, arith}
use Rattle.process_session.specs.Bench.{Bench}
use Rattle.process_session.specs.Inside.{bench_in}
use Rattle.process_session.proofs.Sound.{sound-routed}
use Rattle.process_session.proofs.session.Session.route.Goals as goal

pub invariant_of-self : goal.invariant_of-self
invariant_of-self c =
    let same : c.self.inside.relationships ≡ c.args.self.now.relationships = ap (λ (b : Bench). b.relationships) c.self.view_is in
    let below : c.args.relationship < c.self.inside.relationships = omega (arith, c.in_ok-check_relationship.ensures.below) in
    rw c.route_file.ensures (sound-routed (bench_in c.self.inside) c.self.inside.counted c.args.place c.args.relationship below c.self.invariant)
