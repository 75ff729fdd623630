use Rattle.std.proofs.Common.{◌≡◌, ◌<◌, ap, arith}
use Rattle.flowfile_record.specs.declared.worked.End.TheVariants.{To}
use Rattle.process_session.specs.Bench.{Bench}
use Rattle.process_session.specs.Inside.{bench_in}
use Rattle.process_session.proofs.Sound.{sound-ended}
use Rattle.process_session.proofs.session.Session.transfer.Goals as goal

pub invariant_of-self : goal.invariant_of-self
invariant_of-self c =
    let same : c.self.inside.relationships ≡ c.args.self.now.relationships = ap (λ (b : Bench). b.relationships) c.self.view_is in
    let below : c.args.relationship < c.self.inside.relationships = omega (arith, c.in_ok-check_relationship.ensures.below) in
    rw c.end_file.ensures (sound-ended (bench_in c.self.inside) c.self.inside.counted c.args.place (To c.args.relationship) (λ file is. below) c.self.invariant)
