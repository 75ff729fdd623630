use Rattle.std.proofs.Common.{◌+◌, sym, subst}
use Rattle.process_session.specs.Bench.{Bench}
use Rattle.process_session.specs.Changes.{with_handed, with_made}
use Rattle.process_session.specs.Inside.{bench_in}
use Rattle.process_session.specs.Sound.{IsSoundBench, MayCome}
use Rattle.process_session.proofs.Sound.{sound-made}
use Rattle.process_session.proofs.session.Session.add_handed.Goals as goal

pub invariant_of-self-2 : goal.invariant_of-self-2
invariant_of-self-2 c =
    let bench : Bench = bench_in c.self.inside in
    let may : MayCome bench c.args.origin c.args.attributes c.args.body c.args.handed = subst (λ (b : Bench). MayCome b c.args.origin c.args.attributes c.args.body c.args.handed) (sym c.self.view_is) c.requires in
    rw c.in_ok-push.ensures.items (subst (λ n. IsSoundBench (with_handed (with_made bench c.args.origin c.args.attributes c.args.body) c.args.handed) (c.self.inside.counted + n)) (sym c.size-size.ensures.size) (sound-made bench c.self.inside.counted c.args.handed c.args.origin c.args.attributes c.args.body may c.size-size.ensures.limits c.self.invariant))
