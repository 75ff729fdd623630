use Rattle.process_session.specs.Inside.{bench_in}
use Rattle.process_session.proofs.Sound.{sound-penalised}
use Rattle.process_session.proofs.session.Session.penalize.Goals as goal

pub invariant_of-self : goal.invariant_of-self
invariant_of-self c = rw c.penalize_file.ensures (sound-penalised (bench_in c.self.inside) c.self.inside.counted c.args.place c.self.invariant)
