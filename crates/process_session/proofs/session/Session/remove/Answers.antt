use Rattle.flowfile_record.specs.declared.worked.End.TheVariants.{Removed}
use Rattle.process_session.specs.Inside.{bench_in}
use Rattle.process_session.proofs.Sound.{sound-ended}
use Rattle.process_session.proofs.session.Session.remove.Goals as goal

pub invariant_of-self : goal.invariant_of-self
invariant_of-self c = rw c.end_file.ensures (sound-ended (bench_in c.self.inside) c.self.inside.counted c.args.place Removed (λ file is. tt) c.self.invariant)
