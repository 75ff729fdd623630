use Rattle.std.proofs.Common.{◌≡◌, false, sym, subst}
use Rattle.flowfile_record.specs.Outcome.{is_made}
use Rattle.flowfile_record.specs.declared.worked.End.TheVariants.{Back}
use Rattle.process_session.specs.Bench.{Bench, origin_at}
use Rattle.process_session.specs.Inside.{bench_in}
use Rattle.process_session.proofs.Sound.{sound-ended, taken_there}
use Rattle.process_session.proofs.session.Session.transfer_back.Goals as goal

pub invariant_of-self : goal.invariant_of-self
invariant_of-self c =
    let bench : Bench = bench_in c.self.inside in
    let taken : is_made (origin_at bench c.args.place) ≡ false = subst (λ (b : Bench). is_made (origin_at b c.args.place) ≡ false) (sym c.self.view_is) c.in_ok-check_taken.ensures.taken in
    rw c.end_file.ensures (sound-ended bench c.self.inside.counted c.args.place Back (λ file is. taken_there bench c.args.place file is taken) c.self.invariant)
