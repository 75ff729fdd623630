use Rattle.std.proofs.Common.{[], refl}
use Rattle.flowfile_wal.proofs.States.{begun_ready}
use Rattle.flowfile_wal.proofs.log.Log.begun.Goals as goal

pub returns-clause-ready : goal.returns-clause-ready
returns-clause-ready g c c' left = record {
  log = record { number = c.args.number; version = c.args.version; entries = []; end = 47 };
  number = refl;
  version = refl;
  end = refl;
  ready = begun_ready c.args.version c.args.number c' (c.requires c' left);
}
