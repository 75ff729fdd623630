use Rattle.std.proofs.Common.{sym}
use Rattle.proc_source.proofs.Sending.{no-file}
use Rattle.proc_source.proofs.put_file.outbox_name.Goals as goal

pub returns-in_default-clause-name : goal.returns-in_default-clause-name
returns-in_default-clause-name c = sym (no-file c.args.session.now 0 (sym c.in_default.ensures))
