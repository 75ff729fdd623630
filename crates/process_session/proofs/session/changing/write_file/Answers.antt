use Rattle.std.proofs.Common.{true, sym}
use Rattle.flowfile_record.specs.declared.worked.Body.TheVariants.{New}
use Rattle.process_session.proofs.Changing.{change_at-there}
use Rattle.process_session.proofs.session.changing.write_file.Goals as goal

pub returns : goal.returns
returns c = sym (change_at-there (λ file. record file { body = New c.args.bytes; written = true }) c.args.place c.args.files.now.items c.index_mut-file.result.now c.requires c.index_mut-file.ensures.value)
