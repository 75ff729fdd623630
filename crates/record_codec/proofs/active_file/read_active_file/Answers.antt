use Rattle.std.proofs.Common.{arith}
use Rattle.flowfile_record.proofs.Wholes.{is_found, is_only}
use Rattle.record_codec.specs.ActiveFile.{active_file, active_file_at, IsActiveFile}
use Rattle.record_codec.proofs.ActiveFiles.{active_file_is}
use Rattle.record_codec.proofs.active_file.read_active_file.Goals as goal

pub returns-clause-found : goal.returns-clause-found
returns-clause-found c = is_found active_file_at active_file IsActiveFile active_file_is c.args.bytes.now c.read_answer.result (λ i. omega (arith, c.type_inv.bytes i)) c.read_answer.ensures.exact

pub returns-clause-only : goal.returns-clause-only
returns-clause-only c = is_only active_file_at active_file IsActiveFile active_file_is c.args.bytes.now c.read_answer.result c.read_answer.ensures.exact
