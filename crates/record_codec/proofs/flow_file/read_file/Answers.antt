use Rattle.std.proofs.Common.{arith}
use Rattle.flowfile_record.proofs.Wholes.{is_found, is_only}
use Rattle.record_codec.specs.FileReading.{flow_file_at}
use Rattle.record_codec.specs.FileEncoding.{flow_file, IsFlowFile}
use Rattle.record_codec.proofs.FileLaws.{flow_file_is}
use Rattle.record_codec.proofs.flow_file.read_file.Goals as goal

pub returns-clause-found : goal.returns-clause-found
returns-clause-found c = is_found flow_file_at flow_file IsFlowFile flow_file_is c.args.bytes.now c.read_answer.result (λ i. omega (arith, c.type_inv.bytes i)) c.read_answer.ensures.exact

pub returns-clause-only : goal.returns-clause-only
returns-clause-only c = is_only flow_file_at flow_file IsFlowFile flow_file_is c.args.bytes.now c.read_answer.result c.read_answer.ensures.exact
