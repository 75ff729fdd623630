use Rattle.std.proofs.Common.{arith}
use Rattle.flowfile_record.proofs.Wholes.{is_found, is_only}
use Rattle.record_codec.specs.StoreHead.{head, IsHead}
use Rattle.record_codec.specs.StoreHeadReading.{head_at}
use Rattle.record_codec.proofs.StoreHeads.{head_is}
use Rattle.record_codec.proofs.head.read_head.Goals as goal

pub returns-clause-found : goal.returns-clause-found
returns-clause-found c = is_found head_at head IsHead head_is c.args.bytes.now c.read_answer.result (λ i. omega (arith, c.type_inv.bytes i)) c.read_answer.ensures.exact

pub returns-clause-only : goal.returns-clause-only
returns-clause-only c = is_only head_at head IsHead head_is c.args.bytes.now c.read_answer.result c.read_answer.ensures.exact
