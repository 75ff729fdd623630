use Rattle.std.proofs.Common.{arith}
use Rattle.flowfile_record.proofs.Wholes.{is_found, is_only}
use Rattle.record_codec.specs.Group.{group, IsGroup}
use Rattle.record_codec.specs.GroupReading.{group_at}
use Rattle.record_codec.proofs.Groups.{group_is}
use Rattle.record_codec.proofs.group.read_group.Goals as goal

pub returns-clause-found : goal.returns-clause-found
returns-clause-found c = is_found group_at group IsGroup group_is c.args.bytes.now c.read_answer.result (λ i. omega (arith, c.type_inv.bytes i)) c.read_answer.ensures.exact

pub returns-clause-only : goal.returns-clause-only
returns-clause-only c = is_only group_at group IsGroup group_is c.args.bytes.now c.read_answer.result c.read_answer.ensures.exact
