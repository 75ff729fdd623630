use Rattle.std.proofs.Common.{◌∙◌, ap, arith}
use Rattle.std.specs.Int.{to_be_bytes, w128}
use Rattle.flowfile_record.specs.Identifier.{identifier}
use Rattle.flowfile_record.proofs.Identifiers.{one_of_a_kind}
use Rattle.flowfile_record.proofs.identifier.uuid_of.Goals as goal

pub returns-clause-bits : goal.returns-clause-bits
unfolding identifier
returns-clause-bits c = c.from_u64_pair.ensures ∙ ap (to_be_bytes w128) (omega arith)

pub returns-clause-distinct : goal.returns-clause-distinct
returns-clause-distinct c = one_of_a_kind c.args.store c.args.number
