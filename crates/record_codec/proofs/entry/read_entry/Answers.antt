use Rattle.std.proofs.Common.{arith}
use Rattle.flowfile_record.proofs.Wholes.{is_found, is_only}
use Rattle.record_codec.specs.EntryReading.{entry_at}
use Rattle.record_codec.specs.EntryEncoding.{entry, IsEntryOf}
use Rattle.record_codec.proofs.EntryLaws.{entry_is}
use Rattle.record_codec.proofs.entry.read_entry.Goals as goal

pub returns-clause-found : goal.returns-clause-found
returns-clause-found c = is_found (entry_at c.args.kind) entry (IsEntryOf c.args.kind) (entry_is c.args.kind) c.args.bytes.now c.read_answer.result (λ i. omega (arith, c.type_inv.bytes i)) c.read_answer.ensures.exact

pub returns-clause-only : goal.returns-clause-only
returns-clause-only c = is_only (entry_at c.args.kind) entry (IsEntryOf c.args.kind) (entry_is c.args.kind) c.args.bytes.now c.read_answer.result c.read_answer.ensures.exact
