use Rattle.flowfile_record.proofs.FieldLaws.{byte_is, u16_is, u32_is, u64_is, number_is, digest_is}
use Rattle.flowfile_record.proofs.fields.law.numbers_are_read_as_encoded.Goals as goal

pub returns-clause-u8 : goal.returns-clause-u8
returns-clause-u8 c = byte_is

pub returns-clause-u16 : goal.returns-clause-u16
returns-clause-u16 c = u16_is

pub returns-clause-u32 : goal.returns-clause-u32
returns-clause-u32 c = u32_is

pub returns-clause-u64 : goal.returns-clause-u64
returns-clause-u64 c = u64_is

pub returns-clause-number : goal.returns-clause-number
returns-clause-number c = number_is

pub returns-clause-digest : goal.returns-clause-digest
returns-clause-digest c = digest_is
