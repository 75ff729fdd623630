use Rattle.flowfile_record.proofs.FieldLaws.{text_is, long_is, numbers_is}
use Rattle.flowfile_record.proofs.fields.law.texts_are_read_as_encoded.Goals as goal

pub returns-clause-text : goal.returns-clause-text
returns-clause-text c = text_is

pub returns-clause-long : goal.returns-clause-long
returns-clause-long c = long_is

pub returns-clause-numbers : goal.returns-clause-numbers
returns-clause-numbers c = numbers_is
