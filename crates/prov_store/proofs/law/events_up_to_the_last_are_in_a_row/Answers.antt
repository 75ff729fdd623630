use Rattle.prov_store.proofs.Aging.{past_in}
use Rattle.prov_store.proofs.Encoded.{last_encoded}
use Rattle.prov_store.proofs.InFiles.{last_numbered, none_past, fewer_in}
use Rattle.prov_store.proofs.law.events_up_to_the_last_are_in_a_row.Goals as goal

pub returns-clause-numbered : goal.returns-clause-numbered
returns-clause-numbered c files line last events of is = last_numbered line last files events of.whole is

pub returns-clause-encoded : goal.returns-clause-encoded
returns-clause-encoded c files line last events small is = last_encoded line last files events small is

pub returns-clause-none : goal.returns-clause-none
returns-clause-none c files line = none_past line files

pub returns-clause-fewer : goal.returns-clause-fewer
returns-clause-fewer c files line last earlier events of is le = fewer_in line last earlier files events is le

pub returns-clause-past : goal.returns-clause-past
returns-clause-past c files line later last events of of_later is = past_in line later last files events of of_later is
