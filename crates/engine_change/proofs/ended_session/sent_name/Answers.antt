use Rattle.std.proofs.Common.{sym, subst}
use Rattle.std.specs.Prelude.{IfSome, Option, length, ◌≤◌}
use Rattle.flowfile_record.specs.declared.name.TheConstants.{NAME_MAX}
use Rattle.flowfile_record.specs.declared.worked.Sent.{Sent}
use Rattle.engine_change.proofs.Short.{name_short}
use Rattle.engine_change.proofs.ended_session.sent_name.Goals as goal

pub returns-in-Some : goal.returns-in-Some
returns-in-Some c = subst (λ (put : Option Sent). IfSome put (λ sent. length sent.name ≤ NAME_MAX)) (sym c.in-Some.is) (name_short c.in-Some.sent.name c.text.ensures.name)
