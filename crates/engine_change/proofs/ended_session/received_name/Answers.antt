use Rattle.std.proofs.Common.{subst, sym}
use Rattle.std.specs.Prelude.{length, ◌≤◌, List, ℕ}
use Rattle.flowfile_record.specs.declared.name.TheConstants.{NAME_MAX}
use Rattle.engine_change.proofs.Short.{name_short}
use Rattle.engine_change.proofs.ended_session.received_name.Goals as goal

pub returns-in-Some-clause-short : goal.returns-in-Some-clause-short
returns-in-Some-clause-short c = subst (λ (text : List ℕ). length text ≤ NAME_MAX) (sym c.text.ensures.text) (name_short _ c.text.ensures.name)
