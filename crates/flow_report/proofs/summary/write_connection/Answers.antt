use Rattle.std.proofs.Common.{◌≡◌, ℕ, List, ap}
use Rattle.flow_report.specs.Texts.{connection_text}
use Rattle.flow_report.proofs.Writing.{writes-named}
use Rattle.flow_report.proofs.summary.write_connection.Goals as goal

line_is : (id id' : List ℕ) (files bytes : ℕ) → id ≡ id' → connection_text id files bytes ≡ connection_text id' files bytes
line_is id id' files bytes same = ap (λ (l : List ℕ). connection_text l files bytes) same

pub returns-clause-written : goal.returns-clause-written
returns-clause-written g c = λ tells. writes-named _ _ _ _ _ (line_is _ _ _ _ c.as_str.ensures.text) (c.write_parts.ensures.written tells)
