use Rattle.std.proofs.Common.{ℕ, List, ◌++◌, ap}
use Rattle.flow_report.specs.Texts.{line_end}
use Rattle.flow_report.proofs.EventText.{event-line}
use Rattle.flow_report.proofs.Writing.{writes-named}
use Rattle.flow_report.proofs.event.write_event.Goals as goal

pub returns-clause-written : goal.returns-clause-written
returns-clause-written g c = λ tells.
    writes-named _ _ _ _ _
    (ap (λ (text : List ℕ). text ++ line_end)
    (event-line c.args.store c.args.event.now _ _ _ _ _ c.as_slice.ensures c.as_str.ensures.text c.as_str-2.ensures.text c.word_of_event.ensures c.as_slice-2.ensures))
    (c.write_parts.ensures.written tells)
