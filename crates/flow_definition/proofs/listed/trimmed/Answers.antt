use Rattle.std.proofs.Common.{reverse, ap, ◌∙◌}
use Rattle.flow_definition.specs.Listed.{behind_blanks}
use Rattle.flow_definition.proofs.Commas.{front_cut, back_cut}
use Rattle.flow_definition.proofs.listed.trimmed.Goals as goal

pub returns : goal.returns
returns c =
    back_cut c.trim_start_matches.result.now c.trim_end_matches.result.now c.trim_end_matches.ensures.matches
    ∙ ap (λ t. reverse (behind_blanks (reverse t)))
    (front_cut c.args.text.now c.trim_start_matches.result.now c.trim_start_matches.ensures.matches)
