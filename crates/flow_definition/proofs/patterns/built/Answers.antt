use Rattle.std.proofs.Common.{true, subst}
use Rattle.regex_syntax.specs.Verdict.{default_config, Refuses}
use Rattle.flow_definition.proofs.patterns.built.Goals as goal

pub returns-in-Err-Syntax-clause-syntax : goal.returns-in-Err-Syntax-clause-syntax
returns-in-Err-Syntax-clause-syntax c =
    let error = c.in-Err-Syntax.field-0-0 in
    let kind = rw c.in-Err-Syntax.field-0-is at c.in-Err-Syntax.ensures.kind in
    let refused = c.in-Err-Syntax.ensures.by_grammar error c.in-Err-Syntax.field-0-is in
    let usual = subst (λ config. Refuses (record config { utf8 = true }) c.new.result.source.now error.kind) c.new.ensures.config refused in
    λ _. (error.kind, kind, subst (λ text. Refuses default_config text error.kind) c.new.ensures.source usual)
