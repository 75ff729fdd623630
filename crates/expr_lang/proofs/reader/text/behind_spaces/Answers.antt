use Rattle.std.proofs.Common.{sym, ◌∙◌, rules}
use Rattle.expr_lang.specs.Bytes.{is_space}
use Rattle.expr_lang.proofs.Chars.{spaces_low, behind_failing}
use Rattle.expr_lang.proofs.reader.text.behind_spaces.Goals as goal

pub returns-then-not-is_space : goal.returns-then-not-is_space
returns-then-not-is_space c =
    sym (behind_failing is_space spaces_low c.in-Some.c c.loop-c.rest.now c.in-Some.behind.now c.in-Some.ensures (search rules)) ∙ c.loop-c.invariant.1
