use Rattle.std.proofs.Common.{rules}
use Rattle.expr_lang.proofs.Fits.{fitting_none}
use Rattle.expr_lang.proofs.evaluator.functions.minus.Goals as goal

pub returns-in_err-ok_or : goal.returns-in_err-ok_or
returns-in_err-ok_or c = search (rules, fitting_none)
