use Rattle.std.proofs.Common.{◌≡◌, ◌++◌, Some, sym, ◌∙◌, ap, subst, rules, arith, ℤ, w64}
use Rattle.std.specs.Str.Parse.{ParsesSigned}
use Rattle.std.proofs.lemmas.Int.{to_z-of_z}
use Rattle.expr_lang.proofs.Numerals.{parsed_number, too_long}
use Rattle.expr_lang.proofs.reader.number.number_of.Goals as goal

pub returns-then-digits-gt-DIGITS_MAX : goal.returns-then-digits-gt-DIGITS_MAX
returns-then-digits-gt-DIGITS_MAX c = too_long c.args.sign.now c.args.digits.now (omega arith)

pub returns-in-Ok : goal.returns-in-Ok
returns-in-Ok c =
    let written : c.as_str.result.now ≡ c.args.sign.now ++ c.args.digits.now = search rules in
    let parsed = parsed_number c.args.sign.now c.args.digits.now c.parse.result c.requires.sign c.requires.digits (omega arith) (subst (λ l. ParsesSigned w64 10 l c.parse.result) written c.parse.ensures.value.0) in
    let here = rw c.in-Ok.is at parsed in
    here.0 ∙ ap (λ (z : ℤ). Some z) (sym (to_z-of_z w64 c.in-Ok.number here.1))

pub returns : goal.returns
returns c =
    let written : c.as_str.result.now ≡ c.args.sign.now ++ c.args.digits.now = search rules in
    let parsed = parsed_number c.args.sign.now c.args.digits.now c.parse.result c.requires.sign c.requires.digits (omega arith) (subst (λ l. ParsesSigned w64 10 l c.parse.result) written c.parse.ensures.value.0) in
    rw c.in-Err.is at parsed
