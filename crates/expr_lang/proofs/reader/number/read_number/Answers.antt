use Rattle.std.proofs.Common.{ap, ◌∙◌}
use Rattle.std.specs.List.{list_all}
use Rattle.expr_lang.specs.Bytes.{is_digit}
use Rattle.expr_lang.proofs.Fronts.{all_front}
use Rattle.expr_lang.proofs.reader.number.read_number.Goals as goal

pub number_of-requires-clause-digits : goal.number_of-requires-clause-digits
number_of-requires-clause-digits c =
    ap (list_all is_digit) (c.deref.ensures ∙ c.in_ok-digits.ensures.run) ∙ all_front is_digit c.split_sign.result.1.now
