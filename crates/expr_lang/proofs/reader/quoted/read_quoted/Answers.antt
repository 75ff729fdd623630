use Rattle.std.proofs.Common.{◌≡◌, ◌++◌, false, encode_utf8, rules}
use Rattle.expr_lang.specs.Reading.{is_mark}
use Rattle.expr_lang.proofs.Chars.{quoted_unmarked}
use Rattle.expr_lang.proofs.reader.quoted.read_quoted.Goals as goal

pub returns-then-not-is_mark : goal.returns-then-not-is_mark
returns-then-not-is_mark c =
    let split : c.args.text.now ≡ encode_utf8 c.in_ok-mark.mark ++ c.in_ok-mark.body.now = rw c.in_ok-mark.ensures.ok_part at c.split_first.ensures in
    let fails : is_mark c.in_ok-mark.mark ≡ false = search rules in
    quoted_unmarked c.in_ok-mark.mark c.args.text.now c.in_ok-mark.body.now split fails
