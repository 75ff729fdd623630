use Rattle.std.proofs.Common.{◌≡◌, ◌++◌, sym, encode_utf8}
use Rattle.expr_lang.proofs.Chars.{escape_none}
use Rattle.expr_lang.proofs.reader.quoted.read_escape.Goals as goal

pub returns-in-None : goal.returns-in-None
returns-in-None c =
    let split : c.args.text.now ≡ encode_utf8 c.in_ok-c.c ++ c.in_ok-c.behind.now = rw c.in_ok-c.ensures.ok_part at c.split_first.ensures in
    escape_none c.in_ok-c.c c.args.text.now c.in_ok-c.behind.now split (sym c.in-None.ensures)
