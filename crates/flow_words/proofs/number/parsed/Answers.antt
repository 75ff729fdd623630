use Rattle.std.proofs.Common.{sym, ◌∙◌, ap, is_ok}
use Rattle.flow_words.proofs.Digits.{parses}
use Rattle.flow_words.proofs.number.parsed.Goals as goal

pub unwrap-requires : goal.unwrap-requires
unwrap-requires c =
    ap is_ok (parses c.args.text.now _ c.parse.ensures.value.0 c.requires.some c.requires.few c.requires.digits)

pub returns : goal.returns
returns c =
    let read = parses c.args.text.now _ c.parse.ensures.value.0 c.requires.some c.requires.few c.requires.digits in
    let same = sym c.unwrap.ensures ∙ read in
    cc
