use Rattle.std.proofs.Common.{◌≡◌, ◌++◌, ◌&&◌, ◌==◌, false, sym, ◌∙◌, ap, append_assoc, string_bytes, encode_utf8, rules}
use Rattle.expr_lang.specs.Reading.{is_special, plain_front}
use Rattle.expr_lang.proofs.Chars.{length_behind, plain_char}
use Rattle.expr_lang.proofs.reader.read_plain.Goals as goal

pub loop-c-smaller : goal.loop-c-smaller
loop-c-smaller c = length_behind c.in-Some.c c.loop-c.rest.now c.in-Some.behind.now c.in-Some.ensures

pub loop-c-preserved : goal.loop-c-preserved
loop-c-preserved c =
    let test : ((c.in-Some.c == 36) && is_special c.in-Some.behind.now) ≡ false = search rules in
    let step = plain_char c.in-Some.c c.loop-c.rest.now c.in-Some.behind.now c.in-Some.ensures test in
    let tail = plain_front c.in-Some.behind.now in
    record {
      text = search rules;
      front =
          c.loop-c.invariant.front
          ∙ ap (λ l. string_bytes c.loop-c.plain ++ l) step.0
          ∙ sym (append_assoc (string_bytes c.loop-c.plain) (encode_utf8 c.in-Some.c) tail)
          ∙ ap (λ l. l ++ tail) (sym c.in_ok-push.ensures.bytes);
      behind = c.loop-c.invariant.behind ∙ step.1;
    }
