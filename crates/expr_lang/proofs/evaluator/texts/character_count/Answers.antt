use Rattle.std.proofs.Common.{◌≡◌, ◌<◌, ◌^◌, Ok, length, pos, w64, ap, sym, ◌∙◌, rules, arith}
use Rattle.std.proofs.lemmas.Int.{to_z_pos}
use Rattle.std.proofs.lemmas.Str.{chars_from_encodes}
use Rattle.std.specs.Str.{chars}
use Rattle.expr_lang.specs.Value.{number}
use Rattle.expr_lang.proofs.evaluator.texts.character_count.Goals as goal

pub returns : goal.returns
returns c =
    let count : c.count.result ≡ length (chars c.as_str.result.now) = search (rules, chars_from_encodes) in
    let same = c.as_str.ensures.value ∙ c.in_ok-text.ensures in
    let few : c.count.result < 2 ^ 63 = omega (arith, c.as_str.type_inv, c.chars.ensures.len, c.count.ensures.bound) in
    ap (λ z. Ok (number z)) (ap (λ s. pos (length (chars s))) (sym same) ∙ ap pos (sym count) ∙ sym (to_z_pos w64 c.count.result few))
