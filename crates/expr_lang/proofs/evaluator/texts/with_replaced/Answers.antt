use Rattle.std.proofs.Common.{◌+◌, ◌<◌, ◌++◌, length, drop, string_bytes, ap, sym, ◌∙◌, arith, subst}
use Rattle.std.proofs.lemmas.Str.{IsUtf8-drop}
use Rattle.std.specs.Str.{IsUtf8}
use Rattle.expr_lang.specs.Functions.{with_replaced}
use Rattle.expr_lang.specs.Gives.{Gives}
use Rattle.expr_lang.specs.Seen.{seen}
use Rattle.expr_lang.specs.Value.{bounded}
use Rattle.expr_lang.proofs.Places.{with_replaced_none, with_replaced_split, joined_step, too_long}
use Rattle.expr_lang.proofs.evaluator.texts.with_replaced.Goals as goal

pub returns-then-len-gt-VALUE_MAX : goal.returns-then-len-gt-VALUE_MAX
returns-then-len-gt-VALUE_MAX c =
    let from = c.args.from.now in
    let to = c.args.to.now in
    let step = with_replaced_split from to c.loop-before.rest.now _ _ c.requires c.in-Some.ensures.cases in
    let whole = joined_step _ _ _ _ _ _ _ _ c.in_ok-push_str.ensures.bytes c.in_ok-push_str-2.ensures.bytes step c.loop-before.invariant.1 in
    let long : 65536 < length (string_bytes c.push_str-in-Some.new.self) = grind arith in
    too_long (string_bytes c.push_str-in-Some.new.self) (with_replaced from to c.in-Some.after.now) _ whole long

pub loop-before-preserved : goal.loop-before-preserved
loop-before-preserved c =
    let from = c.args.from.now in
    let rest = c.loop-before.rest.now in
    let split = c.in-Some.ensures.cases in
    let step = with_replaced_split from c.args.to.now rest _ _ c.requires split in
    let behind = split.4 ∙ ap (λ n. drop n rest) split.2.1.ends in
    let is_text = IsUtf8-drop rest (split.0 + length from) c.loop-before.invariant.0 split.2.1.after in (
      subst IsUtf8 (sym behind) is_text,
      joined_step _ _ _ _ _ _ _ _ c.in_ok-push_str.ensures.bytes c.in_ok-push_str-2.ensures.bytes step c.loop-before.invariant.1,
    )

pub returns : goal.returns
returns c =
    let last = with_replaced_none c.args.from.now c.args.to.now c.loop-before.rest.now c.requires c.in_default.ensures.cases in
    let made = c.in_ok-push_str-3.ensures.bytes ∙ ap (λ s. string_bytes c.loop-before.replaced ++ s) (sym last) ∙ c.loop-before.invariant.1 in
    subst (λ s. Gives seen c.bounded.result (bounded s)) made c.bounded.ensures
