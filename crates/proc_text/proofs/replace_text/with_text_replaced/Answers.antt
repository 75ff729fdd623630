use Rattle.std.proofs.Common.{◌+◌, ◌<◌, ◌++◌, length, drop, string_bytes, ap, sym, ◌∙◌, arith, subst}
use Rattle.std.proofs.lemmas.Str.{IsUtf8-drop}
use Rattle.std.specs.Str.{IsUtf8}
use Rattle.flowfile_record.specs.declared.TheConstants.{CONTENT_MAX}
use Rattle.expr_lang.specs.Functions.{with_replaced}
use Rattle.expr_lang.proofs.Places.{with_replaced_none, with_replaced_split, joined_step}
use Rattle.machine_model.specs.Making.{as_content}
use Rattle.proc_text.proofs.Replacing.{past-content}
use Rattle.proc_text.proofs.replace_text.with_text_replaced.Goals as goal

pub returns-then-len-gt-CONTENT_MAX : goal.returns-then-len-gt-CONTENT_MAX
returns-then-len-gt-CONTENT_MAX c =
    let search_text = c.args.search.now in
    let value = c.args.value.now in
    let step = with_replaced_split search_text value c.loop-before.rest.now _ _ c.requires c.in-Some.ensures.cases in
    let whole = joined_step _ _ _ _ _ _ _ _ c.in_ok-push_str.ensures.bytes c.in_ok-push_str-2.ensures.bytes step c.loop-before.invariant.1 in
    let long : CONTENT_MAX < length (string_bytes c.push_str-in-Some.new.self) = grind arith in
    past-content (string_bytes c.push_str-in-Some.new.self) (with_replaced search_text value c.in-Some.after.now) _ whole long

pub loop-before-preserved : goal.loop-before-preserved
loop-before-preserved c =
    let search_text = c.args.search.now in
    let rest = c.loop-before.rest.now in
    let split = c.in-Some.ensures.cases in
    let step = with_replaced_split search_text c.args.value.now rest _ _ c.requires split in
    let behind = split.4 ∙ ap (λ n. drop n rest) split.2.1.ends in
    let is_text = IsUtf8-drop rest (split.0 + length search_text) c.loop-before.invariant.0 split.2.1.after in (
      subst IsUtf8 (sym behind) is_text,
      joined_step _ _ _ _ _ _ _ _ c.in_ok-push_str.ensures.bytes c.in_ok-push_str-2.ensures.bytes step c.loop-before.invariant.1,
    )

pub returns : goal.returns
returns c =
    let last = with_replaced_none c.args.search.now c.args.value.now c.loop-before.rest.now c.requires c.in_default.ensures.cases in
    let made = c.in_ok-push_str-3.ensures.bytes ∙ ap (λ s. string_bytes c.loop-before.replaced ++ s) (sym last) ∙ c.loop-before.invariant.1 in
    c.fitting.ensures ∙ ap as_content made
