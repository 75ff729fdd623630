use Rattle.std.proofs.Common.{◌≡◌, ℕ, List, Bor, String, Global, ◌++◌, sym, ◌∙◌, ap, rules, string_bytes, encode_utf8}
use Rattle.expr_lang.specs.Reading.{body_read, with_front}
use Rattle.expr_lang.proofs.Chars.{body_marked, body_char, body_unread, body_shorter, body_of_nothing, with_front_end, with_front_more}
use Rattle.expr_lang.proofs.Stopped.{stopped_along, passed_on}
use Rattle.expr_lang.proofs.reader.quoted.read_body.Goals as goal

pub returns-then-c-mark : goal.returns-then-c-mark
returns-then-c-mark c =
    c.loop-c.invariant.same
    ∙ ap (with_front (string_bytes c.loop-c.body)) (body_marked c.args.mark c.in-Some.c c.loop-c.rest.now c.in-Some.behind.now c.in-Some.ensures c.requires c.if-c-mark.true)
    ∙ with_front_end (string_bytes c.loop-c.body) c.in-Some.behind.now

pub returns-in_err-c : goal.returns-in_err-c
returns-in_err-c c =
    passed_on (λ x. (string_bytes x.0, x.1.now)) c.from_residual.result c.in_err-c.field-0.0 _ c.from_residual.ensures.1
    (stopped_along (ℕ × Bor (List ℕ)) (ℕ × List ℕ) (String Global × Bor (List ℕ)) (List ℕ × List ℕ) (λ x. (x.0, x.1.now)) (λ x. (string_bytes x.0, x.1.now)) c.in_err-c.field-0.0 _ (body_read c.args.mark c.args.text.now)
    (λ none. c.loop-c.invariant.same ∙ ap (with_front (string_bytes c.loop-c.body)) (body_unread c.args.mark c.in-Some.c c.loop-c.rest.now c.in-Some.behind.now c.in-Some.ensures c.requires c.if-c-mark.false none))
    c.in_err-c.ensures)

pub loop-c-smaller : goal.loop-c-smaller
loop-c-smaller c = body_shorter c.args.mark c.in-Some.c c.loop-c.rest.now c.in-Some.behind.now c.in-Some.ensures c.requires c.in_ok-c.c c.in_ok-c.behind.now c.in_ok-c.ensures

pub loop-c-preserved : goal.loop-c-preserved
loop-c-preserved c = record {
  text = search rules;
  same =
      let more : string_bytes c.push.new.self ≡ string_bytes c.loop-c.body ++ encode_utf8 c.in_ok-c.c = search rules in
      c.loop-c.invariant.same
      ∙ ap (with_front (string_bytes c.loop-c.body)) (body_char c.args.mark c.in-Some.c c.loop-c.rest.now c.in-Some.behind.now c.in-Some.ensures c.requires c.if-c-mark.false c.in_ok-c.c c.in_ok-c.behind.now c.in_ok-c.ensures)
      ∙ sym (with_front_more (string_bytes c.loop-c.body) (encode_utf8 c.in_ok-c.c) (body_read c.args.mark c.in_ok-c.behind.now))
      ∙ ap (λ l. with_front l (body_read c.args.mark c.in_ok-c.behind.now)) (sym more);
}

pub returns : goal.returns
returns c =
    c.loop-c.invariant.same
    ∙ ap (with_front (string_bytes c.loop-c.body)) (body_of_nothing c.args.mark c.loop-c.rest.now c.in_default.ensures)
