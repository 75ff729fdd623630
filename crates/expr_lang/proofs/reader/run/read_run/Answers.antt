use Rattle.std.proofs.Common.{◌≡◌, ◌++◌, true, false, sym, ◌∙◌, ap, append_assoc, string_bytes, encode_utf8, rules}
use Rattle.std.proofs.lemmas.List.{append-nil}
use Rattle.expr_lang.specs.Reading.{front_while}
use Rattle.expr_lang.specs.Runs.{is_in}
use Rattle.expr_lang.proofs.Chars.{run_low, front_passing, front_failing, behind_passing, behind_failing}
use Rattle.expr_lang.proofs.reader.run.read_run.Goals as goal

pub returns-then-not-has-clause-run : goal.returns-then-not-has-clause-run
returns-then-not-has-clause-run c =
    let fails : is_in c.args.run c.in-Some.c ≡ false = search rules in
    sym (c.loop-c.invariant.front
    ∙ ap (λ l. string_bytes c.loop-c.front ++ l) (front_failing (is_in c.args.run) (run_low c.args.run) c.in-Some.c c.loop-c.rest.now c.in-Some.behind.now c.in-Some.ensures fails)
    ∙ append-nil (string_bytes c.loop-c.front))

pub returns-then-not-has-clause-behind : goal.returns-then-not-has-clause-behind
returns-then-not-has-clause-behind c =
    let fails : is_in c.args.run c.in-Some.c ≡ false = search rules in
    sym (c.loop-c.invariant.behind ∙ behind_failing (is_in c.args.run) (run_low c.args.run) c.in-Some.c c.loop-c.rest.now c.in-Some.behind.now c.in-Some.ensures fails)

pub loop-c-preserved : goal.loop-c-preserved
loop-c-preserved c =
    let passes : is_in c.args.run c.in-Some.c ≡ true = search rules in
    let tail = front_while (is_in c.args.run) c.in-Some.behind.now in
    record {
      text = search rules;
      front =
          c.loop-c.invariant.front
          ∙ ap (λ l. string_bytes c.loop-c.front ++ l) (front_passing (is_in c.args.run) (run_low c.args.run) c.in-Some.c c.loop-c.rest.now c.in-Some.behind.now c.in-Some.ensures passes)
          ∙ sym (append_assoc (string_bytes c.loop-c.front) (encode_utf8 c.in-Some.c) tail)
          ∙ ap (λ l. l ++ tail) (sym c.in_ok-push.ensures.bytes);
      behind = c.loop-c.invariant.behind ∙ behind_passing (is_in c.args.run) (run_low c.args.run) c.in-Some.c c.loop-c.rest.now c.in-Some.behind.now c.in-Some.ensures passes;
    }
