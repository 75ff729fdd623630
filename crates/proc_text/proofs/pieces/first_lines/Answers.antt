use Rattle.std.proofs.Common.{rules, ◌≡◌, ◌+◌, ◌-◌, inl, inr, length, refl, arith}
use Rattle.std.specs.Prelude.{◌⊎◌}
use Rattle.proc_text.proofs.Lines.{counting-ends, counting-more}
use Rattle.proc_text.proofs.pieces.first_lines.Goals as goal
use Rattle.proc_text.proofs.pieces.first_lines.Goals.{then-loop-count-test+else-not-is_empty, else-loop-count-test}

pub loop-count-preserved : goal.loop-count-preserved
loop-count-preserved c = record {
  counting = counting-more c.args.content.now c.loop-count.rest.now c.behind_line-rest.result.now c.loop-count.count (c.loop-count.count + 1) c.loop-count.invariant.counting c.behind_line-rest.ensures refl;
  few = omega (arith, c.loop-count-test.true);
}

pub returns-clause-piece : goal.returns-clause-piece
returns-clause-piece c =
    let end : (c.loop-count.count ≡ c.args.lines) ⊎ (length c.loop-count.rest.now ≡ 0) = elim c.loop-count-test.branch [
      | then-loop-count-test+else-not-is_empty w ↦ inr (search rules)
      | else-loop-count-test w ↦ inl (omega (arith, w.loop-count-test.false, c.loop-count.invariant.few))
    ] in
    counting-ends c.args.content.now c.loop-count.rest.now c.loop-count.count c.args.lines (length c.args.content.now - length c.loop-count.rest.now) c.loop-count.invariant.counting c.loop-count.invariant.few c.requires.some c.requires.filled end refl
