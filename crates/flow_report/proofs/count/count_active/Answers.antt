use Rattle.std.proofs.Common.{◌==◌, ◌+◌, ◌^◌, ℕ, ◌∙◌, length, ap, arith, rules}
use Rattle.flow_report.specs.Counts.{counted_bytes, files_at}
use Rattle.flow_report.proofs.Counting.{count-step, sum-step, bound-step}
use Rattle.flow_report.proofs.count.count_active.Goals as goal

pub loop-active-preserved : goal.loop-active-preserved
loop-active-preserved c =
    let inv = c.loop-active.invariant in
    let x = c.in-Some.active.now in
    let first = c.args.first in
    let same = λ (at : ℕ). ap (λ (n : ℕ). x.connection == n + at) inv.first in
    let files = λ (at : ℕ). files_at c.loop-active.counts at in
    let bytes = λ (at : ℕ). counted_bytes c.loop-active.counts at in
    record {
      next = search rules;
      finite = search rules;
      first = c.add.ensures.first ∙ inv.first;
      files = λ at lt. count-step (λ active. active.connection == first + at) x c.loop-active.active-iterator c.next.new.self _ (files at) _ _ c.in-Some.ensures.steps (same at) (c.add.ensures.files at lt) (inv.files at lt);
      bytes = λ at lt. sum-step (λ active. active.connection == first + at) (λ active. active.file.content.size) x c.loop-active.active-iterator c.next.new.self _ (bytes at) _ _ c.in-Some.ensures.steps (same at) (c.add.ensures.bytes at lt) (inv.bytes at lt);
      few = λ at lt.
          omega (arith, bound-step x c.loop-active.active-iterator c.next.new.self _ (files at) 1 _ (length c.args.files.now.items) 1 c.in-Some.ensures.steps (omega arith) (c.add.ensures.files at lt) (omega (arith, inv.few at lt)));
      fits = λ at lt. bound-step x c.loop-active.active-iterator c.next.new.self _ (bytes at) _ _ _ (2 ^ 64) c.in-Some.ensures.steps (omega arith) (c.add.ensures.bytes at lt) (inv.fits at lt);
    }

pub add-requires-clause-files : goal.add-requires-clause-files
add-requires-clause-files c at lt = omega (arith, c.loop-active.invariant.few at lt)

pub add-requires-clause-bytes : goal.add-requires-clause-bytes
add-requires-clause-bytes c at lt =
    let long = ap length c.in-Some.ensures.steps in omega (arith, c.loop-active.invariant.fits at lt, long)
