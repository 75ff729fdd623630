use Rattle.std.proofs.Common.{◌==◌, ◌+◌, ◌^◌, ℕ, ◌∙◌, length, ap, arith, rules}
use Rattle.flow_report.specs.Counts.{counted_bytes, files_at}
use Rattle.flow_report.proofs.Counting.{sum-step, bound-step}
use Rattle.flow_report.proofs.count.count_swapped.Goals as goal

pub loop-batch-preserved : goal.loop-batch-preserved
loop-batch-preserved c =
    let inv = c.loop-batch.invariant in
    let x = c.in-Some.batch.now in
    let first = c.args.first in
    let same = λ (at : ℕ). ap (λ (n : ℕ). x.connection == n + at) inv.first in
    let files = λ (at : ℕ). files_at c.loop-batch.counts at in
    let bytes = λ (at : ℕ). counted_bytes c.loop-batch.counts at in
    record {
      next = search rules;
      finite = search rules;
      first = c.add.ensures.first ∙ inv.first;
      files = λ at lt. sum-step (λ batch. batch.connection == first + at) (λ batch. batch.files) x c.loop-batch.batch-iterator c.next.new.self _ (files at) _ _ c.in-Some.ensures.steps (same at) (c.add.ensures.files at lt) (inv.files at lt);
      bytes = λ at lt. sum-step (λ batch. batch.connection == first + at) (λ batch. batch.bytes) x c.loop-batch.batch-iterator c.next.new.self _ (bytes at) _ _ c.in-Some.ensures.steps (same at) (c.add.ensures.bytes at lt) (inv.bytes at lt);
      few = λ at lt. bound-step x c.loop-batch.batch-iterator c.next.new.self _ (files at) _ _ _ (2 ^ 64) c.in-Some.ensures.steps (omega arith) (c.add.ensures.files at lt) (inv.few at lt);
      fits = λ at lt. bound-step x c.loop-batch.batch-iterator c.next.new.self _ (bytes at) _ _ _ (2 ^ 64) c.in-Some.ensures.steps (omega arith) (c.add.ensures.bytes at lt) (inv.fits at lt);
    }

pub add-requires-clause-files : goal.add-requires-clause-files
add-requires-clause-files c at lt =
    let long = ap length c.in-Some.ensures.steps in omega (arith, c.loop-batch.invariant.few at lt, long)

pub add-requires-clause-bytes : goal.add-requires-clause-bytes
add-requires-clause-bytes c at lt =
    let long = ap length c.in-Some.ensures.steps in omega (arith, c.loop-batch.invariant.fits at lt, long)
