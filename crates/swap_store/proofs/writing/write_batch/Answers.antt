use Rattle.std.proofs.Common.{ℕ, List, length, subst}
use Rattle.disk_trait.specs.Files.{At, Overwritten, Torn}
use Rattle.disk_trait.specs.Images.{After, Since}
use Rattle.swap_store.specs.Batch.{swap_file}
use Rattle.swap_store.proofs.ReadBack.{stands_written}
use Rattle.swap_store.proofs.writing.write_batch.Goals as goal

pub returns-clause-written : goal.returns-clause-written
returns-clause-written g c told =
    subst (λ (l : List ℕ). At (swap_file c.args.batch) (Overwritten 0 l) (g.D.Disk.held c.args.disk.now) (g.D.Disk.held c.write.new.self)) c.bytes.ensures.bytes (c.in_ok-write.ensures.written told)

pub returns-clause-stands : goal.returns-clause-stands
returns-clause-stands g c told =
    let file = swap_file c.args.batch in
    stands_written file c.args.blocks.now (g.D.Disk.held c.args.disk.now file) (g.D.Disk.held c.write.new.self file) c.bytes.ensures.batch (returns-clause-written g c told).here

pub returns-clause-torn : goal.returns-clause-torn
returns-clause-torn g c told =
    subst (λ (l : List ℕ). At (swap_file c.args.batch) (Torn 0 (length l)) (g.D.Disk.held c.args.disk.now) (g.D.Disk.held c.write.new.self)) c.bytes.ensures.bytes (c.write.ensures.torn told)

pub returns-in_err-write-clause-torn : goal.returns-in_err-write-clause-torn
returns-in_err-write-clause-torn g c told =
    subst (λ (l : List ℕ). At (swap_file c.args.batch) (Torn 0 (length l)) (g.D.Disk.held c.args.disk.now) (g.D.Disk.held c.write.new.self)) c.bytes.ensures.bytes (c.write.ensures.torn told)

pub returns-clause-images : goal.returns-clause-images
returns-clause-images g c =
    let old = c.args.disk.now in
    subst (λ (l : List ℕ). Since g.D.Disk.moment g.D.Disk.images old c.write.new.self (After (At (swap_file c.args.batch) (Torn 0 (length l))) (g.D.Disk.images old (g.D.Disk.moment old)))) c.bytes.ensures.bytes c.write.ensures.images

pub returns-in_err-write-clause-images : goal.returns-in_err-write-clause-images
returns-in_err-write-clause-images g c =
    let old = c.args.disk.now in
    subst (λ (l : List ℕ). Since g.D.Disk.moment g.D.Disk.images old c.write.new.self (After (At (swap_file c.args.batch) (Torn 0 (length l))) (g.D.Disk.images old (g.D.Disk.moment old)))) c.bytes.ensures.bytes c.write.ensures.images
