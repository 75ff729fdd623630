use Rattle.std.proofs.Common.{◌+◌, List, ℕ, [], length, subst, sym, arith}
use Rattle.disk_trait.specs.Files.{At, Overwritten, Torn}
use Rattle.disk_trait.specs.Images.{After, Since}
use Rattle.checkpoint_store.specs.Put.{IsPut}
use Rattle.checkpoint_store.proofs.Puts.{put_stopped, put_written, reaches_behind}
use Rattle.checkpoint_store.proofs.output.Output.write_piece.Goals as goal

pub returns-in_err-write-clause-left : goal.returns-in_err-write-clause-left
returns-in_err-write-clause-left g c start bytes put =
    put_stopped g.D.Disk.tells g.D.Disk.held g.D.Disk.moment g.D.Disk.images c.args.self.now.file start c.args.disk.now c.write.new.self c.args.self.now.offset c.args.self.now.piece.items bytes put
    (subst (λ (l : List ℕ). Since g.D.Disk.moment g.D.Disk.images c.args.disk.now c.write.new.self (After (At c.args.self.now.file (Torn c.args.self.now.offset (length l))) (g.D.Disk.images c.args.disk.now (g.D.Disk.moment c.args.disk.now)))) c.as_slice.ensures.value c.write.ensures.images)

pub returns-clause-left : goal.returns-clause-left
returns-clause-left g c start bytes put =
    put_stopped g.D.Disk.tells g.D.Disk.held g.D.Disk.moment g.D.Disk.images c.args.self.now.file start c.args.disk.now c.write.new.self c.args.self.now.offset c.args.self.now.piece.items bytes put
    (subst (λ (l : List ℕ). Since g.D.Disk.moment g.D.Disk.images c.args.disk.now c.write.new.self (After (At c.args.self.now.file (Torn c.args.self.now.offset (length l))) (g.D.Disk.images c.args.disk.now (g.D.Disk.moment c.args.disk.now)))) c.as_slice.ensures.value c.write.ensures.images)

pub returns-clause-put : goal.returns-clause-put
returns-clause-put g c = λ start bytes put.
    let done = put_written g.D.Disk.tells g.D.Disk.held g.D.Disk.moment g.D.Disk.images c.args.self.now.file start c.args.disk.now c.write.new.self c.args.self.now.offset c.args.self.now.piece.items bytes put
    (λ told. subst (λ (l : List ℕ). At c.args.self.now.file (Overwritten c.args.self.now.offset l) (g.D.Disk.held c.args.disk.now) (g.D.Disk.held c.write.new.self)) c.as_slice.ensures.value (c.in_ok-write.ensures.written told))
    (subst (λ (l : List ℕ). Since g.D.Disk.moment g.D.Disk.images c.args.disk.now c.write.new.self (After (At c.args.self.now.file (Torn c.args.self.now.offset (length l))) (g.D.Disk.images c.args.disk.now (g.D.Disk.moment c.args.disk.now)))) c.as_slice.ensures.value c.write.ensures.images) in
    subst (λ (l : List ℕ). IsPut g.D.Disk.tells g.D.Disk.held g.D.Disk.moment g.D.Disk.images c.args.self.now.file start c.write.new.self (c.args.self.now.offset + c.len.result) l bytes) (sym c.clear.ensures.items)
    (subst (λ (n : ℕ). IsPut g.D.Disk.tells g.D.Disk.held g.D.Disk.moment g.D.Disk.images c.args.self.now.file start c.write.new.self n [] bytes) (omega (arith, c.len.ensures)) done)

pub returns-clause-reaches : goal.returns-clause-reaches
returns-clause-reaches g c told =
    let behind = reaches_behind c.args.self.now.offset c.as_slice.result.now (g.D.Disk.held c.args.disk.now c.args.self.now.file) (g.D.Disk.held c.write.new.self c.args.self.now.file)
    (c.requires.within told) (c.in_ok-write.ensures.written told).here in
    omega (arith, behind, c.as_slice.ensures.len, c.len.ensures)
