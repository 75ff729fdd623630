use Rattle.std.proofs.Common.{rules, ◌≡◌, ◌+◌, ℕ, List, length, take, drop, ◌++◌, sym, ap, subst, ◌∙◌, arith}
use Rattle.std.proofs.Math.Seq.{take-add}
use Rattle.std.proofs.lemmas.List.{drop-drop, length-take-le}
use Rattle.disk_trait.specs.Files.{Files}
use Rattle.sha2.specs.Hashers.{Holds256}
use Rattle.block_file.proofs.pieces.digest_at.Goals as goal

pub loop-done-preserved : goal.loop-done-preserved
loop-done-preserved g c =
    let inv = c.loop-done.invariant in
    record {
      within = omega (arith, c.min-count.ensures, inv.within);
      stays = search rules;
      faults = omega arith;
      holds = λ told.
          let bytes = g.D.Disk.held c.args.disk.now c.args.file in
          let done = c.loop-done.done in
          let count = c.min-count.result in
          let long : length (take count c.loop-done.piece) ≡ count = length-take-le count c.loop-done.piece (omega (arith, c.min-count.ensures)) in
          let step = c.in_ok-take_in.ensures.taken told (take done (drop c.args.offset bytes)) (inv.holds told) in
          let next : take count (drop (c.args.offset + done) bytes) ≡ take count (drop done (drop c.args.offset bytes)) = ap (take count) (sym (drop-drop done c.args.offset bytes)) in
          let more = ap (λ (l : List ℕ). take done (drop c.args.offset bytes) ++ l) next ∙ sym (take-add done count (drop c.args.offset bytes)) in
          subst (Holds256 c.take_in.new.hasher) more
          (subst (λ (n : ℕ). Holds256 c.take_in.new.hasher (take done (drop c.args.offset bytes) ++ take n (drop (c.args.offset + done) bytes))) long
          (subst (λ (f : Files). Holds256 c.take_in.new.hasher (take done (drop c.args.offset bytes) ++ take (length (take count c.loop-done.piece)) (drop (c.args.offset + done) (f c.args.file)))) inv.stays.files step));
    }
