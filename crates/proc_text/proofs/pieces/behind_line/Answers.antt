use Rattle.std.proofs.Common.{◌≡◌, false, refl, subst}
use Rattle.std.specs.Prelude.{All, ◌==◌}
use Rattle.std.proofs.lemmas.List.{take_all}
use Rattle.proc_text.proofs.Lines.{line-first, line-last, no-feed}
use Rattle.proc_text.proofs.pieces.behind_line.Goals as goal

pub returns-then-byte-eq-LINE_FEED : goal.returns-then-byte-eq-LINE_FEED
returns-then-byte-eq-LINE_FEED c =
    line-first c.args.content.now c.loop-place.place c.split_at.result.1.now c.loop-place-test.true c.loop-place.invariant c.if-byte-eq-LINE_FEED.true c.split_at.ensures.back

pub loop-place-preserved : goal.loop-place-preserved
loop-place-preserved c = no-feed c.args.content.now c.loop-place.place c.loop-place-test.true c.loop-place.invariant c.if-byte-eq-LINE_FEED.false

pub returns : goal.returns
returns c =
    line-last c.args.content.now _ c.requires
    (subst (All (λ byte. (byte == 10) ≡ false)) (take_all c.loop-place.place c.args.content.now c.loop-place-test.false) c.loop-place.invariant) refl
