use Rattle.std.proofs.Common.{◌∙◌, arith}
use Rattle.std.proofs.lemmas.List.{length-take}
use Rattle.std.proofs.lemmas.Result.{err_from_is_err_and}
use Rattle.run_top.proofs.Reading.{faults_in_turn, text_ends, text_full}
use Rattle.run_top.proofs.text.read_text.Goals as goal

pub pieces-smaller : goal.pieces-smaller
pieces-smaller g c =
    let longer = c.in_ok-read_more.ensures.longer c.if-not-branch.false in
    omega arith

pub pieces-preserved : goal.pieces-preserved
pieces-preserved g c = record {
  within = let w = c.in_ok-read_more.ensures.within in omega (arith, w, length-take c.min-room.result c.pieces.piece);
  read = λ told. c.pieces.invariant.read told ∙ c.in_ok-read_more.ensures.text told;
  faults = omega (arith, c.pieces.invariant.faults, c.read_more.ensures.cause.never_falls);
}

pub returns-in_err-read_more-clause-cause : goal.returns-in_err-read_more-clause-cause
returns-in_err-read_more-clause-cause g c =
    let p = err_from_is_err_and c.from_residual-in_err-read_more.result c.from_residual-in_err-read_more.ensures.1 in
    faults_in_turn _ _ _ c.pieces.invariant.faults c.read_more.ensures.cause (λ is. cc (p.1, p.2, is, c.in_err-read_more.was))

pub returns-then-not-branch-clause-text : goal.returns-then-not-branch-clause-text
returns-then-not-branch-clause-text g c told =
    text_ends (g.F.Source.rest c.args.source.now) c.read_more.new.text.items (g.F.Source.rest c.read_more.new.source) 4194305
    (c.pieces.invariant.read told ∙ c.in_ok-read_more.ensures.text told) (c.in_ok-read_more.ensures.end c.if-not-branch.true told)
    (let w = c.in_ok-read_more.ensures.within in omega (arith, w, length-take c.min-room.result c.pieces.piece))

pub returns-then-not-branch-clause-cause : goal.returns-then-not-branch-clause-cause
returns-then-not-branch-clause-cause g c = faults_in_turn _ _ _ c.pieces.invariant.faults c.read_more.ensures.cause (λ is. absurd (cc))

pub returns-clause-text : goal.returns-clause-text
returns-clause-text g c told =
    text_full (g.F.Source.rest c.args.source.now) c.pieces.text.items (g.F.Source.rest c.pieces.source) 4194305 (c.pieces.invariant.read told) c.pieces.invariant.within (omega arith)

pub returns-clause-cause : goal.returns-clause-cause
returns-clause-cause g c = record { never_falls = c.pieces.invariant.faults; rose = λ is. absurd (cc) }
