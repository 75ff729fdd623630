use Rattle.std.proofs.Common.{refl, subst}
use Rattle.std.proofs.lemmas.Result.{on_ok_weaker}
use Rattle.machine_model.specs.declared.kind.Kind.TheVariants.{SplitText}
use Rattle.proc_text.specs.declared.pieces.Cut.TheVariants.{Lines}
use Rattle.proc_text.specs.Parting.{taken_in}
use Rattle.proc_text.specs.Pieces.{pieces_in}
use Rattle.proc_text.proofs.Began.{began-one}
use Rattle.proc_text.proofs.PartsEnd.{EndsParted}
use Rattle.proc_text.proofs.PartsOwed.{began-read, split-acts}
use Rattle.proc_text.proofs.split_text.SplitTextActs.act.Goals as goal

pub part-requires-clause-one : goal.part-requires-clause-one
part-requires-clause-one c = began-one (SplitText c.args.self.now.lines) c.args.session.now c.args._given.now refl c.requires

pub part-requires-clause-read : goal.part-requires-clause-read
part-requires-clause-read c = began-read (SplitText c.args.self.now.lines) c.args.session.now c.args._given.now refl c.requires

pub returns-clause-acts : goal.returns-clause-acts
returns-clause-acts c =
    on_ok_weaker c.part.result
    (λ ends. split-acts c.args.self.now.lines c.args.session.now c.args._given.now c.part.new.session c.requires
    (subst (λ n. EndsParted c.args.session.now c.part.new.session 0 1 (pieces_in (Lines n) (taken_in c.args.session.now).bytes)) c.from.ensures ends)) c.part.ensures
