use Rattle.std.proofs.Common.{ℕ, List, ◌++◌, sym, subst}
use Rattle.engine_queues.specs.Queues.{AreQueuesOf}
use Rattle.engine_queues.specs.Settling.{MayTakeFrom}
use Rattle.engine_choice.specs.Laws.{numbers_in}
use Rattle.engine_choice.specs.declared.choice.Taking.{Taking}
use Rattle.engine_steps.specs.Checkout.{MayTakeFiles}
use Rattle.engine_steps.proofs.checkout.take.Goals as goal

pub returns-in-Files-clause-out : goal.returns-in-Files-clause-out
returns-in-Files-clause-out c flow k out may =
    let connection = c.in-Files.connection in
    let queues = c.args.queues.now in
    let new = c.check_out.new.self in
    let from : MayTakeFrom flow k out connection c.in-Files.numbers queues = subst (λ (t : Taking). MayTakeFiles flow k out t queues) c.in-Files.is may in
    let are = c.check_out.ensures.out flow k out (subst (λ (ns : List ℕ). MayTakeFrom flow k out connection ns queues) (sym c.as_slice.ensures) from) in
    let all : AreQueuesOf flow k (c.in-Files.numbers ++ out) new = subst (λ (ns : List ℕ). AreQueuesOf flow k (ns ++ out) new) c.as_slice.ensures are in
    subst (λ (t : Taking). AreQueuesOf flow k (numbers_in t ++ out) new) (sym c.in-Files.is) all
