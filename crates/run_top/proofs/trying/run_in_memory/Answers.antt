use Rattle.std.proofs.Common.{◌≡◌, subst, sym}
use Rattle.std.proofs.lemmas.Result.{IfOk-weaker}
use Rattle.std.specs.Prelude.{IfErr, IfOk, MatchOption, Result}
use Rattle.world_io.specs.MemoryInbox.{files_left}
use Rattle.world_io.specs.MemoryOutbox.{files_put, standing_in}
use Rattle.flow_scheduler.specs.declared.run.Ran.{Ran}
use Rattle.run_law.specs.Ending.{IsFault}
use Rattle.run_law.specs.Puts.{outgoing}
use Rattle.run_top.specs.Trial.{RanInMemory}
use Rattle.run_top.specs.declared.answer.Answer.{Answer}
use Rattle.run_top.specs.declared.answer.Answer.TheVariants.{Memory}
use Rattle.run_top.proofs.Tried.{ran_in_memory, with_memory_alone, with_no_fault, with_ok}
use Rattle.run_top.proofs.trying.run_in_memory.Goals as goal

pub returns-clause-ran : goal.returns-clause-ran
returns-clause-ran g c =
    let run = c.run_over-run in
    subst (λ (r : Result Ran Answer). IfOk r (RanInMemory c.args.flow.now c.args.lot)) (sym c.with_memory.ensures)
    (with_ok (RanInMemory c.args.flow.now c.args.lot) run.result
    (ran_in_memory c.args.flow.now c.args.lot c.new-clock.result.time run.new.clock.time c.new-disk.result run.new.disk (files_left c.new-inbox.result) (files_left run.new.inbox) (files_put c.new-outbox.result)
    (standing_in c.new-outbox.result) (outgoing standing_in files_put run.new.outbox) c.new-disk.ensures.held c.new-clock.ensures.time c.new-outbox.ensures.puts c.new-offered.result.items c.new-standing.result.items
    c.new-offered.ensures.items c.new-inbox.ensures.left c.new-standing.ensures.items c.new-outbox.ensures.standing run.result (IfOk-weaker run.result _ _ (λ ran over. over.ended) run.ensures.ran)))

pub returns-clause-closed : goal.returns-clause-closed
returns-clause-closed g c =
    let P : Ran → Type 0 = λ ran. MatchOption ran.closed (IsFault ran.ended) (λ closed. IsFault ran.ended → ⊥) in
    subst (λ (r : Result Ran Answer). IfOk r P) (sym c.with_memory.ensures) (with_ok P c.run_over-run.result (IfOk-weaker c.run_over-run.result _ _ (λ ran over. over.closed) c.run_over-run.ensures.ran))

pub returns-clause-no_fault : goal.returns-clause-no_fault
returns-clause-no_fault g c = subst (λ (r : Result Ran Answer). IfOk r (λ ran. IsFault ran.ended → ⊥)) (sym c.with_memory.ensures) (with_no_fault c.run_over-run.result)

pub returns-clause-memory : goal.returns-clause-memory
returns-clause-memory g c = subst (λ (r : Result Ran Answer). IfErr r (λ answer. answer ≡ Memory)) (sym c.with_memory.ensures) (with_memory_alone c.run_over-run.result)
