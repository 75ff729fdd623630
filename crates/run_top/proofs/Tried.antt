-- What a trial came to.
use Rattle.std.proofs.Common.{◌≡◌, ◌⊎◌, inl, inr, ⊎_elim, ℕ, ◌≤◌, Bool, true, List, [], ◌∷◌, length, map, ap, refl, sym, ◌∙◌, subst}
use Rattle.std.specs.List.Sorted.{IsPermutation}
use Rattle.std.specs.Prelude.{IfErr, IfOk, IfSome, IsTrue, MatchOption, Option, Result, Ok, Err, Vec}
use Rattle.std.specs.declared.alloc.Global.{Global}
use Rattle.std.proofs.lemmas.List.Sorted.{length_permutation}
use Rattle.disk_trait.specs.Files.{Files}
use Rattle.disk_trait.specs.MemoryDisk.{held_by, left_by, moment_of}
use Rattle.disk_trait.specs.declared.memory.MemoryDisk.{MemoryDisk}
use Rattle.flowfile_record.specs.NamedFile.{NamedFile, bytes_of}
use Rattle.world_io.specs.Memory.{file_of}
use Rattle.machine_model.specs.State.{Machine, State}
use Rattle.machine_model.specs.Valid.{new_state}
use Rattle.machine_model.specs.declared.flow.Flow.{Flow}
use Rattle.flow_words.specs.declared.command.TheConstants.{DEFAULT_CHECKPOINT, DEFAULT_COMMITS}
use Rattle.trial_flow.specs.Trial.{IsTrialFlow}
use Rattle.run_law.specs.Ending.{IsFault}
use Rattle.run_law.specs.Puts.{Outgoing, Start}
use Rattle.run_law.specs.Run.{machine_at}
use Rattle.run_law.specs.declared.ended.Ended.{Ended}
use Rattle.run_law.specs.declared.ended.Ended.TheVariants as ending
use Rattle.flow_scheduler.specs.declared.run.Ran.{Ran}
use Rattle.run_top.specs.Opening.{IsOfFlow, IsOfStore}
use Rattle.run_top.specs.Printing.{IsLine, AnswerIsPrinted, IsRefusingAnswer, closing_text, refusal_line}
use Rattle.run_top.specs.Run.{HasEnded, IsShownAs}
use Rattle.run_top.specs.Status.{answer_of_end}
use Rattle.run_top.specs.Trial.{HasTried, IsOfTrial, IsTried, RanInMemory, any_moment, new_machine, new_start, no_disk_files, unless_fault, with_memory}
use Rattle.run_top.specs.declared.answer.Answer.{Answer}
use Rattle.run_top.specs.declared.answer.Answer.TheVariants.{Memory, Sink}
use Rattle.run_top.proofs.Empty.{none_kept}
use Rattle.run_top.proofs.Runs.{printed_at}

-- ---- devices that hold nothing

no_elements : {A : Type 0} → (xs : List A) → length xs ≡ 0 → xs ≡ []
no_elements [] none = refl
no_elements (x ∷ xs) none = absurd (cc)

none_left : (files : List (List ℕ × Vec ℕ Global)) (left : List NamedFile) → files ≡ [] → IsPermutation (map file_of files) left → left ≡ []
none_left files left none same = no_elements left (length_permutation (map file_of files) left same ∙ ap (λ (l : List (List ℕ × Vec ℕ Global)). length (map file_of l)) none)

none_stand : (files : List (List ℕ × Vec ℕ Global)) (stood : List ℕ → Option (List ℕ)) → files ≡ [] → stood ≡ bytes_of (map file_of files) → stood ≡ bytes_of []
none_stand files stood none is = is ∙ ap (λ (l : List (List ℕ × Vec ℕ Global)). bytes_of (map file_of l)) none

-- what a run from a machine came to
abbrev Ends : Flow → (lot : ℕ) → Start → (time : ℕ) → (old new : MemoryDisk) → Machine → List NamedFile → Outgoing → Ran → Type 0
Ends flow lot start time old new opened left out ran = HasEnded flow ran any_moment start time true held_by moment_of left_by lot DEFAULT_COMMITS DEFAULT_CHECKPOINT opened old new left out

module _ (flow : Flow) (lot start time : ℕ) (old new : MemoryDisk) (before left puts : List NamedFile) (stood : List ℕ → Option (List ℕ)) (out : Outgoing)
    (empty : held_by old ≡ no_disk_files) (begins : start ≡ 0) (nothing : puts ≡ []) (inbox outbox : List (List ℕ × Vec ℕ Global)) (no_inbox : inbox ≡ []) (listed : IsPermutation (map file_of inbox) before)
    (no_outbox : outbox ≡ []) (stands : stood ≡ bytes_of (map file_of outbox)) where
  abbrev at_first : Start
  at_first = record { time = start; puts = puts }

  starts : at_first ≡ new_start
  starts i = record { time = begins i; puts = nothing i }

  from_new : (ran : Ran) → Ends flow lot at_first time old new (machine_at (new_state flow lot) before stood) left out ran → RanInMemory flow lot ran
  from_new ran ended = record {
    old = old;
    new = new;
    empty = empty;
    time = time;
    left = left;
    out = out;
    ended =
        subst (λ (from : Start). Ends flow lot from time old new (new_machine flow lot) left out ran) starts
        (subst (λ (files : List NamedFile). Ends flow lot at_first time old new (machine_at (new_state flow lot) files (bytes_of [])) left out ran) (none_left inbox before no_inbox listed)
        (subst (λ (standing : List ℕ → Option (List ℕ)). Ends flow lot at_first time old new (machine_at (new_state flow lot) before standing) left out ran) (none_stand outbox stood no_outbox stands) ended));
  }

  pub ran_in_memory : (run : Result Ran Answer) → IfOk run (λ ran. IsTrue true → IsTrue true → IsTrue true → (state : State) → IsOfFlow flow lot (held_by old) state → Ends flow lot at_first time old new (machine_at state before stood) left out ran)
      → IfOk run (RanInMemory flow lot)
  ran_in_memory (Ok ran) ended =
      let of : IsOfFlow flow lot (held_by old) (new_state flow lot) = subst (λ (files : Files). IsOfFlow flow lot files (new_state flow lot)) (sym empty) (none_kept flow lot) in
      from_new ran (ended refl refl refl (new_state flow lot) of)
  ran_in_memory (Err answer) ended = tt

-- ---- a run that had memory enough

ok_unless : (P : Ran → Type 0) (ended : Ended) (ran : Ran) → P ran → IfOk (unless_fault ended ran) P
ok_unless P ending.Quiet ran has = has
ok_unless P (ending.Blocked place) ran has = has
ok_unless P (ending.Limit limit) ran has = has
ok_unless P (ending.Fault cause) ran has = tt

pub with_ok : (P : Ran → Type 0) (run : Result Ran Answer) → IfOk run P → IfOk (with_memory run) P
with_ok P (Ok ran) has = ok_unless P ran.ended ran has
with_ok P (Err answer) has = tt

ended_well : (ended : Ended) (ran : Ran) → ended ≡ ran.ended → IfOk (unless_fault ended ran) (λ r. IsFault r.ended → ⊥)
ended_well ending.Quiet ran is = subst (λ (e : Ended). IsFault e → ⊥) is (λ fault. fault)
ended_well (ending.Blocked place) ran is = subst (λ (e : Ended). IsFault e → ⊥) is (λ fault. fault)
ended_well (ending.Limit limit) ran is = subst (λ (e : Ended). IsFault e → ⊥) is (λ fault. fault)
ended_well (ending.Fault cause) ran is = tt

pub with_no_fault : (run : Result Ran Answer) → IfOk (with_memory run) (λ ran. IsFault ran.ended → ⊥)
with_no_fault (Ok ran) = ended_well ran.ended ran refl
with_no_fault (Err answer) = tt

memory_unless : (ended : Ended) (ran : Ran) → IfErr (unless_fault ended ran) (λ answer. answer ≡ Memory)
memory_unless ending.Quiet ran = tt
memory_unless (ending.Blocked place) ran = tt
memory_unless (ending.Limit limit) ran = tt
memory_unless (ending.Fault cause) ran = refl

pub with_memory_alone : (run : Result Ran Answer) → IfErr (with_memory run) (λ answer. answer ≡ Memory)
with_memory_alone (Ok ran) = memory_unless ran.ended ran
with_memory_alone (Err answer) = refl

pub of_store : (run : Result Ran Answer) → IfErr run (λ a. a ≡ Memory) → IfErr run IsOfStore
of_store (Ok ran) memory = tt
of_store (Err answer) memory = subst IsOfStore (sym memory) tt

-- ---- what it came to

pub tried : (count lot : ℕ) (flow : Flow) (run : Result Ran Answer) (answer : Answer) (sink_tells : Bool) (before after : List ℕ) → IsTrialFlow count flow
    → IfOk run (RanInMemory flow lot) → IfOk run (λ ran. MatchOption ran.closed (IsFault ran.ended) (λ closed. IsFault ran.ended → ⊥)) → IfErr run (λ a. a ≡ Memory) → IsShownAs run answer
    → IfOk run (λ ran. IfSome ran.closed (λ closed. IsTrue sink_tells → AnswerIsPrinted answer (closing_text flow ran.ended closed) before after))
    → HasTried count lot answer sink_tells before after ⊎ (answer ≡ Memory)
tried count lot flow (Ok ran) answer sink_tells before after is in_memory closes memory told printed =
    let ends = in_memory.ended in
    inl (record {
      flow = flow;
      is = is;
      old = in_memory.old;
      new = in_memory.new;
      empty = in_memory.empty;
      time = in_memory.time;
      left = in_memory.left;
      out = in_memory.out;
      shown = record {
        ended = ran.ended;
        told = told;
        ends = ends.ends;
        printed = printed_at flow answer ran.ended ends.ends.ran.reached ends.ends.journal ran.closed sink_tells before after closes ends.shows printed;
      };
    })
tried count lot flow (Err instead) answer sink_tells before after is in_memory closes memory told printed = inr (told ∙ memory)

end_of_trial : (ended : Ended) → (IsFault ended → ⊥) → IsOfTrial (answer_of_end ended)
end_of_trial ending.Quiet no_fault = tt
end_of_trial (ending.Blocked place) no_fault = tt
end_of_trial (ending.Limit limit) no_fault = tt
end_of_trial (ending.Fault cause) no_fault = absurd (no_fault tt)

pub of_trial : (run : Result Ran Answer) (answer : Answer) → IfOk run (λ ran. IsFault ran.ended → ⊥) → IfErr run (λ a. a ≡ Memory) → IsShownAs run answer → IsOfTrial answer
of_trial (Ok ran) answer no_fault memory told = ⊎_elim
    (λ (is : answer ≡ answer_of_end ran.ended). subst IsOfTrial (sym is) (end_of_trial ran.ended no_fault))
    (λ (sink : (answer ≡ Sink) × (IsFault ran.ended → ⊥)). subst IsOfTrial (sym sink.0) tt)
    told
of_trial (Err instead) answer no_fault memory told = subst IsOfTrial (sym (told ∙ memory)) tt

pub memory_line : {S : Type 0} (faults : S → ℕ) (written : S → List ℕ) (old new : S) (answer : Answer) → (IsRefusingAnswer answer → IsLine faults written (refusal_line answer) old new) → answer ≡ Memory → IsLine faults written (refusal_line answer) old new
memory_line faults written old new answer line is = line (subst IsRefusingAnswer (sym is) tt)

-- there was no memory for the flow
pub memory_alone : {S : Type 0} (count lot : ℕ) (sink_tells : Bool) (written : S → List ℕ) (faults : S → ℕ) (old new : S) (answer : Answer) → answer ≡ Memory
    → (IsTrue sink_tells → IsLine faults written (refusal_line Memory) old new) → faults old ≤ faults new → IsTried answer count lot sink_tells written faults old new
memory_alone count lot sink_tells written faults old new answer is line rises = record {
  headline = inr is;
  one_of = subst IsOfTrial (sym is) tt;
  line = λ same told. subst (λ (a : Answer). IsLine faults written (refusal_line a) old new) (sym is) (line told);
  faults = record { never_falls = rises; rose = λ sink. absurd (cc (is, sink)) };
}
