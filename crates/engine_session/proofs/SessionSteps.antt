-- That a session whose change was made is a step of the machine.
use Rattle.std.proofs.Common.{◌≡◌, ℕ, zero, suc, List, [], ◌∷◌, length, map, refl, sym, ◌∙◌, ap, subst}
use Rattle.std.specs.Prelude.{All, MatchOption, Option, Some, option_and_then, option_map, slice_get}
use Rattle.std.specs.Option.{option_map_or, option_to_list}
use Rattle.std.proofs.lemmas.List.Elements.{All-head, All-tail}
use Rattle.flowfile_record.specs.Ranges.{HaveRanges}
use Rattle.flowfile_record.specs.Stored.{Kept}
use Rattle.flowfile_record.specs.declared.change.Settled.{Settled}
use Rattle.flowfile_record.specs.declared.content.ContentRef.{ContentRef}
use Rattle.flowfile_record.specs.declared.flow_file.FlowFile.{FlowFile}
use Rattle.flowfile_record.specs.declared.worked.Outcome.{Outcome}
use Rattle.checkpoint_store.specs.Consistent.{IsConsistent}
use Rattle.machine_model.specs.declared.flow.Flow.{Flow}
use Rattle.machine_model.specs.declared.flow.Processor.{Processor}
use Rattle.machine_model.specs.declared.given.Given.{Given}
use Rattle.machine_model.specs.declared.kind.Conflict.{Conflict}
use Rattle.machine_model.specs.declared.kind.Kind.{Kind}
use Rattle.machine_model.specs.declared.kind.Kind.TheVariants.{PutFile}
use Rattle.machine_model.specs.Acting.{act}
use Rattle.machine_model.specs.Changing.{queued_file, state_after}
use Rattle.machine_model.specs.Kinds.{take_rule_of}
use Rattle.machine_model.specs.Laws.{MayTake, received_name}
use Rattle.machine_model.specs.Placing.{EndedSession}
use Rattle.machine_model.specs.Sound.{IsSound, IsSoundKind}
use Rattle.machine_model.specs.State.{Machine, QueuedFile, State}
use Rattle.machine_model.specs.Stepping.{as_taken, given_at, given_in, session_of as machine_session, step, taken_files, world_after}
use Rattle.process_session.specs.Bench.{taken_source}
use Rattle.process_session.specs.declared.file.Source.{Source}
use Rattle.process_session.specs.declared.file.Taken.{Taken}
use Rattle.processor_api.specs.Acts.{KeepsGiven, MayBeHandedTo}
use Rattle.settlement.specs.Handed.{AreReadSources, ended_session}
use Rattle.settlement.specs.declared.handed.Ended.{Ended}
use Rattle.store_core.specs.State.{state_with}
use Rattle.engine_change.specs.Committing.{BringsWritten, LeavesDigests, LeavesState, MayCommit}
use Rattle.engine_session.specs.Handing.{MayEndSession, taken_with_contents}
use Rattle.engine_session.specs.Laws.{TakenFilesAreTheMachines, TakenFilesAreThere, TakenFilesMayBeHanded}
use Rattle.engine_session.specs.Steps.{IsMachineSession, SettledSessionsAreSteps, machine_in}
use Rattle.engine_session.specs.Working.{IsWorkAt, MayWork}
use Rattle.run_law.specs.Laws.{OtherSessionsLoseNone, OtherSessionsPutNone, PutsSendTheTakenBytes, ReceivingSessionsLoseAFile}
use Rattle.run_law.specs.Puts.{IsPutBy, files_sent, outcome_of_step, puts_of_step, session_of_step, session_outcome, session_puts}
use Rattle.run_law.specs.Run.{IsStateOf, StepBrings}
use Rattle.engine_session.specs.Change.{IsSentBy, IsStepOf, MakesStep, TellsDigests, step_of, with_sending, without_bytes}
use Rattle.engine_session.specs.Done.{IsWorkOn}
use Rattle.engine_session.specs.Job.{MayHand, JobStandsIn}
use Rattle.engine_session.specs.Sending.{sending_of, sources_left}
use Rattle.engine_session.specs.declared.change.Changed.{Changed}
use Rattle.engine_session.specs.declared.change.Sending.{Sending}
use Rattle.engine_session.specs.declared.done.Done.{Done}
use Rattle.engine_session.specs.declared.job.Job.{Job}
use Rattle.engine_session.proofs.Names.{coming_behind, inbox_behind}
use Rattle.engine_session.proofs.Outbox.{IsPutOf, alone, is_sent}
use Rattle.engine_session.proofs.Sends.{read_left, within_left}

-- ---- the work

abbrev pub taken_of : Kept → Job → List Taken
taken_of k job = taken_with_contents k.store job.files job.contents

abbrev pub sources_of : Kept → Job → List Source
sources_of k job = map taken_source (taken_of k job)

some_is : {A : Type 0} (x y : A) → ◌≡◌ {A = Option A} (Some x) (Some y) → x ≡ y
some_is x y is = cc

sound_at : (processors : List Processor) (place : ℕ) (processor : Processor) → All (λ p. IsSoundKind p.kind) processors → slice_get processors place ≡ Some processor → IsSoundKind processor.kind
sound_at [] place processor all found = absurd cc
sound_at (first ∷ processors) zero processor all found =
    subst (λ (p : Processor). IsSoundKind p.kind) (some_is first processor found) (All-head (λ p. IsSoundKind p.kind) first processors all)
sound_at (first ∷ processors) (suc place) processor all found =
    sound_at processors place processor (All-tail (λ p. IsSoundKind p.kind) first processors all) found

may_be_handed : TakenFilesMayBeHanded → (flow : Flow) (k : Kept) (job : Job) → IsSound flow → IsConsistent k → (hand : MayHand flow k job)
    → MayBeHandedTo hand.processor.kind (taken_of k job) job.given
may_be_handed law flow k job sound consistent hand =
    law k job.connection job.numbers hand.bytes job.files job.contents hand.processor.kind job.given consistent hand.taken
    (sound_at flow.processors job.processor hand.processor sound.kinds hand.found) hand.rule hand.given

-- the processor may be handed the job
pub may_work : TakenFilesMayBeHanded → (flow : Flow) (k : Kept) (job : Job) → IsSound flow → IsConsistent k → MayHand flow k job → MayWork flow job.processor (taken_of k job) job.given
may_work law flow k job sound consistent hand =
    record { processor = hand.processor; found = hand.found; handed = may_be_handed law flow k job sound consistent hand }

-- and its work may end
pub may_end : TakenFilesMayBeHanded → (flow : Flow) (k : Kept) (job : Job) (done : Outcome × List Source) → IsSound flow → IsConsistent k → MayHand flow k job
    → IsWorkAt flow job.processor (taken_of k job) job.given done → MayEndSession flow k job.given job.processor job.connection job.files done
may_end law flow k job done sound consistent hand work = record {
  consistent = consistent;
  numbers = job.numbers;
  bytes = hand.bytes;
  contents = job.contents;
  taken = hand.taken;
  may = may_work law flow k job sound consistent hand;
  work = work;
  index = hand.index;
}

-- ---- the end, once what is sent is taken out

abbrev pub ended_of : Job → List Source → Outcome → Ended
ended_of job sources outcome =
    record { processor = job.processor; connection = job.connection; taken = job.files; sources = sources; outcome = outcome }

abbrev pub left_of : Kept → Job → Outcome → Ended
left_of k job outcome = ended_of job (sources_left outcome.sent (sources_of k job)) outcome

pub may_commit_left : TakenFilesAreTheMachines → (flow : Flow) (k : Kept) (job : Job) (left : Given) (outcome : Outcome) → MayHand flow k job
    → IsWorkAt flow job.processor (taken_of k job) job.given (outcome, sources_of k job)
    → MayCommit flow left k (ended_of job (sources_of k job) outcome) → MayCommit flow left k (left_of k job outcome)
may_commit_left law flow k job left outcome hand work may =
    let seen : List _ = map (as_taken (state_with hand.bytes [] k)) (map (queued_file hand.bytes) job.files) in
    let acts : act hand.processor.kind seen job.given ≡ Some outcome =
    (work hand.processor hand.found).outcome seen (law k job.connection job.numbers hand.bytes job.files job.contents [] hand.taken) in
    record {
      processor = may.processor;
      index = may.index;
      there = may.there;
      differ = may.differ;
      relationships = may.relationships;
      outcome = may.outcome;
      parts = within_left hand.processor.kind seen job.given outcome (sources_of k job) acts may.parts;
      bytes = may.bytes;
      read = read_left may.bytes job.files (sources_of k job) outcome.sent may.read;
    }

-- ---- the step

pub record Laws : Type 0 where
  pub may : TakenFilesMayBeHanded
  pub machine : TakenFilesAreTheMachines
  pub there : TakenFilesAreThere
  pub steps : SettledSessionsAreSteps
  pub received : ReceivingSessionsLoseAFile
  pub kept : OtherSessionsLoseNone
  pub unsent : OtherSessionsPutNone
  pub put : PutsSendTheTakenBytes

-- a session's work and what it settled
pub record IsChange (flow : Flow) (k : Kept) (job : Job) (outcome : Outcome) (left : Given) (settled : Settled) : Type 0 where
  pub sound : IsSound flow
  pub consistent : IsConsistent k
  pub hand : MayHand flow k job
  pub work : IsWorkAt flow job.processor (taken_of k job) job.given (outcome, sources_of k job)
  pub keeps : KeepsGiven job.given left
  pub leaves : LeavesState flow left (left_of k job outcome) k settled
  pub brings : BringsWritten k.next_number outcome settled

module _ (laws : Laws) (flow : Flow) (k : Kept) (job : Job) (outcome : Outcome) (left : Given) (settled : Settled) (is : IsChange flow k job outcome left settled)
    (contents : ContentRef → List ℕ) (ranges : HaveRanges contents) (before : Machine) (tied : IsStateOf before contents k) (stands : JobStandsIn flow k contents before job) where
  abbrev state : State
  state = state_with contents before.state.events k

  abbrev queued : List QueuedFile
  queued = map (queued_file contents) job.files

  abbrev session : State → EndedSession
  session s = ended_session flow job.given (left_of k job outcome) stands.processor contents s

  acts : (s : State) → state ≡ s → act stands.processor.kind (map (as_taken s) queued) job.given ≡ Some outcome
  acts s same = subst (λ (t : State). act stands.processor.kind (map (as_taken t) queued) job.given ≡ Some outcome) same
      ((is.work stands.processor stands.found).outcome (map (as_taken state) queued)
      (laws.machine k job.connection job.numbers contents job.files job.contents before.state.events stands.read))

  is_session : IsMachineSession before.world job.numbers job.given.moment (without_bytes job.given) (session state) outcome
  is_session = record {
    processor = stands.found;
    no_bytes = refl;
    taken = subst (λ (s : State). taken_files flow s job.processor (take_rule_of stands.processor.kind) job.numbers job.given.moment ≡ Some queued) (sym tied.is) stands.taken;
    handed = subst (λ (s : State). given_in stands.processor.kind job.processor s before.world queued (without_bytes job.given) ≡ Some job.given) (sym tied.is) stands.given;
    worked = acts state refl;
  }

  abbrev behind : State → Machine
  behind s = record { state = state_after contents s settled; world = world_after stands.processor.kind before.world (session s) outcome }

  goes : step flow before (step_of job) ≡ Some (behind before.state)
  goes = subst (λ (s : State). step flow (machine_in s before.world) (step_of job) ≡ Some (behind s)) tied.is
      (laws.steps flow before.world job.numbers job.given.moment (without_bytes job.given) job.given left (left_of k job outcome) stands.processor contents before.state.events k settled
      is_session is.keeps is.leaves ranges
      (read_left contents job.files (sources_of k job) outcome.sent (laws.there k job.connection job.numbers contents job.files job.contents stands.read).read)
      tied.events)

  same_processor : is.hand.processor ≡ stands.processor
  same_processor = some_is is.hand.processor stands.processor (sym is.hand.found ∙ stands.found)

  receives : received_name stands.processor.kind job.given.file ≡ option_to_list job.given.file
  receives = subst (λ (p : Processor). received_name p.kind job.given.file ≡ option_to_list job.given.file) same_processor is.hand.file

  -- a PutFile takes one file
  put_of : (conflict : Conflict) → stands.processor.kind ≡ PutFile conflict → IsPutOf flow before (step_of job) (session before.state) (sources_of k job)
  put_of conflict is_put =
      let there = laws.there k job.connection job.numbers contents job.files job.contents stands.read in
      let handed = may_be_handed laws.may flow k job is.sound is.consistent is.hand in
      let count : MayTake (take_rule_of (PutFile conflict)) (length (taken_of k job)) =
      subst (λ (kind : Kind). MayTake (take_rule_of kind) (length (taken_of k job))) (ap (λ (p : Processor). p.kind) same_processor ∙ is_put) handed.count in
      let one = alone k.store job.connection k contents job.files job.contents is.consistent there.there stands.read.read count in
      let file : QueuedFile = queued_file contents one.file in
      let taken : queued ≡ file ∷ [] = ap (map (queued_file contents)) one.is in
      record {
        file = file;
        taken = taken;
        bytes = one.read;
        puts = λ name named. record {
          place = job.processor;
          numbers = job.numbers;
          moment = job.given.moment;
          given = without_bytes job.given;
          is = refl;
          processor = stands.processor;
          conflict = conflict;
          found = stands.found;
          kind = is_put;
          file = file;
          takes = stands.taken ∙ ap Some taken;
          named = named;
        };
      }

  -- it puts what its outcome sends
  puts_sent : puts_of_step flow before (step_of job) ≡ files_sent (session before.state) outcome outcome.sent
  puts_sent =
      ap (λ (p : Option Processor). option_map_or (session_puts before) (option_and_then (session_of_step flow before job.processor job.numbers job.given.moment (without_bytes job.given)) p) []) stands.found
      ∙ ap (λ (taken : Option (List QueuedFile)). option_map_or (session_puts before) (option_and_then (λ files. option_map (machine_session flow before job.processor stands.processor files)
      (option_and_then (given_in stands.processor.kind job.processor before.state before.world files) (given_at job.given.moment (without_bytes job.given)))) taken) []) stands.taken
      ∙ ap (λ (given : Option Given). option_map_or (session_puts before) (option_map (machine_session flow before job.processor stands.processor queued) given) []) stands.given
      ∙ ap (λ (made : Option Outcome). option_map_or (λ o. files_sent (session before.state) o o.sent) made []) (acts before.state tied.is)

  -- and that outcome is what its processor makes by the step
  outcome_is : outcome_of_step flow before (step_of job) ≡ Some outcome
  outcome_is =
      ap (λ (p : Option Processor). option_and_then (session_outcome before) (option_and_then (session_of_step flow before job.processor job.numbers job.given.moment (without_bytes job.given)) p)) stands.found
      ∙ ap (λ (taken : Option (List QueuedFile)). option_and_then (session_outcome before) (option_and_then (λ files. option_map (machine_session flow before job.processor stands.processor files)
      (option_and_then (given_in stands.processor.kind job.processor before.state before.world files) (given_at job.given.moment (without_bytes job.given)))) taken)) stands.taken
      ∙ ap (λ (given : Option Given). option_and_then (session_outcome before) (option_map (machine_session flow before job.processor stands.processor queued) given)) stands.given
      ∙ acts before.state tied.is

  brings_so : (changed : Changed) → changed.settled ≡ settled → StepBrings flow before (step_of job) changed.settled
  brings_so changed same =
      subst (λ (o : Option Outcome). MatchOption o (changed.settled.placed ≡ []) (λ made. BringsWritten before.state.next_number made changed.settled)) (sym outcome_is)
      (subst (λ (s : State). BringsWritten s.next_number outcome changed.settled) tied.is
      (subst (λ (s : Settled). BringsWritten k.next_number outcome s) (sym same) is.brings))

  pub is_step : (changed : Changed) → changed.settled ≡ settled → changed.sending ≡ sending_of outcome.sent (sources_of k job) → IsStepOf flow contents before job changed
  is_step changed same sends =
      let put = is_sent laws.unsent laws.put flow before (step_of job) (session before.state) outcome (sources_of k job) puts_sent (acts before.state tied.is) put_of in
      record {
        after = behind before.state;
        goes = goes;
        state = ap (state_after contents before.state) same;
        brings = brings_so changed same;
        inbox = inbox_behind laws.received laws.kept before (session before.state) outcome receives;
        coming = coming_behind stands.processor.kind before.world (session before.state) outcome receives;
        outbox = λ out same.
            let by = put.outbox out same in
            subst (λ (sending : Option Sending). IsPutBy flow before (step_of job) (behind before.state) out (with_sending sending out)) (sym sends) (record { standing = by.standing; puts = by.puts });
        sent = subst (IsSentBy flow before (step_of job)) (sym sends) put.sent;
      }

pub makes_step : Laws → (flow : Flow) (k : Kept) (job : Job) (outcome : Outcome) (left : Given) (changed : Changed) → IsChange flow k job outcome left changed.settled
    → changed.sending ≡ sending_of outcome.sent (sources_of k job) → MakesStep flow k job changed
makes_step laws flow k job outcome left changed is sends contents before ranges tied valid stands =
    is_step laws flow k job outcome left changed.settled is contents ranges before tied stands changed refl sends

-- ---- what the calls of the function gave

-- The session took these files and did this work. What stays of them, where one is sent, is without its bytes.
pub record IsWorked (flow : Flow) (k : Kept) (job : Job) (taken : List Taken) (done : Outcome × List Source) (left : Given) (whole ended : Ended) : Type 0 where
  pub sound : IsSound flow
  pub consistent : IsConsistent k
  pub hand : MayHand flow k job
  pub taken_is : taken ≡ taken_of k job
  pub work : IsWorkAt flow job.processor taken job.given done
  pub keeps : KeepsGiven job.given left
  pub whole_is : whole ≡ ended_of job done.1 done.0
  pub ended_is : ended ≡ record whole { sources = sources_left whole.outcome.sent whole.sources }

module _ (flow : Flow) (k : Kept) (job : Job) (taken : List Taken) (done : Outcome × List Source) (left : Given) (whole ended : Ended) (is : IsWorked flow k job taken done left whole ended) where
  work_is : IsWorkAt flow job.processor (taken_of k job) job.given done
  work_is = subst (λ (t : List Taken). IsWorkAt flow job.processor t job.given done) is.taken_is is.work

  sources_are : done.1 ≡ sources_of k job
  sources_are = (work_is is.hand.processor is.hand.found).sources

  worked : IsWorkAt flow job.processor (taken_of k job) job.given (done.0, sources_of k job)
  worked = subst (λ (s : List Source). IsWorkAt flow job.processor (taken_of k job) job.given (done.0, s)) sources_are work_is

  left_is : ended ≡ left_of k job done.0
  left_is =
      is.ended_is
      ∙ ap (λ (e : Ended). record e { sources = sources_left e.outcome.sent e.sources }) is.whole_is
      ∙ ap (λ (s : List Source). ended_of job (sources_left done.0.sent s) done.0) sources_are

  pub may_settle : TakenFilesMayBeHanded → TakenFilesAreTheMachines
      → ((flow : Flow) (kept : Kept) (given left : Given) → MayEndSession flow kept given job.processor job.connection job.files done → KeepsGiven given left → MayCommit flow left kept whole)
      → MayCommit flow left k ended
  may_settle handed machine may =
      let commits : MayCommit flow left k whole = may flow k job.given left (may_end handed flow k job done is.sound is.consistent is.hand work_is) is.keeps in
      subst (λ (e : Ended). MayCommit flow left k e) (sym left_is)
      (may_commit_left machine flow k job left done.0 is.hand worked
      (subst (λ (e : Ended). MayCommit flow left k e) (is.whole_is ∙ ap (λ (s : List Source). ended_of job s done.0) sources_are) commits))

  pub settled_makes_step : Laws → (changed : Changed) → LeavesState flow left ended k changed.settled → BringsWritten k.next_number ended.outcome changed.settled → changed.sending ≡ sending_of whole.outcome.sent whole.sources → MakesStep flow k job changed
  settled_makes_step laws changed leaves brings sends =
      makes_step laws flow k job done.0 left changed (record {
        sound = is.sound;
        consistent = is.consistent;
        hand = is.hand;
        work = worked;
        keeps = is.keeps;
        leaves = subst (λ (e : Ended). LeavesState flow left e k changed.settled) left_is leaves;
        brings = subst (λ (e : Ended). BringsWritten k.next_number e.outcome changed.settled) left_is brings;
      })
      (sends ∙ ap (λ (e : Ended). sending_of e.outcome.sent e.sources) is.whole_is ∙ ap (sending_of done.0.sent) sources_are)

  -- the digests of what is placed hold where the job's files stand so
  pub settled_tells_digests : TakenFilesAreThere → (changed : Changed) → LeavesDigests ended changed.settled → TellsDigests k job changed
  settled_tells_digests there changed leaves contents ranges taken =
      leaves contents ranges
      (subst (λ (e : Ended). AreReadSources contents e.taken e.sources) (sym left_is)
      (read_left contents job.files (sources_of k job) done.0.sent (there k job.connection job.numbers contents job.files job.contents taken).read))

-- ---- the work on a job

module _ (flow : Flow) (k : Kept) (job : Job) (done : Done) (whole ended : Ended) (sound : IsSound flow) (consistent : IsConsistent k) (hand : MayHand flow k job) (work : IsWorkOn flow k.store job done)
    (whole_is : whole ≡ record { processor = done.processor; connection = done.connection; taken = done.files; sources = done.sources; outcome = done.outcome })
    (ended_is : ended ≡ record whole { sources = sources_left whole.outcome.sent whole.sources }) where
  pub worked_on : IsWorked flow k job (taken_of k job) (done.outcome, done.sources) done.given whole ended
  worked_on = record {
    sound = sound;
    consistent = consistent;
    hand = hand;
    taken_is = refl;
    work = work.work;
    keeps = work.given;
    whole_is = whole_is ∙ (λ i. record { processor = work.processor i; connection = work.connection i; taken = work.files i; sources = done.sources; outcome = done.outcome });
    ended_is = ended_is;
  }

  pub may_settle_on : TakenFilesMayBeHanded → TakenFilesAreTheMachines
      → ((flow : Flow) (kept : Kept) (given left : Given) → MayEndSession flow kept given done.processor done.connection done.files (done.outcome, done.sources) → KeepsGiven given left → MayCommit flow left kept whole)
      → MayCommit flow done.given k ended
  may_settle_on handed machine may =
      may_settle flow k job (taken_of k job) (done.outcome, done.sources) done.given whole ended worked_on handed machine
      (λ fl kept given left ends. may fl kept given left
      (subst (λ (place : ℕ). MayEndSession fl kept given place done.connection done.files (done.outcome, done.sources)) (sym work.processor)
      (subst (λ (place : ℕ). MayEndSession fl kept given job.processor place done.files (done.outcome, done.sources)) (sym work.connection)
      (subst (λ (files : List FlowFile). MayEndSession fl kept given job.processor job.connection files (done.outcome, done.sources)) (sym work.files) ends))))

  pub makes_step_on : Laws → (changed : Changed) → LeavesState flow done.given ended k changed.settled → BringsWritten k.next_number ended.outcome changed.settled → changed.sending ≡ sending_of whole.outcome.sent whole.sources → MakesStep flow k job changed
  makes_step_on laws changed leaves brings sends =
      settled_makes_step flow k job (taken_of k job) (done.outcome, done.sources) done.given whole ended worked_on laws changed leaves brings sends

  pub tells_digests_on : TakenFilesAreThere → (changed : Changed) → LeavesDigests ended changed.settled → TellsDigests k job changed
  tells_digests_on there changed leaves =
      settled_tells_digests flow k job (taken_of k job) (done.outcome, done.sources) done.given whole ended worked_on there changed leaves
