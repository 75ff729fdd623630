-- What a run of a flow that was read did, and what was printed of it.
use Rattle.std.proofs.Common.{◌≡◌, ◌⊎◌, inl, inr, ⊎_elim, ℕ, ◌≤◌, Bool, List, sym, ◌∙◌, subst}
use Rattle.std.specs.Prelude.{IfErr, IfOk, IfSome, IsTrue, MatchOption, None, Option, Some, Result, Ok, Err}
use Rattle.disk_trait.specs.Files.{Files}
use Rattle.flowfile_record.specs.NamedFile.{NamedFile}
use Rattle.machine_model.specs.declared.flow.Flow.{Flow}
use Rattle.machine_model.specs.declared.journal.Entry.{Entry}
use Rattle.machine_model.specs.State.{Machine, State}
use Rattle.store_core.specs.Opened.{IsShut}
use Rattle.engine_change.specs.Committing.{identity_of}
use Rattle.flow_words.specs.declared.command.RunOptions.{RunOptions}
use Rattle.run_law.specs.Ending.{IsFault}
use Rattle.run_law.specs.Puts.{Start, outgoing}
use Rattle.run_law.specs.Run.{machine_at}
use Rattle.run_law.specs.declared.ended.Ended.{Ended}
use Rattle.run_law.specs.declared.ended.Ended.TheVariants as ending
use Rattle.flow_scheduler.specs.Driving.{HandsOver}
use Rattle.engine_steps.specs.declared.close.Closed.{Closed}
use Rattle.flow_scheduler.specs.declared.run.Ran.{Ran}
use Rattle.run_top.specs.Printing.{IsLine, AnswerIsPrinted, IsRefusingAnswer, closing_text, end_text, refusal_line}
use Rattle.run_top.specs.Run.{RunCountsFaults, AnswerHasCause, HasFailed, HasNotRun, HasRunOver, HasShownEnd, RunHasWritten, IsLeftShut, IsNotOpened, IsShownAs, IsToldAs, Runs}
use Rattle.run_top.specs.Status.{answer_of_run, answer_of_end}
use Rattle.run_top.specs.declared.answer.Answer.{Answer}
use Rattle.run_top.specs.declared.answer.Answer.TheVariants.{Sink}
use Rattle.run_top.proofs.Short.{not_shown}
use Rattle.run_top.proofs.Summed.{text_is}

-- what was printed of what a run left is the text of the machine
pub printed_at : (flow : Flow) (answer : Answer) (ended : Ended) (m : Machine) (journal : List Entry) (o : Option Closed) (sink_tells : Bool) (before after : List ℕ) → MatchOption o (IsFault ended) (λ closed. IsFault ended → ⊥)
    → IfSome o (HandsOver flow m journal) → IfSome o (λ closed. IsTrue sink_tells → AnswerIsPrinted answer (closing_text flow ended closed) before after)
    → (IsFault ended → ⊥) → IsTrue sink_tells → AnswerIsPrinted answer (end_text flow ended m) before after
printed_at flow answer ended m journal None sink_tells before after closes shows printed no_fault told = absurd (no_fault closes)
printed_at flow answer ended m journal (Some closed) sink_tells before after closes shows printed no_fault told =
    subst (λ (text : List ℕ). AnswerIsPrinted answer text before after) (text_is flow ended m closed shows.shows) (printed told)

-- where only the printing failed
sink_why : {D I O : Type 0} (flow : Flow) (answer : Answer) (tells : Bool) (held : D → Files) (moment : D → ℕ) (images : D → ℕ → Files → Type 0) (lot most : ℕ) (old new : D) (inbox_old inbox_new : I) (outbox_old outbox_new : O) → answer ≡ Sink
    → AnswerHasCause flow answer tells held moment images lot most old new inbox_old inbox_new outbox_old outbox_new
sink_why flow answer tells held moment images lot most old new inbox_old inbox_new outbox_old outbox_new is =
    subst (λ (a : Answer). AnswerHasCause flow a tells held moment images lot most old new inbox_old inbox_new outbox_old outbox_new) (sym is)
    (record { one_of = tt; other_flow = λ other. absurd cc; damaged = λ damage other. absurd cc; limited = λ limit other. absurd cc })

sink_counts : (answer : Answer) (disk_old disk_new inbox_old inbox_new outbox_old outbox_new : ℕ) → answer ≡ Sink → disk_old ≤ disk_new → inbox_old ≤ inbox_new → outbox_old ≤ outbox_new
    → RunCountsFaults answer disk_old disk_new inbox_old inbox_new outbox_old outbox_new
sink_counts answer disk_old disk_new inbox_old inbox_new outbox_old outbox_new is disk inbox outbox = record {
  disk = record { never_falls = disk; rose = λ so. absurd (cc (is, so)) };
  inbox = record { never_falls = inbox; rose = λ so. absurd (cc (is, so)) };
  outbox = record { never_falls = outbox; rose = λ so. absurd (cc (is, so)) };
}

pub shown_counts : (run : Result Ran Answer) (answer : Answer) (disk_old disk_new inbox_old inbox_new outbox_old outbox_new : ℕ) → IsShownAs run answer
    → RunCountsFaults (answer_of_run run) disk_old disk_new inbox_old inbox_new outbox_old outbox_new → RunCountsFaults answer disk_old disk_new inbox_old inbox_new outbox_old outbox_new
shown_counts (Ok ran) answer disk_old disk_new inbox_old inbox_new outbox_old outbox_new told counts = ⊎_elim
    (λ (is : answer ≡ answer_of_end ran.ended). subst (λ (a : Answer). RunCountsFaults a disk_old disk_new inbox_old inbox_new outbox_old outbox_new) (sym is) counts)
    (λ (sink : (answer ≡ Sink) × (IsFault ran.ended → ⊥)). sink_counts answer disk_old disk_new inbox_old inbox_new outbox_old outbox_new sink.0 counts.disk.never_falls counts.inbox.never_falls counts.outbox.never_falls)
    told
shown_counts (Err instead) answer disk_old disk_new inbox_old inbox_new outbox_old outbox_new told counts =
    subst (λ (a : Answer). RunCountsFaults a disk_old disk_new inbox_old inbox_new outbox_old outbox_new) (sym told) counts

module _ {D I O S : Type 0} (flow : Flow) (answer : Answer) (given : ℕ → Type 0) (start time lot : ℕ) (options : RunOptions) (tells : Bool) (held : D → Files) (moment : D → ℕ) (images : D → ℕ → Files → Type 0) (old new : D)
    (in_tells : Bool) (left : I → List NamedFile) (inbox_old inbox_new : I) (out_tells : Bool) (standing : O → List ℕ → Option (List ℕ)) (puts : O → List NamedFile) (outbox_old outbox_new : O)
    (sink_tells : Bool) (written : S → List ℕ) (sink_faults : S → ℕ) (sink_old sink_new : S) where
  abbrev from_start : Start
  from_start = record { time = start; puts = puts outbox_old }

  abbrev Opened : State → Machine
  Opened state = machine_at state (left inbox_old) (standing outbox_old)

  abbrev Unopened : Answer → Type 0
  Unopened a = IsNotOpened a moment images old new inbox_old inbox_new outbox_old outbox_new

  abbrev Written : Answer → Type 0
  Written a = RunHasWritten a moment images (held old) options.checkpoint old new

  abbrev Caused : Answer → Type 0
  Caused a = AnswerHasCause flow a tells held moment images lot options.max_commits old new inbox_old inbox_new outbox_old outbox_new

  abbrev LeftShut : Answer → Type 0
  LeftShut a = IsLeftShut (identity_of flow) a held moment images lot old new inbox_old inbox_new outbox_old outbox_new

  abbrev RanOver : Ran → Type 0
  RanOver ran = HasRunOver flow ran given start time lot options.max_commits options.checkpoint tells held moment images old new in_tells left inbox_old inbox_new out_tells standing puts outbox_old outbox_new

  abbrev NotRun : Answer → Type 0
  NotRun a = HasNotRun flow a given start time lot options.max_commits options.checkpoint tells held moment images old new left inbox_old inbox_new standing puts outbox_old outbox_new

  abbrev Failed : Answer → State → Type 0
  Failed a state = HasFailed flow a given from_start time tells held moment images lot options.max_commits options.checkpoint (Opened state) old new (left inbox_new) (outgoing standing puts outbox_new)

  abbrev ShownEnd : State → Type 0
  ShownEnd state = HasShownEnd flow answer given from_start time tells held moment images lot options.max_commits options.checkpoint (Opened state) old new (left inbox_new) (outgoing standing puts outbox_new) sink_tells (written sink_old) (written sink_new)

  abbrev Line : Type 0
  Line = IsRefusingAnswer answer → IsTrue sink_tells → IsLine sink_faults written (refusal_line answer) sink_old sink_new

  -- its store was opened
  ran_runs : (ran : Ran) → RanOver ran → (IsTrue tells → IsShut (identity_of flow) lot (held old) → ⊥)
      → Caused (answer_of_end ran.ended) → IsToldAs ran.ended answer
      → IfSome ran.closed (λ closed. IsTrue sink_tells → AnswerIsPrinted answer (closing_text flow ran.ended closed) (written sink_old) (written sink_new)) → Line
      → Runs flow answer given start time lot options tells held moment images old new in_tells left inbox_old inbox_new out_tells standing puts outbox_old outbox_new sink_tells written sink_faults sink_old sink_new
  ran_runs ran over fits why told printed line = record {
    headline = λ disk_told in_told out_told state of.
        let ends = over.ended disk_told in_told out_told state of in
        inl (record {
          ended = ran.ended;
          told = told;
          ends = ends.ends;
          printed = printed_at flow answer ran.ended ends.ends.ran.reached ends.ends.journal ran.closed sink_tells (written sink_old) (written sink_new) over.closed ends.shows printed;
        });
    shut = λ disk_told shut. absurd (fits disk_told shut);
    alone = inl (⊎_elim
        (λ (is : answer ≡ answer_of_end ran.ended). subst Written (sym is) over.alone)
        (λ (sink : (answer ≡ Sink) × (IsFault ran.ended → ⊥)). record { alone = over.alone.alone; short = not_shown moment images options.checkpoint new answer sink.0 })
        told);
    why = ⊎_elim
        (λ (is : answer ≡ answer_of_end ran.ended). subst Caused (sym is) why)
        (λ (sink : (answer ≡ Sink) × (IsFault ran.ended → ⊥)). sink_why flow answer tells held moment images lot options.max_commits old new inbox_old inbox_new outbox_old outbox_new sink.0)
        told;
    line = line;
  }

  -- it wasn't
  refused_runs : (instead : Answer) → NotRun instead
      → (IsTrue tells → IsShut (identity_of flow) lot (held old) → LeftShut instead ⊎ Unopened instead) → Caused instead → answer ≡ instead → Line
      → Runs flow answer given start time lot options tells held moment images old new in_tells left inbox_old inbox_new out_tells standing puts outbox_old outbox_new sink_tells written sink_faults sink_old sink_new
  refused_runs instead not_run shut why is line = record {
    headline = λ disk_told in_told out_told state of. ⊎_elim
        (λ (fails : Failed instead state). inl (record {
          ended = ending.Fault fails.cause;
          told = inl (is ∙ fails.told);
          ends = fails.ends;
          printed = λ no_fault sink_told. absurd (no_fault tt);
        }))
        (λ (un : Unopened instead). inr (subst Unopened (sym is) un))
        (not_run.failed disk_told state of);
    shut = λ disk_told shut_is. subst (λ (a : Answer). LeftShut a ⊎ Unopened a) (sym is) (shut disk_told shut_is);
    alone = subst (λ (a : Answer). Written a ⊎ Unopened a) (sym is) not_run.barely;
    why = subst Caused (sym is) why;
    line = line;
  }

  pub runs : (run : Result Ran Answer) → IfOk run RanOver → IfErr run NotRun
      → (IsTrue tells → IsShut (identity_of flow) lot (held old) → (a : Answer) × (run ≡ Err a) × (LeftShut a ⊎ Unopened a)) → Caused (answer_of_run run) → IsShownAs run answer
      → IfOk run (λ ran. IfSome ran.closed (λ closed. IsTrue sink_tells → AnswerIsPrinted answer (closing_text flow ran.ended closed) (written sink_old) (written sink_new))) → Line
      → Runs flow answer given start time lot options tells held moment images old new in_tells left inbox_old inbox_new out_tells standing puts outbox_old outbox_new sink_tells written sink_faults sink_old sink_new
  runs (Ok ran) over not_run shut why told printed line =
      ran_runs ran over (λ disk_told shut_is. not_err (shut disk_told shut_is)) why told printed line
    where
      not_err : (a : Answer) × (◌≡◌ {A = Result Ran Answer} (Ok ran) (Err a)) × (LeftShut a ⊎ Unopened a) → ⊥
      not_err is = cc (is.1)
  runs (Err instead) over not_run shut why told printed line =
      refused_runs instead not_run (λ disk_told shut_is. same (shut disk_told shut_is)) why told line
    where
      same : (a : Answer) × (◌≡◌ {A = Result Ran Answer} (Err instead) (Err a)) × (LeftShut a ⊎ Unopened a) → LeftShut instead ⊎ Unopened instead
      same is = let one : is.0 ≡ instead = cc (is.1) in subst (λ (a : Answer). LeftShut a ⊎ Unopened a) one is.2
