use Rattle.std.proofs.Common.{refl, sym, ◌∙◌, arith}
use Rattle.std.specs.Prelude.{Ok, Err}
use Rattle.run_top.proofs.Lines.{disk_told, nothing_behind}
use Rattle.run_top.proofs.asking.ask.Goals as goal

pub returns-in-Ok-clause-answered : goal.returns-in-Ok-clause-answered
returns-in-Ok-clause-answered g c = record {
  result = Ok c.in-Ok.field-0;
  told = refl;
  between = c.answer.new.sink;
  printed = c.in-Ok.ensures.printed;
  of_run = λ disk_told sink_told made flow lot kept keeps state stands.
      c.in-Ok.ensures.printed disk_told sink_told kept (c.a_query_sees_the_state_of_a_run.ensures.kept flow lot 0 _ kept made keeps) state
      (c.a_query_sees_the_state_of_a_run.ensures.state flow lot 0 _ state made stands);
  absence = c.in-Ok.ensures.absence;
  sound = c.in-Ok.ensures.sound;
  line = λ told. nothing_behind _ _ _;
  failed = c.in-Ok.ensures.sink;
  later = omega arith;
}

pub returns-in-Ok-clause-stays : goal.returns-in-Ok-clause-stays
returns-in-Ok-clause-stays g c = c.in-Ok.ensures.stays

pub returns-in-Ok-clause-disk : goal.returns-in-Ok-clause-disk
returns-in-Ok-clause-disk g c = record {
  never_falls = c.in-Ok.ensures.disk.never_falls;
  rose = λ is below. absurd (omega (arith, is));
}

pub returns-in-Err-clause-answered : goal.returns-in-Err-clause-answered
returns-in-Err-clause-answered g c = record {
  result = Err c.in-Err.error;
  told = c.status_of_refusal.ensures;
  between = c.answer.new.sink;
  printed = c.in-Err.ensures.printed;
  of_run = λ disk_told sink_told made flow lot kept keeps state stands.
      c.in-Err.ensures.printed disk_told sink_told kept (c.a_query_sees_the_state_of_a_run.ensures.kept flow lot 0 _ kept made keeps) state
      (c.a_query_sees_the_state_of_a_run.ensures.state flow lot 0 _ state made stands);
  absence = c.in-Err.ensures.absence;
  sound = c.in-Err.ensures.sound;
  line = c.tell.ensures.line;
  failed = c.in-Err.ensures.sink;
  later = c.tell.ensures.faults;
}

pub returns-in-Err-clause-stays : goal.returns-in-Err-clause-stays
returns-in-Err-clause-stays g c = c.in-Err.ensures.stays

pub returns-in-Err-clause-disk : goal.returns-in-Err-clause-disk
returns-in-Err-clause-disk g c = record {
  never_falls = c.in-Err.ensures.disk.never_falls;
  rose = λ is below.
      c.in-Err.ensures.disk.rose (disk_told c.in-Err.error (sym c.status_of_refusal.ensures ∙ is)) below;
}
