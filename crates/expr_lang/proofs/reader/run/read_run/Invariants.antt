use Rattle.std.proofs.Common.{◌≡◌, ◌++◌, length, string_bytes}
use denote.Text.{Utf8}
use denote.Shadow.{shadow}
use Rattle.expr_lang.specs.Reading.{front_while, behind_while}
use Rattle.expr_lang.specs.Runs.{is_in}
use Rattle.expr_lang.proofs.reader.run.read_run.Given as goal

abbrev pub invariant-loop-c : goal.invariant-loop-c
invariant-loop-c l = record {
  text : shadow (Utf8 l.rest);
  front : front_while (is_in l.run) l.text ≡ string_bytes l.front ++ front_while (is_in l.run) l.rest;
  behind : behind_while (is_in l.run) l.text ≡ behind_while (is_in l.run) l.rest;
}

abbrev pub decreases-loop-c : goal.decreases-loop-c
decreases-loop-c l = length l.rest
