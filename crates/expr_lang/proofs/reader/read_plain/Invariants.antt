use Rattle.std.proofs.Common.{◌≡◌, ◌++◌, length, string_bytes}
use denote.Text.{Utf8}
use denote.Shadow.{shadow}
use Rattle.expr_lang.specs.Reading.{plain_front, plain_behind}
use Rattle.expr_lang.proofs.reader.read_plain.Given as goal

abbrev pub invariant-loop-c : goal.invariant-loop-c
invariant-loop-c l = record {
  text : shadow (Utf8 l.rest);
  front : plain_front l.text ≡ string_bytes l.plain ++ plain_front l.rest;
  behind : plain_behind l.text ≡ plain_behind l.rest;
}

abbrev pub decreases-loop-c : goal.decreases-loop-c
decreases-loop-c l = length l.rest
