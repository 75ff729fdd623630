use Rattle.std.proofs.Common.{le-ltb, take, lt-ltb, not, ◌==◌, arith, get_or, ◌≡◌, ◌+◌, ◌-◌, ap, length, length-drop, get_or-drop, ◌<◌}
use Rattle.std.proofs.lemmas.Bool.{false_from_ne_true}
use Rattle.std.proofs.lemmas.Bool.Decides.{nat_tests}
use Rattle.std.proofs.lemmas.List.Sums.{prefix_len_stops, prefix_len-le-length}
use Rattle.std.proofs.lemmas.Str.{IsUtf8-from_is_utf8, is_utf8-from_IsUtf8}
use Rattle.regex.proofs.TemplateLemmas.{name_is_text, name_is_ascii}
use Rattle.regex.specs.Templates.{name_at, is_name_byte}
use Rattle.proc_text.proofs.template.name_at.Goals as goal

pub returns-then-len-inside-clause-value : goal.returns-then-len-inside-clause-value
unfolding name_at
returns-then-len-inside-clause-value c =
    rw (name_at, ← c.if-begins_with.ensures.value, ← c.after-inside.ensures, ← c.len_in_braces-len.ensures, le-ltb _ _ c.if-len-inside.true)

pub returns-in_default-clause-value : goal.returns-in_default-clause-value
unfolding name_at
returns-in_default-clause-value c =
    let broken = rw c.in_default.is at c.from_utf8.ensures.cases in
    let no_text = false_from_ne_true _ (λ e. broken.0 (IsUtf8-from_is_utf8 (take c.len_in_braces-len.result c.after-inside.result.now) e)) in
    rw (name_at, ← c.if-begins_with.ensures.value, ← c.after-inside.ensures, ← c.len_in_braces-len.ensures, no_text, lt-ltb _ _ c.if-len-inside.false)

pub returns-then-begins_with-clause-value : goal.returns-then-begins_with-clause-value
unfolding name_at
returns-then-begins_with-clause-value c =
    rw (c.in-Ok.ensures.cases.0, name_at, ← c.if-begins_with.ensures.value, ← c.after-inside.ensures, ← c.len_in_braces-len.ensures, lt-ltb _ _ c.if-len-inside.false, is_utf8-from_IsUtf8 _ c.in-Ok.ensures.cases.1)

pub returns-then-begins_with-clause-end : goal.returns-then-begins_with-clause-end
unfolding name_at
returns-then-begins_with-clause-end c = (
  omega arith,
  omega (arith, ap length c.after-inside.ensures, length-drop 1 c.args.rest.now),
)

pub returns-then-len-eq0-clause-value : goal.returns-then-len-eq0-clause-value
unfolding name_at
returns-then-len-eq0-clause-value c =
    rw (name_at, ← c.if-begins_with.ensures.value, ← c.name_len-len.ensures, c.if-len-eq0.true)

pub returns-in_default-from_utf8-clause-value : goal.returns-in_default-from_utf8-clause-value
unfolding name_at
returns-in_default-from_utf8-clause-value c =
    let broken = rw c.in_default-from_utf8.is at c.from_utf8-2.ensures.cases in
    absurd (broken.0 (rw c.name_len-len.ensures (name_is_text c.args.rest.now)))

pub returns-clause-value : goal.returns-clause-value
unfolding name_at
returns-clause-value c =
    let some : 0 < c.name_len-len.result = omega arith in rw (c.in-Ok-from_utf8.ensures.cases.0, name_at, ← c.if-begins_with.ensures.value, ← c.name_len-len.ensures, lt-ltb _ _ some)

pub returns-clause-end : goal.returns-clause-end
unfolding name_at
returns-clause-end c = (
  omega arith,
  omega (arith, c.name_len-len.ensures, prefix_len-le-length is_name_byte c.args.rest.now),
)
