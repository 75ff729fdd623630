use Rattle.std.proofs.Common.{◌+◌, ◌≡◌, ◌≢◌, drop, get_or, slice_index, None, Option, ℕ, Some, arith, eqb-true, sym, subst}
use Rattle.std.proofs.lemmas.Bool.Decides.{nat_tests}
use Rattle.std.proofs.lemmas.Bool.{eqb-false}
use Rattle.std.proofs.lemmas.Grind.{common_steps}
use Rattle.regex.specs.Strings.{regex_names}
use Rattle.regex.specs.Templates.{name_at}
use Rattle.proc_text.specs.Shapes.{IsFrontOf}
use Rattle.proc_text.proofs.Growing.{alone-front, escaped-front, plain-front, reference-front}
use Rattle.proc_text.proofs.template.front_of.Goals as goal

pub returns-then-template-ne36-clause-front : goal.returns-then-template-ne36-clause-front
returns-then-template-ne36-clause-front c =
    let names = regex_names c.args.regex.now in
    let t = c.args.template.now in
    let other : get_or t 0 0 ≢ 36 = grind (arith, nat_tests, common_steps) in
    subst (IsFrontOf names t) (sym c.bytes_at.ensures) (plain-front names t c.requires other)

pub returns-then-begins_with-clause-front : goal.returns-then-begins_with-clause-front
returns-then-begins_with-clause-front c =
    let names = regex_names c.args.regex.now in
    let t = c.args.template.now in
    let sign : get_or t 0 0 ≡ 36 = grind (arith, nat_tests, common_steps) in
    let again = eqb-true _ 36 (rw c.after-rest.ensures at (sym c.if-begins_with.ensures.value)) in
    subst (IsFrontOf names t) (sym c.bytes_at-then-begins_with.ensures) (escaped-front names t c.requires sign again)

pub returns-in-Some-clause-front : goal.returns-in-Some-clause-front
returns-in-Some-clause-front c =
    let names = regex_names c.args.regex.now in
    let t = c.args.template.now in
    let sign : get_or t 0 0 ≡ 36 = grind (arith, nat_tests, common_steps) in
    let alone : slice_index (drop 1 t) 0 ≢ 36 = eqb-false _ 36 (rw c.after-rest.ensures at (sym c.if-begins_with.ensures.value)) in
    let found : name_at (drop 1 t) ≡ Some (c.in-Some.name.now, c.in-Some.len) = rw (← c.after-rest.ensures) (sym c.in-Some.ensures.value) in
    subst (λ (g : Option ℕ). IsFrontOf names t (record { own = 0; group = g; len = c.in-Some.len + 1 })) (sym c.group_called.ensures)
    (reference-front names t c.in-Some.name.now c.in-Some.len c.requires sign alone found)

pub returns-in-None-clause-front : goal.returns-in-None-clause-front
returns-in-None-clause-front c =
    let names = regex_names c.args.regex.now in
    let t = c.args.template.now in
    let sign : get_or t 0 0 ≡ 36 = grind (arith, nat_tests, common_steps) in
    let alone : slice_index (drop 1 t) 0 ≢ 36 = eqb-false _ 36 (rw c.after-rest.ensures at (sym c.if-begins_with.ensures.value)) in
    let none : name_at (drop 1 t) ≡ None = rw (← c.after-rest.ensures) (sym c.in-None.ensures.value) in
    subst (IsFrontOf names t) (sym c.bytes_at-in-None.ensures) (alone-front names t c.requires sign alone none)
