-- A matcher searches for its regex's pattern, and where there is no pattern there is no matcher.
use Rattle.std.proofs.Common.{◌≡◌, refl, sym, ◌∙◌, ap, ℕ, Bool, true, List, Option, Some, None, is_some, option_map}
use Rattle.std.proofs.Math.Logic.{∥∥₁_elim}
use mathlib.Core.Bool.{Bool-set}
use Rattle.regex.specs.Patterns.{Re, find_str}
use Rattle.regex.specs.Strings.{matcher_pattern, regex_pattern}
use Rattle.machine_model.specs.Acting.{passes}
use Rattle.machine_model.specs.declared.pattern.Pattern.{Pattern}
use Rattle.machine_model.proofs.filter.Filter.passes.Goals as goal

abbrev finds : Option Re → List ℕ → Bool
finds None name = true
finds (Some pattern) name = is_some (find_str pattern name 0)

passes-is : (filter : Option Pattern) (name : List ℕ) → finds (option_map (λ pattern. regex_pattern pattern.regex.value) filter) name ≡ passes filter name
passes-is None name = refl
passes-is (Some pattern) name = refl

pub returns-in-Some-clause-value : goal.returns-in-Some-clause-value
returns-in-Some-clause-value c =
    let held = c.args.self.now in
    let name = c.args.name.now in
    ∥∥₁_elim held.same (Bool-set _ _) (λ same.
    c.is_match.ensures.found
    ∙ ap (λ pattern. finds pattern name) (ap (option_map matcher_pattern) (sym c.in-Some.is) ∙ same)
    ∙ passes-is held.filter.now name)

pub returns-in-None-clause-value : goal.returns-in-None-clause-value
returns-in-None-clause-value c =
    let held = c.args.self.now in
    let name = c.args.name.now in
    ∥∥₁_elim held.same (Bool-set _ _) (λ same.
    ap (λ pattern. finds pattern name) (ap (option_map matcher_pattern) (sym c.in-None.is) ∙ same)
    ∙ passes-is held.filter.now name)
