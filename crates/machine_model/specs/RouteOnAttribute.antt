-- RouteOnAttribute: of the own relationships those whose expressions are worth the truth value true. The file goes to
-- the first, and a clone to each other one; where none is, to unmatched, which is the last. All of these are noted as
-- routed. A limit gives up to unmatched.
use Rattle.std.specs.Prelude.{ℕ, ◌||◌, Bool, true, false, List, [], ◌∷◌, length, map, filter, Option, Some, None, Ok, if◌then◌else◌, ◌==◌}
use Rattle.std.specs.List.{enumerate_from}
use Rattle.flowfile_record.specs.Attributes.{AttributeMap}
use Rattle.flowfile_record.specs.declared.worked.Origin.TheVariants.{Cloned}
use Rattle.flowfile_record.specs.declared.worked.Outcome.{Outcome}
use Rattle.flowfile_record.specs.declared.worked.Worked.{Worked}
use Rattle.expr_lang.specs.Value.{Answer, ◌>>=◌, as_truth}
use Rattle.expr_lang.specs.Meaning.{Attributes, tree_value}
use Rattle.expr_lang.specs.View.{tree_of}
use Rattle.machine_model.specs.declared.kind.OwnExpression.{OwnExpression}
use Rattle.machine_model.specs.Making.{TakenFile, alone, passed_on, clone_of, found_in, may_have, or_given_up}

-- an error counts as false
abbrev pub is_truth : Answer Bool → Bool
is_truth (Ok true) = true
is_truth _ = false

abbrev pub is_true_of : Attributes → OwnExpression → Bool
is_true_of find property = is_truth (tree_value find (tree_of property.expression) >>= as_truth)

-- the places of the own properties that pass a test
abbrev pub places_where : {A : Type 0} → (A → Bool) → List A → List ℕ
places_where passes own = map (λ p. p.0) (filter (λ p. passes p.1) (enumerate_from 0 own))

-- the places of the own relationships that are true
abbrev pub true_places : Attributes → List OwnExpression → List ℕ
true_places find own = places_where (is_true_of find) own

-- noted as routed to where it goes
abbrev pub routed_file : AttributeMap → ℕ → Worked
routed_file attributes relationship =
    record (passed_on 0 attributes false relationship) { routed = Some relationship }

abbrev pub routed_clone : AttributeMap → ℕ → Worked
routed_clone attributes relationship = record (clone_of 0 attributes relationship) { routed = Some relationship }

-- the file to the first, and clones to the others, where it has some and may be cloned
abbrev pub with_clones : AttributeMap → (first : ℕ) → (others : List ℕ) → Option Outcome
with_clones attributes first others =
    if (length others == 0) || may_have (Cloned 0) attributes
    then Some (record { files = routed_file attributes first ∷ map (routed_clone attributes) others; sent = None })
    else None

abbrev pub routed : (unmatched : ℕ) → TakenFile → List ℕ → Outcome
routed unmatched file [] = alone (routed_file file.attributes unmatched)
routed unmatched file (first ∷ others) =
    or_given_up unmatched (file ∷ []) (with_clones file.attributes first others)

abbrev pub route : List OwnExpression → TakenFile → Outcome
route own file = routed (length own) file (true_places (found_in file) own)
