-- UpdateAttribute: the values of all own properties over the attributes as they came, and then each set. A value that
-- can't be computed, or a limit, gives up to failure. Success is 0, failure 1.
use Rattle.std.specs.Prelude.{ℕ, false, List, [], ◌∷◌, Option, Some, None, option_map, option_and_then, Ok, Err}
use Rattle.flowfile_record.specs.declared.worked.Origin.TheVariants.{Taken}
use Rattle.flowfile_record.specs.declared.worked.Outcome.{Outcome}
use Rattle.expr_lang.specs.Value.{Value, Answer, as_text}
use Rattle.expr_lang.specs.Meaning.{Attributes, tree_value}
use Rattle.expr_lang.specs.View.{tree_of}
use Rattle.machine_model.specs.declared.kind.OwnExpression.{OwnExpression}
use Rattle.machine_model.specs.Making.{TakenFile, alone, passed_on, found_in, with_all_set, or_given_up}

abbrev pub text_in : Answer Value → Option (List ℕ)
text_in (Ok value) = Some (as_text value)
text_in (Err error) = None

-- the names of own properties with the texts that they are worth, where each is worth one
abbrev pub own_texts : Attributes → List OwnExpression → Option (List (List ℕ × List ℕ))
own_texts find [] = Some []
own_texts find (property ∷ properties) =
    option_and_then (λ text. option_map (λ texts. (property.name, text) ∷ texts) (own_texts find properties))
    (text_in (tree_value find (tree_of property.expression)))

abbrev pub updated : List OwnExpression → TakenFile → Option Outcome
updated own file =
    option_map (λ attributes. alone (passed_on 0 attributes false 0))
    (option_and_then (with_all_set (Taken 0) file.attributes) (own_texts (found_in file) own))

abbrev pub update : List OwnExpression → TakenFile → Outcome
update own file = or_given_up 1 (file ∷ []) (updated own file)
