-- What the definitions see of arguments and words.
use Rattle.std.specs.Prelude.{◌≡◌, List, map, true, false}
use Rattle.std.specs.Borrow.{Bor}
use Rattle.flow_words.specs.declared.argument.Argument.{Argument as Read}
use Rattle.flow_words.specs.declared.argument.Argument.TheVariants as read
use Rattle.flow_words.specs.declared.argument.Word.{Word}
use Rattle.flow_words.specs.declared.argument.Word.TheVariants as word
use Rattle.flow_words.specs.Arguments.{Argument, Named, Positional, Text, takes_next, whole_argument, without_hyphens}

abbrev pub argument_seen : Read → Argument
argument_seen (read.Named name value) = Named name.now value.now
argument_seen (read.Positional word) = Positional word.now

abbrev pub named_texts : List (Bor Text) → List Text
named_texts = map (λ name. name.now)

-- a word that is a whole argument, or an option whose value is the next word
abbrev pub IsWord : Text → Word → Type 0
IsWord text (word.Whole argument) = (takes_next text ≡ false) × (whole_argument text ≡ argument_seen argument)
IsWord text (word.Name name) = (takes_next text ≡ true) × (without_hyphens text ≡ name.now)
