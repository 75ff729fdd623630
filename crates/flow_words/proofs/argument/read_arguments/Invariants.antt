use Rattle.std.proofs.Common.{◌≡◌, drop, map}
use Rattle.std.specs.Option.{option_copied}
use Rattle.flow_words.specs.Arguments.{arguments_of, word_texts}
use Rattle.flow_words.specs.Seen.{argument_seen}
use Rattle.flow_words.proofs.Fronts.{after, behind}
use Rattle.flow_words.proofs.argument.read_arguments.Given as goal

abbrev pub invariant-loop-word : goal.invariant-loop-word
invariant-loop-word l =
    arguments_of (word_texts l.words)
    ≡ after (map argument_seen l.arguments.items) (behind (option_copied l.option) (word_texts (drop l.word-index l.words)))
