use Rattle.std.proofs.Common.{◌≡◌, ◌++◌, drop, map}
use Rattle.std.specs.List.{filter_map}
use Rattle.std.specs.Option.{option_copied, option_to_list}
use Rattle.flow_words.specs.Seen.{argument_seen}
use Rattle.flow_words.specs.Words.{positional_in}
use Rattle.flow_words.proofs.argument.positional_of.Given as goal

abbrev pub invariant-loop-argument : goal.invariant-loop-argument
invariant-loop-argument l =
    filter_map positional_in (map argument_seen l.arguments)
    ≡ option_to_list (option_copied l.positional) ++ filter_map positional_in (map argument_seen (drop l.argument-index l.arguments))
