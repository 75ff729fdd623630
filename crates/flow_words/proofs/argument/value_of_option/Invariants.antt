use Rattle.std.proofs.Common.{◌≡◌, ◌++◌, drop, map}
use Rattle.std.specs.List.{filter_map}
use Rattle.std.specs.Option.{option_copied, option_to_list}
use Rattle.flow_words.specs.Seen.{argument_seen}
use Rattle.flow_words.specs.Words.{value_named}
use Rattle.flow_words.proofs.argument.value_of_option.Given as goal

abbrev pub invariant-loop-argument : goal.invariant-loop-argument
invariant-loop-argument l =
    filter_map (value_named l.name) (map argument_seen l.arguments)
    ≡ option_to_list (option_copied l.value) ++ filter_map (value_named l.name) (map argument_seen (drop l.argument-index l.arguments))
