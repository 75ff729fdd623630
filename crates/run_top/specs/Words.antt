-- What the words ask for.
use Rattle.std.specs.Prelude.{◌≡◌, ⊤, ◌≤◌, List, Some, String, option_map}
use Rattle.std.specs.declared.alloc.Global.{Global}
use Rattle.flow_words.specs.Arguments.{word_texts}
use Rattle.flow_words.specs.Words.{AreInRange, words_of}
use Rattle.flow_words.specs.declared.command.Command.{Command}
use Rattle.flow_words.specs.declared.command.Command.TheVariants.{Run, Trial, Lineage, Content, Queues, Events, Check}
use Rattle.flow_words.specs.declared.command.RunOptions.{RunOptions}
use Rattle.flow_words.specs.declared.command.TheConstants.{TRIAL_MAX}
use Rattle.flow_query.specs.declared.asking.Query.TheVariants as query
use Rattle.run_top.specs.declared.order.Order.{Order}
use Rattle.run_top.specs.declared.order.Order.TheVariants as order

-- the words ask to run the flow with these options
abbrev pub AskToRun : List (String Global) → RunOptions → Type 0
AskToRun words options = words_of (word_texts words) ≡ Some (Run options)

-- the words ask for something else, or for nothing
abbrev pub AskForNoRun : List (String Global) → Type 0
AskForNoRun words = (options : RunOptions) → AskToRun words options → ⊥

-- what a command asks for
abbrev pub order_in : Command → Order
order_in (Run options) = order.Run options
order_in (Trial count threads) = order.Trial count
order_in (Lineage id) = order.Ask (query.Lineage id)
order_in (Content id) = order.Ask (query.Content id)
order_in Queues = order.Ask query.Queues
order_in Events = order.Ask query.Events
order_in Check = order.Ask query.Check

abbrev pub AskFor : List (String Global) → Order → Type 0
AskFor words order = option_map order_in (words_of (word_texts words)) ≡ Some order

abbrev pub AskForNothing : List (String Global) → Type 0
AskForNothing words = (order : Order) → AskFor words order → ⊥

-- the numbers of a run, and of a trial, stand in their ranges
abbrev pub IsOrderInRange : Order → Type 0
IsOrderInRange (order.Run options) = AreInRange options
IsOrderInRange (order.Trial count) = (1 ≤ count) × (count ≤ TRIAL_MAX)
IsOrderInRange (order.Ask query) = ⊤
