-- What the words ask for.
use Rattle.std.proofs.Common.{◌≡◌}
use Rattle.std.specs.Prelude.{List, String}
use Rattle.std.specs.declared.alloc.Global.{Global}
use Rattle.flow_words.specs.declared.command.RunOptions.{RunOptions}
use Rattle.run_top.specs.Words.{AskToRun}

-- words ask to run with one set of options
pub same_options : (words : List (String Global)) (one other : RunOptions) → AskToRun words one → AskToRun words other
    → one ≡ other
same_options words one other asked asks = cc
