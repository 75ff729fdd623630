-- The flow of a trial: files are made, routed, split into lines, joined again and put.
use Rattle.std.specs.Prelude.{◌≡◌, ℕ, List, [], ◌∷◌, codes}
use Rattle.expr_lang.specs.Grammar.{IsText}
use Rattle.expr_lang.specs.Tree.{Tree}
use Rattle.expr_lang.specs.View.{tree_of}
use Rattle.expr_lang.specs.declared.syntax.Expr.{Expr}
use Rattle.machine_model.specs.declared.flow.Connection.{Connection}
use Rattle.machine_model.specs.declared.flow.Flow.{Flow}
use Rattle.machine_model.specs.declared.flow.Processor.{Processor}
use Rattle.machine_model.specs.declared.kind.Conflict.TheVariants.{Replace}
use Rattle.machine_model.specs.declared.kind.Kind.{Kind}
use Rattle.machine_model.specs.declared.kind.Kind.TheVariants.{GenerateFlowFile, PutFile, RouteOnAttribute, SplitText, MergeContent}
use Rattle.machine_model.specs.declared.kind.MergeStrategy.TheVariants.{Defragment}
use Rattle.sha2.specs.Sha256.{sha256}
use Rattle.trial_flow.specs.declared.defaults.TheConstants.{BYTES, EXPIRATION, MAXIMUM_ENTRIES, MINIMUM_ENTRIES, OBJECTS, PENALTY, SWAP}

-- what each file has at first: three lines, of which the first names its index
abbrev pub custom_text : List ℕ
custom_text = codes "a${generate.index}\nb\nc\n"

-- whether a file goes to tens
abbrev pub tens_text : List ℕ
tens_text = codes "${generate.index:endsWith('0')}"

-- the text has a tree
abbrev pub IsReadable : List ℕ → Type 0
IsReadable text = (tree : Tree) × IsText text tree

abbrev pub Says : List ℕ → Expr → Type 0
Says text expression = IsText text (tree_of expression)

-- ---- processors

abbrev pub trial_processor : List ℕ → Kind → (tasks : ℕ) → (terminated : List (List ℕ)) → Processor
trial_processor id kind tasks terminated =
    record { id = id; kind = kind; tasks = tasks; penalty = PENALTY; terminated = terminated }

abbrev pub trial_generator : (count : ℕ) → Expr → Processor
trial_generator count text = trial_processor (codes "gen") (GenerateFlowFile count text) 1 []

abbrev pub router : Expr → Processor
router tens =
    trial_processor (codes "route") (RouteOnAttribute (record { name = codes "tens"; expression = tens } ∷ [])) 4 []

abbrev pub splitter : Processor
splitter = trial_processor (codes "split") (SplitText 1) 4 (codes "original" ∷ codes "failure" ∷ [])

abbrev pub merger : Processor
merger =
    trial_processor (codes "merge") (MergeContent Defragment MINIMUM_ENTRIES MAXIMUM_ENTRIES) 1
    (codes "original" ∷ codes "failure" ∷ [])

abbrev pub putter : Processor
putter = trial_processor (codes "put") (PutFile Replace) 4 (codes "success" ∷ codes "failure" ∷ [])

abbrev pub processors : (count : ℕ) → (text tens : Expr) → List Processor
processors count text tens = trial_generator count text ∷ router tens ∷ splitter ∷ merger ∷ putter ∷ []

-- ---- connections

-- from a relationship of the processor at one place to the processor at another
abbrev pub trial_connection : List ℕ → (source : ℕ) → (relationship : List ℕ) → (target : ℕ) → Connection
trial_connection id source relationship target = record {
  id = id;
  source = source;
  relationships = relationship ∷ [];
  target = target;
  order = [];
  limits = record { expiration = EXPIRATION; objects = OBJECTS; bytes = BYTES; swap = SWAP };
}

abbrev pub connections : List Connection
connections =
    trial_connection (codes "made") 0 (codes "success") 1
    ∷ trial_connection (codes "tens") 1 (codes "tens") 2
    ∷ trial_connection (codes "rest") 1 (codes "unmatched") 4
    ∷ trial_connection (codes "parts") 2 (codes "splits") 3
    ∷ trial_connection (codes "whole") 3 (codes "merged") 4
    ∷ []

-- ---- the flow

pub record AreTrialProcessors (count : ℕ) (list : List Processor) : Type 0 where
  pub text : Expr
  pub tens : Expr
  pub says_text : Says custom_text text
  pub says_tens : Says tens_text tens
  pub are : list ≡ processors count text tens

-- made from no text
pub record IsTrialFlow (count : ℕ) (flow : Flow) : Type 0 where
  pub processors : AreTrialProcessors count flow.processors
  pub connections : flow.connections ≡ connections
  pub digest : flow.digest ≡ sha256 []
