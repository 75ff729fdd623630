-- Tried: flows that are sound, and flows that aren't.
use Rattle.std.specs.Prelude.{◌≡◌, ℕ, Bool, List, [], ◌∷◌, Some, None, codes}
use Rattle.expr_lang.specs.declared.syntax.Expr.{Expr}
use Rattle.expr_lang.specs.Tree.{Term, embedded, joined}
use Rattle.expr_lang.specs.View.{tree_of}
use Rattle.machine_model.specs.declared.flow.Flow.{Flow}
use Rattle.machine_model.specs.declared.flow.Connection.{Connection}
use Rattle.machine_model.specs.declared.flow.Processor.{Processor}
use Rattle.machine_model.specs.declared.kind.Conflict.TheVariants.{Replace}
use Rattle.machine_model.specs.declared.kind.Kind.TheVariants.{GetFile, PutFile, AttributesToJson, MergeContent, RouteOnContent}
use Rattle.machine_model.specs.declared.kind.Destination.TheVariants.{Content}
use Rattle.machine_model.specs.declared.kind.MatchRequirement.TheVariants.{Exactly, Contains}
use Rattle.machine_model.specs.declared.kind.OwnPattern.{OwnPattern}
use Rattle.machine_model.specs.declared.pattern.Pattern.{Pattern}
use Rattle.machine_model.specs.declared.kind.MergeStrategy.TheVariants.{BinPacking}
use Rattle.machine_model.specs.Sound.{HasText, IsSound, IsSoundKind, are_within_ranges}
use Rattle.machine_examples.specs.Small.{success, both, processor, connection, wide, get_to_put}
use Rattle.machine_examples.specs.Clones.{generating}
use Rattle.machine_examples.specs.Ends.{ring}
use Rattle.machine_examples.specs.Told.{through}

-- the flows of the other tries
abbrev pub GeneratingIsSound : Type 0
GeneratingIsSound = (text : Expr) → HasText text → IsSound (generating text)

abbrev pub RingIsSound : Type 0
RingIsSound = (text : Expr) → HasText text → IsSound (ring text)

abbrev pub IsUnsound : Flow → Type 0
IsUnsound flow = IsSound flow → ⊥

abbrev pub getting : Processor
getting = processor (codes "get") (GetFile None) []

abbrev pub flow_of : List Processor → List Connection → Flow
flow_of processors connections = record { processors = processors; connections = connections; digest = [] }

abbrev pub putting : (terminated : List (List ℕ)) → Processor
putting terminated = processor (codes "put") (PutFile Replace) terminated

-- failure leads nowhere
abbrev pub unconnected : Flow
unconnected = flow_of (getting ∷ putting success ∷ []) (connection (codes "c1") 0 1 wide ∷ [])

-- success is terminated, and leads to the PutFile
abbrev pub terminated : Flow
terminated =
    flow_of (processor (codes "get") (GetFile None) success ∷ putting both ∷ []) (connection (codes "c1") 0 1 wide ∷ [])

-- success leads to the GetFile too
abbrev pub into_source : Flow
into_source =
    flow_of (getting ∷ putting both ∷ []) (connection (codes "c1") 0 1 wide ∷ connection (codes "c2") 0 0 wide ∷ [])

-- two processors of one id
abbrev pub doubled : Flow
doubled =
    flow_of (getting ∷ processor (codes "get") (PutFile Replace) both ∷ []) (connection (codes "c1") 0 1 wide ∷ [])

-- a threshold of 1, of which half is nothing
abbrev pub tight : Flow
tight = get_to_put Replace (record wide { swap = 1 })

-- at least 3 and at most 2
abbrev pub turned : Flow
turned = through (processor (codes "merge") (MergeContent BinPacking 3 2) (codes "original" ∷ codes "failure" ∷ []))
    (codes "merged")

-- an id with a blank
abbrev pub blank : Flow
blank =
    flow_of (processor (codes "get it") (GetFile None) [] ∷ putting both ∷ []) (connection (codes "c1") 0 1 wide ∷ [])

-- a connection to a processor that isn't there
abbrev pub nowhere : Flow
nowhere = flow_of (getting ∷ putting both ∷ []) (connection (codes "c1") 0 2 wide ∷ [])

-- more sessions at once than a processor may have
abbrev pub crowded : Flow
crowded =
    flow_of (record getting { tasks = 17 } ∷ putting both ∷ []) (connection (codes "c1") 0 1 wide ∷ [])

-- by a relationship that its source doesn't have
abbrev pub strange : Flow
strange =
    flow_of (getting ∷ putting both ∷ [])
    (connection (codes "c1") 0 1 wide
    ∷ record (connection (codes "c2") 0 1 wide) { relationships = codes "failure" ∷ [] } ∷ [])

-- success leads to nine connections
abbrev pub fanned : Flow
fanned =
    flow_of (getting ∷ putting both ∷ [])
    (connection (codes "c1") 0 1 wide ∷ connection (codes "c2") 0 1 wide ∷ connection (codes "c3") 0 1 wide
    ∷ connection (codes "c4") 0 1 wide ∷ connection (codes "c5") 0 1 wide ∷ connection (codes "c6") 0 1 wide
    ∷ connection (codes "c7") 0 1 wide ∷ connection (codes "c8") 0 1 wide ∷ connection (codes "c9") 0 1 wide ∷ [])

-- ---- texts and patterns

-- one embedded expression alone is no text that is joined
abbrev pub AloneIsNotJoined : Type 0
AloneIsNotJoined =
    (expression : Expr) (term : Term) → tree_of expression ≡ joined (embedded term ∷ []) → HasText expression → ⊥

-- a filter is marked, and one that isn't is unsound
abbrev pub MarkedIsSound : Type 0
MarkedIsSound = (pattern : Pattern) → pattern.text ≡ codes "\\A(?:a)\\z" → IsSoundKind (GetFile (Some pattern))

abbrev pub UnmarkedIsUnsound : Type 0
UnmarkedIsUnsound = (pattern : Pattern) → pattern.text ≡ codes "a" → IsSoundKind (GetFile (Some pattern)) → ⊥

-- so is a pattern that a whole content must match, but not one that it contains
abbrev pub by : Pattern → OwnPattern
by pattern = record { name = codes "red"; pattern = pattern }

abbrev pub ExactIsMarked : Type 0
ExactIsMarked =
    (pattern : Pattern) → pattern.text ≡ codes "a" → IsSoundKind (RouteOnContent Exactly (by pattern ∷ [])) → ⊥

abbrev pub ContainedIsNot : Type 0
ContainedIsNot = (pattern : Pattern) → IsSoundKind (RouteOnContent Contains (by pattern ∷ []))

-- of a list's names
abbrev pub ListIs : List ℕ → Bool → Type 0
ListIs name answer = are_within_ranges (AttributesToJson Content (name ∷ [])) ≡ answer
