-- Tried: when a flow is quiet, and when it is blocked.
use Rattle.std.specs.Prelude.{◌≡◌, ℕ, Bool, true, false, List, [], ◌∷◌, Option, Some, None, is_some, codes}
use Rattle.regex.specs.Patterns.{find_str}
use Rattle.regex.specs.Strings.{regex_pattern}
use Rattle.expr_lang.specs.declared.syntax.Expr.{Expr}
use Rattle.machine_model.specs.declared.flow.Flow.{Flow}
use Rattle.machine_model.specs.declared.flow.QueueLimits.{QueueLimits}
use Rattle.machine_model.specs.declared.kind.Conflict.TheVariants.{Replace}
use Rattle.machine_model.specs.declared.kind.Kind.TheVariants.{GetFile, GenerateFlowFile, PutFile, UpdateAttribute, MergeContent}
use Rattle.machine_model.specs.declared.kind.MergeStrategy.TheVariants.{BinPacking}
use Rattle.machine_model.specs.declared.pattern.Pattern.{Pattern}
use Rattle.machine_model.specs.State.{QueuedFile, State, World}
use Rattle.machine_model.specs.Quiet.{quiet, blocked, quiet_but_for_swaps, blocked_but_for_swaps}
use Rattle.machine_model.specs.Stepping.{step}
use Rattle.machine_examples.specs.Small.{hi, both, processor, connection, wide, get_to_put, a_txt, a_file, machine, state_of, at_moment, session, nothing, inbox_of}

-- ---- GetFile to PutFile, whose files expire after 500 milliseconds

abbrev pub QuietIs : List QueuedFile → World → (moment : ℕ) → Bool → Type 0
QuietIs files world moment answer =
    quiet (get_to_put Replace (record wide { expiration = 500 }))
    (state_of (files ∷ []) 9 9 (0 ∷ 0 ∷ [])) world moment ≡ answer

abbrev pub left_a : World
left_a = inbox_of a_txt hi

abbrev pub taken_a : World
taken_a = record left_a { left = [] }

abbrev pub penalised : QueuedFile
penalised = record (a_file 1 1) { penalty_end = 1400 }

-- ---- a ring: a generator to a, a to b and b to a, where the ring's queues are full with one file

abbrev pub narrow : QueueLimits
narrow = record wide { objects = 1 }

abbrev pub ring : Expr → Flow
ring text = record {
  processors =
      processor (codes "gen") (GenerateFlowFile 3 text) []
      ∷ processor (codes "a") (UpdateAttribute []) (codes "failure" ∷ [])
      ∷ processor (codes "b") (UpdateAttribute []) (codes "failure" ∷ []) ∷ [];
  connections =
      connection (codes "in") 0 1 wide ∷ connection (codes "ab") 1 2 narrow ∷ connection (codes "ba") 2 1 narrow ∷ [];
  digest = [];
}

-- the ring whose generator's queue is full with one file too
abbrev pub narrow_ring : Expr → Flow
narrow_ring text =
    record (ring text) {
      connections = connection (codes "in") 0 1 narrow ∷ connection (codes "ab") 1 2 narrow
          ∷ connection (codes "ba") 2 1 narrow ∷ [];
    }

-- the ring with these files, and so many made
abbrev pub ringed : List QueuedFile → List QueuedFile → List QueuedFile → (made : ℕ) → State
ringed at_in at_ab at_ba made = state_of (at_in ∷ at_ab ∷ at_ba ∷ []) 9 9 (made ∷ 0 ∷ 0 ∷ [])

abbrev pub BlockedIs : State → Option ℕ → Type 0
BlockedIs state answer = (text : Expr) → blocked (ring text) state nothing 1000 ≡ answer

abbrev pub RingIsQuiet : State → Bool → Type 0
RingIsQuiet state answer = (text : Expr) → quiet (ring text) state nothing 1000 ≡ answer

-- a full queue behind a processor that wants nothing holds nobody back
abbrev pub NarrowIs : State → Option ℕ → Type 0
NarrowIs state answer = (text : Expr) → blocked (narrow_ring text) state nothing 1000 ≡ answer

-- ---- a GetFile whose filter finds nothing in the name, or something

abbrev pub filtering : Pattern → Flow
filtering pattern = record (get_to_put Replace wide) {
  processors =
      processor (codes "get") (GetFile (Some pattern)) [] ∷ processor (codes "put") (PutFile Replace) both ∷ [];
}

abbrev pub Finds : Pattern → Bool → Type 0
Finds pattern answer = is_some (find_str (regex_pattern pattern.regex.value) a_txt 0) ≡ answer

abbrev pub nothing_queued : State
nothing_queued = state_of ([] ∷ []) 1 1 (0 ∷ 0 ∷ [])

abbrev pub FilteredIsLeft : Type 0
FilteredIsLeft = (pattern : Pattern) → Finds pattern false →
    (quiet (filtering pattern) nothing_queued left_a 1000 ≡ true)
    × (step (filtering pattern) (machine nothing_queued left_a)
    (session 0 [] 1000 (record (at_moment 1000) { file = Some a_txt })) ≡ None)

abbrev pub FoundIsWanted : Type 0
FoundIsWanted = (pattern : Pattern) → Finds pattern true → quiet (filtering pattern) nothing_queued left_a 1000 ≡ false

-- ---- a batch that has to be swapped out or in keeps a flow from being quiet and from being blocked

-- three files before a MergeContent that waits for five, swapped past so many
abbrev pub binning : (swap : ℕ) → Flow
binning swap = record (get_to_put Replace wide) {
  processors =
      processor (codes "get") (GetFile None) []
      ∷ processor (codes "merge") (MergeContent BinPacking 5 5)
      (codes "merged" ∷ codes "original" ∷ codes "failure" ∷ []) ∷ [];
  connections = connection (codes "c1") 0 1 (record wide { swap = swap }) ∷ [];
}

abbrev pub SwappingIsQuiet : (swap : ℕ) → List QueuedFile → Bool → Type 0
SwappingIsQuiet swap files answer = quiet (binning swap) (state_of (files ∷ []) 9 9 (0 ∷ 0 ∷ [])) nothing 1000 ≡ answer

abbrev pub ButForSwapsIsQuiet : (swap : ℕ) → List QueuedFile → Bool → Type 0
ButForSwapsIsQuiet swap files answer =
    quiet_but_for_swaps (binning swap) (state_of (files ∷ []) 9 9 (0 ∷ 0 ∷ [])) nothing 1000 ≡ answer

-- the ring whose queues are full with three files, and swapped past two
abbrev pub swapping_ring : Expr → Flow
swapping_ring text =
    let limits = record wide { objects = 3; swap = 2 } in
    record (ring text) {
      connections = connection (codes "in") 0 1 limits ∷ connection (codes "ab") 1 2 limits
          ∷ connection (codes "ba") 2 1 limits ∷ [];
    }

abbrev pub SwappingBlocks : State → Option ℕ → Type 0
SwappingBlocks state answer = (text : Expr) → blocked (swapping_ring text) state nothing 1000 ≡ answer

abbrev pub ButForSwapsBlocks : State → Option ℕ → Type 0
ButForSwapsBlocks state answer = (text : Expr) → blocked_but_for_swaps (swapping_ring text) state nothing 1000 ≡ answer
