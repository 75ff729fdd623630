-- Tried: steps that aren't defined.
use Rattle.std.specs.Prelude.{◌≡◌, ℕ, Bool, false, List, [], ◌∷◌, length, map, Option, Some, None, codes}
use Rattle.std.specs.FinMap.{empty}
use Rattle.expr_lang.specs.declared.syntax.Expr.{Expr}
use Rattle.machine_model.specs.declared.flow.Flow.{Flow}
use Rattle.machine_model.specs.declared.flow.QueueLimits.{QueueLimits}
use Rattle.machine_model.specs.declared.journal.Step.{Step}
use Rattle.machine_model.specs.declared.journal.Step.TheVariants.{Expire, SwapOut, SwapIn}
use Rattle.machine_model.specs.declared.kind.Conflict.TheVariants.{Replace}
use Rattle.machine_model.specs.declared.kind.Kind.TheVariants.{GenerateFlowFile}
use Rattle.machine_model.specs.State.{QueuedFile, State, World}
use Rattle.machine_model.specs.declared.kind.TakeRule.TheVariants.{One, Bin, Defragment}
use Rattle.machine_model.specs.Stepping.{admits, given_at, is_there, step, taken_files}
use Rattle.machine_model.specs.Files.{view_of}
use Rattle.machine_model.specs.View.{FileView}
use Rattle.machine_examples.specs.Told.{through, merge}
use Rattle.machine_examples.specs.Small.{hi, success, processor, wide, get_to_put, a_txt, a_file, state_of, at_moment, session, machine, nothing, inbox_of, with_a}

abbrev pub StepIsRefused : Flow → State → World → Step → Type 0
StepIsRefused flow state world entry = step flow (machine state world) entry ≡ None

-- these files in the queue of the one connection, whose files expire after 500 milliseconds and are swapped past 2
abbrev pub limited : QueueLimits
limited = record { expiration = 500; objects = 0; bytes = 0; swap = 2 }

abbrev pub RefusesStep : List QueuedFile → Step → Type 0
RefusesStep files entry =
    StepIsRefused (get_to_put Replace limited)
    (record (state_of (files ∷ []) 9 9 (0 ∷ 0 ∷ [])) { next_batch = 3 }) nothing entry

-- the PutFile's session over these files
abbrev pub RefusesToPut : List QueuedFile → List ℕ → (moment : ℕ) → Type 0
RefusesToPut files numbers moment = RefusesStep files (session 1 numbers moment (at_moment moment))

abbrev pub penalised : QueuedFile → (end : ℕ) → QueuedFile
penalised file end = record file { penalty_end = end }

abbrev pub swapped : QueuedFile → (batch : ℕ) → QueuedFile
swapped file batch = record file { batch = Some batch }

abbrev pub ExpiredIsNotTaken : Type 0
ExpiredIsNotTaken = RefusesToPut (a_file 1 1 ∷ []) (1 ∷ []) 1500

abbrev pub NoneIsTakenTwice : Type 0
NoneIsTakenTwice = RefusesToPut (a_file 1 1 ∷ []) (1 ∷ 1 ∷ []) 1000

abbrev pub PenalisedIsNotTaken : Type 0
PenalisedIsNotTaken = RefusesToPut (penalised (a_file 1 1) 1200 ∷ []) (1 ∷ []) 1199

abbrev pub SwappedIsNotTaken : Type 0
SwappedIsNotTaken = RefusesToPut (swapped (a_file 1 1) 2 ∷ []) (1 ∷ []) 1000

-- the queue has no such file; a PutFile takes no two, and not none
abbrev pub StrangeIsNotTaken : Type 0
StrangeIsNotTaken = RefusesToPut (a_file 1 1 ∷ []) (2 ∷ []) 1000

abbrev pub TwoAreNotPut : Type 0
TwoAreNotPut = RefusesToPut (a_file 1 1 ∷ a_file 2 2 ∷ []) (1 ∷ 2 ∷ []) 1000

abbrev pub NoneIsNotPut : Type 0
NoneIsNotPut = RefusesToPut (a_file 1 1 ∷ []) [] 1000

-- the flow has two processors and one connection
abbrev pub NoSuchProcessor : Type 0
NoSuchProcessor = RefusesStep (a_file 1 1 ∷ []) (session 2 (1 ∷ []) 1000 (at_moment 1000))

abbrev pub NoSuchConnection : Type 0
NoSuchConnection = RefusesStep (a_file 1 1 ∷ []) (Expire 1 (1 ∷ []) 2000)

-- ---- what queues refuse

abbrev pub FreshDoesNotExpire : Type 0
FreshDoesNotExpire = RefusesStep (a_file 1 1 ∷ []) (Expire 0 (1 ∷ []) 1499)

abbrev pub OneOfTwoIsFresh : Type 0
OneOfTwoIsFresh = RefusesStep (a_file 1 1 ∷ record (a_file 2 2) { entered = 1400 } ∷ []) (Expire 0 (1 ∷ 2 ∷ []) 1500)

abbrev pub NothingDoesNotExpire : Type 0
NothingDoesNotExpire = RefusesStep (a_file 1 1 ∷ []) (Expire 0 [] 2000)

abbrev pub NoneExpiresTwice : Type 0
NoneExpiresTwice = RefusesStep (a_file 1 1 ∷ []) (Expire 0 (1 ∷ 1 ∷ []) 2000)

-- the next batch is 3, a batch has one file, and there are three active ones or two
abbrev pub OtherBatchDoesNotGo : Type 0
OtherBatchDoesNotGo = RefusesStep (a_file 1 1 ∷ a_file 2 2 ∷ a_file 3 3 ∷ []) (SwapOut 0 (3 ∷ []) 4)

abbrev pub TwoDoNotGo : Type 0
TwoDoNotGo = RefusesStep (a_file 1 1 ∷ a_file 2 2 ∷ a_file 3 3 ∷ []) (SwapOut 0 (2 ∷ 3 ∷ []) 3)

abbrev pub FewDoNotGo : Type 0
FewDoNotGo = RefusesStep (a_file 1 1 ∷ a_file 2 2 ∷ []) (SwapOut 0 (2 ∷ []) 3)

-- a swapped file neither expires nor goes once more
abbrev pub SwappedDoesNotExpire : Type 0
SwappedDoesNotExpire = RefusesStep (swapped (a_file 1 1) 2 ∷ []) (Expire 0 (1 ∷ []) 2000)

abbrev pub SwappedDoesNotGo : Type 0
SwappedDoesNotGo =
    RefusesStep (a_file 1 1 ∷ a_file 2 2 ∷ a_file 3 3 ∷ swapped (a_file 4 4) 2 ∷ []) (SwapOut 0 (4 ∷ []) 3)

-- batches 1 and 2 are swapped out
abbrev pub HigherBatchDoesNotCome : Type 0
HigherBatchDoesNotCome = RefusesStep (a_file 1 1 ∷ swapped (a_file 2 2) 1 ∷ swapped (a_file 3 3) 2 ∷ []) (SwapIn 0 2)

abbrev pub StrangeBatchDoesNotCome : Type 0
StrangeBatchDoesNotCome = RefusesStep (a_file 1 1 ∷ swapped (a_file 2 2) 1 ∷ []) (SwapIn 0 2)

abbrev pub BatchWaitsWhileTwoAreActive : Type 0
BatchWaitsWhileTwoAreActive = RefusesStep (a_file 1 1 ∷ a_file 2 2 ∷ swapped (a_file 3 3) 1 ∷ []) (SwapIn 0 1)

-- ---- what stands in the world

abbrev pub get_a : Step
get_a = session 0 [] 1000 (record (at_moment 1000) { file = Some a_txt })

abbrev pub RefusesToGet : World → Step → Type 0
RefusesToGet world entry = StepIsRefused (get_to_put Replace wide) (state_of ([] ∷ []) 1 1 (0 ∷ 0 ∷ [])) world entry

-- the file was taken before; it never was there; none is named; a file is named beside numbers
abbrev pub GoneIsNotReceived : Type 0
GoneIsNotReceived = RefusesToGet (record (inbox_of a_txt hi) { left = [] }) get_a

abbrev pub MissingIsNotReceived : Type 0
MissingIsNotReceived = RefusesToGet (record nothing { left = codes "b" ∷ [] }) get_a

abbrev pub NamelessIsNotReceived : Type 0
NamelessIsNotReceived = RefusesToGet (inbox_of a_txt hi) (session 0 [] 1000 (at_moment 1000))

abbrev pub SourceTakesNone : Type 0
SourceTakesNone =
    RefusesToGet (inbox_of a_txt hi) (session 0 (1 ∷ []) 1000 (record (at_moment 1000) { file = Some a_txt }))

-- whether the outbox has the name is told wrongly
abbrev pub RefusesAnswer : World → (there : Bool) → Type 0
RefusesAnswer world there =
    StepIsRefused (get_to_put Replace wide) (state_of ((a_file 1 1 ∷ []) ∷ []) 2 2 (0 ∷ 0 ∷ [])) world
    (session 1 (1 ∷ []) 1000 (record (at_moment 1000) { there = there }))

-- bytes that are given beside a name
abbrev pub BytesAreNotGiven : Type 0
BytesAreNotGiven =
    RefusesToGet (inbox_of a_txt hi)
    (session 0 [] 1000 (record (at_moment 1000) { file = Some a_txt; bytes = Some hi }))

-- the moment is that of the step
abbrev pub MomentIsOfTheStep : Type 0
MomentIsOfTheStep = given_at 2000 (at_moment 1000) ≡ Some (at_moment 2000)

-- of a file without a name the outbox has nothing, whatever it has
abbrev pub NamelessIsNotThere : Type 0
NamelessIsNotThere = is_there with_a (record (a_file 1 1) { attributes = empty } ∷ []) ≡ false

-- a generator of two files has made one
abbrev pub RefusesIndex : (made index : ℕ) → Type 0
RefusesIndex made index =
    (text : Expr) → StepIsRefused (record {
      processors = processor (codes "gen") (GenerateFlowFile 2 text) success ∷ [];
      connections = [];
      digest = [];
    })
    (state_of [] 2 2 (made ∷ [])) nothing (session 0 [] 1000 (record (at_moment 1000) { index = index }))

-- ---- what is taken, where it may be

abbrev pub TakesToPut : List QueuedFile → List ℕ → (moment : ℕ) → List QueuedFile → Type 0
TakesToPut files numbers moment taken =
    taken_files (get_to_put Replace limited) (state_of (files ∷ []) 9 9 (0 ∷ 0 ∷ [])) 1 One numbers moment
    ≡ Some taken

-- a bin of one to two files, of three that wait
abbrev pub TakesToMerge : List ℕ → Option (List QueuedFile) → Type 0
TakesToMerge numbers taken =
    taken_files (through merge (codes "merged"))
    (state_of ((a_file 1 1 ∷ a_file 2 2 ∷ a_file 3 3 ∷ []) ∷ [] ∷ []) 4 4 (0 ∷ 0 ∷ 0 ∷ [])) 1 (Bin 1 2) numbers 1000
    ≡ taken

-- a bin of one to three files
abbrev pub BinAdmits : List QueuedFile → Bool → Type 0
BinAdmits files answer = admits (Bin 1 3) [] (map view_of files) ≡ answer

-- of fragments at least one is taken, and at most as many as any session takes
abbrev pub NoFragmentsAreTaken : Type 0
NoFragmentsAreTaken = admits Defragment [] [] ≡ false

abbrev pub FragmentsAreTaken : (count : ℕ) → Bool → Type 0
FragmentsAreTaken count answer = (files : List FileView) → length files ≡ count → admits Defragment [] files ≡ answer
