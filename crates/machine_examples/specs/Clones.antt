-- Tried: numbers, arrivals, connections and events of clones, and the names of made files.
use Rattle.std.specs.Prelude.{◌≡◌, ℕ, true, Err, false, List, [], ◌∷◌, Some, None, codes, decimal}
use Rattle.std.specs.FinMap.{get, insert}
use Rattle.expr_lang.specs.declared.syntax.Expr.{Expr}
use Rattle.expr_lang.specs.declared.error.EvalError.{EvalError}
use Rattle.expr_lang.specs.Meaning.{tree_value}
use Rattle.expr_lang.specs.View.{tree_of}
use Rattle.flowfile_record.specs.Attributes.{AttributeMap}
use Rattle.flowfile_record.specs.declared.event.Event.{Event}
use Rattle.flowfile_record.specs.declared.event.EventKind.TheVariants as kind
use Rattle.flowfile_record.specs.declared.worked.Body.TheVariants.{Whole}
use Rattle.flowfile_record.specs.declared.worked.End.TheVariants.{To}
use Rattle.flowfile_record.specs.declared.worked.Origin.{Origin}
use Rattle.flowfile_record.specs.declared.worked.Origin.TheVariants as origin
use Rattle.flowfile_record.specs.declared.worked.Outcome.{Outcome}
use Rattle.flowfile_record.specs.declared.worked.Worked.{Worked}
use Rattle.machine_model.specs.declared.flow.Flow.{Flow}
use Rattle.machine_model.specs.declared.flow.Processor.{Processor}
use Rattle.machine_model.specs.declared.kind.Conflict.TheVariants.{Replace}
use Rattle.machine_model.specs.declared.kind.Kind.TheVariants.{GetFile, GenerateFlowFile, PutFile, UpdateAttribute, DuplicateFlowFile}
use Rattle.machine_model.specs.State.{QueuedFile, State}
use Rattle.machine_model.specs.Acting.{act, received_attributes, generated_attributes, text_or_nothing}
use Rattle.machine_model.specs.Making.{alone, made_file, passed_on}
use Rattle.flowfile_record.specs.Outcome.{is_made}
use Rattle.machine_model.specs.Placing.{EndedSession, uuid_text, with_filename}
use Rattle.machine_model.specs.Settling.{settle}
use Rattle.machine_model.specs.Stepping.{step}
use Rattle.machine_examples.specs.Small.{hi, both, processor, connection, wide, a_txt, a_file, waiting, machine, state_of, kin_of, at_moment, session, told, nothing}

-- the event that a file was cloned
abbrev pub clone_of : (number moment : ℕ) → (component : List ℕ) → (file clone : ℕ) → List ℕ → Event
clone_of number moment component file clone bytes =
    record (told number moment kind.Clone component file [] bytes) { parents = file ∷ []; children = clone ∷ [] }

-- ---- a DuplicateFlowFile's session that ends with a file and four clones of it, all to one connection

abbrev pub dup : Processor
dup = processor (codes "dup") (DuplicateFlowFile 4) []

abbrev pub duplicating : Flow
duplicating = record {
  processors = processor (codes "get") (GetFile None) [] ∷ dup ∷ processor (codes "put") (PutFile Replace) both ∷ [];
  connections = connection (codes "c1") 0 1 wide ∷ connection (codes "c2") 1 2 wide ∷ [];
  digest = [];
}

abbrev pub one_file : State
one_file = state_of ((a_file 1 1 ∷ []) ∷ [] ∷ []) 2 2 (0 ∷ 0 ∷ 0 ∷ [])

abbrev pub ending : EndedSession
ending = record {
  flow = duplicating;
  place = 1;
  processor = dup;
  state = one_file;
  taken = a_file 1 1 ∷ [];
  given = at_moment 2000;
}

abbrev pub clone : Worked
clone = record {
  origin = origin.Cloned 0;
  attributes = received_attributes a_txt;
  body = Whole 0;
  end = To 0;
  written = false;
  penalised = false;
  routed = None;
}

abbrev pub with_four_clones : Outcome
with_four_clones =
    record { files = passed_on 0 (received_attributes a_txt) false 0 ∷ clone ∷ clone ∷ clone ∷ clone ∷ []; sent = None }

abbrev pub five_files : State
five_files =
    record (state_of ([] ∷ (a_file 1 2 ∷ a_file 2 3 ∷ a_file 3 4 ∷ a_file 4 5 ∷ a_file 5 6 ∷ []) ∷ []) 6 7
    (0 ∷ 0 ∷ 0 ∷ [])) {
      events =
          clone_of 1 2000 (codes "dup") 1 2 hi ∷ clone_of 2 2000 (codes "dup") 1 3 hi
          ∷ clone_of 3 2000 (codes "dup") 1 4 hi
          ∷ clone_of 4 2000 (codes "dup") 1 5 hi ∷ [];
      kin = kin_of ((2, 1, 1) ∷ (3, 1, 2) ∷ (4, 1, 3) ∷ (5, 1, 4) ∷ []);
      last_event = 4;
    }

abbrev pub FourClonesFollow : Type 0
FourClonesFollow = settle ending with_four_clones ≡ five_files

-- ---- a penalised file, whose relationship leads to two connections: its clone is penalised as long

abbrev pub doubling : Flow
doubling =
    record duplicating {
      connections = connection (codes "c1") 0 1 wide ∷ connection (codes "c2") 1 2 wide
          ∷ connection (codes "c3") 1 2 wide ∷ [];
    }

abbrev pub penalising : EndedSession
penalising = record ending { flow = doubling; state = state_of ((a_file 1 1 ∷ []) ∷ [] ∷ [] ∷ []) 2 2 (0 ∷ 0 ∷ 0 ∷ []) }

abbrev pub until_32 : (number arrival : ℕ) → QueuedFile
until_32 number arrival = record (a_file number arrival) { penalty_end = 32_000 }

abbrev pub ClonesArePenalisedToo : Type 0
ClonesArePenalisedToo =
    settle penalising (record { files = passed_on 0 (received_attributes a_txt) true 0 ∷ []; sent = None })
    ≡ record (state_of ([] ∷ (until_32 1 2 ∷ []) ∷ (until_32 2 3 ∷ []) ∷ []) 3 4 (0 ∷ 0 ∷ 0 ∷ [])) {
      events = clone_of 1 2000 (codes "dup") 1 2 hi ∷ [];
      kin = kin_of ((2, 1, 1) ∷ []);
      last_event = 1;
    }

-- ---- two files that were taken and one that was made of the first, each to two connections: clones behind all of them

abbrev pub two_files : State
two_files = state_of ((a_file 1 1 ∷ a_file 2 2 ∷ []) ∷ [] ∷ [] ∷ []) 3 3 (0 ∷ 0 ∷ 0 ∷ [])

abbrev pub ending_two : EndedSession
ending_two = record ending { flow = doubling; state = two_files; taken = a_file 1 1 ∷ a_file 2 2 ∷ [] }

abbrev pub passed : (place : ℕ) → Worked
passed place = passed_on place (received_attributes a_txt) false 0

abbrev pub TwoFanOut : Type 0
TwoFanOut =
    settle ending_two (record { files = passed 0 ∷ passed 1 ∷ clone ∷ []; sent = None })
    ≡ record (state_of ([] ∷ (a_file 1 3 ∷ a_file 2 4 ∷ a_file 3 5 ∷ []) ∷ (a_file 4 6 ∷ a_file 5 7 ∷ a_file 6 8 ∷ [])
    ∷ []) 7 9 (0 ∷ 0 ∷ 0 ∷ [])) {
      events =
          clone_of 1 2000 (codes "dup") 1 3 hi ∷ clone_of 2 2000 (codes "dup") 1 4 hi
          ∷ clone_of 3 2000 (codes "dup") 2 5 hi
          ∷ clone_of 4 2000 (codes "dup") 3 6 hi ∷ [];
      kin = kin_of ((3, 1, 1) ∷ (4, 1, 2) ∷ (5, 2, 3) ∷ (6, 3, 4) ∷ []);
      last_event = 4;
    }

-- a copy of the second before one of the first: each is told by its original's place
abbrev pub CopiesGoByOriginals : Type 0
CopiesGoByOriginals =
    (settle (record ending_two { flow = duplicating })
    (record {
      files = passed 0 ∷ passed 1 ∷ record clone { origin = origin.Cloned 1 } ∷ clone ∷ [];
      sent = None;
    })).events
    ≡ clone_of 1 2000 (codes "dup") 1 4 hi ∷ clone_of 2 2000 (codes "dup") 2 3 hi ∷ []

-- ---- beside a file that is dropped: its clone is told before the drop, wherever they stand

abbrev pub upd : Processor
upd = processor (codes "upd") (UpdateAttribute []) (codes "failure" ∷ [])

abbrev pub fanning : Flow
fanning =
    record doubling {
      processors = processor (codes "get") (GetFile None) [] ∷ upd
          ∷ processor (codes "put") (PutFile Replace) both ∷ [];
    }

abbrev pub BesideADrop : Type 0
BesideADrop =
    settle (record ending_two { flow = fanning; processor = upd })
    (record { files = passed_on 0 (received_attributes a_txt) false 1 ∷ passed 1 ∷ []; sent = None })
    ≡ record (state_of ([] ∷ (a_file 2 3 ∷ []) ∷ (a_file 3 4 ∷ []) ∷ []) 4 5 (0 ∷ 0 ∷ 0 ∷ [])) {
      events = clone_of 1 2000 (codes "upd") 2 3 hi ∷ told 2 2000 kind.Drop (codes "upd") 1 (codes "failure") hi ∷ [];
      kin = kin_of ((3, 2, 1) ∷ []);
      last_event = 2;
    }

-- ---- two relationships that lead apart

abbrev pub apart : Flow
apart = record fanning {
  processors =
      processor (codes "get") (GetFile None) [] ∷ processor (codes "upd") (UpdateAttribute []) []
      ∷ processor (codes "put") (PutFile Replace) both ∷ [];
  connections =
      connection (codes "c1") 0 1 wide ∷ connection (codes "c2") 1 2 wide
      ∷ record (connection (codes "c3") 1 2 wide) { relationships = codes "failure" ∷ [] } ∷ [];
}

abbrev pub EachGoesItsWay : Type 0
EachGoesItsWay =
    settle (record ending_two { flow = apart; processor = processor (codes "upd") (UpdateAttribute []) [] })
    (record { files = passed_on 0 (received_attributes a_txt) false 1 ∷ passed 1 ∷ []; sent = None })
    ≡ record (state_of ([] ∷ (a_file 2 4 ∷ []) ∷ (a_file 1 3 ∷ []) ∷ []) 3 5 (0 ∷ 0 ∷ 0 ∷ [])) { kin = kin_of [] }

-- ---- a file that a GenerateFlowFile made, whose relationship leads to three connections

abbrev pub generating : Expr → Flow
generating text = record {
  processors =
      processor (codes "gen") (GenerateFlowFile 1 text) [] ∷ processor (codes "put") (PutFile Replace) both ∷ [];
  connections =
      connection (codes "c1") 0 1 wide ∷ connection (codes "c2") 0 1 wide ∷ connection (codes "c3") 0 1 wide ∷ [];
  digest = [];
}

abbrev pub content : Expr → List ℕ
content text = text_or_nothing (tree_value (get (generated_attributes 1)) (tree_of text))

-- named by the uuid of file 1 of the store, the clones too
abbrev pub named : AttributeMap
named = insert (generated_attributes 1) (codes "filename") (uuid_text 0x123456789abcde 1)

abbrev pub three_files : Expr → State
three_files text =
    record (state_of ((waiting 1 1 named (content text) ∷ []) ∷ (waiting 2 2 named (content text) ∷ [])
    ∷ (waiting 3 3 named (content text) ∷ []) ∷ []) 4 4 (1 ∷ 0 ∷ [])) {
      events =
          told 1 1000 kind.Create (codes "gen") 1 [] (content text) ∷ clone_of 2 1000 (codes "gen") 1 2 (content text)
          ∷ clone_of 3 1000 (codes "gen") 1 3 (content text) ∷ [];
      kin = kin_of ((2, 1, 2) ∷ (3, 1, 3) ∷ []);
      last_event = 3;
    }

abbrev pub EachConnectionGetsOne : Type 0
EachConnectionGetsOne =
    (text : Expr) → step (generating text) (machine (state_of ([] ∷ [] ∷ [] ∷ []) 1 1 (0 ∷ 0 ∷ [])) nothing)
    (session 0 [] 1000 (record (at_moment 1000) { index = 1 }))
    ≡ Some (machine (three_files text) nothing)

-- a text that has no value makes a file without bytes
abbrev pub NoValueIsEmpty : Type 0
NoValueIsEmpty =
    (text : Expr) (error : EvalError) → tree_value (get (generated_attributes 1)) (tree_of text) ≡ Err error →
    act (GenerateFlowFile 1 text) [] (record (at_moment 1000) { index = 1 })
    ≡ Some (alone (made_file origin.Created (generated_attributes 1) [] true 0))

-- ---- the attributes of files that sources make

abbrev pub ReceivedSays : Type 0
ReceivedSays =
    (name : List ℕ) → (get (received_attributes name) (codes "filename") ≡ Some name)
    × (get (received_attributes name) (codes "path") ≡ Some (codes "./"))

abbrev pub GeneratedSays : Type 0
GeneratedSays = (index : ℕ) →
    (get (generated_attributes index) (codes "generate.index") ≡ Some (decimal index))
    × (get (generated_attributes index) (codes "path") ≡ Some (codes "./"))

-- ---- names of made files

abbrev pub MadeIsNamed : Type 0
MadeIsNamed =
    (from : Origin) (store number : ℕ) (attributes : AttributeMap) → is_made from
    ≡ true → get attributes (codes "filename") ≡ None →
    get (with_filename from store number attributes) (codes "filename") ≡ Some (uuid_text store number)

abbrev pub NamedKeepsItsName : Type 0
NamedKeepsItsName =
    (from : Origin) (store number : ℕ) (attributes : AttributeMap) (name : List ℕ) → get attributes (codes "filename")
    ≡ Some name →
    with_filename from store number attributes ≡ attributes

abbrev pub TakenStaysNameless : Type 0
TakenStaysNameless =
    (place store number : ℕ) (attributes : AttributeMap) → with_filename (origin.Taken place) store number attributes
    ≡ attributes
