-- Small flows, files and steps that the machine's definitions are tried on.
use Rattle.std.specs.Prelude.{ℕ, false, List, [], ◌∷◌, length, Option, None, codes}
use Rattle.std.specs.FinSet.{empty, from_list, union}
use Rattle.sha2.specs.Sha256.{sha256}
use Rattle.flowfile_record.specs.Attributes.{AttributeMap}
use Rattle.flowfile_record.specs.NamedFile.{with_file}
use Rattle.flowfile_record.specs.declared.event.Event.{Event}
use Rattle.flowfile_record.specs.declared.event.EventKind.{EventKind}
use Rattle.machine_model.specs.declared.flow.Flow.{Flow}
use Rattle.machine_model.specs.declared.flow.Connection.{Connection}
use Rattle.machine_model.specs.declared.flow.Processor.{Processor}
use Rattle.machine_model.specs.declared.flow.QueueLimits.{QueueLimits}
use Rattle.machine_model.specs.declared.given.Given.{Given}
use Rattle.machine_model.specs.declared.journal.Step.{Step}
use Rattle.machine_model.specs.declared.journal.Step.TheVariants as entry
use Rattle.machine_model.specs.declared.kind.Conflict.{Conflict}
use Rattle.machine_model.specs.declared.kind.Kind.{Kind}
use Rattle.machine_model.specs.declared.kind.Kind.TheVariants.{GetFile, PutFile}
use Rattle.machine_model.specs.Acting.{received_attributes}
use Rattle.machine_model.specs.State.{QueuedFile, Kin, State, World, Machine}

abbrev pub hi : List ℕ
hi = 104 ∷ 105 ∷ []

abbrev pub success : List (List ℕ)
success = codes "success" ∷ []

abbrev pub both : List (List ℕ)
both = codes "success" ∷ codes "failure" ∷ []

-- a processor whose penalty is 30 seconds
abbrev pub processor : List ℕ → Kind → (terminated : List (List ℕ)) → Processor
processor id kind terminated = record { id = id; kind = kind; tasks = 1; penalty = 30_000; terminated = terminated }

-- a connection from success, in the order of arrival of the oldest data
abbrev pub connection : List ℕ → (source target : ℕ) → QueueLimits → Connection
connection id source target limits =
    record { id = id; source = source; relationships = success; target = target; order = []; limits = limits }

abbrev pub wide : QueueLimits
wide = record { expiration = 0; objects = 0; bytes = 0; swap = 20_000 }

-- GetFile to PutFile, whose files all leave the flow
abbrev pub get_to_put : Conflict → QueueLimits → Flow
get_to_put conflict limits = record {
  processors = processor (codes "get") (GetFile None) [] ∷ processor (codes "put") (PutFile conflict) both ∷ [];
  connections = connection (codes "c1") 0 1 limits ∷ [];
  digest = [];
}

-- an active file that entered at 1000
abbrev pub waiting : (number arrival : ℕ) → AttributeMap → List ℕ → QueuedFile
waiting number arrival attributes bytes =
    record {
      number = number;
      attributes = attributes;
      bytes = bytes;
      entered = 1000;
      penalty_end = 0;
      arrival = arrival;
      batch = None;
    }

abbrev pub a_txt : List ℕ
a_txt = codes "a.txt"

-- a file of the inbox, queued
abbrev pub a_file : (number arrival : ℕ) → QueuedFile
a_file number arrival = waiting number arrival (received_attributes a_txt) hi

-- no file came from another, and these did, each by an event of this number
abbrev pub no_kin : Kin
no_kin = empty

abbrev pub kin_of : List (ℕ × ℕ × ℕ) → Kin
kin_of all = union no_kin (from_list all)

-- a state in which nothing has happened, with these queues and the numbers that come next
abbrev pub state_of : List (List QueuedFile) → (next_number next_arrival : ℕ) → (counts : List ℕ) → State
state_of queues next_number next_arrival counts =
    record {
      store = 0x123456789abcde;
      line = 0;
      queues = queues;
      events = [];
      kin = no_kin;
      next_number = next_number;
      next_arrival = next_arrival;
      next_batch = 1;
      last_event = 0;
      counts = counts;
    }

abbrev pub at_moment : ℕ → Given
at_moment moment = record { moment = moment; index = 0; there = false; file = None; bytes = None }

abbrev pub session : (place : ℕ) → List ℕ → ℕ → Given → Step
session place numbers moment given = entry.Session place numbers moment given

-- an event of a file, at a moment, that names no other file
abbrev pub told : (number moment : ℕ) → EventKind → (component : List ℕ) → (file : ℕ) → (detail bytes : List ℕ) → Event
told number moment kind component file detail bytes = record {
  number = number;
  kind = kind;
  moment = moment;
  component = component;
  file = file;
  parents = [];
  children = [];
  detail = detail;
  size = length bytes;
  digest = sha256 bytes;
}

-- an outbox that has nothing under any name
abbrev pub no_file : List ℕ → Option (List ℕ)
no_file name = None

abbrev pub nothing : World
nothing = record { inbox = []; left = []; outbox = no_file }

-- the inbox has this file, which is left
abbrev pub inbox_of : (name bytes : List ℕ) → World
inbox_of name bytes = record { inbox = record { name = name; bytes = bytes } ∷ []; left = name ∷ []; outbox = no_file }

-- the outbox has the file already
abbrev pub with_a : World
with_a = record nothing { outbox = with_file no_file a_txt (1 ∷ []) }

abbrev pub machine : State → World → Machine
machine state world = record { state = state; world = world }
