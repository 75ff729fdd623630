-- Tried: which events tell of a session, and what its children are.
use Rattle.std.specs.Prelude.{◌≡◌, ℕ, Bool, true, false, List, [], ◌∷◌, ◌++◌, map, Some, None, codes}
use Rattle.flowfile_record.specs.Attributes.{AttributeMap}
use Rattle.flowfile_record.specs.declared.event.Event.{Event}
use Rattle.flowfile_record.specs.declared.event.EventKind.TheVariants as kind
use Rattle.flowfile_record.specs.declared.worked.Body.TheVariants as body
use Rattle.flowfile_record.specs.declared.worked.End.{End}
use Rattle.flowfile_record.specs.declared.worked.End.TheVariants.{To, Removed}
use Rattle.flowfile_record.specs.declared.worked.Origin.{Origin}
use Rattle.flowfile_record.specs.declared.worked.Origin.TheVariants as origin
use Rattle.flowfile_record.specs.declared.worked.Outcome.{Outcome}
use Rattle.flowfile_record.specs.declared.worked.Worked.{Worked}
use Rattle.machine_model.specs.declared.flow.Flow.{Flow}
use Rattle.machine_model.specs.declared.flow.Processor.{Processor}
use Rattle.machine_model.specs.declared.kind.Conflict.TheVariants.{Replace}
use Rattle.machine_model.specs.declared.kind.Kind.TheVariants.{GetFile, PutFile, SplitText, MergeContent}
use Rattle.machine_model.specs.declared.kind.MergeStrategy.TheVariants.{BinPacking}
use Rattle.machine_model.specs.State.{QueuedFile, State}
use Rattle.machine_model.specs.Acting.{received_attributes}
use Rattle.machine_model.specs.Making.{passed_on, made_file}
use Rattle.machine_model.specs.Placing.{EndedSession, entered_by}
use Rattle.machine_model.specs.Settling.{settle}
use Rattle.machine_examples.specs.Clones.{upd, fanning, ending_two}
use Rattle.machine_examples.specs.Small.{hi, both, processor, connection, wide, get_to_put, a_txt, a_file, waiting, state_of, kin_of, at_moment, told}

abbrev pub attributes : AttributeMap
attributes = received_attributes a_txt

-- GetFile to a processor, whose one relationship leads to a PutFile
abbrev pub through : Processor → (relationship : List ℕ) → Flow
through middle relationship = record {
  processors = processor (codes "get") (GetFile None) [] ∷ middle ∷ processor (codes "put") (PutFile Replace) both ∷ [];
  connections =
      connection (codes "c1") 0 1 wide
      ∷ record (connection (codes "c2") 1 2 wide) { relationships = relationship ∷ [] } ∷ [];
  digest = [];
}

-- ---- a file is split in two, and leaves

abbrev pub split : Processor
split = processor (codes "split") (SplitText 1) (codes "original" ∷ codes "failure" ∷ [])

abbrev pub part : (offset : ℕ) → Worked
part offset =
    record {
      origin = origin.Part 0;
      attributes = attributes;
      body = body.Part 0 offset 1;
      end = To 1;
      written = false;
      penalised = false;
      routed = None;
    }

abbrev pub splitting : EndedSession
splitting = record {
  flow = through split (codes "splits");
  place = 1;
  processor = split;
  state = state_of ((a_file 1 1 ∷ []) ∷ [] ∷ []) 2 2 (0 ∷ 0 ∷ 0 ∷ []);
  taken = a_file 1 1 ∷ [];
  given = at_moment 2000;
}

abbrev pub after_split : State
after_split =
    record (state_of ([] ∷ (waiting 2 2 attributes (104 ∷ []) ∷ waiting 3 3 attributes (105 ∷ []) ∷ []) ∷ []) 4 4
    (0 ∷ 0 ∷ 0 ∷ [])) {
      events = record (told 1 2000 kind.Fork (codes "split") 1 [] hi) { parents = 1 ∷ []; children = 2 ∷ 3 ∷ [] }
          ∷ told 2 2000 kind.Drop (codes "split") 1 (codes "original") hi ∷ [];
      kin = kin_of ((2, 1, 1) ∷ (3, 1, 1) ∷ []);
      last_event = 2;
    }

abbrev pub SplitTells : Type 0
SplitTells =
    settle splitting (record { files = passed_on 0 attributes false 0 ∷ part 0 ∷ part 1 ∷ []; sent = None })
    ≡ after_split

-- ---- two files, 5 and 3, are joined to 6, and leave; the data of 3 entered earlier

abbrev pub merge : Processor
merge = processor (codes "merge") (MergeContent BinPacking 1 2) (codes "original" ∷ codes "failure" ∷ [])

abbrev pub early : QueuedFile
early = record (a_file 3 2) { entered = 900 }

abbrev pub joining : EndedSession
joining = record {
  flow = through merge (codes "merged");
  place = 1;
  processor = merge;
  state = state_of ((a_file 5 1 ∷ early ∷ []) ∷ [] ∷ []) 6 3 (0 ∷ 0 ∷ 0 ∷ []);
  taken = a_file 5 1 ∷ early ∷ [];
  given = at_moment 2000;
}

abbrev pub after_join : State
after_join =
    record (state_of ([] ∷ (record (waiting 6 3 attributes (hi ++ hi)) { entered = 900 } ∷ []) ∷ []) 7 4
    (0 ∷ 0 ∷ 0 ∷ [])) {
      events = record (told 1 2000 kind.Join (codes "merge") 6 [] (hi ++ hi)) {
        parents = 3 ∷ 5 ∷ [];
        children = 6
            ∷ [];
      }
          ∷ told 2 2000 kind.Drop (codes "merge") 5 (codes "original") hi
          ∷ told 3 2000 kind.Drop (codes "merge") 3 (codes "original") hi ∷ [];
      kin = kin_of ((6, 5, 1) ∷ (6, 3, 1) ∷ []);
      last_event = 3;
    }

abbrev pub JoinTells : Type 0
JoinTells =
    settle joining (record {
      files = passed_on 0 attributes false 1 ∷ passed_on 1 attributes false 1
          ∷ made_file (origin.Joined (0 ∷ 1 ∷ [])) attributes (hi ++ hi) false 0 ∷ [];
      sent = None;
    })
    ≡ after_join

-- ---- a file that is changed, and leaves

abbrev pub changing : EndedSession
changing = record {
  flow = get_to_put Replace wide;
  place = 1;
  processor = processor (codes "put") (PutFile Replace) both;
  state = state_of ((a_file 1 1 ∷ []) ∷ []) 2 2 (0 ∷ 0 ∷ []);
  taken = a_file 1 1 ∷ [];
  given = at_moment 2000;
}

abbrev pub changed : (written : Bool) → AttributeMap → (bytes : List ℕ) → End → Outcome
changed written attributes bytes end =
    record {
      files = record {
        origin = origin.Taken 0;
        attributes = attributes;
        body = body.New bytes;
        end = end;
        written = written;
        penalised = false;
        routed = None;
      } ∷ [];
      sent = None;
    }

abbrev pub Tells : Outcome → List Event → Type 0
Tells outcome events = (settle changing outcome).events ≡ events

abbrev pub other : AttributeMap
other = received_attributes (codes "b")

abbrev pub drop_of : (number : ℕ) → (detail bytes : List ℕ) → Event
drop_of number detail bytes = told number 2000 kind.Drop (codes "put") 1 detail bytes

abbrev pub WritingTells : Type 0
WritingTells =
    Tells (changed true attributes [] (To 0))
    (told 1 2000 kind.ContentModified (codes "put") 1 [] [] ∷ drop_of 2 (codes "success") [] ∷ [])

abbrev pub SettingTells : Type 0
SettingTells =
    Tells (changed false other hi (To 0))
    (told 1 2000 kind.AttributesModified (codes "put") 1 [] hi ∷ drop_of 2 (codes "success") hi ∷ [])

-- of both only the writing is told; of a removed file neither; of one that was not changed its end alone
abbrev pub BothTellOne : Type 0
BothTellOne =
    Tells (changed true other [] (To 1))
    (told 1 2000 kind.ContentModified (codes "put") 1 [] [] ∷ drop_of 2 (codes "failure") [] ∷ [])

abbrev pub RemovedTellsNone : Type 0
RemovedTellsNone = Tells (changed true other [] Removed) (drop_of 1 [] [] ∷ [])

abbrev pub UnchangedTellsNone : Type 0
UnchangedTellsNone = Tells (changed false attributes hi (To 0)) (drop_of 1 (codes "success") hi ∷ [])

abbrev pub RoutedTells : Type 0
RoutedTells =
    Tells (record { files = record (passed_on 0 attributes false 0) { routed = Some 0 } ∷ []; sent = None })
    (told 1 2000 kind.Route (codes "put") 1 (codes "success") hi ∷ drop_of 2 (codes "success") hi ∷ [])

-- its attributes, then where it is routed, then that it is sent, then that it leaves
abbrev pub AllTellInTurn : Type 0
AllTellInTurn =
    Tells (record {
      files = record (passed_on 0 other false 0) { routed = Some 0 } ∷ [];
      sent = Some (record { place = 0; name = a_txt });
    })
    (told 1 2000 kind.AttributesModified (codes "put") 1 [] hi ∷ told 2 2000 kind.Route (codes "put") 1 (codes "success") hi
    ∷ told 3 2000 kind.Send (codes "put") 1 a_txt hi
    ∷ drop_of 4 (codes "success") hi ∷ [])

-- the data of a child with a content of its own entered when its parent's did
abbrev pub ForkedEnteredAsParent : Type 0
ForkedEnteredAsParent = entered_by 2000 [] (900 ∷ []) (origin.Forked 0) ≡ 900

-- that of a joined file when the earliest of its parents' did, wherever that one stands
abbrev pub JoinedEnteredAsEarliest : Type 0
JoinedEnteredAsEarliest = entered_by 2000 [] (1000 ∷ 950 ∷ 900 ∷ []) (origin.Joined (0 ∷ 1 ∷ 2 ∷ [])) ≡ 900

-- ---- every kind of a session: of two files the first is set, routed, sent and goes to two connections, the second is
-- written and dropped, and so are five that are made

abbrev pub made_to_drop : Origin → Worked
made_to_drop from = made_file from attributes hi false 1

abbrev pub KindsInTurn : Type 0
KindsInTurn =
    map (λ event. event.kind)
    (settle (record ending_two { flow = fanning; processor = upd })
    (record {
      files = record (passed_on 0 other false 0) { routed = Some 0 }
          ∷ record (passed_on 1 attributes false 1) { written = true }
          ∷ made_to_drop (origin.Joined (0 ∷ 1 ∷ [])) ∷ made_to_drop (origin.Cloned 1)
          ∷ made_to_drop (origin.Forked 0) ∷ made_to_drop origin.Received ∷ made_to_drop origin.Created ∷ [];
      sent = Some (record { place = 0; name = a_txt });
    })).events
    ≡ kind.Create ∷ kind.Receive ∷ kind.Fork ∷ kind.Join ∷ kind.Clone ∷ kind.ContentModified
    ∷ kind.AttributesModified ∷ kind.Route ∷ kind.Send ∷ kind.Clone ∷ kind.Drop ∷ kind.Drop ∷ kind.Drop ∷ kind.Drop
    ∷ kind.Drop ∷ kind.Drop ∷ []
