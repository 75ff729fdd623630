-- What a query sees of a store's files, by what was read of them.
use Rattle.std.proofs.Common.{◌≡◌, ◌↔◌, ℕ, ◌<◌, ◌==◌, Bool, true, cond, List, [], ◌∷◌, length, refl, sym, ap, subst, ◌∙◌, inl, inr, eq-eqb, arith, IsTrue}
use Rattle.std.specs.Prelude.{Option, Some, None, Result, Ok, Err, filter, Contains, bytes_eq, not, nat_le, ◌&&◌, ◌||◌, option_map}
use Rattle.std.proofs.lemmas.Bool.{cases_Bool, eqb-true}
use Rattle.std.proofs.lemmas.List.Elements.{All-contains}
use Rattle.disk_trait.specs.Files.{Files}
use Rattle.disk_trait.specs.declared.damage.Damage.{Damage}
use Rattle.flowfile_record.specs.NumberedItems.{item_of}
use Rattle.flowfile_record.specs.Stored.{Kept}
use Rattle.flowfile_record.specs.declared.event.Event.{Event}
use Rattle.flowfile_record.specs.declared.stored.ActiveFile.{ActiveFile}
use Rattle.checkpoint_store.specs.Consistent.{IsConsistent, IsFileIn}
use Rattle.content_repo.specs.Claims.{claim, content_in, IsDamage}
use Rattle.content_repo.specs.Slots.{IsNamed}
use Rattle.flowfile_wal.specs.Current.{current_number}
use Rattle.kept_state.specs.Memory.{InMemory}
use Rattle.machine_model.specs.Files.{queue_at}
use Rattle.machine_model.specs.State.{QueuedFile, State}
use Rattle.machine_model.proofs.Among.{Among, among_contained, contains_among, makes}
use Rattle.prov_store.specs.Events.{events_in}
use Rattle.prov_store.specs.State.{EventsState, HasEvents}
use Rattle.prov_store.proofs.InFiles.{last_numbered}
use Rattle.prov_store.proofs.Scans.{all_between}
use Rattle.store_core.specs.Flow.{agrees_with}
use Rattle.store_core.specs.Kept.{kept_in}
use Rattle.store_core.specs.New.{kept_anew}
use Rattle.store_core.specs.Seen.{no_flow, or_anew, SeenState, kept_seen, IsSeenOn, IsReadOf, IsContentOf, live_file}
use Rattle.store_core.specs.State.{contents_damage, live_contents, queued_active, state_by, state_of, state_with, stands_for}
use Rattle.store_core.proofs.Agreeing.{sound_of, stands_by_kept}
use Rattle.store_core.proofs.ContentsRead.{file_named}
use Rattle.store_core.proofs.EventsStay.{since_none}
use Rattle.store_core.proofs.Opening.{stands_whole}
use Rattle.store_core.proofs.Sound.{one_sound, damage_not}
use Rattle.store_core.proofs.Validity.{live_is_queued, queued_is_live}

abbrev of_state : State → Result State Damage
of_state s = Ok s

abbrev of_kept : Kept → Result Kept Damage
of_kept k = Ok k

abbrev of_damage : Damage → Result State Damage
of_damage damage = Err damage

-- ---- a snapshot names a flow

agrees_by : (flow : List ℕ) (rest : Bool) → 0 < length flow → (not (bytes_eq flow []) || rest) ≡ true
agrees_by [] rest some = absurd (omega (arith, some))
agrees_by (x ∷ flow) rest some = refl

pub agrees_with_no_flow : (k : Kept) → 0 < length k.flow → agrees_with no_flow k ≡ true
agrees_with_no_flow k some = agrees_by k.flow _ some

-- ---- the state

pub torn_content : (files : Files) (k : Kept) (damage : Damage) → contents_damage files (live_contents k) ≡ Some damage → state_of files k ≡ of_damage damage
unfolding state_of
torn_content files k damage is = ap (λ (d : Option Damage). state_by files k d (events_in files 0 k.last_event)) is

pub torn_event : (files : Files) (k : Kept) (damage : Damage) → contents_damage files (live_contents k) ≡ None → events_in files 0 k.last_event ≡ Err damage → state_of files k ≡ of_damage damage
unfolding state_of
torn_event files k damage sound is =
    ap (λ (d : Option Damage). state_by files k d (events_in files 0 k.last_event)) sound ∙ ap (state_by files k None) is

-- what was seen, once all of it is read
pub is_seen : (files mid : Files) (s : SeenState) → mid ≡ files → kept_in no_flow 0 files ≡ Ok (kept_seen s) → ((s.stored ≡ None) ↔ (current_number files ≡ None))
    → contents_damage files (live_contents (kept_seen s)) ≡ None → HasEvents s.events mid → s.events.line ≡ 0 → s.events.end ≡ (kept_seen s).last_event → IsSeenOn files s
is_seen files mid s same kept made sound has line end =
    let here : HasEvents s.events files = subst (λ (f : Files). HasEvents s.events f) same has in
    record {
      kept = kept;
      made = made;
      events = here;
      last_event = end;
      line = line;
      stands = stands_whole no_flow 0 files (kept_seen s) here.events kept sound (since_none files s.events (kept_seen s).last_event line (sym end) ∙ here.says);
    }

pub last_seen : (tells : Bool) (files : Files) (stored : Option Kept) (s : SeenState) → IsReadOf tells files stored s → s.events.end ≡ (kept_seen s).last_event
last_seen tells files stored s read = read.last_event ∙ ap (λ (o : Option Kept). (or_anew o).last_event) (sym read.stored_is)

pub seen_of : (tells : Bool) (files mid : Files) (stored : Option Kept) (s : SeenState) → IsTrue tells → mid ≡ files → kept_in no_flow 0 files ≡ Ok (or_anew stored)
    → ((stored ≡ None) ↔ (current_number files ≡ None)) → IsReadOf tells mid stored s → IsSeenOn files s
seen_of tells files mid stored s told same kept made read =
    is_seen files mid s same (kept ∙ ap (λ (o : Option Kept). of_kept (or_anew o)) (sym read.stored_is))
    (λ none. made.0 (sym read.stored_is ∙ none), λ none. read.stored_is ∙ made.1 none)
    (ap (λ (f : Files). contents_damage f (live_contents (kept_seen s))) (sym same)
    ∙ ap (λ (o : Option Kept). contents_damage mid (live_contents (or_anew o))) read.stored_is ∙ read.sound told)
    (read.events told) read.line (last_seen tells mid stored s read)

some_made : (memory : Option InMemory) (m : InMemory) (files : Files) → memory ≡ Some m → ((memory ≡ None) ↔ (current_number files ≡ None)) → ((Some m.kept ≡ None) ↔ (current_number files ≡ None))
some_made memory m files is made = (λ (none : Some m.kept ≡ None). absurd cc, λ none. let both : Some m ≡ None = sym is ∙ made.1 none in absurd cc)

-- a store that is made was seen, and one that isn't
pub made_seen : (tells : Bool) (files mid : Files) (memory : Option InMemory) (m : InMemory) (s : SeenState) → memory ≡ Some m → mid ≡ files
    → (IsTrue tells → kept_in no_flow 0 files ≡ Ok (or_anew (option_map (λ m. m.kept) memory))) → (IsTrue tells → ((memory ≡ None) ↔ (current_number files ≡ None)))
    → IsReadOf tells mid (Some m.kept) s → IsTrue tells → IsSeenOn files s
made_seen tells files mid memory m s is same kept made read told =
    seen_of tells files mid (Some m.kept) s told same (kept told ∙ ap (λ (o : Option InMemory). of_kept (or_anew (option_map (λ (x : InMemory). x.kept) o))) is)
    (some_made memory m files is (made told)) read

pub none_seen : (tells : Bool) (files mid : Files) (memory : Option InMemory) (s : SeenState) → memory ≡ None → mid ≡ files
    → (IsTrue tells → kept_in no_flow 0 files ≡ Ok (or_anew (option_map (λ m. m.kept) memory))) → (IsTrue tells → ((memory ≡ None) ↔ (current_number files ≡ None)))
    → IsReadOf tells mid None s → IsTrue tells → IsSeenOn files s
none_seen tells files mid memory s is same kept made read told =
    seen_of tells files mid None s told same (kept told ∙ ap (λ (o : Option InMemory). of_kept (or_anew (option_map (λ (x : InMemory). x.kept) o))) is)
    (λ none. (made told).0 is, λ none. refl) read

-- what was read is damaged behind what is kept
pub made_torn : (files mid : Files) (memory : Option InMemory) (m : InMemory) (damage : Damage) → memory ≡ Some m → mid ≡ files
    → kept_in no_flow 0 files ≡ Ok (or_anew (option_map (λ m. m.kept) memory)) → state_of mid m.kept ≡ of_damage damage → stands_for no_flow 0 files ≡ of_damage damage
made_torn files mid memory m damage is same kept torn =
    stands_by_kept no_flow 0 files m.kept (kept ∙ ap (λ (o : Option InMemory). of_kept (or_anew (option_map (λ (x : InMemory). x.kept) o))) is)
    ∙ ap (λ (f : Files). state_of f m.kept) (sym same) ∙ torn

pub none_torn : (files mid : Files) (memory : Option InMemory) (damage : Damage) → memory ≡ None → mid ≡ files
    → kept_in no_flow 0 files ≡ Ok (or_anew (option_map (λ m. m.kept) memory)) → state_of mid (kept_anew no_flow 0) ≡ of_damage damage → stands_for no_flow 0 files ≡ of_damage damage
none_torn files mid memory damage is same kept torn =
    stands_by_kept no_flow 0 files (kept_anew no_flow 0) (kept ∙ ap (λ (o : Option InMemory). of_kept (or_anew (option_map (λ (x : InMemory). x.kept) o))) is)
    ∙ ap (λ (f : Files). state_of f (kept_anew no_flow 0)) (sym same) ∙ torn

-- ---- what is asked of it

-- the state that files stand for which hold what was seen
pub state_is : (files : Files) (s : SeenState) (state : State) (seen : IsSeenOn files s) → stands_for no_flow 0 files ≡ Ok state → state ≡ state_with (content_in files) seen.events.events (kept_seen s)
state_is files s state seen is = let both : of_state state ≡ of_state (state_with (content_in files) seen.events.events (kept_seen s)) = sym is ∙ seen.stands in cc

pub events_are : (files : Files) (s : SeenState) (state : State) (seen : IsSeenOn files s) → stands_for no_flow 0 files ≡ Ok state → seen.events.events ≡ state.events
events_are files s state seen is = ap (λ (x : State). x.events) (sym (state_is files s state seen is))

pub says_known : (files : Files) (s : SeenState) (known : EventsState) → known ≡ s.events → (seen : IsSeenOn files s) → events_in files known.line known.end ≡ Ok seen.events.events
says_known files s known is seen = ap (λ (e : EventsState). events_in files e.line e.end) is ∙ seen.events.says

pub between_are : (files : Files) (s : SeenState) (state : State) (known : EventsState) (from to : ℕ) (found : List Event) → known ≡ s.events → IsSeenOn files s → stands_for no_flow 0 files ≡ Ok state
    → ((events : List Event) → events_in files known.line known.end ≡ Ok events → found ≡ filter (λ e. nat_le from e.number && nat_le e.number to) events)
    → found ≡ filter (λ e. nat_le from e.number && nat_le e.number to) state.events
between_are files s state known from to found same seen is find =
    find seen.events.events (says_known files s known same seen)
    ∙ ap (filter (λ (e : Event). nat_le from e.number && nat_le e.number to)) (events_are files s state seen is)

pub all_are : (files : Files) (s : SeenState) (state : State) (known : EventsState) (to : ℕ) (found : List Event) → known ≡ s.events → known.line ≡ 0 → to ≡ known.end → IsSeenOn files s → stands_for no_flow 0 files ≡ Ok state
    → ((events : List Event) → events_in files known.line known.end ≡ Ok events → found ≡ filter (λ e. nat_le 1 e.number && nat_le e.number to) events)
    → found ≡ state.events
all_are files s state known to found same none end seen is find =
    let all = seen.events.events in
    let says = says_known files s known same seen in
    let row = last_numbered 0 known.end files all refl (ap (λ (n : ℕ). events_in files n known.end) (sym none) ∙ says) in
    find all says
    ∙ all_between 1 to 1 all row.0 (omega arith) (omega (arith, row.1, end))
    ∙ events_are files s state seen is

-- ---- contents

item_among : (number : ℕ) (files : List ActiveFile) (active : ActiveFile) → item_of (λ a. a.file.number) number files ≡ Some active
    → Among active files × (active.file.number ≡ number)
item_among number [] active is = absurd cc
item_among number (a ∷ files) active is =
    elim (cases_Bool (a.file.number == number)) [
      | inl t ↦
          let one : Some a ≡ Some active = sym (ap (λ (b : Bool). cond b (Some a) (item_of (λ (x : ActiveFile). x.file.number) number files)) t) ∙ is in
          let same : a ≡ active = cc in (inl same, ap (λ (x : ActiveFile). x.file.number) (sym same) ∙ eqb-true a.file.number number t)
      | inr f ↦
          let later = sym (ap (λ (b : Bool). cond b (Some a) (item_of (λ (x : ActiveFile). x.file.number) number files)) f) ∙ is in
          let rest = item_among number files active later in (inr rest.0, rest.1)
    ]

-- the file of a number is one of the files
pub item_there : (number : ℕ) (files : List ActiveFile) (active : ActiveFile) → item_of (λ a. a.file.number) number files ≡ Some active
    → Contains files active × (active.file.number ≡ number)
item_there number files active is = let item = item_among number files active is in (contains_among active files item.0, item.1)

none_among : (number : ℕ) (files : List ActiveFile) (active : ActiveFile) → item_of (λ a. a.file.number) number files ≡ None → Among active files → active.file.number ≡ number → ⊥
none_among number [] active is has same = has
none_among number (a ∷ files) active is (inl one) same =
    let t = eq-eqb a.file.number number (ap (λ (x : ActiveFile). x.file.number) one ∙ same) in
    let some : Some a ≡ None = sym (ap (λ (b : Bool). cond b (Some a) (item_of (λ (x : ActiveFile). x.file.number) number files)) t) ∙ is in absurd cc
none_among number (a ∷ files) active is (inr later) same =
    elim (cases_Bool (a.file.number == number)) [
      | inl t ↦ let some : Some a ≡ None = sym (ap (λ (b : Bool). cond b (Some a) (item_of (λ (x : ActiveFile). x.file.number) number files)) t) ∙ is in absurd cc
      | inr f ↦ none_among number files active (sym (ap (λ (b : Bool). cond b (Some a) (item_of (λ (x : ActiveFile). x.file.number) number files)) f) ∙ is) later same
    ]

-- and where there is none, no file has it
pub item_absent : (number : ℕ) (files : List ActiveFile) (active : ActiveFile) → item_of (λ a. a.file.number) number files ≡ None → Contains files active → active.file.number ≡ number → ⊥
item_absent number files active is has same = none_among number files active is (among_contained active files has) same

pub none_queued : (files : Files) (s : SeenState) (state : State) (number : ℕ) → IsSeenOn files s → stands_for no_flow 0 files ≡ Ok state → live_file number s ≡ None → IsContentOf number None state
none_queued files s state number seen is none place file has same =
    let k = kept_seen s in
    let there = subst (λ (x : State). Contains (queue_at x place) file) (state_is files s state seen is) has in
    let live = queued_is_live (content_in files) seen.events.events k place file there in
    item_absent number k.files live.active none live.there (ap (λ (f : QueuedFile). f.number) live.is ∙ same)

pub content_queued : (files : Files) (s : SeenState) (state : State) (number : ℕ) (active : ActiveFile) (bytes : List ℕ) → IsSeenOn files s → stands_for no_flow 0 files ≡ Ok state → IsConsistent (kept_seen s)
    → live_file number s ≡ Some active → bytes ≡ content_in files active.file.content → IsContentOf number (Some bytes) state
content_queued files s state number active bytes seen is consistent found content =
    let k = kept_seen s in
    let item = item_there number k.files active found in record {
      place = active.connection;
      file = queued_active (content_in files) active;
      queued = subst (λ (x : State). Contains (queue_at x active.connection) (queued_active (content_in files) active)) (sym (state_is files s state seen is))
          (live_is_queued (content_in files) seen.events.events k active consistent item.0);
      numbered = item.1;
      bytes_are = sym content;
    }

-- the content of a live file has a place in a claim
pub live_named : (number : ℕ) (s : SeenState) (active : ActiveFile) → IsConsistent (kept_seen s) → live_file number s ≡ Some active → IsNamed active.file.content
live_named number s active consistent found =
    let k = kept_seen s in
    file_named k active (All-contains (IsFileIn k) k.files active consistent.files (item_there number k.files active found).0)

-- and where the files hold what was seen, nothing is wrong with it
pub live_sound : (files : Files) (s : SeenState) (number : ℕ) (active : ActiveFile) (damage : Damage) → IsSeenOn files s → live_file number s ≡ Some active
    → IsDamage active.file.content (files (claim active.file.content.slot)) damage → ⊥
live_sound files s number active damage seen found wrong =
    let k = kept_seen s in
    let whole = sound_of files k (state_with (content_in files) seen.events.events k) (sym (stands_by_kept no_flow 0 files k seen.kept) ∙ seen.stands) in
    let here = contains_among active.file.content (live_contents k) (makes (λ (a : ActiveFile). a.file.content) k.files active (item_among number k.files active found).0) in
    damage_not files active.file.content damage (one_sound files (live_contents k) active.file.content whole.contents here) wrong
