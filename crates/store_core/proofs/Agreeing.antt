-- What files stand for rests on what a state needs of them alone.
use Rattle.std.proofs.Common.{◌≡◌, ℕ, ◌≤◌, ◌==◌, cond, ltb, Bool, true, false, List, [], ◌∷◌, length, map, refl, sym, ap, ◌∙◌, subst, arith}
use Rattle.std.specs.Prelude.{All, Option, None, Some, Result, Ok, Err, filter, fold, nat_lt}
use Rattle.std.specs.List.{enumerate_from}
use Rattle.std.proofs.lemmas.List.Elements.{All-head, All-tail}
use Rattle.disk_trait.specs.Files.{Files}
use Rattle.disk_trait.specs.declared.damage.Damage.{Damage}
use Rattle.flowfile_record.specs.Stored.{Kept}
use Rattle.flowfile_record.specs.declared.content.ContentRef.{ContentRef}
use Rattle.flowfile_record.specs.declared.event.Event.{Event}
use Rattle.flowfile_record.specs.declared.stored.ActiveFile.{ActiveFile}
use Rattle.checkpoint_store.specs.Snapshot.{snapshot_file}
use Rattle.content_repo.specs.Claims.{claim, content_in, IsCovered}
use Rattle.content_repo.specs.Slots.{end_of}
use Rattle.flowfile_wal.specs.Current.{CurrentLog, current_log}
use Rattle.machine_model.specs.State.{QueuedFile, State}
use Rattle.store_core.specs.Flow.{Flow}
use Rattle.store_core.specs.Kept.{snapshot_for, batches_in, behind_log, behind_snapshot, with_entries, kept_in}
use Rattle.machine_model.specs.Changing.{with_arrival}
use Rattle.prov_store.specs.Events.{events_in}
use Rattle.prov_store.specs.State.{SameEvents}
use Rattle.store_core.specs.State.{digest_damage, content_damage, first_damage, contents_damage, live_contents, queued_active, queue_of, state_with, state_by, state_of, behind_kept, stands_for}
use Rattle.store_core.proofs.EventsStay.{says_still}
use Rattle.store_core.specs.Agreement.{Needs, Agrees, SameContent, IsNeeded}
use Rattle.kept_state.specs.Applied.{batches_that_matter}

-- ---- agreement

content_same : (files : Files) (at : ContentRef) → SameContent files files at
content_same files at = record { bytes = refl; covered = λ h. h }

contents_same : (files : Files) (contents : List ContentRef) → All (SameContent files files) contents
contents_same files contents = λ k d lt. content_same files _

pub agrees_with_itself : (needs : Needs) (files : Files) → Agrees needs files files
agrees_with_itself needs files = record {
  log = refl;
  snapshot = refl;
  batches = λ k d lt. refl;
  contents = contents_same files needs.contents;
  events = λ file. refl;
}

pub agrees_in_turn : (needs : Needs) (old mid new : Files) → Agrees needs old mid → Agrees needs mid new → Agrees needs old new
agrees_in_turn needs old mid new first second = record {
  log = second.log ∙ first.log;
  snapshot = second.snapshot ∙ first.snapshot;
  batches = λ k d lt. second.batches k d lt ∙ first.batches k d lt;
  contents = λ k d lt. record {
    bytes = (second.contents k d lt).bytes ∙ (first.contents k d lt).bytes;
    covered = λ h. (second.contents k d lt).covered ((first.contents k d lt).covered h);
  };
  events = λ file. second.events file ∙ first.events file;
}

-- ---- what is kept

same_batches : (old new : Files) (batches : List ℕ) → batches_in new batches ≡ batches_in old batches
same_batches old new batches = refl

same_behind : (old new : Files) (log : CurrentLog) (read : Result Kept Damage) → behind_snapshot new log read ≡ behind_snapshot old log read
same_behind old new log (Ok k) = ap (with_entries log k) (same_batches old new (batches_that_matter k log.entries))
same_behind old new log (Err damage) = refl

-- what files with this current log keep
pub kept_by_log : (flow : Flow) (lot : ℕ) (files : Files) (log : CurrentLog) → current_log files ≡ Ok (Some log)
    → kept_in flow lot files ≡ behind_snapshot files log (snapshot_for flow (snapshot_file log.number) (files (snapshot_file log.number)))
unfolding kept_in
kept_by_log flow lot files log current = ap (behind_log flow lot files) current

pub kept_alike : (flow : Flow) (lot : ℕ) (old new : Files) (log : CurrentLog) → current_log old ≡ Ok (Some log) → current_log new ≡ Ok (Some log)
    → new (snapshot_file log.number) ≡ old (snapshot_file log.number) → kept_in flow lot new ≡ kept_in flow lot old
kept_alike flow lot old new log was is snapshot =
    kept_by_log flow lot new log is
    ∙ same_behind old new log (snapshot_for flow (snapshot_file log.number) (new (snapshot_file log.number)))
    ∙ ap (λ (bytes : List ℕ). behind_snapshot old log (snapshot_for flow (snapshot_file log.number) bytes)) snapshot
    ∙ sym (kept_by_log flow lot old log was)

pub agreeing_kept : (flow : Flow) (lot : ℕ) (needs : Needs) (old new : Files) → IsNeeded flow lot old needs → Agrees needs old new → kept_in flow lot new ≡ kept_in flow lot old
agreeing_kept flow lot needs old new needed agrees =
    kept_alike flow lot old new needed.log needed.current (agrees.log ∙ needed.current)
    (subst (λ (n : ℕ). new (snapshot_file n) ≡ old (snapshot_file n)) needed.number agrees.snapshot)

-- ---- contents

abbrev pub sound : Option Damage
sound = None

first_sound : (one other : Option Damage) → first_damage one other ≡ sound → one ≡ sound
first_sound None other is = refl
first_sound (Some damage) other is = absurd cc

later_sound : (one other : Option Damage) → first_damage one other ≡ sound → other ≡ sound
later_sound None other is = is
later_sound (Some damage) other is = absurd cc

both_sound : (one other : Option Damage) → one ≡ sound → other ≡ sound → first_damage one other ≡ sound
both_sound one other a b = ap (λ (o : Option Damage). first_damage o other) a ∙ b

-- a content is sound where its claim covers it and its digest is right
sound_by : (short : Bool) (damage : Damage) (rest : Option Damage) → short ≡ false → rest ≡ sound → cond short (Some damage) rest ≡ sound
sound_by true damage rest is r = absurd cc
sound_by false damage rest is r = r

sound_covered : (short : Bool) (damage : Damage) (rest : Option Damage) → cond short (Some damage) rest ≡ sound → (short ≡ false) × (rest ≡ sound)
sound_covered true damage rest is = absurd cc
sound_covered false damage rest is = (refl, is)

not_below : (m n : ℕ) → ltb m n ≡ false → n ≤ m
not_below m n is = grind arith

not_short : (m n : ℕ) → n ≤ m → ltb m n ≡ false
not_short m n le = grind arith

pub content_sound : (old new : Files) (at : ContentRef) → SameContent old new at → content_damage old at ≡ sound → content_damage new at ≡ sound
content_sound old new at same is =
    let parts = sound_covered (nat_lt (length (old (claim at.slot))) (end_of at)) _ (digest_damage at (content_in old at)) is in
    let covered : IsCovered old at = not_below (length (old (claim at.slot))) (end_of at) parts.0 in
    sound_by (nat_lt (length (new (claim at.slot))) (end_of at)) _ (digest_damage at (content_in new at))
    (not_short (length (new (claim at.slot))) (end_of at) (same.covered covered))
    (ap (digest_damage at) same.bytes ∙ parts.1)

pub contents_sound : (old new : Files) (contents : List ContentRef) → All (SameContent old new) contents → contents_damage old contents ≡ sound → contents_damage new contents ≡ sound
contents_sound old new [] same is = refl
contents_sound old new (at ∷ contents) same is =
    both_sound (content_damage new at) (contents_damage new contents)
    (content_sound old new at (All-head (SameContent old new) at contents same) (first_sound (content_damage old at) (contents_damage old contents) is))
    (contents_sound old new contents (All-tail (SameContent old new) at contents same) (later_sound (content_damage old at) (contents_damage old contents) is))

-- ---- queues

module _ (some other : ContentRef → List ℕ) where
  -- these references stand for the same bytes
  abbrev pub SameBytes : ContentRef → Type 0
  SameBytes at = some at ≡ other at

  same_queued : (a : ActiveFile) → SameBytes a.file.content → queued_active some a ≡ queued_active other a
  same_queued a same = ap (λ (bytes : List ℕ). record {
    number = a.file.number;
    attributes = a.file.attributes;
    bytes = bytes;
    entered = a.file.entered;
    penalty_end = a.file.penalty_end;
    arrival = a.file.arrival;
    batch = None;
  }) same

  same_kept : (b : Bool) (a : ActiveFile) (xs : List ActiveFile) → queued_active some a ≡ queued_active other a → map (queued_active some) xs ≡ map (queued_active other) xs
      → map (queued_active some) (cond b (a ∷ xs) xs) ≡ map (queued_active other) (cond b (a ∷ xs) xs)
  same_kept true a xs one rest = cc
  same_kept false a xs one rest = rest

  same_filtered : (test : ActiveFile → Bool) (files : List ActiveFile) → All SameBytes (map (λ a. a.file.content) files) → map (queued_active some) (filter test files) ≡ map (queued_active other) (filter test files)
  same_filtered test [] same = refl
  same_filtered test (a ∷ files) same =
      same_kept (test a) a (filter test files) (same_queued a (All-head SameBytes a.file.content (map (λ b. b.file.content) files) same))
      (same_filtered test files (All-tail SameBytes a.file.content (map (λ b. b.file.content) files) same))

  same_queue : (files : List ActiveFile) (place : ℕ) → All SameBytes (map (λ a. a.file.content) files) → queue_of some files place ≡ queue_of other files place
  same_queue files place same = ap (fold with_arrival []) (same_filtered (λ a. a.connection == place) files same)

  same_queues : (files : List ActiveFile) (places : List (ℕ × List ℕ)) → All SameBytes (map (λ a. a.file.content) files)
      → map (λ place. queue_of some files place.0) places ≡ map (λ place. queue_of other files place.0) places
  same_queues files [] same = refl
  same_queues files (place ∷ places) same =
      let one = same_queue files place.0 same in
      let rest = same_queues files places same in cc

  pub same_state : (events : List Event) (k : Kept) → All SameBytes (live_contents k) → state_with some events k ≡ state_with other events k
  same_state events k same = ap (λ (queues : List (List QueuedFile)). record (state_with other events k) { queues = queues }) (same_queues k.files (enumerate_from 0 k.connections) same)

-- ---- states

-- what is sound about files that stand for a state
pub record IsSound (files : Files) (k : Kept) (s : State) : Type 0 where
  pub contents : contents_damage files (live_contents k) ≡ sound
  pub events : List Event
  pub events_are : events_in files 0 k.last_event ≡ Ok events
  pub is : s ≡ state_with (content_in files) events k

abbrev pub of_state : State → Result State Damage
of_state s = Ok s

sound_state : (files : Files) (k : Kept) (s : State) (damage : Option Damage) (events : Result (List Event) Damage) → contents_damage files (live_contents k) ≡ damage → events_in files 0 k.last_event ≡ events
    → state_by files k damage events ≡ of_state s → IsSound files k s
sound_state files k s (Some damage) events d e is = absurd cc
sound_state files k s None (Err damage) d e is = absurd cc
sound_state files k s None (Ok events) d e is = record { contents = d; events = events; events_are = e; is = sym cc }

pub sound_of : (files : Files) (k : Kept) (s : State) → state_of files k ≡ of_state s → IsSound files k s
unfolding state_of
sound_of files k s is = sound_state files k s (contents_damage files (live_contents k)) (events_in files 0 k.last_event) refl refl is

pub state_of_sound : (files : Files) (k : Kept) (events : List Event) → contents_damage files (live_contents k) ≡ sound → events_in files 0 k.last_event ≡ Ok events
    → state_of files k ≡ Ok (state_with (content_in files) events k)
unfolding state_of
state_of_sound files k events contents e = ap (λ (d : Option Damage). state_by files k d (events_in files 0 k.last_event)) contents ∙ ap (state_by files k None) e

-- files that stand for a state keep something
pub record Keeps (flow : Flow) (lot : ℕ) (files : Files) (s : State) : Type 0 where
  pub kept : Kept
  pub is : kept_in flow lot files ≡ Ok kept
  pub state : state_of files kept ≡ of_state s

keeps_by : (flow : Flow) (lot : ℕ) (files : Files) (s : State) (kept : Result Kept Damage) → kept_in flow lot files ≡ kept → behind_kept files kept ≡ of_state s → Keeps flow lot files s
keeps_by flow lot files s (Ok k) is state = record { kept = k; is = is; state = state }
keeps_by flow lot files s (Err damage) is state = absurd cc

pub keeps_of : (flow : Flow) (lot : ℕ) (files : Files) (s : State) → stands_for flow lot files ≡ of_state s → Keeps flow lot files s
unfolding stands_for
keeps_of flow lot files s is = keeps_by flow lot files s (kept_in flow lot files) refl is

pub stands_by_kept : (flow : Flow) (lot : ℕ) (files : Files) (k : Kept) → kept_in flow lot files ≡ Ok k → stands_for flow lot files ≡ state_of files k
unfolding stands_for
stands_by_kept flow lot files k is = ap (behind_kept files) is

pub agreeing_state : (flow : Flow) (lot : ℕ) (needs : Needs) (old new : Files) (s : State) → IsNeeded flow lot old needs → Agrees needs old new
    → stands_for flow lot old ≡ of_state s → stands_for flow lot new ≡ of_state s
agreeing_state flow lot needs old new s needed agrees stands =
    let keeps = keeps_of flow lot old s stands in
    let k = keeps.kept in
    let was = sound_of old k s keeps.state in
    let kept : kept_in flow lot new ≡ Ok k = agreeing_kept flow lot needs old new needed agrees ∙ keeps.is in
    let same : All (SameContent old new) (live_contents k) = subst (λ (cs : List ContentRef). All (SameContent old new) cs) (needed.contents k keeps.is) agrees.contents in
    let covers : SameEvents 0 k.last_event old new = subst (λ (last : ℕ). SameEvents 0 last old new) (needed.last_event k keeps.is) agrees.events in
    stands_by_kept flow lot new k kept
    ∙ state_of_sound new k was.events (contents_sound old new (live_contents k) same was.contents) (says_still 0 k.last_event old new was.events covers was.events_are)
    ∙ ap of_state (same_state (content_in new) (content_in old) was.events k (λ i d lt. (same i d lt).bytes) ∙ sym was.is)
