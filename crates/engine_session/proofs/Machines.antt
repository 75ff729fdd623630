-- What the machine takes of a state that is kept.
use Rattle.std.proofs.Common.{◌≡◌, inl, inr, ℕ, ◌&&◌, Bool, true, false, cond, List, [], ◌∷◌, length, map, refl, sym, ap, ◌∙◌}
use Rattle.std.specs.Prelude.{◌==◌, Option, None, Some, find, is_some, option_and_then, option_map}
use Rattle.std.specs.List.{cons_option, enumerate_from, list_all}
use Rattle.std.proofs.lemmas.Bool.{and_from, and_parts, cases_Bool, eq-eqb, eqb-true, false≢true}
use Rattle.std.proofs.lemmas.List.{length-map}
use Rattle.flowfile_record.specs.Stored.{Kept}
use Rattle.flowfile_record.specs.declared.content.ContentRef.{ContentRef}
use Rattle.flowfile_record.specs.declared.event.Event.{Event}
use Rattle.flowfile_record.specs.declared.stored.ActiveFile.{ActiveFile}
use Rattle.checkpoint_store.specs.Consistent.{IsConsistent}
use Rattle.kept_state.specs.Applied.{active_number}
use Rattle.kept_state.specs.Fits.{active_of, are_active_in, is_in_connection}
use Rattle.machine_model.specs.declared.flow.Connection.{Connection}
use Rattle.machine_model.specs.declared.flow.Flow.{Flow}
use Rattle.machine_model.specs.declared.kind.TakeRule.{TakeRule}
use Rattle.machine_model.specs.declared.kind.TakeRule.TheVariants.{Source, One, Bin, Defragment}
use Rattle.machine_model.specs.Changing.{queued_file}
use Rattle.machine_model.specs.Files as queues
use Rattle.machine_model.specs.Files.{active_files, are_active, file_numbered, is_active, queue_at, view_of}
use Rattle.machine_model.specs.State.{QueuedFile, State}
use Rattle.machine_model.specs.Stepping.{admits, files_of, has_all, may_be_taken, source_of, taken_files, taken_from}
use Rattle.machine_model.specs.Valid.{IsValid}
use Rattle.machine_model.specs.View.{FileView}
use Rattle.machine_model.proofs.Among.{Among, among_contained, contains_among, kept_by}
use Rattle.machine_model.proofs.Numbered.{found-itself, own-numbers}
use Rattle.machine_model.proofs.Tally.{find-passes}
use Rattle.store_core.specs.Flow as store
use Rattle.store_core.specs.State.{queued_active, state_with}
use Rattle.store_core.specs.Valid.{KeptIsValid, QueuedFilesAreLive}
use Rattle.engine_session.specs.Handing.{live_files}
use Rattle.engine_session.specs.Laws.{AreLiveFiles, MachinesFilesAreLive}
use Rattle.engine_session.proofs.Lookups.{distinct_as, found_active}

-- what is kept, as the machine sees it
pub record Seen (k : Kept) (bytes : ContentRef → List ℕ) (events : List Event) : Type 0 where
  pub flow : Flow
  pub valid : IsValid flow (state_with bytes events k)
  pub consistent : IsConsistent k
  pub live : QueuedFilesAreLive

some_same : {A : Type 0} (x y : A) → ◌≡◌ {A = Option A} (Some x) (Some y) → x ≡ y
some_same x y is = cc

-- ---- one file

-- a number's file in a queue is a live one of the connection
record IsSame (k : Kept) (bytes : ContentRef → List ℕ) (queue : List QueuedFile) (connection number : ℕ) : Type 0 where
  active : ActiveFile
  found : active_of number k.files ≡ Some active
  place : active.connection ≡ connection
  same : file_numbered queue number ≡ Some (queued_active bytes active)

-- the file that was found
record IsFound (queue : List QueuedFile) (number : ℕ) : Type 0 where
  file : QueuedFile
  there : Among file queue
  named : file.number ≡ number

pub find-among : {X : Type 0} (p : X → Bool) (xs : List X) (x : X) → find p xs ≡ Some x → Among x xs
find-among p [] x is = absurd cc
find-among {X} p (y ∷ xs) x is =
    elim (cases_Bool (p y)) [
      | inl t ↦ inl (some_same y x (sym (ap (λ b. cond b (Some y) (find p xs)) t) ∙ is))
      | inr f ↦ inr (find-among p xs x (sym (ap (λ b. cond b (Some y) (find p xs)) f) ∙ is))
    ]

is_found : (queue : List QueuedFile) (number : ℕ) (o : Option QueuedFile) → file_numbered (active_files queue) number ≡ o → is_some o ≡ true → IsFound queue number
is_found queue number None is some = absurd (false≢true some)
is_found queue number (Some file) is some = record {
  file = file;
  there = (kept_by is_active queue file (find-among (λ (f : QueuedFile). f.number == number) (active_files queue) file is)).0;
  named = eqb-true file.number number (find-passes (λ (f : QueuedFile). f.number == number) (active_files queue) file is);
}

module _ (k : Kept) (bytes : ContentRef → List ℕ) (events : List Event) (seen : Seen k bytes events) where
  abbrev state : State
  state = state_with bytes events k

  is_same : (connection number : ℕ) → IsFound (queue_at state connection) number → IsSame k bytes (queue_at state connection) connection number
  is_same connection number found =
      let live = seen.live bytes events k connection found.file (contains_among found.file (queue_at state connection) found.there) in
      let named : active_number live.active ≡ number = ap (λ (f : QueuedFile). f.number) live.is ∙ found.named in
      record {
        active = live.active;
        found = ap (λ n. active_of n k.files) (sym named) ∙ found_active live.active k.files seen.consistent.numbers (among_contained live.active k.files live.there);
        place = live.connection;
        same = ap (file_numbered (queue_at state connection)) (sym found.named)
            ∙ found-itself (queue_at state connection) (own-numbers seen.flow state connection seen.valid) found.file found.there
            ∙ ap (λ (f : QueuedFile). Some f) (sym live.is);
      }

  head_same : (connection number : ℕ) (numbers : List ℕ) → are_active (queue_at state connection) (number ∷ numbers) ≡ true → IsSame k bytes (queue_at state connection) connection number
  head_same connection number numbers all =
      is_same connection number
      (is_found (queue_at state connection) number (file_numbered (active_files (queue_at state connection)) number) refl (and_parts _ (are_active (queue_at state connection) numbers) all).0)

  rest_active : (connection number : ℕ) (numbers : List ℕ) → are_active (queue_at state connection) (number ∷ numbers) ≡ true → are_active (queue_at state connection) numbers ≡ true
  rest_active connection number numbers all =
      (and_parts (is_some (file_numbered (active_files (queue_at state connection)) number)) (are_active (queue_at state connection) numbers) all).1

  -- ---- all of them

  pub all_active : (connection : ℕ) (numbers : List ℕ) → are_active (queue_at state connection) numbers ≡ true → are_active_in k.files connection numbers ≡ true
  all_active connection [] all = refl
  all_active connection (number ∷ numbers) all =
      let one = head_same connection number numbers all in
      and_from (is_in_connection connection (active_of number k.files)) (are_active_in k.files connection numbers)
      (ap (is_in_connection connection) one.found ∙ eq-eqb one.active.connection connection one.place)
      (all_active connection numbers (rest_active connection number numbers all))

  pub all_same : (connection : ℕ) (numbers : List ℕ) → are_active (queue_at state connection) numbers ≡ true
      → files_of (queue_at state connection) numbers ≡ map (queued_file bytes) (live_files k numbers)
  all_same connection [] all = refl
  all_same connection (number ∷ numbers) all =
      let one = head_same connection number numbers all in
      ap (λ (o : Option QueuedFile). cons_option o (files_of (queue_at state connection) numbers)) one.same
      ∙ ap (λ (rest : List QueuedFile). queued_active bytes one.active ∷ rest) (all_same connection numbers (rest_active connection number numbers all))
      ∙ sym (ap (λ (o : Option ActiveFile). map (queued_file bytes) (cons_option (option_map (λ (a : ActiveFile). a.file) o) (live_files k numbers))) one.found)

  abbrev seen_of : ℕ → List ℕ → List FileView
  seen_of connection numbers = map view_of (files_of (queue_at state connection) numbers)

  from_connection : (rule : TakeRule) (numbers : List ℕ) (moment : ℕ) (files : List QueuedFile) (at : ℕ × Connection) → are_active (queue_at state at.0) numbers ≡ true
      → taken_from state rule numbers moment at ≡ Some files → AreLiveFiles k bytes numbers files
  from_connection rule numbers moment files at all taken =
      decide (queues.are_distinct numbers) (list_all (may_be_taken at.1 moment) (seen_of at.0 numbers)) (admits rule at.1.order (seen_of at.0 numbers)) refl taken
    where
      decide : (b c d : Bool) → queues.are_distinct numbers ≡ b → cond ((b && c) && d) (Some (files_of (queue_at state at.0) numbers)) None ≡ Some files → AreLiveFiles k bytes numbers files
      decide true true true distinct is = record {
        connection = at.0;
        active = all_active at.0 numbers all;
        distinct = sym (distinct_as numbers) ∙ distinct;
        are = sym (some_same (files_of (queue_at state at.0) numbers) files is) ∙ all_same at.0 numbers all;
      }
      decide true true false distinct is = absurd cc
      decide true false d distinct is = absurd cc
      decide false c d distinct is = absurd cc

  from_source : (flow : Flow) (place : ℕ) (rule : TakeRule) (numbers : List ℕ) (moment : ℕ) (files : List QueuedFile) (o : Option (ℕ × Connection)) → source_of flow state place numbers ≡ o
      → option_and_then (taken_from state rule numbers moment) o ≡ Some files → AreLiveFiles k bytes numbers files
  from_source flow place rule numbers moment files None is taken = absurd cc
  from_source flow place rule numbers moment files (Some at) is taken =
      from_connection rule numbers moment files at
      (and_parts (at.1.target == place) (are_active (queue_at state at.0) numbers) (find-passes (has_all state place numbers) (enumerate_from 0 flow.connections) at is)).1
      taken

  are_live : (flow : Flow) (place : ℕ) (rule : TakeRule) (numbers : List ℕ) (moment : ℕ) (files : List QueuedFile) → taken_files flow state place rule numbers moment ≡ Some files
      → AreLiveFiles k bytes numbers files
  are_live flow place Source [] moment files taken = record { connection = 0; active = refl; distinct = refl; are = sym (some_same [] files taken) }
  are_live flow place Source (number ∷ numbers) moment files taken = absurd cc
  are_live flow place One numbers moment files taken = from_source flow place One numbers moment files (source_of flow state place numbers) refl taken
  are_live flow place (Bin min max) numbers moment files taken = from_source flow place (Bin min max) numbers moment files (source_of flow state place numbers) refl taken
  are_live flow place Defragment numbers moment files taken = from_source flow place Defragment numbers moment files (source_of flow state place numbers) refl taken

pub machines-files-are-live : KeptIsValid → QueuedFilesAreLive → MachinesFilesAreLive
machines-files-are-live kept_valid live flow k bytes events place rule numbers moment files identity consistent batches row taken =
    let connections : length k.connections ≡ length flow.connections =
    ap (λ (f : store.Flow). length f.connections) identity ∙ length-map flow.connections (λ (connection : Connection). connection.id) in
    let counts : length k.counts ≡ length flow.processors = ap (λ (f : store.Flow). f.processors) identity in
    are_live k bytes events (record {
      flow = flow;
      valid = kept_valid flow bytes events k consistent batches row.1 row.0 connections counts;
      consistent = consistent;
      live = live;
    }) flow place rule numbers moment files taken
