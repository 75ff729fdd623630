-- Events that were encoded, read back; and what is read has an encoding.
use Rattle.std.proofs.Common.{◌≡◌, ℕ, zero, suc, ◌+◌, ◌/◌, inl, inr, lit<, List, [], ◌∷◌, ◌++◌, length, get_or, take, drop, refl, sym, ap, subst, ◌∙◌, append_assoc, arith}
use Rattle.std.specs.Prelude.{Result, Ok, All}
use Rattle.std.specs.List.{flat_map}
use Rattle.std.proofs.lemmas.Bool.{cases_lt}
use Rattle.std.proofs.lemmas.List.{length-append, get_or-drop, get_or-take, get_or_past, length-take, drop_at}
use Rattle.std.proofs.lemmas.List.Concat.{flat_map-cons}
use Rattle.std.proofs.lemmas.List.Elements.{All-cons, All-nil, All-append}
use Rattle.disk_trait.specs.Files.{Files}
use Rattle.disk_trait.specs.declared.damage.Damage.{Damage}
use Rattle.disk_trait.specs.declared.file_name.FileName.{FileName}
use Rattle.flowfile_record.specs.Field.{IsBytes}
use Rattle.flowfile_record.specs.declared.event.Event.{Event}
use Rattle.flowfile_record.proofs.FieldLaws.{whole_takes, whole_again}
use Rattle.prov_event.specs.Encoding.{event, IsEvent}
use Rattle.prov_event.specs.EventReading.{event_at}
use Rattle.prov_event.specs.declared.TheConstants.{EVENT_KIND}
use Rattle.prov_event.proofs.EventLaws.{event_is}
use Rattle.prov_store.specs.Events.{◌>>=◌, events_file, first_event, count_in, events_from, events_of_files, events_in, blocks_size}
use Rattle.prov_store.specs.State.{HasBlock, event_block, AreNumberedFrom}
use Rattle.flowfile_record.specs.declared.limits.TheConstants.{EVENTS_PER_FILE}
use Rattle.prov_store.proofs.InFile.{IsRead, first_of, with_first, size_of_first}
use Rattle.prov_store.proofs.InFiles.{first_file, in_files}
use Rattle.record_codec.specs.Block.{reading_of}
use Rattle.record_codec.proofs.Blocks.{length-block, reading_of-block, whole_of-reading}

-- ---- what is read

small_drop : (n : ℕ) (bytes : List ℕ) → IsBytes bytes → IsBytes (drop n bytes)
small_drop n bytes small i = rw get_or-drop (small (n + i))

small_take : (n : ℕ) (bytes : List ℕ) → IsBytes bytes → IsBytes (take n bytes)
small_take n bytes small i = elim (cases_lt i n) [
  | inl within ↦ rw (get_or-take n bytes i 0 within) (small i)
  | inr past ↦ rw (get_or_past (take n bytes) i 0 (omega (arith, length-take n bytes))) (lit< tt)
]

read_encoded : (number : ℕ) (bytes : List ℕ) (found : Event × ℕ) → IsBytes bytes → IsRead number (reading_of bytes) found → IsEvent found.0
read_encoded number bytes found small is =
    let whole = whole_of-reading bytes EVENT_KIND is.payload is.block in
    let body : IsBytes (EVENT_KIND ∷ is.payload) = subst IsBytes whole.body (small_take (length is.payload + 1) (drop 4 bytes) (small_drop 4 bytes small)) in
    let payload : IsBytes is.payload = λ i. body (suc i) in
    (whole_takes event_at event IsEvent event_is is.payload found.0 payload is.says).0

events_encoded : (count : ℕ) (file : FileName) (at number : ℕ) (bytes : List ℕ) (events : List Event) → IsBytes bytes → events_from count file at number bytes ≡ Ok events
    → All IsEvent events
events_encoded zero file at number bytes events small is =
    let none : events ≡ [] = cc is in
    subst (All IsEvent) (sym none) (All-nil IsEvent)
events_encoded (suc count) file at number bytes events small is =
    let f = first_of count file at number bytes events is in
    subst (All IsEvent) (sym f.both)
    (All-cons IsEvent f.first.0 f.later (read_encoded number bytes f.first small f.here)
    (events_encoded count file (at + f.first.1) (number + 1) (drop f.first.1 bytes) f.later (small_drop f.first.1 bytes small) f.behind))

files_encoded : (count line last k : ℕ) (files : Files) (events : List Event) → ((j : ℕ) → IsBytes (files (events_file j))) → events_of_files count line last k files ≡ Ok events
    → All IsEvent events
files_encoded zero line last k files events small is =
    let none : events ≡ [] = cc is in
    subst (All IsEvent) (sym none) (All-nil IsEvent)
files_encoded (suc count) line last k files events small is =
    let f = first_file count line last k files events is in
    subst (All IsEvent) (sym f.both)
    (All-append IsEvent f.here f.later
    (events_encoded (count_in line last k) (events_file k) 0 (first_event k) (files (events_file k)) f.here (small k) f.first)
    (files_encoded count line last (k + 1) files f.later small f.behind))

pub last_encoded : (line last : ℕ) (files : Files) (events : List Event) → ((k : ℕ) → IsBytes (files (events_file k))) → events_in files line last ≡ Ok events → All IsEvent events
last_encoded line last files events small is = files_encoded (suc (last / EVENTS_PER_FILE)) line last 0 files events small (sym (in_files line last files) ∙ is)

-- ---- what was written

block_read : (number : ℕ) (e : Event) (rest : List ℕ) → HasBlock e → e.number ≡ number → IsRead number (reading_of (event_block e ++ rest)) (e, length (event_block e))
block_read number e rest has numbered = record {
  payload = event e;
  block = reading_of-block EVENT_KIND (event e) rest has.payload;
  size = length-block EVENT_KIND (event e);
  says = whole_again event_at event IsEvent event_is e has.encoded;
  numbered = numbered;
}

-- Events are read back from their blocks, whatever stands behind these.
pub record ReadBack (file : FileName) (at number : ℕ) (events : List Event) (rest : List ℕ) : Type 0 where
  pub says : events_from (length events) file at number (flat_map event_block events ++ rest) ≡ Ok events
  pub size : blocks_size (length events) (flat_map event_block events ++ rest) ≡ length (flat_map event_block events)

pub events_read_back : (file : FileName) (at number : ℕ) (events : List Event) (rest : List ℕ) → All HasBlock events → AreNumberedFrom number events
    → ReadBack file at number events rest
events_read_back file at number [] rest have numbered = record { says = refl; size = refl }
events_read_back file at number (e ∷ events) rest have numbered =
    let bytes = flat_map event_block (e ∷ events) ++ rest in
    let n = length (event_block e) in
    let parted : bytes ≡ event_block e ++ (flat_map event_block events ++ rest) =
    ap (λ (l : List ℕ). l ++ rest) (flat_map-cons event_block e events) ∙ append_assoc (event_block e) (flat_map event_block events) rest in
    let head : e.number ≡ number = ap (λ (l : List ℕ). get_or l 0 0) numbered in
    let others : AreNumberedFrom (number + 1) events = ap (drop 1) numbered in
    let here : IsRead number (reading_of bytes) (e, n) =
    subst (λ (l : List ℕ). IsRead number (reading_of l) (e, n)) (sym parted)
    (block_read number e (flat_map event_block events ++ rest) (have 0 e (omega arith)) head) in
    let behind : drop n bytes ≡ flat_map event_block events ++ rest = ap (drop n) parted ∙ drop_at (event_block e) (flat_map event_block events ++ rest) n refl in
    let later = events_read_back file (at + n) (number + 1) events rest (λ k d lt. have (suc k) d (omega (arith, lt))) others in
    record {
      says = with_first (length events) file at number bytes (e, n) here
          ∙ ap (λ (l : List ℕ). events_from (length events) file (at + n) (number + 1) l >>= (λ more. Ok (e ∷ more))) behind
          ∙ ap (λ (r : Result (List Event) Damage). r >>= (λ more. Ok (e ∷ more))) later.says;
      size = size_of_first (length events) number bytes (e, n) here ∙ ap (λ (l : List ℕ). n + blocks_size (length events) l) behind
          ∙ ap (λ (i : ℕ). n + i) later.size ∙ sym (ap length (flat_map-cons event_block e events) ∙ length-append (event_block e) (flat_map event_block events));
    }
