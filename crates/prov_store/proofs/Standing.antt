-- Events that are read from a file stand in it.
use Rattle.std.proofs.Common.{◌≡◌, ℕ, zero, suc, ◌+◌, ◌-◌, ◌*◌, ◌/◌, ◌≤◌, ◌<◌, List, [], ◌++◌, drop, sym, ap, subst, ◌∙◌, arith}
use Rattle.std.specs.Prelude.{All, Ok}
use Rattle.std.proofs.lemmas.List.{drop-drop}
use Rattle.std.proofs.lemmas.List.Elements.{All-append, All-cons, All-nil}
use Rattle.disk_trait.specs.Files.{Files}
use Rattle.disk_trait.specs.declared.file_name.FileName.{FileName}
use Rattle.flowfile_record.specs.declared.event.Event.{Event}
use Rattle.flowfile_record.specs.declared.limits.TheConstants.{EVENTS_PER_FILE}
use Rattle.record_codec.specs.Block.{reading_of}
use Rattle.prov_store.specs.Events.{events_file, events_from}
use Rattle.prov_store.specs.Loading.{bytes_there}
use Rattle.prov_store.specs.Scanning.{StandsInItsFile}
use Rattle.prov_store.specs.declared.read.Cursor.{Cursor}
use Rattle.prov_store.proofs.InFile.{first_of}

stand_from : (k : ℕ) (files : Files) (file : FileName) (count at number place : ℕ) (events : List Event) → EVENTS_PER_FILE * k < number → number + count ≤ EVENTS_PER_FILE * k + EVENTS_PER_FILE + 1
    → events_from count file at number (drop place (files (events_file k))) ≡ Ok events → All (StandsInItsFile files) events
stand_from k files file zero at number place events low high is =
    let none : events ≡ [] = cc is in
    subst (All (StandsInItsFile files)) (sym none) (All-nil (StandsInItsFile files))
stand_from k files file (suc count) at number place events low high is =
    let bytes = files (events_file k) in
    let f = first_of count file at number (drop place bytes) events is in
    let on : drop f.first.1 (drop place bytes) ≡ drop (place + f.first.1) bytes = drop-drop f.first.1 place bytes in
    let behind = ap (events_from count file (at + f.first.1) (number + 1)) (sym on) ∙ f.behind in
    let rest = stand_from k files file count (at + f.first.1) (number + 1) (place + f.first.1) f.later (omega (arith, low)) (omega (arith, high)) behind in
    let here : (f.first.0.number - 1) / EVENTS_PER_FILE ≡ k = omega (arith, low, high, f.here.numbered) in
    let first : StandsInItsFile files f.first.0 = record {
      at = place;
      payload = f.here.payload;
      block = ap (λ (n : ℕ). reading_of (drop place (files (events_file n)))) here ∙ f.here.block;
      says = f.here.says;
    } in
    subst (All (StandsInItsFile files)) (sym f.both) (All-cons (StandsInItsFile files) f.first.0 f.later first rest)

-- events that are read from a place on, behind others
pub stand_there : (k many : ℕ) (cursor : Cursor) (read files : Files) (old events new : List Event) → cursor.file ≡ events_file k → read ≡ files
    → EVENTS_PER_FILE * k < cursor.number → cursor.number + many ≤ EVENTS_PER_FILE * k + EVENTS_PER_FILE + 1
    → events_from many cursor.file cursor.at cursor.number (bytes_there read cursor) ≡ Ok events → new ≡ old ++ events
    → All (StandsInItsFile files) old → All (StandsInItsFile files) new
stand_there k many cursor read files old events new name held low high is items stand =
    let bytes : drop cursor.at (files (events_file k)) ≡ bytes_there read cursor =
    ap (λ (f : Files). drop cursor.at (f (events_file k))) (sym held) ∙ ap (λ (n : FileName). drop cursor.at (read n)) (sym name) in
    let found = stand_from k files cursor.file many cursor.at cursor.number cursor.at events low high (ap (events_from many cursor.file cursor.at cursor.number) bytes ∙ is) in
    subst (All (StandsInItsFile files)) (sym items) (All-append (StandsInItsFile files) old events stand found)
