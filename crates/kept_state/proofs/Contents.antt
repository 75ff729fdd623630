-- An entry whose contents stand elsewhere is as long and has an encoding as before.
use Rattle.std.proofs.Common.{◌≡◌, ℕ, zero, suc, ◌+◌, ◌<◌, ◌∷◌, List, [], length, map, get_or, set, All, refl, sym, ap, subst, ◌∙◌, length-append, arith}
use Rattle.std.proofs.lemmas.List.Elements.{All-get_or, All-head, All-tail, All-cons, All-nil}
use Rattle.flowfile_record.specs.declared.content.ContentRef.{ContentRef}
use Rattle.flowfile_record.specs.declared.stored.ActiveFile.{ActiveFile}
use Rattle.record_codec.specs.ActiveFile.{IsActiveFile}
use Rattle.record_codec.specs.Block.{block}
use Rattle.record_codec.specs.EntryEncoding.{entry as encoding, kind_of, IsEntry}
use Rattle.record_codec.specs.FileEncoding.{IsContentRef}
use Rattle.record_codec.specs.Placeless.{placeless_active, placeless_entry}
use Rattle.record_codec.specs.declared.entry.LogEntry.{LogEntry}
use Rattle.record_codec.specs.declared.entry.LogEntry.TheVariants.{Begin, Session, Expire, SwapOut, SwapIn, Age}
use Rattle.record_codec.specs.declared.log.TheConstants.{CLOSED_GATE}
use Rattle.record_codec.proofs.Blocks.{length-block}
use Rattle.record_codec.proofs.Sizes.{placeless_entry_size}
use Rattle.kept_state.specs.Changes.{at_content, with_content_at, entry_with_content, placed_in, HasContentLike}
use Rattle.record_codec.specs.Frames.{entry_frame}

pub within : (place : ℕ) (at : ContentRef) (files : List ActiveFile) → HasContentLike at place files → place < length files
within place at [] like = absurd like
within zero at (a ∷ files) like = omega arith
within (suc place) at (a ∷ files) like = let rest = within place at files like in omega arith

pub set-content : (place : ℕ) (at : ContentRef) (files : List ActiveFile) (d : ActiveFile) → place < length files
    → set files place (at_content at (get_or files place d)) ≡ with_content_at place at files
set-content place at [] d lt = absurd (omega arith)
set-content zero at (a ∷ files) d lt = refl
set-content (suc place) at (a ∷ files) d lt = ap (λ (l : List ActiveFile). a ∷ l) (set-content place at files d (omega arith))

pub placeless_with : (place : ℕ) (at : ContentRef) (files : List ActiveFile) → HasContentLike at place files
    → map placeless_active (with_content_at place at files) ≡ map placeless_active files
placeless_with place at [] like = refl
placeless_with zero at (a ∷ files) like =
    let one : placeless_active (at_content at a) ≡ placeless_active a = rw (like.0, like.1) refl in
    ap (λ (b : ActiveFile). b ∷ map placeless_active files) one
placeless_with (suc place) at (a ∷ files) like = ap (λ (l : List ActiveFile). placeless_active a ∷ l) (placeless_with place at files like)

encoded_with : (place : ℕ) (at : ContentRef) (files : List ActiveFile) → IsContentRef at → All IsActiveFile files → All IsActiveFile (with_content_at place at files)
encoded_with place at [] is all = all
encoded_with zero at (a ∷ files) is all =
    let first = All-head IsActiveFile a files all in
    let one : IsActiveFile (at_content at a) = record {
      connection = first.connection;
      file = record {
        first_number = first.file.first_number;
        number = first.file.number;
        attributes = first.file.attributes;
        content = is;
        entered = first.file.entered;
        penalty_end = first.file.penalty_end;
        arrival = first.file.arrival;
      };
    } in
    All-cons IsActiveFile (at_content at a) files one (All-tail IsActiveFile a files all)
encoded_with (suc place) at (a ∷ files) is all =
    All-cons IsActiveFile a (with_content_at place at files) (All-head IsActiveFile a files all) (encoded_with place at files is (All-tail IsActiveFile a files all))

length-with : (place : ℕ) (at : ContentRef) (files : List ActiveFile) → length (with_content_at place at files) ≡ length files
length-with place at [] = refl
length-with zero at (a ∷ files) = refl
length-with (suc place) at (a ∷ files) = ap suc (length-with place at files)

pub placeless_same : (e : LogEntry) (place : ℕ) (at : ContentRef) → HasContentLike at place (placed_in e) → placeless_entry (entry_with_content e place at) ≡ placeless_entry e
placeless_same (Begin version log) place at like = refl
placeless_same (Session s) place at like =
    ap (λ (files : List ActiveFile). Session (record {
      processor = s.processor;
      moment = s.moment;
      gone = s.gone;
      placed = files;
      next_number = s.next_number;
      next_arrival = s.next_arrival;
      last_event = s.last_event;
      generator = s.generator;
    })) (placeless_with place at s.placed like)
placeless_same (Expire e) place at like = refl
placeless_same (SwapOut s) place at like = refl
placeless_same (SwapIn connection batch) place at like = refl
placeless_same (Age line) place at like = refl

pub is_entry_with : (e : LogEntry) (place : ℕ) (at : ContentRef) → IsContentRef at → IsEntry e → IsEntry (entry_with_content e place at)
is_entry_with (Begin version log) place at is entry = entry
is_entry_with (Session s) place at is entry = record {
  processor = entry.processor;
  moment = entry.moment;
  gone = entry.gone;
  placed = (omega (arith, length-with place at s.placed, entry.placed.0), encoded_with place at s.placed is entry.placed.1);
  next_number = entry.next_number;
  next_arrival = entry.next_arrival;
  last_event = entry.last_event;
  generator = entry.generator;
}
is_entry_with (Expire e) place at is entry = entry
is_entry_with (SwapOut s) place at is entry = entry
is_entry_with (SwapIn connection batch) place at is entry = entry
is_entry_with (Age line) place at is entry = entry

-- the files that an entry with an encoding places have one
active_encoded : (e : LogEntry) → IsEntry e → All IsActiveFile (placed_in e)
active_encoded (Begin version log) entry = All-nil IsActiveFile
active_encoded (Session s) entry = entry.placed.1
active_encoded (Expire e) entry = All-nil IsActiveFile
active_encoded (SwapOut s) entry = All-nil IsActiveFile
active_encoded (SwapIn connection batch) entry = All-nil IsActiveFile
active_encoded (Age line) entry = All-nil IsActiveFile

pub content_encoded : (e : LogEntry) (place : ℕ) (a : ActiveFile) → IsEntry e → place < length (placed_in e) → a ≡ get_or (placed_in e) place a → IsContentRef a.file.content
content_encoded e place a entry lt is =
    subst (λ (b : ActiveFile). IsContentRef b.file.content) (sym is) (All-get_or IsActiveFile (placed_in e) place a lt (active_encoded e entry)).file.content

pub encoding_with : (e : LogEntry) (place : ℕ) (at : ContentRef) → HasContentLike at place (placed_in e) → length (encoding (entry_with_content e place at)) ≡ length (encoding e)
encoding_with e place at like =
    sym (placeless_entry_size (entry_with_content e place at)) ∙ ap (λ (p : LogEntry). length (encoding p)) (placeless_same e place at like) ∙ placeless_entry_size e

pub length-frame : (e : LogEntry) → length (entry_frame e) ≡ length (encoding e) + 38
length-frame e = omega (arith, length-append (block (kind_of e) (encoding e)) (CLOSED_GATE ∷ []), length-block (kind_of e) (encoding e))

pub frame_with : (e : LogEntry) (place : ℕ) (at : ContentRef) → HasContentLike at place (placed_in e) → length (entry_frame (entry_with_content e place at)) ≡ length (entry_frame e)
frame_with e place at like = omega (arith, length-frame (entry_with_content e place at), length-frame e, encoding_with e place at like)
