-- One placed file: its content is held once more, or written.
use Rattle.std.proofs.Common.{◌≡◌, ℕ, ◌+◌, ◌<◌, Bool, true, false, cond, List, [], ◌∷◌, ◌++◌, length, map, refl, sym, ap, subst, ◌∙◌, arith, inl, inr, IsTrue}
use Rattle.std.specs.Prelude.{Option, None, Some, slice_get, sum, ◌⊎◌}
use Rattle.std.specs.List.{cons_option}
use Rattle.sha2.proofs.Facts256.{length-sha256}
use Rattle.disk_trait.specs.Files.{Files}
use Rattle.disk_trait.specs.Images.{calls_later, next_moment}
use Rattle.flowfile_record.specs.Shared.{is_stored, own_bytes}
use Rattle.flowfile_record.specs.declared.content.ContentRef.{ContentRef}
use Rattle.flowfile_record.specs.declared.stored.ActiveFile.{ActiveFile}
use Rattle.flowfile_record.specs.declared.stored.Fresh.{Fresh}
use Rattle.flowfile_record.specs.declared.stored.Fresh.TheVariants.{No, Bytes, Staged, As}
use Rattle.flowfile_record.specs.declared.stored.Placed.{Placed}
use Rattle.record_codec.specs.ActiveFile.{active}
use Rattle.record_codec.specs.FileEncoding.{IsContentRef}
use Rattle.record_codec.specs.Placeless.{placeless}
use Rattle.record_codec.specs.declared.entry.LogEntry.{LogEntry}
use Rattle.record_codec.specs.declared.entry.LogEntry.TheVariants.{Begin, Session, Expire, SwapOut, SwapIn, Age}
use Rattle.content_repo.specs.Append.{IsAppended, MayAppend}
use Rattle.content_repo.specs.Claims.{content_in}
use Rattle.content_repo.specs.Slots.{count_of, size_of, held_in, end_of, slot_with_count, taken, next_slot, SlotsHaveRoom}
use Rattle.content_repo.specs.declared.slot.Slot.{Slot}
use Rattle.kept_state.specs.Changes.{placed_in, record_of, at_content, entry_with_content, with_content_at, HasContentLike}
use Rattle.store_core.specs.Change.{IsFresh, fresh_sizes_of}
use Rattle.store_core.specs.Writing.{fresh_count}
use Rattle.store_core.specs.Placing.{IsHeldIn, MayPlaceOne, MayShare, IsRecordedAt, PlacesOne, references_of}
use Rattle.store_core.proofs.Referring.{appended, bytes_same, held_more, refers_once, one_of}
use Rattle.store_core.proofs.Rooms.{counted_alike, room_alike, shape}

-- ---- sizes

sizes_own : (p : Placed) (own : Option (List ℕ)) → own_bytes p.fresh ≡ own → fresh_sizes_of (p ∷ []) ≡ map length (cons_option own [])
sizes_own p own is = ap (λ (o : Option (List ℕ)). map length (cons_option o [])) is

sizes_some : (p : Placed) (bytes : List ℕ) → p.fresh ≡ Bytes bytes → fresh_sizes_of (p ∷ []) ≡ length bytes ∷ []
sizes_some p bytes some = sizes_own p (Some bytes) (ap own_bytes some)

pub stored_own : (fresh : Fresh) → is_stored fresh ≡ true → own_bytes fresh ≡ None
stored_own No is = refl
stored_own Staged is = refl
stored_own (Bytes bytes) is = absurd cc
stored_own (As of) is = refl

pub stored_of : (fresh : Fresh) → (fresh ≡ No) ⊎ (fresh ≡ Staged) → is_stored fresh ≡ true
stored_of fresh (inl is) = ap is_stored is
stored_of fresh (inr is) = ap is_stored is

-- ---- how many contents are written

count_own : (p : Placed) (own : Option (List ℕ)) → own_bytes p.fresh ≡ own → fresh_count (p ∷ []) ≡ length (cons_option own [])
count_own p own is = ap (λ (o : Option (List ℕ)). length (cons_option o [])) is

pub one_written : (p : Placed) (bytes : List ℕ) (moment : ℕ) → p.fresh ≡ Bytes bytes → next_moment moment ≡ calls_later (fresh_count (p ∷ [])) moment
one_written p bytes moment some = ap (λ (n : ℕ). calls_later n moment) (sym (count_own p (Some bytes) (ap own_bytes some)))

pub none_written : (p : Placed) (moment : ℕ) → own_bytes p.fresh ≡ None → moment ≡ calls_later (fresh_count (p ∷ [])) moment
none_written p moment none = ap (λ (n : ℕ). calls_later n moment) (sym (count_own p None none))

-- ---- the record of a file, with its content

like_at : (front back : List ActiveFile) (a : ActiveFile) (at : ContentRef) → at.size ≡ a.file.content.size → at.digest ≡ a.file.content.digest → HasContentLike at (length front) (front ++ a ∷ back)
like_at [] back a at size digest = (size, digest)
like_at (b ∷ front) back a at size digest = like_at front back a at size digest

record_is : (p : Placed) → ((record_of p).file.content.size ≡ p.file.content.size) × ((record_of p).file.content.digest ≡ p.file.content.digest)
record_is p = by (is_stored p.fresh)
  where
    by : (b : Bool) → ((cond b p.file (placeless p.file)).content.size ≡ p.file.content.size) × ((cond b p.file (placeless p.file)).content.digest ≡ p.file.content.digest)
    by true = (refl, refl)
    by false = (refl, refl)

like_record : (place : ℕ) (p : Placed) (files : List ActiveFile) (at : ContentRef) → IsRecordedAt place p files → at.size ≡ p.file.content.size → at.digest ≡ p.file.content.digest → HasContentLike at place files
like_record place p files at (front, back, long, is_at) size digest =
    subst (λ (n : ℕ). HasContentLike at n files) long
    (subst (HasContentLike at (length front)) (sym is_at) (like_at front back (record_of p) at (size ∙ sym (record_is p).0) (digest ∙ sym (record_is p).1)))

with_at : (front back : List ActiveFile) (a : ActiveFile) (at : ContentRef) → with_content_at (length front) at (front ++ a ∷ back) ≡ front ++ at_content at a ∷ back
with_at [] back a at = refl
with_at (b ∷ front) back a at = ap (λ (l : List ActiveFile). b ∷ l) (with_at front back a at)

placed_with : (e : LogEntry) (place : ℕ) (at : ContentRef) → placed_in (entry_with_content e place at) ≡ with_content_at place at (placed_in e)
placed_with (Session s) place at = refl
placed_with (Begin version log) place at = refl
placed_with (Expire e) place at = refl
placed_with (SwapOut s) place at = refl
placed_with (SwapIn connection batch) place at = refl
placed_with (Age line) place at = refl

at_record : (p : Placed) (at : ContentRef) → at_content at (record_of p) ≡ at_content at (active p.connection p.file)
at_record p at = by (is_stored p.fresh)
  where
    by : (b : Bool) → at_content at (active p.connection (cond b p.file (placeless p.file))) ≡ at_content at (active p.connection p.file)
    by true = refl
    by false = refl

recorded_with : (place : ℕ) (at : ContentRef) (p : Placed) (front back : List ActiveFile) (before after : LogEntry) → length front ≡ place → placed_in before ≡ front ++ record_of p ∷ back
    → after ≡ entry_with_content before place at → placed_in after ≡ front ++ at_content at (active p.connection p.file) ∷ back
recorded_with place at p front back before after long is_at changed =
    ap placed_in changed ∙ placed_with before place at
    ∙ ap (λ (n : ℕ). with_content_at n at (placed_in before)) (sym long)
    ∙ ap (with_content_at (length front) at) is_at
    ∙ with_at front back (record_of p) at
    ∙ ap (λ (a : ActiveFile). front ++ a ∷ back) (at_record p at)

-- ---- a content that is held once more

-- what a file's record is where its content stands there, and is held once more
module _ (tells : Bool) (files : Files) (place : ℕ) (p : Placed) (old new : List Slot) (at : ContentRef) (before after : LogEntry) where
  held_placed : own_bytes p.fresh ≡ None → (is_stored p.fresh ≡ true → at ≡ p.file.content) → at.size ≡ p.file.content.size → at.digest ≡ p.file.content.digest → IsHeldIn old at
      → ((of : ℕ) → p.fresh ≡ As of → slice_get (references_of (placed_in before)) of ≡ Some at)
      → new ≡ slot_with_count old at.slot (count_of old at.slot + 1) → held_in new ≡ held_in old + 1
      → ((front back : List ActiveFile) → length front ≡ place → placed_in before ≡ front ++ record_of p ∷ back → placed_in after ≡ front ++ at_content at (active p.connection p.file) ∷ back)
      → PlacesOne tells files place p old new before after
  held_placed none stored size digest is shared value held entry =
      let more : (k : ℕ) → (count_of new k ≡ count_of old k + one_of at.slot k) × (size_of new k ≡ size_of old k) = λ k. held_more old new at k is.held value in
      let alike : map shape old ≡ map shape new = sym (ap (map shape) value ∙ counted_alike old at.slot (count_of old at.slot + 1)) in
      record {
        recorded = at_content at (active p.connection p.file);
        placed = record {
          file = refl;
          old = stored;
          size = size;
          digest = digest;
          named = is.named;
          within = omega (arith, is.within, (more at.slot).1);
          stands = λ told bytes some. absurd (let both : None ≡ Some bytes = sym none ∙ ap own_bytes some in cc);
        };
        shared = shared;
        holds = record {
          counts = λ k. omega (arith, (more k).0, refers_once k at);
          held = held;
          sizes = λ k. omega (arith, (more k).1);
        };
        grown = omega (arith, bytes_same new old (λ k. (more k).1), ap {B = ℕ} sum (sizes_own p None none));
        room = λ sizes room. room_alike sizes old new alike (subst (λ (l : List ℕ). SlotsHaveRoom old (l ++ sizes)) (sizes_own p None none) room);
        entry = entry;
      }

-- one that is in the store
pub old_placed : (tells : Bool) (files : Files) (place : ℕ) (p : Placed) (old new : List Slot) (e : LogEntry) → is_stored p.fresh ≡ true → IsHeldIn old p.file.content
    → new ≡ slot_with_count old p.file.content.slot (count_of old p.file.content.slot + 1) → held_in new ≡ held_in old + 1 → PlacesOne tells files place p old new e e
old_placed tells files place p old new e stored is value held =
    held_placed tells files place p old new p.file.content e e (stored_own p.fresh stored) (λ _. refl) refl refl is
    (λ of h. absurd (let both : false ≡ true = sym (ap is_stored h) ∙ stored in cc)) value held
    (λ front back long is_at. is_at ∙ ap (λ (b : Bool). front ++ active p.connection (cond b p.file (placeless p.file)) ∷ back) stored)

-- one that an earlier file of the change has
pub shared_placed : (tells : Bool) (files : Files) (place of : ℕ) (p : Placed) (old new : List Slot) (at : ContentRef) (before after : LogEntry) → p.fresh ≡ As of → MayShare old (placed_in before) p of
    → slice_get (references_of (placed_in before)) of ≡ Some at → new ≡ slot_with_count old at.slot (count_of old at.slot + 1) → held_in new ≡ held_in old + 1 → after ≡ entry_with_content before place at
    → PlacesOne tells files place p old new before after
shared_placed tells files place of p old new at before after from may there value held changed =
    let both : Some at ≡ Some may.at = sym there ∙ may.there in
    let same : may.at ≡ at = cc in
    held_placed tells files place p old new at before after (ap own_bytes from) (λ stored. absurd (let both : false ≡ true = sym (ap is_stored from) ∙ stored in cc))
    (ap (λ (r : ContentRef). r.size) (sym same) ∙ may.size) (ap (λ (r : ContentRef). r.digest) (sym same) ∙ may.digest) (subst (IsHeldIn old) same may.held)
    (λ other h. (let both : As of ≡ As other = sym from ∙ h in let equal : of ≡ other = cc in ap (slice_get (references_of (placed_in before))) (sym equal)) ∙ there)
    value held (λ front back long is_at. recorded_with place at p front back before after long is_at changed)

pub like_shared : (place of : ℕ) (p : Placed) (slots : List Slot) (files : List ActiveFile) (at : ContentRef) → IsRecordedAt place p files → MayShare slots files p of → slice_get (references_of files) of ≡ Some at
    → HasContentLike at place files
like_shared place of p slots files at recorded may there =
    let both : Some at ≡ Some may.at = sym there ∙ may.there in
    let same : may.at ≡ at = cc in
    like_record place p files at recorded (ap (λ (r : ContentRef). r.size) (sym same) ∙ may.size) (ap (λ (r : ContentRef). r.digest) (sym same) ∙ may.digest)

-- what is shared is held
pub share_held : (of : ℕ) (p : Placed) (slots : List Slot) (files : List ActiveFile) (at : ContentRef) → MayShare slots files p of → slice_get (references_of files) of ≡ Some at → 0 < count_of slots at.slot
share_held of p slots files at may there =
    let both : Some may.at ≡ Some at = sym may.there ∙ there in
    let same : may.at ≡ at = cc in
    subst (λ (r : ContentRef). 0 < count_of slots r.slot) same may.held.held

-- ---- a new content

pub may_append : (slots : List Slot) (p : Placed) (bytes : List ℕ) → p.fresh ≡ Bytes bytes → MayPlaceOne slots p → MayAppend slots bytes p.file.content.digest
may_append slots p bytes some may =
    let f = may.fresh bytes some in
    record { size = f.0; hashed = f.2; room = subst (SlotsHaveRoom slots) (sizes_some p bytes some) may.room; few = may.few }

pub new_encoded : (p : Placed) (bytes : List ℕ) (old new : List Slot) (at : ContentRef) → p.fresh ≡ Bytes bytes → IsFresh p → IsAppended bytes p.file.content.digest old new at → IsContentRef at
new_encoded p bytes old new at some fresh is =
    let f = fresh bytes some in
    record {
      slot = is.named.0;
      size = omega (arith, is.size, f.0);
      ends = omega (arith, is.low, is.size, f.0);
      digest = ap length (is.hashed ∙ f.2) ∙ length-sha256 bytes;
    }

pub like_recorded : (place : ℕ) (p : Placed) (files : List ActiveFile) (bytes : List ℕ) (old new : List Slot) (at : ContentRef) → IsRecordedAt place p files → p.fresh ≡ Bytes bytes → IsFresh p
    → IsAppended bytes p.file.content.digest old new at → HasContentLike at place files
like_recorded place p files bytes old new at recorded some fresh is =
    let f = fresh bytes some in like_record place p files at recorded (is.size ∙ sym f.1) is.hashed

room_behind : (n : ℕ) (sizes : List ℕ) (bytes digest : List ℕ) (old new : List Slot) (at : ContentRef) → n ≡ length bytes → IsAppended bytes digest old new at → SlotsHaveRoom old (n ∷ sizes) → SlotsHaveRoom new sizes
room_behind n sizes bytes digest old new at same is room =
    let both : Some room.0 ≡ Some at.slot = sym room.1 ∙ is.slot in
    let slot : room.0 ≡ at.slot = cc in
    let ends : size_of old at.slot + n ≡ end_of at = omega (arith, is.offset, is.size, same) in
    subst (λ (l : List Slot). SlotsHaveRoom l sizes) (ap (λ (k : ℕ). taken old k (size_of old k + n)) slot ∙ ap (taken old at.slot) ends ∙ sym is.slots) room.2

pub new_placed : (tells : Bool) (files : Files) (place : ℕ) (p : Placed) (bytes : List ℕ) (old new : List Slot) (at : ContentRef) (before after : LogEntry) → p.fresh ≡ Bytes bytes → IsFresh p
    → IsAppended bytes p.file.content.digest old new at → (IsTrue tells → content_in files at ≡ bytes) → after ≡ entry_with_content before place at → PlacesOne tells files place p old new before after
new_placed tells files place p bytes old new at before after some fresh is stands changed =
    let f = fresh bytes some in
    let a = at_content at (active p.connection p.file) in
    let more = appended bytes p.file.content.digest old new at is in
    record {
      recorded = a;
      placed = record {
        file = refl;
        old = λ stored. absurd (let both : false ≡ true = sym (ap is_stored some) ∙ stored in cc);
        size = is.size ∙ sym f.1;
        digest = is.hashed;
        named = is.named;
        within = more.within;
        stands = λ told other same. stands told ∙ (let both : Bytes bytes ≡ Bytes other = sym some ∙ same in cc);
      };
      shared = λ of h. absurd (let both : Bytes bytes ≡ As of = sym some ∙ h in cc);
      holds = record {
        counts = λ k. omega (arith, more.counts k, refers_once k at);
        held = is.held;
        sizes = more.sizes;
      };
      grown = omega (arith, more.bytes, is.size, ap {B = ℕ} sum (sizes_some p bytes some));
      room = λ sizes room. room_behind (length bytes) sizes bytes p.file.content.digest old new at refl is (subst (λ (l : List ℕ). SlotsHaveRoom old (l ++ sizes)) (sizes_some p bytes some) room);
      entry = λ front back long is_at. recorded_with place at p front back before after long is_at changed;
    }

-- ---- the slot that a new content goes to

pub next_of : (slots : List Slot) (p : Placed) (bytes : List ℕ) → p.fresh ≡ Bytes bytes → SlotsHaveRoom slots (fresh_sizes_of (p ∷ [])) → (k : ℕ) × (next_slot slots ≡ Some k)
next_of slots p bytes some room = let r = subst (SlotsHaveRoom slots) (sizes_some p bytes some) room in (r.0, r.1)
