-- Placed files, one after another.
use Rattle.std.proofs.Common.{◌≡◌, ℕ, ◌+◌, ◌<◌, ◌≤◌, eqb, Bool, cond, List, [], ◌∷◌, ◌++◌, length, map, take, drop, get_or, refl, sym, ap, subst, ◌∙◌, arith, add-one, append_assoc, length-append, drop-cons, length-drop, suc, IsTrue}
use Rattle.std.specs.List.{AllZip}
use Rattle.std.specs.Prelude.{Option, None, Some, true, slice_get, sum}
use Rattle.std.specs.List.{filter_map, cons_option}
use Rattle.std.proofs.lemmas.List.Sums.{sum_by-append}
use Rattle.std.proofs.lemmas.List.{take_more, take_all, take-append-drop, append-nil, map-append, nil_from_length}
use Rattle.disk_trait.specs.Files.{Files}
use Rattle.disk_trait.specs.Images.{calls_later}
use Rattle.disk_trait.proofs.Moments.{more_calls}
use Rattle.flowfile_record.specs.Shared.{AreShared, is_stored, own_bytes}
use Rattle.flowfile_record.specs.declared.content.ContentRef.{ContentRef}
use Rattle.flowfile_record.specs.declared.stored.ActiveFile.{ActiveFile}
use Rattle.flowfile_record.specs.declared.stored.Fresh.TheVariants.{As}
use Rattle.flowfile_record.specs.declared.stored.Placed.{Placed}
use Rattle.record_codec.specs.Placeless.{placeless}
use Rattle.record_codec.specs.declared.entry.LogEntry.{LogEntry}
use Rattle.content_repo.specs.Slots.{size_of, references_to, taken, SlotsHaveRoom}
use Rattle.content_repo.specs.declared.slot.Slot.{Slot}
use Rattle.kept_state.specs.Changes.{placed_in, record_of}
use Rattle.store_core.specs.Change.{IsFresh, fresh_contents_of, fresh_sizes_of}
use Rattle.store_core.specs.Writing.{fresh_count}
use Rattle.store_core.specs.Placing.{bytes_in, IsPlacedAs, ArePlaced, HoldsMore, IsHeldIn, IsRecordedAt, MayPlace, MayPlaceOne, MayShare, PlacesOne, PlacesAll, ClaimsGrowBehind, ReferAlike, StaysStored, references_of}
use Rattle.store_core.proofs.Growing.{same_grown}
use Rattle.store_core.proofs.Sharing.{may_share, refer_next, refer_none, zip_wider}
use Rattle.store_core.proofs.Sound.{content_of}

zip_push : {A B : Type 0} (R : A → B → Type 0) (xs : List A) (ys : List B) (x : A) (y : B) → AllZip R xs ys → R x y → AllZip R (xs ++ x ∷ []) (ys ++ y ∷ [])
zip_push R [] [] x y all r = (r, tt)
zip_push R [] (b ∷ ys) x y all r = absurd all
zip_push R (a ∷ xs) [] x y all r = absurd all
zip_push R (a ∷ xs) (b ∷ ys) x y all r = (all.0, zip_push R xs ys x y all.1 r)

-- where claims grow, what was placed is placed still
pub placed_still : (tells : Bool) (slots more : List Slot) (old new : Files) (placed : List Placed) (files : List ActiveFile)
    → ((k : ℕ) → size_of slots k ≤ size_of more k) → (IsTrue tells → ClaimsGrowBehind slots old new)
    → ArePlaced tells slots old placed files → ArePlaced tells more new placed files
placed_still tells slots more old new placed files sizes grows =
    zip_wider (IsPlacedAs tells slots old) (IsPlacedAs tells more new) placed files
    (λ p a is. record {
      file = is.file;
      old = is.old;
      size = is.size;
      digest = is.digest;
      named = is.named;
      within = omega (arith, is.within, sizes a.file.content.slot);
      stands = λ told bytes fresh. (same_grown slots old new a.file.content is.within (grows told)).bytes ∙ is.stands told bytes fresh;
    })

-- the files up to this place are recorded, and the others find room
pub record IsPlacedTo (tells : Bool) (all : List Placed) (start slots : List Slot) (files : Files) (entry : LogEntry) (i : ℕ) : Type 0 where
  pub done : List ActiveFile
  pub long : length done ≡ i
  pub recorded : placed_in entry ≡ done ++ map record_of (drop i all)
  pub placed : ArePlaced tells slots files (take i all) done
  pub shared : ReferAlike (take i all) done
  pub holds : HoldsMore done start slots
  pub grown : bytes_in slots + sum (fresh_sizes_of (drop i all)) ≡ bytes_in start + sum (fresh_sizes_of all)
  pub room : SlotsHaveRoom slots (fresh_sizes_of (drop i all))

references-more : (k : ℕ) (done : List ActiveFile) (a : ActiveFile) → references_to k (map content_of (done ++ a ∷ [])) ≡ references_to k (map content_of done) + references_to k (map content_of (a ∷ []))
references-more k done a =
    ap (references_to k) (map-append content_of done (a ∷ []))
    ∙ sum_by-append (λ (r : ContentRef). cond (eqb r.slot k) 1 0) (map content_of done) (content_of a ∷ [])

pub placed_none : (tells : Bool) (placed : List Placed) (slots : List Slot) (files : Files) (entry : LogEntry) → placed_in entry ≡ map record_of placed → SlotsHaveRoom slots (fresh_sizes_of placed)
    → IsPlacedTo tells placed slots slots files entry 0
placed_none tells placed slots files entry recorded room = record {
  done = [];
  long = refl;
  recorded = recorded;
  placed = tt;
  shared = refer_none;
  holds = record { counts = λ k. omega arith; held = omega arith; sizes = λ k. omega arith };
  grown = refl;
  room = room;
}

sizes-cons : (p : Placed) (placed : List Placed) → fresh_sizes_of (p ∷ placed) ≡ fresh_sizes_of (p ∷ []) ++ fresh_sizes_of placed
sizes-cons p placed = by (own_bytes p.fresh)
  where
    by : (own : Option (List ℕ)) → map length (cons_option own (filter_map (λ q. own_bytes q.fresh) placed)) ≡ map length (cons_option own []) ++ map length (filter_map (λ q. own_bytes q.fresh) placed)
    by None = refl
    by (Some bytes) = refl

split_at : (placed : List Placed) (i : ℕ) (p : Placed) → i < length placed → p ≡ get_or placed i p → drop i placed ≡ p ∷ drop (i + 1) placed
split_at placed i p lt here =
    drop-cons placed i p lt ∙ ap (λ (q : Placed). q ∷ drop (suc i) placed) (sym here) ∙ ap (λ (n : ℕ). p ∷ drop n placed) (sym (add-one i))

pub placed_next : (tells : Bool) (placed : List Placed) (start slots more : List Slot) (old new : Files) (before after : LogEntry) (i : ℕ) (p : Placed) → AreShared placed → i < length placed → p ≡ get_or placed i p
    → IsPlacedTo tells placed start slots old before i → PlacesOne tells new i p slots more before after → (IsTrue tells → ClaimsGrowBehind slots old new)
    → IsPlacedTo tells placed start more new after (i + 1)
placed_next tells placed start slots more old new before after i p shared lt here so_far one grows =
    let rest = drop (i + 1) placed in
    let split : drop i placed ≡ p ∷ rest = split_at placed i p lt here in
    let a = one.recorded in
    let recorded : placed_in before ≡ so_far.done ++ record_of p ∷ map record_of rest = so_far.recorded ∙ ap (λ (l : List Placed). so_far.done ++ map record_of l) split in
    record {
      done = so_far.done ++ a ∷ [];
      long = omega (arith, length-append so_far.done (a ∷ []), so_far.long);
      recorded = one.entry so_far.done (map record_of rest) so_far.long recorded ∙ sym (append_assoc so_far.done (a ∷ []) (map record_of rest));
      placed =
          subst (λ (l : List Placed). ArePlaced tells more new l (so_far.done ++ a ∷ [])) (sym (take_more placed i p lt ∙ ap (λ (q : Placed). take i placed ++ q ∷ []) (sym here)))
          (zip_push (IsPlacedAs tells more new) (take i placed) so_far.done p a (placed_still tells slots more old new (take i placed) so_far.done one.holds.sizes grows so_far.placed) one.placed);
      shared =
          refer_next placed i p so_far.done (record_of p ∷ map record_of rest) a shared lt here so_far.long so_far.shared
          (λ of is. ap (λ (l : List ActiveFile). slice_get (references_of l) of) (sym recorded) ∙ one.shared of is);
      holds = record {
        counts = λ k. omega (arith, one.holds.counts k, so_far.holds.counts k, references-more k so_far.done a);
        held = omega (arith, one.holds.held, so_far.holds.held, length-append so_far.done (a ∷ []));
        sizes = λ k. omega (arith, so_far.holds.sizes k, one.holds.sizes k);
      };
      grown =
          omega (
            arith,
            so_far.grown,
            one.grown,
            ap {B = ℕ} sum (ap fresh_sizes_of split ∙ sizes-cons p rest),
            sum_by-append (λ (n : ℕ). n) (fresh_sizes_of (p ∷ [])) (fresh_sizes_of rest),
          );
      room = one.room (fresh_sizes_of rest) (subst (SlotsHaveRoom slots) (ap fresh_sizes_of split ∙ sizes-cons p rest) so_far.room);
    }

room_front : (sizes more : List ℕ) (slots : List Slot) → SlotsHaveRoom slots (sizes ++ more) → SlotsHaveRoom slots sizes
room_front [] more slots room = tt
room_front (n ∷ sizes) more slots room = (room.0, room.1, room_front sizes more (taken slots room.0 (size_of slots room.0 + n)) room.2)

-- the next one stands in the entry, and may be placed
pub recorded_next : (tells : Bool) (placed : List Placed) (start slots : List Slot) (files : Files) (entry : LogEntry) (i : ℕ) (p : Placed) → i < length placed → p ≡ get_or placed i p
    → IsPlacedTo tells placed start slots files entry i → IsRecordedAt i p (placed_in entry)
recorded_next tells placed start slots files entry i p lt here so_far = (
  so_far.done,
  map record_of (drop (i + 1) placed),
  so_far.long,
  so_far.recorded ∙ ap (λ (l : List Placed). so_far.done ++ map record_of l) (split_at placed i p lt here),
)

still_held_in : (start slots : List Slot) (done : List ActiveFile) (at : ContentRef) → HoldsMore done start slots → IsHeldIn start at → IsHeldIn slots at
still_held_in start slots done at more held = record {
  held = omega (arith, more.counts at.slot, held.held);
  named = held.named;
  within = omega (arith, more.sizes at.slot, held.within);
}

pub may_next : (tells : Bool) (placed : List Placed) (start slots : List Slot) (files : Files) (entry : LogEntry) (i : ℕ) (p : Placed) → i < length placed → p ≡ get_or placed i p
    → MayPlace start placed → IsPlacedTo tells placed start slots files entry i → MayPlaceOne slots p
may_next tells placed start slots files entry i p lt here may so_far =
    let split = split_at placed i p lt here in
    record {
      fresh = subst IsFresh (sym here) (may.fresh i p lt);
      room =
          room_front (fresh_sizes_of (p ∷ [])) (fresh_sizes_of (drop (i + 1) placed)) slots
          (subst (SlotsHaveRoom slots) (ap fresh_sizes_of split ∙ sizes-cons p (drop (i + 1) placed)) so_far.room);
      old = λ none.
          still_held_in start slots so_far.done p.file.content so_far.holds
          ((subst (λ (q : Placed). is_stored q.fresh ≡ true → IsHeldIn start q.file.content) (sym here) (may.old i p lt)) none);
      few = omega (arith, so_far.holds.held, so_far.long, may.few, lt);
    }

-- what the next one shares may be shared
pub share_next : (tells : Bool) (placed : List Placed) (start slots : List Slot) (files : Files) (entry : LogEntry) (i : ℕ) (p : Placed) → i < length placed → p ≡ get_or placed i p
    → MayPlace start placed → IsPlacedTo tells placed start slots files entry i → (of : ℕ) → p.fresh ≡ As of → MayShare slots (placed_in entry) p of
share_next tells placed start slots files entry i p lt here may so_far of is =
    subst (λ (l : List ActiveFile). MayShare slots l p of) (sym so_far.recorded)
    (may_share tells placed start slots files so_far.done (map record_of (drop i placed)) i of p may.shared lt here so_far.long so_far.placed so_far.holds is)

pub placed_all : (tells : Bool) (placed : List Placed) (start slots : List Slot) (files : Files) (entry : LogEntry) (i : ℕ) → length placed ≤ i → IsPlacedTo tells placed start slots files entry i
    → PlacesAll tells files placed start slots entry
placed_all tells placed start slots files entry i le so_far =
    let none : drop i placed ≡ [] = nil_from_length (drop i placed) (omega (arith, length-drop i placed, le)) in
    let whole : placed_in entry ≡ so_far.done = so_far.recorded ∙ ap (λ (l : List Placed). so_far.done ++ map record_of l) none ∙ append-nil so_far.done in
    record {
      placed =
          subst (λ (l : List ActiveFile). ArePlaced tells slots files placed l) (sym whole)
          (subst (λ (l : List Placed). ArePlaced tells slots files l so_far.done) (take_all i placed le) so_far.placed);
      shared =
          subst (λ (l : List ActiveFile). ReferAlike placed l) (sym whole)
          (subst (λ (l : List Placed). ReferAlike l so_far.done) (take_all i placed le) so_far.shared);
      holds = subst (λ (l : List ActiveFile). HoldsMore l start slots) (sym whole) so_far.holds;
      grown = omega (arith, so_far.grown, ap {B = ℕ} (λ (l : List Placed). sum (fresh_sizes_of l)) none);
    }

-- ---- how many contents are written

counts-cons : (p : Placed) (placed : List Placed) → fresh_count (p ∷ placed) ≡ fresh_count (p ∷ []) + fresh_count placed
counts-cons p placed = by (own_bytes p.fresh)
  where
    by : (own : Option (List ℕ)) → length (cons_option own (fresh_contents_of placed)) ≡ length (cons_option own []) + length (fresh_contents_of placed)
    by None = omega arith
    by (Some bytes) = omega arith

-- what is left to write from this place on is all that there is from the start on
abbrev pub IsLeftToWrite : List Placed → (i start now : ℕ) → Type 0
IsLeftToWrite placed i start now = calls_later (fresh_count (drop i placed)) now ≡ calls_later (fresh_count placed) start

pub written_next : (placed : List Placed) (i start mid now : ℕ) (p : Placed) → i < length placed → p ≡ get_or placed i p → IsLeftToWrite placed i start mid → now ≡ calls_later (fresh_count (p ∷ [])) mid
    → IsLeftToWrite placed (i + 1) start now
written_next placed i start mid now p lt here so_far one =
    let rest = drop (i + 1) placed in
    ap (calls_later (fresh_count rest)) one
    ∙ more_calls (fresh_count (p ∷ [])) (fresh_count rest) mid
    ∙ ap (λ (n : ℕ). calls_later n mid) (sym (ap fresh_count (split_at placed i p lt here) ∙ counts-cons p rest))
    ∙ so_far

pub written_all : (placed : List Placed) (i start now : ℕ) → length placed ≤ i → IsLeftToWrite placed i start now → now ≡ calls_later (fresh_count placed) start
written_all placed i start now le so_far =
    let none : drop i placed ≡ [] = nil_from_length (drop i placed) (omega (arith, length-drop i placed, le)) in
    sym (ap (λ (l : List Placed). calls_later (fresh_count l) now) none) ∙ so_far

-- ---- contents that are in the store

zip_both : {A B : Type 0} (R : A → B → Type 0) (xs more : List A) (ys others : List B) → AllZip R xs ys → AllZip R more others → AllZip R (xs ++ more) (ys ++ others)
zip_both R [] more [] others one two = two
zip_both R [] more (y ∷ ys) others one two = absurd one
zip_both R (x ∷ xs) more [] others one two = absurd one
zip_both R (x ∷ xs) more (y ∷ ys) others one two = (one.0, zip_both R xs more ys others one.1 two)

records_stay : (placed : List Placed) → AllZip StaysStored placed (map record_of placed)
records_stay [] = tt
records_stay (p ∷ placed) = ((λ stored. ap (λ (b : Bool). (cond b p.file (placeless p.file)).content) stored), records_stay placed)

-- wherever it ends, each is recorded where it stood
pub stay_so_far : (tells : Bool) (placed : List Placed) (start slots : List Slot) (files : Files) (entry : LogEntry) (i : ℕ) → IsPlacedTo tells placed start slots files entry i → AllZip StaysStored placed (placed_in entry)
stay_so_far tells placed start slots files entry i so_far =
    subst (λ (l : List Placed). AllZip StaysStored l (placed_in entry)) (take-append-drop i placed)
    (subst (AllZip StaysStored (take i placed ++ drop i placed)) (sym so_far.recorded)
    (zip_both StaysStored (take i placed) (drop i placed) so_far.done (map record_of (drop i placed))
    (zip_wider (IsPlacedAs tells slots files) StaysStored (take i placed) so_far.done (λ p a is. is.old) so_far.placed) (records_stay (drop i placed))))
