-- Files that share a content: each is recorded as its original is, which stands before it.
use Rattle.std.proofs.Common.{◌≡◌, ℕ, zero, suc, ◌+◌, ◌<◌, Bool, true, false, List, [], ◌∷◌, ◌++◌, length, take, get_or, refl, sym, ap, subst, ◌∙◌, arith, inl, inr}
use Rattle.std.specs.List.{AllZip}
use Rattle.std.specs.Option.{option_and_then}
use Rattle.std.specs.Prelude.{All, None, Some, option_map, slice_get}
use Rattle.std.proofs.lemmas.Bool.{cases_lt}
use Rattle.std.proofs.lemmas.List.{length-map, length-take, map-append}
use Rattle.std.proofs.lemmas.Option.{get_or_from_slice_get, slice_get-map, slice_get_read, slice_get_within}
use Rattle.disk_trait.specs.Files.{Files}
use Rattle.flowfile_record.specs.Shared.{AreShared, bytes_among, may_be_shared, own_bytes}
use Rattle.flowfile_record.specs.declared.content.ContentRef.{ContentRef}
use Rattle.flowfile_record.specs.declared.stored.ActiveFile.{ActiveFile}
use Rattle.flowfile_record.specs.declared.stored.Fresh.{Fresh}
use Rattle.flowfile_record.specs.declared.stored.Fresh.TheVariants.{No, Bytes, Staged, As}
use Rattle.flowfile_record.specs.declared.stored.Placed.{Placed}
use Rattle.content_repo.specs.Slots.{references_to}
use Rattle.content_repo.specs.declared.slot.Slot.{Slot}
use Rattle.store_core.specs.Placing.{ArePlaced, HoldsMore, IsPlacedAs, MayShare, ReferAlike, references_of}
use Rattle.store_core.proofs.Reclaiming.{referred_at}
use Rattle.store_core.proofs.Sound.{content_of}

-- ---- lists

pub get_front : {X : Type 0} (xs ys : List X) (k : ℕ) → k < length xs → slice_get (xs ++ ys) k ≡ slice_get xs k
get_front [] ys k lt = absurd (omega arith)
get_front (x ∷ xs) ys zero lt = refl
get_front (x ∷ xs) ys (suc k) lt = get_front xs ys k (omega (arith, lt))

pub get_middle : {X : Type 0} (xs : List X) (x : X) (ys : List X) → slice_get (xs ++ x ∷ ys) (length xs) ≡ Some x
get_middle [] x ys = refl
get_middle (y ∷ xs) x ys = get_middle xs x ys

get_take : {X : Type 0} (xs : List X) (n k : ℕ) → k < n → slice_get (take n xs) k ≡ slice_get xs k
get_take xs zero k lt = absurd (omega arith)
get_take [] (suc n) k lt = refl
get_take (x ∷ xs) (suc n) zero lt = refl
get_take (x ∷ xs) (suc n) (suc k) lt = get_take xs n k (omega (arith, lt))

pub all_at : {X : Type 0} (P : X → Type 0) (xs : List X) (k : ℕ) (x : X) → All P xs → slice_get xs k ≡ Some x → P x
all_at P xs k x all there = subst P (get_or_from_slice_get xs k x x there) (all k x (slice_get_within xs k x there))

pub zip_wider : {A B : Type 0} (R S : A → B → Type 0) (xs : List A) (ys : List B) → ((x : A) (y : B) → R x y → S x y) → AllZip R xs ys → AllZip S xs ys
zip_wider R S [] [] to all = tt
zip_wider R S [] (b ∷ ys) to all = absurd all
zip_wider R S (a ∷ xs) [] to all = absurd all
zip_wider R S (a ∷ xs) (b ∷ ys) to all = (to a b all.0, zip_wider R S xs ys to all.1)

-- the same where more is known of a pair by its place
zip_placed : {A B : Type 0} (R S : A → B → Type 0) (xs : List A) (ys : List B) → ((k : ℕ) (x : A) (y : B) → slice_get xs k ≡ Some x → slice_get ys k ≡ Some y → R x y → S x y) → AllZip R xs ys
    → AllZip S xs ys
zip_placed R S [] [] to all = tt
zip_placed R S [] (b ∷ ys) to all = absurd all
zip_placed R S (a ∷ xs) [] to all = absurd all
zip_placed R S (a ∷ xs) (b ∷ ys) to all = (to 0 a b refl refl all.0, zip_placed R S xs ys (λ k x y hx hy r. to (suc k) x y hx hy r) all.1)

pub record IsPair {A B : Type 0} (R : A → B → Type 0) (ys : List B) (k : ℕ) (x : A) : Type 0 where
  pub other : B
  pub there : slice_get ys k ≡ Some other
  pub related : R x other

pub zip_at : {A B : Type 0} (R : A → B → Type 0) (xs : List A) (ys : List B) (k : ℕ) (x : A) → AllZip R xs ys → slice_get xs k ≡ Some x → IsPair R ys k x
zip_at R [] ys k x all there = absurd (let both : None ≡ Some x = there in cc)
zip_at R (a ∷ xs) [] k x all there = absurd all
zip_at R (a ∷ xs) (b ∷ ys) zero x all there =
    let both : Some a ≡ Some x = there in
    let same : a ≡ x = cc in
    record { other = b; there = refl; related = subst (λ z. R z b) same all.0 }
zip_at R (a ∷ xs) (b ∷ ys) (suc k) x all there =
    let rest = zip_at R xs ys k x all.1 there in
    record { other = rest.other; there = rest.there; related = rest.related }

reference_at : (files : List ActiveFile) (k : ℕ) (a : ActiveFile) → slice_get files k ≡ Some a → slice_get (references_of files) k ≡ Some (content_of a)
reference_at files k a there = slice_get-map content_of files k ∙ ap (option_map content_of) there

-- ---- one more file is recorded

pub refer_none : ReferAlike [] []
refer_none place of p there is = absurd (let both : None ≡ Some p = there in cc)

refer_front : (done rest : List ActiveFile) (k : ℕ) → k < length done → slice_get (references_of (done ++ rest)) k ≡ slice_get (references_of done) k
refer_front done rest k lt =
    ap (λ (l : List ContentRef). slice_get l k) (map-append content_of done rest) ∙ get_front (references_of done) (references_of rest) k (omega (arith, lt, length-map done content_of))

pub refer_next : (placed : List Placed) (i : ℕ) (p : Placed) (done rest : List ActiveFile) (a : ActiveFile) → AreShared placed → i < length placed → p ≡ get_or placed i p → length done ≡ i
    → ReferAlike (take i placed) done → ((of : ℕ) → p.fresh ≡ As of → slice_get (references_of (done ++ rest)) of ≡ Some (content_of a))
    → ReferAlike (take (i + 1) placed) (done ++ a ∷ [])
refer_next placed i p done rest a shared lt here long before one place of q there is =
    let within : place < i + 1 = omega (arith, slice_get_within (take (i + 1) placed) place q there, length-take (i + 1) placed) in
    let at : slice_get placed place ≡ Some q = sym (get_take placed (i + 1) place within) ∙ there in
    let share = shared place of q at is in
    let first : slice_get (references_of (done ++ a ∷ [])) of ≡ slice_get (references_of done) of = refer_front done (a ∷ []) of (let early = share.earlier in omega (arith, early, within, long)) in
    elim (cases_lt place i) [
      | inl early ↦
          refer_front done (a ∷ []) place (omega (arith, early, long)) ∙ before place of q (get_take placed i place early ∙ at) is ∙ sym first
      | inr late ↦
          let same_place : place ≡ i = omega (arith, late, within) in
          let both : Some p ≡ Some q = sym (slice_get_read placed (length placed) i p refl lt here) ∙ ap (slice_get placed) (sym same_place) ∙ at in
          let same : p ≡ q = cc in
          let last : slice_get (references_of (done ++ a ∷ [])) place ≡ Some (content_of a) =
          ap (slice_get (references_of (done ++ a ∷ []))) (same_place ∙ sym long) ∙ reference_at (done ++ a ∷ []) (length done) a (get_middle done a []) in
          let original : slice_get (references_of done) of ≡ Some (content_of a) =
          sym (refer_front done rest of (let early = share.earlier in omega (arith, early, within, long))) ∙ one of (ap (λ (r : Placed). r.fresh) same ∙ is) in
          last ∙ sym original ∙ sym first
    ]

-- the content of an original that was recorded may be shared
pub may_share : (tells : Bool) (placed : List Placed) (start slots : List Slot) (files : Files) (done rest : List ActiveFile) (i of : ℕ) (p : Placed) → AreShared placed → i < length placed → p ≡ get_or placed i p
    → length done ≡ i → ArePlaced tells slots files (take i placed) done → HoldsMore done start slots → p.fresh ≡ As of → MayShare slots (done ++ rest) p of
may_share tells placed start slots files done rest i of p shared lt here long are holds is =
    let share = shared i of p (slice_get_read placed (length placed) i p refl lt here) is in
    let early = share.earlier in
    let pair = zip_at (IsPlacedAs tells slots files) (take i placed) done of share.original are (get_take placed i of early ∙ share.there) in
    let at = content_of pair.other in
    let there : slice_get (references_of done) of ≡ Some at = reference_at done of pair.other pair.there in
    let referred : 0 < references_to at.slot (references_of done) =
    subst (λ (r : ContentRef). 0 < references_to r.slot (references_of done)) (get_or_from_slice_get (references_of done) of at at there) (referred_at (references_of done) of at (slice_get_within (references_of done) of at there)) in
    record {
      at = at;
      there = refer_front done rest of (omega (arith, early, long)) ∙ there;
      held = record { held = omega (arith, referred, holds.counts at.slot); named = pair.related.named; within = pair.related.within };
      size = pair.related.size ∙ ap (λ (r : ContentRef). r.size) (sym share.same);
      digest = pair.related.digest ∙ ap (λ (r : ContentRef). r.digest) (sym share.same);
    }

-- ---- where a placed file's content comes from

-- The placed file is recorded as a source is: it is one that shares nothing, itself or its original.
pub record HasSource (all : List Placed) (tells : Bool) (slots : List Slot) (files : Files) (p : Placed) (a : ActiveFile) : Type 0 where
  pub is : IsPlacedAs tells slots files p a
  pub place : ℕ
  pub source : Placed
  pub there : slice_get all place ≡ Some source
  pub alone : (of : ℕ) → source.fresh ≡ As of → ⊥
  pub by : ActiveFile
  pub stands : IsPlacedAs tells slots files source by
  pub refers : content_of a ≡ content_of by
  pub bytes : bytes_among all p.fresh ≡ own_bytes source.fresh
  pub same : p.file.content ≡ source.file.content

itself : (all : List Placed) (tells : Bool) (slots : List Slot) (files : Files) (p : Placed) (a : ActiveFile) (k : ℕ) → slice_get all k ≡ Some p → IsPlacedAs tells slots files p a
    → ((of : ℕ) → p.fresh ≡ As of → ⊥) → bytes_among all p.fresh ≡ own_bytes p.fresh → HasSource all tells slots files p a
itself all tells slots files p a k there is alone bytes = record {
  is = is;
  place = k;
  source = p;
  there = there;
  alone = alone;
  by = a;
  stands = is;
  refers = refl;
  bytes = bytes;
  same = refl;
}

pub all_sources : (all : List Placed) (tells : Bool) (slots : List Slot) (files : Files) (recorded : List ActiveFile) → AreShared all → ReferAlike all recorded → ArePlaced tells slots files all recorded
    → AllZip (HasSource all tells slots files) all recorded
all_sources all tells slots files recorded shared alike are =
    zip_placed (IsPlacedAs tells slots files) (HasSource all tells slots files) all recorded (λ k p a hp ha is. by k p a hp ha is p.fresh refl) are
  where
    by : (k : ℕ) (p : Placed) (a : ActiveFile) → slice_get all k ≡ Some p → slice_get recorded k ≡ Some a → IsPlacedAs tells slots files p a → (fresh : Fresh) → p.fresh ≡ fresh
        → HasSource all tells slots files p a
    by k p a hp ha is No from =
        itself all tells slots files p a k hp is (λ of h. absurd (let both : No ≡ As of = sym from ∙ h in cc)) (ap (bytes_among all) from ∙ sym (ap own_bytes from))
    by k p a hp ha is Staged from =
        itself all tells slots files p a k hp is (λ of h. absurd (let both : Staged ≡ As of = sym from ∙ h in cc)) (ap (bytes_among all) from ∙ sym (ap own_bytes from))
    by k p a hp ha is (Bytes bytes) from =
        itself all tells slots files p a k hp is (λ of h. absurd (let both : Bytes bytes ≡ As of = sym from ∙ h in cc)) (ap (bytes_among all) from ∙ sym (ap own_bytes from))
    by k p a hp ha is (As of) from =
        let share = shared k of p hp from in
        let pair = zip_at (IsPlacedAs tells slots files) all recorded of share.original are share.there in
        let both : Some (content_of a) ≡ Some (content_of pair.other) = sym (reference_at recorded k a ha) ∙ alike k of p hp from ∙ reference_at recorded of pair.other pair.there in
        record {
          is = is;
          place = of;
          source = share.original;
          there = share.there;
          alone = λ other h. absurd (let both : false ≡ true = sym (ap may_be_shared h) ∙ share.shared in cc);
          by = pair.other;
          stands = pair.related;
          refers = cc;
          bytes = ap (bytes_among all) from ∙ ap (option_and_then (λ (q : Placed). own_bytes q.fresh)) share.there;
          same = share.same;
        }
