-- The queues of what is kept after a session are those of the machine's state after it.
use Rattle.std.proofs.Common.{◌≡◌, ◌≢◌, ℕ, ◌==◌, not, Bool, true, false, cond, List, [], ◌∷◌, map, refl, sym, ap, ◌∙◌, inl, inr}
use Rattle.std.specs.List.{AllZip}
use Rattle.std.specs.Prelude.{All, filter, fold, find, Some, is_some, nat_lt, ◌||◌}
use Rattle.std.specs.List.{list_any}
use Rattle.std.proofs.lemmas.Bool.{cases_Bool, or_parts, eq-eqb, false≢true}
use Rattle.std.proofs.lemmas.List.Elements.{All-nil, All-cons}
use Rattle.flowfile_record.specs.NumberedItems.{with_item}
use Rattle.flowfile_record.specs.declared.content.ContentRef.{ContentRef}
use Rattle.flowfile_record.specs.declared.stored.ActiveFile.{ActiveFile}
use Rattle.flowfile_record.specs.declared.stored.Placed.{Placed}
use Rattle.kept_state.specs.Applied.{active_number, is_file_among, left_after, with_files}
use Rattle.kept_state.proofs.Apart.{AreApart}
use Rattle.machine_model.specs.Files.{is_number_among}
use Rattle.machine_model.specs.State.{QueuedFile}
use Rattle.machine_model.specs.Stepping.{without_files}
use Rattle.machine_model.specs.Changing.{placed_file, placed_into, with_arrival}
use Rattle.store_core.specs.State.{queued_active, queue_of}
use Rattle.store_core.proofs.ByKey.{put_later, filter_fold}

abbrev pub arrival_of : ActiveFile → ℕ
arrival_of a = a.file.arrival

abbrev key : QueuedFile → ℕ
key f = f.arrival

module _ (contents : ContentRef → List ℕ) (place : ℕ) where
  abbrev sel : ActiveFile → Bool
  sel a = a.connection == place

  abbrev pub line : List ActiveFile → List QueuedFile
  line files = map (queued_active contents) (filter sel files)

  -- ---- one file joins

  line-cons : (b : Bool) (a : ActiveFile) (files : List ActiveFile) → map (queued_active contents) (cond b (a ∷ files) files) ≡ cond b (queued_active contents a ∷ map (queued_active contents) files) (map (queued_active contents) files)
  line-cons true a files = refl
  line-cons false a files = refl

  apart_in : (a : ActiveFile) (files : List ActiveFile) → list_any (λ b. arrival_of b == arrival_of a) files ≡ false → All (λ f. key (queued_active contents a) ≢ key f) (line files)
  apart_in a [] apart = All-nil (λ f. key (queued_active contents a) ≢ key f)
  apart_in a (b ∷ files) apart =
      let parts = or_parts (arrival_of b == arrival_of a) (list_any (λ b. arrival_of b == arrival_of a) files) apart in
      let ne : arrival_of a ≢ arrival_of b = λ e. false≢true (sym parts.0 ∙ eq-eqb (arrival_of b) (arrival_of a) (sym e)) in
      by (sel b) ne (apart_in a files parts.1)
    where
      by : (t : Bool) → arrival_of a ≢ arrival_of b → All (λ f. key (queued_active contents a) ≢ key f) (line files) → All (λ f. key (queued_active contents a) ≢ key f) (map (queued_active contents) (cond t (b ∷ filter sel files) (filter sel files)))
      by true ne all = All-cons (λ f. key (queued_active contents a) ≢ key f) (queued_active contents b) (line files) ne all
      by false ne all = all

  abbrev joined : Bool → ActiveFile → List QueuedFile → List QueuedFile
  joined t a queue = cond t (with_arrival queue (queued_active contents a)) queue

  join_first : (t : Bool) (a : ActiveFile) (front : List QueuedFile) (files : List ActiveFile) → All (λ f. key (queued_active contents a) ≢ key f) (map (queued_active contents) files)
      → fold with_arrival front (map (queued_active contents) (cond t (a ∷ files) files)) ≡ joined t a (fold with_arrival front (map (queued_active contents) files))
  join_first true a front files apart = put_later key (queued_active contents a) (map (queued_active contents) files) front apart
  join_first false a front files apart = refl

  join_one : (a : ActiveFile) (files : List ActiveFile) (front : List QueuedFile) → list_any (λ b. arrival_of b == arrival_of a) files ≡ false
      → fold with_arrival front (line (with_item active_number a files)) ≡ joined (sel a) a (fold with_arrival front (line files))
  join_one a [] front apart = join_first (sel a) a front [] (All-nil (λ f. key (queued_active contents a) ≢ key f))
  join_one a (b ∷ files) front apart =
      let parts = or_parts (arrival_of b == arrival_of a) (list_any (λ b. arrival_of b == arrival_of a) files) apart in
      elim (cases_Bool (nat_lt (active_number b) (active_number a))) [
        | inl t ↦
            ap (λ (c : Bool). fold with_arrival front (line (cond c (b ∷ with_item active_number a files) (a ∷ b ∷ files)))) t
            ∙ past (sel b) (λ queue. join_one a files queue parts.1)
        | inr f ↦
            ap (λ (c : Bool). fold with_arrival front (line (cond c (b ∷ with_item active_number a files) (a ∷ b ∷ files)))) f
            ∙ join_first (sel a) a front (filter sel (b ∷ files)) (apart_in a (b ∷ files) apart)
      ]
    where
      past : (t : Bool) → ((queue : List QueuedFile) → fold with_arrival queue (line (with_item active_number a files)) ≡ joined (sel a) a (fold with_arrival queue (line files)))
          → fold with_arrival front (map (queued_active contents) (cond t (b ∷ filter sel (with_item active_number a files)) (filter sel (with_item active_number a files))))
          ≡ joined (sel a) a (fold with_arrival front (map (queued_active contents) (cond t (b ∷ filter sel files) (filter sel files))))
      past true rest = rest (with_arrival front (queued_active contents b))
      past false rest = rest front

  -- ---- all join

  join_next : (t : Bool) (a : ActiveFile) (queue : List QueuedFile) (placed : List ActiveFile)
      → fold with_arrival (joined t a queue) (map (queued_active contents) placed) ≡ fold with_arrival queue (map (queued_active contents) (cond t (a ∷ placed) placed))
  join_next true a queue placed = refl
  join_next false a queue placed = refl

  pub join_all : (placed files : List ActiveFile) (front : List QueuedFile) → AreApart arrival_of placed files
      → fold with_arrival front (line (with_files placed files)) ≡ fold with_arrival (fold with_arrival front (line files)) (line placed)
  join_all [] files front apart = refl
  join_all (a ∷ placed) files front apart =
      join_all placed (with_item active_number a files) front apart.1
      ∙ ap (λ (queue : List QueuedFile). fold with_arrival queue (line placed)) (join_one a files front apart.0)
      ∙ join_next (sel a) a (fold with_arrival front (line files)) (filter sel placed)

  -- ---- files go

  found_any : (n : ℕ) (gone : List ℕ) → is_some (find (λ m. m == n) gone) ≡ list_any (λ m. m == n) gone
  found_any n [] = refl
  found_any n (m ∷ gone) = by (m == n) (found_any n gone)
    where
      by : (t : Bool) → is_some (find (λ m. m == n) gone) ≡ list_any (λ m. m == n) gone → is_some (cond t (Some m) (find (λ m. m == n) gone)) ≡ (t || list_any (λ m. m == n) gone)
      by true same = refl
      by false same = same

  abbrev stays : List ℕ → QueuedFile → Bool
  stays gone q = not (is_number_among gone q.number)

  left_one : (gone : List ℕ) (a : ActiveFile) → stays gone (queued_active contents a) ≡ not (is_file_among gone a)
  left_one gone a = ap not (found_any a.file.number gone)

  left_by : (t s : Bool) (a : ActiveFile) (gone : List ℕ) (xs : List ActiveFile) (rest : List ActiveFile) → stays gone (queued_active contents a) ≡ s → filter (stays gone) (map (queued_active contents) xs) ≡ map (queued_active contents) rest
      → filter (stays gone) (map (queued_active contents) (cond t (a ∷ xs) xs)) ≡ map (queued_active contents) (cond s (cond t (a ∷ rest) rest) rest)
  left_by true true a gone xs rest is same = ap (λ (b : Bool). cond b (queued_active contents a ∷ filter (stays gone) (map (queued_active contents) xs)) (filter (stays gone) (map (queued_active contents) xs))) is ∙ ap (λ (l : List QueuedFile). queued_active contents a ∷ l) same
  left_by true false a gone xs rest is same = ap (λ (b : Bool). cond b (queued_active contents a ∷ filter (stays gone) (map (queued_active contents) xs)) (filter (stays gone) (map (queued_active contents) xs))) is ∙ same
  left_by false true a gone xs rest is same = same
  left_by false false a gone xs rest is same = same

  swapped : (s : Bool) (a : ActiveFile) (xs : List ActiveFile) → cond s (cond (sel a) (a ∷ filter sel xs) (filter sel xs)) (filter sel xs) ≡ filter sel (cond s (a ∷ xs) xs)
  swapped true a xs = refl
  swapped false a xs = refl

  pub line_left : (gone : List ℕ) (files : List ActiveFile) → filter (stays gone) (line files) ≡ line (left_after gone files)
  line_left gone [] = refl
  line_left gone (a ∷ files) =
      left_by (sel a) (not (is_file_among gone a)) a gone (filter sel files) (filter sel (left_after gone files)) (left_one gone a) (line_left gone files)
      ∙ ap (map (queued_active contents)) (swapped (not (is_file_among gone a)) a (left_after gone files))

  pub queue_left : (gone : List ℕ) (files : List ActiveFile) → without_files (queue_of contents files place) gone ≡ queue_of contents (left_after gone files) place
  queue_left gone files = filter_fold key (stays gone) (line files) [] tt ∙ ap (fold with_arrival []) (line_left gone files)

-- ---- a queue behind a session

-- a placed file as it is queued
pub record IsQueuedAs (new old : ContentRef → List ℕ) (all : List Placed) (p : Placed) (a : ActiveFile) : Type 0 where
  pub connection : a.connection ≡ p.connection
  pub file : queued_active new a ≡ placed_file old all p

line_placed : (new old : ContentRef → List ℕ) (all : List Placed) (place : ℕ) (placed : List Placed) (files : List ActiveFile) → AllZip (IsQueuedAs new old all) placed files
    → line new place files ≡ placed_into old all place placed
line_placed new old all place [] [] are = refl
line_placed new old all place [] (a ∷ files) are = absurd are
line_placed new old all place (p ∷ placed) [] are = absurd are
line_placed new old all place (p ∷ placed) (a ∷ files) are =
    let rest = line_placed new old all place placed files are.1 in
    ap (λ (n : ℕ). map (queued_active new) (cond (n == place) (a ∷ filter (λ b. b.connection == place) files) (filter (λ b. b.connection == place) files))) are.0.connection
    ∙ by (p.connection == place) rest
  where
    by : (t : Bool) → line new place files ≡ placed_into old all place placed
        → map (queued_active new) (cond t (a ∷ filter (λ b. b.connection == place) files) (filter (λ b. b.connection == place) files))
        ≡ map (placed_file old all) (cond t (p ∷ filter (λ q. q.connection == place) placed) (filter (λ q. q.connection == place) placed))
    by true rest = let one = are.0.file in cc
    by false rest = rest

pub queue_behind : (new old : ContentRef → List ℕ) (place : ℕ) (gone : List ℕ) (placed : List Placed) (recorded files : List ActiveFile)
    → AreApart arrival_of recorded (left_after gone files) → AllZip (IsQueuedAs new old placed) placed recorded
    → line new place (left_after gone files) ≡ line old place (left_after gone files)
    → queue_of new (with_files recorded (left_after gone files)) place
    ≡ fold with_arrival (without_files (queue_of old files place) gone) (placed_into old placed place placed)
queue_behind new old place gone placed recorded files apart all same =
    join_all new place recorded (left_after gone files) [] apart
    ∙ ap (λ (l : List QueuedFile). fold with_arrival (fold with_arrival [] l) (line new place recorded)) same
    ∙ ap (fold with_arrival (queue_of old (left_after gone files) place)) (line_placed new old placed place placed recorded all)
    ∙ ap (λ (queue : List QueuedFile). fold with_arrival queue (placed_into old placed place placed)) (sym (queue_left old place gone files))
