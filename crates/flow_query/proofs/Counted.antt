-- How many files are in all queues.
use Rattle.std.proofs.Common.{◌≡◌, ◌≢◌, ℕ, suc, ◌+◌, ◌<◌, ◌≤◌, ◌==◌, Bool, true, false, cond, List, [], ◌∷◌, length, map, Ok, refl, sym, ap, ◌∙◌, inl, inr, arith}
use Rattle.std.specs.Prelude.{All, filter, fold, codes, decimal}
use Rattle.std.specs.List.{enumerate_from, sum_by}
use Rattle.std.proofs.lemmas.Bool.{cases_Bool, eqb-true, eq-eqb, ne_eqb, false≢true}
use Rattle.std.proofs.lemmas.List.{length-map}
use Rattle.std.proofs.lemmas.List.Elements.{All-head, All-tail}
use Rattle.std.proofs.lemmas.List.Sums.{sum_by-cons}
use Rattle.disk_trait.specs.Files.{Files}
use Rattle.flowfile_record.specs.Stored.{Kept}
use Rattle.flowfile_record.specs.declared.content.ContentRef.{ContentRef}
use Rattle.flowfile_record.specs.declared.stored.ActiveFile.{ActiveFile}
use Rattle.flowfile_record.proofs.ByNumber.{length-with}
use Rattle.content_repo.specs.Claims.{content_in}
use Rattle.machine_model.specs.Changing.{with_arrival}
use Rattle.machine_model.specs.State.{QueuedFile, State}
use Rattle.flow_report.specs.Texts.{line_of}
use Rattle.store_core.specs.Seen.{no_flow, SeenState, kept_seen, IsSeenOn}
use Rattle.store_core.specs.State.{queued_active, queue_of, stands_for}
use Rattle.store_core.proofs.Seeing.{state_is}
use Rattle.flow_query.specs.Texts.{files_in, sound_text}
use Rattle.flow_query.proofs.Known.{known}

-- how many files of a connection there are
abbrev many_at : List ActiveFile → ℕ → ℕ
many_at files place = length (filter (λ a. a.connection == place) files)

length-fold : (files front : List QueuedFile) → length (fold with_arrival front files) ≡ length front + length files
length-fold [] front = omega arith
length-fold (f ∷ files) front =
    let one : length (with_arrival front f) ≡ length front + 1 = length-with (λ (x : QueuedFile). x.arrival) f front in
    let rest = length-fold files (with_arrival front f) in
    omega arith

pub length-queue : (contents : ContentRef → List ℕ) (files : List ActiveFile) (place : ℕ) → length (queue_of contents files place) ≡ many_at files place
length-queue contents files place =
    let listed = filter (λ (a : ActiveFile). a.connection == place) files in
    let all = length-fold (map (queued_active contents) listed) [] in
    let mapped : length (map (queued_active contents) listed) ≡ length listed = length-map listed (queued_active contents) in
    omega (arith, all, mapped)

-- ---- a file more counts once, at its connection

not_there : (a : ActiveFile) (files : List ActiveFile) (place : ℕ) → (a.connection == place) ≡ false → many_at (a ∷ files) place ≡ many_at files place
not_there a files place other = ap (λ (b : Bool). length (cond b (a ∷ filter (λ x. x.connection == place) files) (filter (λ x. x.connection == place) files))) other

is_there : (a : ActiveFile) (files : List ActiveFile) (place : ℕ) → (a.connection == place) ≡ true → many_at (a ∷ files) place ≡ suc (many_at files place)
is_there a files place same = ap (λ (b : Bool). length (cond b (a ∷ filter (λ x. x.connection == place) files) (filter (λ x. x.connection == place) files))) same

-- the files of the connections from a place on
abbrev many_from : List ActiveFile → ℕ → List (List ℕ) → ℕ
many_from files from ids = sum_by (λ c. many_at files c.0) (enumerate_from from ids)

many-cons : (files : List ActiveFile) (from : ℕ) (id : List ℕ) (ids : List (List ℕ)) → many_from files from (id ∷ ids) ≡ many_at files from + many_from files (from + 1) ids
many-cons files from id ids = sum_by-cons (λ (c : ℕ × List ℕ). many_at files c.0) (from, id) (enumerate_from (from + 1) ids)

before_all : (a : ActiveFile) (files : List ActiveFile) (from : ℕ) (ids : List (List ℕ)) → a.connection < from → many_from (a ∷ files) from ids ≡ many_from files from ids
before_all a files from [] lt = refl
before_all a files from (id ∷ ids) lt =
    let one = not_there a files from (ne_eqb a.connection from (λ same. absurd (omega arith))) in
    let rest = before_all a files (from + 1) ids (omega arith) in
    omega (arith, many-cons (a ∷ files) from id ids, many-cons files from id ids, one, rest)

counts_once : (a : ActiveFile) (files : List ActiveFile) (from : ℕ) (ids : List (List ℕ)) → from ≤ a.connection → a.connection < from + length ids
    → many_from (a ∷ files) from ids ≡ many_from files from ids + 1
counts_once a files from [] above below = absurd (omega arith)
counts_once a files from (id ∷ ids) above below =
    elim (cases_Bool (a.connection == from)) [
      | inl t ↦
          let same : a.connection ≡ from = eqb-true a.connection from t in
          let one = is_there a files from t in
          let rest = before_all a files (from + 1) ids (omega arith) in
          omega (arith, many-cons (a ∷ files) from id ids, many-cons files from id ids, one, rest)
      | inr f ↦
          let other : a.connection ≢ from = λ same. false≢true (sym f ∙ eq-eqb a.connection from same) in
          let one = not_there a files from f in
          let rest = counts_once a files (from + 1) ids (omega arith) (omega arith) in
          omega (arith, many-cons (a ∷ files) from id ids, many-cons files from id ids, one, rest)
    ]

none_counted : (from : ℕ) (ids : List (List ℕ)) → many_from [] from ids ≡ 0
none_counted from [] = refl
none_counted from (id ∷ ids) = omega (arith, many-cons [] from id ids, none_counted (from + 1) ids)

all_counted : (files : List ActiveFile) (ids : List (List ℕ)) → All (λ a. a.connection < length ids) files → many_from files 0 ids ≡ length files
all_counted [] ids placed = none_counted 0 ids
all_counted (a ∷ files) ids placed =
    let here : a.connection < length ids = All-head (λ x. x.connection < length ids) a files placed in
    let one = counts_once a files 0 ids (omega arith) (omega (arith, here)) in
    let rest = all_counted files ids (All-tail (λ x. x.connection < length ids) a files placed) in
    omega (arith, one, rest)

-- ---- all queues

in_queues : (contents : ContentRef → List ℕ) (files : List ActiveFile) (from : ℕ) (ids : List (List ℕ))
    → sum_by length (map (λ c. queue_of contents files c.0) (enumerate_from from ids)) ≡ many_from files from ids
in_queues contents files from [] = refl
in_queues contents files from (id ∷ ids) =
    let rest = in_queues contents files (from + 1) ids in
    let here = length-queue contents files from in
    omega (arith, sum_by-cons (length {A = QueuedFile}) (queue_of contents files from) (map (λ c. queue_of contents files c.0) (enumerate_from (from + 1) ids)), many-cons files from id ids, here, rest)

pub files_counted : (contents : ContentRef → List ℕ) (files : List ActiveFile) (ids : List (List ℕ)) → All (λ a. a.connection < length ids) files
    → sum_by length (map (λ c. queue_of contents files c.0) (enumerate_from 0 ids)) ≡ length files
files_counted contents files ids placed = in_queues contents files 0 ids ∙ all_counted files ids placed

-- ---- what is said of a sound store

abbrev IsPlaced : Kept → Type 0
IsPlaced k = All (λ a. a.connection < length k.connections) k.files

pub sound_is : (files : Files) (s : SeenState) (state : State) (many last : ℕ) → IsSeenOn files s → stands_for no_flow 0 files ≡ Ok state → IsPlaced (kept_seen s)
    → many ≡ length (kept_seen s).files → last ≡ (kept_seen s).last_event
    → line_of (codes "store sound: files " ∷ decimal many ∷ codes ", events " ∷ decimal last ∷ []) ≡ sound_text state
sound_is files s state many last seen is placed count end =
    let k = kept_seen s in
    let in_all : files_in state ≡ length k.files =
    ap files_in (state_is files s state seen is) ∙ files_counted (content_in files) k.files k.connections placed in
    ap (λ (n : ℕ). line_of (codes "store sound: files " ∷ decimal n ∷ codes ", events " ∷ decimal last ∷ [])) (count ∙ sym in_all)
    ∙ ap (λ (n : ℕ). line_of (codes "store sound: files " ∷ decimal (files_in state) ∷ codes ", events " ∷ decimal n ∷ [])) (end ∙ sym (known files s state seen is).many)
