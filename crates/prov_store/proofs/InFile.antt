-- The events of a file, one block behind the other.
use Rattle.std.proofs.Common.{◌≡◌, ℕ, zero, suc, ◌+◌, ◌≤◌, Bool, true, false, cond, List, [], ◌∷◌, ◌++◌, length, take, drop, map, refl, sym, ap, subst, ◌∙◌, arith}
use Rattle.std.specs.Prelude.{None, Some, Result, Ok, Err, ◌==◌}
use Rattle.std.specs.List.{range_with_len}
use Rattle.std.proofs.lemmas.Bool.Decides.{nat_tests}
use Rattle.std.proofs.lemmas.List.{length-drop, drop-drop, drop-take, take-take, take-append-drop}
use Rattle.disk_trait.specs.declared.damage.Damage.{Damage}
use Rattle.disk_trait.specs.declared.file_name.FileName.{FileName}
use Rattle.flowfile_record.specs.Reading.{whole}
use Rattle.flowfile_record.specs.declared.event.Event.{Event}
use Rattle.prov_event.specs.EventReading.{event_at}
use Rattle.prov_event.specs.declared.TheConstants.{EVENT_KIND}
use Rattle.prov_store.specs.Events.{◌>>=◌, if_numbered, with_size, event_by, events_from, blocks_size}
use Rattle.record_codec.specs.Block.{Reading, Whole, Cut, Long, Differs, reading_of}
use Rattle.record_codec.specs.declared.block.TheConstants.{BLOCK_OVERHEAD}
use Rattle.record_codec.proofs.Blocks.{whole_fits, reading_of-same}

-- ---- what is read behind something

pub bind_ok : {A B : Type 0} (r : Result A Damage) (f : A → Result B Damage) (b : B) → (r >>= f) ≡ Ok b → (a : A) × (r ≡ Ok a) × (f a ≡ Ok b)
bind_ok (Ok a) f b is = (a, refl, is)
bind_ok (Err damage) f b is = cc

-- ---- one block

-- an event that is read, with its block
pub record IsRead (number : ℕ) (reading : Reading) (found : Event × ℕ) : Type 0 where
  pub payload : List ℕ
  pub block : reading ≡ Whole EVENT_KIND payload
  pub size : found.1 ≡ length payload + BLOCK_OVERHEAD
  pub says : whole event_at payload ≡ Ok found.0
  pub numbered : found.0.number ≡ number

numbered_event : (number : ℕ) (r : Result Event ℕ) (file : FileName) (at size : ℕ) (found : Event × ℕ) → with_size file at size (if_numbered number r) ≡ Ok found
    → (r ≡ Ok found.0) × (found.1 ≡ size) × (found.0.number ≡ number)
numbered_event number (Err left) file at size found is = cc
numbered_event number (Ok e) file at size found is = of_test (e.number == number) refl is
  where
    of_test : (b : Bool) → (e.number == number) ≡ b → with_size file at size (cond b (Some e) None) ≡ Ok found → (◌≡◌ {A = Result Event ℕ} (Ok e) (Ok found.0)) × (found.1 ≡ size) × (found.0.number ≡ number)
    of_test true same is =
        let pair : found ≡ (e, size) = cc in
        let equal : e.number ≡ number = grind (arith, nat_tests, same) in
        (ap (λ (f : Event × ℕ). Ok f.0) (sym pair), ap (λ (f : Event × ℕ). f.1) pair, ap (λ (f : Event × ℕ). f.0.number) pair ∙ equal)
    of_test false same is = cc

pub read_of : (file : FileName) (at number : ℕ) (reading : Reading) (found : Event × ℕ) → event_by file at number reading ≡ Ok found → IsRead number reading found
read_of file at number (Cut need have) found is = cc
read_of file at number (Long size) found is = cc
read_of file at number (Differs stored sum) found is = cc
read_of file at number (Whole kind payload) found is = of_kind (kind == EVENT_KIND) refl is
  where
    of_kind : (b : Bool) → (kind == EVENT_KIND) ≡ b → with_size file at (length payload + BLOCK_OVERHEAD) (cond b (if_numbered number (whole event_at payload)) None) ≡ Ok found → IsRead number (Whole kind payload) found
    of_kind true same is =
        let parts = numbered_event number (whole event_at payload) file at (length payload + BLOCK_OVERHEAD) found is in
        let equal : kind ≡ EVENT_KIND = grind (arith, nat_tests, same) in
        record { payload = payload; block = ap (λ k. Whole k payload) equal; size = parts.1; says = parts.0; numbered = parts.2 }
    of_kind false same is = cc

pub read_back : (file : FileName) (at number : ℕ) (reading : Reading) (found : Event × ℕ) → IsRead number reading found → event_by file at number reading ≡ Ok found
read_back file at number reading found is =
    let same : (found.0.number == number) ≡ true = grind (arith, nat_tests, is.numbered) in
    ap (event_by file at number) is.block ∙ ap (λ r. with_size file at (length is.payload + BLOCK_OVERHEAD) (if_numbered number r)) is.says
    ∙ ap (λ b. with_size file at (length is.payload + BLOCK_OVERHEAD) (cond b (Some found.0) None)) same
    ∙ ap (λ n. Ok (found.0, n)) (sym is.size)

-- the block of an event that is read lies within the bytes
pub read_fits : (number : ℕ) (bytes : List ℕ) (found : Event × ℕ) → IsRead number (reading_of bytes) found → found.1 ≤ length bytes
read_fits number bytes found is = omega (arith, is.size, whole_fits bytes EVENT_KIND is.payload is.block)

-- and is read from all bytes with the same front
pub read_same : (number : ℕ) (bytes other : List ℕ) (found : Event × ℕ) → IsRead number (reading_of bytes) found → take found.1 other ≡ take found.1 bytes → IsRead number (reading_of other) found
read_same number bytes other found is front =
    let n = length is.payload + BLOCK_OVERHEAD in
    let same : take n other ≡ take n bytes = subst (λ (m : ℕ). take m other ≡ take m bytes) is.size front in
    let split : other ≡ take n bytes ++ drop n other = sym (take-append-drop n other) ∙ ap (λ (l : List ℕ). l ++ drop n other) same in
    record { payload = is.payload; block = ap reading_of split ∙ reading_of-same bytes (drop n other) EVENT_KIND is.payload is.block; size = is.size; says = is.says; numbered = is.numbered }

-- ---- blocks behind one another

-- the first of some events, and those behind it
pub record First (count : ℕ) (file : FileName) (at number : ℕ) (bytes : List ℕ) (events : List Event) : Type 0 where
  pub first : Event × ℕ
  pub later : List Event
  pub here : IsRead number (reading_of bytes) first
  pub behind : events_from count file (at + first.1) (number + 1) (drop first.1 bytes) ≡ Ok later
  pub both : events ≡ first.0 ∷ later
  pub size : blocks_size (suc count) bytes ≡ first.1 + blocks_size count (drop first.1 bytes)

pub size_of_first : (count number : ℕ) (bytes : List ℕ) (found : Event × ℕ) → IsRead number (reading_of bytes) found
    → blocks_size (suc count) bytes ≡ found.1 + blocks_size count (drop found.1 bytes)
size_of_first count number bytes found is = rw (is.block, is.size) refl

pub first_of : (count : ℕ) (file : FileName) (at number : ℕ) (bytes : List ℕ) (events : List Event)
    → events_from (suc count) file at number bytes ≡ Ok events → First count file at number bytes events
first_of count file at number bytes events is =
    let first = bind_ok (event_by file at number (reading_of bytes))
    (λ (first : Event × ℕ). events_from count file (at + first.1) (number + 1) (drop first.1 bytes) >>= (λ later. Ok (first.0 ∷ later))) events is in
    let later = bind_ok (events_from count file (at + first.0.1) (number + 1) (drop first.0.1 bytes)) (λ later. Ok (first.0.0 ∷ later)) events first.2 in
    let read = read_of file at number (reading_of bytes) first.0 first.1 in
    record {
      first = first.0;
      later = later.0;
      here = read;
      behind = later.1;
      both = cc later.2;
      size = size_of_first count number bytes first.0 read;
    }

pub with_first : (count : ℕ) (file : FileName) (at number : ℕ) (bytes : List ℕ) (found : Event × ℕ) → IsRead number (reading_of bytes) found
    → events_from (suc count) file at number bytes ≡ (events_from count file (at + found.1) (number + 1) (drop found.1 bytes) >>= (λ later. Ok (found.0 ∷ later)))
with_first count file at number bytes found is =
    ap (λ (r : Result (Event × ℕ) Damage). r >>= (λ (first : Event × ℕ). events_from count file (at + first.1) (number + 1) (drop first.1 bytes) >>= (λ later. Ok (first.0 ∷ later))))
    (read_back file at number (reading_of bytes) found is)

-- the blocks of events lie within the bytes
pub blocks_fit : (count : ℕ) (file : FileName) (at number : ℕ) (bytes : List ℕ) (events : List Event) → events_from count file at number bytes ≡ Ok events
    → blocks_size count bytes ≤ length bytes
blocks_fit zero file at number bytes events is = omega arith
blocks_fit (suc count) file at number bytes events is =
    let f = first_of count file at number bytes events is in
    let later = blocks_fit count file (at + f.first.1) (number + 1) (drop f.first.1 bytes) f.later f.behind in
    omega (arith, f.size, later, read_fits number bytes f.first f.here, length-drop f.first.1 bytes)

take_less : (n m : ℕ) (xs ys : List ℕ) → take (n + m) xs ≡ take (n + m) ys → take n xs ≡ take n ys
take_less n m xs ys same =
    sym (take-take n (n + m) xs (omega arith)) ∙ ap (take n) same ∙ take-take n (n + m) ys (omega arith)

take_behind : (n m : ℕ) (xs ys : List ℕ) → take (n + m) xs ≡ take (n + m) ys → take m (drop n xs) ≡ take m (drop n ys)
take_behind n m xs ys same = sym (drop-take n m xs) ∙ ap (drop n) same ∙ drop-take n m ys

-- Bytes with the same front have the same events there, in blocks of the same size.
pub events_same : (count : ℕ) (file : FileName) (at number : ℕ) (bytes other : List ℕ) (events : List Event) → events_from count file at number bytes ≡ Ok events
    → take (blocks_size count bytes) other ≡ take (blocks_size count bytes) bytes
    → (events_from count file at number other ≡ Ok events) × (blocks_size count other ≡ blocks_size count bytes)
events_same zero file at number bytes other events is front = (is, refl)
events_same (suc count) file at number bytes other events is front =
    let f = first_of count file at number bytes events is in
    let n = f.first.1 in
    let m = blocks_size count (drop n bytes) in
    let whole : take (n + m) other ≡ take (n + m) bytes = subst (λ (i : ℕ). take i other ≡ take i bytes) f.size front in
    let here = read_same number bytes other f.first f.here (take_less n m other bytes whole) in
    let later = events_same count file (at + n) (number + 1) (drop n bytes) (drop n other) f.later f.behind (take_behind n m other bytes whole) in (
      with_first count file at number other f.first here ∙ ap (λ (r : Result (List Event) Damage). r >>= (λ later. Ok (f.first.0 ∷ later))) later.0 ∙ ap Ok (sym f.both),
      size_of_first count number other f.first here ∙ ap (λ (i : ℕ). n + i) later.1 ∙ sym f.size,
    )

bind_twice : (xs : List Event) (e : Event) (r : Result (List Event) Damage)
    → ((r >>= (λ ys. Ok (xs ++ ys))) >>= (λ later. Ok (e ∷ later))) ≡ (r >>= (λ ys. Ok ((e ∷ xs) ++ ys)))
bind_twice xs e (Ok ys) = refl
bind_twice xs e (Err damage) = refl

-- What is read behind some events.
pub events_behind : (count more : ℕ) (file : FileName) (at number : ℕ) (bytes : List ℕ) (events : List Event) → events_from count file at number bytes ≡ Ok events
    → events_from (count + more) file at number bytes
    ≡ (events_from more file (at + blocks_size count bytes) (number + count) (drop (blocks_size count bytes) bytes) >>= (λ later. Ok (events ++ later)))
events_behind zero more file at number bytes events is =
    let none : events ≡ [] = cc is in
    let number_same : number + 0 ≡ number = omega arith in
    let at_same : at + 0 ≡ at = omega arith in
    let count_same : 0 + more ≡ more = omega arith in
    rw (none, number_same, at_same, count_same) (sym (bind_itself (events_from more file at number bytes)))
  where
    bind_itself : (r : Result (List Event) Damage) → (r >>= (λ later. Ok ([] ++ later))) ≡ r
    bind_itself (Ok later) = refl
    bind_itself (Err damage) = refl
events_behind (suc count) more file at number bytes events is =
    let f = first_of count file at number bytes events is in
    let n = f.first.1 in
    let s = blocks_size count (drop n bytes) in
    let longer : suc count + more ≡ suc (count + more) = omega arith in
    let rest = events_behind count more file (at + n) (number + 1) (drop n bytes) f.later f.behind in
    let place : at + n + s ≡ at + blocks_size (suc count) bytes = omega (arith, f.size) in
    let numbers : number + 1 + count ≡ number + suc count = omega arith in
    let left : drop s (drop n bytes) ≡ drop (blocks_size (suc count) bytes) bytes = drop-drop s n bytes ∙ ap (λ (i : ℕ). drop i bytes) (sym f.size) in
    ap (λ (i : ℕ). events_from i file at number bytes) longer ∙ with_first (count + more) file at number bytes f.first f.here
    ∙ ap (λ (r : Result (List Event) Damage). r >>= (λ later. Ok (f.first.0 ∷ later))) rest
    ∙ bind_twice f.later f.first.0 (events_from more file (at + n + s) (number + 1 + count) (drop s (drop n bytes)))
    ∙ ap (λ (es : List Event). events_from more file (at + n + s) (number + 1 + count) (drop s (drop n bytes)) >>= (λ later. Ok (es ++ later))) (sym f.both)
    ∙ rw (place, numbers, left) refl

-- the size of blocks behind some events
pub sizes_behind : (count more : ℕ) (file : FileName) (at number : ℕ) (bytes : List ℕ) (events : List Event) → events_from count file at number bytes ≡ Ok events
    → blocks_size (count + more) bytes ≡ blocks_size count bytes + blocks_size more (drop (blocks_size count bytes) bytes)
sizes_behind zero more file at number bytes events is =
    let count_same : 0 + more ≡ more = omega arith in
    ap (λ (i : ℕ). blocks_size i bytes) count_same ∙ omega arith
sizes_behind (suc count) more file at number bytes events is =
    let f = first_of count file at number bytes events is in
    let n = f.first.1 in
    let s = blocks_size count (drop n bytes) in
    let longer : suc count + more ≡ suc (count + more) = omega arith in
    let rest = sizes_behind count more file (at + n) (number + 1) (drop n bytes) f.later f.behind in
    let left : drop s (drop n bytes) ≡ drop (blocks_size (suc count) bytes) bytes = drop-drop s n bytes ∙ ap (λ (i : ℕ). drop i bytes) (sym f.size) in
    let here : blocks_size (suc count + more) bytes ≡ n + (s + blocks_size more (drop s (drop n bytes))) =
    ap (λ (i : ℕ). blocks_size i bytes) longer ∙ size_of_first (count + more) number bytes f.first f.here ∙ ap (λ (i : ℕ). n + i) rest in
    omega (arith, here, f.size, ap (blocks_size more) left)

-- the first of some events
pub fewer_events : (count more : ℕ) (file : FileName) (at number : ℕ) (bytes : List ℕ) (events : List Event) → events_from (count + more) file at number bytes ≡ Ok events
    → events_from count file at number bytes ≡ Ok (take count events)
fewer_events zero more file at number bytes events is = refl
fewer_events (suc count) more file at number bytes events is =
    let longer : suc count + more ≡ suc (count + more) = omega arith in
    let f = first_of (count + more) file at number bytes events (ap (λ (i : ℕ). events_from i file at number bytes) (sym longer) ∙ is) in
    let rest = fewer_events count more file (at + f.first.1) (number + 1) (drop f.first.1 bytes) f.later f.behind in
    with_first count file at number bytes f.first f.here ∙ ap (λ (r : Result (List Event) Damage). r >>= (λ later. Ok (f.first.0 ∷ later))) rest
    ∙ ap (λ (es : List Event). Ok (take (suc count) es)) (sym f.both)

-- the events' numbers
pub events_numbered : (count : ℕ) (file : FileName) (at number : ℕ) (bytes : List ℕ) (events : List Event) → events_from count file at number bytes ≡ Ok events
    → (map (λ e. e.number) events ≡ range_with_len number count) × (length events ≡ count)
events_numbered zero file at number bytes events is =
    let none : events ≡ [] = cc is in
    (rw none refl, rw none refl)
events_numbered (suc count) file at number bytes events is =
    let f = first_of count file at number bytes events is in
    let rest = events_numbered count file (at + f.first.1) (number + 1) (drop f.first.1 bytes) f.later f.behind in
    let head : f.first.0.number ≡ number = f.here.numbered in
    (rw (f.both, rest.0, head) refl, omega (arith, ap length f.both, rest.1))
