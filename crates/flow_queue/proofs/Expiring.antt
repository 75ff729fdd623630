-- The numbers of files that expired, of some files and one more; they ascend as those of the files do.
use Rattle.std.proofs.Common.{◌≡◌, ℕ, ◌<◌, ◌&&◌, not, nat_le, Bool, true, false, cond, List, [], ◌∷◌, refl, sym, ap, ◌∙◌, arith}
use Rattle.std.specs.Prelude.{All, Contains, Some, filter}
use Rattle.std.proofs.lemmas.Bool.{le-leb, true≢false}
use Rattle.std.proofs.lemmas.List.Elements.{All-head, All-weaker, All-map, All-filter, All-contains_itself}
use Rattle.flowfile_record.specs.NumberedItems.{AscendsByNumber}
use Rattle.machine_model.specs.declared.flow.QueueLimits.{QueueLimits}
use Rattle.machine_model.specs.Due.{numbers_of}
use Rattle.machine_model.specs.Events.{ascending, put_ascending}
use Rattle.machine_model.specs.View.{FileView, is_expired, at_rest}
use Rattle.machine_model.proofs.Among.{Among, among_contained, contains_among, kept_by}
use Rattle.flow_queue.specs.declared.held.Held.{Held}
use Rattle.flow_queue.specs.Picking.{expiring}
use Rattle.flow_queue.specs.Queue.{held_number, held_view, views_of, flight_of}
use Rattle.flow_queue.proofs.AtRest.{seen-at}
use Rattle.flow_queue.proofs.Numbered.{ascends-filter, ascends-map}

-- whether its number is one of them
abbrev pub expires : QueueLimits → ℕ → FileView → Bool
expires limits moment file = not file.in_flight && is_expired limits.expiration moment file

pub expiring-cons : (limits : QueueLimits) (moment : ℕ) (file : FileView) (files : List FileView)
    → expiring limits moment (file ∷ files) ≡ cond (expires limits moment file) (file.number ∷ expiring limits moment files) (expiring limits moment files)
expiring-cons limits moment file files =
    let test = is_expired limits.expiration moment in
    let rest = at_rest files in
    elim file.in_flight as (λ b. numbers_of (filter test (cond (not b) (file ∷ rest) rest)) ≡ cond (not b && test file) (file.number ∷ numbers_of (filter test rest)) (numbers_of (filter test rest))) [
      | true ↦ refl
      | false ↦ elim (test file) as (λ b. numbers_of (cond b (file ∷ filter test rest) (filter test rest)) ≡ cond b (file.number ∷ numbers_of (filter test rest)) (numbers_of (filter test rest))) [ true ↦ refl | false ↦ refl ]
    ]

-- the next file is passed over, or its number is noted
pub expiring-over : (limits : QueueLimits) (moment : ℕ) (file : FileView) (files : List FileView) → expires limits moment file ≡ false → expiring limits moment (file ∷ files) ≡ expiring limits moment files
expiring-over limits moment file files h =
    expiring-cons limits moment file files ∙ ap (λ b. cond b (file.number ∷ expiring limits moment files) (expiring limits moment files)) h

pub expiring-noted : (limits : QueueLimits) (moment : ℕ) (file : FileView) (files : List FileView) → expires limits moment file ≡ true → expiring limits moment (file ∷ files) ≡ file.number ∷ expiring limits moment files
expiring-noted limits moment file files h =
    expiring-cons limits moment file files ∙ ap (λ b. cond b (file.number ∷ expiring limits moment files) (expiring limits moment files)) h

-- with no limit of age none expires
pub none-expire : (limits : QueueLimits) (moment : ℕ) (files : List FileView) → limits.expiration ≡ 0 → expiring limits moment files ≡ []
none-expire limits moment [] is = refl
none-expire limits moment (file ∷ files) is =
    let never : expires limits moment file ≡ false = ap (λ n. not file.in_flight && is_expired n moment file) is ∙ nothing (not file.in_flight) in
    expiring-over limits moment file files never ∙ none-expire limits moment files is
  where
    nothing : (b : Bool) → (b && false) ≡ false
    nothing true = refl
    nothing false = refl

put-first : (n : ℕ) (numbers : List ℕ) → All (λ later. n < later) numbers → put_ascending n numbers ≡ n ∷ numbers
put-first n [] above = refl
put-first n (m ∷ numbers) above =
    let lt : n < m = All-head (λ later. n < later) m numbers above in
    let yes : nat_le n m ≡ true = le-leb n m (omega arith) in
    rw yes

ascending-same : (numbers : List ℕ) → AscendsByNumber (λ n. n) numbers → ascending numbers ≡ numbers
ascending-same [] up = refl
ascending-same (n ∷ numbers) up = ap (put_ascending n) (ascending-same numbers up.1) ∙ put-first n numbers up.0

pub expiring-ascends : (limits : QueueLimits) (moment : ℕ) (files : List Held) → AscendsByNumber held_number files → ascending (expiring limits moment (views_of files)) ≡ expiring limits moment (views_of files)
expiring-ascends limits moment files up =
    let number = λ (file : FileView). file.number in
    let test = is_expired limits.expiration moment in
    let rests : FileView → Bool = λ other. not other.in_flight in
    let views = ascends-map held_number number held_view (λ _. refl) files up in
    let kept = ascends-filter number test (filter rests (views_of files)) (ascends-filter number rests (views_of files) views) in
    ascending-same _ (ascends-map number (λ n. n) number (λ _. refl) _ kept)

resting : (files : List Held) → AscendsByNumber held_number files → (view : FileView) → Among view (views_of files) × (not view.in_flight ≡ true) → flight_of view.number files ≡ Some false
resting files up view is = seen-at files view up (contains_among view (views_of files) is.0) ∙ ap (λ (b : Bool). Some b) (is_false view.in_flight is.1)
  where
    is_false : (b : Bool) → not b ≡ true → b ≡ false
    is_false true h = absurd (true≢false (sym h))
    is_false false h = refl

pub expiring-rests : (limits : QueueLimits) (moment : ℕ) (files : List Held) → AscendsByNumber held_number files → All (λ n. flight_of n files ≡ Some false) (expiring limits moment (views_of files))
expiring-rests limits moment files up =
    let test = is_expired limits.expiration moment in
    let rests : FileView → Bool = λ other. not other.in_flight in
    let kept = filter rests (views_of files) in
    let Rests : FileView → Type 0 = λ view. flight_of view.number files ≡ Some false in
    let all : All Rests kept = All-weaker (Contains kept) Rests (λ view is. resting files up view (kept_by rests (views_of files) view (among_contained view kept is))) kept (All-contains_itself kept) in
    All-map (λ n. flight_of n files ≡ Some false) (λ (view : FileView). view.number) (filter test kept) (All-filter test Rests kept all)
