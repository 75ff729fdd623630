-- What the entries of a log make of a snapshot, one after the other.
use Rattle.std.proofs.Common.{◌≡◌, ℕ, suc, ◌<◌, Bool, true, false, cond, List, [], ◌∷◌, ◌++◌, length, map, take, drop, get_or, refl, sym, ap, ◌∙◌, length-set}
use Rattle.std.specs.Prelude.{◌==◌, ◌&&◌, Option, None, Some, Result, Ok, Err}
use Rattle.std.specs.List.{list_any}
use Rattle.std.proofs.lemmas.List.{take-append-drop, map-id}
use Rattle.std.proofs.Math.Seq.{take-suc}
use Rattle.flowfile_record.specs.Stored.{Kept}
use Rattle.flowfile_record.specs.declared.stored.Counted.{Counted}
use Rattle.flowfile_record.specs.declared.stored.SwapBatch.{SwapBatch}
use Rattle.record_codec.specs.declared.entry.LogEntry.{LogEntry}
use Rattle.record_codec.specs.declared.entry.LogEntry.TheVariants.{Begin, Session, Expire, SwapOut, SwapIn, Age}
use Rattle.kept_state.specs.Applied.{applied, batch_swapped_out}
use Rattle.flowfile_record.specs.Counts.{with_count}
use Rattle.kept_state.specs.Changes.{no_files}
use Rattle.kept_state.specs.Fits.{entry_suits, replayed}
use Rattle.store_core.specs.Flow.{flow_in}

-- an entry, and the offset of its gate
abbrev pub Logged : Type 0
Logged = ℕ × LogEntry

-- the entries that were read, this one, and those behind it
pub in_turn : (entries before : List Logged) (one : Logged) → map (λ (e : Logged). e) before ≡ take (length before) entries
    → length before < length entries → one ≡ get_or entries (length before) one → entries ≡ (before ++ one ∷ []) ++ drop (suc (length before)) entries
in_turn entries before one so_far lt here =
    let front : take (suc (length before)) entries ≡ before ++ one ∷ [] =
    take-suc entries (length before) one lt
    ∙ ap (λ (xs : List Logged). xs ++ get_or entries (length before) one ∷ []) (sym so_far ∙ map-id before)
    ∙ ap (λ (e : Logged). before ++ e ∷ []) (sym here) in
    sym (take-append-drop (suc (length before)) entries) ∙ ap (λ (xs : List Logged). xs ++ drop (suc (length before)) entries) front

abbrev tested : Bool → Kept → ℕ → Result Kept ℕ
tested fit k at = cond fit (Ok k) (Err at)

-- one that doesn't fit is told, whatever is behind it
pub misfits : (k l : Kept) (entries front more : List Logged) (at : ℕ) (e : LogEntry) → entries ≡ front ++ more
    → replayed no_files k front ≡ cond (entry_suits no_files l e) (Ok (applied no_files l e)) (Err at) → entry_suits no_files l e ≡ false
    → (replayed no_files k front ≡ Err at → replayed no_files k (front ++ more) ≡ Err at) → replayed no_files k entries ≡ Err at
misfits k l entries front more at e whole one unfit rest =
    ap (replayed no_files k) whole ∙ rest (one ∙ ap (λ (fit : Bool). tested fit (applied no_files l e) at) unfit)

-- and one that fits is applied
pub fitting : (fit : Bool) (one new : Kept) (at : ℕ) → fit ≡ true → new ≡ one → tested fit one at ≡ Ok new
fitting true one new at is same = ap Ok (sym same)
fitting false one new at is same = absurd cc

-- ---- what an entry leaves

pub still_plain : (k : Kept) (e : LogEntry) → k.batches ≡ [] → batch_swapped_out e ≡ [] → entry_suits no_files k e ≡ true → (applied no_files k e).batches ≡ []
still_plain k (Begin version log) none out fit = none
still_plain k (Session s) none out fit = none
still_plain k (Expire e) none out fit = none
still_plain k (SwapOut s) none out fit = absurd cc
still_plain k (SwapIn connection batch) none out fit =
    let never : false ≡ true = ap (list_any (λ (b : SwapBatch). (b.batch == batch) && (b.connection == connection))) (sym none) ∙ fit in absurd cc
still_plain k (Age line) none out fit = none

length-with_count : (g : Option Counted) (counts : List ℕ) → length (with_count g counts) ≡ length counts
length-with_count None counts = refl
length-with_count (Some g) counts = length-set counts g.processor g.count

pub same_flow : (k : Kept) (e : LogEntry) → flow_in (applied no_files k e) ≡ flow_in k
same_flow k (Begin version log) = refl
same_flow k (Session s) = λ i. record { digest = k.flow; connections = k.connections; processors = length-with_count s.generator k.counts i }
same_flow k (Expire e) = refl
same_flow k (SwapOut s) = refl
same_flow k (SwapIn connection batch) = refl
same_flow k (Age line) = refl
