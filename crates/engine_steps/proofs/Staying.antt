-- A session that is committed leaves the files of other sessions as they were.
use Rattle.std.proofs.Common.{◌≡◌, ℕ, ◌==◌, not, Bool, true, false, cond, List, [], ◌∷◌, map, refl, sym, ap, subst, ◌∙◌, inl, inr}
use Rattle.std.specs.Prelude.{All, None, Option, Some, IsSome}
use Rattle.std.specs.List.{list_any}
use Rattle.std.proofs.lemmas.Bool.{cases_Bool, eqb-true, or_from}
use Rattle.std.proofs.lemmas.List.Elements.{All-cons, All-head, All-nil, All-tail}
use Rattle.flowfile_record.specs.NumberedItems.{with_item}
use Rattle.flowfile_record.specs.Stored.{Kept}
use Rattle.flowfile_record.specs.declared.change.Change.TheVariants as change
use Rattle.flowfile_record.specs.declared.change.Settled.{Settled}
use Rattle.flowfile_record.specs.declared.stored.ActiveFile.{ActiveFile}
use Rattle.record_codec.specs.Placeless.{placeless_active, placeless_entry}
use Rattle.record_codec.specs.declared.entry.LogEntry.{LogEntry}
use Rattle.record_codec.specs.declared.entry.LogEntry.TheVariants.{Begin, Session, Expire, SwapOut, SwapIn, Age}
use Rattle.record_codec.specs.declared.entry.SessionEntry.{SessionEntry}
use Rattle.kept_state.specs.Applied.{active_number, applied, left_after, with_files}
use Rattle.kept_state.specs.Changes.{MaySettleAs, entry_of_change, entry_of_session, no_files, record_of}
use Rattle.kept_state.specs.Fits.{active_of}
use Rattle.kept_state.proofs.Apart.{AreApart, none_from_any}
use Rattle.kept_state.proofs.Items.{item_of-with}
use Rattle.kept_state.proofs.Keeping.{suits_from}
use Rattle.kept_state.proofs.Moving.{stays_after, stays_with}
use Rattle.engine_queues.specs.Beside.{is_out, out_without}
use Rattle.engine_queues.specs.Settling.{IsKeptAfter}

-- ---- the numbers of the placed files are new

not_none : IsSome {T = ActiveFile} None → ⊥
not_none some = cc

not_here : (n : ℕ) (a : ActiveFile) (files : List ActiveFile) → list_any (λ b. active_number b == a.file.number) files ≡ false → IsSome (active_of n files) → (a.file.number == n) ≡ false
not_here n a files apart live = elim (cases_Bool (a.file.number == n)) [
  | inl t ↦
      let none : active_of n files ≡ None = ap (λ (m : ℕ). active_of m files) (sym (eqb-true a.file.number n t)) ∙ none_from_any a.file.number files apart in
      absurd (not_none (subst (λ (o : Option ActiveFile). IsSome o) none live))
  | inr f ↦ f
]

not_placed : (n : ℕ) (placed files : List ActiveFile) → AreApart active_number placed files → IsSome (active_of n files) → list_any (λ m. m == n) (map active_number placed) ≡ false
not_placed n [] files apart live = refl
not_placed n (a ∷ placed) files apart live =
    let other = not_here n a files apart.0 live in
    let still : active_of n (with_item active_number a files) ≡ active_of n files = item_of-with active_number n a files ∙ ap (λ c. cond c (Some a) (active_of n files)) other in
    or_from (a.file.number == n) (list_any (λ m. m == n) (map active_number placed)) other
    (not_placed n placed (with_item active_number a files) apart.1 (subst (λ (o : Option ActiveFile). IsSome o) (sym still) live))

numbers_placeless : (files : List ActiveFile) → map active_number (map placeless_active files) ≡ map active_number files
numbers_placeless [] = refl
numbers_placeless (a ∷ files) = ap (λ (l : List ℕ). active_number a ∷ l) (numbers_placeless files)

-- ---- the entry that was applied

-- what a session's entry says, where it is one
abbrev part_of : SessionEntry → LogEntry → SessionEntry
part_of t (Session s) = s
part_of t entry = t

-- a file that lives and isn't gone stays as it is
session_stays : (k : Kept) (settled : Settled) (s : SessionEntry) → k.batches ≡ [] → MaySettleAs k settled → placeless_entry (Session s) ≡ placeless_entry (entry_of_change k (change.Session settled))
    → (number : ℕ) → is_out settled.gone number ≡ false → IsSome (active_of number k.files) → active_of number (applied no_files k (Session s)).files ≡ active_of number k.files
session_stays k settled s none may same number apart live =
    let t = entry_of_session k settled in
    let gone : s.gone ≡ settled.gone = ap (λ (e : LogEntry). (part_of t e).gone) same in
    let placed : map placeless_active s.placed ≡ map placeless_active (map record_of settled.placed) = ap (λ (e : LogEntry). (part_of t e).placed) same in
    let numbers : map active_number s.placed ≡ map active_number (map record_of settled.placed) =
    sym (numbers_placeless s.placed) ∙ ap (map active_number) placed ∙ numbers_placeless (map record_of settled.placed) in
    let left = left_after settled.gone k.files in
    let stays : active_of number left ≡ active_of number k.files = stays_after number settled.gone k.files apart in
    let new = not_placed number (map record_of settled.placed) left (suits_from k t none may.suits).numbers (subst (λ (o : Option ActiveFile). IsSome o) (sym stays) live) in
    ap (λ (ns : List ℕ). active_of number (with_files s.placed (left_after ns k.files))) gone
    ∙ stays_with number s.placed left (ap (list_any (λ m. m == number)) numbers ∙ new) ∙ stays

entry_stays : (k : Kept) (settled : Settled) (e : LogEntry) → k.batches ≡ [] → MaySettleAs k settled → placeless_entry e ≡ placeless_entry (entry_of_change k (change.Session settled))
    → (number : ℕ) → is_out settled.gone number ≡ false → IsSome (active_of number k.files) → active_of number (applied no_files k e).files ≡ active_of number k.files
entry_stays k settled (Session s) none may same number apart live = session_stays k settled s none may same number apart live
entry_stays k settled (Begin version log) none may same number apart live = absurd cc
entry_stays k settled (Expire e) none may same number apart live = absurd cc
entry_stays k settled (SwapOut s) none may same number apart live = absurd cc
entry_stays k settled (SwapIn connection batch) none may same number apart live = absurd cc
entry_stays k settled (Age line) none may same number apart live = absurd cc

pub others_stay : (k after : Kept) (connection : ℕ) (settled : Settled) → k.batches ≡ [] → MaySettleAs k settled → IsKeptAfter k connection settled after
    → (number : ℕ) → is_out settled.gone number ≡ false → IsSome (active_of number k.files) → active_of number after.files ≡ active_of number k.files
others_stay k after connection settled none may kept number apart live =
    ap (λ (l : Kept). active_of number l.files) kept.kept ∙ entry_stays k settled kept.entry none may kept.same number apart live

-- ---- the files of other sessions live on

pub live_behind : (gone out : List ℕ) (files after : List ActiveFile) → ((number : ℕ) → is_out gone number ≡ false → IsSome (active_of number files) → active_of number after ≡ active_of number files)
    → All (λ number. IsSome (active_of number files)) out → All (λ number. IsSome (active_of number after)) (out_without gone out)
live_behind gone [] files after stay all = All-nil (λ (number : ℕ). IsSome (active_of number after))
live_behind gone (n ∷ out) files after stay all =
    by_test (is_out gone n) refl (live_behind gone out files after stay (All-tail (λ (number : ℕ). IsSome (active_of number files)) n out all))
  where
    live : IsSome (active_of n files)
    live = All-head (λ (number : ℕ). IsSome (active_of number files)) n out all

    by_test : (b : Bool) → is_out gone n ≡ b → All (λ number. IsSome (active_of number after)) (out_without gone out)
        → All (λ number. IsSome (active_of number after)) (cond (not b) (n ∷ out_without gone out) (out_without gone out))
    by_test true is rest = rest
    by_test false is rest =
        All-cons (λ (number : ℕ). IsSome (active_of number after)) n (out_without gone out)
        (subst (λ (o : Option ActiveFile). IsSome o) (sym (stay n is live)) live) rest
