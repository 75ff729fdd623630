-- While a store is being made, its files stand for a new one.
use Rattle.std.proofs.Common.{◌≡◌, ℕ, ◌^◌, ◌<◌, ◌≤◌, Bool, true, false, List, [], length, refl, ap, ◌∙◌, arith}
use Rattle.std.specs.Prelude.{Option, None, Ok, option_map, nat_le, nat_lt, ◌&&◌}
use Rattle.std.proofs.lemmas.Bool.{leb-true}
use Rattle.disk_trait.specs.Files.{Files, named}
use Rattle.disk_trait.specs.declared.file_name.FileKind.{FileKind}
use Rattle.disk_trait.specs.declared.file_name.FileKind.TheVariants.{Log, Snapshot, Swap, Claim, Events}
use Rattle.disk_trait.specs.declared.file_name.FileName.{FileName}
use Rattle.disk_trait.proofs.Search.{least_none}
use Rattle.flowfile_wal.specs.Current.{current_log, current_number, log_of_number}
use Rattle.machine_model.specs.State.{State}
use Rattle.store_core.specs.Flow.{Flow}
use Rattle.store_core.specs.Kept.{kept_in, behind_log}
use Rattle.store_core.specs.New.{holds_from, first_from, file_or, first_stray, kept_anew, unless_stray}
use Rattle.store_core.specs.State.{stands_for}
use Rattle.store_core.specs.Agreement.{IsUnmade}
use Rattle.store_core.proofs.Agreeing.{stands_by_kept, state_of_sound}
use Rattle.store_core.proofs.EventsStay.{no_event}

pub no_log : (files : Files) → current_number files ≡ None → current_log files ≡ Ok None
unfolding current_log
no_log files none = ap (log_of_number files) none

by_parts : (a b : Bool) → (a ≡ true → b ≡ false) → (a && b) ≡ false
by_parts true b h = h refl
by_parts false b h = refl

empty_fails : (kind : FileKind) (from : ℕ) (files : Files) (n : ℕ) → (from ≤ n → files (named kind n) ≡ []) → holds_from kind from files n ≡ false
empty_fails kind from files n empty =
    by_parts (nat_le from n) (nat_lt 0 (length (files (named kind n))))
    (λ (is : nat_le from n ≡ true). ap (λ (bytes : List ℕ). nat_lt 0 (length bytes)) (empty (leb-true from n is)))

none_from : (kind : FileKind) (from : ℕ) (files : Files) → ((n : ℕ) → from ≤ n → n < 2 ^ 64 → files (named kind n) ≡ []) → first_from kind from files ≡ None
none_from kind from files empty = ap (option_map (named kind)) (least_none (holds_from kind from files) (2 ^ 64) (λ n lt. empty_fails kind from files n (λ le. empty n le lt)))

or_none : (one other : Option FileName) → one ≡ None → other ≡ None → file_or one other ≡ None
or_none one other a b = ap (λ (o : Option FileName). file_or o other) a ∙ b

pub no_stray : (files : Files) → IsUnmade files → first_stray files ≡ None
unfolding first_stray
no_stray files unmade =
    or_none _ _ (none_from Log 2 files (λ n le lt. unmade.logs n (omega (arith, le)) lt))
    (or_none _ _ (none_from Snapshot 2 files (λ n le lt. unmade.snapshots n (omega (arith, le)) lt))
    (or_none _ _ (none_from Swap 0 files (λ n le lt. unmade.swaps n lt))
    (or_none _ _ (none_from Claim 0 files (λ n le lt. unmade.claims n lt)) (none_from Events 0 files (λ n le lt. unmade.events n lt)))))

pub kept_unmade : (flow : Flow) (lot : ℕ) (files : Files) → IsUnmade files → kept_in flow lot files ≡ Ok (kept_anew flow lot)
unfolding kept_in
kept_unmade flow lot files unmade = ap (behind_log flow lot files) (no_log files unmade.log) ∙ ap (unless_stray flow lot) (no_stray files unmade)

pub state_unmade : (flow : Flow) (lot : ℕ) (files : Files) → IsUnmade files → (s : State) × (stands_for flow lot files ≡ Ok s)
state_unmade flow lot files unmade = (_, stands_by_kept flow lot files (kept_anew flow lot) (kept_unmade flow lot files unmade) ∙ state_of_sound files (kept_anew flow lot) [] refl (no_event files))
