-- A session's entry is tested rule by rule.
use Rattle.std.proofs.Common.{◌≡◌, ℕ, ◌==◌, ◌&&◌, not, ◌||◌, Bool, true, false, List, [], ◌∷◌, map, Option, None, Some, is_some, MatchOption, refl, sym, ap, ◌∙◌}
use Rattle.std.specs.Prelude.{is_none}
use Rattle.std.specs.List.{list_any, list_all}
use Rattle.std.specs.Ordering.{nat_cmp}
use Rattle.std.specs.BTreeSet.{BTreeSet, contains}
use Rattle.flowfile_record.specs.Stored.{Kept}
use Rattle.flowfile_record.specs.declared.flow_file.FlowFile.{FlowFile}
use Rattle.flowfile_record.specs.declared.stored.ActiveFile.{ActiveFile}
use Rattle.record_codec.specs.declared.entry.LogEntry.TheVariants.{Session}
use Rattle.record_codec.specs.declared.entry.SessionEntry.{SessionEntry}
use Rattle.flowfile_record.specs.NumberedItems.{with_item}
use Rattle.kept_state.specs.Applied.{active_number, left_after, with_files, session_applied}
use Rattle.kept_state.specs.Arrivals.{arrival_of, are_fresh, AreArrivalsOf, IsSetOf}
use Rattle.kept_state.specs.Changes.{no_files}
use Rattle.kept_state.specs.Fits.{active_of, are_distinct_numbers, are_active_in_one, are_new, has_place, has_count, keeps_counters, entry_suits, live}
use Rattle.kept_state.specs.Limits.{live_limit}
use Rattle.kept_state.proofs.Apart.{lives, unused-files}
use Rattle.kept_state.proofs.Sets.{some_active, any_left, all_same, fresh_is}
use Rattle.kept_state.proofs.Items.{any-with}

-- whether none of the placed files has something in it that another file has which is left
abbrev pub new_in : (part : FlowFile → ℕ) → (placed : List ActiveFile) (gone : List ℕ) (files : List ActiveFile) → Bool
new_in part placed gone files = are_new part (map (λ a. part a.file) placed) (map (λ a. a.file) (left_after gone files))

-- the rules on connections, numbers and counters
abbrev pub suits_counters : Kept → SessionEntry → Bool
suits_counters k s = list_all (has_place k s) s.placed && has_count k.counts s.generator && keeps_counters k s

in_turn : (d o n a p h q l : Bool) → (((d && o && (n && a) && p && h && q)) && l) ≡ (d && (o && (n && (a && ((p && h && q) && l)))))
in_turn false o n a p h q l = refl
in_turn true false n a p h q l = refl
in_turn true true false a p h q l = refl
in_turn true true true false p h q l = refl
in_turn true true true true p h q l = refl

pub fits_in_turn : (k : Kept) (s : SessionEntry) → k.batches ≡ []
    → entry_suits no_files k (Session s) ≡ (are_distinct_numbers s.gone && (are_active_in_one k.files s.gone && (new_in (λ f. f.number) s.placed s.gone k.files && (new_in (λ f. f.arrival) s.placed s.gone k.files
    && (suits_counters k s && is_none (live_limit (session_applied k s)))))))
fits_in_turn k s none =
    let rest = record k { files = left_after s.gone k.files } in
    let plain = lives (left_after s.gone k.files) k.batches none in
    let other = in_turn (are_distinct_numbers s.gone) (are_active_in_one k.files s.gone) (are_new (λ f. f.number) (map (λ a. a.file.number) s.placed) (live no_files rest))
    (are_new (λ f. f.arrival) (map (λ a. a.file.arrival) s.placed) (live no_files rest)) (list_all (has_place k s) s.placed) (has_count k.counts s.generator) (keeps_counters k s)
    (is_none (live_limit (session_applied k s))) in
    other
    ∙ ap (λ (fs : List FlowFile). are_distinct_numbers s.gone && (are_active_in_one k.files s.gone && (are_new (λ f. f.number) (map (λ a. a.file.number) s.placed) fs && (are_new (λ f. f.arrival) (map (λ a. a.file.arrival) s.placed) fs
    && (suits_counters k s && is_none (live_limit (session_applied k s))))))) plain

pub and_false : (b : Bool) → (b && false) ≡ false
and_false true = refl
and_false false = refl

-- where a set of these numbers was made, they are distinct
pub distinct_from : (o : Option (BTreeSet ℕ)) (ns : List ℕ) → is_some o ≡ true → MatchOption o (are_distinct_numbers ns ≡ false) (λ s. (are_distinct_numbers ns ≡ true) × IsSetOf s ns) → are_distinct_numbers ns ≡ true
distinct_from None ns some is = absurd cc
distinct_from (Some set) ns some is = is.0

pub numbers_left : (set : BTreeSet ℕ) (gone : List ℕ) (placed files : List ActiveFile) → IsSetOf set gone
    → list_all (λ n. not (list_any (λ f. f.number == n) (map (λ a. a.file) (left_after gone files)))) (map (λ a. a.file.number) placed)
    ≡ list_all (λ n. not (is_some (active_of n files) && not (contains nat_cmp set n))) (map (λ a. a.file.number) placed)
numbers_left set gone placed files is =
    let numbers = map (λ a. a.file.number) placed in
    unused-files (λ f. f.number) numbers (left_after gone files)
    ∙ all_same (λ n. not (list_any (λ a. active_number a == n) (left_after gone files))) (λ n. not (is_some (active_of n files) && not (contains nat_cmp set n)))
    (λ n. ap not (any_left n gone files ∙ ap (λ b. b && not (list_any (λ m. m == n) gone)) (some_active n files) ∙ ap (λ b. is_some (active_of n files) && not b) (sym (is.members n)))) numbers

pub third_false : (d o r : Bool) → (d && (o && (false && r))) ≡ false
third_false true true r = refl
third_false true false r = refl
third_false false o r = refl

pub fourth_false : (d o n r : Bool) → (d && (o && (n && (false && r)))) ≡ false
fourth_false true true true r = refl
fourth_false true true false r = refl
fourth_false true false n r = refl
fourth_false false o n r = refl

pub fifth_false : (d o n a r : Bool) → (d && (o && (n && (a && (false && r))))) ≡ false
fifth_false true true true true r = refl
fifth_false true true true false r = refl
fifth_false true true false a r = refl
fifth_false true false n a r = refl
fifth_false false o n a r = refl

pub all_true : (d o n a q l : Bool) → d ≡ true → o ≡ true → n ≡ true → a ≡ true → q ≡ true → (d && (o && (n && (a && (q && l))))) ≡ l
all_true d o n a q l hd ho hn ha hq = rw (hd, ho, hn, ha, hq) refl

-- the arrivals of placed files are new where none of them is in the set of those that are left
pub arrivals_fresh : (set : BTreeSet ℕ) (gone : List ℕ) (placed files : List ActiveFile) → AreArrivalsOf set (left_after gone files)
    → are_fresh (contains nat_cmp set) (map (λ a. a.file.arrival) placed) ≡ new_in (λ f. f.arrival) placed gone files
arrivals_fresh set gone placed files are =
    let arrivals = map (λ a. a.file.arrival) placed in
    fresh_is (contains nat_cmp set) arrivals
    ∙ ap (λ b. are_distinct_numbers arrivals && b)
    (all_same (λ n. not (contains nat_cmp set n)) (λ n. not (list_any (λ a. arrival_of a == n) (left_after gone files))) (λ n. ap not (are.members n)) arrivals
    ∙ sym (unused-files (λ f. f.arrival) arrivals (left_after gone files)))

any_moved : (l a r : Bool) → ((a || l) || r) ≡ (l || (a || r))
any_moved true true r = refl
any_moved true false r = refl
any_moved false true r = refl
any_moved false false r = refl

pub any-with_files : (n : ℕ) (placed files : List ActiveFile)
    → list_any (λ a. arrival_of a == n) (with_files placed files) ≡ (list_any (λ a. arrival_of a == n) files || list_any (λ m. m == n) (map (λ a. a.file.arrival) placed))
any-with_files n [] files = sym (or_false (list_any (λ a. arrival_of a == n) files))
  where
    or_false : (b : Bool) → (b || false) ≡ b
    or_false true = refl
    or_false false = refl
any-with_files n (a ∷ placed) files =
    any-with_files n placed (with_item active_number a files)
    ∙ ap (λ b. b || list_any (λ m. m == n) (map (λ a. a.file.arrival) placed)) (any-with active_number (λ b. arrival_of b == n) a files)
    ∙ any_moved (list_any (λ a. arrival_of a == n) files) (arrival_of a == n) (list_any (λ m. m == n) (map (λ a. a.file.arrival) placed))
