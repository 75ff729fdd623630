use Rattle.std.proofs.Common.{◌≡◌, ℕ, ◌+◌, ◌==◌, ◌&&◌, ◌||◌, not, Bool, true, false, List, length, map, MatchOption, Option, Some, is_some, sym, ap, ◌∙◌, subst}
use Rattle.std.specs.Prelude.{is_none}
use Rattle.std.specs.List.{list_any, sum}
use Rattle.std.specs.Option.{option_or}
use Rattle.std.specs.Ordering.{nat_cmp}
use Rattle.std.specs.BTreeSet.{BTreeSet, contains}
use Rattle.flowfile_record.specs.Stored.{Kept}
use Rattle.flowfile_record.specs.declared.flow_file.FlowFile.{FlowFile}
use Rattle.flowfile_record.specs.declared.limits.TheConstants.{LIVE_FILES_MAX, LIVE_BYTES_MAX}
use Rattle.flowfile_record.specs.declared.stored.ActiveFile.{ActiveFile}
use Rattle.checkpoint_store.specs.Consistent.{record_size}
use Rattle.kept_state.specs.Applied.{left_after, session_applied}
use Rattle.kept_state.specs.Arrivals.{are_fresh, IsSetOf}
use Rattle.kept_state.specs.Fits.{are_distinct_numbers, are_active_in_one}
use Rattle.kept_state.specs.Limits.{limit_passed, live_limit}
use Rattle.kept_state.specs.declared.limit.Which.TheVariants as which
use Rattle.kept_state.proofs.Going.{active_from_one, live_limit-session}
use Rattle.kept_state.proofs.Testing.{new_in, suits_counters, fits_in_turn, third_false, fourth_false, fifth_false, all_true, arrivals_fresh, any-with_files}
use Rattle.kept_state.proofs.replay.session_fits.Goals as goal

-- what was read of the state and of the entry is what the entry says there
read_so : (part : FlowFile → ℕ) (placed s_placed : List ActiveFile) (gone s_gone : List ℕ) (files k_files : List ActiveFile) → placed ≡ s_placed → gone ≡ s_gone → files ≡ k_files
    → new_in part placed gone files ≡ new_in part s_placed s_gone k_files
read_so part placed s_placed gone s_gone files k_files p g f =
    ap (λ (x : List ActiveFile). new_in part x gone files) p ∙ ap (λ (x : List ℕ). new_in part s_placed x files) g ∙ ap (new_in part s_placed s_gone) f

-- the numbers of the files that go are distinct, and the set has them
set_made : (o : Option (BTreeSet ℕ)) (set : BTreeSet ℕ) (ns : List ℕ) → o ≡ Some set → MatchOption o (are_distinct_numbers ns ≡ false) (λ s. (are_distinct_numbers ns ≡ true) × IsSetOf s ns) → (are_distinct_numbers ns ≡ true) × IsSetOf set ns
set_made o set ns is made = subst (λ (p : Option (BTreeSet ℕ)). MatchOption p (are_distinct_numbers ns ≡ false) (λ s. (are_distinct_numbers ns ≡ true) × IsSetOf s ns)) is made

flipped : (r b : Bool) → b ≡ not r → r ≡ not b
flipped true b is = sym (ap not is)
flipped false b is = sym (ap not is)

pub returns-then-not-branch-clause-fits : goal.returns-then-not-branch-clause-fits
returns-then-not-branch-clause-fits c =
    let k = c.args.state.now.kept in
    let s = c.args.session.now in
    let none = c.stored-stored.ensures.no_batches in
    let files_are = ap (λ (m : Kept). m.files) c.stored-stored.ensures.kept in
    let made = set_made c.in_ok-gone_set.field-0 c.in-Some.gone_set c.as_slice-gone.result.now c.in-Some.is c.in_ok-gone_set.ensures in
    let numbers = c.in_ok-numbers_are_new.ensures c.as_slice-gone.result.now made.1
    ∙ read_so (λ f. f.number) c.as_slice-placed.result.now s.placed c.as_slice-gone.result.now s.gone c.stored-stored.result.now.files.items k.files c.as_slice-placed.ensures c.as_slice-gone.ensures files_are in
    let is_false = sym numbers ∙ c.if-not-branch.true in
    sym (fits_in_turn k s none ∙ ap (λ b. are_distinct_numbers s.gone && (are_active_in_one k.files s.gone && (b && (new_in (λ f. f.arrival) s.placed s.gone k.files && (suits_counters k s && is_none (live_limit (session_applied k s))))))) is_false
    ∙ third_false (are_distinct_numbers s.gone) (are_active_in_one k.files s.gone) (new_in (λ f. f.arrival) s.placed s.gone k.files && (suits_counters k s && is_none (live_limit (session_applied k s)))))

pub returns-then-not-branch-2-clause-fits : goal.returns-then-not-branch-2-clause-fits
returns-then-not-branch-2-clause-fits c =
    let k = c.args.state.now.kept in
    let s = c.args.session.now in
    let none = c.stored-stored.ensures.no_batches in
    let files_are = ap (λ (m : Kept). m.files) c.stored-stored.ensures.kept in
    let made = set_made c.in_ok-gone_set.field-0 c.in-Some.gone_set c.as_slice-gone.result.now c.in-Some.is c.in_ok-gone_set.ensures in
    let numbers = c.in_ok-numbers_are_new.ensures c.as_slice-gone.result.now made.1
    ∙ read_so (λ f. f.number) c.as_slice-placed.result.now s.placed c.as_slice-gone.result.now s.gone c.stored-stored.result.now.files.items k.files c.as_slice-placed.ensures c.as_slice-gone.ensures files_are in
    let fresh = c.in_ok-add_all.ensures.fresh
    ∙ ap (are_fresh (contains nat_cmp c.remove_arrivals.new.arrivals)) (c.as_slice.ensures.value ∙ c.in_ok-arrivals_in.ensures)
    ∙ arrivals_fresh c.remove_arrivals.new.arrivals c.as_slice-gone.result.now c.as_slice-placed.result.now c.stored-stored.result.now.files.items c.remove_arrivals.ensures
    ∙ read_so (λ f. f.arrival) c.as_slice-placed.result.now s.placed c.as_slice-gone.result.now s.gone c.stored-stored.result.now.files.items k.files c.as_slice-placed.ensures c.as_slice-gone.ensures files_are in
    let is_false = sym fresh ∙ c.if-not-branch-2.true in
    sym (fits_in_turn k s none ∙ ap (λ b. are_distinct_numbers s.gone && (are_active_in_one k.files s.gone && (new_in (λ f. f.number) s.placed s.gone k.files && (b && (suits_counters k s && is_none (live_limit (session_applied k s))))))) is_false
    ∙ fourth_false (are_distinct_numbers s.gone) (are_active_in_one k.files s.gone) (new_in (λ f. f.number) s.placed s.gone k.files) (suits_counters k s && is_none (live_limit (session_applied k s))))

pub returns-then-not-suits_counters-clause-fits : goal.returns-then-not-suits_counters-clause-fits
returns-then-not-suits_counters-clause-fits c =
    let k = c.args.state.now.kept in
    let s = c.args.session.now in
    let none = c.stored-stored.ensures.no_batches in
    let files_are = ap (λ (m : Kept). m.files) c.stored-stored.ensures.kept in
    let made = set_made c.in_ok-gone_set.field-0 c.in-Some.gone_set c.as_slice-gone.result.now c.in-Some.is c.in_ok-gone_set.ensures in
    let numbers = c.in_ok-numbers_are_new.ensures c.as_slice-gone.result.now made.1
    ∙ read_so (λ f. f.number) c.as_slice-placed.result.now s.placed c.as_slice-gone.result.now s.gone c.stored-stored.result.now.files.items k.files c.as_slice-placed.ensures c.as_slice-gone.ensures files_are in
    let counters = ap (λ (m : Kept). suits_counters m s) c.stored-stored.ensures.kept in
    let is_false = sym counters ∙ sym c.suits_counters.ensures ∙ c.if-not-suits_counters.true in
    sym (fits_in_turn k s none ∙ ap (λ b. are_distinct_numbers s.gone && (are_active_in_one k.files s.gone && (new_in (λ f. f.number) s.placed s.gone k.files && (new_in (λ f. f.arrival) s.placed s.gone k.files && (b && is_none (live_limit (session_applied k s))))))) is_false
    ∙ fifth_false (are_distinct_numbers s.gone) (are_active_in_one k.files s.gone) (new_in (λ f. f.number) s.placed s.gone k.files) (new_in (λ f. f.arrival) s.placed s.gone k.files) (is_none (live_limit (session_applied k s))))

pub limit_with-limit-requires-clause-active : goal.limit_with-limit-requires-clause-active
limit_with-limit-requires-clause-active c =
    let k = c.args.state.now.kept in
    let files_are = ap (λ (m : Kept). m.files) c.stored-stored.ensures.kept in
    let active = sym c.are_active_in_one.ensures ∙ c.if-not-are_active_in_one.false in
    active_from_one k.files c.as_slice-gone.result.now (ap (λ (f : List ActiveFile). are_active_in_one f c.as_slice-gone.result.now) (sym files_are) ∙ active)

pub returns-clause-fits : goal.returns-clause-fits
returns-clause-fits c =
    let k = c.args.state.now.kept in
    let s = c.args.session.now in
    let none = c.stored-stored.ensures.no_batches in
    let files_are = ap (λ (m : Kept). m.files) c.stored-stored.ensures.kept in
    let made = set_made c.in_ok-gone_set.field-0 c.in-Some.gone_set c.as_slice-gone.result.now c.in-Some.is c.in_ok-gone_set.ensures in
    let numbers = c.in_ok-numbers_are_new.ensures c.as_slice-gone.result.now made.1
    ∙ read_so (λ f. f.number) c.as_slice-placed.result.now s.placed c.as_slice-gone.result.now s.gone c.stored-stored.result.now.files.items k.files c.as_slice-placed.ensures c.as_slice-gone.ensures files_are in
    let fresh = c.in_ok-add_all.ensures.fresh
    ∙ ap (are_fresh (contains nat_cmp c.remove_arrivals.new.arrivals)) (c.as_slice.ensures.value ∙ c.in_ok-arrivals_in.ensures)
    ∙ arrivals_fresh c.remove_arrivals.new.arrivals c.as_slice-gone.result.now c.as_slice-placed.result.now c.stored-stored.result.now.files.items c.remove_arrivals.ensures
    ∙ read_so (λ f. f.arrival) c.as_slice-placed.result.now s.placed c.as_slice-gone.result.now s.gone c.stored-stored.result.now.files.items k.files c.as_slice-placed.ensures c.as_slice-gone.ensures files_are in
    let counters = ap (λ (m : Kept). suits_counters m s) c.stored-stored.ensures.kept in
    let active = ap (are_active_in_one k.files) (sym c.as_slice-gone.ensures) ∙ ap (λ (f : List ActiveFile). are_active_in_one f c.as_slice-gone.result.now) (sym files_are) ∙ sym c.are_active_in_one.ensures ∙ c.if-not-are_active_in_one.false in
    let whole = fits_in_turn k s none ∙ all_true (are_distinct_numbers s.gone) (are_active_in_one k.files s.gone) (new_in (λ f. f.number) s.placed s.gone k.files) (new_in (λ f. f.arrival) s.placed s.gone k.files) (suits_counters k s) (is_none (live_limit (session_applied k s)))
    (ap are_distinct_numbers (sym c.as_slice-gone.ensures) ∙ made.0) active (sym numbers ∙ c.if-not-branch.false) (sym fresh ∙ c.if-not-branch-2.false) (sym counters ∙ sym c.suits_counters.ensures ∙ c.if-not-suits_counters.false) in
    let at_limit : List ℕ → ℕ → ℕ → _ = λ gone placed bytes.
    option_or (limit_passed which.Files LIVE_FILES_MAX (length (left_after gone k.files) + placed)) (limit_passed which.FileBytes LIVE_BYTES_MAX (sum (map record_size (left_after gone k.files)) + bytes)) in
    let bytes : c.bytes_of.result ≡ sum (map record_size s.placed) = c.bytes_of.ensures.bytes ∙ ap (λ (l : List ActiveFile). sum (map record_size l)) c.as_slice-placed.ensures in
    let limit = c.limit_with-limit.ensures.limit ∙ ap (λ (g : List ℕ). at_limit g (length c.as_slice-placed.result.now) c.bytes_of.result) c.as_slice-gone.ensures
    ∙ ap (λ (l : List ActiveFile). at_limit s.gone (length l) c.bytes_of.result) c.as_slice-placed.ensures ∙ ap (at_limit s.gone (length s.placed)) bytes ∙ sym (live_limit-session k s none) in
    flipped c.is_none.result (is_some c.limit_with-limit.result) c.is_none.ensures ∙ ap is_none limit ∙ sym whole

pub returns-clause-arrivals : goal.returns-clause-arrivals
returns-clause-arrivals c = λ fit.
    let k = c.args.state.now.kept in
    let s = c.args.session.now in
    let files_are = ap (λ (m : Kept). m.files) c.stored-stored.ensures.kept in
    let arrivals = c.as_slice.ensures.value ∙ c.in_ok-arrivals_in.ensures ∙ ap (λ (l : List ActiveFile). map (λ a. a.file.arrival) l) c.as_slice-placed.ensures in
    let left = ap (λ (g : List ℕ). left_after g c.stored-stored.result.now.files.items) c.as_slice-gone.ensures ∙ ap (left_after s.gone) files_are in
    record {
      ordered = c.add_all.ensures.ordered;
      members = λ n.
          c.in_ok-add_all.ensures.added c.if-not-branch-2.false n
          ∙ ap (λ (ns : List ℕ). contains nat_cmp c.remove_arrivals.new.arrivals n || list_any (λ m. m == n) ns) arrivals
          ∙ ap (λ b. b || list_any (λ m. m == n) (map (λ a. a.file.arrival) s.placed)) (c.remove_arrivals.ensures.members n)
          ∙ ap (λ (l : List ActiveFile). list_any (λ a. a.file.arrival == n) l || list_any (λ m. m == n) (map (λ a. a.file.arrival) s.placed)) left
          ∙ sym (any-with_files n s.placed (left_after s.gone k.files));
    }
