-- What a store's files stand for, by what was read of them, and what stays of it while they are made whole again.
use Rattle.std.proofs.Common.{◌≡◌, ◌≢◌, ℕ, ◌+◌, ◌≤◌, ◌==◌, min, max, cond, Bool, true, false, List, [], ◌∷◌, length, take, drop, get_or, refl, sym, ap, subst, ◌∙◌, eq-eqb, arith}
use Rattle.std.specs.Prelude.{Option, Some, None, Result, Ok, Err, All, fold, bytes_eq, not, ◌&&◌, ◌||◌}
use Rattle.std.proofs.lemmas.Bool.{and_parts, eqb-true}
use Rattle.std.proofs.lemmas.List.{take-take, drop-take}
use Rattle.std.proofs.lemmas.List.Elements.{All-nil, All-cons, All-weaker}
use Rattle.std.specs.Cmp.Lexicographic.{pointwise, nat_list_eq_equiv}
use Rattle.disk_trait.specs.Files.{Files, Shortened, named}
use Rattle.disk_trait.specs.Images.{Since, Stays, IsOnly}
use Rattle.disk_trait.specs.declared.damage.Damage.{Damage}
use Rattle.disk_trait.specs.declared.file_name.FileKind.TheVariants.{Log, Snapshot, Claim, Events}
use Rattle.disk_trait.specs.declared.file_name.FileName.{FileName}
use Rattle.disk_trait.proofs.Moments.{wider, only_read}
use Rattle.flowfile_record.specs.Stored.{Kept}
use Rattle.flowfile_record.specs.declared.content.ContentRef.{ContentRef}
use Rattle.flowfile_record.specs.declared.event.Event.{Event}
use Rattle.checkpoint_store.specs.Snapshot.{snapshot_file}
use Rattle.content_repo.specs.Claims.{claim, content_in, OnClaims, ShortenedTo}
use Rattle.content_repo.specs.Slots.{end_of, covered}
use Rattle.record_codec.specs.Frames.{counts}
use Rattle.flowfile_wal.specs.Current.{CurrentLog, log_in, of_some, log_of_number, current_log, current_number}
use Rattle.flowfile_wal.specs.Steps.{LogState, IsReadyIn, EndsClosed}
use Rattle.flowfile_wal.proofs.Files.{same_number}
use Rattle.kept_state.specs.Applied.{batches_that_matter}
use Rattle.machine_model.specs.State.{State}
use Rattle.store_core.specs.Agreement.{Needs, IsPlain, Agrees, SameContent, SameEventFiles, IsNeeded}
use Rattle.store_core.specs.Flow.{Flow, flow_in, agrees_with}
use Rattle.store_core.specs.Kept.{kept_in, with_least, least_of, unless_swapped, with_entries, behind_snapshot}
use Rattle.store_core.specs.Opened.{SameMeaning}
use Rattle.prov_store.specs.Events.{events_file, events_in}
use Rattle.store_core.specs.State.{contents_damage, live_contents, state_by, state_of, state_with, behind_kept, stands_for}
use Rattle.store_core.proofs.Agreeing.{stands_by_kept, state_of_sound, agreeing_kept, agreeing_state, kept_by_log}
use Rattle.store_core.proofs.Reviving.{plain_agrees}

abbrev of_damage : Damage → Result State Damage
of_damage damage = Err damage

-- ---- what was read

pub kept_damaged : (flow : Flow) (lot : ℕ) (files : Files) (damage : Damage) → kept_in flow lot files ≡ Err damage → stands_for flow lot files ≡ of_damage damage
unfolding stands_for
kept_damaged flow lot files damage is = ap (behind_kept files) is

pub contents_damaged : (flow : Flow) (lot : ℕ) (files : Files) (k : Kept) (damage : Damage) → kept_in flow lot files ≡ Ok k
    → contents_damage files (live_contents k) ≡ Some damage → stands_for flow lot files ≡ of_damage damage
unfolding state_of
contents_damaged flow lot files k damage is found =
    stands_by_kept flow lot files k is ∙ ap (λ (d : Option Damage). state_by files k d (events_in files 0 k.last_event)) found

pub events_damaged : (flow : Flow) (lot : ℕ) (files : Files) (k : Kept) (damage : Damage) → kept_in flow lot files ≡ Ok k
    → contents_damage files (live_contents k) ≡ None → events_in files 0 k.last_event ≡ Err damage → stands_for flow lot files ≡ of_damage damage
unfolding state_of
events_damaged flow lot files k damage is contents events =
    stands_by_kept flow lot files k is
    ∙ ap (λ (d : Option Damage). state_by files k d (events_in files 0 k.last_event)) contents
    ∙ ap (state_by files k None) events

pub stands_whole : (flow : Flow) (lot : ℕ) (files : Files) (k : Kept) (events : List Event) → kept_in flow lot files ≡ Ok k
    → contents_damage files (live_contents k) ≡ None → events_in files 0 k.last_event ≡ Ok events → stands_for flow lot files ≡ Ok (state_with (content_in files) events k)
stands_whole flow lot files k events is contents says = stands_by_kept flow lot files k is ∙ state_of_sound files k events contents says

same_bytes : (xs ys : List ℕ) → bytes_eq xs ys ≡ true → xs ≡ ys
same_bytes [] [] is = refl
same_bytes (x ∷ xs) [] is = absurd cc
same_bytes [] (y ∷ ys) is = absurd cc
same_bytes (x ∷ xs) (y ∷ ys) is =
    let parts = and_parts (x == y) (bytes_eq xs ys) is in
    let head = eqb-true x y parts.0 in
    let tail = same_bytes xs ys parts.1 in cc

same_texts : (xs ys : List (List ℕ)) → pointwise bytes_eq xs ys ≡ true → xs ≡ ys
same_texts [] [] is = refl
same_texts (x ∷ xs) [] is = absurd cc
same_texts [] (y ∷ ys) is = absurd cc
same_texts (x ∷ xs) (y ∷ ys) is =
    let parts = and_parts (bytes_eq x y) (pointwise bytes_eq xs ys) is in
    let head = same_bytes x y parts.0 in
    let tail = same_texts xs ys parts.1 in cc

by_digest : (p q : Bool) → p ≡ true → (not p || q) ≡ true → q ≡ true
by_digest true q is h = h
by_digest false q is h = absurd cc

-- what agrees with a flow and has its digest is of this flow
pub of_this_flow : (flow : Flow) (k : Kept) → agrees_with flow k ≡ true → k.flow ≡ flow.digest → flow_in k ≡ flow
of_this_flow flow k agrees same =
    let digest : bytes_eq k.flow flow.digest ≡ true = ap (λ (d : List ℕ). bytes_eq k.flow d) (sym same) ∙ nat_list_eq_equiv.refl k.flow in
    let parts = and_parts (pointwise bytes_eq k.connections flow.connections) (length k.counts == flow.processors) (by_digest (bytes_eq k.flow flow.digest) _ digest agrees) in
    let connections = same_texts k.connections flow.connections parts.0 in
    let count = eqb-true (length k.counts) flow.processors parts.1 in
    λ i. record { digest = same i; connections = connections i; processors = count i }

-- and what is of a flow agrees with it
pub agrees_as : (flow : Flow) (k other : Kept) → flow_in other ≡ flow_in k → agrees_with flow k ≡ true → agrees_with flow other ≡ true
agrees_as flow k other same agrees =
    ap (λ (f : Flow). not (bytes_eq f.digest flow.digest) || (pointwise bytes_eq f.connections flow.connections && (f.processors == flow.processors))) same ∙ agrees

-- ---- reading alone

pub means_itself : (flow : Flow) (lot : ℕ) (held c : Files) → c ≡ held → SameMeaning flow lot held c
means_itself flow lot held c same = record { kept = ap (kept_in flow lot) same; state = ap (stands_for flow lot) same }

module _ {D : Type 0} (holds : D → Files) (moment : D → ℕ) (images : D → ℕ → Files → Type 0) (flow : Flow) (lot : ℕ) where
  pub since_read : (old new : D) → IsOnly (holds old) (images old (moment old)) → Stays holds moment images old new → Since moment images old new (SameMeaning flow lot (holds old))
  since_read old new only stays =
      wider moment images old new (images old (moment old)) (SameMeaning flow lot (holds old)) (only_read moment images holds old new stays)
      (λ c left. means_itself flow lot (holds old) c (only c left))

-- ---- batches

none_least : (first : Option ℕ) (xs : List ℕ) → fold with_least first xs ≡ None → (first ≡ None) × (xs ≡ [])
none_least first [] is = (is, refl)
none_least None (x ∷ xs) is = let rest = none_least (Some x) xs is in absurd cc
none_least (Some n) (x ∷ xs) is = let rest = none_least (Some (min n x)) xs is in absurd cc

pub no_least : (xs : List ℕ) → least_of xs ≡ None → xs ≡ []
no_least xs is = (none_least None xs is).1

abbrev of_kept : Kept → Result Kept Damage
of_kept k = Ok k

unswapped : (log : CurrentLog) (k whole : Kept) (least : Option ℕ) → with_entries log k (unless_swapped least) ≡ of_kept whole → least ≡ None
unswapped log k whole None is = refl
unswapped log k whole (Some batch) is = absurd cc

-- no batch matters where something is kept
pub none_matters : (files : Files) (log : CurrentLog) (k whole : Kept) → behind_snapshot files log (Ok k) ≡ of_kept whole → batches_that_matter k log.entries ≡ []
none_matters files log k whole is = no_least (batches_that_matter k log.entries) (unswapped log k whole (least_of (batches_that_matter k log.entries)) is)

-- ---- what stays

-- what a state without batches needs of its files
abbrev pub plain_needs : ℕ → Kept → Needs
plain_needs number k = record { log = number; batches = []; contents = live_contents k; last_event = k.last_event }

pub plain : (number : ℕ) (k : Kept) → IsPlain (plain_needs number k) number
plain number k = record { log = refl; batches = refl }

kept_alone : (flow : Flow) (lot : ℕ) (files : Files) (k other : Kept) → kept_in flow lot files ≡ Ok k → kept_in flow lot files ≡ Ok other → other ≡ k
kept_alone flow lot files k other is also = let both : of_kept other ≡ of_kept k = sym also ∙ is in cc

pub needed : (flow : Flow) (lot : ℕ) (files : Files) (log : CurrentLog) (k : Kept) → current_log files ≡ Ok (Some log) → kept_in flow lot files ≡ Ok k → IsNeeded flow lot files (plain_needs log.number k)
needed flow lot files log k current is = record {
  log = log;
  current = current;
  number = refl;
  batches = λ read says. sym (none_matters files log read k (ap (behind_snapshot files log) (sym says) ∙ sym (kept_by_log flow lot files log current) ∙ is));
  contents = λ other also. ap live_contents (sym (kept_alone flow lot files k other is also));
  last_event = λ other also. ap (λ (x : Kept). x.last_event) (sym (kept_alone flow lot files k other is also));
}

-- files that agree with those that were read keep and stand for the same
pub agreeing_means : (flow : Flow) (lot : ℕ) (old new : Files) (needs : Needs) (s : State) → IsNeeded flow lot old needs → stands_for flow lot old ≡ Ok s → Agrees needs old new → SameMeaning flow lot old new
agreeing_means flow lot old new needs s need stood agrees = record {
  kept = agreeing_kept flow lot needs old new need agrees;
  state = agreeing_state flow lot needs old new s need agrees stood ∙ sym stood;
}

-- ---- claims that are cut to what is covered

covered_more : (b : Bool) (n m : ℕ) → m ≤ cond b (max n m) m
covered_more true n m = omega arith
covered_more false n m = omega arith

pub covered_end : (refs : List ContentRef) (k : ℕ) → All (λ at. at.slot ≡ k → end_of at ≤ covered k refs) refs
covered_end [] k = All-nil (λ at. at.slot ≡ k → end_of at ≤ 0)
covered_end (at ∷ refs) k =
    All-cons (λ other. other.slot ≡ k → end_of other ≤ covered k (at ∷ refs)) at refs
    (λ (same : at.slot ≡ k). subst (λ (b : Bool). end_of at ≤ cond b (max (end_of at) (covered k refs)) (covered k refs)) (sym (eq-eqb at.slot k same)) (omega arith))
    (All-weaker (λ other. other.slot ≡ k → end_of other ≤ covered k refs) (λ other. other.slot ≡ k → end_of other ≤ covered k (at ∷ refs))
    (λ other h same. omega (arith, h same, covered_more (at.slot == k) (end_of at) (covered k refs))) refs (covered_end refs k))

same_front : (z offset size : ℕ) (a b : List ℕ) → offset + size ≤ z → take z a ≡ take z b → take size (drop offset a) ≡ take size (drop offset b)
same_front z offset size a b within same =
    sym (drop-take offset size a)
    ∙ ap (drop offset) (sym (take-take (offset + size) z a within) ∙ ap (take (offset + size)) same ∙ take-take (offset + size) z b within)
    ∙ drop-take offset size b

pub cut_content : (end : ℕ) (at : ContentRef) (old new : Files) → end_of at ≤ end → Shortened end (old (claim at.slot)) (new (claim at.slot)) → SameContent old new at
cut_content end at old new within step = record {
  bytes = same_front end at.offset at.size (new (claim at.slot)) (old (claim at.slot)) within step.front;
  covered = λ h. omega (arith, h, within, step.no_shorter);
}

pub cut_contents : (refs : List ContentRef) (old new : Files) → ShortenedTo (λ k. covered k refs) old new → All (SameContent old new) refs
cut_contents refs old new step = λ i d lt.
    let at = get_or refs i d in
    cut_content (covered at.slot refs) at old new (covered_end refs at.slot i d lt refl) (step.claims at.slot)

-- logs that stay have the same current one
by_number : (old new : Files) → ((m : ℕ) → new (named Log m) ≡ old (named Log m)) → (n : Option ℕ) → log_of_number new n ≡ log_of_number old n
by_number old new same None = refl
by_number old new same (Some m) = ap (λ (bytes : List ℕ). of_some (log_in m bytes)) (same m)

pub logs_stay : (old new : Files) → ((m : ℕ) → new (named Log m) ≡ old (named Log m)) → current_log new ≡ current_log old
unfolding current_log
logs_stay old new same =
    ap (log_of_number new) (same_number old new (λ m. ap counts (same m))) ∙ by_number old new same (current_number old)

log_apart : (n : ℕ) (f : FileName) → f ≡ named Log n → f.kind ≢ Claim
log_apart n f is kind = let kinds : Log ≡ Claim = sym (ap (λ (g : FileName). g.kind) is) ∙ kind in absurd cc

snapshot_apart : (n : ℕ) (f : FileName) → f ≡ snapshot_file n → f.kind ≢ Claim
snapshot_apart n f is kind = let kinds : Snapshot ≡ Claim = sym (ap (λ (g : FileName). g.kind) is) ∙ kind in absurd cc

pub claims_log : (old new : Files) (step : ℕ → List ℕ → List ℕ → Type 0) → OnClaims step old new → current_log new ≡ current_log old
claims_log old new step on = logs_stay old new (λ m. on.others (named Log m) (log_apart m (named Log m) refl))

pub same_events_cut : (step : ℕ → List ℕ → List ℕ → Type 0) (old new : Files) → OnClaims step old new → SameEventFiles old new
same_events_cut step old new on k = on.others (events_file k) (λ (kinds : Events ≡ Claim). absurd cc)

-- claims that are cut to what the live contents cover
pub cut_agrees : (needs : Needs) (number : ℕ) (refs : List ContentRef) (old new : Files) → IsPlain needs number → needs.contents ≡ refs → ShortenedTo (λ k. covered k refs) old new → Agrees needs old new
cut_agrees needs number refs old new plain contents step =
    plain_agrees needs number old new plain (claims_log old new (λ k. Shortened (covered k refs)) step)
    (step.others (snapshot_file number) (snapshot_apart number (snapshot_file number) refl))
    (subst (λ (cs : List ContentRef). All (SameContent old new) cs) (sym contents) (cut_contents refs old new step))
    (same_events_cut (λ k. Shortened (covered k refs)) old new step)

pub claims_ready : (state : LogState) (old new : Files) (step : ℕ → List ℕ → List ℕ → Type 0) → IsReadyIn state old → OnClaims step old new → IsReadyIn state new
claims_ready state old new step ready on = record {
  log = ready.log;
  number = ready.number;
  version = ready.version;
  end = ready.end;
  ready = record {
    current = claims_log old new step on ∙ ready.ready.current;
    closed = subst (λ (bytes : List ℕ). EndsClosed ready.log.end bytes) (sym (on.others (named Log ready.log.number) (log_apart ready.log.number (named Log ready.log.number) refl))) ready.ready.closed;
  };
}
