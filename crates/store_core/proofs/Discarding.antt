-- Files that don't matter go: what stays of a log that is passed over, of the current log, and of a store that isn't made.
use Rattle.std.proofs.Common.{◌≡◌, ℕ, ◌≤◌, ◌==◌, Bool, true, false, List, [], ◌∷◌, length, take, get_or, refl, sym, ap, subst, ◌∙◌, eq-eqb, arith}
use Rattle.std.specs.Prelude.{Option, Some, None, nat_lt, nat_le, ◌&&◌}
use Rattle.std.proofs.lemmas.Bool.{false≢true, le-leb, lt-ltb, ltb-true, leb-true, eqb-true, false_from_ne_true}
use Rattle.std.proofs.lemmas.List.{nil_from_length}
use Rattle.disk_trait.specs.Files.{Files, Shortened, named}
use Rattle.disk_trait.specs.Images.{After, Since}
use Rattle.disk_trait.specs.declared.file_name.FileKind.TheVariants.{Log, Snapshot, Swap}
use Rattle.disk_trait.proofs.Moments.{wider, step_after_step}
use Rattle.record_codec.specs.declared.log.TheConstants.{OPEN_GATE}
use Rattle.record_codec.specs.Frames.{counts}
use Rattle.store_core.specs.declared.discard.Spared.TheVariants.{UpTo, Only}
use Rattle.store_core.specs.Discard.{spares, CutsKind, HasCut, HasNoOthers, IsAbove, Discards}
use Rattle.store_core.proofs.Cutting.{shortened_same, shortened_in_turn, shortened_to_none}

-- ---- logs that are passed over

first_byte : (a b : List ℕ) → take 1 b ≡ take 1 a → get_or b 0 0 ≡ get_or a 0 0
first_byte [] [] same = refl
first_byte (x ∷ a) [] same = let ends : ◌≡◌ {A = List ℕ} [] (x ∷ []) = same in absurd cc
first_byte [] (y ∷ b) same = let ends : ◌≡◌ {A = List ℕ} (y ∷ []) [] = same in absurd cc
first_byte (x ∷ a) (y ∷ b) same = let heads : ◌≡◌ {A = List ℕ} (y ∷ []) (x ∷ []) = same in cc

by_parts : (p q : Bool) → (p ≡ true → q ≡ true → ⊥) → (p && q) ≡ false
by_parts true true h = absurd (h refl refl)
by_parts true false h = refl
by_parts false q h = refl

pub passed_shortened : (a b : List ℕ) → Shortened 1 a b → counts a ≡ false → counts b ≡ false
passed_shortened a b step passed =
    by_parts (get_or b 0 0 == OPEN_GATE) (nat_lt 1 (length b))
    (λ (opened : (get_or b 0 0 == OPEN_GATE) ≡ true) (long : nat_lt 1 (length b) ≡ true).
    let was : (get_or a 0 0 == OPEN_GATE) ≡ true = subst (λ (x : ℕ). (x == OPEN_GATE) ≡ true) (first_byte a b step.front) opened in
    let longer : nat_lt 1 (length a) ≡ true = lt-ltb 1 (length a) (omega (arith, ltb-true 1 (length b) long, step.no_longer)) in
    false≢true (sym passed ∙ both was longer))
  where
    both : {p q : Bool} → p ≡ true → q ≡ true → (p && q) ≡ true
    both {p} {q} is also = ap (λ (x : Bool). x && q) is ∙ also

pub passed_short : (bytes : List ℕ) → length bytes ≤ 1 → counts bytes ≡ false
passed_short bytes short =
    by_parts (get_or bytes 0 0 == OPEN_GATE) (nat_lt 1 (length bytes))
    (λ (opened : (get_or bytes 0 0 == OPEN_GATE) ≡ true) (long : nat_lt 1 (length bytes) ≡ true). omega (arith, ltb-true 1 (length bytes) long, short))

-- ---- steps

spared_log : (current : Option ℕ) (n : ℕ) → current ≡ Some n → (spares (UpTo current) n ≡ true) × (spares (Only current) n ≡ true)
spared_log None n is = absurd cc
spared_log (Some m) n is =
    let same : m ≡ n = cc in
    (le-leb n m (omega (arith, same)), subst (λ (k : ℕ). (m == k) ≡ true) same (eq_itself m))
  where
    eq_itself : (k : ℕ) → (k == k) ≡ true
    eq_itself k = eq-eqb k k refl

-- a log above the current one isn't spared
pub unspared_above : (current : Option ℕ) (n : ℕ) → IsAbove current n → spares (UpTo current) n ≡ false
unspared_above None n above = refl
unspared_above (Some m) n above = false_from_ne_true (nat_le n m) (λ (is : nat_le n m ≡ true). omega (arith, leb-true n m is, above))

-- nor is one of another number
pub unspared_other : (current : Option ℕ) (n : ℕ) → (current ≡ Some n → ⊥) → spares (Only current) n ≡ false
unspared_other None n other = refl
unspared_other (Some m) n other = false_from_ne_true (m == n) (λ (is : (m == n) ≡ true). other (ap Some (eqb-true m n is)))

pub discards_nothing : (current : Option ℕ) (files : Files) → Discards current files files
discards_nothing current files = record {
  claims = λ f is. refl;
  events = λ f is. refl;
  log = λ n is. refl;
  snapshot = λ n is. refl;
  shorter = λ f. shortened_same 0 (files f);
  passed = λ n above passed. passed;
}

pub discards_in_turn : (current : Option ℕ) (a b c : Files) → Discards current a b → Discards current b c → Discards current a c
discards_in_turn current a b c first second = record {
  claims = λ f is. second.claims f is ∙ first.claims f is;
  events = λ f is. second.events f is ∙ first.events f is;
  log = λ n is. second.log n is ∙ first.log n is;
  snapshot = λ n is. second.snapshot n is ∙ first.snapshot n is;
  shorter = λ f. shortened_in_turn 0 (a f) (b f) (c f) (first.shorter f) (second.shorter f);
  passed = λ n above passed. second.passed n above (first.passed n above passed);
}

-- logs that are cut to a byte
pub shortens : (current : Option ℕ) (old new : Files) → CutsKind Log (spares (UpTo current)) 1 old new → Discards current old new
shortens current old new cut = record {
  claims = λ f is. cut.others f (λ (e : f.kind ≡ Log). absurd cc);
  events = λ f is. cut.others f (λ (e : f.kind ≡ Log). absurd cc);
  log = λ n is. cut.stay n (spared_log current n is).0;
  snapshot = λ n is. cut.others (named Snapshot n) (λ (e : Snapshot ≡ Log). absurd cc);
  shorter = λ f. shortened_to_none 1 (old f) (new f) (cut.each f);
  passed = λ n above passed. passed_shortened (old (named Log n)) (new (named Log n)) (cut.each (named Log n)) passed;
}

-- logs that are emptied, where each above the current one has at most a byte
pub empties_logs : (current : Option ℕ) (old new : Files) → ((n : ℕ) → IsAbove current n → length (old (named Log n)) ≤ 1) → CutsKind Log (spares (Only current)) 0 old new → Discards current old new
empties_logs current old new short cut = record {
  claims = λ f is. cut.others f (λ (e : f.kind ≡ Log). absurd cc);
  events = λ f is. cut.others f (λ (e : f.kind ≡ Log). absurd cc);
  log = λ n is. cut.stay n (spared_log current n is).1;
  snapshot = λ n is. cut.others (named Snapshot n) (λ (e : Snapshot ≡ Log). absurd cc);
  shorter = cut.each;
  passed = λ n above passed. passed_short (new (named Log n)) (omega (arith, short n above, (cut.each (named Log n)).no_longer));
}

-- snapshots that are emptied
pub empties_snapshots : (current : Option ℕ) (old new : Files) → CutsKind Snapshot (spares (Only current)) 0 old new → Discards current old new
empties_snapshots current old new cut = record {
  claims = λ f is. cut.others f (λ (e : f.kind ≡ Snapshot). absurd cc);
  events = λ f is. cut.others f (λ (e : f.kind ≡ Snapshot). absurd cc);
  log = λ n is. cut.others (named Log n) (λ (e : Log ≡ Snapshot). absurd cc);
  snapshot = λ n is. cut.stay n (spared_log current n is).1;
  shorter = cut.each;
  passed = λ n above passed. ap counts (cut.others (named Log n) (λ (e : Log ≡ Snapshot). absurd cc)) ∙ passed;
}

-- files of batches that are emptied
pub empties_batches : (current : Option ℕ) (old new : Files) → CutsKind Swap (spares (Only None)) 0 old new → Discards current old new
empties_batches current old new cut = record {
  claims = λ f is. cut.others f (λ (e : f.kind ≡ Swap). absurd cc);
  events = λ f is. cut.others f (λ (e : f.kind ≡ Swap). absurd cc);
  log = λ n is. cut.others (named Log n) (λ (e : Log ≡ Swap). absurd cc);
  snapshot = λ n is. cut.others (named Snapshot n) (λ (e : Snapshot ≡ Swap). absurd cc);
  shorter = cut.each;
  passed = λ n above passed. ap counts (cut.others (named Log n) (λ (e : Log ≡ Swap). absurd cc)) ∙ passed;
}

-- ---- what is left

emptied : (bytes : List ℕ) → length bytes ≤ 0 → bytes ≡ []
emptied bytes short = nil_from_length bytes (omega (arith, short))

-- once each kind is cut, one after another
pub no_others : (current : Option ℕ) (a b c d : Files) → HasCut Log (spares (Only current)) 0 a b → HasCut Snapshot (spares (Only current)) 0 b c → HasCut Swap (spares (Only None)) 0 c d
    → HasNoOthers current d
no_others current a b c d logs snapshots batches = record {
  logs = λ n other.
      batches.step.others (named Log n) (λ (e : Log ≡ Swap). absurd cc)
      ∙ snapshots.step.others (named Log n) (λ (e : Log ≡ Snapshot). absurd cc)
      ∙ emptied (b (named Log n)) (logs.short n (unspared_other current n other));
  snapshots = λ n other.
      batches.step.others (named Snapshot n) (λ (e : Snapshot ≡ Swap). absurd cc)
      ∙ emptied (c (named Snapshot n)) (snapshots.short n (unspared_other current n other));
  batches = λ n. emptied (d (named Swap n)) (batches.short n refl);
}

module _ {D : Type 0} (moment : D → ℕ) (images : D → ℕ → Files → Type 0) (current : Option ℕ) where
  abbrev pub Discarding : D → Files → Type 0
  Discarding disk = After (Discards current) (images disk (moment disk))

  pub since_discarded : (old mid new : D) → Since moment images old mid (Discarding old) → Since moment images mid new (Discarding mid) → Since moment images old new (Discarding old)
  since_discarded old mid new first second =
      step_after_step moment images old mid new (Discards current) (Discards current) (Discards current) (images old (moment old)) first second
      (λ d c r. r) (λ d e c r s. discards_in_turn current d e c r s)

  pub since_step : (old new : D) (step : Files → Files → Type 0) → Since moment images old new (After step (images old (moment old)))
      → ((d c : Files) → images old (moment old) d → step d c → Discards current d c) → Since moment images old new (Discarding old)
  since_step old new step since is = wider moment images old new (After step (images old (moment old))) (Discarding old) since (λ c after. (after.0, after.1, is after.0 c after.1 after.2))

  -- one kind after another
  pub after_snapshots : (old mid new : D) → Since moment images old mid (Discarding old)
      → Since moment images mid new (After (CutsKind Snapshot (spares (Only current)) 0) (images mid (moment mid))) → Since moment images old new (Discarding old)
  after_snapshots old mid new first second =
      since_discarded old mid new first (since_step mid new (CutsKind Snapshot (spares (Only current)) 0) second (λ d c left step. empties_snapshots current d c step))

  pub after_batches : (old mid new : D) → Since moment images old mid (Discarding old)
      → Since moment images mid new (After (CutsKind Swap (spares (Only None)) 0) (images mid (moment mid))) → Since moment images old new (Discarding old)
  after_batches old mid new first second =
      since_discarded old mid new first (since_step mid new (CutsKind Swap (spares (Only None)) 0) second (λ d c left step. empties_batches current d c step))
