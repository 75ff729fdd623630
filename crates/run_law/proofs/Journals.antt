-- How a journal grows by one step, and what the disk's images stand for meanwhile.
use Rattle.std.proofs.Common.{◌≡◌, ◌⊎◌, inl, inr, ⊎_elim, ℕ, ◌+◌, ◌<◌, ◌≤◌, Bool, true, false, cond, List, [], ◌∷◌, ◌++◌, length, refl, sym, ◌∙◌, ap, subst, arith, append_assoc, length-append}
use Rattle.std.proofs.lemmas.List.{append-nil, map-append}
use Rattle.std.proofs.lemmas.Bool.{cases_lt}
use Rattle.std.proofs.lemmas.List.Sums.{sum_by-cons}
use Rattle.std.proofs.lemmas.Bool.Decides.{nat_tests}
use Rattle.std.specs.Prelude.{Option, None, Some, IsSome, MatchOption, option_and_then}
use Rattle.std.specs.List.{AllByRecursion}
use Rattle.disk_trait.specs.Files.{Files}
use Rattle.disk_trait.specs.Images.{Since}
use Rattle.disk_trait.proofs.Moments.{one_part_after_another}
use Rattle.machine_model.specs.declared.flow.Flow.{Flow}
use Rattle.machine_model.specs.declared.journal.Entry.{Entry}
use Rattle.machine_model.specs.declared.journal.Step.{Step}
use Rattle.machine_model.specs.Acknowledged.{steps, acknowledged, is_acknowledged_by, IsInOrder}
use Rattle.machine_model.specs.Laws.{ReplayOfOneMore}
use Rattle.machine_model.specs.State.{Machine}
use Rattle.machine_model.specs.Stepping.{step, replay}
use Rattle.flowfile_wal.specs.Calls.{InEach}
use Rattle.run_law.specs.Going.{IsBetween}
use Rattle.run_law.specs.Journal.{AreAcknowledged, TakesFromInbox, WasGot}
use Rattle.run_law.specs.Run.{IsPrefix, Replays, StandsFor}

-- a journal and one entry more
pub replay_one_more : ReplayOfOneMore → (flow : Flow) (opened reached : Machine) (journal : List Entry) (entry : Entry) → replay flow opened (steps journal) ≡ Some reached
    → replay flow opened (steps (journal ++ entry ∷ [])) ≡ step flow reached entry.step
replay_one_more law flow opened reached journal entry is =
    ap (replay flow opened) (map-append (λ (e : Entry). e.step) journal (entry ∷ []))
    ∙ law flow opened (steps journal) entry.step
    ∙ ap (option_and_then (λ (after : Machine). step flow after entry.step)) is

abbrev count_of : Bool → ℕ
count_of b = cond b 1 0

count_bound : (b : Bool) → count_of b ≤ 1
count_bound true = omega arith
count_bound false = omega arith

-- an entry more at the front
acknowledged-cons : (entry : Entry) (journal : List Entry) (k : ℕ) → acknowledged (entry ∷ journal) k ≡ count_of (is_acknowledged_by k entry.acked) + acknowledged journal k
acknowledged-cons entry journal k = sum_by-cons (λ (e : Entry). count_of (is_acknowledged_by k e.acked)) entry journal

pub acknowledged-most : (journal : List Entry) (k : ℕ) → acknowledged journal k ≤ length journal
acknowledged-most [] k = omega arith
acknowledged-most (entry ∷ journal) k = omega (arith, acknowledged-cons entry journal k, count_bound (is_acknowledged_by k entry.acked), acknowledged-most journal k)

acknowledged-append : (journal : List Entry) (entry : Entry) (k : ℕ) → acknowledged (journal ++ entry ∷ []) k ≡ acknowledged journal k + count_of (is_acknowledged_by k entry.acked)
acknowledged-append [] entry k = omega (arith, acknowledged-cons entry [] k)
acknowledged-append (e ∷ journal) entry k =
    omega (arith, acknowledged-append journal entry k, acknowledged-cons e journal k, acknowledged-cons e (journal ++ entry ∷ []) k)

-- one entry alone
counts : (low high k : ℕ) (acked : Option ℕ) (rest : List Entry) → IsSome acked → MatchOption acked (AllByRecursion (λ later. later.acked ≡ None) rest) (λ moment. (low ≤ moment) × (moment ≤ high) × IsInOrder moment high rest)
    → high ≤ k → (is_acknowledged_by k acked ≡ true) × ((m : ℕ) × IsInOrder m high rest)
counts low high k None rest some order le = absurd (cc)
counts low high k (Some moment) rest some order le = (grind (arith, nat_tests, order.1), (moment, order.2))

pub acknowledged-all : (journal : List Entry) (low high k : ℕ) → AreAcknowledged journal → IsInOrder low high journal → high ≤ k → acknowledged journal k ≡ length journal
acknowledged-all [] low high k all order le = refl
acknowledged-all (entry ∷ journal) low high k all order le =
    let here = counts low high k entry.acked journal all.0 order le in
    let one = ap count_of here.0 in
    omega (arith, one, acknowledged-cons entry journal k, acknowledged-all journal here.1.0 high k all.1 here.1.1 le)

-- a journal whose last entry alone isn't acknowledged
pub acknowledged-open : (journal : List Entry) (s : Step) (low high k : ℕ) → AreAcknowledged journal → IsInOrder low high journal → high ≤ k
    → acknowledged (journal ++ record { step = s; acked = None } ∷ []) k + 1 ≡ length (journal ++ record { step = s; acked = None } ∷ [])
acknowledged-open journal s low high k all order le =
    let entry : Entry = record { step = s; acked = None } in
    omega (arith, acknowledged-append journal entry k, acknowledged-all journal low high k all order le, length-append journal (entry ∷ []))

orders : (low high later : ℕ) (acked : Option ℕ) (rest more : List Entry) → IsSome acked → high ≤ later → MatchOption acked (AllByRecursion (λ later. later.acked ≡ None) rest) (λ moment. (low ≤ moment) × (moment ≤ high) × IsInOrder moment high rest)
    → ((m : ℕ) → m ≤ high → IsInOrder m high rest → IsInOrder m later more)
    → MatchOption acked (AllByRecursion (λ later. later.acked ≡ None) more) (λ moment. (low ≤ moment) × (moment ≤ later) × IsInOrder moment later more)
orders low high later None rest more some le order to = absurd (cc)
orders low high later (Some moment) rest more some le order to = (order.0, omega (arith, order.1), to moment order.1 order.2)

-- one entry more, acknowledged now or not at all
in_order-append : (journal : List Entry) (entry : Entry) (low high later : ℕ) → low ≤ high → high ≤ later → AreAcknowledged journal → IsInOrder low high journal
    → ((m : ℕ) → m ≤ high → IsInOrder m later (entry ∷ [])) → IsInOrder low later (journal ++ entry ∷ [])
in_order-append [] entry low high later begun le all order last = last low begun
in_order-append (e ∷ journal) entry low high later begun le all order last =
    orders low high later e.acked journal (journal ++ entry ∷ []) all.0 le order (λ m up rest. in_order-append journal entry m high later up le all.1 rest last)

-- the same entries, at a later end
in_order-later : (journal : List Entry) (low high later : ℕ) → AreAcknowledged journal → IsInOrder low high journal → high ≤ later → IsInOrder low later journal
in_order-later [] low high later all order le = tt
in_order-later (e ∷ journal) low high later all order le = orders low high later e.acked journal journal all.0 le order (λ m up rest. in_order-later journal m high later all.1 rest le)

pub all-append : (journal : List Entry) (entry : Entry) → AreAcknowledged journal → IsSome entry.acked → AreAcknowledged (journal ++ entry ∷ [])
all-append [] entry all some = (some, tt)
all-append (e ∷ journal) entry all some = (all.0, all-append journal entry all.1 some)

pub was_got-before : (flow : Flow) (name : List ℕ) (journal : List Entry) (entry : Entry) → WasGot flow name journal → WasGot flow name (journal ++ entry ∷ [])
was_got-before flow name [] entry was = absurd was
was_got-before flow name (e ∷ journal) entry (inl here) = inl here
was_got-before flow name (e ∷ journal) entry (inr there) = inr (was_got-before flow name journal entry there)

pub was_got-last : (flow : Flow) (name : List ℕ) (journal : List Entry) (entry : Entry) → TakesFromInbox flow entry.step name → IsSome entry.acked → WasGot flow name (journal ++ entry ∷ [])
was_got-last flow name [] entry takes some = inl (takes, some)
was_got-last flow name (e ∷ journal) entry takes some = inr (was_got-last flow name journal entry takes some)

-- files that stand for the whole journal
pub whole_prefix : (flow : Flow) (lot : ℕ) (opened reached : Machine) (journal : List Entry) (k : ℕ) (c : Files) → replay flow opened (steps journal) ≡ Some reached → StandsFor flow lot reached c → IsPrefix flow lot opened journal k c
whole_prefix flow lot opened reached journal k c replays stands = record {
  front = journal;
  back = [];
  parts = append-nil journal;
  enough = acknowledged-most journal k;
  reached = reached;
  replays = replays;
  stands = stands;
}

-- a prefix of a journal with one entry more, which wasn't acknowledged yet
pub longer_prefix : (flow : Flow) (lot : ℕ) (opened : Machine) (journal : List Entry) (entry : Entry) (k : ℕ) (c : Files) → is_acknowledged_by k entry.acked ≡ false → IsPrefix flow lot opened journal k c → IsPrefix flow lot opened (journal ++ entry ∷ []) k c
longer_prefix flow lot opened journal entry k c isnt prefix =
    let none = ap count_of isnt in
    record {
      front = prefix.front;
      back = prefix.back ++ entry ∷ [];
      parts = sym (append_assoc prefix.front prefix.back (entry ∷ [])) ∙ ap (λ (l : List Entry). l ++ entry ∷ []) prefix.parts;
      enough = omega (arith, acknowledged-append journal entry k, none, prefix.enough);
      reached = prefix.reached;
      replays = prefix.replays;
      stands = prefix.stands;
    }

-- an entry isn't acknowledged before its moment
not_yet : (now k : ℕ) → k < now → is_acknowledged_by k (Some now) ≡ false
not_yet now k early = grind (arith, nat_tests)

module _ (law : ReplayOfOneMore) (flow : Flow) {D : Type 0} (moment : D → ℕ) (images : D → ℕ → Files → Type 0) (lot : ℕ) (first old new : D) (opened reached next : Machine) (journal : List Entry) where
  -- what a stop leaves while an entry is made, as long as it isn't acknowledged
  meanwhile : (entry : Entry) → replay flow opened (steps journal) ≡ Some reached → step flow reached entry.step ≡ Some next → (k : ℕ) (c : Files) → is_acknowledged_by k entry.acked ≡ false
      → StandsFor flow lot reached c ⊎ StandsFor flow lot next c → IsPrefix flow lot opened (journal ++ entry ∷ []) k c
  meanwhile entry replays goes k c isnt either = ⊎_elim
      (λ (before : StandsFor flow lot reached c). longer_prefix flow lot opened journal entry k c isnt (whole_prefix flow lot opened reached journal k c replays before))
      (λ (after : StandsFor flow lot next c). whole_prefix flow lot opened next (journal ++ entry ∷ []) k c (replay_one_more law flow opened reached journal entry replays ∙ goes) after)
      either

  -- a step that wasn't acknowledged
  pub step_open : (s : Step) → Replays flow moment images lot opened journal reached first old → AreAcknowledged journal → step flow reached s ≡ Some next → IsBetween flow moment images lot reached next old new
      → Replays flow moment images lot opened (journal ++ record { step = s; acked = None } ∷ []) next first new
  step_open s ran all goes since =
      let entry : Entry = record { step = s; acked = None } in
      record {
        replays = replay_one_more law flow opened reached journal entry ran.replays ∙ goes;
        in_order = in_order-append journal entry (moment first + 1) (moment old) (moment new) ran.prefixes.begun since.later all ran.in_order (λ m le. tt);
        prefixes = one_part_after_another moment images (moment first + 1) (moment old) first old new (IsPrefix flow lot opened journal) (λ k c. StandsFor flow lot reached c ⊎ StandsFor flow lot next c) (IsPrefix flow lot opened (journal ++ entry ∷ [])) ran.prefixes since (omega arith)
            (λ k c from early. longer_prefix flow lot opened journal entry k c refl)
            (λ k c late up left. meanwhile entry ran.replays goes k c refl);
      }

  -- a step that was acknowledged at the end
  pub step_acked : (s : Step) → Replays flow moment images lot opened journal reached first old → AreAcknowledged journal → step flow reached s ≡ Some next → IsBetween flow moment images lot reached next old new
      → InEach (images new (moment new)) (StandsFor flow lot next)
      → Replays flow moment images lot opened (journal ++ record { step = s; acked = Some (moment new) } ∷ []) next first new
  step_acked s ran all goes since now_stands =
      let entry : Entry = record { step = s; acked = Some (moment new) } in
      record {
        replays = replay_one_more law flow opened reached journal entry ran.replays ∙ goes;
        in_order = in_order-append journal entry (moment first + 1) (moment old) (moment new) ran.prefixes.begun since.later all ran.in_order (λ m le. (omega (arith, since.later), omega arith, tt));
        prefixes = one_part_after_another moment images (moment first + 1) (moment old) first old new (IsPrefix flow lot opened journal) (λ k c. StandsFor flow lot reached c ⊎ StandsFor flow lot next c) (IsPrefix flow lot opened (journal ++ entry ∷ [])) ran.prefixes since (omega arith)
            (λ k c from early. longer_prefix flow lot opened journal entry k c (not_yet (moment new) k (omega (arith, early, since.later))))
            (λ k c late up left either. ⊎_elim
            (λ (before : k < moment new). meanwhile entry ran.replays goes k c (not_yet (moment new) k before) either)
            (λ (last : moment new ≤ k).
            let same : k ≡ moment new = omega arith in
            whole_prefix flow lot opened next (journal ++ entry ∷ []) k c (replay_one_more law flow opened reached journal entry ran.replays ∙ goes) (now_stands c (subst (λ (m : ℕ). images new m c) same left)))
            (cases_lt k (moment new)));
      }

  -- calls that leave the state as it was
  pub step_none : Replays flow moment images lot opened journal reached first old → AreAcknowledged journal → Since moment images old new (StandsFor flow lot reached)
      → Replays flow moment images lot opened journal reached first new
  step_none ran all since = record {
    replays = ran.replays;
    in_order = in_order-later journal (moment first + 1) (moment old) (moment new) all ran.in_order since.later;
    prefixes = one_part_after_another moment images (moment first + 1) (moment old) first old new (IsPrefix flow lot opened journal) (λ k. StandsFor flow lot reached) (IsPrefix flow lot opened journal) ran.prefixes since (omega arith)
        (λ k c from early prefix. prefix)
        (λ k c late up left stands. whole_prefix flow lot opened reached journal k c ran.replays stands);
  }
