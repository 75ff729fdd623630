-- The numbers of what a settlement places are new, each in its range, and so are the arrivals.
use Rattle.std.proofs.Common.{◌≡◌, ℕ, ◌+◌, ◌<◌, ◌≤◌, ◌==◌, Bool, true, false, cond, List, [], ◌∷◌, map, refl, sym, ap, subst, ◌∙◌, arith}
use Rattle.std.specs.Prelude.{All}
use Rattle.std.proofs.lemmas.List.Elements.{All-nil, All-cons, All-head, All-tail, All-weaker}
use Rattle.flowfile_record.specs.Shared.{is_stored}
use Rattle.flowfile_record.specs.declared.content.ContentRef.{ContentRef}
use Rattle.flowfile_record.specs.declared.flow_file.FlowFile.{FlowFile}
use Rattle.flowfile_record.specs.declared.stored.ActiveFile.{ActiveFile}
use Rattle.flowfile_record.specs.declared.stored.Fresh.{Fresh}
use Rattle.flowfile_record.specs.declared.stored.Placed.{Placed}
use Rattle.record_codec.specs.Placeless.{placeless}
use Rattle.kept_state.specs.Applied.{left_after}
use Rattle.kept_state.specs.Changes.{record_of, recorded_file}
use Rattle.machine_model.specs.Changing.{placed_file, state_after}
use Rattle.machine_model.specs.State.{QueuedFile}
use Rattle.machine_model.specs.Valid.{AreNumbered, files_of_all}
use Rattle.machine_model.proofs.Keyed.{Counted, counted, numbered}
use Rattle.machine_model.proofs.Tally.{bit, many, tally, tally-map, tally-same}
use Rattle.store_core.specs.State.{queued_active}
use Rattle.engine_change.proofs.AllFiles.{all_files}
use Rattle.engine_change.proofs.Cases.{Case, IsSettled, nothing, numbered_after, state_of}
use Rattle.engine_change.proofs.Past.{past}
use Rattle.engine_change.proofs.Recorded.{stand_somewhere, the_processor}

-- whatever its content, a placed file's record has its number and its arrival
recorded_number : (connection : ℕ) (file : FlowFile) (fresh : Fresh) → (recorded_file connection file fresh).file.number ≡ file.number
recorded_number connection file fresh = by (is_stored fresh)
  where
    by : (b : Bool) → (cond b file (placeless file)).number ≡ file.number
    by true = refl
    by false = refl

recorded_arrival : (connection : ℕ) (file : FlowFile) (fresh : Fresh) → (recorded_file connection file fresh).file.arrival ≡ file.arrival
recorded_arrival connection file fresh = by (is_stored fresh)
  where
    by : (b : Bool) → (cond b file (placeless file)).arrival ≡ file.arrival
    by true = refl
    by false = refl

unmapped : {X Y : Type 0} (P : Y → Type 0) (f : X → Y) (xs : List X) → All P (map f xs) → All (λ x. P (f x)) xs
unmapped P f [] all = All-nil (λ x. P (f x))
unmapped P f (x ∷ xs) all = All-cons (λ y. P (f y)) x xs (All-head P (f x) (map f xs) all) (unmapped P f xs (All-tail P (f x) (map f xs) all))

-- what of a file is counted, as a queue has it
pub record IsPart (part : FlowFile → ℕ) (key : QueuedFile → ℕ) (contents : ContentRef → List ℕ) (all : List Placed) : Type 0 where
  pub left : (a : ActiveFile) → key (queued_active contents a) ≡ part a.file
  pub placed : (p : Placed) → key (placed_file contents all p) ≡ part p.file
  pub recorded : (p : Placed) → part (record_of p).file ≡ part p.file

-- of the files that are left and the placed ones one at most has it, and each placed one has it in range
pub record IsNewPart (c : Case) (part : FlowFile → ℕ) (next : ℕ) : Type 0 where
  pub once : (n : ℕ) → many part n (map (λ a. a.file) (left_after c.settled.gone c.k.files)) + many (λ (m : ℕ). m) n (map (λ a. part a.file) (map record_of c.settled.placed)) ≤ 1
  pub within : All (λ p. (1 ≤ part p.file) × (part p.file < next)) c.settled.placed

new_part : (c : Case) → IsSettled c → (part : FlowFile → ℕ) (key : QueuedFile → ℕ) (contents : ContentRef → List ℕ) (next : ℕ) → IsPart part key contents c.settled.placed
    → AreNumbered key next (files_of_all (state_after contents (state_of c contents) c.settled)) → IsNewPart c part next
new_part c is part key contents next of numbers =
    record {
      once = λ n. omega (
        arith,
        all.once n,
        whole n,
        tally-same (λ (a : ActiveFile). bit (key (queued_active contents a) == n)) (λ a. bit (part a.file == n)) (λ a. ap (λ m. bit (m == n)) (of.left a)) left,
        tally-map (λ (f : FlowFile). bit (part f == n)) (λ (a : ActiveFile). a.file) left,
        tally-same (λ (p : Placed). bit (key (placed_file contents placed p) == n)) (λ p. bit (part (record_of p).file == n)) (λ p. ap (λ m. bit (m == n)) (of.placed p ∙ sym (of.recorded p))) placed,
        tally-map (λ (m : ℕ). bit (m == n)) (λ (a : ActiveFile). part a.file) (map record_of placed),
        tally-map (λ (a : ActiveFile). bit (part a.file == n)) record_of placed,
      );
      within = All-weaker (λ p. (1 ≤ key (placed_file contents placed p)) × (key (placed_file contents placed p) < next)) (λ p. (1 ≤ part p.file) × (part p.file < next))
          (λ p h. subst (λ m. (1 ≤ m) × (m < next)) (of.placed p) h) placed
          (unmapped (λ f. (1 ≤ key f) × (key f < next)) (placed_file contents placed) placed (numbered key next (map (placed_file contents placed) placed) come).within);
    }
  where
    left : List ActiveFile
    left = left_after c.settled.gone c.k.files

    placed : List Placed
    placed = c.settled.placed

    files : List QueuedFile
    files = files_of_all (state_after contents (state_of c contents) c.settled)

    all : Counted key next files
    all = counted key next files numbers

    whole : (n : ℕ) → many key n files ≡ tally (λ (a : ActiveFile). bit (key (queued_active contents a) == n)) left + tally (λ (p : Placed). bit (key (placed_file contents placed p) == n)) placed
    whole n = all_files contents (past c.k.last_event) c.k c.settled (λ (f : QueuedFile). bit (key f == n)) (stand_somewhere c is)

    mapped : (n : ℕ) → many key n (map (placed_file contents placed) placed) ≡ tally (λ (p : Placed). bit (key (placed_file contents placed p) == n)) placed
    mapped n = tally-map (λ (f : QueuedFile). bit (key f == n)) (placed_file contents placed) placed

    come : Counted key next (map (placed_file contents placed) placed)
    come = record {
      first = all.first;
      once = λ n. omega (arith, all.once n, whole n, mapped n);
      none = λ n le. omega (arith, all.none n le, whole n, mapped n);
      some = omega (arith, all.some, whole 0, mapped 0);
    }

pub new_numbers : (c : Case) → IsSettled c → IsNewPart c (λ f. f.number) c.settled.next_number
new_numbers c is =
    let processor = the_processor c is in
    new_part c is (λ f. f.number) (λ f. f.number) nothing c.settled.next_number
    (record { left = λ a. refl; placed = λ p. refl; recorded = λ p. recorded_number p.connection p.file p.fresh })
    (numbered_after c is processor.0 processor.1).numbers

pub new_arrivals : (c : Case) → IsSettled c → IsNewPart c (λ f. f.arrival) c.settled.next_arrival
new_arrivals c is =
    let processor = the_processor c is in
    new_part c is (λ f. f.arrival) (λ f. f.arrival) nothing c.settled.next_arrival
    (record { left = λ a. refl; placed = λ p. refl; recorded = λ p. recorded_arrival p.connection p.file p.fresh })
    (numbered_after c is processor.0 processor.1).arrivals
