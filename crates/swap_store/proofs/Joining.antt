-- A file joins others at their end, by its number.
use Rattle.std.proofs.Common.{◌≡◌, ℕ, zero, suc, ◌+◌, ◌<◌, ◌≤◌, List, [], ◌∷◌, ◌++◌, length, All, refl, arith}
use Rattle.std.proofs.lemmas.List.Elements.{All-append}
use Rattle.flowfile_record.specs.NumberedItems.{AscendsByNumber}
use Rattle.flowfile_record.specs.declared.flow_file.FlowFile.{FlowFile}
use Rattle.record_codec.specs.FileEncoding.{IsFlowFile}
use Rattle.swap_store.specs.Batch.{IsSwapBatch}
use Rattle.swap_store.specs.Reading.{last_file_number}

abbrev number_of : FlowFile → ℕ
number_of f = f.number

all_one : {A : Type 0} (P : A → Type 0) (x : A) → P x → All P (x ∷ [])
all_one P x p zero d lt = p
all_one P x p (suc k) d lt = absurd (omega (arith, lt))

pub last_is : (f : FlowFile) (files : List FlowFile) → last_file_number (files ++ f ∷ []) ≡ f.number
last_is f [] = refl
last_is f (g ∷ []) = refl
last_is f (g ∷ h ∷ files) = last_is f (h ∷ files)

-- no number is above the last
first_below : (f : FlowFile) (files : List FlowFile) → AscendsByNumber number_of (f ∷ files) → f.number ≤ last_file_number (f ∷ files)
first_below f [] ascends = omega arith
first_below f (g ∷ files) ascends =
    let first = ascends.0 0 g (omega arith) in
    let rest = first_below g files ascends.1 in
    omega (arith, first, rest)

-- who is above the last of all is above the last of the others
above_others : (f g : FlowFile) (files : List FlowFile) → last_file_number (g ∷ files) < f.number → last_file_number files < f.number
above_others f g [] above = omega (arith, above)
above_others f g (h ∷ files) above = above

ascends_on : (f : FlowFile) (files : List FlowFile) → AscendsByNumber number_of files → last_file_number files < f.number → AscendsByNumber number_of (files ++ f ∷ [])
ascends_on f [] ascends above = (λ k d lt. absurd (omega (arith, lt)), tt)
ascends_on f (g ∷ files) ascends above =
    let below = first_below g files ascends in
    let first : g.number < f.number = omega (arith, below, above) in (
      All-append (λ x. g.number < x.number) files (f ∷ []) ascends.0 (all_one (λ x. g.number < x.number) f first),
      ascends_on f files ascends.1 (above_others f g files above),
    )

-- a file with an encoding and a greater number joins a batch
pub batch_grows : (f : FlowFile) (files : List FlowFile) → IsSwapBatch files → IsFlowFile f → last_file_number files < f.number → IsSwapBatch (files ++ f ∷ [])
batch_grows f files batch has above = record {
  encoded = All-append IsFlowFile files (f ∷ []) batch.encoded (all_one IsFlowFile f has);
  ascends = ascends_on f files batch.ascends above;
}

pub no_files : IsSwapBatch []
no_files = record { encoded = λ k d lt. absurd (omega (arith, lt)); ascends = tt }

-- numbers that ascend below a bound are no more than it
pub ascending_count : (bound low : ℕ) (files : List FlowFile) → AscendsByNumber number_of files → All (λ f. f.number < bound) files → All (λ f. low ≤ f.number) files → low ≤ bound
    → low + length files ≤ bound
ascending_count bound low [] ascends below above le = omega (arith, le)
ascending_count bound low (f ∷ files) ascends below above le =
    let first = below 0 f (omega arith) in
    let here = above 0 f (omega arith) in
    let rest = ascending_count bound (f.number + 1) files ascends.1 (λ k d lt. below (suc k) d (omega (arith, lt))) (λ k d lt. let later = ascends.0 k d lt in omega (arith, later)) (omega (arith, first)) in
    omega (arith, rest, here)
