-- What a session is handed of live files.
use Rattle.std.proofs.Common.{◌≡◌, ◌≢◌, ℕ, zero, suc, ◌+◌, ◌≤◌, Bool, true, List, [], ◌∷◌, length, map, refl, sym, ap, subst, ◌∙◌}
use Rattle.std.specs.Prelude.{All, Contains, Option, None, Some, is_some, IfSome, nat_le, sum_by, slice_index, unwrap_or}
use Rattle.std.specs.List.{AllPairs}
use Rattle.std.proofs.lemmas.Bool.{false≢true}
use Rattle.std.proofs.lemmas.List.Elements.{All-cons, All-contains, All-head, All-nil, All-tail, All-weaker}
use Rattle.std.proofs.lemmas.List.Sums.{sum_by-cons}
use Rattle.flowfile_record.specs.Stored.{Kept}
use Rattle.flowfile_record.specs.declared.TheConstants.{CONTENT_MAX}
use Rattle.flowfile_record.specs.declared.content.ContentRef.{ContentRef}
use Rattle.flowfile_record.specs.declared.flow_file.FlowFile.{FlowFile}
use Rattle.record_codec.specs.ActiveFile.{active}
use Rattle.checkpoint_store.specs.Consistent.{IsConsistent, IsFileIn}
use Rattle.machine_model.specs.Changing.{queued_file}
use Rattle.machine_model.specs.Kinds.{take_rule_of}
use Rattle.machine_model.specs.Laws.{MayTake}
use Rattle.machine_model.specs.State.{State}
use Rattle.machine_model.specs.Stepping.{as_taken}
use Rattle.process_session.specs.Bench.{HasItsSize, IsWhole, taken_source}
use Rattle.process_session.specs.Bench as bench
use Rattle.process_session.specs.declared.file.Taken.{Taken}
use Rattle.processor_api.specs.Acts as acts
use Rattle.processor_api.specs.Acts.{AreTakenAs}
use Rattle.settlement.specs.Contents.{source_bytes}
use Rattle.settlement.specs.Handed.{AreReadSources, content_sizes}
use Rattle.store_core.specs.State.{state_with}
use Rattle.engine_session.specs.Handing.{AreReadOf, AreTaken, files_fit_a_content, live_files, taken_as, taken_with_contents}
use Rattle.engine_session.specs.Laws.{TakenFilesAreTheMachines, TakenFilesAreThere, TakenFilesMayBeHanded}
use Rattle.engine_session.proofs.Lookups.{live_count, live_differ, live_there}

-- ---- how many, and how large

pub taken_count : (store : ℕ) (bytes : ContentRef → List ℕ) (fits : Bool) (files : List FlowFile) (contents : List (Option (List ℕ))) → AreReadOf bytes fits files contents
    → length (taken_with_contents store files contents) ≡ length files
taken_count store bytes fits [] [] read = refl
taken_count store bytes fits [] (one ∷ contents) read = absurd read
taken_count store bytes fits (file ∷ files) [] read = absurd read
taken_count store bytes fits (file ∷ files) (one ∷ contents) read = ap suc (taken_count store bytes fits files contents read.1)

taken_sizes : (store : ℕ) (bytes : ContentRef → List ℕ) (fits : Bool) (files : List FlowFile) (contents : List (Option (List ℕ))) → AreReadOf bytes fits files contents
    → sum_by (λ one. one.size) (taken_with_contents store files contents) ≡ sum_by (λ file. file.content.size) files
taken_sizes store bytes fits [] [] read = refl
taken_sizes store bytes fits [] (one ∷ contents) read = absurd read
taken_sizes store bytes fits (file ∷ files) [] read = absurd read
taken_sizes store bytes fits (file ∷ files) (one ∷ contents) read =
    sum_by-cons (λ (t : Taken). t.size) (taken_as store (file, one)) (taken_with_contents store files contents)
    ∙ ap (λ n. file.content.size + n) (taken_sizes store bytes fits files contents read.1)
    ∙ sym (sum_by-cons (λ (f : FlowFile). f.content.size) file files)

pub source_sizes : (store : ℕ) (bytes : ContentRef → List ℕ) (fits : Bool) (files : List FlowFile) (contents : List (Option (List ℕ))) → AreReadOf bytes fits files contents
    → bench.sizes_of (map taken_source (taken_with_contents store files contents)) ≡ content_sizes files
source_sizes store bytes fits [] [] read = refl
source_sizes store bytes fits [] (one ∷ contents) read = absurd read
source_sizes store bytes fits (file ∷ files) [] read = absurd read
source_sizes store bytes fits (file ∷ files) (one ∷ contents) read =
    ap (λ (sizes : List ℕ). file.content.size ∷ sizes) (source_sizes store bytes fits files contents read.1)

-- ---- what was read

pub are_read : (store : ℕ) (bytes : ContentRef → List ℕ) (fits : Bool) (files : List FlowFile) (contents : List (Option (List ℕ))) → AreReadOf bytes fits files contents
    → AreReadSources bytes files (map taken_source (taken_with_contents store files contents))
are_read store bytes fits [] [] read = tt
are_read store bytes fits [] (one ∷ contents) read = absurd read
are_read store bytes fits (file ∷ files) [] read = absurd read
are_read store bytes fits (file ∷ files) (one ∷ contents) read =
    (record { size = read.0.size; digest = read.0.digest; read = read.0.is }, are_read store bytes fits files contents read.1)

pub are_taken_as : (state : State) (bytes : ContentRef → List ℕ) (fits : Bool) (files : List FlowFile) (contents : List (Option (List ℕ))) → AreReadOf bytes fits files contents
    → AreTakenAs (map (as_taken state) (map (queued_file bytes) files)) (taken_with_contents state.store files contents)
are_taken_as state bytes fits [] [] read = tt
are_taken_as state bytes fits [] (one ∷ contents) read = absurd read
are_taken_as state bytes fits (file ∷ files) [] read = absurd read
are_taken_as state bytes fits (file ∷ files) (one ∷ contents) read =
    (record { attributes = refl; uuid = refl; size = sym read.0.size; bytes = read.0.is }, are_taken_as state bytes fits files contents read.1)

-- a content that was read is whole
whole_as : (content : List ℕ) (size : ℕ) (read : Option (List ℕ)) → size ≡ length content → IfSome read (λ r. r ≡ content) → HasItsSize read size
whole_as content size None is same = tt
whole_as content size (Some read) is same = ap length same ∙ sym is

are_whole : (store : ℕ) (bytes : ContentRef → List ℕ) (fits : Bool) (files : List FlowFile) (contents : List (Option (List ℕ))) → AreReadOf bytes fits files contents
    → All IsWhole (taken_with_contents store files contents)
are_whole store bytes fits [] [] read = All-nil IsWhole
are_whole store bytes fits [] (one ∷ contents) read = absurd read
are_whole store bytes fits (file ∷ files) [] read = absurd read
are_whole store bytes fits (file ∷ files) (one ∷ contents) read =
    All-cons IsWhole (taken_as store (file, one)) (taken_with_contents store files contents)
    (whole_as (bytes file.content) file.content.size one read.0.size read.0.is) (are_whole store bytes fits files contents read.1)

-- no content is longer than one may be
are_small : (store : ℕ) (bytes : ContentRef → List ℕ) (fits : Bool) (files : List FlowFile) (contents : List (Option (List ℕ))) → All (λ file. file.content.size ≤ CONTENT_MAX) files
    → AreReadOf bytes fits files contents → All (λ one. one.size ≤ CONTENT_MAX) (taken_with_contents store files contents)
are_small store bytes fits [] [] small read = All-nil (λ (one : Taken). one.size ≤ CONTENT_MAX)
are_small store bytes fits [] (one ∷ contents) small read = absurd read
are_small store bytes fits (file ∷ files) [] small read = absurd read
are_small store bytes fits (file ∷ files) (one ∷ contents) small read =
    All-cons (λ (t : Taken). t.size ≤ CONTENT_MAX) (taken_as store (file, one)) (taken_with_contents store files contents)
    (All-head (λ (f : FlowFile). f.content.size ≤ CONTENT_MAX) file files small)
    (are_small store bytes fits files contents (All-tail (λ (f : FlowFile). f.content.size ≤ CONTENT_MAX) file files small) read.1)

are_filled : (store : ℕ) (bytes : ContentRef → List ℕ) (fits : Bool) (files : List FlowFile) (contents : List (Option (List ℕ))) → AreReadOf bytes fits files contents
    → All (λ one. is_some one.bytes ≡ fits) (taken_with_contents store files contents)
are_filled store bytes fits [] [] read = All-nil (λ (one : Taken). is_some one.bytes ≡ fits)
are_filled store bytes fits [] (one ∷ contents) read = absurd read
are_filled store bytes fits (file ∷ files) [] read = absurd read
are_filled store bytes fits (file ∷ files) (one ∷ contents) read =
    All-cons (λ (t : Taken). is_some t.bytes ≡ fits) (taken_as store (file, one)) (taken_with_contents store files contents) read.0.filled
    (are_filled store bytes fits files contents read.1)

handed_read : (store : ℕ) (bytes : ContentRef → List ℕ) (files : List FlowFile) (contents : List (Option (List ℕ))) → All (λ file. file.content.size ≤ CONTENT_MAX) files
    → AreReadOf bytes (files_fit_a_content files) files contents → acts.AreRead (taken_with_contents store files contents)
handed_read store bytes files contents small read =
    let fits : files_fit_a_content files ≡ acts.fit_a_content (taken_with_contents store files contents) =
    ap (λ n. nat_le n CONTENT_MAX) (sym (taken_sizes store bytes (files_fit_a_content files) files contents read)) in
    record {
      small = are_small store bytes (files_fit_a_content files) files contents small read;
      whole = are_whole store bytes (files_fit_a_content files) files contents read;
      filled = subst (λ (b : Bool). All (λ one. is_some one.bytes ≡ b) (taken_with_contents store files contents)) fits (are_filled store bytes (files_fit_a_content files) files contents read);
    }

-- ---- the laws

pub files_count : (k : Kept) (connection : ℕ) (numbers : List ℕ) (bytes : ContentRef → List ℕ) (files : List FlowFile) (contents : List (Option (List ℕ))) → AreTaken k connection numbers bytes files contents
    → length (taken_with_contents k.store files contents) ≡ length numbers
files_count k connection numbers bytes files contents taken =
    taken_count k.store bytes (files_fit_a_content files) files contents taken.read ∙ ap length taken.are ∙ live_count k connection numbers taken.active

-- the files of a consistent state are within the limits of flow files
live_small : (k : Kept) → IsConsistent k → (connection : ℕ) (files : List FlowFile) → All (λ file. Contains k.files (active connection file)) files → All (λ file. file.content.size ≤ CONTENT_MAX) files
live_small k consistent connection files there =
    All-weaker (λ file. Contains k.files (active connection file)) (λ file. file.content.size ≤ CONTENT_MAX)
    (λ (file : FlowFile) (here : Contains k.files (active connection file)). (All-contains (IsFileIn k) k.files (active connection file) consistent.files here).encoded.file.content.size)
    files there

taken_small : (k : Kept) (connection : ℕ) (numbers : List ℕ) (bytes : ContentRef → List ℕ) (files : List FlowFile) (contents : List (Option (List ℕ))) → IsConsistent k
    → AreTaken k connection numbers bytes files contents → All (λ file. file.content.size ≤ CONTENT_MAX) files
taken_small k connection numbers bytes files contents consistent taken =
    subst (λ (f : List FlowFile). All (λ file. file.content.size ≤ CONTENT_MAX) f) (sym taken.are)
    (live_small k consistent connection (live_files k numbers) (live_there k connection numbers taken.active))

pub taken-files-may-be-handed : TakenFilesMayBeHanded
taken-files-may-be-handed k connection numbers bytes files contents kind given consistent taken sound count is_given = record {
  sound = sound;
  count = subst (MayTake (take_rule_of kind)) (sym (files_count k connection numbers bytes files contents taken)) count;
  read = handed_read k.store bytes files contents (taken_small k connection numbers bytes files contents consistent taken) taken.read;
  is_given = is_given;
}

pub taken-files-are-the-machines : TakenFilesAreTheMachines
taken-files-are-the-machines k connection numbers bytes files contents events taken =
    are_taken_as (state_with bytes events k) bytes (files_fit_a_content files) files contents taken.read

pub taken-files-are-there : TakenFilesAreThere
taken-files-are-there k connection numbers bytes files contents taken = record {
  there = subst (λ (f : List FlowFile). All (λ file. Contains k.files (active connection file)) f) (sym taken.are) (live_there k connection numbers taken.active);
  differ = subst (λ (f : List FlowFile). AllPairs (λ one other. one.number ≢ other.number) f) (sym taken.are) (live_differ k connection numbers taken.active taken.distinct);
  read = are_read k.store bytes (files_fit_a_content files) files contents taken.read;
}

-- ---- parts of what was read

-- where all contents were read, each is as long as its file says
pub source_lengths : (store : ℕ) (bytes : ContentRef → List ℕ) (files : List FlowFile) (contents : List (Option (List ℕ))) (of : ℕ) → AreReadOf bytes true files contents
    → slice_index (content_sizes files) of ≡ length (source_bytes (map taken_source (taken_with_contents store files contents)) of)
source_lengths store bytes [] [] of read = refl
source_lengths store bytes [] (one ∷ contents) of read = absurd read
source_lengths store bytes (file ∷ files) [] of read = absurd read
source_lengths store bytes (file ∷ files) (one ∷ contents) zero read = read_length file.content.size (bytes file.content) one read.0.size read.0.filled read.0.is
  where
    read_length : (size : ℕ) (content : List ℕ) (read : Option (List ℕ)) → size ≡ length content → is_some read ≡ true → IfSome read (λ r. r ≡ content) → size ≡ length (unwrap_or read [])
    read_length size content None is some same = absurd (false≢true some)
    read_length size content (Some bytes) is some same = is ∙ ap length (sym same)
source_lengths store bytes (file ∷ files) (one ∷ contents) (suc of) read = source_lengths store bytes files contents of read.1
