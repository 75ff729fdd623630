-- How many bytes encodings have.
use Rattle.std.proofs.Common.{◌≡◌, ℕ, ◌+◌, ◌*◌, ◌≤◌, ◌^◌, suc, List, [], ◌∷◌, ◌++◌, length, sum_by, length-append, Option, Some, None, refl, ap, ◌∙◌, arith}
use Rattle.std.specs.Prelude.{All, map}
use Rattle.std.specs.List.{flat_map}
use Rattle.std.specs.Int.{w16, w32, w64, to_be_bytes}
use Rattle.std.specs.FinMap.{entries}
use Rattle.std.proofs.lemmas.List.Concat.{flat_map-cons}
use Rattle.std.proofs.lemmas.List.Elements.{All-head, All-tail}
use Rattle.std.proofs.lemmas.List.Sums.{sum_by-cons}
use Rattle.flowfile_record.specs.Attributes.{AttributeMap, encoded_size, pair_size}
use Rattle.flowfile_record.specs.Encoding.{byte, text, numbers, listed, IsDigest, IsText}
use Rattle.flowfile_record.specs.declared.attributes.TheConstants.{ATTRIBUTES_MAX}
use Rattle.flowfile_record.specs.declared.content.ContentRef.{ContentRef}
use Rattle.flowfile_record.specs.declared.flow_file.FlowFile.{FlowFile}
use Rattle.flowfile_record.specs.declared.stored.ActiveFile.{ActiveFile}
use Rattle.flowfile_record.specs.declared.stored.Counted.{Counted}
use Rattle.flowfile_record.specs.declared.stored.SwapBatch.{SwapBatch}
use Rattle.record_codec.specs.ActiveFile.{active_file, IsActiveFile}
use Rattle.record_codec.specs.FileEncoding.{pair, attributes, content_ref, flow_file, IsFlowFile}
use Rattle.record_codec.specs.EntryEncoding.{generator, counters, session, expire, swap_out, entry}
use Rattle.record_codec.specs.Group.{item}
use Rattle.record_codec.specs.Placeless.{placeless, placeless_active, placeless_entry}
use Rattle.record_codec.specs.Snapshot.{swap_batch}
use Rattle.record_codec.specs.declared.group.Item.{Item}
use Rattle.record_codec.specs.declared.entry.SessionEntry.{SessionEntry}
use Rattle.record_codec.specs.declared.entry.ExpireEntry.{ExpireEntry}
use Rattle.record_codec.specs.declared.entry.SwapOutEntry.{SwapOutEntry}
use Rattle.record_codec.specs.declared.entry.LogEntry.{LogEntry}
use Rattle.record_codec.specs.declared.entry.LogEntry.TheVariants.{Begin, Session, Expire, SwapOut, SwapIn, Age}

len3 : (a b c : List ℕ) → length (a ++ b ++ c) ≡ length a + length b + length c
len3 a b c = length-append (a ++ b) c ∙ ap (λ n. n + length c) (length-append a b)

len4 : (a b c d : List ℕ) → length (a ++ b ++ c ++ d) ≡ length a + length b + length c + length d
len4 a b c d = length-append (a ++ b ++ c) d ∙ ap (λ n. n + length d) (len3 a b c)

len5 : (a b c d e : List ℕ) → length (a ++ b ++ c ++ d ++ e) ≡ length a + length b + length c + length d + length e
len5 a b c d e = length-append (a ++ b ++ c ++ d) e ∙ ap (λ n. n + length e) (len4 a b c d)

len6 : (a b c d e f : List ℕ) → length (a ++ b ++ c ++ d ++ e ++ f) ≡ length a + length b + length c + length d + length e + length f
len6 a b c d e f = length-append (a ++ b ++ c ++ d ++ e) f ∙ ap (λ n. n + length f) (len5 a b c d e)

-- ---- flow files

pairs_size : (ps : List (List ℕ × List ℕ)) → length (flat_map pair ps) ≡ sum_by pair_size ps
pairs_size [] = refl
pairs_size (p ∷ ps) =
    omega (arith, ap length (flat_map-cons pair p ps), length-append (pair p) (flat_map pair ps), length-append (text p.0) (to_be_bytes w32 (length p.1) ++ p.1), length-append (to_be_bytes w16 (length p.0)) p.0, length-append (to_be_bytes w32 (length p.1)) p.1, sum_by-cons pair_size p ps, pairs_size ps)

pub attributes_size : (m : AttributeMap) → length (attributes m) ≡ encoded_size m
unfolding attributes encoded_size
attributes_size m = omega (arith, length-append (to_be_bytes w16 0) (flat_map pair (entries m)), pairs_size (entries m))

pub content_ref_size : (c : ContentRef) → IsDigest c.digest → length (content_ref c) ≡ 52
unfolding content_ref
content_ref_size c digest = omega (arith, len4 (to_be_bytes w32 c.slot) (to_be_bytes w64 c.offset) (to_be_bytes w64 c.size) c.digest, digest)

pub parts_of_file : (f : FlowFile) → length (flow_file f) ≡ 32 + length (attributes f.attributes) + length (content_ref f.content)
unfolding flow_file
parts_of_file f = omega (arith, len6 (to_be_bytes w64 f.number) (attributes f.attributes) (content_ref f.content) (to_be_bytes w64 f.entered) (to_be_bytes w64 f.penalty_end) (to_be_bytes w64 f.arrival))

pub flow_file_size : (f : FlowFile) → IsFlowFile f → length (flow_file f) ≡ encoded_size f.attributes + 84
flow_file_size f is = omega (arith, parts_of_file f, attributes_size f.attributes, content_ref_size f.content is.content.digest)

pub file_most : (f : FlowFile) → IsFlowFile f → length (flow_file f) ≤ ATTRIBUTES_MAX + 84
file_most f is = omega (arith, flow_file_size f is, is.attributes.size)

pub active_size : (a : ActiveFile) → length (active_file a) ≡ 2 + length (flow_file a.file)
unfolding active_file
active_size a = length-append (to_be_bytes w16 a.connection) (flow_file a.file)

-- ---- lists

pub each_at_most : {X : Type 0} (f : X → List ℕ) (P : X → Type 0) (n : ℕ) → ((x : X) → P x → length (f x) ≤ n) → (xs : List X) → All P xs → length (flat_map f xs) ≤ n * length xs
each_at_most f P n most [] all = omega arith
each_at_most f P n most (x ∷ xs) all =
    omega (arith, ap length (flat_map-cons f x xs), length-append (f x) (flat_map f xs), most x (All-head P x xs all), each_at_most f P n most xs (All-tail P x xs all))

pub text_at_most : (t : List ℕ) → IsText t → length (text t) ≤ 2 ^ 16 + 1
text_at_most t is = omega (arith, length-append (to_be_bytes w16 (length t)) t, is.0)

pub file_at_most : (a : ActiveFile) → IsActiveFile a → length (active_file a) ≤ ATTRIBUTES_MAX + 86
file_at_most a is = omega (arith, active_size a, file_most a.file is.file)

-- ---- entries

generator_size : (g : Option Counted) → length (generator g) ≡ 10
unfolding generator
generator_size None = refl
generator_size (Some g) = refl

counters_size : (s : SessionEntry) → length (counters s) ≡ 34
unfolding counters
counters_size s = omega (arith, len4 (to_be_bytes w64 s.next_number) (to_be_bytes w64 s.next_arrival) (to_be_bytes w64 s.last_event) (generator s.generator), generator_size s.generator)

pub session_size : (s : SessionEntry) → length (session s) ≡ 44 + length (numbers s.gone) + length (listed active_file s.placed)
unfolding session
session_size s = omega (arith, len5 (to_be_bytes w16 s.processor) (to_be_bytes w64 s.moment) (numbers s.gone) (listed active_file s.placed) (counters s), counters_size s)

pub expire_size : (e : ExpireEntry) → length (expire e) ≡ 18 + length (numbers e.numbers)
unfolding expire
expire_size e = omega (arith, len4 (to_be_bytes w16 e.connection) (to_be_bytes w64 e.moment) (numbers e.numbers) (to_be_bytes w64 e.last_event))

pub swap_out_size : (s : SwapOutEntry) → length (swap_out s) ≡ 10 + length (numbers s.numbers)
unfolding swap_out
swap_out_size s = omega (arith, len3 (to_be_bytes w16 s.connection) (to_be_bytes w64 s.batch) (numbers s.numbers))

-- ---- groups

pub item_size : (i : Item) → length (item i) ≡ 5 + length i.payload
unfolding item
item_size i = omega (arith, len3 (byte i.kind) (to_be_bytes w32 (length i.payload)) i.payload)

-- ---- snapshots

pub swap_batch_size : (b : SwapBatch) → length (swap_batch b) ≡ 34
unfolding swap_batch
swap_batch_size b = omega (arith, len5 (to_be_bytes w16 b.connection) (to_be_bytes w64 b.batch) (to_be_bytes w64 b.files) (to_be_bytes w64 b.bytes) (to_be_bytes w64 b.encoded))

-- ---- sizes don't depend on where contents stand

content_ref_parts : (c : ContentRef) → length (content_ref c) ≡ 20 + length c.digest
unfolding content_ref
content_ref_parts c = omega (arith, len4 (to_be_bytes w32 c.slot) (to_be_bytes w64 c.offset) (to_be_bytes w64 c.size) c.digest)

pub placeless_size : (f : FlowFile) → length (flow_file (placeless f)) ≡ length (flow_file f)
placeless_size f = omega (arith, parts_of_file f, parts_of_file (placeless f), content_ref_parts f.content, content_ref_parts (placeless f).content)

placed_sizes : (xs : List ActiveFile) → length (flat_map active_file (map placeless_active xs)) ≡ length (flat_map active_file xs)
placed_sizes [] = refl
placed_sizes (x ∷ xs) =
    omega (
      arith,
      ap length (flat_map-cons active_file x xs),
      length-append (active_file x) (flat_map active_file xs),
      ap length (flat_map-cons active_file (placeless_active x) (map placeless_active xs)),
      length-append (active_file (placeless_active x)) (flat_map active_file (map placeless_active xs)),
      active_size x,
      active_size (placeless_active x),
      placeless_size x.file,
      placed_sizes xs,
    )

length_map : (xs : List ActiveFile) → length (map placeless_active xs) ≡ length xs
length_map [] = refl
length_map (x ∷ xs) = ap suc (length_map xs)

listed_size : (xs : List ActiveFile) → length (listed active_file xs) ≡ 4 + length (flat_map active_file xs)
listed_size xs = length-append (to_be_bytes w32 (length xs)) (flat_map active_file xs)

pub placeless_entry_size : (e : LogEntry) → length (entry (placeless_entry e)) ≡ length (entry e)
unfolding entry
placeless_entry_size (Begin version log) = refl
placeless_entry_size (Session s) =
    omega (
      arith,
      session_size s,
      session_size (record {
        processor = s.processor;
        moment = s.moment;
        gone = s.gone;
        placed = map placeless_active s.placed;
        next_number = s.next_number;
        next_arrival = s.next_arrival;
        last_event = s.last_event;
        generator = s.generator;
      }),
      listed_size s.placed,
      listed_size (map placeless_active s.placed),
      placed_sizes s.placed,
    )
placeless_entry_size (Expire e) = refl
placeless_entry_size (SwapOut s) = refl
placeless_entry_size (SwapIn connection batch) = refl
placeless_entry_size (Age line) = refl
