-- What the calls keep of a session, and what they make it hold.
use Rattle.std.proofs.Common.{◌≡◌, ℕ, zero, suc, ◌+◌, ◌-◌, ◌<◌, ◌≤◌, ◌==◌, ◌&&◌, Bool, not, cond, codes, true, false, Some, List, [], ◌∷◌, ◌++◌, length, get_or, set, sum_by, refl, sym, ◌∙◌, ap, subst, arith, length-append, add-zero, zero-add}
use Rattle.std.specs.List.{All, IsDistinct, slice_get}
use Rattle.std.specs.Option.{option_map_or}
use Rattle.std.specs.FinMap.{contains_key, empty, entries, len-empty, len-entries}
use Rattle.std.specs.Ordering.{nat_cmp}
use Rattle.std.specs.Cmp.Lexicographic.{slice_cmp}
use Rattle.std.proofs.lemmas.Option.{get_or_from_slice_get}
use Rattle.std.proofs.lemmas.List.Elements.{All-cons, All-nil, All-push}
use Rattle.std.proofs.lemmas.List.{nil_from_length}
use Rattle.std.proofs.lemmas.List.Sums.{sum_by-append, sum_by-cons}
use Rattle.flowfile_record.specs.Attributes.{AttributeMap, IsWithinLimits, encoded_size, pair_size}
use Rattle.flowfile_record.specs.Outcome.{NamesEachOnce, filename_to_come, is_made, parents_of}
use Rattle.flowfile_record.specs.declared.TheConstants.{CONTENT_MAX}
use Rattle.flowfile_record.specs.declared.attributes.TheConstants.{ATTRIBUTES_MAX, COUNT_SIZE}
use Rattle.flowfile_record.specs.declared.limits.TheConstants.{FILENAME_SIZE, FILES_MAX, SESSION_ATTRIBUTES_MAX, WRITTEN_MAX}
use Rattle.flowfile_record.specs.declared.worked.Body.{Body}
use Rattle.flowfile_record.specs.declared.worked.Body.TheVariants.{New}
use Rattle.flowfile_record.specs.declared.worked.End.{End}
use Rattle.flowfile_record.specs.declared.worked.Origin.{Origin}
use Rattle.flowfile_record.specs.declared.worked.Origin.TheVariants.{Taken as FromQueue, Part, Cloned, Joined}
use Rattle.process_session.specs.declared.file.File.{File}
use Rattle.process_session.specs.Bench.{Bench, IsBodyOf, bench_attributes, body_at, file_size, attribute_size, made_size, named_size, origin_at}
use Rattle.process_session.specs.Changes.{attributed_file, change_at, new_file, with_attributes, with_changed, with_content, with_end, with_handed, with_made, with_penalty, with_route, with_clone, with_part, with_range, is_whole, body_part, written_file}
use Rattle.process_session.specs.Reasons.{no_room_for, past_limits, session_full}
use Rattle.process_session.specs.Sound.{IsHeldFile, IsSoundBench, MayCome, MayEnd, MayInherit}
use Rattle.process_session.proofs.Changing.{change_at-there, length-change_at, origins-change_at, sum_by-change_at, sum_by-set_there, All-change_at}
use Rattle.process_session.proofs.Turns.{in_turn-origins, in_turn-push}

-- a change that keeps where a file comes from, and what else holds of it
sound-changed : (bench : Bench) (counted new handed place : ℕ) (change : File → File) → ((file : File) → (change file).origin ≡ file.origin) → ((file : File) → IsBodyOf bench.sources file.body → IsBodyOf bench.sources (change file).body)
    → ((file : File) → slice_get bench.files place ≡ Some file → IsHeldFile bench.relationships file → IsHeldFile bench.relationships (change file)) → new ≡ sum_by file_size (change_at change place bench.files) → new ≤ SESSION_ATTRIBUTES_MAX → handed ≤ WRITTEN_MAX
    → IsSoundBench bench counted → IsSoundBench (record bench { files = change_at change place bench.files; handed = handed }) new
sound-changed bench counted new handed place change origins bodies held summed attributes room sound = record {
  summed = summed;
  attributes = attributes;
  handed = room;
  few = subst (λ n. n ≤ FILES_MAX) (sym (length-change_at change place bench.files)) sound.few;
  taken = sound.taken;
  whole = sound.whole;
  bodies = All-change_at (λ file. IsBodyOf bench.sources file.body) change place bench.files (λ file is. bodies file) sound.bodies;
  in_turn = in_turn-origins 0 (length bench.sources) bench.files (change_at change place bench.files) (sym (origins-change_at change origins place bench.files)) sound.in_turn;
  each = All-change_at (IsHeldFile bench.relationships) change place bench.files held sound.each;
}

-- a change that touches neither the attributes nor the body
pub sound-noted : (bench : Bench) (counted place : ℕ) (change : File → File) → ((file : File) → (change file).attributes ≡ file.attributes) → ((file : File) → (change file).origin ≡ file.origin) → ((file : File) → (change file).body ≡ file.body)
    → ((file : File) → slice_get bench.files place ≡ Some file → IsHeldFile bench.relationships file → IsHeldFile bench.relationships (change file)) → IsSoundBench bench counted → IsSoundBench (with_changed bench place change) counted
sound-noted bench counted place change attributes origins bodies held sound =
    sound-changed bench counted counted bench.handed place change origins (λ file is. subst (IsBodyOf bench.sources) (sym (bodies file)) is) held
    (sound.summed ∙ sym (sum_by-change_at file_size change (λ file. ap encoded_size (attributes file)) place bench.files)) sound.attributes sound.handed sound

-- a file ends in a way that it may end
pub sound-ended : (bench : Bench) (counted place : ℕ) (how : End) → ((file : File) → slice_get bench.files place ≡ Some file → MayEnd bench.relationships file.origin how) → IsSoundBench bench counted → IsSoundBench (with_end bench place how) counted
sound-ended bench counted place how may sound =
    sound-noted bench counted place (λ file. record file { «end» = Some how }) (λ file. refl) (λ file. refl) (λ file. refl)
    (λ file is held. record { names = held.names; ends = may file is; routed = held.routed; limits = held.limits; named = held.named }) sound

pub sound-routed : (bench : Bench) (counted place relationship : ℕ) → relationship < bench.relationships → IsSoundBench bench counted → IsSoundBench (with_route bench place relationship) counted
sound-routed bench counted place relationship below sound =
    sound-noted bench counted place (λ file. record file { routed = Some relationship }) (λ file. refl) (λ file. refl) (λ file. refl)
    (λ file is held. record { names = held.names; ends = held.ends; routed = below; limits = held.limits; named = held.named }) sound

pub sound-penalised : (bench : Bench) (counted place : ℕ) → IsSoundBench bench counted → IsSoundBench (with_penalty bench place) counted
sound-penalised bench counted place sound =
    sound-noted bench counted place (λ file. record file { penalised = true }) (λ file. refl) (λ file. refl) (λ file. refl)
    (λ file is held. record { names = held.names; ends = held.ends; routed = held.routed; limits = held.limits; named = held.named }) sound

pub taken_there : (bench : Bench) (place : ℕ) (file : File) → slice_get bench.files place ≡ Some file → is_made (origin_at bench place) ≡ false → is_made file.origin ≡ false
taken_there bench place file is taken = sym (ap (λ o. is_made (option_map_or (λ (f : File). f.origin) o (FromQueue place))) is) ∙ taken

-- a content of its own
pub sound-content : (bench : Bench) (counted place : ℕ) (bytes : List ℕ) (size : ℕ) → length bytes ≤ CONTENT_MAX → bench.handed + size ≤ WRITTEN_MAX → IsSoundBench bench counted → IsSoundBench (with_content bench place bytes size) counted
sound-content bench counted place bytes size fits room sound =
    sound-changed bench counted counted (bench.handed + size) place (written_file bytes) (λ file. refl) (λ file is. fits)
    (λ file is held. record { names = held.names; ends = held.ends; routed = held.routed; limits = held.limits; named = held.named })
    (sound.summed ∙ sym (sum_by-change_at file_size (written_file bytes) (λ file. refl) place bench.files)) sound.attributes room sound

limits-same : (files files' attributes attributes' handed : ℕ) → files ≡ files' → attributes ≡ attributes' → past_limits files attributes handed ≡ past_limits files' attributes' handed
limits-same files files' attributes attributes' handed p q = ap (λ n. past_limits n attributes handed) p ∙ ap (λ n. past_limits files' n handed) q

pub full-content : (bench : Bench) (place : ℕ) (bytes : List ℕ) (size : ℕ) → session_full (with_content bench place bytes size) ≡ past_limits (length bench.files) (attribute_size bench) (bench.handed + size)
full-content bench place bytes size =
    limits-same _ _ _ _ (bench.handed + size) (length-change_at (written_file bytes) place bench.files) (sum_by-change_at file_size (written_file bytes) (λ file. refl) place bench.files)

file_at : (files : List File) (place : ℕ) → place < length files → (file : File) × (slice_get files place ≡ Some file)
file_at [] place within = absurd (omega arith)
file_at (file ∷ files) zero within = (file, refl)
file_at (file ∷ files) (suc place) within = file_at files place (omega arith)

-- what the attributes of the file at a place take is replaced
sum-attributes : (bench : Bench) (place : ℕ) (attributes : AttributeMap) → place < length bench.files
    → attribute_size (with_attributes bench place attributes) + encoded_size (bench_attributes bench place) ≡ attribute_size bench + encoded_size attributes
sum-attributes bench place attributes within =
    let found = file_at bench.files place within in
    let file : File = found.0 in
    let is : get_or bench.files place file ≡ file = get_or_from_slice_get bench.files place file file found.1 in
    let change : File → File = attributed_file attributes in
    let sums : sum_by file_size (set bench.files place (change file)) + encoded_size file.attributes ≡ sum_by file_size bench.files + encoded_size attributes = sum_by-set_there file_size place bench.files file (change file) within (sym is) in
    let same : sum_by file_size (change_at change place bench.files) ≡ sum_by file_size (set bench.files place (change file)) = ap (sum_by file_size) (change_at-there change place bench.files file within (sym is)) in
    let old : encoded_size (bench_attributes bench place) ≡ encoded_size file.attributes = ap (λ o. encoded_size (option_map_or (λ (f : File). f.attributes) o empty)) found.1 in
    omega arith

pub sound-attributes : (bench : Bench) (counted new place : ℕ) (attributes : AttributeMap) → place < length bench.files → new + encoded_size (bench_attributes bench place) ≡ counted + encoded_size attributes → new ≤ SESSION_ATTRIBUTES_MAX
    → IsWithinLimits attributes → named_size (origin_at bench place) attributes ≤ ATTRIBUTES_MAX → IsSoundBench bench counted → IsSoundBench (with_attributes bench place attributes) new
sound-attributes bench counted new place attributes within sum room limits named sound =
    let sums = sum-attributes bench place attributes within in
    let was : counted ≡ attribute_size bench = sound.summed in
    let summed : new ≡ attribute_size (with_attributes bench place attributes) = omega arith in
    let same : (file : File) → slice_get bench.files place ≡ Some file → origin_at bench place ≡ file.origin = λ file is. ap (λ o. option_map_or (λ (f : File). f.origin) o (FromQueue place)) is in
    sound-changed bench counted new bench.handed place (attributed_file attributes) (λ file. refl) (λ file is. is)
    (λ file is held. record { names = held.names; ends = held.ends; routed = held.routed; limits = limits; named = subst (λ origin. named_size origin attributes ≤ ATTRIBUTES_MAX) (same file is) named })
    summed room sound.handed sound

pub full-attributes : (bench : Bench) (place : ℕ) (attributes : AttributeMap) → place < length bench.files → encoded_size (bench_attributes bench place) ≤ attribute_size bench
    → session_full (with_attributes bench place attributes) ≡ past_limits (length bench.files) (attribute_size bench - encoded_size (bench_attributes bench place) + encoded_size attributes) bench.handed
full-attributes bench place attributes within part =
    let sums = sum-attributes bench place attributes within in
    limits-same _ _ _ _ bench.handed (length-change_at (attributed_file attributes) place bench.files) (omega arith)

-- one more file
summed-made : (bench : Bench) (counted : ℕ) (origin : Origin) (attributes : AttributeMap) (body : Body) → counted ≡ attribute_size bench → counted + encoded_size attributes ≡ attribute_size (with_made bench origin attributes body)
summed-made bench counted origin attributes body summed =
    let file = new_file origin attributes body in
    let sums : sum_by file_size (bench.files ++ file ∷ []) ≡ sum_by file_size bench.files + sum_by file_size (file ∷ []) = sum_by-append file_size bench.files (file ∷ []) in
    let one : sum_by file_size (file ∷ []) ≡ file_size file + sum_by file_size [] = sum_by-cons file_size file [] in
    let none : sum_by file_size [] ≡ 0 = refl in
    let size : file_size file ≡ encoded_size attributes = refl in
    omega arith

pub handed-none : (bench : Bench) → with_handed bench 0 ≡ bench
handed-none bench = ap (λ n. record bench { handed = n }) (add-zero bench.handed)

length-made : (files : List File) (file : File) → length (files ++ file ∷ []) ≡ length files + 1
length-made files file = length-append files (file ∷ [])

pub sound-made : (bench : Bench) (counted size : ℕ) (origin : Origin) (attributes : AttributeMap) (body : Body) → MayCome bench origin attributes body size → IsWithinLimits attributes → IsSoundBench bench counted → IsSoundBench (with_handed (with_made bench origin attributes body) size) (counted + encoded_size attributes)
sound-made bench counted size origin attributes body may limits sound =
    let file = new_file origin attributes body in
    let more : length (bench.files ++ file ∷ []) ≡ length bench.files + 1 = length-made bench.files file in
    let was : counted ≡ attribute_size bench = sound.summed in
    let room : attribute_size bench + encoded_size attributes ≤ SESSION_ATTRIBUTES_MAX = may.summed in
    let files : length bench.files + 1 ≤ FILES_MAX = may.files in
    record {
      summed = summed-made bench counted origin attributes body sound.summed;
      attributes = omega arith;
      handed = may.room;
      few = omega arith;
      taken = sound.taken;
      whole = sound.whole;
      bodies = All-push (λ file. IsBodyOf bench.sources file.body) bench.files file sound.bodies may.inside;
      in_turn = in_turn-push 0 (length bench.sources) bench.files file may.made (subst (λ n. All (λ parent. parent < n) (parents_of origin)) (sym (zero-add (length bench.files))) may.behind) sound.in_turn;
      each = All-push (IsHeldFile bench.relationships) bench.files file sound.each (record { names = may.names; ends = tt; routed = tt; limits = limits; named = may.named });
    }

pub full-made : (bench : Bench) (size : ℕ) (origin : Origin) (attributes : AttributeMap) (body : Body) → session_full (with_handed (with_made bench origin attributes body) size) ≡ no_room_for bench (encoded_size attributes) size
full-made bench size origin attributes body =
    limits-same _ _ _ _ (bench.handed + size) (length-made bench.files (new_file origin attributes body)) (sym (summed-made bench (attribute_size bench) origin attributes body refl))

-- the same of a file that no bytes were handed over for
pub full-added : (bench : Bench) (origin : Origin) (attributes : AttributeMap) (body : Body) → session_full (with_made bench origin attributes body) ≡ no_room_for bench (encoded_size attributes) 0
full-added bench origin attributes body = ap session_full (sym (handed-none (with_made bench origin attributes body))) ∙ full-made bench 0 origin attributes body

-- a file that comes with another's attributes
pub may_inherit : (bench : Bench) (of : ℕ) (origin : Origin) (attributes : AttributeMap) (body : Body) → is_made origin ≡ true → parents_of origin ≡ of ∷ [] → NamesEachOnce origin → attributes ≡ bench_attributes bench of → IsBodyOf bench.sources body → MayInherit bench of → MayCome bench origin attributes body 0
may_inherit bench of origin attributes body made parents names same inside may = subst (λ (m : AttributeMap). MayCome bench origin m body 0) (sym same) (record {
  made = made;
  behind = subst (All (λ parent. parent < length bench.files)) (sym parents) (All-cons (λ parent. parent < length bench.files) of [] may.there (All-nil (λ parent. parent < length bench.files)));
  names = names;
  inside = inside;
  named = subst (λ b. encoded_size (bench_attributes bench of) + cond (b && not (contains_key (bench_attributes bench of) (codes "filename"))) FILENAME_SIZE 0 ≤ ATTRIBUTES_MAX) (sym made) may.named;
  files = may.files;
  summed = may.summed;
  room = may.room;
})

to_come_most : (b : Bool) → cond b FILENAME_SIZE 0 ≤ FILENAME_SIZE
to_come_most true = omega arith
to_come_most false = omega arith

to_come : (origin : Origin) (attributes : AttributeMap) → filename_to_come origin attributes ≤ FILENAME_SIZE
to_come origin attributes = to_come_most (is_made origin && not (contains_key attributes (codes "filename")))

encoded_size-empty : encoded_size empty ≡ COUNT_SIZE
unfolding encoded_size
encoded_size-empty =
    let bare : AttributeMap = empty in
    let none : entries bare ≡ [] = nil_from_length (entries bare) (sym (len-entries bare) ∙ len-empty (slice_cmp nat_cmp) (List ℕ)) in
    ap (λ (pairs : List (List ℕ × List ℕ)). sum_by pair_size pairs + COUNT_SIZE) none ∙ zero-add COUNT_SIZE

named_size-empty : (origin : Origin) → named_size origin empty ≤ ATTRIBUTES_MAX
named_size-empty origin = omega (arith, encoded_size-empty, to_come origin empty)

-- a file that comes with no attributes
pub may_begin : (bench : Bench) (origin : Origin) (attributes : AttributeMap) (body : Body) (size handed : ℕ) → is_made origin ≡ true → parents_of origin ≡ [] → NamesEachOnce origin → IsBodyOf bench.sources body → attributes ≡ empty → size ≡ encoded_size attributes
    → length bench.files + 1 ≤ FILES_MAX → attribute_size bench + size ≤ SESSION_ATTRIBUTES_MAX → bench.handed + handed ≤ WRITTEN_MAX → MayCome bench origin attributes body handed
may_begin bench origin attributes body size handed made parents names inside same is files room written = record {
  made = made;
  behind = subst (All (λ parent. parent < length bench.files)) (sym parents) (All-nil (λ parent. parent < length bench.files));
  names = names;
  inside = inside;
  named = subst (λ (m : AttributeMap). named_size origin m ≤ ATTRIBUTES_MAX) (sym same) (named_size-empty origin);
  files = files;
  summed = subst (λ n. attribute_size bench + n ≤ SESSION_ATTRIBUTES_MAX) is room;
  room = written;
}

-- a file that comes from several parents
pub may_join : (bench : Bench) (parents numbers : List ℕ) (attributes : AttributeMap) (size made : ℕ) → numbers ≡ parents → 0 < length parents → IsDistinct (λ a b. a == b) parents → All (λ parent. parent < length bench.files) parents → size ≡ encoded_size attributes → made ≡ made_size attributes
    → made ≤ ATTRIBUTES_MAX → length bench.files + 1 ≤ FILES_MAX → attribute_size bench + size ≤ SESSION_ATTRIBUTES_MAX → bench.handed + 0 ≤ WRITTEN_MAX → MayCome bench (Joined numbers) attributes (New []) 0
may_join bench parents numbers attributes size made same some distinct there is counts most files room written = record {
  made = refl;
  behind = subst (All (λ parent. parent < length bench.files)) (sym same) there;
  names = subst (λ (l : List ℕ). NamesEachOnce (Joined l)) (sym same) (some, distinct);
  inside = omega arith;
  named = subst (λ n. n ≤ ATTRIBUTES_MAX) counts most;
  files = files;
  summed = subst (λ n. attribute_size bench + n ≤ SESSION_ATTRIBUTES_MAX) is room;
  room = written;
}

-- a copy, or a part
pub full-range : (bench : Bench) (of offset size : ℕ) → session_full (with_range bench of offset size) ≡ no_room_for bench (encoded_size (bench_attributes bench of)) 0
full-range bench of offset size = full_of (is_whole bench of offset size)
  where
    full_of : (whole : Bool) → session_full (cond whole (with_clone bench of) (with_part bench of offset size)) ≡ no_room_for bench (encoded_size (bench_attributes bench of)) 0
    full_of true = full-added bench (Cloned of) (bench_attributes bench of) (body_at bench of)
    full_of false = full-added bench (Part of) (bench_attributes bench of) (body_part (body_at bench of) offset size)
