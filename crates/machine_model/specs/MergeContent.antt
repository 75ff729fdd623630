-- MergeContent: one file that joins all that were taken. It has the attributes that they share, without those of a
-- fragment, and is told how many they were; its content is theirs, joined in their order. It goes to merged, which is
-- 0, the taken files to original, 1. Under Defragment the taken files have to be all fragments of one whole, in turn,
-- and where they share the name of that whole it is that of the joined file. Otherwise, or at a limit, it gives up to
-- failure, 2.
use Rattle.std.specs.Prelude.{ℕ, ◌==◌, ◌&&◌, Bool, true, false, List, [], ◌∷◌, ◌++◌, length, map, fold, codes, decimal, Option, Some, None, option_map, option_and_then, if◌then◌else◌}
use Rattle.std.specs.FinMap.{empty, get, remove}
use Rattle.std.specs.List.{concat, enumerate_from, list_all, range_with_len}
use Rattle.std.specs.Option.{option_map_or}
use Rattle.flowfile_record.specs.Attributes.{AttributeMap, shared}
use Rattle.flowfile_record.specs.declared.worked.Origin.{Origin}
use Rattle.flowfile_record.specs.declared.worked.Origin.TheVariants.{Joined}
use Rattle.flowfile_record.specs.declared.worked.Outcome.{Outcome}
use Rattle.machine_model.specs.declared.kind.MergeStrategy.{MergeStrategy}
use Rattle.machine_model.specs.declared.kind.MergeStrategy.TheVariants.{BinPacking, Defragment}
use Rattle.machine_model.specs.Making.{TakenFile, made_file, passed_from, may_have, with_set, as_content, or_given_up}
use Rattle.machine_model.specs.Taking.{Fragment, fragment_of, is_fragment_at}

-- ---- which files may be joined

-- as many as the whole has, the first of index 1, and so on
abbrev pub are_fragments_of : List TakenFile → Option Fragment → Bool
are_fragments_of taken None = false
are_fragments_of taken (Some fragment) =
    (length taken == fragment.count)
    && list_all (λ file. is_fragment_at fragment file.0 (fragment_of file.1.attributes)) (enumerate_from 1 taken)

abbrev pub may_join : MergeStrategy → List TakenFile → Bool
may_join BinPacking taken = true
may_join Defragment [] = false
may_join Defragment (file ∷ files) = are_fragments_of (file ∷ files) (fragment_of file.attributes)

-- ---- what the joined file has

-- the attributes that all have
abbrev pub shared_by_all : List TakenFile → AttributeMap
shared_by_all [] = empty
shared_by_all (file ∷ files) = fold (λ these other. shared these other.attributes) file.attributes files

abbrev pub without_fragment : AttributeMap → AttributeMap
without_fragment attributes =
    remove (remove (remove attributes (codes "fragment.identifier")) (codes "fragment.index")) (codes "fragment.count")

-- under Defragment it is named as the whole was
abbrev pub named_as_whole : MergeStrategy → Origin → AttributeMap → Option AttributeMap
named_as_whole BinPacking origin attributes = Some attributes
named_as_whole Defragment origin attributes =
    option_map_or (λ name. with_set origin attributes (codes "filename", name))
    (get attributes (codes "segment.original.filename")) (Some attributes)

abbrev pub counted : (count : ℕ) → Origin → AttributeMap → Option AttributeMap
counted count origin attributes =
    with_set origin (remove attributes (codes "segment.original.filename")) (codes "merge.count", decimal count)

abbrev pub joined_attributes : MergeStrategy → Origin → List TakenFile → Option AttributeMap
joined_attributes strategy origin taken =
    let common = shared_by_all taken in
    if may_have origin common
    then option_and_then (counted (length taken) origin) (named_as_whole strategy origin (without_fragment common))
    else None

abbrev pub joined_content : List TakenFile → Option (List ℕ)
joined_content taken = as_content (concat (map (λ file. file.bytes) taken))

-- ---- what becomes of all

abbrev pub joined : MergeStrategy → List TakenFile → Option Outcome
joined strategy taken =
    let origin = Joined (range_with_len 0 (length taken)) in
    option_and_then (λ attributes.
    option_map (λ bytes.
    record { files = passed_from 0 1 taken ++ made_file origin attributes bytes true 0 ∷ []; sent = None })
    (joined_content taken))
    (joined_attributes strategy origin taken)

abbrev pub merge : MergeStrategy → List TakenFile → Outcome
merge strategy taken = or_given_up 2 taken (if may_join strategy taken then joined strategy taken else None)
