-- What fragments are, as attributes are read, and files that are in turn, a file at a time.
use Rattle.std.proofs.Common.{◌≡◌, ℕ, ◌+◌, ◌<◌, true, false, List, [], ◌∷◌, length, map, drop, get_or, Option, sym, ◌∙◌, ap, arith, Bool}
use Rattle.std.specs.Prelude.{◌==◌, ◌&&◌}
use Rattle.std.specs.List.{enumerate_from, list_all}
use Rattle.flowfile_record.specs.Attributes.{AttributeMap}
use Rattle.machine_model.specs.Making.{TakenFile}
use Rattle.machine_model.specs.MergeContent.{are_fragments_of, may_join}
use Rattle.machine_model.specs.declared.kind.MergeStrategy.TheVariants.{Defragment}
use Rattle.machine_model.specs.Taking.{Fragment, fragment_of, is_fragment_at}
use Rattle.process_session.specs.declared.file.File.{File}
use Rattle.proc_merge.specs.Taken.{file_seen}
use Rattle.proc_merge.proofs.Passed.{left}

-- the files from a place on are fragments from an index on
abbrev pub in_turn : Fragment → (index : ℕ) → List File → Bool
in_turn fragment index files =
    list_all (λ (file : ℕ × TakenFile). is_fragment_at fragment file.0 (fragment_of file.1.attributes)) (enumerate_from index (map file_seen files))

turn-step : (fragment : Fragment) (files : List File) (place : ℕ) (d : File) → place < length files
    → in_turn fragment (place + 1) (drop place files) ≡ (is_fragment_at fragment (place + 1) (fragment_of (get_or files place d).attributes) && in_turn fragment (place + 1 + 1) (drop (place + 1) files))
turn-step fragment files place d within = ap (in_turn fragment (place + 1)) (left files place d within)

pub turn-goes-on : (fragment : Fragment) (files : List File) (place : ℕ) (d : File) (attributes : AttributeMap) → place < length files → attributes ≡ (get_or files place d).attributes
    → is_fragment_at fragment (place + 1) (fragment_of attributes) ≡ true → in_turn fragment (place + 1) (drop place files) ≡ in_turn fragment (place + 1 + 1) (drop (place + 1) files)
turn-goes-on fragment files place d attributes within is passes =
    turn-step fragment files place d within
    ∙ ap (λ b. b && in_turn fragment (place + 1 + 1) (drop (place + 1) files)) (ap (λ a. is_fragment_at fragment (place + 1) (fragment_of a)) (sym is) ∙ passes)

pub turn-breaks : (fragment : Fragment) (files : List File) (place : ℕ) (d : File) (attributes : AttributeMap) → place < length files → attributes ≡ (get_or files place d).attributes
    → is_fragment_at fragment (place + 1) (fragment_of attributes) ≡ false → in_turn fragment (place + 1) (drop place files) ≡ false
turn-breaks fragment files place d attributes within is fails =
    turn-step fragment files place d within
    ∙ ap (λ b. b && in_turn fragment (place + 1 + 1) (drop (place + 1) files)) (ap (λ a. is_fragment_at fragment (place + 1) (fragment_of a)) (sym is) ∙ fails)

-- ---- all of them

pub counted-and : (n m count : ℕ) (counts rest : Bool) → n ≡ m → (m == count) ≡ counts → (counts && rest) ≡ ((n == count) && rest)
counted-and n m count counts rest same is = ap (λ b. b && rest) (sym is ∙ ap (λ k. k == count) (sym same))

pub first-decides : (files : List File) (d : File) (found : Option Fragment) → 0 < length files → fragment_of (get_or files 0 d).attributes ≡ found → are_fragments_of (map file_seen files) found ≡ may_join Defragment (map file_seen files)
first-decides [] d found some is = absurd (omega arith)
first-decides (file ∷ files) d found some is = ap (are_fragments_of (map file_seen (file ∷ files))) (sym is)
