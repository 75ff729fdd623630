-- That what parts and merged files come from ends in turn.
use Rattle.std.proofs.Common.{◌≡◌, ℕ, zero, suc, ◌+◌, ◌<◌, ◌≤◌, Bool, true, false, cond, ◌&&◌, List, [], ◌∷◌, ◌++◌, length, refl, subst, arith}
use Rattle.std.specs.Prelude.{All, IfSome, Option, Some, None, ◌==◌, nat_lt, option_map}
use Rattle.std.specs.List.{range_with_len}
use Rattle.std.proofs.lemmas.List.{append-nil}
use Rattle.std.proofs.lemmas.List.Elements.{All-nil, All-cons}
use Rattle.flowfile_record.specs.Attributes.{AttributeMap, encoded_size}
use Rattle.flowfile_record.specs.Outcome.{AreInTurn}
use Rattle.flowfile_record.specs.declared.limits.TheConstants.{FILES_MAX}
use Rattle.flowfile_record.specs.declared.worked.Body.TheVariants.{Part}
use Rattle.flowfile_record.specs.declared.worked.Origin.TheVariants.{Joined, Part as PartOf}
use Rattle.flowfile_record.specs.declared.worked.Outcome.{Outcome}
use Rattle.flowfile_record.specs.declared.worked.Worked.{Worked}
use Rattle.machine_model.specs.declared.kind.MergeStrategy.{MergeStrategy}
use Rattle.machine_model.specs.Laws.{EndsAllInTurn}
use Rattle.machine_model.specs.Making.{TakenFile, made_file, passed_on, passed_from, clone_of, or_given_up}
use Rattle.machine_model.specs.MergeContent.{merge, joined, joined_attributes, joined_content, may_join}
use Rattle.machine_model.specs.Parts.{Piece, all_set_beside, fragment_pairs, part_of, parts_from, parted}
use Rattle.machine_model.proofs.Options.{if_and_then, if_at, if_map}
use Rattle.machine_model.proofs.Outcomes.{IsMade, made-from}
use Rattle.machine_model.proofs.Tally.{Each}

pub if_allowed : {A : Type 0} (b : Bool) (o : Option A) (P : A → Type 0) → (b ≡ true → IfSome o P) → IfSome (cond b o None) P
if_allowed true o P h = h refl
if_allowed false o P h = tt

-- taken files that are passed on, and made ones behind them
pub passed-turn : (relationship place count : ℕ) (taken : List TakenFile) (made : List Worked) → place + length taken ≡ count → Each (IsMade count) made
    → AreInTurn place count (passed_from place relationship taken ++ made)
passed-turn relationship place count [] made long all = made-from count place count made (omega arith) (omega arith) all
passed-turn relationship place count (file ∷ taken) made long all =
    ((refl, omega arith), All-nil (λ parent. parent < place), passed-turn relationship (place + 1) count taken made (omega arith) all)

pub given-up-turn : (relationship : ℕ) (taken : List TakenFile) (made : Option Outcome) → IfSome made (EndsAllInTurn (length taken)) → EndsAllInTurn (length taken) (or_given_up relationship taken made)
given-up-turn relationship taken (Some outcome) ends = ends
given-up-turn relationship taken None ends =
    subst (AreInTurn 0 (length taken)) (append-nil (passed_from 0 relationship taken)) (passed-turn relationship 0 (length taken) taken [] (omega arith) tt)

-- ---- parts

of-first : All (λ parent. parent < 1) (0 ∷ [])
of-first = All-cons (λ parent. parent < 1) 0 [] (omega arith) (All-nil (λ parent. parent < 1))

part-made : (file : TakenFile) (attributes : AttributeMap) (offset size relationship : ℕ) → IsMade 1 (part_of file attributes offset size relationship)
part-made file attributes offset size relationship =
    let clone = clone_of 0 attributes relationship in
    elim ((offset == 0) && (size == length file.bytes)) as (λ b. IsMade 1 (cond b clone (record clone { origin = PartOf 0; body = Part 0 offset size }))) [
      | true ↦ record { as_made = refl; parents = of-first }
      | false ↦ record { as_made = refl; parents = of-first }
    ]

pub parts-made : (file : TakenFile) (relationship count index offset others : ℕ) (pieces : List Piece) → IfSome (parts_from file relationship count index offset others pieces) (Each (IsMade 1))
parts-made file relationship count index offset others [] = tt
parts-made file relationship count index offset others (piece ∷ pieces) =
    let set = all_set_beside others file.attributes (piece.told ++ fragment_pairs file index count) in
    let behind : AttributeMap → Option (List Worked) = λ attributes. parts_from file relationship count (index + 1) (offset + piece.size) (others + encoded_size attributes) pieces in
    let part : AttributeMap → Worked = λ attributes. part_of file attributes offset piece.size relationship in
    if_and_then (λ attributes. option_map (λ parts. part attributes ∷ parts) (behind attributes)) set (Each (IsMade 1)) (λ attributes is.
    if_map (λ parts. part attributes ∷ parts) (behind attributes) (Each (IsMade 1)) (λ parts are. (
      part-made file attributes offset piece.size relationship,
      if_at (behind attributes) parts (Each (IsMade 1)) are (parts-made file relationship count (index + 1) (offset + piece.size) (others + encoded_size attributes) pieces),
    )))

pub parted-turn : (original parts : ℕ) (file : TakenFile) (pieces : List Piece) → IfSome (parted original parts file pieces) (EndsAllInTurn 1)
parted-turn original parts file pieces =
    let made = parts_from file parts (length pieces) 1 0 (encoded_size file.attributes) pieces in
    let whole : List Worked → Outcome = λ made. record { files = passed_on 0 file.attributes false original ∷ made; sent = None } in
    if_allowed (nat_lt (length pieces) FILES_MAX) (option_map whole made) (EndsAllInTurn 1) (λ few.
    if_map whole made (EndsAllInTurn 1) (λ files are.
    passed-turn original 0 1 (file ∷ []) files (omega arith)
    (if_at made files (Each (IsMade 1)) are (parts-made file parts (length pieces) 1 0 (encoded_size file.attributes) pieces))))

pub parts-turn : (original parts : ℕ) (file : TakenFile) (pieces : List Piece) → EndsAllInTurn 1 (or_given_up 2 (file ∷ []) (parted original parts file pieces))
parts-turn original parts file pieces = given-up-turn 2 (file ∷ []) (parted original parts file pieces) (parted-turn original parts file pieces)

-- ---- merged files

pub range-below : (from count most : ℕ) → from + count ≤ most → All (λ place. place < most) (range_with_len from count)
range-below from zero most le = All-nil (λ place. place < most)
range-below from (suc count) most le = All-cons (λ place. place < most) from (range_with_len (from + 1) count) (omega arith) (range-below (from + 1) count most (omega arith))

joined-turn : (strategy : MergeStrategy) (taken : List TakenFile) → IfSome (joined strategy taken) (EndsAllInTurn (length taken))
joined-turn strategy taken =
    let count = length taken in
    let origin = Joined (range_with_len 0 count) in
    let whole : AttributeMap → List ℕ → Outcome = λ attributes bytes. record { files = passed_from 0 1 taken ++ made_file origin attributes bytes true 0 ∷ []; sent = None } in
    if_and_then (λ attributes. option_map (whole attributes) (joined_content taken)) (joined_attributes strategy origin taken) (EndsAllInTurn count) (λ attributes is.
    if_map (whole attributes) (joined_content taken) (EndsAllInTurn count) (λ bytes has.
    passed-turn 1 0 count taken (made_file origin attributes bytes true 0 ∷ []) (omega arith)
    (record { as_made = refl; parents = range-below 0 count count (omega arith) }, tt)))

pub merge-turn : (strategy : MergeStrategy) (taken : List TakenFile) → EndsAllInTurn (length taken) (merge strategy taken)
merge-turn strategy taken =
    given-up-turn 2 taken (cond (may_join strategy taken) (joined strategy taken) None)
    (if_allowed (may_join strategy taken) (joined strategy taken) (EndsAllInTurn (length taken)) (λ may. joined-turn strategy taken))
