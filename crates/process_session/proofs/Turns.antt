-- Files in turn: the taken ones at their places, then made ones behind their parents.
use Rattle.std.proofs.Common.{◌≡◌, ℕ, ◌+◌, ◌<◌, ◌≤◌, true, List, [], ◌∷◌, ◌++◌, length, map, refl, subst, arith, add-zero}
use Rattle.std.specs.List.{All}
use Rattle.std.proofs.lemmas.List.Elements.{All-nil}
use Rattle.flowfile_record.specs.Outcome.{AreInTurn, StandsInTurn, is_made, parents_of}
use Rattle.flowfile_record.specs.declared.worked.Origin.{Origin}
use Rattle.flowfile_record.specs.declared.worked.Origin.TheVariants.{Taken as FromQueue, Created, Received, Forked, Part, Cloned, Joined}
use Rattle.process_session.specs.declared.file.File.{File}
use Rattle.process_session.specs.declared.file.Taken.{Taken}
use Rattle.process_session.specs.Bench.{files_taken}
use Rattle.process_session.specs.Sound.{as_worked}
use Rattle.process_session.proofs.Changing.{origin_of}

abbrev AreBehind : ℕ → Origin → Type 0
AreBehind place origin = All (λ parent. parent < place) (parents_of origin)

-- files with the same origins are in turn as well
pub in_turn-origins : (place count : ℕ) (files others : List File) → map origin_of files ≡ map origin_of others → AreInTurn place count (map as_worked files) → AreInTurn place count (map as_worked others)
in_turn-origins place count [] [] same turn = turn
in_turn-origins place count [] (other ∷ others) same turn = cc
in_turn-origins place count (file ∷ files) [] same turn = cc
in_turn-origins place count (file ∷ files) (other ∷ others) same turn =
    let head : file.origin ≡ other.origin = cc in
    let tail : map origin_of files ≡ map origin_of others = cc in (
      subst (StandsInTurn place count) head turn.0,
      subst (AreBehind place) head turn.1,
      in_turn-origins (place + 1) count files others tail turn.2,
    )

pub made_stands : (place count : ℕ) (origin : Origin) → is_made origin ≡ true → count ≤ place → StandsInTurn place count origin
made_stands place count (FromQueue of) made behind = cc
made_stands place count Created made behind = behind
made_stands place count Received made behind = behind
made_stands place count (Forked parent) made behind = behind
made_stands place count (Part parent) made behind = behind
made_stands place count (Cloned parent) made behind = behind
made_stands place count (Joined parents) made behind = behind

-- one more made file behind them
pub in_turn-push : (place count : ℕ) (files : List File) (file : File) → is_made file.origin ≡ true → AreBehind (place + length files) file.origin → AreInTurn place count (map as_worked files) → AreInTurn place count (map as_worked (files ++ file ∷ []))
in_turn-push place count [] file made behind turn = (
  made_stands place count file.origin made turn,
  subst (λ n. AreBehind n file.origin) (add-zero place) behind,
  omega arith,
)
in_turn-push place count (first ∷ files) file made behind turn =
    let later : place + length (first ∷ files) ≡ place + 1 + length files = omega arith in
    (turn.0, turn.1, in_turn-push (place + 1) count files file made (subst (λ n. AreBehind n file.origin) later behind) turn.2)

-- the taken files
pub in_turn-taken : (place count : ℕ) (files : List Taken) → place + length files ≡ count → AreInTurn place count (map as_worked (files_taken place files))
in_turn-taken place count [] all = omega arith
in_turn-taken place count (file ∷ files) all = ((refl, omega arith), All-nil _, in_turn-taken (place + 1) count files (omega arith))
