-- How to show that some files are the outcome of a session: the taken ones in turn, then made ones.
use Rattle.std.proofs.Common.{◌≡◌, ℕ, ◌+◌, ◌<◌, ◌≤◌, true, List, [], ◌∷◌, ◌++◌, map, length, refl, sym, subst, arith}
use Rattle.std.specs.Prelude.{All}
use Rattle.std.specs.List.{enumerate_from}
use Rattle.std.proofs.lemmas.Bool.{true≢false}
use Rattle.std.proofs.lemmas.List.Elements.{All-nil, All-weaker}
use Rattle.flowfile_record.specs.declared.worked.Origin.{Origin}
use Rattle.flowfile_record.specs.declared.worked.Origin.TheVariants.{Taken, Created, Received, Forked, Part, Cloned, Joined}
use Rattle.flowfile_record.specs.declared.worked.Worked.{Worked}
use Rattle.flowfile_record.specs.Outcome.{is_made, parents_of, StandsInTurn, AreInTurn}
use Rattle.machine_model.proofs.Tally.{Each}

-- a made file whose parents stand before a place
pub record IsMade (place : ℕ) (file : Worked) : Type 0 where
  pub as_made : is_made file.origin ≡ true
  pub parents : All (λ parent. parent < place) (parents_of file.origin)

in_turn : (place count : ℕ) (from : Origin) → is_made from ≡ true → count ≤ place → StandsInTurn place count from
in_turn place count (Taken of) h le = absurd (true≢false (sym h))
in_turn place count Created h le = le
in_turn place count Received h le = le
in_turn place count (Forked parent) h le = le
in_turn place count (Part parent) h le = le
in_turn place count (Cloned parent) h le = le
in_turn place count (Joined parents) h le = le

-- made files stand behind all others
pub made-from : (first place count : ℕ) (made : List Worked) → first ≤ place → count ≤ place → Each (IsMade first) made → AreInTurn place count made
made-from first place count [] le past all = past
made-from first place count (file ∷ made) le past all = (
  in_turn place count file.origin all.0.as_made past,
  All-weaker (λ parent. parent < first) (λ parent. parent < place) (λ parent h. omega arith) (parents_of file.origin) all.0.parents,
  made-from first (place + 1) count made (omega arith) (omega arith) all.1,
)

-- what a session ends a taken file as, by its place
pub taken-from : {X : Type 0} (end : ℕ → X → Worked) → ((place : ℕ) (x : X) → (end place x).origin ≡ Taken place)
    → (place count : ℕ) (taken : List X) (made : List Worked) → place + length taken ≡ count → Each (IsMade count) made
    → AreInTurn place count (map (λ t. end t.0 t.1) (enumerate_from place taken) ++ made)
taken-from end own place count [] made long all = made-from count place count made (omega arith) (omega arith) all
taken-from end own place count (x ∷ taken) made long all = (
  subst (StandsInTurn place count) (sym (own place x)) (refl, omega arith),
  subst (λ from. All (λ parent. parent < place) (parents_of from)) (sym (own place x)) (All-nil (λ parent. parent < place)),
  taken-from end own (place + 1) count taken made (omega arith) all,
)

-- all taken files, each ended in turn, and some made ones
pub taken-then-made : {X : Type 0} (end : ℕ → X → Worked) → ((place : ℕ) (x : X) → (end place x).origin ≡ Taken place) → (taken : List X) (made : List Worked) → Each (IsMade (length taken)) made
    → AreInTurn 0 (length taken) (map (λ t. end t.0 t.1) (enumerate_from 0 taken) ++ made)
taken-then-made end own taken made all = taken-from end own 0 (length taken) taken made (omega arith) all
