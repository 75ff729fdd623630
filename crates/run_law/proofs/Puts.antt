-- What the steps of a journal put, one entry after the other.
use Rattle.std.proofs.Common.{◌≡◌, ℕ, List, [], ◌∷◌, ◌++◌, refl, sym, ◌∙◌, ap, append_assoc}
use Rattle.std.proofs.lemmas.List.{append-nil, map-append}
use Rattle.std.specs.Prelude.{Option, None, Some, option_and_then}
use Rattle.std.specs.Option.{option_map_or}
use Rattle.flowfile_record.specs.NamedFile.{NamedFile}
use Rattle.machine_model.specs.declared.flow.Flow.{Flow}
use Rattle.machine_model.specs.declared.journal.Entry.{Entry}
use Rattle.machine_model.specs.declared.journal.Step.{Step}
use Rattle.machine_model.specs.Acknowledged.{steps}
use Rattle.machine_model.specs.State.{Machine}
use Rattle.machine_model.specs.Stepping.{replay, step}
use Rattle.run_law.specs.Puts.{Start, puts_of, puts_of_step}
use Rattle.run_law.specs.Run.{HasPut}

-- at first nothing was put
pub nothing_put : (flow : Flow) (start : Start) (opened : Machine) (standing : List ℕ → Option (List ℕ)) → standing ≡ opened.world.outbox → HasPut flow start opened [] opened (record { standing = standing; puts = start.puts })
nothing_put flow start opened standing is = record { standing = is; puts = sym (append-nil start.puts) }

abbrev none_put : Machine → List NamedFile
none_put after = []

nothing_behind : (found : Option Machine) → ◌≡◌ {A = List NamedFile} (option_map_or none_put found []) []
nothing_behind None = refl
nothing_behind (Some after) = refl

-- steps and one more
puts_and_one : (flow : Flow) (before reached : Machine) (all : List Step) (one : Step) → replay flow before all ≡ Some reached
    → puts_of flow before (all ++ one ∷ []) ≡ puts_of flow before all ++ puts_of_step flow reached one
puts_and_one flow before reached [] one is =
    let same : before ≡ reached = cc in
    ap (λ (l : List NamedFile). puts_of_step flow before one ++ l) (nothing_behind (step flow before one))
    ∙ append-nil (puts_of_step flow before one)
    ∙ ap (λ (m : Machine). puts_of_step flow m one) same
puts_and_one flow before reached (first ∷ rest) one is =
    ap (λ (l : List NamedFile). puts_of_step flow before first ++ l) (behind (λ after there. puts_and_one flow after reached rest one there) (step flow before first) is)
    ∙ sym (append_assoc (puts_of_step flow before first) (option_map_or (λ after. puts_of flow after rest) (step flow before first) []) (puts_of_step flow reached one))
  where
    behind : ((after : Machine) → replay flow after rest ≡ Some reached → puts_of flow after (rest ++ one ∷ []) ≡ puts_of flow after rest ++ puts_of_step flow reached one)
        → (found : Option Machine) → option_and_then (λ after. replay flow after rest) found ≡ Some reached
        → option_map_or (λ after. puts_of flow after (rest ++ one ∷ [])) found [] ≡ option_map_or (λ after. puts_of flow after rest) found [] ++ puts_of_step flow reached one
    behind later None is = absurd cc
    behind later (Some after) is = later after is

-- as an entry of the journal, behind what was put before
pub puts_behind : (flow : Flow) (opened reached : Machine) (before : List NamedFile) (journal : List Entry) (entry : Entry) → replay flow opened (steps journal) ≡ Some reached
    → before ++ puts_of flow opened (steps journal) ++ puts_of_step flow reached entry.step ≡ before ++ puts_of flow opened (steps (journal ++ entry ∷ []))
puts_behind flow opened reached before journal entry is =
    append_assoc before (puts_of flow opened (steps journal)) (puts_of_step flow reached entry.step)
    ∙ ap (λ (l : List NamedFile). before ++ l) (sym (ap (puts_of flow opened) (map-append (λ (e : Entry). e.step) journal (entry ∷ [])) ∙ puts_and_one flow opened reached (steps journal) entry.step is))
