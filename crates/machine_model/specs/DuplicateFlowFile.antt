-- DuplicateFlowFile: so many clones; file and clones to success, which is 0. A limit gives up to success.
use Rattle.std.specs.Prelude.{ℕ, false, [], ◌∷◌, replicate, Option, Some, None, if◌then◌else◌}
use Rattle.flowfile_record.specs.declared.worked.Origin.TheVariants.{Cloned}
use Rattle.flowfile_record.specs.declared.worked.Outcome.{Outcome}
use Rattle.machine_model.specs.Making.{TakenFile, passed_on, clone_of, may_have, or_given_up}

abbrev pub duplicated : (copies : ℕ) → TakenFile → Option Outcome
duplicated copies file =
    let clones = replicate copies (clone_of 0 file.attributes 0) in
    if may_have (Cloned 0) file.attributes
    then Some (record { files = passed_on 0 file.attributes false 0 ∷ clones; sent = None }) else None

abbrev pub duplicate : (copies : ℕ) → TakenFile → Outcome
duplicate copies file = or_given_up 0 (file ∷ []) (duplicated copies file)
