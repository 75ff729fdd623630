-- Which files of a session were taken, and which are new.
use Rattle.std.proofs.Common.{◌≡◌, ◌⊎◌, inl, inr, ℕ, zero, suc, ◌+◌, ◌<◌, ◌≤◌, true, false, cond, List, [], ◌∷◌, map, length, refl, ap, ◌∙◌, arith}
use Rattle.std.specs.Prelude.{All, slice_index, zip}
use Rattle.std.proofs.lemmas.List.Elements.{All-head, All-tail}
use Rattle.flowfile_record.specs.Outcome.{AreInTurn, IsEndOf, IsWorked, StandsInTurn, is_made}
use Rattle.flowfile_record.specs.declared.flow_file.FlowFile.{FlowFile}
use Rattle.flowfile_record.specs.declared.worked.End.{End}
use Rattle.flowfile_record.specs.declared.worked.End.TheVariants.{To, Back, Removed}
use Rattle.flowfile_record.specs.declared.worked.Origin.{Origin}
use Rattle.flowfile_record.specs.declared.worked.Origin.TheVariants as origin
use Rattle.flowfile_record.specs.declared.worked.Worked.{Worked}
use Rattle.machine_model.specs.Kinds.{is_among}
use Rattle.machine_model.specs.Placing as placing
use Rattle.machine_model.specs.Placing.{SettledFile, Destination, goes, to_connections, to_relationship, connections_of, numbers_from, number_by, next_behind, settled_file}
use Rattle.machine_model.specs.Settling.{in_queue}
use Rattle.machine_model.specs.State.{QueuedFile}
use Rattle.machine_model.proofs.Among.{Among}
use Rattle.machine_model.proofs.Tally.{Each}
use Rattle.settlement.specs.Placing.{taken_arrival}
use Rattle.settlement.proofs.EndedFiles.{Case, session}

-- what comes back of a file
abbrev pub back_of : Case → SettledFile → Destination → List QueuedFile
back_of c file placing.Returns = in_queue file file.number (taken_arrival c.ended.taken file.worked.origin) ∷ []
back_of c file _ = []

abbrev pub back : Case → SettledFile → List QueuedFile
back c file = back_of c file file.goes

-- a taken file keeps its number and its arrival
pub record IsTakenOne (c : Case) (file : SettledFile) : Type 0 where
  pub taken : FlowFile
  pub there : Among taken c.ended.taken
  pub number : file.number ≡ taken.number
  pub arrival : taken_arrival c.ended.taken file.worked.origin ≡ taken.arrival

-- a new one has a new number, and doesn't come back
pub record IsNewOne (c : Case) (file : SettledFile) : Type 0 where
  pub number : c.state.next_number ≤ file.number
  pub stays_out : back c file ≡ []

abbrev pub IsEitherOne : Case → SettledFile → Type 0
IsEitherOne c file = IsTakenOne c file ⊎ IsNewOne c file

-- ---- a taken one

-- the taken file of a place
record IsAt (taken : List FlowFile) (place : ℕ) : Type 0 where
  file : FlowFile
  there : Among file taken
  number : slice_index (map (λ file. file.number) taken) place ≡ file.number
  arrival : slice_index (map (λ file. file.arrival) taken) place ≡ file.arrival

taken_at : (taken : List FlowFile) (place : ℕ) → place < length taken → IsAt taken place
taken_at [] place h = absurd (omega arith)
taken_at (file ∷ taken) zero h = record { file = file; there = inl refl; number = refl; arrival = refl }
taken_at (file ∷ taken) (suc place) h =
    let at = taken_at taken place (omega arith) in
    record { file = at.file; there = inr at.there; number = at.number; arrival = at.arrival }

-- ---- a new one

connections_lead : (c : Case) (file : SettledFile) (relationship : List ℕ) (found : List ℕ) → back_of c file (to_connections relationship found) ≡ []
connections_lead c file relationship [] = refl
connections_lead c file relationship (first ∷ others) = refl

leads_on : (c : Case) (file : SettledFile) (relationship : List ℕ) → back_of c file (to_relationship c.flow c.ended.processor c.processor relationship) ≡ []
leads_on c file relationship =
    elim (is_among relationship c.processor.terminated) as (λ b. back_of c file (cond b (placing.Drops relationship) (to_connections relationship (connections_of c.flow c.ended.processor relationship))) ≡ []) [
      | true ↦ refl
      | false ↦ connections_lead c file relationship (connections_of c.flow c.ended.processor relationship)
    ]

made_goes_on : (c : Case) (file : SettledFile) (relationships : ℕ) (from : Origin) (end : End) → is_made from ≡ true → IsEndOf relationships from end
    → back_of c file (goes c.flow c.ended.processor c.processor end) ≡ []
made_goes_on c file relationships from (To relationship) made ends = leads_on c file _
made_goes_on c file relationships from Back made ends = cc
made_goes_on c file relationships from Removed made ends = refl

-- ---- all of them

step_of : (c : Case) (relationships place next entered : ℕ) (worked : Worked) (from : Origin) → worked.origin ≡ from → c.state.next_number ≤ next
    → StandsInTurn place (length c.ended.taken) from → IsEndOf relationships from worked.«end»
    → IsEitherOne c (settled_file (session c) (number_by next (map (λ (file : FlowFile). file.number) c.ended.taken) from, entered, worked)) × (next ≤ next_behind next from)
step_of c relationships place next entered worked (origin.Taken of) is le turn ends =
    let within : of < length c.ended.taken = omega (arith, turn.0, turn.1) in
    let at = taken_at c.ended.taken of within in
    (inl (record { taken = at.file; there = at.there; number = at.number; arrival = ap (taken_arrival c.ended.taken) is ∙ at.arrival }), omega arith)
step_of c relationships place next entered worked origin.Created is le turn ends = (inr (record { number = le; stays_out = made_goes_on c (settled_file (session c) (next, entered, worked)) relationships origin.Created worked.«end» refl ends }), omega arith)
step_of c relationships place next entered worked origin.Received is le turn ends = (inr (record { number = le; stays_out = made_goes_on c (settled_file (session c) (next, entered, worked)) relationships origin.Received worked.«end» refl ends }), omega arith)
step_of c relationships place next entered worked (origin.Forked of) is le turn ends = (inr (record { number = le; stays_out = made_goes_on c (settled_file (session c) (next, entered, worked)) relationships (origin.Forked of) worked.«end» refl ends }), omega arith)
step_of c relationships place next entered worked (origin.Part of) is le turn ends = (inr (record { number = le; stays_out = made_goes_on c (settled_file (session c) (next, entered, worked)) relationships (origin.Part of) worked.«end» refl ends }), omega arith)
step_of c relationships place next entered worked (origin.Cloned of) is le turn ends = (inr (record { number = le; stays_out = made_goes_on c (settled_file (session c) (next, entered, worked)) relationships (origin.Cloned of) worked.«end» refl ends }), omega arith)
step_of c relationships place next entered worked (origin.Joined of) is le turn ends = (inr (record { number = le; stays_out = made_goes_on c (settled_file (session c) (next, entered, worked)) relationships (origin.Joined of) worked.«end» refl ends }), omega arith)

pub each-either : (c : Case) (relationships : ℕ) (sizes : List ℕ) (place next : ℕ) (entered : List ℕ) (files : List Worked) → c.state.next_number ≤ next
    → AreInTurn place (length c.ended.taken) files → All (IsWorked relationships sizes) files
    → Each (IsEitherOne c) (map (λ f. settled_file (session c) (f.0, f.1.0, f.1.1)) (zip (numbers_from next (map (λ (file : FlowFile). file.number) c.ended.taken) files) (zip entered files)))
each-either c relationships sizes place next entered [] le turn each = tt
each-either c relationships sizes place next [] (worked ∷ files) le turn each = tt
each-either c relationships sizes place next (moment ∷ entered) (worked ∷ files) le turn each =
    let step = step_of c relationships place next moment worked worked.origin refl le turn.0 (All-head (IsWorked relationships sizes) worked files each).ends in
    (step.0, each-either c relationships sizes (place + 1) (next_behind next worked.origin) entered files (omega (arith, le, step.1)) turn.2 (All-tail (IsWorked relationships sizes) worked files each))
