-- How many clones and events a session has at most.
use Rattle.std.proofs.Common.{◌≡◌, ℕ, suc, ◌+◌, ◌*◌, ◌≤◌, Bool, true, false, cond, List, [], ◌∷◌, map, length, ap, ◌∙◌, arith, length-append}
use Rattle.std.specs.Prelude.{filter, zip}
use Rattle.std.specs.List.{enumerate_from}
use Rattle.std.proofs.lemmas.List.{length-map}
use Rattle.std.proofs.lemmas.List.FromFn.{length-enumerate_from}
use Rattle.flowfile_record.specs.declared.flow_file.FlowFile.{FlowFile}
use Rattle.flowfile_record.specs.declared.worked.End.{End}
use Rattle.flowfile_record.specs.declared.worked.End.TheVariants.{To, Back, Removed}
use Rattle.flowfile_record.specs.declared.worked.Worked.{Worked}
use Rattle.machine_model.specs.declared.flow.Connection.{Connection}
use Rattle.machine_model.specs.declared.flow.Flow.{Flow}
use Rattle.machine_model.specs.declared.flow.Processor.{Processor}
use Rattle.machine_model.specs.Kinds.{is_among}
use Rattle.machine_model.specs.Placing as placing
use Rattle.machine_model.specs.Placing.{entered_in, goes, leads, numbers_from, to_connections, to_relationship, connections_of}
use Rattle.settlement.specs.Ending.{EndingPlace, ended_file, ended_files, goes_to}
use Rattle.settlement.specs.Placing.{further, wanted}
use Rattle.settlement.specs.declared.file.EndedFile.{EndedFile}

pub length_filter : {X : Type 0} (p : X → Bool) (xs : List X) → length (filter p xs) ≤ length xs
length_filter p [] = omega arith
length_filter p (x ∷ xs) =
    elim (p x) as (λ b. length (cond b (x ∷ filter p xs) (filter p xs)) ≤ suc (length xs)) [ true ↦ omega (arith, length_filter p xs) | false ↦ omega (arith, length_filter p xs) ]

-- ---- clones

connections_bound : (flow : Flow) (processor : ℕ) (relationship : List ℕ) → length (connections_of flow processor relationship) ≤ length flow.connections
connections_bound flow processor relationship =
    omega (
      arith,
      length-map (filter (leads processor relationship) (enumerate_from 0 flow.connections)) (λ (c : ℕ × Connection). c.0),
      length_filter (leads processor relationship) (enumerate_from 0 flow.connections),
      length-enumerate_from 0 flow.connections,
    )

to_bound : (relationship found : List ℕ) → length (further (goes_to (to_connections relationship found))) ≤ length found
to_bound relationship [] = omega arith
to_bound relationship (first ∷ others) = omega arith

relationship_bound : (flow : Flow) (place : ℕ) (processor : Processor) (relationship : List ℕ) → length (further (goes_to (to_relationship flow place processor relationship))) ≤ length flow.connections
relationship_bound flow place processor relationship =
    elim (is_among relationship processor.terminated) as (λ b. length (further (goes_to (cond b (placing.Drops relationship) (to_connections relationship (connections_of flow place relationship))))) ≤ length flow.connections) [
      | true ↦ omega arith
      | false ↦ omega (arith, to_bound relationship (connections_of flow place relationship), connections_bound flow place relationship)
    ]

end_bound : (flow : Flow) (place : ℕ) (processor : Processor) (end : End) → length (further (goes_to (goes flow place processor end))) ≤ length flow.connections
end_bound flow place processor (To relationship) = relationship_bound flow place processor _
end_bound flow place processor Back = omega arith
end_bound flow place processor Removed = omega arith

length_wanted : (file : EndedFile) (files : List EndedFile) → length (wanted (file ∷ files)) ≡ length (further file.goes) + length (wanted files)
length_wanted file files =
    length-append (map (λ connection. (file, connection)) (further file.goes)) (wanted files)
    ∙ ap (λ n. n + length (wanted files)) (length-map (further file.goes) (λ connection. (file, connection)))

zipped_bound : (at : EndingPlace) (most : ℕ) → length at.flow.connections ≤ most → (numbers entered : List ℕ) (files : List Worked)
    → length (wanted (map (λ f. ended_file at (f.0, f.1.0, f.1.1)) (zip numbers (zip entered files)))) ≤ length files * most
zipped_bound at most le [] entered files = omega arith
zipped_bound at most le (number ∷ numbers) [] files = omega arith
zipped_bound at most le (number ∷ numbers) (moment ∷ entered) [] = omega arith
zipped_bound at most le (number ∷ numbers) (moment ∷ entered) (file ∷ files) =
    let rest = zipped_bound at most le numbers entered files in
    let first = end_bound at.flow at.place at.processor file.«end» in
    omega (
      arith,
      length_wanted (ended_file at (number, moment, file)) (map (λ f. ended_file at (f.0, f.1.0, f.1.1)) (zip numbers (zip entered files))),
      rest,
      first,
    )

-- each file has fewer clones than there are connections
pub clones-bound : (at : EndingPlace) (next most : ℕ) (files : List Worked) → length at.flow.connections ≤ most → length (wanted (ended_files at next files)) ≤ length files * most
clones-bound at next most files le = zipped_bound at most le _ _ files

pub wanted_few : (at : EndingPlace) (next : ℕ) (files : List Worked) (made : List EndedFile) → made ≡ ended_files at next files → length at.flow.connections ≤ 65536 → length files ≤ 10000
    → length (wanted made) ≤ 655360000
wanted_few at next files made is le few =
    let bound = clones-bound at next 65536 files le in
    omega (arith, ap (λ xs. length (wanted xs)) is, bound)

zipped_few : (at : EndingPlace) (numbers entered : List ℕ) (files : List Worked) → length (map (λ f. ended_file at (f.0, f.1.0, f.1.1)) (zip numbers (zip entered files))) ≤ length files
zipped_few at [] entered files = omega arith
zipped_few at (number ∷ numbers) [] files = omega arith
zipped_few at (number ∷ numbers) (moment ∷ entered) [] = omega arith
zipped_few at (number ∷ numbers) (moment ∷ entered) (file ∷ files) = omega (arith, zipped_few at numbers entered files)

pub made_few : (at : EndingPlace) (next : ℕ) (files : List Worked) (made : List EndedFile) → made ≡ ended_files at next files → length files ≤ 10000 → length made ≤ 10000
made_few at next files made is few = omega (arith, ap length is, zipped_few at (numbers_from next (map (λ (file : FlowFile). file.number) at.taken) files) (entered_in at.moment (map (λ (file : FlowFile). file.entered) at.taken) files) files)
