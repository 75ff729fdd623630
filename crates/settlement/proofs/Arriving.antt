-- That what arrives in a queue is what the machine lets arrive there.
use Rattle.std.proofs.Common.{◌≡◌, ℕ, ◌+◌, ◌<◌, ◌≤◌, true, false, cond, List, [], ◌∷◌, ◌++◌, map, refl, sym, ap, ◌∙◌, arith, append_assoc, append-nil}
use Rattle.std.specs.Prelude.{◌==◌, filter, unwrap_or}
use Rattle.std.specs.List.{flat_map}
use Rattle.std.proofs.lemmas.List.{map-append}
use Rattle.machine_model.specs.Changing.{placed_file, placed_into}
use Rattle.machine_model.specs.Placing as placing
use Rattle.machine_model.specs.Placing.{SettledFile, SettlementClone, Destination, wanted_clones}
use Rattle.machine_model.specs.Settling as machine
use Rattle.machine_model.specs.Settling.{arriving, in_queue, newcomer, newcomers}
use Rattle.machine_model.specs.State.{QueuedFile}
use Rattle.machine_model.proofs.Tally.{Each, each-append}
use Rattle.flowfile_record.specs.Shared.{own_bytes}
use Rattle.flowfile_record.specs.declared.stored.Placed.{Placed}
use Rattle.settlement.specs.Contents.{fresh_in}
use Rattle.settlement.specs.Ending.{goes_to}
use Rattle.settlement.specs.Placing.{EndedNewcomer, first_newcomer, firsts, placed_at, placed_from, wanted}
use Rattle.settlement.proofs.ByArrival.{put_last, put_all}
use Rattle.settlement.proofs.Clones.{clones_from, fresh-own}
use Rattle.settlement.proofs.EndedFiles.{Case, ended_of}
use Rattle.settlement.proofs.Listing.{map-map, flat_map-map, map-flat_map, flat_map-same}
use Rattle.settlement.proofs.ToldEvents.{as_ended, wanted-same}

-- a newcomer: its connection, its number, and its file
abbrev pub Comer : Type 0
Comer = ℕ × ℕ × SettledFile

abbrev pub comer : SettledFile → Destination → List Comer
comer file (placing.Queues first others) = (first, file.number, file) ∷ []
comer file _ = []

abbrev pub comers : List SettledFile → List SettlementClone → List Comer
comers files clones = flat_map (λ file. comer file file.goes) files ++ map (λ clone. (clone.connection, clone.number, clone.original)) clones

abbrev pub as_placed : Case → Comer → EndedNewcomer
as_placed c one = (one.0, one.1, ended_of c one.2)

abbrev pub as_queued : Comer → machine.Newcomer
as_queued one = (one.0, in_queue one.2 one.1)

first_same : (c : Case) (file : SettledFile) (goes : Destination) → first_newcomer (ended_of c file) (goes_to goes) ≡ map (as_placed c) (comer file goes)
first_same c file (placing.Queues first others) = refl
first_same c file placing.Returns = refl
first_same c file (placing.Drops relationship) = refl
first_same c file placing.Leaves = refl

pub firsts-same : (c : Case) (files : List SettledFile) → firsts (map (ended_of c) files) ≡ map (as_placed c) (flat_map (λ file. comer file file.goes) files)
firsts-same c files =
    flat_map-map _ (ended_of c) files
    ∙ flat_map-same _ (λ file. map (as_placed c) (comer file file.goes)) (λ file. first_same c file file.goes) files
    ∙ sym (map-flat_map (as_placed c) (λ (file : SettledFile). comer file file.goes) files)

clones_same : (c : Case) (number : ℕ) (clones : List (SettledFile × ℕ))
    → clones_from number (map (as_ended c) clones) ≡ map (as_placed c) (map (λ (clone : SettlementClone). (clone.connection, clone.number, clone.original)) (placing.clones_from number clones))
clones_same c number [] = refl
clones_same c number (clone ∷ clones) = ap (λ rest. (clone.1, number, ended_of c clone.0) ∷ rest) (clones_same c (number + 1) clones)

-- all newcomers, as the calls inside place them
pub comers-placed : (c : Case) (number : ℕ) (files : List SettledFile)
    → firsts (map (ended_of c) files) ++ clones_from number (wanted (map (ended_of c) files))
    ≡ map (as_placed c) (comers files (placing.clones_from number (wanted_clones files)))
comers-placed c number files =
    let clones = map (λ (clone : SettlementClone). (clone.connection, clone.number, clone.original)) (placing.clones_from number (wanted_clones files)) in
    (λ i. firsts-same c files i ++ (ap (clones_from number) (wanted-same c files) ∙ clones_same c number (wanted_clones files)) i)
    ∙ sym (map-append (as_placed c) (flat_map (λ file. comer file file.goes) files) clones)

newcomer_same : (file : SettledFile) (goes : Destination) → newcomer file goes ≡ map as_queued (comer file goes)
newcomer_same file (placing.Queues first others) = refl
newcomer_same file placing.Returns = refl
newcomer_same file (placing.Drops relationship) = refl
newcomer_same file placing.Leaves = refl

-- all newcomers, as the machine has them
pub comers-queued : (files : List SettledFile) (clones : List SettlementClone) → newcomers files clones ≡ map as_queued (comers files clones)
comers-queued files clones =
    (λ i. (flat_map-same _ (λ file. map as_queued (comer file file.goes)) (λ file. newcomer_same file file.goes) files
    ∙ sym (map-flat_map as_queued (λ (file : SettledFile). comer file file.goes) files)) i
    ++ sym (map-map as_queued (λ (clone : SettlementClone). (clone.connection, clone.number, clone.original)) clones) i)
    ∙ sym (map-append as_queued (flat_map (λ file. comer file file.goes) files) (map (λ clone. (clone.connection, clone.number, clone.original)) clones))

-- ---- in one queue

-- the bytes of a file are those of its content
abbrev pub HasBytes : Case → SettledFile → Type 0
HasBytes c file = unwrap_or (own_bytes (fresh_in file.worked.body)) (c.bytes (ended_of c file).content) ≡ file.bytes

pub placed-queued : (c : Case) (all : List Placed) (arrival connection number : ℕ) (file : SettledFile) → HasBytes c file
    → placed_file c.bytes all (placed_at arrival (connection, number, ended_of c file)) ≡ in_queue file number arrival
placed-queued c all arrival connection number file has =
    let bytes = ap (λ own. unwrap_or own (c.bytes (ended_of c file).content)) (fresh-own all file.worked.body) ∙ has in
    λ i. record (in_queue file number arrival) { bytes = bytes i }

pub arriving-same : (c : Case) (all : List Placed) (arrival connection : ℕ) (news : List Comer) → Each (λ (one : Comer). HasBytes c one.2) news
    → placed_into c.bytes all connection (placed_from arrival (map (as_placed c) news)) ≡ arriving arrival connection (map as_queued news)
arriving-same c all arrival connection [] has = refl
arriving-same c all arrival connection (one ∷ news) has =
    let later = placed_from (arrival + 1) (map (as_placed c) news) in
    let first = placed_at arrival (as_placed c one) in
    elim (one.0 == connection) as (λ b. map (placed_file c.bytes all) (cond b (first ∷ filter (λ (file : Placed). file.connection == connection) later) (filter (λ (file : Placed). file.connection == connection) later))
    ≡ cond b (in_queue one.2 one.1 arrival ∷ arriving (arrival + 1) connection (map as_queued news)) (arriving (arrival + 1) connection (map as_queued news))) [
      | true ↦ λ i. placed-queued c all arrival one.0 one.1 one.2 has.0 i ∷ arriving-same c all (arrival + 1) connection news has.1 i
      | false ↦ arriving-same c all (arrival + 1) connection news has.1
    ]

-- ---- behind the others

abbrev pub Below : ℕ → List QueuedFile → Type 0
Below arrival queue = Each (λ file. file.arrival < arrival) queue

below_more : (low high : ℕ) (queue : List QueuedFile) → low ≤ high → Below low queue → Below high queue
below_more low high [] le h = tt
below_more low high (file ∷ queue) le h = (omega (arith, h.0), below_more low high queue le h.1)

-- what arrives stands behind all that was there
pub put-arriving : (arrival connection : ℕ) (news : List Comer) (queue : List QueuedFile) → Below arrival queue
    → put_all queue (arriving arrival connection (map as_queued news)) ≡ queue ++ arriving arrival connection (map as_queued news)
put-arriving arrival connection [] queue below = sym (append-nil queue)
put-arriving arrival connection (one ∷ news) queue below =
    let rest = arriving (arrival + 1) connection (map as_queued news) in
    let first = in_queue one.2 one.1 arrival in
    elim (one.0 == connection) as (λ b. put_all queue (cond b (first ∷ rest) rest) ≡ queue ++ cond b (first ∷ rest) rest) [
      | true ↦
          let last = put_last first queue below in
          let behind : Below (arrival + 1) (queue ++ first ∷ []) = each-append (λ (file : QueuedFile). file.arrival < arrival + 1) queue (first ∷ []) (below_more arrival (arrival + 1) queue (omega arith) below) (omega arith, tt) in
          ap (λ put. put_all put rest) last ∙ put-arriving (arrival + 1) connection news (queue ++ first ∷ []) behind ∙ append_assoc queue (first ∷ []) rest
      | false ↦ put-arriving (arrival + 1) connection news queue (below_more arrival (arrival + 1) queue (omega arith) below)
    ]
