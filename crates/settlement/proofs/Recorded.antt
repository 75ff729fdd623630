-- That what a settlement places can be told in one entry.
use Rattle.std.proofs.Common.{◌≡◌, ℕ, ◌+◌, ◌*◌, ◌^◌, ◌<◌, ◌≤◌, List, [], ◌∷◌, ◌++◌, map, length, refl, sym, ap, subst, ◌∙◌, arith}
use Rattle.std.specs.Prelude.{All, IfOk, IfSome, Ok, Err, Result, Some, slice_get, sum_by, zip}
use Rattle.std.specs.List.{sum}
use Rattle.std.proofs.lemmas.List.{length-map}
use Rattle.std.proofs.lemmas.List.Elements.{All-cons, All-head, All-nil, All-tail}
use Rattle.std.proofs.lemmas.List.Sums.{sum-map}
use Rattle.flowfile_record.specs.Attributes.{AttributeMap, IsWithinLimits, encoded_size}
use Rattle.flowfile_record.specs.Outcome.{AreInTurn, IsWorked}
use Rattle.flowfile_record.specs.Shared.{own_bytes}
use Rattle.flowfile_record.specs.declared.TheConstants.{CONTENT_MAX}
use Rattle.flowfile_record.specs.declared.change.Settled.{Settled}
use Rattle.flowfile_record.specs.declared.flow_file.FlowFile.{FlowFile}
use Rattle.flowfile_record.specs.declared.limits.TheConstants.{FILENAME_SIZE}
use Rattle.flowfile_record.specs.declared.stored.Placed.{Placed}
use Rattle.flowfile_record.specs.declared.worked.Worked.{Worked}
use Rattle.machine_model.specs.declared.flow.Flow.{Flow}
use Rattle.machine_model.specs.declared.flow.Processor.{Processor}
use Rattle.machine_model.specs.declared.given.Given.{Given}
use Rattle.machine_model.specs.declared.limits.TheConstants.{FAN_OUT_MAX}
use Rattle.machine_model.specs.Placing.{connections_of, count_made, entered_in, numbers_from}
use Rattle.machine_model.proofs.Tally.{Each, each-append, tally}
use Rattle.settlement.specs.Contents.{fresh_in}
use Rattle.settlement.specs.Ending.{EndingPlace, ended_file, ended_files}
use Rattle.settlement.specs.Handed.{MaySettle, content_sizes}
use Rattle.settlement.specs.Placing.{EndedNewcomer, PlacingFrom, arrived, first_newcomer, firsts, further, placed_from, returned, returning, wanted}
use Rattle.settlement.specs.Recording.{IsRecordable, MayRecord, Records, RecordsAll}
use Rattle.settlement.specs.Whole.{ending_place, placing_at, settled_in}
use Rattle.settlement.specs.declared.counters.Counters.{Counters}
use Rattle.settlement.specs.declared.file.EndedFile.{EndedFile}
use Rattle.settlement.specs.declared.file.Goes.{Goes}
use Rattle.settlement.specs.declared.file.Goes.TheVariants.{Queues, Returns, Drops, Leaves}
use Rattle.settlement.specs.declared.handed.Ended.{Ended}
use Rattle.settlement.proofs.Clones.{all_clones, as_newcomers, before_clones, clones-fit, clones_from, clones_in}
use Rattle.settlement.proofs.RecordedFiles.{AreMoments, entered-moments, fresh-fits, named-within, penalty-moment}
use Rattle.settlement.proofs.RecordedPlaces.{AreBelow, Below, GoesFew, goes-few, places_of}
use Rattle.settlement.proofs.RecordedSizes.{placed_weight, placed-weighs, tally-length, tally-sum, weight}

-- ---- the files of a session

-- a file that can be told wherever it is placed
record IsTold (file : EndedFile) : Type 0 where
  attributes : IsWithinLimits file.worked.attributes
  entered : file.entered < 2 ^ 64
  penalty_end : file.penalty_end < 2 ^ 64
  fresh : IfSome (own_bytes (fresh_in file.worked.body)) (λ bytes. length bytes ≤ CONTENT_MAX)

record IsFit (most connection : ℕ) (file : EndedFile) : Type 0 where
  told : IsTold file
  goes : GoesFew most connection file.goes

-- what is known of the files of an outcome from a place on
record AreSound (at : EndingPlace) (connection relationships place count : ℕ) (entered : List ℕ) (files : List Worked) : Type 0 where
  few : (relationship : List ℕ) → length (connections_of at.flow at.place relationship) ≤ FAN_OUT_MAX
  there : 0 < count → connection < length at.flow.connections
  moments : AreMoments entered
  turn : AreInTurn place count files
  each : All (IsWorked relationships (content_sizes at.taken)) files

zipped_fit : (at : EndingPlace) (connection relationships place count : ℕ) (numbers entered : List ℕ) (files : List Worked) → AreSound at connection relationships place count entered files
    → Each (IsFit (length at.flow.connections) connection) (map (λ f. ended_file at (f.0, f.1.0, f.1.1)) (zip numbers (zip entered files)))
zipped_fit at connection relationships place count [] entered files sound = tt
zipped_fit at connection relationships place count (number ∷ numbers) [] files sound = tt
zipped_fit at connection relationships place count (number ∷ numbers) (moment ∷ entered) [] sound = tt
zipped_fit at connection relationships place count (number ∷ numbers) (moment ∷ entered) (file ∷ files) sound =
    let worked = All-head (IsWorked relationships (content_sizes at.taken)) file files sound.each in (
      record {
        told = record {
          attributes = (named-within relationships (content_sizes at.taken) at.store number file file.origin refl worked).limits;
          entered = sound.moments.0;
          penalty_end = penalty-moment file.penalised at.moment at.processor.penalty;
          fresh = fresh-fits (content_sizes at.taken) file.body worked.body;
        };
        goes = goes-few at.flow at.place connection at.processor relationships place count file.origin file.«end» sound.few sound.there sound.turn.0 worked.ends;
      },
      zipped_fit at connection relationships (place + 1) count numbers entered files (record {
        few = sound.few;
        there = sound.there;
        moments = sound.moments.1;
        turn = sound.turn.2;
        each = All-tail (IsWorked relationships (content_sizes at.taken)) file files sound.each;
      }),
    )

zipped_sizes : (at : EndingPlace) (relationships : ℕ) (numbers entered : List ℕ) (files : List Worked) → All (IsWorked relationships (content_sizes at.taken)) files
    → tally (weight encoded_size) (map (λ f. ended_file at (f.0, f.1.0, f.1.1)) (zip numbers (zip entered files))) ≤ tally (λ (file : Worked). encoded_size file.attributes) files + length files * FILENAME_SIZE
zipped_sizes at relationships [] entered files each = omega arith
zipped_sizes at relationships (number ∷ numbers) [] files each = omega arith
zipped_sizes at relationships (number ∷ numbers) (moment ∷ entered) [] each = omega arith
zipped_sizes at relationships (number ∷ numbers) (moment ∷ entered) (file ∷ files) each =
    let first = named-within relationships (content_sizes at.taken) at.store number file file.origin refl (All-head (IsWorked relationships (content_sizes at.taken)) file files each) in
    omega (arith, first.size, zipped_sizes at relationships numbers entered files (All-tail (IsWorked relationships (content_sizes at.taken)) file files each))

zipped_count : (at : EndingPlace) (numbers entered : List ℕ) (files : List Worked) → length (map (λ f. ended_file at (f.0, f.1.0, f.1.1)) (zip numbers (zip entered files))) ≤ length files
zipped_count at [] entered files = omega arith
zipped_count at (number ∷ numbers) [] files = omega arith
zipped_count at (number ∷ numbers) (moment ∷ entered) [] = omega arith
zipped_count at (number ∷ numbers) (moment ∷ entered) (file ∷ files) = omega (arith, zipped_count at numbers entered files)

-- ---- what is placed of them

-- a newcomer that can be told
abbrev IsNews : (most : ℕ) → EndedNewcomer → Type 0
IsNews most one = (one.0 < most) × IsTold one.2

abbrev IsWanted : (most : ℕ) → EndedFile × ℕ → Type 0
IsWanted most clone = (clone.1 < most) × IsTold clone.0

news_fit : (flow : Flow) (arrival : ℕ) (news : List EndedNewcomer) → Each (IsNews (length flow.connections)) news → Each (IsRecordable flow) (placed_from arrival news)
news_fit flow arrival [] fit = tt
news_fit flow arrival (one ∷ news) fit = (
  record { connection = fit.0.0; attributes = fit.0.1.attributes; entered = fit.0.1.entered; penalty_end = fit.0.1.penalty_end; fresh = fit.0.1.fresh },
  news_fit flow (arrival + 1) news fit.1,
)

first_fits : (most connection : ℕ) (file : EndedFile) (goes : Goes) → IsTold file → AreBelow most connection goes → Each (IsNews most) (first_newcomer file goes)
first_fits most connection file (Queues first others) told below = ((below.0, told), tt)
first_fits most connection file Returns told below = tt
first_fits most connection file (Drops relationship) told below = tt
first_fits most connection file Leaves told below = tt

copies_fit : (most : ℕ) (file : EndedFile) (others : List ℕ) → IsTold file → Below most others → Each (IsWanted most) (map (λ connection. (file, connection)) others)
copies_fit most file [] told below = tt
copies_fit most file (other ∷ others) told below = ((below.0, told), copies_fit most file others told below.1)

wanted_fits : (most connection : ℕ) (file : EndedFile) (goes : Goes) → IsTold file → AreBelow most connection goes → Each (IsWanted most) (map (λ connection. (file, connection)) (further goes))
wanted_fits most connection file (Queues first others) told below = copies_fit most file others told below.1
wanted_fits most connection file Returns told below = tt
wanted_fits most connection file (Drops relationship) told below = tt
wanted_fits most connection file Leaves told below = tt

returning_fits : (flow : Flow) (at : PlacingFrom) (file : EndedFile) (goes : Goes) → IsTold file → AreBelow (length flow.connections) at.connection goes → Each (IsRecordable flow) (returning at file goes)
returning_fits flow at file Returns told below =
    (record { connection = below; attributes = told.attributes; entered = told.entered; penalty_end = told.penalty_end; fresh = told.fresh }, tt)
returning_fits flow at file (Queues first others) told below = tt
returning_fits flow at file (Drops relationship) told below = tt
returning_fits flow at file Leaves told below = tt

firsts_fit : (most connection : ℕ) (files : List EndedFile) → Each (IsFit most connection) files → Each (IsNews most) (firsts files)
firsts_fit most connection [] fit = tt
firsts_fit most connection (file ∷ files) fit =
    each-append (IsNews most) (first_newcomer file file.goes) (firsts files) (first_fits most connection file file.goes fit.0.told fit.0.goes.below) (firsts_fit most connection files fit.1)

wanted_fit : (most connection : ℕ) (files : List EndedFile) → Each (IsFit most connection) files → Each (IsWanted most) (wanted files)
wanted_fit most connection [] fit = tt
wanted_fit most connection (file ∷ files) fit =
    each-append (IsWanted most) (map (λ connection. (file, connection)) (further file.goes)) (wanted files)
    (wanted_fits most connection file file.goes fit.0.told fit.0.goes.below) (wanted_fit most connection files fit.1)

clones_fit : (most number : ℕ) (clones : List (EndedFile × ℕ)) → Each (IsWanted most) clones → Each (IsNews most) (clones_from number clones)
clones_fit most number [] fit = tt
clones_fit most number (clone ∷ clones) fit = (fit.0, clones_fit most (number + 1) clones fit.1)

returned_fit : (flow : Flow) (at : PlacingFrom) (files : List EndedFile) → Each (IsFit (length flow.connections) at.connection) files → Each (IsRecordable flow) (returned at files)
returned_fit flow at [] fit = tt
returned_fit flow at (file ∷ files) fit =
    each-append (IsRecordable flow) (returning at file file.goes) (returned at files) (returning_fits flow at file file.goes fit.0.told fit.0.goes.below) (returned_fit flow at files fit.1)

placed_fit : (flow : Flow) (at : PlacingFrom) (first_clone : ℕ) (files : List EndedFile) → Each (IsFit (length flow.connections) at.connection) files
    → Each (IsRecordable flow) (returned at files ++ arrived at first_clone files)
placed_fit flow at first_clone files fit =
    let most = length flow.connections in
    let news = placed_from at.next_arrival (firsts files) in
    each-append (IsRecordable flow) (returned at files) (arrived at first_clone files) (returned_fit flow at files fit)
    (each-append (IsRecordable flow) news (clones_in at first_clone files) (news_fit flow at.next_arrival (firsts files) (firsts_fit most at.connection files fit))
    (clones-fit flow (returned at files ++ arrived at first_clone files) (before_clones at files) (clones_in at first_clone files) (as_newcomers at first_clone files) (all_clones at first_clone files)
    (news_fit flow (at.next_arrival + length (firsts files)) (clones_from first_clone (wanted files)) (clones_fit most first_clone (wanted files) (wanted_fit most at.connection files fit)))))

-- ---- a settlement

all_of : {X : Type 0} (P : X → Type 0) (xs : List X) → Each P xs → All P xs
all_of P [] each = All-nil P
all_of P (x ∷ xs) each = All-cons P x xs each.0 (all_of P xs each.1)

few_places : (most connection : ℕ) (files : List EndedFile) → Each (IsFit most connection) files → Each (λ (file : EndedFile). places_of file.goes ≤ FAN_OUT_MAX) files
few_places most connection [] fit = tt
few_places most connection (file ∷ files) fit = (fit.0.goes.few, few_places most connection files fit.1)

abbrev HasMoment : FlowFile → Type 0
HasMoment file = file.entered < 2 ^ 64

kept_moments : (taken : List FlowFile) → All HasMoment taken → AreMoments (map (λ file. file.entered) taken)
kept_moments [] entered = tt
kept_moments (file ∷ taken) entered = (All-head HasMoment file taken entered, kept_moments taken (All-tail HasMoment file taken entered))

pub settled-records : (flow : Flow) (given : Given) (counters : Counters) (ended : Ended) (processor : Processor) → given.moment < 2 ^ 64 → MaySettle flow counters ended → MayRecord flow ended processor
    → Records flow given counters ended processor (settled_in flow given counters ended processor)
settled-records flow given counters ended processor now may records =
    let at = ending_place flow given counters ended processor in
    let from = placing_at at ended.connection counters.next_arrival in
    let outcome = ended.outcome.files in
    let numbers = numbers_from counters.next_number (map (λ (file : FlowFile). file.number) ended.taken) outcome in
    let own = map (λ (file : FlowFile). file.entered) ended.taken in
    let entered = entered_in given.moment own outcome in
    let files = ended_files at counters.next_number outcome in
    let first = counters.next_number + count_made outcome in
    let placed = returned from files ++ arrived from first files in
    let fit : Each (IsFit (length flow.connections) ended.connection) files
    = zipped_fit at ended.connection may.relationships 0 (length (content_sizes ended.taken)) numbers entered outcome (record {
      few = records.fan_out;
      there = λ some. records.connection (omega (arith, length-map ended.taken (λ (file : FlowFile). file.content.size)));
      moments = entered-moments given.moment own outcome now (kept_moments ended.taken records.entered);
      turn = may.outcome.in_turn;
      each = may.outcome.each;
    }) in
    let few = few_places (length flow.connections) ended.connection files fit in
    let sum_is : sum (map (λ (p : Placed). encoded_size p.file.attributes) placed) ≡ tally (placed_weight encoded_size) placed
    = sum-map (placed_weight encoded_size) placed ∙ tally-sum (placed_weight encoded_size) placed in
    let most : sum_by (λ (file : Worked). encoded_size file.attributes) outcome ≡ tally (λ (file : Worked). encoded_size file.attributes) outcome = tally-sum (λ (file : Worked). encoded_size file.attributes) outcome in
    record {
      placed = all_of (IsRecordable flow) placed (placed_fit flow from first files fit);
      few = omega (arith, tally-length placed, placed-weighs (λ (attributes : AttributeMap). 1) from first files few, tally-length files, zipped_count at numbers entered outcome, may.outcome.count);
      attributes = omega (arith, sum_is, most, placed-weighs encoded_size from first files few, zipped_sizes at may.relationships numbers entered outcome may.outcome.each, may.outcome.attributes, may.outcome.count);
      next_number = omega arith;
      next_arrival = omega arith;
      count = refl;
    }

pub if-records : {E : Type 0} (flow : Flow) (given : Given) (counters : Counters) (ended : Ended) (processor : Processor) (result : Result Settled E) → given.moment < 2 ^ 64 → MaySettle flow counters ended
    → ((other : Processor) → slice_get flow.processors ended.processor ≡ Some other → other ≡ processor)
    → IfOk result (λ settled. settled ≡ settled_in flow given counters ended processor) → IfOk result (RecordsAll flow given counters ended)
if-records flow given counters ended processor (Ok settled) now may only is =
    λ other records.
    subst (Records flow given counters ended other)
    (ap (settled_in flow given counters ended) (only other records.found) ∙ sym is)
    (settled-records flow given counters ended other now may records)
if-records flow given counters ended processor (Err error) now may only is = is
