-- That what is placed has its content.
use Rattle.std.proofs.Common.{◌≡◌, inl, inr, ℕ, zero, suc, ◌+◌, ◌<◌, true, List, [], ◌∷◌, ◌++◌, map, length, refl, sym, ap, subst, ◌∙◌, arith}
use Rattle.std.specs.Prelude.{All, Contains, IfOk, IfSome, Ok, Err, Result, slice_range, filter_map, zip}
use Rattle.std.specs.List.{cons_option}
use Rattle.std.proofs.lemmas.List.{length-map}
use Rattle.std.proofs.lemmas.List.Elements.{All-cons, All-head, All-nil, All-tail}
use Rattle.sha2.specs.Sha256.{sha256}
use Rattle.flowfile_record.specs.Outcome.{AreInTurn, IsBodyOver, IsWorked, written_by, written_in}
use Rattle.flowfile_record.specs.Ranges.{HaveRanges}
use Rattle.flowfile_record.specs.Shared.{is_stored, own_bytes}
use Rattle.flowfile_record.specs.declared.change.Settled.{Settled}
use Rattle.flowfile_record.specs.declared.content.ContentRef.{ContentRef}
use Rattle.flowfile_record.specs.declared.flow_file.FlowFile.{FlowFile}
use Rattle.flowfile_record.specs.declared.stored.Fresh.{Fresh}
use Rattle.flowfile_record.specs.declared.stored.Placed.{Placed}
use Rattle.flowfile_record.specs.declared.worked.Body.{Body}
use Rattle.flowfile_record.specs.declared.worked.Body.TheVariants.{Whole, Part, New}
use Rattle.flowfile_record.specs.declared.worked.Worked.{Worked}
use Rattle.machine_model.specs.declared.flow.Flow.{Flow}
use Rattle.machine_model.specs.declared.flow.Processor.{Processor}
use Rattle.machine_model.specs.declared.given.Given.{Given}
use Rattle.machine_model.specs.Placing.{count_made, entered_in, numbers_from}
use Rattle.machine_model.proofs.Among.{Among, contains_among}
use Rattle.machine_model.proofs.Tally.{Each, each-append, each-map}
use Rattle.process_session.specs.declared.file.Source.{Source}
use Rattle.settlement.specs.Contents.{body_content, fresh_in, kept_content, source_bytes, IsBodyWithin}
use Rattle.settlement.specs.Ending.{EndingPlace, ended_file, ended_files}
use Rattle.settlement.specs.Handed.{AreReadSources, MaySettle, content_sizes}
use Rattle.settlement.specs.Placing.{EndedNewcomer, PlacingFrom, arrived, first_newcomer, firsts, further, placed_from, returned, returning, wanted}
use Rattle.settlement.specs.TellsOf.{BringsNoneAsClone, IsContentBy, TellsOfEnded}
use Rattle.settlement.specs.Whole.{ending_place, placing_at, settled_in}
use Rattle.settlement.specs.declared.counters.Counters.{Counters}
use Rattle.settlement.specs.declared.file.EndedFile.{EndedFile}
use Rattle.settlement.specs.declared.file.Goes.{Goes}
use Rattle.settlement.specs.declared.file.Goes.TheVariants.{Queues, Returns, Drops, Leaves}
use Rattle.settlement.specs.declared.handed.Ended.{Ended}
use Rattle.settlement.proofs.Bytes.{content-bytes, content-stamp, kept-size}
use Rattle.settlement.proofs.Clones.{HoldsOfShared, OfPlaced, all-shared, all_clones, as_newcomers, before_clones, clones-hold, clones_from, clones_in}
use Rattle.settlement.proofs.Once.{placed-bring}

-- ---- what holds of the contents of a session's files holds of what is placed of them

-- what holds of a file's content, by where it comes from
abbrev OfFile : (ContentRef → Fresh → Type 0) → EndedFile → Type 0
OfFile Holds file = Holds file.content (fresh_in file.worked.body)

abbrev OfBody : (ContentRef → Fresh → Type 0) → List FlowFile → List Source → Worked → Type 0
OfBody Holds taken sources file = Holds (body_content taken sources file.body) (fresh_in file.body)

abbrev OfNew : (ContentRef → Fresh → Type 0) → EndedNewcomer → Type 0
OfNew Holds one = OfFile Holds one.2

abbrev OfClone : (ContentRef → Fresh → Type 0) → EndedFile × ℕ → Type 0
OfClone Holds clone = OfFile Holds clone.0

zipped_hold : (Holds : ContentRef → Fresh → Type 0) (at : EndingPlace) (numbers entered : List ℕ) (files : List Worked) → Each (OfBody Holds at.taken at.sources) files
    → Each (OfFile Holds) (map (λ f. ended_file at (f.0, f.1.0, f.1.1)) (zip numbers (zip entered files)))
zipped_hold Holds at [] entered files hold = tt
zipped_hold Holds at (number ∷ numbers) [] files hold = tt
zipped_hold Holds at (number ∷ numbers) (moment ∷ entered) [] hold = tt
zipped_hold Holds at (number ∷ numbers) (moment ∷ entered) (file ∷ files) hold = (hold.0, zipped_hold Holds at numbers entered files hold.1)

placed_hold : (Holds : ContentRef → Fresh → Type 0) (arrival : ℕ) (news : List EndedNewcomer) → Each (OfNew Holds) news → Each (OfPlaced Holds) (placed_from arrival news)
placed_hold Holds arrival [] hold = tt
placed_hold Holds arrival (one ∷ news) hold = (hold.0, placed_hold Holds (arrival + 1) news hold.1)

first_holds : (Holds : ContentRef → Fresh → Type 0) (file : EndedFile) (goes : Goes) → OfFile Holds file → Each (OfNew Holds) (first_newcomer file goes)
first_holds Holds file (Queues first others) hold = (hold, tt)
first_holds Holds file Returns hold = tt
first_holds Holds file (Drops relationship) hold = tt
first_holds Holds file Leaves hold = tt

firsts_hold : (Holds : ContentRef → Fresh → Type 0) (files : List EndedFile) → Each (OfFile Holds) files → Each (OfNew Holds) (firsts files)
firsts_hold Holds [] hold = tt
firsts_hold Holds (file ∷ files) hold =
    each-append (OfNew Holds) (first_newcomer file file.goes) (firsts files) (first_holds Holds file file.goes hold.0) (firsts_hold Holds files hold.1)

wanted_hold : (Holds : ContentRef → Fresh → Type 0) (files : List EndedFile) → Each (OfFile Holds) files → Each (OfClone Holds) (wanted files)
wanted_hold Holds [] hold = tt
wanted_hold Holds (file ∷ files) hold =
    each-append (OfClone Holds) (map (λ connection. (file, connection)) (further file.goes)) (wanted files)
    (each-map (OfClone Holds) (λ connection. (file, connection)) (further file.goes) (λ connection. hold.0)) (wanted_hold Holds files hold.1)

clones_hold : (Holds : ContentRef → Fresh → Type 0) (number : ℕ) (clones : List (EndedFile × ℕ)) → Each (OfClone Holds) clones → Each (OfNew Holds) (clones_from number clones)
clones_hold Holds number [] hold = tt
clones_hold Holds number (clone ∷ clones) hold = (hold.0, clones_hold Holds (number + 1) clones hold.1)

returning_holds : (Holds : ContentRef → Fresh → Type 0) (at : PlacingFrom) (file : EndedFile) (goes : Goes) → OfFile Holds file → Each (OfPlaced Holds) (returning at file goes)
returning_holds Holds at file Returns hold = (hold, tt)
returning_holds Holds at file (Queues first others) hold = tt
returning_holds Holds at file (Drops relationship) hold = tt
returning_holds Holds at file Leaves hold = tt

returned_hold : (Holds : ContentRef → Fresh → Type 0) (at : PlacingFrom) (files : List EndedFile) → Each (OfFile Holds) files → Each (OfPlaced Holds) (returned at files)
returned_hold Holds at [] hold = tt
returned_hold Holds at (file ∷ files) hold =
    each-append (OfPlaced Holds) (returning at file file.goes) (returned at files) (returning_holds Holds at file file.goes hold.0) (returned_hold Holds at files hold.1)

all_of : (P : Placed → Type 0) (placed : List Placed) → Each P placed → All P placed
all_of P [] hold = All-nil P
all_of P (one ∷ placed) hold = All-cons P one placed hold.0 (all_of P placed hold.1)

-- of all that is placed
all_hold : (Holds : ContentRef → Fresh → Type 0) (at : PlacingFrom) (first_clone : ℕ) (files : List EndedFile) → HoldsOfShared Holds → Each (OfFile Holds) files
    → All (OfPlaced Holds) (returned at files ++ arrived at first_clone files)
all_hold Holds at first_clone files shared hold =
    let placed = returned at files ++ arrived at first_clone files in
    let clones : Each (OfPlaced Holds) (clones_in at first_clone files)
    = clones-hold Holds placed (before_clones at files) (clones_in at first_clone files) (as_newcomers at first_clone files) shared (all_clones at first_clone files)
    (placed_hold Holds (at.next_arrival + length (firsts files)) (clones_from first_clone (wanted files)) (clones_hold Holds first_clone (wanted files) (wanted_hold Holds files hold))) in
    all_of (OfPlaced Holds) placed
    (each-append (OfPlaced Holds) (returned at files) (arrived at first_clone files) (returned_hold Holds at files hold)
    (each-append (OfPlaced Holds) (placed_from at.next_arrival (firsts files)) (clones_in at first_clone files) (placed_hold Holds at.next_arrival (firsts files) (firsts_hold Holds files hold)) clones))

-- ---- contents that are in the store are ranges of taken ones, and new ones have their size and their digest

kept_there : (taken : List FlowFile) (of : ℕ) → of < length taken → Among (kept_content taken of) (map (λ (file : FlowFile). file.content) taken)
kept_there [] of h = absurd (omega arith)
kept_there (file ∷ taken) zero h = inl refl
kept_there (file ∷ taken) (suc of) h = inr (kept_there taken of (omega arith))

digest_there : (taken : List FlowFile) (of : ℕ) → of < length taken → Among (kept_content taken of).digest (map (λ (file : FlowFile). file.content.digest) taken)
digest_there [] of h = absurd (omega arith)
digest_there (file ∷ taken) zero h = inl refl
digest_there (file ∷ taken) (suc of) h = inr (digest_there taken of (omega arith))

content_holds : (taken : List FlowFile) (sources : List Source) (body : Body) → IsBodyOver (content_sizes taken) body → IsContentBy taken (body_content taken sources body) (fresh_in body)
content_holds taken sources (Whole of) over =
    let there : of < length taken = omega (arith, over, length-map taken (λ (file : FlowFile). file.content.size)) in
    let contents = map (λ (file : FlowFile). file.content) taken in
    let digests = map (λ (file : FlowFile). file.content.digest) taken in
    let whole = kept_content taken of in (
      (whole, contains_among whole contents (kept_there taken of there), record { slot = refl; from = omega arith; to = omega arith }),
      inl (contains_among whole.digest digests (digest_there taken of there)),
    )
content_holds taken sources (Part of offset size) over =
    let there : of < length taken = omega (arith, over.0, length-map taken (λ (file : FlowFile). file.content.size)) in
    let contents = map (λ (file : FlowFile). file.content) taken in
    let whole = kept_content taken of in (
      (whole, contains_among whole contents (kept_there taken of there), record { slot = refl; from = omega arith; to = omega (arith, over.1, kept-size taken of there) }),
      inr (slice_range (source_bytes sources of) offset (offset + size), refl),
    )
content_holds taken sources (New bytes) over = (refl, refl)

-- ---- where references stand for what was read, a content that is in the store has the digest of its bytes

abbrev HasDigest : (ContentRef → List ℕ) → ContentRef → Fresh → Type 0
HasDigest bytes content fresh = is_stored fresh ≡ true → sha256 (bytes content) ≡ content.digest

digest_holds : (bytes : ContentRef → List ℕ) (taken : List FlowFile) (sources : List Source) (body : Body) → HaveRanges bytes → AreReadSources bytes taken sources → IsBodyOver (content_sizes taken) body
    → IsBodyWithin sources body → HasDigest bytes (body_content taken sources body) (fresh_in body)
digest_holds bytes taken sources (Whole of) ranges read over within stored =
    ap sha256 (content-bytes bytes taken sources (Whole of) ranges over) ∙ sym (content-stamp bytes taken sources (Whole of) read within).digest
digest_holds bytes taken sources (Part of offset size) ranges read over within stored =
    ap sha256 (content-bytes bytes taken sources (Part of offset size) ranges over) ∙ sym (content-stamp bytes taken sources (Part of offset size) read within).digest
digest_holds bytes taken sources (New written) ranges read over within stored = absurd cc

-- ---- what is brought was written

abbrev WasWritten : List (List ℕ) → ContentRef → Fresh → Type 0
WasWritten written content fresh = IfSome (own_bytes fresh) (Contains written)

body_written : (written rest : List (List ℕ)) (body : Body) → ((bytes : List ℕ) → Among bytes (cons_option (written_in body) rest) → Contains written bytes)
    → IfSome (own_bytes (fresh_in body)) (Contains written)
body_written written rest (Whole of) has = tt
body_written written rest (Part of offset size) has = tt
body_written written rest (New bytes) has = has bytes (inl refl)

later_among : (rest : List (List ℕ)) (body : Body) (bytes : List ℕ) → Among bytes rest → Among bytes (cons_option (written_in body) rest)
later_among rest (Whole of) bytes there = there
later_among rest (Part of offset size) bytes there = there
later_among rest (New written) bytes there = inr there

files_written : (written : List (List ℕ)) (taken : List FlowFile) (sources : List Source) (files : List Worked)
    → ((bytes : List ℕ) → Among bytes (filter_map (λ file. written_in file.body) files) → Contains written bytes) → Each (OfBody (WasWritten written) taken sources) files
files_written written taken sources [] has = tt
files_written written taken sources (file ∷ files) has =
    let rest = filter_map (λ file. written_in file.body) files in
    (body_written written rest file.body has, files_written written taken sources files (λ bytes there. has bytes (later_among rest file.body bytes there)))

-- ---- all of it

-- what holds of each body that an outcome may have holds of those of its files
bodies_hold : (Holds : ContentRef → Fresh → Type 0) (taken : List FlowFile) (sources : List Source) (relationships : ℕ) (files : List Worked)
    → ((body : Body) → IsBodyOver (content_sizes taken) body → IsBodyWithin sources body → Holds (body_content taken sources body) (fresh_in body))
    → All (IsWorked relationships (content_sizes taken)) files → All (λ file. IsBodyWithin sources file.body) files → Each (OfBody Holds taken sources) files
bodies_hold Holds taken sources relationships [] holds worked within = tt
bodies_hold Holds taken sources relationships (file ∷ files) holds worked within = (
  holds file.body (All-head (IsWorked relationships (content_sizes taken)) file files worked).body (All-head (λ file. IsBodyWithin sources file.body) file files within),
  bodies_hold Holds taken sources relationships files holds (All-tail (IsWorked relationships (content_sizes taken)) file files worked) (All-tail (λ file. IsBodyWithin sources file.body) file files within),
)

pub settled-tells : (flow : Flow) (given : Given) (counters : Counters) (ended : Ended) (processor : Processor) → MaySettle flow counters ended → TellsOfEnded given counters ended (settled_in flow given counters ended processor)
settled-tells flow given counters ended processor may = record {
  processor = refl;
  moment = refl;
  gone = refl;
  contents = all_hold (IsContentBy ended.taken) from first files (λ content of. tt) (each (IsContentBy ended.taken) (bodies (IsContentBy ended.taken) (λ body over within. content_holds ended.taken ended.sources body over)));
  digests = λ bytes ranges read.
      all_hold (HasDigest bytes) from first files (λ content of stored. absurd cc)
      (each (HasDigest bytes) (bodies (HasDigest bytes) (λ body over within. digest_holds bytes ended.taken ended.sources body ranges read over within)));
  written = all_hold (WasWritten (written_by ended.outcome)) from first files (λ content of. tt)
      (each (WasWritten (written_by ended.outcome)) (files_written (written_by ended.outcome) ended.taken ended.sources outcome (λ bytes there. contains_among bytes (written_by ended.outcome) there)));
  shared = all-shared from first files;
  clones = all_of (BringsNoneAsClone counters ended) (returned from files ++ arrived from first files) (placed-bring counters ended at from refl in_turn);
}
  where
    outcome : List Worked
    outcome = ended.outcome.files

    at : EndingPlace
    at = ending_place flow given counters ended processor

    from : PlacingFrom
    from = placing_at at ended.connection counters.next_arrival

    files : List EndedFile
    files = ended_files at counters.next_number outcome

    first : ℕ
    first = counters.next_number + count_made outcome

    bodies : (Holds : ContentRef → Fresh → Type 0) → ((body : Body) → IsBodyOver (content_sizes ended.taken) body → IsBodyWithin ended.sources body → Holds (body_content ended.taken ended.sources body) (fresh_in body))
        → Each (OfBody Holds ended.taken ended.sources) outcome
    bodies Holds holds = bodies_hold Holds ended.taken ended.sources may.relationships outcome holds may.outcome.each may.parts

    each : (Holds : ContentRef → Fresh → Type 0) → Each (OfBody Holds ended.taken ended.sources) outcome → Each (OfFile Holds) files
    each Holds hold =
        zipped_hold Holds at (numbers_from counters.next_number (map (λ (file : FlowFile). file.number) ended.taken) outcome)
        (entered_in given.moment (map (λ (file : FlowFile). file.entered) ended.taken) outcome) outcome hold

    in_turn : AreInTurn 0 (length (map (λ (file : FlowFile). file.number) ended.taken)) outcome
    in_turn =
        subst (λ n. AreInTurn 0 n outcome) (length-map ended.taken (λ (file : FlowFile). file.content.size) ∙ sym (length-map ended.taken (λ (file : FlowFile). file.number))) may.outcome.in_turn

pub if-tells : {E : Type 0} (flow : Flow) (given : Given) (counters : Counters) (ended : Ended) (processor : Processor) (result : Result Settled E) → MaySettle flow counters ended
    → IfOk result (λ settled. settled ≡ settled_in flow given counters ended processor) → IfOk result (TellsOfEnded given counters ended)
if-tells flow given counters ended processor (Ok settled) may is = subst (TellsOfEnded given counters ended) (sym is) (settled-tells flow given counters ended processor may)
if-tells flow given counters ended processor (Err error) may is = is
