-- What holds of every outcome.
use Rattle.std.proofs.Common.{◌≡◌, ℕ, zero, suc, ◌+◌, ◌<◌, ◌≤◌, ◌==◌, ◌&&◌, Bool, true, false, not, cond, List, [], ◌∷◌, ◌++◌, length, filter, map, sum_by, codes, Option, None, Some, unwrap_or, is_none, refl, sym, ◌∙◌, ap, subst, arith, append_assoc, length-append, zero-add}
use Rattle.std.specs.Prelude.{IfSome, slice_index}
use Rattle.std.specs.FinMap.{contains_key}
use Rattle.std.specs.List.{All, AllByRecursion, IsDistinct, flat_map, slice_get}
use Rattle.std.specs.Option.{option_map}
use Rattle.std.proofs.lemmas.Bool.Decides.{nat_tests}
use Rattle.std.proofs.lemmas.List.{append-nil, length-map}
use Rattle.std.proofs.lemmas.List.Elements.{All-nil, All-cons, All-head, All-tail}
use Rattle.std.proofs.lemmas.List.Sums.{sum_by-cons}
use Rattle.std.proofs.lemmas.Map.Keys.{IsDistinct-cons, IsDistinct-head, IsDistinct-tail}
use Rattle.flowfile_record.specs.Attributes.{AttributeMap, encoded_size}
use Rattle.flowfile_record.specs.Outcome.{AreInTurn, IsBodyOver, IsEndOf, IsOutcome, IsWorked, NamesEachOnce, StandsInTurn, filename_to_come, is_made, parents_of}
use Rattle.flowfile_record.specs.declared.attributes.TheConstants.{ATTRIBUTES_MAX}
use Rattle.flowfile_record.specs.declared.limits.TheConstants.{FILENAME_SIZE, FILES_MAX, SESSION_ATTRIBUTES_MAX, TAKEN_MAX}
use Rattle.flowfile_record.specs.declared.worked.Body.{Body}
use Rattle.flowfile_record.specs.declared.worked.Body.TheVariants as body
use Rattle.flowfile_record.specs.declared.worked.End.{End}
use Rattle.flowfile_record.specs.declared.worked.End.TheVariants.{To, Back, Removed}
use Rattle.flowfile_record.specs.declared.worked.Origin.{Origin}
use Rattle.flowfile_record.specs.declared.worked.Origin.TheVariants.{Taken, Created, Received, Forked, Part, Cloned, Joined}
use Rattle.flowfile_record.specs.declared.worked.Sent.{Sent}
use Rattle.flowfile_record.specs.declared.worked.Worked.{Worked}
use Rattle.process_session.specs.declared.error.SessionError.TheVariants.{NotAccounted}
use Rattle.process_session.specs.declared.file.File.{File}
use Rattle.process_session.specs.declared.file.Source.{Source}
use Rattle.process_session.specs.Bench.{Bench, IsBodyOf, file_size, sizes_of, taken_size}
use Rattle.process_session.specs.Finish.{child_of, places_once, is_left_out, ends_removed, joined_of, kept_files, origin_in, outcome_of, place_if_kept, sent_in, standing, standing_for, standing_from, worked_of}
use Rattle.process_session.specs.Finishing.{stand_at}
use Rattle.process_session.specs.Reasons.{not_accounted, not_accounted_from}
use Rattle.process_session.specs.Sound.{IsHeldFile, IsSoundBench, MayEnd, as_worked}

-- all of these places are before a place
abbrev AreBefore : ℕ → List ℕ → Type 0
AreBefore place [] = Unit {0}
AreBefore place (other ∷ more) = (other < place) × AreBefore place more

abbrev Before : ℕ → ℕ → Type 0
Before place other = other < place

all_before_from : (place : ℕ) (places : List ℕ) → AreBefore place places → All (Before place) places
all_before_from place [] before = All-nil (Before place)
all_before_from place (other ∷ more) before = All-cons (Before place) other more before.0 (all_before_from place more before.1)

before_from_all : (place : ℕ) (places : List ℕ) → All (Before place) places → AreBefore place places
before_from_all place [] all = tt
before_from_all place (other ∷ more) all = (All-head (Before place) other more all, before_from_all place more (All-tail (Before place) other more all))

before_later : (place later : ℕ) (places : List ℕ) → place ≤ later → AreBefore place places → AreBefore later places
before_later place later [] less before = tt
before_later place later (other ∷ more) less before = let first = before.0 in (omega arith, before_later place later more less before.1)

before_test : (place other : ℕ) (rest : List ℕ) (b : Bool) → other < place → AreBefore place rest → AreBefore place (cond b (other ∷ rest) rest)
before_test place other rest true here before = (here, before)
before_test place other rest false here before = before

before_filter : (place : ℕ) (test : ℕ → Bool) (places : List ℕ) → AreBefore place places → AreBefore place (filter test places)
before_filter place test [] before = tt
before_filter place test (other ∷ more) before = before_test place other (filter test more) (test other) before.0 (before_filter place test more before.1)

before_once : (place : ℕ) (places : List ℕ) → AreBefore place places → AreBefore place (places_once places)
before_once place [] before = tt
before_once place (other ∷ more) before = (before.0, before_filter place (λ o. not (o == other)) (places_once more) (before_once place more before.1))

before_append : (place : ℕ) (xs ys : List ℕ) → AreBefore place xs → AreBefore place ys → AreBefore place (xs ++ ys)
before_append place [] ys before others = others
before_append place (x ∷ xs) ys before others = (before.0, before_append place xs ys before.1 others)

-- the places that stand for files are before a place
abbrev StandBefore : ℕ → List (List ℕ) → Type 0
StandBefore place [] = Unit {0}
StandBefore place (places ∷ more) = AreBefore place places × StandBefore place more

stand_later : (place later : ℕ) (stand : List (List ℕ)) → place ≤ later → StandBefore place stand → StandBefore later stand
stand_later place later [] less before = tt
stand_later place later (places ∷ more) less before = (before_later place later places less before.0, stand_later place later more less before.1)

stand_push : (place : ℕ) (stand : List (List ℕ)) (places : List ℕ) → StandBefore place stand → AreBefore place places → StandBefore place (stand ++ places ∷ [])
stand_push place [] places before new = (new, tt)
stand_push place (first ∷ more) places before new = (before.0, stand_push place more places before.1 new)

at_before : (place : ℕ) (stand : List (List ℕ)) (at : ℕ) → StandBefore place stand → AreBefore place (stand_at stand at)
at_before place [] at before = tt
at_before place (places ∷ more) zero before = before.0
at_before place (places ∷ more) (suc at) before = at_before place more at before.1

all_before : (place : ℕ) (stand : List (List ℕ)) (parents : List ℕ) → StandBefore place stand → AreBefore place (flat_map (stand_at stand) parents)
all_before place stand [] before = tt
all_before place stand (parent ∷ parents) before = before_append place (stand_at stand parent) (flat_map (stand_at stand) parents) (at_before place stand parent before) (all_before place stand parents before)

for_before : (place : ℕ) (stand : List (List ℕ)) (parents : List ℕ) → StandBefore place stand → AreBefore place (standing_for stand parents)
for_before place stand parents before = before_once place (flat_map (stand_at stand) parents) (all_before place stand parents before)

-- what stands for the files before is known already
at_front : (stand more : List (List ℕ)) (at : ℕ) → at < length stand → stand_at (stand ++ more) at ≡ stand_at stand at
at_front [] more at within = absurd (omega arith)
at_front (places ∷ stand) more zero within = refl
at_front (places ∷ stand) more (suc at) within = at_front stand more at (omega arith)

all_front : (stand more : List (List ℕ)) (parents : List ℕ) → AreBefore (length stand) parents → flat_map (stand_at (stand ++ more)) parents ≡ flat_map (stand_at stand) parents
all_front stand more [] before = refl
all_front stand more (parent ∷ parents) before = ap (λ l. l ++ flat_map (stand_at (stand ++ more)) parents) (at_front stand more parent before.0) ∙ ap (λ l. stand_at stand parent ++ l) (all_front stand more parents before.1)

front_behind : (stand : List (List ℕ)) (places : List ℕ) (all : List (List ℕ)) → (more : List (List ℕ)) × (all ≡ (stand ++ places ∷ []) ++ more) → (more : List (List ℕ)) × (all ≡ stand ++ more)
front_behind stand places all rest = (places ∷ rest.0, rest.1 ∙ append_assoc stand (places ∷ []) rest.0)

front_test : (stand all others : List (List ℕ)) (out : Bool) → (more : List (List ℕ)) × (all ≡ stand ++ more) → (more : List (List ℕ)) × (others ≡ stand ++ more) → (more : List (List ℕ)) × (cond out all others ≡ stand ++ more)
front_test stand all others true first second = first
front_test stand all others false first second = second

standing_front : (stand : List (List ℕ)) (next : ℕ) (files : List File) → (more : List (List ℕ)) × (standing_from stand next files ≡ stand ++ more)
unfolding standing_from
standing_front stand next [] = ([], sym (append-nil stand))
standing_front stand next (file ∷ files) =
    let gone = standing_for stand (parents_of file.origin) in
    front_test stand (standing_from (stand ++ gone ∷ []) next files) (standing_from (stand ++ (next ∷ []) ∷ []) (next + 1) files) (is_left_out file)
    (front_behind stand gone (standing_from (stand ++ gone ∷ []) next files) (standing_front (stand ++ gone ∷ []) next files))
    (front_behind stand (next ∷ []) (standing_from (stand ++ (next ∷ []) ∷ []) (next + 1) files) (standing_front (stand ++ (next ∷ []) ∷ []) (next + 1) files))

child_before : (place : ℕ) (left : List ℕ) (one : ℕ → Origin) → ((parent : ℕ) → parents_of (one parent) ≡ parent ∷ []) → AreBefore place left → AreBefore place (parents_of (child_of one left))
child_before place [] one is before = tt
child_before place (parent ∷ []) one is before = subst (AreBefore place) (sym (is parent)) before
child_before place (parent ∷ other ∷ more) one is before = before

joined_before : (place : ℕ) (left : List ℕ) → AreBefore place left → AreBefore place (parents_of (joined_of left))
joined_before place [] before = tt
joined_before place (parent ∷ more) before = before

origin_before : (place : ℕ) (stand : List (List ℕ)) (origin : Origin) → AreBefore place (standing_for stand (parents_of origin)) → AreBefore place (parents_of (origin_in stand origin))
origin_before place stand (Taken at) before = tt
origin_before place stand Created before = tt
origin_before place stand Received before = tt
origin_before place stand (Forked parent) before = child_before place (standing_for stand (parent ∷ [])) Forked (λ p. refl) before
origin_before place stand (Part of) before = child_before place (standing_for stand (of ∷ [])) Part (λ p. refl) before
origin_before place stand (Cloned of) before = child_before place (standing_for stand (of ∷ [])) Cloned (λ p. refl) before
origin_before place stand (Joined parents) before = joined_before place (standing_for stand parents) before

-- how far the outcome is, behind so many files of the session, of which so many were taken
record IsNext (next place count : ℕ) : Type 0 where
  upto : next ≤ place
  first : place ≤ count → place ≤ next
  behind : count ≤ place → count ≤ next

next_kept : (next place count : ℕ) → IsNext next place count → IsNext (next + 1) (place + 1) count
next_kept next place count is =
    let upto : next ≤ place = is.upto in
    let first : place ≤ count → place ≤ next = is.first in
    let behind : count ≤ place → count ≤ next = is.behind in
    record {
      upto = omega arith;
      first = λ more. let less : place ≤ count = omega arith in let here = first less in omega arith;
      behind = λ more. kept_behind next place count first behind more;
    }
  where
    kept_behind : (next place count : ℕ) → (place ≤ count → place ≤ next) → (count ≤ place → count ≤ next) → count ≤ place + 1 → count ≤ next + 1
    kept_behind next place count first behind more = grind arith

next_out : (next place count : ℕ) → count ≤ place → IsNext next place count → IsNext next (place + 1) count
next_out next place count passed is =
    let upto : next ≤ place = is.upto in
    let here : count ≤ next = is.behind passed in
    record {
      upto = omega arith;
      first = λ more. absurd (omega arith);
      behind = λ more. here;
    }

made_behind : (place count : ℕ) (origin : Origin) → is_made origin ≡ true → StandsInTurn place count origin → count ≤ place
made_behind place count (Taken of) made stands = cc
made_behind place count Created made stands = stands
made_behind place count Received made stands = stands
made_behind place count (Forked parent) made stands = stands
made_behind place count (Part parent) made stands = stands
made_behind place count (Cloned parent) made stands = stands
made_behind place count (Joined parents) made stands = stands

child_stands : (next count : ℕ) (one : ℕ → Origin) (left : List ℕ) → ((parent : ℕ) → StandsInTurn next count (one parent)) → count ≤ next → StandsInTurn next count (child_of one left)
child_stands next count one [] is behind = behind
child_stands next count one (parent ∷ []) is behind = is parent
child_stands next count one (parent ∷ other ∷ more) is behind = behind

joined_stands : (next count : ℕ) (left : List ℕ) → count ≤ next → StandsInTurn next count (joined_of left)
joined_stands next count [] behind = behind
joined_stands next count (parent ∷ more) behind = behind

-- a kept file stands in the outcome as it stood in the session
stands_in : (stand : List (List ℕ)) (next place count : ℕ) (origin : Origin) → IsNext next place count → StandsInTurn place count origin → StandsInTurn next count (origin_in stand origin)
stands_in stand next place count (Taken of) is stands =
    let upto : next ≤ place = is.upto in
    let at : of ≡ place = stands.0 in
    let within : place < count = stands.1 in
    let first : place ≤ next = is.first (omega arith) in
    (omega arith, omega arith)
stands_in stand next place count Created is stands = is.behind stands
stands_in stand next place count Received is stands = is.behind stands
stands_in stand next place count (Forked parent) is stands = child_stands next count Forked (standing_for stand (parent ∷ [])) (λ p. is.behind stands) (is.behind stands)
stands_in stand next place count (Part of) is stands = child_stands next count Part (standing_for stand (of ∷ [])) (λ p. is.behind stands) (is.behind stands)
stands_in stand next place count (Cloned of) is stands = child_stands next count Cloned (standing_for stand (of ∷ [])) (λ p. is.behind stands) (is.behind stands)
stands_in stand next place count (Joined parents) is stands = joined_stands next count (standing_for stand parents) (is.behind stands)

left_out_made : (made removed : Bool) → (made && removed) ≡ true → made ≡ true
left_out_made true removed out = refl
left_out_made false removed out = out

abbrev InTurn : ℕ → List (List ℕ) → ℕ → List File → Type 0
InTurn count stand next files = StandBefore next stand → IsNext next (length stand) count → AreInTurn (length stand) count (map as_worked files) → AreInTurn next count (kept_files (standing_from stand next files) files)

longer : (count : ℕ) (stand : List (List ℕ)) (places : List ℕ) (files : List Worked) → AreInTurn (length stand + 1) count files → AreInTurn (length (stand ++ places ∷ [])) count files
longer count stand places files turn = subst (λ n. AreInTurn n count files) (sym (length-append stand (places ∷ []))) turn

longer_next : (next count : ℕ) (stand : List (List ℕ)) (places : List ℕ) → IsNext next (length stand + 1) count → IsNext next (length (stand ++ places ∷ [])) count
longer_next next count stand places is = subst (λ n. IsNext next n count) (sym (length-append stand (places ∷ []))) is

earlier_kept : (stand : List (List ℕ)) (next : ℕ) (file : File) (files : List File) → StandBefore next stand → AreBefore (length stand) (parents_of file.origin) → AreBefore next (parents_of (origin_in (standing_from (stand ++ (next ∷ []) ∷ []) (next + 1) files) file.origin))
earlier_kept stand next file files before earlier =
    let all = standing_from (stand ++ (next ∷ []) ∷ []) (next + 1) files in
    let front = standing_front (stand ++ (next ∷ []) ∷ []) (next + 1) files in
    let whole : all ≡ stand ++ ((next ∷ []) ∷ front.0) = front.1 ∙ append_assoc stand ((next ∷ []) ∷ []) front.0 in
    let same : standing_for all (parents_of file.origin) ≡ standing_for stand (parents_of file.origin) = ap (λ s. standing_for s (parents_of file.origin)) whole ∙ ap places_once (all_front stand ((next ∷ []) ∷ front.0) (parents_of file.origin) earlier) in
    origin_before next all file.origin (subst (AreBefore next) (sym same) (for_before next stand (parents_of file.origin) before))

turn_test : (count : ℕ) (stand : List (List ℕ)) (next : ℕ) (file : File) (files : List File) (out : Bool) → is_left_out file ≡ out → InTurn count (stand ++ standing_for stand (parents_of file.origin) ∷ []) next files → InTurn count (stand ++ (next ∷ []) ∷ []) (next + 1) files
    → StandBefore next stand → IsNext next (length stand) count → AreInTurn (length stand) count (map as_worked (file ∷ files))
    → (let all = cond out (standing_from (stand ++ standing_for stand (parents_of file.origin) ∷ []) next files) (standing_from (stand ++ (next ∷ []) ∷ []) (next + 1) files) in AreInTurn next count (cond out (kept_files all files) (worked_of all file ∷ kept_files all files)))
turn_test count stand next file files true is gone kept before counted turn =
    let places = standing_for stand (parents_of file.origin) in
    let passed : count ≤ length stand = made_behind (length stand) count file.origin (left_out_made (is_made file.origin) (ends_removed file.«end») is) turn.0 in
    gone (stand_push next stand places before (for_before next stand (parents_of file.origin) before)) (longer_next next count stand places (next_out next (length stand) count passed counted)) (longer count stand places (map as_worked files) turn.2)
turn_test count stand next file files false is gone kept before counted turn =
    let all = standing_from (stand ++ (next ∷ []) ∷ []) (next + 1) files in
    let less : next ≤ next + 1 = omega arith in
    let here : next < next + 1 = omega arith in (
      stands_in all next (length stand) count file.origin counted turn.0,
      all_before_from next (parents_of (origin_in all file.origin)) (earlier_kept stand next file files before (before_from_all (length stand) (parents_of file.origin) turn.1)),
      kept (stand_push (next + 1) stand (next ∷ []) (stand_later next (next + 1) stand less before) (here, tt)) (longer_next (next + 1) count stand (next ∷ []) (next_kept next (length stand) count counted)) (longer count stand (next ∷ []) (map as_worked files) turn.2),
    )

-- behind what is known of the files before
turn_from : (count : ℕ) (stand : List (List ℕ)) (next : ℕ) (files : List File) → InTurn count stand next files
unfolding standing_from kept_files
turn_from count stand next [] = λ before counted turn. counted.behind turn
turn_from count stand next (file ∷ files) = turn_test count stand next file files (is_left_out file) refl (turn_from count (stand ++ standing_for stand (parents_of file.origin) ∷ []) next files) (turn_from count (stand ++ (next ∷ []) ∷ []) (next + 1) files)

in_turn : (count : ℕ) (files : List File) → AreInTurn 0 count (map as_worked files) → AreInTurn 0 count (kept_files (standing_from [] 0 files) files)
in_turn count files turn = turn_from count [] 0 files tt (record { upto = omega arith; first = λ less. omega arith; behind = λ less. less }) turn

-- ---- each file

abbrev same : ℕ → ℕ → Bool
same one other = one == other

all_test : (P : ℕ → Type 0) (place : ℕ) (rest : List ℕ) (b : Bool) → P place → AllByRecursion P rest → AllByRecursion P (cond b (place ∷ rest) rest)
all_test P place rest true here all = (here, all)
all_test P place rest false here all = all

all_filter : (P : ℕ → Type 0) (test : ℕ → Bool) (places : List ℕ) → AllByRecursion P places → AllByRecursion P (filter test places)
all_filter P test [] all = all
all_filter P test (place ∷ places) all = all_test P place (filter test places) (test place) all.0 (all_filter P test places all.1)

distinct_test : (place : ℕ) (rest : List ℕ) (b : Bool) → AllByRecursion (λ other. same place other ≡ false) rest → IsDistinct same rest → IsDistinct same (cond b (place ∷ rest) rest)
distinct_test place rest true apart distinct = IsDistinct-cons same place rest apart distinct
distinct_test place rest false apart distinct = distinct

distinct_filter : (test : ℕ → Bool) (places : List ℕ) → IsDistinct same places → IsDistinct same (filter test places)
distinct_filter test [] distinct = distinct
distinct_filter test (place ∷ places) distinct =
    distinct_test place (filter test places) (test place) (all_filter (λ other. same place other ≡ false) test places (IsDistinct-head same place places distinct)) (distinct_filter test places (IsDistinct-tail same place places distinct))

apart_from : (place other : ℕ) → (other == place) ≡ false → (place == other) ≡ false
apart_from place other differ = grind (arith, nat_tests)

apart_test : (place other : ℕ) (rest : List ℕ) (b : Bool) → (other == place) ≡ b → AllByRecursion (λ one. same place one ≡ false) rest → AllByRecursion (λ one. same place one ≡ false) (cond (not b) (other ∷ rest) rest)
apart_test place other rest true is all = all
apart_test place other rest false is all = (apart_from place other is, all)

none_same : (place : ℕ) (places : List ℕ) → AllByRecursion (λ one. same place one ≡ false) (filter (λ other. not (other == place)) places)
none_same place [] = tt
none_same place (other ∷ places) = apart_test place other (filter (λ one. not (one == place)) places) (other == place) refl (none_same place places)

once_distinct : (places : List ℕ) → IsDistinct same (places_once places)
unfolding IsDistinct
once_distinct [] = tt
once_distinct (place ∷ places) =
    let rest = filter (λ other. not (other == place)) (places_once places) in
    IsDistinct-cons same place rest (none_same place (places_once places)) (distinct_filter (λ other. not (other == place)) (places_once places) (once_distinct places))

child_names : (one : ℕ → Origin) (left : List ℕ) → ((parent : ℕ) → NamesEachOnce (one parent)) → IsDistinct same left → NamesEachOnce (child_of one left)
child_names one [] is distinct = tt
child_names one (parent ∷ []) is distinct = is parent
child_names one (parent ∷ other ∷ more) is distinct = (omega arith, distinct)

joined_names : (left : List ℕ) → IsDistinct same left → NamesEachOnce (joined_of left)
joined_names [] distinct = tt
joined_names (parent ∷ more) distinct = (omega arith, distinct)

for_distinct : (stand : List (List ℕ)) (parents : List ℕ) → IsDistinct same (standing_for stand parents)
for_distinct stand parents = once_distinct (flat_map (stand_at stand) parents)

names_in : (stand : List (List ℕ)) (origin : Origin) → NamesEachOnce (origin_in stand origin)
names_in stand (Taken of) = tt
names_in stand Created = tt
names_in stand Received = tt
names_in stand (Forked parent) = child_names Forked (standing_for stand (parent ∷ [])) (λ p. tt) (for_distinct stand (parent ∷ []))
names_in stand (Part of) = child_names Part (standing_for stand (of ∷ [])) (λ p. tt) (for_distinct stand (of ∷ []))
names_in stand (Cloned of) = child_names Cloned (standing_for stand (of ∷ [])) (λ p. tt) (for_distinct stand (of ∷ []))
names_in stand (Joined parents) = joined_names (standing_for stand parents) (for_distinct stand parents)

child_made : (one : ℕ → Origin) (left : List ℕ) → ((parent : ℕ) → is_made (one parent) ≡ true) → is_made (child_of one left) ≡ true
child_made one [] is = refl
child_made one (parent ∷ []) is = is parent
child_made one (parent ∷ other ∷ more) is = refl

joined_made : (left : List ℕ) → is_made (joined_of left) ≡ true
joined_made [] = refl
joined_made (parent ∷ more) = refl

made_in : (stand : List (List ℕ)) (origin : Origin) → is_made (origin_in stand origin) ≡ is_made origin
made_in stand (Taken of) = refl
made_in stand Created = refl
made_in stand Received = refl
made_in stand (Forked parent) = child_made Forked (standing_for stand (parent ∷ [])) (λ p. refl)
made_in stand (Part of) = child_made Part (standing_for stand (of ∷ [])) (λ p. refl)
made_in stand (Cloned of) = child_made Cloned (standing_for stand (of ∷ [])) (λ p. refl)
made_in stand (Joined parents) = joined_made (standing_for stand parents)

to_come_in : (stand : List (List ℕ)) (origin : Origin) (attributes : AttributeMap) → filename_to_come (origin_in stand origin) attributes ≡ filename_to_come origin attributes
to_come_in stand origin attributes = ap (λ made. cond (made && not (contains_key attributes (codes "filename"))) FILENAME_SIZE 0) (made_in stand origin)

size_at : (sources : List Source) (of : ℕ) → slice_index (sizes_of sources) of ≡ taken_size sources of
size_at [] of = refl
size_at (source ∷ sources) zero = refl
size_at (source ∷ sources) (suc of) = size_at sources of

body_over : (sources : List Source) (content : Body) → IsBodyOf sources content → IsBodyOver (sizes_of sources) content
body_over sources (body.Whole of) is = subst (λ n. of < n) (sym (length-map sources (λ (source : Source). source.size))) is
body_over sources (body.Part of offset size) is = (
  subst (λ n. of < n) (sym (length-map sources (λ (source : Source). source.size))) is.0,
  subst (λ n. offset + size ≤ n) (sym (size_at sources of)) is.1,
)
body_over sources (body.New bytes) is = is

not_made : (made : Bool) → (made && true) ≡ false → made ≡ false
not_made true out = out
not_made false out = refl

end_of : (relationships : ℕ) (stand : List (List ℕ)) (origin : Origin) (how : Option End) → is_none how ≡ false → (is_made origin && ends_removed how) ≡ false → IfSome how (MayEnd relationships origin) → IsEndOf relationships (origin_in stand origin) (unwrap_or how Removed)
end_of relationships stand origin None ended kept may = cc
end_of relationships stand origin (Some (To relationship)) ended kept may = may
end_of relationships stand origin (Some Back) ended kept may = made_in stand origin ∙ may
end_of relationships stand origin (Some Removed) ended kept may = made_in stand origin ∙ not_made (is_made origin) kept

worked_is : (relationships : ℕ) (sources : List Source) (stand : List (List ℕ)) (file : File) → IsHeldFile relationships file → IsBodyOf sources file.body → is_none file.«end» ≡ false → is_left_out file ≡ false → IsWorked relationships (sizes_of sources) (worked_of stand file)
worked_is relationships sources stand file held content ended kept = record {
  names = names_in stand file.origin;
  body = body_over sources file.body content;
  ends = end_of relationships stand file.origin file.«end» ended kept held.ends;
  routed = held.routed;
  attributes = held.limits;
  named = subst (λ n. encoded_size file.attributes + n ≤ ATTRIBUTES_MAX) (sym (to_come_in stand file.origin file.attributes)) held.named;
}

ended_test : (place : ℕ) (files : List File) (still : Bool) → cond still (Some (NotAccounted place)) (not_accounted_from (place + 1) files) ≡ None → (still ≡ false) × (not_accounted_from (place + 1) files ≡ None)
ended_test place files true none = cc
ended_test place files false none = (refl, none)

ended_each : (place : ℕ) (file : File) (files : List File) → not_accounted_from place (file ∷ files) ≡ None → (is_none file.«end» ≡ false) × (not_accounted_from (place + 1) files ≡ None)
unfolding not_accounted_from
ended_each place file files none = ended_test place files (is_none file.«end») none

each_test : (P : Worked → Type 0) (first : Worked) (rest : List Worked) (out : Bool) → (out ≡ false → P first) → All P rest → All P (cond out rest (first ∷ rest))
each_test P first rest true here all = all
each_test P first rest false here all = All-cons P first rest (here refl) all

each_kept : (relationships : ℕ) (sources : List Source) (stand : List (List ℕ)) (place : ℕ) (files : List File) → not_accounted_from place files ≡ None → All (IsHeldFile relationships) files → All (λ file. IsBodyOf sources file.body) files → All (IsWorked relationships (sizes_of sources)) (kept_files stand files)
unfolding kept_files
each_kept relationships sources stand place [] ended held bodies = All-nil (IsWorked relationships (sizes_of sources))
each_kept relationships sources stand place (file ∷ files) ended held bodies =
    let HasBody : File → Type 0 = λ one. IsBodyOf sources one.body in
    let open_none = ended_each place file files ended in
    each_test (IsWorked relationships (sizes_of sources)) (worked_of stand file) (kept_files stand files) (is_left_out file)
    (λ kept. worked_is relationships sources stand file (All-head (IsHeldFile relationships) file files held) (All-head HasBody file files bodies) open_none.0 kept)
    (each_kept relationships sources stand (place + 1) files open_none.1 (All-tail (IsHeldFile relationships) file files held) (All-tail HasBody file files bodies))

-- ---- all together

count_test : (first : Worked) (rest : List Worked) (n : ℕ) (out : Bool) → length rest ≤ n → length (cond out rest (first ∷ rest)) ≤ n + 1
count_test first rest n true few = omega arith
count_test first rest n false few = omega arith

count_kept : (stand : List (List ℕ)) (files : List File) → length (kept_files stand files) ≤ length files
unfolding kept_files
count_kept stand [] = omega arith
count_kept stand (file ∷ files) =
    let most : length (cond (is_left_out file) (kept_files stand files) (worked_of stand file ∷ kept_files stand files)) ≤ length files + 1 = count_test (worked_of stand file) (kept_files stand files) (length files) (is_left_out file) (count_kept stand files) in
    omega arith

abbrev worked_size : Worked → ℕ
worked_size worked = encoded_size worked.attributes

sum_test : (first : Worked) (rest : List Worked) (n : ℕ) (out : Bool) → sum_by worked_size rest ≤ n → sum_by worked_size (cond out rest (first ∷ rest)) ≤ encoded_size first.attributes + n
sum_test first rest n true most = omega arith
sum_test first rest n false most =
    let all : sum_by worked_size (first ∷ rest) ≡ encoded_size first.attributes + sum_by worked_size rest = sum_by-cons worked_size first rest in
    omega arith

sum_kept : (stand : List (List ℕ)) (files : List File) → sum_by worked_size (kept_files stand files) ≤ sum_by file_size files
unfolding kept_files
sum_kept stand [] = omega arith
sum_kept stand (file ∷ files) =
    let most : sum_by worked_size (cond (is_left_out file) (kept_files stand files) (worked_of stand file ∷ kept_files stand files)) ≤ encoded_size file.attributes + sum_by file_size files = sum_test (worked_of stand file) (kept_files stand files) (sum_by file_size files) (is_left_out file) (sum_kept stand files) in
    let all : sum_by file_size (file ∷ files) ≡ encoded_size file.attributes + sum_by file_size files = sum_by-cons file_size file files in
    omega arith

-- the places that stand for files are places of the outcome
abbrev AllStand : List (List ℕ) → List (List ℕ) → ℕ → List File → Type 0
AllStand by stand next files = StandBefore next stand → StandBefore (next + length (kept_files by files)) (standing_from stand next files)

all_stand_test : (by stand : List (List ℕ)) (next : ℕ) (file : File) (files : List File) (out : Bool) → AllStand by (stand ++ standing_for stand (parents_of file.origin) ∷ []) next files → AllStand by (stand ++ (next ∷ []) ∷ []) (next + 1) files → StandBefore next stand
    → StandBefore (next + length (cond out (kept_files by files) (worked_of by file ∷ kept_files by files))) (cond out (standing_from (stand ++ standing_for stand (parents_of file.origin) ∷ []) next files) (standing_from (stand ++ (next ∷ []) ∷ []) (next + 1) files))
all_stand_test by stand next file files true gone kept before =
    gone (stand_push next stand (standing_for stand (parents_of file.origin)) before (for_before next stand (parents_of file.origin) before))
all_stand_test by stand next file files false gone kept before =
    let less : next ≤ next + 1 = omega arith in
    let here : next < next + 1 = omega arith in
    let same_place : next + 1 + length (kept_files by files) ≡ next + length (worked_of by file ∷ kept_files by files) = omega arith in
    subst (λ n. StandBefore n (standing_from (stand ++ (next ∷ []) ∷ []) (next + 1) files)) same_place (kept (stand_push (next + 1) stand (next ∷ []) (stand_later next (next + 1) stand less before) (here, tt)))

all_stand : (by stand : List (List ℕ)) (next : ℕ) (files : List File) → AllStand by stand next files
unfolding standing_from kept_files
all_stand by stand next [] = λ before. let less : next ≤ next + length {A = Worked} [] = omega arith in stand_later next (next + length {A = Worked} []) stand less before
all_stand by stand next (file ∷ files) = all_stand_test by stand next file files (is_left_out file) (all_stand by (stand ++ standing_for stand (parents_of file.origin) ∷ []) next files) (all_stand by (stand ++ (next ∷ []) ∷ []) (next + 1) files)

sent_kept : (count : ℕ) (sent : Sent) (out : Option Bool) (places : List ℕ) → AreBefore count places → IfSome (option_map (λ place. record { place = place; name = sent.name }) (place_if_kept out places)) (λ (put : Sent). put.place < count)
sent_kept count sent None places before = tt
sent_kept count sent (Some true) places before = tt
sent_kept count sent (Some false) [] before = tt
sent_kept count sent (Some false) (place ∷ more) before = before.0

sent_within : (bench : Bench) (count : ℕ) (sent : Option Sent) → StandBefore count (standing bench) → IfSome (sent_in bench sent) (λ (put : Sent). put.place < count)
unfolding sent_in
sent_within bench count None before = tt
sent_within bench count (Some sent) before = sent_kept count sent (option_map is_left_out (slice_get bench.files sent.place)) (stand_at (standing bench) sent.place) (at_before count (standing bench) sent.place before)

pub is_outcome : (bench : Bench) (counted : ℕ) → not_accounted bench ≡ None → IsSoundBench bench counted → IsOutcome bench.relationships (sizes_of bench.sources) (outcome_of bench)
unfolding outcome_of
is_outcome bench counted ended sound =
    let stand = standing bench in
    let files = kept_files stand bench.files in
    let number : length (sizes_of bench.sources) ≡ length bench.sources = length-map bench.sources (λ (source : Source). source.size) in
    let few : length files ≤ length bench.files = count_kept stand bench.files in
    let most : length bench.files ≤ FILES_MAX = sound.few in
    let sum : sum_by worked_size files ≤ sum_by file_size bench.files = sum_kept stand bench.files in
    let summed : counted ≡ sum_by file_size bench.files = sound.summed in
    let room : counted ≤ SESSION_ATTRIBUTES_MAX = sound.attributes in
    record {
      taken = subst (λ n. n ≤ TAKEN_MAX) (sym number) sound.taken;
      count = omega arith;
      in_turn = subst (λ n. AreInTurn 0 n files) (sym number) (in_turn (length bench.sources) bench.files sound.in_turn);
      each = each_kept bench.relationships bench.sources stand 0 bench.files ended sound.each sound.bodies;
      attributes = omega arith;
      sent = sent_within bench (length files) bench.sent (subst (λ n. StandBefore n stand) (zero-add (length files)) (all_stand stand [] 0 bench.files tt));
    }
