-- That the clones of a settlement bring no bytes of their own.
use Rattle.std.proofs.Common.{◌≡◌, ◌⊎◌, inl, inr, ℕ, zero, suc, ◌+◌, ◌<◌, ◌≤◌, List, [], ◌∷◌, ◌++◌, map, length, refl, sym, subst, arith}
use Rattle.std.specs.List.{range_with_len}
use Rattle.std.specs.Prelude.{Contains, None, zip}
use Rattle.flowfile_record.specs.Outcome.{AreInTurn}
use Rattle.flowfile_record.specs.Shared.{own_bytes}
use Rattle.flowfile_record.specs.declared.flow_file.FlowFile.{FlowFile}
use Rattle.flowfile_record.specs.declared.worked.Body.{Body}
use Rattle.flowfile_record.specs.declared.worked.Body.TheVariants.{Whole, Part, New}
use Rattle.flowfile_record.specs.declared.worked.Worked.{Worked}
use Rattle.machine_model.specs.Placing.{count_made, entered_in, numbers_from}
use Rattle.machine_model.proofs.Among.{Among, contains_among}
use Rattle.machine_model.proofs.Numbers.{numbers_are}
use Rattle.machine_model.proofs.Tally.{Each, each-append}
use Rattle.settlement.specs.Contents.{shared_in}
use Rattle.settlement.specs.Ending.{EndingPlace, ended_file, ended_files}
use Rattle.settlement.specs.Placing.{EndedNewcomer, PlacingFrom, arrived, cloned_from, clones_of, first_newcomer, firsts, further, placed_from, returned, returning}
use Rattle.settlement.specs.TellsOf.{BringsNoneAsClone, IsNumberOfClone}
use Rattle.settlement.specs.declared.counters.Counters.{Counters}
use Rattle.settlement.specs.declared.file.EndedFile.{EndedFile}
use Rattle.settlement.specs.declared.file.Goes.{Goes}
use Rattle.settlement.specs.declared.file.Goes.TheVariants.{Queues, Returns, Drops, Leaves}
use Rattle.settlement.specs.declared.handed.Ended.{Ended}

-- ---- the files of a session have the numbers of taken ones, or those of made ones

abbrev own_numbers : Ended → List ℕ
own_numbers ended = map (λ (file : FlowFile). file.number) ended.taken

abbrev clones_begin : Counters → Ended → ℕ
clones_begin counters ended = counters.next_number + count_made ended.outcome.files

abbrev IsOfSession : Counters → Ended → ℕ → Type 0
IsOfSession counters ended number = Contains (own_numbers ended) number ⊎ (number < clones_begin counters ended)

no_clone : (counters : Counters) (ended : Ended) (number : ℕ) → IsOfSession counters ended number → IsNumberOfClone counters ended number → ⊥
no_clone counters ended number (inl has) clone = clone.untaken has
no_clone counters ended number (inr lt) clone = omega (arith, lt, clone.behind)

own_are : (counters : Counters) (ended : Ended) (numbers : List ℕ) → ((n : ℕ) → Among n numbers → Among n (own_numbers ended)) → Each (IsOfSession counters ended) numbers
own_are counters ended [] has = tt
own_are counters ended (n ∷ numbers) has = (inl (contains_among n (own_numbers ended) (has n (inl refl))), own_are counters ended numbers (λ m there. has m (inr there)))

made_are : (counters : Counters) (ended : Ended) (next count : ℕ) → next + count ≤ clones_begin counters ended → Each (IsOfSession counters ended) (range_with_len next count)
made_are counters ended next zero le = tt
made_are counters ended next (suc count) le = (inr (omega (arith, le)), made_are counters ended (next + 1) count (omega (arith, le)))

all_numbers : (counters : Counters) (ended : Ended) → AreInTurn 0 (length (own_numbers ended)) ended.outcome.files
    → Each (IsOfSession counters ended) (numbers_from counters.next_number (own_numbers ended) ended.outcome.files)
all_numbers counters ended in_turn =
    subst (Each (IsOfSession counters ended)) (sym (numbers_are (own_numbers ended) counters.next_number 0 ended.outcome.files in_turn))
    (each-append (IsOfSession counters ended) (own_numbers ended) (range_with_len counters.next_number (count_made ended.outcome.files))
    (own_are counters ended (own_numbers ended) (λ n there. there)) (made_are counters ended counters.next_number (count_made ended.outcome.files) (omega arith)))

abbrev IsSessionFile : Counters → Ended → EndedFile → Type 0
IsSessionFile counters ended file = IsOfSession counters ended file.number

zipped_are : (counters : Counters) (ended : Ended) (at : EndingPlace) (numbers entered : List ℕ) (files : List Worked) → Each (IsOfSession counters ended) numbers
    → Each (IsSessionFile counters ended) (map (λ f. ended_file at (f.0, f.1.0, f.1.1)) (zip numbers (zip entered files)))
zipped_are counters ended at [] entered files are = tt
zipped_are counters ended at (number ∷ numbers) [] files are = tt
zipped_are counters ended at (number ∷ numbers) (moment ∷ entered) [] are = tt
zipped_are counters ended at (number ∷ numbers) (moment ∷ entered) (file ∷ files) are = (are.0, zipped_are counters ended at numbers entered files are.1)

-- ---- what is placed of them

abbrev IsSessionOne : Counters → Ended → EndedNewcomer → Type 0
IsSessionOne counters ended one = IsOfSession counters ended one.1

first_is : (counters : Counters) (ended : Ended) (file : EndedFile) (goes : Goes) → IsSessionFile counters ended file → Each (IsSessionOne counters ended) (first_newcomer file goes)
first_is counters ended file (Queues first others) is = (is, tt)
first_is counters ended file Returns is = tt
first_is counters ended file (Drops relationship) is = tt
first_is counters ended file Leaves is = tt

firsts_are : (counters : Counters) (ended : Ended) (files : List EndedFile) → Each (IsSessionFile counters ended) files → Each (IsSessionOne counters ended) (firsts files)
firsts_are counters ended [] are = tt
firsts_are counters ended (file ∷ files) are =
    each-append (IsSessionOne counters ended) (first_newcomer file file.goes) (firsts files) (first_is counters ended file file.goes are.0) (firsts_are counters ended files are.1)

news_bring : (counters : Counters) (ended : Ended) (arrival : ℕ) (news : List EndedNewcomer) → Each (IsSessionOne counters ended) news
    → Each (BringsNoneAsClone counters ended) (placed_from arrival news)
news_bring counters ended arrival [] are = tt
news_bring counters ended arrival (one ∷ news) are = (λ clone. absurd (no_clone counters ended one.1 are.0 clone), news_bring counters ended (arrival + 1) news are.1)

returning_brings : (counters : Counters) (ended : Ended) (from : PlacingFrom) (file : EndedFile) (goes : Goes) → IsSessionFile counters ended file
    → Each (BringsNoneAsClone counters ended) (returning from file goes)
returning_brings counters ended from file Returns is = (λ clone. absurd (no_clone counters ended file.number is clone), tt)
returning_brings counters ended from file (Queues first others) is = tt
returning_brings counters ended from file (Drops relationship) is = tt
returning_brings counters ended from file Leaves is = tt

returned_bring : (counters : Counters) (ended : Ended) (from : PlacingFrom) (files : List EndedFile) → Each (IsSessionFile counters ended) files
    → Each (BringsNoneAsClone counters ended) (returned from files)
returned_bring counters ended from [] are = tt
returned_bring counters ended from (file ∷ files) are =
    each-append (BringsNoneAsClone counters ended) (returning from file file.goes) (returned from files) (returning_brings counters ended from file file.goes are.0) (returned_bring counters ended from files are.1)

-- ---- and of their clones

shared_brings : (place : ℕ) (body : Body) → own_bytes (shared_in place body) ≡ None
shared_brings place (Whole of) = refl
shared_brings place (Part of offset size) = refl
shared_brings place (New bytes) = refl

clones_bring : (counters : Counters) (ended : Ended) (place number arrival : ℕ) (file : EndedFile) (connections : List ℕ)
    → Each (BringsNoneAsClone counters ended) (clones_of place number arrival file connections)
clones_bring counters ended place number arrival file [] = tt
clones_bring counters ended place number arrival file (connection ∷ connections) =
    (λ clone. shared_brings place file.worked.body, clones_bring counters ended place (number + 1) (arrival + 1) file connections)

cloned_bring : (counters : Counters) (ended : Ended) (place number arrival : ℕ) (files : List EndedFile) → Each (BringsNoneAsClone counters ended) (cloned_from place number arrival files)
cloned_bring counters ended place number arrival [] = tt
cloned_bring counters ended place number arrival (file ∷ files) =
    each-append (BringsNoneAsClone counters ended) (clones_of place number arrival file (further file.goes)) _ (clones_bring counters ended place number arrival file (further file.goes))
    (cloned_bring counters ended (place + length (first_newcomer file file.goes)) (number + length (further file.goes)) (arrival + length (further file.goes)) files)

-- ---- all of them

pub placed-bring : (counters : Counters) (ended : Ended) (at : EndingPlace) (from : PlacingFrom) → at.taken ≡ ended.taken → AreInTurn 0 (length (own_numbers ended)) ended.outcome.files
    → Each (BringsNoneAsClone counters ended)
    (returned from (ended_files at counters.next_number ended.outcome.files) ++ arrived from (clones_begin counters ended) (ended_files at counters.next_number ended.outcome.files))
placed-bring counters ended at from taken in_turn =
    let files = ended_files at counters.next_number ended.outcome.files in
    let numbers : Each (IsOfSession counters ended) (numbers_from counters.next_number (map (λ (file : FlowFile). file.number) at.taken) ended.outcome.files) =
    subst (λ (xs : List FlowFile). Each (IsOfSession counters ended) (numbers_from counters.next_number (map (λ (file : FlowFile). file.number) xs) ended.outcome.files)) (sym taken) (all_numbers counters ended in_turn) in
    let are : Each (IsSessionFile counters ended) files = zipped_are counters ended at (numbers_from counters.next_number (map (λ (file : FlowFile). file.number) at.taken) ended.outcome.files)
    (entered_in at.moment (map (λ (file : FlowFile). file.entered) at.taken) ended.outcome.files) ended.outcome.files numbers in
    each-append (BringsNoneAsClone counters ended) (returned from files) (arrived from (clones_begin counters ended) files) (returned_bring counters ended from files are)
    (each-append (BringsNoneAsClone counters ended) (placed_from from.next_arrival (firsts files)) _
    (news_bring counters ended from.next_arrival (firsts files) (firsts_are counters ended files are))
    (cloned_bring counters ended (length (returned from files)) (clones_begin counters ended) (from.next_arrival + length (firsts files)) files))
