-- How many of a queue's files each whole has.
use Rattle.std.specs.Prelude.{◌≡◌, ℕ, ◌+◌, ◌*◌, ◌/◌, ◌%◌, ◌^◌, ◌<◌, ◌==◌, nat_lt, nat_le, Bool, List, All, length, count_by, sum_by}
use Rattle.std.specs.Hash.DefaultHasher.{finish, initial, write}
use Rattle.std.specs.Option.{option_map_or}
use Rattle.flowfile_record.specs.Attributes.{AttributeMap}
use Rattle.flowfile_record.specs.NumberedItems.{item_of, AscendsByNumber}
use Rattle.machine_model.specs.Taking.{Fragment, fragment_of}
use Rattle.flow_queue.specs.declared.held.Held.{Held}
use Rattle.flow_queue.specs.declared.queue.counts.Counts.{Counts}
use Rattle.flow_queue.specs.declared.queue.counts.TheConstants.{ALONE, NEEDED_LIMIT}
use Rattle.flow_queue.specs.declared.queue.counts.WholeCount.{WholeCount}

-- ---- the number of a whole

-- a number that few wholes share, with how many files the whole needs at its end
unfoldable pub number_of_whole : Fragment → ℕ
number_of_whole fragment =
    finish (write initial fragment.identifier) / NEEDED_LIMIT * NEEDED_LIMIT + fragment.count % NEEDED_LIMIT

-- that of the whole to which a file of these attributes belongs: one that is no fragment is whole by itself
unfoldable pub whole_number : AttributeMap → ℕ
whole_number attributes = option_map_or number_of_whole (fragment_of attributes) ALONE

-- how many files it takes
abbrev pub files_needed : (number : ℕ) → ℕ
files_needed number = number % NEEDED_LIMIT

-- ---- what is counted

abbrev pub count_number : WholeCount → ℕ
count_number count = count.number

abbrev pub has_enough : WholeCount → Bool
has_enough count = nat_le (files_needed count.number) count.files

abbrev pub files_counted : List WholeCount → ℕ
files_counted counts = sum_by (λ count. count.files) counts

-- as many as are counted under a number
abbrev pub files_under : ℕ → List WholeCount → ℕ
files_under number counts = option_map_or (λ count. count.files) (item_of count_number number counts) 0

abbrev pub has_number : ℕ → Held → Bool
has_number number held = whole_number held.file.attributes == number

abbrev pub has_penalty : Held → Bool
has_penalty held = nat_lt 0 held.file.penalty_end

-- the counts agree with one another
pub record HasTally (counts : Counts) : Type 0 where
  pub ascends : AscendsByNumber count_number counts.wholes.items
  pub some : All (λ count. 0 < count.files) counts.wholes.items
  pub enough : counts.enough ≡ count_by has_enough counts.wholes.items

-- the counts are those of these files, in any order
pub record AreCountsOf (counts : Counts) (files : List Held) : Type 0 where
  pub tally : HasTally counts
  pub wholes : (number : ℕ) → files_under number counts.wholes.items ≡ count_by (has_number number) files
  pub all : files_counted counts.wholes.items ≡ length files
  pub penalised : counts.penalised ≡ count_by has_penalty files

-- ---- their room

-- for so many wholes there is room, with those that are there
abbrev pub count_places : Counts → ℕ
count_places counts = length counts.wholes.items + counts.wholes.room

-- one more file may be counted
pub record CanEnter (counts : Counts) : Type 0 where
  pub room : files_counted counts.wholes.items < count_places counts
  pub few : files_counted counts.wholes.items < 2 ^ 63
  pub penalised : counts.penalised < 2 ^ 63

-- what a change of one count leaves
pub record StillTallies (before after : Counts) : Type 0 where
  pub tally : HasTally after
  pub places : count_places after ≡ count_places before
  pub penalised : after.penalised ≡ before.penalised
