-- The limits of what a store keeps, and which of them a state passes.
use Rattle.std.specs.Prelude.{ℕ, ◌+◌, nat_lt, length, map, Option, None, Some, if◌then◌else◌}
use Rattle.std.specs.List.{sum}
use Rattle.std.specs.Option.{option_or}
use Rattle.flowfile_record.specs.Stored.{Kept}
use Rattle.flowfile_record.specs.declared.limits.TheConstants.{LIVE_FILES_MAX, LIVE_BYTES_MAX}
use Rattle.checkpoint_store.specs.Consistent.{record_size}
use Rattle.kept_state.specs.declared.limit.TheConstants.{NUMBER_MAX}
use Rattle.kept_state.specs.declared.limit.Which.{Which}
use Rattle.kept_state.specs.declared.limit.Which.TheVariants.{Files, FileBytes, Numbers}
use Rattle.kept_state.specs.declared.limit.Limit.{Limit}

-- how many files live, those that are swapped out too
abbrev pub live_file_count : Kept → ℕ
live_file_count k = length k.files + sum (map (λ b. b.files) k.batches)

-- how many bytes their records have
abbrev pub live_bytes : Kept → ℕ
live_bytes k = sum (map record_size k.files) + sum (map (λ b. b.encoded) k.batches)

-- the limit that a quantity passes
abbrev pub limit_passed : Which → (number wanted : ℕ) → Option Limit
limit_passed which number wanted =
    if nat_lt number wanted then Some (record { which = which; number = number; wanted = wanted }) else None

-- the first limit of what lives that is passed
abbrev pub live_limit : Kept → Option Limit
live_limit k = option_or (limit_passed Files LIVE_FILES_MAX (live_file_count k))
    (limit_passed FileBytes LIVE_BYTES_MAX (live_bytes k))

-- the first counter that passes the limit of numbers
abbrev pub numbers_limit : Kept → Option Limit
numbers_limit k =
    option_or (limit_passed Numbers NUMBER_MAX k.next_number)
    (option_or (limit_passed Numbers NUMBER_MAX k.next_arrival)
    (option_or (limit_passed Numbers NUMBER_MAX k.last_event) (limit_passed Numbers NUMBER_MAX k.next_batch)))
