-- Files of which no log is current: a store that isn't made yet, or that lost its log.
use Rattle.std.specs.Prelude.{ℕ, ◌%◌, ◌^◌, ◌&&◌, nat_lt, nat_le, Bool, length, Option, None, Some, option_map, Result, Ok, Err}
use Rattle.disk_trait.specs.Files.{Files, named}
use Rattle.disk_trait.specs.Search.{least_below}
use Rattle.disk_trait.specs.declared.damage.Damage.{Damage}
use Rattle.disk_trait.specs.declared.damage.Damage.TheVariants.{Form}
use Rattle.disk_trait.specs.declared.file_name.FileKind.{FileKind}
use Rattle.disk_trait.specs.declared.file_name.FileKind.TheVariants.{Log, Snapshot, Swap, Claim, Events}
use Rattle.disk_trait.specs.declared.file_name.FileName.{FileName}
use Rattle.flowfile_record.specs.Stored.{Kept}
use Rattle.flowfile_record.specs.declared.limits.TheConstants.{STORE_LIMIT}
use Rattle.store_core.specs.Flow.{Flow}
use Rattle.kept_state.specs.New.{new_kept}

-- the number of a new store's log and snapshot
abbrev pub first_log : ℕ
first_log = 1

-- a file of this kind, of this number or a greater one, that isn't empty
abbrev pub holds_from : FileKind → ℕ → Files → ℕ → Bool
holds_from kind from files n = nat_le from n && nat_lt 0 (length (files (named kind n)))

-- the first of them
abbrev pub first_from : FileKind → ℕ → Files → Option FileName
first_from kind from files = option_map (named kind) (least_below (holds_from kind from files) (2 ^ 64))

abbrev pub file_or : Option FileName → Option FileName → Option FileName
file_or None other = other
file_or (Some file) other = Some file

-- The first file that a store which is being made doesn't have: a log or a snapshot past the first number, or any file
-- of another kind.
unfoldable pub first_stray : Files → Option FileName
first_stray files =
    file_or (first_from Log 2 files)
    (file_or (first_from Snapshot 2 files)
    (file_or (first_from Swap 0 files)
    (file_or (first_from Claim 0 files) (first_from Events 0 files))))

-- what a new store of this flow keeps; its id is the low 60 bits of the lot
abbrev pub kept_anew : Flow → (lot : ℕ) → Kept
kept_anew flow lot = new_kept (lot % STORE_LIMIT) flow.digest flow.connections flow.processors

abbrev pub unless_stray : Flow → (lot : ℕ) → Option FileName → Result Kept Damage
unless_stray flow lot None = Ok (kept_anew flow lot)
unless_stray flow lot (Some stray) = Err (Form stray 0)
