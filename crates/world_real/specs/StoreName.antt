-- What the files of a store are called in a folder.
use Rattle.std.specs.Prelude.{ℕ, List, ◌∷◌, ◌++◌, codes}
use Rattle.std.specs.Fmt.{decimal}
use Rattle.disk_trait.specs.declared.file_name.FileKind.{FileKind}
use Rattle.disk_trait.specs.declared.file_name.FileKind.TheVariants.{Log, Snapshot, Swap, Claim, Events}
use Rattle.disk_trait.specs.declared.file_name.FileName.{FileName}

abbrev pub kind_text : FileKind → List ℕ
kind_text Log = codes "log"
kind_text Snapshot = codes "snapshot"
kind_text Swap = codes "swap"
kind_text Claim = codes "claim"
kind_text Events = codes "events"

-- the kind, a dash and the number
abbrev pub name_text : FileName → List ℕ
name_text name = kind_text name.kind ++ 45 ∷ decimal name.number
