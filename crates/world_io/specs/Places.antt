-- Places of files by their names.
use Rattle.std.specs.Prelude.{◌≡◌, ℕ, List, Option, None, Some, Vec, position, bytes_eq}
use Rattle.std.specs.BTreeMap.{BTreeMap, get}
use Rattle.std.specs.Cmp.Lexicographic.{slice_cmp}
use Rattle.std.specs.Ordering.{nat_cmp}
use Rattle.std.specs.declared.alloc.Global.{Global}
use Rattle.std.proofs.Props.{props}
use mathlib.Core.HLevel.{Π_prop, Unit-prop}
use Rattle.world_io.specs.Memory.{Indexes}

pub Indexes-prop : (places : Option (BTreeMap (List ℕ) ℕ)) (files : List (List ℕ × Vec ℕ Global)) → IsProp (Indexes places files)
Indexes-prop None files = Unit-prop
Indexes-prop (Some places) files =
    let Has : List ℕ → Type 0 = λ name. get (slice_cmp nat_cmp) places name ≡ position (λ file. bytes_eq file.0 name) files in
    Π_prop {B = Has} (λ name. Prim.hlevel props)
