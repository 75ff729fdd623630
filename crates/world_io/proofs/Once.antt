-- Texts that each stand once, in this crate's word and in the library's.
use Rattle.std.proofs.Common.{ℕ, List, [], ◌∷◌, bytes_eq}
use Rattle.std.specs.List.{IsDistinct}
use Rattle.std.proofs.lemmas.Map.Keys.{IsDistinct-head, IsDistinct-tail, IsDistinct-cons}
use Rattle.world_io.specs.Memory.{EachOnce}

pub distinct-from_once : (names : List (List ℕ)) → EachOnce names → IsDistinct bytes_eq names
unfolding IsDistinct
distinct-from_once [] once = tt
distinct-from_once (name ∷ names) once = IsDistinct-cons bytes_eq name names once.0 (distinct-from_once names once.1)

pub once-from_distinct : (names : List (List ℕ)) → IsDistinct bytes_eq names → EachOnce names
once-from_distinct [] distinct = tt
once-from_distinct (name ∷ names) distinct =
    (IsDistinct-head bytes_eq name names distinct, once-from_distinct names (IsDistinct-tail bytes_eq name names distinct))
