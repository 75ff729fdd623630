-- Where a key stands among entries whose keys rise, or where it would.
use Rattle.std.specs.Prelude.{◌≡◌, ℕ, ◌+◌, ◌<◌, ◌≤◌, List, length}
use Rattle.std.specs.List.{AllWithin, HoldsAt}
use Rattle.std.specs.declared.cmp.Ordering.{Ordering}
use Rattle.std.specs.declared.cmp.Ordering.TheVariants.{Less, Equal, Greater}

-- the entry at a place has the key: lesser keys stand before it, and greater ones after it
pub record IsAt {K X : Type 0} (compare : K → K → Ordering) (entries : List (K × X)) (key : K)
    (place : ℕ) : Type 0 where
  pub within : place < length entries
  pub before : AllWithin (λ entry. compare entry.0 key ≡ Less) entries 0 place
  pub at : HoldsAt (λ entry. compare entry.0 key ≡ Equal) entries place
  pub after : AllWithin (λ entry. compare entry.0 key ≡ Greater) entries (place + 1) (length entries)

-- no entry has the key, and it would stand at a place
pub record IsGap {K X : Type 0} (compare : K → K → Ordering) (entries : List (K × X)) (key : K)
    (place : ℕ) : Type 0 where
  pub within : place ≤ length entries
  pub before : AllWithin (λ entry. compare entry.0 key ≡ Less) entries 0 place
  pub after : AllWithin (λ entry. compare entry.0 key ≡ Greater) entries place (length entries)
