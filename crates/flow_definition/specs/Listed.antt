-- Names that a text lists between commas.
use Rattle.std.specs.Prelude.{ℕ, Bool, List, [], ◌∷◌, ◌==◌, map, filter, length, nat_lt, reverse, if◌then◌else◌}
use Rattle.std.specs.List.{slice_split}

abbrev pub is_blank : ℕ → Bool
is_blank c = c == 32

abbrev pub behind_blanks : List ℕ → List ℕ
behind_blanks [] = []
behind_blanks (c ∷ cs) = if is_blank c then behind_blanks cs else c ∷ cs

-- without the blanks at both ends
abbrev pub trimmed : List ℕ → List ℕ
trimmed text = reverse (behind_blanks (reverse (behind_blanks text)))

-- the names in the order of the list, without the empty ones
abbrev pub listed_names : List ℕ → List (List ℕ)
listed_names text = filter (λ name. nat_lt 0 (length name)) (map trimmed (slice_split (λ c. c == 44) text))
