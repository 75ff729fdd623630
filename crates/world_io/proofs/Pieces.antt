-- Pieces of a list.
use Rattle.std.proofs.Common.{◌≡◌, ℕ, ◌+◌, List, ◌++◌, length, take, drop, sym, ap, ◌∙◌}
use Rattle.std.proofs.lemmas.List.{take_at, take-append-drop, drop-drop}

-- what was read, and then what is left
pub read_rest : (at count : ℕ) (bytes read after : List ℕ) → read ≡ take count (drop at bytes) → length read ≡ count → drop at bytes ≡ take count (read ++ after) ++ drop (at + count) bytes
read_rest at count bytes read after is len =
    sym (take-append-drop count (drop at bytes)) ∙ ap (λ (l : List ℕ). l ++ drop count (drop at bytes)) (sym is ∙ sym (take_at read after count len)) ∙ ap (λ (l : List ℕ). take count (read ++ after) ++ l) (drop-drop count at bytes)
