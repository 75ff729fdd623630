-- A walk through a list: what a loop has seen of it.
use Rattle.std.proofs.Common.{◌≡◌, ℕ, ◌+◌, ◌<◌, List, [], ◌∷◌, ◌++◌, length, get_or, take, map, sym, ap, ◌∙◌}
use Rattle.std.proofs.lemmas.List.{take_more, map-append}

pub front_at : {A B : Type 0} (v : A → B) (xs : List A) (k : ℕ) (x : A) → k < length xs → x ≡ get_or xs k x
    → map v (take (k + 1) xs) ≡ map v (take k xs) ++ v x ∷ []
front_at v xs k x h e =
    ap (map v) (take_more xs k x h) ∙ map-append v (take k xs) (get_or xs k x ∷ [])
    ∙ ap (λ y. map v (take k xs) ++ v y ∷ []) (sym e)
