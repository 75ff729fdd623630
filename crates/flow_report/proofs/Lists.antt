-- The texts of lists of identifiers.
use Rattle.std.proofs.Common.{◌≡◌, ℕ, ◌+◌, ◌<◌, ◌≤◌, Bool, true, List, [], ◌∷◌, ◌++◌, length, drop, get_or, sym, ap, ◌∙◌, append_assoc}
use Rattle.std.proofs.lemmas.List.{drop_more, drop_all}
use Rattle.json.specs.Print.{quoted}
use Rattle.serde_json.specs.Data.{Items, item}
use Rattle.serde_json.specs.Written.{comma_if, items_text}
use Rattle.flowfile_record.specs.Identifier.{identifier}
use Rattle.flow_report.specs.Events.{file_data, file_items}
use Rattle.flow_report.specs.Words.{identifier_text}

pub items-more : (text : List ℕ) (later : Bool) (store : ℕ) (files : List ℕ) (i : ℕ) (id whole : List ℕ) → i < length files → id ≡ identifier store (get_or files i 0)
    → text ++ items_text later (file_items store (drop i files)) ≡ whole
    → (text ++ (comma_if later ++ quoted (identifier_text id))) ++ items_text true (file_items store (drop (i + 1) files)) ≡ whole
items-more text later store files i id whole within is so_far =
    let rest : List ℕ = items_text true (file_items store (drop (i + 1) files)) in
    let next : file_items store (drop i files) ≡ item (file_data store (get_or files i 0)) (file_items store (drop (i + 1) files)) = ap (file_items store) (drop_more files i 0 within) in
    append_assoc text (comma_if later ++ quoted (identifier_text id)) rest ∙ ap (λ (l : List ℕ). text ++ l) (append_assoc (comma_if later) (quoted (identifier_text id)) rest)
    ∙ ap (λ (l : List ℕ). text ++ (comma_if later ++ (quoted (identifier_text l) ++ rest))) is ∙ ap (λ (items : Items). text ++ items_text later items) (sym next) ∙ so_far

pub items-end : (text : List ℕ) (later : Bool) (store : ℕ) (files : List ℕ) (i : ℕ) (whole : List ℕ) → length files ≤ i
    → text ++ items_text later (file_items store (drop i files)) ≡ whole → text ++ 93 ∷ [] ≡ whole
items-end text later store files i whole past so_far = ap (λ (l : List ℕ). text ++ items_text later (file_items store l)) (sym (drop_all i files past)) ∙ so_far
