-- Steps of the loops: what is left gives the rest of the whole.
use Rattle.std.proofs.Common.{◌≡◌, ℕ, ◌+◌, ◌<◌, List, [], ◌∷◌, ◌++◌, map, length, get_or, drop, sym, ap, ◌∙◌, append-nil, length-append}
use Rattle.std.specs.List.{flat_map, enumerate_from}
use Rattle.std.proofs.lemmas.List.{drop_more, length-map}
use Rattle.flowfile_record.specs.declared.event.Event.{Event}
use Rattle.settlement.specs.Placing.{further, wanted}
use Rattle.settlement.specs.Telling.{AddsDrafts, ToldSession, Unnumbered, clone_draft, clone_events, numbered_wrapping}
use Rattle.settlement.specs.declared.file.EndedFile.{EndedFile}
use Rattle.settlement.proofs.AddedEvents.{adds-on, clones-append}

-- an element and what is left behind it
pub left : {X : Type 0} (xs : List X) (i : ℕ) (x : X) → i < length xs → x ≡ get_or xs i x → drop i xs ≡ x ∷ drop (i + 1) xs
left xs i x h is = drop_more xs i x h ∙ ap (λ y. y ∷ drop (i + 1) xs) (sym is)

pub row_more : (first : ℕ) (old new whole : List Event) (r : ℕ × EndedFile → List Unnumbered) (files : List EndedFile) (i : ℕ) (file : EndedFile) → i < length files → file ≡ get_or files i file
    → AddsDrafts first old (r (i, file)) new → old ++ numbered_wrapping (first + length old) (flat_map r (enumerate_from i (drop i files))) ≡ whole
    → new ++ numbered_wrapping (first + length new) (flat_map r (enumerate_from (i + 1) (drop (i + 1) files))) ≡ whole
row_more first old new whole r files i file h is adds before =
    adds-on first old new (r (i, file)) (flat_map r (enumerate_from (i + 1) (drop (i + 1) files))) adds
    ∙ ap (λ rest. old ++ numbered_wrapping (first + length old) (flat_map r (enumerate_from i rest))) (sym (left files i file h is))
    ∙ before

-- one more clone of a file
pub clone_more : (first : ℕ) (old new whole : List Event) (told : ToldSession) (file : EndedFile) (connections : List ℕ) (i next : ℕ) → i < length connections
    → AddsDrafts first old (clone_draft told file next ∷ []) new
    → old ++ numbered_wrapping (first + length old) (clone_events told next (map (λ connection. (file, connection)) (drop i connections))) ≡ whole
    → new ++ numbered_wrapping (first + length new) (clone_events told (next + 1) (map (λ connection. (file, connection)) (drop (i + 1) connections))) ≡ whole
clone_more first old new whole told file connections i next h adds before =
    adds-on first old new (clone_draft told file next ∷ []) (clone_events told (next + 1) (map (λ connection. (file, connection)) (drop (i + 1) connections))) adds
    ∙ ap (λ rest. old ++ numbered_wrapping (first + length old) (clone_events told next (map (λ connection. (file, connection)) rest))) (sym (drop_more connections i 0 h))
    ∙ before

-- the clones of a file alone
pub wanted_one : (file : EndedFile) → wanted (file ∷ []) ≡ map (λ connection. (file, connection)) (further file.goes)
wanted_one file = append-nil (map (λ connection. (file, connection)) (further file.goes))

pub length_wanted_one : (file : EndedFile) → length (wanted (file ∷ [])) ≡ length (further file.goes)
length_wanted_one file = ap length (wanted_one file) ∙ length-map (further file.goes) (λ connection. (file, connection))

-- the clones of one more file
pub clones_more : (first : ℕ) (old new whole : List Event) (told : ToldSession) (files : List EndedFile) (i next next' : ℕ) (file : EndedFile) → i < length files → file ≡ get_or files i file
    → next' ≡ next + length (further file.goes) → AddsDrafts first old (clone_events told next (wanted (file ∷ []))) new
    → old ++ numbered_wrapping (first + length old) (clone_events told next (wanted (drop i files))) ≡ whole
    → new ++ numbered_wrapping (first + length new) (clone_events told next' (wanted (drop (i + 1) files))) ≡ whole
clones_more first old new whole told files i next next' file h is count adds before =
    let rest = drop (i + 1) files in
    let next_is : next' ≡ next + length (wanted (file ∷ [])) = count ∙ ap (λ n. next + n) (sym (length_wanted_one file)) in
    let joined : wanted (file ∷ []) ++ wanted rest ≡ wanted (file ∷ rest) = ap (λ xs. xs ++ wanted rest) (wanted_one file) in
    ap (λ n. new ++ numbered_wrapping (first + length new) (clone_events told n (wanted rest))) next_is
    ∙ adds-on first old new (clone_events told next (wanted (file ∷ []))) (clone_events told (next + length (wanted (file ∷ []))) (wanted rest)) adds
    ∙ ap (λ drafts. old ++ numbered_wrapping (first + length old) drafts) (sym (clones-append told next (wanted (file ∷ [])) (wanted rest)))
    ∙ ap (λ xs. old ++ numbered_wrapping (first + length old) (clone_events told next xs)) joined
    ∙ ap (λ xs. old ++ numbered_wrapping (first + length old) (clone_events told next (wanted xs))) (sym (left files i file h is))
    ∙ before

-- how many clones are left
pub wanted_left : (files : List EndedFile) (i : ℕ) (file : EndedFile) → i < length files → file ≡ get_or files i file
    → length (wanted (drop i files)) ≡ length (further file.goes) + length (wanted (drop (i + 1) files))
wanted_left files i file h is =
    ap (λ rest. length (wanted rest)) (left files i file h is)
    ∙ length-append (map (λ connection. (file, connection)) (further file.goes)) (wanted (drop (i + 1) files))
    ∙ ap (λ n. n + length (wanted (drop (i + 1) files))) (length-map (further file.goes) (λ connection. (file, connection)))
