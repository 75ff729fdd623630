-- That events told one after the other are told as one list.
use Rattle.std.proofs.Common.{◌≡◌, ℕ, suc, ◌+◌, ◌%◌, ◌^◌, ◌≤◌, List, [], ◌∷◌, ◌++◌, length, map, refl, sym, ap, ◌∙◌, arith, append_assoc, append-nil, length-append}
use Rattle.flowfile_record.specs.declared.event.Event.{Event}
use Rattle.machine_model.specs.Events.{Draft, numbered_from}
use Rattle.settlement.specs.Telling.{AddsDrafts, ToldSession, Unnumbered, clone_draft, clone_events, numbered_wrapping}
use Rattle.settlement.specs.declared.file.EndedFile.{EndedFile}

length_numbered : (n : ℕ) (drafts : List Unnumbered) → length (numbered_wrapping n drafts) ≡ length drafts
length_numbered n [] = refl
length_numbered n (draft ∷ drafts) = ap suc (length_numbered (n + 1) drafts)

pub numbered-append : (n : ℕ) (xs ys : List Unnumbered) → numbered_wrapping n (xs ++ ys) ≡ numbered_wrapping n xs ++ numbered_wrapping (n + length xs) ys
numbered-append n [] ys = ap (λ m. numbered_wrapping m ys) (omega arith)
numbered-append n (x ∷ xs) ys =
    let moved : n + 1 + length xs ≡ n + suc (length xs) = omega arith in
    ap (λ rest. x (n % 2 ^ 64) ∷ rest) (numbered-append (n + 1) xs ys ∙ ap (λ m. numbered_wrapping (n + 1) xs ++ numbered_wrapping m ys) moved)

-- more events, and then others
pub adds-on : (first : ℕ) (old new : List Event) (drafts more : List Unnumbered) → AddsDrafts first old drafts new
    → new ++ numbered_wrapping (first + length new) more ≡ old ++ numbered_wrapping (first + length old) (drafts ++ more)
adds-on first old new drafts more is =
    let long : length new ≡ length old + length drafts
    = ap length is ∙ length-append old (numbered_wrapping (first + length old) drafts) ∙ ap (λ n. length old + n) (length_numbered (first + length old) drafts) in
    let place : first + length new ≡ first + length old + length drafts = omega arith in
    ap (λ n. new ++ numbered_wrapping n more) place
    ∙ ap (λ xs. xs ++ numbered_wrapping (first + length old + length drafts) more) is
    ∙ append_assoc old (numbered_wrapping (first + length old) drafts) (numbered_wrapping (first + length old + length drafts) more)
    ∙ ap (λ xs. old ++ xs) (sym (numbered-append (first + length old) drafts more))

pub adds-both : (first : ℕ) (old between new : List Event) (drafts more : List Unnumbered) → AddsDrafts first old drafts between → AddsDrafts first between more new → AddsDrafts first old (drafts ++ more) new
adds-both first old between new drafts more one other = other ∙ adds-on first old between drafts more one

pub adds-none : (first : ℕ) (events : List Event) → AddsDrafts first events [] events
adds-none first events = sym (append-nil events)

-- numbers that fit aren't changed
pub numbers-fit : (n : ℕ) (drafts : List Draft) → n + length drafts ≤ 2 ^ 64 → numbered_wrapping n (map (λ (draft : Draft). draft.event) drafts) ≡ numbered_from n drafts
numbers-fit n [] h = refl
numbers-fit n (draft ∷ drafts) h =
    let fits : n % 2 ^ 64 ≡ n = omega arith in
    λ i. draft.event (fits i) ∷ numbers-fit (n + 1) drafts (omega arith) i

pub clones-append : (told : ToldSession) (n : ℕ) (xs ys : List (EndedFile × ℕ)) → clone_events told n (xs ++ ys) ≡ clone_events told n xs ++ clone_events told (n + length xs) ys
clones-append told n [] ys = ap (λ m. clone_events told m ys) (omega arith)
clones-append told n (x ∷ xs) ys =
    let moved : n + 1 + length xs ≡ n + suc (length xs) = omega arith in
    ap (λ rest. clone_draft told x.0 n ∷ rest) (clones-append told (n + 1) xs ys ∙ ap (λ m. clone_events told (n + 1) xs ++ clone_events told m ys) moved)

pub length-clone_events : (told : ToldSession) (n : ℕ) (xs : List (EndedFile × ℕ)) → length (clone_events told n xs) ≡ length xs
length-clone_events told n [] = refl
length-clone_events told n (x ∷ xs) = ap suc (length-clone_events told (n + 1) xs)
