-- Steps of the loops over the files that are made.
use Rattle.std.proofs.Common.{◌≡◌, ℕ, suc, ◌+◌, ◌<◌, List, [], ◌∷◌, ◌++◌, map, length, get_or, refl, sym, ap, ◌∙◌, arith}
use Rattle.std.specs.Prelude.{fold, zip}
use Rattle.std.proofs.lemmas.List.{length_push, map_push}
use Rattle.std.proofs.lemmas.List.FromFn.{length-map-range_with_len, get_or-map-range_with_len}
use Rattle.flowfile_record.specs.declared.worked.Worked.{Worked}
use Rattle.machine_model.specs.Placing.{entered_by, entered_in, next_behind, numbers_from}
use Rattle.settlement.specs.Ending.{EndingPlace, ended_file}
use Rattle.settlement.specs.Telling.{all_children, children_of}
use Rattle.settlement.specs.declared.file.EndedFile.{EndedFile}
use Rattle.settlement.specs.declared.offspring.Kinship.{Kinship}

zip_push : (numbers entered : List ℕ) (done : List Worked) (file : Worked) → length done < length numbers → length done < length entered
    → zip numbers (zip entered (done ++ file ∷ [])) ≡ zip numbers (zip entered done) ++ (get_or numbers (length done) 0, (get_or entered (length done) 0, file)) ∷ []
zip_push [] entered done file h k = absurd (omega arith)
zip_push (number ∷ numbers) [] done file h k = absurd (omega arith)
zip_push (number ∷ []) (moment ∷ []) [] file h k = refl
zip_push (number ∷ []) (moment ∷ other ∷ entered) [] file h k = refl
zip_push (number ∷ more ∷ numbers) (moment ∷ []) [] file h k = refl
zip_push (number ∷ more ∷ numbers) (moment ∷ other ∷ entered) [] file h k = refl
zip_push (number ∷ numbers) (moment ∷ entered) (first ∷ done) file h k = ap (λ rest. (number, (moment, first)) ∷ rest) (zip_push numbers entered done file (omega arith) (omega arith))

abbrev end_one : EndingPlace → ℕ × (ℕ × Worked) → EndedFile
end_one at f = ended_file at (f.0, f.1.0, f.1.1)

pub end_more : (at : EndingPlace) (numbers entered : List ℕ) (done : List Worked) (file : Worked) (i : ℕ) (old new : List EndedFile) (made : EndedFile) → i ≡ length done → i < length numbers → i < length entered
    → old ≡ map (λ f. ended_file at (f.0, f.1.0, f.1.1)) (zip numbers (zip entered done)) → new ≡ old ++ made ∷ [] → made ≡ ended_file at (get_or numbers i 0, get_or entered i 0, file)
    → new ≡ map (λ f. ended_file at (f.0, f.1.0, f.1.1)) (zip numbers (zip entered (done ++ file ∷ [])))
end_more at numbers entered done file i old new made place h k before pushed is =
    let number : get_or numbers i 0 ≡ get_or numbers (length done) 0 = ap (λ n. get_or numbers n 0) place in
    let moment : get_or entered i 0 ≡ get_or entered (length done) 0 = ap (λ n. get_or entered n 0) place in
    pushed
    ∙ ap (λ xs. xs ++ made ∷ []) before
    ∙ ap (λ x. map (end_one at) (zip numbers (zip entered done)) ++ x ∷ []) (is ∙ (λ j. ended_file at (number j, moment j, file)))
    ∙ sym (map_push (end_one at) (zip numbers (zip entered done)) (get_or numbers (length done) 0, (get_or entered (length done) 0, file)))
    ∙ ap (map (end_one at)) (sym (zip_push numbers entered done file (omega arith) (omega arith)))

pub length_numbers : (next : ℕ) (taken : List ℕ) (files : List Worked) → length (numbers_from next taken files) ≡ length files
length_numbers next taken [] = refl
length_numbers next taken (file ∷ files) = ap suc (length_numbers (next_behind next file.origin) taken files)

length_from : (moment : ℕ) (taken before : List ℕ) (files : List Worked)
    → length (fold (λ before (file : Worked). before ++ entered_by moment taken before file.origin ∷ []) before files) ≡ length before + length files
length_from moment taken before [] = omega arith
length_from moment taken before (file ∷ files) =
    length_from moment taken (before ++ entered_by moment taken before file.origin ∷ []) files
    ∙ omega (arith, length_push before (entered_by moment taken before file.origin))

pub length_entered : (moment : ℕ) (taken : List ℕ) (files : List Worked) → length (entered_in moment taken files) ≡ length files
length_entered moment taken files = length_from moment taken [] files ∙ omega arith

-- ---- children

pub children_count : (kinship : Kinship) (files : List EndedFile) (lists : List (List ℕ)) → lists ≡ all_children kinship files → length lists ≡ length files
children_count kinship files lists is = ap length is ∙ length-map-range_with_len (children_of kinship files) 0 (length files)

pub child_at : (kinship : Kinship) (files : List EndedFile) (lists : List (List ℕ)) (place : ℕ) (x : List ℕ) → lists ≡ all_children kinship files → place < length files → x ≡ get_or lists place x
    → x ≡ children_of kinship files place
child_at kinship files lists place x is h at =
    at ∙ ap (λ l. get_or l place x) is ∙ get_or-map-range_with_len (children_of kinship files) 0 (length files) place place x h (omega arith)

pub end_none : (at : EndingPlace) (numbers entered : List ℕ) → map (λ f. ended_file at (f.0, f.1.0, f.1.1)) (zip numbers (zip entered [])) ≡ []
end_none at [] entered = refl
end_none at (number ∷ numbers) [] = refl
end_none at (number ∷ numbers) (moment ∷ entered) = refl
