-- A table of files after an entry is set.
use Rattle.std.proofs.Common.{◌≡◌, ℕ, true, false, cond, List, Option, None, Some, is_some, IsSome, MutBor, Result, Ok, Err, OnErr, [], length, ◌<◌, ◌≤◌, ◌+◌, ◌^◌, append-nil, arith, refl, sym, ◌∙◌, ap, subst, rules, ⊎_elim}
use Rattle.std.specs.BTreeMap.{BTreeMap, is_at, WritesThrough, Updates}
use Rattle.std.specs.Option.{option_copied_mut}
use Rattle.std.specs.Map.{lookup}
use Rattle.std.proofs.lemmas.Bool.{cases_Bool, cond-true, cond-false, false≢true}
use Rattle.disk_trait.specs.declared.file_name.FileName.{FileName}
use Rattle.disk_trait.specs.declared.memory.table.MemoryFile.{MemoryFile}
use Rattle.disk_trait.specs.declared.memory.table.FileTable.{FileTable}
use Rattle.disk_trait.specs.contracts.file_name.FileNameOrd.TheImpl as order
use Rattle.std.proofs.lemmas.List.{take_all, drop_all}
use Rattle.disk_trait.specs.Files.{At, Overwritten}
use Rattle.disk_trait.specs.Memory.{same_name}
use Rattle.disk_trait.specs.MemoryTable.{entry_of, now_in, first_in, bytes_of, first_of, has_file}
use Rattle.disk_trait.proofs.FileNames.{is_at-name, same_name_itself, same_name_is, other_name}

pub bytes_at : (t : FileTable) (name : FileName) (found : Option MemoryFile) → entry_of t name ≡ found → bytes_of t name ≡ now_in found
unfolding bytes_of
bytes_at t name found is = ap now_in is

pub first_at : (t : FileTable) (name : FileName) (found : Option MemoryFile) → entry_of t name ≡ found → first_of t name ≡ first_in found
unfolding first_of
first_at t name found is = ap first_in is

pub has_at : (t : FileTable) (name : FileName) (found : Option MemoryFile) → entry_of t name ≡ found → has_file t name ≡ is_some found
unfolding has_file
has_at t name found is = ap is_some is

-- the entries of a table after that of the name is set
pub record Sets (t u : FileTable) (name : FileName) (file : MemoryFile) : Type 0 where
  pub each : (f : FileName) → entry_of u f ≡ cond (is_at (order.ghosts.cmp name) f) (Some file) (entry_of t f)

module _ (t u : FileTable) (name : FileName) (file : MemoryFile) (sets : Sets t u name file) where
  pub set_here : entry_of u name ≡ Some file
  set_here = sets.each name ∙ cond-true _ _ _ (is_at-name name name ∙ same_name_itself name)

  set_there : (f : FileName) → same_name name f ≡ false → entry_of u f ≡ entry_of t f
  set_there f other = sets.each f ∙ cond-false _ _ _ (is_at-name name f ∙ other)

  pub set_at : {step : List ℕ → List ℕ → Type 0} → step (bytes_of t name) (bytes_of u name) → At name step (bytes_of t) (bytes_of u)
  set_at step = record {
    here = step;
    others = λ f other. bytes_at u f _ (set_there f (other_name name f other)) ∙ sym (bytes_at t f _ refl);
  }

  pub set_first_at : {step : List ℕ → List ℕ → Type 0} → step (first_of t name) (first_of u name) → At name step (first_of t) (first_of u)
  set_first_at step = record {
    here = step;
    others = λ f other. first_at u f _ (set_there f (other_name name f other)) ∙ sym (first_at t f _ refl);
  }

  pub same_bytes : file.bytes.items ≡ bytes_of t name → (f : FileName) → bytes_of u f ≡ bytes_of t f
  same_bytes same f = ⊎_elim
      (λ (here : same_name name f ≡ true). let e = same_name_is name f here in ap (bytes_of u) (sym e) ∙ bytes_at u name _ set_here ∙ same ∙ ap (bytes_of t) e)
      (λ (there : same_name name f ≡ false). bytes_at u f _ (set_there f there) ∙ sym (bytes_at t f _ refl))
      (cases_Bool (same_name name f))

  pub same_first : file.first.items ≡ first_of t name → (f : FileName) → first_of u f ≡ first_of t f
  same_first same f = ⊎_elim
      (λ (here : same_name name f ≡ true). let e = same_name_is name f here in ap (first_of u) (sym e) ∙ first_at u name _ set_here ∙ same ∙ ap (first_of t) e)
      (λ (there : same_name name f ≡ false). first_at u f _ (set_there f there) ∙ sym (first_at t f _ refl))
      (cases_Bool (same_name name f))

  pub set_has : has_file u name ≡ true
  set_has = has_at u name _ set_here

  pub set_had : (f : FileName) → has_file u f ≡ false → has_file t f ≡ false
  set_had f none = ⊎_elim
      (λ (here : same_name name f ≡ true). absurd (false≢true (sym none ∙ ap (has_file u) (sym (same_name_is name f here)) ∙ set_has)))
      (λ (there : same_name name f ≡ false). has_at t f _ refl ∙ sym (has_at u f _ (set_there f there)) ∙ none)
      (cases_Bool (same_name name f))

  pub same_has : has_file t name ≡ true → (f : FileName) → has_file u f ≡ has_file t f
  same_has had f = ⊎_elim
      (λ (here : same_name name f ≡ true). let e = same_name_is name f here in ap (has_file u) (sym e) ∙ set_has ∙ sym had ∙ ap (has_file t) e)
      (λ (there : same_name name f ≡ false). has_at u f _ (set_there f there) ∙ sym (has_at t f _ refl))
      (cases_Bool (same_name name f))

-- after a write through what `get_mut` lent
pub sets_from_lent : (t u : FileTable) (name : FileName) (file old : MemoryFile) → entry_of t name ≡ Some old → WritesThrough order.ghosts.cmp (order.ghosts.cmp name) t.files file u.files → Sets t u name file
sets_from_lent t u name file old found written =
    record { each = (written.3 (subst (λ (o : Option MemoryFile). IsSome o) (sym found) some)).0 }
  where
    some : IsSome (Some old)
    some = search rules

-- the table's entry of a name is found
pub lent_entry : (t : FileTable) (name : FileName) (result : Option (MutBor MemoryFile)) (file : MutBor MemoryFile) → option_copied_mut result ≡ entry_of t name → result ≡ Some file → entry_of t name ≡ Some file.now
lent_entry t name result file value is = sym value ∙ ap option_copied_mut is

-- no entry of the name is found
pub lent_none : (t : FileTable) (name : FileName) (result : Option (MutBor MemoryFile)) → option_copied_mut result ≡ entry_of t name → ((x : MutBor MemoryFile) → result ≡ Some x → ⊥) → entry_of t name ≡ None
lent_none t name None value none = sym value
lent_none t name (Some x) value none = absurd (none x refl)

-- after an insertion into a map that had the entries of the table
pub sets_from_insert : (t u : FileTable) (name : FileName) (file : MemoryFile) (had : BTreeMap FileName MemoryFile) → had.entries ≡ t.files.entries → Updates order.ghosts.cmp had u.files name (Some file) → Sets t u name file
sets_from_insert t u name file had same updates = record {
  each = λ f. updates.0 f ∙ ap (λ entries. cond (is_at (order.ghosts.cmp name) f) (Some file) (lookup (is_at (order.ghosts.cmp f)) entries)) same;
}

-- a write over nothing
pub overwritten_nothing : (at : ℕ) (bytes xs ys : List ℕ) → xs ≡ [] → ys ≡ bytes → Overwritten at bytes xs ys
overwritten_nothing at bytes xs ys empty is =
    let none : length xs ≤ at = omega (arith, ap length empty) in
    let none' : length xs ≤ at + length bytes = omega (arith, ap length empty) in
    is ∙ sym (rw (take_all at xs none, drop_all (at + length bytes) xs none', empty) (append-nil bytes))

pub on_err : {T E P : Type 0} (r : Result T E) → P → OnErr r P
on_err (Ok x) p = tt
on_err (Err e) p = p

-- the same entries
module _ (t u : FileTable) (entries : u.files.entries ≡ t.files.entries) where
  kept_entry : (f : FileName) → entry_of u f ≡ entry_of t f
  kept_entry f = ap (lookup (is_at (order.ghosts.cmp f))) entries

  pub kept_bytes : (f : FileName) → bytes_of u f ≡ bytes_of t f
  kept_bytes f = bytes_at u f _ (kept_entry f) ∙ sym (bytes_at t f _ refl)

  pub kept_first : (f : FileName) → first_of u f ≡ first_of t f
  kept_first f = first_at u f _ (kept_entry f) ∙ sym (first_at t f _ refl)

  pub kept_has : (f : FileName) → has_file u f ≡ has_file t f
  kept_has f = has_at u f _ (kept_entry f) ∙ sym (has_at t f _ refl)

-- a file with no entry is empty
pub absent_bytes : (t : FileTable) (name : FileName) → has_file t name ≡ false → bytes_of t name ≡ []
absent_bytes t name none = bytes_at t name (entry_of t name) refl ∙ nothing (entry_of t name) (sym (has_at t name (entry_of t name) refl) ∙ none)
  where
    nothing : (found : Option MemoryFile) → is_some found ≡ false → now_in found ≡ []
    nothing None none = refl
    nothing (Some file) none = absurd (false≢true (sym none))

-- no file is as long as the memory
pub bytes_small : (t : FileTable) (name : FileName) → length (bytes_of t name) < 2 ^ 63
bytes_small t name = subst (λ bytes. length bytes < 2 ^ 63) (sym (bytes_at t name (entry_of t name) refl)) (small (entry_of t name))
  where
    small : (found : Option MemoryFile) → length (now_in found) < 2 ^ 63
    small None = omega arith
    small (Some file) = omega (arith, file.bytes.ok.0, file.bytes.ok.1, file.bytes.small)
