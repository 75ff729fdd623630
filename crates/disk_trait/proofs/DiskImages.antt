-- Images made file by file.
use Rattle.std.proofs.Common.{◌≡◌, ◌≢◌, ℕ, suc, ◌+◌, ◌/◌, ◌^◌, ◌<◌, ◌≤◌, Bool, true, false, List, [], ◌∷◌, ◌++◌, length, get_or, take, drop, Contains, Less, cond, refl, sym, ◌∙◌, ap, subst, ⊎_elim, append_assoc, append-nil, length-append, arith}
use Rattle.std.specs.List.Sorted.{IsStrictlySortedBy}
use Rattle.std.specs.Cmp.{tied_itself}
use Rattle.std.specs.Ordering.{is_eq}
use Rattle.std.specs.BTreeMap.{keys, IsOrdered}
use Rattle.std.proofs.lemmas.Bool.{cases_Bool, false≢true}
use Rattle.std.proofs.lemmas.List.{get_or_append_left, get_or_at, take_all, drop_all}
use Rattle.std.proofs.lemmas.List.Elements.{Contains-append_right}
use Rattle.std.proofs.lemmas.Map.Keys.{Less-from_sorted}
use Rattle.disk_trait.specs.declared.file_name.FileName.{FileName}
use Rattle.disk_trait.specs.declared.memory.table.FileTable.{FileTable}
use Rattle.disk_trait.specs.contracts.file_name.FileNameOrd.TheImpl as order
use Rattle.disk_trait.specs.Files.{Files, At}
use Rattle.disk_trait.specs.Memory.{same_name}
use Rattle.disk_trait.specs.MemoryStop.{next_draw, next_seed, drawn, seed_after, Draws, IsDrawn, MarksOffsets}
use Rattle.disk_trait.specs.MemoryTable.{bytes_of, first_of, has_file}
use Rattle.disk_trait.proofs.FileNames.{names_ordered, same_name_itself, same_name_is}
use Rattle.disk_trait.proofs.FileLists.{contains_here, contains_there, has_key}

-- ---- draws by two tests that agree

pub drawn_same : (t u : ℕ → Bool) (i x : ℕ) (bs : List ℕ) → ((j : ℕ) → i ≤ j → j < i + length bs → t j ≡ u j) → (drawn t i x bs ≡ drawn u i x bs) × (seed_after t i x bs ≡ seed_after u i x bs)
drawn_same t u i x [] same = (refl, refl)
drawn_same t u i x (b ∷ bs) same =
    let here : t i ≡ u i = same i (omega arith) (omega arith) in
    let rest = drawn_same t u (i + 1) (next_seed (u i) x) bs (λ j le lt. same j (omega (arith, le)) (omega (arith, lt))) in (
      ap (λ c. cond c (next_draw x / 2 ^ 56) b ∷ drawn t (i + 1) (next_seed c x) bs) here ∙ ap (λ ys. cond (u i) (next_draw x / 2 ^ 56) b ∷ ys) rest.0,
      ap (λ c. seed_after t (i + 1) (next_seed c x) bs) here ∙ rest.1,
    )

-- ---- one name after another

-- the seed after all of the names
abbrev pub seed_through : Files → (FileName → ℕ → Bool) → List FileName → ℕ → ℕ
seed_through held picked [] x = x
seed_through held picked (f ∷ names) x = seed_through held picked names (seed_after (picked f) 0 x (held f))

module _ (held : Files) (picked : FileName → ℕ → Bool) where
  draws_push : (names : List FileName) (x : ℕ) (f : FileName) (files : Files) → Draws held picked names x files → files f ≡ drawn (picked f) 0 (seed_through held picked names x) (held f) → Draws held picked (names ++ f ∷ []) x files
  draws_push [] x f files draws is = (is, tt)
  draws_push (g ∷ names) x f files draws is = (draws.0, draws_push names (seed_after (picked g) 0 x (held g)) f files draws.1 is)

  seed_push : (names : List FileName) (x : ℕ) (f : FileName) → seed_through held picked (names ++ f ∷ []) x ≡ seed_after (picked f) 0 (seed_through held picked names x) (held f)
  seed_push [] x f = refl
  seed_push (g ∷ names) x f = seed_push names (seed_after (picked g) 0 x (held g)) f

  draws_same : (names : List FileName) (x : ℕ) (old new : Files) → ((f : FileName) → Contains names f → new f ≡ old f) → Draws held picked names x old → Draws held picked names x new
  draws_same [] x old new same draws = tt
  draws_same (g ∷ names) x old new same draws =
      (same g (contains_here g names) ∙ draws.0, draws_same names (seed_after (picked g) 0 x (held g)) old new (λ f at. same f (contains_there g f names at)) draws.1)

-- a name before another in a list in order is another one
apart : (xs ys : List FileName) (y f : FileName) → IsStrictlySortedBy order.ghosts.cmp (xs ++ y ∷ ys) → Contains xs f → f ≢ y
apart xs ys y f sorted at same =
    let less = Less-from_sorted order.ghosts.cmp (xs ++ y ∷ ys) at.0 (length xs) f sorted at.1 (omega (arith, length-append xs (y ∷ ys))) in
    let left : get_or (xs ++ y ∷ ys) at.0 f ≡ f = get_or_append_left xs (y ∷ ys) f at.0 at.1 ∙ at.2 in
    let right : get_or (xs ++ y ∷ ys) (length xs) f ≡ y = get_or_at xs y ys f (length xs) refl in
    let own : order.ghosts.cmp y y ≡ Less = sym (ap (λ g. order.ghosts.cmp g y) (left ∙ same) ∙ refl) ∙ ap (λ g. order.ghosts.cmp (get_or (xs ++ y ∷ ys) at.0 f) g) (sym right) ∙ less in
    absurd (false≢true (ap is_eq (sym own ∙ tied_itself names_ordered y)))

-- the files of the first names of a table are drawn
pub record DrawsUpTo (table : FileTable) (rest : List FileName) (held : Files) (picked : FileName → ℕ → Bool) (seed x : ℕ) (image : FileTable) : Type 0 where
  pub done : List FileName
  pub split : done ++ rest ≡ keys table.files
  pub draws : Draws held picked done seed (bytes_of image)
  pub next : x ≡ seed_through held picked done seed
  pub first : (f : FileName) → bytes_of image f ≡ first_of image f
  pub others : (f : FileName) → has_file table f ≡ false → bytes_of image f ≡ []

module _ (table : FileTable) (held : Files) (picked : FileName → ℕ → Bool) (seed : ℕ) where
  pub drawn_more : (rest rest' : List FileName) (name : FileName) (x x' : ℕ) (bytes : List ℕ) (image image' : FileTable) → IsOrdered order.ghosts.cmp table.files → rest ≡ name ∷ rest'
      → bytes ≡ drawn (picked name) 0 x (held name) → x' ≡ seed_after (picked name) 0 x (held name)
      → At name (λ _ new. new ≡ bytes) (bytes_of image) (bytes_of image') → At name (λ _ new. new ≡ bytes) (first_of image) (first_of image')
      → DrawsUpTo table rest held picked seed x image → DrawsUpTo table rest' held picked seed x' image'
  drawn_more rest rest' name x x' bytes image image' ordered is drawn_is next_is put put' so_far =
      let split : so_far.done ++ name ∷ rest' ≡ keys table.files = ap (λ r. so_far.done ++ r) (sym is) ∙ so_far.split in
      let sorted = subst (λ names. IsStrictlySortedBy order.ghosts.cmp names) (sym split) ordered in
      record {
        done = so_far.done ++ name ∷ [];
        split = append_assoc so_far.done (name ∷ []) rest' ∙ split;
        draws = draws_push held picked so_far.done seed name (bytes_of image')
            (draws_same held picked so_far.done seed (bytes_of image) (bytes_of image') (λ f at. put.others f (apart so_far.done rest' name f sorted at)) so_far.draws)
            (put.here ∙ drawn_is ∙ ap (λ y. drawn (picked name) 0 y (held name)) so_far.next);
        next = next_is ∙ ap (λ y. seed_after (picked name) 0 y (held name)) so_far.next ∙ sym (seed_push held picked so_far.done seed name);
        first = λ f. ⊎_elim
            (λ (here : same_name name f ≡ true). subst (λ g. bytes_of image' g ≡ first_of image' g) (same_name_is name f here) (put.here ∙ sym put'.here))
            (λ (there : same_name name f ≡ false).
            let other : f ≢ name = λ e. false≢true (sym there ∙ ap (same_name name) e ∙ same_name_itself name) in
            put.others f other ∙ so_far.first f ∙ sym (put'.others f other))
            (cases_Bool (same_name name f));
        others = λ f none.
            let mine : has_file table name ≡ true = has_key table name (subst (λ names. Contains names name) split (Contains-append_right so_far.done (name ∷ rest') name (contains_here name rest'))) in
            put.others f (λ e. false≢true (sym none ∙ ap (has_file table) e ∙ mine)) ∙ so_far.others f none;
      }

  pub drawn_all : (rest : List FileName) (x : ℕ) (image : FileTable) → IsOrdered order.ghosts.cmp table.files → rest ≡ [] → DrawsUpTo table rest held picked seed x image → IsDrawn table held picked seed (bytes_of image)
  drawn_all rest x image ordered none so_far =
      let all : so_far.done ≡ keys table.files = sym (append-nil so_far.done) ∙ ap (λ r. so_far.done ++ r) (sym none) ∙ so_far.split in
      record { ascending = ordered; draws = subst (λ names. Draws held picked names seed (bytes_of image)) all so_far.draws; others = so_far.others }

pub length-drawn : (t : ℕ → Bool) (i x : ℕ) (bs : List ℕ) → length (drawn t i x bs) ≡ length bs
length-drawn t i x [] = refl
length-drawn t i x (b ∷ bs) = ap (λ n. suc n) (length-drawn t (i + 1) (next_seed (t i) x) bs)

-- a file is torn by marks of its places
module _ (held items old new : List ℕ) (marks ms : List Bool) (picked : ℕ → Bool) (seed len : ℕ) (same : items ≡ held) (read : old ≡ items) (read' : ms ≡ marks) (long : length marks ≡ length items) (marked : MarksOffsets marks picked) where
  by_marks : (drawn (λ i. get_or ms i false) 0 seed old ≡ drawn picked 0 seed held) × (seed_after (λ i. get_or ms i false) 0 seed old ≡ seed_after picked 0 seed held)
  by_marks =
      let alike = drawn_same (λ i. get_or ms i false) picked 0 seed held (λ j le lt. ap (λ m. get_or m j false) read' ∙ marked j (omega (arith, lt, long, ap length same))) in (
        ap (λ bs. drawn (λ i. get_or ms i false) 0 seed bs) (read ∙ same) ∙ alike.0,
        ap (λ bs. seed_after (λ i. get_or ms i false) 0 seed bs) (read ∙ same) ∙ alike.1,
      )

  pub torn_bytes : new ≡ drawn (λ i. get_or ms i false) 0 seed old → len ≡ length items → take len (new ++ drop (length new) items) ≡ drawn picked 0 seed held
  torn_bytes torn whole =
      let size : length new ≡ length items = ap length torn ∙ length-drawn (λ i. get_or ms i false) 0 seed old ∙ ap length read in
      ap (λ ys. take len (new ++ ys)) (drop_all (length new) items (omega arith)) ∙ ap (take len) (append-nil new) ∙ take_all len new (omega arith) ∙ torn ∙ by_marks.0

  pub torn_seed : (next : ℕ) → next ≡ seed_after (λ i. get_or ms i false) 0 seed old → next ≡ seed_after picked 0 seed held
  torn_seed next is = is ∙ by_marks.1
