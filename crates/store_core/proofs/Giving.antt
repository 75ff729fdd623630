-- The contents of files that go, one after another.
use Rattle.std.proofs.Common.{◌≡◌, ℕ, ◌+◌, ◌<◌, ◌≤◌, List, [], ◌∷◌, ◌++◌, length, map, take, drop, get_or, refl, sym, ap, ◌∙◌, arith}
use Rattle.std.specs.Prelude.{Option, None, Some, option_map}
use Rattle.std.specs.List.{cons_option}
use Rattle.std.proofs.lemmas.List.{take_more, take-append-drop, append-nil, map-append}
use Rattle.std.proofs.lemmas.List.Elements.{filter_map-append}
use Rattle.flowfile_record.specs.Shared.{own_bytes}
use Rattle.flowfile_record.specs.declared.content.ContentRef.{ContentRef}
use Rattle.flowfile_record.specs.declared.stored.ActiveFile.{ActiveFile}
use Rattle.flowfile_record.specs.declared.stored.Fresh.{Fresh}
use Rattle.flowfile_record.specs.declared.stored.Fresh.TheVariants.{No, Bytes, Staged, As}
use Rattle.flowfile_record.specs.declared.stored.Placed.{Placed}
use Rattle.content_repo.specs.Slots.{references_to}
use Rattle.kept_state.specs.Fits.{active_of}
use Rattle.store_core.specs.Change.{fresh_contents_of}
use Rattle.store_core.specs.Placing.{contents_of}
use Rattle.store_core.proofs.Referring.{refers_both}

module _ (files : List ActiveFile) (gone : List ℕ) where
  abbrev content_at : ℕ → Option ContentRef
  content_at n = option_map (λ a. a.file.content) (active_of n files)

  next_by : (i : ℕ) (a : Option ActiveFile) → i < length gone → active_of (get_or gone i 0) files ≡ a
      → contents_of files (take (i + 1) gone) ≡ contents_of files (take i gone) ++ cons_option (option_map (λ b. b.file.content) a) []
  next_by i a lt is =
      ap (contents_of files) (take_more gone i 0 lt) ∙ filter_map-append content_at (take i gone) (get_or gone i 0 ∷ [])
      ∙ ap (λ (o : Option ActiveFile). contents_of files (take i gone) ++ cons_option (option_map (λ b. b.file.content) o) []) is

  pub next_some : (i : ℕ) (a : ActiveFile) → i < length gone → active_of (get_or gone i 0) files ≡ Some a
      → contents_of files (take (i + 1) gone) ≡ contents_of files (take i gone) ++ a.file.content ∷ []
  next_some i a lt is = next_by i (Some a) lt is

  pub next_none : (i : ℕ) → i < length gone → active_of (get_or gone i 0) files ≡ None → contents_of files (take (i + 1) gone) ≡ contents_of files (take i gone)
  next_none i lt is = next_by i None lt is ∙ append-nil (contents_of files (take i gone))

  pub given_within : (k n : ℕ) → references_to k (contents_of files (take n gone)) ≤ references_to k (contents_of files gone)
  given_within k n =
      omega (
        arith,
        refers_both k (contents_of files (take n gone)) (contents_of files (drop n gone)),
        ap (references_to k) (sym (filter_map-append content_at (take n gone) (drop n gone)) ∙ ap (contents_of files) (take-append-drop n gone)),
      )

-- new contents, one after another
pub none_own : (f : Fresh) → ((bytes : List ℕ) → f ≡ Bytes bytes → ⊥) → own_bytes f ≡ None
none_own No not = refl
none_own Staged not = refl
none_own (As of) not = refl
none_own (Bytes bytes) not = absurd (not bytes refl)

pub fresh_next : (placed : List Placed) (i : ℕ) (p : Placed) → i < length placed → p ≡ get_or placed i p
    → fresh_contents_of (take (i + 1) placed) ≡ fresh_contents_of (take i placed) ++ cons_option (own_bytes p.fresh) []
fresh_next placed i p lt is =
    ap fresh_contents_of (take_more placed i p lt) ∙ filter_map-append (λ (q : Placed). own_bytes q.fresh) (take i placed) (get_or placed i p ∷ [])
    ∙ ap (λ (q : Placed). fresh_contents_of (take i placed) ++ cons_option (own_bytes q.fresh) []) (sym is)

pub sizes_more : (sizes : List ℕ) (contents more : List (List ℕ)) (bytes : List ℕ) → sizes ≡ map length contents → more ≡ contents ++ bytes ∷ [] → sizes ++ length bytes ∷ [] ≡ map length more
sizes_more sizes contents more bytes are is =
    ap (λ (l : List ℕ). l ++ length bytes ∷ []) are ∙ sym (map-append length contents (bytes ∷ [])) ∙ ap (map length) (sym is)
