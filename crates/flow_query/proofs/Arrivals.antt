-- The files of a connection, and their arrivals.
use Rattle.std.proofs.Common.{◌≡◌, ◌≢◌, ℕ, ◌==◌, Bool, true, false, cond, List, [], ◌∷◌, ◌∙◌, ap, sym, subst, refl}
use Rattle.std.specs.Prelude.{All, filter, map, None, Some}
use Rattle.std.proofs.lemmas.Bool.{ne_eqb}
use Rattle.std.proofs.lemmas.List.Elements.{All-nil, All-cons, All-head, All-tail}
use Rattle.flowfile_record.specs.NumberedItems.{item_of, with_item, AreNew}
use Rattle.flowfile_record.specs.declared.stored.ActiveFile.{ActiveFile}
use Rattle.flowfile_record.proofs.ByNumber.{item_of-with}
use Rattle.checkpoint_store.specs.Consistent.{AreDistinctBy}
use Rattle.flow_query.specs.Parts.{waiting_arrival, waiting_of, waiting_in}
use Rattle.flow_query.specs.declared.waiting.Waiting.{Waiting}

abbrev arrives : ActiveFile → ℕ
arrives a = a.file.arrival

module _ (place : ℕ) where
  abbrev kept : Bool → ActiveFile → List ActiveFile → List Waiting
  kept t a files = map waiting_of (cond t (a ∷ filter (λ b. b.connection == place) files) (filter (λ b. b.connection == place) files))

  all_by : (P : Waiting → Type 0) (t : Bool) (a : ActiveFile) (files : List ActiveFile) → P (waiting_of a) → All P (waiting_in files place) → All P (kept t a files)
  all_by P true a files one rest = All-cons P (waiting_of a) (waiting_in files place) one rest
  all_by P false a files one rest = rest

  -- what holds of each file holds of each that is listed
  pub all_in : (P : Waiting → Type 0) (files : List ActiveFile) → All (λ a. P (waiting_of a)) files → All P (waiting_in files place)
  all_in P [] all = All-nil P
  all_in P (a ∷ files) all =
      all_by P (a.connection == place) a files (All-head (λ b. P (waiting_of b)) a files all) (all_in P files (All-tail (λ b. P (waiting_of b)) a files all))

  distinct_by : (t : Bool) (a : ActiveFile) (files : List ActiveFile) → All (λ w. arrives a ≢ waiting_arrival w) (waiting_in files place) → AreDistinctBy waiting_arrival (waiting_in files place)
      → AreDistinctBy waiting_arrival (kept t a files)
  distinct_by true a files apart distinct = (apart, distinct)
  distinct_by false a files apart distinct = distinct

  pub distinct_in : (files : List ActiveFile) → AreDistinctBy arrives files → AreDistinctBy waiting_arrival (waiting_in files place)
  distinct_in [] distinct = tt
  distinct_in (a ∷ files) distinct =
      distinct_by (a.connection == place) a files (all_in (λ w. arrives a ≢ waiting_arrival w) files distinct.0) (distinct_in files distinct.1)

absent_with : (new w : Waiting) (items : List Waiting) → waiting_arrival new ≢ waiting_arrival w → item_of waiting_arrival (waiting_arrival w) items ≡ None → item_of waiting_arrival (waiting_arrival w) (with_item waiting_arrival new items) ≡ None
absent_with new w items other absent =
    item_of-with waiting_arrival (waiting_arrival w) new items
    ∙ ap (λ (t : Bool). cond t (Some new) (item_of waiting_arrival (waiting_arrival w) items)) (ne_eqb (waiting_arrival new) (waiting_arrival w) other)
    ∙ absent

all_absent : (new : Waiting) (news items : List Waiting) → All (λ w. waiting_arrival new ≢ waiting_arrival w) news → All (λ w. item_of waiting_arrival (waiting_arrival w) items ≡ None) news
    → All (λ w. item_of waiting_arrival (waiting_arrival w) (with_item waiting_arrival new items) ≡ None) news
all_absent new [] items others absent = All-nil (λ w. item_of waiting_arrival (waiting_arrival w) (with_item waiting_arrival new items) ≡ None)
all_absent new (w ∷ news) items others absent =
    All-cons (λ v. item_of waiting_arrival (waiting_arrival v) (with_item waiting_arrival new items) ≡ None) w news
    (absent_with new w items (All-head (λ v. waiting_arrival new ≢ waiting_arrival v) w news others) (All-head (λ v. item_of waiting_arrival (waiting_arrival v) items ≡ None) w news absent))
    (all_absent new news items (All-tail (λ v. waiting_arrival new ≢ waiting_arrival v) w news others) (All-tail (λ v. item_of waiting_arrival (waiting_arrival v) items ≡ None) w news absent))

are_new : (news items : List Waiting) → AreDistinctBy waiting_arrival news → All (λ w. item_of waiting_arrival (waiting_arrival w) items ≡ None) news → AreNew waiting_arrival news items
are_new [] items distinct absent = tt
are_new (new ∷ news) items distinct absent = (
  All-head (λ w. item_of waiting_arrival (waiting_arrival w) items ≡ None) new news absent,
  are_new news (with_item waiting_arrival new items) distinct.1 (all_absent new news items distinct.0 (All-tail (λ w. item_of waiting_arrival (waiting_arrival w) items ≡ None) new news absent)),
)

none_yet : (news : List Waiting) → All (λ w. item_of waiting_arrival (waiting_arrival w) [] ≡ None) news
none_yet [] = All-nil (λ w. item_of waiting_arrival (waiting_arrival w) [] ≡ None)
none_yet (w ∷ news) = All-cons (λ v. item_of waiting_arrival (waiting_arrival v) [] ≡ None) w news refl (none_yet news)

-- files of different arrivals are new to an empty list
pub waiting_new : (list items : List Waiting) → AreDistinctBy waiting_arrival list → items ≡ [] → AreNew waiting_arrival list items
waiting_new list items distinct none = subst (λ (l : List Waiting). AreNew waiting_arrival list l) (sym none) (are_new list [] distinct (none_yet list))
