-- Lists of files, one for each connection.
use Rattle.std.proofs.Common.{◌≡◌, ◌≢◌, ℕ, ◌<◌, ◌==◌, Bool, true, false, cond, List, [], ◌∷◌, ◌++◌, length, map, get_or, set, refl, sym, ap, ◌∙◌, inl, inr, append_assoc, arith}
use Rattle.std.specs.Global.{Vec}
use Rattle.std.specs.Prelude.{filter}
use Rattle.std.proofs.lemmas.Bool.{cases_eq, eq-eqb, ne_eqb}
use Rattle.std.proofs.lemmas.List.{append-nil, get_or-map, get_or-set_other, get_or-set_same, length-map, map-set}
use Rattle.flowfile_record.specs.declared.stored.ActiveFile.{ActiveFile}
use Rattle.flow_query.specs.Parts.{listed_waiting, waiting_in, waiting_of}
use Rattle.flow_query.specs.declared.waiting.Waiting.{Waiting}

abbrev items_of : Vec Waiting → List Waiting
items_of list = list.items

-- ---- lists before and after a write

listed-set_same : (lists : List (Vec Waiting)) (at : ℕ) (list : Vec Waiting) → at < length lists → listed_waiting (set lists at list) at ≡ list.items
listed-set_same lists at list within =
    ap (λ (l : List (List Waiting)). get_or l at []) (map-set items_of lists at list)
    ∙ get_or-set_same (map items_of lists) at list.items [] (omega (arith, within, length-map lists items_of))

pub listed-set_other : (lists : List (Vec Waiting)) (at place : ℕ) (list : Vec Waiting) → place ≢ at → listed_waiting (set lists at list) place ≡ listed_waiting lists place
listed-set_other lists at place list other =
    ap (λ (l : List (List Waiting)). get_or l place []) (map-set items_of lists at list) ∙ get_or-set_other (map items_of lists) at place list.items [] other

-- the list at a place, as it is taken
pub listed-is : (lists : List (Vec Waiting)) (at : ℕ) (list : Vec Waiting) → at < length lists → list ≡ get_or lists at list → list.items ≡ listed_waiting lists at
listed-is lists at list within is = ap items_of is ∙ sym (get_or-map items_of lists at list [] within)

-- ---- a file more

one_by : (t : Bool) (a : ActiveFile) (files : List ActiveFile) (place : ℕ) → map waiting_of (cond t (a ∷ filter (λ x. x.connection == place) files) (filter (λ x. x.connection == place) files))
    ≡ map waiting_of (cond t (a ∷ []) []) ++ waiting_in files place
one_by true a files place = refl
one_by false a files place = refl

one_more : (a : ActiveFile) (files : List ActiveFile) (place : ℕ) → waiting_in (a ∷ files) place ≡ waiting_in (a ∷ []) place ++ waiting_in files place
one_more a files place = one_by (a.connection == place) a files place

pub listed-more : (a : ActiveFile) (rest left : List ActiveFile) (place : ℕ) (before now all : List Waiting) → left ≡ a ∷ rest → now ≡ before ++ waiting_in (a ∷ []) place → before ++ waiting_in left place ≡ all
    → now ++ waiting_in rest place ≡ all
listed-more a rest left place before now all split is so_far =
    ap (λ (l : List Waiting). l ++ waiting_in rest place) is ∙ append_assoc before (waiting_in (a ∷ []) place) (waiting_in rest place)
    ∙ ap (λ (l : List Waiting). before ++ l) (sym (one_more a rest place)) ∙ ap (λ (l : List ActiveFile). before ++ waiting_in l place) (sym split) ∙ so_far

here_by : (t : Bool) (a : ActiveFile) → t ≡ true → waiting_of a ∷ [] ≡ map waiting_of (cond t (a ∷ []) [])
here_by true a is = refl
here_by false a is = absurd cc

elsewhere_by : (t : Bool) (a : ActiveFile) → t ≡ false → [] ≡ map waiting_of (cond t (a ∷ []) [])
elsewhere_by true a is = absurd cc
elsewhere_by false a is = refl

waiting-here : (a : ActiveFile) (place : ℕ) → a.connection ≡ place → waiting_of a ∷ [] ≡ waiting_in (a ∷ []) place
waiting-here a place is = here_by (a.connection == place) a (eq-eqb a.connection place is)

waiting-elsewhere : (a : ActiveFile) (place : ℕ) → a.connection ≢ place → [] ≡ waiting_in (a ∷ []) place
waiting-elsewhere a place other = elsewhere_by (a.connection == place) a (ne_eqb a.connection place other)

-- its list gets it, and no other
pub listed-file : (a : ActiveFile) (lists : List (Vec Waiting)) (at : ℕ) (list : Vec Waiting) → at ≡ a.connection → at < length lists → list.items ≡ listed_waiting lists at ++ waiting_of a ∷ [] → (place : ℕ)
    → listed_waiting (set lists at list) place ≡ listed_waiting lists place ++ waiting_in (a ∷ []) place
listed-file a lists at list is within items place =
    elim (cases_eq place at) [
      | inl same ↦
          ap (listed_waiting (set lists at list)) same ∙ listed-set_same lists at list within ∙ items
          ∙ ap (λ (l : List Waiting). listed_waiting lists at ++ l) (waiting-here a at (sym is))
          ∙ ap (λ (n : ℕ). listed_waiting lists n ++ waiting_in (a ∷ []) n) (sym same)
      | inr other ↦
          listed-set_other lists at place list other ∙ sym (append-nil (listed_waiting lists place))
          ∙ ap (λ (l : List Waiting). listed_waiting lists place ++ l) (waiting-elsewhere a place (λ same. other (sym (is ∙ same))))
    ]
