-- The clones that are placed. Each is as a newcomer that has its content itself, but for where its content comes from.
use Rattle.std.proofs.Common.{◌≡◌, ℕ, zero, suc, ◌+◌, ◌<◌, ◌≤◌, true, false, cond, List, [], ◌∷◌, ◌++◌, length, map, filter, refl, sym, ap, subst, ◌∙◌, arith, append_assoc, length-append}
use Rattle.std.specs.Prelude.{◌==◌, ◌^◌, Some, None, IfSome, slice_get, unwrap_or}
use Rattle.std.specs.List.{AllZip}
use Rattle.std.specs.Option.{option_and_then}
use Rattle.std.proofs.lemmas.List.{length-map}
use Rattle.flowfile_record.specs.Attributes.{AttributeMap, IsWithinLimits}
use Rattle.flowfile_record.specs.Shared.{AreShared, bytes_among, may_be_shared, own_bytes}
use Rattle.flowfile_record.specs.declared.content.ContentRef.{ContentRef}
use Rattle.flowfile_record.specs.declared.flow_file.FlowFile.{FlowFile}
use Rattle.flowfile_record.specs.declared.stored.Fresh.{Fresh}
use Rattle.flowfile_record.specs.declared.stored.Fresh.TheVariants.{No, Bytes, Staged, As}
use Rattle.flowfile_record.specs.declared.stored.Placed.{Placed}
use Rattle.flowfile_record.specs.declared.worked.Body.{Body}
use Rattle.flowfile_record.specs.declared.worked.Body.TheVariants.{Whole, Part, New}
use Rattle.machine_model.specs.declared.flow.Flow.{Flow}
use Rattle.machine_model.specs.Changing.{placed_file, placed_into, queued_file}
use Rattle.machine_model.proofs.Tally.{Each, each-append, tally}
use Rattle.settlement.specs.Contents.{fresh_in, shared_in}
use Rattle.settlement.specs.Placing.{EndedNewcomer, PlacingFrom, arrived, cloned_from, clones_of, first_newcomer, firsts, further, placed_at, placed_from, returned, returning, wanted}
use Rattle.settlement.specs.Recording.{IsRecordable}
use Rattle.settlement.specs.declared.file.EndedFile.{EndedFile}
use Rattle.settlement.specs.declared.file.Goes.{Goes}
use Rattle.settlement.specs.declared.file.Goes.TheVariants.{Queues, Returns, Drops, Leaves}
use Rattle.settlement.proofs.Placed.{length-placed, placed-append}

-- the clones as newcomers, numbered in turn
abbrev pub clones_from : (number : ℕ) → List (EndedFile × ℕ) → List EndedNewcomer
clones_from number [] = []
clones_from number (clone ∷ clones) = (clone.1, number, clone.0) ∷ clones_from (number + 1) clones

pub clones-append : (number : ℕ) (xs ys : List (EndedFile × ℕ)) → clones_from number (xs ++ ys) ≡ clones_from number xs ++ clones_from (number + length xs) ys
clones-append number [] ys = ap (λ n. clones_from n ys) (omega arith)
clones-append number (x ∷ xs) ys =
    let moved : number + 1 + length xs ≡ number + suc (length xs) = omega arith in
    ap (λ rest. (x.1, number, x.0) ∷ rest) (clones-append (number + 1) xs ys ∙ ap (λ n. clones_from (number + 1) xs ++ clones_from n ys) moved)

pub length-clones : (number : ℕ) (xs : List (EndedFile × ℕ)) → length (clones_from number xs) ≡ length xs
length-clones number [] = refl
length-clones number (x ∷ xs) = ap suc (length-clones (number + 1) xs)

-- ---- one clone

-- a clone shares a new content with an original that stands before these places
pub record IsShare (all : List Placed) (most : ℕ) (q : Placed) (of : ℕ) : Type 0 where
  pub original : Placed
  pub there : slice_get all of ≡ Some original
  pub below : of < most
  pub fresh : original.fresh ≡ q.fresh
  pub shared : may_be_shared original.fresh ≡ true
  pub content : q.file.content ≡ original.file.content

abbrev pub ComesAs : List Placed → ℕ → Placed → Fresh → Type 0
ComesAs all most q No = q.fresh ≡ No
ComesAs all most q (As of) = IsShare all most q of
ComesAs all most q _ = ⊥

pub record IsClone (all : List Placed) (most : ℕ) (p q : Placed) : Type 0 where
  pub connection : p.connection ≡ q.connection
  pub file : p.file ≡ q.file
  pub fresh : ComesAs all most q p.fresh
  pub own : bytes_among all q.fresh ≡ own_bytes q.fresh

-- a newcomer shares nothing
pub fresh-own : (all : List Placed) (body : Body) → bytes_among all (fresh_in body) ≡ own_bytes (fresh_in body)
fresh-own all (Whole of) = refl
fresh-own all (Part of offset size) = refl
fresh-own all (New bytes) = refl

comes_as : (all : List Placed) (most place : ℕ) (original q : Placed) (body : Body) → slice_get all place ≡ Some original → place < most → original.fresh ≡ fresh_in body
    → q.fresh ≡ fresh_in body → q.file.content ≡ original.file.content → ComesAs all most q (shared_in place body)
comes_as all most place original q (Whole of) there below was is same = is
comes_as all most place original q (Part of offset size) there below was is same = is
comes_as all most place original q (New bytes) there below was is same = record { original = original; there = there; below = below; fresh = was ∙ sym is; shared = ap may_be_shared was; content = same }

-- the clones of a file whose original is placed there
file_clones : (all : List Placed) (most place first at number arrival : ℕ) (file : EndedFile) (connections : List ℕ)
    → slice_get all place ≡ Some (placed_at at (first, file.number, file)) → place < most
    → AllZip (IsClone all most) (clones_of place number arrival file connections) (placed_from arrival (clones_from number (map (λ connection. (file, connection)) connections)))
file_clones all most place first at number arrival file [] there below = tt
file_clones all most place first at number arrival file (connection ∷ connections) there below = (
  record {
    connection = refl;
    file = refl;
    fresh = comes_as all most place (placed_at at (first, file.number, file)) (placed_at arrival (connection, number, file)) file.worked.body there below refl refl refl;
    own = fresh-own all file.worked.body;
  },
  file_clones all most place first at (number + 1) (arrival + 1) file connections there below,
)

get_behind : (before : List Placed) (p : Placed) (after : List Placed) → slice_get (before ++ p ∷ after) (length before) ≡ Some p
get_behind [] p after = refl
get_behind (q ∷ before) p after = get_behind before p after

goes_clones : (all before after : List Placed) (most place at number arrival : ℕ) (file : EndedFile) (goes : Goes)
    → all ≡ before ++ (placed_from at (first_newcomer file goes) ++ after) → length before ≡ place → place + length (first_newcomer file goes) ≤ most
    → AllZip (IsClone all most) (clones_of place number arrival file (further goes)) (placed_from arrival (clones_from number (map (λ connection. (file, connection)) (further goes))))
goes_clones all before after most place at number arrival file (Queues first others) is long few =
    let there : slice_get all place ≡ Some (placed_at at (first, file.number, file)) =
    ap (λ n. slice_get all n) (sym long) ∙ ap (λ xs. slice_get xs (length before)) is ∙ get_behind before (placed_at at (first, file.number, file)) after in
    file_clones all most place first at number arrival file others there (omega (arith, few))
goes_clones all before after most place at number arrival file Returns is long few = tt
goes_clones all before after most place at number arrival file (Drops relationship) is long few = tt
goes_clones all before after most place at number arrival file Leaves is long few = tt

zip_append : {A B : Type 0} (R : A → B → Type 0) (xs xs' : List A) (ys ys' : List B) → AllZip R xs ys → AllZip R xs' ys' → AllZip R (xs ++ xs') (ys ++ ys')
zip_append R [] xs' [] ys' one two = two
zip_append R [] xs' (y ∷ ys) ys' one two = absurd one
zip_append R (x ∷ xs) xs' [] ys' one two = absurd one
zip_append R (x ∷ xs) xs' (y ∷ ys) ys' one two = (one.0, zip_append R xs xs' ys ys' one.1 two)

clones_alike : (all before after : List Placed) (most place at number arrival : ℕ) (files : List EndedFile)
    → all ≡ before ++ (placed_from at (firsts files) ++ after) → length before ≡ place → place + length (firsts files) ≤ most
    → AllZip (IsClone all most) (cloned_from place number arrival files) (placed_from arrival (clones_from number (wanted files)))
clones_alike all before after most place at number arrival [] is long few = tt
clones_alike all before after most place at number arrival (file ∷ files) is long few =
    let head = first_newcomer file file.goes in
    let heads = placed_from at head in
    let later = placed_from (at + length head) (firsts files) in
    let copies : List (EndedFile × ℕ) = map (λ (connection : ℕ). (file, connection)) (further file.goes) in
    let count = length (further file.goes) in
    let counted : length copies ≡ count = length-map (further file.goes) (λ connection. (file, connection)) in
    let here : all ≡ before ++ (heads ++ (later ++ after)) =
    is ∙ ap (λ xs. before ++ (xs ++ after)) (placed-append at head (firsts files)) ∙ ap (λ xs. before ++ xs) (append_assoc heads later after) in
    let next : all ≡ (before ++ heads) ++ (later ++ after) = here ∙ sym (append_assoc before heads (later ++ after)) in
    let behind : length (before ++ heads) ≡ place + length head = omega (arith, length-append before heads, length-placed at head, long) in
    let whole : placed_from arrival (clones_from number (wanted (file ∷ files)))
    ≡ placed_from arrival (clones_from number copies) ++ placed_from (arrival + count) (clones_from (number + count) (wanted files)) =
    ap (placed_from arrival) (clones-append number copies (wanted files))
    ∙ placed-append arrival (clones_from number copies) (clones_from (number + length copies) (wanted files))
    ∙ (λ i. placed_from arrival (clones_from number copies) ++ placed_from (arrival + (length-clones number copies ∙ counted) i) (clones_from (number + counted i) (wanted files))) in
    subst (AllZip (IsClone all most) (cloned_from place number arrival (file ∷ files))) (sym whole)
    (zip_append (IsClone all most) (clones_of place number arrival file (further file.goes)) (cloned_from (place + length head) (number + count) (arrival + count) files) (placed_from arrival (clones_from number copies)) _
    (goes_clones all before (later ++ after) most place at number arrival file file.goes here long (omega (arith, few, length-append head (firsts files))))
    (clones_alike all (before ++ heads) after most (place + length head) (at + length head) (number + count) (arrival + count) files next behind (omega (arith, few, length-append head (firsts files)))))

-- how many stand before the clones
abbrev pub before_clones : PlacingFrom → List EndedFile → ℕ
before_clones at files = length (returned at files) + length (firsts files)

-- the clones of a settlement, and the newcomers that they are as
abbrev pub clones_in : PlacingFrom → (first_clone : ℕ) → List EndedFile → List Placed
clones_in at first_clone files = cloned_from (length (returned at files)) first_clone (at.next_arrival + length (firsts files)) files

abbrev pub as_newcomers : PlacingFrom → (first_clone : ℕ) → List EndedFile → List Placed
as_newcomers at first_clone files = placed_from (at.next_arrival + length (firsts files)) (clones_from first_clone (wanted files))

pub all_clones : (at : PlacingFrom) (first_clone : ℕ) (files : List EndedFile)
    → AllZip (IsClone (returned at files ++ arrived at first_clone files) (before_clones at files)) (clones_in at first_clone files) (as_newcomers at first_clone files)
all_clones at first_clone files =
    clones_alike (returned at files ++ arrived at first_clone files) (returned at files) (clones_in at first_clone files) (before_clones at files) (length (returned at files)) at.next_arrival first_clone
    (at.next_arrival + length (firsts files)) files refl refl (omega arith)

-- ---- what clones have of those that they are as

comes_bytes : (all : List Placed) (most : ℕ) (q : Placed) (fresh : Fresh) → ComesAs all most q fresh → bytes_among all fresh ≡ own_bytes q.fresh
comes_bytes all most q No is = ap own_bytes (sym is)
comes_bytes all most q (As of) is = ap (option_and_then (λ (p : Placed). own_bytes p.fresh)) is.there ∙ ap own_bytes is.fresh
comes_bytes all most q (Bytes bytes) is = absurd is
comes_bytes all most q Staged is = absurd is

clone_queued : (contents : ContentRef → List ℕ) (all : List Placed) (most : ℕ) (p q : Placed) → IsClone all most p q → placed_file contents all p ≡ placed_file contents all q
clone_queued contents all most p q is =
    let bytes : bytes_among all p.fresh ≡ bytes_among all q.fresh = comes_bytes all most q p.fresh is.fresh ∙ sym is.own in
    λ i. record (queued_file contents (is.file i)) { bytes = unwrap_or (bytes i) (contents (is.file i).content) }

pub clones-into : (contents : ContentRef → List ℕ) (all : List Placed) (most k : ℕ) (ps qs : List Placed) → AllZip (IsClone all most) ps qs → placed_into contents all k ps ≡ placed_into contents all k qs
clones-into contents all most k [] [] are = refl
clones-into contents all most k [] (q ∷ qs) are = absurd are
clones-into contents all most k (p ∷ ps) [] are = absurd are
clones-into contents all most k (p ∷ ps) (q ∷ qs) are =
    ap (λ (n : ℕ). map (placed_file contents all) (cond (n == k) (p ∷ filter (λ (r : Placed). r.connection == k) ps) (filter (λ (r : Placed). r.connection == k) ps))) are.0.connection
    ∙ elim (q.connection == k) as (λ b. map (placed_file contents all) (cond b (p ∷ filter (λ (r : Placed). r.connection == k) ps) (filter (λ (r : Placed). r.connection == k) ps))
    ≡ map (placed_file contents all) (cond b (q ∷ filter (λ (r : Placed). r.connection == k) qs) (filter (λ (r : Placed). r.connection == k) qs))) [
      | true ↦ λ i. clone_queued contents all most p q are.0 i ∷ clones-into contents all most k ps qs are.1 i
      | false ↦ clones-into contents all most k ps qs are.1
    ]

pub clones-weigh : (w : AttributeMap → ℕ) (all : List Placed) (most : ℕ) (ps qs : List Placed) → AllZip (IsClone all most) ps qs
    → tally (λ (p : Placed). w p.file.attributes) ps ≡ tally (λ (p : Placed). w p.file.attributes) qs
clones-weigh w all most [] [] are = refl
clones-weigh w all most [] (q ∷ qs) are = absurd are
clones-weigh w all most (p ∷ ps) [] are = absurd are
clones-weigh w all most (p ∷ ps) (q ∷ qs) are = λ i. w (are.0.file i).attributes + clones-weigh w all most ps qs are.1 i

no_own : (P : List ℕ → Type 0) (all : List Placed) (most : ℕ) (q : Placed) (fresh : Fresh) → ComesAs all most q fresh → IfSome (own_bytes fresh) P
no_own P all most q No is = tt
no_own P all most q (As of) is = tt
no_own P all most q (Bytes bytes) is = absurd is
no_own P all most q Staged is = absurd is

clone_fits : (flow : Flow) (all : List Placed) (most : ℕ) (p q : Placed) → IsClone all most p q → IsRecordable flow q → IsRecordable flow p
clone_fits flow all most p q is fits = record {
  connection = subst (λ (n : ℕ). n < length flow.connections) (sym is.connection) fits.connection;
  attributes = subst (λ (file : FlowFile). IsWithinLimits file.attributes) (sym is.file) fits.attributes;
  entered = subst (λ (file : FlowFile). file.entered < 2 ^ 64) (sym is.file) fits.entered;
  penalty_end = subst (λ (file : FlowFile). file.penalty_end < 2 ^ 64) (sym is.file) fits.penalty_end;
  fresh = no_own _ all most q p.fresh is.fresh;
}

pub clones-fit : (flow : Flow) (all : List Placed) (most : ℕ) (ps qs : List Placed) → AllZip (IsClone all most) ps qs → Each (IsRecordable flow) qs → Each (IsRecordable flow) ps
clones-fit flow all most [] [] are fit = tt
clones-fit flow all most [] (q ∷ qs) are fit = absurd are
clones-fit flow all most (p ∷ ps) [] are fit = absurd are
clones-fit flow all most (p ∷ ps) (q ∷ qs) are fit = (clone_fits flow all most p q are.0 fit.0, clones-fit flow all most ps qs are.1 fit.1)

-- what holds of a placed content, by where it comes from
abbrev pub OfPlaced : (ContentRef → Fresh → Type 0) → Placed → Type 0
OfPlaced Holds p = Holds p.file.content p.fresh

-- it holds of each content that is shared
abbrev pub HoldsOfShared : (ContentRef → Fresh → Type 0) → Type 0
HoldsOfShared Holds = (content : ContentRef) (of : ℕ) → Holds content (As of)

comes_content : (Holds : ContentRef → Fresh → Type 0) (all : List Placed) (most : ℕ) (q : Placed) (fresh : Fresh) → HoldsOfShared Holds → ComesAs all most q fresh → OfPlaced Holds q
    → Holds q.file.content fresh
comes_content Holds all most q No shared is has = subst (Holds q.file.content) is has
comes_content Holds all most q (As of) shared is has = shared q.file.content of
comes_content Holds all most q (Bytes bytes) shared is has = absurd is
comes_content Holds all most q Staged shared is has = absurd is

pub clones-hold : (Holds : ContentRef → Fresh → Type 0) (all : List Placed) (most : ℕ) (ps qs : List Placed) → HoldsOfShared Holds → AllZip (IsClone all most) ps qs → Each (OfPlaced Holds) qs
    → Each (OfPlaced Holds) ps
clones-hold Holds all most [] [] shared are hold = tt
clones-hold Holds all most [] (q ∷ qs) shared are hold = absurd are
clones-hold Holds all most (p ∷ ps) [] shared are hold = absurd are
clones-hold Holds all most (p ∷ ps) (q ∷ qs) shared are hold = (
  subst (λ (file : FlowFile). Holds file.content p.fresh) (sym are.0.file) (comes_content Holds all most q p.fresh shared are.0.fresh hold.0),
  clones-hold Holds all most ps qs shared are.1 hold.1,
)

-- ---- all share earlier contents

abbrev SharesNothing : Placed → Type 0
SharesNothing p = (of : ℕ) → p.fresh ≡ As of → ⊥

fresh_alone : (body : Body) (of : ℕ) → fresh_in body ≡ As of → ⊥
fresh_alone (Whole place) of is = absurd cc
fresh_alone (Part place offset size) of is = absurd cc
fresh_alone (New bytes) of is = absurd cc

news_alone : (arrival : ℕ) (news : List EndedNewcomer) → Each SharesNothing (placed_from arrival news)
news_alone arrival [] = tt
news_alone arrival (one ∷ news) = (fresh_alone one.2.worked.body, news_alone (arrival + 1) news)

returning_alone : (at : PlacingFrom) (file : EndedFile) (goes : Goes) → Each SharesNothing (returning at file goes)
returning_alone at file Returns = (fresh_alone file.worked.body, tt)
returning_alone at file (Queues first others) = tt
returning_alone at file (Drops relationship) = tt
returning_alone at file Leaves = tt

returned_alone : (at : PlacingFrom) (files : List EndedFile) → Each SharesNothing (returned at files)
returned_alone at [] = tt
returned_alone at (file ∷ files) = each-append SharesNothing (returning at file file.goes) (returned at files) (returning_alone at file file.goes) (returned_alone at files)

zip_at : {A B : Type 0} (R : A → B → Type 0) (xs : List A) (ys : List B) (place : ℕ) (x : A) → AllZip R xs ys → slice_get xs place ≡ Some x → (y : B) × R x y
zip_at R [] ys place x all is = absurd (let both : None ≡ Some x = is in cc)
zip_at R (a ∷ xs) [] place x all is = absurd all
zip_at R (a ∷ xs) (b ∷ ys) zero x all is =
    let both : Some a ≡ Some x = is in
    let same : a ≡ x = cc in
    (b, subst (λ y. R y b) same all.0)
zip_at R (a ∷ xs) (b ∷ ys) (suc place) x all is = zip_at R xs ys place x all.1 is

pub record StandsBehind (all : List Placed) (most count place : ℕ) (p : Placed) : Type 0 where
  pub behind : count ≤ place
  pub other : Placed
  pub is : IsClone all most p other

behind_all : (all front ps qs : List Placed) (most place of : ℕ) (p : Placed) → Each SharesNothing front → AllZip (IsClone all most) ps qs → slice_get (front ++ ps) place ≡ Some p → p.fresh ≡ As of
    → StandsBehind all most (length front) place p
behind_all all [] ps qs most place of p alone are there is =
    let found = zip_at (IsClone all most) ps qs place p are there in
    record { behind = omega arith; other = found.0; is = found.1 }
behind_all all (q ∷ front) ps qs most zero of p alone are there is =
    let both : Some q ≡ Some p = there in
    let same : q ≡ p = cc in
    absurd (alone.0 of (ap (λ (r : Placed). r.fresh) same ∙ is))
behind_all all (q ∷ front) ps qs most (suc place) of p alone are there is =
    let found = behind_all all front ps qs most place of p alone.1 are there is in
    record { behind = omega (arith, found.behind); other = found.other; is = found.is }

pub all-shared : (at : PlacingFrom) (first_clone : ℕ) (files : List EndedFile) → AreShared (returned at files ++ arrived at first_clone files)
all-shared at first_clone files place of p there is =
    let all = returned at files ++ arrived at first_clone files in
    let most = before_clones at files in
    let news = placed_from at.next_arrival (firsts files) in
    let front = returned at files ++ news in
    let whole : all ≡ front ++ clones_in at first_clone files = sym (append_assoc (returned at files) news (clones_in at first_clone files)) in
    let found = behind_all all front (clones_in at first_clone files) (as_newcomers at first_clone files) most place of p
    (each-append SharesNothing (returned at files) news (returned_alone at files) (news_alone at.next_arrival (firsts files)))
    (all_clones at first_clone files) (ap (λ xs. slice_get xs place) (sym whole) ∙ there) is in
    let share : IsShare all most found.other of = subst (ComesAs all most found.other) is found.is.fresh in
    record {
      original = share.original;
      there = share.there;
      earlier = omega (arith, share.below, found.behind, length-append (returned at files) news, length-placed at.next_arrival (firsts files));
      shared = share.shared;
      same = ap (λ (file : FlowFile). file.content) found.is.file ∙ share.content;
    }
