-- What puts one behind the other leave.
use Rattle.std.proofs.Common.{◌≡◌, ℕ, ◌+◌, ◌-◌, ◌<◌, ◌≤◌, List, [], ◌∷◌, ◌++◌, length, take, drop, get_or, Result, Ok, Err, refl, sym, ap, ◌∙◌, subst, append_assoc, OnOk, arith}
use Rattle.std.specs.List.{enumerate_from, flat_map}
use Rattle.std.proofs.lemmas.List.{append-nil, drop-drop, length-drop, length-take, take_all, take_more, take-append-drop}
use Rattle.std.proofs.lemmas.List.FromFn.{length-enumerate_from, get_or-enumerate_from}
use Rattle.disk_trait.specs.declared.file_name.Failed.{Failed}
use Rattle.flow_report.specs.Writing.{Puts, Writes}

-- nothing was put
pub puts-nothing : (before held : List ℕ) → Puts [] before held before held (Ok tt)
puts-nothing before held = record {
  part = [];
  rest = held;
  written = sym (append-nil before);
  whole = sym (append-nil held);
  left = refl;
}

-- a text behind another
pub puts-then : (s t b h b' h' b'' h'' : List ℕ) (result : Result (Unit {0}) Failed) → Puts s b h b' h' (Ok tt) → Puts t b' h' b'' h'' result → Puts (s ++ t) b h b'' h'' result
puts-then s t b h b' h' b'' h'' result one more = record {
  part = one.part ++ more.part;
  rest = more.rest;
  written = more.written ∙ ap (λ (l : List ℕ). l ++ more.part) one.written ∙ append_assoc b one.part more.part;
  whole =
      append_assoc one.part more.part more.rest ∙ ap (λ (l : List ℕ). one.part ++ l) (more.whole ∙ ap (λ (l : List ℕ). l ++ t) (sym one.left)) ∙ sym (append_assoc one.part one.rest t)
      ∙ ap (λ (l : List ℕ). l ++ t) one.whole ∙ append_assoc h s t;
  left = more.left;
}

-- after a failure more was to be put
pub puts-failed : (s t b h b' h' : List ℕ) (e : Failed) → Puts s b h b' h' (Err e) → Puts (s ++ t) b h b' h' (Err e)
puts-failed s t b h b' h' e one = record {
  part = one.part;
  rest = one.rest ++ t;
  written = one.written;
  whole = sym (append_assoc one.part one.rest t) ∙ ap (λ (l : List ℕ). l ++ t) one.whole ∙ append_assoc h s t;
  left = tt;
}

-- where nothing is held at the beginning and at the end, the text was written
writes-all : (t b b' : List ℕ) (h' : List ℕ) → h' ≡ [] → Puts t b [] b' h' (Ok tt) → b' ≡ b ++ t
writes-all t b b' h' none puts =
    puts.written ∙ ap (λ (l : List ℕ). b ++ l) (sym (append-nil puts.part) ∙ ap (λ (l : List ℕ). puts.part ++ l) (sym (puts.left ∙ none)) ∙ puts.whole)

writes-front : (t b b' h' : List ℕ) (e : Failed) → Puts t b [] b' h' (Err e) → (part : List ℕ) × ((rest : List ℕ) × (part ++ rest ≡ t)) × (b' ≡ b ++ part)
writes-front t b b' h' e puts = (puts.part, (puts.rest, puts.whole), puts.written)

pub puts-named : (s t b h b' h' : List ℕ) (result : Result (Unit {0}) Failed) → s ≡ t → Puts s b h b' h' result → Puts t b h b' h' result
puts-named s t b h b' h' result same puts =
    record { part = puts.part; rest = puts.rest; written = puts.written; whole = puts.whole ∙ ap (λ (l : List ℕ). h ++ l) same; left = puts.left }

-- ---- the texts of a list's items, one behind the other

pub texts-append : {X : Type 0} (f : X → List ℕ) → (xs ys : List X) → flat_map f (xs ++ ys) ≡ flat_map f xs ++ flat_map f ys
texts-append f [] ys = refl
texts-append f (x ∷ xs) ys = ap (λ (l : List ℕ). f x ++ l) (texts-append f xs ys) ∙ sym (append_assoc (f x) (flat_map f xs) (flat_map f ys))

pub texts-more : {X : Type 0} (f : X → List ℕ) (xs : List X) (i : ℕ) (d : X) → i < length xs → flat_map f (take i xs) ++ f (get_or xs i d) ≡ flat_map f (take (i + 1) xs)
texts-more f xs i d within =
    ap (λ (l : List ℕ). flat_map f (take i xs) ++ l) (sym (append-nil (f (get_or xs i d)))) ∙ sym (texts-append f (take i xs) (get_or xs i d ∷ [])) ∙ ap (flat_map f) (sym (take_more xs i d within))

pub texts-whole : {X : Type 0} (f : X → List ℕ) (xs : List X) (i : ℕ) → flat_map f (take i xs) ++ flat_map f (drop i xs) ≡ flat_map f xs
texts-whole f xs i = sym (texts-append f (take i xs) (drop i xs)) ∙ ap (flat_map f) (take-append-drop i xs)

-- one item more
pub puts-more : {X : Type 0} (f : X → List ℕ) (xs : List X) (i : ℕ) (d : X) (b h b' h' b'' h'' : List ℕ) → i < length xs → Puts (flat_map f (take i xs)) b h b' h' (Ok tt)
    → Puts (f (get_or xs i d)) b' h' b'' h'' (Ok tt) → Puts (flat_map f (take (i + 1) xs)) b h b'' h'' (Ok tt)
puts-more f xs i d b h b' h' b'' h'' within so_far more =
    puts-named _ _ b h b'' h'' (Ok tt) (texts-more f xs i d within) (puts-then _ _ b h b' h' b'' h'' (Ok tt) so_far more)

-- an item failed
pub puts-more-failed : {X : Type 0} (f : X → List ℕ) (xs : List X) (i : ℕ) (d : X) (b h b' h' b'' h'' : List ℕ) (e : Failed) → i < length xs → Puts (flat_map f (take i xs)) b h b' h' (Ok tt)
    → Puts (f (get_or xs i d)) b' h' b'' h'' (Err e) → Puts (flat_map f xs) b h b'' h'' (Err e)
puts-more-failed f xs i d b h b' h' b'' h'' e within so_far more =
    let here = puts-named _ _ b h b'' h'' (Err e) (texts-more f xs i d within) (puts-then _ _ b h b' h' b'' h'' (Err e) so_far more) in
    puts-named _ _ b h b'' h'' (Err e) (texts-whole f xs (i + 1)) (puts-failed (flat_map f (take (i + 1) xs)) (flat_map f (drop (i + 1) xs)) b h b'' h'' e here)

-- all items
pub puts-all : {X : Type 0} (f : X → List ℕ) (xs : List X) (i : ℕ) (b h b' h' : List ℕ) → length xs ≤ i → Puts (flat_map f (take i xs)) b h b' h' (Ok tt) → Puts (flat_map f xs) b h b' h' (Ok tt)
puts-all f xs i b h b' h' past so_far = puts-named _ _ b h b' h' (Ok tt) (ap (flat_map f) (take_all i xs past)) so_far

-- nothing was put, and nothing is held
pub puts-none : (before kept : List ℕ) → kept ≡ [] → Puts [] before [] before kept (Ok tt)
puts-none before kept none = record { part = []; rest = []; written = sym (append-nil before); whole = refl; left = sym none }

-- where nothing was held at the beginning, and nothing is at the end
pub writes-result : (t b b' h' : List ℕ) (result : Result (Unit {0}) Failed) → OnOk result (h' ≡ []) → Puts t b [] b' h' result → Writes t b b' result
writes-result t b b' h' (Ok u) none puts = record { ok = writes-all t b b' h' none puts; err = tt }
writes-result t b b' h' (Err e) none puts = record { ok = tt; err = writes-front t b b' h' e puts }

-- ---- lines behind lines

pub writes-nothing : (before : List ℕ) → Writes [] before before (Ok tt)
writes-nothing before = record { ok = sym (append-nil before); err = tt }

pub writes-then : (s t b b' b'' : List ℕ) (result : Result (Unit {0}) Failed) → Writes s b b' (Ok tt) → Writes t b' b'' result → Writes (s ++ t) b b'' result
writes-then s t b b' b'' (Ok u) one more = record { ok = more.ok ∙ ap (λ (l : List ℕ). l ++ t) one.ok ∙ append_assoc b s t; err = tt }
writes-then s t b b' b'' (Err e) one more =
    let front = more.err in
    record {
      ok = tt;
      err = (
        s ++ front.0,
        (front.1.0, append_assoc s front.0 front.1.0 ∙ ap (λ (l : List ℕ). s ++ l) front.1.1),
        front.2 ∙ ap (λ (l : List ℕ). l ++ front.0) one.ok ∙ append_assoc b s front.0,
      );
    }

pub writes-failed : (s t b b' : List ℕ) (e : Failed) → Writes s b b' (Err e) → Writes (s ++ t) b b' (Err e)
writes-failed s t b b' e one =
    let front = one.err in
    record {
      ok = tt;
      err = (front.0, (front.1.0 ++ t, sym (append_assoc front.0 front.1.0 t) ∙ ap (λ (l : List ℕ). l ++ t) front.1.1), front.2);
    }

pub writes-named : (s t b b' : List ℕ) (result : Result (Unit {0}) Failed) → s ≡ t → Writes s b b' result → Writes t b b' result
writes-named s t b b' result same = subst (λ (l : List ℕ). Writes l b b' result) same

-- one line more
pub writes-more : {X : Type 0} (f : X → List ℕ) (xs : List X) (i : ℕ) (d : X) (b b' b'' : List ℕ) → i < length xs → Writes (flat_map f (take i xs)) b b' (Ok tt)
    → Writes (f (get_or xs i d)) b' b'' (Ok tt) → Writes (flat_map f (take (i + 1) xs)) b b'' (Ok tt)
writes-more f xs i d b b' b'' within so_far more = writes-named _ _ b b'' (Ok tt) (texts-more f xs i d within) (writes-then _ _ b b' b'' (Ok tt) so_far more)

-- a line failed
pub writes-more-failed : {X : Type 0} (f : X → List ℕ) (xs : List X) (i : ℕ) (d : X) (b b' b'' : List ℕ) (e : Failed) → i < length xs → Writes (flat_map f (take i xs)) b b' (Ok tt)
    → Writes (f (get_or xs i d)) b' b'' (Err e) → Writes (flat_map f xs) b b'' (Err e)
writes-more-failed f xs i d b b' b'' e within so_far more =
    let here = writes-named _ _ b b'' (Err e) (texts-more f xs i d within) (writes-then _ _ b b' b'' (Err e) so_far more) in
    writes-named _ _ b b'' (Err e) (texts-whole f xs (i + 1)) (writes-failed (flat_map f (take (i + 1) xs)) (flat_map f (drop (i + 1) xs)) b b'' e here)

-- all lines
pub writes-all-lines : {X : Type 0} (f : X → List ℕ) (xs : List X) (i : ℕ) (b b' : List ℕ) → length xs ≤ i → Writes (flat_map f (take i xs)) b b' (Ok tt) → Writes (flat_map f xs) b b' (Ok tt)
writes-all-lines f xs i b b' past so_far = writes-named _ _ b b' (Ok tt) (ap (flat_map f) (take_all i xs past)) so_far

-- ---- lines of places and items

-- the item at a place, with its place behind the first
item-at : {X : Type 0} (first : ℕ) (xs : List X) (i : ℕ) (x : X) → i < length xs → x ≡ get_or xs i x → get_or (enumerate_from first xs) i (first + i, x) ≡ (first + i, x)
item-at {X} first xs i x within is = get_or-enumerate_from first xs i (first + i, x) within ∙ ap (λ (y : X). (first + i, y)) (sym is)

pub place-more : {X : Type 0} (f : ℕ × X → List ℕ) (first : ℕ) (xs : List X) (i : ℕ) (x : X) (b b' b'' : List ℕ) → i < length xs → x ≡ get_or xs i x
    → Writes (flat_map f (take i (enumerate_from first xs))) b b' (Ok tt) → Writes (f (first + i, x)) b' b'' (Ok tt) → Writes (flat_map f (take (i + 1) (enumerate_from first xs))) b b'' (Ok tt)
place-more f first xs i x b b' b'' within is so_far more =
    writes-more f (enumerate_from first xs) i (first + i, x) b b' b'' (omega (arith, within, length-enumerate_from first xs)) so_far
    (writes-named _ _ b' b'' (Ok tt) (ap f (sym (item-at first xs i x within is))) more)

pub place-failed : {X : Type 0} (f : ℕ × X → List ℕ) (first : ℕ) (xs : List X) (i : ℕ) (x : X) (b b' b'' : List ℕ) (e : Failed) → i < length xs → x ≡ get_or xs i x
    → Writes (flat_map f (take i (enumerate_from first xs))) b b' (Ok tt) → Writes (f (first + i, x)) b' b'' (Err e) → Writes (flat_map f (enumerate_from first xs)) b b'' (Err e)
place-failed f first xs i x b b' b'' e within is so_far more =
    writes-more-failed f (enumerate_from first xs) i (first + i, x) b b' b'' e (omega (arith, within, length-enumerate_from first xs)) so_far
    (writes-named _ _ b' b'' (Err e) (ap f (sym (item-at first xs i x within is))) more)

pub places-all : {X : Type 0} (f : ℕ × X → List ℕ) (first : ℕ) (xs : List X) (i : ℕ) (b b' : List ℕ) → length xs ≤ i
    → Writes (flat_map f (take i (enumerate_from first xs))) b b' (Ok tt) → Writes (flat_map f (enumerate_from first xs)) b b' (Ok tt)
places-all f first xs i b b' past so_far = writes-all-lines f (enumerate_from first xs) i b b' (omega (arith, past, length-enumerate_from first xs)) so_far

-- ---- lines of some places and of those behind them

places-append : {X : Type 0} (first : ℕ) (xs ys : List X) → enumerate_from first (xs ++ ys) ≡ enumerate_from first xs ++ enumerate_from (first + length xs) ys
places-append first [] ys = let here : first ≡ first + 0 = omega arith in ap (λ (n : ℕ). enumerate_from n ys) here
places-append first (x ∷ xs) ys =
    let behind : first + 1 + length xs ≡ first + length (x ∷ xs) = omega arith in
    ap (λ (l : List _). (first, x) ∷ l) (places-append (first + 1) xs ys ∙ ap (λ (n : ℕ). enumerate_from (first + 1) xs ++ enumerate_from n ys) behind)

-- those from a place on are those up to another and those from there on
pub places-cut : {X : Type 0} (f : ℕ × X → List ℕ) (xs : List X) (first end : ℕ) → first ≤ end → end ≤ length xs
    → flat_map f (enumerate_from first (drop first xs)) ≡ flat_map f (enumerate_from first (take (end - first) (drop first xs))) ++ flat_map f (enumerate_from end (drop end xs))
places-cut f xs first end from within =
    let part = take (end - first) (drop first xs) in
    let long : first + length part ≡ end = omega (arith, from, within, length-take (end - first) (drop first xs), length-drop first xs) in
    let place : first + (end - first) ≡ end = omega (arith, from) in
    let behind : drop (end - first) (drop first xs) ≡ drop end xs = drop-drop (end - first) first xs ∙ ap (λ (n : ℕ). drop n xs) place in
    let split : drop first xs ≡ part ++ drop end xs = sym (take-append-drop (end - first) (drop first xs)) ∙ ap (λ (l : List _). part ++ l) behind in
    ap (λ (l : List _). flat_map f (enumerate_from first l)) split ∙ ap (flat_map f) (places-append first part (drop end xs))
    ∙ texts-append f (enumerate_from first part) (enumerate_from (first + length part) (drop end xs))
    ∙ ap (λ (n : ℕ). flat_map f (enumerate_from first part) ++ flat_map f (enumerate_from n (drop end xs))) long

-- some lines more of the whole, of which these are left
pub cut-more : (text part rest left whole : List ℕ) → left ≡ part ++ rest → text ++ left ≡ whole → (text ++ part) ++ rest ≡ whole
cut-more text part rest left whole split so_far = append_assoc text part rest ∙ ap (λ (l : List ℕ). text ++ l) (sym split) ∙ so_far
