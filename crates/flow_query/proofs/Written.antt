-- What calls that write one behind the other leave.
use Rattle.std.proofs.Common.{◌≡◌, ℕ, ◌+◌, ◌<◌, ◌≤◌, List, [], ◌∷◌, ◌++◌, length, drop, get_or, Ok, Err, refl, sym, ap, ◌∙◌, append_assoc}
use Rattle.std.specs.List.{flat_map}
use Rattle.std.proofs.lemmas.List.{append-nil, at_drop_more, at_drop_all}
use Rattle.disk_trait.specs.declared.file_name.Failed.{Failed}
use Rattle.flow_report.specs.Writing.{Writes}
use Rattle.flow_query.specs.Parts.{HasFront, IsPrinted}
use Rattle.flow_query.specs.declared.error.QueryError.TheVariants.{Sink}

-- of a text this is left to be written
pub record Leaves (text rest before after : List ℕ) : Type 0 where
  pub part : List ℕ
  pub whole : part ++ rest ≡ text
  pub written : after ≡ before ++ part

pub leaves-all : (text before : List ℕ) → Leaves text text before before
leaves-all text before = record { part = []; whole = refl; written = sym (append-nil before) }

pub leaves-named : (text rest other b b' : List ℕ) → rest ≡ other → Leaves text rest b b' → Leaves text other b b'
leaves-named text rest other b b' same left =
    record { part = left.part; whole = ap (λ (l : List ℕ). left.part ++ l) (sym same) ∙ left.whole; written = left.written }

pub leaves-more : (text s rest b b' b'' : List ℕ) → Leaves text (s ++ rest) b b' → Writes s b' b'' (Ok tt) → Leaves text rest b b''
leaves-more text s rest b b' b'' left more = record {
  part = left.part ++ s;
  whole = append_assoc left.part s rest ∙ left.whole;
  written = more.ok ∙ ap (λ (l : List ℕ). l ++ s) left.written ∙ append_assoc b left.part s;
}

pub leaves-failed : (text s rest b b' b'' : List ℕ) (e : Failed) → Leaves text (s ++ rest) b b' → Writes s b' b'' (Err e) → Writes text b b'' (Err e)
leaves-failed text s rest b b' b'' e left more =
    let front = more.err in
    record {
      ok = tt;
      err = (
        left.part ++ front.0,
        (
          front.1.0 ++ rest,
          append_assoc left.part front.0 (front.1.0 ++ rest)
              ∙ ap (λ (l : List ℕ). left.part ++ l) (sym (append_assoc front.0 front.1.0 rest) ∙ ap (λ (l : List ℕ). l ++ rest) front.1.1)
              ∙ left.whole,
        ),
        front.2 ∙ ap (λ (l : List ℕ). l ++ front.0) left.written ∙ append_assoc b left.part front.0,
      );
    }

pub leaves-none : (text rest b b' : List ℕ) → rest ≡ [] → Leaves text rest b b' → b' ≡ b ++ text
leaves-none text rest b b' none left =
    left.written ∙ ap (λ (l : List ℕ). b ++ l) (sym (append-nil left.part) ∙ ap (λ (l : List ℕ). left.part ++ l) (sym none) ∙ left.whole)

pub writes-done : (text rest b b' : List ℕ) → rest ≡ [] → Leaves text rest b b' → Writes text b b' (Ok tt)
writes-done text rest b b' none left = record { ok = leaves-none text rest b b' none left; err = tt }

pub leaves-front : (text rest b b' : List ℕ) → Leaves text rest b b' → HasFront text b b'
leaves-front text rest b b' left = (left.part, (rest, left.whole), left.written)

-- ---- the texts of a list's items

module _ {X : Type 0} (f : X → List ℕ) where
  texts-drop : (xs : List X) (i : ℕ) (d : X) → i < length xs → flat_map f (drop i xs) ≡ f (get_or xs i d) ++ flat_map f (drop (i + 1) xs)
  texts-drop xs i d within = at_drop_more (flat_map f) xs i d within

  texts-past : (xs : List X) (i : ℕ) → length xs ≤ i → flat_map f (drop i xs) ≡ []
  texts-past xs i past = at_drop_all (flat_map f) xs i past

  abbrev left : List X → ℕ → List ℕ
  left xs i = flat_map f (drop i xs)

  next-named : (text : List ℕ) (xs : List X) (i : ℕ) (d : X) (s b b' : List ℕ) → i < length xs → s ≡ f (get_or xs i d) → Leaves text (left xs i) b b' → Leaves text (s ++ left xs (i + 1)) b b'
  next-named text xs i d s b b' within same =
      leaves-named text (left xs i) (s ++ left xs (i + 1)) b b' (texts-drop xs i d within ∙ ap (λ (l : List ℕ). l ++ left xs (i + 1)) (sym same))

  -- one item more was written
  pub item-more : (text : List ℕ) (xs : List X) (i : ℕ) (d : X) (s b b' b'' : List ℕ) → i < length xs → s ≡ f (get_or xs i d) → Leaves text (left xs i) b b' → Writes s b' b'' (Ok tt)
      → Leaves text (left xs (i + 1)) b b''
  item-more text xs i d s b b' b'' within same so_far more =
      leaves-more text s (left xs (i + 1)) b b' b'' (next-named text xs i d s b b' within same so_far) more

  -- or a front of it
  pub item-failed : (text : List ℕ) (xs : List X) (i : ℕ) (d : X) (s b b' b'' : List ℕ) (e : Failed) → i < length xs → s ≡ f (get_or xs i d) → Leaves text (left xs i) b b'
      → Writes s b' b'' (Err e) → Writes text b b'' (Err e)
  item-failed text xs i d s b b' b'' e within same so_far more =
      leaves-failed text s (left xs (i + 1)) b b' b'' e (next-named text xs i d s b b' within same so_far) more

  pub items-done : (text : List ℕ) (xs : List X) (i : ℕ) (b b' : List ℕ) → length xs ≤ i → Leaves text (left xs i) b b' → Writes text b b' (Ok tt)
  items-done text xs i b b' past so_far = writes-done text (left xs i) b b' (texts-past xs i past) so_far

  -- the first of what is left
  pub first-more : (text : List ℕ) (xs rest : List X) (x : X) (s b b' b'' : List ℕ) → xs ≡ x ∷ rest → s ≡ f x → Leaves text (flat_map f xs) b b' → Writes s b' b'' (Ok tt) → Leaves text (flat_map f rest) b b''
  first-more text xs rest x s b b' b'' is same so_far more =
      leaves-more text s (flat_map f rest) b b' b'' (leaves-named text (flat_map f xs) (s ++ flat_map f rest) b b' (ap (flat_map f) is ∙ ap (λ (l : List ℕ). l ++ flat_map f rest) (sym same)) so_far) more

  pub first-failed : (text : List ℕ) (xs rest : List X) (x : X) (s b b' b'' : List ℕ) (e : Failed) → xs ≡ x ∷ rest → s ≡ f x → Leaves text (flat_map f xs) b b' → Writes s b' b'' (Err e)
      → Writes text b b'' (Err e)
  first-failed text xs rest x s b b' b'' e is same so_far more =
      leaves-failed text s (flat_map f rest) b b' b'' e (leaves-named text (flat_map f xs) (s ++ flat_map f rest) b b' (ap (flat_map f) is ∙ ap (λ (l : List ℕ). l ++ flat_map f rest) (sym same)) so_far) more

-- ---- what is printed

pub printed-sink : (text b b' : List ℕ) (e : Failed) → Writes text b b' (Err e) → IsPrinted text b b' (Err Sink)
printed-sink text b b' e writes = writes.err
