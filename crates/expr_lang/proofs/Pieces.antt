-- Pieces: a text has one row of them, and stops at one place.
use Rattle.std.proofs.Common.{◌≡◌, ℕ, zero, suc, ◌+◌, ◌-◌, ◌<◌, ◌≤◌, Bool, true, false, cond, ◌&&◌, ◌==◌, List, [], ◌∷◌, ◌++◌, length, map, Some, None, refl, ap, sym, ◌∙◌, subst, inl, inr, arith, length-append}
use Rattle.std.proofs.lemmas.Bool.{and_parts, or_cases, or_parts, eqb-true, eqb-false, eq-eqb}
use Rattle.std.proofs.lemmas.List.{append-nil, nil_from_length}
use Rattle.std.proofs.lemmas.Option.{none-some, some_pair_parts}
use Rattle.expr_lang.specs.Grammar.{IsEmbedded, MayFollowDollar, IsPiece, ArePieces, IsNotOneEmbedded, IsText, EndsUnread, IsBadAt}
use Rattle.expr_lang.specs.Reading.{embedded_read, is_special, plain_front, plain_behind}
use Rattle.expr_lang.specs.Tree.{Term, Part, byte, embedded, Tree, whole, joined, tree_of_parts}
use Rattle.expr_lang.proofs.Sound.{embedded_sound}
use Rattle.expr_lang.proofs.Complete.{embedded_complete}

begins_braced : (depth : ℕ) (bytes : List ℕ) (t : Term) → IsEmbedded depth bytes t → (tail : List ℕ) × (bytes ≡ 36 ∷ 123 ∷ tail)
begins_braced zero bytes t g = absurd g
begins_braced (suc depth) bytes t g = (g.before ++ (g.inner ++ (g.behind ++ (125 ∷ []))), g.whole)

cons_parts : (c d : ℕ) (xs ys : List ℕ) → c ∷ xs ≡ d ∷ ys → (c ≡ d) × (xs ≡ ys)
cons_parts c d xs ys e = (cc, cc)

-- a dollar before a brace doesn't stand for itself
no_byte_here : (c : ℕ) (behind tail : List ℕ) → (c ≡ 36 → MayFollowDollar behind) → c ≡ 36 → behind ≡ 123 ∷ tail → ⊥
no_byte_here c behind tail may dollar e = (subst MayFollowDollar e (may dollar)).1 refl

embedded_twice : (depth : ℕ) (front front' : List ℕ) (t t' : Term) (rest rest' : List ℕ) → IsEmbedded depth front t → IsEmbedded depth front' t' → front ++ rest ≡ front' ++ rest' → (t ≡ t') × (rest ≡ rest')
embedded_twice depth front front' t t' rest rest' g g' e =
    some_pair_parts t t' rest rest' (sym (embedded_complete depth front t rest g) ∙ ap (embedded_read depth) e ∙ embedded_complete depth front' t' rest' g')

byte_or_embedded : (bytes : List ℕ) (c : ℕ) (behind : List ℕ) (t : Term) (behind' : List ℕ) → IsPiece bytes (byte c) behind → IsPiece bytes (embedded t) behind' → ⊥
byte_or_embedded bytes c behind t behind' p q =
    let b = begins_braced 16 q.0 t q.1 in
    let e : c ∷ behind ≡ 36 ∷ 123 ∷ (b.0 ++ behind') = sym p.0 ∙ q.2 ∙ ap (λ (l : List ℕ). l ++ behind') b.1 in
    let parts = cons_parts c 36 behind (123 ∷ (b.0 ++ behind')) e in
    no_byte_here c behind (b.0 ++ behind') p.1 parts.0 parts.1

piece_same : (bytes : List ℕ) (part part' : Part) (behind behind' : List ℕ) → IsPiece bytes part behind → IsPiece bytes part' behind' → (part ≡ part') × (behind ≡ behind')
piece_same bytes (byte c) (byte c') behind behind' p q =
    let parts = cons_parts c c' behind behind' (sym p.0 ∙ q.0) in (ap byte parts.0, parts.1)
piece_same bytes (byte c) (embedded t) behind behind' p q = absurd (byte_or_embedded bytes c behind t behind' p q)
piece_same bytes (embedded t) (byte c) behind behind' p q = absurd (byte_or_embedded bytes c behind' t behind q p)
piece_same bytes (embedded t) (embedded t') behind behind' p q =
    let same = embedded_twice 16 p.0 q.0 t t' behind behind' p.1 q.1 (sym p.2 ∙ q.2) in (ap embedded same.0, same.1)

-- no piece stands here
pub record IsStuck (bytes : List ℕ) : Type 0 where
  pub stuck : (part : Part) (behind : List ℕ) → IsPiece bytes part behind → ⊥

no_piece_of_nothing : (part : Part) (behind : List ℕ) → IsPiece [] part behind → ⊥
no_piece_of_nothing (byte c) behind p = absurd (let e : ◌≡◌ {A = List ℕ} [] (c ∷ behind) = p.0 in cc)
no_piece_of_nothing (embedded t) behind p =
    let b = begins_braced 16 p.0 t p.1 in
    let e : ◌≡◌ {A = List ℕ} [] (36 ∷ 123 ∷ (b.0 ++ behind)) = p.2 ∙ ap (λ (l : List ℕ). l ++ behind) b.1 in
    cc

at_end : IsStuck []
at_end = record { stuck = no_piece_of_nothing }

pieces_same : (bytes : List ℕ) (parts parts' : List Part) (rest rest' : List ℕ) → ArePieces bytes parts rest → IsStuck rest → ArePieces bytes parts' rest' → IsStuck rest' → (parts ≡ parts') × (rest ≡ rest')
pieces_same bytes [] [] rest rest' a s b s' = (refl, sym a ∙ b)
pieces_same bytes [] (part ∷ parts') rest rest' a s b s' = absurd (s.stuck part b.0 (subst (λ (l : List ℕ). IsPiece l part b.0) a b.1))
pieces_same bytes (part ∷ parts) [] rest rest' a s b s' = absurd (s'.stuck part a.0 (subst (λ (l : List ℕ). IsPiece l part a.0) b a.1))
pieces_same bytes (part ∷ parts) (part' ∷ parts') rest rest' a s b s' =
    let one = piece_same bytes part part' a.0 b.0 a.1 b.1 in
    let more = pieces_same a.0 parts parts' rest rest' a.2 s (subst (λ (l : List ℕ). ArePieces l parts' rest') (sym one.1) b.2) s' in
    (ap (λ (p : Part). p ∷ parts) one.0 ∙ ap (λ (ps : List Part). part' ∷ ps) more.0, more.1)

-- ---- trees

-- a tree as the pieces that it is of
record OfPieces (bytes : List ℕ) (tree : Tree) : Type 0 where
  parts : List Part
  short : length bytes ≤ 4096
  pieces : ArePieces bytes parts []
  is : tree ≡ tree_of_parts parts

joined_parts : (parts : List Part) → IsNotOneEmbedded parts → joined parts ≡ tree_of_parts parts
joined_parts [] h = refl
joined_parts (byte c ∷ parts) h = refl
joined_parts (embedded t ∷ []) h = absurd h
joined_parts (embedded t ∷ part ∷ parts) h = refl

of_pieces : (bytes : List ℕ) (tree : Tree) → IsText bytes tree → OfPieces bytes tree
of_pieces bytes (whole t) h = record { parts = embedded t ∷ []; short = h.0; pieces = ([], (bytes, h.1, sym (append-nil bytes)), refl); is = refl }
of_pieces bytes (joined parts) h = record { parts = parts; short = h.0; pieces = h.1; is = joined_parts parts h.2 }

pub text_of : (bytes : List ℕ) (parts : List Part) → length bytes ≤ 4096 → ArePieces bytes parts [] → IsText bytes (tree_of_parts parts)
text_of bytes [] short a = (short, a, tt)
text_of bytes (byte c ∷ parts) short a = (short, a, tt)
text_of bytes (embedded t ∷ []) short a =
    let e : a.1.0 ≡ bytes = sym (append-nil a.1.0) ∙ ap (λ (l : List ℕ). a.1.0 ++ l) (sym a.2) ∙ sym a.1.2 in
    (short, subst (λ (l : List ℕ). IsEmbedded 16 l t) e a.1.1)
text_of bytes (embedded t ∷ part ∷ parts) short a = (short, a, tt)

-- a text has one tree
pub tree_same : (bytes : List ℕ) (tree tree' : Tree) → IsText bytes tree → IsText bytes tree' → tree ≡ tree'
tree_same bytes tree tree' h h' =
    let o = of_pieces bytes tree h in
    let o' = of_pieces bytes tree' h' in
    o.is ∙ ap tree_of_parts (pieces_same bytes o.parts o'.parts [] [] o.pieces at_end o'.pieces at_end).0 ∙ sym o'.is

-- ---- places

stuck_at : (bytes : List ℕ) (place : ℕ) → (e : EndsUnread bytes place) → IsStuck e.rest
stuck_at bytes place e = record { stuck = e.unread.unread }

-- a text that has a tree has no bad place
pub never_both : (bytes : List ℕ) (tree : Tree) (place : ℕ) → IsText bytes tree → IsBadAt bytes place → ⊥
never_both bytes tree place h (inl long) = let o = of_pieces bytes tree h in absurd (omega (arith, o.short, long.0))
never_both bytes tree place h (inr ends) =
    let o = of_pieces bytes tree h in
    let e = ends.1 in
    let same = pieces_same bytes o.parts e.parts [] e.rest o.pieces at_end e.front (stuck_at bytes place e) in
    let none : 0 ≡ length e.rest = ap length same.1 in
    absurd (omega (arith, none, e.unread.more))

-- and it has one at most
pub place_same : (bytes : List ℕ) (place place' : ℕ) → IsBadAt bytes place → IsBadAt bytes place' → place ≡ place'
place_same bytes place place' (inl long) (inl long') = long.1 ∙ sym long'.1
place_same bytes place place' (inl long) (inr ends) = absurd (omega (arith, long.0, ends.0))
place_same bytes place place' (inr ends) (inl long) = absurd (omega (arith, long.0, ends.0))
place_same bytes place place' (inr ends) (inr ends') =
    let e = ends.1 in
    let e' = ends'.1 in
    let same = pieces_same bytes e.parts e'.parts e.rest e'.rest e.front (stuck_at bytes place e) e'.front (stuck_at bytes place' e') in
    let long : length e.rest ≡ length e'.rest = ap length same.1 in
    omega (arith, long, e.at, e'.at)

-- ---- what the reader of pieces does

pub pieces_append : (bytes : List ℕ) (parts parts' : List Part) (middle rest : List ℕ) → ArePieces bytes parts middle → ArePieces middle parts' rest → ArePieces bytes (parts ++ parts') rest
pieces_append bytes [] parts' middle rest a b = subst (λ (l : List ℕ). ArePieces l parts' rest) (sym a) b
pieces_append bytes (part ∷ parts) parts' middle rest a b = (a.0, a.1, pieces_append a.0 parts parts' middle rest a.2 b)

may_follow : (bytes : List ℕ) → is_special bytes ≡ false → MayFollowDollar bytes
may_follow [] h = tt
may_follow (c ∷ bytes) h = let parts = or_parts (c == 36) (c == 123) h in (eqb-false c 36 parts.0, eqb-false c 123 parts.1)

plain_byte : (c : ℕ) (bytes : List ℕ) → ((c == 36) && is_special bytes) ≡ false → c ≡ 36 → MayFollowDollar bytes
plain_byte c bytes h e = may_follow bytes (not_special (is_special bytes) (ap (λ (b : Bool). b && is_special bytes) (sym (eq-eqb c 36 e)) ∙ h))
  where
    not_special : (b : Bool) → (true && b) ≡ false → b ≡ false
    not_special b h = h

pub plain_pieces : (bytes : List ℕ) → ArePieces bytes (map byte (plain_front bytes)) (plain_behind bytes)
plain_pieces [] = refl
plain_pieces (c ∷ bytes) = by_test ((c == 36) && is_special bytes) refl (plain_pieces bytes)
  where
    by_test : (b : Bool) → ((c == 36) && is_special bytes) ≡ b → ArePieces bytes (map byte (plain_front bytes)) (plain_behind bytes) →
        ArePieces (c ∷ bytes) (map byte (cond b [] (c ∷ plain_front bytes))) (cond b (c ∷ bytes) (plain_behind bytes))
    by_test true e more = refl
    by_test false e more = (bytes, (refl, plain_byte c bytes e), more)

-- what stands behind plain bytes, if anything does
pub data IsSpecial : List ℕ → Type 0 where
  special : (tail : List ℕ) → is_special tail ≡ true → IsSpecial (36 ∷ tail)

pub plain_ends : (bytes : List ℕ) → 0 < length (plain_behind bytes) → IsSpecial (plain_behind bytes)
plain_ends [] h = absurd (omega arith)
plain_ends (c ∷ bytes) h = by_test ((c == 36) && is_special bytes) refl h (plain_ends bytes)
  where
    by_test : (b : Bool) → ((c == 36) && is_special bytes) ≡ b → 0 < length (cond b (c ∷ bytes) (plain_behind bytes)) →
        (0 < length (plain_behind bytes) → IsSpecial (plain_behind bytes)) → IsSpecial (cond b (c ∷ bytes) (plain_behind bytes))
    by_test true e h more =
        let parts = and_parts (c == 36) (is_special bytes) e in
        subst (λ (d : ℕ). IsSpecial (d ∷ bytes)) (sym (eqb-true c 36 parts.0)) (IsSpecial.special bytes parts.1)
    by_test false e h more = more h

not_both_special : (bytes : List ℕ) → is_special bytes ≡ true → MayFollowDollar bytes → ⊥
not_both_special [] h may = cc
not_both_special (c ∷ bytes) h may = elim (or_cases (c == 36) (c == 123) h) [
  | inl e ↦ may.0 (eqb-true c 36 e)
  | inr e ↦ may.1 (eqb-true c 123 e)
]

unread_part : (bytes : List ℕ) → IsSpecial bytes → embedded_read 16 bytes ≡ None → (part : Part) (behind : List ℕ) → IsPiece bytes part behind → ⊥
unread_part _ (IsSpecial.special tail h) none (byte c) behind p =
    let parts = cons_parts 36 c tail behind p.0 in
    not_both_special tail h (subst MayFollowDollar (sym parts.1) (p.1 (sym parts.0)))
unread_part _ (IsSpecial.special tail h) none (embedded t) behind p =
    none-some (t, behind) (sym none ∙ ap (embedded_read 16) p.2 ∙ embedded_complete 16 p.0 t behind p.1)

-- the text up to here is read, and what stands here isn't
pub ends_unread : (bytes : List ℕ) (parts : List Part) (rest : List ℕ) (place : ℕ) → ArePieces bytes parts rest → 0 < length (plain_behind rest) → embedded_read 16 (plain_behind rest) ≡ None →
    place + length (plain_behind rest) ≡ length bytes → EndsUnread bytes place
ends_unread bytes parts rest place a more none at = record {
  parts = parts ++ map byte (plain_front rest);
  rest = plain_behind rest;
  front = pieces_append bytes parts (map byte (plain_front rest)) rest (plain_behind rest) a (plain_pieces rest);
  at = at;
  unread = record { more = more; unread = unread_part (plain_behind rest) (plain_ends rest more) none };
}

-- plain bytes and an embedded expression more
one_more : (bytes : List ℕ) (parts : List Part) (rest : List ℕ) (t : Term) (rest' : List ℕ) → ArePieces bytes parts rest → embedded_read 16 (plain_behind rest) ≡ Some (t, rest') →
    ArePieces bytes ((parts ++ map byte (plain_front rest)) ++ (embedded t ∷ [])) rest'
one_more bytes parts rest t rest' a is =
    let r = embedded_sound 16 (plain_behind rest) t rest' is in
    let middle = pieces_append bytes parts (map byte (plain_front rest)) rest (plain_behind rest) a (plain_pieces rest) in
    pieces_append bytes (parts ++ map byte (plain_front rest)) (embedded t ∷ []) (plain_behind rest) rest' middle (rest', (r.front, r.meant, r.whole), refl)

last_plain : (bytes : List ℕ) (parts : List Part) (rest : List ℕ) → ArePieces bytes parts rest → length (plain_behind rest) ≡ 0 → ArePieces bytes (parts ++ map byte (plain_front rest)) []
last_plain bytes parts rest a none =
    pieces_append bytes parts (map byte (plain_front rest)) rest [] a (subst (λ (l : List ℕ). ArePieces rest (map byte (plain_front rest)) l) (nil_from_length (plain_behind rest) none) (plain_pieces rest))

pub plain_shorter : (bytes : List ℕ) → length (plain_behind bytes) ≤ length bytes
plain_shorter [] = omega arith
plain_shorter (c ∷ bytes) = by_test ((c == 36) && is_special bytes) (plain_shorter bytes)
  where
    by_test : (b : Bool) → length (plain_behind bytes) ≤ length bytes → length (cond b (c ∷ bytes) (plain_behind bytes)) ≤ length (c ∷ bytes)
    by_test true h = omega arith
    by_test false h = omega arith

pub embedded_shorter : (depth : ℕ) (bytes : List ℕ) (t : Term) (rest : List ℕ) → embedded_read depth bytes ≡ Some (t, rest) → length rest < length bytes
embedded_shorter depth bytes t rest h =
    let r = embedded_sound depth bytes t rest h in
    let b = begins_braced depth r.front t r.meant in
    omega (arith, ap length r.whole, length-append r.front rest, ap length b.1)

-- the text up to here is read: plain bytes, and what stands behind them
module _ (bytes : List ℕ) (parts : List Part) (rest plain behind : List ℕ) (so_far : ArePieces bytes parts rest) (front : plain ≡ plain_front rest) (left : behind ≡ plain_behind rest) where
  pub finished : (parts' : List Part) → parts' ≡ parts ++ map byte plain → length behind ≡ 0 → ArePieces bytes parts' []
  finished parts' more none =
      let here : parts ++ map byte (plain_front rest) ≡ parts' = ap (λ (l : List ℕ). parts ++ map byte l) (sym front) ∙ sym more in
      subst (λ (ps : List Part). ArePieces bytes ps []) here (last_plain bytes parts rest so_far (ap length (sym left) ∙ none))

  pub no_longer : length rest ≤ length bytes → length behind ≤ length bytes
  no_longer below = omega (arith, ap length left, plain_shorter rest)

  pub unread_here : 0 < length behind → length rest ≤ length bytes → embedded_read 16 behind ≡ None → EndsUnread bytes (length bytes - length behind)
  unread_here some below none =
      let same : length behind ≡ length (plain_behind rest) = ap length left in
      ends_unread bytes parts rest (length bytes - length behind) so_far (omega arith) (ap (embedded_read 16) (sym left) ∙ none) (omega (arith, plain_shorter rest))

  pub goes_on : (t : Term) (rest' : List ℕ) (parts' : List Part) → embedded_read 16 behind ≡ Some (t, rest') → parts' ≡ (parts ++ map byte plain) ++ (embedded t ∷ []) → ArePieces bytes parts' rest'
  goes_on t rest' parts' is more =
      let here : (parts ++ map byte (plain_front rest)) ++ (embedded t ∷ []) ≡ parts' = ap (λ (l : List ℕ). (parts ++ map byte l) ++ (embedded t ∷ [])) (sym front) ∙ sym more in
      subst (λ (ps : List Part). ArePieces bytes ps rest') here (one_more bytes parts rest t rest' so_far (ap (embedded_read 16) (sym left) ∙ is))

  pub gets_shorter : (t : Term) (rest' : List ℕ) → embedded_read 16 behind ≡ Some (t, rest') → length rest' < length rest
  gets_shorter t rest' is =
      let less = embedded_shorter 16 behind t rest' is in
      omega (arith, ap length left, plain_shorter rest, less)
