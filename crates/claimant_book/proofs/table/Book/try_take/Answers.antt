use Rattle.std.proofs.Common.{◌≡◌, ◌≢◌, ℕ, ◌+◌, ◌<◌, ◌≤◌, sym, ap, ◌∙◌, subst, length-set, arith}
use Rattle.claimant_book.specs.declared.view.View.{View}
use Rattle.claimant_book.specs.Views.{holds_of, seen_by, looked}
use Rattle.claimant_book.specs.Stages.{word_stage}
use Rattle.claimant_book.proofs.Tables.{holds-same, holds-moved, looked-held, read-is, take-hit, take-miss, looked-later}
use Rattle.claimant_book.proofs.table.Book.try_take.Goals as goal

pub invariant_of-share : goal.invariant_of-share
invariant_of-share g c =
    let i = c.share.invariant in
    let v = c.share.inside.token in
    let l = c.look-seen.ensures in
    (ap (λ (w : View). w.role) l.0 ∙ i.0, i.1, holds-same g.B.BookName.table.words c.share.inside.holds.items v c.look-seen.new.token (λ j. ap (λ (w : View). holds_of w j) l.0 ∙ looked-held v c.args.slot c.look-seen.result j) i.2)

pub add_share-found-requires-clause-slot : goal.add_share-found-requires-clause-slot
add_share-found-requires-clause-slot g c =
    let i = c.share.invariant in
    let v = c.share.inside.token in
    let l = c.look-seen.ensures in
    let read : c.index-held.result.now ≡ holds_of v c.args.slot = read-is c.share.inside.holds.items g.B.BookName.table.words c.args.slot c.index-held.result.now (holds_of v c.args.slot) c.index-held.ensures (i.2 c.args.slot c.requires.slot).0 c.requires.slot i.1 in
    let same : holds_of c.look-seen.new.token c.args.slot ≡ holds_of v c.args.slot = ap (λ (w : View). holds_of w c.args.slot) l.0 ∙ looked-held v c.args.slot c.look-seen.result c.args.slot in
    (c.requires.slot, ap (λ (w : View). w.role) l.0 ∙ i.0, omega (arith, read, same, (i.2 c.args.slot c.requires.slot).1, c.if-held-eq-HELD_MAX.false))

pub invariant_of-share-then-found-seen : goal.invariant_of-share-then-found-seen
invariant_of-share-then-found-seen g c =
    let i = c.share.invariant in
    let v = c.share.inside.token in
    let v1 = c.look-seen.new.token in
    let l = c.look-seen.ensures in
    let t = take-miss v1 c.args.slot c.look-seen.result c.add_share-found.result c.add_share-found.new.token c.if-found-seen.true c.add_share-found.ensures in (
      ap (λ (w : View). w.role) t.0 ∙ ap (λ (w : View). w.role) l.0 ∙ i.0,
      i.1,
      holds-same g.B.BookName.table.words c.share.inside.holds.items v c.add_share-found.new.token
          (λ j. ap (λ (w : View). holds_of w j) t.0 ∙ looked-held v1 c.args.slot c.add_share-found.result j ∙ ap (λ (w : View). holds_of w j) l.0 ∙ looked-held v c.args.slot c.look-seen.result j) i.2,
    )

pub returns-then-found-seen : goal.returns-then-found-seen
returns-then-found-seen g c =
    let i = c.share.invariant in
    let v = c.share.inside.token in
    let v1 = c.look-seen.new.token in
    let slot = c.args.slot in
    let seen = c.look-seen.result in
    let found = c.add_share-found.result in
    let l = c.look-seen.ensures in
    let t = take-miss v1 slot seen found c.add_share-found.new.token c.if-found-seen.true c.add_share-found.ensures in
    let read : c.index-held.result.now ≡ holds_of v slot = read-is c.share.inside.holds.items g.B.BookName.table.words c.args.slot c.index-held.result.now (holds_of v c.args.slot) c.index-held.ensures (i.2 c.args.slot c.requires.slot).0 c.requires.slot i.1 in
    subst (λ (x : View). (holds_of x slot < 67108864) × (c.add_share-found.new.token ≡ looked (looked x slot seen) slot found) × (found ≢ seen) × (seen_by x slot ≤ word_stage found)) c.share.view_is (
      omega (arith, read, (i.2 slot c.requires.slot).1, c.if-held-eq-HELD_MAX.false),
      t.0 ∙ ap (λ (x : View). looked x slot found) l.0,
      c.if-found-seen.true,
      looked-later v v1 slot seen found i.0 l t.1,
    )

pub invariant_of-share-2 : goal.invariant_of-share-2
invariant_of-share-2 g c =
    let i = c.share.invariant in
    let v = c.share.inside.token in
    let v1 = c.look-seen.new.token in
    let slot = c.args.slot in
    let l = c.look-seen.ensures in
    let e = take-hit v1 slot c.look-seen.result c.add_share-found.result c.add_share-found.new.token c.if-found-seen.false c.add_share-found.ensures in
    let read : c.index-held.result.now ≡ holds_of v slot = read-is c.share.inside.holds.items g.B.BookName.table.words c.args.slot c.index-held.result.now (holds_of v c.args.slot) c.index-held.ensures (i.2 c.args.slot c.requires.slot).0 c.requires.slot i.1 in
    let same : (j : ℕ) → holds_of v1 j ≡ holds_of v j = λ j. ap (λ (w : View). holds_of w j) l.0 ∙ looked-held v slot c.look-seen.result j in
    let table = holds-same g.B.BookName.table.words c.share.inside.holds.items v v1 same i.2 in (
      ap (λ (w : View). w.role) e ∙ ap (λ (w : View). w.role) l.0 ∙ i.0,
      length-set c.share.inside.holds.items slot (c.index-held.result.now + 1) ∙ i.1,
      holds-moved g.B.BookName.table.words c.share.inside.holds.items v1 c.add_share-found.new.token slot (holds_of v1 slot + 1) (word_stage c.look-seen.result) (c.index-held.result.now + 1) e
          (ap (λ (n : ℕ). n + 1) (read ∙ sym (same slot))) c.requires.slot i.1
          (omega (arith, read, same slot, (i.2 slot c.requires.slot).1, c.if-held-eq-HELD_MAX.false)) table,
    )
