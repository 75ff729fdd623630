use Rattle.std.proofs.Common.{sym, ap, ◌∙◌, subst}
use Rattle.claimant_book.specs.declared.view.View.{View}
use Rattle.claimant_book.specs.Views.{holds_of, seen_by, joined}
use Rattle.claimant_book.proofs.Tables.{holds-same, stages-same}
use Rattle.claimant_book.specs.Replies.{IsMet}
use Rattle.claimant_book.proofs.Meeting.{met, note-holds-nothing}
use Rattle.claimant_book.proofs.table.Book.meet.Goals as goal

pub hear-requires : goal.hear-requires
hear-requires g c =
    let e = c.note-note.ensures.1 in
    (ap (λ (w : View). w.role) e, λ j. ap (λ (w : View). holds_of w j) e ∙ note-holds-nothing c.share.inside.token j)

pub hear-requires-2 : goal.hear-requires-2
hear-requires-2 g c =
    let e = c.note-note-2.ensures.1 in
    (ap (λ (w : View). w.role) e, λ j. ap (λ (w : View). holds_of w j) e ∙ note-holds-nothing c.look.new.token j)

pub invariant_of-share : goal.invariant_of-share
invariant_of-share g c =
    let own = c.share.invariant in
    let m = met c.args.slot c.share.inside.token c.keeper.inside.token c.hear.new.token c.look.new.token c.hear-2.new.token c.look-2.new.token c.look.result c.look-2.result c.share.invariant.0 c.keeper.invariant.0
    (c.hear.ensures ∙ ap (joined c.keeper.inside.token) c.note-note.ensures.1)
    c.look.ensures.0 c.look.ensures.1
    (c.hear-2.ensures ∙ (λ i. joined (c.note-note.ensures.0 i) (c.note-note-2.ensures.1 i)))
    c.look-2.ensures.0 c.look-2.ensures.1 in
    let role = ap (λ (w : View). w.role) c.look-2.ensures.0 ∙ ap (λ (w : View). w.role) c.hear-2.ensures ∙ ap (λ (w : View). w.role) c.note-note.ensures.0 in
    (role ∙ own.0, own.1, holds-same g.B.BookName.table.words c.share.inside.holds.items c.share.inside.token c.look-2.new.token m.holds_same own.2)

pub invariant_of-keeper : goal.invariant_of-keeper
invariant_of-keeper g c =
    let own = c.keeper.invariant in
    let m = met c.args.slot c.share.inside.token c.keeper.inside.token c.hear.new.token c.look.new.token c.hear-2.new.token c.look-2.new.token c.look.result c.look-2.result c.share.invariant.0 c.keeper.invariant.0
    (c.hear.ensures ∙ ap (joined c.keeper.inside.token) c.note-note.ensures.1)
    c.look.ensures.0 c.look.ensures.1
    (c.hear-2.ensures ∙ (λ i. joined (c.note-note.ensures.0 i) (c.note-note-2.ensures.1 i)))
    c.look-2.ensures.0 c.look-2.ensures.1 in
    let same = m.keeper_same in
    let e = c.note-note-2.ensures.0 in (
      ap (λ (w : View). w.role) e ∙ same.0 ∙ own.0,
      ap (λ (w : View). w.out) e ∙ same.1 ∙ own.1,
      own.2,
      own.3,
      stages-same g.B.BookName.table.words c.keeper.inside.stages.items c.keeper.inside.token c.note-note-2.new.token (λ j. ap (λ (w : View). seen_by w j) e ∙ (same.2 j).1) own.4,
    )

pub returns : goal.returns
returns g c =
    let s = c.share.inside.token in
    let k = c.keeper.inside.token in
    let s' = c.look-2.new.token in
    let k' = c.note-note-2.new.token in
    subst (λ (x : View). IsMet c.args.slot x c.args.keeper.now s' k') c.share.view_is
    (subst (λ (y : View). IsMet c.args.slot s y s' k') c.keeper.view_is
    (subst (λ (z : View). IsMet c.args.slot s k s' z) (sym c.note-note-2.ensures.0) (met c.args.slot c.share.inside.token c.keeper.inside.token c.hear.new.token c.look.new.token c.hear-2.new.token c.look-2.new.token c.look.result c.look-2.result c.share.invariant.0 c.keeper.invariant.0
    (c.hear.ensures ∙ ap (joined c.keeper.inside.token) c.note-note.ensures.1)
    c.look.ensures.0 c.look.ensures.1
    (c.hear-2.ensures ∙ (λ i. joined (c.note-note.ensures.0 i) (c.note-note-2.ensures.1 i)))
    c.look-2.ensures.0 c.look-2.ensures.1)))
