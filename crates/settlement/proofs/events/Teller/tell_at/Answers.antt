use Rattle.std.proofs.Common.{arith, ap, sym, map, ◌∙◌}
use Rattle.settlement.specs.Telling.{clone_draft, fork_drafts, row_at, told_by}
use Rattle.settlement.specs.declared.offspring.Kinship.TheVariants.{Forked, Cloned}
use Rattle.settlement.proofs.Lookups.{on_ok_told}
use Rattle.settlement.proofs.MadeFiles.{child_at, children_count}
use Rattle.settlement.proofs.events.Teller.tell_at.Goals as goal

pub bounds-self-place : goal.bounds-self-place
bounds-self-place c = let count = children_count Forked c.args.self.now.files.now c.args.self.now.forked.now c.requires.ready.forked in omega (arith, count, c.requires.there)

pub bounds-self-place-in-Cloned : goal.bounds-self-place-in-Cloned
bounds-self-place-in-Cloned c = let count = children_count Cloned c.args.self.now.files.now c.args.self.now.cloned.now c.requires.ready.cloned in omega (arith, count, c.requires.there)

pub returns-in-Forked : goal.returns-in-Forked
returns-in-Forked c =
    let told = told_by c.args.self.now in
    let children = c.as_slice.ensures ∙ sym c.index-self-place.is ∙ child_at Forked c.args.self.now.files.now c.args.self.now.forked.now c.args.place c.index-self-place.result c.requires.ready.forked c.requires.there c.index-self-place.is in
    on_ok_told c.tell_forked.result c.args.self.now.first c.args.events.now.items c.tell_forked.new.events.items _ _
    (ap (fork_drafts told c.args.file.now) children ∙ ap (λ row. row_at told row (c.args.place, c.args.file.now)) (sym c.in-Forked.is)) c.tell_forked.ensures

pub returns-in-Cloned : goal.returns-in-Cloned
returns-in-Cloned c =
    let told = told_by c.args.self.now in
    let children = c.as_slice-in-Cloned.ensures ∙ sym c.index-self-place-in-Cloned.is ∙ child_at Cloned c.args.self.now.files.now c.args.self.now.cloned.now c.args.place c.index-self-place-in-Cloned.result c.requires.ready.cloned c.requires.there c.index-self-place-in-Cloned.is in
    on_ok_told c.tell_cloned.result c.args.self.now.first c.args.events.now.items c.tell_cloned.new.events.items _ _
    (ap (map (clone_draft told c.args.file.now)) children ∙ ap (λ row. row_at told row (c.args.place, c.args.file.now)) (sym c.in-Cloned.is)) c.tell_cloned.ensures
