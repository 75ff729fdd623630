use Rattle.std.proofs.Common.{ℕ, List, subst}
use Rattle.content_repo.specs.SlotSet.{IsFirstOf}
use Rattle.content_repo.proofs.SlotSets.{least_is}
use Rattle.content_repo.proofs.slot_set.SlotSet.least.Goals as goal

pub returns-clause-least : goal.returns-clause-least
returns-clause-least c =
    let words = c.self.inside.words.items in
    let groups = c.self.inside.groups.items in
    let group = c.first_of-group.result in
    let word = c.first_of-word.result in
    let slot = c.first_of.result in
    let second = subst (λ (l : List ℕ). IsFirstOf l group word) c.as_slice.ensures.value c.first_of-word.ensures in
    let third = subst (λ (l : List ℕ). IsFirstOf l word slot) c.as_slice-2.ensures.value c.first_of.ensures in
    rw (← c.self.view_is) (least_is words groups c.self.inside.top c.self.invariant group word slot c.first_of-group.ensures second third)
