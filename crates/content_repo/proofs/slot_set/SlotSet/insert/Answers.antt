use Rattle.std.proofs.Common.{◌/◌, ℕ, List, length, drop, subst, ◌∙◌}
use Rattle.std.proofs.lemmas.List.{take_at}
use Rattle.content_repo.specs.SlotSet.{IsChangedAt}
use Rattle.content_repo.proofs.SlotSets.{marked_with}
use Rattle.content_repo.proofs.slot_set.SlotSet.insert.Goals as goal

pub invariant_of-self : goal.invariant_of-self
invariant_of-self c =
    let inv = c.self.invariant in
    let words = c.self.inside.words.items in
    let groups = c.self.inside.groups.items in
    let new_words = c.set_bit.new.words in
    let new_groups = c.set_bit-2.new.words in
    let slot = c.args.slot in
    let words_changed = subst (λ (l : List ℕ). IsChangedAt slot l new_words) c.as_mut_slice.ensures.value c.set_bit.ensures.changed in
    let groups_changed = subst (λ (l : List ℕ). IsChangedAt (slot / 64) l new_groups) c.as_mut_slice-2.ensures.value c.set_bit-2.ensures.changed in
    let words_back = take_at new_words (drop (length new_words) words) c.self.inside.words.len (c.set_bit.ensures.changed.size ∙ c.as_mut_slice.ensures.len) in
    let groups_back = take_at new_groups (drop (length new_groups) groups) c.self.inside.groups.len (c.set_bit-2.ensures.changed.size ∙ c.as_mut_slice-2.ensures.len) in
    rw (words_back, groups_back) (record {
      words_length = words_changed.size ∙ inv.words_length;
      groups_length = groups_changed.size ∙ inv.groups_length;
      top_length = c.set_bit-3.ensures.changed.size ∙ inv.top_length;
      lower = marked_with words groups new_words new_groups slot inv.lower words_changed groups_changed c.set_bit.ensures.here c.set_bit-2.ensures.here;
      upper = marked_with groups c.self.inside.top new_groups c.set_bit-3.new.words (slot / 64) inv.upper groups_changed c.set_bit-3.ensures.changed c.set_bit-2.ensures.here c.set_bit-3.ensures.here;
    })
