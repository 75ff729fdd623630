use Rattle.std.proofs.Common.{◌/◌, ℕ, List, length, drop, subst, ◌∙◌}
use Rattle.std.proofs.lemmas.List.{take_at}
use Rattle.content_repo.specs.SlotSet.{IsChangedAt}
use Rattle.content_repo.proofs.SlotSets.{marked_left, marked_without}
use Rattle.content_repo.proofs.slot_set.SlotSet.remove.Goals as goal

pub invariant_of-self-then-not-clear_bit-2 : goal.invariant_of-self-then-not-clear_bit-2
invariant_of-self-then-not-clear_bit-2 c =
    let inv = c.self.invariant in
    let words = c.self.inside.words.items in
    let groups = c.self.inside.groups.items in
    let new_words = c.clear_bit.new.words in
    let new_groups = c.clear_bit-2.new.words in
    let slot = c.args.slot in
    let words_changed = subst (λ (l : List ℕ). IsChangedAt slot l new_words) c.as_mut_slice.ensures.value c.clear_bit.ensures.changed in
    let groups_changed = subst (λ (l : List ℕ). IsChangedAt (slot / 64) l new_groups) c.as_mut_slice-2.ensures.value c.clear_bit-2.ensures.changed in
    let words_back = take_at new_words (drop (length new_words) words) c.self.inside.words.len (c.clear_bit.ensures.changed.size ∙ c.as_mut_slice.ensures.len) in
    let groups_back = take_at new_groups (drop (length new_groups) groups) c.self.inside.groups.len (c.clear_bit-2.ensures.changed.size ∙ c.as_mut_slice-2.ensures.len) in
    let left = rw c.as_mut_slice-2.ensures.value at c.clear_bit-2.ensures.left in
    rw (words_back, groups_back) (record {
      words_length = words_changed.size ∙ inv.words_length;
      groups_length = groups_changed.size ∙ inv.groups_length;
      top_length = inv.top_length;
      lower = marked_without words groups new_words new_groups slot inv.lower words_changed groups_changed (c.clear_bit.ensures.none c.if-not-clear_bit.false) c.clear_bit-2.ensures.here;
      upper = marked_left groups c.self.inside.top new_groups (slot / 64) inv.upper groups_changed left (c.clear_bit-2.ensures.some c.if-not-clear_bit-2.true);
    })

pub invariant_of-self-2 : goal.invariant_of-self-2
invariant_of-self-2 c =
    let inv = c.self.invariant in
    let words = c.self.inside.words.items in
    let groups = c.self.inside.groups.items in
    let new_words = c.clear_bit.new.words in
    let new_groups = c.clear_bit-2.new.words in
    let slot = c.args.slot in
    let words_changed = subst (λ (l : List ℕ). IsChangedAt slot l new_words) c.as_mut_slice.ensures.value c.clear_bit.ensures.changed in
    let groups_changed = subst (λ (l : List ℕ). IsChangedAt (slot / 64) l new_groups) c.as_mut_slice-2.ensures.value c.clear_bit-2.ensures.changed in
    let words_back = take_at new_words (drop (length new_words) words) c.self.inside.words.len (c.clear_bit.ensures.changed.size ∙ c.as_mut_slice.ensures.len) in
    let groups_back = take_at new_groups (drop (length new_groups) groups) c.self.inside.groups.len (c.clear_bit-2.ensures.changed.size ∙ c.as_mut_slice-2.ensures.len) in
    rw (words_back, groups_back) (record {
      words_length = words_changed.size ∙ inv.words_length;
      groups_length = groups_changed.size ∙ inv.groups_length;
      top_length = c.clear_bit-none_left.ensures.changed.size ∙ inv.top_length;
      lower = marked_without words groups new_words new_groups slot inv.lower words_changed groups_changed (c.clear_bit.ensures.none c.if-not-clear_bit.false) c.clear_bit-2.ensures.here;
      upper = marked_without groups c.self.inside.top new_groups c.clear_bit-none_left.new.words (slot / 64) inv.upper groups_changed c.clear_bit-none_left.ensures.changed (c.clear_bit-2.ensures.none c.if-not-clear_bit-2.false) c.clear_bit-none_left.ensures.here;
    })

pub returns-clause-others : goal.returns-clause-others
returns-clause-others c other differs =
    let words = c.self.inside.words.items in
    let new_words = c.clear_bit.new.words in
    let words_changed = subst (λ (l : List ℕ). IsChangedAt c.args.slot l new_words) c.as_mut_slice.ensures.value c.clear_bit.ensures.changed in
    let words_back = take_at new_words (drop (length new_words) words) c.self.inside.words.len (c.clear_bit.ensures.changed.size ∙ c.as_mut_slice.ensures.len) in
    rw (words_back, ← c.self.view_is) (words_changed.others other differs)
