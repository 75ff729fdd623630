use Rattle.std.proofs.Common.{refl, sym, ◌∙◌}
use Rattle.world_real.proofs.Ascending.{ascending_after}
use Rattle.world_real.proofs.inbox.follows.Goals as goal

pub returns-in-Some : goal.returns-in-Some
returns-in-Some c less = ascending_after _ _ _ _ (sym c.as_slice.ensures.value ∙ c.in-Some.ensures.cases.0) _ (rw (c.cmp.ensures, c.text.ensures.text, c.text-in-Some.ensures.text) refl) (sym c.is_lt.ensures ∙ less)
