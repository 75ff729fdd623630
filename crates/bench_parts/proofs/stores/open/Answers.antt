use Rattle.std.proofs.Common.{List, ℕ, [], ◌∷◌, refl, sym, subst}
use Rattle.std.specs.Prelude.{replicate}
use Rattle.checkpoint_store.specs.Consistent.{IsConsistent}
use Rattle.kept_state.specs.New.{new_kept}
use Rattle.bench_parts.proofs.Anew.{anew_agrees, c1_is_text}
use Rattle.bench_parts.proofs.stores.open.Goals as goal

pub load-requires-after_bounds : goal.load-requires-after_bounds
load-requires-after_bounds c κs =
    subst (λ (names : List (List ℕ)). IsConsistent (new_kept 0 (replicate 32 0) names 0)) (sym c.requires) (anew_agrees (replicate 32 0) (99 ∷ 49 ∷ []) 0 refl c1_is_text)
