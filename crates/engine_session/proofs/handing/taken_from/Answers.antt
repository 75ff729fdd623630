use Rattle.std.proofs.Common.{◌≡◌, List, [], ◌∷◌, length, map, refl, ap, ◌∙◌, arith}
use Rattle.std.specs.Vec.{vec_len}
use Rattle.std.proofs.lemmas.Iterator.{YieldsList-from_slice, YieldsList-from_zip}
use Rattle.std.proofs.lemmas.Iterator.Adapters.{YieldsList-from_vec}
use Rattle.std.proofs.lemmas.Iterator.Consumers.{YieldsList-at, YieldsList-end}
use Rattle.engine_session.specs.Handing.{taken_as}
use Rattle.engine_session.proofs.handing.taken_from.Goals as goal

fused : {A B C : Type 0} (f : B → C) (v : A → B) (xs : List A) → map (λ x. f (v x)) xs ≡ map f (map v xs)
fused f v [] = refl
fused f v (x ∷ xs) = ap (λ ys. f (v x) ∷ ys) (fused f v xs)

pub returns : goal.returns
returns c =
    let contents : c.into_vec.result.items ≡ c.args.contents = c.into_vec.ensures in
    let items : vec_len c.into_vec.result ≡ length c.into_vec.result.items = omega arith in
    let second = c.zip-file-items.ensures.second in
    let all = YieldsList-end
    (YieldsList-at c.into_iter-file-iterator.ensures.into_iter_gives
    (YieldsList-from_zip (YieldsList-at c.zip-file-items.ensures.first (YieldsList-from_slice c.args.files.now cc)) (YieldsList-from_vec c.args.contents (second.0 ∙ contents) (second.1 ∙ items ∙ ap length contents))))
    c.loop-file.yielded c.loop-file.file-iterator c.loop-file.yielded_by _ c.next.new.self c.in-None.is c.next.ensures.steps in
    c.loop-file.invariant ∙ fused (taken_as c.args.store) (λ p. (p.0.now, p.1)) c.loop-file.yielded ∙ ap (map (taken_as c.args.store)) all.0
