use Rattle.std.proofs.Common.{◌≡◌, List, ℕ, [], ◌∷◌, ◌++◌, ◌∙◌, ap, refl, sym}
use Rattle.std.specs.Int.{w64, to_be_bytes}
use Rattle.sha2.specs.Sha256.{sha256}
use Rattle.checkpoint_store.proofs.Beginnings.{frame_is}
use Rattle.checkpoint_store.proofs.beginning.frame_of.Goals as goal

pub returns : goal.returns
returns c =
    let e = c.copy_from_slice-2.new.self in
    let d = c.copy_from_slice-3.new.self in
    let number_is : c.copy_from_slice.new.self ≡ to_be_bytes w64 c.args.number = c.copy_from_slice.ensures.after ∙ c.to_be_bytes.ensures in
    let kind_is = ap (λ (k : ℕ). k ∷ c.args.version ∷ to_be_bytes w64 c.args.number) c.kind-entry.ensures in
    let e_is : e ≡ 1 ∷ c.args.version ∷ to_be_bytes w64 c.args.number =
    c.copy_from_slice-2.ensures.after ∙ ap (λ (l : List ℕ). c.kind-entry.result ∷ c.args.version ∷ (l ++ [])) number_is ∙ kind_is in
    frame_is c.args.version c.args.number e d _ e_is (c.copy_from_slice-3.ensures.after ∙ c.digest-digest.ensures ∙ ap sha256 (sym c.copy_from_slice-2.ensures.after)) refl
