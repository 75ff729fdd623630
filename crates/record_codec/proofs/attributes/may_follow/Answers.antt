use Rattle.std.proofs.Common.{◌≡◌, ℕ, ◌≤◌, ◌<◌, ◌&&◌, Bool, true, false, List, length, refl, sym, ◌∙◌, arith}
use Rattle.std.proofs.lemmas.Bool.{and_from, not_from_false, lt-ltb, le-leb}
use Rattle.std.proofs.lemmas.Bool.Decides.{nat_tests}
use Rattle.std.specs.FinMap.{entries}
use Rattle.flowfile_record.specs.Attributes.{AttributeMap, is_uuid}
use Rattle.flowfile_record.specs.declared.attributes.TheConstants.{KEY_MAX}
use Rattle.record_codec.specs.FileReading.{may_follow}
use Rattle.record_codec.proofs.Keys.{all_before, no_key_decides, last_key_decides}
use Rattle.record_codec.proofs.attributes.may_follow.Goals as goal

picks : (a b : Bool) → a ≡ true → b ≡ (a && b)
picks true b e = refl
picks false b e = absurd cc

decided : (m : AttributeMap) (key : List ℕ) → 0 < length key → length key ≤ KEY_MAX → is_uuid key ≡ false → all_before key (entries m) ≡ may_follow m key
unfolding may_follow
decided m key some most uuid = picks _ _ (and_from _ _ (and_from _ _ (lt-ltb _ _ some) (le-leb _ _ most)) (not_from_false _ uuid))

pub returns-in-None : goal.returns-in-None
returns-in-None c =
    let some : 0 < length c.args.key.now = grind (arith, nat_tests) in
    let uuid = sym c.eq.ensures ∙ c.if-eq.false in
    sym (no_key_decides c.args.attributes.now c.args.key.now (sym c.in-None.ensures)) ∙ decided c.args.attributes.now c.args.key.now some (omega arith) uuid

pub returns-in-Some : goal.returns-in-Some
returns-in-Some c =
    let some : 0 < length c.args.key.now = grind (arith, nat_tests) in
    let uuid = sym c.eq.ensures ∙ c.if-eq.false in
    c.lt.ensures ∙ sym (last_key_decides c.args.attributes.now c.args.key.now c.in-Some.last.now (sym c.in-Some.ensures)) ∙ decided c.args.attributes.now c.args.key.now some (omega arith) uuid
