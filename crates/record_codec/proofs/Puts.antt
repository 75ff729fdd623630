-- What is known of a key that may follow.
use Rattle.std.proofs.Common.{◌≡◌, ◌&&◌, not, Bool, true, false, List, ℕ, refl}
use Rattle.std.specs.FinMap.{entries}
use Rattle.std.proofs.lemmas.Bool.{and_parts}
use Rattle.flowfile_record.specs.Attributes.{AttributeMap, has_key_length, is_uuid}
use Rattle.record_codec.specs.FileReading.{may_follow}
use Rattle.record_codec.proofs.Keys.{all_before}

not_true : (b : Bool) → not b ≡ true → b ≡ false
not_true true e = absurd cc
not_true false e = refl

pub keeps_rule : (m : AttributeMap) (key : List ℕ) → may_follow m key ≡ true → (has_key_length key ≡ true) × (is_uuid key ≡ false) × (all_before key (entries m) ≡ true)
unfolding may_follow
keeps_rule m key h =
    let a = and_parts (has_key_length key && not (is_uuid key)) (all_before key (entries m)) h in
    let b = and_parts (has_key_length key) (not (is_uuid key)) a.0 in
    (b.0, not_true _ b.1, a.1)

-- a key that may follow can be stored
pub may_be_stored : (m : AttributeMap) (key : List ℕ) → may_follow m key ≡ true → (has_key_length key && not (is_uuid key)) ≡ true
unfolding may_follow
may_be_stored m key h = (and_parts (has_key_length key && not (is_uuid key)) (all_before key (entries m)) h).0
