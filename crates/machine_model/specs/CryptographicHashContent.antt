-- CryptographicHashContent: the digest of the content in lower-case hexadecimal digits as `content_SHA-256`. A limit
-- gives up to failure. Success is 0, failure 1.
use Rattle.std.specs.Prelude.{false, [], ◌∷◌, codes, Option, option_map}
use Rattle.hex.specs.Hex.{encode_lower}
use Rattle.sha2.specs.Sha256.{sha256}
use Rattle.flowfile_record.specs.declared.worked.Origin.TheVariants.{Taken}
use Rattle.flowfile_record.specs.declared.worked.Outcome.{Outcome}
use Rattle.machine_model.specs.Making.{TakenFile, alone, passed_on, with_set, or_given_up}

abbrev pub hashed : TakenFile → Option Outcome
hashed file =
    option_map (λ attributes. alone (passed_on 0 attributes false 0))
    (with_set (Taken 0) file.attributes (codes "content_SHA-256", encode_lower (sha256 file.bytes)))

abbrev pub hash_content : TakenFile → Outcome
hash_content file = or_given_up 1 (file ∷ []) (hashed file)
