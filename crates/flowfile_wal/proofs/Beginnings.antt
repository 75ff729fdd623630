-- A log that has its Begin alone is the current one where each greater log is passed over.
use Rattle.std.proofs.Common.{◌≡◌, ℕ, ◌+◌, ◌<◌, ◌≤◌, ◌^◌, ◌==◌, cond, Bool, true, false, List, [], ◌∷◌, length, ap, ◌∙◌, inl, inr, arith, length-append}
use Rattle.std.specs.Prelude.{IsTrue, slice_index, nat_lt}
use Rattle.std.proofs.lemmas.Bool.{eqb-true, ltb-true, lt-ltb, cases_Bool, and_parts}
use Rattle.disk_trait.specs.Files.{Files, named}
use Rattle.disk_trait.specs.declared.file_name.FileKind.TheVariants.{Log}
use Rattle.disk_trait.proofs.Search.{greatest_is}
use Rattle.record_codec.specs.Block.{block}
use Rattle.record_codec.specs.EntryEncoding.{entry as encoding, kind_of, log_limit, IsEntry}
use Rattle.record_codec.specs.Frames.{begun_log, counts, IsPassedOver}
use Rattle.record_codec.specs.Version.{is_known}
use Rattle.record_codec.specs.declared.TheConstants.{SECOND_VERSION}
use Rattle.record_codec.specs.declared.entry.LogEntry.TheVariants.{Begin}
use Rattle.record_codec.specs.declared.log.TheConstants.{OPEN_GATE, CLOSED_GATE}
use Rattle.record_codec.proofs.Blocks.{length-block}
use Rattle.flowfile_wal.specs.Current.{current_number}
use Rattle.flowfile_wal.specs.Steps.{IsBegunIn}

passed : (bytes : List ℕ) → IsPassedOver bytes → counts bytes ≡ false
passed bytes over =
    elim (cases_Bool (counts bytes)) [
      | inl counted ↦
          let parts = and_parts (slice_index bytes 0 == OPEN_GATE) (nat_lt 1 (length bytes)) counted in
          let opened : slice_index bytes 0 ≡ OPEN_GATE = eqb-true (slice_index bytes 0) OPEN_GATE parts.0 in
          let long : 1 < length bytes = ltb-true 1 (length bytes) parts.1 in
          absurd (elim over [
            | inl short ↦ omega (arith, long, short)
            | inr shut ↦ shut opened
          ])
      | inr is ↦ is
    ]

pub begun_counts : (version number : ℕ) (bytes : List ℕ) → bytes ≡ begun_log version number → counts bytes ≡ true
begun_counts version number bytes is =
    let begin = Begin version number in
    let last = block (kind_of begin) (encoding begin) in
    let long : 1 < length (begun_log version number) = omega (arith, length-append last (CLOSED_GATE ∷ []), length-block (kind_of begin) (encoding begin)) in
    ap counts is ∙ lt-ltb 1 (length (begun_log version number)) long

-- a log that has an encoding has a number that a file can have
limit_below : (second : Bool) → cond second (2 ^ 62 + 1) (2 ^ 62) ≤ 2 ^ 62 + 1
limit_below true = omega arith
limit_below false = omega arith

pub begun_in : (version number : ℕ) (files : Files) → IsTrue (is_known version) → IsEntry (Begin version number) → files (named Log number) ≡ begun_log version number
    → ((n : ℕ) → number < n → IsPassedOver (files (named Log n))) → IsBegunIn version number files
unfolding current_number
begun_in version number files known encodes is greater =
    let limit : log_limit version ≤ 2 ^ 62 + 1 = limit_below (version == SECOND_VERSION) in
    let below : number < 2 ^ 64 = omega (arith, encodes.1, limit) in
    record {
      current =
          greatest_is (λ n. counts (files (named Log n))) (2 ^ 64) number below (begun_counts version number (files (named Log number)) is)
          (λ n up lt. passed (files (named Log n)) (greater n up));
      known = known;
      encodes = encodes;
      bytes = is;
    }
