use Rattle.std.proofs.Common.{◌≡◌, ◌||◌, ap, Err}
use Rattle.std.proofs.lemmas.Result.{err_from_is_err_and}
use Rattle.std.specs.Prelude.{is_ok}
use Rattle.flowfile_record.specs.Reading.{◌then◌, raw_at, text_at, first_at}
use Rattle.flowfile_record.specs.declared.fields.fault.FieldError.TheVariants.{Memory}
use Rattle.flowfile_record.specs.declared.limits.TheConstants.{DIGEST_SIZE}
use Rattle.record_codec.specs.Version.{version_at}
use Rattle.record_codec.specs.StoreHeadReading.{store_at, first_processor_at, first_count_at}
use Rattle.record_codec.proofs.Fronts.{then_ok, or_left, or_right}
use Rattle.record_codec.proofs.StoreHeads.{connected, at_processors, at_counts}
use Rattle.record_codec.proofs.head.read_fields.Goals as goal

pub returns-in_err-connections-clause-memory : goal.returns-in_err-connections-clause-memory
returns-in_err-connections-clause-memory c memory =
    let bytes = c.args.bytes.now in
    let p = err_from_is_err_and c.from_residual-in_err-connections.result c.from_residual-in_err-connections.ensures.1 in
    let same : c.in_err-connections.field-0.0 ≡ Memory = cc (p.1, p.2, memory) in
    let first = c.in_err-connections.ensures.memory (ap Err same) in
    or_left (is_ok ((version_at then store_at then raw_at DIGEST_SIZE then first_at text_at) bytes) || is_ok (first_processor_at bytes)) (is_ok (first_count_at bytes))
    (or_left (is_ok ((version_at then store_at then raw_at DIGEST_SIZE then first_at text_at) bytes)) (is_ok (first_processor_at bytes))
    (then_ok version_at (store_at then raw_at DIGEST_SIZE then first_at text_at) bytes _ _ c.in_ok-version.ensures
    (then_ok store_at (raw_at DIGEST_SIZE then first_at text_at) c.in_ok-version.rest.now _ _ c.in_ok-store.ensures (then_ok (raw_at DIGEST_SIZE) (first_at text_at) c.in_ok-store.rest.now _ _ c.in_ok-flow.ensures first))))

pub returns-in_err-processors-clause-memory : goal.returns-in_err-processors-clause-memory
returns-in_err-processors-clause-memory c memory =
    let bytes = c.args.bytes.now in
    let p = err_from_is_err_and c.from_residual-in_err-processors.result c.from_residual-in_err-processors.ensures.1 in
    let same : c.in_err-processors.field-0.0 ≡ Memory = cc (p.1, p.2, memory) in
    let first = c.in_err-processors.ensures.memory (ap Err same) in
    let read = connected bytes _ _ _ _ _ _ _ _ c.in_ok-version.ensures c.in_ok-store.ensures c.in_ok-flow.ensures c.in_ok-connections.ensures.read in
    or_left (is_ok ((version_at then store_at then raw_at DIGEST_SIZE then first_at text_at) bytes) || is_ok (first_processor_at bytes)) (is_ok (first_count_at bytes))
    (or_right (is_ok ((version_at then store_at then raw_at DIGEST_SIZE then first_at text_at) bytes)) (is_ok (first_processor_at bytes)) (at_processors bytes _ _ read first.0 first.1))

pub returns-in_err-counts-clause-memory : goal.returns-in_err-counts-clause-memory
returns-in_err-counts-clause-memory c memory =
    let bytes = c.args.bytes.now in
    let p = err_from_is_err_and c.from_residual-in_err-counts.result c.from_residual-in_err-counts.ensures.1 in
    let same : c.in_err-counts.field-0.0 ≡ Memory = cc (p.1, p.2, memory) in
    let first = c.in_err-counts.ensures.memory (ap Err same) in
    let read = connected bytes _ _ _ _ _ _ _ _ c.in_ok-version.ensures c.in_ok-store.ensures c.in_ok-flow.ensures c.in_ok-connections.ensures.read in
    or_right (is_ok ((version_at then store_at then raw_at DIGEST_SIZE then first_at text_at) bytes) || is_ok (first_processor_at bytes)) (is_ok (first_count_at bytes))
    (at_counts bytes _ _ _ _ read c.in_ok-processors.ensures.read first)
