-- What is known of a settlement that a store may record: of the files that were taken, and of those that are placed.
use Rattle.std.proofs.Common.{◌≡◌, inl, inr, ℕ, ◌^◌, ◌<◌, ◌≤◌, true, List, [], ◌∷◌, get_or, length, map, refl, sym, ap, subst, ◌∙◌, arith}
use Rattle.std.specs.Prelude.{All, Contains, IfSome, Some, slice_get}
use Rattle.std.proofs.lemmas.List.{length-map}
use Rattle.std.proofs.lemmas.List.Elements.{All-head, All-map, All-weaker, All-contains, All-filter}
use Rattle.std.proofs.lemmas.Option.{get_or_from_slice_get, slice_get-get_or, slice_get_within}
use Rattle.sha2.specs.Sha256.{sha256}
use Rattle.sha2.proofs.Facts256.{length-sha256}
use Rattle.flowfile_record.specs.Encoding.{IsDigest}
use Rattle.flowfile_record.specs.Shared.{may_be_shared, own_bytes}
use Rattle.flowfile_record.specs.declared.TheConstants.{CONTENT_MAX}
use Rattle.flowfile_record.specs.declared.content.ContentRef.{ContentRef}
use Rattle.flowfile_record.specs.declared.flow_file.FlowFile.{FlowFile}
use Rattle.flowfile_record.specs.declared.limits.TheConstants.{TAKEN_MAX}
use Rattle.flowfile_record.specs.declared.stored.Fresh.{Fresh}
use Rattle.flowfile_record.specs.declared.stored.Fresh.TheVariants.{No, Bytes, Staged, As}
use Rattle.flowfile_record.specs.declared.stored.Placed.{Placed}
use Rattle.record_codec.specs.ActiveFile.{active}
use Rattle.record_codec.specs.FileEncoding.{IsContentRef}
use Rattle.checkpoint_store.specs.Consistent.{IsFileIn}
use Rattle.kept_state.specs.Applied.{is_file_among}
use Rattle.machine_model.specs.declared.flow.Processor.{Processor}
use Rattle.settlement.specs.Recording.{IsRecordable, Records}
use Rattle.settlement.specs.TellsOf.{HasPlacedContent, IsContentBy, IsDigestBy}
use Rattle.engine_change.proofs.AllFiles.{StandSomewhere}
use Rattle.engine_change.proofs.Cases.{Case, IsSettled, connections_same, counters_of, found}
use Rattle.engine_change.proofs.FanOut.{fan_out}
use Rattle.std.proofs.Common.{not}

-- ---- the files that were taken

-- each is kept, as one of its connection
pub taken_kept : (c : Case) → IsSettled c → All (λ file. IsFileIn c.k (active c.ended.connection file)) c.ended.taken
taken_kept c is =
    All-weaker (λ file. Contains c.k.files (active c.ended.connection file)) (λ file. IsFileIn c.k (active c.ended.connection file))
    (λ file there. All-contains (IsFileIn c.k) c.k.files (active c.ended.connection file) is.consistent.files there) c.ended.taken is.may.there

pub few_taken : (c : Case) → IsSettled c → length c.settled.gone ≤ TAKEN_MAX
few_taken c is =
    omega (
      arith,
      is.may.outcome.taken,
      length-map c.ended.taken (λ (file : FlowFile). file.content.size),
      ap length is.tells.gone,
      length-map c.ended.taken (λ (file : FlowFile). file.number),
    )

connected : (c : Case) → IsSettled c → (taken : List FlowFile) → All (λ file. IsFileIn c.k (active c.ended.connection file)) taken → 0 < length taken
    → c.ended.connection < length c.flow.connections
connected c is [] kept lt = absurd (omega arith)
connected c is (file ∷ taken) kept lt =
    let there = (All-head (λ file. IsFileIn c.k (active c.ended.connection file)) file taken kept).connection in
    omega (arith, there, connections_same c is)

-- ---- what is placed

pub the_processor : (c : Case) → IsSettled c → (processor : Processor) × (slice_get c.flow.processors c.ended.processor ≡ Some processor)
the_processor c is = found c.flow.processors c.ended.processor is.may.processor

pub recorded_of : (c : Case) → IsSettled c → (processor : Processor) → slice_get c.flow.processors c.ended.processor ≡ Some processor
    → Records c.flow c.given (counters_of c.k) c.ended processor c.settled
recorded_of c is processor at = is.records processor (record {
  found = at;
  fan_out = λ name. fan_out c.flow c.ended.processor processor is.sound at name;
  connection = connected c is c.ended.taken (taken_kept c is);
  entered = All-weaker (λ file. IsFileIn c.k (active c.ended.connection file)) (λ file. file.entered < 2 ^ 64) (λ file kept. kept.encoded.file.entered) c.ended.taken (taken_kept c is);
})

pub records : (c : Case) → (is : IsSettled c) → Records c.flow c.given (counters_of c.k) c.ended (the_processor c is).0 c.settled
records c is = recorded_of c is (the_processor c is).0 (the_processor c is).1

pub stand_somewhere : (c : Case) → IsSettled c → StandSomewhere c.k c.settled
stand_somewhere c is = record {
  left = All-filter (λ a. not (is_file_among c.settled.gone a)) (λ a. a.connection < length c.k.connections) c.k.files
      (All-weaker (IsFileIn c.k) (λ a. a.connection < length c.k.connections) (λ a kept. kept.connection) c.k.files is.consistent.files);
  placed = All-weaker (IsRecordable c.flow) (λ p. p.connection < length c.k.connections)
      (λ p known. let there = known.connection in omega (arith, there, connections_same c is)) c.settled.placed (records c is).placed;
}

-- ---- contents

kept_contents : (c : Case) → IsSettled c → All IsContentRef (map (λ file. file.content) c.ended.taken)
kept_contents c is =
    All-map IsContentRef (λ (file : FlowFile). file.content) c.ended.taken
    (All-weaker (λ file. IsFileIn c.k (active c.ended.connection file)) (λ file. IsContentRef file.content) (λ file kept. kept.encoded.file.content) c.ended.taken (taken_kept c is))

kept_digests : (c : Case) → IsSettled c → All IsDigest (map (λ file. file.content.digest) c.ended.taken)
kept_digests c is =
    All-map IsDigest (λ (file : FlowFile). file.content.digest) c.ended.taken
    (All-weaker (λ file. IsFileIn c.k (active c.ended.connection file)) (λ file. IsDigest file.content.digest) (λ file kept. kept.encoded.file.content.digest) c.ended.taken (taken_kept c is))

one_digest : (c : Case) → IsSettled c → (content : ContentRef) → IsDigestBy c.ended.taken content → IsDigest content.digest
one_digest c is content (inl has) = All-contains IsDigest (map (λ (file : FlowFile). file.content.digest) c.ended.taken) content.digest (kept_digests c is) has
one_digest c is content (inr some) = ap length some.1 ∙ length-sha256 some.0

-- a range of a content that is kept is as one that may be kept
pub range_kept : (c : Case) → IsSettled c → (content : ContentRef) → IsContentBy c.ended.taken content No → IsContentRef content
range_kept c is content has =
    let range = has.0.2 in
    let whole : IsContentRef has.0.0 = All-contains IsContentRef (map (λ (file : FlowFile). file.content) c.ended.taken) has.0.0 (kept_contents c is) has.0.1 in
    record {
      slot = omega (arith, range.slot, whole.slot);
      size = omega (arith, range.from, range.to, whole.size);
      ends = omega (arith, range.to, whole.ends);
      digest = one_digest c is content has.1;
    }

-- a content has the size and the digest of new bytes, which aren't too many
pub record IsOfNew (content : ContentRef) : Type 0 where
  pub bytes : List ℕ
  pub size : content.size ≡ length bytes
  pub digest : content.digest ≡ sha256 bytes
  pub small : length bytes ≤ CONTENT_MAX

new_by : (taken : List FlowFile) (content : ContentRef) (fresh : Fresh) → may_be_shared fresh ≡ true → IsContentBy taken content fresh → IfSome (own_bytes fresh) (λ bytes. length bytes ≤ CONTENT_MAX) → IsOfNew content
new_by taken content No may has small = absurd cc
new_by taken content Staged may has small = absurd has
new_by taken content (As of) may has small = absurd cc
new_by taken content (Bytes bytes) may has small = record { bytes = bytes; size = has.0; digest = has.1; small = small }

-- a shared content is that of a file which brings it
pub shared_new : (c : Case) → IsSettled c → (place of : ℕ) (p : Placed) → slice_get c.settled.placed place ≡ Some p → p.fresh ≡ As of → IsOfNew p.file.content
shared_new c is place of p there from =
    let share = is.tells.shared place of p there from in
    let q = share.original in
    let lt = slice_get_within c.settled.placed of q share.there in
    let at : get_or c.settled.placed of q ≡ q = get_or_from_slice_get c.settled.placed of q q share.there in
    let small = subst (λ (r : Placed). IfSome (own_bytes r.fresh) (λ bytes. length bytes ≤ CONTENT_MAX)) at ((records c is).placed of q lt).fresh in
    subst IsOfNew (sym share.same)
    (new_by c.ended.taken q.file.content q.fresh share.shared (subst (HasPlacedContent c.ended.taken) at (is.tells.contents of q lt)) small)

digest_by : (c : Case) → IsSettled c → (place : ℕ) (p : Placed) → slice_get c.settled.placed place ≡ Some p → (fresh : Fresh) → p.fresh ≡ fresh → IsContentBy c.ended.taken p.file.content fresh
    → IsDigest p.file.content.digest
digest_by c is place p there No from has = one_digest c is p.file.content has.1
digest_by c is place p there (Bytes bytes) from has = ap length has.1 ∙ length-sha256 bytes
digest_by c is place p there Staged from has = absurd has
digest_by c is place p there (As of) from has =
    let new = shared_new c is place of p there from in ap length new.digest ∙ length-sha256 new.bytes

pub digests : (c : Case) → IsSettled c → All (λ p. IsDigest p.file.content.digest) c.settled.placed
digests c is =
    λ i d lt.
    let p = get_or c.settled.placed i d in
    digest_by c is i p (slice_get-get_or c.settled.placed i d lt) p.fresh refl (is.tells.contents i d lt)
