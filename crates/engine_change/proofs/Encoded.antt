-- The entry of a settled session has an encoding unless a number passes its limit, and its contents are as its files say.
use Rattle.std.proofs.Common.{◌≡◌, inl, inr, ℕ, ◌+◌, ◌^◌, ◌<◌, ◌≤◌, List, get_or, length, map, refl, sym, ap, subst, ◌∙◌, arith}
use Rattle.std.specs.Prelude.{All, IfSome, Option, None, Some, nat_lt, slice_get}
use Rattle.std.specs.Option.{option_or}
use Rattle.std.proofs.lemmas.Bool.{cases_Bool, ltb-false}
use Rattle.std.proofs.lemmas.List.{length-map}
use Rattle.std.proofs.lemmas.List.Elements.{All-map, All-same, All-weaker}
use Rattle.std.proofs.lemmas.Option.{slice_get-get_or}
use Rattle.sha2.specs.Sha256.{sha256}
use Rattle.sha2.proofs.Facts256.{length-sha256}
use Rattle.flowfile_record.specs.Attributes.{IsWithinLimits}
use Rattle.flowfile_record.specs.Encoding.{IsNumber}
use Rattle.flowfile_record.specs.Shared.{own_bytes}
use Rattle.flowfile_record.specs.declared.TheConstants.{CONTENT_MAX}
use Rattle.flowfile_record.specs.declared.content.ContentRef.{ContentRef}
use Rattle.flowfile_record.specs.declared.flow_file.FlowFile.{FlowFile}
use Rattle.flowfile_record.specs.declared.stored.Fresh.{Fresh}
use Rattle.flowfile_record.specs.declared.stored.Fresh.TheVariants.{No, Bytes, Staged, As}
use Rattle.flowfile_record.specs.declared.stored.Placed.{Placed}
use Rattle.record_codec.specs.ActiveFile.{IsActiveFile, active}
use Rattle.record_codec.specs.EntryEncoding.{IsEntry, IsGenerator, IsMoment}
use Rattle.record_codec.specs.Placeless.{placeless}
use Rattle.record_codec.specs.declared.entry.LogEntry.TheVariants.{Session}
use Rattle.checkpoint_store.specs.Consistent.{IsFileIn}
use Rattle.kept_state.specs.Applied.{session_applied}
use Rattle.kept_state.specs.Changes.{record_of, recorded_file}
use Rattle.kept_state.specs.Limits.{numbers_limit, limit_passed}
use Rattle.kept_state.specs.declared.limit.Limit.{Limit}
use Rattle.kept_state.specs.declared.limit.TheConstants.{NUMBER_MAX}
use Rattle.kept_state.specs.declared.limit.Which.TheVariants.{Numbers}
use Rattle.machine_model.specs.declared.kind.Kind.{Kind}
use Rattle.machine_model.specs.declared.kind.Kind.TheVariants.{GenerateFlowFile}
use Rattle.settlement.specs.TellsOf.{IsContentBy}
use Rattle.settlement.specs.Whole.{generator_count}
use Rattle.store_core.specs.Change.{IsFresh}
use Rattle.engine_change.proofs.Cases.{Case, IsSettled, entry_in}
use Rattle.engine_change.proofs.Parts.{new_arrivals, new_numbers}
use Rattle.engine_change.proofs.Recorded.{IsOfNew, few_taken, range_kept, records, shared_new, taken_kept}

-- ---- limits

not_passed : (number wanted : ℕ) → limit_passed Numbers number wanted ≡ None → wanted ≤ number
not_passed number wanted none = elim (cases_Bool (nat_lt number wanted)) [
  | inl t ↦ absurd (let some = rw t at none in cc)
  | inr f ↦ ltb-false number wanted f
]

both_none : (a b : Option Limit) → option_or a b ≡ None → (a ≡ None) × (b ≡ None)
both_none None b none = (refl, none)
both_none (Some x) b none = absurd cc

pub record AreNumbersBelow (c : Case) : Type 0 where
  pub number : c.settled.next_number ≤ NUMBER_MAX
  pub arrival : c.settled.next_arrival ≤ NUMBER_MAX
  pub event : c.k.last_event + length c.settled.events ≤ NUMBER_MAX

pub numbers_below : (c : Case) → numbers_limit (session_applied c.k (entry_in c)) ≡ None → AreNumbersBelow c
numbers_below c none =
    let first = both_none (limit_passed Numbers NUMBER_MAX c.settled.next_number) _ none in
    let second = both_none (limit_passed Numbers NUMBER_MAX c.settled.next_arrival) _ first.1 in
    let third = both_none (limit_passed Numbers NUMBER_MAX (c.k.last_event + length c.settled.events)) _ second.1 in
    record {
      number = not_passed NUMBER_MAX c.settled.next_number first.0;
      arrival = not_passed NUMBER_MAX c.settled.next_arrival second.0;
      event = not_passed NUMBER_MAX (c.k.last_event + length c.settled.events) third.0;
    }

-- ---- placed files

record IsFileToBe (connection : ℕ) (file : FlowFile) : Type 0 where
  place : connection < 2 ^ 16
  first_number : 1 ≤ file.number
  number : IsNumber file.number
  attributes : IsWithinLimits file.attributes
  entered : file.entered < 2 ^ 64
  penalty_end : file.penalty_end < 2 ^ 64
  arrival : IsNumber file.arrival

active_new : (connection : ℕ) (file : FlowFile) → IsFileToBe connection file → IsOfNew file.content → IsActiveFile (active connection (placeless file))
active_new connection file is new = record {
  connection = is.place;
  file = record {
    first_number = is.first_number;
    number = is.number;
    attributes = is.attributes;
    content = record {
      slot = omega arith;
      size = let same = new.size in let small = new.small in omega (arith, same, small);
      ends = let same = new.size in let small = new.small in omega (arith, same, small);
      digest = ap length new.digest ∙ length-sha256 new.bytes;
    };
    entered = is.entered;
    penalty_end = is.penalty_end;
    arrival = is.arrival;
  };
}

active_by : (c : Case) → IsSettled c → (place : ℕ) (p : Placed) → slice_get c.settled.placed place ≡ Some p → (fresh : Fresh) → p.fresh ≡ fresh → IsFileToBe p.connection p.file
    → IsContentBy c.ended.taken p.file.content fresh → IfSome (own_bytes fresh) (λ bytes. length bytes ≤ CONTENT_MAX) → IsActiveFile (recorded_file p.connection p.file fresh)
active_by c settled place p there No from is has small = record {
  connection = is.place;
  file = record {
    first_number = is.first_number;
    number = is.number;
    attributes = is.attributes;
    content = range_kept c settled p.file.content has;
    entered = is.entered;
    penalty_end = is.penalty_end;
    arrival = is.arrival;
  };
}
active_by c settled place p there Staged from is has small = absurd has
active_by c settled place p there (Bytes bytes) from is has small = active_new p.connection p.file is (record { bytes = bytes; size = has.0; digest = has.1; small = small })
active_by c settled place p there (As of) from is has small = active_new p.connection p.file is (shared_new c settled place of p there from)

all_active : (c : Case) → IsSettled c → AreNumbersBelow c → All IsActiveFile (map record_of c.settled.placed)
all_active c is below =
    All-map IsActiveFile record_of c.settled.placed
    (λ i d lt.
    let known = (records c is).placed i d lt in
    let number = (new_numbers c is).within i d lt in
    let arrival = (new_arrivals c is).within i d lt in
    let number_below = below.number in
    let arrival_below = below.arrival in
    let connection = known.connection in
    let p = get_or c.settled.placed i d in
    active_by c is i p (slice_get-get_or c.settled.placed i d lt) p.fresh refl (record {
      place = let few = is.sound.connection_count in omega (arith, connection, few);
      first_number = number.0;
      number = omega (arith, number.1, number_below);
      attributes = known.attributes;
      entered = known.entered;
      penalty_end = known.penalty_end;
      arrival = omega (arith, arrival.1, arrival_below);
    }) (is.tells.contents i d lt) known.fresh)

-- ---- the entry

generated : (kind : Kind) (place index : ℕ) → place < 256 → IsNumber index → IsGenerator (generator_count kind place index)
generated (GenerateFlowFile count text) place index lt is = (omega arith, is)
generated _ place index lt is = tt

pub encoded : (c : Case) → IsSettled c → numbers_limit (session_applied c.k (entry_in c)) ≡ None → IsEntry (Session (entry_in c))
encoded c is none =
    let below = numbers_below c none in
    let all = records c is in
    let number_below = below.number in
    let arrival_below = below.arrival in
    let processor = is.may.processor in
    let event_below = below.event in
    record {
      processor = omega (arith, processor, is.tells.processor, is.sound.processor_count);
      moment = subst IsMoment (sym is.tells.moment) is.moment;
      gone = (
        let few = few_taken c is in omega (arith, few),
        All-same IsNumber c.settled.gone (map (λ (file : FlowFile). file.number) c.ended.taken) is.tells.gone
            (All-map IsNumber (λ (file : FlowFile). file.number) c.ended.taken
            (All-weaker (λ file. IsFileIn c.k (active c.ended.connection file)) (λ file. IsNumber file.number) (λ file kept. kept.encoded.file.number) c.ended.taken (taken_kept c is))),
      );
      placed = (let few = all.few in omega (arith, few, length-map c.settled.placed record_of), all_active c is below);
      next_number = omega (arith, number_below);
      next_arrival = omega (arith, arrival_below);
      last_event = omega (arith, event_below);
      generator = subst IsGenerator (sym all.count) (generated _ c.ended.processor c.given.index (omega (arith, processor, is.sound.processor_count)) is.may.index);
    }

-- ---- new contents

fresh_by : (taken : List FlowFile) (content : ContentRef) (fresh : Fresh) (bytes : List ℕ) → IsContentBy taken content fresh → IfSome (own_bytes fresh) (λ b. length b ≤ CONTENT_MAX)
    → fresh ≡ Bytes bytes → (length bytes ≤ CONTENT_MAX) × (content.size ≡ length bytes) × (content.digest ≡ sha256 bytes)
fresh_by taken content No bytes has small some = absurd cc
fresh_by taken content Staged bytes has small some = absurd has
fresh_by taken content (As of) bytes has small some = absurd cc
fresh_by taken content (Bytes b) bytes has small some =
    let same : b ≡ bytes = cc in
    subst (λ (l : List ℕ). (length l ≤ CONTENT_MAX) × (content.size ≡ length l) × (content.digest ≡ sha256 l)) same (small, has.0, has.1)

pub all_fresh : (c : Case) → IsSettled c → All IsFresh c.settled.placed
all_fresh c is =
    λ i d lt bytes some.
    let p = get_or c.settled.placed i d in
    fresh_by c.ended.taken p.file.content p.fresh bytes (is.tells.contents i d lt) ((records c is).placed i d lt).fresh some
