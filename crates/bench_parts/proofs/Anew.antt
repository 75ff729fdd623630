-- A new store of a flow with one connection and no processors agrees with itself.
use Rattle.std.proofs.Common.{◌≡◌, ℕ, ◌+◌, ◌<◌, List, [], ◌∷◌, length, All, refl, ap, ◌∙◌, arith, length-append}
use Rattle.std.proofs.Math.Nat.{mod-lt}
use Rattle.std.proofs.lemmas.List.Concat.{flat_map-cons}
use Rattle.std.proofs.lemmas.List.Elements.{All-nil, All-cons}
use Rattle.std.proofs.lemmas.Str.{IsUtf8-from_ascii}
use Rattle.std.proofs.lemmas.Str.Ascii.{IsAscii-from_all}
use Rattle.std.specs.Int.{w16, w32, w64, to_be_bytes}
use Rattle.std.specs.List.{flat_map}
use Rattle.flowfile_record.specs.Encoding.{IsDigest, IsNumber, IsText, text}
use Rattle.record_codec.specs.StoreHead.{IsHead}
use Rattle.record_codec.specs.declared.TheConstants.{FORMAT_VERSION}
use Rattle.record_codec.proofs.StoreHeads.{head_size}
use Rattle.checkpoint_store.specs.Consistent.{IsConsistent, IsBatchIn, IsFileIn}
use Rattle.checkpoint_store.specs.Snapshot.{head_in}
use Rattle.store_core.specs.Flow.{Flow}
use Rattle.store_core.specs.New.{kept_anew}

module _ (digest name : List ℕ) (lot : ℕ) (is_digest : IsDigest digest) (is_text : IsText name) where
  abbrev pub one_connection : Flow
  one_connection = record { digest = digest; connections = name ∷ []; processors = 0 }

  has_head : IsHead (head_in FORMAT_VERSION (kept_anew one_connection lot))
  has_head = record {
    version = refl;
    store = mod-lt lot (omega arith);
    flow = is_digest;
    connections = (omega arith, All-cons IsText name [] is_text (All-nil IsText));
    processors = (omega arith, All-nil IsText);
    counts = (omega arith, All-nil IsNumber);
    next_number = omega arith;
    next_arrival = omega arith;
    last_event = omega arith;
    line = (refl, omega arith);
    next_batch = omega arith;
    first = λ first. (refl, refl);
  }

  pub anew_agrees : IsConsistent (kept_anew one_connection lot)
  anew_agrees = record {
    encoded = has_head;
    head_size =
        let size = head_size (head_in FORMAT_VERSION (kept_anew one_connection lot)) is_digest in
        let named = length-append (to_be_bytes w16 (length name)) name in
        let one : length (flat_map text (name ∷ [])) ≡ length (text name) + 0 = ap length (flat_map-cons text name []) ∙ length-append (text name) [] in
        let texts_are = length-append (to_be_bytes w32 1) (flat_map text (name ∷ [])) in
        let counts_are = length-append (to_be_bytes w32 0) (flat_map (to_be_bytes w64) []) in
        let short = is_text.0 in
        omega (arith, size, named, one, texts_are, counts_are, short);
    counts = λ second. absurd cc;
    connections = (All-nil _, tt);
    counters = record { next_number = omega arith; next_arrival = omega arith; next_batch = omega arith };
    files = All-nil (IsFileIn (kept_anew one_connection lot));
    numbers = tt;
    arrivals = tt;
    batches = All-nil (IsBatchIn (kept_anew one_connection lot));
    batch_numbers = tt;
    live_files = omega arith;
    live_bytes = omega arith;
  }

-- the id of the connection
pub c1_is_text : IsText (99 ∷ 49 ∷ [])
c1_is_text =
    let ascii : All (λ b. b < 128) (99 ∷ 49 ∷ []) = All-cons (λ b. b < 128) 99 (49 ∷ []) (omega arith) (All-cons (λ b. b < 128) 49 [] (omega arith) (All-nil (λ b. b < 128))) in
    (omega arith, IsUtf8-from_ascii (99 ∷ 49 ∷ []) (IsAscii-from_all (99 ∷ 49 ∷ []) ascii))
