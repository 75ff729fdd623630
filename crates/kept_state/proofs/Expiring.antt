-- Files that expire do what a settled session does that takes them.
use Rattle.std.proofs.Common.{◌≡◌, ℕ, ◌+◌, ◌^◌, ◌<◌, ◌≤◌, ◌==◌, ◌&&◌, not, nat_lt, nat_le, Bool, true, false, List, [], ◌∷◌, length, All, Option, None, Some, is_some, refl, sym, ap, subst, inl, inr, arith}
use Rattle.std.specs.Option.{option_or}
use Rattle.std.proofs.lemmas.Bool.{cases_Bool, and_parts, eqb-true, le-ltb, le-leb}
use Rattle.std.proofs.lemmas.List.Elements.{All-nil, All-cons, All-head, All-tail}
use Rattle.flowfile_record.specs.Encoding.{listed, IsNumber}
use Rattle.flowfile_record.specs.Stored.{Kept}
use Rattle.flowfile_record.specs.declared.change.Settled.{Settled}
use Rattle.flowfile_record.specs.declared.event.Event.{Event}
use Rattle.flowfile_record.specs.declared.limits.TheConstants.{LIVE_FILES_MAX, LIVE_BYTES_MAX}
use Rattle.flowfile_record.specs.declared.stored.ActiveFile.{ActiveFile}
use Rattle.flowfile_record.proofs.Sizes.{numbers_size}
use Rattle.record_codec.specs.ActiveFile.{active_file, IsActiveFile}
use Rattle.record_codec.specs.EntryEncoding.{entry as encoding, IsEntry, IsExpire}
use Rattle.record_codec.specs.declared.block.TheConstants.{PAYLOAD_MAX}
use Rattle.record_codec.specs.declared.entry.ExpireEntry.{ExpireEntry}
use Rattle.record_codec.specs.declared.entry.LogEntry.TheVariants.{Session, Expire}
use Rattle.record_codec.proofs.Sizes.{expire_size, session_size}
use Rattle.checkpoint_store.specs.Consistent.{IsConsistent, IsFileIn, record_size}
use Rattle.kept_state.specs.Applied.{active_number, is_file_among, applied, session_applied}
use Rattle.kept_state.specs.Changes.{entry_of_session, settled_of_expiry, expiry_entry, no_files, MaySettleAs, MayExpireAs}
use Rattle.kept_state.specs.Fits.{active_of, are_distinct_numbers, are_active_in, are_active_in_one, are_active_with, expire_fits, is_in_connection, session_suits}
use Rattle.kept_state.specs.Limits.{live_file_count, live_bytes, live_limit, numbers_limit, limit_passed}
use Rattle.kept_state.specs.Moves.{are_all_active}
use Rattle.kept_state.specs.declared.limit.TheConstants.{NUMBER_MAX}
use Rattle.kept_state.specs.declared.limit.Which.{Which}
use Rattle.kept_state.specs.declared.limit.Which.TheVariants as which
use Rattle.kept_state.proofs.Going.{active_from_in, count_gone}
use Rattle.kept_state.proofs.Keeping.{expire_parts, length-filter_le, not_passed, or_none, sum-filter_le}

-- ---- the files

with_first : (files : List ActiveFile) (connection : ℕ) (first : Option ActiveFile) (ns : List ℕ) → is_in_connection connection first ≡ true → are_active_in files connection ns ≡ true
    → are_active_with files first ns ≡ true
with_first files connection None ns is are = absurd cc
with_first files connection (Some a) ns is are = subst (λ n. are_active_in files n ns ≡ true) (sym (eqb-true a.connection connection is)) are

active_in_one : (files : List ActiveFile) (connection : ℕ) (ns : List ℕ) → are_active_in files connection ns ≡ true → are_active_in_one files ns ≡ true
active_in_one files connection [] are = refl
active_in_one files connection (n ∷ ns) are =
    with_first files connection (active_of n files) (n ∷ ns) (and_parts (is_in_connection connection (active_of n files)) (are_active_in files connection ns) are).0 are

below_next : (k : Kept) (n : ℕ) (files : List ActiveFile) → All (IsFileIn k) files → is_some (active_of n files) ≡ true → n < k.next_number
below_next k n [] are is = absurd cc
below_next k n (a ∷ files) are is =
    elim (cases_Bool (active_number a == n)) [
      | inl t ↦ let first = All-head (IsFileIn k) a files are in omega (arith, first.number, eqb-true (active_number a) n t)
      | inr f ↦ let later : is_some (active_of n files) ≡ true = rw f at is in below_next k n files (All-tail (IsFileIn k) a files are) later
    ]

are_numbers : (k : Kept) (ns : List ℕ) → IsConsistent k → are_all_active k.files ns ≡ true → All IsNumber ns
are_numbers k [] was are = All-nil IsNumber
are_numbers k (n ∷ ns) was are =
    let parts = and_parts (is_some (active_of n k.files)) (are_all_active k.files ns) are in
    let below = below_next k n k.files was.files parts.0 in
    All-cons IsNumber n ns (omega (arith, below, was.encoded.next_number)) (are_numbers k ns was parts.1)

few_live : (k : Kept) (ns : List ℕ) → IsConsistent k → are_distinct_numbers ns ≡ true → are_all_active k.files ns ≡ true → length ns ≤ LIVE_FILES_MAX
few_live k ns was distinct are = omega (arith, count_gone ns k.files was.numbers distinct are, was.live_files)

-- ---- the counters

pub last_event_below : (k : Kept) → numbers_limit k ≡ None → IsNumber k.last_event
last_event_below k none =
    let files = or_none (limit_passed which.Numbers NUMBER_MAX k.next_number) (option_or (limit_passed which.Numbers NUMBER_MAX k.next_arrival) (option_or (limit_passed which.Numbers NUMBER_MAX k.last_event) (limit_passed which.Numbers NUMBER_MAX k.next_batch))) none in
    let arrivals = or_none (limit_passed which.Numbers NUMBER_MAX k.next_arrival) (option_or (limit_passed which.Numbers NUMBER_MAX k.last_event) (limit_passed which.Numbers NUMBER_MAX k.next_batch)) files.1 in
    let events = or_none (limit_passed which.Numbers NUMBER_MAX k.last_event) (limit_passed which.Numbers NUMBER_MAX k.next_batch) arrivals.1 in
    let most = not_passed which.Numbers NUMBER_MAX k.last_event events.0 in
    omega (arith, most)

passes_none : (w : Which) (number wanted : ℕ) → wanted ≤ number → limit_passed w number wanted ≡ None
passes_none w number wanted le = let f : nat_lt number wanted ≡ false = le-ltb number wanted le in rw f refl

-- ---- what an expiry makes

module _ (k : Kept) (connection moment : ℕ) (ns : List ℕ) (events : List Event) where
  abbrev settled : Settled
  settled = settled_of_expiry k moment ns events

  abbrev expire : ExpireEntry
  expire = record { connection = connection; moment = moment; numbers = ns; last_event = k.last_event + length events }

  record Known : Type 0 where
    distinct : are_distinct_numbers ns ≡ true
    active_in : are_active_in k.files connection ns ≡ true
    active : are_all_active k.files ns ≡ true
    as_many : length events ≡ length ns

  known : expire_fits k expire ≡ true → Known
  known fit =
      let parts = expire_parts k expire fit in
      let counted = (and_parts (are_distinct_numbers ns && are_active_in k.files connection ns) (k.last_event + length events == k.last_event + length ns) fit).1 in
      let same = eqb-true (k.last_event + length events) (k.last_event + length ns) counted in
      record {
        distinct = parts.0;
        active_in = parts.1;
        active = active_from_in k.files connection ns parts.1;
        as_many = omega (arith, same);
      }

  suits : Known → session_suits no_files k (entry_of_session k settled) ≡ true
  suits about =
      let a : are_distinct_numbers ns ≡ true = about.distinct in
      let b : are_active_in_one k.files ns ≡ true = active_in_one k.files connection ns about.active_in in
      let d : nat_le k.next_number k.next_number ≡ true = le-leb k.next_number k.next_number (omega arith) in
      let e : nat_le k.next_arrival k.next_arrival ≡ true = le-leb k.next_arrival k.next_arrival (omega arith) in
      let f : nat_le k.last_event (k.last_event + length events) ≡ true = le-leb k.last_event (k.last_event + length events) (omega arith) in
      rw (a, b, d, e, f) refl

  session_encoded : IsConsistent k → moment < 2 ^ 64 → Known → numbers_limit (session_applied k (entry_of_session k settled)) ≡ None → IsEntry (Session (entry_of_session k settled))
  session_encoded was short about none = record {
    processor = omega arith;
    moment = short;
    gone = (omega (arith, few_live k ns was about.distinct about.active), are_numbers k ns was about.active);
    placed = (omega arith, All-nil IsActiveFile);
    next_number = was.encoded.next_number;
    next_arrival = was.encoded.next_arrival;
    last_event = last_event_below (session_applied k (entry_of_session k settled)) none;
    generator = tt;
  }

  session_payload : IsConsistent k → Known → length (encoding (Session (entry_of_session k settled))) ≤ PAYLOAD_MAX
  unfolding encoding
  session_payload was about =
      let none : length (listed active_file []) ≡ 4 = refl in
      omega (arith, session_size (entry_of_session k settled), numbers_size ns, few_live k ns was about.distinct about.active, none)

  may_settle : IsConsistent k → moment < 2 ^ 64 → Known → MaySettleAs k settled
  may_settle was short about = record {
    suits = suits about;
    gone = omega (arith, few_live k ns was about.distinct about.active);
    placed = omega arith;
    events = let count = about.as_many in omega (arith, count, few_live k ns was about.distinct about.active);
    encoded = session_encoded was short about;
    payload = session_payload was about;
  }

  stays_live : IsConsistent k → live_limit (session_applied k (entry_of_session k settled)) ≡ None
  stays_live was =
      let test : ActiveFile → Bool = λ a. not (is_file_among ns a) in
      let after = session_applied k (entry_of_session k settled) in
      let files : limit_passed which.Files LIVE_FILES_MAX (live_file_count after) ≡ None =
      passes_none which.Files LIVE_FILES_MAX (live_file_count after) (omega (arith, was.live_files, length-filter_le test k.files)) in
      let bytes : limit_passed which.FileBytes LIVE_BYTES_MAX (live_bytes after) ≡ None =
      passes_none which.FileBytes LIVE_BYTES_MAX (live_bytes after) (omega (arith, was.live_bytes, sum-filter_le record_size test k.files)) in
      rw (files, bytes) refl

  -- of the entry itself
  expire_encoded : IsConsistent k → connection < 2 ^ 16 → moment < 2 ^ 64 → Known → numbers_limit (session_applied k (entry_of_session k settled)) ≡ None → IsExpire expire
  expire_encoded was place short about none = record {
    connection = place;
    moment = short;
    numbers = (omega (arith, few_live k ns was about.distinct about.active), are_numbers k ns was about.active);
    last_event = last_event_below (session_applied k (entry_of_session k settled)) none;
  }

  expire_payload : IsConsistent k → Known → length (encoding (Expire expire)) ≤ PAYLOAD_MAX
  unfolding encoding
  expire_payload was about = omega (arith, expire_size expire, numbers_size ns, few_live k ns was about.distinct about.active)

-- ---- the same of any settled session that is one

pub same_effect : (k : Kept) (connection : ℕ) (s : Settled) → MayExpireAs k connection s → applied no_files k (expiry_entry k connection s) ≡ session_applied k (entry_of_session k s)
same_effect k connection s may = ap (λ (t : Settled). session_applied k (entry_of_session k t)) (sym may.as_session)

pub expiry_settles : (k : Kept) (connection : ℕ) (s : Settled) → IsConsistent k → MayExpireAs k connection s → MaySettleAs k s
expiry_settles k connection s was may =
    subst (MaySettleAs k) (sym may.as_session) (may_settle k connection s.moment s.gone s.events was may.moment (known k connection s.moment s.gone s.events may.fits))

pub expiry_live : (k : Kept) (connection : ℕ) (s : Settled) → IsConsistent k → MayExpireAs k connection s → live_limit (session_applied k (entry_of_session k s)) ≡ None
expiry_live k connection s was may =
    subst (λ (t : Settled). live_limit (session_applied k (entry_of_session k t)) ≡ None) (sym may.as_session) (stays_live k connection s.moment s.gone s.events was)

pub few_expire : (k : Kept) (connection : ℕ) (s : Settled) → IsConsistent k → MayExpireAs k connection s → length s.events < 2 ^ 32
few_expire k connection s was may =
    let about = known k connection s.moment s.gone s.events may.fits in
    let count = about.as_many in
    omega (arith, count, few_live k s.gone was about.distinct about.active)

pub expiry_encoded : (k : Kept) (connection : ℕ) (s : Settled) → IsConsistent k → connection < 2 ^ 16 → MayExpireAs k connection s
    → numbers_limit (session_applied k (entry_of_session k s)) ≡ None → IsEntry (expiry_entry k connection s)
expiry_encoded k connection s was place may none =
    expire_encoded k connection s.moment s.gone s.events was place may.moment (known k connection s.moment s.gone s.events may.fits)
    (subst (λ (t : Settled). numbers_limit (session_applied k (entry_of_session k t)) ≡ None) may.as_session none)

pub expiry_payload : (k : Kept) (connection : ℕ) (s : Settled) → IsConsistent k → MayExpireAs k connection s → length (encoding (expiry_entry k connection s)) ≤ PAYLOAD_MAX
expiry_payload k connection s was may = expire_payload k connection s.moment s.gone s.events was (known k connection s.moment s.gone s.events may.fits)
