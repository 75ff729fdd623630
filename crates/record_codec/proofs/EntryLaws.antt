-- Entries of a log: what is read is encoded so, and what is encoded so is read again.
use Rattle.std.proofs.Common.{◌≡◌, ◌≢◌, ℕ, ◌+◌, ◌^◌, ◌<◌, ◌==◌, ◌||◌, nat_lt, not, eqb, Bool, true, false, cond, List, ◌++◌, length, IsTrue, Option, Some, None, Ok, Err, refl, sym, ap, subst, ◌∙◌, append_assoc, arith}
use Rattle.std.specs.Int.{w16, w64, to_be_bytes}
use Rattle.std.proofs.lemmas.Bool.{eqb-true, eqb-false, ne_eqb, ltb-true, lt-ltb}
use Rattle.std.proofs.lemmas.Bool.Decides.{nat_tests}
use Rattle.flowfile_record.specs.Field.{IsBytes, Takes, IsField}
use Rattle.flowfile_record.specs.Reading.{Reading, ◌>>=◌, ◌then◌, made, uint_at, number_at, numbers_at, listed_at}
use Rattle.flowfile_record.specs.Encoding.{byte, listed, numbers, IsNumber, AreListed, AreNumbers}
use Rattle.flowfile_record.proofs.FieldLaws.{bind_ok, ok_is, Takes-then, pair_is, made_is, made_from, such_is, u16_is, u64_is, number_is, numbers_is, listed_is}
use Rattle.record_codec.specs.ActiveFile.{active_file, active_file_at, IsActiveFile}
use Rattle.record_codec.specs.EntryReading.{log_number_at, begin_at, count_at, generator_at, session_at, expire_at, swap_out_at, swap_in_at, age_at, entry_at}
use Rattle.record_codec.specs.EntryEncoding.{generator, counters, session, expire, swap_out, entry, log_limit, IsPlace, IsMoment, IsGenerator, IsSession, IsExpire, IsSwapOut, IsEntryOf}
use Rattle.record_codec.specs.Version.{is_version, version_at}
use Rattle.flowfile_record.specs.declared.stored.ActiveFile.{ActiveFile}
use Rattle.flowfile_record.specs.declared.stored.Counted.{Counted}
use Rattle.flowfile_record.specs.declared.limits.TheConstants.{NUMBER_LIMIT}
use Rattle.record_codec.specs.declared.entry.TheConstants.{NO_GENERATOR}
use Rattle.record_codec.specs.declared.entry.SessionEntry.{SessionEntry}
use Rattle.record_codec.specs.declared.entry.ExpireEntry.{ExpireEntry}
use Rattle.record_codec.specs.declared.entry.SwapOutEntry.{SwapOutEntry}
use Rattle.record_codec.specs.declared.entry.LogEntry.{LogEntry}
use Rattle.record_codec.specs.declared.entry.LogEntry.TheVariants.{Begin, Session, Expire, SwapOut, SwapIn, Age}
use Rattle.record_codec.proofs.Chains.{regroup8}
use Rattle.record_codec.proofs.ActiveFiles.{active_file_is}
use Rattle.record_codec.proofs.Versions.{version_is}

-- ---- parts

count_is : (place : ℕ) → IsField (count_at place) (to_be_bytes w64) (λ n. IsNumber n × IsTrue (not (place == NO_GENERATOR) || n == 0))
unfolding count_at
count_is place = such_is (λ n. not (place == NO_GENERATOR) || n == 0) number_at (to_be_bytes w64) IsNumber number_is

-- what is made of a place and a count
abbrev made_of : ℕ → ℕ → Option Counted
made_of place count = cond (eqb place NO_GENERATOR) None (Some (record { processor = place; count = count }))

encoded_none : (count : ℕ) → (count == 0) ≡ true → generator None ≡ to_be_bytes w16 NO_GENERATOR ++ to_be_bytes w64 count
unfolding generator
encoded_none count e = rw (eqb-true count 0 e) refl

below : (place : ℕ) → place < 2 ^ 16 → eqb place NO_GENERATOR ≡ false → place < NO_GENERATOR
below place lt e =
    let other : place ≢ NO_GENERATOR = eqb-false place NO_GENERATOR e in
    omega arith

generator_encoded : (place count : ℕ) (none : Bool) → place < 2 ^ 16 → IsNumber count → eqb place NO_GENERATOR ≡ none → (not none || count == 0) ≡ true
    → (generator (cond none None (Some (record { processor = place; count = count }))) ≡ to_be_bytes w16 place ++ to_be_bytes w64 count) × IsGenerator (cond none None (Some (record { processor = place; count = count })))
unfolding generator
generator_encoded place count true lt is e h = (ap (λ (n : ℕ). to_be_bytes w16 n ++ to_be_bytes w64 0) (sym (eqb-true place NO_GENERATOR e)) ∙ ap (λ (n : ℕ). to_be_bytes w16 place ++ to_be_bytes w64 n) (sym (eqb-true count 0 h)), tt)
generator_encoded place count false lt is e h = (refl, (below place lt e, is))

generator_takes : (bytes : List ℕ) (x : Option Counted × List ℕ) → IsBytes bytes → generator_at bytes ≡ Ok x → Takes bytes (generator x.0) x.1 × IsGenerator x.0
unfolding generator_at
generator_takes bytes x fits e =
    let a = bind_ok (uint_at w16 bytes) (λ place. count_at place.0 place.1 >>= λ count. Ok (made_of place.0 count.0, count.1)) x e in
    let b = bind_ok (count_at a.0.0 a.0.1) (λ count. Ok (made_of a.0.0 count.0, count.1)) x a.2 in
    let place = u16_is.takes bytes a.0 fits a.1 in
    let count = (count_is a.0.0).takes a.0.1 b.0 place.0.rest_fits b.1 in
    let both = Takes-then bytes (to_be_bytes w16 a.0.0) a.0.1 (to_be_bytes w64 b.0.0) b.0.1 place.0 count.0 in
    let said = generator_encoded a.0.0 b.0.0 (eqb a.0.0 NO_GENERATOR) place.1 count.1.0 refl count.1.1 in
    subst (λ (y : Option Counted × List ℕ). Takes bytes (generator y.0) y.1 × IsGenerator y.0) (ok_is (made_of a.0.0 b.0.0, b.0.1) x b.2)
    (subst (λ (w : List ℕ). Takes bytes w b.0.1) (sym said.0) both, said.1)

read_again : (place count : ℕ) (rest : List ℕ) → place < 2 ^ 16 → IsNumber count → (not (eqb place NO_GENERATOR) || count == 0) ≡ true
    → generator_at ((to_be_bytes w16 place ++ to_be_bytes w64 count) ++ rest) ≡ Ok (made_of place count, rest)
unfolding generator_at
read_again place count rest lt is h =
    let regrouped : (to_be_bytes w16 place ++ to_be_bytes w64 count) ++ rest ≡ to_be_bytes w16 place ++ (to_be_bytes w64 count ++ rest) = append_assoc (to_be_bytes w16 place) (to_be_bytes w64 count) rest in
    ap generator_at regrouped ∙ rw (u16_is.again place (to_be_bytes w64 count ++ rest) lt, (count_is place).again count rest (is, h)) refl

generator_again : (g : Option Counted) (rest : List ℕ) → IsGenerator g → generator_at (generator g ++ rest) ≡ Ok (g, rest)
unfolding generator
generator_again None rest h = read_again NO_GENERATOR 0 rest (omega arith) (omega arith) refl
generator_again (Some g) rest h =
    let other : eqb g.processor NO_GENERATOR ≡ false = ne_eqb g.processor NO_GENERATOR (λ e. omega (arith, h.0, e)) in
    let passes : (not (eqb g.processor NO_GENERATOR) || g.count == 0) ≡ true = rw other refl in
    read_again g.processor g.count rest (omega (arith, h.0)) h.1 passes ∙ rw other refl

generator_is : IsField generator_at generator IsGenerator
generator_is = record { takes = generator_takes; again = generator_again }

-- ---- the values of entries

SessionParts : Type 0
SessionParts = ℕ × (ℕ × (List ℕ × (List ActiveFile × (ℕ × (ℕ × (ℕ × Option Counted))))))

session_parts : SessionEntry → SessionParts
unfolding SessionParts
session_parts s = (s.processor, (s.moment, (s.gone, (s.placed, (s.next_number, (s.next_arrival, (s.last_event, s.generator)))))))

pub session_is : IsField session_at session IsSession
unfolding session_at session counters session_parts SessionParts
session_is =
    let seven = pair_is number_at generator_at (to_be_bytes w64) generator IsNumber IsGenerator number_is generator_is in
    let six = pair_is number_at (number_at then generator_at) (to_be_bytes w64) _ IsNumber _ number_is seven in
    let five = pair_is number_at (number_at then number_at then generator_at) (to_be_bytes w64) _ IsNumber _ number_is six in
    let four = pair_is (listed_at active_file_at) (number_at then number_at then number_at then generator_at) (listed active_file) _ (AreListed IsActiveFile) _ (listed_is active_file_at active_file IsActiveFile active_file_is) five in
    let three = pair_is numbers_at (listed_at active_file_at then number_at then number_at then number_at then generator_at) numbers _ AreNumbers _ numbers_is four in
    let two = pair_is (uint_at w64) (numbers_at then listed_at active_file_at then number_at then number_at then number_at then generator_at) (to_be_bytes w64) _ IsMoment _ u64_is three in
    let one = pair_is (uint_at w16) (uint_at w64 then numbers_at then listed_at active_file_at then number_at then number_at then number_at then generator_at) (to_be_bytes w16) _ IsPlace _ u16_is two in
    made_is (λ s. record {
      processor = s.0;
      moment = s.1.0;
      gone = s.1.1.0;
      placed = s.1.1.1.0;
      next_number = s.1.1.1.1.0;
      next_arrival = s.1.1.1.1.1.0;
      last_event = s.1.1.1.1.1.1.0;
      generator = s.1.1.1.1.1.1.1;
    })
    session_parts
    (uint_at w16 then uint_at w64 then numbers_at then listed_at active_file_at then number_at then number_at then number_at then generator_at) _ session _ IsSession one
    (λ s. refl)
    (λ s. regroup8 (to_be_bytes w16 s.0) (to_be_bytes w64 s.1.0) (numbers s.1.1.0) (listed active_file s.1.1.1.0) (to_be_bytes w64 s.1.1.1.1.0) (to_be_bytes w64 s.1.1.1.1.1.0) (to_be_bytes w64 s.1.1.1.1.1.1.0) (generator s.1.1.1.1.1.1.1))
    (λ s h. record {
      processor = h.0;
      moment = h.1.0;
      gone = h.1.1.0;
      placed = h.1.1.1.0;
      next_number = h.1.1.1.1.0;
      next_arrival = h.1.1.1.1.1.0;
      last_event = h.1.1.1.1.1.1.0;
      generator = h.1.1.1.1.1.1.1;
    })
    (λ s h. (h.processor, (h.moment, (h.gone, (h.placed, (h.next_number, (h.next_arrival, (h.last_event, h.generator))))))))

expire_parts : ExpireEntry → ℕ × (ℕ × (List ℕ × ℕ))
expire_parts e = (e.connection, (e.moment, (e.numbers, e.last_event)))

pub expire_is : IsField expire_at expire IsExpire
unfolding expire_at expire expire_parts
expire_is =
    let three = pair_is numbers_at number_at numbers (to_be_bytes w64) AreNumbers IsNumber numbers_is number_is in
    let two = pair_is (uint_at w64) (numbers_at then number_at) (to_be_bytes w64) _ IsMoment _ u64_is three in
    let one = pair_is (uint_at w16) (uint_at w64 then numbers_at then number_at) (to_be_bytes w16) _ IsPlace _ u16_is two in
    made_is (λ e. record { connection = e.0; moment = e.1.0; numbers = e.1.1.0; last_event = e.1.1.1 }) expire_parts (uint_at w16 then uint_at w64 then numbers_at then number_at) _ expire _ IsExpire one
    (λ e. refl)
    (λ e. simp append_assoc)
    (λ e h. record { connection = h.0; moment = h.1.0; numbers = h.1.1.0; last_event = h.1.1.1 })
    (λ e h. (h.connection, (h.moment, (h.numbers, h.last_event))))

swap_out_parts : SwapOutEntry → ℕ × (ℕ × List ℕ)
swap_out_parts s = (s.connection, (s.batch, s.numbers))

pub swap_out_is : IsField swap_out_at swap_out IsSwapOut
unfolding swap_out_at swap_out swap_out_parts
swap_out_is =
    let two = pair_is number_at numbers_at (to_be_bytes w64) numbers IsNumber AreNumbers number_is numbers_is in
    let one = pair_is (uint_at w16) (number_at then numbers_at) (to_be_bytes w16) _ IsPlace _ u16_is two in
    made_is (λ s. record { connection = s.0; batch = s.1.0; numbers = s.1.1 }) swap_out_parts (uint_at w16 then number_at then numbers_at) _ swap_out _ IsSwapOut one
    (λ s. refl)
    (λ s. simp append_assoc)
    (λ s h. record { connection = h.0; batch = h.1.0; numbers = h.1.1 })
    (λ s h. (h.connection, (h.batch, h.numbers)))

-- ---- entries by kind

version_below : (version : ℕ) → is_version version ≡ true → version < 2 ^ 8
version_below version is = grind (arith, nat_tests)

limit_below : (second : Bool) (log : ℕ) → log < cond second (NUMBER_LIMIT + 1) NUMBER_LIMIT → log < 2 ^ 64
limit_below true log lt = omega arith
limit_below false log lt = omega arith

log_number_is : (version : ℕ) → IsField (log_number_at version) (to_be_bytes w64) (λ log. (log < 2 ^ 64) × IsTrue (nat_lt log (log_limit version)))
unfolding log_number_at
log_number_is version = such_is (λ log. nat_lt log (log_limit version)) (uint_at w64) (to_be_bytes w64) (λ log. log < 2 ^ 64) u64_is

begin_takes : (bytes : List ℕ) (x : LogEntry × List ℕ) → IsBytes bytes → begin_at bytes ≡ Ok x → Takes bytes (entry x.0) x.1 × IsEntryOf 1 x.0
unfolding begin_at entry
begin_takes bytes x fits e =
    let a = bind_ok (version_at bytes) (λ version. log_number_at version.0 version.1 >>= λ log. Ok (Begin version.0 log.0, log.1)) x e in
    let b = bind_ok (log_number_at a.0.0 a.0.1) (λ log. Ok (Begin a.0.0 log.0, log.1)) x a.2 in
    let version = version_is.takes bytes a.0 fits a.1 in
    let log = (log_number_is a.0.0).takes a.0.1 b.0 version.0.rest_fits b.1 in
    let both = Takes-then bytes (byte a.0.0) a.0.1 (to_be_bytes w64 b.0.0) b.0.1 version.0 log.0 in
    subst (λ (y : LogEntry × List ℕ). Takes bytes (entry y.0) y.1 × IsEntryOf 1 y.0) (ok_is (Begin a.0.0 b.0.0, b.0.1) x b.2)
    (both, ((version.1.1, ltb-true b.0.0 (log_limit a.0.0) log.1.1), refl))

begin_again : (e : LogEntry) (rest : List ℕ) → IsEntryOf 1 e → begin_at (entry e ++ rest) ≡ Ok (e, rest)
unfolding begin_at entry
begin_again (Begin version log) rest h =
    let regrouped : (byte version ++ to_be_bytes w64 log) ++ rest ≡ byte version ++ (to_be_bytes w64 log ++ rest) = append_assoc (byte version) (to_be_bytes w64 log) rest in
    let first = version_is.again version (to_be_bytes w64 log ++ rest) (version_below version h.0.0, h.0.0) in
    let second = (log_number_is version).again log rest (limit_below (eqb version 2) log h.0.1, lt-ltb log (log_limit version) h.0.1) in
    ap begin_at regrouped ∙ rw (first, second) refl
begin_again (Session s) rest h = absurd (omega (arith, h.1))
begin_again (Expire e) rest h = absurd (omega (arith, h.1))
begin_again (SwapOut s) rest h = absurd (omega (arith, h.1))
begin_again (SwapIn connection batch) rest h = absurd (omega (arith, h.1))
begin_again (Age line) rest h = absurd (omega (arith, h.1))

begin_is : IsField begin_at entry (IsEntryOf 1)
begin_is = record { takes = begin_takes; again = begin_again }

session_had : (e : LogEntry) → IsEntryOf 2 e → (s : SessionEntry) × IsSession s × (Session s ≡ e)
session_had (Begin version log) h = absurd (omega (arith, h.1))
session_had (Session s) h = (s, h.0, refl)
session_had (Expire e) h = absurd (omega (arith, h.1))
session_had (SwapOut s) h = absurd (omega (arith, h.1))
session_had (SwapIn connection batch) h = absurd (omega (arith, h.1))
session_had (Age line) h = absurd (omega (arith, h.1))

session_entry_is : IsField (made Session session_at) entry (IsEntryOf 2)
unfolding entry
session_entry_is = made_from (λ s. Session s) session_at session entry IsSession (IsEntryOf 2) session_is (λ s h. (refl, (h, refl))) session_had

expire_had : (e : LogEntry) → IsEntryOf 3 e → (s : ExpireEntry) × IsExpire s × (Expire s ≡ e)
expire_had (Begin version log) h = absurd (omega (arith, h.1))
expire_had (Session s) h = absurd (omega (arith, h.1))
expire_had (Expire e) h = (e, h.0, refl)
expire_had (SwapOut s) h = absurd (omega (arith, h.1))
expire_had (SwapIn connection batch) h = absurd (omega (arith, h.1))
expire_had (Age line) h = absurd (omega (arith, h.1))

expire_entry_is : IsField (made Expire expire_at) entry (IsEntryOf 3)
unfolding entry
expire_entry_is = made_from (λ e. Expire e) expire_at expire entry IsExpire (IsEntryOf 3) expire_is (λ s h. (refl, (h, refl))) expire_had

swap_out_had : (e : LogEntry) → IsEntryOf 4 e → (s : SwapOutEntry) × IsSwapOut s × (SwapOut s ≡ e)
swap_out_had (Begin version log) h = absurd (omega (arith, h.1))
swap_out_had (Session s) h = absurd (omega (arith, h.1))
swap_out_had (Expire e) h = absurd (omega (arith, h.1))
swap_out_had (SwapOut s) h = (s, h.0, refl)
swap_out_had (SwapIn connection batch) h = absurd (omega (arith, h.1))
swap_out_had (Age line) h = absurd (omega (arith, h.1))

swap_out_entry_is : IsField (made SwapOut swap_out_at) entry (IsEntryOf 4)
unfolding entry
swap_out_entry_is = made_from (λ s. SwapOut s) swap_out_at swap_out entry IsSwapOut (IsEntryOf 4) swap_out_is (λ s h. (refl, (h, refl))) swap_out_had

swap_in_had : (e : LogEntry) → IsEntryOf 5 e → (a : ℕ × ℕ) × (IsPlace a.0 × IsNumber a.1) × (SwapIn a.0 a.1 ≡ e)
swap_in_had (Begin version log) h = absurd (omega (arith, h.1))
swap_in_had (Session s) h = absurd (omega (arith, h.1))
swap_in_had (Expire e) h = absurd (omega (arith, h.1))
swap_in_had (SwapOut s) h = absurd (omega (arith, h.1))
swap_in_had (SwapIn connection batch) h = ((connection, batch), h.0, refl)
swap_in_had (Age line) h = absurd (omega (arith, h.1))

swap_in_is : IsField swap_in_at entry (IsEntryOf 5)
unfolding swap_in_at entry
swap_in_is = made_from (λ s. SwapIn s.0 s.1) (uint_at w16 then number_at) _ entry _ (IsEntryOf 5) (pair_is (uint_at w16) number_at (to_be_bytes w16) (to_be_bytes w64) IsPlace IsNumber u16_is number_is) (λ a h. (refl, (h, refl))) swap_in_had

age_had : (e : LogEntry) → IsEntryOf 7 e → (line : ℕ) × IsNumber line × (Age line ≡ e)
age_had (Begin version log) h = absurd (omega (arith, h.1))
age_had (Session s) h = absurd (omega (arith, h.1))
age_had (Expire e) h = absurd (omega (arith, h.1))
age_had (SwapOut s) h = absurd (omega (arith, h.1))
age_had (SwapIn connection batch) h = absurd (omega (arith, h.1))
age_had (Age line) h = (line, h.0, refl)

age_is : IsField age_at entry (IsEntryOf 7)
unfolding age_at entry
age_is = made_from (λ line. Age line) number_at (to_be_bytes w64) entry IsNumber (IsEntryOf 7) number_is (λ line h. (refl, (h, refl))) age_had

-- ---- all kinds

chosen_is : {A : Type 0} (b : Bool) (r t : Reading A) (s : A → List ℕ) (F : A → Type 0) → (b ≡ true → IsField r s F) → (b ≡ false → IsField t s F) → IsField (λ bytes. cond b (r bytes) (t bytes)) s F
chosen_is true r t s F then_is else_is = then_is refl
chosen_is false r t s F then_is else_is = else_is refl

of_kind : (kind k : ℕ) (r : Reading LogEntry) → IsField r entry (IsEntryOf k) → eqb kind k ≡ true → IsField r entry (IsEntryOf kind)
of_kind kind k r field e = subst (λ (n : ℕ). IsField r entry (IsEntryOf n)) (sym (eqb-true kind k e)) field

unread : Reading LogEntry
unread bytes = Err (length bytes)

no_kind : (kind : ℕ) → kind ≢ 1 → kind ≢ 2 → kind ≢ 3 → kind ≢ 4 → kind ≢ 5 → kind ≢ 7 → (e : LogEntry) → IsEntryOf kind e → ⊥
no_kind kind n1 n2 n3 n4 n5 n7 (Begin version log) h = n1 (sym h.1)
no_kind kind n1 n2 n3 n4 n5 n7 (Session s) h = n2 (sym h.1)
no_kind kind n1 n2 n3 n4 n5 n7 (Expire e) h = n3 (sym h.1)
no_kind kind n1 n2 n3 n4 n5 n7 (SwapOut s) h = n4 (sym h.1)
no_kind kind n1 n2 n3 n4 n5 n7 (SwapIn connection batch) h = n5 (sym h.1)
no_kind kind n1 n2 n3 n4 n5 n7 (Age line) h = n7 (sym h.1)

unread_is : (kind : ℕ) → ((e : LogEntry) → IsEntryOf kind e → ⊥) → IsField unread entry (IsEntryOf kind)
unfolding unread
unread_is kind none = record {
  takes = λ bytes x fits e. absurd cc;
  again = λ a rest h. absurd (none a h);
}

pub entry_is : (kind : ℕ) → IsField (entry_at kind) entry (IsEntryOf kind)
unfolding entry_at unread
entry_is kind =
    chosen_is (eqb kind 1) begin_at _ entry (IsEntryOf kind) (of_kind kind 1 begin_at begin_is) (λ n1.
    chosen_is (eqb kind 2) (made Session session_at) _ entry (IsEntryOf kind) (of_kind kind 2 (made Session session_at) session_entry_is) (λ n2.
    chosen_is (eqb kind 3) (made Expire expire_at) _ entry (IsEntryOf kind) (of_kind kind 3 (made Expire expire_at) expire_entry_is) (λ n3.
    chosen_is (eqb kind 4) (made SwapOut swap_out_at) _ entry (IsEntryOf kind) (of_kind kind 4 (made SwapOut swap_out_at) swap_out_entry_is) (λ n4.
    chosen_is (eqb kind 5) swap_in_at _ entry (IsEntryOf kind) (of_kind kind 5 swap_in_at swap_in_is) (λ n5.
    chosen_is (eqb kind 7) age_at unread entry (IsEntryOf kind) (of_kind kind 7 age_at age_is) (λ n7.
    unread_is kind (no_kind kind (eqb-false kind 1 n1) (eqb-false kind 2 n2) (eqb-false kind 3 n3) (eqb-false kind 4 n4) (eqb-false kind 5 n5) (eqb-false kind 7 n7))))))))
