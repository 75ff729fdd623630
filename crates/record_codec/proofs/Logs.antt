-- How a log is read, gate by gate.
use Rattle.std.proofs.Common.{◌≡◌, ◌≢◌, ℕ, zero, suc, ◌+◌, ◌<◌, ◌≤◌, ◌==◌, ◌&&◌, ltb, cond, Bool, true, false, List, [], ◌∷◌, ◌++◌, length, length-append, length-drop, take, drop, get_or, refl, sym, ap, subst, ◌∙◌, append_assoc, Option, Some, None, arith}
use Rattle.std.specs.Prelude.{Result, Ok, Err}
use Rattle.std.proofs.lemmas.Bool.{and_parts, eqb-true, ltb-true}
use Rattle.std.proofs.lemmas.Bool.Decides.{nat_tests}
use Rattle.std.proofs.lemmas.List.{append-nil, drop_at, drop_more, length-take-le, take-take, take-append-drop}
use Rattle.std.specs.List.{list_all}
use Rattle.record_codec.specs.Block.{Reading, Whole, Cut, Long, Differs, block, reading_of}
use Rattle.record_codec.specs.BlockEntries.{entries_in}
use Rattle.record_codec.specs.LogEntries.{Cause, LogRead, LogDamage, ended, after, told, entries_found, belongs, of_version, entries_at, gated, behind_gate, log_from, log_of, IsFirstDamage, log_with_more}
use Rattle.record_codec.specs.declared.block.TheConstants.{PAYLOAD_MAX, BLOCK_OVERHEAD}
use Rattle.record_codec.specs.declared.entry.LogEntry.{LogEntry}
use Rattle.record_codec.specs.declared.log.TheConstants.{OPEN_GATE, CLOSED_GATE}
use Rattle.record_codec.proofs.Blocks.{length-block, reading_of-block, reading_of-longer, whole_fits}

abbrev pub Log : Type 0
Log = Result LogRead LogDamage

-- bytes that are passed over
pub passed_over : (version : ℕ) (passed at : ℕ) (bytes : List ℕ) → passed ≤ length bytes → log_from version passed at bytes ≡ log_from version 0 (at + passed) (drop passed bytes)
passed_over version zero at [] within = ap (λ (n : ℕ). Ok (ended n)) (omega arith)
passed_over version zero at (b ∷ bytes) within = ap (λ (n : ℕ). log_from version 0 n (b ∷ bytes)) (omega arith)
passed_over version (suc passed) at [] within = absurd (omega arith)
passed_over version (suc passed) at (b ∷ bytes) within =
    passed_over version passed (at + 1) bytes (omega arith) ∙ ap (λ (n : ℕ). log_from version 0 n (drop passed bytes)) (omega arith)

after_none : (log : Log) → after [] log ≡ log
after_none (Ok read) = refl
after_none (Err damage) = refl

after_after : (xs ys : List (ℕ × LogEntry)) (log : Log) → after xs (after ys log) ≡ after (xs ++ ys) log
after_after xs ys (Ok read) = ap (λ (es : List (ℕ × LogEntry)). Ok (record { entries = es; end = read.end })) (sym (append_assoc xs ys read.entries))
after_after xs ys (Err damage) = refl

-- a gate that isn't is_open, or that is the last byte, is the last
pub shut : (version : ℕ) (at gate : ℕ) (rest : List ℕ) → gate ≢ OPEN_GATE → log_from version 0 at (gate ∷ rest) ≡ Ok (ended at)
shut version at gate rest isnt = grind (arith, nat_tests)

pub last_byte : (version : ℕ) (at gate : ℕ) → log_from version 0 at (gate ∷ []) ≡ Ok (ended at)
last_byte version at gate = grind (arith, nat_tests)

-- an open gate with bytes behind it
pub opened : (version : ℕ) (at : ℕ) (rest : List ℕ) → 0 < length rest → log_from version 0 at (OPEN_GATE ∷ rest) ≡ behind_gate at (entries_at version rest) (λ size. log_from version size (at + 1) rest)
opened version at rest some = grind (arith, nat_tests)

-- what a test of a gate leaves
gate_test : (is_open : Bool) (a b c : Log) → is_open ≡ true → cond is_open a b ≡ a
gate_test true a b c is = refl
gate_test false a b c is = absurd cc

-- ---- what is found behind a gate

record Found (version : ℕ) (rest : List ℕ) (found : List LogEntry × ℕ) : Type 0 where
  kind : ℕ
  payload : List ℕ
  reads : reading_of rest ≡ Whole kind payload
  size : found.1 ≡ length payload + BLOCK_OVERHEAD
  says : entries_in kind payload ≡ Some found.0
  belong : list_all (belongs version) found.0 ≡ true

found_behind : Result (List LogEntry × ℕ) Cause → List LogEntry × ℕ → Type 0
found_behind result found = result ≡ Ok found

of_test : (version : ℕ) (rest : List ℕ) (kind : ℕ) (payload : List ℕ) (entries : List LogEntry) (found : List LogEntry × ℕ) (belong : Bool)
    → reading_of rest ≡ Whole kind payload → entries_in kind payload ≡ Some entries → list_all (belongs version) entries ≡ belong
    → found_behind (cond belong (Ok (entries, length payload + BLOCK_OVERHEAD)) (Err Cause.Form)) found → Found version rest found
unfolding found_behind
of_test version rest kind payload entries found true reads says is e =
    let same : (entries, length payload + BLOCK_OVERHEAD) ≡ found = cc in
    record {
      kind = kind;
      payload = payload;
      reads = reads;
      size = sym (ap (λ (x : List LogEntry × ℕ). x.1) same);
      says = says ∙ ap (λ (x : List LogEntry × ℕ). Some x.0) same;
      belong = ap (λ (x : List LogEntry × ℕ). list_all (belongs version) x.0) (sym same) ∙ is;
    }
of_test version rest kind payload entries found false reads says is e = absurd cc

of_told : (version : ℕ) (rest : List ℕ) (kind : ℕ) (payload : List ℕ) (entries : Option (List LogEntry)) (found : List LogEntry × ℕ)
    → reading_of rest ≡ Whole kind payload → entries_in kind payload ≡ entries → found_behind (of_version version (told (length payload + BLOCK_OVERHEAD) entries)) found
    → Found version rest found
unfolding found_behind
of_told version rest kind payload (Some entries) found reads says e = of_test version rest kind payload entries found (list_all (belongs version) entries) reads says refl e
of_told version rest kind payload None found reads says e = absurd cc

of_reading : (version : ℕ) (rest : List ℕ) (reading : Reading) (found : List LogEntry × ℕ) → reading_of rest ≡ reading → found_behind (of_version version (entries_found reading)) found
    → Found version rest found
unfolding found_behind
of_reading version rest (Whole kind payload) found is e = of_told version rest kind payload (entries_in kind payload) found is refl e
of_reading version rest (Cut need have) found is e = absurd cc
of_reading version rest (Long size) found is e = absurd cc
of_reading version rest (Differs stored sum) found is e = absurd cc

found_of : (version : ℕ) (rest : List ℕ) (found : List LogEntry × ℕ) → entries_at version rest ≡ Ok found → Found version rest found
unfolding found_behind
found_of version rest found e = of_reading version rest (reading_of rest) found refl e

-- A block that holds entries of the version is found.
pub holds : (version : ℕ) (bytes : List ℕ) (kind : ℕ) (payload : List ℕ) (entries : List LogEntry) → reading_of bytes ≡ Whole kind payload → entries_in kind payload ≡ Some entries
    → list_all (belongs version) entries ≡ true → entries_at version bytes ≡ Ok (entries, length payload + BLOCK_OVERHEAD)
holds version bytes kind payload entries reads says belong =
    ap (λ (r : Reading). of_version version (entries_found r)) reads
    ∙ ap (λ (es : Option (List LogEntry)). of_version version (told (length payload + BLOCK_OVERHEAD) es)) says
    ∙ ap (λ (b : Bool). behind (cond b (Ok (entries, length payload + BLOCK_OVERHEAD)) (Err Cause.Form))) belong
  where
    behind : Result (List LogEntry × ℕ) Cause → Result (List LogEntry × ℕ) Cause
    behind result = result

-- Entries are found whatever stands behind their block.
found_again : (version : ℕ) (rest more : List ℕ) (found : List LogEntry × ℕ) (n : ℕ) → Found version rest found → found.1 ≤ n → n ≤ length rest → entries_at version (take n rest ++ more) ≡ Ok found
found_again version rest more found n is le within =
    let reads = reading_of-longer rest more n is.kind is.payload is.reads (omega (arith, is.size)) within in
    holds version (take n rest ++ more) is.kind is.payload found.0 reads is.says is.belong ∙ ap (λ (k : ℕ). Ok (found.0, k)) (sym is.size)

found_within : (version : ℕ) (rest : List ℕ) (found : List LogEntry × ℕ) → Found version rest found → found.1 ≤ length rest
found_within version rest found is = omega (arith, is.size, whole_fits rest is.kind is.payload is.reads)

abbrev ok : LogRead → Log
ok read = Ok read

-- what is read of an open gate with an entry behind it, whatever stands behind the entry's block
found_first : (version : ℕ) (at gate : ℕ) (rest more : List ℕ) (found : List LogEntry × ℕ) (n : ℕ) → gate ≡ OPEN_GATE → Found version rest found → found.1 ≤ n → n ≤ length rest
    → log_from version 0 at (gate ∷ (take n rest ++ more)) ≡ after (gated at found.0) (log_from version found.1 (at + 1) (take n rest ++ more))
found_first version at gate rest more found n is_open is le within =
    let some : 0 < length (take n rest ++ more) = omega (arith, length-append (take n rest) more, length-take-le n rest within, is.size) in
    ap (λ (g : ℕ). log_from version 0 at (g ∷ (take n rest ++ more))) is_open
    ∙ opened version at (take n rest ++ more) some
    ∙ ap (λ (f : Result (List LogEntry × ℕ) Cause). behind_gate at f (λ size. log_from version size (at + 1) (take n rest ++ more))) (found_again version rest more found n is le within)

-- ---- what stands behind the last gate

-- The log goes on behind its last gate with what stands there.
record Ends (version : ℕ) (passed at : ℕ) (bytes more : List ℕ) (read : LogRead) : Type 0 where
  k : ℕ
  place : read.end ≡ at + k
  within : passed ≤ k
  most : k ≤ length bytes
  goes_on : log_from version passed at (take k bytes ++ more) ≡ after read.entries (log_from version 0 read.end more)

ends_here : (version : ℕ) (at : ℕ) (bytes more : List ℕ) (read : LogRead) → ok (ended at) ≡ ok read → Ends version 0 at bytes more read
ends_here version at bytes more read is =
    let same : ended at ≡ read = cc in
    subst (Ends version 0 at bytes more) same (record { k = 0; place = omega arith; within = omega arith; most = omega arith; goes_on = sym (after_none (log_from version 0 at more)) })

Later : (version : ℕ) (at : ℕ) (rest more : List ℕ) → Type 0
Later version at rest more = (size : ℕ) (r : LogRead) → size ≤ length rest → log_from version size (at + 1) rest ≡ ok r → Ends version size (at + 1) rest more r

ends_read : (version : ℕ) (at gate : ℕ) (rest more : List ℕ) (read : LogRead) (found : List LogEntry × ℕ) → Found version rest found → gate ≡ OPEN_GATE → Later version at rest more
    → (log : Log) → log_from version found.1 (at + 1) rest ≡ log → after (gated at found.0) log ≡ ok read → Ends version 0 at (gate ∷ rest) more read
unfolding Later
ends_read version at gate rest more read found is is_open later (Ok r) e whole =
    let rest_of = later found.1 r (found_within version rest found is) e in
    let same : record { entries = gated at found.0 ++ r.entries; end = r.end } ≡ read = cc in
    subst (Ends version 0 at (gate ∷ rest) more) same (record {
      k = suc rest_of.k;
      place = omega (arith, rest_of.place);
      within = omega arith;
      most = omega (arith, rest_of.most);
      goes_on = found_first version at gate rest more found rest_of.k is_open is rest_of.within rest_of.most ∙ ap (after (gated at found.0)) rest_of.goes_on ∙ after_after (gated at found.0) r.entries (log_from version 0 r.end more);
    })
ends_read version at gate rest more read found is is_open later (Err d) e whole = absurd cc

ends_found : (version : ℕ) (at gate : ℕ) (rest more : List ℕ) (read : LogRead) (found : Result (List LogEntry × ℕ) Cause) → entries_at version rest ≡ found → gate ≡ OPEN_GATE → Later version at rest more
    → behind_gate at found (λ size. log_from version size (at + 1) rest) ≡ ok read → Ends version 0 at (gate ∷ rest) more read
ends_found version at gate rest more read (Ok found) e is_open later whole = ends_read version at gate rest more read found (found_of version rest found e) is_open later (log_from version found.1 (at + 1) rest) refl whole
ends_found version at gate rest more read (Err cause) e is_open later whole = absurd cc

ends_gate : (version : ℕ) (at gate : ℕ) (rest more : List ℕ) (read : LogRead) (is_open : Bool) → ((gate == OPEN_GATE) && ltb 0 (length rest)) ≡ is_open → Later version at rest more
    → cond is_open (behind_gate at (entries_at version rest) (λ size. log_from version size (at + 1) rest)) (ok (ended at)) ≡ ok read → Ends version 0 at (gate ∷ rest) more read
ends_gate version at gate rest more read true test later whole = ends_found version at gate rest more read (entries_at version rest) refl (eqb-true gate OPEN_GATE (and_parts _ _ test).0) later whole
ends_gate version at gate rest more read false test later whole = ends_here version at (gate ∷ rest) more read whole

ends : (version : ℕ) (passed at : ℕ) (bytes more : List ℕ) (read : LogRead) → passed ≤ length bytes → log_from version passed at bytes ≡ ok read → Ends version passed at bytes more read
unfolding Later
ends version zero at [] more read within is = ends_here version at [] more read is
ends version (suc passed) at [] more read within is = absurd (omega arith)
ends version zero at (gate ∷ rest) more read within is = ends_gate version at gate rest more read ((gate == OPEN_GATE) && ltb 0 (length rest)) refl (λ size r w e. ends version size (at + 1) rest more r w e) is
ends version (suc passed) at (b ∷ rest) more read within is =
    let later = ends version passed (at + 1) rest more read (omega arith) is in
    record { k = suc later.k; place = omega (arith, later.place); within = omega (arith, later.within); most = omega (arith, later.most); goes_on = later.goes_on }

-- what a log says that goes on at its last gate
pub goes_on_with : (version : ℕ) (bytes more : List ℕ) (read : LogRead) → log_of version bytes ≡ ok read → log_of version (take read.end bytes ++ more) ≡ after read.entries (log_from version 0 read.end more)
goes_on_with version bytes more read is =
    let e = ends version 0 0 bytes more read (omega arith) is in
    ap (λ (n : ℕ). log_of version (take n bytes ++ more)) (omega (arith, e.place)) ∙ e.goes_on

nothing_more : (read : LogRead) → after read.entries (ok (ended read.end)) ≡ ok read
nothing_more read = ap (λ (es : List (ℕ × LogEntry)). ok (record { entries = es; end = read.end })) (append-nil read.entries)

pub ends_missing : (version : ℕ) (bytes : List ℕ) (read : LogRead) → log_of version bytes ≡ ok read → log_of version (take read.end bytes) ≡ ok read
ends_missing version bytes read is = ap (log_of version) (sym (append-nil (take read.end bytes))) ∙ goes_on_with version bytes [] read is ∙ nothing_more read

pub ends_last : (version : ℕ) (bytes : List ℕ) (read : LogRead) (gate : ℕ) → log_of version bytes ≡ ok read → log_of version (take read.end bytes ++ gate ∷ []) ≡ ok read
ends_last version bytes read gate is = goes_on_with version bytes (gate ∷ []) read is ∙ ap (after read.entries) (last_byte version read.end gate) ∙ nothing_more read

pub ends_shut : (version : ℕ) (bytes : List ℕ) (read : LogRead) (gate : ℕ) (behind : List ℕ) → log_of version bytes ≡ ok read → gate ≢ OPEN_GATE → log_of version (take read.end bytes ++ gate ∷ behind) ≡ ok read
ends_shut version bytes read gate behind is isnt = goes_on_with version bytes (gate ∷ behind) read is ∙ ap (after read.entries) (shut version read.end gate behind isnt) ∙ nothing_more read

-- ---- the entries of one block more

pub block_first : (version at kind : ℕ) (payload : List ℕ) (entries : List LogEntry) (rest : List ℕ) → entries_in kind payload ≡ Some entries → list_all (belongs version) entries ≡ true
    → length payload ≤ PAYLOAD_MAX
    → log_from version 0 at (OPEN_GATE ∷ (block kind payload ++ rest)) ≡ after (gated at entries) (log_from version 0 (at + 1 + length (block kind payload)) rest)
block_first version at kind payload entries rest says belong small =
    let b = block kind payload in
    let size : length b ≡ length payload + BLOCK_OVERHEAD = length-block kind payload in
    let some : 0 < length (b ++ rest) = omega (arith, length-append b rest, size) in
    opened version at (b ++ rest) some
    ∙ ap (λ (f : Result (List LogEntry × ℕ) Cause). behind_gate at f (λ n. log_from version n (at + 1) (b ++ rest))) (holds version (b ++ rest) kind payload entries (reading_of-block kind payload rest small) says belong)
    ∙ ap (λ (n : ℕ). after (gated at entries) (log_from version n (at + 1) (b ++ rest))) (sym size)
    ∙ ap (after (gated at entries)) (passed_over version (length b) (at + 1) (b ++ rest) (omega (arith, length-append b rest)) ∙ ap (log_from version 0 (at + 1 + length b)) (drop_at b rest (length b) refl))

pub entries_more : (version : ℕ) (bytes : List ℕ) (read : LogRead) (kind : ℕ) (payload : List ℕ) (entries : List LogEntry) → log_of version bytes ≡ ok read → entries_in kind payload ≡ Some entries
    → list_all (belongs version) entries ≡ true → length payload ≤ PAYLOAD_MAX
    → log_of version (take read.end bytes ++ OPEN_GATE ∷ (block kind payload ++ CLOSED_GATE ∷ [])) ≡ ok (log_with_more read entries (length (block kind payload)))
entries_more version bytes read kind payload entries is says belong small =
    let end = read.end + 1 + length (block kind payload) in
    goes_on_with version bytes (OPEN_GATE ∷ (block kind payload ++ CLOSED_GATE ∷ [])) read is
    ∙ ap (after read.entries) (block_first version read.end kind payload entries (CLOSED_GATE ∷ []) says belong small ∙ ap (after (gated read.end entries)) (last_byte version end CLOSED_GATE))
    ∙ ap (λ (es : List (ℕ × LogEntry)). ok (record { entries = read.entries ++ es; end = end })) (append-nil (gated read.end entries))

-- ---- the first damage

record Damaged (version : ℕ) (passed at : ℕ) (bytes : List ℕ) (d : LogDamage) : Type 0 where
  k : ℕ
  place : d.at ≡ at + k
  within : passed ≤ k
  before : LogRead
  sound : log_from version passed at (take k bytes) ≡ ok before
  ends : before.end ≡ d.at
  gate : get_or bytes k 0 ≡ OPEN_GATE
  behind : k + 1 < length bytes
  cause : entries_at version (drop (k + 1) bytes) ≡ Err d.cause

err : LogDamage → Log
err d = Err d

DamagedLater : (version : ℕ) (at : ℕ) (rest : List ℕ) (d : LogDamage) → Type 0
DamagedLater version at rest d = (size : ℕ) → size ≤ length rest → log_from version size (at + 1) rest ≡ err d → Damaged version size (at + 1) rest d

damaged_here : (version : ℕ) (at gate : ℕ) (rest : List ℕ) (cause : Cause) → entries_at version rest ≡ Err cause → gate ≡ OPEN_GATE → 0 < length rest → Damaged version 0 at (gate ∷ rest) (record { at = at; cause = cause })
damaged_here version at gate rest cause e is_open some = record {
  k = 0;
  place = omega arith;
  within = omega arith;
  before = ended at;
  sound = refl;
  ends = refl;
  gate = is_open;
  behind = omega arith;
  cause = e;
}

damaged_read : (version : ℕ) (at gate : ℕ) (rest : List ℕ) (d : LogDamage) (found : List LogEntry × ℕ) → Found version rest found → gate ≡ OPEN_GATE → DamagedLater version at rest d
    → (log : Log) → log_from version found.1 (at + 1) rest ≡ log → after (gated at found.0) log ≡ err d → Damaged version 0 at (gate ∷ rest) d
unfolding DamagedLater err
damaged_read version at gate rest d found is is_open later (Ok r) e whole = absurd cc
damaged_read version at gate rest d found is is_open later (Err c) e whole =
    let rest_of = later found.1 (found_within version rest found is) (e ∙ whole) in
    let n = rest_of.k in
    let none = append-nil (take n rest) in
    let next : suc n + 1 ≡ suc (n + 1) = omega arith in
    record {
      k = suc n;
      place = omega (arith, rest_of.place);
      within = omega arith;
      before = record { entries = gated at found.0 ++ rest_of.before.entries; end = rest_of.before.end };
      sound =
          ap (λ (l : List ℕ). log_from version 0 at (gate ∷ l)) (sym none)
          ∙ found_first version at gate rest [] found n is_open is rest_of.within (omega (arith, rest_of.behind))
          ∙ ap (λ (l : List ℕ). after (gated at found.0) (log_from version found.1 (at + 1) l)) none
          ∙ ap (after (gated at found.0)) rest_of.sound;
      ends = rest_of.ends;
      gate = rest_of.gate;
      behind = omega (arith, rest_of.behind);
      cause = ap (λ (m : ℕ). entries_at version (drop m (gate ∷ rest))) next ∙ rest_of.cause;
    }

damaged_found : (version : ℕ) (at gate : ℕ) (rest : List ℕ) (d : LogDamage) (found : Result (List LogEntry × ℕ) Cause) → entries_at version rest ≡ found → gate ≡ OPEN_GATE → 0 < length rest → DamagedLater version at rest d
    → behind_gate at found (λ size. log_from version size (at + 1) rest) ≡ err d → Damaged version 0 at (gate ∷ rest) d
unfolding err
damaged_found version at gate rest d (Ok found) e is_open some later whole = damaged_read version at gate rest d found (found_of version rest found e) is_open later (log_from version found.1 (at + 1) rest) refl whole
damaged_found version at gate rest d (Err cause) e is_open some later whole =
    let same : record { at = at; cause = cause } ≡ d = cc in
    subst (Damaged version 0 at (gate ∷ rest)) same (damaged_here version at gate rest cause e is_open some)

damaged_gate : (version : ℕ) (at gate : ℕ) (rest : List ℕ) (d : LogDamage) (is_open : Bool) → ((gate == OPEN_GATE) && ltb 0 (length rest)) ≡ is_open → DamagedLater version at rest d
    → cond is_open (behind_gate at (entries_at version rest) (λ size. log_from version size (at + 1) rest)) (ok (ended at)) ≡ err d → Damaged version 0 at (gate ∷ rest) d
unfolding err
damaged_gate version at gate rest d true test later whole =
    damaged_found version at gate rest d (entries_at version rest) refl (eqb-true gate OPEN_GATE (and_parts _ _ test).0) (ltb-true 0 (length rest) (and_parts _ _ test).1) later whole
damaged_gate version at gate rest d false test later whole = absurd cc

damaged : (version : ℕ) (passed at : ℕ) (bytes : List ℕ) (d : LogDamage) → passed ≤ length bytes → log_from version passed at bytes ≡ err d → Damaged version passed at bytes d
unfolding DamagedLater err
damaged version zero at [] d within is = absurd cc
damaged version (suc passed) at [] d within is = absurd cc
damaged version zero at (gate ∷ rest) d within is = damaged_gate version at gate rest d ((gate == OPEN_GATE) && ltb 0 (length rest)) refl (λ size w e. damaged version size (at + 1) rest d w e) is
damaged version (suc passed) at (b ∷ rest) d within is =
    let later = damaged version passed (at + 1) rest d (omega arith) is in
    let next : suc later.k + 1 ≡ suc (later.k + 1) = omega arith in
    record {
      k = suc later.k;
      place = omega (arith, later.place);
      within = omega (arith, later.within);
      before = later.before;
      sound = later.sound;
      ends = later.ends;
      gate = later.gate;
      behind = omega (arith, later.behind);
      cause = ap (λ (m : ℕ). entries_at version (drop m (b ∷ rest))) next ∙ later.cause;
    }

pub is_first : (version : ℕ) (bytes : List ℕ) (d : LogDamage) → log_of version bytes ≡ Err d → IsFirstDamage version bytes d
unfolding err
is_first version bytes d is =
    let it = damaged version 0 0 bytes d (omega arith) is in
    let place : it.k ≡ d.at = omega (arith, it.place) in
    record {
      before = it.before;
      sound = ap (λ (n : ℕ). log_of version (take n bytes)) (sym place) ∙ it.sound;
      ends = it.ends;
      gate = ap (λ (n : ℕ). get_or bytes n 0) (sym place) ∙ it.gate;
      behind = omega (arith, place, it.behind);
      cause = ap (λ (n : ℕ). entries_at version (drop (n + 1) bytes)) (sym place) ∙ it.cause;
    }

-- the bytes from an open gate on that no entry stands behind
damaged_from : (version : ℕ) (at : ℕ) (bytes : List ℕ) (cause : Cause) → at + 1 < length bytes → get_or bytes at 0 ≡ OPEN_GATE → entries_at version (drop (at + 1) bytes) ≡ Err cause
    → log_from version 0 at (drop at bytes) ≡ err (record { at = at; cause = cause })
unfolding err
damaged_from version at bytes cause behind gate e =
    let rest = drop (at + 1) bytes in
    let some : 0 < length rest = omega (arith, length-drop (at + 1) bytes) in
    ap (log_from version 0 at) (drop_more bytes at 0 (omega arith))
    ∙ ap (λ (g : ℕ). log_from version 0 at (g ∷ rest)) gate
    ∙ opened version at rest some
    ∙ ap (λ (f : Result (List LogEntry × ℕ) Cause). behind_gate at f (λ size. log_from version size (at + 1) rest)) e

-- The first damage is what the log says.
pub first_is_told : (version : ℕ) (bytes : List ℕ) (d : LogDamage) → IsFirstDamage version bytes d → log_of version bytes ≡ Err d
unfolding err
first_is_told version bytes d is =
    let at = d.at in
    let front = take at bytes in
    let whole : take is.before.end front ++ drop at bytes ≡ bytes =
    ap (λ (n : ℕ). take n front ++ drop at bytes) is.ends ∙ ap (λ (l : List ℕ). l ++ drop at bytes) (take-take at at bytes (omega arith)) ∙ take-append-drop at bytes in
    ap (log_of version) (sym whole)
    ∙ goes_on_with version front (drop at bytes) is.before is.sound
    ∙ ap (λ (n : ℕ). after is.before.entries (log_from version 0 n (drop at bytes))) is.ends
    ∙ ap (after is.before.entries) (damaged_from version at bytes d.cause is.behind is.gate is.cause)
