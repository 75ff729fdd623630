-- What is in memory of a log, and the files that it stands for.
use Rattle.std.proofs.Common.{◌≡◌, ℕ, ◌+◌, ◌<◌, ◌≤◌, List, [], ◌∷◌, length, refl, sym, ◌∙◌, ap, subst, arith}
use Rattle.std.specs.Prelude.{Option, Some, Ok}
use Rattle.disk_trait.specs.Files.{Files, At, named}
use Rattle.disk_trait.specs.declared.file_name.FileKind.TheVariants.{Log}
use Rattle.record_codec.specs.Block.{block}
use Rattle.record_codec.specs.EntryEncoding.{entry as encoding, kind_of}
use Rattle.record_codec.specs.LogEntries.{ended, told, entries_found, log_with_more, log_of}
use Rattle.record_codec.specs.declared.block.TheConstants.{PAYLOAD_MAX}
use Rattle.record_codec.specs.declared.entry.LogEntry.{LogEntry}
use Rattle.record_codec.specs.declared.entry.LogEntry.TheVariants.{Begin}
use Rattle.record_codec.specs.declared.log.TheConstants.{OPEN_GATE, CLOSED_GATE}
use Rattle.record_codec.proofs.Blocks.{length-block, reading_of-block}
use Rattle.record_codec.proofs.BlockContents.{one_held}
use Rattle.record_codec.proofs.Logs.{entries_more}
use Rattle.flowfile_wal.specs.Calls.{InEach, RestInEach}
use Rattle.flowfile_wal.specs.Current.{CurrentLog, current_log, first_found}
use Rattle.flowfile_wal.specs.Steps.{LogState, IsCurrentIn, IsReadyIn, IsLogAt, IsClosedLog, IsClosedIn, IsBegunIn, RestsAt, MoreEntries, numbered_log, with_block}
use Rattle.flowfile_wal.proofs.Says.{ok, alone, says_of}
use Rattle.flowfile_wal.proofs.Appending.{ends_closed, closed_length}
use Rattle.flowfile_wal.proofs.Beginnings.{begun_counts}
use Rattle.flowfile_wal.proofs.Files.{said, current_is, closed_in, at_rest, with_one_block}

module _ (state : LogState) (number version gate : ℕ) (has : state.number ≡ Some number) (in_version : state.version ≡ version) (ends : state.end ≡ gate) (files : Files) where
  -- the current log, by what is in memory of it
  pub current_by : (is : IsCurrentIn state files) → current_log files ≡ said (Some (record { number = number; version = version; entries = is.entries; end = gate }))
  current_by is =
      is.current ∙ ap (λ (n : Option ℕ). said (numbered_log n state.version is.entries state.end)) has
      ∙ ap (λ (v : ℕ). said (numbered_log (Some number) v is.entries state.end)) in_version ∙ ap (λ (e : ℕ). said (numbered_log (Some number) version is.entries e)) ends

  pub log_at : IsCurrentIn state files → IsLogAt number gate (files (named Log number))
  log_at is =
      let of = current_is files (record { number = number; version = version; entries = is.entries; end = gate }) (current_by is) in
      record { version = version; entries = is.entries; counted = of.counted; says = of.says }

  -- the log that is ready, by what is in memory of it
  ready_is : (is : IsReadyIn state files) → is.log ≡ record { number = number; version = version; entries = is.log.entries; end = gate }
  ready_is is =
      let both : Some is.log.number ≡ Some number = sym is.number ∙ has in
      let numbers : is.log.number ≡ number = cc in
      ap (λ (n : ℕ). record { number = n; version = is.log.version; entries = is.log.entries; end = is.log.end }) numbers
      ∙ ap (λ (v : ℕ). record { number = number; version = v; entries = is.log.entries; end = is.log.end }) (sym is.version ∙ in_version)
      ∙ ap (λ (e : ℕ). record { number = number; version = version; entries = is.log.entries; end = e }) (sym is.end ∙ ends)

  pub rests_at : IsReadyIn state files → RestsAt number version gate (files (named Log number))
  rests_at is = record {
    entries = is.log.entries;
    rests = subst (λ (l : CurrentLog). IsClosedLog l (files (named Log l.number))) (ready_is is) (at_rest is.log files is.ready);
  }

-- its last gate is there
pub gate_there : (state : LogState) (number version gate : ℕ) → state.number ≡ Some number → state.version ≡ version → state.end ≡ gate → (files : Files) → IsReadyIn state files → gate < length (files (named Log number))
gate_there state number version gate has in_version ends files ready =
    let bytes = files (named Log number) in
    omega (arith, closed_length gate bytes (rests_at state number version gate has in_version ends files ready).rests.closed)

-- and so in all files that a stop may leave
pub rest_in_each : (state : LogState) (number version gate : ℕ) → state.number ≡ Some number → state.version ≡ version → state.end ≡ gate → (left : Files → Type 0) → InEach left (IsReadyIn state) → RestInEach number version gate left
rest_in_each state number version gate has in_version ends left ready = λ c is_left. rests_at state number version gate has in_version ends c (ready c is_left)

-- where the current log gets the entries of a block, the one in memory has them
pub ready_more : (state new : LogState) (number : ℕ) (entries : List LogEntry) (size : ℕ) (held c : Files) → state.number ≡ Some number → IsReadyIn state held
    → At (named Log number) (MoreEntries number entries size) held c → new.number ≡ state.number → new.version ≡ state.version → new.end ≡ state.end + size → IsReadyIn new c
ready_more state new number entries size held c has is more same alike longer =
    let both : Some number ≡ Some is.log.number = sym has ∙ is.number in
    let numbers : number ≡ is.log.number = cc in
    record {
      log = with_block is.log entries size;
      number = same ∙ is.number;
      version = alike ∙ is.version;
      end = longer ∙ ap (λ (e : ℕ). e + size) is.end;
      ready = with_one_block is.log entries size held c is.ready (subst (λ (n : ℕ). At (named Log n) (MoreEntries n entries size) held c) numbers more);
    }

begin_length : (version number : ℕ) → length (encoding (Begin version number)) ≡ 9
unfolding encoding
begin_length version number = refl

-- a log that has its Begin alone
pub begun_ready : (version number : ℕ) (files : Files) → IsBegunIn version number files → IsClosedIn (record { number = number; version = version; entries = []; end = 47 }) files
begun_ready version number files is =
    let begin = Begin version number in
    let last = block (kind_of begin) (encoding begin) in
    let bytes = files (named Log number) in
    let nine = begin_length version number in
    let long : length last ≡ 46 = omega (arith, length-block (kind_of begin) (encoding begin), nine) in
    let small : length (encoding begin) ≤ PAYLOAD_MAX = omega (arith, nine) in
    let holds = one_held begin is.encodes in
    let reads : log_of version bytes ≡ ok (log_with_more (ended 0) (begin ∷ []) (length last)) =
    ap (log_of version) is.bytes ∙ entries_more version [] (ended 0) (kind_of begin) (encoding begin) (begin ∷ []) refl holds refl small in
    let first : first_found bytes ≡ alone version number (length (encoding begin) + 37) =
    ap first_found is.bytes ∙ ap entries_found (reading_of-block (kind_of begin) (encoding begin) (CLOSED_GATE ∷ []) small) ∙ ap (told (length (encoding begin) + 37)) holds in
    closed_in (record { number = number; version = version; entries = []; end = 47 }) files is.current (record {
      counted = begun_counts version number bytes is.bytes;
      says = says_of number version bytes (length (encoding begin) + 37) (ok (log_with_more (ended 0) (begin ∷ []) (length last))) first is.known reads
          ∙ ap (λ (end : ℕ). Ok (record { number = number; version = version; entries = []; end = end })) (omega (arith, long));
      closed = ends_closed (OPEN_GATE ∷ last) 47 bytes is.bytes (omega (arith, long));
    })
