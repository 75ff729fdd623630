-- What a stop leaves of a log while the entries of a block are added.
use Rattle.std.proofs.Common.{◌≡◌, ◌≢◌, ◌⊎◌, inl, inr, ℕ, ◌+◌, ◌<◌, List, [], ◌∷◌, ◌++◌, length, get_or, take, drop, sym, ◌∙◌, ap, subst, arith, append_assoc, length-append, length-take, take-append-drop}
use Rattle.std.proofs.lemmas.List.{append-nil, take_at, drop_at, take_all, drop_all, drop_more}
use Rattle.std.proofs.lemmas.Bool.{cases_eq}
use Rattle.disk_trait.specs.Files.{Overwritten, Torn}
use Rattle.record_codec.specs.Block.{block}
use Rattle.record_codec.specs.declared.entry.LogEntry.{LogEntry}
use Rattle.record_codec.specs.declared.log.TheConstants.{OPEN_GATE, CLOSED_GATE}
use Rattle.record_codec.specs.LogEntries.{log_of}
use Rattle.record_codec.proofs.Logs.{ends_shut, entries_more}
use Rattle.flowfile_wal.specs.Current.{CurrentLog, log_in}
use Rattle.flowfile_wal.specs.Steps.{SameLog, EndsClosed, IsClosedLog, IsFrame, MoreEntries, with_block}
use Rattle.flowfile_wal.proofs.Says.{says, same_log, more_log}

-- a closed gate behind so many bytes
pub ends_closed : (front : List ℕ) (end : ℕ) (bytes : List ℕ) → bytes ≡ front ++ CLOSED_GATE ∷ [] → length front ≡ end → EndsClosed end bytes
ends_closed front end bytes is long =
    is ∙ ap (λ (l : List ℕ). l ++ CLOSED_GATE ∷ []) (sym (ap (take end) is ∙ take_at front (CLOSED_GATE ∷ []) end long))

pub closed_length : (end : ℕ) (bytes : List ℕ) → EndsClosed end bytes → length bytes ≡ end + 1
closed_length end bytes closed = omega (arith, ap length closed, length-append (take end bytes) (CLOSED_GATE ∷ []), length-take end bytes)

module _ (log : CurrentLog) (bytes : List ℕ) (rest : IsClosedLog log bytes) where
  abbrev pub front : List ℕ
  front = take log.end bytes

  long : length bytes ≡ log.end + 1
  long = closed_length log.end bytes rest.closed

  long_front : length front ≡ log.end
  long_front = omega (arith, length-take log.end bytes, long)

  -- a log at rest says the same, whatever stands behind its last gate, unless the gate opens
  behind_shut : (c : List ℕ) (gate : ℕ) (behind : List ℕ) → gate ≢ OPEN_GATE → c ≡ front ++ gate ∷ behind → SameLog log.number bytes c
  behind_shut c gate behind isnt is =
      same_log log.number bytes log rest.counted rest.says c (gate ∷ behind) is
      (λ read reads end. ap (log_of log.version) is ∙ ap (λ (n : ℕ). log_of log.version (take n bytes ++ gate ∷ behind)) (sym end) ∙ ends_shut log.version bytes read gate behind reads isnt)

  pub behind_closed : (c behind : List ℕ) → c ≡ front ++ CLOSED_GATE ∷ behind → SameLog log.number bytes c
  behind_closed c behind is = behind_shut c CLOSED_GATE behind (λ e. absurd cc) is

  -- the block is written behind the closed gate
  pub torn_behind : (n : ℕ) (c : List ℕ) → Torn (log.end + 1) n bytes c → SameLog log.number bytes c
  torn_behind n c torn =
      let same : take (log.end + 1) c ≡ bytes = torn.front ∙ take_all (log.end + 1) bytes (omega (arith, long)) in
      let behind = drop (log.end + 1) c in
      let whole : c ≡ bytes ++ behind = sym (take-append-drop (log.end + 1) c) ∙ ap (λ (l : List ℕ). l ++ behind) same in
      behind_closed c behind (whole ∙ ap (λ (l : List ℕ). l ++ behind) rest.closed ∙ append_assoc front (CLOSED_GATE ∷ []) behind)

  pub written_behind : (bs c : List ℕ) → Overwritten (log.end + 1) bs bytes c → c ≡ front ++ CLOSED_GATE ∷ bs
  written_behind bs c over =
      over
      ∙ ap (λ (l : List ℕ). l ++ bs ++ drop (log.end + 1 + length bs) bytes) (take_all (log.end + 1) bytes (omega (arith, long)))
      ∙ ap (λ (l : List ℕ). bytes ++ bs ++ l) (drop_all (log.end + 1 + length bs) bytes (omega (arith, long)))
      ∙ append-nil (bytes ++ bs)
      ∙ ap (λ (l : List ℕ). l ++ bs) rest.closed
      ∙ append_assoc front (CLOSED_GATE ∷ []) bs

  module _ (entries : List LogEntry) (bs : List ℕ) (is_frame : IsFrame log.version entries bs) where
    -- the gate before the block opens
    pub opened_gate : (c : List ℕ) → c ≡ front ++ OPEN_GATE ∷ bs → IsClosedLog (with_block log entries (length bs)) c
    opened_gate c is =
        let last = block is_frame.kind is_frame.payload in
        let tail = OPEN_GATE ∷ (last ++ CLOSED_GATE ∷ []) in
        let opens : c ≡ front ++ tail = is ∙ ap (λ (l : List ℕ). front ++ OPEN_GATE ∷ l) is_frame.is in
        let long_frame : length bs ≡ length last + 1 = omega (arith, ap length is_frame.is, length-append last (CLOSED_GATE ∷ [])) in
        let more = more_log log.number bytes log rest.counted rest.says c tail entries (length last) opens
        (λ read reads end. ap (log_of log.version) opens ∙ ap (λ (n : ℕ). log_of log.version (take n bytes ++ tail)) (sym end)
        ∙ entries_more log.version bytes read is_frame.kind is_frame.payload entries reads is_frame.says is_frame.belong is_frame.small) in
        record {
          counted = more.0;
          says = more.1 ∙ ap (λ (n : ℕ). says (with_block log entries n)) (sym long_frame);
          closed = ends_closed (front ++ OPEN_GATE ∷ last) (log.end + length bs) c
              (opens ∙ sym (append_assoc front (OPEN_GATE ∷ last) (CLOSED_GATE ∷ [])))
              (omega (arith, length-append front (OPEN_GATE ∷ last), long_front, long_frame));
        }

    abbrev staged : List ℕ
    staged = front ++ CLOSED_GATE ∷ bs

    drop_staged : drop (log.end + 1) staged ≡ bs
    drop_staged =
        ap (drop (log.end + 1)) (sym (append_assoc front (CLOSED_GATE ∷ []) bs))
        ∙ drop_at (front ++ CLOSED_GATE ∷ []) bs (log.end + 1) (omega (arith, length-append front (CLOSED_GATE ∷ []), long_front))

    take_staged : take log.end staged ≡ front
    take_staged = take_at front (CLOSED_GATE ∷ bs) log.end long_front

    -- the gate is written
    pub torn_gate : (c : List ℕ) → Torn log.end 1 staged c → SameLog log.number bytes c ⊎ (c ≡ front ++ OPEN_GATE ∷ bs)
    torn_gate c torn =
        let gate = get_or c log.end 0 in
        let same : take log.end c ≡ front = torn.front ∙ take_staged in
        let there : log.end < length c = omega (arith, torn.no_shorter, length-append front (CLOSED_GATE ∷ bs), long_front) in
        let behind : drop log.end c ≡ gate ∷ bs = drop_more c log.end 0 there ∙ ap (λ (l : List ℕ). gate ∷ l) (torn.back ∙ drop_staged) in
        let whole : c ≡ front ++ gate ∷ bs =
        sym (take-append-drop log.end c) ∙ ap (λ (l : List ℕ). l ++ drop log.end c) same ∙ ap (λ (l : List ℕ). front ++ l) behind in
        elim (cases_eq gate OPEN_GATE) [
          | inl opens ↦ inr (whole ∙ ap (λ (g : ℕ). front ++ g ∷ bs) opens)
          | inr isnt ↦ inl (behind_shut c gate bs isnt whole)
        ]

    pub written_gate : (c : List ℕ) → Overwritten log.end (OPEN_GATE ∷ []) staged c → c ≡ front ++ OPEN_GATE ∷ bs
    written_gate c over =
        over
        ∙ ap (λ (l : List ℕ). l ++ (OPEN_GATE ∷ []) ++ drop (log.end + 1) staged) take_staged
        ∙ ap (λ (l : List ℕ). front ++ (OPEN_GATE ∷ []) ++ l) drop_staged
        ∙ append_assoc front (OPEN_GATE ∷ []) bs

-- bytes are one log
one_log : (number : ℕ) (bytes : List ℕ) (a b : CurrentLog) → log_in number bytes ≡ says a → log_in number bytes ≡ says b → a ≡ b
one_log number bytes a b one other = let same : says a ≡ says b = sym one ∙ other in cc

-- the log with the entries, of whichever log these bytes are
pub has_more : (log : CurrentLog) (bytes : List ℕ) → IsClosedLog log bytes → (entries : List LogEntry) (bs : List ℕ) → IsFrame log.version entries bs → (c : List ℕ) → c ≡ take log.end bytes ++ OPEN_GATE ∷ bs
    → MoreEntries log.number entries (length bs) bytes c
has_more log bytes rest entries bs is_frame c is = λ other numbered at_rest.
    let same : log ≡ other = one_log log.number bytes log other rest.says (subst (λ (n : ℕ). log_in n bytes ≡ says other) numbered at_rest.says) in
    subst (λ (l : CurrentLog). IsClosedLog (with_block l entries (length bs)) c) same (opened_gate log bytes rest entries bs is_frame c is)
