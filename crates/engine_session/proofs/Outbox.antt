-- What a session sends is what the outbox has behind it.
use Rattle.std.proofs.Common.{◌≡◌, ⊎_elim, ℕ, ◌≤◌, true, List, [], ◌∷◌, ◌++◌, length, map, refl, sym, ◌∙◌, ap, subst, arith}
use Rattle.std.specs.Prelude.{All, Contains, IfSome, MatchOption, Option, None, Some, is_some, sum_by, unwrap_or}
use Rattle.std.proofs.lemmas.Bool.{false≢true, le-leb}
use Rattle.std.proofs.lemmas.List.Elements.{All-contains, All-head}
use Rattle.std.proofs.lemmas.List.{append-nil}
use Rattle.std.proofs.lemmas.List.Sums.{sum_by-cons}
use Rattle.flowfile_record.specs.NamedFile.{NamedFile, with_file}
use Rattle.flowfile_record.specs.Stored.{Kept}
use Rattle.flowfile_record.specs.declared.TheConstants.{CONTENT_MAX}
use Rattle.flowfile_record.specs.declared.content.ContentRef.{ContentRef}
use Rattle.flowfile_record.specs.declared.flow_file.FlowFile.{FlowFile}
use Rattle.flowfile_record.specs.declared.worked.Outcome.{Outcome}
use Rattle.flowfile_record.specs.declared.worked.Sent.{Sent}
use Rattle.record_codec.specs.ActiveFile.{active}
use Rattle.checkpoint_store.specs.Consistent.{IsConsistent, IsFileIn}
use Rattle.machine_model.specs.declared.flow.Flow.{Flow}
use Rattle.machine_model.specs.declared.journal.Step.{Step}
use Rattle.machine_model.specs.declared.kind.Conflict.{Conflict}
use Rattle.machine_model.specs.declared.kind.Kind.{Kind}
use Rattle.machine_model.specs.declared.kind.Kind.TheVariants.{PutFile}
use Rattle.machine_model.specs.Acting.{act, name_in}
use Rattle.machine_model.specs.Placing.{EndedSession}
use Rattle.machine_model.specs.State.{Machine, QueuedFile}
use Rattle.machine_model.specs.Stepping.{as_taken, session_after}
use Rattle.process_session.specs.Bench.{taken_source}
use Rattle.process_session.specs.declared.file.Source.{Source}
use Rattle.settlement.specs.Contents.{source_bytes}
use Rattle.engine_session.specs.Handing.{AreReadOf, files_fit_a_content, taken_with_contents}
use Rattle.run_law.specs.Laws.{OtherSessionsPutNone, PutsSendTheTakenBytes}
use Rattle.run_law.specs.Puts.{IsPutBy, Outgoing, files_sent, puts_of_step}
use Rattle.run_law.specs.Run.{IsPutStep}
use Rattle.engine_session.specs.Change.{IsSentBy, with_sending}
use Rattle.engine_session.specs.Sending.{sending_of}
use Rattle.engine_session.proofs.Sends.{sends_or_puts}

-- ---- the one file that was taken

-- one file's content is read
fits_alone : (k : Kept) (connection : ℕ) (file : FlowFile) → IsConsistent k → All (λ f. Contains k.files (active connection f)) (file ∷ []) → files_fit_a_content (file ∷ []) ≡ true
fits_alone k connection file consistent there =
    let size : file.content.size ≤ CONTENT_MAX =
    (All-contains (IsFileIn k) k.files (active connection file) consistent.files (All-head (λ f. Contains k.files (active connection f)) file [] there)).encoded.file.content.size in
    le-leb (sum_by (λ (f : FlowFile). f.content.size) (file ∷ [])) CONTENT_MAX (omega (arith, size, sum_by-cons (λ (f : FlowFile). f.content.size) file []))

-- a file is the only one that was taken, and its content was read
pub record IsAlone (store connection : ℕ) (k : Kept) (bytes : ContentRef → List ℕ) (files : List FlowFile) (contents : List (Option (List ℕ))) : Type 0 where
  pub file : FlowFile
  pub is : files ≡ file ∷ []
  pub read : source_bytes (map taken_source (taken_with_contents store files contents)) 0 ≡ bytes file.content

all_read : (content : List ℕ) (read : Option (List ℕ)) → is_some read ≡ true → IfSome read (λ r. r ≡ content) → unwrap_or read [] ≡ content
all_read content None filled is = absurd (false≢true filled)
all_read content (Some read) filled is = is

pub alone : (store connection : ℕ) (k : Kept) (bytes : ContentRef → List ℕ) (files : List FlowFile) (contents : List (Option (List ℕ))) → IsConsistent k
    → All (λ file. Contains k.files (active connection file)) files → AreReadOf bytes (files_fit_a_content files) files contents → length (taken_with_contents store files contents) ≡ 1
    → IsAlone store connection k bytes files contents
alone store connection k bytes [] [] consistent there read one = absurd (omega (arith, one))
alone store connection k bytes [] (read ∷ contents) consistent there are one = absurd are
alone store connection k bytes (file ∷ files) [] consistent there are one = absurd are
alone store connection k bytes (file ∷ []) (read ∷ []) consistent there are one = record {
  file = file;
  is = refl;
  read = all_read (bytes file.content) read (are.0.filled ∙ fits_alone k connection file consistent there) are.0.is;
}
alone store connection k bytes (file ∷ []) (read ∷ more ∷ contents) consistent there are one = absurd are.1
alone store connection k bytes (file ∷ other ∷ files) (read ∷ []) consistent there are one = absurd are.1
alone store connection k bytes (file ∷ other ∷ files) (read ∷ more ∷ contents) consistent there are one = absurd (omega (arith, one))

-- ---- the outbox

-- a PutFile took a file alone, whose bytes are these: its session puts it under its name
pub record IsPutOf (flow : Flow) (machine : Machine) (one : Step) (session : EndedSession) (sources : List Source) : Type 0 where
  pub file : QueuedFile
  pub taken : session.taken ≡ file ∷ []
  pub bytes : source_bytes sources 0 ≡ file.bytes
  pub puts : (name : List ℕ) → name_in file.attributes ≡ Some name → IsPutStep flow machine one name

-- what is sent is put into the outbox, by this session of a PutFile
pub record IsSent (flow : Flow) (machine : Machine) (one : Step) (session : EndedSession) (outcome : Outcome) (sources : List Source) : Type 0 where
  pub outbox : (out : Outgoing) → out.standing ≡ machine.world.outbox → IsPutBy flow machine one (session_after machine session outcome) out (with_sending (sending_of outcome.sent sources) out)
  pub sent : IsSentBy flow machine one (sending_of outcome.sent sources)

module _ (none : OtherSessionsPutNone) (puts : PutsSendTheTakenBytes) (flow : Flow) (machine : Machine) (one : Step) (session : EndedSession) (outcome : Outcome) (sources : List Source)
    (is_put : puts_of_step flow machine one ≡ files_sent session outcome outcome.sent) where
  abbrev after : Machine
  after = session_after machine session outcome

  abbrev SendsSo : Option Sent → Type 0
  SendsSo sent = ((out : Outgoing) → out.standing ≡ machine.world.outbox → IsPutBy flow machine one after out (with_sending (sending_of sent sources) out)) × IsSentBy flow machine one (sending_of sent sources)

  -- it sends nothing
  unsent : outcome.sent ≡ None → after.world.outbox ≡ machine.world.outbox → SendsSo None
  unsent is same = (
    λ out stands. record {
      standing = stands ∙ sym same;
      puts = sym (ap (λ (l : List NamedFile). out.puts ++ l) (is_put ∙ ap (files_sent session outcome) is) ∙ append-nil out.puts);
    },
    tt,
  )

  nothing : outcome.sent ≡ None → SendsSo outcome.sent
  nothing is = subst SendsSo (sym is) (unsent is (none machine session outcome is))

  by_sent : (of : IsPutOf flow machine one session sources) (sent : Option Sent) → outcome.sent ≡ sent
      → MatchOption sent (after.world.outbox ≡ machine.world.outbox)
      (λ s. (name_in of.file.attributes ≡ Some s.name) × (after.world.outbox ≡ with_file machine.world.outbox s.name of.file.bytes) × (files_sent session outcome (Some s) ≡ record { name = s.name; bytes = of.file.bytes } ∷ []))
      → SendsSo sent
  by_sent of None is same = unsent is same
  by_sent of (Some sent) is put = (
    λ out stands. record {
      standing =
          ap (λ (o : List ℕ → Option (List ℕ)). with_file o sent.name (source_bytes sources 0)) stands
          ∙ ap (with_file machine.world.outbox sent.name) of.bytes
          ∙ sym put.1;
      puts =
          ap (λ (bytes : List ℕ). out.puts ++ record { name = sent.name; bytes = bytes } ∷ []) of.bytes
          ∙ ap (λ (l : List NamedFile). out.puts ++ l) (sym (is_put ∙ ap (files_sent session outcome) is ∙ put.2));
    },
    of.puts sent.name put.0,
  )

  put_of : (conflict : Conflict) → session.processor.kind ≡ PutFile conflict → IsPutOf flow machine one session sources
      → act session.processor.kind (map (as_taken machine.state) session.taken) session.given ≡ Some outcome → SendsSo outcome.sent
  put_of conflict is of acts =
      by_sent of outcome.sent refl
      (puts machine session outcome conflict of.file of.taken
      (subst (λ (kind : Kind). act kind (as_taken machine.state of.file ∷ []) session.given ≡ Some outcome) is
      (subst (λ (taken : List QueuedFile). act session.processor.kind (map (as_taken machine.state) taken) session.given ≡ Some outcome) of.taken acts)))

  pub is_sent : act session.processor.kind (map (as_taken machine.state) session.taken) session.given ≡ Some outcome
      → ((conflict : Conflict) → session.processor.kind ≡ PutFile conflict → IsPutOf flow machine one session sources)
      → IsSent flow machine one session outcome sources
  is_sent acts of =
      let both : SendsSo outcome.sent = ⊎_elim
      nothing
      (λ (puts : (conflict : Conflict) × (session.processor.kind ≡ PutFile conflict)). put_of puts.0 puts.1 (of puts.0 puts.1) acts)
      (sends_or_puts session.processor.kind (map (as_taken machine.state) session.taken) session.given outcome acts) in
      record { outbox = both.0; sent = both.1 }
