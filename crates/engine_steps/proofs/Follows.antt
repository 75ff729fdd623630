-- Inbox and outbox follow the journal.
use Rattle.std.proofs.Common.{◌≡◌, Bool, List, [], ◌∷◌, ◌++◌, length, sym, ap, ◌∙◌, arith, length-append}
use Rattle.std.specs.Prelude.{Err, IsErrOf, IsTrue, Option, Result}
use Rattle.flowfile_record.specs.NamedFile.{NamedFile}
use Rattle.machine_model.specs.declared.journal.Entry.{Entry}
use Rattle.run_law.specs.Puts.{Outgoing}
use Rattle.engine_session.specs.Change.{with_sending}
use Rattle.engine_session.specs.declared.change.Sending.{Sending}
use Rattle.engine_steps.specs.Commit.{DevicesFollow}
use Rattle.engine_steps.specs.declared.error.EngineError.{EngineError}

grown : (old new : List Entry) (entry : Entry) → new ≡ old ++ entry ∷ [] → new ≡ old → ⊥
grown old new entry is same = omega (arith, ap length same, ap length is, length-append old (entry ∷ []))

module _ {A : Type 0} (result : Result A EngineError) (in_tells out_tells : Bool) (sending : Option Sending) (old new : List Entry) (left now_left : List NamedFile) (out now_out : Outgoing) where
  abbrev Follows : Type 0
  Follows = DevicesFollow result in_tells out_tells sending old new left now_left out now_out

  -- all three are as they were
  pub follows_still : new ≡ old → (IsTrue in_tells → now_left ≡ left) → (IsTrue out_tells → now_out ≡ out) → Follows
  follows_still same left_is out_is = record { inbox = λ is. left_is; outbox = λ is well. out_is; sent = λ other. absurd (other same) }

  -- .. but that a put failed
  pub follows_put : result ≡ Err EngineError.Put → new ≡ old → (IsTrue in_tells → now_left ≡ left) → Follows
  follows_put put same left_is = record { inbox = λ is. left_is; outbox = λ is well. absurd (well put); sent = λ other. absurd (other same) }

  -- the session is in the journal
  pub follows_grown : (entry : Entry) → new ≡ old ++ entry ∷ [] → (IsTrue out_tells → now_out ≡ with_sending sending out) → Follows
  follows_grown entry is sent = record { inbox = λ same. absurd (grown old new entry is same); outbox = λ same. absurd (grown old new entry is same); sent = λ other. sent }

-- the same of an answer that fails at a put where this one does, behind calls that changed neither journal nor devices
pub follows_behind : {A B : Type 0} (first : Result A EngineError) (result : Result B EngineError) (in_tells out_tells : Bool) (sending : Option Sending) (old mid new : List Entry) (left mid_left now_left : List NamedFile) (out mid_out now_out : Outgoing)
    → (IsErrOf first EngineError.Put → IsErrOf result EngineError.Put) → mid ≡ old → mid_left ≡ left → mid_out ≡ out
    → DevicesFollow first in_tells out_tells sending mid new mid_left now_left mid_out now_out → DevicesFollow result in_tells out_tells sending old new left now_left out now_out
follows_behind first result in_tells out_tells sending old mid new left mid_left now_left out mid_out now_out put journal_is left_is out_is follow = record {
  inbox = λ same telling. follow.inbox (same ∙ sym journal_is) telling ∙ left_is;
  outbox = λ same well telling. follow.outbox (same ∙ sym journal_is) (λ failed. well (put failed)) telling ∙ out_is;
  sent = λ other telling. follow.sent (λ same. other (same ∙ journal_is)) telling ∙ ap (with_sending sending) out_is;
}
