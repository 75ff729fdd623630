-- What stands in the outbox behind a step and behind a session.
use Rattle.std.proofs.Common.{◌≡◌, ℕ, Bool, true, false, List, [], ◌∷◌, map, refl, sym, ◌∙◌, ap, subst}
use Rattle.std.specs.Prelude.{Option, Some, None, MatchOption, slice_get, unwrap_or}
use Rattle.std.specs.Option.{option_map_or}
use Rattle.flowfile_record.specs.NamedFile.{with_file}
use Rattle.flowfile_record.specs.declared.worked.Outcome.{Outcome}
use Rattle.flowfile_record.specs.declared.worked.Sent.{Sent}
use Rattle.machine_model.specs.declared.journal.Step.TheVariants as entry
use Rattle.machine_model.specs.declared.kind.Conflict.{Conflict}
use Rattle.machine_model.specs.declared.kind.Conflict.TheVariants.{Replace, Ignore, Fail}
use Rattle.machine_model.specs.Acting.{name_in, put}
use Rattle.machine_model.specs.Making.{TakenFile, passed_on}
use Rattle.machine_model.specs.Placing.{EndedSession, SettledFile}
use Rattle.machine_model.specs.State.{Machine, QueuedFile, State, World}
use Rattle.machine_model.specs.Stepping.{as_taken, session_after, same_world}
use Rattle.run_law.specs.Laws.{OtherSessionsPutNone, PutsSendTheTakenBytes, QueuesLeaveTheWorld, SendingSessionsPutAFile}
use Rattle.run_law.specs.Puts.{files_sent}

-- ---- steps of queues

world_of : (world : World) (state : Option State) (after : Machine) → same_world world state ≡ Some after → after.world ≡ world
world_of world None after goes = absurd cc
world_of world (Some state) after goes = ap (λ (m : Machine). m.world) (sym (inside _ after goes))
  where
    inside : (a b : Machine) → ◌≡◌ {A = Option Machine} (Some a) (Some b) → a ≡ b
    inside a b e = cc

pub queue_steps : QueuesLeaveTheWorld
queue_steps flow before after (entry.Session processor numbers moment given) goes of = absurd of
queue_steps flow before after (entry.Expire connection numbers moment) goes of = world_of before.world _ after goes
queue_steps flow before after (entry.SwapOut connection numbers batch) goes of = world_of before.world _ after goes
queue_steps flow before after (entry.SwapIn connection batch) goes of = world_of before.world _ after goes
queue_steps flow before after (entry.Age line) goes of = world_of before.world _ after goes

-- ---- sessions

-- the outbox behind a session that sends this, if anything
abbrev outbox_with : Machine → EndedSession → Outcome → Option Sent → List ℕ → Option (List ℕ)
outbox_with machine session outcome sent = (session_after machine session (record outcome { sent = sent })).world.outbox

pub sends : SendingSessionsPutAFile
sends machine session outcome sent file is found =
    ap (outbox_with machine session outcome) is
    ∙ ap (λ (f : Option SettledFile). with_file machine.world.outbox sent.name (option_map_or (λ file. file.bytes) f [])) found

pub sends_none : OtherSessionsPutNone
sends_none machine session outcome is = ap (outbox_with machine session outcome) is

-- ---- PutFile

module _ (machine : Machine) (session : EndedSession) (file : QueuedFile) (taken : session.taken ≡ file ∷ []) where
  abbrev taken_file : TakenFile
  taken_file = as_taken machine.state file

  -- what is sent of an outcome, with the file's name or as nothing
  abbrev SendsSo : Option (List ℕ) → Outcome → Type 0
  SendsSo name outcome =
      MatchOption outcome.sent
      ((session_after machine session outcome).world.outbox ≡ machine.world.outbox)
      (λ sent. (name ≡ Some sent.name) × ((session_after machine session outcome).world.outbox ≡ with_file machine.world.outbox sent.name file.bytes)
      × (files_sent session outcome (Some sent) ≡ record { name = sent.name; bytes = file.bytes } ∷ []))

  -- the first file that was taken is that one
  out : (name : List ℕ) → SendsSo (Some name) (record { files = passed_on 0 file.attributes false 0 ∷ []; sent = Some (record { place = 0; name = name }) })
  out name = (
    refl,
    ap (λ (l : List QueuedFile). with_file machine.world.outbox name (unwrap_or (slice_get (map (λ f. f.bytes) l) 0) [])) taken,
    ap (λ (l : List QueuedFile). record { name = name; bytes = unwrap_or (slice_get (map (λ f. f.bytes) l) 0) [] } ∷ []) taken,
  )

  put_sends : (conflict : Conflict) (there : Bool) (name : Option (List ℕ)) → SendsSo name (put conflict there taken_file name)
  put_sends conflict there None = refl
  put_sends conflict false (Some name) = out name
  put_sends Replace true (Some name) = out name
  put_sends Ignore true (Some name) = refl
  put_sends Fail true (Some name) = refl

some_is : (a b : Outcome) → ◌≡◌ {A = Option Outcome} (Some a) (Some b) → a ≡ b
some_is a b e = cc

pub puts_send : PutsSendTheTakenBytes
puts_send machine session outcome conflict file taken acts =
    subst (SendsSo machine session file taken (name_in file.attributes)) (some_is _ outcome acts)
    (put_sends machine session file taken conflict session.given.there (name_in file.attributes))
