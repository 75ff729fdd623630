-- The queues of a flow show what is kept, and files that hold it have each content in its size.
use Rattle.std.proofs.Common.{◌≡◌, ℕ, ◌+◌, ◌≤◌, ◌==◌, ltb, Bool, true, false, cond, List, [], ◌∷◌, map, length, drop, take, refl, sym, ap, subst, ◌∙◌, inl, inr, arith, length-drop}
use Rattle.std.specs.Prelude.{All, Option, None, Some, filter, nat_lt}
use Rattle.std.specs.Option.{option_map_or}
use Rattle.std.proofs.lemmas.List.{length-take-le}
use Rattle.std.proofs.lemmas.List.Elements.{All-nil, All-cons}
use Rattle.std.proofs.lemmas.Option.{slice_get_cases, slice_get_past}
use Rattle.disk_trait.specs.Files.{Files}
use Rattle.disk_trait.specs.declared.damage.Damage.{Damage}
use Rattle.flowfile_record.specs.Stored.{Kept}
use Rattle.flowfile_record.specs.declared.content.ContentRef.{ContentRef}
use Rattle.flowfile_record.specs.declared.stored.ActiveFile.{ActiveFile}
use Rattle.checkpoint_store.specs.Consistent.{IsConsistent}
use Rattle.content_repo.specs.Claims.{claim, content_in}
use Rattle.content_repo.specs.Slots.{end_of}
use Rattle.machine_model.specs.declared.flow.Flow.{Flow}
use Rattle.machine_model.specs.Files.{queues_of}
use Rattle.machine_model.specs.View.{FileView, QueueView}
use Rattle.flow_queue.specs.Queue.{QueueState, queue_as_seen, seen_batch, views_of}
use Rattle.store_core.specs.State.{contents_damage, digest_damage, first_damage, state_with}
use Rattle.engine_queues.specs.Laws.{HeldContentsHaveSizes, QueuesAreSeen, QueuesShowKept, SeesTheSame}
use Rattle.engine_queues.specs.Beside.{beside, file_beside, queue_beside}
use Rattle.engine_queues.specs.Queues.{AreQueuesOf, held_beside, queue_seen}
use Rattle.engine_queues.specs.Views.{kept_queues, view_of_kept}
use Rattle.engine_queues.proofs.KeptQueues.{kept-seen, none_there}

-- ---- queues in memory

held_views : (out : List ℕ) (files : List ActiveFile) → views_of (map (held_beside out) files) ≡ map (file_beside out) (map (λ a. view_of_kept a.file) files)
held_views out [] = refl
held_views out (a ∷ files) = ap (λ (views : List FileView). file_beside out (view_of_kept a.file) ∷ views) (held_views out files)

abbrev empty_queue : QueueView
empty_queue = record { active = []; batches = [] }

shown_at : (flow : Flow) (k : Kept) (out : List ℕ) (queues : List QueueState) (place : ℕ) → IsConsistent k → length k.connections ≡ length flow.connections → AreQueuesOf flow k out queues
    → queue_seen queues place ≡ queue_beside out (kept_queues k place)
shown_at flow k out queues place is count are = elim (slice_get_cases flow.connections place).1 [
  | inl there ↦ elim (slice_get_cases queues place).1 [
    | inl found ↦
        let files = (are.each place there.0 found.0 there.2 found.2).files in
        let none = (are.each place there.0 found.0 there.2 found.2).batches in
        let views = ap views_of files ∙ held_views out (filter (λ a. a.connection == place) k.files) in
        ap (λ (queue : Option QueueState). option_map_or queue_as_seen queue empty_queue) found.2 ∙ (λ i. record { active = views i; batches = map seen_batch (none i) })
    | inr past ↦ absurd (omega (arith, there.1, past.0, are.count))
  ]
  | inr past ↦
      ap (λ (queue : Option QueueState). option_map_or queue_as_seen queue empty_queue) (slice_get_past queues place (omega (arith, past.0, are.count)))
      ∙ sym (ap (λ (files : List ActiveFile). record { active = map (file_beside out) (map (λ a. view_of_kept a.file) files); batches = [] }) (none_there k place is (omega (arith, past.0, count))))
]

pub queues-shown : QueuesShowKept
queues-shown flow k out queues is count are = λ i place. shown_at flow k out queues place is count are i

pub queues-seen : QueuesAreSeen
queues-seen flow contents events k out queues is sizes count are =
    subst (λ (views : ℕ → QueueView). SeesTheSame flow views (beside out (queues_of (state_with contents events k)))) (sym (queues-shown flow k out queues is count are))
    (kept-seen flow contents events k out is sizes)

-- ---- contents

abbrev sound : Option Damage
sound = None

covered : (short : Bool) (damage : Damage) (rest : Option Damage) → cond short (Some damage) rest ≡ sound → short ≡ false
covered true damage rest is = absurd cc
covered false damage rest is = refl

first_sound : (one other : Option Damage) → first_damage one other ≡ sound → (one ≡ sound) × (other ≡ sound)
first_sound None other is = (refl, is)
first_sound (Some damage) other is = absurd cc

not_below : (m n : ℕ) → ltb m n ≡ false → n ≤ m
not_below m n is = grind arith

has_size : (bytes : List ℕ) (offset size : ℕ) → offset + size ≤ length bytes → length (take size (drop offset bytes)) ≡ size
has_size bytes offset size le = length-take-le size (drop offset bytes) (omega (arith, le, length-drop offset bytes))

have_sizes : (files : Files) (contents : List ContentRef) → contents_damage files contents ≡ sound → All (λ at. length (content_in files at) ≡ at.size) contents
have_sizes files [] is = All-nil (λ at. length (content_in files at) ≡ at.size)
have_sizes files (at ∷ contents) is =
    let parts = first_sound _ (contents_damage files contents) is in
    let bytes = files (claim at.slot) in
    let whole = not_below (length bytes) (end_of at) (covered (nat_lt (length bytes) (end_of at)) _ (digest_damage at (content_in files at)) parts.0) in
    All-cons (λ at. length (content_in files at) ≡ at.size) at contents (has_size bytes at.offset at.size whole) (have_sizes files contents parts.1)

pub held-sizes : HeldContentsHaveSizes
held-sizes s files holds = have_sizes files _ holds.contents
