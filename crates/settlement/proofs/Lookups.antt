-- What a look-up finds, and what is told where it finds nothing.
use Rattle.std.proofs.Common.{◌≡◌, ℕ, zero, suc, ◌<◌, ◌≤◌, true, false, cond, List, [], ◌∷◌, length, get_or, refl, sym, ap, subst, ◌∙◌, arith}
use Rattle.std.specs.Prelude.{nat_lt, Some, None, OnOk, Result, slice_get}
use Rattle.std.specs.Option.{option_map_or}
use Rattle.std.proofs.lemmas.Bool.{ltb-true, ltb-false}
use Rattle.flowfile_record.specs.Outcome.{same_attributes}
use Rattle.flowfile_record.specs.declared.event.Event.{Event}
use Rattle.flowfile_record.specs.declared.event.EventKind.TheVariants as kind
use Rattle.flowfile_record.specs.declared.flow_file.FlowFile.{FlowFile}
use Rattle.flowfile_record.specs.declared.worked.Sent.{Sent}
use Rattle.settlement.specs.Telling.{AddsDrafts, ToldSession, Unnumbered, draft_alone, if_other, send_drafts}
use Rattle.settlement.specs.declared.file.EndedFile.{EndedFile}
use Rattle.settlement.proofs.AddedEvents.{adds-none}

past : {X : Type 0} (xs : List X) (i : ℕ) → length xs ≤ i → slice_get xs i ≡ None
past [] i h = refl
past (x ∷ xs) zero h = absurd (omega arith)
past (x ∷ xs) (suc i) h = past xs i (omega arith)

within : {X : Type 0} (xs : List X) (i : ℕ) (d : X) → i < length xs → slice_get xs i ≡ Some (get_or xs i d)
within [] i d h = absurd (omega arith)
within (x ∷ xs) zero d h = refl
within (x ∷ xs) (suc i) d h = within xs i d (omega arith)

pub none_at : {X : Type 0} (xs : List X) (i : ℕ) → false ≡ nat_lt i (length xs) → slice_get xs i ≡ None
none_at xs i h = past xs i (ltb-false i (length xs) (sym h))

pub some_at : {X : Type 0} (xs : List X) (i : ℕ) (x : X) → true ≡ nat_lt i (length xs) → x ≡ get_or xs i x → slice_get xs i ≡ Some x
some_at xs i x h is = within xs i x (ltb-true i (length xs) (sym h)) ∙ ap (λ y. Some y) (sym is)

-- ---- nothing is told

pub adds_nothing : (first : ℕ) (events : List Event) (drafts : List Unnumbered) → drafts ≡ [] → AddsDrafts first events drafts events
adds_nothing first events drafts none = rw none (adds-none first events)

pub sent_nowhere : (told : ToldSession) (put : Sent) → slice_get told.files put.place ≡ None → send_drafts told (Some put) ≡ []
sent_nowhere told put none = ap (λ found. option_map_or (λ file. draft_alone told kind.Send file put.name ∷ []) found []) none

pub same_is_silent : (told : ToldSession) (file : EndedFile) (taken : FlowFile) → same_attributes taken.attributes file.worked.attributes ≡ true → if_other told file (Some taken) ≡ []
same_is_silent told file taken same = ap (λ b. cond b [] (draft_alone told kind.AttributesModified file [] ∷ [])) same

-- other drafts that are the same
pub on_ok_told : {E : Type 0} (result : Result (Unit {0}) E) (first : ℕ) (old new : List Event) (drafts others : List Unnumbered) → drafts ≡ others → OnOk result (AddsDrafts first old drafts new) → OnOk result (AddsDrafts first old others new)
on_ok_told result first old new drafts others same told = subst (λ ds. OnOk result (AddsDrafts first old ds new)) same told

pub got_is : {X : Type 0} (xs : List X) (i : ℕ) (x other : X) → i < length xs → x ≡ get_or xs i x → slice_get xs i ≡ Some other → other ≡ x
got_is xs i x other h is found =
    let same : Some other ≡ Some (get_or xs i x) = sym found ∙ within xs i x h in
    let equal : other ≡ get_or xs i x = cc in
    equal ∙ sym is
