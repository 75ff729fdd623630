-- What was taken stays such as it may be taken while its files live as they did.
use Rattle.std.proofs.Common.{◌≡◌, ℕ, ◌&&◌, List, [], ◌∷◌, map, refl, ap, ◌∙◌}
use Rattle.std.specs.Prelude.{All, option_map}
use Rattle.std.specs.List.{cons_option, list_all}
use Rattle.std.proofs.lemmas.List.Elements.{All-head, All-tail}
use Rattle.flowfile_record.specs.Stored.{Kept}
use Rattle.flowfile_record.specs.declared.flow_file.FlowFile.{FlowFile}
use Rattle.flowfile_record.specs.declared.stored.ActiveFile.{ActiveFile}
use Rattle.kept_state.specs.Fits.{active_of, are_active_in, is_in_connection}
use Rattle.machine_model.specs.declared.flow.Flow.{Flow}
use Rattle.machine_model.specs.declared.kind.Kind.{Kind}
use Rattle.machine_model.specs.Stepping.{admits, may_be_taken}
use Rattle.machine_model.specs.Kinds.{take_rule_of}
use Rattle.engine_queues.specs.Views.{view_of_kept}
use Rattle.engine_choice.specs.declared.choice.Taking.{Taking}
use Rattle.engine_choice.specs.declared.choice.Taking.TheVariants.{Files, Generate, Receive}
use Rattle.engine_choice.specs.Laws.{numbers_in}
use Rattle.engine_session.specs.Handing.{live_among}
use Rattle.engine_session.specs.Taken.{MayStillTake, TakenStays}

module _ (files before : List ActiveFile) where
  abbrev AreSame : List ℕ → Type 0
  AreSame numbers = All (λ number. active_of number files ≡ active_of number before) numbers

  active_same : (connection : ℕ) (numbers : List ℕ) → AreSame numbers → are_active_in files connection numbers ≡ are_active_in before connection numbers
  active_same connection [] same = refl
  active_same connection (n ∷ numbers) same =
      let here = All-head (λ number. active_of number files ≡ active_of number before) n numbers same in
      let rest = active_same connection numbers (All-tail (λ number. active_of number files ≡ active_of number before) n numbers same) in
      λ i. is_in_connection connection (here i) && rest i

  live_same : (numbers : List ℕ) → AreSame numbers → live_among files numbers ≡ live_among before numbers
  live_same [] same = refl
  live_same (n ∷ numbers) same =
      let here = All-head (λ number. active_of number files ≡ active_of number before) n numbers same in
      let rest = live_same numbers (All-tail (λ number. active_of number files ≡ active_of number before) n numbers same) in
      λ i. cons_option (option_map (λ (active : ActiveFile). active.file) (here i)) (rest i)

still_taken : (flow : Flow) (k after : Kept) (moment place : ℕ) (kind : Kind) (taking : Taking)
    → All (λ number. active_of number after.files ≡ active_of number k.files) (numbers_in taking)
    → MayStillTake flow k moment place kind taking → MayStillTake flow after moment place kind taking
still_taken flow k after moment place kind (Files connection numbers) same (other, is) =
    let live = live_same after.files k.files numbers same in (
      other,
      record {
        from = is.from;
        there = is.there;
        ends = is.ends;
        active = active_same after.files k.files connection numbers same ∙ is.active;
        distinct = is.distinct;
        each = ap (λ (files : List FlowFile). list_all (may_be_taken is.from moment) (map view_of_kept files)) live ∙ is.each;
        admitted = ap (λ (files : List FlowFile). admits (take_rule_of kind) is.from.order (map view_of_kept files)) live ∙ is.admitted;
      },
    )
still_taken flow k after moment place kind (Generate index) same is = is
still_taken flow k after moment place kind (Receive name) same is = is

pub taken-stays : TakenStays
taken-stays flow k after moment choice same takes = record {
  processor = takes.processor;
  there = takes.there;
  takes = still_taken flow k after moment choice.processor takes.processor.kind choice.taking same takes.takes;
}
