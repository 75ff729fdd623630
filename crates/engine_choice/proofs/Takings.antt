-- What a session takes, by the kind of its processor.
use Rattle.std.proofs.Common.{◌≡◌, ℕ, ◌+◌, ◌||◌, nat_lt, Bool, true, false, cond, List, get_or, refl, sym, ap, subst, ◌∙◌}
use Rattle.std.specs.Prelude.{Option, Some, None, option_map, slice_get, slice_index}
use Rattle.std.proofs.lemmas.Bool.{true≢false}
use Rattle.std.proofs.lemmas.Option.{get_or_from_slice_get}
use Rattle.expr_lang.specs.declared.syntax.Expr.{Expr}
use Rattle.machine_model.specs.declared.flow.Flow.{Flow}
use Rattle.machine_model.specs.declared.flow.Processor.{Processor}
use Rattle.machine_model.specs.declared.kind.Kind.{Kind}
use Rattle.machine_model.specs.declared.kind.Kind.TheVariants.{GetFile, GenerateFlowFile}
use Rattle.machine_model.specs.declared.pattern.Pattern.{Pattern}
use Rattle.machine_model.specs.Kinds.{is_source}
use Rattle.engine_choice.specs.declared.choice.Taking.{Taking}
use Rattle.engine_choice.specs.declared.choice.Taking.TheVariants.{Files, Generate, Receive}
use Rattle.engine_choice.specs.Choice.{Known, may_take, taking_by, taking_of}
use Rattle.engine_queues.specs.Listing.{first_passed}
use Rattle.engine_queues.specs.Picking.{first_pick}
use Rattle.engine_queues.specs.Waiting.{files_wait_for}
use Rattle.engine_queues.proofs.Waiting.{none-picked}

-- the item of a list that is read at a place
pub item-at : (processors : List Processor) (place : ℕ) (p : Processor) (read : List Processor) (at : ℕ) (d : Processor)
    → slice_get processors place ≡ Some p → read ≡ processors → at ≡ place → get_or read at d ≡ p
item-at processors place p read at d there same here =
    ap (λ l. get_or l at d) same ∙ ap (λ n. get_or processors n d) here ∙ get_or_from_slice_get processors place p d there

pub mapped-twice : {X Y Z : Type 0} (f : X → Y) (g : Y → Z) (o : Option X) → option_map (λ x. g (f x)) o ≡ option_map g (option_map f o)
mapped-twice f g None = refl
mapped-twice f g (Some x) = refl

-- ---- what may have something to take

-- a processor that is no source, and for which no files wait, has nothing to take
pub takes-nothing : (flow : Flow) (known : Known) (place : ℕ) (p : Processor) → may_take flow known.queues (place, p) ≡ false → taking_of flow known (place, p) ≡ None
takes-nothing flow known place p none =
    let parts = or_false (files_wait_for flow known.queues place) (is_source p.kind) none in
    by_kind p.kind (first_pick flow known.queues known.moment (place, p)) parts.1 (none-picked flow known.queues known.moment place p parts.0)
  where
    or_false : (a b : Bool) → (a || b) ≡ false → (a ≡ false) × (b ≡ false)
    or_false true b none = absurd (true≢false none)
    or_false false b none = (refl, none)

    by_kind : (kind : Kind) (pick : Option (ℕ × List ℕ)) → is_source kind ≡ false → pick ≡ None
        → taking_by kind known.coming (slice_index known.counts place) (slice_index known.busy place) pick ≡ None
    by_kind (GetFile filter) pick other none = absurd (true≢false other)
    by_kind (GenerateFlowFile count text) pick other none = absurd (true≢false other)
    by_kind kind pick other none = ap (option_map (λ (files : ℕ × List ℕ). Files files.0 files.1)) none

pub receives : (kind : Kind) (filter : Option Pattern) (names : List (List ℕ)) (made busy : ℕ) (pick : Option (ℕ × List ℕ)) (first : Option (List ℕ)) (taking : Option Taking)
    → kind ≡ GetFile filter → first ≡ first_passed kind names → taking ≡ option_map (λ name. Receive name) first → taking ≡ taking_by kind names made busy pick
receives kind filter names made busy pick first taking is found takes =
    let P : Kind → Type 0 = λ k. first ≡ first_passed k names → taking ≡ taking_by k names made busy pick in
    let here : P (GetFile filter) = λ found. takes ∙ ap (option_map (λ name. Receive name)) found in
    subst P (sym is) here found

pub generates : (kind : Kind) (count : ℕ) (text : Expr) (names : List (List ℕ)) (made busy : ℕ) (pick : Option (ℕ × List ℕ)) (taking : Option Taking)
    → kind ≡ GenerateFlowFile count text → taking ≡ cond (nat_lt (made + busy) count) (Some (Generate (made + 1))) None → taking ≡ taking_by kind names made busy pick
generates kind count text names made busy pick taking is takes =
    let P : Kind → Type 0 = λ k. taking ≡ taking_by k names made busy pick in
    let here : P (GenerateFlowFile count text) = takes in
    subst P (sym is) here

pub takes-picked : (kind : Kind) (names : List (List ℕ)) (made busy : ℕ) (pick : Option (ℕ × List ℕ)) (taking : Option Taking)
    → ((filter : Option Pattern) → kind ≡ GetFile filter → ⊥) → ((count : ℕ) (text : Expr) → kind ≡ GenerateFlowFile count text → ⊥)
    → taking ≡ option_map (λ files. Files files.0 files.1) pick → taking ≡ taking_by kind names made busy pick
takes-picked (GetFile filter) names made busy pick taking not_get not_made is = absurd (not_get filter refl)
takes-picked (GenerateFlowFile count text) names made busy pick taking not_get not_made is = absurd (not_made count text refl)
takes-picked kind names made busy pick taking not_get not_made is = is
