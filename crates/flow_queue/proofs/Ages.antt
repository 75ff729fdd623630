-- That no file has expired where the oldest one hasn't.
use Rattle.std.proofs.Common.{◌≡◌, inl, inr, ℕ, ◌-◌, ◌<◌, ◌≤◌, ◌==◌, not, nat_lt, nat_le, true, false, cond, List, [], ◌∷◌, length, map, slice_index_or, Some, refl, sym, ap, ◌∙◌, subst, arith}
use Rattle.std.specs.Prelude.{All}
use Rattle.std.specs.List.{AllPairs}
use Rattle.std.specs.Option.{option_map}
use Rattle.std.specs.declared.cmp.Ordering.TheVariants.{Less, Equal, Greater}
use Rattle.std.specs.Ordering.{is_lt, nat_cmp, ordering_then}
use Rattle.std.proofs.lemmas.Bool.{true≢false, and_cases, and_left, and_right, cases_lt, leb-false, le-ltb, lt-leb, ne_eqb}
use Rattle.std.proofs.lemmas.List.Elements.{All-nil, All-cons, All-head, All-tail, All-weaker}
use Rattle.std.proofs.lemmas.List.Sorted.{All-permutation, IsPermutation-sym}
use Rattle.flowfile_record.specs.NumberedItems.{item_of}
use Rattle.prioritizer.specs.Order.{order_cmp}
use Rattle.machine_model.specs.declared.flow.QueueLimits.{QueueLimits}
use Rattle.machine_model.specs.Order.{goes_before, in_order}
use Rattle.machine_model.specs.View.{FileView, is_expired}
use Rattle.machine_model.proofs.OnlyOrder.{Leads}
use Rattle.machine_model.proofs.Ordered.{in_order-permutes, pairs_head}
use Rattle.flow_queue.specs.declared.held.Held.{Held}
use Rattle.flow_queue.specs.declared.queue.ranked.Note.{Note}
use Rattle.flow_queue.specs.Picking.{expiring}
use Rattle.flow_queue.specs.Queue.{AreApart, held_number, held_view, views_of}
use Rattle.flow_queue.specs.Ranked.{IsRanked, noted_as}
use Rattle.flow_queue.proofs.Expiring.{expiring-over}
use Rattle.flow_queue.proofs.InOrder.{leads-all}
use Rattle.flow_queue.proofs.Ranks.{all-found}

-- ---- the order of ages

pub older : (one other : FileView) → goes_before [] one other ≡ true → one.entered ≤ other.entered
unfolding order_cmp
older one other leads =
    elim (cases_lt other.entered one.entered) [
      | inl lt ↦
          let before : nat_lt one.entered other.entered ≡ false = le-ltb one.entered other.entered (omega (arith, lt)) in
          let apart : (one.entered == other.entered) ≡ false = ne_eqb one.entered other.entered (λ is. omega (arith, lt, is)) in
          absurd (true≢false (sym leads ∙ (λ j. is_lt (ordering_then (cond (before j) Less (cond (apart j) Equal Greater)) (nat_cmp one.arrival other.arrival)))))
      | inr ge ↦ omega (arith, ge)
    ]

-- ---- files that haven't expired

abbrev pub Fresh : QueueLimits → ℕ → FileView → Type 0
Fresh limits moment file = is_expired limits.expiration moment file ≡ false

module _ (limits : QueueLimits) (moment : ℕ) where
  younger : (one other : FileView) → one.entered ≤ other.entered → Fresh limits moment one → Fresh limits moment other
  younger one other le fresh =
      elim (and_cases (nat_lt 0 limits.expiration) (nat_le limits.expiration (moment - one.entered)) fresh) [
        | inl never ↦ and_left (nat_lt 0 limits.expiration) (nat_le limits.expiration (moment - other.entered)) never
        | inr young ↦
            let lt : moment - one.entered < limits.expiration = leb-false limits.expiration (moment - one.entered) young in
            and_right (nat_lt 0 limits.expiration) (nat_le limits.expiration (moment - other.entered))
            (lt-leb limits.expiration (moment - other.entered) (omega (arith, lt, le)))
      ]

  none-listed : (files : List FileView) → All (Fresh limits moment) files → expiring limits moment files ≡ []
  none-listed [] fresh = refl
  none-listed (file ∷ files) fresh =
      expiring-over limits moment file files (and_right (not file.in_flight) (is_expired limits.expiration moment file) (All-head (Fresh limits moment) file files fresh))
      ∙ none-listed files (All-tail (Fresh limits moment) file files fresh)

  module _ (files : List Held) (apart : AreApart files) where
    abbrev own : List FileView
    own = in_order [] (views_of files)

    from_order : All (Fresh limits moment) own → expiring limits moment (views_of files) ≡ []
    from_order fresh =
        none-listed (views_of files) (All-permutation (Fresh limits moment) own (views_of files) (IsPermutation-sym (views_of files) own (in_order-permutes [] (views_of files))) fresh)

    none-there : (notes : List Note) → IsRanked [] files notes → notes ≡ [] → expiring limits moment (views_of files) ≡ []
    none-there notes ranked is = from_order (empty own (sym ranked ∙ is))
      where
        empty : (views : List FileView) → map noted_as views ≡ [] → All (Fresh limits moment) views
        empty [] none = All-nil (Fresh limits moment)
        empty (view ∷ views) none = cc

    abbrev IsOldest : Held → ℕ → Type 0
    IsOldest held n = item_of held_number n files ≡ Some held

    is_older : (notes rest : List Note) (note : Note) (held : Held) → IsRanked [] files notes → notes ≡ note ∷ rest → IsOldest held note.number
        → Fresh limits moment (held_view held) → expiring limits moment (views_of files) ≡ []
    is_older notes rest note held ranked is found fresh =
        from_order (all own (sym is ∙ ranked) (all-found [] files apart.numbers) (leads-all [] (views_of files) apart.arrivals))
      where
        all : (views : List FileView) → note ∷ rest ≡ map noted_as views → All (λ view. option_map held_view (item_of held_number view.number files) ≡ Some view) views
            → AllPairs (Leads []) views → All (Fresh limits moment) views
        all [] first there leads = cc
        all (view ∷ views) first there leads =
            let noted : note ≡ noted_as view = cc in
            let number : note.number ≡ view.number = ap (λ (e : Note). e.number) noted in
            let seen : Some (held_view held) ≡ Some view
            = sym (ap (option_map held_view) found) ∙ ap (λ m. option_map held_view (item_of held_number m files)) number
            ∙ All-head (λ view. option_map held_view (item_of held_number view.number files) ≡ Some view) view views there in
            let same : held_view held ≡ view = cc in
            let young : Fresh limits moment view = subst (Fresh limits moment) same fresh in
            All-cons (Fresh limits moment) view views young
            (All-weaker (Leads [] view) (Fresh limits moment) (λ other leads. younger view other (older view other leads) young) views (pairs_head (Leads []) view views leads))

    pub none-older : (notes : List Note) (note : Note) (held : Held) → IsRanked [] files notes → 0 < length notes → note ≡ slice_index_or notes 0 note
        → IsOldest held note.number → Fresh limits moment (held_view held) → expiring limits moment (views_of files) ≡ []
    none-older [] note held ranked lt first found fresh = absurd (omega (arith, lt))
    none-older (other ∷ rest) note held ranked lt first found fresh = is_older (other ∷ rest) rest note held ranked (λ j. sym first j ∷ rest) found fresh

    pub none-in : (notes : List Note) → IsRanked [] files notes → length notes ≡ 0 → expiring limits moment (views_of files) ≡ []
    none-in [] ranked is = none-there [] ranked refl
    none-in (note ∷ rest) ranked is = absurd (omega (arith, is))
