-- The place of a file that goes first of all, and of one that goes last.
use Rattle.std.proofs.Common.{◌≡◌, ◌-◌, false, List, [], ◌∷◌, length, map, slice_index_or, Some, sym, ap, ◌∙◌, arith}
use Rattle.std.specs.Prelude.{All}
use Rattle.std.specs.List.{AllPairs}
use Rattle.std.specs.Option.{option_map}
use Rattle.std.proofs.lemmas.List.Elements.{All-cons, All-head, All-weaker}
use Rattle.flowfile_record.specs.NumberedItems.{item_of}
use Rattle.prioritizer.specs.declared.prioritizer.Prioritizer.{Prioritizer}
use Rattle.machine_model.specs.Order.{goes_before, in_order}
use Rattle.machine_model.specs.View.{FileView}
use Rattle.machine_model.proofs.OnlyOrder.{Leads}
use Rattle.machine_model.proofs.Ordered.{asymmetric, goes_before-irreflexive, pairs_head}
use Rattle.flow_queue.specs.declared.held.Held.{Held}
use Rattle.flow_queue.specs.declared.queue.ranked.Note.{Note}
use Rattle.flow_queue.specs.Queue.{AreApart, held_number, held_view, views_of}
use Rattle.flow_queue.specs.Ranked.{IsBehindLast, IsFirst, IsRanked, IsRankOf, noted_as}
use Rattle.flow_queue.proofs.InOrder.{leads-all}
use Rattle.flow_queue.proofs.Ranks.{Found, all-found, notes-parted, rank-from, same-number}

module _ (order : List Prioritizer) (files : List Held) (notes : List Note) (apart : AreApart files) (ranked : IsRanked order files notes) where
  module _ (held : Held) (there : item_of held_number (held_number held) files ≡ Some held) (first : IsFirst (held_number held) notes) where
    abbrev Behind : FileView → Type 0
    Behind other = goes_before order other (held_view held) ≡ false

    from-first : (views : List FileView) → notes ≡ map noted_as views → All (Found files) views → AllPairs (Leads order) views → IsRankOf order (held_view held) views 0
    from-first [] are all leads = record {
      before = λ k d low high. absurd (omega arith);
      after = λ k d low high. absurd (omega arith);
    }
    from-first (view ∷ views) are all leads =
        let note = noted_as view in
        let numbers : view.number ≡ held_number held = sym (ap (λ (ns : List Note). (slice_index_or ns 0 note).number) are) ∙ (first note).1 in
        let same : view ≡ held_view held = same-number files view (held_view held) (All-head (Found files) view views all) (ap (option_map held_view) there) numbers in
        let here : Behind view = ap (λ (v : FileView). goes_before order v (held_view held)) same ∙ goes_before-irreflexive order (held_view held) in
        let later = All-weaker (Leads order view) Behind (λ other led. ap (goes_before order other) (sym same) ∙ asymmetric order view other led) views (pairs_head (Leads order) view views leads) in
        let behind = All-cons Behind view views here later in
        record {
          before = λ k d low high. absurd (omega arith);
          after = λ k d low high. behind k d high;
        }

    pub first-rank : IsRankOf order (held_view held) (in_order order (views_of files)) 0
    first-rank = from-first (in_order order (views_of files)) ranked (all-found order files apart.numbers) (leads-all order (views_of files) apart.arrivals)

  pub last-rank : (file : FileView) → IsBehindLast order file files notes → IsRankOf order file (in_order order (views_of files)) (length notes)
  last-rank file last =
      let parted = notes-parted order file files notes apart ranked in
      rank-from order file files notes (length notes) apart ranked (omega arith)
      ((λ k d low high. parted k (length notes - 1) d (omega arith) (omega arith) (last d).1), (λ k d low high. absurd (omega arith)))
