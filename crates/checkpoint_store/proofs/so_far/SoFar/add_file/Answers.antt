use Rattle.std.proofs.Common.{◌≡◌, ◌+◌, ◌==◌, ◌<◌, ◌≤◌, ◌||◌, not, Bool, List, [], ◌∷◌, length, length-append, true, ap, ◌∙◌, arith, subst, sym, map}
use Rattle.std.specs.Prelude.{nat_le}
use Rattle.std.specs.List.{sum, list_any}
use Rattle.std.proofs.lemmas.Bool.Decides.{nat_tests}
use Rattle.std.proofs.lemmas.List.Elements.{All-weaker}
use Rattle.flowfile_record.specs.Stored.{kept_of}
use Rattle.flowfile_record.specs.NumberedItems.{item_of, with_item}
use Rattle.flowfile_record.specs.declared.stored.ActiveFile.{ActiveFile}
use Rattle.record_codec.proofs.Sizes.{file_most}
use Rattle.checkpoint_store.specs.Consistent.{IsConsistentIn, record_size}
use Rattle.checkpoint_store.specs.Reading.{file_has_place}
use Rattle.checkpoint_store.specs.SoFar.{AreNumberedTo}
use Rattle.flowfile_record.specs.declared.limits.TheConstants.{LIVE_BYTES_MAX}
use Rattle.checkpoint_store.proofs.Consistency.{file_joins, place_left}
use Rattle.checkpoint_store.proofs.Numbering.{none_there, joins_last, are_numbered, sum_more, any_more, place_above, all_three}
use Rattle.checkpoint_store.proofs.so_far.SoFar.add_file.Goals as goal

pub overflow_add-self : goal.overflow_add-self
overflow_add-self c = omega (arith, c.requires.so_far.within, c.file_size-size.ensures, file_most c.args.active.file c.requires.file.file)

pub put-requires-clause-new : goal.put-requires-clause-new
put-requires-clause-new c =
    let was = c.requires.so_far in
    let k = kept_of c.args.self.now.state in
    let placed : file_has_place k c.args.active ≡ true = sym c.has_place.ensures ∙ c.if-not-has_place.false in
    let above = place_above k c.args.active placed in
    ap (item_of (λ (a : ActiveFile). a.file.number) c.args.active.file.number) c.in_ok-reserve.ensures.items
    ∙ none_there (λ a. a.file.number) c.args.active.file.number c.args.self.now.last_file c.args.self.now.state.files.items was.files.below (omega (arith, above, was.files.last))

pub returns-clause-joined : goal.returns-clause-joined
returns-clause-joined c =
    let was = c.requires.so_far in
    let k = kept_of c.args.self.now.state in
    let placed : file_has_place k c.args.active ≡ true = sym c.has_place.ensures ∙ c.if-not-has_place.false in
    let above = place_above k c.args.active placed in
    let items = c.put.ensures.items ∙ ap (with_item (λ (a : ActiveFile). a.file.number) c.args.active) c.in_ok-reserve.ensures.items
    ∙ joins_last (λ a. a.file.number) c.args.active c.args.self.now.last_file c.args.self.now.state.files.items was.files.below (omega (arith, above, was.files.last)) in
    let within : nat_le (sum (map record_size k.files) + record_size c.args.active) LIVE_BYTES_MAX ≡ true = grind (arith, nat_tests, was.bytes, c.file_size-size.ensures, c.if-self-size-gt-LIVE_BYTES_MAX.false) in
    let fresh : not (list_any (λ (b : ActiveFile). b.file.arrival == c.args.active.file.arrival) k.files) ≡ true =
    ap not (sym (was.arrivals c.args.active.file.arrival)) ∙ sym c.in_ok-add_arrival.ensures.added ∙ c.if-not-branch.false in
    (all_three (file_has_place k c.args.active) _ _ placed within fresh, ap (λ (l : List ActiveFile). record (kept_of c.args.self.now.state) { files = l }) items)

pub returns-clause-so_far : goal.returns-clause-so_far
returns-clause-so_far c =
    let was = c.requires.so_far in
    let k = kept_of c.args.self.now.state in
    let placed : file_has_place k c.args.active ≡ true = sym c.has_place.ensures ∙ c.if-not-has_place.false in
    let above = place_above k c.args.active placed in
    let items = c.put.ensures.items ∙ ap (with_item (λ (a : ActiveFile). a.file.number) c.args.active) c.in_ok-reserve.ensures.items
    ∙ joins_last (λ a. a.file.number) c.args.active c.args.self.now.last_file c.args.self.now.state.files.items was.files.below (omega (arith, above, was.files.last)) in
    record {
      files = subst (λ (l : List ActiveFile). AreNumberedTo (λ a. a.file.number) l c.args.active.file.number) (sym items)
          (are_numbered (λ a. a.file.number) c.args.active c.args.self.now.last_file c.args.self.now.state.files.items was.files (omega (arith, above, was.files.last)) c.requires.file.file.number);
      batches = was.batches;
      arrivals = λ n.
          c.in_ok-add_arrival.ensures.now n ∙ ap (λ (b : Bool). b || (c.args.active.file.arrival == n)) (was.arrivals n)
          ∙ sym (any_more (λ (a : ActiveFile). a.file.arrival == n) c.args.self.now.state.files.items c.args.active)
          ∙ ap (list_any (λ (a : ActiveFile). a.file.arrival == n)) (sym items);
      ordered = c.in_ok-add_arrival.ensures.ordered;
      bytes = let total = sum_more record_size c.args.self.now.state.files.items c.args.active in
          omega (arith, was.bytes, c.file_size-size.ensures, total, ap (λ (l : List ActiveFile). sum (map record_size l)) items);
      within = omega (arith, c.if-self-size-gt-LIVE_BYTES_MAX.false);
      few = let left = place_left k c.args.active placed in
          omega (arith, left, ap length items, length-append c.args.self.now.state.files.items (c.args.active ∷ []));
      head_end = was.head_end;
      head_size = was.head_size;
      consistent = λ none.
          let grows = ap (λ (l : List ActiveFile). record (kept_of c.args.self.now.state) { files = l }) items in
          let below = All-weaker (λ (b : ActiveFile). b.file.number ≤ c.args.self.now.last_file) (λ b. b.file.number < c.args.active.file.number)
          (λ b le. omega (arith, le, above, was.files.last)) k.files was.files.below in
          subst (IsConsistentIn c.args.self.now.version) (sym grows) (file_joins c.args.self.now.version k c.args.active (was.consistent none) none c.requires.file (returns-clause-joined c).0 below);
    }
