use Rattle.std.proofs.Common.{◌≡◌, ◌+◌, ◌<◌, ◌≤◌, [], None, Some, drop, get_or, length, sym, ◌∙◌, ap, arith}
use Rattle.std.specs.Prelude.{slice_get}
use Rattle.std.specs.FinMap.{entries, len-entries}
use Rattle.std.specs.Option.{option_map}
use Rattle.std.proofs.lemmas.List.{drop_all}
use Rattle.std.proofs.lemmas.Option.{slice_get-get_or}
use Rattle.serde_json.specs.Data.{no_members}
use Rattle.serde_json.specs.View.{members_view}
use Rattle.proc_attribute.specs.Json.{with_texts}
use Rattle.proc_attribute.proofs.Json.{next-got, texts-more}
use Rattle.proc_attribute.proofs.attributes_to_json.attribute_members.Goals as goal

pub unreachable-requires : goal.unreachable-requires
unreachable-requires c =
    let pairs = entries c.args.attributes.now in
    let place = c.loop-place.place in
    let count = len-entries c.args.attributes.now in
    let within : place < length pairs = omega (arith, count, c.len-place-end.ensures, c.loop-place-test.true) in
    let there = slice_get-get_or pairs place ([], []) within in
    let none : slice_get pairs place ≡ None = sym c.pair.ensures.pair ∙ ap (option_map (λ pair. (pair.0.now, pair.1.now))) c.in_default.is in
    let no : None ≡ Some (get_or pairs place ([], [])) = sym none ∙ there in
    cc

pub loop-place-preserved : goal.loop-place-preserved
loop-place-preserved c =
    let pairs = entries c.args.attributes.now in
    let place = c.loop-place.place in
    texts-more no_members (members_view c.loop-place.members.entries) (members_view c.put_text.new.members.entries) pairs (drop place pairs) (drop (place + 1) pairs) (c.in-Some.key.now, c.in-Some.value.now)
    c.loop-place.invariant (next-got pairs place (c.in-Some.key.now, c.in-Some.value.now) (sym c.in-Some.ensures.pair)) c.in_ok-put_text.ensures

pub returns : goal.returns
returns c =
    let pairs = entries c.args.attributes.now in
    let place = c.loop-place.place in
    let count = len-entries c.args.attributes.now in
    let end : length pairs ≤ place = omega (arith, count, c.len-place-end.ensures, c.loop-place-test.false) in
    sym (c.loop-place.invariant ∙ ap (with_texts (members_view c.loop-place.members.entries)) (drop_all place pairs end))
