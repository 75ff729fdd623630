use Rattle.std.proofs.Common.{◌≡◌, ◌+◌, List, [], ◌∷◌, ◌++◌, Some, drop, map, string_bytes, sym, ◌∙◌, ap}
use Rattle.std.proofs.lemmas.List.{map-append}
use Rattle.std.specs.Option.{option_map}
use Rattle.expr_lang.specs.Meaning.{Attributes}
use Rattle.machine_model.specs.Making.{found_in}
use Rattle.machine_model.specs.UpdateAttribute.{own_texts}
use Rattle.proc_attribute.specs.Setting.{set_by}
use Rattle.proc_attribute.specs.declared.update_attribute.Setting.{Setting}
use Rattle.proc_attribute.proofs.Updating.{Pair, and_texts, next-left, text_of, texts-more}
use Rattle.proc_attribute.proofs.update_attribute.settings_over.Goals as goal

pub loop-property-preserved : goal.loop-property-preserved
loop-property-preserved c =
    let find : Attributes = found_in (record { attributes = c.args.file.now.attributes.now; uuid = c.args.file.now.uuid.now; bytes = [] }) in
    let own = c.args.own.now in
    let i = c.loop-property.property-index in
    let done : List Pair = map set_by c.loop-property.settings.items in
    let property = c.property-item.result in
    let text = string_bytes c.in-Some.text in
    let text-is : text_of find property ≡ Some text = sym c.in_ok-text.ensures ∙ ap (option_map string_bytes) c.in-Some.is in
    let added : Setting = record { name = c.as_str-name.result; text = c.in-Some.text } in
    let pushed : c.push.new.self.items ≡ c.loop-property.settings.items ++ added ∷ [] = c.in_ok-push.ensures.items in
    let name-is : set_by added ≡ (property.name, text) = ap (λ name. (name, text)) c.as_str-name.ensures.text in
    let done-is : done ++ (property.name, text) ∷ [] ≡ map set_by c.push.new.self.items =
    ap (λ pair. done ++ pair ∷ []) (sym name-is) ∙ sym (map-append set_by c.loop-property.settings.items (added ∷ [])) ∙ sym (ap (map set_by) pushed) in
    texts-more find own (drop i own) (drop (i + 1) own) done property text c.loop-property.invariant (next-left own i property c.loop-property-test.true c.property-item.is) text-is
    ∙ ap (λ done. and_texts done (own_texts find (drop (i + 1) own))) done-is
