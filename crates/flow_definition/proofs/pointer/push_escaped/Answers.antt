use Rattle.std.proofs.Common.{ap, sym, ◌∙◌, ◌++◌, string_bytes}
use Rattle.std.specs.List.{flat_map}
use Rattle.std.proofs.lemmas.Iterator.{YieldsList-from_chars}
use Rattle.std.proofs.lemmas.Iterator.Consumers.{YieldsList-end}
use Rattle.std.proofs.lemmas.List.{map-id}
use Rattle.flow_definition.specs.Pointers.{escaped_char}
use Rattle.flow_definition.proofs.pointer.push_escaped.Goals as goal

pub returns : goal.returns
returns c =
    let all = YieldsList-end (YieldsList-from_chars c.args.name.now c.utf8.name cc) c.chars.yielded _ c.chars.yielded_by _ _ c.in-None.is c.next.ensures.steps in
    c.chars.invariant ∙ ap (λ cs. string_bytes c.args.text.now ++ flat_map escaped_char cs) (sym (map-id c.chars.yielded) ∙ all.0)
