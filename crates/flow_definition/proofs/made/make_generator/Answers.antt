use Rattle.std.proofs.Common.{refl, sym, subst}
use Rattle.expr_lang.specs.Grammar.{IsText}
use Rattle.serde_json.specs.View.{view}
use Rattle.flow_definition.proofs.Verdicts.{custom_text_in}
use Rattle.flow_definition.proofs.made.make_generator.Goals as goal

pub returns-in-Err-Bad : goal.returns-in-Err-Bad
returns-in-Err-Bad c =
    let each = rw c.in-Err-Bad.field-0-is at c.in-Err-Bad.ensures.every_tree in (
      (custom_text_in (view c.args.processor.now) c.requires, refl),
      (λ tree is. each tree (subst (λ text. IsText text tree) (sym c.property_text.ensures) is)),
    )
