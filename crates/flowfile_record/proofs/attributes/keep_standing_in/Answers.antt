use Rattle.std.proofs.Common.{Some, rules}
use Rattle.std.specs.FinMap.{get}
use Rattle.std.proofs.lemmas.Fn.{filter_same}
use Rattle.flowfile_record.specs.OptionalText.{same_text}
use Rattle.flowfile_record.proofs.attributes.keep_standing_in.Goals as goal

pub returns : goal.returns
returns c =
    filter_same _ (λ pair. same_text (Some pair.value) (get c.args.attributes.now pair.key)) _ (λ x b q called. search rules) _ _ c.retain.ensures.filtered
