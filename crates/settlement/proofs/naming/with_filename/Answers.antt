use Rattle.std.proofs.Common.{◌≡◌, ◌≤◌, ◌∙◌, ap, sym, subst, false, true, List, ℕ}
use Rattle.std.specs.Prelude.{codes, is_some}
use Rattle.std.specs.FinMap.{contains_key, insert}
use Rattle.flowfile_record.specs.Attributes.{encoded_size}
use Rattle.flowfile_record.specs.Outcome.{is_made}
use Rattle.machine_model.specs.Placing.{uuid_text}
use Rattle.settlement.proofs.NameRoom.{named_fits, some_map}
use Rattle.settlement.proofs.naming.with_filename.Goals as goal

pub store-requires-clause-size : goal.store-requires-clause-size
store-requires-clause-size c =
    let name : c.as_str.result.now ≡ uuid_text c.args.store c.args.number = c.as_str.ensures.value ∙ c.in_ok-name.ensures in
    let made : is_made c.args.origin.now ≡ true = sym c.is_made.ensures ∙ c.if-not-is_made.false in
    let lacks : contains_key c.args.attributes (codes "filename") ≡ false = ap is_some (sym c.get.ensures.value) ∙ some_map _ c.get.result ∙ sym c.is_some.ensures ∙ c.if-is_some.false in
    subst (λ (text : List ℕ). encoded_size (insert c.args.attributes (codes "filename") text) ≤ 65536) (sym name) (named_fits c.args.origin.now c.args.attributes c.args.store c.args.number made lacks c.requires)
