use Rattle.std.proofs.Common.{List, ℕ, sym, subst, ◌∙◌}
use Rattle.std.specs.Prelude.{None, Some}
use Rattle.machine_model.specs.Files.{is_number_among}
use Rattle.flow_query.specs.Parts.{IsFoundBy}
use Rattle.flow_query.proofs.Identified.{same_id, other_id, found_file, found_parent, found_child}
use Rattle.flow_query.proofs.found.find_in_event.Goals as goal

pub returns-then-eq : goal.returns-then-eq
returns-then-eq c = found_file c.args.store c.args.id c.args.event.now (sym c.uuid_of.ensures.bits ∙ same_id _ _ _ c.eq.ensures c.if-eq.true)

pub returns-in-Some : goal.returns-in-Some
returns-in-Some c =
    found_parent c.args.store c.args.id c.args.event.now c.in-Some.file
    (subst (λ (l : List ℕ). IsFoundBy c.args.store c.args.id (is_number_among l) (Some c.in-Some.file)) c.as_slice.ensures c.in-Some.ensures)

pub returns-in-None : goal.returns-in-None
returns-in-None c =
    found_child c.args.store c.args.id c.args.event.now c.find_in-in-None.result
    (λ is. other_id _ _ _ c.eq.ensures c.if-eq.false (c.uuid_of.ensures.bits ∙ is))
    (subst (λ (l : List ℕ). IsFoundBy c.args.store c.args.id (is_number_among l) None) c.as_slice.ensures c.in-None.ensures)
    (subst (λ (l : List ℕ). IsFoundBy c.args.store c.args.id (is_number_among l) c.find_in-in-None.result) c.as_slice-in-None.ensures c.find_in-in-None.ensures)
