-- All flows of a text are of one store.
use Rattle.std.proofs.Common.{◌≡◌, List, length, map, sym, ◌∙◌, subst}
use Rattle.std.proofs.lemmas.Option.{same_Some}
use Rattle.sha2.proofs.Facts256.{length-sha256}
use Rattle.serde_json.specs.Data.{Data}
use Rattle.flowfile_record.specs.Encoding.{IsDigest}
use Rattle.machine_model.specs.State.{State}
use Rattle.machine_model.specs.declared.flow.Connection.{Connection}
use Rattle.machine_model.specs.declared.flow.Flow.{Flow}
use Rattle.disk_trait.specs.Files.{Files}
use Rattle.engine_change.specs.Committing.{identity_of}
use Rattle.flow_definition.specs.declared.field.Field.TheVariants.{Processors}
use Rattle.flow_definition.specs.Looks.{list_items_at}
use Rattle.flow_definition.specs.Reading.{IsFlowOf}
use Rattle.flow_definition.proofs.Ends.{processors_length}
use Rattle.store_core.specs.Flow as store
use Rattle.store_core.specs.Kept.{kept_in}
use Rattle.store_core.specs.State.{stands_for}
use Rattle.std.specs.Prelude.{ℕ, Ok}
use Rattle.run_top.specs.Opening.{IsOfFlow}
use Rattle.run_top.specs.Text.{IsFlowIn}

pub has_digest : (bytes : List ℕ) (flow : Flow) → IsFlowIn bytes flow → IsDigest flow.digest
has_digest bytes flow read = subst (λ (digest : List ℕ). IsDigest digest) (sym read.is.digest) (length-sha256 bytes)

-- ---- two flows of one text

module _ (bytes : List ℕ) (a b : Flow) (one : IsFlowIn bytes a) (other : IsFlowIn bytes b) where
  same_top : IsFlowOf bytes other.top a
  same_top = subst (λ (top : Data). IsFlowOf bytes top a) (same_Some one.top other.top (sym one.object ∙ other.object)) one.is

  same_digest : a.digest ≡ b.digest
  same_digest = same_top.digest ∙ sym other.is.digest

  pub same_identity : identity_of a ≡ identity_of b
  same_identity =
      let connections : a.connections ≡ b.connections = same_top.connections ∙ sym other.is.connections in
      let count : length a.processors ≡ length b.processors =
      processors_length (list_items_at Processors other.top) a.processors same_top.processors
      ∙ sym (processors_length (list_items_at Processors other.top) b.processors other.is.processors)
      in
      λ i. record { digest = same_digest i; connections = map (λ (c : Connection). c.id) (connections i); processors = count i }

  pub of_flow : (lot : ℕ) (files : Files) (state : State) → IsOfFlow a lot files state → IsOfFlow b lot files state
  of_flow lot files state of = record {
    stands = subst (λ (f : store.Flow). stands_for f lot files ≡ Ok state) same_identity of.stands;
    kept = of.kept;
    keeps = subst (λ (f : store.Flow). kept_in f lot files ≡ Ok of.kept) same_identity of.keeps;
    is = of.is ∙ same_digest;
  }
