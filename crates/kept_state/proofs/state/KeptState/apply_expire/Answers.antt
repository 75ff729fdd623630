use Rattle.std.proofs.Common.{◌≡◌, ℕ, List, map, true, sym, ap, ◌∙◌, subst, arith}
use Rattle.std.specs.List.{sum}
use Rattle.flowfile_record.specs.Stored.{kept_of}
use Rattle.flowfile_record.specs.declared.stored.ActiveFile.{ActiveFile}
use Rattle.checkpoint_store.specs.Consistent.{IsConsistent, record_size}
use Rattle.kept_state.specs.Applied.{left_after}
use Rattle.kept_state.specs.Memory.{InMemory}
use Rattle.kept_state.specs.Moves.{are_all_active}
use Rattle.kept_state.proofs.Going.{active_from_in}
use Rattle.kept_state.proofs.Keeping.{expire_keeps, expire_made, expire_parts}
use Rattle.kept_state.proofs.state.KeptState.apply_expire.Goals as goal

pub bytes_with-bytes-requires-clause-active : goal.bytes_with-bytes-requires-clause-active
bytes_with-bytes-requires-clause-active c =
    let k = c.args.self.now.kept in
    let e = c.args.expire in
    let active = active_from_in k.files e.connection e.numbers (expire_parts k e c.requires.fits).1 in
    subst (λ (ns : List ℕ). are_all_active k.files ns ≡ true) (sym c.as_slice.ensures) active

pub invariant_of-self : goal.invariant_of-self
invariant_of-self c =
    let k = kept_of c.self.inside.stored in
    let e = c.args.expire in
    let files = c.take_all.ensures.items ∙ ap (λ (ns : List ℕ). left_after ns k.files) c.as_slice-2.ensures in
    let made = expire_made k e c.take_all.new.files.items files in
    let gone = ap (λ (ns : List ℕ). sum (map record_size (left_after ns c.args.self.now.kept.files))) c.as_slice.ensures in
    let same = ap (λ (m : InMemory). sum (map record_size (left_after e.numbers m.kept.files))) c.self.view_is in
    record {
      consistent = subst IsConsistent (sym made) (expire_keeps k e c.self.invariant.consistent c.requires.encoded);
      no_batches = c.self.invariant.no_batches;
      bytes_are = omega (arith, c.bytes_with-bytes.ensures, gone, same, ap (λ (l : List ActiveFile). sum (map record_size l)) files);
    }
