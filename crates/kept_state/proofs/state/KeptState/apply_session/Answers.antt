use Rattle.std.proofs.Common.{◌≡◌, ℕ, List, map, true, sym, ap, ◌∙◌, subst, arith}
use Rattle.std.specs.List.{sum}
use Rattle.flowfile_record.specs.Stored.{Kept, kept_of}
use Rattle.flowfile_record.specs.declared.stored.ActiveFile.{ActiveFile}
use Rattle.record_codec.specs.declared.entry.LogEntry.TheVariants.{Session}
use Rattle.checkpoint_store.specs.Consistent.{IsConsistent, record_size}
use Rattle.kept_state.specs.Applied.{left_after, with_files}
use Rattle.kept_state.specs.Changes.{no_files}
use Rattle.kept_state.specs.Fits.{entry_suits}
use Rattle.kept_state.specs.Memory.{InMemory}
use Rattle.kept_state.specs.Moves.{are_all_active, AreAbsent}
use Rattle.kept_state.proofs.Apart.{absent}
use Rattle.kept_state.proofs.Going.{active_from_one}
use Rattle.kept_state.proofs.Keeping.{session_keeps, session_made, session_parts, suits_from, sum-with_files, active_of_suits}
use Rattle.kept_state.proofs.state.KeptState.apply_session.Goals as goal

pub bytes_with-bytes-requires-clause-active : goal.bytes_with-bytes-requires-clause-active
bytes_with-bytes-requires-clause-active c =
    let k = c.args.self.now.kept in
    let s = c.args.session in
    let active = active_from_one k.files s.gone (active_of_suits k s (session_parts k s c.requires.fits).0) in
    subst (λ (ns : List ℕ). are_all_active k.files ns ≡ true) (sym c.as_slice-2.ensures) active

pub put_all-requires-clause-absent : goal.put_all-requires-clause-absent
put_all-requires-clause-absent c =
    let k = kept_of c.self.inside.stored in
    let s = c.args.session in
    let kept_is = ap (λ (m : InMemory). m.kept) c.self.view_is in
    let fit = subst (λ (l : Kept). entry_suits no_files l (Session s) ≡ true) (sym kept_is) c.requires.fits in
    let suits = suits_from k s c.self.invariant.no_batches (session_parts k s fit).0 in
    let left = c.take_all.ensures.items ∙ ap (λ (ns : List ℕ). left_after ns k.files) c.as_slice-3.ensures in
    subst (λ (l : List ActiveFile). AreAbsent c.into_vec.result.items l) (sym left)
    (subst (λ (l : List ActiveFile). AreAbsent l (left_after s.gone k.files)) (sym c.into_vec.ensures) (absent s.placed (left_after s.gone k.files) suits.numbers))

pub invariant_of-self : goal.invariant_of-self
invariant_of-self c =
    let k = kept_of c.self.inside.stored in
    let s = c.args.session in
    let kept_is = ap (λ (m : InMemory). m.kept) c.self.view_is in
    let fit = subst (λ (l : Kept). entry_suits no_files l (Session s) ≡ true) (sym kept_is) c.requires.fits in
    let left = c.take_all.ensures.items ∙ ap (λ (ns : List ℕ). left_after ns k.files) c.as_slice-3.ensures in
    let files = c.put_all.ensures.items ∙ ap (λ (l : List ActiveFile). with_files l c.take_all.new.files.items) c.into_vec.ensures ∙ ap (with_files s.placed) left in
    let made = session_made k s c.set_count.new.counts c.put_all.new.files.items c.set_count.ensures files in
    let gone = ap (λ (ns : List ℕ). sum (map record_size (left_after ns c.args.self.now.kept.files))) c.as_slice-2.ensures in
    let same = ap (λ (l : Kept). sum (map record_size (left_after s.gone l.files))) kept_is in
    let placed = ap (λ (l : List ActiveFile). sum (map record_size l)) c.as_slice.ensures in
    record {
      consistent = subst IsConsistent (sym made) (session_keeps k s c.self.invariant.consistent c.self.invariant.no_batches c.requires.encoded fit);
      no_batches = c.self.invariant.no_batches;
      bytes_are = omega (
        arith,
        c.bytes_with-bytes.ensures,
        gone,
        same,
        c.bytes_of-placed.ensures.bytes,
        placed,
        sum-with_files s.placed (left_after s.gone k.files),
        ap (λ (l : List ActiveFile). sum (map record_size l)) files,
      );
    }
