use Rattle.std.proofs.Common.{ℕ, List, Option, Vec, Global, refl, ap, subst}
use Rattle.std.specs.Prelude.{option_map}
use Rattle.std.proofs.lemmas.Result.{err_from_is_err_and}
use Rattle.flow_report.proofs.Writing.{writes-named}
use Rattle.store_core.specs.Seen.{kept_seen, IsContentOf}
use Rattle.flow_query.specs.declared.asking.Query.TheVariants as query
use Rattle.flow_query.proofs.Absence.{has_content}
use Rattle.flow_query.proofs.Live.{none_queued, never_none, content_is}
use Rattle.flow_query.proofs.Refusing.{sink_failed}
use Rattle.flow_query.proofs.content.show_content.Goals as goal

abbrev bytes_in : Option (Vec ℕ Global) → Option (List ℕ)
bytes_in o = option_map (λ (v : Vec ℕ Global). v.items) o

pub returns-in_default-clause-printed : goal.returns-in_default-clause-printed
returns-in_default-clause-printed g c told seen state is writes =
    (none_queued (g.D.Disk.held c.args.disk.now) c.args.seen.now state c.args.id seen is c.in_default.ensures.none, refl)

pub unreachable-requires : goal.unreachable-requires
unreachable-requires g c =
    never_none g.D.Disk.tells (g.D.Disk.held c.args.disk.now) c.args.seen.now c.args.id c.in-Some.number (bytes_in c.in_ok-bytes.field-0) c.in-Some.ensures.found (ap bytes_in c.in_default-2.is)
    c.in_ok-bytes.ensures.read

pub returns-in_err-write_bytes-clause-printed : goal.returns-in_err-write_bytes-clause-printed
returns-in_err-write_bytes-clause-printed g c told seen state is writes =
    let p = err_from_is_err_and c.from_residual-in_err-write_bytes.result c.from_residual-in_err-write_bytes.ensures.1 in
    let files = g.D.Disk.held c.args.disk.now in
    let s = c.args.seen.now in
    let number = c.in-Some.number in
    let bytes = c.in-Some-2.bytes.items in
    let content = subst (λ (o : Option (Vec ℕ Global)). IsContentOf number (bytes_in o) state) c.in-Some-2.is (c.in_ok-bytes.ensures.content told seen state is) in
    rw (p.1, p.2)
    (sink_failed (query.Content c.args.id) (kept_seen s).connections state bytes _ _ _ (content_is files s state c.args.id number bytes seen is c.in-Some.ensures.found content)
    (writes-named _ _ _ _ _ c.as_slice.ensures.value (c.in_err-write_bytes.ensures.written writes)))

pub returns-clause-printed : goal.returns-clause-printed
returns-clause-printed g c told seen state is writes =
    let files = g.D.Disk.held c.args.disk.now in
    let s = c.args.seen.now in
    let number = c.in-Some.number in
    let bytes = c.in-Some-2.bytes.items in
    let content = subst (λ (o : Option (Vec ℕ Global)). IsContentOf number (bytes_in o) state) c.in-Some-2.is (c.in_ok-bytes.ensures.content told seen state is) in (
      bytes,
      content_is files s state c.args.id number bytes seen is c.in-Some.ensures.found content,
      (writes-named _ _ _ _ _ c.as_slice.ensures.value (c.in_ok-write_bytes.ensures.written writes)).ok,
    )

pub returns-in_default-clause-absence : goal.returns-in_default-clause-absence
returns-in_default-clause-absence g c told seen state is =
    none_queued (g.D.Disk.held c.args.disk.now) c.args.seen.now state c.args.id seen is c.in_default.ensures.none

pub returns-clause-absence : goal.returns-clause-absence
returns-clause-absence g c told seen state is =
    let files = g.D.Disk.held c.args.disk.now in
    let s = c.args.seen.now in
    let number = c.in-Some.number in
    let bytes = c.in-Some-2.bytes.items in
    let content = subst (λ (o : Option (Vec ℕ Global)). IsContentOf number (bytes_in o) state) c.in-Some-2.is (c.in_ok-bytes.ensures.content told seen state is) in
    has_content c.args.id state bytes (content_is files s state c.args.id number bytes seen is c.in-Some.ensures.found content)
