use Rattle.std.proofs.Common.{◌≡◌, ℕ, List, ◌++◌, Result, Ok, Err, sym, ap, subst, ◌∙◌}
use Rattle.std.specs.Prelude.{All, is_some, true}
use Rattle.std.specs.List.{flat_map}
use Rattle.std.proofs.lemmas.List.{append-nil}
use Rattle.std.proofs.lemmas.Result.{err_from_is_err_and}
use Rattle.disk_trait.specs.declared.file_name.Failed.{Failed}
use Rattle.flow_report.specs.Writing.{Writes}
use Rattle.flow_report.specs.declared.line.KinWord.TheVariants.{File, Ancestor, Descendant}
use Rattle.flow_report.proofs.Writing.{writes-failed, writes-named, writes-then}
use Rattle.lineage_query.specs.Told.{lineage_seen as told_by}
use Rattle.prov_index.specs.Index.{event_of}
use Rattle.flow_query.specs.Parts.{events_at}
use Rattle.flow_query.specs.Texts.{event_text, kin_text, told_in}
use Rattle.flow_query.proofs.Telling.{all_there, told_is}
use Rattle.flow_query.proofs.told.write_lineage.Goals as goal

-- four texts, one behind the other, of which the last that was tried may have failed
one-failed : (s t u v b b' : List ℕ) (e : Failed) → Writes s b b' (Err e) → Writes (s ++ t ++ u ++ v) b b' (Err e)
one-failed s t u v b b' e one = writes-failed (s ++ t ++ u) v b b' e (writes-failed (s ++ t) u b b' e (writes-failed s t b b' e one))

two-failed : (s t u v b b' c : List ℕ) (e : Failed) → Writes s b b' (Ok tt) → Writes t b' c (Err e) → Writes (s ++ t ++ u ++ v) b c (Err e)
two-failed s t u v b b' c e one two = writes-failed (s ++ t ++ u) v b c e (writes-failed (s ++ t) u b c e (writes-then s t b b' c (Err e) one two))

three-failed : (s t u v b b' c c' : List ℕ) (e : Failed) → Writes s b b' (Ok tt) → Writes t b' c (Ok tt) → Writes u c c' (Err e) → Writes (s ++ t ++ u ++ v) b c' (Err e)
three-failed s t u v b b' c c' e one two three = writes-failed (s ++ t ++ u) v b c' e (writes-then (s ++ t) u b c c' (Err e) (writes-then s t b b' c (Ok tt) one two) three)

four : (s t u v b b' c c' d : List ℕ) (result : Result (Unit {0}) Failed) → Writes s b b' (Ok tt) → Writes t b' c (Ok tt) → Writes u c c' (Ok tt) → Writes v c' d result
    → Writes (s ++ t ++ u ++ v) b d result
four s t u v b b' c c' d result one two three last = writes-then (s ++ t ++ u) v b c' d result (writes-then (s ++ t) u b c c' (Ok tt) (writes-then s t b b' c (Ok tt) one two) three) last

pub returns-in_err-write_kin-clause-written : goal.returns-in_err-write_kin-clause-written
returns-in_err-write_kin-clause-written g c = λ tells. let p = err_from_is_err_and c.from_residual.result c.from_residual.ensures.1 in rw p.1
    (let told = c.args.told.now in
    let store = c.args.store in
    one-failed (kin_text File store told.file) (flat_map (kin_text Ancestor store) told.ancestors) (flat_map (kin_text Descendant store) told.descendants)
    (flat_map (event_text store) (told_in c.args.events.now told.events)) _ _ _
    (writes-named _ _ _ _ _ (append-nil (kin_text File store told.file)) (c.in_err-write_kin.ensures.written tells)))

pub returns-in_err-write_kin-2-clause-written : goal.returns-in_err-write_kin-2-clause-written
returns-in_err-write_kin-2-clause-written g c = λ tells. let p = err_from_is_err_and c.from_residual-in_err-write_kin-2.result c.from_residual-in_err-write_kin-2.ensures.1 in rw p.1
    (let told = c.args.told.now in
    let store = c.args.store in
    two-failed (kin_text File store told.file) (flat_map (kin_text Ancestor store) told.ancestors) (flat_map (kin_text Descendant store) told.descendants)
    (flat_map (event_text store) (told_in c.args.events.now told.events)) _ _ _ _
    (writes-named _ _ _ _ _ (append-nil (kin_text File store told.file)) (c.in_ok-write_kin.ensures.written tells))
    (writes-named _ _ _ _ _ (ap (flat_map (kin_text Ancestor store)) c.as_slice.ensures) (c.in_err-write_kin-2.ensures.written tells)))

pub returns-in_err-write_kin-3-clause-written : goal.returns-in_err-write_kin-3-clause-written
returns-in_err-write_kin-3-clause-written g c = λ tells. let p = err_from_is_err_and c.from_residual-in_err-write_kin-3.result c.from_residual-in_err-write_kin-3.ensures.1 in rw p.1
    (let told = c.args.told.now in
    let store = c.args.store in
    three-failed (kin_text File store told.file) (flat_map (kin_text Ancestor store) told.ancestors) (flat_map (kin_text Descendant store) told.descendants)
    (flat_map (event_text store) (told_in c.args.events.now told.events)) _ _ _ _ _
    (writes-named _ _ _ _ _ (append-nil (kin_text File store told.file)) (c.in_ok-write_kin.ensures.written tells))
    (writes-named _ _ _ _ _ (ap (flat_map (kin_text Ancestor store)) c.as_slice.ensures) (c.in_ok-write_kin-2.ensures.written tells))
    (writes-named _ _ _ _ _ (ap (flat_map (kin_text Descendant store)) c.as_slice-2.ensures) (c.in_err-write_kin-3.ensures.written tells)))

pub write_told-requires : goal.write_told-requires
write_told-requires g c =
    let told = c.args.told.now in
    subst (λ (l : List ℕ). All (λ n. is_some (event_of c.args.events.now n) ≡ true) l) (sym c.as_slice-3.ensures) (all_there c.args.events.now told.file (told_by told) c.requires.lineage)

pub returns-clause-written : goal.returns-clause-written
returns-clause-written g c = λ tells.
    let told = c.args.told.now in
    let store = c.args.store in
    let events = c.args.events.now in
    four (kin_text File store told.file) (flat_map (kin_text Ancestor store) told.ancestors) (flat_map (kin_text Descendant store) told.descendants)
    (flat_map (event_text store) (told_in events told.events)) _ _ _ _ _ _
    (writes-named _ _ _ _ _ (append-nil (kin_text File store told.file)) (c.in_ok-write_kin.ensures.written tells))
    (writes-named _ _ _ _ _ (ap (flat_map (kin_text Ancestor store)) c.as_slice.ensures) (c.in_ok-write_kin-2.ensures.written tells))
    (writes-named _ _ _ _ _ (ap (flat_map (kin_text Descendant store)) c.as_slice-2.ensures) (c.in_ok-write_kin-3.ensures.written tells))
    (writes-named _ _ _ _ _
    (ap (flat_map (event_text store)) (ap (events_at events) c.as_slice-3.ensures ∙ told_is events told.file (told_by told) c.requires.ascends c.requires.lineage)) (c.write_told.ensures.written tells))
