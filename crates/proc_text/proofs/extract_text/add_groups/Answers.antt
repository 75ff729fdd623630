use Rattle.std.proofs.Common.{◌≡◌, [], ◌∷◌, None, Some, map, rules, string_bytes, sym, ◌∙◌, ap, ap₂}
use Rattle.std.proofs.lemmas.List.{append-nil, map-append}
use Rattle.machine_model.specs.declared.limits.TheConstants.{EXTRACTED_MAX}
use Rattle.machine_model.specs.ExtractText.{front_within, numbered}
use Rattle.regex.specs.Strings.{match_bytes}
use Rattle.proc_text.specs.Extracting.{pair_of}
use Rattle.proc_text.specs.declared.extract_text.Extract.{Extract}
use Rattle.proc_text.proofs.Extracts.{group-step, no-pair, part-pair}
use Rattle.proc_text.proofs.extract_text.add_groups.Goals as goal
use Rattle.proc_text.proofs.extract_text.add_groups.Goals.{in-Some+in_ok-name+in_ok-value+in_ok-push, in_default}

pub loop-group-preserved : goal.loop-group-preserved
loop-group-preserved c =
    let name = c.args.name.now in
    let captures = c.args.captures.now in
    let n = c.loop-group.group-counter in
    let before = map pair_of c.args.extracts.now.items in
    let items = c.loop-group.extracts.items in
    let next = map pair_of c.match-get.extracts.items in
    elim c.match-get.branch [
      | in-Some+in_ok-name+in_ok-value+in_ok-push w ↦
          let added : Extract = record { name = w.in_ok-name.name; value = w.in_ok-value.value } in
          let named : string_bytes added.name ≡ numbered name n = search rules in
          let part = w.in-Some.part in
          let written : pair_of added ≡ (numbered name n, front_within EXTRACTED_MAX (match_bytes part)) = ap₂ (λ name value. (name, value)) named w.in_ok-value.ensures in
          let pair = part-pair name captures n c.get.result part (pair_of added) c.get.ensures.found w.in-Some.is w.in-Some.ensures.within written in
          group-step name captures n before (map pair_of items) next (Some (pair_of added)) c.loop-group.invariant pair
          (ap (λ v. map pair_of v.items) w.extracts-is ∙ ap (map pair_of) w.in_ok-push.ensures.items ∙ map-append pair_of items (added ∷ []))
      | in_default w ↦
          group-step name captures n before (map pair_of items) next None c.loop-group.invariant (no-pair name captures n c.get.result c.get.ensures.found w.in_default.is)
          (ap (λ v. map pair_of v.items) w.extracts-is ∙ sym (append-nil (map pair_of items)))
    ]
