use Rattle.std.proofs.Common.{◌≡◌, true, false, length, sym, ◌∙◌}
use Rattle.std.specs.Prelude.{◌==◌}
use Rattle.std.proofs.lemmas.Bool.{eq-eqb, ne_eqb}
use Rattle.machine_model.specs.Fragments.{fragment_seen}
use Rattle.proc_merge.specs.Taken.{files_seen}
use Rattle.proc_merge.proofs.Child.{many-seen}
use Rattle.proc_merge.proofs.Parts.{counted-and, in_turn}
use Rattle.proc_merge.proofs.fragments.are_fragments_of.Goals as goal

pub returns-then-from-fragment : goal.returns-then-from-fragment
returns-then-from-fragment c =
    let bench = c.args.session.now in
    let count : length (files_seen bench) ≡ c.from.result = many-seen bench c.requires ∙ sym (c.from.ensures ∙ c.taken.ensures) in
    c.are_in_turn.ensures ∙ counted-and (length (files_seen bench)) c.from.result c.args.fragment.whole.count true (in_turn (fragment_seen c.args.fragment) 1 bench.files) count (eq-eqb c.from.result c.args.fragment.whole.count c.if-from-fragment.true)

pub returns-else-from-fragment : goal.returns-else-from-fragment
returns-else-from-fragment c =
    let bench = c.args.session.now in
    let count : length (files_seen bench) ≡ c.from.result = many-seen bench c.requires ∙ sym (c.from.ensures ∙ c.taken.ensures) in
    let isnt : (c.from.result == c.args.fragment.whole.count) ≡ false = ne_eqb c.from.result c.args.fragment.whole.count c.if-from-fragment.false in
    isnt ∙ counted-and (length (files_seen bench)) c.from.result c.args.fragment.whole.count false (in_turn (fragment_seen c.args.fragment) 1 bench.files) count isnt
