use Rattle.std.proofs.Common.{◌≡◌, ◌++◌, ◌+◌, List, [], ◌∷◌, drop, map, string_bytes, sym, ap, ◌∙◌, rules}
use Rattle.std.specs.Prelude.{String}
use Rattle.std.specs.declared.alloc.Global.{Global}
use Rattle.std.specs.Option.{option_copied}
use Rattle.std.proofs.lemmas.List.{map-append}
use Rattle.flow_words.specs.declared.argument.Argument.{Argument as Read}
use Rattle.flow_words.specs.declared.argument.Argument.TheVariants as read
use Rattle.flow_words.specs.Arguments.{Named, Text, word_texts, arguments_of}
use Rattle.flow_words.specs.Seen.{argument_seen}
use Rattle.flow_words.proofs.Fronts.{name_met, value_met, whole_met}
use Rattle.flow_words.proofs.Lists.{map-drop_at}
use Rattle.flow_words.proofs.argument.read_arguments.Goals as goal
use Rattle.flow_words.proofs.argument.read_arguments.Goals.{in-Some-default+in_ok-push-in-Some-default, in-None-Name, in-None-Whole+in_ok-push-in-None-Whole}

one_more : (before after : List Read) (argument : Read) → after ≡ before ++ argument ∷ [] → map argument_seen after ≡ map argument_seen before ++ argument_seen argument ∷ []
one_more before after argument h = ap (map argument_seen) h ∙ map-append argument_seen before (argument ∷ [])

pub loop-word-preserved : goal.loop-word-preserved
loop-word-preserved c =
    let all = arguments_of (word_texts c.args.words.now) in
    let old = c.loop-word.arguments.items in
    let rest = word_texts (drop (c.loop-word.word-index + 1) c.args.words.now) in
    let met : c.deref.result.now ≡ string_bytes c.word-item.result = c.deref.ensures in
    let first : word_texts (drop c.loop-word.word-index c.args.words.now) ≡ c.deref.result.now ∷ rest =
    map-drop_at (λ (word : String Global). string_bytes word) c.args.words.now c.loop-word.word-index c.word-item.result c.loop-word-test.true
    ∙ ap (λ (word : String Global). string_bytes word ∷ rest) (sym c.word-item.is)
    ∙ ap (λ (text : Text). text ∷ rest) (sym met) in
    elim c.match-option.branch [
      | in-Some-default+in_ok-push-in-Some-default w ↦
          let pushed : w.push.new.self.items ≡ old ++ read.Named w.in-Some-default.name w.deref-in-Some-default.result ∷ [] = search rules in
          let same : w.deref-in-Some-default.result.now ≡ c.deref.result.now = w.deref-in-Some-default.ensures ∙ sym met in
          value_met all (map argument_seen old) _ _ _ c.deref.result.now _ rest w.in-Some-default.name.now c.loop-word.invariant first
          (ap option_copied w.in-Some-default.is-0)
          (one_more old _ _ (ap (λ v. v.items) w.arguments-is ∙ pushed)
          ∙ ap (λ (text : Text). map argument_seen old ++ Named w.in-Some-default.name.now text ∷ []) same)
          (ap option_copied w.option-is)
      | in-None-Name w ↦
          let is = rw w.in-None-Name.is-1 at c.read_word.ensures in
          name_met all (map argument_seen old) _ _ _ c.deref.result.now _ rest w.in-None-Name.name.now c.loop-word.invariant first
          (ap option_copied w.in-None-Name.is-0) is.0 is.1 (ap (λ v. map argument_seen v.items) w.arguments-is) (ap option_copied w.option-is)
      | in-None-Whole+in_ok-push-in-None-Whole w ↦
          let pushed : w.push-in-None-Whole.new.self.items ≡ old ++ w.in-None-Whole.argument ∷ [] = search rules in
          let is = rw w.in-None-Whole.is-1 at c.read_word.ensures in
          whole_met all (map argument_seen old) _ _ _ c.deref.result.now _ rest (argument_seen w.in-None-Whole.argument) c.loop-word.invariant first
          (ap option_copied w.in-None-Whole.is-0) is.0 is.1 (one_more old _ _ (ap (λ v. v.items) w.arguments-is ∙ pushed))
          (ap option_copied (w.option-is ∙ w.in-None-Whole.is-0))
    ]
