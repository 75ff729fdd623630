use Rattle.std.proofs.Common.{◌≡◌, ℕ, ◌+◌, ◌<◌, List, [], ◌∷◌, ◌++◌, length, get_or, take, refl, sym, ap, ◌∙◌}
use Rattle.std.specs.Prelude.{Option, None, Some, option_map}
use Rattle.std.specs.List.{cons_option}
use Rattle.std.proofs.lemmas.List.{take_more}
use Rattle.flowfile_record.specs.declared.flow_file.FlowFile.{FlowFile}
use Rattle.flowfile_record.specs.declared.stored.ActiveFile.{ActiveFile}
use Rattle.kept_state.specs.Fits.{active_of}
use Rattle.engine_session.specs.Handing.{live_among}
use Rattle.engine_session.proofs.handing.live_among.Goals as goal
use Rattle.engine_session.proofs.handing.live_among.Goals.{in-Some+in_ok-copy-in-Some+in_ok-push-in-Some, in-None}

-- one number more
live_more : (live : List ActiveFile) (numbers : List ℕ) (n : ℕ) → live_among live (numbers ++ n ∷ []) ≡ live_among live numbers ++ cons_option (option_map (λ a. a.file) (active_of n live)) []
live_more live [] n = refl
live_more live (m ∷ numbers) n =
    let rest = live_more live numbers n in
    let more : List FlowFile = cons_option (option_map (λ (a : ActiveFile). a.file) (active_of n live)) [] in
    elim (option_map (λ (a : ActiveFile). a.file) (active_of m live)) as (λ o. cons_option o (live_among live (numbers ++ n ∷ [])) ≡ cons_option o (live_among live numbers) ++ more) [
      | None ↦ rest
      | Some file ↦ ap (λ (files : List FlowFile). file ∷ files) rest
    ]

append_nil : (files : List FlowFile) → files ++ [] ≡ files
append_nil [] = refl
append_nil (file ∷ files) = ap (λ (rest : List FlowFile). file ∷ rest) (append_nil files)

live_next : (live : List ActiveFile) (numbers : List ℕ) (i : ℕ) (o : Option ActiveFile) (files next : List FlowFile) → i < length numbers → files ≡ live_among live (take i numbers) → o ≡ active_of (get_or numbers i 0) live
    → next ≡ files ++ cons_option (option_map (λ a. a.file) o) [] → next ≡ live_among live (take (i + 1) numbers)
live_next live numbers i o files next lt so_far found is =
    is
    ∙ ap (λ (before : List FlowFile). before ++ cons_option (option_map (λ (a : ActiveFile). a.file) o) []) so_far
    ∙ ap (λ (p : Option ActiveFile). live_among live (take i numbers) ++ cons_option (option_map (λ (a : ActiveFile). a.file) p) []) found
    ∙ sym (live_more live (take i numbers) (get_or numbers i 0))
    ∙ ap (live_among live) (sym (take_more numbers i 0 lt))

pub loop-number-preserved : goal.loop-number-preserved
loop-number-preserved c =
    let live : List ActiveFile = c.args.live.now.items in
    let files : List FlowFile = c.loop-number.files in
    elim c.match-get.branch [
      | in-Some+in_ok-copy-in-Some+in_ok-push-in-Some w ↦
          live_next live c.args.numbers.now c.loop-number.number-index (Some w.in-Some.active.now) files c.match-get.files c.loop-number-test.true c.loop-number.invariant w.in-Some.ensures
          (w.files-is ∙ w.in_ok-push-in-Some.ensures.ok ∙ ap (λ (file : FlowFile). files ++ file ∷ []) w.in_ok-copy-in-Some.ensures)
      | in-None w ↦
          live_next live c.args.numbers.now c.loop-number.number-index None files c.match-get.files c.loop-number-test.true c.loop-number.invariant w.in-None.ensures (w.files-is ∙ sym (append_nil files))
    ]
