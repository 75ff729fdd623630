use Rattle.std.proofs.Common.{rules, ◌≡◌, ◌↔◌, ◌+◌, ◌-◌, ◌≤◌, ℕ, Bool, IsTrue, List, length, take, drop, ◌++◌, sym, ap, subst, ◌∙◌, arith}
use Rattle.std.proofs.Math.Seq.{take-add}
use Rattle.std.proofs.lemmas.Bool.{false≢true}
use Rattle.std.proofs.lemmas.List.{drop-drop, drop-take, take-take, length-take-le}
use Rattle.disk_trait.specs.Files.{Files}
use Rattle.content_repo.proofs.still.are_at.Goals as goal

-- each part of the bytes stands where they all do
part_of : (bytes held : List ℕ) (done count : ℕ) → done + count ≤ length bytes → take (length bytes) held ≡ bytes → take count (drop done held) ≡ take count (drop done bytes)
part_of bytes held done count within same =
    let rest = length bytes - done in
    let whole : done + rest ≡ length bytes = omega (arith, within) in
    let cut : drop done (take (length bytes) held) ≡ take rest (drop done held) = ap (λ (k : ℕ). drop done (take k held)) (sym whole) ∙ drop-take done rest held in
    sym (take-take count rest (drop done held) (omega (arith, within))) ∙ ap (take count) (sym cut) ∙ ap (λ (l : List ℕ). take count (drop done l)) same

-- what was compared, told of the file's bytes from the offset on
compared : (b : Bool) (bytes file : List ℕ) (offset done count long len : ℕ) → long ≡ count → len ≡ count
    → (IsTrue b ↔ (take long (drop (offset + done) file) ≡ take len (drop done bytes)))
    → IsTrue b ↔ (take count (drop done (drop offset file)) ≡ take count (drop done bytes))
compared b bytes file offset done count long len read wanted e =
    subst (λ (l : List ℕ). IsTrue b ↔ (take count l ≡ take count (drop done bytes))) (sym (drop-drop done offset file))
    (subst (λ (k : ℕ). IsTrue b ↔ (take count (drop (offset + done) file) ≡ take k (drop done bytes))) wanted
    (subst (λ (k : ℕ). IsTrue b ↔ (take k (drop (offset + done) file) ≡ take len (drop done bytes))) read e))

pub returns-then-not-branch-clause-same : goal.returns-then-not-branch-clause-same
returns-then-not-branch-clause-same g c told =
    let inv = c.loop-done.invariant in
    let bytes = c.args.bytes.now in
    let offset = c.args.offset in
    let done = c.loop-done.done in
    let count = c.min-count.result in
    let file = g.D.Disk.held c.args.disk.now c.args.file in
    let long : length (take count c.loop-done.piece) ≡ count = length-take-le count c.loop-done.piece (omega (arith, c.min-count.ensures)) in
    let step = subst (λ (f : Files). IsTrue c.in_ok-is_piece.field-0 ↔ (take (length (take count c.loop-done.piece)) (drop (offset + done) (f c.args.file)) ≡ take (done + count - done) (drop done bytes))) inv.stays.files (c.in_ok-is_piece.ensures.same told) in
    let whole = compared c.in_ok-is_piece.field-0 bytes file offset done count (length (take count c.loop-done.piece)) (done + count - done) long (omega arith) step in
    (λ same. absurd (false≢true same), λ same. sym c.if-not-branch.true ∙ whole.1 (part_of bytes (drop offset file) done count (omega (arith, c.min-count.ensures, inv.within)) same))

pub loop-done-preserved : goal.loop-done-preserved
loop-done-preserved g c =
    let inv = c.loop-done.invariant in
    record {
      within = omega (arith, c.min-count.ensures, inv.within);
      stays = search rules;
      faults = omega (arith, inv.faults, c.in_ok-is_piece.ensures.cause.never_falls);
      same = λ told.
          let bytes = c.args.bytes.now in
          let offset = c.args.offset in
          let done = c.loop-done.done in
          let count = c.min-count.result in
          let file = g.D.Disk.held c.args.disk.now c.args.file in
          let long : length (take count c.loop-done.piece) ≡ count = length-take-le count c.loop-done.piece (omega (arith, c.min-count.ensures)) in
          let step = subst (λ (f : Files). IsTrue c.in_ok-is_piece.field-0 ↔ (take (length (take count c.loop-done.piece)) (drop (offset + done) (f c.args.file)) ≡ take (done + count - done) (drop done bytes))) inv.stays.files (c.in_ok-is_piece.ensures.same told) in
          let whole = compared c.in_ok-is_piece.field-0 bytes file offset done count (length (take count c.loop-done.piece)) (done + count - done) long (omega arith) step in
          take-add done count (drop offset file)
          ∙ ap (λ (l : List ℕ). l ++ take count (drop done (drop offset file))) (inv.same told)
          ∙ ap (λ (l : List ℕ). take done bytes ++ l) (whole.0 c.if-not-branch.false)
          ∙ sym (take-add done count bytes);
    }
