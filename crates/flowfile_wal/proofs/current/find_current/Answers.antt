use Rattle.std.proofs.Common.{◌≡◌, ◌++◌, ◌∷◌, [], true, length, arith, sym, ◌∙◌, ap, subst, rules}
use Rattle.std.proofs.lemmas.List.Kept.{AllPairs-from_increasing}
use Rattle.disk_trait.specs.Files.{Files, named}
use Rattle.disk_trait.specs.declared.file_name.FileKind.TheVariants.{Log}
use Rattle.record_codec.specs.Frames.{counts}
use Rattle.flowfile_wal.proofs.Searching.{Rises, AllCounted, rises_front, counted_some, found_last, none_left, passed_last}
use Rattle.flowfile_wal.proofs.current.find_current.Goals as goal

pub loop-number-init : goal.loop-number-init
loop-number-init g c = record {
  stays = c.files.ensures.stays;
  faults = omega (arith, c.files.ensures.cause);
  ascending = AllPairs-from_increasing c.files.new.list.items c.files.ensures.ascending;
  counted = λ told n lt counted. (c.in_ok-files.ensures.listed told n lt).1 (counted_some (g.D.Disk.held c.args.disk.now (named Log n)) counted);
}

pub returns-then-branch-clause-found : goal.returns-then-branch-clause-found
returns-then-branch-clause-found g c told =
    let files : Files = g.D.Disk.held c.args.disk.now in
    let number = c.in-Some.number in
    let rest = c.pop.new.self.items in
    let inv = c.loop-number.invariant in
    let split : c.loop-number.logs.items ≡ rest ++ number ∷ [] = c.in-Some.ensures.items in
    let rises = subst Rises split inv.ascending in
    let all = subst (AllCounted files) split (inv.counted told) in
    let same = c.size.ensures.stays.files ∙ inv.stays.files in
    let counted : counts (files (named Log number)) ≡ true = sym (ap (λ (f : Files). counts (f (named Log number))) same) ∙ sym (c.in_ok-is_counted.ensures.counted told) ∙ c.if-branch.true in
    record {
      number = found_last files rest number rises all (omega arith) counted;
      counted = counted;
      size = c.in_ok-size.ensures.size told ∙ ap (λ (f : Files). length (f (named Log number))) inv.stays.files;
    }

pub loop-number-preserved : goal.loop-number-preserved
loop-number-preserved g c =
    let files : Files = g.D.Disk.held c.args.disk.now in
    let number = c.in-Some.number in
    let rest = c.pop.new.self.items in
    let inv = c.loop-number.invariant in
    let split : c.loop-number.logs.items ≡ rest ++ number ∷ [] = c.in-Some.ensures.items in
    let same = c.size.ensures.stays.files ∙ inv.stays.files in
    record {
      stays = search rules;
      faults = omega arith;
      ascending = rises_front rest number (subst Rises split inv.ascending);
      counted = λ told. passed_last files rest number (subst (AllCounted files) split (inv.counted told))
          (sym (ap (λ (f : Files). counts (f (named Log number))) same) ∙ sym (c.in_ok-is_counted.ensures.counted told) ∙ c.if-branch.false);
    }

pub returns-clause-found : goal.returns-clause-found
returns-clause-found g c told =
    none_left (g.D.Disk.held c.args.disk.now) c.loop-number.logs.items (omega (arith, c.in_default.ensures.cases)) (c.loop-number.invariant.counted told)
