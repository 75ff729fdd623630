use Rattle.std.proofs.Common.{◌≡◌, ℕ, sym, subst, ◌∙◌}
use Rattle.std.specs.Prelude.{Option, Some, None, OnOk}
use Rattle.store_core.specs.Agreement.{IsPlain}
use Rattle.store_core.specs.Revived.{IsLogWhole, RevivesOn}
use Rattle.store_core.specs.Touched.{log_opened}
use Rattle.store_core.proofs.revival.make_whole.Goals as goal

abbrev some : ℕ → Option ℕ
some n = Some n

abbrev none : Option ℕ
none = None

pub returns-in-Some-clause-whole : goal.returns-in-Some-clause-whole
returns-in-Some-clause-whole g c =
    subst (λ (current : Option ℕ). OnOk c.mend.result (IsLogWhole g.D.Disk.tells g.D.Disk.held g.D.Disk.moment g.D.Disk.images (log_opened current) c.mend.new.log c.mend.new.disk))
    (sym c.in-Some.is ∙ c.number.ensures) c.mend.ensures.whole

pub returns-in-None-clause-whole : goal.returns-in-None-clause-whole
returns-in-None-clause-whole g c =
    subst (λ (current : Option ℕ). OnOk c.make.result (IsLogWhole g.D.Disk.tells g.D.Disk.held g.D.Disk.moment g.D.Disk.images (log_opened current) c.make.new.log c.make.new.disk))
    (sym c.in-None.is ∙ c.number.ensures) c.make.ensures.whole

pub returns-in-Some-clause-images : goal.returns-in-Some-clause-images
returns-in-Some-clause-images g c =
    let current : some c.in-Some.number ≡ c.args.log.now.number = sym c.in-Some.is ∙ c.number.ensures in
    record {
      keeps = λ number needs is plain.
          let both : some number ≡ some c.in-Some.number = sym is ∙ sym current in
          let same : number ≡ c.in-Some.number = cc in
          c.mend.ensures.images needs (subst (λ (n : ℕ). IsPlain needs n) same plain);
      makes = λ no_log. absurd (let both : some c.in-Some.number ≡ none = current ∙ no_log in cc);
    }

pub returns-in-None-clause-images : goal.returns-in-None-clause-images
returns-in-None-clause-images g c =
    let current : none ≡ c.args.log.now.number = sym c.in-None.is ∙ c.number.ensures in
    record {
      keeps = λ number needs is plain. absurd (let both : none ≡ some number = current ∙ is in cc);
      makes = λ no_log. c.make.ensures.images;
    }

pub returns-in-Some-clause-revives : goal.returns-in-Some-clause-revives
returns-in-Some-clause-revives g c =
    subst (λ (current : Option ℕ). RevivesOn g.D.Disk.moment g.D.Disk.images current c.args.disk.now c.mend.new.disk)
    (sym c.in-Some.is ∙ c.number.ensures) c.mend.ensures.revives

pub returns-in-None-clause-revives : goal.returns-in-None-clause-revives
returns-in-None-clause-revives g c =
    subst (λ (current : Option ℕ). RevivesOn g.D.Disk.moment g.D.Disk.images current c.args.disk.now c.make.new.disk)
    (sym c.in-None.is ∙ c.number.ensures) c.make.ensures.revives
