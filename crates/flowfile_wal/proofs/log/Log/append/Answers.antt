use Rattle.std.proofs.Common.{◌≡◌, ◌+◌, ℕ, length, ◌∙◌, refl, sym, ap, subst}
use Rattle.std.specs.Prelude.{Some}
use Rattle.disk_trait.specs.Images.{Since}
use Rattle.flowfile_wal.specs.Calls.{WithOrWithout, InEach}
use Rattle.flowfile_wal.specs.Steps.{LogState, AddsEntries}
use Rattle.flowfile_wal.proofs.States.{gate_there, rest_in_each, ready_more}
use Rattle.flowfile_wal.proofs.log.Log.append.Goals as goal

pub append_frame-requires-clause-there : goal.append_frame-requires-clause-there
append_frame-requires-clause-there g c lfts out told =
    let laws = g.met.D.Disk g.world.𝓛 g.world.𝓜 g.world.𝓡 ((λ s x. x), (λ x. x), (λ x. x), λ x. x) in
    let old = c.args.disk.now in
    let state : LogState = c.args.self.now in
    let ends = sym (ap (λ (s : LogState). s.end) c.self.view_is) in
    let has : state.number ≡ Some c.in-Some.number = sym (ap (λ (s : LogState). s.number) c.self.view_is) ∙ c.in-Some.is in
    gate_there state c.in-Some.number state.version c.self.inside.gate has refl ends (g.D.Disk.held old) (c.requires.ready (g.D.Disk.held old) (laws.held_is_left old told))

pub returns-in_default-append_frame-clause-images : goal.returns-in_default-append_frame-clause-images
returns-in_default-append_frame-clause-images g c number entries is is_frame =
    let old = c.args.disk.now in
    let state : LogState = c.args.self.now in
    let ends = sym (ap (λ (s : LogState). s.end) c.self.view_is) in
    let has : state.number ≡ Some c.in-Some.number = sym (ap (λ (s : LogState). s.number) c.self.view_is) ∙ c.in-Some.is in
    let both : Some c.in-Some.number ≡ Some number = sym has ∙ is in
    let same : c.in-Some.number ≡ number = cc in
    let rests = rest_in_each state c.in-Some.number state.version c.self.inside.gate has refl ends (g.D.Disk.images old (g.D.Disk.moment old)) c.requires.ready in
    subst (λ (n : ℕ). Since g.D.Disk.moment g.D.Disk.images old c.append_frame.new.disk (WithOrWithout n entries (length c.args.frame.now) (g.D.Disk.images old (g.D.Disk.moment old)) (g.D.Disk.held old))) same
    (c.append_frame.ensures.images state.version entries rests is_frame)

pub returns-clause-images : goal.returns-clause-images
returns-clause-images g c number entries is is_frame =
    let old = c.args.disk.now in
    let state : LogState = c.args.self.now in
    let ends = sym (ap (λ (s : LogState). s.end) c.self.view_is) in
    let has : state.number ≡ Some c.in-Some.number = sym (ap (λ (s : LogState). s.number) c.self.view_is) ∙ c.in-Some.is in
    let both : Some c.in-Some.number ≡ Some number = sym has ∙ is in
    let same : c.in-Some.number ≡ number = cc in
    let rests = rest_in_each state c.in-Some.number state.version c.self.inside.gate has refl ends (g.D.Disk.images old (g.D.Disk.moment old)) c.requires.ready in
    subst (λ (n : ℕ). Since g.D.Disk.moment g.D.Disk.images old c.append_frame.new.disk (WithOrWithout n entries (length c.args.frame.now) (g.D.Disk.images old (g.D.Disk.moment old)) (g.D.Disk.held old))) same
    (c.append_frame.ensures.images state.version entries rests is_frame)

pub returns-clause-added : goal.returns-clause-added
returns-clause-added g c number entries is is_frame =
    let old = c.args.disk.now in
    let new = c.append_frame.new.disk in
    let state : LogState = c.args.self.now in
    let ends = sym (ap (λ (s : LogState). s.end) c.self.view_is) in
    let has : state.number ≡ Some c.in-Some.number = sym (ap (λ (s : LogState). s.number) c.self.view_is) ∙ c.in-Some.is in
    let both : Some c.in-Some.number ≡ Some number = sym has ∙ is in
    let same : c.in-Some.number ≡ number = cc in
    let rests = rest_in_each state c.in-Some.number state.version c.self.inside.gate has refl ends (g.D.Disk.images old (g.D.Disk.moment old)) c.requires.ready in
    subst (λ (n : ℕ). InEach (g.D.Disk.images new (g.D.Disk.moment new)) (AddsEntries n entries (length c.args.frame.now) (g.D.Disk.held old))) same
    (c.in-Ok.ensures.added state.version entries rests is_frame)

pub returns-clause-ready : goal.returns-clause-ready
returns-clause-ready g c =
    let laws = g.met.D.Disk g.world.𝓛 g.world.𝓜 g.world.𝓡 ((λ s x. x), (λ x. x), (λ x. x), λ x. x) in
    let old = c.args.disk.now in
    let new = c.append_frame.new.disk in
    let state : LogState = c.args.self.now in
    let entries = c.requires.frame.0 in
    let is_frame = c.requires.frame.1 in
    let size = length c.args.frame.now in
    let ends = sym (ap (λ (s : LogState). s.end) c.self.view_is) in
    let has : state.number ≡ Some c.in-Some.number = sym (ap (λ (s : LogState). s.number) c.self.view_is) ∙ c.in-Some.is in
    let gate : c.self.inside.gate ≡ state.end = ap (λ (s : LogState). s.end) c.self.view_is in
    let rests = rest_in_each state c.in-Some.number state.version c.self.inside.gate has refl ends (g.D.Disk.images old (g.D.Disk.moment old)) c.requires.ready in
    let now : LogState = record {
      number = c.self.inside.current;
      version = c.self.inside.version;
      end = c.self.inside.gate + size;
      mended = c.self.inside.is_mended;
      failed = c.self.inside.has_failed;
    } in
    record {
      ready = λ c' left.
          let told = laws.left_is_told new (g.D.Disk.moment new) c' left in
          ready_more state now c.in-Some.number entries size (g.D.Disk.held old) c' has (c.requires.ready (g.D.Disk.held old) (laws.held_is_left old told)) (c.in-Ok.ensures.added state.version entries rests is_frame c' left)
          (ap (λ (s : LogState). s.number) c.self.view_is) (ap (λ (s : LogState). s.version) c.self.view_is) (ap (λ (e : ℕ). e + size) gate);
      synced = c.in-Ok.ensures.synced;
    }
