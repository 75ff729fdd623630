-- Files of a kind that are cut, one after another.
use Rattle.std.proofs.Common.{◌≡◌, ◌≢◌, ⊎_elim, ℕ, Bool, true, false, List, refl, sym, ap, subst, ◌∙◌, arith}
use Rattle.std.proofs.lemmas.Bool.{cases_Bool, false≢true}
use Rattle.disk_trait.specs.Files.{Files, At, Shortened, named}
use Rattle.disk_trait.specs.Images.{After, Since}
use Rattle.disk_trait.specs.Memory.{same_name}
use Rattle.disk_trait.specs.declared.file_name.FileKind.{FileKind}
use Rattle.disk_trait.specs.declared.file_name.FileName.{FileName}
use Rattle.disk_trait.proofs.FileNames.{same_name_is, same_name_itself}
use Rattle.disk_trait.proofs.Moments.{wider, step_after_step}
use Rattle.store_core.specs.Discard.{CutsKind}

pub shortened_same : (n : ℕ) (bytes : List ℕ) → Shortened n bytes bytes
shortened_same n bytes = record { front = refl; no_shorter = omega arith; no_longer = omega arith }

pub shortened_in_turn : (n : ℕ) (a b c : List ℕ) → Shortened n a b → Shortened n b c → Shortened n a c
shortened_in_turn n a b c first second = record {
  front = second.front ∙ first.front;
  no_shorter = omega (arith, first.no_shorter, second.no_shorter);
  no_longer = omega (arith, first.no_longer, second.no_longer);
}

pub shortened_to_none : (n : ℕ) (a b : List ℕ) → Shortened n a b → Shortened 0 a b
shortened_to_none n a b step = record { front = refl; no_shorter = omega arith; no_longer = step.no_longer }

pub shortened_as : (n : ℕ) (a b : List ℕ) → b ≡ a → Shortened n a b
shortened_as n a b same = subst (λ (bytes : List ℕ). Shortened n a bytes) (sym same) (shortened_same n a)

-- a step on one file, as one on each
pub each_file : (P : List ℕ → List ℕ → Type 0) (file : FileName) (old new : Files) → ((a : List ℕ) → P a a) → At file P old new → (f : FileName) → P (old f) (new f)
each_file P file old new same at f = ⊎_elim
    (λ (is : same_name f file ≡ true).
    let e = same_name_is f file is in
    subst (λ (g : FileName). P (old g) (new g)) (sym e) at.here)
    (λ (isnt : same_name f file ≡ false).
    let other : f ≢ file = λ (e : f ≡ file). false≢true (sym isnt ∙ ap (λ (g : FileName). same_name f g) (sym e) ∙ same_name_itself f) in
    subst (λ (bytes : List ℕ). P (old f) bytes) (sym (at.others f other)) (same (old f)))
    (cases_Bool (same_name f file))

module _ (kind : FileKind) (spared : ℕ → Bool) (size : ℕ) where
  pub cuts_nothing : (files : Files) → CutsKind kind spared size files files
  cuts_nothing files = record { others = λ f other. refl; stay = λ n is. refl; each = λ f. shortened_same size (files f) }

  pub cuts_in_turn : (a b c : Files) → CutsKind kind spared size a b → CutsKind kind spared size b c → CutsKind kind spared size a c
  cuts_in_turn a b c first second = record {
    others = λ f other. second.others f other ∙ first.others f other;
    stay = λ n is. second.stay n is ∙ first.stay n is;
    each = λ f. shortened_in_turn size (a f) (b f) (c f) (first.each f) (second.each f);
  }

  pub cuts_one : (n : ℕ) (old new : Files) → spared n ≡ false → At (named kind n) (Shortened size) old new → CutsKind kind spared size old new
  cuts_one n old new cut at = record {
    others = λ f other. at.others f (λ same. other (ap (λ (g : FileName). g.kind) same));
    stay = λ m is. at.others (named kind m) (λ (same : named kind m ≡ named kind n).
        false≢true (sym cut ∙ subst (λ (k : ℕ). spared k ≡ true) (ap (λ (g : FileName). g.number) same) is));
    each = each_file (Shortened size) (named kind n) old new (shortened_same size) at;
  }

  module _ {D : Type 0} (moment : D → ℕ) (images : D → ℕ → Files → Type 0) where
    abbrev pub Cuts : D → Files → Type 0
    Cuts disk = After (CutsKind kind spared size) (images disk (moment disk))

    pub since_nothing_cut : (old new : D) → Since moment images old new (images old (moment old)) → Since moment images old new (Cuts old)
    since_nothing_cut old new since = wider moment images old new (images old (moment old)) (Cuts old) since (λ c left. (c, left, cuts_nothing c))

    pub since_cut : (old mid new : D) → Since moment images old mid (Cuts old) → Since moment images mid new (Cuts mid) → Since moment images old new (Cuts old)
    since_cut old mid new first second =
        step_after_step moment images old mid new (CutsKind kind spared size) (CutsKind kind spared size) (CutsKind kind spared size) (images old (moment old)) first second
        (λ d c r. r) (λ d e c r s. cuts_in_turn d e c r s)

    pub since_one_cut : (n : ℕ) (old new : D) → spared n ≡ false
        → Since moment images old new (After (At (named kind n) (Shortened size)) (images old (moment old))) → Since moment images old new (Cuts old)
    since_one_cut n old new cut since =
        wider moment images old new (After (At (named kind n) (Shortened size)) (images old (moment old))) (Cuts old) since
        (λ c after. (after.0, after.1, cuts_one n after.0 c cut after.2))
