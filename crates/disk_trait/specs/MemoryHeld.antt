-- What is held may be left, and nothing under numbers that no call can name.
use Rattle.std.specs.Prelude.{◌≡◌, ℕ, ◌^◌, ◌≤◌, true, List, [], ◌∷◌, length, refl, All, count_by}
use Rattle.std.proofs.Common.{leb, cond, sym, ◌∙◌, subst, arith}
use Rattle.std.proofs.lemmas.Bool.{le-leb}
use Rattle.std.proofs.lemmas.List.{nil_from_length}
use Rattle.std.proofs.lemmas.List.Elements.{All-head, All-tail, All-weaker}
use Rattle.std.proofs.lemmas.List.Sums.{sum_by-cons}
use Rattle.disk_trait.specs.declared.file_name.FileName.{FileName}
use Rattle.disk_trait.specs.Files.{Files}
use Rattle.disk_trait.specs.Memory.{IsImage}
use Rattle.disk_trait.specs.MemoryTable.{bytes_of}
use Rattle.disk_trait.specs.MemoryPast.{Past, IsPast, file_after, calls_until, left_at}

pub count_all : (k : ℕ) (ts : List ℕ) → All (λ t. t ≤ k) ts → count_by (λ t. leb t k) ts ≡ length ts
count_all k [] passed = refl
count_all k (t ∷ ts) passed =
    let here : leb t k ≡ true = le-leb t k (All-head (λ t. t ≤ k) t ts passed) in
    let rest = count_all k ts (All-tail (λ t. t ≤ k) t ts passed) in
    sum_by-cons (λ t. cond (leb t k) 1 0) t ts ∙ rw here (omega (arith, rest))

pub until_all : (p : Past) (k : ℕ) → IsPast p → p.now ≤ k → calls_until p k ≡ length p.calls
unfolding calls_until
until_all p k past late =
    count_all k p.moments (All-weaker (λ t. t ≤ p.now) (λ t. t ≤ k)
    (λ t h. omega (arith, h, late)) p.moments past.passed)
    ∙ past.paired

pub held_is_left : (p : Past) → IsPast p → left_at p p.now (bytes_of p.table)
unfolding left_at
held_is_left p past = λ f. subst (λ m. IsImage (file_after p m f) (bytes_of p.table f))
    (sym (until_all p p.now past (omega arith)))
    (subst (λ held. IsImage (file_after p (length p.calls) f) held) (sym (past.made f)) (past.sound (length p.calls) f))

pub left_ends : (p : Past) → IsPast p → (k : ℕ) (c : Files) (f : FileName)
    → left_at p k c → 2 ^ 64 ≤ f.number → c f ≡ []
unfolding left_at
left_ends p past k c f left big = nil_from_length (c f)
    (omega (arith, (left f).no_longer, past.ends (calls_until p k) f big))
