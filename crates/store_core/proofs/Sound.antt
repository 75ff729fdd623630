-- Contents that are sound: those of live files, and those that were placed.
use Rattle.std.proofs.Common.{◌≡◌, ℕ, ◌≤◌, Bool, true, false, cond, ltb, List, [], ◌∷◌, length, refl, sym, ap, subst, ◌∙◌, arith}
use Rattle.std.specs.Prelude.{Option, None, Some, All, Contains, map, bytes_eq, nat_lt, not}
use Rattle.std.proofs.lemmas.Bool.{false≢true}
use Rattle.std.proofs.lemmas.List.Elements.{All-nil, All-cons, All-head, All-tail, All-map, All-filter}
use Rattle.std.proofs.lemmas.Slice.Eq.{bytes_eq-Decides}
use Rattle.sha2.specs.Sha256.{sha256}
use Rattle.disk_trait.specs.Files.{Files}
use Rattle.disk_trait.specs.declared.damage.Damage.{Damage}
use Rattle.flowfile_record.specs.Stored.{Kept}
use Rattle.flowfile_record.specs.declared.content.ContentRef.{ContentRef}
use Rattle.flowfile_record.specs.declared.stored.ActiveFile.{ActiveFile}
use Rattle.record_codec.specs.declared.entry.SessionEntry.{SessionEntry}
use Rattle.content_repo.specs.Claims.{claim, content_in, IsCovered, IsDamage}
use Rattle.content_repo.specs.Slots.{end_of}
use Rattle.kept_state.specs.Applied.{left_after, with_files, is_file_among, session_applied}
use Rattle.kept_state.proofs.Keeping.{All-with_files}
use Rattle.store_core.specs.State.{digest_damage, content_damage, first_damage, contents_damage, live_contents}
use Rattle.store_core.proofs.Agreeing.{sound}

-- ---- one content

pub record IsSoundIn (files : Files) (at : ContentRef) : Type 0 where
  pub covered : IsCovered files at
  pub digest : sha256 (content_in files at) ≡ at.digest

not_short : (m n : ℕ) → n ≤ m → ltb m n ≡ false
not_short m n le = grind arith

long_enough : (m n : ℕ) → ltb m n ≡ false → n ≤ m
long_enough m n is = grind arith

passes : (b : Bool) (damage : Damage) → cond b sound (Some damage) ≡ sound → b ≡ true
passes true damage is = refl
passes false damage is = absurd cc

both_pass : (short : Bool) (damage : Damage) (rest : Option Damage) → cond short (Some damage) rest ≡ sound → (short ≡ false) × (rest ≡ sound)
both_pass true damage rest is = absurd cc
both_pass false damage rest is = (refl, is)

pub is_sound : (files : Files) (at : ContentRef) → content_damage files at ≡ sound → IsSoundIn files at
is_sound files at is =
    let parts = both_pass (nat_lt (length (files (claim at.slot))) (end_of at)) _ (digest_damage at (content_in files at)) is in
    record {
      covered = long_enough (length (files (claim at.slot))) (end_of at) parts.0;
      digest = (bytes_eq-Decides (sha256 (content_in files at)) at.digest).0 (passes (bytes_eq (sha256 (content_in files at)) at.digest) _ parts.1);
    }

sound_where : (short right : Bool) (one other : Damage) → short ≡ false → right ≡ true → cond short (Some one) (cond right sound (Some other)) ≡ sound
sound_where true right one other s r = absurd (false≢true (sym s))
sound_where false true one other s r = refl
sound_where false false one other s r = absurd (false≢true r)

pub no_damage : (files : Files) (at : ContentRef) → IsSoundIn files at → content_damage files at ≡ sound
no_damage files at is =
    sound_where (nat_lt (length (files (claim at.slot))) (end_of at)) (bytes_eq (sha256 (content_in files at)) at.digest) _ _
    (not_short (length (files (claim at.slot))) (end_of at) is.covered)
    ((bytes_eq-Decides (sha256 (content_in files at)) at.digest).1 is.digest)

-- ---- all contents

first_sound : (one other : Option Damage) → first_damage one other ≡ sound → (one ≡ sound) × (other ≡ sound)
first_sound None other is = (refl, is)
first_sound (Some damage) other is = absurd cc

both_sound : (one other : Option Damage) → one ≡ sound → other ≡ sound → first_damage one other ≡ sound
both_sound one other a b = ap (λ (o : Option Damage). first_damage o other) a ∙ b

pub each_sound : (files : Files) (refs : List ContentRef) → contents_damage files refs ≡ sound → All (IsSoundIn files) refs
each_sound files [] is = All-nil (IsSoundIn files)
each_sound files (at ∷ refs) is =
    let parts = first_sound (content_damage files at) (contents_damage files refs) is in
    All-cons (IsSoundIn files) at refs (is_sound files at parts.0) (each_sound files refs parts.1)

pub all_sound : (files : Files) (refs : List ContentRef) → All (IsSoundIn files) refs → contents_damage files refs ≡ sound
all_sound files [] each = refl
all_sound files (at ∷ refs) each =
    both_sound (content_damage files at) (contents_damage files refs)
    (no_damage files at (All-head (IsSoundIn files) at refs each)) (all_sound files refs (All-tail (IsSoundIn files) at refs each))

pub one_sound : (files : Files) (refs : List ContentRef) (at : ContentRef) → contents_damage files refs ≡ sound → Contains refs at → IsSoundIn files at
one_sound files refs at is has = subst (IsSoundIn files) has.2 (each_sound files refs is has.0 at has.1)

-- ---- the contents of files, once a session is applied

abbrev pub content_of : ActiveFile → ContentRef
content_of a = a.file.content

pub unmap : (P : ContentRef → Type 0) (files : List ActiveFile) → All P (map content_of files) → All (λ a. P (content_of a)) files
unmap P [] each = All-nil (λ a. P (content_of a))
unmap P (a ∷ files) each =
    All-cons (λ b. P (content_of b)) a files (All-head P (content_of a) (map content_of files) each) (unmap P files (All-tail P (content_of a) (map content_of files) each))

pub all_applied : (P : ContentRef → Type 0) (k : Kept) (s : SessionEntry) → All P (live_contents k) → All P (map content_of s.placed) → All P (live_contents (session_applied k s))
all_applied P k s live placed =
    All-map P content_of (with_files s.placed (left_after s.gone k.files))
    (All-with_files (λ a. P (content_of a)) s.placed (left_after s.gone k.files) (unmap P s.placed placed)
    (All-filter (λ a. not (is_file_among s.gone a)) (λ a. P (content_of a)) k.files (unmap P k.files live)))

-- ---- damage

pub damage_not : (files : Files) (at : ContentRef) (damage : Damage) → IsSoundIn files at → IsDamage at (files (claim at.slot)) damage → ⊥
damage_not files at (Damage.Digest file offset stored found) is (a, b, c, d, e, f) = f (d ∙ sym is.digest ∙ sym e)
damage_not files at (Damage.Short file offset need have) is (a, b, c, d, e) = absurd (omega (arith, c, is.covered))
damage_not files at (Damage.Form file offset) is no_one = no_one
