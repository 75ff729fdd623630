-- Contents that are read one after the other, and the damage of the first that isn't sound.
use Rattle.std.proofs.Common.{◌≡◌, ℕ, ◌≤◌, subst, ltb, Bool, true, false, cond, List, [], ◌∷◌, ◌++◌, length, map, append_assoc, refl, sym, ap, ◌∙◌, arith, IsTrue}
use Rattle.std.specs.Prelude.{Option, None, Some, All, bytes_eq, nat_lt}
use Rattle.std.proofs.lemmas.Bool.{lt-ltb, false_from_ne_true}
use Rattle.std.proofs.lemmas.Slice.Eq.{bytes_eq-Decides}
use Rattle.sha2.specs.Sha256.{sha256}
use Rattle.disk_trait.specs.Files.{Files}
use Rattle.disk_trait.specs.declared.damage.Damage.{Damage}
use Rattle.flowfile_record.specs.declared.content.ContentRef.{ContentRef}
use Rattle.content_repo.specs.Claims.{claim, content_in, IsDamage, IsRead}
use Rattle.content_repo.specs.Slots.{end_of, IsNamed}
use Rattle.checkpoint_store.specs.Consistent.{IsFileIn}
use Rattle.flowfile_record.specs.Stored.{Kept}
use Rattle.flowfile_record.specs.declared.stored.ActiveFile.{ActiveFile}
use Rattle.std.proofs.lemmas.List.{append-nil}
use Rattle.std.proofs.lemmas.List.Elements.{All-head, All-tail}
use Rattle.store_core.specs.State.{content_damage, first_damage, contents_damage}
use Rattle.store_core.proofs.Sound.{IsSoundIn, no_damage}

not_short : (m n : ℕ) → n ≤ m → ltb m n ≡ false
not_short m n le = grind arith

is_short : (short : Bool) (one : Damage) (rest : Option Damage) → short ≡ true → cond short (Some one) rest ≡ Some one
is_short true one rest is = refl
is_short false one rest is = absurd cc

differs : (short right : Bool) (one other : Damage) → short ≡ false → right ≡ false → cond short (Some one) (cond right None (Some other)) ≡ Some other
differs true right one other s r = absurd cc
differs false true one other s r = absurd cc
differs false false one other s r = refl

-- what is told of a content is what is wrong with it
pub damage_is : (files : Files) (at : ContentRef) (damage : Damage) → IsDamage at (files (claim at.slot)) damage → content_damage files at ≡ Some damage
damage_is files at (Damage.Short file offset need have) (a, b, c, d, e) =
    let told : Some (Damage.Short (claim at.slot) at.offset (end_of at) (length (files (claim at.slot)))) ≡ Some (Damage.Short file offset need have) = cc in
    is_short (nat_lt (length (files (claim at.slot))) (end_of at)) _ _ (lt-ltb (length (files (claim at.slot))) (end_of at) c) ∙ told
damage_is files at (Damage.Digest file offset stored found) (a, b, c, d, e, f) =
    let told : Some (Damage.Digest (claim at.slot) at.offset at.digest (sha256 (content_in files at))) ≡ Some (Damage.Digest file offset stored found) = cc in
    differs (nat_lt (length (files (claim at.slot))) (end_of at)) (bytes_eq (sha256 (content_in files at)) at.digest) _ _
    (not_short (length (files (claim at.slot))) (end_of at) c)
    (false_from_ne_true (bytes_eq (sha256 (content_in files at)) at.digest)
    (λ same. f (d ∙ sym ((bytes_eq-Decides (sha256 (content_in files at)) at.digest).0 same) ∙ sym e)))
    ∙ told
damage_is files at (Damage.Form file offset) never = absurd never

-- what was read is sound
pub read_sound : (tells : Bool) (files : Files) (at : ContentRef) (bytes : List ℕ) → IsRead tells files at bytes → IsTrue tells → IsSoundIn files at
read_sound tells files at bytes read t = record { covered = read.whole t; digest = ap sha256 (sym (read.content t)) ∙ read.digest }

first_sound : (one other : Option Damage) → first_damage one other ≡ None → (one ≡ None) × (other ≡ None)
first_sound None other is = (refl, is)
first_sound (Some damage) other is = absurd cc

pub sound_more : (files : Files) (front : List ContentRef) (at : ContentRef) → contents_damage files front ≡ None → IsSoundIn files at → contents_damage files (front ++ at ∷ []) ≡ None
sound_more files [] at sound is = ap (λ (o : Option Damage). first_damage o None) (no_damage files at is)
sound_more files (one ∷ front) at sound is =
    let parts = first_sound (content_damage files one) (contents_damage files front) sound in
    ap (λ (o : Option Damage). first_damage o (contents_damage files (front ++ at ∷ []))) parts.0 ∙ sound_more files front at parts.1 is

pub first_damaged : (files : Files) (front : List ContentRef) (at : ContentRef) (rest : List ContentRef) (damage : Damage) → contents_damage files front ≡ None → content_damage files at ≡ Some damage
    → contents_damage files (front ++ at ∷ rest) ≡ Some damage
first_damaged files [] at rest damage sound is = ap (λ (o : Option Damage). first_damage o (contents_damage files rest)) is
first_damaged files (one ∷ front) at rest damage sound is =
    let parts = first_sound (content_damage files one) (contents_damage files front) sound in
    ap (λ (o : Option Damage). first_damage o (contents_damage files (front ++ at ∷ rest))) parts.0 ∙ first_damaged files front at rest damage parts.1 is

-- ---- the files, one after the other

abbrev pub contents_of_files : List ActiveFile → List ContentRef
contents_of_files files = map (λ a. a.file.content) files

-- the contents that were read, this one, and those behind it
pub this_content : (live read : List ContentRef) (files rest : List ActiveFile) (one : ActiveFile) → live ≡ read ++ contents_of_files files → files ≡ one ∷ rest
    → live ≡ read ++ one.file.content ∷ contents_of_files rest
this_content live read files rest one split is = split ∙ ap (λ (fs : List ActiveFile). read ++ contents_of_files fs) is

pub next_content : (live read more : List ContentRef) (files rest : List ActiveFile) (one : ActiveFile) → live ≡ read ++ contents_of_files files → files ≡ one ∷ rest
    → more ≡ read ++ one.file.content ∷ [] → live ≡ more ++ contents_of_files rest
next_content live read more files rest one split is pushed =
    this_content live read files rest one split is
    ∙ sym (append_assoc read (one.file.content ∷ []) (contents_of_files rest))
    ∙ ap (λ (refs : List ContentRef). refs ++ contents_of_files rest) (sym pushed)

pub all_contents : (live read : List ContentRef) (files : List ActiveFile) → live ≡ read ++ contents_of_files files → files ≡ [] → read ≡ live
all_contents live read files split is = sym (split ∙ ap (λ (fs : List ActiveFile). read ++ contents_of_files fs) is ∙ append-nil read)

pub file_behind : (k : Kept) (files rest : List ActiveFile) (one : ActiveFile) → All (IsFileIn k) files → files ≡ one ∷ rest → IsFileIn k one × All (IsFileIn k) rest
file_behind k files rest one each is =
    let all = subst (All (IsFileIn k)) is each in
    (All-head (IsFileIn k) one rest all, All-tail (IsFileIn k) one rest all)

-- each content of a consistent state is named
pub file_named : (k : Kept) (a : ActiveFile) → IsFileIn k a → IsNamed a.file.content
file_named k a is = let at = is.encoded.file.content in (omega (arith, at.slot), omega (arith, at.ends))
