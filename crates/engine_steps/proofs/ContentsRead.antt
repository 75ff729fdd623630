-- What is read of one file's content more, behind those of some files.
use Rattle.std.proofs.Common.{◌≡◌, ◌≢◌, ℕ, zero, suc, ◌<◌, ◌==◌, ◌&&◌, Bool, true, false, cond, List, [], ◌∷◌, ◌++◌, length, get_or, refl, sym, ap, subst, ◌∙◌, arith}
use Rattle.std.specs.Prelude.{All, Option, None, Some, IsTrue, IfSome, is_some, bytes_eq}
use Rattle.std.proofs.lemmas.Bool.{and_parts, and_from, eq-eqb, eqb-true}
use Rattle.std.proofs.lemmas.List.Elements.{All-head, All-tail}
use Rattle.std.proofs.lemmas.Slice.Eq.{bytes_eq-Decides}
use Rattle.sha2.specs.Sha256.{sha256}
use Rattle.disk_trait.specs.Files.{Files}
use Rattle.content_repo.specs.Claims.{IsRead, content_in}
use Rattle.flowfile_record.specs.declared.content.ContentRef.{ContentRef}
use Rattle.flowfile_record.specs.declared.flow_file.FlowFile.{FlowFile}
use Rattle.engine_session.specs.Handing.{AreReadOf, HaveRead, IsReadContent}

-- ---- behind what was read

pub one_more : (bytes : ContentRef → List ℕ) (fits : Bool) (files : List FlowFile) (contents : List (Option (List ℕ))) (file : FlowFile) (read : Option (List ℕ)) → AreReadOf bytes fits files contents → IsReadContent bytes fits file read
    → AreReadOf bytes fits (files ++ file ∷ []) (contents ++ read ∷ [])
one_more bytes fits [] [] file read are is = (is, tt)
one_more bytes fits [] (one ∷ contents) file read are is = absurd are
one_more bytes fits (first ∷ files) [] file read are is = absurd are
one_more bytes fits (first ∷ files) (one ∷ contents) file read are is = (are.0, one_more bytes fits files contents file read are.1 is)

-- ---- a content that was read before

of_same : (bytes : ContentRef → List ℕ) (fits : Bool) (one other : FlowFile) (read : Option (List ℕ)) → one.content ≡ other.content → IsReadContent bytes fits one read → IsReadContent bytes fits other read
of_same bytes fits one other read same is = record {
  size = subst (λ (at : ContentRef). at.size ≡ length (bytes at)) same is.size;
  digest = subst (λ (at : ContentRef). at.digest ≡ sha256 (bytes at)) same is.digest;
  filled = is.filled;
  is = subst (λ (at : ContentRef). IfSome read (λ r. r ≡ bytes at)) same is.is;
}

read_at : (bytes : ContentRef → List ℕ) (fits : Bool) (files : List FlowFile) (contents : List (Option (List ℕ))) (place : ℕ) (or : FlowFile) (absent : Option (List ℕ)) → AreReadOf bytes fits files contents → place < length files
    → IsReadContent bytes fits (get_or files place or) (get_or contents place absent)
read_at bytes fits [] contents place or absent are within = absurd (omega (arith, within))
read_at bytes fits (file ∷ files) [] place or absent are within = absurd are
read_at bytes fits (file ∷ files) (read ∷ contents) zero or absent are within = are.0
read_at bytes fits (file ∷ files) (read ∷ contents) (suc place) or absent are within = read_at bytes fits files contents place or absent are.1 (omega (arith, within))

pub shared_read : (bytes : ContentRef → List ℕ) (fits : Bool) (files : List FlowFile) (contents : List (Option (List ℕ))) (file : FlowFile) (place : ℕ) (read absent : Option (List ℕ)) → place < length files
    → ((or : FlowFile) → (get_or files place or).content ≡ file.content) → read ≡ get_or contents place absent → AreReadOf bytes fits files contents
    → AreReadOf bytes fits (files ++ file ∷ []) (contents ++ read ∷ [])
shared_read bytes fits files contents file place read absent within same is are =
    one_more bytes fits files contents file read are
    (of_same bytes fits (get_or files place file) file read (same file)
    (subst (IsReadContent bytes fits (get_or files place file)) (sym is) (read_at bytes fits files contents place file absent are within)))

-- ---- a content that is read anew

abbrev handed : Bool → List ℕ → Option (List ℕ)
handed fits read = cond fits (Some read) None

is_read : (bytes : ContentRef → List ℕ) (fits : Bool) (file : FlowFile) (read : List ℕ) → length read ≡ file.content.size → sha256 read ≡ file.content.digest → read ≡ bytes file.content
    → IsReadContent bytes fits file (handed fits read)
is_read bytes fits file read size digest same = record {
  size = sym size ∙ ap length same;
  digest = sym digest ∙ ap sha256 same;
  filled = elim fits as (λ b. is_some (handed b read) ≡ b) [ true ↦ refl | false ↦ refl ];
  is = elim fits as (λ b. IfSome (handed b read) (λ r. r ≡ bytes file.content)) [ true ↦ same | false ↦ tt ];
}

-- as the references of the other files stand, and this one for what was read
abbrev are_same : ContentRef → ContentRef → Bool
are_same one other = ((one.slot == other.slot) && (one.offset == other.offset)) && ((one.size == other.size) && bytes_eq one.digest other.digest)

same_is : (one other : ContentRef) → are_same one other ≡ true → one ≡ other
same_is one other are =
    let parts = and_parts ((one.slot == other.slot) && (one.offset == other.offset)) ((one.size == other.size) && bytes_eq one.digest other.digest) are in
    let place = and_parts (one.slot == other.slot) (one.offset == other.offset) parts.0 in
    let rest = and_parts (one.size == other.size) (bytes_eq one.digest other.digest) parts.1 in
    let slot = eqb-true one.slot other.slot place.0 in
    let offset = eqb-true one.offset other.offset place.1 in
    let size = eqb-true one.size other.size rest.0 in
    let digest = (bytes_eq-Decides one.digest other.digest).0 rest.1 in
    λ i. record { slot = slot i; offset = offset i; size = size i; digest = digest i }

same_itself : (at : ContentRef) → are_same at at ≡ true
same_itself at =
    and_from ((at.slot == at.slot) && (at.offset == at.offset)) ((at.size == at.size) && bytes_eq at.digest at.digest)
    (and_from (at.slot == at.slot) (at.offset == at.offset) (eq-eqb at.slot at.slot refl) (eq-eqb at.offset at.offset refl))
    (and_from (at.size == at.size) (bytes_eq at.digest at.digest) (eq-eqb at.size at.size refl) (bytes_itself at.digest))
  where
    bytes_itself : (digest : List ℕ) → bytes_eq digest digest ≡ true
    bytes_itself digest = (bytes_eq-Decides digest digest).1 refl

abbrev with_read : ContentRef → List ℕ → (ContentRef → List ℕ) → ContentRef → List ℕ
with_read at read bytes other = cond (are_same other at) read (bytes other)

with_others : (at : ContentRef) (read : List ℕ) (bytes : ContentRef → List ℕ) (other : ContentRef) → other ≢ at → with_read at read bytes other ≡ bytes other
with_others at read bytes other differ =
    elim (are_same other at) as (λ b. are_same other at ≡ b → cond b read (bytes other) ≡ bytes other) [
      | true ↦ λ is. absurd (differ (same_is other at is))
      | false ↦ λ is. refl
    ] refl

still_read : (at : ContentRef) (read : List ℕ) (bytes : ContentRef → List ℕ) (fits : Bool) (files : List FlowFile) (contents : List (Option (List ℕ))) → All (λ file. file.content ≢ at) files
    → AreReadOf bytes fits files contents → AreReadOf (with_read at read bytes) fits files contents
still_read at read bytes fits [] [] differ are = tt
still_read at read bytes fits [] (one ∷ contents) differ are = absurd are
still_read at read bytes fits (file ∷ files) [] differ are = absurd are
still_read at read bytes fits (file ∷ files) (one ∷ contents) differ are =
    let same : bytes file.content ≡ with_read at read bytes file.content = sym (with_others at read bytes file.content (All-head (λ (f : FlowFile). f.content ≢ at) file files differ)) in (
      record {
        size = are.0.size ∙ ap length same;
        digest = are.0.digest ∙ ap sha256 same;
        filled = are.0.filled;
        is = subst (λ (content : List ℕ). IfSome one (λ r. r ≡ content)) same are.0.is;
      },
      still_read at read bytes fits files contents (All-tail (λ (f : FlowFile). f.content ≢ at) file files differ) are.1,
    )

pub read_anew : (fits : Bool) (files : List FlowFile) (contents : List (Option (List ℕ))) (file : FlowFile) (read : List ℕ) → All (λ other. other.content ≢ file.content) files
    → length read ≡ file.content.size → sha256 read ≡ file.content.digest → HaveRead fits files contents → HaveRead fits (files ++ file ∷ []) (contents ++ handed fits read ∷ [])
read_anew fits files contents file read differ size digest have =
    let at = file.content in
    let bytes = with_read at read have.0 in (
      bytes,
      one_more bytes fits files contents file (handed fits read) (still_read at read have.0 fits files contents differ have.1)
          (is_read bytes fits file read size digest (sym (ap (λ b. cond b read (have.0 at)) (same_itself at)))),
    )

pub read_held : (tells : Bool) (held : Files) (fits : Bool) (files : List FlowFile) (contents : List (Option (List ℕ))) (file : FlowFile) (read : List ℕ) → IsRead tells held file.content read → IsTrue tells
    → AreReadOf (content_in held) fits files contents → AreReadOf (content_in held) fits (files ++ file ∷ []) (contents ++ handed fits read ∷ [])
read_held tells held fits files contents file read is telling are =
    one_more (content_in held) fits files contents file (handed fits read) are (is_read (content_in held) fits file read is.size is.digest (is.content telling))
