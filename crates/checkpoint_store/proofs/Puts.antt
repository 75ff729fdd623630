-- How bytes that are put come into a file piece by piece.
use Rattle.std.proofs.Common.{◌≡◌, ℕ, suc, All, ◌+◌, ◌-◌, ◌<◌, ◌≤◌, Bool, IsTrue, List, [], ◌∷◌, ◌++◌, length, take, drop, refl, sym, ap, subst, ◌∙◌, arith, append_assoc, length-append, length-take}
use Rattle.std.specs.List.{flat_map}
use Rattle.flowfile_record.specs.NumberedItems.{AscendsByNumber}
use Rattle.std.proofs.lemmas.Grind.{flat_map-append}
use Rattle.std.proofs.lemmas.List.Concat.{flat_map-cons}
use Rattle.std.proofs.lemmas.List.{append-nil, take_at, drop_at, drop-drop}
use Rattle.disk_trait.specs.Files.{Files, At, Overwritten, Torn}
use Rattle.disk_trait.specs.Images.{After, Since}
use Rattle.disk_trait.specs.declared.file_name.FileName.{FileName}
use Rattle.disk_trait.proofs.Moments.{wider, nothing, step_after_step}
use Rattle.checkpoint_store.specs.Put.{IsPut, Within}

-- ---- the bytes of the file

same_behind : (m n : ℕ) (a b : List ℕ) → drop (0 + m) a ≡ drop (0 + m) b → m ≤ n → drop (0 + n) a ≡ drop (0 + n) b
same_behind m n a b same le =
    ap (λ (k : ℕ). drop k a) (omega (arith, le)) ∙ sym (drop-drop (n - m) (0 + m) a) ∙ ap (drop (n - m)) same ∙ drop-drop (n - m) (0 + m) b ∙ ap (λ (k : ℕ). drop k b) (omega (arith, le))

torn_wider : (m n : ℕ) (a b : List ℕ) → Torn 0 m a b → m ≤ n → Torn 0 n a b
torn_wider m n a b torn le = record {
  front = refl;
  back = same_behind m n b a torn.back le;
  no_shorter = torn.no_shorter;
  no_longer = omega (arith, torn.no_longer, le);
}

torn_none : (a : List ℕ) → Torn 0 0 a a
torn_none a = record { front = refl; back = refl; no_shorter = omega arith; no_longer = omega arith }

torn_twice : (at n : ℕ) (a b c : List ℕ) → Torn 0 at a b → Torn at n b c → Torn 0 (at + n) a c
torn_twice at n a b c first second = record {
  front = refl;
  back = ap (λ (k : ℕ). drop k c) (omega arith) ∙ second.back ∙ ap (λ (k : ℕ). drop k b) (omega arith) ∙ same_behind at (at + n) b a first.back (omega arith);
  no_shorter = omega (arith, first.no_shorter, second.no_shorter);
  no_longer = omega (arith, first.no_longer, second.no_longer);
}

from_start : (w a b : List ℕ) → Overwritten 0 w a b → b ≡ w ++ drop (length w) a
from_start w a b over = over ∙ ap (λ (k : ℕ). w ++ drop k a) (omega arith)

to_start : (w a b : List ℕ) → b ≡ w ++ drop (length w) a → Overwritten 0 w a b
to_start w a b is = is ∙ ap (λ (k : ℕ). w ++ drop k a) (omega arith)

overwritten_twice : (w p a b c : List ℕ) (at : ℕ) → length w ≡ at → Overwritten 0 w a b → Overwritten at p b c → Overwritten 0 (w ++ p) a c
overwritten_twice w p a b c at long first second =
    let is = from_start w a b first in
    let front : take at b ≡ w = ap (take at) is ∙ take_at w (drop (length w) a) at long in
    let rest : drop at b ≡ drop (length w) a = ap (drop at) is ∙ drop_at w (drop (length w) a) at long in
    let behind : drop (at + length p) b ≡ drop (length (w ++ p)) a =
    ap (λ (k : ℕ). drop k b) (omega arith) ∙ sym (drop-drop (length p) at b) ∙ ap (drop (length p)) rest ∙ drop-drop (length p) (length w) a
    ∙ ap (λ (k : ℕ). drop k a) (omega (arith, length-append w p)) in
    to_start (w ++ p) a c (second ∙ ap (λ (l : List ℕ). l ++ p ++ drop (at + length p) b) front ∙ ap (λ (l : List ℕ). w ++ p ++ l) behind)

-- the file reaches up to the end of what was written
pub reaches_behind : (at : ℕ) (p a b : List ℕ) → at ≤ length a → Overwritten at p a b → at + length p ≤ length b
reaches_behind at p a b within over =
    omega (arith, ap length over, length-append (take at a ++ p) (drop (at + length p) a), length-append (take at a) p, length-take at a)

-- ---- what is put

module _ {D : Type 0} (tells : Bool) (holds : D → Files) (moment : D → ℕ) (images : D → ℕ → Files → Type 0) (file : FileName) where
  -- nothing is put yet
  pub put_nothing : (disk : D) → IsPut tells holds moment images file disk disk 0 [] []
  put_nothing disk = record {
    written = [];
    split = refl;
    size = refl;
    held = λ told. record { here = refl; others = λ f isnt. refl };
    left = wider moment images disk disk _ _ (nothing moment images disk) (λ c before. (c, before, record { here = torn_none (c file); others = λ f isnt. refl }));
  }

  module _ (start : D) where
    -- bytes join the piece
    pub put_behind : (now : D) (offset : ℕ) (piece bytes more : List ℕ) → IsPut tells holds moment images file start now offset piece bytes
        → IsPut tells holds moment images file start now offset (piece ++ more) (bytes ++ more)
    put_behind now offset piece bytes more put = record {
      written = put.written;
      split = ap (λ (l : List ℕ). l ++ more) put.split ∙ append_assoc put.written piece more;
      size = put.size;
      held = put.held;
      left = put.left;
    }

    long : (now : D) (offset : ℕ) (piece bytes : List ℕ) → IsPut tells holds moment images file start now offset piece bytes → length bytes ≡ offset + length piece
    long now offset piece bytes put = omega (arith, ap length put.split, length-append put.written piece, put.size)

    -- what was put is within the bytes
    pub put_within : (now : D) (offset : ℕ) (piece bytes : List ℕ) → IsPut tells holds moment images file start now offset piece bytes
        → Within moment images file start now (length bytes)
    put_within now offset piece bytes put = wider moment images start now _ _ put.left
        (λ c after. (
          after.0,
          after.1,
          record {
            here = torn_wider offset (length bytes) (after.0 file) (c file) after.2.here (omega (arith, long now offset piece bytes put));
            others = after.2.others;
          },
        ))

    -- bytes and more of them
    pub within_more : (now : D) (m n : ℕ) → Within moment images file start now m → m ≤ n → Within moment images file start now n
    within_more now m n within le = wider moment images start now _ _ within
        (λ c after. (after.0, after.1, record { here = torn_wider m n (after.0 file) (c file) after.2.here le; others = after.2.others }))

    -- the piece begins within the file
    pub put_reaches : (now : D) (offset : ℕ) (piece bytes : List ℕ) → IsPut tells holds moment images file start now offset piece bytes
        → IsTrue tells → offset ≤ length (holds now file)
    put_reaches now offset piece bytes put told =
        omega (arith, ap length (from_start put.written (holds start file) (holds now file) (put.held told).here), length-append put.written (drop (length put.written) (holds start file)), put.size)

    module _ (old new : D) (offset : ℕ) (piece bytes : List ℕ) (put : IsPut tells holds moment images file start old offset piece bytes) where
      -- a stop within the write of the piece
      pub put_stopped : Since moment images old new (After (At file (Torn offset (length piece))) (images old (moment old)))
          → Within moment images file start new (length bytes)
      put_stopped since =
          step_after_step moment images start old new (At file (Torn 0 offset)) (At file (Torn offset (length piece))) (At file (Torn 0 (length bytes))) (images start (moment start))
          put.left since
          (λ d c step. record { here = torn_wider offset (length bytes) (d file) (c file) step.here (omega (arith, long old offset piece bytes put)); others = step.others })
          (λ d e c first second. record {
            here = subst (λ (n : ℕ). Torn 0 n (d file) (c file)) (sym (long old offset piece bytes put)) (torn_twice offset (length piece) (d file) (e file) (c file) first.here second.here);
            others = λ f isnt. second.others f isnt ∙ first.others f isnt;
          })

      -- the piece is written
      pub put_written : (IsTrue tells → At file (Overwritten offset piece) (holds old) (holds new))
          → Since moment images old new (After (At file (Torn offset (length piece))) (images old (moment old)))
          → IsPut tells holds moment images file start new (offset + length piece) [] bytes
      put_written done since = record {
        written = bytes;
        split = sym (append-nil bytes);
        size = long old offset piece bytes put;
        held = λ told. record {
          here = subst (λ (l : List ℕ). Overwritten 0 l (holds start file) (holds new file)) (sym put.split)
              (overwritten_twice put.written piece (holds start file) (holds old file) (holds new file) offset put.size (put.held told).here (done told).here);
          others = λ f isnt. (done told).others f isnt ∙ (put.held told).others f isnt;
        };
        left = subst (λ (n : ℕ). Within moment images file start new n) (long old offset piece bytes put) (put_stopped since);
      }

    -- all of it is written
    pub put_done : (now : D) (offset : ℕ) (bytes : List ℕ) → IsPut tells holds moment images file start now offset [] bytes
        → IsTrue tells → At file (Overwritten 0 bytes) (holds start) (holds now)
    put_done now offset bytes put told =
        subst (λ (l : List ℕ). At file (Overwritten 0 l) (holds start) (holds now)) (sym (append-nil put.written) ∙ sym put.split) (put.held told)

    -- the same, where what names the file and the piece is equal
    pub put_block_behind : (file' : FileName) (now : D) (offset offset' : ℕ) (piece piece' bytes more : List ℕ)
        → file' ≡ file → offset' ≡ offset → piece' ≡ piece ++ more
        → IsPut tells holds moment images file start now offset piece bytes
        → IsPut tells holds moment images file' start now offset' piece' (bytes ++ more)
    put_block_behind file' now offset offset' piece piece' bytes more file_is offset_is piece_is put =
        subst (λ (f : FileName). IsPut tells holds moment images f start now offset' piece' (bytes ++ more)) (sym file_is)
        (subst (λ (n : ℕ). IsPut tells holds moment images file start now n piece' (bytes ++ more)) (sym offset_is)
        (subst (λ (l : List ℕ). IsPut tells holds moment images file start now offset l (bytes ++ more)) (sym piece_is)
        (put_behind now offset piece bytes more put)))

    pub put_named : (file' : FileName) (now : D) (offset : ℕ) (piece bytes bytes' : List ℕ) → file' ≡ file → bytes ≡ bytes'
        → IsPut tells holds moment images file' start now offset piece bytes
        → IsPut tells holds moment images file start now offset piece bytes'
    put_named file' now offset piece bytes bytes' file_is bytes_is put =
        subst (λ (f : FileName). IsPut tells holds moment images f start now offset piece bytes') file_is
        (subst (λ (l : List ℕ). IsPut tells holds moment images file' start now offset piece l) bytes_is put)

    pub within_named : (file' : FileName) (now : D) (m n : ℕ) → file' ≡ file → m ≤ n → Within moment images file' start now m → Within moment images file start now n
    within_named file' now m n file_is le within =
        within_more now m n (subst (λ (f : FileName). Within moment images f start now m) file_is within) le

    pub put_done_named : (file' : FileName) (now : D) (offset : ℕ) (piece bytes : List ℕ) → file' ≡ file → piece ≡ []
        → IsPut tells holds moment images file' start now offset piece bytes
        → IsTrue tells → At file (Overwritten 0 bytes) (holds start) (holds now)
    put_done_named file' now offset piece bytes file_is none put =
        put_done now offset bytes (subst (λ (l : List ℕ). IsPut tells holds moment images file start now offset l bytes) none (put_named file' now offset piece bytes bytes file_is refl put))

-- ---- the blocks of a list

-- the first parts are no longer than all
pub parts_within : (a b c d : List ℕ) → (length a ≤ length (a ++ b ++ c ++ d)) × (length (a ++ b) ≤ length (a ++ b ++ c ++ d)) × (length (a ++ b ++ c) ≤ length (a ++ b ++ c ++ d))
parts_within a b c d = (
  omega (arith, length-append a b, length-append (a ++ b) c, length-append (a ++ b ++ c) d),
  omega (arith, length-append (a ++ b) c, length-append (a ++ b ++ c) d),
  omega (arith, length-append (a ++ b ++ c) d),
)

module _ {X : Type 0} (f : X → List ℕ) (bytes : List ℕ) (taken : List X) (x : X) where
  pub one_block_more : (bytes ++ flat_map f taken) ++ f x ≡ bytes ++ flat_map f (taken ++ x ∷ [])
  one_block_more =
      append_assoc bytes (flat_map f taken) (f x)
      ∙ ap (λ (l : List ℕ). bytes ++ l) (sym (flat_map-append f taken (x ∷ []) ∙ ap (λ (l : List ℕ). flat_map f taken ++ l) (append-nil (f x))))

  pub blocks_within : (rest all : List X) → all ≡ taken ++ x ∷ rest → length ((bytes ++ flat_map f taken) ++ f x) ≤ length (bytes ++ flat_map f all)
  blocks_within rest all is =
      let whole = ap (flat_map f) is ∙ flat_map-append f taken (x ∷ rest) in
      omega (
        arith,
        ap length whole,
        length-append (flat_map f taken) (flat_map f (x ∷ rest)),
        length-append (f x) (flat_map f rest),
        ap length (flat_map-cons f x rest),
        length-append bytes (flat_map f all),
        length-append (bytes ++ flat_map f taken) (f x),
        length-append bytes (flat_map f taken),
      )

  pub one_more_taken : (rest left all : List X) → left ≡ x ∷ rest → all ≡ taken ++ left → all ≡ (taken ++ x ∷ []) ++ rest
  one_more_taken rest left all left_is all_is = all_is ∙ ap (λ (l : List X). taken ++ l) left_is ∙ sym (append_assoc taken (x ∷ []) rest)

pub all_behind : {X : Type 0} (P : X → Type 0) (x : X) (left rest : List X) → left ≡ x ∷ rest → All P left → All P rest
all_behind P x left rest is all = λ k d lt. subst (All P) is all (suc k) d (omega (arith, lt))

-- numbers that ascend below a bound are no more than it
pub ascending_count : {X : Type 0} (number : X → ℕ) (bound low : ℕ) (xs : List X) → AscendsByNumber number xs → All (λ x. number x < bound) xs → All (λ x. low ≤ number x) xs → low ≤ bound
    → low + length xs ≤ bound
ascending_count number bound low [] ascends below above le = omega (arith, le)
ascending_count number bound low (x ∷ xs) ascends below above le =
    let rest = ascending_count number bound (number x + 1) xs ascends.1 (λ k d lt. below (suc k) d (omega (arith, lt))) (λ k d lt. let later = ascends.0 k d lt in omega (arith, later))
    (let first = below 0 x (omega arith) in omega (arith, first)) in
    let first = above 0 x (omega arith) in
    omega (arith, rest, first)
